-- What contracts see of what a listing is about.
use Rattle.sc_io.specs.SourceFile.{sources_of}
use Rattle.sc_listing.specs.declared.listed.Listed.{Listed}
use Rattle.sc_listing.specs.Titles.{ListedOf}

-- the layout, the names and the files behind the references
abbrev pub listed_of : Listed → ListedOf
listed_of w = record { layout = w.layout.now; names = w.names.now; files = sources_of w.files.now }
