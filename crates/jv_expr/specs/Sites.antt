-- What contracts see of a place, and of two types that are compared.
use Rattle.std.specs.Prelude.{map}
use Rattle.jv_tree.specs.TypeTree.{ids_of}
use Rattle.jv_expr.specs.declared.site.Site.{Site}
use Rattle.jv_expr.specs.Site.{SiteOf}

-- the plain data of a place of the code
abbrev pub site_of : Site → SiteOf
site_of s = record {
  layout = s.layout.now;
  names = s.names.now;
  file = s.spot.now.file;
  class = s.class;
  bodies = s.spot.now.inside.items;
  instances = s.instances.now;
  extends = map ids_of s.extends.now;
  blanks = s.blanks.now;
  result = s.result;
}
