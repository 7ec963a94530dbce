-- Files: what derives and what is read, of all the terminals.
use Rattle.std.proofs.Common.{◌≡◌, length, arith, sym, ◌∙◌}
use Rattle.jv_grammar.specs.FileLaw.{ReadersFindTrees, ReadTreesDerive, RefusedFilesDeriveNothing, AtMostOneTreeDerives, DerivedTreesAreShaped, ShallowFilesHaveFewPairs, ReadersFindShallowTrees, ShallowFilesDeriveOnce}
use Rattle.jv_grammar.proofs.Read.{ok_is, err_ok}
use Rattle.jv_grammar.proofs.DeclDepth.{fits_file}
use Rattle.jv_grammar.proofs.DeclComplete.{got_file, reads_file}
use Rattle.jv_grammar.proofs.DeclSound.{derives_file}
use Rattle.jv_grammar.proofs.DeclShape.{shape_file}
use Rattle.jv_grammar.proofs.DeclFew.{few_file}
use Rattle.jv_grammar.proofs.Shallow.{shallow_has_few}

pub find_file : ReadersFindTrees
find_file xs n u d l w = reads_file n d (omega (arith, fits_file d)) w

pub found_file : ReadTreesDerive
found_file xs n u h = let d = derives_file n xs u h in (d, shape_file d.0 d.1)

pub refused_file : RefusedFilesDeriveNothing
refused_file xs zs n l h u d w = err_ok (sym h ∙ find_file xs n u d l w)

pub one_file : AtMostOneTreeDerives
one_file xs u v d c w w' =
    let same : got_file u ≡ got_file v = sym (find_file xs (length xs) u d (omega arith) w) ∙ find_file xs (length xs) v c (omega arith) w' in
    ok_is same

pub shaped_file : DerivedTreesAreShaped
shaped_file xs u d w = shape_file d w

pub few_pairs_in_file : ShallowFilesHaveFewPairs
few_pairs_in_file xs u d s = few_file (shallow_has_few xs s) d

pub find_shallow : ReadersFindShallowTrees
find_shallow xs n u s l d = find_file xs n u d l (few_pairs_in_file xs u d s)

pub one_shallow : ShallowFilesDeriveOnce
one_shallow xs u v s d c = one_file xs u v d c (few_pairs_in_file xs u d s) (few_pairs_in_file xs v c s)
