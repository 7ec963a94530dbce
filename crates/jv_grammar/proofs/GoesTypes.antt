-- What begins a type is read to its end, where rows of brackets are short.
use Rattle.std.proofs.Common.{◌≡◌, Bool, true, false, cond, List, [], refl, ap, Ok, Err}
use Rattle.jv_grammar.specs.declared.terminal.Terminal.{Terminal}
use Rattle.jv_grammar.specs.Marks.{dot}
use Rattle.jv_grammar.specs.TypeGrammar.{starts, base_prim}
use Rattle.jv_grammar.specs.Reader.{Reads}
use Rattle.jv_grammar.specs.TypeReader.{base_of, pairs_of, ty_of, is_bare, reference_of}
use Rattle.jv_grammar.specs.TypeBegins.{begun_base_name, BeginsPairs, begun_pairs_none, begun_pairs_open, begun_pairs_more, BeginsTy, begun_ty_none, begun_ty_base, begun_ty_pairs, begun_ty_whole, BeginsReference, begun_reference_none, begun_reference_name, begun_reference_name_pairs, begun_reference_prim_pairs, begun_reference_whole}
use Rattle.jv_grammar.proofs.Ending.{left_of, Ends}
use Rattle.jv_grammar.proofs.GoesLaw.{GoesName, GoesBase, GoesPairs, GoesTy, GoesReference}
use Rattle.jv_grammar.proofs.Few.{closed_base}
use Rattle.jv_grammar.proofs.Types.{reads_base, reads_ty, is_ty}
use Rattle.jv_grammar.proofs.Goes.{ends_bind, goes_name, goes_base, goes_pairs}
use Rattle.jv_grammar.proofs.Complete.{base_named}
use Rattle.jv_grammar.proofs.BegunRows.{rows_behind, short_pairs, low_ty}

pub names_go : GoesName
names_go xs d = goes_name d

pub bases_go : GoesBase
bases_go xs d = goes_base d

pub pairs_go : GoesPairs
pairs_go xs d room l = goes_pairs d room l

pub pairs_no_dot : {xs : List Terminal} → BeginsPairs xs → starts dot xs ≡ false
pairs_no_dot begun_pairs_none = refl
pairs_no_dot begun_pairs_open = refl
pairs_no_dot (begun_pairs_more r) = refl

pub ends_if : {A : Type 0} (b : Bool) (q r : Reads A) → Ends q → Ends r → Ends (cond b q r)
ends_if true q r h k = h
ends_if false q r h k = k

pub goes_ty : GoesTy
unfolding ty_of base_of pairs_of
goes_ty xs begun_ty_none h = refl
goes_ty xs (begun_ty_base r) h = ends_bind (base_of xs) _ (goes_base r) (λ x. refl)
goes_ty xs (begun_ty_pairs {zs} d r) h =
    rw (reads_base d (pairs_no_dot r)) (ends_bind (pairs_of 200 zs) _ (goes_pairs r 200 (short_pairs (rows_behind (closed_base d) h) r)) (λ x. refl))
goes_ty xs (begun_ty_whole d) h = ap left_of (reads_ty d (low_ty h d) refl refl)

-- what begins a type that is no bare primitive begins a type
pub reference_begins_ty : {xs : List Terminal} → BeginsReference xs → BeginsTy xs
reference_begins_ty begun_reference_none = begun_ty_none
reference_begins_ty (begun_reference_name r) = begun_ty_base (begun_base_name r)
reference_begins_ty (begun_reference_name_pairs m r) = begun_ty_pairs (base_named m).1 r
reference_begins_ty (begun_reference_prim_pairs m r) = begun_ty_pairs (base_prim m) r
reference_begins_ty (begun_reference_whole d) = begun_ty_whole (is_ty d).0

pub goes_reference : GoesReference
unfolding reference_of
goes_reference xs d h = ends_bind (ty_of xs) _ (goes_ty xs (reference_begins_ty d) h) (λ x. ends_if (is_bare x) (Err []) (Ok (x, [])) refl refl)
