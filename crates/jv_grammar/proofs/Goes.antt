-- What begins a name or a type is read to its end.
use Rattle.std.proofs.Common.{ℕ, zero, suc, ◌≤◌, List, [], ◌∷◌, arith, refl, sym, ap, subst, Ok, Err}
use Rattle.jv_grammar.specs.declared.terminal.Terminal.{Terminal}
use Rattle.jv_grammar.specs.declared.terminal.Terminal.TheVariants.{Ident, Punct}
use Rattle.jv_grammar.specs.Marks.{dot}
use Rattle.jv_grammar.specs.TypeGrammar.{name_one, name_more, base_name}
use Rattle.jv_grammar.specs.Reader.{Reads, ◌>>=◌}
use Rattle.jv_grammar.specs.TypeReader.{name_of, base_of, pairs_of}
use Rattle.jv_grammar.specs.TypeBegins.{BeginsName, begun_name_none, begun_name_more, begun_name_whole, BeginsBase, begun_base_none, begun_base_name, begun_base_whole, BeginsPairs, begun_pairs_none, begun_pairs_open, begun_pairs_more}
use Rattle.jv_grammar.proofs.Rows.{begun_count_pairs}
use Rattle.jv_grammar.proofs.Ending.{left_of, Ends}
use Rattle.jv_grammar.proofs.Types.{reads_name, reads_base}

-- what goes on behind the end ends there
pub ends_bind : {A B : Type 0} (r : Reads A) (f : A × List Terminal → Reads B) → Ends r → ((x : A) → Ends (f (x, []))) → Ends (r >>= f)
ends_bind (Ok r) f h g = subst (λ z. Ends (f (r.0, z))) (sym h) (g r.0)
ends_bind (Err e) f h g = h

pub goes_name : {xs : List Terminal} → BeginsName xs → Ends (name_of xs)
unfolding name_of
goes_name begun_name_none = refl
goes_name (begun_name_more {xs} r) = ends_bind (name_of xs) _ (goes_name r) (λ x. refl)
goes_name (begun_name_whole d) = ap left_of (reads_name d refl)

pub goes_base : {xs : List Terminal} → BeginsBase xs → Ends (base_of xs)
unfolding base_of
goes_base begun_base_none = refl
goes_base (begun_base_name begun_name_none) = refl
goes_base (begun_base_name (begun_name_more {i} {p} {xs} r)) = ends_bind (name_of (Ident i ∷ Punct p dot ∷ xs)) _ (goes_name (begun_name_more r)) (λ x. refl)
goes_base (begun_base_name (begun_name_whole (name_one {i}))) = ap left_of (reads_base (base_name (name_one {i = i})) refl)
goes_base (begun_base_name (begun_name_whole (name_more d))) = ap left_of (reads_base (base_name (name_more d)) refl)
goes_base (begun_base_whole d) = ap left_of (reads_base d refl)

pub goes_pairs : {xs : List Terminal} (d : BeginsPairs xs) (room : ℕ) → begun_count_pairs d ≤ room → Ends (pairs_of room xs)
unfolding pairs_of
goes_pairs begun_pairs_none zero l = refl
goes_pairs begun_pairs_none (suc room) l = refl
goes_pairs begun_pairs_open zero l = absurd (omega arith)
goes_pairs begun_pairs_open (suc room) l = refl
goes_pairs (begun_pairs_more r) zero l = absurd (omega arith)
goes_pairs (begun_pairs_more {xs} r) (suc room) l = ends_bind (pairs_of room xs) _ (goes_pairs r room (omega arith)) (λ x. refl)
