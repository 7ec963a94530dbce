-- A reader that asks for one more terminal at the end was given what begins its part: names and types.
use Rattle.std.proofs.Common.{◌≡◌, ℕ, zero, suc, inl, inr, List, [], ◌∷◌, refl, sym, ap, ◌∙◌, subst, true≢false, Ok, Err, Some, None, Option, Result}
use Rattle.jv_tree.specs.TypeTree.{BaseTree}
use Rattle.jv_grammar.specs.declared.terminal.Terminal.{Terminal}
use Rattle.jv_grammar.specs.declared.terminal.Terminal.TheVariants.{Ident, Keyword, Punct}
use Rattle.jv_grammar.specs.Marks.{bracket_open, bracket_close, dot}
use Rattle.jv_grammar.specs.TypeGrammar.{is_mark, starts, base_prim, base_name, DerivesPairs, pairs_none, pairs_more, DerivesTy, ty, reference_name}
use Rattle.jv_grammar.specs.Reader.{◌>>=◌, rest_of}
use Rattle.jv_grammar.specs.TypeReader.{name_of, prim_of, prim_or, base_of, pairs_of, ty_of, is_bare, reference_of}
use Rattle.jv_grammar.specs.TypeBegins.{BeginsName, begun_name_none, begun_name_more, begun_name_whole, BeginsBase, begun_base_none, begun_base_name, begun_base_whole, BeginsPairs, begun_pairs_none, begun_pairs_open, begun_pairs_more, BeginsTy, begun_ty_none, begun_ty_base, begun_ty_pairs, begun_ty_whole, BeginsReference, begun_reference_none, begun_reference_name, begun_reference_name_pairs, begun_reference_prim_pairs, begun_reference_whole}
use Rattle.jv_grammar.proofs.StuckLaw.{StuckName, StuckBase, StuckPairs, StuckTy, StuckReference}
use Rattle.jv_grammar.proofs.Read.{chosen, gives, mark_is, starts_is}
use Rattle.jv_grammar.proofs.Types.{derives_base, derives_ty}

-- a refusal of a type of result
abbrev pub failing : (A : Type 0) → List Terminal → Result A (List Terminal)
failing A e = Err e

pub err_is : {A : Type 0} {e f : List Terminal} → failing A e ≡ failing A f → e ≡ f
err_is h = cc

pub ok_err : {A : Type 0} {x : A} {e : List Terminal} → gives x ≡ failing A e → ⊥
ok_err h = cc

pub more_err : {A : Type 0} {x : Terminal} {xs : List Terminal} → failing A (x ∷ xs) ≡ failing A [] → ⊥
more_err h = cc

-- where two readers are stuck, the first is, or the second behind it
pub stops_then : {A B C : Type 0} (r : Result A (List Terminal)) (f : A → Result B (List Terminal)) → (r >>= f) ≡ Err [] → (r ≡ Err [] → C) → ((x : A) → r ≡ Ok x → f x ≡ Err [] → C) → C
stops_then (Ok x) f h here go = go x refl h
stops_then {A} (Err e) f h here go = here (ap (failing A) (err_is h))

pub stuck_name : StuckName
unfolding name_of
stuck_name [] h = begun_name_none
stuck_name (Ident i ∷ []) h = absurd (ok_err h)
stuck_name (Ident i ∷ x ∷ xs) h = elim (chosen (is_mark dot x) _ _ _ h) [
  | inl w ↦ (let m = mark_is dot x w.0 in
      stops_then (name_of xs) _ w.1 (λ s. subst (λ z. BeginsName (Ident i ∷ z ∷ xs)) (sym m.1) (begun_name_more (stuck_name xs s))) (λ y e k. absurd (ok_err k)))
  | inr w ↦ absurd (ok_err w.1)
]
stuck_name (x ∷ xs) h = absurd (more_err h)

pub stuck_base : StuckBase
unfolding base_of
stuck_base [] h = begun_base_none
stuck_base (Ident i ∷ xs) h = stops_then (name_of (Ident i ∷ xs)) _ h (λ s. begun_base_name (stuck_name (Ident i ∷ xs) s)) (λ y e k. absurd (ok_err k))
stuck_base (Keyword p k ∷ xs) h = by (prim_of k) h
  where
    by : (o : Option BaseTree) → prim_or p k xs o ≡ Err [] → BeginsBase (Keyword p k ∷ xs)
    by None h' = absurd (more_err h')
    by (Some b) h' = absurd (ok_err h')
stuck_base (x ∷ xs) h = absurd (more_err h)

pub stuck_pairs : StuckPairs
unfolding pairs_of
stuck_pairs zero xs h = elim (chosen (starts bracket_open xs) _ _ _ h) [
  | inl w ↦ absurd (true≢false (sym w.0 ∙ ap (starts bracket_open) (err_is w.1)))
  | inr w ↦ absurd (ok_err w.1)
]
stuck_pairs (suc room) xs h = elim (chosen (starts bracket_open xs) _ _ _ h) [
  | inl w ↦ (let m = starts_is bracket_open xs w.0 in
      elim (chosen (starts bracket_close (rest_of xs)) _ _ _ w.1) [
        | inl v ↦ (let n = starts_is bracket_close (rest_of xs) v.0 in
            stops_then (pairs_of room (rest_of (rest_of xs))) _ v.1
            (λ s. subst BeginsPairs (sym (m.1 ∙ ap (λ z. Punct m.0 bracket_open ∷ z) n.1)) (begun_pairs_more (stuck_pairs room (rest_of (rest_of xs)) s)))
            (λ y e k. absurd (ok_err k)))
        | inr v ↦ subst BeginsPairs (sym (m.1 ∙ ap (λ z. Punct m.0 bracket_open ∷ z) (err_is v.1))) begun_pairs_open
      ])
  | inr w ↦ absurd (ok_err w.1)
]

pub stuck_ty : StuckTy
unfolding ty_of
stuck_ty xs h = stops_then (base_of xs) _ h (λ s. begun_ty_base (stuck_base xs s))
    (λ x e k. stops_then (pairs_of 200 x.1) _ k (λ s. begun_ty_pairs (derives_base xs x e) (stuck_pairs 200 x.1 s)) (λ y e' k'. absurd (ok_err k')))

-- pairs that derive begin pairs
pub pairs_begin : {n : ℕ} {xs : List Terminal} → DerivesPairs n xs [] → BeginsPairs xs
pairs_begin pairs_none = begun_pairs_none
pairs_begin (pairs_more d) = begun_pairs_more (pairs_begin d)

-- what begins a type begins one that is no bare primitive
pub ty_begins_reference : {xs : List Terminal} → BeginsTy xs → BeginsReference xs
ty_begins_reference begun_ty_none = begun_reference_none
ty_begins_reference (begun_ty_base begun_base_none) = begun_reference_none
ty_begins_reference (begun_ty_base (begun_base_name r)) = begun_reference_name r
ty_begins_reference (begun_ty_base (begun_base_whole (base_prim d))) = begun_reference_prim_pairs d begun_pairs_none
ty_begins_reference (begun_ty_base (begun_base_whole (base_name d))) = begun_reference_name (begun_name_whole d)
ty_begins_reference (begun_ty_pairs (base_prim d) r) = begun_reference_prim_pairs d r
ty_begins_reference (begun_ty_pairs (base_name d) r) = begun_reference_name_pairs d r
ty_begins_reference (begun_ty_whole (ty (base_prim d) q)) = begun_reference_prim_pairs d (pairs_begin q)
ty_begins_reference (begun_ty_whole (ty (base_name d) q)) = begun_reference_whole (reference_name d q)

pub stuck_reference : StuckReference
unfolding reference_of
stuck_reference xs h = stops_then (ty_of xs) _ h (λ s. ty_begins_reference (stuck_ty xs s)) (λ x e k. elim (chosen (is_bare x.0) _ _ _ k) [
  | inl w ↦ ty_begins_reference (begun_ty_whole (subst (DerivesTy x.0 xs) (err_is w.1) (derives_ty xs x e).0))
  | inr w ↦ absurd (ok_err w.1)
])
