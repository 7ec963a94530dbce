-- Names and types: what derives is read, and what is read derives.
use Rattle.std.proofs.Common.{◌≡◌, ℕ, zero, suc, ◌≤◌, inl, inr, true, false, cond, nat_eq, List, [], ◌∷◌, arith, refl, sym, ap, ◌∙◌, subst, true≢false, Ok, Some, None, Option}
use borrow.Author.Tests.{eqb-true}
use Rattle.jv_tree.specs.declared.name.Ident.{Ident as Identifier}
use Rattle.jv_tree.specs.TypeTree.{BaseTree, boolean, char, int, long, named, TypeTree}
use Rattle.jv_grammar.specs.declared.terminal.Terminal.{Terminal}
use Rattle.jv_grammar.specs.declared.terminal.Terminal.TheVariants.{Ident, Keyword, Punct}
use Rattle.jv_grammar.specs.Marks.{bracket_open, bracket_close, dot, word_boolean, word_char, word_int, word_long}
use Rattle.jv_grammar.specs.TypeGrammar.{is_mark, starts, DerivesName, name_one, name_more, DerivesPrim, prim_boolean, prim_char, prim_int, prim_long, DerivesBase, base_prim, base_name, DerivesPairs, pairs_none, pairs_more, DerivesTy, ty, DerivesReference, reference_name, reference_prim}
use Rattle.jv_grammar.specs.Reader.{Reads, rest_of}
use Rattle.jv_grammar.specs.TypeReader.{name_of, prim_of, prim_or, base_of, pairs_of, ty_of, is_named, is_bare, reference_of}
use Rattle.jv_grammar.specs.Width.{wide_ty, wide_reference}
use Rattle.jv_grammar.proofs.Ranks.{apart}
use Rattle.jv_grammar.proofs.Read.{bind_ok, chosen, err_ok, ok_is, mark_is, starts_is}

abbrev pub names_read : List Identifier → List Terminal → Reads (List Identifier)
names_read ids ys = Ok (ids, ys)

abbrev pub base_read : ℕ → BaseTree → List Terminal → Reads (ℕ × BaseTree)
base_read p b ys = Ok ((p, b), ys)

abbrev pub pairs_read : ℕ → List Terminal → Reads ℕ
pairs_read n ys = Ok (n, ys)

abbrev pub type_read : TypeTree → List Terminal → Reads TypeTree
type_read r ys = Ok (r, ys)

pub reads_name : {ids : List Identifier} {xs ys : List Terminal} → DerivesName ids xs ys → starts dot ys ≡ false → name_of xs ≡ names_read ids ys
unfolding name_of
reads_name (name_one {i} {ys = []}) h = refl
reads_name (name_one {i} {ys = y ∷ ys}) h = rw h refl
reads_name (name_more d) h = rw (reads_name d h) refl

pub derives_name : (xs : List Terminal) (r : List Identifier × List Terminal) → name_of xs ≡ Ok r → DerivesName r.0 xs r.1
unfolding name_of
derives_name [] r h = absurd (err_ok h)
derives_name (Ident i ∷ []) r h = subst (λ (z : List Identifier × List Terminal). DerivesName z.0 (Ident i ∷ []) z.1) (ok_is h) name_one
derives_name (Ident i ∷ x ∷ xs) r h = elim (chosen (is_mark dot x) _ _ _ h) [
  | inl w ↦ (let m = mark_is dot x w.0 in
      let y = bind_ok (name_of xs) _ _ w.1 in
      subst (λ (z : List Identifier × List Terminal). DerivesName z.0 (Ident i ∷ x ∷ xs) z.1) (ok_is y.2)
      (subst (λ z. DerivesName (i ∷ y.0.0) (Ident i ∷ z ∷ xs) y.0.1) (sym m.1) (name_more (derives_name xs _ y.1))))
  | inr w ↦ subst (λ (z : List Identifier × List Terminal). DerivesName z.0 (Ident i ∷ x ∷ xs) z.1) (ok_is w.1) name_one
]
derives_name (x ∷ xs) r h = absurd (err_ok h)

pub reads_prim : {p : ℕ} {b : BaseTree} {xs ys : List Terminal} → DerivesPrim p b xs ys → base_of xs ≡ base_read p b ys
unfolding base_of
reads_prim prim_boolean = refl
reads_prim prim_char = refl
reads_prim prim_int = refl
reads_prim prim_long = refl

name_base : {i : Identifier} {ids : List Identifier} {xs ys : List Terminal} → DerivesName (i ∷ ids) xs ys → name_of xs ≡ names_read (i ∷ ids) ys → base_of xs ≡ base_read i.at (named (i ∷ ids)) ys
unfolding base_of
name_base name_one h = rw h refl
name_base (name_more d) h = rw h refl

pub reads_base : {p : ℕ} {b : BaseTree} {xs ys : List Terminal} → DerivesBase p b xs ys → starts dot ys ≡ false → base_of xs ≡ base_read p b ys
reads_base (base_prim d) h = reads_prim d
reads_base (base_name d) h = name_base d (reads_name d h)

prim_is : (k : ℕ) (b : BaseTree) → prim_of k ≡ Some b → (p : ℕ) (xs : List Terminal) → DerivesPrim p b (Keyword p k ∷ xs) xs
prim_is k b h p xs = elim (chosen (nat_eq k word_boolean) _ _ _ h) [
  | inl w ↦ at word_boolean boolean w (λ q ys. prim_boolean {p = q} {ys = ys})
  | inr w ↦ elim (chosen (nat_eq k word_char) _ _ _ w.1) [
    | inl v ↦ at word_char char v (λ q ys. prim_char {p = q} {ys = ys})
    | inr v ↦ elim (chosen (nat_eq k word_int) _ _ _ v.1) [
      | inl u ↦ at word_int int u (λ q ys. prim_int {p = q} {ys = ys})
      | inr u ↦ elim (chosen (nat_eq k word_long) _ _ _ u.1) [
        | inl s ↦ at word_long long s (λ q ys. prim_long {p = q} {ys = ys})
        | inr s ↦ cc
      ]
    ]
  ]
]
  where
    at : (n : ℕ) (c : BaseTree) → (nat_eq k n ≡ true) × (Some c ≡ Some b) → ((q : ℕ) (ys : List Terminal) → DerivesPrim q c (Keyword q n ∷ ys) ys) → DerivesPrim p b (Keyword p k ∷ xs) xs
    at n c w d =
        let same : c ≡ b = cc in
        subst (λ z. DerivesPrim p z (Keyword p k ∷ xs) xs) same (subst (λ z. DerivesPrim p c (Keyword p z ∷ xs) xs) (sym (eqb-true k n w.0)) (d p xs))

abbrev pub Based : List Terminal → (ℕ × BaseTree) × List Terminal → Type 0
Based xs r = DerivesBase r.0.0 r.0.1 xs r.1

based_name : (i : Identifier) (xs : List Terminal) (x : List Identifier × List Terminal) → DerivesName x.0 (Ident i ∷ xs) x.1 → Based (Ident i ∷ xs) ((i.at, named x.0), x.1)
based_name i xs x name_one = base_name name_one
based_name i xs x (name_more d) = base_name (name_more d)

based_prim : (p k : ℕ) (xs : List Terminal) (o : Option BaseTree) (r : (ℕ × BaseTree) × List Terminal) → prim_of k ≡ o → prim_or p k xs o ≡ Ok r → Based (Keyword p k ∷ xs) r
based_prim p k xs None r e h = absurd (err_ok h)
based_prim p k xs (Some b) r e h = subst (Based (Keyword p k ∷ xs)) (ok_is h) (base_prim (prim_is k b e p xs))

pub derives_base : (xs : List Terminal) (r : (ℕ × BaseTree) × List Terminal) → base_of xs ≡ Ok r → Based xs r
unfolding base_of
derives_base [] r h = absurd (err_ok h)
derives_base (Ident i ∷ xs) r h =
    let y = bind_ok (name_of (Ident i ∷ xs)) _ _ h in
    subst (Based (Ident i ∷ xs)) (ok_is y.2) (based_name i xs y.0 (derives_name (Ident i ∷ xs) _ y.1))
derives_base (Keyword p k ∷ xs) r h = based_prim p k xs (prim_of k) r refl h
derives_base (x ∷ xs) r h = absurd (err_ok h)

pub reads_pairs : {n : ℕ} {xs ys : List Terminal} → DerivesPairs n xs ys → (room : ℕ) → n ≤ room → starts bracket_open ys ≡ false → pairs_of room xs ≡ pairs_read n ys
unfolding pairs_of
reads_pairs pairs_none zero l h = rw h refl
reads_pairs pairs_none (suc room) l h = rw h refl
reads_pairs (pairs_more d) zero l h = absurd (omega arith)
reads_pairs (pairs_more d) (suc room) l h = rw (reads_pairs d room (omega arith) h) refl

abbrev Paired : ℕ → List Terminal → ℕ × List Terminal → Type 0
Paired room xs r = DerivesPairs r.0 xs r.1 × (r.0 ≤ room)

pub derives_pairs : (room : ℕ) (xs : List Terminal) (r : ℕ × List Terminal) → pairs_of room xs ≡ Ok r → Paired room xs r
unfolding pairs_of
derives_pairs zero xs r h = elim (chosen (starts bracket_open xs) _ _ _ h) [
  | inl w ↦ absurd (err_ok w.1)
  | inr w ↦ subst (Paired zero xs) (ok_is w.1) (pairs_none, omega arith)
]
derives_pairs (suc room) xs r h = elim (chosen (starts bracket_open xs) _ _ _ h) [
  | inl w ↦ elim (chosen (starts bracket_close (rest_of xs)) _ _ _ w.1) [
    | inl v ↦ (let m = starts_is bracket_open xs w.0 in
        let n = starts_is bracket_close (rest_of xs) v.0 in
        let y = bind_ok (pairs_of room (rest_of (rest_of xs))) _ _ v.1 in
        let d = derives_pairs room (rest_of (rest_of xs)) _ y.1 in
        subst (Paired (suc room) xs) (ok_is y.2)
        (subst (λ z. DerivesPairs (suc y.0.0) z y.0.1) (sym (m.1 ∙ ap (λ z. Punct m.0 bracket_open ∷ z) n.1)) (pairs_more d.0), omega (arith, d.1)))
    | inr v ↦ absurd (err_ok v.1)
  ]
  | inr w ↦ subst (Paired (suc room) xs) (ok_is w.1) (pairs_none, omega arith)
]

pub reads_ty : {r : TypeTree} {xs ys : List Terminal} (d : DerivesTy r xs ys) → wide_ty d ≤ 200 → starts dot ys ≡ false → starts bracket_open ys ≡ false → ty_of xs ≡ type_read r ys
unfolding ty_of
reads_ty (ty b pairs_none) l h h' = rw (reads_base b h) (rw (reads_pairs pairs_none 200 l h') refl)
reads_ty (ty b (pairs_more {p} {q} d)) l h h' = rw (reads_base b refl) (rw (reads_pairs (pairs_more {p = p} {q = q} d) 200 l h') refl)

abbrev pub Typed : List Terminal → TypeTree × List Terminal → Type 0
Typed xs r = (d : DerivesTy r.0 xs r.1) × (wide_ty d ≤ 200)

pub derives_ty : (xs : List Terminal) (r : TypeTree × List Terminal) → ty_of xs ≡ Ok r → Typed xs r
unfolding ty_of
derives_ty xs r h =
    let x = bind_ok (base_of xs) _ _ h in
    let y = bind_ok (pairs_of 200 x.0.1) _ _ x.2 in
    let d = derives_pairs 200 x.0.1 _ y.1 in
    subst (Typed xs) (ok_is y.2) (ty (derives_base xs _ x.1) d.0, d.1)

-- a type that is no bare primitive is a type
pub prim_not_named : {p : ℕ} {b : BaseTree} {xs ys : List Terminal} → DerivesPrim p b xs ys → is_named b ≡ false
prim_not_named prim_boolean = refl
prim_not_named prim_char = refl
prim_not_named prim_int = refl
prim_not_named prim_long = refl

pub suc_not_zero : (n : ℕ) → nat_eq (suc n) 0 ≡ false
suc_not_zero n = apart (λ k. nat_eq k 0) (suc n) (λ e. let z : suc n ≡ 0 = eqb-true (suc n) 0 e in absurd (omega arith))

pub is_ty : {r : TypeTree} {xs ys : List Terminal} (d : DerivesReference r xs ys) → (t : DerivesTy r xs ys) × (wide_ty t ≡ wide_reference d) × (is_bare r ≡ false)
is_ty (reference_name m d) = (ty (base_name m) d, refl, refl)
is_ty (reference_prim {n} m d) = (ty (base_prim m) d, refl, rw (prim_not_named m, suc_not_zero n) refl)

pub reads_reference : {r : TypeTree} {xs ys : List Terminal} (d : DerivesReference r xs ys) → wide_reference d ≤ 200 → starts dot ys ≡ false → starts bracket_open ys ≡ false → reference_of xs ≡ type_read r ys
unfolding reference_of
reads_reference d l h h' =
    let t = is_ty d in
    rw (reads_ty t.0 (omega (arith, t.1)) h h') (rw t.2 refl)

abbrev pub Referred : List Terminal → TypeTree × List Terminal → Type 0
Referred xs r = (d : DerivesReference r.0 xs r.1) × (wide_reference d ≤ 200)

pub refers : {r : TypeTree} {xs ys : List Terminal} (d : DerivesTy r xs ys) → wide_ty d ≤ 200 → is_bare r ≡ false → Referred xs (r, ys)
refers (ty (base_name m) d) l h = (reference_name m d, l)
refers (ty {n = zero} (base_prim m) d) l h = absurd (true≢false (sym (ap (λ u. cond u false true) (prim_not_named m)) ∙ h))
refers (ty {n = suc n} (base_prim m) d) l h = (reference_prim m d, l)

pub derives_reference : (xs : List Terminal) (r : TypeTree × List Terminal) → reference_of xs ≡ Ok r → Referred xs r
unfolding reference_of
derives_reference xs r h =
    let x = bind_ok (ty_of xs) _ _ h in
    let d = derives_ty xs _ x.1 in
    elim (chosen (is_bare x.0.0) _ _ _ x.2) [
      | inl w ↦ absurd (err_ok w.1)
      | inr w ↦ subst (Referred xs) (ok_is w.1) (refers d.0 d.1 w.0)
    ]
