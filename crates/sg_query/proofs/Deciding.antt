-- Whether a word belongs to an expression, whether one path comes before another, and the like, are decided.
use Rattle.std.proofs.Common.{◌≡◌, ℕ, List, [], ◌∷◌, ◌++◌, ◌⊎◌, ◌↔◌, Bool, IsTrue, true, eqb, inl, inr, refl, sym, ap, subst}
use Rattle.std.proofs.lemmas.Bool.{cases_Bool}
use Rattle.std.specs.List.{Contains}
use Rattle.sg_base.specs.declared.mark.Mark.{Mark}
use Rattle.sg_base.specs.declared.mark.Mark.TheVariants.{End, Of}
use Rattle.sg_base.specs.declared.scope.Scope.{Scope}
use Rattle.sg_base.specs.declared.step.Step.{Step}
use Rattle.sg_base.specs.Label.{Word}
use Rattle.sg_base.specs.Scope.{is_scope}
use Rattle.sg_base.proofs.Finite.{nothing_in, Contains-head, Contains-cons, Contains-tail}
use Rattle.sg_base.proofs.Scopes.{scope_same, same_scope, number_same, number_itself, step_by}
use Rattle.sg_expr.specs.Tree.{ExprOf, no_word, empty_word, one_label, in_turn, either_of, repeated}
use Rattle.sg_expr.specs.Word.{In, Chain, IsContinuable}
use Rattle.sg_expr.proofs.WordLemmas.{GoesOn, Splits-nil, nil-Splits, Splits-cons, cons-Splits, Splits-map, Chain-nil, Chain-cons, cons-Chain, GoesOn-Splits, first-GoesOn, second-GoesOn, GoesOn-Chain, once-Chain}
use Rattle.sg_order.specs.Path.{IsPathBefore}
use Rattle.sg_order.proofs.BeforeLemmas.{Before-tail, cons-Before, Before-apart, apart-Before, Before-left, Before-right, Before-nil}
use Rattle.sg_query.specs.Walk.{Gathers}

abbrev pub Decided : Type 0 → Type 0
Decided P = P ⊎ (P → ⊥)

pub both : {P Q : Type 0} → Decided P → Decided Q → Decided (P × Q)
both (inl p) (inl q) = inl (p, q)
both (inl p) (inr n) = inr (λ h. n h.1)
both (inr n) d = inr (λ h. n h.0)

pub either : {P Q : Type 0} → Decided P → Decided Q → Decided (P ⊎ Q)
either (inl p) d = inl (inl p)
either (inr n) (inl q) = inl (inr q)
either (inr n) (inr m) = inr (λ h. elim h [ inl p ↦ n p | inr q ↦ m q ])

pub moved : {P Q : Type 0} → (P → Q) → (Q → P) → Decided P → Decided Q
moved f k (inl p) = inl (f p)
moved f k (inr n) = inr (λ q. n (k q))

pub holds : (b : Bool) → Decided (IsTrue b)
holds b = elim (cases_Bool b) [ inl e ↦ inl e | inr e ↦ inr (λ t. cc) ]

pub same_number : (a b : ℕ) → Decided (a ≡ b)
same_number a b = moved (number_same a b) (λ e. subst (λ (t : ℕ). eqb a t ≡ true) e (number_itself a)) (holds (eqb a b))

-- ---- words

nullable : (e : ExprOf) → Decided (In e [])
nullable no_word = inr (λ h. h)
nullable empty_word = inl refl
nullable (one_label l) = inr (λ h. absurd (cc))
nullable (in_turn a b) = moved (λ h. nil-Splits (In a) (In b) [] h.0 h.1) (Splits-nil (In a) (In b)) (both (nullable a) (nullable b))
nullable (either_of a b) = either (nullable a) (nullable b)
nullable (repeated a) = inl (Chain-nil (In a))

live : (e : ExprOf) → Decided ((w : Word) × In e w)
live no_word = inr (λ h. h.1)
live empty_word = inl ([], refl)
live (one_label l) = inl (l ∷ [], refl)
live (in_turn a b) =
    moved (λ h. ((h.0).0 ++ (h.1).0, ((h.0).0, (h.1).0, refl, (h.0).1, (h.1).1))) (λ h. (((h.1).0, (h.1).3), ((h.1).1, (h.1).4))) (both (live a) (live b))
live (either_of a b) =
    moved (λ h. elim h [ inl k ↦ (k.0, inl k.1) | inr k ↦ (k.0, inr k.1) ]) (λ h. elim h.1 [ inl k ↦ inl (h.0, k) | inr k ↦ inr (h.0, k) ]) (either (live a) (live b))
live (repeated a) = inl ([], Chain-nil (In a))

goes : (e : ExprOf) → Decided (GoesOn (In e))
goes no_word = inr (λ h. h.2)
goes empty_word = inr (λ h. h.1 h.2)
goes (one_label l) = inl (l ∷ [], (λ h. absurd (cc)), refl)
goes (in_turn a b) =
    moved (λ h. elim h [ inl k ↦ first-GoesOn (In a) (In b) k.0 k.1 | inr k ↦ second-GoesOn (In a) (In b) k.0 k.1 ]) (GoesOn-Splits (In a) (In b)) (either (both (goes a) (live b)) (both (live a) (goes b)))
goes (either_of a b) =
    moved (λ h. elim h [ inl k ↦ (k.0, k.1, inl k.2) | inr k ↦ (k.0, k.1, inr k.2) ]) (λ h. elim h.2 [ inl k ↦ inl (h.0, h.1, k) | inr k ↦ inr (h.0, h.1, k) ]) (either (goes a) (goes b))
goes (repeated a) = moved (λ h. (h.0, h.1, once-Chain (In a) h.0 h.2)) (GoesOn-Chain (In a)) (goes a)

-- the words behind a label are those of an expression
Behind : ExprOf → ℕ → Type 0
Behind e l = (r : ExprOf) × ((w : Word) → (In r w) ↔ (In e (l ∷ w)))

behind : (e : ExprOf) (l : ℕ) → Behind e l
unfolding Behind
behind no_word l = (no_word, λ w. ((λ h. h), (λ h. h)))
behind empty_word l = (no_word, λ w. ((λ h. absurd h), (λ h. absurd (cc))))
behind (one_label m) l =
    elim (same_number l m) [
      | inl e ↦ (empty_word, λ w. ((λ h. cc), (λ h. cc)))
      | inr n ↦ (no_word, λ w. ((λ h. absurd h), (λ h. absurd (n (cc)))))
    ]
behind (in_turn a b) l =
    let ra = behind a l in
    let rb = behind b l in
    elim (nullable a) [
      | inl n ↦ (
        either_of (in_turn ra.0 b) rb.0,
        λ w. (
          (λ i. elim i [
            | inl k ↦ cons-Splits (In a) (In b) l w (Splits-map (In ra.0) (In b) (λ (x : Word). In a (l ∷ x)) (In b) (λ v. (ra.1 v).0) (λ v j. j) w k)
            | inr k ↦ nil-Splits (In a) (In b) (l ∷ w) n ((rb.1 w).0 k)
          ]),
          (λ i. elim (Splits-cons (In a) (In b) l w i) [
            | inl k ↦ inl (Splits-map (λ (x : Word). In a (l ∷ x)) (In b) (In ra.0) (In b) (λ v. (ra.1 v).1) (λ v j. j) w k)
            | inr k ↦ inr ((rb.1 w).1 k.1)
          ]),
        ),
      )
      | inr m ↦ (
        in_turn ra.0 b,
        λ w. (
          (λ i. cons-Splits (In a) (In b) l w (Splits-map (In ra.0) (In b) (λ (x : Word). In a (l ∷ x)) (In b) (λ v. (ra.1 v).0) (λ v j. j) w i)),
          (λ i. elim (Splits-cons (In a) (In b) l w i) [
            | inl k ↦ Splits-map (λ (x : Word). In a (l ∷ x)) (In b) (In ra.0) (In b) (λ v. (ra.1 v).1) (λ v j. j) w k
            | inr k ↦ absurd (m k.0)
          ]),
        ),
      )
    ]
behind (either_of a b) l =
    let ra = behind a l in
    let rb = behind b l in (
      either_of ra.0 rb.0,
      λ w. (
        (λ i. elim i [ inl k ↦ inl ((ra.1 w).0 k) | inr k ↦ inr ((rb.1 w).0 k) ]),
        (λ i. elim i [ inl k ↦ inl ((ra.1 w).1 k) | inr k ↦ inr ((rb.1 w).1 k) ]),
      ),
    )
behind (repeated a) l =
    let ra = behind a l in (
      in_turn ra.0 (repeated a),
      λ w. (
        (λ i. cons-Chain (In a) l w (Splits-map (In ra.0) (Chain (In a)) (λ (x : Word). In a (l ∷ x)) (Chain (In a)) (λ v. (ra.1 v).0) (λ v j. j) w i)),
        (λ i. Splits-map (λ (x : Word). In a (l ∷ x)) (Chain (In a)) (In ra.0) (Chain (In a)) (λ v. (ra.1 v).1) (λ v j. j) w (Chain-cons (In a) l w i)),
      ),
    )

pub belongs : (e : ExprOf) (w : Word) → Decided (In e w)
unfolding Behind
belongs e [] = nullable e
belongs e (l ∷ w) = let r = behind e l in moved (r.1 w).0 (r.1 w).1 (belongs r.0 w)

pub continues : (e : ExprOf) (w : Word) → Decided (IsContinuable e w)
unfolding Behind
continues e [] = goes e
continues e (l ∷ w) =
    let r = behind e l in
    moved (λ h. (h.0, h.1, (r.1 (w ++ h.0)).0 h.2)) (λ h. (h.0, h.1, (r.1 (w ++ h.0)).1 h.2)) (continues r.0 w)

-- ---- paths

pub same_step : (x y : Step) → Decided (x ≡ y)
same_step x y =
    moved (λ h. step_by x y h.0 h.1) (λ e. (ap (λ (s : Step). s.label) e, ap (λ (s : Step). s.to) e))
    (both (same_number x.label y.label) (moved (scope_same x.to y.to) (same_scope x.to y.to) (holds (is_scope x.to y.to))))

pub comes_before : (order : Mark → Mark → Bool) (ps qs : List Step) → Decided (IsPathBefore order ps qs)
comes_before order [] [] = inr (Before-nil order)
comes_before order (x ∷ ps) [] = let k = Before-left order x ps in moved k.0 k.1 (holds (order (Of x.label) End))
comes_before order [] (y ∷ qs) = let k = Before-right order y qs in moved k.0 k.1 (holds (order End (Of y.label)))
comes_before order (x ∷ ps) (y ∷ qs) =
    elim (same_step x y) [
      | inl e ↦ moved (cons-Before order x y ps qs e) (Before-tail order x y ps qs e) (comes_before order ps qs)
      | inr n ↦ elim (same_number x.label y.label) [
        | inl e ↦ inr (λ b. (Before-apart order x y ps qs n b).0 e)
        | inr m ↦ moved (apart-Before order x y ps qs m) (λ b. (Before-apart order x y ps qs n b).1) (holds (order (Of x.label) (Of y.label)))
      ]
    ]

-- ---- lists

pub some_of : {X : Type 0} (P : X → Type 0) → ((x : X) → Decided (P x)) → (xs : List X) → Decided ((x : X) × Contains xs x × P x)
some_of P d [] = inr (λ h. nothing_in h.0 h.1)
some_of P d (x ∷ xs) =
    elim (d x) [
      | inl p ↦ inl (x, Contains-head x xs, p)
      | inr n ↦ moved (λ h. (h.0, Contains-tail x h.0 xs h.1, h.2)) (λ h. elim (Contains-cons x h.0 xs h.1) [ inl e ↦ absurd (n (subst P e h.2)) | inr c ↦ (h.0, c, h.2) ]) (some_of P d xs)
    ]

pub datum_at : {D : Type 0} (given : List (Scope × D)) (s : Scope) → ((d : D) × Contains given (s, d)) ⊎ ((d : D) → Contains given (s, d) → ⊥)
datum_at [] s = inr (λ d c. nothing_in (s, d) c)
datum_at {D} (x ∷ given) s =
    elim (cases_Bool (is_scope x.0 s)) [
      | inl e ↦ inl (x.1, subst (λ (t : Scope). Contains (x ∷ given) (t, x.1)) (scope_same x.0 s e) (Contains-head x given))
      | inr e ↦ elim (datum_at given s) [
        | inl k ↦ inl (k.0, Contains-tail x (s, k.0) given k.1)
        | inr n ↦ inr (λ d c. elim (Contains-cons x (s, d) given c) [
          | inl same ↦ let t : is_scope x.0 s ≡ true = same_scope x.0 s (sym (ap (λ (p : Scope × D). p.0) same)) in absurd (cc)
          | inr k ↦ n d k
        ])
      ]
    ]

pub gather : {X Y : Type 0} (R : X → Y → Type 0) → ((x : X) → ((y : Y) × R x y) ⊎ ((y : Y) → R x y → ⊥)) → (xs : List X) → (ys : List Y) × Gathers R xs ys
gather R d [] = ([], refl)
gather R d (x ∷ xs) =
    let rest = gather R d xs in
    elim (d x) [ inl k ↦ (k.0 ∷ rest.0, inl (k.0, rest.0, k.1, refl, rest.1)) | inr n ↦ (rest.0, inr (n, rest.1)) ]
