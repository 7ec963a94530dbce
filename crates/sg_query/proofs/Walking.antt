-- A walk over the paths of a graph, which looks behind one path after another, finds each path that goes on, and each that arrives.
use Rattle.std.proofs.Common.{◌≡◌, ℕ, zero, suc, ◌<◌, ◌≤◌, ◌+◌, List, [], ◌∷◌, ◌++◌, ◌↔◌, ◌⊎◌, Bool, inl, inr, refl, sym, ap, ◌∙◌, subst, append_assoc, length, arith, map, length-append}
use Rattle.std.proofs.lemmas.List.{append-nil, map-append}
use Rattle.std.proofs.lemmas.List.Elements.{Contains-append_left, Contains-append_right, Contains-append_cases, Contains-push}
use Rattle.std.specs.List.{Contains}
use Rattle.sg_base.specs.declared.scope.Scope.{Scope}
use Rattle.sg_base.specs.declared.step.Step.{Step}
use Rattle.sg_base.specs.Graph.{GraphOf, IsGraph, IsPath}
use Rattle.sg_base.specs.Label.{Word}
use Rattle.sg_base.specs.List.{IsDistinct, MoreThan}
use Rattle.sg_base.specs.Path.{PathOf, word_of}
use Rattle.sg_base.proofs.Edges.{one_datum}
use Rattle.sg_base.proofs.Finite.{nothing_in, single, Contains-head, Contains-cons, Contains-tail, each_append, each_from, Contains-map, Distinct-append, Distinct-left, Distinct-last, no_more}
use Rattle.sg_base.proofs.Scopes.{path_by}
use Rattle.sg_expr.specs.Tree.{ExprOf}
use Rattle.sg_expr.specs.Word.{In, IsContinuable}
use Rattle.sg_query.specs.declared.found.Found.{Found}
use Rattle.sg_query.specs.Walk.{Gathers, GathersOn, IsGoing, IsReached, IsFound, IsArrived, AreArrived, GoesOnFrom, one_more}
use Rattle.sg_query.proofs.Extending.{Grows, one_from, one_to, one_distinct}
use Rattle.sg_query.proofs.Gathering.{Gathers-from, Gathers-to, Gathers-distinct}
use Rattle.sg_query.proofs.Paths.{word_of-append, snoc_not_nil, snoc_same, snoc_of, path_front, path_push, path_last, fresh_from, fresh_to}

right_not_nil : (u v : Word) → u ++ v ≡ [] → v ≡ []
right_not_nil [] v e = e
right_not_nil (x ∷ u) v e = absurd (cc)

pub continuable_front : (e : ExprOf) (p q : List Step) → IsContinuable e (word_of (p ++ q)) → IsContinuable e (word_of p)
continuable_front e p q c = (
  word_of q ++ c.0,
  (λ h. c.1 (right_not_nil (word_of q) c.0 h)),
  subst (In e) (ap (λ (t : Word). t ++ c.0) (word_of-append p q) ∙ append_assoc (word_of p) (word_of q) c.0) c.2,
)

pub continuable_in : (e : ExprOf) (p q : List Step) (x : Step) → In e (word_of (p ++ x ∷ q)) → IsContinuable e (word_of p)
continuable_in e p q x i = (word_of (x ∷ q), (λ h. cc), subst (In e) (word_of-append p (x ∷ q)) i)

pub found_by : {D : Type 0} (f h : Found D) → f.path ≡ h.path → f.datum ≡ h.datum → f ≡ h
found_by {D} f h p d =
    ap (λ (x : PathOf). let r : Found D = record { path = x; datum = f.datum } in r) p ∙ ap (λ (x : D). let r : Found D = record { path = h.path; datum = x } in r) d

map_same : (pss : List (List Step)) → map (λ ps. ps) pss ≡ pss
map_same [] = refl
map_same (p ∷ pss) = ap (λ (t : List (List Step)). p ∷ t) (map_same pss)

module _ {D : Type 0} (g : GraphOf D) (ok : IsGraph g) (e : ExprOf) (start : Scope) where
  abbrev Goes : List Step → Type 0
  Goes ps = IsContinuable e (word_of ps)

  -- the path is in one of the two lists
  abbrev pub IsIn : List (List Step) → List (List Step) → List Step → Type 0
  IsIn done left ps = Contains done ps ⊎ Contains left ps

  -- of the paths that go on, each once, those behind which a walk has looked, and those that it met there
  pub record AreKnown (done left : List (List Step)) : Type 0 where
    pub goes : (ps : List Step) → IsIn done left ps → GoesOnFrom g e start ps
    pub entered : (p : List Step) (x : Step) → IsIn done left (p ++ x ∷ []) → Contains done p
    pub done_once : IsDistinct done
    pub left_once : IsDistinct left
    pub apart : (ps : List Step) → Contains done ps → Contains left ps → ⊥

  no_step : IsPath g start []
  no_step = (tt, ((λ k. nothing_in start k), tt))

  going_once : (front ys : List (List Step)) → Gathers (IsGoing e) front ys → IsDistinct front → IsDistinct ys
  going_once front ys k d =
      subst (λ (t : List (List Step)). IsDistinct t) (map_same ys) (Gathers-distinct (IsGoing e) (λ (q : List Step). q) (λ x z y w r s same. sym r.0 ∙ same ∙ s.0) front ys k d)

  known_first : (going : List (List Step)) → Gathers (IsGoing e) ([] ∷ []) going → AreKnown [] going
  known_first going k =
      let only : (ps : List Step) → Contains going ps → (ps ≡ []) × Goes ps =
      λ ps c.
      let h = Gathers-from (IsGoing e) ([] ∷ []) going k ps c in
      let same : ps ≡ [] = (h.2).0 ∙ single [] h.0 h.1 in
      (same, subst Goes (sym (h.2).0) (h.2).1) in
      record {
        goes = λ ps h. elim h [
          | inl c ↦ absurd (nothing_in ps c)
          | inr c ↦ let o = only ps c in (subst (IsPath g start) (sym o.0) no_step, o.1)
        ];
        entered = λ p x h. elim h [
          | inl c ↦ absurd (nothing_in (p ++ x ∷ []) c)
          | inr c ↦ absurd (snoc_not_nil p x (sym (only (p ++ x ∷ []) c).0))
        ];
        done_once = tt;
        left_once = going_once ([] ∷ []) going k ((λ c. nothing_in [] c), tt);
        apart = λ ps c d. nothing_in ps c;
      }

  -- a walk that looks behind the last of the paths that it met
  module _ (done rest : List (List Step)) (p : List Step) (known : AreKnown done (rest ++ p ∷ [])) where
    abbrev Before : List Step → Type 0
    Before q = IsIn done (rest ++ p ∷ []) q

    there : Contains (rest ++ p ∷ []) p
    there = Contains-push rest p

    not_done : Contains done p → ⊥
    not_done c = known.apart p c there

    path : IsPath g start p
    path = (known.goes p (inr there)).0

    -- a path with one more step was not known
    is_new : (x : Step) (q : List Step) → q ≡ p ++ x ∷ [] → Before q → ⊥
    is_new x q same h = not_done (known.entered p x (subst Before same h))

    grown_path : (q : List Step) → Grows g ok start p q → IsPath g start q
    grown_path q k =
        subst (IsPath g start) (sym k.3) (path_push g start p k.0 path k.1 (fresh_from start p (k.0).to k.2))

    grows_of : (x : Step) → IsPath g start (p ++ x ∷ []) → Grows g ok start p (p ++ x ∷ [])
    grows_of x h = let last = path_last g start p x h in (x, last.0, fresh_to start p x.to last.1, refl)

    -- some of the paths with one more step are looked at
    module _ (front back news : List (List Step)) (some : one_more g start p ≡ front ++ back) (gathered : Gathers (IsGoing e) front news) where
      new_from : (q : List Step) → Contains news q → Grows g ok start p q × Goes q
      new_from q c =
          let h = Gathers-from (IsGoing e) front news gathered q c in
          let one : Contains (one_more g start p) h.0 = subst (λ (t : List (List Step)). Contains t h.0) (sym some) (Contains-append_left front back h.0 h.1) in
          subst (λ (t : List Step). Grows g ok start p t × Goes t) (sym (h.2).0) (one_from g ok start p h.0 one, (h.2).1)

      new_not_before : (q : List Step) → Contains news q → Before q → ⊥
      new_not_before q c h = let k = (new_from q c).0 in is_new k.0 q k.3 h

      before_or_new : (q : List Step) → IsIn (p ∷ done) (rest ++ news) q → Before q ⊎ Contains news q
      before_or_new q (inl c) =
          elim (Contains-cons p q done c) [
            | inl same ↦ inl (inr (subst (Contains (rest ++ p ∷ [])) (sym same) there))
            | inr k ↦ inl (inl k)
          ]
      before_or_new q (inr c) =
          elim (Contains-append_cases rest news q c) [
            | inl k ↦ inl (inr (Contains-append_left rest (p ∷ []) q k))
            | inr k ↦ inr k
          ]

      pub known_next : AreKnown (p ∷ done) (rest ++ news)
      known_next = record {
        goes = λ q h. elim (before_or_new q h) [
          | inl b ↦ known.goes q b
          | inr n ↦ let k = new_from q n in (grown_path q k.0, k.1)
        ];
        entered = λ r x h. elim (before_or_new (r ++ x ∷ []) h) [
          | inl b ↦ Contains-tail p r done (known.entered r x b)
          | inr n ↦
              let k = (new_from (r ++ x ∷ []) n).0 in
              subst (Contains (p ∷ done)) (sym (snoc_same r p x k.0 k.3).0) (Contains-head p done)
        ];
        done_once = (not_done, known.done_once);
        left_once = Distinct-append rest news (Distinct-left rest (p ∷ []) known.left_once) (going_once front news gathered (Distinct-left front back (subst (λ (t : List (List Step)). IsDistinct t) some (one_distinct g ok start p))))
            (λ z a b. new_not_before z b (inr (Contains-append_left rest (p ∷ []) z a)));
        apart = λ q c d. elim (Contains-append_cases rest news q d) [
          | inl k ↦ elim (Contains-cons p q done c) [
            | inl same ↦ Distinct-last rest p known.left_once (subst (Contains rest) same k)
            | inr m ↦ known.apart q m (Contains-append_left rest (p ∷ []) q k)
          ]
          | inr n ↦ new_not_before q n (elim (Contains-cons p q done c) [
            | inl same ↦ inr (subst (Contains (rest ++ p ∷ [])) (sym same) there)
            | inr m ↦ inl m
          ])
        ];
      }

    still_in : (news : List (List Step)) (q : List Step) → Before q → IsIn (p ∷ done) (rest ++ news) q
    still_in news q (inl c) = inl (Contains-tail p q done c)
    still_in news q (inr c) =
        elim (Contains-append_cases rest (p ∷ []) q c) [
          | inl k ↦ inr (Contains-append_left rest news q k)
          | inr k ↦ inl (subst (Contains (p ∷ done)) (sym (single p q k)) (Contains-head p done))
        ]

  module _ (wants : D → Bool) where
    -- the path has no step, or begins with one behind which the walk has looked
    abbrev pub IsSeen : List (List Step) → List Step → Type 0
    IsSeen done ps = (ps ≡ []) ⊎ ((p : List Step) × (x : Step) × (ps ≡ p ++ x ∷ []) × Contains done p)

    -- where a walk stands: what it knows of the paths that go on, and the paths that arrive as far as it has seen them, each once
    pub record Walked (done left : List (List Step)) (fs : List (Found D)) : Type 0 where
      pub known : AreKnown done left
      pub root : Goes [] → IsIn done left []
      pub closed : (p : List Step) (x : Step) → Contains done p → GoesOnFrom g e start (p ++ x ∷ []) → IsIn done left (p ++ x ∷ [])
      pub once : IsDistinct (map (λ f. f.path) fs)
      pub found : (f : Found D) → (Contains fs f) ↔ ((f.path.start ≡ start) × IsArrived g e wants start f.path.steps f.datum × IsSeen done f.path.steps)

    one_found : (ps : List Step) (f h : Found D) → IsFound g e wants start ps f → IsFound g e wants start ps h → f ≡ h
    one_found ps f h a b = found_by f h (a.0 ∙ sym b.0) (one_datum g.given ok.data_rise _ f.datum h.datum (a.1).1 (b.1).1)

    start_of : (ps : List Step) (f : Found D) → IsFound g e wants start ps f → f.path.start ≡ start
    start_of ps f a = ap (λ (p : PathOf). p.start) a.0

    steps_of : (ps : List Step) (f : Found D) → IsFound g e wants start ps f → f.path.steps ≡ ps
    steps_of ps f a = ap (λ (p : PathOf). p.steps) a.0

    found_of : (f : Found D) → f.path.start ≡ start → IsArrived g e wants start f.path.steps f.datum → IsFound g e wants start f.path.steps f
    found_of f same a = (path_by f.path (record { start = start; steps = f.path.steps }) same refl, a.1)

    -- what one list of paths finds, each once
    found_once : (pss : List (List Step)) (fs : List (Found D)) → Gathers (IsFound g e wants start) pss fs → IsDistinct pss → IsDistinct (map (λ f. f.path) fs)
    found_once pss fs k d =
        Gathers-distinct (IsFound g e wants start) (λ (f : Found D). f.path) (λ x z y w r s same. sym (steps_of x y r) ∙ ap (λ (p : PathOf). p.steps) same ∙ steps_of z w s) pss fs k d

    pub walked_first : (going : List (List Step)) (found : List (Found D)) → GathersOn (IsGoing e) ([] ∷ []) [] going → GathersOn (IsFound g e wants start) ([] ∷ []) [] found → Walked [] going found
    walked_first going found h k =
        let gathered : Gathers (IsGoing e) ([] ∷ []) going = subst (Gathers (IsGoing e) ([] ∷ [])) (sym h.1) h.2 in
        let all : Gathers (IsFound g e wants start) ([] ∷ []) found = subst (Gathers (IsFound g e wants start) ([] ∷ [])) (sym k.1) k.2 in
        record {
          known = known_first going gathered;
          root = λ goes. inr (Gathers-to (IsGoing e) (λ x y z r s. r.0 ∙ sym s.0) ([] ∷ []) going gathered [] [] (Contains-head [] []) (refl, goes));
          closed = λ p x c. absurd (nothing_in p c);
          once = found_once ([] ∷ []) found all ((λ c. nothing_in [] c), tt);
          found = λ f. (
            (λ c.
                let m = Gathers-from (IsFound g e wants start) ([] ∷ []) found all f c in
                let none : f.path.steps ≡ [] = steps_of m.0 f m.2 ∙ single [] m.0 m.1 in (
                  start_of m.0 f m.2,
                  (subst (IsPath g start) (sym none) no_step, subst (λ (t : List Step). IsReached g e wants start t f.datum) (sym (steps_of m.0 f m.2)) (m.2).1),
                  inl none,
                )),
            (λ m. elim m.2 [
              | inl none ↦
                  Gathers-to (IsFound g e wants start) one_found ([] ∷ []) found all f.path.steps f (subst (Contains ([] ∷ [])) (sym none) (Contains-head [] [])) (found_of f m.0 m.1)
              | inr more ↦ absurd (nothing_in more.0 more.3)
            ]),
          );
        }

    module _ (done rest : List (List Step)) (p : List Step) (old : List (Found D)) (walked : Walked done (rest ++ p ∷ []) old) where
      seen_more : (ps : List Step) → IsSeen done ps → IsSeen (p ∷ done) ps
      seen_more ps (inl none) = inl none
      seen_more ps (inr h) = inr (h.0, h.1, h.2, Contains-tail p h.0 done h.3)

      -- what was found has not one more step than this path
      found_before : (x : Step) (q : List Step) → q ≡ p ++ x ∷ [] → IsSeen done q → ⊥
      found_before x q same (inl none) = snoc_not_nil p x (sym none ∙ same)
      found_before x q same (inr h) =
          not_done done rest p walked.known (subst (Contains done) (snoc_same h.0 p h.1 x (sym h.2 ∙ same)).0 h.3)

      found_new : (news : List (Found D)) → Gathers (IsFound g e wants start) (one_more g start p) news → (f : Found D) → Contains news f → (q : List Step) × IsFound g e wants start q f × Grows g ok start p q
      found_new news k f c = let m = Gathers-from (IsFound g e wants start) (one_more g start p) news k f c in (m.0, m.2, one_from g ok start p m.0 m.1)

      pub walked_next : (going : List (List Step)) (found : List (Found D)) → GathersOn (IsGoing e) (one_more g start p) rest going → GathersOn (IsFound g e wants start) (one_more g start p) old found → Walked (p ∷ done) going found
      walked_next going found h k =
          let news = h.0 in
          let further = k.0 in
          let all : Walked (p ∷ done) (rest ++ news) (old ++ further) = record {
            known = known_next done rest p walked.known (one_more g start p) [] news (sym (append-nil (one_more g start p))) h.2;
            root = λ goes. still_in done rest p walked.known news [] (walked.root goes);
            closed = λ r x c goes. elim (Contains-cons p r done c) [
              | inl same ↦
                  let there : GoesOnFrom g e start (p ++ x ∷ []) = subst (λ (t : List Step). GoesOnFrom g e start (t ++ x ∷ [])) same goes in
                  let one : Contains (one_more g start p) (p ++ x ∷ []) = one_to g ok start p (p ++ x ∷ []) (grows_of done rest p walked.known x there.0) in
                  subst (λ (t : List Step). IsIn (p ∷ done) (rest ++ news) (t ++ x ∷ [])) (sym same)
                  (inr (Contains-append_right rest news (p ++ x ∷ []) (Gathers-to (IsGoing e) (λ a b d r s. r.0 ∙ sym s.0) (one_more g start p) news h.2 (p ++ x ∷ []) (p ++ x ∷ []) one (refl, there.1))))
              | inr m ↦ still_in done rest p walked.known news (r ++ x ∷ []) (walked.closed r x m goes)
            ];
            once = subst (λ (t : List PathOf). IsDistinct t) (sym (map-append (λ (f : Found D). f.path) old further)) (
                Distinct-append (map (λ f. f.path) old) (map (λ f. f.path) further) walked.once (found_once (one_more g start p) further k.2 (one_distinct g ok start p)) (λ t a b.
                let x = Contains-map (λ (f : Found D). f.path) old t a in
                let y = Contains-map (λ (f : Found D). f.path) further t b in
                let n = found_new further k.2 y.0 y.1 in
                let steps : (x.0).path.steps ≡ p ++ ((n.2).0 ∷ []) = ap (λ (q : PathOf). q.steps) (sym x.2 ∙ y.2) ∙ steps_of n.0 y.0 n.1 ∙ (n.2).3 in
                found_before (n.2).0 (x.0).path.steps steps ((walked.found x.0).0 x.1).2)
                );
            found = λ f. (
              (λ c. elim (Contains-append_cases old further f c) [
                | inl a ↦ let m = (walked.found f).0 a in (m.0, m.1, seen_more f.path.steps m.2)
                | inr b ↦
                    let n = found_new further k.2 f b in
                    let same : f.path.steps ≡ n.0 = steps_of n.0 f n.1 in (
                      start_of n.0 f n.1,
                      subst (λ (t : List Step). IsArrived g e wants start t f.datum) (sym same) (grown_path done rest p walked.known n.0 n.2, (n.1).1),
                      inr (p, (n.2).0, same ∙ (n.2).3, Contains-head p done),
                    )
              ]),
              (λ m. elim m.2 [
                | inl none ↦ Contains-append_left old further f ((walked.found f).1 (m.0, m.1, inl none))
                | inr more ↦ elim (Contains-cons p more.0 done more.3) [
                  | inr c ↦ Contains-append_left old further f ((walked.found f).1 (m.0, m.1, inr (more.0, more.1, more.2, c)))
                  | inl same ↦
                      let steps : f.path.steps ≡ p ++ (more.1 ∷ []) = more.2 ∙ ap (λ (t : List Step). t ++ (more.1 ∷ [])) same in
                      let grows : Grows g ok start p (p ++ (more.1 ∷ [])) = grows_of done rest p walked.known more.1 (subst (IsPath g start) steps (m.1).0) in
                      Contains-append_right old further f (Gathers-to (IsFound g e wants start) one_found (one_more g start p) further k.2 f.path.steps f
                      (subst (Contains (one_more g start p)) (sym steps) (one_to g ok start p (p ++ (more.1 ∷ [])) grows)) (found_of f m.0 m.1))
                ]
              ]),
            );
          } in
          subst (λ (t : List (Found D)). Walked (p ∷ done) going t) (sym k.1) (subst (λ (t : List (List Step)). Walked (p ∷ done) t (old ++ further)) (sym h.1) all)

      -- too many of the next paths go on
      pub too_many_go : (most room : ℕ) (front back going : List (List Step)) → one_more g start p ≡ front ++ back → GathersOn (IsGoing e) front rest going → length (p ∷ done) + room ≡ most → room < length going → MoreThan most (GoesOnFrom g e start)
      too_many_go most room front back going some h sum over =
          let known : AreKnown (p ∷ done) going = subst (AreKnown (p ∷ done)) (sym h.1) (known_next done rest p walked.known front back h.0 some h.2) in (
            going ++ p ∷ done,
            omega (arith, length-append going (p ∷ done)),
            Distinct-append going (p ∷ done) known.left_once known.done_once (λ q a b. known.apart q b a),
            each_append (GoesOnFrom g e start) going (p ∷ done) (each_from (GoesOnFrom g e start) going (λ q a. known.goes q (inr a))) (each_from (GoesOnFrom g e start) (p ∷ done) (λ q b. known.goes q (inl b))),
          )

    -- a walk that has looked behind all that it met
    module _ (done : List (List Step)) (found : List (Found D)) (walked : Walked done [] found) where
      in_done : (q : List Step) → IsIn done [] q → Contains done q
      in_done q (inl c) = c
      in_done q (inr c) = absurd (nothing_in q c)

      all_done : (n : ℕ) (ps : List Step) → length ps ≡ n → GoesOnFrom g e start ps → Contains done ps
      all_done zero [] size h = in_done [] (walked.root h.1)
      all_done zero (q ∷ qs) size h = absurd (omega arith)
      all_done (suc n) ps size h =
          let v = snoc_of ps n size in
          let goes : GoesOnFrom g e start (v.0 ++ v.1 ∷ []) = subst (GoesOnFrom g e start) v.2 h in
          let c : Contains done v.0 = all_done n v.0 v.3 (path_front g start v.0 (v.1 ∷ []) goes.0, continuable_front e v.0 (v.1 ∷ []) goes.1) in
          subst (Contains done) (sym v.2) (in_done (v.0 ++ v.1 ∷ []) (walked.closed v.0 v.1 c goes))

      pub not_too_many : (most : ℕ) → length done ≤ most → MoreThan most (GoesOnFrom g e start) → ⊥
      not_too_many most few m =
          no_more most (length done) (GoesOnFrom g e start) (done, refl, walked.known.done_once, (λ ps. ((λ c. walked.known.goes ps (inl c)), (λ h. all_done (length ps) ps refl h)))) few m

      arrived_seen : (ps : List Step) (d : D) → IsArrived g e wants start ps d → IsSeen done ps
      arrived_seen [] d h = inl refl
      arrived_seen (q ∷ qs) d h =
          let v = snoc_of (q ∷ qs) (length qs) refl in
          let path : IsPath g start (v.0 ++ v.1 ∷ []) = subst (IsPath g start) v.2 h.0 in
          inr (v.0, v.1, v.2, all_done (length v.0) v.0 refl (path_front g start v.0 (v.1 ∷ []) path, continuable_in e v.0 [] v.1 (subst (λ (t : List Step). In e (word_of t)) v.2 (h.1).0)))

      pub all_found : AreArrived g e wants start found
      all_found = record {
        once = walked.once;
        arrived = λ f. (
          (λ c. let h = (walked.found f).0 c in (h.0, h.1)),
          (λ h. (walked.found f).1 (h.0, h.1, arrived_seen f.path.steps f.datum h.1)),
        );
      }
