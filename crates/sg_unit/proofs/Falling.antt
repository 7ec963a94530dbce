-- While nobody writes, asks come to an end.
use Rattle.std.proofs.Common.{◌≡◌, ◌≢◌, ℕ, zero, suc, ◌*◌, ◌<◌, ◌≤◌, List, [], ◌∷◌, ◌++◌, ◌&&◌, Bool, true, false, not, eqb, cond, inl, inr, refl, sym, ap, ◌∙◌, subst, arith, length, map}
use Rattle.std.specs.List.{Contains, flat_map, concat, list_any}
use Rattle.std.proofs.lemmas.List.Elements.{Contains-append_left, Contains-append_right, Contains-append_cases, Contains-push}
use Rattle.sg_base.specs.declared.scope.Scope.{Scope}
use Rattle.sg_base.specs.declared.step.Step.{Step}
use Rattle.sg_base.specs.Graph.{Edge, GraphOf, IsGraph, HasScope, IsWalk, IsPath}
use Rattle.sg_base.specs.Label.{Word}
use Rattle.sg_base.specs.Path.{reached_by, word_of}
use Rattle.sg_base.specs.State.{State}
use Rattle.sg_base.proofs.Finite.{nothing_in, Contains-head, Contains-tail, Contains-cons, map-Contains, flat_map-Contains, each_at, pigeons}
use Rattle.sg_expr.specs.Tree.{ExprOf, no_word, empty_word, one_label, in_turn, either_of, repeated}
use Rattle.sg_expr.specs.Word.{In, IsViable, EachWord}
use Rattle.sg_query.specs.Query.{Asked}
use Rattle.sg_query.specs.State.{Item, next, whole, IsItem}
use Rattle.sg_state.specs.Held.{state_of}
use Rattle.sg_unit.specs.declared.entry.Entry.{Entry}
use Rattle.sg_unit.specs.declared.op.Op.{Op}
use Rattle.sg_unit.specs.declared.op.Op.TheVariants.{Advance, Take}
use Rattle.sg_unit.specs.declared.reply.Reply.{Reply}
use Rattle.sg_unit.specs.declared.reply.Reply.TheVariants.{Made, Done, Moved, Ready, Suspended, Answer as Answered, Stuck}
use Rattle.sg_unit.specs.Bound.{letters, lists_of, all_items, item_bound, weigh, weight}
use Rattle.sg_unit.specs.Law.{ItemsAreFew, AsksFall}
use Rattle.sg_unit.specs.Operation.{waits_by, woken_by}
use Rattle.sg_unit.specs.Run.{Setting, RunOf, Asking, no_ask, open_ask, ready_ask, asked_by, opened, advanced, after, run_of, IsFor}
use Rattle.sg_unit.specs.Step.{IsStep}
use Rattle.sg_unit.proofs.Asks.{IsAskedRun, run_asked, opened_asked}
use Rattle.sg_unit.proofs.Telling.{reached_in}
use Rattle.sg_unit.proofs.Writes.{num_is, apart}

chain : (A : Word → Type 0) (ks : List ℕ) → ((w : Word) → A w → (l : ℕ) → Contains w l → Contains ks l) → (ws : List Word) → EachWord A ws → (l : ℕ) → Contains (concat ws) l → Contains ks l
chain A ks f [] e l k = absurd (nothing_in l k)
chain A ks f (x ∷ ws) e l k = elim (Contains-append_cases x (concat ws) l k) [ inl h ↦ f x e.0 l h | inr h ↦ chain A ks f ws e.1 l h ]

in_letters : (e : ExprOf) (w : Word) → In e w → (l : ℕ) → Contains w l → Contains (letters e) l
in_letters no_word w i l c = absurd i
in_letters empty_word w i l c = absurd (nothing_in l (subst (λ (x : Word). Contains x l) i c))
in_letters (one_label k) w i l c = subst (λ (x : Word). Contains x l) i c
in_letters (in_turn a b) w i l c =
    elim (Contains-append_cases i.0 i.1 l (subst (λ (x : Word). Contains x l) i.2 c)) [
      | inl k ↦ Contains-append_left (letters a) (letters b) l (in_letters a i.0 i.3 l k)
      | inr k ↦ Contains-append_right (letters a) (letters b) l (in_letters b i.1 i.4 l k)
    ]
in_letters (either_of a b) w i l c =
    elim i [
      | inl k ↦ Contains-append_left (letters a) (letters b) l (in_letters a w k l c)
      | inr k ↦ Contains-append_right (letters a) (letters b) l (in_letters b w k l c)
    ]
in_letters (repeated a) w i l c = chain (In a) (letters a) (λ w i l c. in_letters a w i l c) i.0 i.2 l (subst (λ (x : Word). Contains x l) i.1 c)

viable_letter : (e : ExprOf) (w : Word) (l : ℕ) → IsViable e (w ++ l ∷ []) → Contains (letters e) l
viable_letter e w l v = in_letters e ((w ++ l ∷ []) ++ v.0) v.1 l (Contains-append_left (w ++ l ∷ []) v.0 l (Contains-push w l))

in_lists : {X : Type 0} (n : ℕ) (xs ys : List X) → length ys ≤ n → ((y : X) → Contains ys y → Contains xs y) → Contains (lists_of n xs) ys
in_lists {X} zero xs [] h f = Contains-head (let a : List X = [] in a) []
in_lists {X} (suc n) xs [] h f = Contains-head (let a : List X = [] in a) (flat_map (λ x. map (λ ys. x ∷ ys) (lists_of n xs)) xs)
in_lists zero xs (y ∷ ys) h f = absurd (omega (arith, h))
in_lists {X} (suc n) xs (y ∷ ys) h f =
    Contains-tail (let a : List X = [] in a) (y ∷ ys) (flat_map (λ x. map (λ ys. x ∷ ys) (lists_of n xs)) xs)
    (flat_map-Contains (λ (x : X). map (λ (ys : List X). x ∷ ys) (lists_of n xs)) xs y (y ∷ ys) (f y (Contains-head y ys))
    (map-Contains (λ (zs : List X). y ∷ zs) (lists_of n xs) ys (in_lists n xs ys (omega (arith, h)) (λ z c. f z (Contains-tail y z ys c)))))

reached_length : (ps : List Step) → length (reached_by ps) ≡ length ps
reached_length [] = refl
reached_length (p ∷ ps) = ap (λ (n : ℕ). suc n) (reached_length ps)

module _ {D : Type 0} (g : GraphOf D) where
  walk_steps : (s : Scope) (ps : List Step) → IsWalk g s ps → (p : Step) → Contains ps p → Contains (map (λ (a : Edge). let x : Step = record { label = a.label; to = a.to } in x) g.edges) p
  walk_steps s [] w p c = absurd (nothing_in p c)
  walk_steps s (x ∷ ps) w p c =
      elim (Contains-cons x p ps c) [
        | inl e ↦ subst (λ (t : Step). Contains (map (λ (a : Edge). let x : Step = record { label = a.label; to = a.to } in x) g.edges) t) (sym e)
            (map-Contains (λ (a : Edge). let x : Step = record { label = a.label; to = a.to } in x) g.edges (record { from = s; label = x.label; to = x.to }) w.0)
        | inr k ↦ walk_steps x.to ps w.1 p k
      ]

  path_in : IsGraph g → (s : Scope) (ps : List Step) → HasScope g s → IsPath g s ps → Contains (lists_of (length g.scopes) (map (λ (a : Edge). let x : Step = record { label = a.label; to = a.to } in x) g.edges)) ps
  path_in ok s ps i path =
      let few : length (s ∷ reached_by ps) ≤ length g.scopes = pigeons (s ∷ reached_by ps) g.scopes path.1 (λ t c. reached_in g ok s ps i path.0 t c) in
      let same : length (reached_by ps) ≡ length ps = reached_length ps in
      let short : suc (length (reached_by ps)) ≤ length g.scopes = few in
      in_lists (length g.scopes) (map (λ (a : Edge). let x : Step = record { label = a.label; to = a.to } in x) g.edges) ps (omega (arith, short, same)) (λ p c. walk_steps s ps path.0 p c)

item_in : {D : Type 0} (h : State D) (q : Asked D) → IsGraph h.graph → HasScope h.graph q.start → (i : Item) → IsItem h q i → Contains (all_items h.graph q.expr) i
item_in h q ok start (next ps l) i =
    flat_map-Contains (λ (ps : List Step). whole ps ∷ map (λ (l : ℕ). next ps l) (letters q.expr)) _ ps (next ps l) (path_in h.graph ok q.start ps start (i.0).0)
    (Contains-tail (whole ps) (next ps l) (map (λ (l : ℕ). next ps l) (letters q.expr)) (map-Contains (λ (l : ℕ). next ps l) (letters q.expr) l (viable_letter q.expr (word_of ps) l i.1)))
item_in h q ok start (whole ps) i =
    flat_map-Contains (λ (ps : List Step). whole ps ∷ map (λ (l : ℕ). next ps l) (letters q.expr)) _ ps (whole ps) (path_in h.graph ok q.start ps start (i.0).0)
    (Contains-head (whole ps) (map (λ (l : ℕ). next ps l) (letters q.expr)))

pub items_are_few : (D : Type 0) → ItemsAreFew D
items_are_few D h q n ok start m =
    let most : length m.0 ≤ length (all_items h.graph q.expr) = pigeons m.0 (all_items h.graph q.expr) m.2 (λ i c. item_in h q ok start i (each_at (IsItem h q) m.0 m.3 i c)) in
    let more : n < length m.0 = m.1 in
    omega (arith, most, more)

-- the unit's own weight, by tests that hold
own_weight : {D P : Type 0} (z : Setting D P) (g : GraphOf D) (c w x : Bool) (a b : Asking P) (n : ℕ) → c ≡ true → weigh z g w a < n → weigh z g (cond c w x) (cond c a b) < n
own_weight z g c w x a b n e h = subst (λ (t : Bool). weigh z g (cond t w x) (cond t a b) < n) (sym e) h

other_weight : {D P : Type 0} (z : Setting D P) (g : GraphOf D) (c w x : Bool) (a b : Asking P) → c ≡ false → weigh z g (cond c w (x && true)) (cond c a b) ≡ weigh z g x b
other_weight z g c w true a b e = subst (λ (t : Bool). weigh z g (cond t w (true && true)) (cond t a b) ≡ weigh z g true b) (sym e) refl
other_weight z g c w false a b e = subst (λ (t : Bool). weigh z g (cond t w (false && true)) (cond t a b) ≡ weigh z g false b) (sym e) refl

module _ {I R D P : Type 0} (z : Setting D P) where
  advance_falls : (r : RunOf D P) → IsAskedRun z r → (u : ℕ) (a : Asking P) → r.asks u ≡ a → (y : Reply I D P) → IsStep z r (let e : Entry I R D P = record { unit = u; op = Advance; reply = y } in e) → r.waits u ≡ false → weigh z r.held.graph (waits_by false y) (advanced a y) < weigh z r.held.graph false a
  advance_falls r ok u (open_ask q m) e Ready s w = omega arith
  advance_falls r ok u (open_ask q m) e Moved s w =
      let most : 64 * suc m < item_bound r.held.graph (asked_by z q).expr =
      items_are_few D (state_of r.held) (asked_by z q) (64 * suc m) (ok.sound.held).graph (ok.starts u q (subst (λ (x : Asking P). IsFor x q) (sym e) refl)) (s.replies q m e).1 in
      omega (arith, most)
  advance_falls r ok u (open_ask q m) e Suspended s w = omega arith
  advance_falls r ok u (open_ask q m) e Stuck s w = omega arith
  advance_falls r ok u (open_ask q m) e (Made x) s w = absurd (s.replies q m e)
  advance_falls r ok u (open_ask q m) e (Done ws) s w = absurd (s.replies q m e)
  advance_falls r ok u (open_ask q m) e (Answered b) s w = absurd (s.replies q m e)
  advance_falls r ok u no_ask e y s w = absurd (let o = s.may.1 in let f = sym e ∙ o.2 in cc)
  advance_falls r ok u (ready_ask q) e y s w = absurd (let o = s.may.1 in let f = sym e ∙ o.2 in cc)

  take_falls : (r : RunOf D P) (u : ℕ) (y : Reply I D P) → IsStep z r (let e : Entry I R D P = record { unit = u; op = Take; reply = y } in e) → weigh z r.held.graph (waits_by false y) no_ask < weigh z r.held.graph false (r.asks u)
  take_falls r u y s =
      let o = s.may.1 in
      let given = s.replies in
      subst (λ (x : Asking P). weigh z r.held.graph (waits_by false y) no_ask < weigh z r.held.graph false x) (sym o.1)
      (subst (λ (x : Reply I D P). weigh z r.held.graph (waits_by false x) no_ask < 1) (sym given.1) (omega arith))

  abbrev pub entry : ℕ → Op I R D P → Reply I D P → Entry I R D P
  entry u op y = record { unit = u; op = op; reply = y }

  abbrev pub Falls : RunOf D P → ℕ → Op I R D P → Reply I D P → Type 0
  Falls r u op y = (weight z (after r (entry u op y)) u < weight z r u) × ((v : ℕ) → v ≢ u → weight z (after r (entry u op y)) v ≡ weight z r v)

  none_woken : (r : RunOf D P) (u : ℕ) (y : Reply I D P) → IsStep z r (entry u Advance y) → woken_by y ≡ []
  none_woken r u (Done ws) s = let o = s.may.1 in absurd (s.replies o.0 o.1 o.2)
  none_woken r u (Made x) s = refl
  none_woken r u Moved s = refl
  none_woken r u Ready s = refl
  none_woken r u Suspended s = refl
  none_woken r u (Answered a) s = refl
  none_woken r u Stuck s = refl

  advance_case : (r : RunOf D P) → IsAskedRun z r → (u : ℕ) (y : Reply I D P) → r.waits u ≡ false → IsStep z r (entry u Advance y) → Falls r u Advance y
  advance_case r ok u y w s =
      let h : weigh z r.held.graph (waits_by false y) (advanced (r.asks u) y) < weigh z r.held.graph false (r.asks u) = advance_falls r ok u (r.asks u) refl y s w in
      let k : weigh z r.held.graph (waits_by (r.waits u) y) (advanced (r.asks u) y) < weigh z r.held.graph (r.waits u) (r.asks u) =
      subst (λ (b : Bool). weigh z r.held.graph (waits_by b y) (advanced (r.asks u) y) < weigh z r.held.graph b (r.asks u)) (sym w) h in (
        own_weight z r.held.graph (eqb u u) (waits_by (r.waits u) y) (r.waits u && not (list_any (λ v. eqb v u) (woken_by y))) (advanced (r.asks u) y) (r.asks u) (weight z r u) (num_is u) k,
        (λ v n. subst (λ (ws : List ℕ). weigh z r.held.graph (cond (eqb u v) (waits_by (r.waits v) y) (r.waits v && not (list_any (λ i. eqb i v) ws))) (cond (eqb u v) (advanced (r.asks v) y) (r.asks v)) ≡ weight z r v) (sym (none_woken r u y s))
            (other_weight z r.held.graph (eqb u v) (waits_by (r.waits v) y) (r.waits v) (advanced (r.asks v) y) (r.asks v) (apart u v (λ e. n (sym e))))),
      )

  take_case : (r : RunOf D P) (u : ℕ) (y : Reply I D P) → r.waits u ≡ false → IsStep z r (entry u Take y) → Falls r u Take y
  take_case r u y w s =
      let h : weigh z r.held.graph (waits_by false y) no_ask < weigh z r.held.graph false (r.asks u) = take_falls r u y s in
      let k : weigh z r.held.graph (waits_by (r.waits u) y) no_ask < weigh z r.held.graph (r.waits u) (r.asks u) =
      subst (λ (b : Bool). weigh z r.held.graph (waits_by b y) no_ask < weigh z r.held.graph b (r.asks u)) (sym w) h in
      let none : woken_by y ≡ [] = ap (λ (x : Reply I D P). woken_by x) s.replies.1 in (
        own_weight z r.held.graph (eqb u u) (waits_by (r.waits u) y) (r.waits u && not (list_any (λ v. eqb v u) (woken_by y))) no_ask (r.asks u) (weight z r u) (num_is u) k,
        (λ v n. subst (λ (ws : List ℕ). weigh z r.held.graph (cond (eqb u v) (waits_by (r.waits v) y) (r.waits v && not (list_any (λ i. eqb i v) ws))) (cond (eqb u v) no_ask (r.asks v)) ≡ weight z r v) (sym none)
            (other_weight z r.held.graph (eqb u v) (waits_by (r.waits v) y) (r.waits v) no_ask (r.asks v) (apart u v (λ e. n (sym e))))),
      )

pub asks_fall : (I R D P : Type 0) → AsksFall I R D P
asks_fall I R D P z log u op y ok run s w k =
    let r : RunOf D P = run_of z log in
    let now : IsAskedRun z r = run_asked z (opened z) (opened_asked z ok) log run in
    elim k [
      | inl e ↦ subst (λ (o : Op I R D P). IsStep z r (entry z u o y) → Falls z r u o y) (sym e) (advance_case z r now u y w) s
      | inr e ↦ subst (λ (o : Op I R D P). IsStep z r (entry z u o y) → Falls z r u o y) (sym e) (take_case z r u y w) s
    ]
