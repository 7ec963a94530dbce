-- Loads that never reach 201.
use Rattle.std.proofs.Common.{◌≡◌, ℕ, zero, suc, ◌+◌, ◌≤◌, Bool, true, false, not, ◌&&◌, ◌||◌, List, [], ◌∷◌, Option, None, Some, if◌then◌else◌, slice_get, take, ap, subst, arith}
use Rattle.jv_grammar.specs.declared.terminal.Terminal.{Terminal}
use Rattle.jv_grammar.specs.declared.terminal.Terminal.TheVariants.{Punct}
use Rattle.jv_grammar.specs.declared.load.Opening.{Opening}
use Rattle.jv_grammar.specs.Load.{is_mark, is_keyword, is_there, is_opening, is_closing, goes_on, is_primitive, follows_cast, ends_operand, is_chain_mark, is_chain_keyword, base, closes, moves, is_unmatched, after, first, loads_from, loads_of, outside, Nesting, IsShallow, IsClosed, nothing, terminal, group, BeginsWithPairs, none, pair, HasFewBrackets}
use Rattle.jv_grammar.specs.Nesting.{IsRising, IsSound}
use Rattle.jv_grammar.proofs.Loads.{within_after, pushes, pops, keeps}

-- each load is at most 200
abbrev pub AreLow : List ℕ → Type 0
AreLow [] = Unit
AreLow (x ∷ xs) = (x ≤ 200) × AreLow xs

some_is : (a b : ℕ) → Some a ≡ Some b → a ≡ b
some_is a b e = cc

low_is_shallow : (xs : List ℕ) → AreLow xs → (i : ℕ) → slice_get xs i ≡ Some 201 → ⊥
low_is_shallow [] l i e = cc
low_is_shallow (x ∷ xs) l zero e = let h : x ≡ 201 = some_is x 201 e in let k = l.0 in omega arith
low_is_shallow (x ∷ xs) l (suc i) e = low_is_shallow xs l.1 i e

low_at : (xs : List ℕ) → AreLow xs → (i x : ℕ) → slice_get xs i ≡ Some x → x ≤ 200
low_at [] l i x e = absurd (cc)
low_at (y ∷ xs) l zero x e = let h : y ≡ x = some_is y x e in let k = l.0 in omega arith
low_at (y ∷ xs) l (suc i) x e = low_at xs l.1 i x e

-- loads rise one by one, so they are low where none is 201
shallow_is_low : (before : Option Terminal) (n : Nesting) (ts : List Terminal) → IsSound n → n.load ≤ 200
    → ((i : ℕ) → slice_get (loads_from before n ts) i ≡ Some 201 → ⊥) → AreLow (loads_from before n ts)
shallow_is_low before n [] s l h = tt
shallow_is_low before n (t ∷ ts) s l h =
    let m : Nesting = after before t (first ts) n in
    let w = within_after before t (first ts) n s in
    let k : m.load ≤ n.load + 1 = w.load in
    let no : m.load ≡ 201 → ⊥ = λ e. h 0 (ap Some e) in
    let low : m.load ≤ 200 = omega arith in
    (low, shallow_is_low (Some t) m ts w.sound low (λ i. h (suc i)))

outside_is_sound : IsSound outside
outside_is_sound = record { low = omega arith; rising = tt }

pub are_low : (ts : List Terminal) → IsShallow ts → AreLow (loads_of ts)
are_low ts h = shallow_is_low None outside ts outside_is_sound (omega arith) h

pub loads_are_low : (ts : List Terminal) (i load : ℕ) → IsShallow ts → slice_get (loads_of ts) i ≡ Some load → load ≤ 200
loads_are_low ts i load h e = low_at (loads_of ts) (are_low ts h) i load e

-- The last terminal of a front has lost the one behind it, which makes its load no higher.
record NoHigher (m n : Nesting) : Type 0 where
  load : m.load ≤ n.load

without_next : (a b c : Bool) (low high : ℕ) → low ≤ high → (if a && not (b || false) then low else high) ≤ (if a && not (b || c) then low else high)
without_next true true c low high l = omega arith
without_next true false true low high l = l
without_next true false false low high l = omega arith
without_next false b c low high l = omega arith

closes_no_higher : (t u : Terminal) (load : ℕ) (os : List Opening) → IsRising os → NoHigher (closes t None load os) (closes t (Some u) load os)
closes_no_higher t u load [] r = record { load = omega arith }
closes_no_higher t u load (o ∷ os) r = record { load = without_next (is_mark 3 t) o.is_list (goes_on u) (base os) o.load r.0 }

ends_no_higher : (a b c : Bool) (m n : Nesting) → m.load ≤ n.load → NoHigher (if a || (b && not false) then m else n) (if a || (b && not c) then m else n)
ends_no_higher true b c m n l = record { load = omega arith }
ends_no_higher false true true m n l = record { load = l }
ends_no_higher false true false m n l = record { load = omega arith }
ends_no_higher false false c m n l = record { load = omega arith }

both : {A : Type 0} (P : A → A → Type 0) (b : Bool) (x y v w : A) → P x v → P y w → P (if b then x else y) (if b then v else w)
both P true x y v w f g = f
both P false x y v w f g = g

moves_no_higher : (before : Option Terminal) (t u : Terminal) (n : Nesting) → IsSound n → NoHigher (moves before t None n) (moves before t (Some u) n)
moves_no_higher before t u n s = both NoHigher (is_opening t) _ _ _ _ (record { load = omega arith })
    (both NoHigher (is_closing t) _ _ _ _ (closes_no_higher t u n.load n.stack s.rising)
    (ends_no_higher (is_mark 7 t) (is_mark 6 t) (goes_on u) (record { load = base n.stack; stack = n.stack }) n s.low))

rises : (b : Bool) (low high : ℕ) → low ≤ high → low ≤ (if b then high + 1 else high)
rises true low high l = omega arith
rises false low high l = l

-- whether a token chains depends on the next one for a `)` and for a `]`
chains_no_higher : (a b c d e p q f g : Bool) (low high : ℕ) → low ≤ high
    → (if a || b || c || d || (e && (p || false)) || (f && false) then low + 1 else low)
    ≤ (if a || b || c || d || (e && (p || q)) || (f && g) then high + 1 else high)
chains_no_higher true b c d e p q f g low high l = omega arith
chains_no_higher false true c d e p q f g low high l = omega arith
chains_no_higher false false true d e p q f g low high l = omega arith
chains_no_higher false false false true e p q f g low high l = omega arith
chains_no_higher false false false false true true q f g low high l = omega arith
chains_no_higher false false false false true false q true g low high l = rises _ low high l
chains_no_higher false false false false true false q false g low high l = rises _ low high l
chains_no_higher false false false false false p q true g low high l = rises _ low high l
chains_no_higher false false false false false p q false g low high l = l

last_no_higher : (before : Option Terminal) (t u : Terminal) (n : Nesting) → IsSound n
    → NoHigher (after before t None n) (after before t (Some u) n)
last_no_higher before t u n s = both NoHigher (is_unmatched t n.stack) _ _ _ _ (record { load = omega arith }) (record {
  load = chains_no_higher (is_chain_mark t) (is_chain_keyword t) (is_keyword 22 t && not (is_there (is_keyword 14) before))
      ((is_mark 28 t || is_mark 29 t) && not (is_there ends_operand before)) (is_mark 1 t) (is_there is_primitive before) (follows_cast u)
      (is_mark 5 t) (is_mark 4 u) _ _ (moves_no_higher before t u n s).load;
})

front_is_low : (before : Option Terminal) (n : Nesting) (ts : List Terminal) (k : ℕ) → IsSound n → AreLow (loads_from before n ts)
    → AreLow (loads_from before n (take k ts))
front_is_low before n ts zero s l = tt
front_is_low before n [] (suc k) s l = tt
front_is_low before n (t ∷ []) (suc zero) s l = l
front_is_low before n (t ∷ []) (suc (suc k)) s l = l
front_is_low before n (t ∷ u ∷ us) (suc zero) s l =
    let a = (last_no_higher before t u n s).load in
    let b = l.0 in
    (omega arith, tt)
front_is_low before n (t ∷ u ∷ us) (suc (suc k)) s l =
    (l.0, front_is_low (Some t) (after before t (Some u) n) (u ∷ us) (suc k) (within_after before t (Some u) n s).sound l.1)

pub front_is_shallow : (ts : List Terminal) (k : ℕ) → IsShallow ts → IsShallow (take k ts)
front_is_shallow ts k h = low_is_shallow (loads_of (take k ts)) (front_is_low None outside ts k outside_is_sound (are_low ts h))

-- Loads are low behind closed brackets, where the stack is what it was.
pub record Behind (stack : List Opening) (ts : List Terminal) : Type 0 where
  pub before : Option Terminal
  pub load : ℕ
  pub low : AreLow (loads_from before (record { load = load; stack = stack }) ts)

pub behind : {ts us : List Terminal} (before : Option Terminal) (n : Nesting) → IsClosed ts us → AreLow (loads_from before n ts) → Behind n.stack us
behind before n nothing l = record { before = before; load = n.load; low = l }
behind {ts = t ∷ ts} {us = us} before n (terminal o c rest) l =
    subst (λ s. Behind s us) (keeps before t (first ts) n o c) (behind (Some t) (after before t (first ts) n) rest l.1)
behind {ts = t ∷ ts} {us = vs} before n (group {u = u} {us = us} o inner c rest) l =
    let p = pushes before t (first ts) n o in
    let i = subst (λ s. Behind s (u ∷ us)) p.is (behind (Some t) (after before t (first ts) n) inner l.1) in
    subst (λ s. Behind s vs) (pops i.before u (first us) i.load p.opening n.stack c) (behind (Some u) (after i.before u (first us) (record { load = i.load; stack = p.opening ∷ n.stack })) rest i.low.1)

-- each pair adds one to the load
pairs_are_low : {k : ℕ} {ts : List Terminal} (before : Option Terminal) (n : Nesting) → BeginsWithPairs (suc k) ts → AreLow (loads_from before n ts)
    → n.load + suc k ≤ 200
pairs_are_low before n (pair inner none) l = let h = l.0 in omega arith
pairs_are_low {ts = t ∷ ts} before n (pair {end = end} inner (pair {at = at} {ts = vs} i r)) l =
    let b = behind (Some t) (after before t (first ts) n) inner l.1 in
    let h = pairs_are_low (Some (Punct end 5)) (record { load = n.load + 1; stack = n.stack }) (pair {at = at} i r) b.low.1 in
    omega arith

few_at : (before : Option Terminal) (n : Nesting) (ts : List Terminal) → AreLow (loads_from before n ts) → (k : ℕ) → BeginsWithPairs k ts → k ≤ 200
few_at before n ts l zero p = omega arith
few_at before n ts l (suc k) p = let h = pairs_are_low before n p l in omega arith

low_has_few : (before : Option Terminal) (n : Nesting) (ts : List Terminal) → AreLow (loads_from before n ts) → HasFewBrackets ts
low_has_few before n [] l = tt
low_has_few before n (t ∷ ts) l = (few_at before n (t ∷ ts) l, low_has_few (Some t) (after before t (first ts) n) ts l.1)

pub shallow_has_few : (ts : List Terminal) → IsShallow ts → HasFewBrackets ts
shallow_has_few ts h = low_has_few None outside ts (are_low ts h)
