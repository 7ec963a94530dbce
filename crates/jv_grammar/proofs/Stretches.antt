-- Stretches of terminals, and how deep they may nest: each level of nesting raises the load, but for those of a sign directly behind a
-- cast, so twice the load is enough. This file speaks of terminals alone; a production puts its stretch together from those of its parts.
use Rattle.std.proofs.Common.{◌≡◌, ℕ, suc, ◌+◌, ◌*◌, ◌≤◌, max, Bool, true, false, not, ◌&&◌, ◌||◌, List, [], ◌∷◌, Option, None, Some, if◌then◌else◌, refl, sym, ap, subst, arith, true≢false, slice_get}
use Rattle.jv_grammar.specs.declared.terminal.Terminal.{Terminal}
use Rattle.jv_grammar.specs.declared.terminal.Terminal.TheVariants.{Punct}
use Rattle.jv_grammar.specs.declared.load.Opening.{Opening}
use Rattle.jv_grammar.specs.Load.{is_mark, is_keyword, is_there, is_opening, is_closing, is_primitive, follows_cast, is_chain, goes_on, ends_part, base, after, first, loads_from, loads_of, outside, Nesting}
use Rattle.jv_grammar.specs.NestingLaw.{AreLoadsAtMost}

-- each load is at most a number
abbrev pub AreLow : ℕ → List ℕ → Type 0
AreLow most [] = Unit
AreLow most (x ∷ xs) = (x ≤ most) × AreLow most xs

low_ones : (most : ℕ) (xs : List ℕ) → ((i x : ℕ) → slice_get xs i ≡ Some x → x ≤ most) → AreLow most xs
low_ones most [] h = tt
low_ones most (x ∷ xs) h = (h 0 x refl, low_ones most xs (λ i. h (suc i)))

-- the load before terminals is low, and those after each of them
abbrev pub IsLow : ℕ → Option Terminal → Nesting → List Terminal → Type 0
IsLow most before n ts = AreLow most (n.load ∷ loads_from before n ts)

-- no `else` stands before
abbrev pub IsCalm : Option Terminal → Type 0
IsCalm before = is_there (is_keyword 14) before ≡ false

-- what stands behind a stretch: the brackets that are open are those before it, and the load is at least a number; a statement ends
-- with no `else`
pub record Behind (most : ℕ) (ends : Bool) (least : ℕ) (stack : List Opening) (ts : List Terminal) : Type 0 where
  pub before : Option Terminal
  pub calm : ends ≡ true → IsCalm before
  pub load : ℕ
  pub high : least ≤ load
  pub low : IsLow most before (record { load = load; stack = stack }) ts

-- a stretch keeps the load; the end of a statement keeps it before `else` and `while`, and else sets it to the base
abbrev kept : Bool → ℕ → ℕ → ℕ
kept c low high = if c then low else high

abbrev pub least : Bool → List Terminal → Nesting → ℕ
least ends ts n = kept (ends && not (is_there goes_on (first ts))) (base n.stack) n.load

-- The terminals of the first list up to the second, its rest, behind the one before them: twice the load before them and a room, the
-- levels that they nest and one more, are at most twice the highest load and one. Behind them the load is no lower, or follows the rule of a statement's end.
pub record Nests (most : ℕ) (ends : Bool) (before : Option Terminal) (room : ℕ) (ts us : List Terminal) : Type 0 where
  pub run : (n : Nesting) → base n.stack ≤ n.load → IsLow most before n ts → (2 * n.load + room ≤ 2 * most + 1) × Behind most ends (least ends us n) n.stack us

-- the same of parts, with `,` or `;` between them: what stands for the load is the base
pub record Parts (most : ℕ) (before : Option Terminal) (room : ℕ) (ts us : List Terminal) : Type 0 where
  pub run : (n : Nesting) → base n.stack ≤ n.load → IsLow most before n ts → (2 * base n.stack + room ≤ 2 * most + 1) × Behind most false (base n.stack) n.stack us

pub lower : {most : ℕ} {ends : Bool} {a b : ℕ} {stack : List Opening} {ts : List Terminal} → a ≤ b → Behind most ends b stack ts → Behind most ends a stack ts
lower l b = record { before = b.before; calm = b.calm; load = b.load; high = let h = b.high in omega arith; low = b.low }

-- a stretch that ends no statement
no_end : {most : ℕ} {ends : Bool} {a : ℕ} {stack : List Opening} {ts : List Terminal} → Behind most ends a stack ts → Behind most false a stack ts
no_end b = record { before = b.before; calm = λ e. absurd (true≢false (sym e)); load = b.load; high = b.high; low = b.low }

-- a nesting with the same brackets open, and a load at least as high
pub record Above (n m : Nesting) : Type 0 where
  pub load : n.load ≤ m.load
  pub stack : m.stack ≡ n.stack

kept_rises : (c : Bool) (low high low' high' : ℕ) → low ≤ low' → high ≤ high' → kept c low high ≤ kept c low' high'
kept_rises true low high low' high' l h = l
kept_rises false low high low' high' l h = h

same_base : {n m : Nesting} → Above n m → base m.stack ≡ base n.stack
same_base a = ap base a.stack

least_rises : (ends : Bool) (us : List Terminal) (n m : Nesting) → Above n m → least ends us n ≤ least ends us m
least_rises ends us n m a = let e = same_base a in kept_rises (ends && not (is_there goes_on (first us))) _ _ _ _ (omega (arith, e)) a.load

pub least_above : (c : Bool) (low high : ℕ) → low ≤ high → low ≤ kept c low high
least_above true low high l = omega arith
least_above false low high l = l

-- back from a nesting above
onto : {most : ℕ} (ends : Bool) (us : List Terminal) (n m : Nesting) → Above n m → Behind most ends (least ends us m) m.stack us → Behind most ends (least ends us n) n.stack us
onto {most} ends us n m a b = subst (λ s. Behind most ends (least ends us n) s us) a.stack (lower (least_rises ends us n m a) b)

pub above_base : {n m : Nesting} → Above n m → base n.stack ≤ n.load → base m.stack ≤ m.load
above_base a l = let e = same_base a in let k = a.load in omega (arith, e, k, l)

-- a terminal that is no bracket, no `,` and no `;`
abbrev pub is_quiet : Terminal → Bool
is_quiet t = not (is_opening t || is_closing t || is_mark 7 t || is_mark 6 t)

quiet_after : (o c m s g e chain : Bool) (n x y z : Nesting) → not (o || c || m || s) ≡ true
    → Above n (if c && e then n else (let w = (if o then x else if c then y else if m || (s && not g) then z else n) in record { load = if chain then w.load + 1 else w.load; stack = w.stack }))
quiet_after false false false false g e true n x y z h = record { load = omega arith; stack = refl }
quiet_after false false false false g e false n x y z h = record { load = omega arith; stack = refl }
quiet_after true c m s g e chain n x y z h = absurd (true≢false (sym h))
quiet_after false true m s g e chain n x y z h = absurd (true≢false (sym h))
quiet_after false false true s g e chain n x y z h = absurd (true≢false (sym h))
quiet_after false false false true g e chain n x y z h = absurd (true≢false (sym h))

quiet_chain : (o c m s g e chain : Bool) (n x y z : Nesting) → not (o || c || m || s) ≡ true → chain ≡ true
    → n.load + 1 ≤ (if c && e then n else (let w = (if o then x else if c then y else if m || (s && not g) then z else n) in record { load = if chain then w.load + 1 else w.load; stack = w.stack })).load
quiet_chain false false false false g e true n x y z h k = omega arith
quiet_chain o c m s g e false n x y z h k = absurd (true≢false (sym k))
quiet_chain true c m s g e true n x y z h k = absurd (true≢false (sym h))
quiet_chain false true m s g e true n x y z h k = absurd (true≢false (sym h))
quiet_chain false false true s g e true n x y z h k = absurd (true≢false (sym h))
quiet_chain false false false true g e true n x y z h k = absurd (true≢false (sym h))

pub stays : (before : Option Terminal) (t : Terminal) (behind : Option Terminal) (n : Nesting) → is_quiet t ≡ true → Above n (after before t behind n)
stays before t behind n q = quiet_after (is_opening t) (is_closing t) (is_mark 7 t) (is_mark 6 t) _ _ (is_chain before t behind) n _ _ _ q

pub climbs : (before : Option Terminal) (t : Terminal) (behind : Option Terminal) (n : Nesting) → is_quiet t ≡ true → is_chain before t behind ≡ true
    → n.load + 1 ≤ (after before t behind n).load
climbs before t behind n q c = quiet_chain (is_opening t) (is_closing t) (is_mark 7 t) (is_mark 6 t) _ _ (is_chain before t behind) n _ _ _ q c

-- nothing at all
pub done : {most : ℕ} {b : Option Terminal} {ts : List Terminal} → Nests most false b 1 ts ts
done {b} = record { run = λ n l h. (let k = h.0 in omega (arith, k), record { before = b; calm = λ e. absurd (true≢false (sym e)); load = n.load; high = omega arith; low = h }) }

-- less room
pub eased : {most : ℕ} {ends : Bool} {b : Option Terminal} {j k : ℕ} {ts us : List Terminal} → Nests most ends b k ts us → j ≤ k → Nests most ends b j ts us
eased s l = record { run = λ n k h. let x = s.run n k h in (let y = x.0 in omega (arith, y, l), x.1) }

pub eased_parts : {most : ℕ} {b : Option Terminal} {j k : ℕ} {ts us : List Terminal} → Parts most b k ts us → j ≤ k → Parts most b j ts us
eased_parts s l = record { run = λ n k h. let x = s.run n k h in (let y = x.0 in omega (arith, y, l), x.1) }

-- one stretch behind another
pub behind : {most : ℕ} {ends : Bool} {b : Option Terminal} {k m : ℕ} {ts us vs : List Terminal}
    → Nests most false b k ts us → ((c : Option Terminal) → Nests most ends c m us vs) → Nests most ends b (max k m) ts vs
behind {ends} {vs = vs} s r = record {
  run = λ n l h.
      let x = s.run n l h in
      let m : Nesting = record { load = x.1.load; stack = n.stack } in
      let a : Above n m = record { load = x.1.high; stack = refl } in
      let y = (r x.1.before).run m (above_base a l) x.1.low in
      let i = x.0 in
      let j = y.0 in
      let k = x.1.high in
      (omega (arith, i, j, k), onto ends vs n m a y.1);
}

-- a quiet terminal first
pub flat : {most : ℕ} {ends : Bool} {b : Option Terminal} {k : ℕ} {t : Terminal} {ts us : List Terminal}
    → is_quiet t ≡ true → Nests most ends (Some t) k ts us → Nests most ends b k (t ∷ ts) us
flat {ends} {b} {t = t} {ts} {us} q s = record {
  run = λ n l h.
      let m : Nesting = after b t (first ts) n in
      let a : Above n m = stays b t (first ts) n q in
      let x = s.run m (above_base a l) h.1 in
      let i = x.0 in
      let k = a.load in
      (omega (arith, i, k), onto ends us n m a x.1);
}

-- a quiet terminal first that is a chain token
pub chain : {most : ℕ} {ends : Bool} {b : Option Terminal} {k : ℕ} {t : Terminal} {ts us : List Terminal}
    → is_quiet t ≡ true → is_chain b t (first ts) ≡ true → Nests most ends (Some t) k ts us → Nests most ends b (k + 2) (t ∷ ts) us
chain {ends} {b} {t = t} {ts} {us} q c s = record {
  run = λ n l h.
      let m : Nesting = after b t (first ts) n in
      let a : Above n m = stays b t (first ts) n q in
      let x = s.run m (above_base a l) h.1 in
      let i = x.0 in
      let k = climbs b t (first ts) n q c in
      (omega (arith, i, k), onto ends us n m a x.1);
}

pub rises : (b : Bool) (load : ℕ) → load ≤ (if b then load + 1 else load)
rises true load = omega arith
rises false load = omega arith

-- behind a closing bracket the load is what the opening one pushed, or one more
shut : {most : ℕ} (ends : Bool) (vs : List Terminal) (k : ℕ) {c : Option Terminal} {m : ℕ} {us : List Terminal} (n : Nesting) (more : Bool) → base n.stack ≤ n.load → 2 * (n.load + 1) + k ≤ 2 * most + 1
    → Nests most ends c m us vs → IsLow most c (record { load = if more then n.load + 1 else n.load; stack = n.stack }) us → (2 * n.load + max (k + 2) m ≤ 2 * most + 1) × Behind most ends (least ends vs n) n.stack vs
shut ends vs k n more l i r h =
    let m : Nesting = record { load = if more then n.load + 1 else n.load; stack = n.stack } in
    let a : Above n m = record { load = rises more n.load; stack = refl } in
    let y = r.run m (above_base a l) h in
    let j = y.0 in
    let low = a.load in
    (omega (arith, i, j, low), onto ends vs n m a y.1)

-- parentheses first, and square brackets
pub round : {most : ℕ} {ends : Bool} {b : Option Terminal} {k m p q : ℕ} {ts us vs : List Terminal}
    → Parts most (Some (Punct p 0)) k ts (Punct q 1 ∷ us) → Nests most ends (Some (Punct q 1)) m us vs → Nests most ends b (max (k + 2) m) (Punct p 0 ∷ ts) vs
round {ends} {k = k} {q = q} {us = us} {vs} s r = record {
  run = λ n l h.
      let x = s.run (record { load = n.load + 1; stack = record { load = n.load; is_list = false } ∷ n.stack }) (omega arith) h.1 in
      shut ends vs k n (is_chain x.1.before (Punct q 1) (first us)) l x.0 r x.1.low.1;
}

pub square : {most : ℕ} {ends : Bool} {b : Option Terminal} {k m p q : ℕ} {ts us vs : List Terminal}
    → Parts most (Some (Punct p 4)) k ts (Punct q 5 ∷ us) → Nests most ends (Some (Punct q 5)) m us vs → Nests most ends b (max (k + 2) m) (Punct p 4 ∷ ts) vs
square {ends} {k = k} {q = q} {us = us} {vs} s r = record {
  run = λ n l h.
      let x = s.run (record { load = n.load + 1; stack = record { load = n.load; is_list = false } ∷ n.stack }) (omega arith) h.1 in
      shut ends vs k n (is_chain x.1.before (Punct q 5) (first us)) l x.0 r x.1.low.1;
}

pub either_way : (a b : Bool) → b ≡ true → (a || b) || false ≡ true
either_way true b h = refl
either_way false true h = refl
either_way false false h = absurd (true≢false (sym h))

-- the parentheses of a cast, whose `)` is a chain token
pub cast : {most : ℕ} {ends : Bool} {b : Option Terminal} {k m p q : ℕ} {ts us vs : List Terminal}
    → is_there follows_cast (first us) ≡ true → Parts most (Some (Punct p 0)) k ts (Punct q 1 ∷ us) → Nests most ends (Some (Punct q 1)) m us vs
    → Nests most ends b (m + 2) (Punct p 0 ∷ ts) vs
cast {ends} {q = q} {us = us} {vs} f s r = record {
  run = λ n l h.
      let x = s.run (record { load = n.load + 1; stack = record { load = n.load; is_list = false } ∷ n.stack }) (omega arith) h.1 in
      let m : Nesting = record { load = if is_chain x.1.before (Punct q 1) (first us) then n.load + 1 else n.load; stack = n.stack } in
      let c : is_chain x.1.before (Punct q 1) (first us) ≡ true = either_way (is_there is_primitive x.1.before) (is_there follows_cast (first us)) f in
      let e : m.load ≡ n.load + 1 = ap (λ b. if b then n.load + 1 else n.load) c in
      let a : Above n m = record { load = omega (arith, e); stack = refl } in
      let y = r.run m (above_base a l) x.1.low.1 in
      let j = y.0 in
      (omega (arith, j, e), onto ends vs n m a y.1);
}

-- behind a `}` the load is what the `{` pushed, or the base
braced : (ends list next : Bool) (low high : ℕ) → low ≤ high → ends || list ≡ true
    → kept (ends && not next) low high ≤ (if true && not (list || next) then low else high)
braced true true true low high l e = omega arith
braced true true false low high l e = l
braced true false true low high l e = omega arith
braced true false false low high l e = omega arith
braced false true next low high l e = omega arith
braced false false next low high l e = absurd (true≢false (sym e))

-- braces, which end a statement, or keep the load directly behind a `]`
pub braces : {most : ℕ} {ends : Bool} {b : Option Terminal} {k p q : ℕ} {ts us : List Terminal}
    → ends || is_there (is_mark 5) b ≡ true → Parts most (Some (Punct p 2)) k ts (Punct q 3 ∷ us) → Nests most ends b (k + 2) (Punct p 2 ∷ ts) us
braces {ends} {b} {q = q} {us = us} e s = record {
  run = λ n l h.
      let x = s.run (record { load = n.load + 1; stack = record { load = n.load; is_list = is_there (is_mark 5) b } ∷ n.stack }) (omega arith) h.1 in
      let i = x.0 in (
        omega (arith, i),
        record {
          before = Some (Punct q 3);
          calm = λ e. refl;
          load = _;
          high = braced ends (is_there (is_mark 5) b) (is_there goes_on (first us)) (base n.stack) n.load l e;
          low = x.1.low.1;
        },
      );
}

-- a step of the load: terminals that raise it by one
pub raised : {most : ℕ} {ends : Bool} {b c : Option Terminal} {k : ℕ} {ts us vs : List Terminal}
    → ((n : Nesting) → IsLow most b n ts → IsLow most c (record { load = n.load + 1; stack = n.stack }) us) → Nests most ends c k us vs → Nests most ends b (k + 2) ts vs
raised {ends} {vs = vs} up s = record {
  run = λ n l h.
      let m : Nesting = record { load = n.load + 1; stack = n.stack } in
      let a : Above n m = record { load = omega arith; stack = refl } in
      let x = s.run m (above_base a l) (up n h) in
      let i = x.0 in
      (omega (arith, i), onto ends vs n m a x.1);
}

-- the end of a statement that `else` or `while` follows keeps the load
pub kept_on : {most : ℕ} {b : Option Terminal} {k : ℕ} {t : Terminal} {ts us : List Terminal} → goes_on t ≡ true → Nests most true b k ts (t ∷ us) → Nests most false b k ts (t ∷ us)
kept_on {most} {t = t} {us = us} g s = record {
  run = λ n l h.
      let x = s.run n l h in
      (x.0, no_end (subst (λ g. Behind most true (kept (true && not g) (base n.stack) n.load) n.stack (t ∷ us)) g x.1));
}

-- a part that is one stretch
pub part : {most : ℕ} {ends : Bool} {b : Option Terminal} {k : ℕ} {ts us : List Terminal} → Nests most ends b k ts us → Parts most b k ts us
part {ends} {us = us} s = record {
  run = λ n l h.
      let x = s.run n l h in
      let i = x.0 in
      (omega (arith, i, l), no_end (lower (least_above (ends && not (is_there goes_on (first us))) (base n.stack) n.load l) x.1));
}

pub parts : {most : ℕ} {b : Option Terminal} {k m : ℕ} {ts us vs : List Terminal}
    → Parts most b k ts us → ((c : Option Terminal) → Parts most c m us vs) → Parts most b (max k m) ts vs
parts s r = record {
  run = λ n l h.
      let x = s.run n l h in
      let y = (r x.1.before).run (record { load = x.1.load; stack = n.stack }) x.1.high x.1.low in
      let i = x.0 in
      let j = y.0 in
      (omega (arith, i, j), y.1);
}

-- a terminal that is no bracket leaves the load at the base, or above
pub record OnBase (n m : Nesting) : Type 0 where
  pub load : base n.stack ≤ m.load
  pub stack : m.stack ≡ n.stack

pub loose_after : (o c p e chain : Bool) (n x y : Nesting) → not (o || c) ≡ true → base n.stack ≤ n.load
    → OnBase n (if c && e then n else (let w = (if o then x else if c then y else if p then (record { load = base n.stack; stack = n.stack }) else n) in record { load = if chain then w.load + 1 else w.load; stack = w.stack }))
loose_after false false true e true n x y h l = record { load = omega arith; stack = refl }
loose_after false false true e false n x y h l = record { load = omega arith; stack = refl }
loose_after false false false e true n x y h l = record { load = omega (arith, l); stack = refl }
loose_after false false false e false n x y h l = record { load = l; stack = refl }
loose_after true c p e chain n x y h l = absurd (true≢false (sym h))
loose_after false true p e chain n x y h l = absurd (true≢false (sym h))

-- a terminal first that is no bracket
pub loose : {most : ℕ} {b : Option Terminal} {k : ℕ} {t : Terminal} {ts us : List Terminal}
    → not (is_opening t || is_closing t) ≡ true → Parts most (Some t) k ts us → Parts most b k (t ∷ ts) us
loose {most} {b} {t = t} {ts} {us} q s = record {
  run = λ n l h.
      let m : Nesting = after b t (first ts) n in
      let a : OnBase n m = loose_after (is_opening t) (is_closing t) (ends_part t (first ts)) _ (is_chain b t (first ts)) n _ _ q l in
      let e : base m.stack ≡ base n.stack = ap base a.stack in
      let k = a.load in
      let x = s.run m (omega (arith, e, k)) h.1 in
      let i = x.0 in
      (omega (arith, i, e), subst (λ s. Behind most false (base n.stack) s us) a.stack (lower (omega (arith, e)) x.1));
}

-- a `;` sets the load to the base where nothing goes on with the statement
semicolon_load : (next : Bool) (n : Nesting) → kept (true && not next) (base n.stack) n.load ≤ (if not next then record { load = base n.stack; stack = n.stack } else n).load
semicolon_load true n = omega arith
semicolon_load false n = omega arith

semicolon_stack : (next : Bool) (n : Nesting) → (if not next then record { load = base n.stack; stack = n.stack } else n).stack ≡ n.stack
semicolon_stack true n = refl
semicolon_stack false n = refl

pub semicolon_end : {most : ℕ} {b : Option Terminal} {p : ℕ} {ts : List Terminal} → Nests most true b 1 (Punct p 6 ∷ ts) ts
semicolon_end {most} {b} {p = p} {ts} = record {
  run = λ n l h.
      let m : Nesting = after b (Punct p 6) (first ts) n in
      let e : m.stack ≡ n.stack = semicolon_stack (is_there goes_on (first ts)) n in
      let x : Behind most true (least true ts n) m.stack ts = record { before = Some (Punct p 6); calm = λ e. refl; load = m.load; high = semicolon_load (is_there goes_on (first ts)) n; low = h.1 } in
      (let k = h.0 in omega (arith, k), subst (λ s. Behind most true (least true ts n) s ts) e x);
}

-- where nothing stands before terminals, there is room for twice as many levels as the highest load says
pub whole_is_low : (most : ℕ) (ts : List Terminal) → AreLoadsAtMost most ts → IsLow most None outside ts
whole_is_low most ts h = (omega arith, low_ones most (loads_of ts) h)

pub whole_nests : {most : ℕ} {ends : Bool} {k : ℕ} {ts us : List Terminal} → AreLoadsAtMost most ts → Nests most ends None k ts us → k ≤ 2 * most + 1
whole_nests {most} {ts = ts} h r = let x = r.run outside (omega arith) (whole_is_low most ts h) in let y = x.0 in omega (arith, y)

pub whole_parts : {most : ℕ} {k : ℕ} {ts us : List Terminal} → AreLoadsAtMost most ts → Parts most None k ts us → k ≤ 2 * most + 1
whole_parts {most} {ts = ts} h r = let x = r.run outside (omega arith) (whole_is_low most ts h) in let y = x.0 in omega (arith, y)
