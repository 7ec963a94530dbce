-- Stretches of terminals that end anywhere, and how deep they may nest: what stands before them in the load leaves room, whatever is still
-- open at the end. This file speaks of terminals alone; what begins a production puts its stretch together from the parts that derive
-- (`Stretches`) and the one that is begun.
use Rattle.std.proofs.Common.{◌≡◌, ℕ, ◌+◌, ◌*◌, ◌≤◌, max, Bool, true, false, not, ◌||◌, List, ◌∷◌, Option, None, Some, if◌then◌else◌, refl, ap, arith}
use Rattle.jv_grammar.specs.declared.terminal.Terminal.{Terminal}
use Rattle.jv_grammar.specs.declared.terminal.Terminal.TheVariants.{Punct}
use Rattle.jv_grammar.specs.Load.{is_mark, is_there, is_opening, is_closing, is_primitive, follows_cast, is_chain, goes_on, ends_part, base, after, first, outside, Nesting}
use Rattle.jv_grammar.specs.NestingLaw.{AreLoadsAtMost}
use Rattle.jv_grammar.proofs.Stretches.{IsLow, IsCalm, Behind, Nests, Parts, Above, above_base, is_quiet, stays, climbs, rises, either_way, OnBase, loose_after, lower, least_above, semicolon_end, whole_is_low}

-- The terminals, all of them, behind the one before them: twice the load before them and a room, the levels that they nest and one more,
-- are at most twice the highest load and one.
pub record Begun (most : ℕ) (before : Option Terminal) (room : ℕ) (ts : List Terminal) : Type 0 where
  pub run : (n : Nesting) → base n.stack ≤ n.load → IsLow most before n ts → 2 * n.load + room ≤ 2 * most + 1

-- the same of parts, with `,` or `;` between them: what stands for the load is the base
pub record BegunParts (most : ℕ) (before : Option Terminal) (room : ℕ) (ts : List Terminal) : Type 0 where
  pub run : (n : Nesting) → base n.stack ≤ n.load → IsLow most before n ts → 2 * base n.stack + room ≤ 2 * most + 1

-- statements of a block, the last of which is ended
pub record Ended (most : ℕ) (before : Option Terminal) (room : ℕ) (ts us : List Terminal) : Type 0 where
  pub run : (n : Nesting) → base n.stack ≤ n.load → IsLow most before n ts → (2 * base n.stack + room ≤ 2 * most + 1) × Behind most true (base n.stack) n.stack us

-- any terminals
pub begun_here : {most : ℕ} {b : Option Terminal} {ts : List Terminal} → Begun most b 1 ts
begun_here = record { run = λ n l h. let k = h.0 in omega (arith, k) }

-- less room
pub begun_eased : {most : ℕ} {b : Option Terminal} {j k : ℕ} {ts : List Terminal} → Begun most b k ts → j ≤ k → Begun most b j ts
begun_eased s l = record { run = λ n k h. let x = s.run n k h in omega (arith, x, l) }

pub begun_eased_parts : {most : ℕ} {b : Option Terminal} {j k : ℕ} {ts : List Terminal} → BegunParts most b k ts → j ≤ k → BegunParts most b j ts
begun_eased_parts s l = record { run = λ n k h. let x = s.run n k h in omega (arith, x, l) }

pub ended_eased : {most : ℕ} {b : Option Terminal} {j k : ℕ} {ts us : List Terminal} → Ended most b k ts us → j ≤ k → Ended most b j ts us
ended_eased s l = record { run = λ n k h. let x = s.run n k h in (let y = x.0 in omega (arith, y, l), x.1) }

-- what derives
pub begun_whole : {most : ℕ} {ends : Bool} {b : Option Terminal} {k : ℕ} {ts us : List Terminal} → Nests most ends b k ts us → Begun most b k ts
begun_whole s = record { run = λ n l h. (s.run n l h).0 }

pub begun_whole_parts : {most : ℕ} {b : Option Terminal} {k : ℕ} {ts us : List Terminal} → Parts most b k ts us → BegunParts most b k ts
begun_whole_parts s = record { run = λ n l h. (s.run n l h).0 }

-- behind a stretch
pub begun_behind : {most : ℕ} {b : Option Terminal} {k m : ℕ} {ts us : List Terminal}
    → Nests most false b k ts us → ((c : Option Terminal) → Begun most c m us) → Begun most b (max k m) ts
begun_behind s r = record {
  run = λ n l h.
      let x = s.run n l h in
      let m : Nesting = record { load = x.1.load; stack = n.stack } in
      let a : Above n m = record { load = x.1.high; stack = refl } in
      let j = (r x.1.before).run m (above_base a l) x.1.low in
      let i = x.0 in
      let k = x.1.high in
      omega (arith, i, j, k);
}

-- a quiet terminal first
pub begun_flat : {most : ℕ} {b : Option Terminal} {k : ℕ} {t : Terminal} {ts : List Terminal}
    → is_quiet t ≡ true → Begun most (Some t) k ts → Begun most b k (t ∷ ts)
begun_flat {b} {t = t} {ts} q s = record {
  run = λ n l h.
      let m : Nesting = after b t (first ts) n in
      let a : Above n m = stays b t (first ts) n q in
      let i = s.run m (above_base a l) h.1 in
      let k = a.load in
      omega (arith, i, k);
}

-- a quiet terminal first that is a chain token
pub begun_chain : {most : ℕ} {b : Option Terminal} {k : ℕ} {t : Terminal} {ts : List Terminal}
    → is_quiet t ≡ true → is_chain b t (first ts) ≡ true → Begun most (Some t) k ts → Begun most b (k + 2) (t ∷ ts)
begun_chain {b} {t = t} {ts} q c s = record {
  run = λ n l h.
      let m : Nesting = after b t (first ts) n in
      let a : Above n m = stays b t (first ts) n q in
      let i = s.run m (above_base a l) h.1 in
      let k = climbs b t (first ts) n q c in
      omega (arith, i, k);
}

-- an open bracket first
pub begun_paren : {most : ℕ} {b : Option Terminal} {k p : ℕ} {ts : List Terminal} → BegunParts most (Some (Punct p 0)) k ts → Begun most b (k + 2) (Punct p 0 ∷ ts)
begun_paren s = record {
  run = λ n l h. let i = s.run (record { load = n.load + 1; stack = record { load = n.load; is_list = false } ∷ n.stack }) (omega arith) h.1 in omega (arith, i);
}

pub begun_bracket : {most : ℕ} {b : Option Terminal} {k p : ℕ} {ts : List Terminal} → BegunParts most (Some (Punct p 4)) k ts → Begun most b (k + 2) (Punct p 4 ∷ ts)
begun_bracket s = record {
  run = λ n l h. let i = s.run (record { load = n.load + 1; stack = record { load = n.load; is_list = false } ∷ n.stack }) (omega arith) h.1 in omega (arith, i);
}

pub begun_brace : {most : ℕ} {b : Option Terminal} {k p : ℕ} {ts : List Terminal} → BegunParts most (Some (Punct p 2)) k ts → Begun most b (k + 2) (Punct p 2 ∷ ts)
begun_brace {b} s = record {
  run = λ n l h. let i = s.run (record { load = n.load + 1; stack = record { load = n.load; is_list = is_there (is_mark 5) b } ∷ n.stack }) (omega arith) h.1 in omega (arith, i);
}

-- behind a closing bracket the load is what the opening one pushed, or one more
begun_shut : {most : ℕ} (k : ℕ) {c : Option Terminal} {m : ℕ} {us : List Terminal} (n : Nesting) (more : Bool) → base n.stack ≤ n.load → 2 * (n.load + 1) + k ≤ 2 * most + 1
    → Begun most c m us → IsLow most c (record { load = if more then n.load + 1 else n.load; stack = n.stack }) us → 2 * n.load + max (k + 2) m ≤ 2 * most + 1
begun_shut k n more l i r h =
    let m : Nesting = record { load = if more then n.load + 1 else n.load; stack = n.stack } in
    let a : Above n m = record { load = rises more n.load; stack = refl } in
    let j = r.run m (above_base a l) h in
    let low = a.load in
    omega (arith, i, j, low)

-- parentheses first, and square brackets
pub begun_round : {most : ℕ} {b : Option Terminal} {k m p q : ℕ} {ts us : List Terminal}
    → Parts most (Some (Punct p 0)) k ts (Punct q 1 ∷ us) → Begun most (Some (Punct q 1)) m us → Begun most b (max (k + 2) m) (Punct p 0 ∷ ts)
begun_round {k = k} {q = q} {us = us} s r = record {
  run = λ n l h.
      let x = s.run (record { load = n.load + 1; stack = record { load = n.load; is_list = false } ∷ n.stack }) (omega arith) h.1 in
      begun_shut k n (is_chain x.1.before (Punct q 1) (first us)) l x.0 r x.1.low.1;
}

pub begun_square : {most : ℕ} {b : Option Terminal} {k m p q : ℕ} {ts us : List Terminal}
    → Parts most (Some (Punct p 4)) k ts (Punct q 5 ∷ us) → Begun most (Some (Punct q 5)) m us → Begun most b (max (k + 2) m) (Punct p 4 ∷ ts)
begun_square {k = k} {q = q} {us = us} s r = record {
  run = λ n l h.
      let x = s.run (record { load = n.load + 1; stack = record { load = n.load; is_list = false } ∷ n.stack }) (omega arith) h.1 in
      begun_shut k n (is_chain x.1.before (Punct q 5) (first us)) l x.0 r x.1.low.1;
}

-- the parentheses of a cast, whose `)` is a chain token
pub begun_over_cast : {most : ℕ} {b : Option Terminal} {k m p q : ℕ} {ts us : List Terminal}
    → is_there follows_cast (first us) ≡ true → Parts most (Some (Punct p 0)) k ts (Punct q 1 ∷ us) → Begun most (Some (Punct q 1)) m us
    → Begun most b (m + 2) (Punct p 0 ∷ ts)
begun_over_cast {q = q} {us = us} f s r = record {
  run = λ n l h.
      let x = s.run (record { load = n.load + 1; stack = record { load = n.load; is_list = false } ∷ n.stack }) (omega arith) h.1 in
      let m : Nesting = record { load = if is_chain x.1.before (Punct q 1) (first us) then n.load + 1 else n.load; stack = n.stack } in
      let c : is_chain x.1.before (Punct q 1) (first us) ≡ true = either_way (is_there is_primitive x.1.before) (is_there follows_cast (first us)) f in
      let e : m.load ≡ n.load + 1 = ap (λ b. if b then n.load + 1 else n.load) c in
      let a : Above n m = record { load = omega (arith, e); stack = refl } in
      let j = r.run m (above_base a l) x.1.low.1 in
      omega (arith, j, e);
}

-- a step of the load: terminals that raise it by one
pub begun_raised : {most : ℕ} {b c : Option Terminal} {k : ℕ} {ts us : List Terminal}
    → ((n : Nesting) → IsLow most b n ts → IsLow most c (record { load = n.load + 1; stack = n.stack }) us) → Begun most c k us → Begun most b (k + 2) ts
begun_raised up s = record {
  run = λ n l h.
      let m : Nesting = record { load = n.load + 1; stack = n.stack } in
      let a : Above n m = record { load = omega arith; stack = refl } in
      let i = s.run m (above_base a l) (up n h) in
      omega (arith, i);
}

-- a part that is one stretch
pub begun_part : {most : ℕ} {b : Option Terminal} {k : ℕ} {ts : List Terminal} → Begun most b k ts → BegunParts most b k ts
begun_part s = record { run = λ n l h. let i = s.run n l h in omega (arith, i, l) }

-- behind parts
pub begun_parts : {most : ℕ} {b : Option Terminal} {k m : ℕ} {ts us : List Terminal}
    → Parts most b k ts us → ((c : Option Terminal) → BegunParts most c m us) → BegunParts most b (max k m) ts
begun_parts s r = record {
  run = λ n l h.
      let x = s.run n l h in
      let j = (r x.1.before).run (record { load = x.1.load; stack = n.stack }) x.1.high x.1.low in
      let i = x.0 in
      omega (arith, i, j);
}

-- a terminal first that is no bracket
pub begun_loose : {most : ℕ} {b : Option Terminal} {k : ℕ} {t : Terminal} {ts : List Terminal}
    → not (is_opening t || is_closing t) ≡ true → BegunParts most (Some t) k ts → BegunParts most b k (t ∷ ts)
begun_loose {most} {b} {t = t} {ts} q s = record {
  run = λ n l h.
      let m : Nesting = after b t (first ts) n in
      let a : OnBase n m = loose_after (is_opening t) (is_closing t) (ends_part t (first ts)) _ (is_chain b t (first ts)) n _ _ q l in
      let e : base m.stack ≡ base n.stack = ap base a.stack in
      let k = a.load in
      let i = s.run m (omega (arith, e, k)) h.1 in
      omega (arith, i, e);
}

-- an ended statement, and parts with a `;` behind them
pub ended_stmt : {most : ℕ} {b : Option Terminal} {k : ℕ} {ts us : List Terminal} → Nests most true b k ts us → Ended most b k ts us
ended_stmt {us = us} s = record {
  run = λ n l h.
      let x = s.run n l h in
      let i = x.0 in
      (omega (arith, i, l), lower (least_above (not (is_there goes_on (first us))) (base n.stack) n.load l) x.1);
}

pub ended_parts : {most : ℕ} {b : Option Terminal} {k p : ℕ} {ts us : List Terminal} → Parts most b k ts (Punct p 6 ∷ us) → Ended most b k ts us
ended_parts {most} {p = p} {us = us} s = record {
  run = λ n l h.
      let x = s.run n l h in
      let m : Nesting = record { load = x.1.load; stack = n.stack } in
      let e : Nests most true x.1.before 1 (Punct p 6 ∷ us) us = semicolon_end in
      let y = e.run m x.1.high x.1.low in
      (x.0, lower (least_above (not (is_there goes_on (first us))) (base n.stack) m.load x.1.high) y.1);
}

-- behind ended statements no `else` stands
pub begun_ended : {most : ℕ} {b : Option Terminal} {k m : ℕ} {ts us : List Terminal}
    → Ended most b k ts us → ((c : Option Terminal) → IsCalm c → BegunParts most c m us) → BegunParts most b (max k m) ts
begun_ended s r = record {
  run = λ n l h.
      let x = s.run n l h in
      let j = (r x.1.before (x.1.calm refl)).run (record { load = x.1.load; stack = n.stack }) x.1.high x.1.low in
      let i = x.0 in
      omega (arith, i, j);
}

-- where nothing stands before terminals, there is room for twice as many levels as the highest load says
pub whole_begun : {most : ℕ} {k : ℕ} {ts : List Terminal} → AreLoadsAtMost most ts → Begun most None k ts → k ≤ 2 * most + 1
whole_begun {most} {ts = ts} h r = let x = r.run outside (omega arith) (whole_is_low most ts h) in omega (arith, x)

pub whole_begun_parts : {most : ℕ} {k : ℕ} {ts : List Terminal} → AreLoadsAtMost most ts → BegunParts most None k ts → k ≤ 2 * most + 1
whole_begun_parts {most} {ts = ts} h r = let x = r.run outside (omega arith) (whole_is_low most ts h) in omega (arith, x)
