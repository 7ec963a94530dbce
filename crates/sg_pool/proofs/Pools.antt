-- Lists of units that are run by several workers.
use Rattle.std.proofs.Common.{◌≡◌, ◌⊎◌, ℕ, zero, suc, ◌+◌, ◌<◌, List, [], ◌∷◌, ◌++◌, Bool, true, false, Option, Some, inl, inr, ◌≤◌, take, length, map, reverse, refl, sym, ap, ◌∙◌, subst, arith, append-nil, append_assoc, length-append, slice_get, slice_set, slice_index_or}
use Rattle.std.specs.Prelude.{All}
use Rattle.std.specs.List.{Contains}
use Rattle.std.proofs.lemmas.List.{take_all, reverse-append}
use Rattle.std.proofs.lemmas.List.Elements.{All-nil, All-cons, All-append, All-head, All-tail}
use Rattle.sg_base.specs.declared.scope.Scope.{Scope}
use Rattle.sg_base.specs.Graph.{GraphOf}
use Rattle.sg_query.specs.Query.{KindOf}
use Rattle.sg_query.specs.declared.query.Query.{Query}
use Rattle.sg_state.specs.Held.{HeldOf}
use Rattle.sg_unit.specs.declared.entry.Entry.{Entry}
use Rattle.sg_unit.specs.declared.op.Op.{Op}
use Rattle.sg_unit.specs.Run.{run_of}
use Rattle.sg_unit.specs.Served.{SomeStands, IsHonestBy}
use Rattle.sg_unit.specs.Trace.{Past}
use Rattle.sg_unit.specs.Unit.{setting_of}
use Rattle.sg_board.specs.Places.{counting}
use Rattle.sg_pool.specs.declared.doing.Doing.{Doing}
use Rattle.sg_pool.specs.declared.doing.Doing.TheVariants.{Gives, Advances, Takes, HasEnded}
use Rattle.sg_pool.specs.Driving.{RunningOf, MetStuck}
use Rattle.sg_pool.specs.Pool.{AreNumbered, IsAtSite, IsPooled, HasPooled, IsKept, IsOver, has_ended}

-- ---- lists

pub map_set : {X Y : Type 0} (f : X → Y) (xs : List X) (i : ℕ) (x y : X) → x ≡ slice_index_or xs i x → f y ≡ f x → map f (slice_set xs i y) ≡ map f xs
map_set f [] i x y e s = refl
map_set f (z ∷ xs) zero x y e s = ap (λ w. w ∷ map f xs) (s ∙ ap f e)
map_set f (z ∷ xs) (suc i) x y e s = ap (λ l. f z ∷ l) (map_set f xs i x y e s)

pub none_laid : {Y : Type 0} (whole none : List Y) → none ≡ [] → whole ++ reverse none ≡ whole
none_laid whole none e = ap (λ l. whole ++ reverse l) e ∙ append-nil whole

-- ---- a list that is emptied from behind

pub whole_kept : {X : Type 0} (P : X → Type 0) (left done whole : List X) → length left ≡ 0 → left ++ done ≡ whole → All P done → All P whole
whole_kept P [] done whole none e h = subst (λ xs. All P xs) e h
whole_kept P (x ∷ left) done whole none e h = absurd (omega (arith, none))

get_after : {X : Type 0} (xs : List X) (x : X) (ys : List X) → slice_get (xs ++ x ∷ ys) (length xs) ≡ Some x
get_after [] x ys = refl
get_after (z ∷ xs) x ys = get_after xs x ys

get_within : {X : Type 0} (xs : List X) (i : ℕ) (x : X) → slice_get xs i ≡ Some x → i < length xs
get_within [] i x e = absurd (cc)
get_within (y ∷ xs) zero x e = omega arith
get_within (y ∷ xs) (suc i) x e = let k = get_within xs i x e in omega (arith, k)

get_map : {X Y : Type 0} (f : X → Y) (xs : List X) (i : ℕ) (x : X) → slice_get xs i ≡ Some x → slice_get (map f xs) i ≡ Some (f x)
get_map f [] i x e = absurd (cc)
get_map f (y ∷ xs) zero x e = let same : y ≡ x = cc in ap (λ z. Some (f z)) same
get_map f (y ∷ xs) (suc i) x e = get_map f xs i x e

get_mapped : {X Y : Type 0} (f : X → Y) (xs : List X) (i : ℕ) (y : Y) → slice_get (map f xs) i ≡ Some y → (x : X) × (slice_get xs i ≡ Some x) × (f x ≡ y)
get_mapped f [] i y e = absurd (cc)
get_mapped f (x ∷ xs) zero y e = let same : f x ≡ y = cc in (x, refl, same)
get_mapped f (x ∷ xs) (suc i) y e = get_mapped f xs i y e

each_at : {X : Type 0} (P : X → Type 0) (xs : List X) (i : ℕ) (x : X) → All P xs → slice_get xs i ≡ Some x → P x
each_at P [] i x h e = absurd (cc)
each_at P (y ∷ xs) zero x h e = let same : y ≡ x = cc in subst P same (All-head P y xs h)
each_at P (y ∷ xs) (suc i) x h e = each_at P xs i x (All-tail P y xs h) e

length_map : {X Y : Type 0} (f : X → Y) (xs : List X) → length (map f xs) ≡ length xs
length_map f [] = refl
length_map f (x ∷ xs) = ap suc (length_map f xs)

length_counting : (from n : ℕ) → length (counting from n) ≡ n
length_counting from zero = refl
length_counting from (suc n) = ap suc (length_counting (suc from) n)

counted_at : {X : Type 0} (f : X → ℕ) (from n : ℕ) (xs : List X) → map f xs ≡ counting from n → (i : ℕ) (x : X) → slice_get xs i ≡ Some x → f x ≡ from + i
counted_at f from n [] e i x g = absurd (cc)
counted_at f from zero (y ∷ xs) e i x g = absurd (cc)
counted_at f from (suc n) (y ∷ xs) e zero x g = let same : y ≡ x = cc in let first : f y ≡ from = cc in omega (arith, first, ap f same)
counted_at f from (suc n) (y ∷ xs) e (suc i) x g = let rest : map f xs ≡ counting (suc from) n = cc in omega (arith, counted_at f (suc from) n xs rest i x g)

counted_from : {X : Type 0} (f : X → ℕ) (from : ℕ) (xs : List X) → ((i : ℕ) (x : X) → slice_get xs i ≡ Some x → f x ≡ from + i) → map f xs ≡ counting from (length xs)
counted_from f from [] h = refl
counted_from f from (x ∷ xs) h =
    let first : f x ≡ from = omega (arith, h 0 x refl) in
    let rest : map f xs ≡ counting (suc from) (length xs) = counted_from f (suc from) xs (λ i y g. omega (arith, h (suc i) y g)) in
    (λ i. first i ∷ rest i)

contains_map : {X Y : Type 0} (f : X → Y) (xs : List X) (x : X) → Contains xs x → Contains (map f xs) (f x)
contains_map f xs x h = (h.0, omega (arith, h.1, length_map f xs), index_map f xs h.0 x h.2)
  where
    index_map : {X Y : Type 0} (f : X → Y) (xs : List X) (i : ℕ) (x : X) → slice_index_or xs i x ≡ x → slice_index_or (map f xs) i (f x) ≡ f x
    index_map f [] i x e = refl
    index_map f (y ∷ xs) zero x e = ap f e
    index_map f (y ∷ xs) (suc i) x e = index_map f xs i x e

-- ---- the beginning

pub numbers_counted : {V S : Type 0} (number_at : S → ℕ) (start : List V) (units : List (RunningOf V S)) → start ≡ map (λ r. r.unit) units → AreNumbered number_at units → map (λ r. number_at r.seat) units ≡ counting 0 (length start)
numbers_counted number_at start units is numbered =
    counted_from (λ r. number_at r.seat) 0 units (λ i r g. omega (arith, numbered i r g))
    ∙ ap (counting 0) (sym (length_map (λ r. r.unit) units) ∙ ap length (sym is))

pub as_many : {V S : Type 0} (number_at : S → ℕ) (start : List V) (units jobs : List (RunningOf V S)) → start ≡ map (λ r. r.unit) units → map (λ j. number_at j.seat) jobs ≡ counting 0 (length start) → length jobs ≡ length units
as_many number_at start units jobs is numbered = sym (length_map (λ j. number_at j.seat) jobs) ∙ ap length numbered ∙ length_counting 0 (length start) ∙ ap length is ∙ length_map (λ r. r.unit) units

module _ {V F S K : Type 0} (fixed : V → F) (number_at : S → ℕ) (Sits : K → S → Type 0) (desk : Option K) (start : List V) where
  -- the unit that is taken from behind is at the site
  pub at_site : (d : K) (units : List (RunningOf V S)) → desk ≡ Some d → start ≡ map (λ r. r.unit) units → AreNumbered number_at units → All (λ r. Sits d r.seat) units
      → (left rest done : List (RunningOf V S)) (r : RunningOf V S) → left ≡ rest ++ r ∷ [] → left ++ done ≡ units → IsAtSite fixed number_at Sits desk start r
  at_site d units named is numbered sits left rest done r popped laid =
      let there : slice_get units (length rest) ≡ Some r = ap (λ l. slice_get l (length rest)) (sym laid ∙ ap (λ l. l ++ done) popped ∙ append_assoc rest (r ∷ []) done) ∙ get_after rest r done in
      let n = numbered (length rest) r there in
      let begun : slice_get start (number_at r.seat) ≡ Some r.unit = ap (λ l. slice_get l (number_at r.seat)) is ∙ ap (slice_get (map (λ r. r.unit) units)) n ∙ get_map (λ r. r.unit) units (length rest) r there in
      record {
        sits = λ e h. let same : d ≡ e = let one : Some d ≡ Some e = sym named ∙ h in cc in subst (λ x. Sits x r.seat) same (each_at (λ r. Sits d r.seat) units (length rest) r sits there);
        within = omega (arith, n, get_within units (length rest) r there, length_map (λ r. r.unit) units, ap length is);
        part = λ v h. let same : r.unit ≡ v = let one : Some r.unit ≡ Some v = sym begun ∙ h in cc in ap fixed same;
      }

-- ---- the end

ended_is : (d : Doing) → has_ended d ≡ true → d ≡ HasEnded
ended_is Gives e = absurd (cc)
ended_is Advances e = absurd (cc)
ended_is Takes e = absurd (cc)
ended_is HasEnded e = refl

module _ {I R D P V F S K : Type 0} (wants : P → D → Bool) (same : D → D → Bool) (opening : F → HeldOf D) (kinds : F → List KindOf) (edges : F → GraphOf D → Scope → ℕ → Scope → Type 0) (data_at : F → GraphOf D → Scope → D → Type 0) (asks : F → GraphOf D → Query P → Type 0) (result : F → GraphOf D → R → Type 0)
    (number : V → ℕ) (fixed : V → F) (stands : V → Past I R D P → Option (Op I R D P) → Type 0)
    (number_at : S → ℕ) (mine : S → List (Entry I R D P)) (spent : S → Bool) (begins : S → HeldOf D) (table : S → List KindOf) (Sits : K → S → Type 0) (desk : Option K) (start : List V) where
  abbrev Ended : S → Type 0
  Ended s = (run_of (setting_of wants same (begins s) (table s)) (mine s)).live (number_at s) ≡ false

  abbrev Kept : RunningOf V S → Type 0
  Kept r = IsKept wants same opening kinds edges data_at asks result number fixed stands number_at mine spent begins table Sits desk start r

  pub kept : (r : RunningOf V S) (s : S) → s ≡ r.seat → IsAtSite fixed number_at Sits desk start r → spent s ≡ false → (begins s ≡ opening (fixed r.unit)) × (table s ≡ kinds (fixed r.unit)) → SomeStands number fixed stands (mine s) (number_at s) (fixed r.unit)
      → IsHonestBy wants same opening kinds edges data_at asks result (mine s) (number_at s) (fixed r.unit) → (r.doing ≡ HasEnded → Ended s) → (r.stuck ≡ true → MetStuck (mine s)) → Kept r
  kept r s is at unspent run stood honest ended stuck = record {
    sits = at.sits;
    part = at.part;
    unspent = subst (λ x. spent x ≡ false) is unspent;
    run = subst (λ x. (begins x ≡ opening (fixed r.unit)) × (table x ≡ kinds (fixed r.unit))) is run;
    stood = subst (λ x. SomeStands number fixed stands (mine x) (number_at x) (fixed r.unit)) is stood;
    honest = subst (λ x. IsHonestBy wants same opening kinds edges data_at asks result (mine x) (number_at x) (fixed r.unit)) is honest;
    ended = λ e. subst (λ x. Ended x) is (ended (ended_is r.doing e));
    stuck = λ e. subst (λ x. MetStuck (mine x)) is (stuck e);
  }

  all_ended : (jobs : List (RunningOf V S)) → All Kept jobs → All (λ j. has_ended j.doing ≡ true) jobs → All Ended (map (λ j. j.seat) jobs)
  all_ended [] h e = All-nil Ended
  all_ended (j ∷ jobs) h e = All-cons Ended j.seat (map (λ j. j.seat) jobs) ((All-head Kept j jobs h).ended (All-head (λ j. has_ended j.doing ≡ true) j jobs e)) (all_ended jobs (All-tail Kept j jobs h) (All-tail (λ j. has_ended j.doing ≡ true) j jobs e))

  contained : (jobs : List (RunningOf V S)) (j : RunningOf V S) → All Kept jobs → Contains jobs j → Kept j
  contained jobs j h c = subst Kept c.2 (h c.0 j c.1)

  over : (jobs : List (RunningOf V S)) → All Kept jobs → IsOver jobs → All Ended (map (λ j. j.seat) jobs) ⊎ ((s : S) × Contains (map (λ j. j.seat) jobs) s × MetStuck (mine s))
  over jobs h (inl e) = inl (all_ended jobs h e)
  over jobs h (inr e) = inr (e.0.seat, contains_map (λ j. j.seat) jobs e.0 e.1, (contained jobs e.0 h e.1).stuck e.2)

  pub pooled : (d : K) (units : List (RunningOf V S)) → desk ≡ Some d → start ≡ map (λ r. r.unit) units → (jobs : List (RunningOf V S)) (seats : List S) → map (λ j. number_at j.seat) jobs ≡ counting 0 (length start) → All Kept jobs → IsOver jobs → seats ≡ map (λ j. j.seat) jobs
      → HasPooled wants same opening kinds edges data_at asks result number fixed stands number_at mine spent begins table Sits d units seats
  pooled d units named is jobs seats numbered h o laid = record {
    counted = ap length laid ∙ length_map (λ j. j.seat) jobs ∙ sym (length_map (λ j. number_at j.seat) jobs) ∙ ap length numbered ∙ length_counting 0 (length start) ∙ ap length is ∙ length_map (λ r. r.unit) units;
    each = λ u r s gu gs.
        let j = get_mapped (λ j. j.seat) jobs u s (ap (λ l. slice_get l u) (sym laid) ∙ gs) in
        let k : Kept j.0 = each_at Kept jobs u j.0 h j.1 in
        let n : number_at j.0.seat ≡ u = omega (arith, counted_at (λ j. number_at j.seat) 0 (length start) jobs numbered u j.0 j.1) in
        let begun : slice_get start (number_at j.0.seat) ≡ Some r.unit = ap (λ l. slice_get l (number_at j.0.seat)) is ∙ ap (slice_get (map (λ r. r.unit) units)) n ∙ get_map (λ r. r.unit) units u r gu in
        let part : fixed j.0.unit ≡ fixed r.unit = k.part r.unit begun in
        subst (λ x. IsPooled wants same opening kinds edges data_at asks result number fixed stands number_at mine spent begins table Sits d u (fixed r.unit) x) j.2
        (subst (λ f. IsPooled wants same opening kinds edges data_at asks result number fixed stands number_at mine spent begins table Sits d u f j.0.seat) part
        (record {
          numbered = n;
          sits = k.sits d named;
          unspent = k.unspent;
          run = k.run;
          stood = subst (λ m. SomeStands number fixed stands (mine j.0.seat) m (fixed j.0.unit)) n k.stood;
          honest = subst (λ m. IsHonestBy wants same opening kinds edges data_at asks result (mine j.0.seat) m (fixed j.0.unit)) n k.honest;
        }));
    over = subst (λ l. All Ended l ⊎ ((s : S) × Contains l s × MetStuck (mine s))) (sym laid) (over jobs h o);
  }

-- ---- the first ones of a list

take_next : {X : Type 0} (y : X) (xs : List X) (i n : ℕ) → n ≡ suc i → take n (y ∷ xs) ≡ y ∷ take i xs
take_next y xs i n e = ap (λ m. take m (y ∷ xs)) e

first_so_many : {X : Type 0} (P : X → Type 0) (xs : List X) (i n : ℕ) (x : X) → n ≡ i + 1 → i < length xs → x ≡ slice_index_or xs i x → P x → All P (take i xs) → All P (take n xs)
first_so_many P [] i n x m l e h all = absurd (omega (arith, l))
first_so_many P (y ∷ xs) zero n x m l e h all = subst (λ ys. All P ys) (sym (take_next y xs 0 n (omega (arith, m)))) (All-cons P y [] (subst P e h) (All-nil P))
first_so_many P (y ∷ xs) (suc i) n x m l e h all =
    subst (λ ys. All P ys) (sym (take_next y xs (i + 1) n (omega (arith, m))))
    (All-cons P y (take (i + 1) xs) (All-head P y (take i xs) all) (first_so_many P xs i (i + 1) x refl (omega (arith, l)) e h (All-tail P y (take i xs) all)))

pub first_ones : {X : Type 0} (P : X → Type 0) (xs : List X) (i : ℕ) (x : X) → i < length xs → x ≡ slice_index_or xs i x → P x → All P (take i xs) → All P (take (i + 1) xs)
first_ones P xs i x l e h all = first_so_many P xs i (i + 1) x refl l e h all

pub all_of_them : {X : Type 0} (P : X → Type 0) (xs : List X) (i : ℕ) → length xs ≤ i → All P (take i xs) → All P xs
all_of_them P xs i l all = subst (λ ys. All P ys) (take_all i xs l) all

-- ---- units at their seats

pub length_popped : {X : Type 0} (xs rest : List X) (x : X) → xs ≡ rest ++ x ∷ [] → length xs ≡ length rest + 1
length_popped xs rest x e = omega (arith, ap length e, length-append rest (x ∷ []))

-- where the last of two lists of one length stand
pub last_pair : {V S : Type 0} (P : ℕ → V → S → Type 0) (units left rest done : List V) (v : V) (seats others others' after : List S) (s : S) → ((u : ℕ) (v : V) (s : S) → slice_get units u ≡ Some v → slice_get seats u ≡ Some s → P u v s)
    → left ≡ rest ++ v ∷ [] → left ++ done ≡ units → others ≡ others' ++ s ∷ [] → others ++ after ≡ seats → length others ≡ length left → P (length rest) v s
last_pair P units left rest done v seats others others' after s each popped laid popped' laid' same =
    let n : length others' ≡ length rest = omega (arith, length_popped left rest v popped, length_popped others others' s popped', same) in
    each (length rest) v s
    (ap (λ l. slice_get l (length rest)) (sym laid ∙ ap (λ l. l ++ done) popped ∙ append_assoc rest (v ∷ []) done) ∙ get_after rest v done)
    (ap (λ l. slice_get l (length rest)) (sym laid' ∙ ap (λ l. l ++ after) popped' ∙ append_assoc others' (s ∷ []) after) ∙ ap (slice_get (others' ++ s ∷ after)) (sym n) ∙ get_after others' s after)

pub moves_over : {X : Type 0} (left rest done whole : List X) (x : X) → left ≡ rest ++ x ∷ [] → left ++ done ≡ whole → rest ++ x ∷ done ≡ whole
moves_over left rest done whole x popped laid = sym (append_assoc rest (x ∷ []) done) ∙ ap (λ l. l ++ done) (sym popped) ∙ laid

none_over : {X : Type 0} (left done whole : List X) → length left ≡ 0 → left ++ done ≡ whole → done ≡ whole
none_over [] done whole n e = e
none_over (x ∷ left) done whole n e = absurd (omega (arith, n))

pub turned_over : {X Y : Type 0} (f : X → Y) (xs ys : List X) (done whole left : List Y) → ys ≡ reverse xs → map f (reverse xs) ≡ done → length left ≡ 0 → left ++ done ≡ whole → map f ys ≡ whole
turned_over f xs ys done whole left t m n e = ap (map f) t ∙ m ∙ none_over left done whole n e

pub one_more : {X Y : Type 0} (f : X → Y) (xs more : List X) (x : X) (done : List Y) (y : Y) → more ≡ xs ++ x ∷ [] → f x ≡ y → map f (reverse xs) ≡ done → map f (reverse more) ≡ y ∷ done
one_more f xs more x done y pushed is m = ap (λ l. map f (reverse l)) pushed ∙ ap (map f) (reverse-append xs (x ∷ [])) ∙ (λ i. is i ∷ m i)

pub numbered_by : {V S : Type 0} (number_at : S → ℕ) (team : List (RunningOf V S)) (seats : List S) → map (λ x. x.seat) team ≡ seats → ((u : ℕ) (s : S) → slice_get seats u ≡ Some s → number_at s ≡ u) → AreNumbered number_at team
numbered_by number_at team seats laid each u r g = each u r.seat (ap (λ l. slice_get l u) (sym laid) ∙ get_map (λ x. x.seat) team u r g)

seen_at : {X : Type 0} (xs : List X) (i : ℕ) → i < length xs → (x : X) × (slice_get xs i ≡ Some x)
seen_at [] i l = absurd (omega (arith, l))
seen_at (x ∷ xs) zero l = (x, refl)
seen_at (x ∷ xs) (suc i) l = seen_at xs i (omega (arith, l))

-- each seat has the number of its place, where there is a unit for each
pub seats_numbered : {V S : Type 0} (number_at : S → ℕ) (units : List V) (seats : List S) → length seats ≡ length units → ((u : ℕ) (v : V) (s : S) → slice_get units u ≡ Some v → slice_get seats u ≡ Some s → number_at s ≡ u) → (u : ℕ) (s : S) → slice_get seats u ≡ Some s → number_at s ≡ u
seats_numbered number_at units seats same each u s g =
    let v = seen_at units u (omega (arith, get_within seats u s g, same)) in each u v.0 s v.1 g

all_turned : {X : Type 0} (P : X → Type 0) (xs : List X) → All P xs → All P (reverse xs)
all_turned P [] h = All-nil P
all_turned P (x ∷ xs) h = subst (λ l. All P l) (sym (reverse-append (x ∷ []) xs)) (All-append P (reverse xs) (x ∷ []) (all_turned P xs (All-tail P x xs h)) (All-cons P x [] (All-head P x xs h) (All-nil P)))

pub all_reversed : {X : Type 0} (P : X → Type 0) (xs ys : List X) → ys ≡ reverse xs → All P xs → All P ys
all_reversed P xs ys t h = subst (λ l. All P l) (sym t) (all_turned P xs h)

seats_each : {V S : Type 0} (P : S → Type 0) (team : List (RunningOf V S)) → All P (map (λ x. x.seat) team) → All (λ x. x.failed ≡ false) team → All (λ x. P x.seat × (x.failed ≡ false)) team
seats_each P [] h g = All-nil (λ x. P x.seat × (x.failed ≡ false))
seats_each P (x ∷ team) h g = All-cons (λ x. P x.seat × (x.failed ≡ false)) x team (All-head P x.seat (map (λ x. x.seat) team) h, All-head (λ x. x.failed ≡ false) x team g) (seats_each P team (All-tail P x.seat (map (λ x. x.seat) team) h) (All-tail (λ x. x.failed ≡ false) x team g))

-- what holds of each seat holds of each unit at it
pub seats_all : {V S : Type 0} (P : S → Type 0) (team : List (RunningOf V S)) (seats : List S) → map (λ x. x.seat) team ≡ seats → All P seats → All (λ x. x.failed ≡ false) team → All (λ x. P x.seat × (x.failed ≡ false)) team
seats_all P team seats laid h going = seats_each P team (subst (λ l. All P l) (sym laid) h) going

all_by_place : {X : Type 0} (P : X → Type 0) (xs : List X) → ((u : ℕ) (x : X) → slice_get xs u ≡ Some x → P x) → All P xs
all_by_place P [] h = All-nil P
all_by_place P (x ∷ xs) h = All-cons P x xs (h 0 x refl) (all_by_place P xs (λ u y g. h (suc u) y g))

module _ {I R D P V F S K : Type 0} {wants : P → D → Bool} {same : D → D → Bool} {opening : F → HeldOf D} {kinds : F → List KindOf} {edges : F → GraphOf D → Scope → ℕ → Scope → Type 0} {data_at : F → GraphOf D → Scope → D → Type 0} {asks : F → GraphOf D → Query P → Type 0} {result : F → GraphOf D → R → Type 0}
    {number : V → ℕ} {fixed : V → F} {stands : V → Past I R D P → Option (Op I R D P) → Type 0}
    {number_at : S → ℕ} {mine : S → List (Entry I R D P)} {spent : S → Bool} {begins : S → HeldOf D} {table : S → List KindOf} {Sits : K → S → Type 0} where
  -- the seats that come back are of the desk
  pub pooled_sit : (d : K) (units : List (RunningOf V S)) (seats : List S) → HasPooled wants same opening kinds edges data_at asks result number fixed stands number_at mine spent begins table Sits d units seats → All (Sits d) seats
  pooled_sit d units seats h = all_by_place (Sits d) seats (λ u s g.
      let r = seen_at units u (omega (arith, get_within seats u s g, h.counted)) in (h.each u r.0 s r.1 g).sits)
