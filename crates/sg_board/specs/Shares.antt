-- What a worker took, and what it gave or keeps.
use Rattle.std.specs.Prelude.{◌≡◌, ℕ, ◌+◌, ◌≤◌, List, [], map, Vec, vec_capacity}
use Rattle.crossbeam_queue.specs.Passes.{view as lock_view}
use Rattle.crossbeam_deque.specs.declared.handles.Worker.{Worker}
use Rattle.crossbeam_deque.specs.Handles.{view, worker_view, worker_deque, stealer_deque}
use Rattle.sg_board.specs.declared.closing.Left.{Left}
use Rattle.sg_board.specs.declared.share.Share.{Share}
use Rattle.sg_board.specs.declared.hand.Hand.{Hand}
use Rattle.sg_board.specs.declared.task.Task.{Ghosts}
use Rattle.sg_board.specs.declared.thief.Thief.{Thief}
use Rattle.sg_board.specs.declared.worker_view.WorkerView.{WorkerView}
use Rattle.sg_board.specs.Shapes.{DequeId, Shape, shape_of}
use Rattle.sg_board.specs.Weighing.{weigh, total, adds, given_by, taken_by, Moves}

module _ {T : Type 0} where
  -- the weight of what it took from the deques
  abbrev pub taken : Share T → (ℕ → ℕ) → ℕ
  taken s h = taken_by h (worker_view s.owner) + total (taken_by h) (map (λ t. view t.pass) s.thieves.items)

  -- the weight of what it gave to them or keeps
  abbrev pub given : (T → ℕ) → Share T → (ℕ → ℕ) → ℕ
  given number s h = given_by h (worker_view s.owner) + total (given_by h) (map (λ t. view t.pass) s.thieves.items) + weigh h (map number s.kept.items)

  abbrev pub shape : Share T → Shape
  shape s = shape_of (worker_deque s.owner) (worker_view s.owner).parts (map (λ t. stealer_deque t.stealer) s.thieves.items)

  abbrev pub ShareMoves : (T → ℕ) → Share T → Share T → ((ℕ → ℕ) → ℕ) → ((ℕ → ℕ) → ℕ) → Type 0
  ShareMoves number = Moves (given number) taken shape

  -- the task came to it
  abbrev pub ShareGets : (T → ℕ) → Share T → Share T → T → Type 0
  ShareGets number old new t = ShareMoves number old new (λ h. h (number t)) (λ h. 0)

  -- ways to deques: what was taken and given through them, and the deques
  abbrev pub ways_taken : (ℕ → ℕ) → List (Thief T) → ℕ
  ways_taken h ts = total (taken_by h) (map (λ t. view t.pass) ts)

  abbrev pub ways_given : (ℕ → ℕ) → List (Thief T) → ℕ
  ways_given h ts = total (given_by h) (map (λ t. view t.pass) ts)

  abbrev pub ways : List (Thief T) → List DequeId
  ways ts = map (λ t. stealer_deque t.stealer) ts

  -- the ways of all workers
  abbrev pub all_ways_taken : {A : Type 0} → (ℕ → ℕ) → List (Vec (Thief T) A) → ℕ
  all_ways_taken h ws = adds (λ w. ways_taken h w.items) ws

  abbrev pub all_ways_given : {A : Type 0} → (ℕ → ℕ) → List (Vec (Thief T) A) → ℕ
  all_ways_given h ws = adds (λ w. ways_given h w.items) ws

  -- nothing is left of workers yet, and there is room for so many
  abbrev pub HasRoom : ℕ → Left T → Type 0
  HasRoom n left = (left.owners.items ≡ []) × (left.ways.items ≡ []) × (left.spare.items ≡ []) × (n ≤ vec_capacity left.owners) × (n ≤ vec_capacity left.ways) × (n ≤ vec_capacity left.spare)

  -- ways to these deques, which nobody went
  pub record AreNew (ds : List DequeId) (ts : List (Thief T)) : Type 0 where
    pub ways : ways ts ≡ ds
    pub taken : (h : ℕ → ℕ) → ways_taken h ts ≡ 0
    pub given : (h : ℕ → ℕ) → ways_given h ts ≡ 0

module _ {T : Type 0} {G : Ghosts T} where
  -- the same with the board
  abbrev pub hand_taken : Hand T G → (ℕ → ℕ) → ℕ
  hand_taken s h = taken_by h (lock_view s.pass) + taken s.share h

  abbrev pub hand_given : (T → ℕ) → Hand T G → (ℕ → ℕ) → ℕ
  hand_given number s h = given_by h (lock_view s.pass) + given number s.share h

  abbrev pub hand_shape : Hand T G → Shape
  hand_shape s = shape s.share

  abbrev pub HandMoves : (T → ℕ) → Hand T G → Hand T G → ((ℕ → ℕ) → ℕ) → ((ℕ → ℕ) → ℕ) → Type 0
  HandMoves number = Moves (hand_given number) hand_taken hand_shape

  -- what all workers took, and what they gave or keep
  abbrev pub hands_taken : List (Hand T G) → (ℕ → ℕ) → ℕ
  hands_taken xs h = adds (λ x. hand_taken x h) xs

  abbrev pub hands_given : (T → ℕ) → List (Hand T G) → (ℕ → ℕ) → ℕ
  hands_given number xs h = adds (λ x. hand_given number x h) xs

  abbrev pub hand_shapes : List (Hand T G) → List Shape
  hand_shapes xs = map hand_shape xs

  abbrev pub HandsMove : (T → ℕ) → List (Hand T G) → List (Hand T G) → ((ℕ → ℕ) → ℕ) → ((ℕ → ℕ) → ℕ) → Type 0
  HandsMove number = Moves (hands_given number) hands_taken hand_shapes

-- ---- the end

-- what workers took from their own deques, and what they gave to them
abbrev pub owners_taken : {T A P : Type 0} → (ℕ → ℕ) → List (Worker T A WorkerView P) → ℕ
owners_taken h os = adds (λ o. taken_by h (worker_view o)) os

abbrev pub owners_given : {T A P : Type 0} → (ℕ → ℕ) → List (Worker T A WorkerView P) → ℕ
owners_given h os = adds (λ o. given_by h (worker_view o)) os

-- of things on which tasks lie: what changed there between the one and the other
module _ {T A P B : Type 0} (numbers : B → List ℕ) where
  -- what was given to the deque and not taken came there
  abbrev pub IsDrained : Worker T A WorkerView P → B → B → Type 0
  IsDrained owner old new = (h : ℕ → ℕ) → given_by h (worker_view owner) + weigh h (numbers old) ≡ taken_by h (worker_view owner) + weigh h (numbers new)

  -- what was given to these deques and not taken came there
  abbrev pub AreDrained : {Z : Type 0} → List (Worker T A WorkerView P) → List (Vec (Thief T) Z) → B → B → Type 0
  AreDrained owners all_ways old new = (h : ℕ → ℕ) → owners_given h owners + all_ways_given h all_ways + weigh h (numbers old) ≡ owners_taken h owners + all_ways_taken h all_ways + weigh h (numbers new)

module _ {T B : Type 0} {G : Ghosts T} (number : T → ℕ) (numbers : B → List ℕ) where
  -- the pass that knew the one knows the other now, with what these workers' passes knew, and what the workers kept or left in their deques came there
  abbrev pub AreGathered : WorkerView → WorkerView → List (Hand T G) → B → B → Type 0
  AreGathered v w hands old new = (h : ℕ → ℕ) → taken_by h w + given_by h v + hands_given number hands h + weigh h (numbers old) ≡ taken_by h v + hands_taken hands h + given_by h w + weigh h (numbers new)

  -- the same, where what they left in their deques is still there
  abbrev pub AreTakenApart : {A P Z : Type 0} → WorkerView → WorkerView → List (Hand T G) → List (Worker T A WorkerView P) → List (Vec (Thief T) Z) → B → B → Type 0
  AreTakenApart v w hands owners all_ways old new =
      (h : ℕ → ℕ) → taken_by h w + owners_taken h owners + all_ways_taken h all_ways + given_by h v + hands_given number hands h + weigh h (numbers old)
      ≡ taken_by h v + hands_taken hands h + given_by h w + owners_given h owners + all_ways_given h all_ways + weigh h (numbers new)
