-- The rules of the lock and of a deque: what lies there is what was given and not taken.
use Rattle.std.specs.Prelude.{◌≡◌, ℕ, ◌+◌, ◌≤◌, ◌==◌, cond, List, [], ◌∷◌, ◌++◌, length, Option, Some, None, MatchOption}
use mathlib.Core.Option.{some}
use lib.ListN.{get_elem?}
use Rattle.sg_board.specs.declared.worker_view.WorkerView.{WorkerView}

-- the weights of the numbers, added up
abbrev pub weigh : (ℕ → ℕ) → List ℕ → ℕ
weigh h [] = 0
weigh h (x ∷ xs) = h x + weigh h xs

-- how often a number stands in the list
abbrev pub times : ℕ → List ℕ → ℕ
times n xs = weigh (λ x. cond (x == n) 1 0) xs

-- what the passes have of this, added up
abbrev pub total : (WorkerView → ℕ) → List WorkerView → ℕ
total f [] = 0
total f (v ∷ vs) = f v + total f vs

-- a pass with so many parts, which gave these tasks and took these, and so many boards
abbrev pub account : ℕ → List ℕ → List ℕ → ℕ → WorkerView
account p g t k = record { parts = p; given = g; taken = t; boards = k }

-- the pass with so many parts
abbrev pub with_parts : ℕ → WorkerView → WorkerView
with_parts p v = account p v.given v.taken v.boards

-- the pass together with another one, which has one part
abbrev pub with_one_part : WorkerView → WorkerView → WorkerView
with_one_part v w = account (v.parts + 1) (v.given ++ w.given) (v.taken ++ w.taken) (v.boards + w.boards)

-- more than there are workers
abbrev pub all_parts : ℕ
all_parts = 4294967297

-- the weights of the tasks in these things, added up
abbrev pub weigh_all : {B : Type 0} → (B → List ℕ) → (ℕ → ℕ) → List B → ℕ
weigh_all numbers h [] = 0
weigh_all numbers h (b ∷ bs) = weigh h (numbers b) + weigh_all numbers h bs

-- what things have of this, added up
abbrev pub adds : {S : Type 0} → (S → ℕ) → List S → ℕ
adds f [] = 0
adds f (x ∷ xs) = f x + adds f xs

-- its parts of the right to know the whole
abbrev pub parts_of : WorkerView → ℕ
parts_of v = v.parts

-- the weight of the tasks that a pass gave
abbrev pub given_by : (ℕ → ℕ) → WorkerView → ℕ
given_by h v = weigh h v.given

-- the weight of the tasks that it took
abbrev pub taken_by : (ℕ → ℕ) → WorkerView → ℕ
taken_by h v = weigh h v.taken

-- a pass with no part has done nothing
pub record IsIdle (v : WorkerView) : Type 0 where
  pub boards : v.boards ≡ 0
  pub given : v.given ≡ []
  pub taken : v.taken ≡ []

-- all parts are given out, and what lies here is what was given and not taken
pub record Kept {B : Type 0} (numbers : B → List ℕ) (items : List B) (views : List WorkerView) : Type 0 where
  pub parts : total (λ v. v.parts) views ≡ all_parts
  pub whole : (h : ℕ → ℕ) → weigh_all numbers h items + total (taken_by h) views ≡ total (given_by h) views
  pub idle : (j : ℕ) (v : WorkerView) → get_elem? views j ≡ some v → v.parts ≡ 0 → IsIdle v

-- besides, there is at most one board
pub record KeptOne {B : Type 0} (numbers : B → List ℕ) (items : List B) (views : List WorkerView) : Type 0 where
  pub kept : Kept numbers items views
  pub single : length items + total (λ v. v.boards) views ≤ 1

-- these tasks were taken, and the pass has so many boards from then on
abbrev pub Took : WorkerView → List ℕ → ℕ → WorkerView → Type 0
Took v numbers k w = w ≡ account v.parts v.given (v.taken ++ numbers) k

-- these tasks were given
abbrev pub Gave : WorkerView → List ℕ → ℕ → WorkerView → Type 0
Gave v numbers k w = w ≡ account v.parts (v.given ++ numbers) v.taken k

-- a worker's pass between two tasks: it has its part, and no board
pub record IsFree (v : WorkerView) : Type 0 where
  pub parts : v.parts ≡ 1
  pub boards : v.boards ≡ 0

-- who has every part knows that where nothing is left all that was given was taken
abbrev pub IsBalanced : WorkerView → Type 0
IsBalanced v = v.parts ≡ all_parts → (h : ℕ → ℕ) → weigh h v.taken ≡ weigh h v.given

-- the weight of a task, where there is one
abbrev pub weigh_option : {T : Type 0} → (T → ℕ) → (ℕ → ℕ) → Option T → ℕ
weigh_option number h None = 0
weigh_option number h (Some t) = h (number t)

-- the task was taken, where there is one, and otherwise nothing has changed
abbrev pub TookOption : {T : Type 0} → (T → ℕ) → WorkerView → Option T → WorkerView → Type 0
TookOption number v o w = MatchOption o (w ≡ v) (λ t. Took v (number t ∷ []) v.boards w)

-- one of these passes took the task, where there is one
abbrev pub PassesTook : {T : Type 0} → (T → ℕ) → List WorkerView → Option T → List WorkerView → Type 0
PassesTook number old o new = (h : ℕ → ℕ) → total (taken_by h) new ≡ total (taken_by h) old + weigh_option number h o

-- the task came to those of the first numbers, or comes back
abbrev pub IsPutDown : {T : Type 0} → (T → ℕ) → T → Option T → List ℕ → List ℕ → Type 0
IsPutDown number t back old new = (h : ℕ → ℕ) → weigh_option number h back + weigh h new ≡ h (number t) + weigh h old

-- tasks of the one weight came from elsewhere, and tasks of the other went there: for the rest, what was taken is given or kept. The shape stays
pub record Moves {S X : Type 0} (given taken : S → (ℕ → ℕ) → ℕ) (shape : S → X) (old new : S) (came went : (ℕ → ℕ) → ℕ) : Type 0 where
  pub same : shape new ≡ shape old
  pub flow : (h : ℕ → ℕ) → taken new h + given old h + came h ≡ taken old h + given new h + went h
