-- The tasks on a board, by their numbers.
use Rattle.std.specs.Prelude.{◌≡◌, ℕ, zero, suc, List, [], ◌∷◌, ◌++◌, Option, Some, None, slice_get}
use Rattle.sg_board.specs.declared.place.Place.{Place}
use Rattle.sg_board.specs.declared.place.Place.TheVariants.{Away, Resting, Waiting, Ended}

-- so many numbers, from this one on
abbrev pub counting : ℕ → ℕ → List ℕ
counting from zero = []
counting from (suc n) = from ∷ counting (suc from) n

module _ {T : Type 0} where
  -- the task that lies at a place, where it is not with the workers
  abbrev pub task_at : Place T → Option T
  task_at (Away woken) = None
  task_at (Resting t) = Some t
  task_at (Waiting t) = Some t
  task_at (Ended t) = Some t

  -- the place has its task
  abbrev pub HasTask : Place T → Type 0
  HasTask p = (t : T) × (task_at p ≡ Some t)

  -- the number of the task that lies at a place
  abbrev pub number_at : (T → ℕ) → Place T → List ℕ
  number_at number (Away woken) = []
  number_at number (Resting t) = number t ∷ []
  number_at number (Waiting t) = number t ∷ []
  number_at number (Ended t) = number t ∷ []

  -- the numbers of the tasks that lie at these places
  abbrev pub numbers_at : (T → ℕ) → List (Place T) → List ℕ
  numbers_at number [] = []
  numbers_at number (p ∷ ps) = number_at number p ++ numbers_at number ps

  -- each task lies at the place of its number
  abbrev pub ArePlaced : (T → ℕ) → List (Place T) → Type 0
  ArePlaced number ps = (i : ℕ) (p : Place T) (t : T) → slice_get ps i ≡ Some p → task_at p ≡ Some t → number t ≡ i
