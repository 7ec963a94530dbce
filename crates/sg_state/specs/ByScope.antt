-- Lists of scopes with values, and where each scope lies in them.
use Rattle.std.specs.Prelude.{◌≡◌, ℕ, ◌<◌, ◌-◌, List, length, Option, Some, None, Bool, cond, nat_lt, ◌==◌, ◌&&◌, slice_set, slice_index_or}
use Rattle.std.specs.List.{position_from}
use Rattle.std.specs.Map.{lookup, set_value}
use Rattle.sg_base.specs.declared.scope.Scope.{Scope}
use Rattle.sg_base.specs.Scope.{is_scope}
use Rattle.sg_state.specs.declared.scope_index.ScopeIndex.{ScopeIndex}
use Rattle.sg_state.specs.Opening.{nobody}

-- whether the scope has an entry in the table
abbrev pub in_table : ScopeIndex → Scope → Bool
in_table i s = (s.unit == nobody) && nat_lt s.serial (length i.table.items)

-- where a scope with this entry lies, if it is there
abbrev pub place_of : ℕ → Option ℕ
place_of entry = cond (entry == 0) None (Some (entry - 1))

-- where the scope lies, if it is there
abbrev pub place_in : ScopeIndex → Scope → Option ℕ
place_in i s = cond (in_table i s) (place_of (slice_index_or i.table.items s.serial 0)) (lookup (is_scope s) i.others.entries)

-- the scope lies here from now on, and each other scope where it lay
abbrev pub Notes : ScopeIndex → ScopeIndex → Scope → ℕ → Type 0
Notes old new s at = (t : Scope) → place_in new t ≡ cond (is_scope s t) (Some at) (place_in old t)

-- each scope lies where it lay
abbrev pub KeepsNotes : ScopeIndex → ScopeIndex → Type 0
KeepsNotes old new = (t : Scope) → place_in new t ≡ place_in old t

-- each scope of the list lies where the index has it, and the index has no others
abbrev pub IsIndexed : {V : Type 0} → ScopeIndex → List (Scope × V) → Type 0
IsIndexed i es = (s : Scope) → place_in i s ≡ position_from (λ e. is_scope s e.0) 0 es

-- the key that passes lies here: what is read here is its value, and what is written here is written as its value
pub record LiesAt {K V : Type 0} (test : K → Bool) (es : List (K × V)) (at : ℕ) : Type 0 where
  pub within : at < length es
  pub found : (e : K × V) → e ≡ slice_index_or es at e → lookup test es ≡ Some e.1
  pub written : (e : K × V) (w : V) → e ≡ slice_index_or es at e → slice_set es at (e.0, w) ≡ set_value test es w
