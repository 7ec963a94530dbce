-- Keys of types and members: a later one with the key of an earlier one is a duplicate.
use Rattle.std.specs.Prelude.{ℕ, ◌==◌, ◌&&◌, Bool, not, List, length, map, take}
use Rattle.std.specs.List.{filter, list_any, slice_index_or}
use Rattle.sg_base.specs.Scope.{is_scope}
use Rattle.jv_instance.specs.declared.labels.TheConstants.{TYPE}
use Rattle.jv_layout.specs.declared.firsts.Key.{Key}
use Rattle.jv_layout.specs.declared.rows.TypeRow.{TypeRow}
use Rattle.jv_layout.specs.declared.rows.MemberRow.{MemberRow}
use Rattle.jv_layout.specs.Folder.{LayoutOf}
use Rattle.jv_layout.specs.Scopes.{root_scope, type_scope}
use Rattle.jv_layout.specs.Skeleton.{below, home_of, label_of}

-- the key of a type, and that of a member
abbrev pub type_key : LayoutOf → TypeRow → Key
type_key l r = record { home = home_of l r; label = TYPE; name = r.name }

-- the key of a member: the scope of its type, the label of its edge, and its name
abbrev pub member_key : LayoutOf → MemberRow → Key
member_key l r = record { home = type_scope l r.owner; label = label_of r.kind; name = r.name }

-- two keys are the same
abbrev pub is_key : Key → Key → Bool
is_key a b = is_scope a.home b.home && ((a.label == b.label) && (a.name.0 == b.name.0))

-- a key that stands for none
abbrev pub no_key : Key
no_key = record { home = root_scope; label = 0; name = record { 0 = 0 } }

-- no key before this place is the one that stands there
abbrev pub is_first : List Key → ℕ → Bool
is_first ks i = not (list_any (is_key (slice_index_or ks i no_key)) (take i ks))

-- the places of the keys that no earlier key is
abbrev pub firsts : List Key → List ℕ
firsts ks = filter (is_first ks) (below (length ks))

-- at each place whether an earlier key is the one that stands there
abbrev pub repeats : List Key → List Bool
repeats ks = map (λ i. not (is_first ks i)) (below (length ks))
