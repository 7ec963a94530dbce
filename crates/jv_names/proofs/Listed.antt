-- Scopes that the opening of a layout has: those where queries of names start, and members.
use Rattle.std.proofs.Common.{◌≡◌, ℕ, ◌+◌, ◌<◌, false, true, IsTrue, length, sym, subst, arith}
use Rattle.std.specs.List.{All, Contains}
use Rattle.std.proofs.lemmas.List.Elements.{All-nil, All-map, All-weaker, All-contains_itself}
use Rattle.sg_base.specs.declared.scope.Scope.{Scope}
use Rattle.sg_base.proofs.Finite.{Contains-filter}
use Rattle.jv_layout.specs.declared.place.Place.{Place}
use Rattle.jv_layout.specs.declared.place.Place.TheVariants.{Outside, Root, Unnamed, Package, File, Ty, Member, Signature}
use Rattle.jv_layout.specs.Fits.{is_member_by}
use Rattle.jv_layout.specs.Folder.{LayoutOf}
use Rattle.jv_layout.specs.Laws.{IsScopeOf}
use Rattle.jv_layout.specs.Readers.{members_at, members_of, members_of_type}
use Rattle.jv_layout.specs.Scopes.{scope_at, first_file, first_type, first_member, member_scope, place_of, scope_count}
use Rattle.jv_layout.specs.Skeleton.{below}
use Rattle.jv_layout.proofs.SoundLists.{from_below}
use Rattle.jv_layout.proofs.SoundPlaces.{listed, placed}
use Rattle.jv_names.specs.Bounds.{is_start, IsListed, IsMemberScope, IsTypeScope}
use Rattle.jv_names.proofs.Bounds.{type_starts}

module _ (l : LayoutOf) where
  listed_at : (s : Scope) (n : ℕ) → s ≡ scope_at n → n < scope_count l → IsListed l s
  listed_at s n e h = subst (IsListed l) (sym e) (listed l n h)

  start_at : (p : Place) (s : Scope) → IsTrue (is_start p) → IsScopeOf l p s → IsListed l s
  start_at Root s h at = listed_at s 0 at (omega arith)
  start_at Unnamed s h at = listed_at s 1 at (omega arith)
  start_at (Package p) s h at = listed_at s (2 + p) at.1 (omega (arith, at.0))
  start_at (File f) s h at = listed_at s (first_file l + f) at.1 (omega (arith, at.0))
  start_at (Ty t) s h at = listed_at s (first_type l + t) at.1 (omega (arith, at.0))
  start_at Outside s h at = let e : false ≡ true = h in absurd (cc)
  start_at (Member m) s h at = let e : false ≡ true = h in absurd (cc)
  start_at (Signature m) s h at = let e : false ≡ true = h in absurd (cc)

  -- where queries of names start is a scope of the opening
  pub start_is_listed : (s : Scope) → IsTrue (is_start (place_of l s)) → IsListed l s
  start_is_listed s h = start_at (place_of l s) s h (placed l s)

  pub type_is_listed : (s : Scope) → IsTypeScope l s → IsListed l s
  type_is_listed s h = start_is_listed s (type_starts (place_of l s) h)

  module _ (label : ℕ) where
    member_at_place : (p : Place) (s : Scope) → IsTrue (is_member_by l label p) → IsScopeOf l p s → IsListed l s
    member_at_place (Member m) s h at = listed_at s (first_member l + m) at.1 (omega (arith, at.0))
    member_at_place Outside s h at = let e : false ≡ true = h in absurd (cc)
    member_at_place Root s h at = let e : false ≡ true = h in absurd (cc)
    member_at_place Unnamed s h at = let e : false ≡ true = h in absurd (cc)
    member_at_place (Package p) s h at = let e : false ≡ true = h in absurd (cc)
    member_at_place (File f) s h at = let e : false ≡ true = h in absurd (cc)
    member_at_place (Ty t) s h at = let e : false ≡ true = h in absurd (cc)
    member_at_place (Signature m) s h at = let e : false ≡ true = h in absurd (cc)

    -- a field, a method or a constructor is one
    pub member_is_listed : (s : Scope) → IsMemberScope l label s → IsListed l s
    member_is_listed s h = member_at_place (place_of l s) s h (placed l s)

  row_is_listed : (t m : ℕ) → Contains (members_of_type l t) m → IsListed l (member_scope l m)
  row_is_listed t m c =
      let h : m < length l.members = from_below (length l.members) m (Contains-filter _ (below (length l.members)) m c).0 in
      listed l (first_member l + m) (omega (arith, h))

  members_at_listed : (p : Place) → All (IsListed l) (members_at l p)
  members_at_listed (Ty t) =
      All-map (IsListed l) (member_scope l) (members_of_type l t) (All-weaker (Contains (members_of_type l t)) (λ (m : ℕ). IsListed l (member_scope l m)) (row_is_listed t) (members_of_type l t) (All-contains_itself (members_of_type l t)))
  members_at_listed Outside = All-nil (IsListed l)
  members_at_listed Root = All-nil (IsListed l)
  members_at_listed Unnamed = All-nil (IsListed l)
  members_at_listed (Package p) = All-nil (IsListed l)
  members_at_listed (File f) = All-nil (IsListed l)
  members_at_listed (Member m) = All-nil (IsListed l)
  members_at_listed (Signature m) = All-nil (IsListed l)

  -- and so are the members of a type
  pub members_listed : (c : Scope) → All (IsListed l) (members_of l c)
  members_listed c = members_at_listed (place_of l c)
