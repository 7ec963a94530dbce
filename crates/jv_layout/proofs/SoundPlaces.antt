-- The places of the scopes of a layout.
use Rattle.std.proofs.Common.{◌≡◌, ℕ, ◌+◌, ◌-◌, ◌<◌, ◌≤◌, Bool, cond, eqb, ltb, inl, inr, length, refl, sym, ap, ◌∙◌, subst, arith}
use Rattle.std.specs.List.{Contains}
use Rattle.std.proofs.lemmas.Bool.{cases_lt, cases_Bool, ltb-true, ltb-false, lt-ltb, le-ltb, eqb-true, eqb-false}
use Rattle.sg_base.specs.declared.scope.Scope.{Scope}
use Rattle.sg_state.specs.Opening.{nobody}
use Rattle.jv_layout.specs.declared.place.Place.{Place}
use Rattle.jv_layout.specs.declared.place.Place.TheVariants.{Outside, Root, Unnamed, Package, File, Ty, Member, Signature}
use Rattle.jv_layout.specs.Folder.{LayoutOf}
use Rattle.jv_layout.specs.Laws.{IsScopeOf, ScopesHavePlaces}
use Rattle.jv_layout.specs.Scopes.{scope_at, first_file, first_type, first_member, first_signature, scope_count, place_at, place_of}
use Rattle.jv_layout.specs.Skeleton.{skeleton_of}
use Rattle.jv_layout.proofs.SoundLists.{in_image, from_image}

-- a choice by an order, where it is known, and what holds of both ways
cond_here : {X : Type 0} (a b : ℕ) (x y z : X) → a < b → x ≡ z → cond (ltb a b) x y ≡ z
cond_here a b x y z h e = ap (λ t. cond t x y) (lt-ltb a b h) ∙ e

cond_there : {X : Type 0} (a b : ℕ) (x y z : X) → b ≤ a → y ≡ z → cond (ltb a b) x y ≡ z
cond_there a b x y z h e = ap (λ t. cond t x y) (le-ltb a b h) ∙ e

either_way : {X : Type 0} (P : X → Type 0) (a b : ℕ) (x y : X) → (a < b → P x) → (b ≤ a → P y) → P (cond (ltb a b) x y)
either_way P a b x y f g = elim (cases_Bool (ltb a b)) [
  | inl t ↦ subst (λ (c : Bool). P (cond c x y)) (sym t) (f (ltb-true a b t))
  | inr t ↦ subst (λ (c : Bool). P (cond c x y)) (sym t) (g (ltb-false a b t))
]

-- the number is that of the scope for this row, and no scope's where it is outside
abbrev IsNumberOf : LayoutOf → ℕ → Place → Type 0
IsNumberOf l n Outside = scope_count l ≤ n
IsNumberOf l n Root = n ≡ 0
IsNumberOf l n Unnamed = n ≡ 1
IsNumberOf l n (Package p) = (p < length l.packages) × (n ≡ 2 + p)
IsNumberOf l n (File f) = (f < length l.files) × (n ≡ first_file l + f)
IsNumberOf l n (Ty t) = (t < length l.types) × (n ≡ first_type l + t)
IsNumberOf l n (Member m) = (m < length l.members) × (n ≡ first_member l + m)
IsNumberOf l n (Signature m) = (m < length l.members) × (n ≡ first_signature l + m)

abbrev scope_by : ℕ → ℕ → Scope
scope_by u n = record { unit = u; serial = n }

scope_is : (s : Scope) (n : ℕ) → s.unit ≡ nobody → s.serial ≡ n → s ≡ scope_at n
scope_is s n a b = ap (λ (u : ℕ). scope_by u s.serial) a ∙ ap (scope_by nobody) b

module _ (l : LayoutOf) where
  number_placed : (n : ℕ) → IsNumberOf l n (place_at l n)
  number_placed n =
      either_way (IsNumberOf l n) n 1 Root _ (λ h. omega arith) (λ a.
      either_way (IsNumberOf l n) n 2 Unnamed _ (λ h. omega arith) (λ b.
      either_way (IsNumberOf l n) n (first_file l) (Package (n - 2)) _ (λ h. (omega arith, omega arith)) (λ c.
      either_way (IsNumberOf l n) n (first_type l) (File (n - first_file l)) _ (λ h. (omega arith, omega arith)) (λ d.
      either_way (IsNumberOf l n) n (first_member l) (Ty (n - first_type l)) _ (λ h. (omega arith, omega arith)) (λ e.
      either_way (IsNumberOf l n) n (first_signature l) (Member (n - first_member l)) _ (λ h. (omega arith, omega arith)) (λ f.
      either_way (IsNumberOf l n) n (scope_count l) (Signature (n - first_signature l)) Outside (λ h. (omega arith, omega arith)) (λ g. g)))))))

  pub listed : (n : ℕ) → n < scope_count l → Contains (skeleton_of l).scopes (scope_at n)
  listed n h = in_image scope_at (scope_count l) n h

  pub few_serials : (s : Scope) → Contains (skeleton_of l).scopes s → (s.unit ≡ nobody) × (s.serial < scope_count l)
  few_serials s c =
      let h = from_image scope_at (scope_count l) s c in
      let e : s.serial ≡ h.0 = ap (λ (z : Scope). z.serial) h.2 in
      (ap (λ (z : Scope). z.unit) h.2, omega (arith, h.1))

  scope_numbered : (p : Place) (s : Scope) → s.unit ≡ nobody → IsNumberOf l s.serial p → IsScopeOf l p s
  scope_numbered Outside s u h = λ c. let k = few_serials s c in omega (arith, k.1)
  scope_numbered Root s u h = scope_is s 0 u h
  scope_numbered Unnamed s u h = scope_is s 1 u h
  scope_numbered (Package p) s u h = (h.0, scope_is s (2 + p) u h.1)
  scope_numbered (File f) s u h = (h.0, scope_is s (first_file l + f) u h.1)
  scope_numbered (Ty t) s u h = (h.0, scope_is s (first_type l + t) u h.1)
  scope_numbered (Member m) s u h = (h.0, scope_is s (first_member l + m) u h.1)
  scope_numbered (Signature m) s u h = (h.0, scope_is s (first_signature l + m) u h.1)

  pub placed : (s : Scope) → IsScopeOf l (place_of l s) s
  placed s = elim (cases_Bool (eqb s.unit nobody)) [
    | inl t ↦ subst (λ (b : Bool). IsScopeOf l (cond b (place_at l s.serial) Outside) s) (sym t) (scope_numbered (place_at l s.serial) s (eqb-true s.unit nobody t) (number_placed s.serial))
    | inr t ↦ subst (λ (b : Bool). IsScopeOf l (cond b (place_at l s.serial) Outside) s) (sym t) (λ c. eqb-false s.unit nobody t (few_serials s c).0)
  ]

  -- the places of scopes, by their rows
  pub package_place : (p : ℕ) → p < length l.packages → place_at l (2 + p) ≡ Package p
  package_place p h =
      cond_there (2 + p) 1 Root _ (Package p) (omega arith) (
      cond_there (2 + p) 2 Unnamed _ (Package p) (omega arith) (
      cond_here (2 + p) (first_file l) (Package (2 + p - 2)) _ (Package p) (omega arith) (ap Package (omega arith))))

  past_packages : (n : ℕ) (p : Place) → first_file l ≤ n → cond (ltb n (first_type l)) (File (n - first_file l)) (cond (ltb n (first_member l)) (Ty (n - first_type l)) (cond (ltb n (first_signature l)) (Member (n - first_member l)) (cond (ltb n (scope_count l)) (Signature (n - first_signature l)) Outside))) ≡ p → place_at l n ≡ p
  past_packages n p h e = cond_there n 1 Root _ p (omega arith) (cond_there n 2 Unnamed _ p (omega arith) (cond_there n (first_file l) (Package (n - 2)) _ p h e))

  past_types : (n : ℕ) (p : Place) → first_member l ≤ n → cond (ltb n (first_signature l)) (Member (n - first_member l)) (cond (ltb n (scope_count l)) (Signature (n - first_signature l)) Outside) ≡ p → place_at l n ≡ p
  past_types n p h e = past_packages n p (omega arith) (cond_there n (first_type l) (File (n - first_file l)) _ p (omega arith) (cond_there n (first_member l) (Ty (n - first_type l)) _ p h e))

  pub file_place : (f : ℕ) → f < length l.files → place_at l (first_file l + f) ≡ File f
  file_place f h = past_packages (first_file l + f) (File f) (omega arith) (cond_here (first_file l + f) (first_type l) (File (first_file l + f - first_file l)) _ (File f) (omega arith) (ap File (omega arith)))

  pub type_place : (t : ℕ) → t < length l.types → place_at l (first_type l + t) ≡ Ty t
  type_place t h =
      past_packages (first_type l + t) (Ty t) (omega arith) (
      cond_there (first_type l + t) (first_type l) (File (first_type l + t - first_file l)) _ (Ty t) (omega arith) (
      cond_here (first_type l + t) (first_member l) (Ty (first_type l + t - first_type l)) _ (Ty t) (omega arith) (ap Ty (omega arith))))

  pub member_place : (m : ℕ) → m < length l.members → place_at l (first_member l + m) ≡ Member m
  member_place m h = past_types (first_member l + m) (Member m) (omega arith) (cond_here (first_member l + m) (first_signature l) (Member (first_member l + m - first_member l)) _ (Member m) (omega arith) (ap Member (omega arith)))

  past_members : (n : ℕ) (p : Place) → first_signature l ≤ n → cond (ltb n (scope_count l)) (Signature (n - first_signature l)) Outside ≡ p → place_at l n ≡ p
  past_members n p h e = past_types n p (omega arith) (cond_there n (first_signature l) (Member (n - first_member l)) _ p h e)

  pub signature_place : (m : ℕ) → m < length l.members → place_at l (first_signature l + m) ≡ Signature m
  signature_place m h = past_members (first_signature l + m) (Signature m) (omega arith) (cond_here (first_signature l + m) (scope_count l) (Signature (first_signature l + m - first_signature l)) Outside (Signature m) (omega arith) (ap Signature (omega arith)))

  outside_place : (s : Scope) → (Contains (skeleton_of l).scopes s → ⊥) → place_of l s ≡ Outside
  outside_place s none = elim (cases_Bool (eqb s.unit nobody)) [
    | inl t ↦ ap (λ (b : Bool). cond b (place_at l s.serial) Outside) t ∙ elim (cases_lt s.serial (scope_count l)) [
      | inl h ↦ absurd (none (subst (λ (z : Scope). Contains (skeleton_of l).scopes z) (sym (scope_is s s.serial (eqb-true s.unit nobody t) refl)) (listed s.serial h)))
      | inr h ↦ past_members s.serial Outside (omega arith) (cond_there s.serial (scope_count l) (Signature (s.serial - first_signature l)) Outside Outside h refl)
    ]
    | inr t ↦ ap (λ (b : Bool). cond b (place_at l s.serial) Outside) t
  ]

  place_is : (p : Place) (s : Scope) → IsScopeOf l p s → place_of l s ≡ p
  place_is Outside s h = outside_place s h
  place_is Root s h = ap (place_of l) h
  place_is Unnamed s h = ap (place_of l) h
  place_is (Package p) s h = ap (place_of l) h.1 ∙ package_place p h.0
  place_is (File f) s h = ap (place_of l) h.1 ∙ file_place f h.0
  place_is (Ty t) s h = ap (place_of l) h.1 ∙ type_place t h.0
  place_is (Member m) s h = ap (place_of l) h.1 ∙ member_place m h.0
  place_is (Signature m) s h = ap (place_of l) h.1 ∙ signature_place m h.0

pub scopes_have_places : ScopesHavePlaces
scopes_have_places l s p = ((λ e. subst (λ (q : Place). IsScopeOf l q s) e (placed l s)), place_is l p s)
