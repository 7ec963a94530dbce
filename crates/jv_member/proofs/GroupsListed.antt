-- What holds of scopes holds of those that are put together, and of those in groups by name.
use Rattle.std.proofs.Common.{Bool, true, false, cond, List, [], ◌∷◌, ◌++◌, Some, fold, if◌then◌else◌}
use Rattle.std.specs.Ordering.{match_ordering}
use Rattle.std.specs.List.{All}
use Rattle.std.specs.Map.{lookup}
use Rattle.std.specs.declared.cmp.Ordering.{Ordering}
use Rattle.std.specs.declared.cmp.Ordering.TheVariants.{Less, Equal, Greater}
use Rattle.std.proofs.lemmas.List.Elements.{All-nil, All-cons, All-head, All-tail, All-push}
use Rattle.indexmap.specs.IndexMap.{insert_entry}
use Rattle.sg_base.specs.declared.scope.Scope.{Scope}
use Rattle.sg_state.specs.Held.{put}
use Rattle.jv_layout.specs.Folder.{LayoutOf}
use Rattle.jv_tree.specs.declared.names.NameId.{NameId}
use Rattle.jv_member.specs.Overriding.{Groups, same_name, method_name, or_nothing, with_method}

module _ {X : Type 0} (P : X → Type 0) (R : X → X → Ordering) where
  match_all : (o : Ordering) (xs ys zs : List X) → All P xs → All P ys → All P zs → All P (match_ordering o xs ys zs)
  match_all Less xs ys zs f g h = f
  match_all Equal xs ys zs f g h = g
  match_all Greater xs ys zs f g h = h

  put_all : (xs : List X) (x : X) → All P xs → P x → All P (put R xs x)
  put_all [] x h k = All-cons P x [] k (All-nil P)
  put_all (y ∷ ys) x h k =
      match_all (R x y) (x ∷ y ∷ ys) (y ∷ ys) (y ∷ put R ys x) (All-cons P x (y ∷ ys) k h) h (All-cons P y (put R ys x) (All-head P y ys h) (put_all ys x (All-tail P y ys h) k))

  pub puts_all : (zs xs : List X) → All P xs → All P zs → All P (fold (put R) xs zs)
  puts_all [] xs h k = h
  puts_all (z ∷ zs) xs h k = puts_all zs (put R xs z) (put_all xs z h (All-head P z zs k)) (All-tail P z zs k)

module _ (P : Scope → Type 0) (l : LayoutOf) where
  -- it holds of each method of a group
  abbrev pub IsGrouped : NameId × List Scope → Type 0
  IsGrouped g = All P g.1

  insert_all : (gs : Groups) (n : NameId) (ms : List Scope) → All IsGrouped gs → All P ms → All IsGrouped (insert_entry same_name gs n ms)
  insert_all [] n ms h k = All-cons IsGrouped (n, ms) [] k (All-nil IsGrouped)
  insert_all (g ∷ gs) n ms h k =
      elim (same_name n g.0) as (λ (b : Bool). All IsGrouped (if b then (g.0, ms) ∷ gs else g ∷ insert_entry same_name gs n ms)) [
        | true ↦ All-cons IsGrouped (g.0, ms) gs k (All-tail IsGrouped g gs h)
        | false ↦ All-cons IsGrouped g (insert_entry same_name gs n ms) (All-head IsGrouped g gs h) (insert_all gs n ms (All-tail IsGrouped g gs h) k)
      ]

  found_all : (gs : Groups) (n : NameId) → All IsGrouped gs → All P (or_nothing (lookup (same_name n) gs))
  found_all [] n h = All-nil P
  found_all (g ∷ gs) n h =
      elim (same_name n g.0) as (λ (b : Bool). All P (or_nothing (cond b (Some g.1) (lookup (same_name n) gs)))) [
        | true ↦ All-head IsGrouped g gs h
        | false ↦ found_all gs n (All-tail IsGrouped g gs h)
      ]

  pub groups_all : (ms : List Scope) (gs : Groups) → All IsGrouped gs → All P ms → All IsGrouped (fold (with_method l) gs ms)
  groups_all [] gs h k = h
  groups_all (m ∷ ms) gs h k =
      groups_all ms (with_method l gs m)
      (insert_all gs (method_name l m) (or_nothing (lookup (same_name (method_name l m)) gs) ++ m ∷ []) h
      (All-push P (or_nothing (lookup (same_name (method_name l m)) gs)) m (found_all gs (method_name l m) h) (All-head P m ms k)))
      (All-tail P m ms k)
