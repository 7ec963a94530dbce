-- What a path shares with one that is known.
use Rattle.std.proofs.Common.{◌≡◌, ℕ, ◌<◌, true, List, Option, Some, take, length, slice_index_or, sym, ap, subst, ◌∙◌}
use Rattle.std.proofs.lemmas.List.{get_or_default}
use Rattle.sg_base.specs.declared.scope.Scope.{Scope}
use Rattle.sg_base.specs.declared.step.Step.{Step}
use Rattle.sg_base.specs.Path.{PathOf, shared_len}
use Rattle.sg_base.specs.Scope.{is_scope}
use Rattle.sg_base.proofs.Sharing.{shared_take}
use Rattle.sg_query.specs.declared.found.Found.{Found}
use Rattle.jv_instance.specs.declared.datum.JavaDatum.{JavaDatum}
use Rattle.jv_layout.specs.Folder.{LayoutOf}
use Rattle.jv_layout.specs.Fits.{fits, front_of}
use Rattle.jv_layout.proofs.Fitting.{fits_front}
use Rattle.jv_layout.specs.Readers.{package_of}
use Rattle.jv_names.specs.Inherited.{lies_in, stays_in_package, IsStaying}
use Rattle.jv_names.specs.Known.{IsFitting}
use Rattle.jv_names.proofs.Paths.{left_front}

-- an item that is there, whatever stands in its place where it is not
pub item_there : (fs : List (Found JavaDatum)) (j : ℕ) (d : Found JavaDatum) → j < length fs → slice_index_or fs j d ≡ slice_index_or fs j (slice_index_or fs j d)
item_there fs j d below = get_or_default fs j d (slice_index_or fs j d) below

-- two items that are there at one place are one
pub one_there : (fs : List (Found JavaDatum)) (k : ℕ) (f g : Found JavaDatum) → k < length fs → f ≡ slice_index_or fs k f → g ≡ slice_index_or fs k g → f ≡ g
one_there fs k f g below e h = e ∙ (get_or_default fs k f g below ∙ sym h)

module _ (l : LayoutOf) (p q : PathOf) (n : ℕ) (start : p.start ≡ q.start) (len : n ≡ shared_len p.steps q.steps) where
  same_front : take n p.steps ≡ take n q.steps
  same_front = subst (λ (k : ℕ). take k p.steps ≡ take k q.steps) (sym len) (shared_take p.steps q.steps)

  -- the steps that it shares with one that fits, fit
  pub fits_shared : fits l p ≡ true → fits l (front_of q n) ≡ true
  fits_shared h = subst (λ (r : PathOf). fits l r ≡ true) front (fits_front l p n h)
    where
      front : front_of p n ≡ front_of q n
      front = ap (λ (s : Scope). path_from s (take n p.steps)) start ∙ ap (path_from q.start) same_front
        where
          path_from : Scope → List Step → PathOf
          path_from s ps = record { start = s; steps = ps }

  -- the steps that it shares with one that stays in a package do
  pub lies_shared : (home : Scope) → lies_in l home p.start p.steps ≡ true → lies_in l home q.start (take n q.steps) ≡ true
  lies_shared home h =
      subst (λ (ps : List Step). lies_in l home q.start ps ≡ true) same_front
      (subst (λ (s : Scope). lies_in l home s (take n p.steps) ≡ true) start (left_front (λ t. is_scope (package_of l t) home) p.start p.steps n h))

-- an index of a path that stays in one package tells so of that path
pub staying_at : (l : LayoutOf) (fs : List (Found JavaDatum)) (o : Option ℕ) (j : ℕ) → o ≡ Some j → IsStaying l fs o → (f : Found JavaDatum) → f ≡ slice_index_or fs j f → stays_in_package l f.path.start f.path.steps ≡ true
staying_at l fs o j e s = (subst (IsStaying l fs) e s).1

-- an index of a path that fits tells so of that path
pub fitting_at : (l : LayoutOf) (fs : List (Found JavaDatum)) (o : Option ℕ) (j : ℕ) → o ≡ Some j → IsFitting l fs o → (f : Found JavaDatum) → f ≡ slice_index_or fs j f → fits l f.path ≡ true
fitting_at l fs o j e s = (subst (IsFitting l fs) e s).1

-- and is one of a path
pub fitting_below : (l : LayoutOf) (fs : List (Found JavaDatum)) (o : Option ℕ) (j : ℕ) → o ≡ Some j → IsFitting l fs o → j < length fs
fitting_below l fs o j e s = (subst (IsFitting l fs) e s).0
