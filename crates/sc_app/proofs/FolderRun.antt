-- The checkers of a folder can be run over its layout.
use Rattle.std.proofs.Common.{◌≡◌, ℕ, zero, suc, ◌+◌, ◌<◌, ◌≤◌, ◌^◌, List, [], ◌∷◌, ◌++◌, length, map, slice_get, Some, Result, Ok, Err, IfOk, inl, inr, refl, sym, ap, ◌∙◌, subst, arith}
use Rattle.sg_query.specs.Query.{KindOf}
use Rattle.sg_script.specs.Following.{FollowsPlan}
use Rattle.sg_script.specs.Owing.{OwesEdge, OwesDatum, AsksIn, ComesTo}
use Rattle.sg_core.specs.Over.{HasRun}
use Rattle.sg_state.specs.Held.{HeldOf}
use Rattle.sg_state.specs.Opening.{IsSoundOpening, OpeningOf, opened_of}
use Rattle.sg_unit.specs.declared.entry.Entry.{Entry}
use Rattle.sg_unit.specs.Own.{own}
use Rattle.sg_unit.specs.Served.{IsHonestBy}
use Rattle.sg_unit.specs.Trace.{told}
use Rattle.jv_diag.specs.Plain.{DiagOf}
use Rattle.jv_instance.specs.declared.datum.JavaDatum.{JavaDatum}
use Rattle.jv_instance.specs.declared.java.Java.{Java}
use Rattle.jv_instance.specs.declared.pred.JavaPred.{JavaPred}
use Rattle.jv_instance.specs.Data.{is_wanted}
use Rattle.jv_layout.specs.Folder.{LayoutOf, layout_of}
use Rattle.jv_layout.specs.Linked.{IsLinked}
use Rattle.jv_layout.specs.Scopes.{scope_count}
use Rattle.jv_layout.specs.Sizes.{IsFolder}
use Rattle.jv_layout.specs.Skeleton.{skeleton_of}
use Rattle.jv_layout.proofs.Linking.{few_scopes, rows_linked}
use Rattle.jv_layout.proofs.SoundSkeletons.{skeletons_are_sound}
use Rattle.jv_names.specs.Kinds.{AreKinds}
use Rattle.jv_names.specs.Replies.{reply_to}
use Rattle.jv_tree.specs.DeclTree.{UnitTree, tree_of}
use Rattle.jv_tree.specs.Numbered.{AreNumbered}
use Rattle.jv_unit.specs.declared.folder.Folder.{Folder}
use Rattle.jv_unit.specs.Folder.{FolderOf, IsFolderOf}
use Rattle.jv_unit.specs.Kept.{IsWhole}
use Rattle.jv_unit.specs.Plans.{JavaPlan, java_plan}
use Rattle.jv_unit.specs.Scripts.{JavaUnit, plan_of, AreNewUnits, AreUnitsOf, IsUnit}
use Rattle.jv_unit.proofs.NewUnits.{units_are_new}
use Rattle.sg_core.specs.Core.{run}
use Rattle.sg_serial.specs.Serial.{IsServedBy}
use Rattle.sc_app.specs.FolderRun.{FollowsBy, IsBegun, JavaCore, IsFolderRun, IsServedIn, same_datum, setting_of_plan}

module _ (l : LayoutOf) (names : List (List ℕ)) (us : List UnitTree) (layout : l ≡ layout_of names us) (folder : IsFolder us) where
  linked : IsLinked l
  linked = subst IsLinked (sym layout) (rows_linked names us folder)

  pub few : scope_count l < 2 ^ 31
  few = subst (λ (z : LayoutOf). scope_count z < 2 ^ 31) (sym layout) (few_scopes names us folder)

  pub is_folder_of : (kinds : List KindOf) → AreNumbered (length names) us → AreKinds kinds → IsFolderOf (record { layout = l; names = names; files = us; kinds = kinds })
  is_folder_of kinds numbered java = record { layout = layout; linked = linked; few = few; numbered = numbered; kinds = java }

-- ---- the run

some_at : {V : Type 0} (us : List V) (u : ℕ) → u < length us → (v : V) × (slice_get us u ≡ Some v)
some_at [] u h = absurd (omega (arith, h))
some_at (x ∷ xs) zero h = (x, refl)
some_at (x ∷ xs) (suc u) h = some_at xs u (omega (arith, h))

-- a run of these units
abbrev HasRunOf : JavaCore → List JavaUnit → JavaCore → Type 0
HasRunOf old us c =
    HasRun {I = Java} is_wanted same_datum (λ p. p.opening) (λ p. p.kinds) (λ p. OwesEdge (setting_of_plan p) p.stages) (λ p. OwesDatum (setting_of_plan p) p.stages) (λ p. AsksIn (setting_of_plan p) p.stages p.ending) (λ p. ComesTo (setting_of_plan p) p.ending)
    (λ v. (plan_of v.script).unit) (λ v. plan_of v.script) (λ v past last. FollowsPlan {I = Java} (plan_of v.script) (reply_to v.script.replies) v.asked v.pending v.stage v.ended past last × IsUnit v.script) old us c

module _ (w : FolderOf) (us : List JavaUnit) (units : AreUnitsOf w us) (old c : JavaCore) (opening : old.opening ≡ opened_of (skeleton_of w.layout)) (kinds : old.kinds ≡ w.kinds) (ran : HasRunOf old us c) where
  abbrev IsHonestAs : ℕ → JavaPlan → Type 0
  IsHonestAs u p =
      IsHonestBy {I = Java} is_wanted same_datum (λ p. p.opening) (λ p. p.kinds) (λ p. OwesEdge (setting_of_plan p) p.stages) (λ p. OwesDatum (setting_of_plan p) p.stages) (λ p. AsksIn (setting_of_plan p) p.stages p.ending)
      (λ p. ComesTo (setting_of_plan p) p.ending) (own u c.log) u p

  each_honest : (u : ℕ) → u < length w.layout.files + length w.layout.types → IsHonestAs u (java_plan w u)
  each_honest u h =
      let v = some_at us u (omega (arith, h, units.count)) in
      subst (IsHonestAs u) (units.each u v.0 v.1).plan (ran.honest u v.0 v.1)

  each_follows : (u : ℕ) → u < length w.layout.files + length w.layout.types → FollowsBy w c u
  each_follows u h =
      let v = some_at us u (omega (arith, h, units.count)) in
      let s = ran.each u v.0 v.1 in
      let r = s.0 in
      record {
        reply = reply_to r.script.replies;
        asked = r.asked;
        pending = r.pending;
        stage = r.stage;
        ended = r.ended;
        follows = subst (λ (p : JavaPlan). FollowsPlan {I = Java} p (reply_to r.script.replies) r.asked r.pending r.stage r.ended (told (own u c.log)).past (told (own u c.log)).last) (s.2 ∙ (units.each u v.0 v.1).plan) (s.3).0;
      }

  folder_runs : IsFolderRun w c
  folder_runs = record { opening = ran.opening ∙ opening; kinds = ran.kinds ∙ kinds; core = ran.core; over = ran.over; follows = each_follows; honest = each_honest }

if_ok : {A E : Type 0} (P Q : A → Type 0) (r : Result A E) → ((x : A) → P x → Q x) → IfOk r P → IfOk r Q
if_ok P Q (Ok x) f h = f x h
if_ok P Q (Err e) f h = tt

-- a core that was opened, and the folder's units
pub begun : (w : FolderOf) (us : List JavaUnit) (units : AreUnitsOf w us) (c : JavaCore) (o : HeldOf JavaDatum) (kinds : List KindOf) → c ≡ record { opening = o; kinds = kinds; log = [] } → o ≡ opened_of (skeleton_of w.layout) → kinds ≡ w.kinds → IsBegun w c us
begun w us units c o kinds core opening table =
    let begins : c.opening ≡ opened_of (skeleton_of w.layout) = ap (λ (k : JavaCore). k.opening) core ∙ opening in
    let by_kinds : c.kinds ≡ w.kinds = ap (λ (k : JavaCore). k.kinds) core ∙ table in
    record { opening = begins; kinds = by_kinds; log = ap (λ (k : JavaCore). k.log) core; units = units; new = rw (begins, by_kinds) (units_are_new w us units) }

-- and what comes of them
pub begun_runs : {E : Type 0} (w : FolderOf) (us : List JavaUnit) (old : JavaCore) (r : Result JavaCore E) → IsBegun w old us → IfOk r (HasRunOf old us) → IfOk r (IsFolderRun w)
begun_runs w us old r b h = if_ok (HasRunOf old us) (IsFolderRun w) r (λ c ran. folder_runs w us b.units old c b.opening b.kinds ran) h

-- and in which order they were served
pub begun_served : {E : Type 0} (w : FolderOf) (us : List JavaUnit) (old : JavaCore) (r : Result JavaCore E) (order : List ℕ) → IsBegun w old us → IfOk r (HasRunOf old us) → IfOk r (λ c. IsServedBy (run is_wanted same_datum old) order c.log) → IfOk r (IsServedIn order)
begun_served w us old (Ok c) order b ran served =
    let start : old ≡ record { opening = c.opening; kinds = c.kinds; log = [] } = same_start old c.opening c.kinds (sym ran.opening) (sym ran.kinds) b.log in
    subst (λ (k : JavaCore). IsServedBy (run is_wanted same_datum k) order c.log) start served
  where
    same_start : (k : JavaCore) (o : HeldOf JavaDatum) (t : List KindOf) → k.opening ≡ o → k.kinds ≡ t → k.log ≡ [] → k ≡ record { opening = o; kinds = t; log = [] }
    same_start k o t e f g =
        ap (λ (x : HeldOf JavaDatum). let s : JavaCore = record { opening = x; kinds = k.kinds; log = k.log } in s) e
        ∙ ap (λ (x : List KindOf). let s : JavaCore = record { opening = o; kinds = x; log = k.log } in s) f
        ∙ ap (λ (x : List (Entry Java (List DiagOf) JavaDatum JavaPred)). let s : JavaCore = record { opening = o; kinds = t; log = x } in s) g
begun_served w us old (Err e) order b ran served = tt

-- the opening of a folder is sound
pub opening_of_folder : (w : Folder) (o : OpeningOf JavaDatum) → IsWhole w → o ≡ skeleton_of w.layout → IsSoundOpening o
opening_of_folder w o whole e = subst IsSoundOpening (sym e) (skeletons_are_sound w.layout whole.folder.linked whole.folder.few)
