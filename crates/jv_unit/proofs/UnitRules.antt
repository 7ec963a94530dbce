-- The unit with a number is that of a file, or behind the files that of a type.
use Rattle.std.proofs.Common.{◌≡◌, ℕ, zero, suc, ◌+◌, ◌-◌, ◌<◌, ◌≤◌, nat_lt, Bool, true, false, cond, List, [], ◌∷◌, length, map, get_or, Option, Some, Result, Ok, Err, IfOk, refl, sym, ap, ◌∙◌, subst, arith, lt-ltb}
use Rattle.std.proofs.lemmas.Bool.{ltb-true}
use Rattle.std.proofs.lemmas.List.{length-map, get_or-map}
use Rattle.std.proofs.lemmas.Option.{get_or_from_slice_get}
use Rattle.sg_query.specs.declared.answer.Answer.{Answer}
use Rattle.sg_query.specs.declared.query.Query.{Query}
use Rattle.std.specs.declared.alloc.AllocError.{AllocError}
use Rattle.sg_reading.specs.declared.known.Known.{Known}
use Rattle.sg_reading.specs.declared.stop.Stop.{Stop}
use Rattle.sg_reading.specs.declared.stop.Stop.TheVariants.{NoReply, OutOfMemory}
use Rattle.sg_reading.specs.Stop.{IsKnown, Reads, known_of}
use Rattle.sg_reading.proofs.Steps.{known_reads}
use Rattle.sg_script.specs.declared.write.Write.{Write}
use Rattle.sg_script.specs.Script.{Stage, ReadsStage}
use Rattle.jv_diag.specs.Plain.{DiagOf}
use Rattle.jv_instance.specs.declared.datum.JavaDatum.{JavaDatum}
use Rattle.jv_instance.specs.declared.pred.JavaPred.{JavaPred}
use Rattle.jv_layout.specs.Readers.{members_of_type}
use Rattle.jv_names.specs.Replies.{Rule}
use Rattle.jv_unit.specs.declared.folder.Folder.{Folder}
use Rattle.jv_unit.specs.Folder.{FolderOf}
use Rattle.jv_unit.specs.Kept.{folder_of}
use Rattle.jv_unit.specs.Plans.{file_stage, file_stages, own_file_ending, own_type_ending, signature_stage, type_stage, type_stages, unit_stages, unit_ending}
use Rattle.jv_unit.specs.Scripts.{ReadsStageOf}

abbrev Replies : Type 0
Replies = Query JavaPred → Option (Answer JavaDatum)

-- ---- which of two

module _ {X : Type 0} (a b : ℕ) (x y : X) where
  second_by : (t : Bool) → nat_lt a b ≡ t → b ≤ a → cond t x y ≡ y
  second_by true e h = absurd (omega (arith, ltb-true a b e, h))
  second_by false e h = refl

  pub cond_below : a < b → cond (nat_lt a b) x y ≡ x
  cond_below h = ap (λ (t : Bool). cond t x y) (lt-ltb a b h)

  pub cond_above : b ≤ a → cond (nat_lt a b) x y ≡ y
  cond_above h = second_by (nat_lt a b) refl h

-- ---- one stage

some_stage : (s k : Stage JavaDatum JavaPred) → Some s ≡ Some k → s ≡ k
some_stage s k e = cc

module _ (reply : Replies) (x : Result (List (Write JavaDatum)) (Stop (Query JavaPred))) (s : Stage JavaDatum JavaPred) (h : Reads reply s.rule x) where
  of_first : (n : ℕ) → n < 1 → ReadsStageOf reply (s ∷ []) n x
  of_first zero l k e = subst (λ (z : Stage JavaDatum JavaPred). Reads reply z.rule x) (some_stage s k e) h
  of_first (suc n) l k e = absurd (omega (arith, l))

  one_read : (stages : List (Stage JavaDatum JavaPred)) (n : ℕ) → stages ≡ s ∷ [] → n < length stages → ReadsStageOf reply stages n x
  one_read stages n e l = subst (λ (ss : List (Stage JavaDatum JavaPred)). ReadsStageOf reply ss n x) (sym e) (of_first n (omega (arith, l, ap length e)))

-- ---- units

module _ (w : FolderOf) (u : ℕ) where
  abbrev of_file : List (Stage JavaDatum JavaPred)
  of_file = file_stages w u

  abbrev of_type : List (Stage JavaDatum JavaPred)
  of_type = type_stages w (u - length w.layout.files)

  pub file_stage_count : u < length w.layout.files → 1 ≡ length (unit_stages w u)
  file_stage_count below = sym (ap length (cond_below u (length w.layout.files) of_file of_type below))

  pub type_stages_are : (t : ℕ) → length w.layout.files ≤ u → t ≡ u - length w.layout.files → unit_stages w u ≡ type_stages w t
  type_stages_are t above at = cond_above u (length w.layout.files) of_file of_type above ∙ ap (λ (k : ℕ). type_stages w k) (sym at)

  pub type_stage_count : (t c : ℕ) → length w.layout.files ≤ u → t ≡ u - length w.layout.files → c ≡ length (members_of_type w.layout t) → c + 1 ≡ length (unit_stages w u)
  type_stage_count t c above at count =
      omega (arith, count, length-map (members_of_type w.layout t) (signature_stage w t), ap length (type_stages_are t above at))

  module _ (reply : Replies) where
    pub file_stage_read : (n : ℕ) (x : Result (List (Write JavaDatum)) (Stop (Query JavaPred))) → u < length w.layout.files → n < length (unit_stages w u) → Reads reply (file_stage w u).rule x → ReadsStageOf reply (unit_stages w u) n x
    file_stage_read n x below l h = one_read reply x (file_stage w u) h (unit_stages w u) n (cond_below u (length w.layout.files) (file_stages w u) (type_stages w (u - length w.layout.files)) below) l

    pub type_stage_read : (n t : ℕ) (x : Result (List (Write JavaDatum)) (Stop (Query JavaPred))) → length w.layout.files ≤ u → t ≡ u - length w.layout.files → ReadsStageOf reply (type_stages w t) n x → ReadsStageOf reply (unit_stages w u) n x
    type_stage_read n t x above at h = subst (λ (ss : List (Stage JavaDatum JavaPred)). ReadsStageOf reply ss n x) (sym (type_stages_are t above at)) h

    pub file_ending_read : (x : Result (List DiagOf) (Stop (Query JavaPred))) → u < length w.layout.files → Reads reply (own_file_ending w u) x → Reads reply (unit_ending w u) x
    file_ending_read x below h = subst (λ (r : Rule (List DiagOf)). Reads reply r x) (sym (cond_below u (length w.layout.files) (own_file_ending w u) (own_type_ending w (u - length w.layout.files)) below)) h

    pub type_ending_read : (t : ℕ) (x : Result (List DiagOf) (Stop (Query JavaPred))) → length w.layout.files ≤ u → t ≡ u - length w.layout.files → Reads reply (own_type_ending w t) x → Reads reply (unit_ending w u) x
    type_ending_read t x above at h =
        subst (λ (r : Rule (List DiagOf)). Reads reply r x)
        (ap (λ (k : ℕ). own_type_ending w k) at ∙ sym (cond_above u (length w.layout.files) (own_file_ending w u) (own_type_ending w (u - length w.layout.files)) above)) h

-- ---- the stages of a type

module _ (reply : Replies) (w : FolderOf) (t : ℕ) (x : Result (List (Write JavaDatum)) (Stop (Query JavaPred))) where
  pub first_stage : (n : ℕ) → n ≡ 0 → Reads reply (type_stage w t).rule x → ReadsStageOf reply (type_stages w t) n x
  first_stage n e h =
      subst (λ (k : ℕ). ReadsStageOf reply (type_stages w t) k x) (sym e) (λ s at. subst (λ (z : Stage JavaDatum JavaPred). Reads reply z.rule x) (some_stage (type_stage w t) s at) h)

  pub later_stage : (n k : ℕ) → n ≡ suc k → k < length (members_of_type w.layout t) → Reads reply (signature_stage w t (get_or (members_of_type w.layout t) k 0)).rule x → ReadsStageOf reply (type_stages w t) n x
  later_stage n k e below h =
      let ms = members_of_type w.layout t in
      let f : ℕ → Stage JavaDatum JavaPred = signature_stage w t in
      subst (λ (i : ℕ). ReadsStageOf reply (type_stages w t) i x) (sym e)
      (λ s at. subst (λ (z : Stage JavaDatum JavaPred). Reads reply z.rule x) (sym (get_or-map f ms k 0 (f 0) below) ∙ get_or_from_slice_get (map f ms) k s (f 0) at) h)

-- ---- what the calls of a script give

known_stage : (reply : Replies) (stages : List (Stage JavaDatum JavaPred)) (n : ℕ) (x : Result (List (Write JavaDatum)) (Stop (Query JavaPred))) (k : Result (Known (List (Write JavaDatum)) (Query JavaPred)) AllocError) → k ≡ known_of x → ReadsStageOf reply stages n x → IfOk k (ReadsStage reply stages n)
unfolding Reads
known_stage reply stages n (Ok v) k e h = subst (λ (z : Result (Known (List (Write JavaDatum)) (Query JavaPred)) AllocError). IfOk z (ReadsStage reply stages n)) (sym e) (λ s at. h s at)
known_stage reply stages n (Err (NoReply q)) k e h = subst (λ (z : Result (Known (List (Write JavaDatum)) (Query JavaPred)) AllocError). IfOk z (ReadsStage reply stages n)) (sym e) (λ s at. h s at)
known_stage reply stages n (Err OutOfMemory) k e h = subst (λ (z : Result (Known (List (Write JavaDatum)) (Query JavaPred)) AllocError). IfOk z (ReadsStage reply stages n)) (sym e) tt

module _ (reply : Replies) (v w : Folder) (same : v ≡ w) (u : ℕ) where
  pub stage_known : (n : ℕ) (x : Result (List (Write JavaDatum)) (Stop (Query JavaPred))) (k : Result (Known (List (Write JavaDatum)) (Query JavaPred)) AllocError) → k ≡ known_of x → ReadsStageOf reply (unit_stages (folder_of v) u) n x → IfOk k (ReadsStage reply (unit_stages (folder_of w) u) n)
  stage_known n x k e h = known_stage reply (unit_stages (folder_of w) u) n x k e (subst (λ (z : Folder). ReadsStageOf reply (unit_stages (folder_of z) u) n x) same h)

  pub ending_known : (x : Result (List DiagOf) (Stop (Query JavaPred))) (k : Result (Known (List DiagOf) (Query JavaPred)) AllocError) → k ≡ known_of x → Reads reply (unit_ending (folder_of v) u) x → IfOk k (IsKnown reply (unit_ending (folder_of w) u))
  ending_known x k e h = known_reads reply (unit_ending (folder_of w) u) x k e (subst (λ (z : Folder). Reads reply (unit_ending (folder_of z) u) x) same h)
