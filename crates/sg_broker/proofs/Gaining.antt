-- What the log gains in a turn.
use Rattle.std.proofs.Common.{◌≡◌, ℕ, List, [], ◌∷◌, ◌++◌, inl, inr, Bool, All, refl, sym, ap, ◌∙◌, Result, Ok, Err, append_assoc, append-nil}
use Rattle.std.specs.Prelude.{IfOk, OnOk, OnErr}
use Rattle.std.proofs.lemmas.List.Elements.{All-nil, All-cons, All-append}
use Rattle.sg_query.specs.Query.{KindOf}
use Rattle.sg_state.specs.Held.{HeldOf}
use Rattle.sg_unit.specs.declared.entry.Entry.{Entry}
use Rattle.sg_unit.specs.declared.op.Op.{Op}
use Rattle.sg_unit.specs.declared.reply.Reply.{Reply}
use Rattle.sg_core.specs.declared.found_ask.FoundAsk.{FoundAsk}
use Rattle.sg_core.specs.declared.found_ask.FoundAsk.TheVariants.{Nothing}
use Rattle.sg_core.specs.Beside.{KeepsAll, HandsIn, KeepsOn, with_events}
use Rattle.sg_core.specs.Core.{CoreOf, Applies, entry}
use Rattle.sg_core.proofs.Beside.{all_units}
use Rattle.sg_broker.specs.Aside.{Gains, told_by}

module _ {I R D P : Type 0} (wants : P → D → Bool) (same : D → D → Bool) (kinds : List KindOf) (h : HeldOf D) (core new : CoreOf I R D P) (u : ℕ) (kept left : List (Entry I R D P)) (ask then : FoundAsk D) (keeps : KeepsAll wants same kinds h u Nothing kept ask) where
  units : All (λ e. e.unit ≡ u) kept
  units = all_units wants same kinds u h Nothing ask kept keeps

  -- nothing was done
  none_gained : (told : List (Entry I R D P)) → told ≡ [] → KeepsOn core new kept left ask then → Gains core new u kept ask told left then
  none_gained told none k = record {
    more = [];
    logged = k.0 ∙ (λ i. record { opening = core.opening; kinds = core.kinds; log = sym (append-nil core.log) i });
    units = All-nil (λ (e : Entry I R D P). e.unit ≡ u);
    adds = k.1 ∙ sym (append-nil kept) ∙ ap (λ (es : List (Entry I R D P)). kept ++ es) (sym none);
    empty = inr (refl, k.1, k.2);
  }

  -- what was kept was handed in
  kept_gained : (told : List (Entry I R D P)) → told ≡ [] → HandsIn core new kept left then → Gains core new u kept ask told left then
  kept_gained told none k = record {
    more = kept;
    logged = k.0;
    units = units;
    adds = ap (λ (es : List (Entry I R D P)). kept ++ es) (k.1 ∙ sym none);
    empty = inl (k.1, k.2);
  }

  -- and an operation was applied
  op_gained : (op : Op I R D P) (y : Reply I D P) → Applies wants same (with_events core kept) new u op y → (left ≡ []) × (then ≡ Nothing) → Gains core new u kept ask (entry u op y ∷ []) left then
  op_gained op y a k = record {
    more = kept ++ entry u op y ∷ [];
    logged = a.0 ∙ (λ i. record { opening = core.opening; kinds = core.kinds; log = append_assoc core.log kept (entry u op y ∷ []) i });
    units = All-append (λ (e : Entry I R D P). e.unit ≡ u) kept (entry u op y ∷ []) units (All-cons (λ (e : Entry I R D P). e.unit ≡ u) (entry u op y) [] refl (All-nil (λ (e : Entry I R D P). e.unit ≡ u)));
    adds = ap (λ (es : List (Entry I R D P)). (kept ++ entry u op y ∷ []) ++ es) k.0 ∙ append-nil (kept ++ entry u op y ∷ []);
    empty = inl k;
  }

  pub step_gains : {E : Type 0} (op : Op I R D P) (r : Result (Reply I D P) E) → IfOk r (Applies wants same (with_events core kept) new u op) → IfOk r (λ _. (left ≡ []) × (then ≡ Nothing)) → OnErr r (KeepsOn core new kept left ask then) → Gains core new u kept ask (told_by u op r) left then
  step_gains op (Ok y) a n e = op_gained op y a n
  step_gains op (Err x) a n e = none_gained [] refl e

  pub hand_gains : {E X : Type 0} (r : Result X E) → OnOk r (HandsIn core new kept left then) → OnErr r (KeepsOn core new kept left ask then) → Gains core new u kept ask [] left then
  hand_gains (Ok y) a e = kept_gained [] refl a
  hand_gains (Err x) a e = none_gained [] refl e

  pub none_left : {E X : Type 0} (r : Result X E) → OnOk r (HandsIn core new kept left then) → IfOk r (λ _. left ≡ [])
  none_left (Ok y) a = a.1
  none_left (Err x) a = tt
