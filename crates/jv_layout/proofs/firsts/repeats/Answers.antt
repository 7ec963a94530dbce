use Rattle.std.proofs.Common.{◌≡◌, ◌<◌, length, get_or, [], sym, ap, ◌∙◌, arith}
use Rattle.std.specs.Prelude.{not}
use Rattle.std.proofs.lemmas.List.{get_or_default}
use Rattle.jv_layout.specs.Keys.{is_first, no_key}
use Rattle.jv_layout.proofs.Keying.{new_is_first, seen_more}
use Rattle.jv_layout.proofs.Looping.{pushed_plain}
use Rattle.jv_layout.proofs.firsts.repeats.Goals as goal

pub loop-key-preserved : goal.loop-key-preserved
loop-key-preserved c =
    let keys = c.args.keys.now in
    let i = c.loop-key.key-index in
    let k = c.key-item.result in
    let h : i < length keys = omega (arith, c.loop-key-test.true) in
    let here : k ≡ get_or keys i no_key = c.key-item.is ∙ get_or_default keys i k no_key h in
    let is_new = c.in_ok-is_new.is_new in
    let first : is_first keys i ≡ is_new = new_is_first keys c.loop-key.seen.keys i k h here c.loop-key.invariant.seen is_new c.in_ok-is_new.ensures.added in
    record {
      seen = seen_more keys c.loop-key.seen.keys i k h here c.loop-key.invariant.seen c.insert.new.self.keys c.in_ok-is_new.ensures.updates.0;
      repeats = pushed_plain (λ j. not (is_first keys j)) c.loop-key.repeats.items c.push.new.self.items [] i (not is_new) c.in_ok-push.ensures.items (ap not (sym first)) c.loop-key.invariant.repeats;
    }
