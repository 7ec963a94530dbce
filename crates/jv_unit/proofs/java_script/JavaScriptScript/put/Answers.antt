use Rattle.std.proofs.Common.{◌-◌, ◌∙◌, IfOk, ap, length, subst}
use Rattle.std.specs.Arc.{arc_value}
use Rattle.sg_reading.specs.Replies.{AddsReply}
use Rattle.jv_names.specs.Replies.{reply_to}
use Rattle.jv_unit.specs.Kept.{folder_of}
use Rattle.jv_unit.specs.Script.{ScriptOf}
use Rattle.jv_unit.specs.Scripts.{PutsReply}
use Rattle.jv_unit.proofs.FileRules.{file_imports_put, file_statics_put}
use Rattle.jv_unit.proofs.HeaderRules.{read_so_far_put}
use Rattle.jv_unit.proofs.Putting.{adds_reply, puts_reply, so_far_put}
use Rattle.jv_unit.proofs.java_script.JavaScriptScript.put.Goals as goal

pub returns-clause-put : goal.returns-clause-put
returns-clause-put c =
    subst (λ (s : ScriptOf). IfOk c.put.result (λ _. PutsReply s c.args.query.now c.args.answer (record { alloc = c.self.inside.alloc; folder = c.self.inside.folder; unit = c.self.inside.unit; replies = c.put.new.self }))) c.self.view_is
    (puts_reply (record { alloc = c.self.inside.alloc; folder = c.self.inside.folder; unit = c.self.inside.unit; replies = c.self.inside.replies }) c.args.query.now c.in_ok-copy.copy c.args.answer c.put.new.self c.put.result
    (ap (λ (s : ScriptOf). reply_to s.replies c.args.query.now) c.self.view_is ∙ c.requires.first) c.in_ok-copy.ensures c.put.ensures.last)

pub returns-clause-reply : goal.returns-clause-reply
returns-clause-reply c =
    subst (λ (s : ScriptOf). IfOk c.put.result (λ _. AddsReply (reply_to s.replies) (reply_to c.put.new.self) c.args.query.now c.args.answer)) c.self.view_is
    (adds_reply (record { alloc = c.self.inside.alloc; folder = c.self.inside.folder; unit = c.self.inside.unit; replies = c.self.inside.replies }) c.args.query.now c.in_ok-copy.copy c.args.answer c.put.new.self c.put.result
    (ap (λ (s : ScriptOf). reply_to s.replies c.args.query.now) c.self.view_is ∙ c.requires.first) c.in_ok-copy.ensures c.put.ensures.last)

-- a reply more leaves the header, the checks and the imports as far as they came
pub invariant_of-self : goal.invariant_of-self
invariant_of-self c =
    let w = folder_of (arc_value c.self.inside.folder) in
    let t = c.self.inside.unit - length (arc_value c.self.inside.folder).layout.files in
    let adds =
    adds_reply (record { alloc = c.self.inside.alloc; folder = c.self.inside.folder; unit = c.self.inside.unit; replies = c.self.inside.replies }) c.args.query.now c.in_ok-copy.copy c.args.answer c.put.new.self c.put.result
    (ap (λ (s : ScriptOf). reply_to s.replies c.args.query.now) c.self.view_is ∙ c.requires.first) c.in_ok-copy.ensures c.put.ensures.last in (
      read_so_far_put c.self.inside.replies c.put.new.self c.args.query.now c.args.answer w t c.self.inside.header c.put.result adds c.put.ensures.err c.self.invariant.0,
      so_far_put c.self.inside.replies c.put.new.self c.args.query.now c.args.answer w t c.self.inside.progress.begun c.put.result adds c.put.ensures.err c.self.invariant.1,
      file_imports_put c.self.inside.replies c.put.new.self c.args.query.now c.args.answer w c.self.inside.unit c.self.inside.imports c.put.result adds c.put.ensures.err c.self.invariant.2,
      file_statics_put c.self.inside.replies c.put.new.self c.args.query.now c.args.answer w c.self.inside.unit c.self.inside.statics c.put.result adds c.put.ensures.err c.self.invariant.3,
    )
