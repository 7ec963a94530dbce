use Rattle.std.proofs.Common.{rules}
use Rattle.sg_script.proofs.Examples.{adds_last}
use Rattle.sg_small.proofs.reader.ReaderScript.put.Goals as goal

pub returns-clause-reply : goal.returns-clause-reply
returns-clause-reply c = adds_last c.args.self.now.replies c.push.new.self.items c.args.query.now c.args.answer c.requires (search rules)
