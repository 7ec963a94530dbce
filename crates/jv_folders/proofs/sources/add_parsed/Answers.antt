use Rattle.std.proofs.Common.{length}
use Rattle.jv_folders.proofs.Numbered.{pushed_numbered}
use Rattle.jv_folders.proofs.sources.add_parsed.Goals as goal

pub returns : goal.returns
returns c =
    pushed_numbered (length c.args.names.now) (length c.parsed.new.names) c.args.units.now.items c.in_ok-unit.unit c.push.new.self.items c.requires c.in_ok-unit.ensures.more c.in_ok-unit.ensures.numbered c.in_ok-push.ensures.items
