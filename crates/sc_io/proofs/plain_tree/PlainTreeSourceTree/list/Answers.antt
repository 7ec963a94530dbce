use Rattle.sc_io.proofs.plain_tree.PlainTreeSourceTree.list.Goals as goal

pub returns-clause-listed : goal.returns-clause-listed
returns-clause-listed c = rw (← c.self.view_is) c.in_ok-java_paths.ensures
