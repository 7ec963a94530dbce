use Rattle.std.proofs.Common.{ap, sym, ◌∙◌, subst}
use Rattle.jv_tree.specs.DeclTree.{tree_of}
use Rattle.jv_parse.specs.declared.parse_fault.ParseFault.{ParseFault}
use Rattle.sc_sources.proofs.Threads.{listed_tree, listed_deep, listed_none}
use Rattle.jv_parse.specs.Parse.{Says}
use Rattle.std.specs.Prelude.{Err}
use Rattle.sc_sources.specs.Threads.{place_in}
use Rattle.std.specs.Prelude.{slice_get}
use Rattle.sc_sources.proofs.growing.grow_listed.Goals as goal

pub returns-in-Ok-clause-comes : goal.returns-in-Ok-clause-comes
returns-in-Ok-clause-comes c = listed_tree c.args.terminals.now c.deref.result.now (tree_of c.in-Ok.unit) c.deref.ensures.value c.in-Ok.ensures

pub returns-in-Err-TooDeep-clause-comes : goal.returns-in-Err-TooDeep-clause-comes
returns-in-Err-TooDeep-clause-comes c =
    listed_deep c.args.terminals.now c.deref.result.now c.in-Err-TooDeep.token c.place_in.result c.deref.ensures.value
    (c.place_in.ensures ∙ ap (λ xs. place_in c.args.terminals.now.end (slice_get xs c.in-Err-TooDeep.token)) (c.deref-in-Err-TooDeep.ensures.value ∙ sym c.deref.ensures.value))
    (subst (λ (f : ParseFault). Says c.deref.result.now (Err f)) c.in-Err-TooDeep.field-0-is c.in-Err-TooDeep.ensures)

pub returns-in-Err-NotInGrammar-clause-comes : goal.returns-in-Err-NotInGrammar-clause-comes
returns-in-Err-NotInGrammar-clause-comes c =
    listed_none c.args.terminals.now c.deref.result.now c.in-Err-NotInGrammar.token c.place_in-in-Err-NotInGrammar.result c.deref.ensures.value
    (c.place_in-in-Err-NotInGrammar.ensures ∙ ap (λ xs. place_in c.args.terminals.now.end (slice_get xs c.in-Err-NotInGrammar.token)) (c.deref-in-Err-NotInGrammar.ensures.value ∙ sym c.deref.ensures.value))
    (subst (λ (f : ParseFault). Says c.deref.result.now (Err f)) c.in-Err-NotInGrammar.field-0-is c.in-Err-NotInGrammar.ensures)
