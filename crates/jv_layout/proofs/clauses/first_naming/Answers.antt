use Rattle.std.proofs.Common.{ℕ, ◌+◌, List, [], ◌∷◌, ◌++◌, map, take, sym, ap, ◌∙◌, subst, refl}
use Rattle.std.specs.List.{Contains}
use Rattle.jv_tree.specs.DeclTree.{tree_of}
use Rattle.jv_layout.specs.declared.clauses.Step.{Step}
use Rattle.jv_layout.specs.declared.packages.Prefix.{Prefix}
use Rattle.jv_layout.specs.Paths.{clause_at, path_at}
use Rattle.jv_layout.specs.Steps.{steps_in, AreSteps}
use Rattle.jv_layout.proofs.Sorting.{finds_again}
use Rattle.jv_layout.proofs.Stepping.{one_longer, steps_more}
use Rattle.jv_layout.proofs.clauses.first_naming.Goals as goal

pub returns-in-Some-clause-first : goal.returns-in-Some-clause-first
returns-in-Some-clause-first c =
    let us = map tree_of c.args.files.now in
    let n = c.args.p.len in
    let s : Step = record { file = c.args.outer; len = n; name = c.next_name.result } in
    let whole = clause_at us c.args.p.file in
    let known = c.requires.steps.same s c.in-Some.first.now (sym c.in-Some.ensures.value) in
    known ∙ (ap (λ (z : List ℕ). z ++ c.next_name.result.0 ∷ []) c.requires.outer ∙ sym (one_longer whole n c.next_name.result.0 c.requires.within c.next_name.ensures))

pub returns-in-Some-clause-packages : goal.returns-in-Some-clause-packages
returns-in-Some-clause-packages c =
    let us = map tree_of c.args.files.now in
    let n = c.args.p.len in
    let s : Step = record { file = c.args.outer; len = n; name = c.next_name.result } in
    let ps = map (path_at us) c.args.packages.now.items in
    let there = c.requires.steps.there s c.in-Some.first.now (sym c.in-Some.ensures.value) in
    finds_again ps (take (n + 1) (clause_at us c.args.p.file)) (subst (λ (z : List ℕ). Contains ps z) (returns-in-Some-clause-first c) there)

pub returns-clause-steps : goal.returns-clause-steps
returns-clause-steps c =
    let us = map tree_of c.args.files.now in
    let n = c.args.p.len in
    let s : Step = record { file = c.args.outer; len = n; name = c.next_name.result } in
    let p : Prefix = record { file = c.args.p.file; len = n + 1 } in
    let begins = one_longer (clause_at us c.args.p.file) n c.next_name.result.0 c.requires.within c.next_name.ensures ∙ ap (λ (z : List ℕ). z ++ c.next_name.result.0 ∷ []) (sym c.requires.outer) in
    let new = steps_in c.insert.new.self.entries in
    subst (λ (ps : List Prefix). AreSteps us new ps) (sym c.in_ok-push.ensures.items)
    (steps_more us (steps_in c.args.found.now.entries) new c.args.packages.now.items s p c.requires.steps c.in_ok-insert.ensures.updates.0 refl begins)
