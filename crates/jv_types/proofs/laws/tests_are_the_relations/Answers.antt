use Rattle.jv_types.proofs.laws.tests_are_the_relations.Goals as goal
use Rattle.jv_types.proofs.Related.{subtype_test, assignable_test, castable_test}

pub returns-clause-subtype : goal.returns-clause-subtype
returns-clause-subtype c = subtype_test

pub returns-clause-assignable : goal.returns-clause-assignable
returns-clause-assignable c = assignable_test

pub returns-clause-castable : goal.returns-clause-castable
returns-clause-castable c = castable_test
