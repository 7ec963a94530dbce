use Rattle.jv_names.proofs.ReadBounds.{signatures_ask_in, ctors_ask_in, supers_ask_in, results_ask_in, superclasses_ask_in, instances_ask_in}
use Rattle.jv_names.proofs.laws.readings_ask_in_the_layout.Goals as goal

pub returns-clause-signatures : goal.returns-clause-signatures
returns-clause-signatures c = signatures_ask_in

pub returns-clause-ctors : goal.returns-clause-ctors
returns-clause-ctors c = ctors_ask_in

pub returns-clause-supers : goal.returns-clause-supers
returns-clause-supers c = supers_ask_in

pub returns-clause-results : goal.returns-clause-results
returns-clause-results c = results_ask_in

pub returns-clause-superclasses : goal.returns-clause-superclasses
returns-clause-superclasses c = superclasses_ask_in

pub returns-clause-instances : goal.returns-clause-instances
returns-clause-instances c = instances_ask_in
