use Rattle.sg_reading.proofs.Readings.{reads_only}
use Rattle.jv_names.specs.Instances.{has_enclosing}
use Rattle.jv_names.specs.Law.{InGraph}
use Rattle.jv_names.specs.Read.{signature_of, supers_of, result_fits, ctor_of}
use Rattle.jv_names.specs.Superclass.{superclass}
use Rattle.jv_names.proofs.laws.readings_read_only_their_queries.Goals as goal

pub returns-clause-signatures : goal.returns-clause-signatures
returns-clause-signatures c = λ l m g h. reads_only (InGraph g) (InGraph h) (signature_of l m)

pub returns-clause-ctors : goal.returns-clause-ctors
returns-clause-ctors c = λ l k g h. reads_only (InGraph g) (InGraph h) (ctor_of l k)

pub returns-clause-supers : goal.returns-clause-supers
returns-clause-supers c = λ l k g h. reads_only (InGraph g) (InGraph h) (supers_of l k)

pub returns-clause-results : goal.returns-clause-results
returns-clause-results c = λ l s t g h. reads_only (InGraph g) (InGraph h) (result_fits l s t)

pub returns-clause-superclasses : goal.returns-clause-superclasses
returns-clause-superclasses c = λ l k ns g h. reads_only (InGraph g) (InGraph h) (superclass l k ns)

pub returns-clause-instances : goal.returns-clause-instances
returns-clause-instances c = λ l bodies s o g h. reads_only (InGraph g) (InGraph h) (has_enclosing l bodies s o)
