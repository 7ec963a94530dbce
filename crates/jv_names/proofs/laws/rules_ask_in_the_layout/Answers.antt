use Rattle.jv_names.proofs.Bounds.{type_names_stay_in, import_name_stays, import_rule_stays, statics_stay_in, type_accessible_stays, references_stay_in, written_types_stay_in}
use Rattle.jv_names.proofs.laws.rules_ask_in_the_layout.Goals as goal

pub returns-clause-type_names : goal.returns-clause-type_names
returns-clause-type_names c = type_names_stay_in

pub returns-clause-imports : goal.returns-clause-imports
returns-clause-imports c = import_name_stays

pub returns-clause-access : goal.returns-clause-access
returns-clause-access c = type_accessible_stays

pub returns-clause-references : goal.returns-clause-references
returns-clause-references c = references_stay_in

pub returns-clause-written_types : goal.returns-clause-written_types
returns-clause-written_types c = written_types_stay_in

pub returns-clause-import_rules : goal.returns-clause-import_rules
returns-clause-import_rules c = import_rule_stays

pub returns-clause-statics : goal.returns-clause-statics
returns-clause-statics c = statics_stay_in
