use Rattle.jv_names.proofs.Bounds.{all_methods_stay_in, fields_stay_in, members_among_stay_in, methods_stay_in, member_accessible_stays}
use Rattle.jv_names.proofs.laws.member_rules_ask_in_the_layout.Goals as goal

pub returns-clause-fields : goal.returns-clause-fields
returns-clause-fields c = fields_stay_in

pub returns-clause-all_methods : goal.returns-clause-all_methods
returns-clause-all_methods c = all_methods_stay_in

pub returns-clause-methods : goal.returns-clause-methods
returns-clause-methods c = methods_stay_in

pub returns-clause-members : goal.returns-clause-members
returns-clause-members c = members_among_stay_in

pub returns-clause-access : goal.returns-clause-access
returns-clause-access c = member_accessible_stays
