use Rattle.std.proofs.Common.{◌≡◌, ◌+◌, ◌-◌, ◌*◌}
use Rattle.jv_grammar.specs.DeclReader.{below_type, members_of}
use Rattle.jv_parse.proofs.MemberTurns.{members_onto}
use Rattle.jv_parse.proofs.declarations.+declarations.Given as goal

abbrev pub decreases-type_declarations::type_declaration : goal.decreases-type_declarations::type_declaration
decreases-type_declarations::type_declaration l = 8 * l.fuel + 6

abbrev pub decreases-type_declarations::class : goal.decreases-type_declarations::class
decreases-type_declarations::class l = 8 * l.fuel + 5

abbrev pub decreases-type_declarations::interface : goal.decreases-type_declarations::interface
decreases-type_declarations::interface l = 8 * l.fuel + 5

abbrev pub decreases-members::braced : goal.decreases-members::braced
decreases-members::braced l = 8 * l.fuel + 4

abbrev pub decreases-members::members : goal.decreases-members::members
decreases-members::members l = 8 * l.fuel + 3

abbrev pub decreases-members::member : goal.decreases-members::member
decreases-members::member l = 8 * l.fuel + 2

abbrev pub decreases-members::behind_modifiers : goal.decreases-members::behind_modifiers
decreases-members::behind_modifiers l = 8 * l.fuel + 1

abbrev pub decreases-type_declarations::nested_type : goal.decreases-type_declarations::nested_type
decreases-type_declarations::nested_type l = 8 * l.fuel

abbrev pub invariant-members::members-loop-i : goal.invariant-members::members-loop-i
invariant-members::members-loop-i l = members_onto l.items.items (members_of l.interface l.fuel (below_type l.fuel) (l.count - l._i) l.rest) ≡ members_of l.interface l.fuel (below_type l.fuel) l.count l.terminals
