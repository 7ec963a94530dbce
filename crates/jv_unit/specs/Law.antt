-- What units come to: what that looks at in a graph, and that members and bodies are checked by one definition.
use Rattle.std.specs.Prelude.{◌≡◌, ℕ, ◌<◌, List, ◌++◌, length, ◌↔◌}
use Rattle.std.specs.List.{Contains, flat_map}
use Rattle.sg_base.specs.Graph.{GraphOf}
use Rattle.sg_query.specs.declared.query.Query.{Query}
use Rattle.sg_reading.specs.Reading.{Gives, done, and_then, each}
use Rattle.jv_diag.specs.Plain.{DiagOf}
use Rattle.jv_instance.specs.declared.datum.JavaDatum.{JavaDatum}
use Rattle.jv_instance.specs.declared.pred.JavaPred.{JavaPred}
use Rattle.jv_layout.specs.Readers.{members_of_type}
use Rattle.jv_layout.specs.Scopes.{member_scope, type_scope}
use Rattle.jv_member.specs.Declaration.{joined}
use Rattle.jv_member.specs.Members.{members_rule}
use Rattle.jv_names.specs.Law.{InGraph, ReadsOnlyItsQueries}
use Rattle.jv_names.specs.Replies.{Rule}
use Rattle.jv_unit.specs.Checks.{member_checks}
use Rattle.jv_unit.specs.DeclaredBodies.{declared_body, declared_init}
use Rattle.jv_unit.specs.Folder.{FolderOf, IsFolderOf}
use Rattle.jv_unit.specs.MemberBodies.{member_body, type_blanks}
use Rattle.jv_unit.specs.Plans.{check_rule, declaration_part, unit_ending}
use Rattle.jv_unit.specs.Trees.{decl_at}

-- ---- queries

-- the rule of what a unit comes to looks at a graph by its own queries alone
abbrev pub UnitEndingsReadOnlyTheirQueries : Type 0
UnitEndingsReadOnlyTheirQueries = (w : FolderOf) (u : ℕ) → ReadsOnlyItsQueries (unit_ending w u)

-- ---- members

-- in a graph a rule comes to this value
abbrev pub ComesTo : {U : Type 0} → GraphOf JavaDatum → Rule U → U → Type 0
ComesTo g r v = (qs : List (Query JavaPred)) × Gives (InGraph g) r v qs

-- what the plan of a type checks of its members together, behind what is wrong with the declaration of each: all but the types in their signatures, and
-- their bodies
abbrev pub members_checked : FolderOf → ℕ → Rule (List DiagOf)
members_checked w t =
    and_then (each (check_rule w t (type_blanks w t)) (member_checks (members_of_type w.layout t))) (λ parts. done (flat_map (declaration_part w t) (members_of_type w.layout t) ++ joined parts))

-- the rule of the members of a type by its declaration comes in each graph to what the plan's checks come to
abbrev pub MembersAreChecked : Type 0
MembersAreChecked =
    (w : FolderOf) (t : ℕ) (g : GraphOf JavaDatum) (ds : List DiagOf) → IsFolderOf w → t < length w.layout.types
    → (ComesTo g (members_rule w.layout w.names (type_scope w.layout t) (decl_at w.files t)) ds) ↔ (ComesTo g (members_checked w t) ds)

-- ---- bodies

-- what is checked of the initializer and of the body of a member by the declaration of its type, one of which is nothing
abbrev pub declared_both : FolderOf → ℕ → ℕ → Rule (List DiagOf)
declared_both w t m =
    and_then (declared_init w.layout w.names (type_scope w.layout t) (decl_at w.files t) (member_scope w.layout m)) (λ inits. and_then (declared_body w.layout w.names (type_scope w.layout t) (decl_at w.files t) (member_scope w.layout m)) (λ bodies.
    done (inits ++ bodies)))

-- the plan checks the body or the initializer of a member by the rules by which both are checked by the declaration of its type
abbrev pub BodiesAreChecked : Type 0
BodiesAreChecked =
    (w : FolderOf) (t m : ℕ) → IsFolderOf w → t < length w.layout.types → Contains (members_of_type w.layout t) m → member_body w t (type_blanks w t) m ≡ declared_both w t m
