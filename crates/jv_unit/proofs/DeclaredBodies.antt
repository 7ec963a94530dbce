-- What is read of one body, or of one initializer, by the declaration of its type.
use Rattle.std.proofs.Common.{◌≡◌, ℕ, List, Option, Result, ◌∙◌, subst}
use Rattle.sg_base.specs.declared.scope.Scope.{Scope}
use Rattle.sg_query.specs.declared.answer.Answer.{Answer}
use Rattle.sg_query.specs.declared.query.Query.{Query}
use Rattle.sg_reading.specs.declared.stop.Stop.{Stop}
use Rattle.sg_reading.specs.Stop.{Reads}
use Rattle.jv_diag.specs.Plain.{DiagOf}
use Rattle.jv_instance.specs.declared.datum.JavaDatum.{JavaDatum}
use Rattle.jv_instance.specs.declared.pred.JavaPred.{JavaPred}
use Rattle.jv_layout.specs.Folder.{LayoutOf}
use Rattle.jv_layout.specs.Readers.{members_of}
use Rattle.jv_member.specs.Members.{placed}
use Rattle.jv_member.specs.Own.{OwnMember, own_members}
use Rattle.jv_names.specs.Replies.{Rule}
use Rattle.jv_tree.specs.declared.name.Ident.{Ident}
use Rattle.jv_tree.specs.DeclTree.{TypeDeclTree}
use Rattle.jv_unit.specs.DeclaredBodies.{blanks_among, body_of, declared_body, declared_init, init_of, member_with, placed_members}
use Rattle.jv_unit.specs.Trees.{extends_of}

abbrev Replies : Type 0
Replies = Query JavaPred → Option (Answer JavaDatum)

abbrev Found : Type 0
Found = Result (List DiagOf) (Stop (Query JavaPred))

-- by what the code has of the type and of the member
module _ (reply : Replies) (l : LayoutOf) (names : List (List ℕ)) (c : Scope) (d : TypeDeclTree) (m : Scope) (es : List (List Ident)) (ss : List Scope) (os : List OwnMember) (o : OwnMember) (extends : es ≡ extends_of d) (scopes : ss ≡ members_of l c) (owns : os ≡ own_members d) (own : o ≡ member_with m (placed ss os)) where
  placed_are : placed ss os ≡ placed_members l c d
  placed_are i = placed (scopes i) (owns i)

  own_is : o ≡ member_with m (placed_members l c d)
  own_is = own ∙ (λ i. member_with m (placed_are i))

  pub body_read : (bs : List Scope) (x : Found) → bs ≡ blanks_among l (placed ss os) → Reads reply (body_of l names c es bs m o) x → Reads reply (declared_body l names c d m) x
  body_read bs x blank h =
      let blanks : bs ≡ blanks_among l (placed_members l c d) = blank ∙ (λ i. blanks_among l (placed_are i)) in
      subst (λ (r : Rule (List DiagOf)). Reads reply r x) (λ i. body_of l names c (extends i) (blanks i) m (own_is i)) h

  pub init_read : (x : Found) → Reads reply (init_of l names c es m o) x → Reads reply (declared_init l names c d m) x
  init_read x h = subst (λ (r : Rule (List DiagOf)). Reads reply r x) (λ i. init_of l names c (extends i) m (own_is i)) h
