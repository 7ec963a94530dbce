-- What the rules of members ask and give: queries from places of the layout, and its types.
use Rattle.std.specs.Prelude.{ℕ, List, All}
use Rattle.sg_base.specs.declared.scope.Scope.{Scope}
use Rattle.sg_reading.specs.Reading.{AllAsked}
use Rattle.jv_instance.specs.declared.datum.JavaDatum.{JavaDatum}
use Rattle.jv_instance.specs.declared.datum.JavaDatum.TheVariants.{Package, TypeName, Member, Signature as SignatureDatum}
use Rattle.jv_layout.specs.Folder.{LayoutOf}
use Rattle.jv_tree.specs.declared.names.NameId.{NameId}
use Rattle.jv_tree.specs.DeclTree.{TypeDeclTree}
use Rattle.jv_tree.specs.Numbered.{IsNumberedIdent, IsNumberedType, IsNumberedVar, IsNumberedMethod, IsNumberedCtor, IsNumberedDecl}
use Rattle.jv_names.specs.Bounds.{IsNamedIn, IsTypeScope, IsTyIn, IsLayoutQuery, StaysIn}
use Rattle.jv_member.specs.declared.signature.Signature.{Signature}
use Rattle.jv_member.specs.Members.{members_rule}
use Rattle.jv_member.specs.Own.{OwnMember, own_field, own_method, own_ctor, default_ctor, own_members}
use Rattle.jv_member.specs.Signatures.{signature_rule}

-- each identifier of a member has the number of one of n names
abbrev pub IsNumberedOwn : ℕ → OwnMember → Type 0
IsNumberedOwn n (own_field ms t v) = IsNumberedType n t × IsNumberedVar n v
IsNumberedOwn n (own_method m) = IsNumberedMethod n m
IsNumberedOwn n (own_ctor c) = IsNumberedCtor n c
IsNumberedOwn n (default_ctor name) = IsNumberedIdent n name

-- a datum is a signature of such types
abbrev pub IsSignatureIn : LayoutOf → JavaDatum → Type 0
IsSignatureIn l (SignatureDatum n r ps) = IsTyIn l r × All (IsTyIn l) ps
IsSignatureIn l (Package n) = ⊥
IsSignatureIn l (TypeName n) = ⊥
IsSignatureIn l (Member n) = ⊥

-- the signature of a member of a type
abbrev pub SignaturesStayIn : Type 0
SignaturesStayIn =
    (l : LayoutOf) (count : ℕ) (names : List (List ℕ)) (c : Scope) (class : NameId) (m : OwnMember) → IsNamedIn l count → IsTypeScope l c → IsNumberedOwn count m
    → StaysIn l count (λ (s : Signature). IsSignatureIn l s.datum) (signature_rule l names c class m)

-- the members of a numbered declaration are numbered
abbrev pub OwnMembersAreNumbered : Type 0
OwnMembersAreNumbered = (count : ℕ) (d : TypeDeclTree) → IsNumberedDecl count d → All (IsNumberedOwn count) (own_members d)

-- all that is checked of a type's members asks such queries, whatever the answers
abbrev pub MembersAskInLayout : Type 0
MembersAskInLayout =
    (l : LayoutOf) (count : ℕ) (names : List (List ℕ)) (c : Scope) (d : TypeDeclTree) → IsNamedIn l count → IsTypeScope l c → IsNumberedDecl count d
    → AllAsked (IsLayoutQuery l count) (members_rule l names c d)
