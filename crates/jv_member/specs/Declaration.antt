-- What is wrong with the declaration of a member itself (JLS 8.3, 8.3.1, 8.4, 8.4.3, 8.4.7, 8.8, 8.8.3, 8.1.3, 9.3, 9.4, 9.4.3).
use Rattle.std.specs.Prelude.{ℕ, ◌==◌, ◌&&◌, ◌||◌, not, Bool, true, false, cond, List, [], ◌∷◌, ◌++◌, is_some}
use Rattle.std.specs.List.{flat_map}
use Rattle.std.specs.Ordering.{is_eq, nat_cmp}
use Rattle.std.specs.Cmp.Lexicographic.{slice_cmp}
use Rattle.sg_base.specs.declared.scope.Scope.{Scope}
use Rattle.jv_diag.specs.declared.codes.TheConstants.{DUPLICATE_FIELD, MODIFIERS, OVERLOADED, SECOND_CONSTRUCTOR, UNKNOWN_METHOD, WRONG_BODY}
use Rattle.jv_diag.specs.Plain.{DiagOf, diagnostic, fault_if}
use Rattle.jv_layout.specs.declared.words.TheConstants.{ABSTRACT, DEFAULT, FINAL, PRIVATE, PROTECTED, PUBLIC, STATIC}
use Rattle.jv_layout.specs.Duplicates.{is_duplicate}
use Rattle.jv_layout.specs.Folder.{LayoutOf, text_of, is_written}
use Rattle.jv_layout.specs.Readers.{file_of, is_interface_of, is_static_of}
use Rattle.jv_layout.specs.Words.{has_repeat, has_two_accesses, has_other}
use Rattle.jv_tree.specs.declared.name.Ident.{Ident}
use Rattle.jv_tree.specs.declared.names.NameId.{NameId}
use Rattle.jv_tree.specs.DeclTree.{MethodTree}
use Rattle.jv_tree.specs.StmtTree.{VarTree}
use Rattle.jv_tree.specs.TypeTree.{BaseTree, boolean, char, int, long, void, named, TypeTree}
use Rattle.jv_member.specs.Own.{OwnMember, own_field, own_method, own_ctor, default_ctor}

-- the diagnostics of several lists, one after another
abbrev pub joined : List (List DiagOf) → List DiagOf
joined ds = flat_map (λ d. d) ds

-- a code at an identifier, with its text
abbrev pub at_name : LayoutOf → List (List ℕ) → Scope → ℕ → Ident → DiagOf
at_name l names c code i = diagnostic (file_of l c) i.at code (text_of names i.id.0 ∷ [])

-- ---- modifiers, by the numbers of their keywords

-- those that may stand at a field of an interface, and of a class
abbrev pub of_fields : Bool → List ℕ
of_fields true = PUBLIC ∷ STATIC ∷ FINAL ∷ []
of_fields false = PUBLIC ∷ PROTECTED ∷ PRIVATE ∷ STATIC ∷ FINAL ∷ []

-- those at a method: `public`, `abstract`, `static` and `default` in an interface, and in a class all but `default`
abbrev pub of_methods : Bool → List ℕ
of_methods true = PUBLIC ∷ ABSTRACT ∷ STATIC ∷ DEFAULT ∷ []
of_methods false = PUBLIC ∷ PROTECTED ∷ PRIVATE ∷ STATIC ∷ ABSTRACT ∷ FINAL ∷ []

-- those at a constructor: `public`, `protected` and `private`
abbrev pub of_ctors : List ℕ
of_ctors = PUBLIC ∷ PROTECTED ∷ PRIVATE ∷ []

-- whatever stands, a word is there twice, two say the access, or one is not allowed
abbrev pub are_bad_words : List ℕ → List ℕ → Bool
are_bad_words allowed ws = has_repeat ws || (has_two_accesses ws || has_other allowed ws)

-- whether a text is `String`
abbrev pub is_string_text : List ℕ → Bool
is_string_text text = is_eq (slice_cmp nat_cmp text (83 ∷ 116 ∷ 114 ∷ 105 ∷ 110 ∷ 103 ∷ []))

-- a base is written as a primitive type, or by the simple name `String`
abbrev pub is_plain_base : List (List ℕ) → BaseTree → Bool
is_plain_base names boolean = true
is_plain_base names char = true
is_plain_base names int = true
is_plain_base names long = true
is_plain_base names void = false
is_plain_base names (named []) = false
is_plain_base names (named (i ∷ [])) = is_string_text (text_of names i.id.0)
is_plain_base names (named (i ∷ j ∷ is)) = false

-- a field may be static in an inner class: a static final one with an initializer, whose type is written so, without brackets
abbrev pub is_constant : List (List ℕ) → List ℕ → TypeTree → VarTree → Bool
is_constant names ws t v = is_written FINAL ws && (is_some v.init && ((t.dims == 0) && is_plain_base names t.base))

-- the modifiers of a field cannot stand
abbrev pub has_bad_field_words : LayoutOf → List (List ℕ) → Scope → List ℕ → TypeTree → VarTree → Bool
has_bad_field_words l names c ws t v =
    are_bad_words (of_fields (is_interface_of l c)) ws || ((is_written STATIC ws && not (is_static_of l c)) && not (is_constant names ws t v))

-- two of `abstract`, `static` and `default` stand
abbrev pub are_two_sorts : List ℕ → Bool
are_two_sorts ws = (is_written ABSTRACT ws && (is_written STATIC ws || is_written DEFAULT ws)) || (is_written STATIC ws && is_written DEFAULT ws)

-- those of a method: in an interface it may not be of two sorts, and nowhere abstract and private, static or final
abbrev pub has_bad_method_words : LayoutOf → Scope → List ℕ → Bool
has_bad_method_words l c ws =
    are_bad_words (of_methods (is_interface_of l c)) ws
    || ((is_interface_of l c && are_two_sorts ws)
    || ((is_written ABSTRACT ws && (is_written PRIVATE ws || (is_written STATIC ws || is_written FINAL ws))) || (is_written STATIC ws && not (is_static_of l c))))

-- ---- bodies

-- by its modifiers a method is abstract: in an interface where neither `static` nor `default` is written, and in a class where `abstract` is
abbrev pub is_abstract_by : LayoutOf → Scope → List ℕ → Bool
is_abstract_by l c ws = cond (is_interface_of l c) (not (is_written STATIC ws || is_written DEFAULT ws)) (is_written ABSTRACT ws)

-- a method is abstract and has a body, or is not and has none
abbrev pub has_wrong_body : LayoutOf → Scope → MethodTree → Bool
has_wrong_body l c m = cond (is_abstract_by l c m.mods) (is_some m.body) (not (is_some m.body))

-- ---- the whole

-- what is wrong with a member of a type that has this name: a second field, method or constructor of a name, modifiers, a body, and the name of a
-- constructor
abbrev pub member_diags : LayoutOf → List (List ℕ) → Scope → NameId → Scope → OwnMember → List DiagOf
member_diags l names c class s (own_field ms t v) =
    fault_if (is_duplicate l s) (at_name l names c DUPLICATE_FIELD v.name) ++ fault_if (has_bad_field_words l names c ms t v) (at_name l names c MODIFIERS v.name)
member_diags l names c class s (own_method m) =
    fault_if (is_duplicate l s) (at_name l names c OVERLOADED m.name) ++ (fault_if (has_bad_method_words l c m.mods) (at_name l names c MODIFIERS m.name) ++ fault_if (has_wrong_body l c m) (at_name l names c WRONG_BODY m.name))
member_diags l names c class s (own_ctor k) =
    fault_if (is_duplicate l s) (diagnostic (file_of l c) k.name.at SECOND_CONSTRUCTOR []) ++ (fault_if (are_bad_words of_ctors k.mods) (at_name l names c MODIFIERS k.name) ++ fault_if (not (k.name.id.0 == class.0)) (at_name l names c UNKNOWN_METHOD k.name))
member_diags l names c class s (default_ctor name) = []
