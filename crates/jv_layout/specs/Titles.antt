-- The printed names of scopes.
use Rattle.std.specs.Prelude.{ℕ, zero, suc, cond, List, [], ◌∷◌, ◌++◌, length, map, Option, None, Some, codes}
use Rattle.std.specs.List.{join_with_byte, slice_index_or}
use Rattle.sg_base.specs.declared.scope.Scope.{Scope}
use Rattle.jv_tree.specs.declared.names.NameId.{NameId}
use Rattle.jv_instance.specs.declared.ty.Ty.{Ty as JavaType}
use Rattle.jv_instance.specs.declared.type_base.TypeBase.{TypeBase}
use Rattle.jv_instance.specs.declared.type_base.TypeBase.TheVariants.{Boolean, Char, Int, Long, Class, Null, Void, Bad}
use Rattle.jv_instance.specs.Types.{is_bad}
use Rattle.jv_layout.specs.declared.place.Place.{Place}
use Rattle.jv_layout.specs.declared.place.Place.TheVariants.{Outside, Root, Unnamed, Package, File, Ty, Member, Signature}
use Rattle.jv_layout.specs.declared.rows.MemberKind.{MemberKind}
use Rattle.jv_layout.specs.declared.rows.MemberKind.TheVariants.{Field, Method, Ctor, DefaultCtor}
use Rattle.jv_layout.specs.Folder.{LayoutOf, text_of}
use Rattle.jv_layout.specs.Scopes.{place_of}
use Rattle.jv_layout.specs.Readers.{type_at, member_at}
use Rattle.jv_layout.specs.Skeleton.{package_row_at}

-- the simple names of a package and of those that enclose it, outermost first; as many as the first number at most
abbrev pub package_names : LayoutOf → ℕ → Option ℕ → List ℕ
package_names l zero o = []
package_names l (suc k) None = []
package_names l (suc k) (Some p) = package_names l k (package_row_at l p).parent ++ (package_row_at l p).name.0 ∷ []

-- the simple names of a type and of those that enclose it, outermost first; as many as the first number at most
abbrev pub type_names : LayoutOf → ℕ → Option ℕ → List ℕ
type_names l zero o = []
type_names l (suc k) None = []
type_names l (suc k) (Some t) = type_names l k (type_at l t).owner ++ (type_at l t).name.0 ∷ []

-- the texts of names with dots between them
abbrev pub dotted : List (List ℕ) → List ℕ → List ℕ
dotted names ns = join_with_byte 46 (map (text_of names) ns)

-- the texts of names, with a dot in front of each
abbrev pub following : List (List ℕ) → List ℕ → List ℕ
following names [] = []
following names (n ∷ ns) = 46 ∷ (text_of names n ++ following names ns)

-- the numbers of names, the last first
abbrev pub outward : List NameId → List ℕ
outward [] = []
outward (n ∷ ns) = outward ns ++ n.0 ∷ []

-- the names of which the canonical name of a type is made (JLS 6.7); no package and no type encloses more than there are
abbrev pub canonical_names : LayoutOf → ℕ → List ℕ
canonical_names l t = package_names l (length l.packages) (slice_index_or l.files (type_at l t).file None) ++ type_names l (length l.types) (Some t)

-- the canonical name of a type
abbrev pub type_title : LayoutOf → List (List ℕ) → ℕ → List ℕ
type_title l names t = dotted names (canonical_names l t)

-- what stands behind the name of its type for a field, a method or a constructor
abbrev pub member_suffix : List (List ℕ) → ℕ → MemberKind → List ℕ
member_suffix names n Field = 35 ∷ text_of names n
member_suffix names n Method = (35 ∷ text_of names n) ++ codes "()"
member_suffix names n Ctor = codes "#new"
member_suffix names n DefaultCtor = codes "#new"

-- the title of a member: that of its type, and `#x`, `#m()` or `#new`
abbrev pub member_title : LayoutOf → List (List ℕ) → ℕ → List ℕ
member_title l names m = type_title l names (member_at l m).owner ++ member_suffix names (member_at l m).name.0 (member_at l m).kind

-- the printed name by what a scope is; a file, and what is outside of the layout, has none
abbrev pub title_at : LayoutOf → List (List ℕ) → Place → List ℕ
title_at l names Outside = []
title_at l names Root = codes "(root)"
title_at l names Unnamed = codes "(unnamed)"
title_at l names (Package p) = dotted names (package_names l (length l.packages) (Some p))
title_at l names (File f) = []
title_at l names (Ty t) = type_title l names t
title_at l names (Member m) = member_title l names m
title_at l names (Signature m) = member_title l names m ++ 33 ∷ []

-- the printed name of a scope: a package by its dotted name, a type by its canonical name, a signature as its member with a `!`. A file,
-- which is printed as its path, has none here
abbrev pub title_of : LayoutOf → List (List ℕ) → Scope → List ℕ
title_of l names s = title_at l names (place_of l s)

-- ---- types

-- so many pairs of brackets
abbrev pub brackets : ℕ → List ℕ
brackets zero = []
brackets (suc n) = 91 ∷ 93 ∷ brackets n

-- a type without its brackets: a primitive type, `null` and `void` by their words, a class or an interface by its title
abbrev pub base_text : LayoutOf → List (List ℕ) → TypeBase → List ℕ
base_text l names Boolean = codes "boolean"
base_text l names Char = codes "char"
base_text l names Int = codes "int"
base_text l names Long = codes "long"
base_text l names (Class s) = title_of l names s
base_text l names Null = codes "null"
base_text l names Void = codes "void"
base_text l names Bad = codes "?"

-- the printed name of a type: its base, and behind it its brackets. A bad type is a question mark, whatever its brackets
abbrev pub type_text : LayoutOf → List (List ℕ) → JavaType → List ℕ
type_text l names t = cond (is_bad t) (codes "?") (base_text l names t.base ++ brackets t.dims)
