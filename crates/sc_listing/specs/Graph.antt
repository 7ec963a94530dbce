-- The text of a graph: the imports of each file, and the supertypes and members of each type.
use Rattle.std.specs.Prelude.{ℕ, ◌++◌, Bool, cond, List, [], codes, Option, None, Some}
use Rattle.std.specs.List.{find, flat_map, join_by, list_any}
use Rattle.std.specs.Option.{option_map}
use Rattle.sg_base.specs.declared.scope.Scope.{Scope}
use Rattle.sg_base.specs.Graph.{GraphOf, row_of}
use Rattle.sg_base.specs.Scope.{is_scope}
use Rattle.jv_instance.specs.declared.datum.JavaDatum.{JavaDatum}
use Rattle.jv_instance.specs.declared.datum.JavaDatum.TheVariants.{Package, TypeName, Member, Signature}
use Rattle.jv_instance.specs.declared.labels.TheConstants.{SIMP, ODI, EXT, FIELD, METH, CTOR}
use Rattle.jv_instance.specs.declared.ty.Ty.{Ty}
use Rattle.jv_layout.specs.Folder.{text_of}
use Rattle.jv_layout.specs.Readers.{members_of, signature_scope}
use Rattle.jv_layout.specs.Titles.{type_text}
use Rattle.sc_listing.specs.Titles.{ListedOf, listed_files, listed_types, title}

-- the datum of a scope, where it has one
abbrev pub datum_of : {D : Type 0} → GraphOf D → Scope → Option D
datum_of g s = option_map (λ p. p.1) (find (λ p. is_scope p.0 s) g.given)

-- whether the graph has an edge
abbrev pub has_edge : {D : Type 0} → GraphOf D → Scope → ℕ → Scope → Bool
has_edge g s l t = list_any (λ u. is_scope u t) (row_of g s l)

-- a line for each scope: a word, and the scope's title
abbrev pub target_lines : ListedOf → List ℕ → List Scope → List ℕ
target_lines w word ts = flat_map (λ t. word ++ title w t ++ codes "\n") ts

-- ---- files

-- a file: its path, what it imports by name, and what it imports on demand
abbrev pub file_lines : ListedOf → GraphOf JavaDatum → Scope → List ℕ
file_lines w g f = codes "file " ++ title w f ++ codes "\n" ++ target_lines w (codes "simp ") (row_of g f SIMP) ++ target_lines w (codes "odi ") (row_of g f ODI)

-- ---- members, by their signatures

-- the types of parameters, with commas between them
abbrev pub types_text : ListedOf → List Ty → List ℕ
types_text w ts = join_by (type_text w.layout w.names) (codes ",") ts

-- the types of parameters, in parentheses
abbrev pub params_text : ListedOf → List Ty → List ℕ
params_text w ts = codes "(" ++ types_text w ts ++ codes ")"

-- a field: its name and its type
abbrev pub field_line : ListedOf → JavaDatum → List ℕ
field_line w (Signature n result params) = codes "field " ++ text_of w.names n.0 ++ codes " " ++ type_text w.layout w.names result ++ codes "\n"
field_line w (Package n) = []
field_line w (TypeName n) = []
field_line w (Member n) = []

-- a method: its name, the types of its parameters, and its result
abbrev pub method_line : ListedOf → JavaDatum → List ℕ
method_line w (Signature n result params) = codes "method " ++ text_of w.names n.0 ++ params_text w params ++ codes " " ++ type_text w.layout w.names result ++ codes "\n"
method_line w (Package n) = []
method_line w (TypeName n) = []
method_line w (Member n) = []

-- a constructor: the types of its parameters
abbrev pub constructor_line : ListedOf → JavaDatum → List ℕ
constructor_line w (Signature n result params) = codes "constructor" ++ params_text w params ++ codes "\n"
constructor_line w (Package n) = []
constructor_line w (TypeName n) = []
constructor_line w (Member n) = []

-- what is said of a datum, where there is one
abbrev pub said_of : (JavaDatum → List ℕ) → Option JavaDatum → List ℕ
said_of line None = []
said_of line (Some d) = line d

-- a member of a type that an edge leads to, by the edge's label; nothing where none does
abbrev pub member_line : ListedOf → GraphOf JavaDatum → Scope → Scope → List ℕ
member_line w g t m =
    cond (has_edge g t FIELD m) (said_of (field_line w) (datum_of g (signature_scope w.layout m)))
    (cond (has_edge g t METH m) (said_of (method_line w) (datum_of g (signature_scope w.layout m)))
    (cond (has_edge g t CTOR m) (said_of (constructor_line w) (datum_of g (signature_scope w.layout m))) []))

-- ---- types

-- a type: its title, what it extends and implements, and its members as the text has them
abbrev pub type_lines : ListedOf → GraphOf JavaDatum → Scope → List ℕ
type_lines w g t = codes "type " ++ title w t ++ codes "\n" ++ target_lines w (codes "ext ") (row_of g t EXT) ++ flat_map (member_line w g t) (members_of w.layout t)

-- ---- the whole

-- the folder's own files, its own types, and the last line
abbrev pub graph_text : ListedOf → GraphOf JavaDatum → List ℕ
graph_text w g = flat_map (file_lines w g) (listed_files w) ++ flat_map (type_lines w g) (listed_types w) ++ codes "end\n"
