-- Where declarations stand in the trees of a folder.
use Rattle.std.specs.Prelude.{◌≡◌, ℕ, zero, suc, ◌+◌, List, [], ◌∷◌, ◌++◌, Option, None, Some}
use Rattle.std.specs.List.{fold, slice_get}
use Rattle.jv_tree.specs.DeclTree.{TypeDeclTree, type_decl, MemberTree, nested, field, method, ctor, MemberTrees, no_members, members, UnitTree}
use Rattle.jv_unit.specs.Trees.{unit_at}

abbrev mutual
  -- the places of a declaration that stands at a place, and of those that nest in it: in each body the place of the next one
  pub paths_in : List ℕ → TypeDeclTree → List (List ℕ)
  paths_in p (type_decl name ms i es is xs) = p ∷ body_paths p 0 xs

  -- the places of the declarations in a body, and of those that nest in them, behind the place of the body, from a member on
  pub body_paths : List ℕ → ℕ → MemberTrees → List (List ℕ)
  body_paths p i no_members = []
  body_paths p i (members (nested d) xs) = paths_in (p ++ i ∷ []) d ++ body_paths p (i + 1) xs
  body_paths p i (members (field ms t vs) xs) = body_paths p (i + 1) xs
  body_paths p i (members (method m) xs) = body_paths p (i + 1) xs
  body_paths p i (members (ctor c) xs) = body_paths p (i + 1) xs

-- the places of the declarations of a file, from the number of the file and the first one's place on
abbrev pub file_paths : ℕ → ℕ → List TypeDeclTree → List (List ℕ)
file_paths f i [] = []
file_paths f i (d ∷ ds) = paths_in (f ∷ i ∷ []) d ++ file_paths f (i + 1) ds

-- the places of the declarations of files, from the first file's number on
abbrev pub paths_from : ℕ → List UnitTree → List (List ℕ)
paths_from f [] = []
paths_from f (u ∷ us) = file_paths f 0 u.types ++ paths_from (f + 1) us

-- these are the places of all declarations of a folder
abbrev pub ArePathsOf : List UnitTree → List (List ℕ) → Type 0
ArePathsOf units paths = paths ≡ paths_from 0 units

-- the declaration that a member is, where it is one
abbrev pub decl_of : MemberTree → Option TypeDeclTree
decl_of (nested d) = Some d
decl_of (field ms t vs) = None
decl_of (method m) = None
decl_of (ctor c) = None

-- the declaration at a place in a body, where one stands there
abbrev pub nested_at : MemberTrees → ℕ → Option TypeDeclTree
nested_at no_members i = None
nested_at (members x xs) zero = decl_of x
nested_at (members x xs) (suc i) = nested_at xs i

-- the declaration at a place in the body of a declaration
abbrev pub inner_at : Option TypeDeclTree → ℕ → Option TypeDeclTree
inner_at None i = None
inner_at (Some (type_decl name ms i es is xs)) place = nested_at xs place

-- the declaration to which places lead from a declaration, body by body
abbrev pub decl_along : Option TypeDeclTree → List ℕ → Option TypeDeclTree
decl_along d path = fold inner_at d path

-- the declaration to which a path leads: the number of a file, a place among its declarations, and then places in bodies
abbrev pub decl_by : List UnitTree → List ℕ → Option TypeDeclTree
decl_by units [] = None
decl_by units (f ∷ []) = None
decl_by units (f ∷ i ∷ path) = decl_along (slice_get (unit_at units f).types i) path
