-- Rows that name one another: each number in a row is that of a row.
use Rattle.std.specs.Prelude.{ℕ, ◌<◌, length, All, Option, None, Some}
use Rattle.jv_layout.specs.Folder.{LayoutOf}

-- a number, where there is one, is below n
abbrev pub IsBelow : ℕ → Option ℕ → Type 0
IsBelow n None = Unit {0}
IsBelow n (Some k) = k < n

-- each parent is a package, each file's package is one, each type's file, owner and outermost type are, and each member's type is
pub record IsLinked (l : LayoutOf) : Type 0 where
  pub packages : All (λ r. IsBelow (length l.packages) r.parent) l.packages
  pub files : All (IsBelow (length l.packages)) l.files
  pub type_files : All (λ r. r.file < length l.files) l.types
  pub owners : All (λ r. IsBelow (length l.types) r.owner) l.types
  pub tops : All (λ r. r.top < length l.types) l.types
  pub members : All (λ r. r.owner < length l.types) l.members
