-- The lines of a text, and the fields that a line body is written from.
use Rattle.std.specs.Prelude.{◌≡◌, ℕ, ◌<◌, ◌≤◌, List, [], ◌∷◌, ◌++◌, length, take, slice_get, Contains, Option, Some}
use Rattle.std.specs.List.{join_by, slice_range}
use Rattle.row_text.specs.Fields.{field_text}

-- a line's bounds: from where it starts up to the first line feed there
pub record IsLineAt (bytes : List ℕ) (start end : ℕ) : Type 0 where
  pub order : start ≤ end
  pub line_feed : slice_get bytes end ≡ Some 10
  pub first : ¬ Contains (slice_range bytes start end) 10

-- fields as they are written in a line, with the delimiter between each two
abbrev pub line_text : ℕ → List (Option (List ℕ)) → List ℕ
line_text delimiter fields = join_by (field_text delimiter) (delimiter ∷ []) fields

-- the line body that is written from these fields, of which there are one or more
pub record IsLineBody (delimiter : ℕ) (fields : List (Option (List ℕ))) (bytes : List ℕ) : Type 0 where
  pub some : 0 < length fields
  pub written : bytes ≡ line_text delimiter fields

-- bytes that some line body begins with
pub record BeginsLineBody (delimiter : ℕ) (bytes : List ℕ) : Type 0 where
  pub fields : List (Option (List ℕ))
  pub more : List ℕ
  pub goes_on : IsLineBody delimiter fields (bytes ++ more)

-- bytes that are no line body, and how many of them the longest prefix has that some line body begins with
pub record IsBadAt (delimiter : ℕ) (bytes : List ℕ) (at : ℕ) : Type 0 where
  pub within : at ≤ length bytes
  pub begins : BeginsLineBody delimiter (take at bytes)
  pub longest : (size : ℕ) → size ≤ length bytes → BeginsLineBody delimiter (take size bytes) → size ≤ at
  pub no_body : (fields : List (Option (List ℕ))) → ¬ IsLineBody delimiter fields bytes
