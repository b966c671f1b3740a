-- Marks, and the files that packages are written to by them.
use Rattle.std.specs.Prelude.{◌≡◌, ◌≤◌, ◌<◌, ◌-◌, ℕ, All, List, [], ◌∷◌, length, slice_index_or}
use Rattle.std.specs.List.{flat_map, range_with_len}
use Rattle.std.specs.List.Sorted.{IsNonDecreasingBy}
use Rattle.pd_outside.specs.Files.{File}

-- the packages from this number on are written under this name
pub record Mark : Type 0 where
  pub first : ℕ
  pub name : List ℕ

-- mark number i, counted from 0
abbrev pub mark_at : List Mark → ℕ → Mark
mark_at marks i = slice_index_or marks i (record { first = 0; name = [] })

-- the number before which packages end: that of the first mark, or the count of all packages where there is none
abbrev pub end_before : ℕ → List Mark → ℕ
end_before count [] = count
end_before count (mark ∷ marks) = mark.first

-- marks of so many packages: the first one begins with package 0, the numbers never fall, and none passes the count
pub record AreMarksOf (count : ℕ) (marks : List Mark) : Type 0 where
  pub some : 0 < length marks
  pub first : (mark_at marks 0).first ≡ 0
  pub rising : IsNonDecreasingBy (λ mark. mark.first) marks
  pub within : All (λ mark. mark.first ≤ count) marks

-- the texts of the packages from a number up to another, in order
abbrev pub texts : (ℕ → List ℕ) → ℕ → ℕ → List ℕ
texts text first end = flat_map text (range_with_len first (end - first))

-- the files that are due: under each name the packages up to the next mark
abbrev pub due_files : (ℕ → List ℕ) → ℕ → List Mark → List File
due_files text count [] = []
due_files text count (mark ∷ marks) =
    record { name = mark.name; bytes = texts text mark.first (end_before count marks) } ∷ due_files text count marks
