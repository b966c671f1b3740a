-- The numbers of rows and of references in a database.
use Rattle.std.specs.Prelude.{◌≤◌, ℕ, ◌+◌, ◌*◌, ◌%◌, ◌^◌, IsSomeAnd, List}
use Rattle.std.specs.List.{slice_get}
use Rattle.sql_keeper.specs.declared.numbers.KeyRange.{KeyRange}

-- the number of the row of a table with a key
abbrev pub row_number : ℕ → ℕ → ℕ
row_number table key = table * 2 ^ 40 + key % 2 ^ 40

-- the number of the reference of a row in a column
abbrev pub reference_number : ℕ → ℕ → ℕ
reference_number row column = row * 64 + column

-- the key of a table lies among those that were put, by the range of each table's keys
abbrev pub HasKey : List KeyRange → ℕ → ℕ → Type 0
HasKey ranges table key = IsSomeAnd (slice_get ranges table) (λ (range : KeyRange). (range.least ≤ key) × (key ≤ range.greatest))
