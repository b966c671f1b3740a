-- What the lines of a table's rows are made from, column by column.
use Rattle.std.specs.Prelude.{◌≡◌, ℕ, ◌+◌, ◌^◌, ◌&&◌, Bool, false, true, List, Option, Some, None, length, map, nat_le}
use Rattle.std.specs.List.{range_with_len}
use Rattle.schema_facts.specs.declared.numbers.Numbers.{Numbers}
use Rattle.schema_plan.specs.declared.ready.ReadyKind.{ReadyKind}
use Rattle.schema_plan.specs.declared.ready.ReadyKind.TheVariants as kind
use Rattle.schema_facts.specs.ColumnFacts.{field_facts}
use Rattle.schema_facts.specs.Dictionaries.{Project}
use Rattle.schema_facts.specs.Layout.{KindLayout, column_at, key_kind, layout_of, lookup_kind, reference_kind}
use Rattle.schema_plan.specs.Ready.{ready_kind}
use Rattle.draw_values.specs.Runs.{RunColumnOf, is_short_number, run_column}
use Rattle.life_intervals.specs.Generator.{rows_in_all, table_of}
use Rattle.row_lines.specs.Runs.{behind}

-- the byte after the field of the column at a place of the table at a place
abbrev pub behind_of : Project → ℕ → ℕ → ℕ
behind_of plan table column = behind (layout_of plan).delimiter (length (table_of plan table).columns) column

-- whether each key of the table at a place has at most 15 digits
abbrev pub has_short_keys : Project → ℕ → Bool
has_short_keys plan table = nat_le ((table_of plan table).key.base + rows_in_all plan table) (10 ^ 15)

-- the column at a place of the table at a place, prepared for runs
abbrev pub column_of : Project → ℕ → ℕ → RunColumnOf
column_of plan table column = run_column plan table column (behind_of plan table column)

-- of what a lookup shows, the column of the parent's table, prepared for runs with a byte after its fields; None of any other kind
abbrev pub shown_by : Project → ℕ → ReadyKind → Option RunColumnOf
shown_by plan behind (kind.Lookup lookup) = Some (run_column plan lookup.parent lookup.column behind)
shown_by plan behind _ = None

-- whether there is one, and its fields are made as pieces
abbrev pub is_short_shown : Option RunColumnOf → Bool
is_short_shown None = false
is_short_shown (Some column) = column.short

-- what the column at a place of the table at a place shows
abbrev pub shown_of : Project → ℕ → ℕ → Option RunColumnOf
shown_of plan table column =
    shown_by plan (behind_of plan table column)
    (ready_kind (layout_of plan).delimiter (column_at (table_of plan table).columns column).kind)

-- whether each of the numbers of a column has at most 13 digits; not where it isn't numeric
abbrev pub are_small : Option Numbers → Bool
are_small None = false
are_small (Some numbers) = is_short_number numbers.least && is_short_number numbers.greatest

-- whether the fields of a column of the table at a place are made as pieces, by what it holds and what is prepared of it
abbrev pub is_short_kind : Project → ℕ → RunColumnOf → ReadyKind → Bool
is_short_kind plan table column kind.Key = has_short_keys plan table
is_short_kind plan table column (kind.Reference reference) = has_short_keys plan reference.parent
is_short_kind plan table column (kind.Lookup lookup) = is_short_shown (shown_by plan column.behind (kind.Lookup lookup))
is_short_kind plan table column (kind.After after) = true
is_short_kind plan table column (kind.Sum of) = are_small (field_facts (layout_of plan) table column.column).numbers
is_short_kind plan table column (kind.Product of) = are_small (field_facts (layout_of plan) table column.column).numbers
is_short_kind plan table column _ = column.short

-- whether a column holds no keys and looks nothing up
abbrev pub is_valued : KindLayout → Bool
is_valued key_kind = false
is_valued (reference_kind parent window spread nulls drawn) = false
is_valued (lookup_kind via parent name) = false
is_valued _ = true

abbrev pub is_short_at : Project → ℕ → ℕ → Bool
is_short_at plan table column =
    is_short_kind plan table (column_of plan table column)
    (ready_kind (layout_of plan).delimiter (column_at (table_of plan table).columns column).kind)

-- the columns of a table, prepared for runs, what its lookups show, and which are made as pieces
pub record TableLinesOf : Type 0 where
  pub columns : List RunColumnOf
  pub shown : List (Option RunColumnOf)
  pub short : List Bool

-- those of the table at a place
abbrev pub table_lines : Project → ℕ → TableLinesOf
table_lines plan table = record {
  columns = map (column_of plan table) (range_with_len 0 (length (table_of plan table).columns));
  shown = map (shown_of plan table) (range_with_len 0 (length (table_of plan table).columns));
  short = map (is_short_at plan table) (range_with_len 0 (length (table_of plan table).columns));
}

abbrev pub AreTableLines : Project → ℕ → TableLinesOf → Type 0
AreTableLines plan table lines = lines ≡ table_lines plan table
