-- What doesn't change from row to row in a column: what its field costs, between which days it lies where it is dated, and between which
-- numbers where it is numeric. The facts are made in turn, each by those of the columns before it and of the tables before its own.
use Rattle.std.specs.Prelude.{ℕ, List, [], slice_index_or}
use Rattle.std.specs.List.{range_with_len}
use Rattle.schema_facts.specs.declared.column_facts.ColumnFacts.{ColumnFacts}
use Rattle.schema_facts.specs.Days.{days_of_kind}
use Rattle.schema_facts.specs.FactsBefore.{facts_in}
use Rattle.schema_facts.specs.FieldCosts.{cost_of_field}
use Rattle.schema_facts.specs.InTurn.{in_turn}
use Rattle.schema_facts.specs.Layout.{KindLayout, Layout, TableLayout, column_at}
use Rattle.schema_facts.specs.Numbers.{numbers_of_kind}

-- of a column of some kind
abbrev pub facts_of_kind : ℕ → List TableLayout → TableLayout → List (List ColumnFacts) → List ColumnFacts → KindLayout → ColumnFacts
facts_of_kind units tables table earlier before kind = record {
  cost = cost_of_field tables table earlier before kind;
  days = days_of_kind units earlier before kind;
  numbers = numbers_of_kind earlier before kind;
}

-- of the first 64 columns of a table, in order; no accepted schema has more. Past the last column stand those of the empty text
abbrev pub facts_of_columns : ℕ → List TableLayout → List (List ColumnFacts) → TableLayout → List ColumnFacts
facts_of_columns units tables earlier table =
    in_turn (λ before place. facts_of_kind units tables table earlier before (column_at table.columns place).kind) [] (range_with_len 0 64)

-- of the columns of each table, in order
unfoldable pub column_facts : Layout → List (List ColumnFacts)
column_facts layout = in_turn (facts_of_columns layout.units layout.tables) [] layout.tables

-- of the columns of the table at a place
abbrev pub column_facts_at : Layout → ℕ → List ColumnFacts
column_facts_at layout table = slice_index_or (column_facts layout) table []

-- of the column at a place in the table at a place
abbrev pub field_facts : Layout → ℕ → ℕ → ColumnFacts
field_facts layout table column = facts_in (column_facts layout) table column

-- how many permutations its field asks at most, once it is known which references are null
abbrev pub field_cost : Layout → ℕ → ℕ → ℕ
field_cost layout table column = (field_facts layout table column).cost
