-- The facts of the columns and of the tables before a column.
use Rattle.std.specs.Prelude.{ℕ, List, [], None, slice_index_or}
use Rattle.schema_facts.specs.declared.column_facts.ColumnFacts.{ColumnFacts}

-- past the last column
abbrev pub no_facts : ColumnFacts
no_facts = record { cost = 0; days = None; numbers = None }

-- of the column at a place among some
abbrev pub facts_among : List ColumnFacts → ℕ → ColumnFacts
facts_among columns place = slice_index_or columns place no_facts

-- of the column at a place in the table at a place among some
abbrev pub facts_in : List (List ColumnFacts) → ℕ → ℕ → ColumnFacts
facts_in tables table column = facts_among (slice_index_or tables table []) column
