-- What doesn't change from row to row in a table.
use Rattle.std.specs.Prelude.{ℕ, ◌+◌, List, is_some, sum_by}
use Rattle.schema_facts.specs.Layout.{Layout, TableLayout, table_at}
use Rattle.schema_facts.specs.Lineage.{one_if, death_cost, lineages, lineage_at, loss_cost, null_cost}
use Rattle.schema_facts.specs.ColumnFacts.{column_facts_at}
use Rattle.schema_facts.specs.FieldSizes.{field_sizes, greatest_by}
use Rattle.schema_facts.specs.declared.column_facts.ColumnFacts.{ColumnFacts}
use Rattle.schema_facts.specs.declared.facts.TableFacts.{TableFacts}

-- the greatest size of a line, by those of its fields: a delimiter or the line feed stands after each
abbrev pub line_size : List ℕ → ℕ
line_size sizes = sum_by (λ size. size + 1) sizes

-- the greatest size of a line of a table, in bytes
abbrev pub line_of_table : Layout → TableLayout → ℕ
line_of_table layout table = line_size (field_sizes layout.delimiter layout.tables table.columns)

-- the greatest size of a line of the table at a place, in bytes
unfoldable pub max_line : Layout → ℕ → ℕ
max_line layout place = line_of_table layout (table_at layout.tables place)

-- the greatest size of a line of any table, in bytes
unfoldable pub reach : Layout → ℕ
reach layout = greatest_by (line_of_table layout) layout.tables

-- how many permutations fields ask at most
abbrev pub sum_of_costs : List ColumnFacts → ℕ
sum_of_costs columns = sum_by (λ (facts : ColumnFacts). facts.cost) columns

-- how many permutations the fields of a row ask at most, once it is known which references are null
abbrev pub fields_cost : Layout → ℕ → ℕ
fields_cost layout place = sum_of_costs (column_facts_at layout place)

-- how many permutations the unit of a row's last change takes at most: that of its updates, and those that tell when it lost parents
abbrev pub change_cost : Layout → ℕ → ℕ
change_cost layout place = one_if (is_some (table_at layout.tables place).update) + loss_cost layout.tables place

-- how many permutations the line of a row asks at most, with the change unit that it is drawn by
unfoldable pub line_cost : Layout → ℕ → ℕ
line_cost layout place =
    change_cost layout place + (null_cost layout.tables place + fields_cost layout place)

-- the cost of a row of the table at a place, which bounds the permutations of its report: one that finds the row by its key, and
-- those of its death and of its line
abbrev pub cost : Layout → ℕ → ℕ
cost layout place = 1 + death_cost layout.tables place + line_cost layout place

-- what doesn't change from row to row in the table at a place
abbrev pub facts_at : Layout → ℕ → TableFacts
facts_at layout place = record {
  keys = (table_at layout.tables place).key;
  lineage = lineage_at (lineages layout.tables) place;
  columns = column_facts_at layout place;
  cost = cost layout place;
  max_line = max_line layout place;
}
