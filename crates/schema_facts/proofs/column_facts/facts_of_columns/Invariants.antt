use Rattle.std.proofs.Common.{◌≡◌, List, length, map, take}
use Rattle.schema_facts.specs.declared.column_facts.ColumnFacts.{ColumnFacts}
use Rattle.schema_facts.specs.declared.facts.TableFacts.{TableFacts}
use Rattle.schema_facts.specs.Capped.{capped_column}
use Rattle.schema_facts.specs.ColumnFacts.{facts_of_columns}
use Rattle.schema_facts.specs.Dictionaries.{Dictionary}
use Rattle.schema_facts.specs.Layout.{table_layout, table_layouts}
use Rattle.schema_facts.proofs.column_facts.facts_of_columns.Given as goal

abbrev pub invariant-loop-place : goal.invariant-loop-place
invariant-loop-place l = record {
  long : length l.facts ≡ 64;
  made : (dictionaries : List Dictionary) (given : List (List ColumnFacts)) → map (λ (facts : TableFacts). facts.columns) l.earlier ≡ map (map capped_column) given →
      take l.place l.facts ≡ map capped_column (take l.place (facts_of_columns l.units (table_layouts dictionaries l.tables) given (table_layout dictionaries l.tables l.table)));
}
