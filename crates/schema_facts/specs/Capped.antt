-- Numbers as the code adds them up while nothing bounds them: those past the end of 64 bits stand at the end.
use Rattle.std.specs.Prelude.{ℕ, ◌-◌, ◌^◌, min, Bool, ◌||◌, nat_le, List, length, map, slice_index}
use Rattle.std.specs.List.{range_with_len}
use Rattle.schema_facts.specs.declared.column_facts.ColumnFacts.{ColumnFacts}
use Rattle.schema_facts.specs.declared.lineage.Lineage.{Lineage}
use Rattle.schema_facts.specs.declared.facts.TableFacts.{TableFacts}
use Rattle.schema_facts.specs.Dictionaries.{Project}
use Rattle.schema_facts.specs.Layout.{layout_of}
use Rattle.schema_facts.specs.TableFacts.{facts_at}

-- at most the last number of 64 bits
abbrev pub capped : ℕ → ℕ
capped n = min n (2 ^ 64 - 1)

abbrev pub capped_column : ColumnFacts → ColumnFacts
capped_column facts = record facts { cost = capped facts.cost }

abbrev pub capped_lineage : Lineage → Lineage
capped_lineage lineage = record lineage {
  death_cost = capped lineage.death_cost;
  loss_cost = capped lineage.loss_cost;
  null_cost = capped lineage.null_cost;
}

abbrev pub capped_facts : TableFacts → TableFacts
capped_facts facts = record facts {
  lineage = capped_lineage facts.lineage;
  columns = map capped_column facts.columns;
  cost = capped facts.cost;
  max_line = capped facts.max_line;
}

-- the facts of the first 64 tables of a schema, or of all where there are fewer, in order
abbrev pub first_facts : Project → List TableFacts
first_facts project =
    map (λ place. capped_facts (facts_at (layout_of project) place)) (range_with_len 0 (min (length project.schema.tables) 64))

-- of some numbers, the one at a place is at most a limit, where it is known
abbrev pub is_known_at_most : List ℕ → ℕ → ℕ → Bool
is_known_at_most numbers place limit = nat_le (length numbers) place || nat_le (slice_index numbers place) limit
