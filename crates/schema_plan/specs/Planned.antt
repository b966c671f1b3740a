-- What a plan is, and what it keeps.
use Rattle.std.specs.Prelude.{◌≡◌, ℕ, List, map, length, Option}
use Rattle.std.specs.List.{position, range_with_len}
use Rattle.schema_model.specs.declared.table.Schema.{Schema}
use Rattle.schema_model.specs.declared.table.Table.{Table}
use Rattle.cohort_sizes.specs.Kept.{BirthsUpTo}
use Rattle.schema_facts.specs.declared.facts.TableFacts.{TableFacts}
use Rattle.schema_plan.specs.declared.ready.ReadyColumn.{ReadyColumn}
use Rattle.schema_facts.specs.Counts.{count}
use Rattle.schema_facts.specs.Dictionaries.{Project}
use Rattle.schema_facts.specs.Layout.{births_of, layout_of}
use Rattle.schema_plan.specs.Limits.{IsInLimits}
use Rattle.schema_facts.specs.Names.{same_text}
use Rattle.schema_plan.specs.Ready.{ready_columns}
use Rattle.schema_plan.specs.Rules.{IsAccepted}
use Rattle.schema_facts.specs.TableFacts.{facts_at, reach}

-- the births of a table, and the last unit of which its cohorts are told
abbrev pub births_through : ℕ → Table → BirthsUpTo
births_through last table = record { births = births_of table; last = last }

-- an accepted schema with its dictionaries, the facts, the columns and the cohorts of each table, in order, and its reach
pub record IsPlan (project : Project) (kept : List TableFacts) (ready : List (List ReadyColumn)) (cohorts : List BirthsUpTo) (most : ℕ) : Type 0 where
  pub accepted : IsAccepted project
  pub limits : IsInLimits project
  pub facts : kept ≡ map (facts_at (layout_of project)) (range_with_len 0 (length project.schema.tables))
  pub columns : ready ≡ map (ready_columns (layout_of project)) (range_with_len 0 (length project.schema.tables))
  pub cohorts_are : cohorts ≡ map (births_through (count project.schema.units)) project.schema.tables
  pub reach : most ≡ reach (layout_of project)

-- the place of the table with a name; None where no table has it
abbrev pub table_named : Schema → List ℕ → Option ℕ
table_named schema name = position (λ (table : Table). same_text table.name name) schema.tables
