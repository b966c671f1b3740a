-- What is told of a table beside a schema, by the facts of the schema's tables.
use Rattle.std.proofs.Common.{◌≡◌, ℕ, ◌<◌, ◌≤◌, List, [], get_or, length, map, min, take, sym, ap, ◌∙◌, arith}
use Rattle.std.specs.List.{range_with_len}
use Rattle.std.proofs.lemmas.List.{get_or-map, length-map, take-map}
use Rattle.std.proofs.lemmas.List.FromFn.{fill_by_all, get_or-range_with_len, length-range_with_len}
use Rattle.schema_model.specs.declared.table.Table.{Table}
use Rattle.schema_facts.specs.declared.column_facts.ColumnFacts.{ColumnFacts}
use Rattle.schema_facts.specs.declared.facts.TableFacts.{TableFacts}
use Rattle.schema_plan.specs.Beside.{facts_beside}
use Rattle.schema_facts.specs.Capped.{capped_column, capped_facts, first_facts}
use Rattle.schema_facts.specs.ColumnFacts.{column_facts, column_facts_at, facts_of_columns, facts_of_kind}
use Rattle.schema_facts.specs.Dictionaries.{Project}
use Rattle.schema_facts.specs.FactsBefore.{facts_among, no_facts}
use Rattle.schema_facts.specs.Layout.{KindLayout, Layout, TableLayout, column_at, layout_of, table_layout}
use Rattle.schema_facts.specs.TableFacts.{facts_at}
use Rattle.schema_facts.proofs.ColumnFactsLemmas.{facts_among-capped, facts_of_kind-capped, length-column_facts}
use Rattle.schema_facts.proofs.FieldFactsLemmas.{AreFactsOf}
use Rattle.schema_facts.proofs.Lists.{get_or-in_turn, map-map}

-- the facts of the columns of all tables, as they are kept
pub all_facts : (project : Project) → length project.schema.tables ≤ 64 →
    map (λ (facts : TableFacts). facts.columns) (first_facts project) ≡ map (map capped_column) (column_facts (layout_of project))
all_facts project few =
    let layout = layout_of project in
    let kept = λ (place : ℕ). map capped_column (column_facts_at layout place) in
    let facts = column_facts layout in
    let tables : length layout.tables ≡ length project.schema.tables = length-map project.schema.tables (table_layout project.dictionaries project.schema.tables) in
    let all : min (length project.schema.tables) 64 ≡ length layout.tables = omega (arith, few, tables) in
    map-map (λ (facts : TableFacts). facts.columns) (λ place. capped_facts (facts_at layout place)) (range_with_len 0 (min (length project.schema.tables) 64))
    ∙ ap (λ n. map kept (range_with_len 0 n)) all
    ∙ sym (fill_by_all kept (map (map capped_column) facts) (length layout.tables) [] (length-map facts (map capped_column) ∙ length-column_facts layout)
    (λ k below. get_or-map (map capped_column) facts k [] [] (omega (arith, below, length-column_facts layout))))

-- ---- one column

-- the tables of a schema, as the facts of a table beside it know them
abbrev pub known_tables : Project → List (List ColumnFacts)
known_tables project = map (map capped_column) (column_facts (layout_of project))

-- the layout of the table
abbrev pub layout_beside : Project → Table → TableLayout
layout_beside project table = table_layout project.dictionaries project.schema.tables table

-- of the column at a place, by its kind and by the columns before it
pub facts_beside-is : (project : Project) (table : Table) (column : ℕ) → column < 64 →
    facts_among (facts_beside project table) column
    ≡ capped_column (facts_of_kind (layout_of project).units (layout_of project).tables (layout_beside project table) (known_tables project) (take column (facts_beside project table)) (column_at (layout_beside project table).columns column).kind)
unfolding facts_beside
facts_beside-is project table column within =
    let layout : Layout = layout_of project in
    let own : TableLayout = layout_beside project table in
    let kind : KindLayout = (column_at own.columns column).kind in
    let earlier = column_facts layout in
    let give : List ColumnFacts → ℕ → ColumnFacts = λ before place. facts_of_kind layout.units layout.tables own earlier before (column_at own.columns place).kind in
    let all : List ColumnFacts = facts_of_columns layout.units layout.tables earlier own in
    let at : get_or (range_with_len 0 64) column 0 ≡ column = omega (arith, get_or-range_with_len 0 64 column 0 within) in
    facts_among-capped all column
    ∙ ap capped_column (get_or-in_turn give (range_with_len 0 64) column no_facts 0 (omega (arith, within, length-range_with_len 0 64)) ∙ ap (give (take column all)) at)
    ∙ sym (facts_of_kind-capped layout.units layout.tables own earlier (take column all) kind)
    ∙ ap (λ before. capped_column (facts_of_kind layout.units layout.tables own (known_tables project) before kind)) (sym (take-map capped_column column all))

pub are_facts_beside : (project : Project) (table : Table) (column : ℕ) (kind : KindLayout) → column < 64 → (column_at (layout_beside project table).columns column).kind ≡ kind →
    AreFactsOf (layout_of project).units (known_tables project) (facts_beside project table) column kind
are_facts_beside project table column kind within kind_is =
    let facts = λ (of : KindLayout). capped_column (facts_of_kind (layout_of project).units (layout_of project).tables (layout_beside project table) (known_tables project) (take column (facts_beside project table)) of) in
    let is = facts_beside-is project table column within ∙ ap facts kind_is in
    record { days = ap (λ (one : ColumnFacts). one.days) is; numbers = ap (λ (one : ColumnFacts). one.numbers) is }
