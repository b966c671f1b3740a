use Rattle.std.proofs.Common.{◌≡◌, ◌<◌, ℕ, List, ap, arith, get_or, length, map, subst, sym, ◌∙◌}
use Rattle.schema_model.specs.declared.column.Column.{Column}
use Rattle.schema_model.specs.declared.table.Table.{Table}
use Rattle.schema_facts.specs.Capped.{capped}
use Rattle.schema_facts.specs.Dictionaries.{Project, project_of}
use Rattle.schema_facts.specs.FieldSizes.{size_of}
use Rattle.schema_facts.specs.Layout.{column_layout, kind_layout, layout_of, table_at, table_layout, table_layouts}
use Rattle.schema_facts.specs.TableFacts.{max_line}
use Rattle.schema_plan.proofs.FieldSizeLemmas.{size-found, size_for, columns-found, field-less, field-uncapped}
use Rattle.schema_plan.proofs.plan.Plan.field_size.Goals as goal
use Rattle.schema_plan.proofs.plan.Plan.field_size.Goals.{After-size_of}

-- the table is one of the plan's, and has the column
table_below : (c : After-size_of) → c.args.table < length (project_of c.self.inside.schema c.self.inside.dictionaries).schema.tables
table_below c = subst (λ (p : Project). c.args.table < length p.schema.tables) (sym c.self.view_is) c.requires.table

column_within : (c : After-size_of) →
    c.args.column < length (table_at (layout_of (project_of c.self.inside.schema c.self.inside.dictionaries)).tables c.args.table).columns
column_within c = subst (λ (p : Project). c.args.column < length (table_at (layout_of p).tables c.args.table).columns) (sym c.self.view_is) c.requires.column

-- the size that is found is that of the plan
size_is : (c : After-size_of) → c.size_of.result ≡ size_for (layout_of (project_of c.self.inside.schema c.self.inside.dictionaries)) c.args.table c.args.column
size_is c =
    let project : Project = project_of c.self.inside.schema c.self.inside.dictionaries in
    let table : Table = c.index-tables-table.result in
    let own : Column = c.index-columns-column.result in
    let dictionaries = c.self.inside.dictionaries in
    let size : ℕ → List Table → Column → ℕ = λ delimiter tables column.
    capped (size_of delimiter (table_layouts dictionaries tables) (table_layout dictionaries tables table).columns (kind_layout dictionaries tables table.columns column.kind)) in
    let tables : c.as_slice-tables.result.now ≡ project.schema.tables = c.as_slice-tables.ensures in
    let table_is : table ≡ get_or project.schema.tables c.args.table table = c.index-tables-table.is ∙ ap (λ (all : List Table). get_or all c.args.table table) tables in
    let own_columns : c.as_slice-columns.result.now ≡ table.columns = c.as_slice-columns.ensures ∙ ap (λ (of : Table). of.columns) (sym c.index-tables-table.is) in
    let within : c.args.column < length table.columns =
    omega (arith, column_within c, columns-found project c.args.table table (table_below c) table_is) in
    c.size_of.ensures
    ∙ ap (λ (column : Column). capped (size_of c.delimiter.result (table_layouts dictionaries c.as_slice-tables.result.now) (map (column_layout dictionaries c.as_slice-tables.result.now c.as_slice-columns.result.now) c.as_slice-columns.result.now)
    (kind_layout dictionaries c.as_slice-tables.result.now c.as_slice-columns.result.now column.kind))) (sym c.index-columns-column.is)
    ∙ ap (λ (all : List Column). capped (size_of c.delimiter.result (table_layouts dictionaries c.as_slice-tables.result.now) (map (column_layout dictionaries c.as_slice-tables.result.now all) all)
    (kind_layout dictionaries c.as_slice-tables.result.now all c.index-columns-column.result.kind))) own_columns
    ∙ ap (λ (delimiter : ℕ). size delimiter c.as_slice-tables.result.now own) (c.delimiter.ensures ∙ ap (λ (p : Project). (layout_of p).delimiter) (sym c.self.view_is))
    ∙ ap (λ (all : List Table). size (layout_of project).delimiter all own) tables
    ∙ ap capped
    (size-found project c.args.table c.args.column table own (table_below c) within table_is
    (c.index-columns-column.is ∙ ap (λ (all : List Column). get_or all c.args.column own) own_columns))
    ∙ field-uncapped project c.self.invariant.limits c.args.table c.args.column (table_below c) (column_within c)

pub returns-clause-size : goal.returns-clause-size
returns-clause-size c =
    size_is (goal.at.returns-clause-size c).After-size_of
    ∙ ap (λ (p : Project). size_for (layout_of p) c.args.table c.args.column) c.self.view_is

pub returns-clause-within_line : goal.returns-clause-within_line
returns-clause-within_line c =
    let here = (goal.at.returns-clause-within_line c).After-size_of in
    let project : Project = project_of c.self.inside.schema c.self.inside.dictionaries in
    subst (λ (p : Project). c.size_of.result < max_line (layout_of p) c.args.table) c.self.view_is
    (omega (arith, size_is here, field-less (layout_of project) c.args.table c.args.column (column_within here)))
