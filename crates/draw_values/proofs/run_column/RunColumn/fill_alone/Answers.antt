use Rattle.std.proofs.Common.{◌≡◌, ◌≤◌, ℕ, true, [], get_or, length, map, refl, ap, subst, sym, ◌∙◌, arith}
use Rattle.line_pages.specs.Pieces.{piece_text}
use Rattle.schema_plan.specs.declared.ready.ReadyColumn.{ReadyColumn}
use Rattle.schema_facts.specs.Layout.{column_at, layout_of, table_at}
use Rattle.schema_plan.specs.Limits.{IsTableInLimits}
use Rattle.schema_plan.specs.Ready.{ready_columns}
use Rattle.draw_values.specs.Runs.{DrawnColumnOf, IsReadyDrawn, RunColumnOf, drawn_field, drawn_of, is_short_alone, ready_at, run_row, short_value, with_behind}
use Rattle.draw_values.proofs.FieldLemmas.{IsKeptField, column_has_day}
use Rattle.draw_values.proofs.RunLemmas.{drawn_is_ready, kept_short, own_ready, run_field-filled, run_text_size}
use Rattle.draw_values.proofs.run_column.RunColumn.fill_alone.Goals as goal
use Rattle.draw_values.proofs.run_column.RunColumn.fill_alone.Goals.{After-index-columns-self}

table_is : (c : After-index-columns-self) → c.self.inside.table ≡ c.args.self.now.table
table_is c = ap (λ (r : RunColumnOf). r.table) c.self.view_is

column_is : (c : After-index-columns-self) → c.self.inside.column ≡ c.args.self.now.column
column_is c = ap (λ (r : RunColumnOf). r.column) c.self.view_is

own_is : (c : After-index-columns-self) → c.index-columns-self.result ≡ ready_at c.args.plan.now c.args.self.now.table c.args.self.now.column
own_is c =
    own_ready c.args.plan.now c.args.self.now c.columns-columns.result.now c.index-columns-self.result c.self.inside.table c.self.inside.column c.requires.column c.columns-columns.ensures.columns
    (table_is c) (column_is c) c.index-columns-self.is

short : (c : After-index-columns-self) → is_short_alone c.index-columns-self.result.kind ≡ true
short c =
    ap (λ (found : ReadyColumn). is_short_alone found.kind) (own_is c)
    ∙ c.requires.short

limits : (c : After-index-columns-self) → IsTableInLimits (layout_of c.args.plan.now).units (table_at (layout_of c.args.plan.now).tables c.args.self.now.table)
limits c =
    subst (λ (table : ℕ). IsTableInLimits (layout_of c.args.plan.now).units (table_at (layout_of c.args.plan.now).tables table)) (table_is c) c.columns-columns.ensures.limits

kept : (c : After-index-columns-self) → IsKeptField (layout_of c.args.plan.now) c.args.self.now.table c.args.self.now.column c.args.self.now.column c.index-columns-self.result c.index-columns-self.result
kept c =
    kept_short c.args.plan.now c.args.self.now c.columns-columns.result.now c.index-columns-self.result (layout_of c.args.plan.now).units c.requires.column
    (c.columns-columns.ensures.columns ∙ ap (ready_columns (layout_of c.args.plan.now)) (table_is c)) (limits c)
    (c.index-columns-self.is ∙ ap (λ (p : ℕ). get_or c.columns-columns.result.now p c.index-columns-self.result) (column_is c)) (own_is c) (short c)

pub fill-requires-clause-ready : goal.fill-requires-clause-ready
fill-requires-clause-ready c =
    let at : After-index-columns-self = (goal.at.fill-requires-clause-ready c).After-index-columns-self in
    let columns = (table_at (layout_of c.args.plan.now).tables c.args.self.now.table).columns in
    subst (λ (found : ReadyColumn). IsReadyDrawn found.kind) (sym (own_is at))
    (drawn_is_ready (layout_of c.args.plan.now).delimiter columns c.args.self.now.column (column_at columns c.args.self.now.column).kind ((limits at).kinds c.args.self.now.column c.requires.column.column_within))

pub fill-requires-clause-days : goal.fill-requires-clause-days
fill-requires-clause-days c = λ i within.
    let at : After-index-columns-self = (goal.at.fill-requires-clause-days c).After-index-columns-self in
    column_has_day (layout_of c.args.plan.now) c.args.self.now.table c.args.self.now.column (layout_of c.args.plan.now).units c.index-columns-self.result (run_row c.args.rows i)
    (limits at) c.requires.column.column_within (kept at).column_is (c.requires.rows.born i within) (c.requires.rows.changed i within)

pub returns-clause-text : goal.returns-clause-text
returns-clause-text c = λ i within.
    let at : After-index-columns-self = (goal.at.returns-clause-text c).After-index-columns-self in
    let run : RunColumnOf = c.args.self.now in
    let own : ReadyColumn = c.index-columns-self.result in
    run_field-filled c.args.plan.now run own c.args.rows i (with_behind run.behind (short_value run.seed own.changes own.kind c.args.rows i)) (get_or (map piece_text c.fill.new.pieces) i [])
    c.requires.column (kept at) (own_is at) (short at) refl
    (subst (λ (column : DrawnColumnOf). get_or (map piece_text c.fill.new.pieces) i [] ≡ drawn_field column own c.args.rows i) (ap drawn_of c.self.view_is) (c.fill.ensures.text i within))

pub returns-clause-size : goal.returns-clause-size
returns-clause-size c = λ i within.
    let at : After-index-columns-self = (goal.at.returns-clause-size c).After-index-columns-self in
    run_text_size c.args.plan.now c.args.self.now c.index-columns-self.result c.args.rows i
    c.requires.column (kept at) (own_is at) (short at)
    (omega (arith, c.requires.rows.born i within, c.columns-columns.ensures.units)) (omega (arith, c.requires.rows.changed i within, c.columns-columns.ensures.units))
    (subst (λ (column : DrawnColumnOf). length (short_value column.seed c.index-columns-self.result.changes c.index-columns-self.result.kind c.args.rows i) ≤ 15) (ap drawn_of c.self.view_is) (c.fill.ensures.short i within))
