use Rattle.std.proofs.Common.{◌≡◌, ◌<◌, ◌≤◌, arith, length}
use Rattle.schema_facts.specs.Layout.{layout_of}
use Rattle.life_intervals.specs.Generator.{table_of}
use Rattle.sql_lines.specs.Reach.{statement_size}
use Rattle.sql_lines.proofs.BareLemmas.{columns-many}
use Rattle.sql_lines.proofs.ReachLemmas.{literal-is, size-next, size-whole, statement-few}
use Rattle.sql_lines.proofs.reach.statement_size.Goals as goal
use Rattle.sql_lines.proofs.reach.statement_size.Goals.{After-loop-column}

pub overflow_add-size-in-loop-column : goal.overflow_add-size-in-loop-column
overflow_add-size-in-loop-column c =
    let plan = c.args.plan.now in
    let within : c.loop-column.column < length (table_of plan c.args.table).columns =
    omega (arith, c.loop-column-test.true, columns-many plan c.args.table c.columns-column-end.result.now c.columns-column-end.ensures.columns) in
    let literal = literal-is plan c.args.table c.loop-column.column c.is_bare_at-bare.result c.field_size.result c.literal_size.result c.literal_size.ensures c.is_bare_at-bare.ensures c.field_size.ensures.size in
    let few = size-next plan c.schema-limits.ensures.limits c.args.table c.loop-column.column c.requires within c.loop-column.size c.literal_size.result c.loop-column.invariant literal in
    record { fits = omega (arith, few) }

-- all columns are counted
whole : (c : After-loop-column) → c.loop-column.size ≡ statement_size (layout_of c.args.plan.now) c.args.table
whole c =
    let past : length (table_of c.args.plan.now c.args.table).columns ≤ c.loop-column.column =
    omega (arith, c.loop-column-test.false, columns-many c.args.plan.now c.args.table c.columns-column-end.result.now c.columns-column-end.ensures.columns) in
    size-whole (layout_of c.args.plan.now) c.args.table c.loop-column.column c.loop-column.size c.loop-column.invariant past

pub returns-clause-size : goal.returns-clause-size
returns-clause-size c = whole (goal.at.returns-clause-size c).After-loop-column

pub returns-clause-few : goal.returns-clause-few
returns-clause-few c =
    omega (arith, whole (goal.at.returns-clause-few c).After-loop-column, statement-few c.args.plan.now c.schema-limits.ensures.limits c.args.table c.requires)
