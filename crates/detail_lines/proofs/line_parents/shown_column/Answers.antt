use Rattle.std.proofs.Common.{◌≡◌, ℕ, Some, length, ap, arith, sym, ◌∙◌}
use Rattle.schema_plan.specs.declared.ready.ReadyKind.TheVariants as kind
use Rattle.draw_values.specs.Runs.{run_column}
use Rattle.detail_plan.specs.declared.detail.Detail.{Detail}
use Rattle.row_lines.specs.Runs.{behind}
use Rattle.row_lines.specs.TableLines.{shown_by}
use Rattle.detail_lines.specs.Made.{LinesOver, behind_over, delimiter_over, ready_over}
use Rattle.detail_lines.proofs.LineParentLemmas.{column-few, column-within, lookup-ready, shown-none, table-within}
use Rattle.detail_lines.proofs.line_parents.shown_column.Goals as goal
use Rattle.detail_lines.proofs.line_parents.shown_column.Goals.{In-Lookup}

-- a column of the parent
kind_is : (c : In-Lookup) → (ready_over (record { plan = c.args.plan.now; kept = c.args.detail.now }) c.args.column).kind ≡ kind.Lookup c.in-Lookup.lookup
kind_is c =
    lookup-ready (record { plan = c.args.plan.now; kept = c.args.detail.now }) c.requires.keeps c.detail.ensures.limits c.args.column c.requires.column
    c.columns-columns.result.now c.index-columns-column.result c.in-Lookup.lookup c.columns-columns.ensures c.index-columns-column.is c.in-Lookup.is

pub returns-in_default : goal.returns-in_default
returns-in_default c =
    shown-none (record { plan = c.args.plan.now; kept = c.args.detail.now }) c.requires.keeps c.detail.ensures.limits c.args.column c.requires.column
    c.columns-columns.result.now c.index-columns-column.result c.columns-columns.ensures c.index-columns-column.is c.in_default.not-Lookup

pub overflow_cast-shown : goal.overflow_cast-shown
overflow_cast-shown c =
    let here = (goal.at.overflow_cast-shown c).In-Lookup in
    let few = column-few (record { plan = c.args.plan.now; kept = c.args.detail.now }) c.requires.keeps c.detail.ensures.limits c.args.column c.requires.column c.in-Lookup.lookup (kind_is here) c.schema-limits.ensures.limits in
    record { fits = omega (arith, few) }

pub new-requires-clause-table : goal.new-requires-clause-table
new-requires-clause-table c =
    let here = (goal.at.new-requires-clause-table c).In-Lookup in
    table-within (record { plan = c.args.plan.now; kept = c.args.detail.now }) c.requires.keeps c.detail.ensures.limits c.args.column c.requires.column c.in-Lookup.lookup (kind_is here)

pub new-requires-clause-column : goal.new-requires-clause-column
new-requires-clause-column c =
    let here = (goal.at.new-requires-clause-column c).In-Lookup in
    column-within (record { plan = c.args.plan.now; kept = c.args.detail.now }) c.requires.keeps c.detail.ensures.limits c.args.column c.requires.column c.in-Lookup.lookup (kind_is here)

pub returns : goal.returns
returns c =
    let here = (goal.at.returns c).In-Lookup in
    let over : LinesOver = record { plan = c.args.plan.now; kept = c.args.detail.now } in
    let byte : c.byte_behind-behind.result ≡ behind_over over c.args.column =
    c.byte_behind-behind.ensures ∙ ap (λ (byte : ℕ). behind byte c.len-many.result c.args.column) c.delimiter.ensures
    ∙ ap (λ (many : ℕ). behind (delimiter_over over) many c.args.column) (c.len-many.ensures ∙ ap (λ (detail : Detail). length detail.columns) c.detail.ensures.value) in
    ap Some (c.in_ok-made.ensures ∙ ap (run_column c.args.plan.now c.in-Lookup.lookup.parent c.in-Lookup.lookup.column) byte)
    ∙ ap (shown_by c.args.plan.now (behind_over over c.args.column)) (sym (kind_is here))
