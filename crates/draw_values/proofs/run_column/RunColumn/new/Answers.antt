use Rattle.std.proofs.Common.{◌≡◌, ◌<◌, ◌^◌, subst, sym, arith}
use Rattle.schema_plan.specs.declared.ready.ReadyColumn.{ReadyColumn}
use Rattle.schema_facts.specs.Layout.{column_at, layout_of, table_at}
use Rattle.draw_values.specs.ReadyValues.{chooser_of}
use Rattle.draw_values.specs.Runs.{IsReadyDrawn, ready_at}
use Rattle.draw_values.proofs.ColumnLemmas.{ready_column-at}
use Rattle.draw_values.proofs.RunLemmas.{chooser_small, drawn_is_ready}
use Rattle.draw_values.proofs.run_column.RunColumn.new.Goals as goal
use Rattle.draw_values.proofs.run_column.RunColumn.new.Goals.{After-index-columns-column}

own_is : (c : After-index-columns-column) → c.index-columns-column.result ≡ ready_at c.args.plan.now c.args.table c.args.column
own_is c =
    ready_column-at (layout_of c.args.plan.now).delimiter (table_at (layout_of c.args.plan.now).tables c.args.table).columns c.columns-columns.result.now c.args.column c.index-columns-column.result
    c.columns-columns.ensures.columns c.requires.column c.index-columns-column.is

pub new-requires : goal.new-requires
new-requires c =
    let columns = (table_at (layout_of c.args.plan.now).tables c.args.table).columns in
    subst (λ (found : ReadyColumn). IsReadyDrawn found.kind) (sym (own_is (goal.at.new-requires c).After-index-columns-column))
    (drawn_is_ready (layout_of c.args.plan.now).delimiter columns c.args.column (column_at columns c.args.column).kind (c.columns-columns.ensures.limits.kinds c.args.column c.requires.column))

pub chooser_seeds-requires : goal.chooser_seeds-requires
chooser_seeds-requires c =
    let columns = (table_at (layout_of c.args.plan.now).tables c.args.table).columns in
    subst (λ (found : ReadyColumn). chooser_of 0 found.kind < 2 ^ 32) (sym (own_is (goal.at.chooser_seeds-requires c).After-index-columns-column))
    (chooser_small (layout_of c.args.plan.now).delimiter columns c.args.column (column_at columns c.args.column).kind (c.columns-columns.ensures.limits.kinds c.args.column c.requires.column) (omega (arith, c.ranges.column)))
