use Rattle.std.proofs.Common.{◌≡◌, Option, slice_index_or, ap, subst, sym, ◌∙◌}
use Rattle.std.specs.Prelude.{IfSome}
use Rattle.schema_plan.specs.declared.ready.ReadyColumn.{ReadyColumn}
use Rattle.schema_facts.specs.Layout.{KindLayout, column_at, layout_of}
use Rattle.schema_plan.specs.Ready.{ready_column}
use Rattle.draw_values.specs.declared.leaf_numbers.Number.{Number}
use Rattle.draw_values.specs.CohortValues.{AreValuesOf, IsNumberOf, ValuesOf, facts_for, table_for}
use Rattle.draw_values.specs.ReadyValues.{ready_own_number, row_draws}
use Rattle.draw_values.specs.Runs.{IsReadyDrawn}
use Rattle.draw_values.specs.Values.{Draws, own_number}
use Rattle.draw_values.proofs.CohortLemmas.{AreValuesOf-view}
use Rattle.draw_values.proofs.ColumnLemmas.{own_number-ready, ready_column-at}
use Rattle.draw_values.proofs.OwnEndLemmas.{own_number-within, table_here}
use Rattle.draw_values.proofs.RunLemmas.{drawn_is_ready}
use Rattle.draw_values.proofs.cohort_values.CohortValues.number.Goals as goal
use Rattle.draw_values.proofs.cohort_values.CohortValues.number.Goals.{After-seed}

known : (c : After-seed) → AreValuesOf c.args.self.now c.self.inside.columns.now c.self.inside.seeds
known c = AreValuesOf-view _ c.args.self.now c.self.inside.columns.now c.self.inside.seeds c.self.view_is c.self.invariant

-- the column that is read
abbrev column : After-seed → ReadyColumn
column c = slice_index_or c.self.inside.columns.now c.args.column c.index-columns-column.result

column_is : (c : After-seed) → column c ≡ ready_column (layout_of c.args.self.now.plan).delimiter (column_at (table_for c.args.self.now).columns c.args.column)
column_is c =
    sym c.index-columns-column.is
    ∙ ready_column-at (layout_of c.args.self.now.plan).delimiter (table_for c.args.self.now).columns c.self.inside.columns.now c.args.column c.index-columns-column.result (known c).columns c.requires
    c.index-columns-column.is

pub own_number-requires : goal.own_number-requires
own_number-requires c =
    let at : After-seed = (goal.at.own_number-requires c).After-seed in
    let values : ValuesOf = c.args.self.now in
    subst (λ (found : ReadyColumn). IsReadyDrawn found.kind) (sym (column_is at))
    (drawn_is_ready (layout_of values.plan).delimiter (table_for values).columns c.args.column (column_at (table_for values).columns c.args.column).kind ((known at).limits.kinds c.args.column c.requires))

pub returns-clause-exact : goal.returns-clause-exact
returns-clause-exact c =
    let at : After-seed = (goal.at.returns-clause-exact c).After-seed in
    let values : ValuesOf = c.args.self.now in
    let kind : KindLayout = (column_at (table_for values).columns c.args.column).kind in
    c.own_number.ensures
    ∙ ap (λ (found : ReadyColumn). ready_own_number (row_draws c.seed.result c.args.ordinal) found.kind) (column_is at)
    ∙ own_number-ready (layout_of values.plan).delimiter (row_draws c.seed.result c.args.ordinal) kind
    ∙ ap (λ (draw : Draws). own_number draw kind) (c.seed.ensures c.args.ordinal)

pub returns-clause-within : goal.returns-clause-within
returns-clause-within c =
    let at : After-seed = (goal.at.returns-clause-within c).After-seed in
    let values : ValuesOf = c.args.self.now in
    let draws : Draws = row_draws c.seed.result c.args.ordinal in
    subst (λ (found : Option Number). IfSome found (IsNumberOf (facts_for values c.args.column).numbers))
    (sym (c.own_number.ensures
    ∙ ap (λ (found : ReadyColumn). ready_own_number draws found.kind) (column_is at)
    ∙ own_number-ready (layout_of values.plan).delimiter draws (column_at (table_for values).columns c.args.column).kind))
    (own_number-within (layout_of values.plan) values.table c.args.column draws (table_here values (known at).table) (known at).limits c.requires)
