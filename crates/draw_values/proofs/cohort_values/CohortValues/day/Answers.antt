use Rattle.std.proofs.Common.{◌≡◌, ℤ, Option, slice_index_or, ap, subst, sym, ◌∙◌}
use Rattle.std.specs.Prelude.{IfSome}
use Rattle.schema_plan.specs.declared.ready.ReadyColumn.{ReadyColumn}
use Rattle.schema_facts.specs.Layout.{KindLayout, column_at, layout_of}
use Rattle.schema_plan.specs.Ready.{ready_column}
use Rattle.draw_values.specs.declared.values.RowAt.{RowAt}
use Rattle.draw_values.specs.CohortValues.{AreValuesOf, IsDayOf, ValuesOf, facts_for, row_for, table_for}
use Rattle.draw_values.specs.ReadyValues.{HasDay, ready_own_day, row_draws}
use Rattle.draw_values.specs.Runs.{IsReadyDrawn}
use Rattle.draw_values.specs.Values.{Draws, draws_at, own_day}
use Rattle.draw_values.proofs.CohortLemmas.{AreValuesOf-view}
use Rattle.draw_values.proofs.ColumnLemmas.{own_day-ready, ready_column-at}
use Rattle.draw_values.proofs.FieldLemmas.{column_has_day}
use Rattle.draw_values.proofs.OwnEndLemmas.{own_day-within, table_here}
use Rattle.draw_values.proofs.RunLemmas.{drawn_is_ready}
use Rattle.draw_values.proofs.cohort_values.CohortValues.day.Goals as goal
use Rattle.draw_values.proofs.cohort_values.CohortValues.day.Goals.{After-seed}

known : (c : After-seed) → AreValuesOf c.args.self.now c.self.inside.columns.now c.self.inside.seeds
known c = AreValuesOf-view _ c.args.self.now c.self.inside.columns.now c.self.inside.seeds c.self.view_is c.self.invariant

-- the column that is read
abbrev column : After-seed → ReadyColumn
column c = slice_index_or c.self.inside.columns.now c.args.column c.index-columns-column.result

column_is : (c : After-seed) → column c ≡ ready_column (layout_of c.args.self.now.plan).delimiter (column_at (table_for c.args.self.now).columns c.args.column)
column_is c =
    sym c.index-columns-column.is
    ∙ ready_column-at (layout_of c.args.self.now.plan).delimiter (table_for c.args.self.now).columns c.self.inside.columns.now c.args.column c.index-columns-column.result (known c).columns c.requires
    c.index-columns-column.is

-- the row is that of the contract
abbrev row : After-seed → RowAt
row c = record { ordinal = c.args.ordinal; born = c.self.inside.born; changed = c.self.inside.changed }

row_is : (c : After-seed) → row c ≡ row_for c.args.self.now c.args.ordinal
row_is c = ap (λ (seen : ValuesOf). row_for seen c.args.ordinal) c.self.view_is

pub own_day-requires-clause-ready : goal.own_day-requires-clause-ready
own_day-requires-clause-ready c =
    let at : After-seed = (goal.at.own_day-requires-clause-ready c).After-seed in
    let values : ValuesOf = c.args.self.now in
    subst (λ (found : ReadyColumn). IsReadyDrawn found.kind) (sym (column_is at))
    (drawn_is_ready (layout_of values.plan).delimiter (table_for values).columns c.args.column (column_at (table_for values).columns c.args.column).kind ((known at).limits.kinds c.args.column c.requires))

pub own_day-requires-clause-day : goal.own_day-requires-clause-day
own_day-requires-clause-day c =
    let at : After-seed = (goal.at.own_day-requires-clause-day c).After-seed in
    let values : ValuesOf = c.args.self.now in
    subst (HasDay (column at).kind) (sym (row_is at))
    (column_has_day (layout_of values.plan) values.table c.args.column (layout_of values.plan).units (column at) (row_for values c.args.ordinal)
    (known at).limits c.requires (column_is at) (known at).born_limit (known at).changed_limit)

pub returns-clause-exact : goal.returns-clause-exact
returns-clause-exact c =
    let at : After-seed = (goal.at.returns-clause-exact c).After-seed in
    let values : ValuesOf = c.args.self.now in
    let kind : KindLayout = (column_at (table_for values).columns c.args.column).kind in
    c.own_day.ensures
    ∙ ap (λ (found : ReadyColumn). ready_own_day (row at) (row_draws c.seed.result c.args.ordinal) found.kind) (column_is at)
    ∙ own_day-ready (layout_of values.plan).delimiter (row at) (row_draws c.seed.result c.args.ordinal) kind
    ∙ ap (λ (draw : Draws). own_day (row at) draw kind) (c.seed.ensures c.args.ordinal)
    ∙ ap (λ (seen : RowAt). own_day seen (draws_at (layout_of values.plan) values.table (row_for values c.args.ordinal) c.args.column) kind) (row_is at)

pub returns-clause-within : goal.returns-clause-within
returns-clause-within c =
    let at : After-seed = (goal.at.returns-clause-within c).After-seed in
    let values : ValuesOf = c.args.self.now in
    let kind : KindLayout = (column_at (table_for values).columns c.args.column).kind in
    let draws : Draws = row_draws c.seed.result c.args.ordinal in
    subst (λ (found : Option ℤ). IfSome found (IsDayOf (facts_for values c.args.column).days))
    (sym (c.own_day.ensures
    ∙ ap (λ (found : ReadyColumn). ready_own_day (row at) draws found.kind) (column_is at)
    ∙ own_day-ready (layout_of values.plan).delimiter (row at) draws kind
    ∙ ap (λ (seen : RowAt). own_day seen draws kind) (row_is at)))
    (own_day-within (layout_of values.plan) values.table c.args.column (row_for values c.args.ordinal) draws (table_here values (known at).table) (known at).limits c.requires (known at).born_limit (known at).changed_limit)
