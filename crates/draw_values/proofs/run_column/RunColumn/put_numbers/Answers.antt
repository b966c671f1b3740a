use Rattle.std.proofs.Common.{◌≡◌, ℕ, Some, pos, get_or, ap, subst, sym, ◌∙◌}
use Rattle.philox_seeds.specs.SeedTree.{draw}
use Rattle.std.proofs.lemmas.Option.{IfSome_then}
use Rattle.schema_plan.specs.declared.ready.ReadyColumn.{ReadyColumn}
use Rattle.schema_facts.specs.Layout.{column_at, layout_of, table_at}
use Rattle.schema_plan.specs.Limits.{IsTableInLimits}
use Rattle.draw_values.specs.ReadyValues.{ready_own_number}
use Rattle.draw_values.specs.Runs.{IsReadyDrawn, RunColumnOf, ready_at, run_row, run_seed}
use Rattle.draw_values.proofs.RunLemmas.{drawn_is_ready, own_ready}
use Rattle.draw_values.proofs.RunNumberLemmas.{no_number, number-within, run_number}
use Rattle.draw_values.proofs.run_column.RunColumn.put_numbers.Goals as goal
use Rattle.draw_values.proofs.run_column.RunColumn.put_numbers.Goals.{After-index-columns-self}

table_is : (c : After-index-columns-self) → c.self.inside.table ≡ c.args.self.now.table
table_is c = ap (λ (r : RunColumnOf). r.table) c.self.view_is

own_is : (c : After-index-columns-self) → c.index-columns-self.result ≡ ready_at c.args.plan.now c.args.self.now.table c.args.self.now.column
own_is c =
    own_ready c.args.plan.now c.args.self.now c.columns-columns.result.now c.index-columns-self.result c.self.inside.table c.self.inside.column c.requires.column c.columns-columns.ensures.columns
    (table_is c) (ap (λ (r : RunColumnOf). r.column) c.self.view_is) c.index-columns-self.is

limits : (c : After-index-columns-self) → IsTableInLimits (layout_of c.args.plan.now).units (table_at (layout_of c.args.plan.now).tables c.args.self.now.table)
limits c =
    subst (λ (table : ℕ). IsTableInLimits (layout_of c.args.plan.now).units (table_at (layout_of c.args.plan.now).tables table)) (table_is c) c.columns-columns.ensures.limits

pub put_numbers-requires-clause-ready : goal.put_numbers-requires-clause-ready
put_numbers-requires-clause-ready c =
    let at : After-index-columns-self = (goal.at.put_numbers-requires-clause-ready c).After-index-columns-self in
    let columns = (table_at (layout_of c.args.plan.now).tables c.args.self.now.table).columns in
    subst (λ (found : ReadyColumn). IsReadyDrawn found.kind) (sym (own_is at))
    (drawn_is_ready (layout_of c.args.plan.now).delimiter columns c.args.self.now.column (column_at columns c.args.self.now.column).kind ((limits at).kinds c.args.self.now.column c.requires.column.column_within))

pub returns-clause-within : goal.returns-clause-within
returns-clause-within c =
    let at : After-index-columns-self = (goal.at.returns-clause-within c).After-index-columns-self in
    IfSome_then c.put_numbers.result c.put_numbers.ensures.exact
    (λ decimals drawn i within. number-within c.args.plan.now c.args.self.now (run_row c.args.rows i) (record { value = get_or c.put_numbers.new.values i (pos 0); decimals = decimals }) c.requires.column (limits at)
    (sym (run_number c.args.plan.now c.args.self.now c.index-columns-self.result c.args.rows i c.requires.column (own_is at))
    ∙ subst (λ (seed : ℕ). ready_own_number (draw (run_seed seed c.index-columns-self.result.changes c.args.rows i)) c.index-columns-self.result.kind ≡ Some (record { value = get_or c.put_numbers.new.values i (pos 0); decimals = decimals }))
    (ap (λ (r : RunColumnOf). r.seed) c.self.view_is) (drawn i within)))

pub returns-clause-none : goal.returns-clause-none
returns-clause-none c = λ none row.
    let at : After-index-columns-self = (goal.at.returns-clause-none c).After-index-columns-self in
    no_number c.args.plan.now c.args.self.now c.index-columns-self.result row (own_is at) (c.put_numbers.ensures.none none)
