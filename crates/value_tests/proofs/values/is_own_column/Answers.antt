use Rattle.std.proofs.Common.{◌<◌, ◌≤◌, length, ap, sym, arith}
use Rattle.std.proofs.lemmas.Bool.{ltb-true}
use Rattle.schema_facts.specs.Layout.{Layout, layout_of}
use Rattle.schema_facts.specs.TableFacts.{max_line}
use Rattle.draw_values.specs.Values.{size_at}
use Rattle.draw_values.proofs.ColumnLemmas.{length-ready_columns}
use Rattle.value_tests.proofs.LineLemmas.{size_at-within}
use Rattle.value_tests.proofs.values.is_own_column.Goals as goal
use Rattle.value_tests.proofs.values.is_own_column.Goals.{In-Some}

size_fits : (c : In-Some) → size_at (layout_of c.args.plan.now) 0 c.args.column ≤ max_line (layout_of c.args.plan.now) 0
size_fits c =
    let layout : Layout = layout_of c.args.plan.now in
    let within : c.args.column < length c.columns.result.now = ltb-true c.args.column (length c.columns.result.now) (sym c.in-Some.ensures.lookup.0) in
    size_at-within layout 0 c.args.column (omega (arith, ap length c.columns.ensures.columns, length-ready_columns layout 0))

pub returns-in-Born-clause-size : goal.returns-in-Born-clause-size
returns-in-Born-clause-size c = size_fits (goal.at.returns-in-Born-clause-size c).In-Some

pub returns-in-Born-2-clause-size : goal.returns-in-Born-2-clause-size
returns-in-Born-2-clause-size c = size_fits (goal.at.returns-in-Born-2-clause-size c).In-Some

pub returns-in-Born-3-clause-size : goal.returns-in-Born-3-clause-size
returns-in-Born-3-clause-size c = size_fits (goal.at.returns-in-Born-3-clause-size c).In-Some

pub returns-in-Born-4-clause-size : goal.returns-in-Born-4-clause-size
returns-in-Born-4-clause-size c = size_fits (goal.at.returns-in-Born-4-clause-size c).In-Some

pub returns-in-Born-5-clause-size : goal.returns-in-Born-5-clause-size
returns-in-Born-5-clause-size c = size_fits (goal.at.returns-in-Born-5-clause-size c).In-Some

pub returns-in-Born-6-clause-size : goal.returns-in-Born-6-clause-size
returns-in-Born-6-clause-size c = size_fits (goal.at.returns-in-Born-6-clause-size c).In-Some
