use Rattle.std.proofs.Common.{◌<◌, ◌≤◌, ℕ, ◌/◌, arith}
use Rattle.std.proofs.lemmas.Nat.{le-div}
use Rattle.schema_facts.specs.Layout.{layout_of, no_table}
use Rattle.schema_plan.proofs.FieldSizeLemmas.{field-less}
use Rattle.life_intervals.proofs.AcceptedLemmas.{place-below}
use Rattle.sql_lines.proofs.rows.rows_at_once.Goals as goal
use Rattle.sql_lines.proofs.rows.rows_at_once.Goals.{After-max_line}

-- a line has a byte
some : (c : After-max_line) → 0 < c.max_line.result
some c =
    omega (
      arith,
      c.max_line.ensures.size,
      field-less (layout_of c.args.plan.now) c.args.table 0 (c.schema-limits.ensures.limits.tables c.args.table no_table (place-below c.args.plan.now c.args.table c.requires)).some_column,
    )

pub nonzero_div-max_line : goal.nonzero_div-max_line
nonzero_div-max_line c = some c

pub returns-clause-some : goal.returns-clause-some
returns-clause-some c =
    let here = (goal.at.returns-clause-some c).After-max_line in
    let most : ℕ = c.max_line.result in
    let few : most ≤ 65536 = omega (arith, c.max_line.ensures.size, c.schema-limits.ensures.limits.lines c.args.table c.requires) in
    let one : 1 ≤ 65536 / most = le-div 1 65536 most (some here) (omega (arith, few)) in
    omega (arith, c.min.ensures, one)
