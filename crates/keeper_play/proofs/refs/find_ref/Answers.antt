use Rattle.std.proofs.Common.{◌≡◌, ◌<◌, ◌≤◌, ℕ, Option, Some, length, ap, arith, subst, sym, ◌∙◌}
use Rattle.cohort_sizes.proofs.CohortLemmas.{born_count-le}
use Rattle.schema_facts.specs.Dictionaries.{Project}
use Rattle.schema_plan.specs.Limits.{IsInLimits}
use Rattle.life_intervals.specs.CohortParents.{reference_by}
use Rattle.life_intervals.specs.Generator.{generator_of, last_unit, table_of}
use Rattle.life_intervals.proofs.CohortParentLemmas.{limits_of}
use Rattle.row_lines.proofs.LineLemmas.{key_of-by}
use Rattle.keeper_play.specs.Statements.{reference_to}
use Rattle.row_keeper.specs.declared.keeper.RefTo.{RefTo}
use Rattle.keeper_play.proofs.refs.find_ref.Goals as goal

pub key-requires-clause-table : goal.key-requires-clause-table
key-requires-clause-table g c =
    let plan : Project = c.args.rows.now in
    let limits : IsInLimits plan = subst IsInLimits c.plan.ensures c.schema-limits.ensures.limits in
    omega (arith, (limits_of plan limits c.args.table c.args.column c.args.reference.now c.requires.table c.requires.reference).earlier, c.requires.table)

pub key-requires-clause-row : goal.key-requires-clause-row
key-requires-clause-row g c =
    let plan : Project = c.args.rows.now in
    omega (arith, c.in_ok-parent.ensures.born, born_count-le (table_of plan c.args.reference.now.parent).births c.args.row.born (last_unit plan) c.requires.row.born)

pub returns : goal.returns
returns g c =
    let plan : Project = c.args.rows.now in
    let key = c.key.ensures.key ∙ key_of-by (generator_of plan) (last_unit plan) c.args.row.born c.args.reference.now.parent c.in_ok-parent.parent c.requires.row.born c.in_ok-parent.ensures.born in
    ap (λ (k : ℕ). Some (record { column = c.args.column; table = c.args.reference.now.parent; key = k })) key
    ∙ ap (λ (parent : Option ℕ). reference_to (generator_of plan) c.args.row.born (reference_by c.args.column c.args.reference.now, parent)) c.in_ok-parent.ensures.held
