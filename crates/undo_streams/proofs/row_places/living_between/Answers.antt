use Rattle.std.proofs.Common.{◌≡◌, ◌+◌, ◌-◌, ◌*◌, ◌<◌, ◌≤◌, ℕ, ap, arith, subst, ◌∙◌}
use Rattle.std.proofs.Math.Nat.{add-mul}
use Rattle.cohort_sizes.specs.Births.{Births, LiesIn, born_count}
use Rattle.cohort_sizes.proofs.CohortLemmas.{born_count-le}
use Rattle.schema_facts.specs.Dictionaries.{Project}
use Rattle.life_intervals.specs.CohortKeys.{IsCohort}
use Rattle.life_intervals.specs.CohortParents.{asked_for_death}
use Rattle.life_intervals.specs.Generator.{last_unit, rows_in_all, table_of}
use Rattle.undo_streams.specs.Places.{living_among}
use Rattle.undo_streams.proofs.PlaceLemmas.{LiesIn-by, living_among-add}
use Rattle.undo_streams.proofs.row_places.living_between.Goals as goal

pub birth-born-requires-clause-row : goal.birth-born-requires-clause-row
birth-born-requires-clause-row g c =
    let plan : Project = c.args.rows.now in
    omega (
      arith,
      c.loop-from-test.true,
      c.requires.born,
      born_count-le (table_of plan c.args.table).births c.args.t (last_unit plan) c.requires.unit,
      ap (λ (p : Project). rows_in_all p c.args.table) c.plan-in-loop-from.ensures,
    )

pub living_in_part-living-requires-clause-born : goal.living_in_part-living-requires-clause-born
living_in_part-living-requires-clause-born g c =
    let plan : Project = c.args.rows.now in
    let births : Births = (table_of plan c.args.table).births in
    let lies : LiesIn births c.birth-born.result c.loop-from.from =
    subst (λ (p : Project). LiesIn (table_of p c.args.table).births c.birth-born.result c.loop-from.from) c.plan-in-loop-from.ensures c.birth-born.ensures.lies in
    LiesIn-by births c.birth-born.result c.args.t c.loop-from.from lies (omega (arith, c.loop-from-test.true, c.requires.born))

pub loop-from-preserved : goal.loop-from-preserved
loop-from-preserved g c =
    let plan : Project = c.args.rows.now in
    let births : Births = (table_of plan c.args.table).births in
    let from : ℕ = c.loop-from.from in
    let until : ℕ = c.min-until.result in
    let lies : LiesIn births c.birth-born.result from =
    subst (λ (p : Project). LiesIn (table_of p c.args.table).births c.birth-born.result from) c.plan-in-loop-from.ensures c.birth-born.ensures.lies in
    let cohort : IsCohort plan c.args.table c.birth-born.result c.cohort-cohort.result =
    subst (λ (p : Project). IsCohort p c.args.table c.birth-born.result c.cohort-cohort.result) c.plan-in-loop-from-2.ensures c.cohort-cohort.ensures in
    let later : from ≤ until = omega (arith, c.min-until.ensures, c.loop-from-test.true, lies.not_ended, cohort.first, cohort.size) in
    let begun : c.args.first ≤ from = c.loop-from.invariant.0 in
    let parts : from - c.args.first + (until - from) ≡ until - c.args.first = omega (arith, begun, later) in
    let behind : c.args.first + (from - c.args.first) ≡ from = omega (arith, begun) in (
      omega (arith, later, begun),
      omega (arith, c.min-until.ensures),
      omega (
        arith,
        c.loop-from.invariant.2,
        c.living_in_part-living.ensures.living,
        living_among-add plan c.args.table c.args.t c.args.first (from - c.args.first) (until - from),
        ap (λ (n : ℕ). living_among plan c.args.table c.args.t n (until - from)) behind,
        ap (living_among plan c.args.table c.args.t c.args.first) parts,
      ),
      omega (arith, c.loop-from.invariant.3, c.living_in_part-living.ensures.most, parts),
      omega (
        arith,
        c.loop-from.invariant.4,
        c.living_in_part-living.ensures.steps,
        add-mul (from - c.args.first) (until - from) (asked_for_death plan c.args.table),
        ap (λ (n : ℕ). n * asked_for_death plan c.args.table) parts,
      ),
    )
