use Rattle.std.proofs.Common.{◌≡◌, ◌+◌, ◌-◌, ◌*◌, ◌<◌, ◌≤◌, ℕ, true, get_or, length, ap, arith, subst, ◌∙◌}
use Rattle.std.proofs.Math.Nat.{add-mul}
use Rattle.cohort_sizes.specs.Births.{born_count}
use Rattle.schema_facts.specs.Dictionaries.{Project}
use Rattle.schema_plan.specs.Limits.{IsInLimits}
use Rattle.life_intervals.specs.CohortParents.{asked_for_death}
use Rattle.life_intervals.specs.Generator.{generator_of, table_of}
use Rattle.life_intervals.specs.Simulation.{holds_row, rows_at}
use Rattle.undo_streams.specs.Places.{living_among}
use Rattle.undo_streams.proofs.PlaceLemmas.{held-born, held-place, living_among-add, places_of-more, steps-places}
use Rattle.undo_streams.proofs.row_places.places.Goals as goal

pub living_between-before-requires-clause-born : goal.living_between-before-requires-clause-born
living_between-before-requires-clause-born g c =
    let plan : Project = c.args.rows.now in
    let limits : IsInLimits plan = subst IsInLimits c.plan.ensures c.schema-sound.ensures.limits in
    let ordinal : ℕ = get_or c.args.ordinals.now c.loop-ordinal.ordinal-index 0 in
    let born : ordinal < born_count (table_of plan c.args.table).births c.args.t =
    held-born plan limits c.args.table c.args.t c.requires.unit ordinal (c.requires.held c.loop-ordinal.ordinal-index 0 c.loop-ordinal-test.true) in
    omega (arith, born)

pub loop-ordinal-preserved : goal.loop-ordinal-preserved
loop-ordinal-preserved g c =
    let plan : Project = c.args.rows.now in
    let limits : IsInLimits plan = subst IsInLimits c.plan.ensures c.schema-sound.ensures.limits in
    let index : ℕ = c.loop-ordinal.ordinal-index in
    let from : ℕ = c.loop-ordinal.from in
    let ordinal : ℕ = get_or c.args.ordinals.now index 0 in
    let held : holds_row (rows_at (generator_of plan) c.args.table c.args.t) ordinal ≡ true = c.requires.held index 0 c.loop-ordinal-test.true in
    let born : ordinal < born_count (table_of plan c.args.table).births c.args.t = held-born plan limits c.args.table c.args.t c.requires.unit ordinal held in
    let later : from ≤ ordinal = c.loop-ordinal.invariant.early c.loop-ordinal-test.true in
    let parts : from + (ordinal - from) ≡ ordinal = omega (arith, later) in
    let front : 0 + from ≡ from = omega arith in
    let living : c.living_between-before.result ≡ living_among plan c.args.table c.args.t from (ordinal - from) = c.living_between-before.ensures.living in
    let before : c.loop-ordinal.before + c.living_between-before.result ≡ living_among plan c.args.table c.args.t 0 ordinal =
    omega (
      arith,
      c.loop-ordinal.invariant.before,
      living,
      living_among-add plan c.args.table c.args.t 0 from (ordinal - from),
      ap (λ (n : ℕ). living_among plan c.args.table c.args.t n (ordinal - from)) front,
      ap (living_among plan c.args.table c.args.t 0) parts,
    ) in
    record {
      places =
          c.in_ok-push.ensures.items
          ∙ places_of-more plan c.args.table c.args.t c.args.ordinals.now c.loop-ordinal.places.items index (c.loop-ordinal.before + c.living_between-before.result)
          c.loop-ordinal-test.true c.loop-ordinal.invariant.places (before ∙ held-place plan limits c.args.table c.args.t c.requires.unit ordinal held);
      early = λ more. omega (arith, c.requires.rising index more);
      born = omega (arith, born);
      before = before;
      few = omega (arith, c.loop-ordinal.invariant.few, c.living_between-before.ensures.most, later);
      steps =
          omega (
            arith,
            c.loop-ordinal.invariant.steps,
            c.living_between-before.ensures.steps,
            add-mul from (ordinal - from) (asked_for_death plan c.args.table),
            ap (λ (n : ℕ). n * asked_for_death plan c.args.table) parts,
          );
    }

pub returns-clause-steps : goal.returns-clause-steps
returns-clause-steps g c =
    let plan : Project = c.args.rows.now in
    let limits : IsInLimits plan = subst IsInLimits c.plan.ensures c.schema-sound.ensures.limits in
    steps-places plan limits c.args.table c.requires.table (born_count (table_of plan c.args.table).births c.args.t) c.loop-ordinal.from c.args.steps.now c.loop-ordinal.steps
    c.loop-ordinal.invariant.born c.loop-ordinal.invariant.steps

pub returns-in_err-push-clause-steps : goal.returns-in_err-push-clause-steps
returns-in_err-push-clause-steps g c =
    let plan : Project = c.args.rows.now in
    let limits : IsInLimits plan = subst IsInLimits c.plan.ensures c.schema-sound.ensures.limits in
    let from : ℕ = c.loop-ordinal.from in
    let ordinal : ℕ = get_or c.args.ordinals.now c.loop-ordinal.ordinal-index 0 in
    let born : ordinal < born_count (table_of plan c.args.table).births c.args.t =
    held-born plan limits c.args.table c.args.t c.requires.unit ordinal (c.requires.held c.loop-ordinal.ordinal-index 0 c.loop-ordinal-test.true) in
    let later : from ≤ ordinal = c.loop-ordinal.invariant.early c.loop-ordinal-test.true in
    let parts : from + (ordinal - from) ≡ ordinal = omega (arith, later) in
    steps-places plan limits c.args.table c.requires.table (born_count (table_of plan c.args.table).births c.args.t) ordinal c.args.steps.now c.living_between-before.new.steps
    (omega (arith, born))
    (omega (
      arith,
      c.loop-ordinal.invariant.steps,
      c.living_between-before.ensures.steps,
      add-mul from (ordinal - from) (asked_for_death plan c.args.table),
      ap (λ (n : ℕ). n * asked_for_death plan c.args.table) parts,
    ))
