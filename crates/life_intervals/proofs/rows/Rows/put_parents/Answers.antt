use Rattle.std.proofs.Common.{◌≤◌, ◌<◌, ℕ, get_or, length, arith, subst, sym}
use Rattle.cohort_sizes.specs.Births.{born_count}
use Rattle.schema_facts.specs.Dictionaries.{Project}
use Rattle.schema_plan.specs.Limits.{IsInLimits}
use Rattle.schema_facts.specs.Lineage.{choice_cost}
use Rattle.life_intervals.specs.CohortParents.{reference_by}
use Rattle.life_intervals.specs.Generator.{generator_of, last_unit, table_of}
use Rattle.life_intervals.specs.Intervals.{parent_of}
use Rattle.life_intervals.proofs.PartLemmas.{parent-born}
use Rattle.life_intervals.proofs.RunLemmas.{next-part, put-all, steps-next}
use Rattle.life_intervals.proofs.rows.Rows.put_parents.Goals as goal

pub loop-from-preserved : goal.loop-from-preserved
loop-from-preserved g c =
    let plan : Project = c.args.self.now in
    let before = c.loop-from.invariant in
    let order : c.loop-from.from ≤ c.end_of_part-until.result = omega (arith, c.end_of_part-until.ensures.after) in
    let within : c.end_of_part-until.result ≤ length c.args.ordinals.now = omega (arith, c.end_of_part-until.ensures.within, c.requires.run.same_length) in
    let next = next-part (λ j. parent_of (generator_of plan) c.args.table (last_unit plan) j (reference_by c.args.column c.args.reference.now)) c.args.ordinals.now c.loop-from.parents c.put_part_parents.new.parents c.loop-from.from c.end_of_part-until.result order within before.same_length before.so_far c.put_part_parents.ensures.parents in
    record {
      within = c.end_of_part-until.ensures.within;
      same_length = next.0;
      so_far = next.1;
      steps = steps-next c.args.ordinals.now (choice_cost c.args.reference.now.drawn) c.loop-from.from c.end_of_part-until.result c.loop-from.steps c.args.steps.now c.put_part_parents.new.steps order within before.steps c.put_part_parents.ensures.steps;
    }

pub returns-clause-parents : goal.returns-clause-parents
returns-clause-parents g c = λ i inside.
    let plan : Project = c.args.self.now in
    put-all (λ j. parent_of (generator_of plan) c.args.table (last_unit plan) j (reference_by c.args.column c.args.reference.now)) c.args.ordinals.now c.loop-from.parents c.loop-from.from i 0 0 c.loop-from.invariant.same_length
    (omega (arith, c.loop-from-test.false, c.requires.run.same_length)) c.loop-from.invariant.so_far inside

pub returns-clause-born : goal.returns-clause-born
returns-clause-born g c = λ i inside.
    let plan : Project = c.args.self.now in
    subst (λ (parent : ℕ). parent < born_count (table_of plan c.args.reference.now.parent).births (get_or c.args.births.now i 0)) (sym (returns-clause-parents g c i inside))
    (parent-born plan c.args.table (get_or c.args.births.now i 0) (c.requires.run.born i inside) (get_or c.args.ordinals.now i 0) (c.requires.run.lies i inside)
    (subst IsInLimits c.plan.ensures c.schema-sound.ensures.limits) c.requires.table c.args.column c.args.reference.now c.requires.reference)
