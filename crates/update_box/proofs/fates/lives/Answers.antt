use Rattle.std.proofs.Common.{◌≡◌, ◌+◌, ◌<◌, ℕ, true, ap, arith, subst, sym, ◌∙◌}
use Rattle.cohort_sizes.specs.Births.{first_ordinal}
use Rattle.schema_facts.specs.Dictionaries.{Project}
use Rattle.schema_plan.specs.Limits.{IsInLimits}
use Rattle.life_intervals.specs.declared.found.FoundRow.{FoundRow}
use Rattle.life_intervals.specs.declared.lives.Survival.TheVariants.{Sure}
use Rattle.life_intervals.specs.CohortLives.{survival_at}
use Rattle.life_intervals.specs.Found.{IsFound}
use Rattle.life_intervals.specs.Generator.{generator_of, last_unit, rows_in_all, table_of}
use Rattle.life_intervals.specs.Intervals.{is_live}
use Rattle.life_intervals.proofs.CohortAt.{CohortAt}
use Rattle.life_intervals.proofs.CohortAtLemmas.{is_live_in-sure}
use Rattle.life_intervals.proofs.CohortParentLemmas.{asked_for_death-cost}
use Rattle.update_box.proofs.BornLemmas.{born-by, born-early}
use Rattle.update_box.proofs.fates.lives.Goals as goal

pub find-row-requires-clause-row : goal.find-row-requires-clause-row
find-row-requires-clause-row g c =
    subst (λ (p : Project). c.args.ordinal < rows_in_all p c.args.table) (sym c.plan-plan.ensures)
    (born-by (table_of c.args.rows.now c.args.table).births c.args.t (last_unit c.args.rows.now) c.args.ordinal c.requires.unit c.requires.born)

-- the row that is found is born before the unit
found-early : (plan : Project) (table t ordinal : ℕ) (row : FoundRow) → IsFound plan table row → row.ordinal ≡ ordinal → ordinal < first_ordinal (table_of plan table).births t → row.born < t
found-early plan table t ordinal row found is born =
    born-early (table_of plan table).births row.born t ordinal (omega (arith, found.ordinal, is)) born

pub returns-in-Sure-clause-lives : goal.returns-in-Sure-clause-lives
returns-in-Sure-clause-lives g c =
    let plan : Project = c.args.rows.now in
    let row : FoundRow = c.find-row.result in
    let found : IsFound plan c.args.table row = subst (λ (p : Project). IsFound p c.args.table row) c.plan-plan.ensures c.find-row.ensures.found in
    let limits : IsInLimits plan = subst IsInLimits c.plan-plan.ensures c.schema-sound.ensures.limits in
    let early : row.born < c.args.t = found-early plan c.args.table c.args.t c.args.ordinal row found c.find-row.ensures.ordinal c.requires.born in
    let at : CohortAt = record { plan = plan; table = c.args.table; born = row.born; unit = c.args.t } in
    let sure : survival_at plan c.args.table row.born c.args.t ≡ Sure =
    ap (λ (p : Project). survival_at p c.args.table row.born c.args.t) (sym c.plan-plan.ensures) ∙ sym c.survival_at.ensures ∙ c.in-Sure.is in
    let live : is_live (generator_of plan) c.args.table c.args.t (first_ordinal (table_of plan c.args.table).births row.born + row.index) ≡ true =
    is_live_in-sure at limits c.requires.table c.requires.unit (omega (arith, early)) sure row.index found.index in
    sym (ap (is_live (generator_of plan) c.args.table c.args.t) (sym c.find-row.ensures.ordinal ∙ found.ordinal) ∙ live)

pub is_live-requires-clause-born : goal.is_live-requires-clause-born
is_live-requires-clause-born g c =
    let plan : Project = c.args.rows.now in
    let row : FoundRow = c.find-row.result in
    let found : IsFound plan c.args.table row = subst (λ (p : Project). IsFound p c.args.table row) c.plan-plan.ensures c.find-row.ensures.found in
    omega (arith, found-early plan c.args.table c.args.t c.args.ordinal row found c.find-row.ensures.ordinal c.requires.born)

pub returns : goal.returns
returns g c =
    let plan : Project = c.args.rows.now in
    let limits : IsInLimits plan = subst IsInLimits c.plan-plan.ensures c.schema-sound.ensures.limits in
    record {
      lives = c.is_live.ensures.live ∙ ap (is_live (generator_of plan) c.args.table c.args.t) c.find-row.ensures.ordinal;
      steps = omega (arith, c.is_live.ensures.steps, asked_for_death-cost plan limits c.args.table c.requires.table);
    }
