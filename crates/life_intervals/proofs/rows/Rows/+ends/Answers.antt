use Rattle.std.proofs.Common.{◌≡◌, ◌≤◌, ◌+◌, ◌*◌, ℕ, Option, None, List, get_or, length, is_none, filter, sum_by, ap, arith, subst, sym, ◌∙◌}
use Rattle.schema_plan.specs.declared.ready.ReadyReference.{ReadyReference}
use Rattle.schema_facts.specs.Dictionaries.{Project}
use Rattle.schema_facts.specs.Layout.{layout_of}
use Rattle.schema_plan.specs.Limits.{IsInLimits}
use Rattle.schema_facts.specs.Lineage.{choice_cost, death_cost, one_if, sure_life}
use Rattle.schema_plan.specs.Ready.{ready_columns}
use Rattle.schema_facts.specs.References.{Reference}
use Rattle.life_intervals.specs.declared.lives.Survival.TheVariants.{Sure}
use Rattle.life_intervals.specs.CohortKeys.{CohortOf}
use Rattle.life_intervals.specs.CohortLives.{survival_at}
use Rattle.life_intervals.specs.CohortOrders.{do_lives_differ}
use Rattle.life_intervals.specs.CohortParents.{asked_for_death, reference_by}
use Rattle.life_intervals.specs.Ends.{AreEarlier, earlier_end}
use Rattle.life_intervals.specs.Generator.{generator_of, last_unit, table_of}
use Rattle.life_intervals.specs.Intervals.{death, is_after, parent_of}
use Rattle.life_intervals.proofs.CascadeLemmas.{is_cascading}
use Rattle.life_intervals.proofs.CohortParentLemmas.{asked_for_death-cost, before-none, cost_before, cost_before-nulls, cost_before-some, cost_of_reference, length-ready_columns, limits_of, none_from_columns, parent_below, reference_from_columns}
use Rattle.life_intervals.proofs.EndLemmas.{AreKnownOf-same, AreEarlier-rest, AreEarlier-same, AreEarlier-then, death-live, death_before, death_before-all, death_before-none, death_before-nulls, death_before-some, lies-in_all, parent-never, steps-more, steps-parents}
use Rattle.life_intervals.proofs.FoundLemmas.{none-from}
use Rattle.life_intervals.proofs.PartLemmas.{lies-sure}
use Rattle.life_intervals.proofs.rows.Rows.+ends.Goals as goal
use Rattle.life_intervals.proofs.rows.Rows.+ends.Goals.{put_drawn_ends-in-Reference+then-not-reference, put_drawn_ends-in-Reference+else-not-reference, put_drawn_ends-in_default}

pub put_drawn_ends-loop-column-preserved : goal.put_drawn_ends-loop-column-preserved
put_drawn_ends-loop-column-preserved g t c =
    let plan : Project = c.args.self.now in
    let ordinals : List ℕ = c.args.ordinals.now in
    let of : CohortOf = record { plan = plan; table = c.args.table; unit = 0 } in
    let columns : c.columns-ready-items.result.now ≡ ready_columns (layout_of plan) c.args.table =
    c.columns-ready-items.ensures.columns ∙ ap (λ (p : Project). ready_columns (layout_of p) c.args.table) c.plan-2.ensures in
    let at : ℕ = c.loop-column.column in
    let before = c.loop-column.invariant in
    let own : ℕ = one_if (do_lives_differ (table_of plan c.args.table).life) in
    elim c.match-ready.branch [
      | put_drawn_ends-in-Reference+then-not-reference w ↦
          let reference : ReadyReference = w.in-Reference.reference in
          let is = reference_from_columns plan c.args.table at c.columns-ready-items.result.now c.ready-item.result reference columns c.loop-column-test.true c.ready-item.is w.in-Reference.is in
          let dies : ℕ → Option ℕ = λ j. death (generator_of plan) reference.parent (last_unit plan) (parent_of (generator_of plan) c.args.table (last_unit plan) j (reference_by at reference)) in
          record {
            ends = subst (AreEarlier (death_before plan c.args.table (at + 1)) ordinals c.args.ends.now) (sym w.ends-is)
                (AreEarlier-then (death_before plan c.args.table at) dies (death_before plan c.args.table (at + 1)) ordinals c.args.ends.now c.loop-column.ends w.put_parents_ends-by.new.ends before.ends w.put_parents_ends-by.ensures.ends
                (λ i below. death_before-some plan c.args.table at reference is w.if-not-reference.true (get_or ordinals i 0)));
            known = AreKnownOf-same plan c.args.table c.args.t ordinals c.match-ready.by w.put_parents_ends-by.result c.match-ready.parents w.put_parents_ends-by.new.parents c.match-ready.parents_births w.put_parents_ends-by.new.parents_births w.by-is w.parents-is w.parents_births-is
                w.put_parents_ends-by.ensures.known;
            steps = steps-more (length ordinals) (own + cost_before of at) (choice_cost reference.drawn + death_cost (layout_of plan).tables reference.parent) (own + cost_before of (at + 1)) c.args.steps.now c.loop-column.steps c.match-ready.steps before.steps
                (omega (arith, w.steps-is, w.put_parents_ends-by.ensures.steps)) (omega (arith, cost_before-some of at reference is w.if-not-reference.true));
          }
      | put_drawn_ends-in-Reference+else-not-reference w ↦
          let reference : ReadyReference = w.in-Reference.reference in
          let is = reference_from_columns plan c.args.table at c.columns-ready-items.result.now c.ready-item.result reference columns c.loop-column-test.true c.ready-item.is w.in-Reference.is in
          record {
            ends = subst (AreEarlier (death_before plan c.args.table (at + 1)) ordinals c.args.ends.now) (sym w.ends-is)
                (AreEarlier-same (death_before plan c.args.table at) (death_before plan c.args.table (at + 1)) ordinals c.args.ends.now c.loop-column.ends before.ends
                (λ i below. death_before-nulls plan c.args.table at reference is w.if-not-reference.false (get_or ordinals i 0)));
            known = AreKnownOf-same plan c.args.table c.args.t ordinals c.match-ready.by c.loop-column.by c.match-ready.parents c.loop-column.parents c.match-ready.parents_births c.loop-column.parents_births w.by-is w.parents-is w.parents_births-is before.known;
            steps = omega (arith, w.steps-is, before.steps, ap (λ (cost : ℕ). length ordinals * (own + cost)) (cost_before-nulls of at reference is w.if-not-reference.false));
          }
      | put_drawn_ends-in_default w ↦
          let none = none_from_columns plan c.args.table at c.columns-ready-items.result.now c.ready-item.result columns c.loop-column-test.true c.ready-item.is w.in_default.not-Reference in
          record {
            ends = subst (AreEarlier (death_before plan c.args.table (at + 1)) ordinals c.args.ends.now) (sym w.ends-is)
                (AreEarlier-same (death_before plan c.args.table at) (death_before plan c.args.table (at + 1)) ordinals c.args.ends.now c.loop-column.ends before.ends
                (λ i below. death_before-none plan c.args.table at none.0 none.1 (get_or ordinals i 0)));
            known = AreKnownOf-same plan c.args.table c.args.t ordinals c.match-ready.by c.loop-column.by c.match-ready.parents c.loop-column.parents c.match-ready.parents_births c.loop-column.parents_births w.by-is w.parents-is w.parents_births-is before.known;
            steps = omega (
              arith,
              w.steps-is,
              before.steps,
              ap (λ (references : List Reference). length ordinals * (own + sum_by (cost_of_reference of) (filter is_cascading references))) (before-none of at none.0 none.1),
            );
          }
    ]

pub put_drawn_ends-returns-clause-ends : goal.put_drawn_ends-returns-clause-ends
put_drawn_ends-returns-clause-ends g t c =
    let plan : Project = c.args.self.now in
    let ordinals : List ℕ = c.args.ordinals.now in
    let limits : IsInLimits plan = subst IsInLimits c.plan.ensures c.schema-sound.ensures.limits in
    let columns : c.columns-ready-items.result.now ≡ ready_columns (layout_of plan) c.args.table =
    c.columns-ready-items.ensures.columns ∙ ap (λ (p : Project). ready_columns (layout_of p) c.args.table) c.plan-2.ensures in
    let all : length (table_of plan c.args.table).columns ≤ c.loop-column.column =
    omega (arith, c.loop-column-test.false, ap length columns, length-ready_columns plan c.args.table) in
    AreEarlier-same (death_before plan c.args.table c.loop-column.column) (death (generator_of plan) c.args.table (last_unit plan)) ordinals c.args.ends.now c.loop-column.ends c.loop-column.invariant.ends
    (λ i below.
    let j : ℕ = get_or ordinals i 0 in
    let born : ℕ = get_or c.args.births.now i 0 in
    death_before-all plan c.args.table limits c.requires.table c.loop-column.column all j
    (lies-in_all plan c.args.table born (omega (arith, c.requires.run.born i below, c.requires.unit)) j (c.requires.run.lies i below)))

pub put_ends-returns-then-are_sure-clause-ends : goal.put_ends-returns-then-are_sure-clause-ends
put_ends-returns-then-are_sure-clause-ends g t c =
    let plan : Project = c.args.self.now in
    let ordinals : List ℕ = c.args.ordinals.now in
    let limits : IsInLimits plan = subst IsInLimits c.plan.ensures c.schema-sound.ensures.limits in
    AreEarlier-rest c.args.t (death (generator_of plan) c.args.table (last_unit plan)) ordinals c.args.ends.now c.requires.ends (λ i below.
    let j : ℕ = get_or ordinals i 0 in
    let born : ℕ = get_or c.args.births.now i 0 in
    let early : born ≤ c.args.t = c.requires.run.born i below in
    let within : born ≤ last_unit plan = omega (arith, early, c.requires.unit) in
    let sure : survival_at plan c.args.table born c.args.t ≡ Sure =
    ap (λ (p : Project). survival_at p c.args.table born c.args.t) (sym c.plan-2.ensures) ∙ c.are_sure.ensures c.if-are_sure.true i (omega (arith, below, c.requires.run.same_length)) in
    death-live plan c.args.table born within j (c.requires.run.lies i below) limits c.requires.table c.args.t early c.requires.unit
    ∙ sym (lies-sure plan c.args.table born within j (c.requires.run.lies i below) limits c.requires.table c.args.t early c.requires.unit sure))

pub put_parents_ends-never_dies-requires : goal.put_parents_ends-never_dies-requires
put_parents_ends-never_dies-requires g t c =
    let limits : IsInLimits c.args.self.now = subst IsInLimits c.plan.ensures c.schema-limits.ensures.limits in
    omega (
      arith,
      parent_below c.args.self.now limits c.args.table c.args.column c.args.reference.now c.requires.table c.requires.reference,
      ap (λ (p : Project). length p.schema.tables) c.plan-2.ensures,
    )

pub put_parents_ends-returns-then-never_dies-clause-ends : goal.put_parents_ends-returns-then-never_dies-clause-ends
put_parents_ends-returns-then-never_dies-clause-ends g t c =
    let plan : Project = c.args.self.now in
    let ordinals : List ℕ = c.args.ordinals.now in
    let reference : ReadyReference = c.args.reference.now in
    let limits : IsInLimits plan = subst IsInLimits c.plan.ensures c.schema-limits.ensures.limits in
    let endless : sure_life (layout_of plan).tables reference.parent ≡ None =
    none-from (sure_life (layout_of plan).tables reference.parent)
    (ap (λ (p : Project). is_none (sure_life (layout_of p).tables reference.parent)) (sym c.plan-2.ensures) ∙ sym c.never_dies.ensures ∙ c.if-never_dies.true) in
    let dies : ℕ → Option ℕ = λ j. death (generator_of plan) reference.parent (last_unit plan) (parent_of (generator_of plan) c.args.table (last_unit plan) j (reference_by c.args.column reference)) in
    AreEarlier-rest c.args.t dies ordinals c.args.ends.now c.requires.ends (λ i below.
    ap (λ (d : Option ℕ). is_after d c.args.t)
    (parent-never plan c.args.table (get_or c.args.births.now i 0) (omega (arith, c.requires.run.born i below, c.requires.unit)) (get_or ordinals i 0) (c.requires.run.lies i below) limits c.requires.table c.args.column reference c.requires.reference endless))

pub put_parents_ends-put_ends-requires : goal.put_parents_ends-put_ends-requires
put_parents_ends-put_ends-requires g t c κs outlives =
    let plan : Project = c.args.self.now in
    let limits : IsInLimits plan = subst IsInLimits c.plan.ensures c.schema-limits.ensures.limits in
    let is = limits_of plan limits c.args.table c.args.column c.args.reference.now c.requires.table c.requires.reference in
    let many : length c.find_parents.new.parents ≡ length c.args.ordinals.now = c.find_parents.ensures.found.same_length in (
      omega (arith, c.decreases, is.earlier),
      (
        outlives,
        (
          omega (arith, c.requires.table, is.earlier),
          (
            c.requires.unit,
            (
              omega (arith, many, c.requires.few),
              (
                c.find_parents.ensures.found.run,
                record {
                  same_length = c.requires.ends.same_length ∙ sym many;
                  within = λ i below. c.requires.ends.within i (omega (arith, below, many));
                },
              ),
            ),
          ),
        ),
      ),
    )

pub put_parents_ends-returns-clause-ends : goal.put_parents_ends-returns-clause-ends
put_parents_ends-returns-clause-ends g t c =
    let plan : Project = c.args.self.now in
    let dies : ℕ → Option ℕ = death (generator_of plan) c.args.reference.now.parent (last_unit plan) in
    let many : length c.find_parents.new.parents ≡ length c.args.ordinals.now = c.find_parents.ensures.found.same_length in
    record {
      same_length = c.put_ends.ensures.ends.same_length ∙ many;
      each = λ i below.
          c.put_ends.ensures.ends.each i (omega (arith, below, many))
          ∙ ap (λ (parent : ℕ). earlier_end (get_or c.args.ends.now i 0) (dies parent)) (c.find_parents.ensures.found.each i below);
    }

pub put_parents_ends-returns-clause-steps : goal.put_parents_ends-returns-clause-steps
put_parents_ends-returns-clause-steps g t c =
    let plan : Project = c.args.self.now in
    let limits : IsInLimits plan = subst IsInLimits c.plan.ensures c.schema-limits.ensures.limits in
    let parent : ℕ = c.args.reference.now.parent in
    steps-parents (length c.args.ordinals.now) (length c.find_parents.new.parents) (choice_cost c.args.reference.now.drawn) (asked_for_death plan parent) (death_cost (layout_of plan).tables parent) c.args.steps.now c.find_parents.new.steps c.put_ends.new.steps
    c.find_parents.ensures.found.same_length c.find_parents.ensures.steps c.put_ends.ensures.steps
    (asked_for_death-cost plan limits parent (parent_below plan limits c.args.table c.args.column c.args.reference.now c.requires.table c.requires.reference))
