use Rattle.std.proofs.Common.{◌≡◌, ◌+◌, ◌<◌, ◌≤◌, ◌==◌, ◌||◌, ℕ, Bool, true, arith, subst, sym, ◌∙◌}
use Rattle.std.proofs.lemmas.Bool.Decides.{nat_tests}
use Rattle.cohort_sizes.specs.Births.{Births}
use Rattle.schema_facts.specs.Layout.{births_of, window_layout}
use Rattle.schema_plan.specs.Rules.{has_parent_row, table_in}
use Rattle.schema_check.proofs.ReferenceLemmas.{IsLatest, IsLatest-none, IsLatest-some, has_parent_row-is, tests_fail, tests_more}
use Rattle.schema_check.proofs.reference_rules.has_parent_rows.Goals as goal
use Rattle.schema_check.proofs.reference_rules.has_parent_rows.Goals.{then-cohort_size_at-gt0, else-cohort_size_at-gt0, else-cohort_size_at-gt0-2-via-then-cohort_size_at-gt0-2+else-not-reaches, else-cohort_size_at-gt0-2-via-else-cohort_size_at-gt0-2}

-- at a unit with rows of the child's the test is whether the window reaches back, and at another none
some_rows : (size n : ℕ) (test : Bool) → 0 < n → n ≡ size → (size == 0 || test) ≡ test
some_rows size n test some is = grind (arith, nat_tests)

no_rows : (size n : ℕ) (test : Bool) → n ≤ 0 → n ≡ size → (size == 0 || test) ≡ true
no_rows size n test none is = grind (arith, nat_tests)

pub returns-then-not-reaches : goal.returns-then-not-reaches
returns-then-not-reaches c =
    let child : Births = births_of (table_in c.args.tables.now c.args.child) in
    let parent : Births = births_of (table_in c.args.tables.now c.args.parent) in
    let latest : IsLatest parent (c.loop-unit.unit + 1) c.if-cohort_size_at-gt0.latest =
    elim c.if-cohort_size_at-gt0.branch [
      | then-cohort_size_at-gt0 w ↦
          subst (IsLatest parent (c.loop-unit.unit + 1)) (sym w.latest-is) (IsLatest-some parent c.loop-unit.unit (omega (arith, w.if-cohort_size_at-gt0.true, c.cohort_size_at.ensures)))
      | else-cohort_size_at-gt0 w ↦
          subst (IsLatest parent (c.loop-unit.unit + 1)) (sym w.latest-is)
          (IsLatest-none parent c.loop-unit.unit c.loop-unit.latest c.loop-unit.invariant.latest (omega (arith, w.if-cohort_size_at-gt0.false, c.cohort_size_at.ensures)))
    ] in
    sym (tests_fail (has_parent_row child parent (window_layout c.args.window)) c.loop-unit.unit (c.args.last + 1) c.loop-unit-test.true
    (has_parent_row-is child parent (window_layout c.args.window) c.loop-unit.unit c.if-cohort_size_at-gt0.latest latest
    ∙ some_rows _ c.cohort_size_at-in-loop-unit.result _ c.if-cohort_size_at-gt0-2.true c.cohort_size_at-in-loop-unit.ensures
    ∙ sym c.reaches.ensures ∙ c.if-not-reaches.true))

pub loop-unit-preserved : goal.loop-unit-preserved
loop-unit-preserved c =
    let child : Births = births_of (table_in c.args.tables.now c.args.child) in
    let parent : Births = births_of (table_in c.args.tables.now c.args.parent) in
    let latest : IsLatest parent (c.loop-unit.unit + 1) c.if-cohort_size_at-gt0.latest =
    elim c.if-cohort_size_at-gt0.branch [
      | then-cohort_size_at-gt0 w ↦
          subst (IsLatest parent (c.loop-unit.unit + 1)) (sym w.latest-is) (IsLatest-some parent c.loop-unit.unit (omega (arith, w.if-cohort_size_at-gt0.true, c.cohort_size_at.ensures)))
      | else-cohort_size_at-gt0 w ↦
          subst (IsLatest parent (c.loop-unit.unit + 1)) (sym w.latest-is)
          (IsLatest-none parent c.loop-unit.unit c.loop-unit.latest c.loop-unit.invariant.latest (omega (arith, w.if-cohort_size_at-gt0.false, c.cohort_size_at.ensures)))
    ] in
    record {
      latest = latest;
      tried =
          tests_more (has_parent_row child parent (window_layout c.args.window)) c.loop-unit.unit c.loop-unit.invariant.tried
          (has_parent_row-is child parent (window_layout c.args.window) c.loop-unit.unit c.if-cohort_size_at-gt0.latest latest
          ∙ elim c.else-cohort_size_at-gt0-2.branch [
            | else-cohort_size_at-gt0-2-via-then-cohort_size_at-gt0-2+else-not-reaches w ↦
                some_rows _ c.cohort_size_at-in-loop-unit.result _ w.if-cohort_size_at-gt0-2.true c.cohort_size_at-in-loop-unit.ensures ∙ sym w.reaches.ensures ∙ w.if-not-reaches.false
            | else-cohort_size_at-gt0-2-via-else-cohort_size_at-gt0-2 w ↦
                no_rows _ c.cohort_size_at-in-loop-unit.result _ w.if-cohort_size_at-gt0-2.false c.cohort_size_at-in-loop-unit.ensures
          ]);
    }
