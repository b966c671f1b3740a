use Rattle.std.proofs.Common.{◌≡◌, ◌<◌, ℕ, suc, ◌-◌, true, List, length, ap, arith, subst, sym, ◌∙◌}
use Rattle.pd_outside.proofs.Counts.{failed_then, unfailed_then}
use Rattle.std.specs.List.{flat_map, range_with_len}
use Rattle.std.proofs.lemmas.Result.{err_from_is_err_and}
use Rattle.schema_facts.specs.Dictionaries.{Project}
use Rattle.schema_plan.specs.Limits.{IsInLimits}
use Rattle.life_intervals.specs.Generator.{generator_of}
use Rattle.row_keeper.specs.Kept.{Statement}
use Rattle.keeper_play.specs.Played.{Changes}
use Rattle.keeper_play.specs.Statements.{insertions, places}
use Rattle.row_keeper.specs.Store.{StoppedIn, perform_all}
use Rattle.keeper_play.proofs.StoreLemmas.{made-more, places-at, stopped-behind}
use Rattle.keeper_play.proofs.UnitLemmas.{insertions-cohort, insertions-told}
use Rattle.life_intervals.proofs.AcceptedLemmas.{length-tables}
use Rattle.life_intervals.proofs.Ranges.{flat_map-range_with_len_more}
use Rattle.keeper_play.proofs.play.put_insertions.Goals as goal

-- the table is one of the plan's
is_below : (tables table count : ℕ) (plan other : Project) → table < count → count ≡ length other.schema.tables → other ≡ plan → table < length plan.schema.tables
is_below tables table count plan other within counts is = omega (arith, within, counts, ap (λ (p : Project). length p.schema.tables) is)

pub put_cohort-requires-clause-cohort : goal.put_cohort-requires-clause-cohort
put_cohort-requires-clause-cohort g c =
    let plan : Project = c.args.rows.now in
    let limits : IsInLimits plan = subst IsInLimits c.plan.ensures c.schema-limits.ensures.limits in
    let table : ℕ = c.loop-table.table in
    let below : table < length plan.schema.tables = is_below 0 table c.tables-table-end.result plan c.plan-2.result.now c.loop-table-test.true c.tables-table-end.ensures c.plan-2.ensures in
    insertions-cohort plan limits table below c.args.unit c.requires.unit c.ins.result (c.ins.ensures ∙ ap (λ (changes : Changes). changes.inserted) (c.requires.source.each table below))

pub returns-in_err-put_cohort-clause-stopped : goal.returns-in_err-put_cohort-clause-stopped
returns-in_err-put_cohort-clause-stopped g c =
    let made = err_from_is_err_and c.from_residual.result c.from_residual.ensures.1 in
    let plan : Project = c.args.rows.now in
    let limits : IsInLimits plan = subst IsInLimits c.plan.ensures c.schema-limits.ensures.limits in
    let table : ℕ = c.loop-table.table in
    let below : table < length plan.schema.tables = is_below 0 table c.tables-table-end.result plan c.plan-2.result.now c.loop-table-test.true c.tables-table-end.ensures c.plan-2.ensures in
    let at : ℕ → List Statement = insertions (generator_of plan) c.args.unit in
    let n : ℕ = length (generator_of plan).tables in
    let is = insertions-told plan limits table below c.args.unit c.requires.unit c.ins.result (c.ins.ensures ∙ ap (λ (changes : Changes). changes.inserted) (c.requires.source.each table below)) in
    rw made.1
    (stopped-behind (flat_map at (places (generator_of plan))) (flat_map at (range_with_len 0 table)) (at table) (flat_map at (range_with_len (suc table) (n - suc table))) _ _ _
    (places-at at table n (omega (arith, below, length-tables plan))) c.loop-table.invariant.made
    (subst (λ (statements : List Statement). StoppedIn statements (g.K.Keeper.store c.loop-table.keeper) (g.K.Keeper.store c.put_cohort.new.keeper)) is c.in_err-put_cohort.ensures.stopped))

pub loop-table-preserved : goal.loop-table-preserved
loop-table-preserved g c =
    let plan : Project = c.args.rows.now in
    let limits : IsInLimits plan = subst IsInLimits c.plan.ensures c.schema-limits.ensures.limits in
    let table : ℕ = c.loop-table.table in
    let below : table < length plan.schema.tables = is_below 0 table c.tables-table-end.result plan c.plan-2.result.now c.loop-table-test.true c.tables-table-end.ensures c.plan-2.ensures in
    let at : ℕ → List Statement = insertions (generator_of plan) c.args.unit in
    let is = insertions-told plan limits table below c.args.unit c.requires.unit c.ins.result (c.ins.ensures ∙ ap (λ (changes : Changes). changes.inserted) (c.requires.source.each table below)) in
    record {
      made =
          made-more (flat_map at (range_with_len 0 table)) (at table) _ _ _ c.loop-table.invariant.made
          (c.in_ok-put_cohort.ensures.made ∙ ap (λ (statements : List Statement). perform_all statements (g.K.Keeper.store c.loop-table.keeper)) is)
          ∙ ap (λ (statements : List Statement). perform_all statements (g.K.Keeper.store c.args.keeper.now)) (sym (flat_map-range_with_len_more at table));
      unfailed = unfailed_then _ _ _ c.loop-table.invariant.unfailed c.in_ok-put_cohort.ensures.counts.unfailed;
      page = c.in_ok-put_cohort.ensures.page ∙ c.loop-table.invariant.page;
    }

pub returns-in_err-put_cohort-clause-counts : goal.returns-in_err-put_cohort-clause-counts
returns-in_err-put_cohort-clause-counts g c =
    let made = err_from_is_err_and c.from_residual.result c.from_residual.ensures.1 in
    rw made.1 (record { unfailed = tt; failed = failed_then _ _ _ c.loop-table.invariant.unfailed c.in_err-put_cohort.ensures.counts.failed })
