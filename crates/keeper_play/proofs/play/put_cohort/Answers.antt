use Rattle.std.proofs.Common.{◌<◌, ℕ, suc, ◌+◌, ◌-◌, ◌∷◌, [], true, List, map, ap, arith, subst, sym, ◌∙◌}
use Rattle.pd_outside.proofs.Counts.{failed_then, unfailed_then}
use Rattle.std.specs.List.{range_with_len}
use Rattle.std.proofs.lemmas.Result.{err_from_is_err_and}
use Rattle.schema_facts.specs.Dictionaries.{Project}
use Rattle.schema_plan.specs.Limits.{IsInLimits}
use Rattle.life_intervals.specs.Generator.{generator_of, table_of}
use Rattle.life_intervals.specs.Intervals.{is_live}
use Rattle.cohort_sizes.specs.Births.{cohort_size}
use Rattle.row_keeper.specs.Kept.{Statement}
use Rattle.keeper_play.specs.Played.{put_at}
use Rattle.row_keeper.specs.Store.{perform_all}
use Rattle.keeper_play.proofs.StoreLemmas.{made-more, numbers-at, numbers-more, stopped-behind}
use Rattle.keeper_play.proofs.UnitLemmas.{newborn-alive}
use Rattle.keeper_play.proofs.play.put_cohort.Goals as goal

pub put_row-requires-clause-alive : goal.put_row-requires-clause-alive
put_row-requires-clause-alive g c =
    let plan : Project = c.args.rows.now in
    let limits : IsInLimits plan = subst IsInLimits c.plan.ensures c.schema-limits.ensures.limits in
    let inside : c.loop-index.index < cohort_size (table_of plan c.args.table).births c.args.unit = omega (arith, c.loop-index-test.true, c.requires.cohort.size) in
    ap (λ (first : ℕ). is_live (generator_of plan) c.args.table c.args.unit (first + c.loop-index.index)) c.requires.cohort.first
    ∙ newborn-alive plan limits c.args.table c.requires.table c.args.unit c.requires.unit c.loop-index.index inside

pub put_row-requires-clause-row : goal.put_row-requires-clause-row
put_row-requires-clause-row g c =
    record {
      born = c.requires.unit;
      index = omega (arith, c.loop-index-test.true, c.requires.cohort.size);
      ordinal = ap (λ (first : ℕ). first + c.loop-index.index) c.requires.cohort.first;
    }

pub returns-in_err-put_row-clause-stopped : goal.returns-in_err-put_row-clause-stopped
returns-in_err-put_row-clause-stopped g c =
    let made = err_from_is_err_and c.from_residual.result c.from_residual.ensures.1 in
    let put : ℕ → Statement = put_at c.args.rows.now c.args.unit c.args.table in
    let first : ℕ = c.args.cohort.first in
    let size : ℕ = c.args.cohort.size in
    let i : ℕ = c.loop-index.index in
    rw made.1
    (stopped-behind (map put (range_with_len first size)) (map put (range_with_len first i)) (put (first + i) ∷ []) (map put (range_with_len (first + suc i) (size - suc i))) _ _ _
    (numbers-at put first i size c.loop-index-test.true) c.loop-index.invariant.made c.in_err-put_row.ensures.stopped)

pub loop-index-preserved : goal.loop-index-preserved
loop-index-preserved g c =
    let put : ℕ → Statement = put_at c.args.rows.now c.args.unit c.args.table in
    let first : ℕ = c.args.cohort.first in
    let i : ℕ = c.loop-index.index in
    record {
      made =
          made-more (map put (range_with_len first i)) (put (first + i) ∷ []) _ _ _ c.loop-index.invariant.made c.in_ok-put_row.ensures.made
          ∙ ap (λ (statements : List Statement). perform_all statements (g.K.Keeper.store c.args.keeper.now)) (sym (numbers-more put first i));
      unfailed = unfailed_then _ _ _ c.loop-index.invariant.unfailed c.in_ok-put_row.ensures.counts.unfailed;
      page = c.in_ok-put_row.ensures.page ∙ c.loop-index.invariant.page;
    }

pub returns-in_err-put_row-clause-counts : goal.returns-in_err-put_row-clause-counts
returns-in_err-put_row-clause-counts g c =
    let made = err_from_is_err_and c.from_residual.result c.from_residual.ensures.1 in
    rw made.1 (record { unfailed = tt; failed = failed_then _ _ _ c.loop-index.invariant.unfailed c.in_err-put_row.ensures.counts.failed })
