use Rattle.std.proofs.Common.{◌<◌, ◌≤◌, ℕ, suc, ◌+◌, ◌-◌, ◌∷◌, [], true, List, map, take, drop, get_or, ap, arith, subst, sym, ◌∙◌}
use Rattle.std.specs.Prelude.{◌++◌}
use Rattle.cohort_sizes.proofs.CohortLemmas.{born_count-le}
use Rattle.life_intervals.specs.Found.{IsFound}
use Rattle.life_intervals.proofs.FoundLemmas.{found-early}
use Rattle.pd_outside.proofs.Counts.{failed_then, unfailed_then}
use Rattle.std.proofs.lemmas.Result.{err_from_is_err_and}
use Rattle.schema_facts.specs.Dictionaries.{Project}
use Rattle.life_intervals.specs.Generator.{generator_of, last_unit, rows_in_all, table_of}
use Rattle.life_intervals.specs.Intervals.{is_live}
use Rattle.cohort_sizes.specs.Births.{born_count}
use Rattle.row_keeper.specs.Kept.{Statement}
use Rattle.keeper_play.specs.Played.{put_at}
use Rattle.row_keeper.specs.Store.{StoppedIn, perform_all}
use Rattle.keeper_play.proofs.StoreLemmas.{items-at, items-more, made-more, stopped-behind}
use Rattle.keeper_play.proofs.play.put_listed.Goals as goal

-- what is found is the row of its ordinal
born_early : (plan : Project) (table unit j : ℕ) → unit ≤ last_unit plan → j < born_count (table_of plan table).births unit → j < rows_in_all plan table
born_early plan table unit j within born = omega (arith, born, born_count-le (table_of plan table).births unit (last_unit plan) within)

pub find-row-requires-clause-row : goal.find-row-requires-clause-row
find-row-requires-clause-row g c =
    subst (λ (p : Project). get_or c.args.ordinals.now c.loop-j.j-index 0 < rows_in_all p c.args.table) (sym c.plan.ensures)
    (born_early c.args.rows.now c.args.table c.args.unit (get_or c.args.ordinals.now c.loop-j.j-index 0) c.requires.unit (c.requires.born c.loop-j.j-index 0 c.loop-j-test.true))

pub new-lines-requires-clause-born : goal.new-lines-requires-clause-born
new-lines-requires-clause-born g c =
    found-early c.args.rows.now c.args.table c.args.unit (get_or c.args.ordinals.now c.loop-j.j-index 0) c.find-row.result
    (subst (λ (p : Project). IsFound p c.args.table c.find-row.result) c.plan.ensures c.find-row.ensures.found)
    c.find-row.ensures.ordinal c.requires.unit (c.requires.born c.loop-j.j-index 0 c.loop-j-test.true)

pub put_row-requires-clause-alive : goal.put_row-requires-clause-alive
put_row-requires-clause-alive g c =
    ap (is_live (generator_of c.args.rows.now) c.args.table c.args.unit) c.find-row.ensures.ordinal ∙ c.requires.alive c.loop-j.j-index 0 c.loop-j-test.true

pub returns-in_err-put_row-clause-stopped : goal.returns-in_err-put_row-clause-stopped
returns-in_err-put_row-clause-stopped g c =
    let made = err_from_is_err_and c.from_residual.result c.from_residual.ensures.1 in
    let put : ℕ → Statement = put_at c.args.rows.now c.args.unit c.args.table in
    let ordinals : List ℕ = c.args.ordinals.now in
    let i : ℕ = c.loop-j.j-index in
    rw made.1
    (stopped-behind (map put ordinals) (map put (take i ordinals)) (put (get_or ordinals i 0) ∷ []) (map put (drop (suc i) ordinals)) _ _ _
    (items-at put ordinals i 0 c.loop-j-test.true) c.loop-j.invariant.made
    (subst (λ (j : ℕ). StoppedIn (put j ∷ []) (g.K.Keeper.store c.loop-j.keeper) (g.K.Keeper.store c.put_row.new.keeper)) c.find-row.ensures.ordinal c.in_err-put_row.ensures.stopped))

pub loop-j-preserved : goal.loop-j-preserved
loop-j-preserved g c =
    let put : ℕ → Statement = put_at c.args.rows.now c.args.unit c.args.table in
    let ordinals : List ℕ = c.args.ordinals.now in
    let i : ℕ = c.loop-j.j-index in
    record {
      made =
          made-more (map put (take i ordinals)) (put c.find-row.result.ordinal ∷ []) _ _ _ c.loop-j.invariant.made c.in_ok-put_row.ensures.made
          ∙ ap (λ (j : ℕ). perform_all (map put (take i ordinals) ++ put j ∷ []) (g.K.Keeper.store c.args.keeper.now)) c.find-row.ensures.ordinal
          ∙ ap (λ (statements : List Statement). perform_all statements (g.K.Keeper.store c.args.keeper.now)) (sym (items-more put ordinals i 0 c.loop-j-test.true));
      unfailed = unfailed_then _ _ _ c.loop-j.invariant.unfailed c.in_ok-put_row.ensures.counts.unfailed;
      page = c.in_ok-put_row.ensures.page ∙ c.loop-j.invariant.page;
    }

pub returns-in_err-put_row-clause-counts : goal.returns-in_err-put_row-clause-counts
returns-in_err-put_row-clause-counts g c =
    let made = err_from_is_err_and c.from_residual.result c.from_residual.ensures.1 in
    rw made.1 (record { unfailed = tt; failed = failed_then _ _ _ c.loop-j.invariant.unfailed c.in_err-put_row.ensures.counts.failed })
