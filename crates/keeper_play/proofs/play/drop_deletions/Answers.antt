use Rattle.std.proofs.Common.{◌≡◌, ◌<◌, ℕ, ◌-◌, true, List, length, reverse, ap, arith, subst, sym, ◌∙◌}
use Rattle.pd_outside.proofs.Counts.{failed_then, unfailed_then}
use Rattle.std.specs.List.{flat_map, range_with_len}
use Rattle.std.proofs.lemmas.Result.{err_from_is_err_and}
use Rattle.schema_facts.specs.Dictionaries.{Project}
use Rattle.schema_plan.specs.Limits.{IsInLimits}
use Rattle.life_intervals.specs.Generator.{generator_of}
use Rattle.row_keeper.specs.Kept.{Statement}
use Rattle.keeper_play.specs.Played.{Changes}
use Rattle.keeper_play.specs.Statements.{deletions, places}
use Rattle.row_keeper.specs.Store.{StoppedIn, perform_all}
use Rattle.keeper_play.proofs.StoreLemmas.{backwards-at, backwards-more, made-more, stopped-behind}
use Rattle.keeper_play.proofs.UnitLemmas.{deletions-born, deletions-told}
use Rattle.life_intervals.proofs.AcceptedLemmas.{length-tables}
use Rattle.keeper_play.proofs.play.drop_deletions.Goals as goal

-- the table is one of the plan's
is_below : (behind count : ℕ) (plan other : Project) → behind < count → count ≡ length other.schema.tables → other ≡ plan → count - 1 - behind < length plan.schema.tables
is_below behind count plan other within counts is = omega (arith, within, counts, ap (λ (p : Project). length p.schema.tables) is)

pub drop_listed-requires-clause-born : goal.drop_listed-requires-clause-born
drop_listed-requires-clause-born g c =
    let plan : Project = c.args.rows.now in
    let limits : IsInLimits plan = subst IsInLimits c.plan.ensures c.schema-limits.ensures.limits in
    let table : ℕ = c.tables-tables.result - 1 - c.loop-behind.behind in
    let below : table < length plan.schema.tables = is_below c.loop-behind.behind c.tables-tables.result plan c.plan-2.result.now c.loop-behind-test.true c.tables-tables.ensures c.plan-2.ensures in
    deletions-born plan limits table below c.args.unit c.requires.unit c.dels.result.now (c.dels.ensures ∙ ap (λ (changes : Changes). changes.deleted) (c.requires.source.each table below))

pub returns-in_err-drop_listed-clause-stopped : goal.returns-in_err-drop_listed-clause-stopped
returns-in_err-drop_listed-clause-stopped g c =
    let made = err_from_is_err_and c.from_residual.result c.from_residual.ensures.1 in
    let plan : Project = c.args.rows.now in
    let limits : IsInLimits plan = subst IsInLimits c.plan.ensures c.schema-limits.ensures.limits in
    let i : ℕ = c.loop-behind.behind in
    let n : ℕ = length (generator_of plan).tables in
    let table : ℕ = c.tables-tables.result - 1 - i in
    let below : table < length plan.schema.tables = is_below i c.tables-tables.result plan c.plan-2.result.now c.loop-behind-test.true c.tables-tables.ensures c.plan-2.ensures in
    let count : c.tables-tables.result ≡ n = omega (arith, c.tables-tables.ensures, ap (λ (p : Project). length p.schema.tables) c.plan-2.ensures, length-tables plan) in
    let at : ℕ → List Statement = deletions (generator_of plan) c.args.unit in
    let is = deletions-told plan limits table below c.args.unit c.requires.unit c.dels.result.now (c.dels.ensures ∙ ap (λ (changes : Changes). changes.deleted) (c.requires.source.each table below)) in
    let here : at table ≡ at (n - 1 - i) = ap (λ (m : ℕ). at (m - 1 - i)) count in
    let first = c.loop-behind.invariant.made ∙ ap (λ (m : ℕ). perform_all (flat_map at (reverse (range_with_len (m - i) i))) (g.K.Keeper.store c.args.keeper.now)) (sym (length-tables plan)) in
    rw made.1
    (stopped-behind (flat_map at (reverse (places (generator_of plan)))) (flat_map at (reverse (range_with_len (n - i) i))) (at (n - 1 - i)) (flat_map at (reverse (range_with_len 0 (n - 1 - i)))) _ _ _
    (backwards-at at i n (omega (arith, c.loop-behind-test.true, count))) first
    (subst (λ (statements : List Statement). StoppedIn statements (g.K.Keeper.store c.loop-behind.keeper) (g.K.Keeper.store c.drop_listed.new.keeper)) (is ∙ here) c.in_err-drop_listed.ensures.stopped))

pub loop-behind-preserved : goal.loop-behind-preserved
loop-behind-preserved g c =
    let plan : Project = c.args.rows.now in
    let limits : IsInLimits plan = subst IsInLimits c.plan.ensures c.schema-limits.ensures.limits in
    let i : ℕ = c.loop-behind.behind in
    let n : ℕ = length plan.schema.tables in
    let table : ℕ = c.tables-tables.result - 1 - i in
    let below : table < length plan.schema.tables = is_below i c.tables-tables.result plan c.plan-2.result.now c.loop-behind-test.true c.tables-tables.ensures c.plan-2.ensures in
    let count : c.tables-tables.result ≡ n = omega (arith, c.tables-tables.ensures, ap (λ (p : Project). length p.schema.tables) c.plan-2.ensures) in
    let at : ℕ → List Statement = deletions (generator_of plan) c.args.unit in
    let is = deletions-told plan limits table below c.args.unit c.requires.unit c.dels.result.now (c.dels.ensures ∙ ap (λ (changes : Changes). changes.deleted) (c.requires.source.each table below)) in
    let here : at table ≡ at (n - 1 - i) = ap (λ (m : ℕ). at (m - 1 - i)) count in
    record {
      made =
          made-more (flat_map at (reverse (range_with_len (n - i) i))) (at (n - 1 - i)) _ _ _ c.loop-behind.invariant.made
          (c.in_ok-drop_listed.ensures.made ∙ ap (λ (statements : List Statement). perform_all statements (g.K.Keeper.store c.loop-behind.keeper)) (is ∙ here))
          ∙ ap (λ (statements : List Statement). perform_all statements (g.K.Keeper.store c.args.keeper.now)) (sym (backwards-more at i n (omega (arith, c.loop-behind-test.true, count))));
      unfailed = unfailed_then _ _ _ c.loop-behind.invariant.unfailed c.in_ok-drop_listed.ensures.counts.unfailed;
    }

pub returns-in_err-drop_listed-clause-counts : goal.returns-in_err-drop_listed-clause-counts
returns-in_err-drop_listed-clause-counts g c =
    let made = err_from_is_err_and c.from_residual.result c.from_residual.ensures.1 in
    rw made.1 (record { unfailed = tt; failed = failed_then _ _ _ c.loop-behind.invariant.unfailed c.in_err-drop_listed.ensures.counts.failed })
