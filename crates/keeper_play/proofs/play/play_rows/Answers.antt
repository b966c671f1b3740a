use Rattle.std.proofs.Common.{◌≡◌, ℕ, ◌+◌, ◌-◌, [], List, reverse, ap, subst, sym, ◌∙◌}
use Rattle.std.specs.Prelude.{◌++◌}
use Rattle.std.proofs.lemmas.List.{append-nil, append_assoc}
use Rattle.pd_outside.proofs.Counts.{failed_then, made_then, unfailed_then}
use Rattle.std.specs.List.{flat_map}
use Rattle.std.proofs.lemmas.Result.{err_from_is_err_and}
use Rattle.schema_facts.specs.Dictionaries.{Project}
use Rattle.schema_plan.specs.Limits.{IsInLimits}
use Rattle.life_intervals.specs.Generator.{generator_of}
use Rattle.row_keeper.specs.Kept.{Statement}
use Rattle.keeper_play.specs.Statements.{deletions, insertions, places, unit_statements, updates}
use Rattle.row_keeper.specs.Store.{perform_all}
use Rattle.keeper_play.proofs.StoreLemmas.{made-more, made-none, on_err, on_ok, stopped-behind}
use Rattle.keeper_play.proofs.UnitLemmas.{unit_statements-parts}
use Rattle.keeper_play.proofs.play.play_rows.Goals as goal

-- the three parts of a unit, by the plan of its rows
abbrev updates_in : Project → ℕ → List Statement
updates_in plan unit = flat_map (updates (generator_of plan) unit) (places (generator_of plan))

abbrev deletions_in : Project → ℕ → List Statement
deletions_in plan unit = flat_map (deletions (generator_of plan) unit) (reverse (places (generator_of plan)))

abbrev insertions_in : Project → ℕ → List Statement
insertions_in plan unit = flat_map (insertions (generator_of plan) unit) (places (generator_of plan))

parts : (rows : Project) (unit : ℕ) → IsInLimits rows →
    unit_statements (generator_of rows) unit ≡ updates_in rows unit ++ deletions_in rows unit ++ insertions_in rows unit
parts rows unit limits = unit_statements-parts rows limits unit

pub returns-in_err-put_updates-clause-stopped : goal.returns-in_err-put_updates-clause-stopped
returns-in_err-put_updates-clause-stopped g c =
    let made = err_from_is_err_and c.from_residual.result c.from_residual.ensures.1 in
    let rows : Project = c.args.rows.now in
    let limits : IsInLimits rows = subst IsInLimits c.plan.ensures c.schema-limits.ensures.limits in
    let unit : ℕ = c.args.unit in
    rw made.1
    (stopped-behind (unit_statements (generator_of rows) unit) [] (updates_in rows unit) (deletions_in rows unit ++ insertions_in rows unit) _ _ _
    (parts rows unit limits ∙ append_assoc (updates_in rows unit) (deletions_in rows unit) (insertions_in rows unit))
    (made-none (g.K.Keeper.store c.args.keeper.now)) c.in_err-put_updates.ensures.stopped)

pub returns-in_err-drop_deletions-clause-stopped : goal.returns-in_err-drop_deletions-clause-stopped
returns-in_err-drop_deletions-clause-stopped g c =
    let made = err_from_is_err_and c.from_residual-in_err-drop_deletions.result c.from_residual-in_err-drop_deletions.ensures.1 in
    let rows : Project = c.args.rows.now in
    let limits : IsInLimits rows = subst IsInLimits c.plan.ensures c.schema-limits.ensures.limits in
    let unit : ℕ = c.args.unit in
    rw made.1
    (stopped-behind (unit_statements (generator_of rows) unit) (updates_in rows unit) (deletions_in rows unit) (insertions_in rows unit) _ _ _
    (parts rows unit limits ∙ append_assoc (updates_in rows unit) (deletions_in rows unit) (insertions_in rows unit))
    c.in_ok-put_updates.ensures.made c.in_err-drop_deletions.ensures.stopped)

pub returns-clause-made : goal.returns-clause-made
returns-clause-made g c =
    let rows : Project = c.args.rows.now in
    let limits : IsInLimits rows = subst IsInLimits c.plan.ensures c.schema-limits.ensures.limits in
    let unit : ℕ = c.args.unit in
    on_ok _ _ c.put_insertions.result
    (λ last.
    made-more (updates_in rows unit ++ deletions_in rows unit) (insertions_in rows unit) _ _ _
    (made-more (updates_in rows unit) (deletions_in rows unit) _ _ _ c.in_ok-put_updates.ensures.made c.in_ok-drop_deletions.ensures.made) last
    ∙ ap (λ (statements : List Statement). perform_all statements (g.K.Keeper.store c.args.keeper.now)) (sym (parts rows unit limits)))
    c.put_insertions.ensures.made

pub returns-clause-stopped : goal.returns-clause-stopped
returns-clause-stopped g c =
    let rows : Project = c.args.rows.now in
    let limits : IsInLimits rows = subst IsInLimits c.plan.ensures c.schema-limits.ensures.limits in
    let unit : ℕ = c.args.unit in
    on_err _ _ c.put_insertions.result
    (λ last.
    stopped-behind (unit_statements (generator_of rows) unit) (updates_in rows unit ++ deletions_in rows unit) (insertions_in rows unit) [] _ _ _
    (parts rows unit limits
    ∙ ap (λ (last : List Statement). updates_in rows unit ++ deletions_in rows unit ++ last) (sym (append-nil (insertions_in rows unit))))
    (made-more (updates_in rows unit) (deletions_in rows unit) _ _ _ c.in_ok-put_updates.ensures.made c.in_ok-drop_deletions.ensures.made) last)
    c.put_insertions.ensures.stopped

pub returns-in_err-put_updates-clause-counts : goal.returns-in_err-put_updates-clause-counts
returns-in_err-put_updates-clause-counts g c =
    let made = err_from_is_err_and c.from_residual.result c.from_residual.ensures.1 in
    rw made.1 (record { unfailed = tt; failed = c.in_err-put_updates.ensures.counts.failed })

pub returns-in_err-drop_deletions-clause-counts : goal.returns-in_err-drop_deletions-clause-counts
returns-in_err-drop_deletions-clause-counts g c =
    let made = err_from_is_err_and c.from_residual-in_err-drop_deletions.result c.from_residual-in_err-drop_deletions.ensures.1 in
    rw made.1 (record {
      unfailed = tt;
      failed = failed_then _ _ _ c.in_ok-put_updates.ensures.counts.unfailed c.in_err-drop_deletions.ensures.counts.failed;
    })

pub returns-clause-counts : goal.returns-clause-counts
returns-clause-counts g c =
    made_then c.put_insertions.result _ _ _ (unfailed_then _ _ _ c.in_ok-put_updates.ensures.counts.unfailed c.in_ok-drop_deletions.ensures.counts.unfailed)
    c.put_insertions.ensures.counts
