use Rattle.std.proofs.Common.{ap, map, ◌++◌, ◌∷◌, [], ◌∙◌, List, ℕ}
use Rattle.replay_files.proofs.NameLemmas.{columns_more}
use Rattle.run_jobs.proofs.MoreLemmas.{viewed_more}
use Rattle.replay_files.proofs.replay.copies.push_columns.Goals as goal

pub loop-unit-preserved : goal.loop-unit-preserved
loop-unit-preserved c =
    let names : List (List ℕ) = c.args.names.now in
    columns_more names c.loop-unit._unit _ _ _ c.loop-unit.invariant
    (viewed_more (λ own. own.now) _ _ _ c.in_ok-push-4.ensures.items
    ∙ ap (λ (front : List (List (List ℕ))). front ++ names ∷ [])
    (viewed_more (λ own. own.now) _ _ _ c.in_ok-push-3.ensures.items
    ∙ ap (λ (front : List (List (List ℕ))). front ++ names ∷ [])
    (viewed_more (λ own. own.now) _ _ _ c.in_ok-push-2.ensures.items
    ∙ ap (λ (own : List (List ℕ)). map (λ own. own.now) c.loop-unit.columns.items ++ own ∷ []) c.names_for.ensures)))
