use Rattle.std.proofs.Common.{List, arith, ap, map, ◌-◌, ◌++◌, ◌∙◌, ℕ}
use Rattle.run_jobs.specs.InputFiles.{names_in}
use Rattle.run_jobs.proofs.MoreLemmas.{all_listed, listed_at}
use Rattle.replay_files.proofs.replay.copies.input_columns.Goals as goal

pub loop-place-preserved : goal.loop-place-preserved
loop-place-preserved c =
    let units : ℕ = c.args.request.now.to - c.args.request.now.from in
    listed_at (names_in units) c.args.tables.now c.loop-place.place c.index-tables-place.result _ _
    (omega (arith, c.loop-place-test.true)) c.loop-place.invariant
    (c.in_ok-push_columns.ensures
    ∙ ap (λ (names : List (List ℕ)). map (λ own. own.now) c.loop-place.columns.items ++ names_in units names) (c.as_slice.ensures ∙ c.index-tables-place.is))

pub returns : goal.returns
returns c =
    all_listed (names_in (c.args.request.now.to - c.args.request.now.from)) c.args.tables.now c.loop-place.place _
    (omega (arith, c.loop-place-test.false)) c.loop-place.invariant
