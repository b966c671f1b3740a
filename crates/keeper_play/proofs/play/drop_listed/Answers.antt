use Rattle.std.proofs.Common.{ℕ, suc, ◌-◌, ◌∷◌, [], true, List, map, take, drop, get_or}
use Rattle.pd_outside.proofs.Counts.{failed_by, failed_then}
use Rattle.std.proofs.lemmas.Result.{err_from_is_err_and}
use Rattle.row_keeper.specs.Kept.{Statement}
use Rattle.keeper_play.specs.Played.{drop_at}
use Rattle.keeper_play.proofs.StoreLemmas.{items-at, stopped-behind, stopped-one}
use Rattle.keeper_play.proofs.play.drop_listed.Goals as goal

pub returns-in_err-drop_row-clause-stopped : goal.returns-in_err-drop_row-clause-stopped
returns-in_err-drop_row-clause-stopped g c =
    let made = err_from_is_err_and c.from_residual.result c.from_residual.ensures.1 in
    let dropped : ℕ → Statement = drop_at c.args.rows.now c.args.table in
    let ordinals : List ℕ = c.args.ordinals.now in
    let i : ℕ = c.loop-j.j-index in
    rw made.1
    (stopped-behind (map dropped ordinals) (map dropped (take i ordinals)) (dropped (get_or ordinals i 0) ∷ []) (map dropped (drop (suc i) ordinals)) _ _ _
    (items-at dropped ordinals i 0 c.loop-j-test.true) c.loop-j.invariant.made
    (stopped-one (dropped (get_or ordinals i 0)) _ _ c.in_err-drop_row.ensures.unchanged))

pub returns-in_err-drop_row-clause-counts : goal.returns-in_err-drop_row-clause-counts
returns-in_err-drop_row-clause-counts g c =
    let made = err_from_is_err_and c.from_residual.result c.from_residual.ensures.1 in
    rw made.1 (record { unfailed = tt; failed = failed_then _ _ _ c.loop-j.invariant.unfailed (failed_by _ _ _ c.in_err-drop_row.ensures.counts) })
