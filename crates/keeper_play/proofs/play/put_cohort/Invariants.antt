use Rattle.std.proofs.Common.{◌≡◌, map}
use Rattle.std.specs.List.{range_with_len}
use Rattle.pd_outside.specs.Faults.{Unfailed}
use Rattle.keeper_play.specs.Played.{put_at}
use Rattle.row_keeper.specs.Store.{perform_all}
use Rattle.keeper_play.proofs.play.put_cohort.Given as goal

-- the first rows of the cohort are put
abbrev pub invariant-loop-index : goal.invariant-loop-index
invariant-loop-index g l = record {
  made : g.K.Keeper.store l.keeper ≡ perform_all (map (put_at l.rows l.unit l.table) (range_with_len l.cohort.first l.index)) (g.K.Keeper.store l.fn.keeper);
  unfailed : Unfailed (g.K.Keeper.counts l.fn.keeper) (g.K.Keeper.counts l.keeper);
  page : l.buf ≡ l.fn.buf;
}
