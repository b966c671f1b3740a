use Rattle.std.proofs.Common.{◌≡◌, map, take}
use Rattle.pd_outside.specs.Faults.{Unfailed}
use Rattle.keeper_play.specs.Played.{put_at}
use Rattle.row_keeper.specs.Store.{perform_all}
use Rattle.keeper_play.proofs.play.put_listed.Given as goal

-- the rows so far are put
abbrev pub invariant-loop-j : goal.invariant-loop-j
invariant-loop-j g l = record {
  made : g.K.Keeper.store l.keeper ≡ perform_all (map (put_at l.rows l.unit l.table) (take l.j-index l.ordinals)) (g.K.Keeper.store l.fn.keeper);
  unfailed : Unfailed (g.K.Keeper.counts l.fn.keeper) (g.K.Keeper.counts l.keeper);
  page : l.buf ≡ l.fn.buf;
}
