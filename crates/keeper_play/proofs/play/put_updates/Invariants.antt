use Rattle.std.proofs.Common.{◌≡◌}
use Rattle.std.specs.List.{flat_map, range_with_len}
use Rattle.life_intervals.specs.Generator.{generator_of}
use Rattle.pd_outside.specs.Faults.{Unfailed}
use Rattle.keeper_play.specs.Statements.{updates}
use Rattle.row_keeper.specs.Store.{perform_all}
use Rattle.keeper_play.proofs.play.put_updates.Given as goal

-- those of the tables before one are made
abbrev pub invariant-loop-table : goal.invariant-loop-table
invariant-loop-table g l = record {
  made : g.K.Keeper.store l.keeper ≡ perform_all (flat_map (updates (generator_of l.rows) l.unit) (range_with_len 0 l.table)) (g.K.Keeper.store l.fn.keeper);
  unfailed : Unfailed (g.K.Keeper.counts l.fn.keeper) (g.K.Keeper.counts l.keeper);
  page : l.buf ≡ l.fn.buf;
}
