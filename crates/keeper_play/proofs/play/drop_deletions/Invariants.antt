use Rattle.std.proofs.Common.{◌≡◌, ◌-◌, length, reverse}
use Rattle.std.specs.List.{flat_map, range_with_len}
use Rattle.life_intervals.specs.Generator.{generator_of}
use Rattle.pd_outside.specs.Faults.{Unfailed}
use Rattle.keeper_play.specs.Statements.{deletions}
use Rattle.row_keeper.specs.Store.{perform_all}
use Rattle.keeper_play.proofs.play.drop_deletions.Given as goal

-- those of the last tables are made
abbrev pub invariant-loop-behind : goal.invariant-loop-behind
invariant-loop-behind g l = record {
  made : g.K.Keeper.store l.keeper
      ≡ perform_all (flat_map (deletions (generator_of l.rows) l.unit) (reverse (range_with_len (length l.rows.schema.tables - l.behind) l.behind))) (g.K.Keeper.store l.fn.keeper);
  unfailed : Unfailed (g.K.Keeper.counts l.fn.keeper) (g.K.Keeper.counts l.keeper);
}
