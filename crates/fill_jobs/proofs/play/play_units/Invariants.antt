use Rattle.std.proofs.Common.{◌≡◌, ◌+◌}
use Rattle.std.specs.List.{flat_map, range_with_len}
use Rattle.pd_outside.specs.Faults.{Unfailed}
use Rattle.life_intervals.specs.Generator.{generator_of}
use Rattle.keeper_play.specs.Statements.{unit_statements}
use Rattle.row_keeper.specs.Store.{perform_all}
use Rattle.fill_jobs.proofs.play.play_units.Given as goal

-- the units so far are played
abbrev pub invariant-loop-before : goal.invariant-loop-before
invariant-loop-before g l = record {
  made : g.K.Keeper.store l.keeper ≡ perform_all (flat_map (unit_statements (generator_of l.rows)) (range_with_len 0 (l.before + 1))) (g.K.Keeper.store l.fn.keeper);
  unfailed : Unfailed (g.K.Keeper.counts l.fn.keeper) (g.K.Keeper.counts l.keeper);
  page : l.page ≡ l.fn.page;
}
