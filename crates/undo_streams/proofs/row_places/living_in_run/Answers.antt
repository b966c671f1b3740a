use Rattle.std.proofs.Common.{◌≡◌, ◌≤◌, ℕ, length, take, length-take, ap, arith, rules, sym, ◌∙◌}
use Rattle.std.specs.List.{range_with_len}
use Rattle.undo_streams.proofs.PlaceLemmas.{count_by-map, run-born}
use Rattle.undo_streams.proofs.row_places.living_in_run.Goals as goal

pub put_run_lives-by-requires-clause-run : goal.put_run_lives-by-requires-clause-run
put_run_lives-by-requires-clause-run g c =
    run-born c.args.rows.now c.args.table c.args.t c.args.born c.args.first c.args.count c.put_range.new.list c.put_unit.new.list c.requires.born c.requires.rows
    (omega (arith, c.put_range.auto.list, length-take c.args.count c.args.lives.now.ordinals))
    (c.put_range.ensures ∙ ap (range_with_len c.args.first) (sym c.put_range.auto.list))
    (search rules)
    (λ i below. c.put_unit.ensures i (omega (arith, below, c.put_unit.auto.list)))
