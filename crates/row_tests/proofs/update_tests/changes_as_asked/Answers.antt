use Rattle.std.proofs.Common.{length, ap, arith}
use Rattle.std.proofs.lemmas.List.FromFn.{length-map-range_with_len}
use Rattle.update_box.specs.UnitLists.{table_lists}
use Rattle.row_tests.proofs.update_tests.changes_as_asked.Goals as goal

pub are_as_asked-requires-clause-table : goal.are_as_asked-requires-clause-table
are_as_asked-requires-clause-table g c =
    let count = length-map-range_with_len (table_lists c.args.plan.now 12) 0 (length c.args.plan.now.schema.tables) in
    omega (arith, ap (λ rows. length rows.tables) c.in_ok-rows.ensures.lists, count, c.tables-table-end.ensures, c.loop-table-test.true)
