use Rattle.std.proofs.Common.{length, ap, arith}
use Rattle.std.proofs.lemmas.List.FromFn.{length-map-range_with_len}
use Rattle.update_box.specs.UnitLists.{table_lists}
use Rattle.row_tests.proofs.update_tests.changes_as_told.Goals as goal

pub has_changes-requires : goal.has_changes-requires
has_changes-requires g c =
    let count = length-map-range_with_len (table_lists c.args.plan.now c.args.unit) 0 (length c.args.plan.now.schema.tables) in
    omega (arith, ap (λ rows. length rows.tables) c.in-Ok.ensures.lists, count, c.tables.ensures)
