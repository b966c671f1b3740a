use Rattle.std.proofs.Common.{Some, ap, ◌∙◌}
use Rattle.std.specs.HashMap.{get}
use Rattle.row_keeper.specs.Kept.{KeptRow, KeptRows, with_row}
use Rattle.row_keeper.specs.MapKeeper.{keeping_of, same_key}
use Rattle.row_keeper.proofs.MapLemmas.{rows-updated}
use Rattle.row_keeper.proofs.map_keeper.MapKeeper.insert.Goals as goal

pub returns-clause-ok : goal.returns-clause-ok
returns-clause-ok c =
    ap (λ (rows : KeptRows). record (keeping_of c.args.self.now) { rows = rows })
    (rows-updated (get same_key c.insert.new.self) (get same_key c.args.self.now.rows) c.args.table c.args.key (Some c.in_ok-kept.kept) c.in_ok-insert.ensures.updates.0
    ∙ ap (λ (row : KeptRow). with_row c.args.table c.args.key (Some row) (keeping_of c.args.self.now).rows) c.in_ok-kept.ensures)
