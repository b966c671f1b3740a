use Rattle.std.proofs.Common.{None, ap}
use Rattle.std.specs.HashMap.{get}
use Rattle.row_keeper.specs.Kept.{KeptRows}
use Rattle.row_keeper.specs.MapKeeper.{keeping_of, same_key}
use Rattle.row_keeper.proofs.MapLemmas.{rows-updated}
use Rattle.row_keeper.proofs.map_keeper.MapKeeper.remove.Goals as goal

pub returns : goal.returns
returns c =
    ap (λ (rows : KeptRows). record (keeping_of c.args.self.now) { rows = rows })
    (rows-updated (get same_key c.remove.new.self) (get same_key c.args.self.now.rows) c.args.table c.args.key None c.remove.ensures.updates.0)
