use Rattle.std.proofs.Common.{ap, length, string_bytes, arith}
use Rattle.dictionaries.proofs.PieceLemmas.{length-pieces_from}
use Rattle.dictionaries.proofs.entries.Entries.len.Goals as goal

pub returns : goal.returns
returns c =
    let fields = c.self.inside in
    omega (arith, length-pieces_from 0 (string_bytes fields.text) fields.ends.items, ap length c.self.view_is)
