use Rattle.std.proofs.Common.{List, ap, ◌∙◌}
use Rattle.stream_apply.specs.KeyedLines.{KeyedLine, has_key}
use Rattle.stream_apply.proofs.TableLemmas.{has_key-lookup}
use Rattle.stream_apply.proofs.key_table.KeyTable.has.Goals as goal

pub returns : goal.returns
returns c =
    c.contains_key.ensures
    ∙ has_key-lookup c.args.key.now c.self.inside.lines.entries
    ∙ ap (λ (lines : List KeyedLine). has_key lines c.args.key.now) c.self.view_is
