use Rattle.std.proofs.Common.{List, ap, ◌∙◌}
use Rattle.stream_apply.specs.KeyedLines.{KeyedLine, keyed, lines_of, put}
use Rattle.stream_apply.proofs.TableLemmas.{lines_of-insert_entry}
use Rattle.stream_apply.proofs.key_table.KeyTable.put.Goals as goal

pub returns : goal.returns
returns c =
    ap lines_of c.in_ok-insert.ensures.entries
    ∙ lines_of-insert_entry c.args.key c.args.text c.self.inside.lines.entries
    ∙ ap (λ (lines : List KeyedLine). put lines (keyed c.args.key.now c.args.text.now)) c.self.view_is
