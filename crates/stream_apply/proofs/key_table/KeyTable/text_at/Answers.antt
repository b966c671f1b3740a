use Rattle.std.proofs.Common.{◌≡◌, List, IfSome, slice_get, subst}
use Rattle.stream_apply.specs.KeyedLines.{KeyedLine}
use Rattle.stream_apply.proofs.TableLemmas.{text_at-lines_of}
use Rattle.stream_apply.proofs.key_table.KeyTable.text_at.Goals as goal

pub returns : goal.returns
returns c =
    subst (λ (lines : List KeyedLine). IfSome (slice_get lines c.args.index) (λ line. line.text ≡ c.index.result.now.now)) c.self.view_is
    (text_at-lines_of c.self.inside.lines.entries c.args.index c.index.result.now c.index.ensures)
