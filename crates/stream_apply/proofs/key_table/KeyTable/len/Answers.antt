use Rattle.std.proofs.Common.{List, subst, map}
use Rattle.std.specs.List.{IsDistinct}
use Rattle.std.specs.Str.{bytes_eq}
use Rattle.stream_apply.specs.KeyedLines.{KeyedLine}
use Rattle.stream_apply.proofs.DistinctLemmas.{lines_of-distinct}
use Rattle.stream_apply.proofs.key_table.KeyTable.len.Goals as goal

pub returns-clause-apart : goal.returns-clause-apart
returns-clause-apart c =
    subst (λ (lines : List KeyedLine). IsDistinct bytes_eq (map (λ (line : KeyedLine). line.key) lines)) c.self.view_is
    (lines_of-distinct c.self.inside.lines.entries c.len.ensures.unique)
