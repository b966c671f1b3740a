use Rattle.std.proofs.Common.{ap, length, refl, ◌∙◌}
use Rattle.stream_apply.specs.KeyedLines.{KeyedLine}
use Rattle.stream_apply.specs.Streams.{without}
use Rattle.undo_streams.specs.Reverting.{begun}
use Rattle.undo_streams.proofs.WeaverLemmas.{undoing-same, without-none}
use Rattle.undo_streams.proofs.weaver.Weaver.new.Goals as goal

pub returns-clause-begun : goal.returns-clause-begun
returns-clause-begun c =
    undoing-same _ (begun c.args.table) (ap (without c.args.table) c.new.ensures ∙ without-none c.args.table) c.new.ensures refl (ap (length {A = KeyedLine}) c.new-2.ensures)
