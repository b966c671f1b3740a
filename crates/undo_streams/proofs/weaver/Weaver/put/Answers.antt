use Rattle.std.proofs.Common.{ap, ◌∙◌}
use Rattle.stream_apply.specs.KeyedLines.{KeyedLine, keyed}
use Rattle.undo_streams.specs.Weaving.{undoing_of}
use Rattle.undo_streams.specs.declared.weaver.Weaver.{Weaver}
use Rattle.undo_streams.proofs.WeaverLemmas.{on_ok, undoing-dropped}
use Rattle.undo_streams.proofs.weaver.Weaver.put.Goals as goal

pub returns-in-Drops-clause-put : goal.returns-in-Drops-clause-put
returns-in-Drops-clause-put c =
    let w : Weaver = c.args.self.now in
    let line : KeyedLine = keyed c.args.line.key.now c.args.line.text.now in
    on_ok c.tell.result _ _ c.tell.ensures
    (λ is. ap undoing_of is ∙ undoing-dropped w line c.args.line.place c.args.line.part c.requires.part c.in-Drops.is c.requires.sound)
