use Rattle.std.proofs.Common.{Bool, ap, sym, ◌∙◌, ◌||◌}
use Rattle.stream_apply.specs.KeyedLines.{has_key}
use Rattle.undo_streams.proofs.WeaverLemmas.{holds-key}
use Rattle.undo_streams.proofs.weaver.Weaver.holds.Goals as goal

pub returns-then-has : goal.returns-then-has
returns-then-has c =
    let w = c.args.self.now in
    let key = c.args.key.now in
    c.if-has.true
    ∙ ap (λ (b : Bool). b || has_key w.woven key) (sym c.if-has.true ∙ c.has.ensures)
    ∙ holds-key w key c.requires.sound c.requires.free

pub returns-else-has : goal.returns-else-has
returns-else-has c =
    let w = c.args.self.now in
    let key = c.args.key.now in
    c.has-else-has.ensures
    ∙ ap (λ (b : Bool). b || has_key w.woven key) (sym c.if-has.false ∙ c.has.ensures)
    ∙ holds-key w key c.requires.sound c.requires.free
