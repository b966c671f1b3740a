use Rattle.std.proofs.Common.{◌≡◌, ◌+◌, ◌-◌, ◌++◌, ◌∷◌, [], false, ℕ, length, arith, ap, refl, sym, subst, ◌∙◌}
use Rattle.stream_apply.specs.KeyedLines.{KeyedLine, has_key, keyed}
use Rattle.undo_streams.specs.Reverting.{Undoing}
use Rattle.undo_streams.specs.Weaving.{IsWoven, undoing_of}
use Rattle.undo_streams.specs.declared.weaver.Weaver.{Weaver}
use Rattle.undo_streams.proofs.WeaverLemmas.{undoing-added, woven-added}
use Rattle.undo_streams.proofs.weaver.Weaver.add.Goals as goal

pub returns-clause-sound : goal.returns-clause-sound
returns-clause-sound c =
    let w : Weaver = c.weave.new.self in
    let line : KeyedLine = keyed c.args.line.key.now c.args.line.text.now in
    let made = c.in_ok-weave.ensures in
    let free : has_key (undoing_of w).lines line.key ≡ false = ap (λ (u : Undoing). has_key u.lines line.key) made.woven ∙ c.requires.held in
    subst IsWoven (sym c.in_ok-tell.ensures)
    (woven-added w c.put.new.self (w.told ++ line ∷ []) line made.sound (ap (λ (u : Undoing). u.part) made.woven ∙ c.requires.part) free c.in_ok-put.ensures)

pub returns-clause-added : goal.returns-clause-added
returns-clause-added c =
    let old : Weaver = c.args.self.now in
    let w : Weaver = c.weave.new.self in
    let line : KeyedLine = keyed c.args.line.key.now c.args.line.text.now in
    let made = c.in_ok-weave.ensures in
    let place : length old.woven + (c.args.line.place - c.len.result) ≡ c.args.line.place = omega (arith, c.len.ensures.number, c.requires.from) in
    ap undoing_of c.in_ok-tell.ensures
    ∙ undoing-added old w c.put.new.self (w.told ++ line ∷ []) line c.args.line.place c.requires.part c.requires.held
    (made.woven ∙ ap (λ (n : ℕ). record (undoing_of old) { least = n }) place) c.in_ok-put.ensures refl
