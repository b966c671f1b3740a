use Rattle.std.proofs.Common.{◌≡◌, ◌+◌, ℕ, length, arith, ap, refl, ◌∙◌}
use Rattle.stream_apply.specs.KeyedLines.{KeyedLine}
use Rattle.undo_streams.specs.Reverting.{Undoing}
use Rattle.undo_streams.specs.Weaving.{undoing_of}
use Rattle.undo_streams.proofs.WeaverLemmas.{undoing-same}
use Rattle.undo_streams.proofs.weaver.Weaver.weave.Goals as goal

pub loop-index-init : goal.loop-index-init
loop-index-init c =
    let w = c.args.self.now in
    record { sound = c.requires.sound; undoing = undoing-same (undoing_of w) (record (undoing_of w) { least = length w.woven + 0 }) refl refl refl (omega arith); next = omega arith; table = refl }

pub weave_one-requires-clause-sound : goal.weave_one-requires-clause-sound
weave_one-requires-clause-sound c = c.loop-index.invariant.sound

pub weave_one-requires-clause-part : goal.weave_one-requires-clause-part
weave_one-requires-clause-part c = ap (λ (u : Undoing). u.part) c.loop-index.invariant.undoing ∙ c.requires.part

pub weave_one-requires-clause-more : goal.weave_one-requires-clause-more
weave_one-requires-clause-more c =
    omega (arith, c.loop-index.invariant.next, ap (length {A = KeyedLine}) c.loop-index.invariant.table, c.requires.within, c.loop-index-test.true)

pub loop-index-preserved : goal.loop-index-preserved
loop-index-preserved c =
    let before = c.loop-index.invariant in
    let after = c.in_ok-weave_one.ensures in
    let first = c.args.self.now in
    let least : length c.loop-index.self.woven ≡ length first.woven + c.loop-index._index = ap (λ (u : Undoing). u.least) before.undoing in
    let step : length c.loop-index.self.woven + 1 ≡ length first.woven + (c.loop-index._index + 1) = omega (arith, least) in
    record {
      sound = after.sound;
      undoing = after.woven
          ∙ ap (λ (u : Undoing). record u { least = length c.loop-index.self.woven + 1 }) before.undoing
          ∙ ap (λ (n : ℕ). record (undoing_of first) { least = n }) step;
      next = omega (arith, after.next, before.next);
      table = after.table ∙ before.table;
    }

pub returns-clause-sound : goal.returns-clause-sound
returns-clause-sound c = c.loop-index.invariant.sound

pub returns-clause-woven : goal.returns-clause-woven
returns-clause-woven c =
    let all : c.loop-index._index ≡ c.args.count = omega arith in
    c.loop-index.invariant.undoing ∙ ap (λ (n : ℕ). record (undoing_of c.args.self.now) { least = length c.args.self.now.woven + n }) all
