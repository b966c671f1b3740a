use Rattle.std.proofs.Common.{◌++◌, List, ℕ, ap, arith, length, ◌∙◌}
use Rattle.row_lines.proofs.StillRowLemmas.{asked_here, size_here, text_here}
use Rattle.row_lines.proofs.still_row.StillRow.put.Goals as goal

pub put-requires-clause-room : goal.put-requires-clause-room
put-requires-clause-room g c =
    omega (arith, c.requires.room, size_here c.self.inside.fields c.self.inside.values c.self.inside.index c.args.self.now c.self.view_is c.self.invariant c.args.column c.requires.column)

pub returns-clause-text : goal.returns-clause-text
returns-clause-text g c =
    c.put.ensures.text
    ∙ ap (λ (text : List ℕ). record { text = c.args.buf.now.text ++ text; room = c.args.buf.now.room })
    (text_here c.self.inside.fields c.self.inside.values c.self.inside.index c.args.self.now c.self.view_is c.self.invariant c.args.column c.requires.column c.self.inside.values.changed)

pub returns-clause-size : goal.returns-clause-size
returns-clause-size g c =
    omega (
      arith,
      c.put.ensures.size,
      size_here c.self.inside.fields c.self.inside.values c.self.inside.index c.args.self.now c.self.view_is c.self.invariant c.args.column c.requires.column,
      ap (λ (text : List ℕ). length text)
          (text_here c.self.inside.fields c.self.inside.values c.self.inside.index c.args.self.now c.self.view_is c.self.invariant c.args.column c.requires.column c.self.inside.values.changed),
    )

pub returns-clause-steps : goal.returns-clause-steps
returns-clause-steps g c =
    omega (arith, c.put.ensures.steps, asked_here c.self.inside.fields c.self.inside.values c.self.inside.index c.args.self.now c.self.view_is c.self.invariant c.args.column c.requires.column)
