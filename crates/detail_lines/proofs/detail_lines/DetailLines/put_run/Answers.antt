use Rattle.std.proofs.Common.{◌++◌, ◌<◌, ◌+◌, ◌*◌, ℕ, List, arith, ap, length, ◌∙◌}
use Rattle.detail_lines.specs.LineRuns.{AreFields}
use Rattle.detail_lines.specs.Made.{own_over}
use Rattle.detail_lines.proofs.LineListLemmas.{pieces-lines, run-length}
use Rattle.detail_lines.proofs.detail_lines.DetailLines.put_run.Goals as goal

pub put_rows-requires-clause-room : goal.put_rows-requires-clause-room
put_rows-requires-clause-room c =
    let fields : (column : ℕ) → column < own_over c.args.self.now → AreFields c.args.self.now c.args.at.now.unit c.args.count c.args.run.now c.put_columns.new.pieces ((column + 2) * c.args.count) column = (λ column within. c.put_columns.ensures.fields column within (c.are_all.ensures c.if-are_all.true column (omega (arith, within, c.put_columns.ensures.flags)))) in
    let is = pieces-lines c.args.self.now c.args.at.now.unit c.args.count _ c.args.run.now c.put_columns.new.pieces c.requires.at.unit c.declared-limits.ensures.limits.some_column (ap (λ (n : ℕ). n + 2) c.columns-then-are_all.ensures.many)
    (λ k inside. omega (arith, c.put_heads.ensures.keys c.if-not-put_heads.false k inside)) c.requires.lines (c.put_columns.ensures.heads (c.put_heads.ensures.heads c.if-not-put_heads.false)) fields in
    omega (
      arith,
      c.requires.room,
      ap (λ (text : List ℕ). length text) is,
      run-length c.args.self.now c.args.at.now.unit c.args.count c.args.run.now c.put_columns.new.pieces c.declared-limits.ensures.keeps c.declared-limits.ensures.limits c.requires.at.unit (λ k inside. omega (arith, c.put_heads.ensures.keys c.if-not-put_heads.false k inside)) c.requires.lines fields c.args.count (omega arith),
    )

pub returns-then-are_all-clause-size : goal.returns-then-are_all-clause-size
returns-then-are_all-clause-size c = λ put.
    run-length c.args.self.now c.args.at.now.unit c.args.count c.args.run.now c.put_columns.new.pieces c.declared-limits.ensures.keeps c.declared-limits.ensures.limits c.requires.at.unit (λ k inside. omega (arith, c.put_heads.ensures.keys c.if-not-put_heads.false k inside)) c.requires.lines
    (λ column within. c.put_columns.ensures.fields column within (c.are_all.ensures c.if-are_all.true column (omega (arith, within, c.put_columns.ensures.flags)))) c.args.count (omega arith)

pub returns-then-are_all-clause-put : goal.returns-then-are_all-clause-put
returns-then-are_all-clause-put c = λ put.
    let is = pieces-lines c.args.self.now c.args.at.now.unit c.args.count _ c.args.run.now c.put_columns.new.pieces c.requires.at.unit c.declared-limits.ensures.limits.some_column (ap (λ (n : ℕ). n + 2) c.columns-then-are_all.ensures.many)
    (λ k inside. omega (arith, c.put_heads.ensures.keys c.if-not-put_heads.false k inside)) c.requires.lines (c.put_columns.ensures.heads (c.put_heads.ensures.heads c.if-not-put_heads.false)) (λ column within. c.put_columns.ensures.fields column within (c.are_all.ensures c.if-are_all.true column (omega (arith, within, c.put_columns.ensures.flags)))) in
    c.put_rows.ensures ∙ ap (λ (text : List ℕ). record { text = c.args.page.now.text ++ text; room = c.args.page.now.room }) is

pub put_mixed_lines-requires-clause-drawn : goal.put_mixed_lines-requires-clause-drawn
put_mixed_lines-requires-clause-drawn c = c.can_be_mixed.ensures c.if-not-can_be_mixed.false
