use Rattle.std.proofs.Common.{List, ℕ, Some, [], ◌∷◌, ◌++◌, ap, ◌∙◌}
use Rattle.row_text.specs.declared.split_lines.Reader.{Reader}
use Rattle.row_text.proofs.ReadLemmas.{backslash-bad, text-ends, null-ends}
use Rattle.row_text.proofs.split_lines.finish.Goals as goal
use Rattle.row_text.proofs.split_lines.finish.Goals.{in-Text+in_ok-push_text-in-Text, in-Null+in_ok-push_null-in-Null}

pub returns-in-Backslash-clause-bad : goal.returns-in-Backslash-clause-bad
returns-in-Backslash-clause-bad c =
    backslash-bad c.args.delimiter c.args.reader.fields c.args.reader.text.items c.args.reader.place c.args.line.now c.in-Backslash.is c.requires.delimiter c.requires.whole

pub returns-clause-read : goal.returns-clause-read
returns-clause-read c =
    elim c.match-reader.branch [
      | in-Text+in_ok-push_text-in-Text w ↦
          text-ends c.args.delimiter c.args.reader.fields c.match-reader.reader.fields c.args.reader.text.items c.args.reader.place c.args.line.now w.in-Text.is c.requires.whole
          (ap (λ (r : Reader). r.fields) w.reader-is
          ∙ w.in_ok-push_text-in-Text.ensures
          ∙ ap (λ (t : List ℕ). c.args.reader.fields ++ Some t ∷ []) w.deref.ensures.value)
      | in-Null+in_ok-push_null-in-Null w ↦
          null-ends c.args.delimiter c.args.reader.fields c.match-reader.reader.fields c.args.reader.text.items c.args.reader.place c.args.line.now w.in-Null.is c.requires.whole
          (ap (λ (r : Reader). r.fields) w.reader-is ∙ w.in_ok-push_null-in-Null.ensures)
    ]
