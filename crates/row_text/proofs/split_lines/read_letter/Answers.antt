use Rattle.std.proofs.Common.{◌≡◌, ◌≢◌, [], length, vec_len, ap, sym, ◌∙◌, arith, eq-eqb}
use Rattle.std.proofs.lemmas.Bool.{both_ways}
use Rattle.row_text.proofs.ReadLemmas.{letter-bad}
use Rattle.row_text.proofs.split_lines.read_letter.Goals as goal
use Rattle.row_text.proofs.split_lines.read_letter.Goals.{else-letter-eq78-via-then-letter-eq78+else-is_empty, else-letter-eq78-via-else-letter-eq78}

pub returns-in-None-clause-bad : goal.returns-in-None-clause-bad
returns-in-None-clause-bad c =
    let text = c.args.reader.now.text in
    let no_null : text.items ≡ [] → c.args.letter ≢ 78 = elim c.else-letter-eq78.branch [
      | else-letter-eq78-via-then-letter-eq78+else-is_empty w ↦ λ none _.
          let size : vec_len text ≡ 0 = omega (arith, ap length none, text.ok.0) in
          both_ways _ (sym w.is_empty.ensures ∙ w.if-is_empty.false) (eq-eqb (vec_len text) 0 size)
      | else-letter-eq78-via-else-letter-eq78 w ↦ λ _. w.if-letter-eq78.false
    ] in
    letter-bad c.args.delimiter c.args.letter c.args.reader.now.fields text.items c.args.reader.now.place c.requires.place c.requires.delimiter
    c.in-None.ensures.none no_null
