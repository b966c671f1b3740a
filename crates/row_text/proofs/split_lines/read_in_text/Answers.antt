use Rattle.std.proofs.Common.{◌≡◌, ℕ, [], ◌∷◌, sym, ◌∙◌}
use Rattle.row_text.specs.Fields.{escaped}
use Rattle.row_text.proofs.ReadLemmas.{text-bad, some_of}
use Rattle.row_text.proofs.split_lines.read_in_text.Goals as goal

pub returns-then-is_some-clause-bad : goal.returns-then-is_some-clause-bad
returns-then-is_some-clause-bad c =
    let letter = some_of c.letter_of.result (λ (l : ℕ). escaped c.args.delimiter c.args.byte ≡ 92 ∷ l ∷ []) c.letter_of.ensures.escape (sym c.is_some.ensures ∙ c.if-is_some.true) in
    text-bad c.args.delimiter c.args.byte letter.0 c.args.reader.now.fields c.args.reader.now.text.items c.args.reader.now.place c.requires.place c.requires.delimiter letter.1
    c.if-byte-eq92.false c.if-byte-delimiter.false
