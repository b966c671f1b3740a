use Rattle.row_text.proofs.ReadLemmas.{null-bad}
use Rattle.row_text.proofs.split_lines.read_behind_null.Goals as goal

pub returns-then-byte-delimiter-clause-bad : goal.returns-then-byte-delimiter-clause-bad
returns-then-byte-delimiter-clause-bad c =
    null-bad c.args.delimiter c.args.byte c.args.reader.now.fields c.args.reader.now.text.items c.args.reader.now.place c.requires.place c.requires.delimiter c.if-byte-delimiter.true
