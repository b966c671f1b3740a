use Rattle.std.proofs.Common.{length, ap, arith}
use Rattle.row_text.proofs.WrittenLemmas.{length-texts_in}
use Rattle.row_text.proofs.written_texts.WrittenTexts.len.Goals as goal

pub returns : goal.returns
returns c = omega (arith, length-texts_in c.self.inside.bytes.items c.self.inside.ends.items, ap length c.self.view_is)
