use Rattle.row_text.proofs.EscapeLemmas.{is_special-false, is_special-true}
use Rattle.row_text.proofs.escapes.is_escaped.Goals as goal

pub returns : goal.returns
returns c = record {
  itself = is_special-false c.args.delimiter c.args.byte;
  escape = is_special-true c.args.delimiter c.args.byte;
}
