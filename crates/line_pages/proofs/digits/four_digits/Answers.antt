use Rattle.line_pages.proofs.LastDigits.{four_bytes}
use Rattle.line_pages.proofs.digits.four_digits.Goals as goal

pub returns : goal.returns
returns c = four_bytes c.args.number c.requires
