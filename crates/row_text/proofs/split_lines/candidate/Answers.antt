use Rattle.std.proofs.Common.{rules, ap, ◌∙◌}
use Rattle.row_text.proofs.EscapeLemmas.{byte_of}
use Rattle.row_text.proofs.ReadLemmas.{written_as, byte_of-itself}
use Rattle.row_text.proofs.split_lines.candidate.Goals as goal

pub returns-in-98 : goal.returns-in-98
returns-in-98 c = λ delimiter byte is. written_as delimiter byte c.args.letter is ∙ ap byte_of c.in-98.is

pub returns-in-116 : goal.returns-in-116
returns-in-116 c = λ delimiter byte is. written_as delimiter byte c.args.letter is ∙ ap byte_of c.in-116.is

pub returns-in-110 : goal.returns-in-110
returns-in-110 c = λ delimiter byte is. written_as delimiter byte c.args.letter is ∙ ap byte_of c.in-110.is

pub returns-in-118 : goal.returns-in-118
returns-in-118 c = λ delimiter byte is. written_as delimiter byte c.args.letter is ∙ ap byte_of c.in-118.is

pub returns-in-102 : goal.returns-in-102
returns-in-102 c = λ delimiter byte is. written_as delimiter byte c.args.letter is ∙ ap byte_of c.in-102.is

pub returns-in-114 : goal.returns-in-114
returns-in-114 c = λ delimiter byte is. written_as delimiter byte c.args.letter is ∙ ap byte_of c.in-114.is

pub returns-in_default : goal.returns-in_default
returns-in_default c = λ delimiter byte is. written_as delimiter byte c.args.letter is
    ∙ byte_of-itself c.args.letter (search rules) (search rules) (search rules) (search rules) (search rules) (search rules)
