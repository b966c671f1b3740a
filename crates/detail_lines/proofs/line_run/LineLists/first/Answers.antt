use Rattle.std.proofs.Common.{refl}
use Rattle.detail_lines.proofs.LineListLemmas.{lines-first, text-first}
use Rattle.detail_lines.proofs.line_run.LineLists.first.Goals as goal

pub returns-clause-lines : goal.returns-clause-lines
returns-clause-lines c = λ over unit listed among. lines-first over unit c.args.many c.args.self.now _ listed among refl refl refl refl refl refl refl

pub returns-clause-text : goal.returns-clause-text
returns-clause-text c = λ over unit. text-first over unit c.args.many c.args.self.now _ _ refl refl
