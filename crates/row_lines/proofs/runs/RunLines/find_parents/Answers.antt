use Rattle.std.proofs.Common.{◌∙◌, sym}
use Rattle.row_lines.proofs.RunParentLemmas.{by_column}
use Rattle.row_lines.proofs.runs.RunLines.find_parents.Goals as goal

pub returns-else-not-is_by-clause-found : goal.returns-else-not-is_by-clause-found
returns-else-not-is_by-clause-found g c =
    c.requires.known.are c.args.column c.args.reference.now (by_column c.args.parents.now c.args.column (sym c.is_by.ensures ∙ c.if-not-is_by.false)) c.requires.reference
