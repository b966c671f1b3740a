use Rattle.sql_lines.proofs.ScriptLemmas.{parts-text}
use Rattle.sql_lines.proofs.laws.scripts_are_their_parts.Goals as goal

pub returns : goal.returns
returns c = parts-text
