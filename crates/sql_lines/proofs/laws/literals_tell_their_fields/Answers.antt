use Rattle.sql_lines.proofs.LiteralLemmas.{column-tells, quoted-tells}
use Rattle.sql_lines.proofs.laws.literals_tell_their_fields.Goals as goal

pub returns : goal.returns
returns c = record { quoted = quoted-tells; column = column-tells }
