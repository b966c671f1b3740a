use Rattle.sql_lines.proofs.EffectLemmas.{snapshot-gives, snapshot-safe}
use Rattle.sql_lines.proofs.laws.snapshot_scripts_give_the_rows.Goals as goal

pub returns : goal.returns
returns c = record { none_dangles = snapshot-safe; rows = snapshot-gives }
