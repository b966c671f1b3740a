use Rattle.std.proofs.Common.{refl}
use Rattle.row_text.specs.Fields.{escaped}
use Rattle.std.specs.Fmt.{digits}
use Rattle.cohort_sizes.specs.Births.{birth}
use Rattle.life_intervals.specs.Keys.{key_of}
use Rattle.life_intervals.specs.Simulation.{simulation, rows_at}
use Rattle.row_lines.specs.Lines.{line, table_text}
use Rattle.row_lines.proofs.laws.worked_texts.Goals as goal

pub returns : goal.returns
unfolding simulation rows_at birth key_of line table_text digits escaped
returns c = record { row_at_each_unit = refl; scrambled = refl; empty = refl; at_unit_0_alone = refl; past_the_tables = refl; before_a_loss = refl; after_a_loss = refl; birth_of_a_city = refl; label_of_a_city = refl; null_beside_a_city = refl; templates = refl }
