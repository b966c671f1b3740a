use Rattle.std.proofs.Common.{refl}
use Rattle.row_text.specs.Fields.{escaped}
use Rattle.std.specs.Fmt.{digits}
use Rattle.weight_tables.specs.Weights.{selected}
use Rattle.cohort_sizes.specs.Births.{birth}
use Rattle.life_intervals.specs.Keys.{key_of}
use Rattle.life_intervals.specs.Simulation.{simulation, rows_at}
use Rattle.life_intervals.specs.Streams.{deleted, inserted, updated}
use Rattle.row_lines.specs.Lines.{line}
use Rattle.undo_streams.specs.UndoText.{place_of, undo_lines, updated_before}
use Rattle.undo_streams.proofs.text_laws.worked_undo_texts.Goals as goal

pub returns : goal.returns
unfolding simulation rows_at birth key_of line digits escaped deleted inserted updated place_of undo_lines updated_before selected
returns c = record { customers = refl; orders = refl; lines = refl; owners = refl; notes = refl; lodgers = refl; first_lodgers = refl; unit_0 = refl }
