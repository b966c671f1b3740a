use Rattle.std.proofs.Common.{sym, ◌∙◌}
use Rattle.schema_read.specs.Types.{as_phase}
use Rattle.schema_read.proofs.Documents.{are_all_read}
use Rattle.schema_read.proofs.fits.is_phase_list.Goals as goal

pub returns-in-Some : goal.returns-in-Some
returns-in-Some c = c.are_phases.ensures ∙ sym (are_all_read as_phase c.in-Some.items.now _ c.in-Some.ensures)
