use Rattle.std.proofs.Common.{sym, ◌∙◌}
use Rattle.schema_read.specs.Types.{as_part}
use Rattle.schema_read.proofs.Documents.{are_all_read}
use Rattle.schema_read.proofs.fits.is_part_list.Goals as goal

pub returns-in-Some : goal.returns-in-Some
returns-in-Some c = c.are_parts.ensures ∙ sym (are_all_read as_part c.in-Some.items.now _ c.in-Some.ensures)
