use Rattle.std.proofs.Common.{sym, ◌∙◌}
use Rattle.toml.specs.Data.{as_integer}
use Rattle.schema_read.proofs.Documents.{are_all_read}
use Rattle.schema_read.proofs.fits.is_whole_list.Goals as goal

pub returns-in-Some : goal.returns-in-Some
returns-in-Some c = c.are_wholes.ensures ∙ sym (are_all_read as_integer c.in-Some.items.now _ c.in-Some.ensures)
