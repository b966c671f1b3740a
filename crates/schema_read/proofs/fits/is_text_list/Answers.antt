use Rattle.std.proofs.Common.{sym, ◌∙◌}
use Rattle.toml.specs.Data.{as_str}
use Rattle.schema_read.proofs.Documents.{are_all_read}
use Rattle.schema_read.proofs.fits.is_text_list.Goals as goal

pub returns-in-Some : goal.returns-in-Some
returns-in-Some c = c.are_texts.ensures ∙ sym (are_all_read as_str c.in-Some.items.now _ c.in-Some.ensures)
