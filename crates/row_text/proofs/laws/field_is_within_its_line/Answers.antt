use Rattle.row_text.proofs.LawLemmas.{field_text-line_feed, field_text-tab}
use Rattle.row_text.proofs.laws.field_is_within_its_line.Goals as goal

pub returns : goal.returns
returns c = record { line_feed = field_text-line_feed; tab = field_text-tab }
