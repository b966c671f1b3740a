use Rattle.std.proofs.Common.{refl, ◌∙◌}
use Rattle.schema_read.proofs.Documents.{document-text, document-no_text}
use Rattle.detail_plan.proofs.read.parse.Goals as goal

pub returns-in-Err-clause-refused : goal.returns-in-Err-clause-refused
returns-in-Err-clause-refused c _ = (refl, document-no_text c.args.bytes.now c.in-Err.ensures.cases.0)

pub returns-in-Ok-table_from_str-clause-read : goal.returns-in-Ok-table_from_str-clause-read
returns-in-Ok-table_from_str-clause-read c =
    document-text c.args.bytes.now c.in-Ok.ensures.cases.1 ∙ rw (← c.in-Ok.ensures.cases.0) c.in-Ok-table_from_str.ensures.ok
