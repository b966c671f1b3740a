use Rattle.std.proofs.Common.{◌++◌, sym, ◌∙◌}
use Rattle.schema_read.specs.Wanted.{is_wanted}
use Rattle.schema_read.proofs.Documents.{list_all-member_names}
use Rattle.schema_read.proofs.members.has_only.Goals as goal

pub returns : goal.returns
returns c = c.has_known_keys.ensures ∙ sym (list_all-member_names (is_wanted (c.args.common.now ++ c.args.own.now)) c.args.table.now.entries)
