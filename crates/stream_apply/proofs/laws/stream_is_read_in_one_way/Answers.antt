use Rattle.std.proofs.Common.{sym, ◌∙◌}
use Rattle.stream_apply.proofs.OutcomeLemmas.{one-way}
use Rattle.stream_apply.proofs.laws.stream_is_read_in_one_way.Goals as goal

pub returns : goal.returns
returns c = λ keys delimiter kind table bytes lines others delimits stream other.
    one-way keys delimiter delimits kind lines others stream.keyed other.keyed (sym stream.text ∙ other.text)
