use Rattle.std.proofs.Common.{sym, ap, ◌∙◌}
use Rattle.schema_plan.specs.Rules.{is_window}
use Rattle.schema_check.proofs.reference_rules.is_window.Goals as goal

pub returns-in-Ref : goal.returns-in-Ref
returns-in-Ref c = c.is_window_of.ensures c.in-Ref.spread c.in-Ref.on_delete c.in-Ref.deal ∙ ap (is_window c.args.candidate.now) (sym c.in-Ref.is)
