use Rattle.std.proofs.Common.{sym, ap, ◌∙◌}
use Rattle.schema_facts.specs.Capped.{first_facts}
use Rattle.schema_facts.specs.Dictionaries.{project_of}
use Rattle.schema_plan.proofs.PlannedLemmas.{facts_whole}
use Rattle.schema_plan.proofs.plan.Plan.facts.Goals as goal

pub returns : goal.returns
returns c =
    c.as_slice.ensures.value
    ∙ c.self.invariant.facts
    ∙ sym (facts_whole (project_of c.self.inside.schema c.self.inside.dictionaries) c.self.invariant.limits)
    ∙ ap first_facts c.self.view_is
