use Rattle.std.proofs.Common.{◌≡◌, ◌≢◌, Option, Some, None, sym, ◌∙◌, refl}
use Rattle.schema_check.specs.declared.checker.CheckFault.{CheckFault}
use Rattle.schema_check.specs.declared.checker.CheckFault.TheVariants.{Rule, Memory}
use Rattle.std.specs.Option.{option_map}
use Rattle.schema_plan.specs.declared.broken.Broken.{Broken}
use Rattle.schema_facts.specs.Dictionaries.{Project, project_of}
use Rattle.schema_plan.specs.Rules.{first_broken}
use Rattle.schema_check.specs.Faults.{Tells, refusal_of, told}
use Rattle.schema_check.proofs.InLimits.{in_limits}
use Rattle.schema_check.proofs.checker.check.Goals as goal

-- a broken rule is told as the definition has it
tells_rule : (project : Project) (fault : CheckFault) → fault ≢ Memory → refusal_of project ≡ Some fault → Tells fault project
tells_rule project Memory other h = absurd (other refl)
tells_rule project (Rule number table column) other h = h

pub returns-in-Some-clause-refused : goal.returns-in-Some-clause-refused
returns-in-Some-clause-refused c =
    tells_rule (project_of c.args.schema c.args.dictionaries) c.in-Some.fault c.in-Some.ensures.rule (sym c.first_fault.ensures.first ∙ c.in-Some.is)

-- what isn't told isn't there
untold : (broken : Option Broken) → option_map told broken ≡ None → broken ≡ None
untold None h = refl
untold (Some broken) h = cc

pub of_accepted-requires-clause-limits : goal.of_accepted-requires-clause-limits
of_accepted-requires-clause-limits c =
    let project = project_of c.args.schema c.args.dictionaries in
    in_limits project c.len-lists.ensures.lists (untold (first_broken project) (sym c.first_fault.ensures.first ∙ c.in_default.is))
