-- What the refusal of a detail table says.
use Rattle.std.specs.Prelude.{◌≡◌, List, Some, ⊤}
use Rattle.schema_facts.specs.Dictionaries.{Dictionary, Project}
use Rattle.detail_plan.specs.declared.check.DetailFault.{DetailFault}
use Rattle.detail_plan.specs.declared.check.DetailFault.TheVariants.{Rule, Memory}
use Rattle.detail_plan.specs.declared.detail.Detail.{Detail}
use Rattle.detail_plan.specs.Rules.{first_broken}

-- a rule is told where it is the first that the detail table breaks. Want of memory may be told of any
abbrev pub Tells : DetailFault → Project → List Dictionary → Detail → Type 0
Tells (Rule number) plan lists detail = first_broken plan lists detail ≡ Some number
Tells Memory plan lists detail = ⊤
