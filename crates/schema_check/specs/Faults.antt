-- What the refusal of a schema says.
use Rattle.std.specs.Prelude.{◌≡◌, [], Option, Some}
use Rattle.std.specs.Option.{option_map}
use Rattle.schema_model.specs.declared.table.Schema.{Schema}
use Rattle.schema_plan.specs.declared.broken.Broken.{Broken}
use Rattle.schema_check.specs.declared.checker.CheckFault.{CheckFault}
use Rattle.schema_plan.specs.declared.rules.Rule.TheVariants.{CitedNames}
use Rattle.schema_check.specs.declared.checker.CheckFault.TheVariants.{Rule, Memory}
use Rattle.schema_facts.specs.Dictionaries.{Project, project_of}
use Rattle.schema_plan.specs.Rules.{broken_rule, first_broken, rule_number, IsAccepted}
use Rattle.schema_plan.specs.Sites.{table_number, column_number}

-- a broken rule as it is told: its number and its place
abbrev pub told : Broken → CheckFault
told broken = Rule (rule_number broken.rule) (table_number broken.site) (column_number broken.site)

-- the refusal of a schema with its dictionaries, where it breaks a rule
abbrev pub refusal_of : Project → Option CheckFault
refusal_of project = option_map told (first_broken project)

-- the refusal of what a schema cites, where it may not cite it: the rule of dictionaries, as far as the schema alone tells it
abbrev pub citation_refusal : Schema → Option CheckFault
citation_refusal schema = option_map told (broken_rule (project_of schema []) CitedNames)

-- a rule is told where it is the first that the schema breaks, at its first site, and want of memory only of an accepted schema
abbrev pub Tells : CheckFault → Project → Type 0
Tells Memory project = IsAccepted project
Tells fault project = refusal_of project ≡ Some fault
