-- The plan of a schema's name over files, stage by stage.
use Rattle.std.specs.Prelude.{ℕ, nat_lt, List, [], length, Option, Some, None, Result, Ok, Err, if◌then◌else◌}
use Rattle.pd_outside.specs.Files.{File, bytes_of}
use Rattle.pd_outside.specs.declared.faults.ReadFault.TheVariants.{TooLong}
use Rattle.refusals.specs.declared.refusal.PlanFault.{PlanFault}
use Rattle.refusals.specs.declared.refusal.PlanFault.TheVariants as plan
use Rattle.schema_check.specs.Faults.{citation_refusal, refusal_of}
use Rattle.schema_check.specs.declared.checker.CheckFault.{CheckFault}
use Rattle.schema_model.specs.declared.table.Schema.{Schema}
use Rattle.schema_plan.specs.Citations.{cited_names}
use Rattle.schema_facts.specs.Dictionaries.{Dictionary, Project, project_of}
use Rattle.schema_read.specs.Schema.{schema_of}
use Rattle.plan_stages.specs.DictionaryFiles.{with_dictionaries}
use Rattle.plan_stages.specs.Limits.{dictionary_limit, schema_limit}
use Rattle.plan_stages.specs.Stages.{in_stage, on_ok}

-- what comes of a schema without a fault
abbrev pub unless_refused : {A : Type 0} → Option CheckFault → A → Result A PlanFault
unless_refused None answer = Ok answer
unless_refused (Some fault) answer = Err (plan.Check fault)

-- the names of the dictionaries that a schema cites, as far as it may cite them by itself
abbrev pub citations_of : Schema → Result (List (List ℕ)) PlanFault
citations_of schema = unless_refused (citation_refusal schema) (cited_names schema.tables)

-- the plan of a schema that is accepted with its dictionaries
abbrev pub accepted_with : Schema → List Dictionary → Result Project PlanFault
accepted_with schema dictionaries = unless_refused (refusal_of (project_of schema dictionaries)) (project_of schema dictionaries)

-- the plan of a schema with these dictionaries over files
abbrev pub planned_with : List File → Schema → List (List ℕ) → Result Project PlanFault
planned_with files schema names = on_ok (in_stage plan.Dictionary (with_dictionaries files [] names)) (accepted_with schema)

-- the plan of a schema that is accepted over files
abbrev pub planned : List File → Schema → Result Project PlanFault
planned files schema = on_ok (citations_of schema) (planned_with files schema)

-- the plan of a schema's text
abbrev pub plan_of_text : List File → List ℕ → Result Project PlanFault
plan_of_text files bytes = on_ok (in_stage plan.Schema (schema_of bytes)) (planned files)

-- the plan of a schema's bytes, which may be too many
abbrev pub plan_of_bytes : List File → List ℕ → Result Project PlanFault
plan_of_bytes files bytes =
    if nat_lt schema_limit (length bytes) then Err (plan.Reading TooLong) else plan_of_text files bytes

-- the plan of the schema in the file of a name
abbrev pub plan_in : List File → List ℕ → Result Project PlanFault
plan_in files name = plan_of_bytes files (bytes_of files name)

-- the limit of the file that a fault tells as too long: the schema's text, or a dictionary
abbrev pub limit_at : PlanFault → ℕ
limit_at (plan.Reading fault) = schema_limit
limit_at _ = dictionary_limit
