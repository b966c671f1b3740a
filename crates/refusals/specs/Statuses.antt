-- The program's exit statuses.
use Rattle.std.specs.Prelude.{ℕ, Bool, ◌==◌, ◌||◌, [], ◌∷◌}
use Rattle.std.specs.List.{list_any}
use Rattle.dictionaries.specs.declared.fault.DictFault.TheVariants as grammar
use Rattle.pd_outside.specs.declared.faults.ReadFault.{ReadFault}
use Rattle.pd_outside.specs.declared.faults.ReadFault.TheVariants as reading
use Rattle.schema_check.specs.declared.checker.CheckFault.TheVariants as check
use Rattle.schema_read.specs.declared.read.ReadSchemaFault.{ReadSchemaFault}
use Rattle.schema_read.specs.declared.read.ReadSchemaFault.TheVariants as schema
use Rattle.stream_apply.specs.declared.fault.ApplyFault.{ApplyFault}
use Rattle.stream_apply.specs.declared.fault.ApplyFault.TheVariants as applying
use Rattle.refusals.specs.declared.refusal.Refusal.{Refusal}
use Rattle.refusals.specs.declared.refusal.Refusal.TheVariants.{Words, Job}
use Rattle.refusals.specs.declared.refusal.DetailsCause.{DetailsCause}
use Rattle.refusals.specs.declared.refusal.DetailsCause.TheVariants as details
use Rattle.refusals.specs.declared.refusal.DictionaryCause.{DictionaryCause}
use Rattle.refusals.specs.declared.refusal.DictionaryCause.TheVariants as cause
use Rattle.refusals.specs.declared.refusal.InputCause.{InputCause}
use Rattle.refusals.specs.declared.refusal.InputCause.TheVariants as input
use Rattle.refusals.specs.declared.refusal.JobFault.{JobFault}
use Rattle.refusals.specs.declared.refusal.JobFault.TheVariants as job
use Rattle.refusals.specs.declared.refusal.PlanFault.{PlanFault}
use Rattle.refusals.specs.declared.refusal.PlanFault.TheVariants as plan
use Rattle.request_words.specs.declared.usage.UsageFault.TheVariants as usage

-- the status of a file that wasn't read
abbrev pub reading_status : ReadFault → ℕ
reading_status reading.Failed = 5
reading_status reading.TooLong = 10
reading_status reading.Memory = 7

-- the status of a file that gives no dictionary
abbrev pub cause_status : DictionaryCause → ℕ
cause_status (cause.Reading fault) = reading_status fault
cause_status (cause.Grammar grammar.Memory) = 7
cause_status (cause.Grammar fault) = 4
cause_status cause.Memory = 7

-- the status of a text that is no schema
abbrev pub schema_status : ReadSchemaFault → ℕ
schema_status schema.Memory = 7
schema_status schema.ParseMemory = 7
schema_status schema.Syntax = 3
schema_status (schema.Shape place key expected) = 3

-- the status of a schema's name that gives no plan
abbrev pub plan_status : PlanFault → ℕ
plan_status (plan.Reading fault) = reading_status fault
plan_status (plan.Schema fault) = schema_status fault
plan_status (plan.Dictionary fault) = cause_status fault.cause
plan_status (plan.Check check.Memory) = 7
plan_status (plan.Check (check.Rule number table column)) = 4

-- the status of bytes that aren't applied
abbrev pub applying_status : ApplyFault → ℕ
applying_status applying.Memory = 7
applying_status fault = 9

-- the status of a file that isn't applied
abbrev pub input_cause_status : InputCause → ℕ
input_cause_status (input.Reading fault) = reading_status fault
input_cause_status (input.Applying fault) = applying_status fault
input_cause_status (input.BadRecord number) = 9
input_cause_status (input.Reverting fault) = 9

-- the status of a file that gives no detail table
abbrev pub details_status : DetailsCause → ℕ
details_status (details.Reading fault) = reading_status fault
details_status details.Syntax = 3
details_status details.WrongForm = 3
details_status (details.Dictionary fault) = cause_status fault.cause
details_status (details.Rule number) = 4
details_status details.Memory = 7

-- the status of a request that gives no job
abbrev pub job_status : JobFault → ℕ
job_status (job.Plan fault) = plan_status fault
job_status (job.Range name) = 8
job_status (job.Input fault) = input_cause_status fault.cause
job_status (job.Details cause) = details_status cause
job_status job.Memory = 7

-- the status of a refusal
abbrev pub status_of : Refusal → ℕ
status_of (Words usage.Memory) = 7
status_of (Words fault) = 2
status_of (Job fault) = job_status fault

-- whether no definition gives what a status tells: that a read failed, or that memory ran out
abbrev pub is_free : ℕ → Bool
is_free status = status == 5 || status == 7

-- all is done
abbrev pub done_status : ℕ
done_status = 0

-- a write failed
abbrev pub write_failed_status : ℕ
write_failed_status = 6

-- a store failed
abbrev pub keeper_failed_status : ℕ
keeper_failed_status = 12

-- whether a number is a status of the program
abbrev pub is_status : ℕ → Bool
is_status status =
    list_any (λ known. status == known) (0 ∷ 2 ∷ 3 ∷ 4 ∷ 5 ∷ 6 ∷ 7 ∷ 8 ∷ 9 ∷ 10 ∷ 12 ∷ [])
