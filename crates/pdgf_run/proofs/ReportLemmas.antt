-- What a message tells of a file that is too long.
use Rattle.std.proofs.Common.{◌≡◌, ◌≤◌, ◌+◌, ℕ, List, ap, inl, inr, refl, ◌∙◌}
use Rattle.dictionaries.specs.declared.fault.DictFault.TheVariants as grammar
use Rattle.pd_outside.specs.declared.faults.ReadFault.TheVariants as reading
use Rattle.schema_check.specs.declared.checker.CheckFault.TheVariants as check
use Rattle.schema_read.specs.declared.read.ReadSchemaFault.TheVariants as schema
use Rattle.stream_apply.specs.declared.fault.ApplyFault.TheVariants as applying
use Rattle.plan_stages.specs.Limits.{dictionary_limit}
use Rattle.plan_stages.specs.Plans.{limit_at}
use Rattle.refusals.specs.Messages.{cause_text, details_text, input_text, message_line, message_of, plan_fault_text}
use Rattle.refusals.specs.Statuses.{cause_status, details_status, input_cause_status, plan_status, status_of}
use Rattle.run_jobs.specs.Details as declaration
use Rattle.pdgf_run.specs.TopCall.{IsLimitOfRefusal, IsPastLimit}
use Rattle.run_jobs.specs.InputFiles.{input_limit}
use Rattle.refusals.specs.declared.refusal.DetailsCause.{DetailsCause}
use Rattle.refusals.specs.declared.refusal.DetailsCause.TheVariants as details
use Rattle.refusals.specs.declared.refusal.DictionaryCause.{DictionaryCause}
use Rattle.refusals.specs.declared.refusal.DictionaryCause.TheVariants as cause
use Rattle.refusals.specs.declared.refusal.InputCause.{InputCause}
use Rattle.refusals.specs.declared.refusal.InputCause.TheVariants as input
use Rattle.refusals.specs.declared.refusal.JobFault.TheVariants as job
use Rattle.refusals.specs.declared.refusal.PlanFault.{PlanFault}
use Rattle.refusals.specs.declared.refusal.PlanFault.TheVariants as plan
use Rattle.refusals.specs.declared.refusal.Refusal.{Refusal}
use Rattle.refusals.specs.declared.refusal.Refusal.TheVariants.{Words, Job}

past_dictionary : (number : ℕ) (fault : DictionaryCause) (taken : ℕ) → cause_status fault ≡ 10 → taken ≡ dictionary_limit + 1 → IsPastLimit (message_line (cause_text number fault)) taken
past_dictionary number (cause.Reading reading.Failed) taken ten is = absurd (cc)
past_dictionary number (cause.Reading reading.TooLong) taken ten is = inr (inl (number, (refl, is)))
past_dictionary number (cause.Reading reading.Memory) taken ten is = absurd (cc)
past_dictionary number (cause.Grammar (grammar.NotUtf8 at)) taken ten is = absurd (cc)
past_dictionary number (cause.Grammar (grammar.LongEntry line)) taken ten is = absurd (cc)
past_dictionary number (cause.Grammar (grammar.BadWeight line)) taken ten is = absurd (cc)
past_dictionary number (cause.Grammar (grammar.TooMany line)) taken ten is = absurd (cc)
past_dictionary number (cause.Grammar grammar.Empty) taken ten is = absurd (cc)
past_dictionary number (cause.Grammar grammar.Memory) taken ten is = absurd (cc)
past_dictionary number cause.Memory taken ten is = absurd (cc)

past_plan : (fault : PlanFault) (taken : ℕ) → plan_status fault ≡ 10 → taken ≡ limit_at fault + 1 → IsPastLimit (message_line (plan_fault_text fault)) taken
past_plan (plan.Reading reading.Failed) taken ten is = absurd (cc)
past_plan (plan.Reading reading.TooLong) taken ten is = inl (refl, is)
past_plan (plan.Reading reading.Memory) taken ten is = absurd (cc)
past_plan (plan.Schema schema.Memory) taken ten is = absurd (cc)
past_plan (plan.Schema schema.ParseMemory) taken ten is = absurd (cc)
past_plan (plan.Schema schema.Syntax) taken ten is = absurd (cc)
past_plan (plan.Schema (schema.Shape place key expected)) taken ten is = absurd (cc)
past_plan (plan.Dictionary fault) taken ten is = past_dictionary fault.number fault.cause taken ten is
past_plan (plan.Check check.Memory) taken ten is = absurd (cc)
past_plan (plan.Check (check.Rule number table column)) taken ten is = absurd (cc)

past_input : (file : List ℕ) (fault : InputCause) (limit taken : ℕ) → input_cause_status fault ≡ 10 → limit ≤ input_limit → taken ≡ limit + 1 →
    IsPastLimit (message_line (input_text file fault)) taken
past_input file (input.Reading reading.Failed) limit taken ten within is = absurd (cc)
past_input file (input.Reading reading.TooLong) limit taken ten within is = inr (inr (inl (file, limit, within, refl, is)))
past_input file (input.Reading reading.Memory) limit taken ten within is = absurd (cc)
past_input file (input.Applying (applying.BadLine line)) limit taken ten within is = absurd (cc)
past_input file (input.Applying (applying.DoubleKey line)) limit taken ten within is = absurd (cc)
past_input file (input.Applying (applying.NoSuchKey line)) limit taken ten within is = absurd (cc)
past_input file (input.Applying (applying.KeyExists line)) limit taken ten within is = absurd (cc)
past_input file (input.Applying applying.Memory) limit taken ten within is = absurd (cc)
past_input file (input.BadRecord number) limit taken ten within is = absurd (cc)
past_input file (input.Reverting fault) limit taken ten within is = absurd (cc)

past_details : (fault : DetailsCause) (taken : ℕ) → details_status fault ≡ 10 → taken ≡ declaration.limit_at fault + 1 → IsPastLimit (message_line (details_text fault)) taken
past_details (details.Reading reading.Failed) taken ten is = absurd (cc)
past_details (details.Reading reading.TooLong) taken ten is = inr (inr (inr (refl, is)))
past_details (details.Reading reading.Memory) taken ten is = absurd (cc)
past_details details.Syntax taken ten is = absurd (cc)
past_details details.WrongForm taken ten is = absurd (cc)
past_details (details.Dictionary fault) taken ten is = past_dictionary fault.number fault.cause taken ten is
past_details (details.Rule number) taken ten is = absurd (cc)
past_details details.Memory taken ten is = absurd (cc)

-- a refusal of status 10 is of a file that is too long
pub past_limit : (r : Refusal) (limit taken : ℕ) → status_of r ≡ 10 → IsLimitOfRefusal r limit → taken ≡ limit + 1 → IsPastLimit (message_of r) taken
past_limit (Words fault) limit taken ten of is = absurd of
past_limit (Job (job.Plan fault)) limit taken ten of is = past_plan fault taken ten (is ∙ ap (λ (l : ℕ). l + 1) of)
past_limit (Job (job.Range name)) limit taken ten of is = absurd of
past_limit (Job (job.Input fault)) limit taken ten of is = past_input fault.file fault.cause limit taken ten of is
past_limit (Job (job.Details fault)) limit taken ten of is = past_details fault taken ten (is ∙ ap (λ (l : ℕ). l + 1) of)
past_limit (Job job.Memory) limit taken ten of is = absurd of
