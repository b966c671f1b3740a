use Rattle.std.proofs.Common.{◌≡◌, ◌≢◌, ◌≤◌, ◌+◌, ◌∙◌, ℕ, true, Ok, ap, refl, sym, subst, map, string_bytes, false}
use Rattle.std.specs.Prelude.{IsErr, ◌↔◌, ◌⊎◌}
use Rattle.pd_outside.proofs.Counts.{unfailed_same}
use Rattle.pd_outside.specs.Faults.{FailedAtLast, Unfailed}
use Rattle.plan_stages.specs.Limits.{dictionary_limit, schema_limit}
use Rattle.plan_stages.specs.PlanNames.{AskedAlone}
use Rattle.plan_stages.specs.Stages.{told_files}
use Rattle.refusals.specs.Statuses.{status_of}
use Rattle.request_words.specs.Words.{request}
use Rattle.pdgf_run.specs.declared.report.Report.{Report}
use Rattle.fill_jobs.specs.Playing.{task_due}
use Rattle.pdgf_run.specs.ReadingList.{reads_on, reads_schema}
use Rattle.pdgf_run.specs.TopCall.{IsPastLimit}
use Rattle.pdgf_run.proofs.AppliedLemmas.{applied_carried, applied_refused}
use Rattle.pdgf_run.proofs.CarriedLemmas.{refused_unread}
use Rattle.pdgf_run.proofs.DecideLemmas.{longer-told, refused-usage, where_any, within-told}
use Rattle.pdgf_run.proofs.DetailsAppliedLemmas.{details_applied_carried, details_applied_refused}
use Rattle.pdgf_run.proofs.RevertedLemmas.{reverted_carried, reverted_refused}
use Rattle.pdgf_run.proofs.ReportLemmas.{past_limit}
use Rattle.pdgf_run.proofs.TaskLemmas.{broken_where_asked, named_where_asked, played_where_asked, plays_not}
use Rattle.pdgf_run.proofs.run.pdgf.Goals as goal

pub returns-in-Err-clause-usage : goal.returns-in-Err-clause-usage
returns-in-Err-clause-usage g c =
    subst (λ (report : Report). (report.status ≡ 2) ↔ IsErr (request (map string_bytes c.args.words.now))) (sym c.refused.ensures)
    (refused-usage (map string_bytes c.args.words.now) c.in-Err.refusal c.in-Err.ensures.no_memory c.in-Err.ensures.usage c.in-Err.ensures.no_usage)

pub returns-in-Err-clause-too_long : goal.returns-in-Err-clause-too_long
returns-in-Err-clause-too_long g c =
    subst (λ (report : Report). report.status ≡ 10 → IsPastLimit report.message (g.L.Library.taken c.decide.new.library)) (sym c.refused.ensures)
    (λ ten. let long = c.in-Err.ensures.left.too_long ten in past_limit c.in-Err.refusal long.0 _ ten long.1 long.2)

pub returns-in-Err-clause-read_failed : goal.returns-in-Err-clause-read_failed
returns-in-Err-clause-read_failed g c =
    subst (λ (report : Report). report.status ≡ 5 → FailedAtLast (g.L.Library.counts c.args.library.now) (g.L.Library.counts c.decide.new.library)) (sym c.refused.ensures)
    c.in-Err.ensures.left.failed

pub returns-in-Err-clause-read_unfailed : goal.returns-in-Err-clause-read_unfailed
returns-in-Err-clause-read_unfailed g c =
    subst (λ (report : Report). report.status ≢ 5 → Unfailed (g.L.Library.counts c.args.library.now) (g.L.Library.counts c.decide.new.library)) (sym c.refused.ensures)
    c.in-Err.ensures.left.unfailed

pub returns-in-Ok-clause-read_unfailed : goal.returns-in-Ok-clause-read_unfailed
returns-in-Ok-clause-read_unfailed g c = λ other. c.in-Ok.ensures.left.unfailed (λ e. absurd (cc))

pub returns-in-Err-clause-write_unfailed : goal.returns-in-Err-clause-write_unfailed
returns-in-Err-clause-write_unfailed g c = λ other. unfailed_same _

pub returns-in-Err-clause-keeper_unfailed : goal.returns-in-Err-clause-keeper_unfailed
returns-in-Err-clause-keeper_unfailed g c = λ other. unfailed_same _

pub returns-in-Err-clause-stopped : goal.returns-in-Err-clause-stopped
returns-in-Err-clause-stopped g c =
    subst (λ (report : Report). report.status ≡ 5 → g.L.Library.is_started c.decide.new.library ≡ false) (sym c.refused.ensures) c.in-Err.ensures.left.stopped

pub returns-in-Err-clause-applied : goal.returns-in-Err-clause-applied
returns-in-Err-clause-applied g c = λ five six seven.
    applied_refused (map string_bytes c.args.words.now) (told_files (g.L.Library.content c.args.library.now)) (request (map string_bytes c.args.words.now)) c.in-Err.refusal
    c.refused.result _ _ refl c.in-Err.ensures.limits c.in-Err.ensures.verdict c.refused.ensures refl five seven

pub returns-in-Ok-clause-applied : goal.returns-in-Ok-clause-applied
returns-in-Ok-clause-applied g c = λ five six seven.
    applied_carried (map string_bytes c.args.words.now) (told_files (g.L.Library.content c.args.library.now)) (request (map string_bytes c.args.words.now)) c.in-Ok.task c.carry_out.result _ _
    refl c.in-Ok.ensures.limits c.in-Ok.ensures.verdict c.in-Ok.ensures.task c.carry_out.ensures.unfailed c.carry_out.ensures.carries six seven

pub returns-in-Err-clause-reverted : goal.returns-in-Err-clause-reverted
returns-in-Err-clause-reverted g c = λ five six seven.
    reverted_refused (map string_bytes c.args.words.now) (told_files (g.L.Library.content c.args.library.now)) (request (map string_bytes c.args.words.now)) c.in-Err.refusal
    c.refused.result _ _ refl c.in-Err.ensures.limits c.in-Err.ensures.verdict c.refused.ensures refl five seven

pub returns-in-Ok-clause-reverted : goal.returns-in-Ok-clause-reverted
returns-in-Ok-clause-reverted g c = λ five six seven.
    reverted_carried (map string_bytes c.args.words.now) (told_files (g.L.Library.content c.args.library.now)) (request (map string_bytes c.args.words.now)) c.in-Ok.task c.carry_out.result _ _
    refl c.in-Ok.ensures.limits c.in-Ok.ensures.verdict c.in-Ok.ensures.task c.carry_out.ensures.unfailed c.carry_out.ensures.carries six seven

pub returns-in-Ok-clause-played : goal.returns-in-Ok-clause-played
returns-in-Ok-clause-played g c = λ ended.
    played_where_asked (request (map string_bytes c.args.words.now)) (told_files (g.L.Library.content c.args.library.now)) c.in-Ok.task _ _
    c.in-Ok.ensures.task (c.carry_out.ensures.played ended)

pub returns-in-Ok-clause-broken_off : goal.returns-in-Ok-clause-broken_off
returns-in-Ok-clause-broken_off g c = λ is_open.
    broken_where_asked (request (map string_bytes c.args.words.now)) (told_files (g.L.Library.content c.args.library.now)) c.in-Ok.task _ _
    c.in-Ok.ensures.task (c.carry_out.ensures.broken_off is_open)

pub returns-in-Ok-clause-unplayed : goal.returns-in-Ok-clause-unplayed
returns-in-Ok-clause-unplayed g c = λ is.
    c.carry_out.ensures.unplayed
    (plays_not (request (map string_bytes c.args.words.now)) (told_files (g.L.Library.content c.args.library.now)) c.in-Ok.task c.in-Ok.ensures.usage c.in-Ok.ensures.task is)

pub returns-in-Ok-clause-named : goal.returns-in-Ok-clause-named
returns-in-Ok-clause-named g c = λ ended.
    named_where_asked (request (map string_bytes c.args.words.now)) (told_files (g.L.Library.content c.args.library.now)) c.in-Ok.task _ _
    c.in-Ok.ensures.task (c.carry_out.ensures.played ended)

pub returns-in-Err-clause-verdict_unread : goal.returns-in-Err-clause-verdict_unread
returns-in-Err-clause-verdict_unread g c = λ five six seven twelve unread.
    refused_unread (map string_bytes c.args.words.now) c.in-Err.refusal c.refused.result _ _ (c.in-Err.ensures.sampled unread) c.refused.ensures refl five seven

pub returns-in-Ok-clause-verdict_unread : goal.returns-in-Ok-clause-verdict_unread
returns-in-Ok-clause-verdict_unread g c = λ five six seven twelve unread.
    (Ok (task_due c.in-Ok.task), c.in-Ok.ensures.sampled unread, c.carry_out.ensures.carries six seven twelve)

pub returns-in-Err-clause-details_applied : goal.returns-in-Err-clause-details_applied
returns-in-Err-clause-details_applied g c = λ five six seven.
    details_applied_refused (map string_bytes c.args.words.now) (told_files (g.L.Library.content c.args.library.now)) (request (map string_bytes c.args.words.now)) c.in-Err.refusal
    c.refused.result _ _ refl c.in-Err.ensures.limits c.in-Err.ensures.verdict c.refused.ensures refl five seven

pub returns-in-Ok-clause-details_applied : goal.returns-in-Ok-clause-details_applied
returns-in-Ok-clause-details_applied g c = λ five six seven.
    details_applied_carried (map string_bytes c.args.words.now) (told_files (g.L.Library.content c.args.library.now)) (request (map string_bytes c.args.words.now)) c.in-Ok.task c.carry_out.result _ _
    refl c.in-Ok.ensures.limits c.in-Ok.ensures.verdict c.in-Ok.ensures.task c.carry_out.ensures.unfailed c.carry_out.ensures.carries six seven

pub returns-in-Err-clause-longer_schema : goal.returns-in-Err-clause-longer_schema
returns-in-Err-clause-longer_schema g c =
    let told : c.refused.result.status ≡ status_of c.in-Err.refusal = ap (λ (r : Report). r.status) c.refused.ensures in
    let taken : ℕ = g.L.Library.taken c.decide.new.library in
    where_any (λ r. AskedAlone r.schema (g.L.Library.asked c.args.library.now) (g.L.Library.asked c.decide.new.library) → (taken ≤ schema_limit) ⊎ (status_of c.in-Err.refusal ≡ 10))
    (λ r. AskedAlone r.schema (g.L.Library.asked c.args.library.now) (g.L.Library.asked c.decide.new.library) → taken ≡ schema_limit + 1 → c.refused.result.status ≡ 10)
    (request (map string_bytes c.args.words.now))
    (λ r given alone longer. longer-told taken schema_limit (status_of c.in-Err.refusal) c.refused.result.status told (given alone) longer) c.in-Err.ensures.longer_schema

pub returns-in-Err-clause-longer_dictionary : goal.returns-in-Err-clause-longer_dictionary
returns-in-Err-clause-longer_dictionary g c =
    let told : c.refused.result.status ≡ status_of c.in-Err.refusal = ap (λ (r : Report). r.status) c.refused.ensures in
    let long : Type 0 = g.L.Library.taken c.decide.new.library ≡ dictionary_limit + 1 in
    where_any (λ r. reads_schema r.mode ≡ true → reads_on r.mode ≡ false → status_of c.in-Err.refusal ≢ 7 → long → status_of c.in-Err.refusal ≡ 10)
    (λ r. reads_schema r.mode ≡ true → reads_on r.mode ≡ false → c.refused.result.status ≢ 7 → long → c.refused.result.status ≡ 10)
    (request (map string_bytes c.args.words.now))
    (λ r given reads off other longer. told ∙ given reads off (λ seven. other (told ∙ seven)) longer) c.in-Err.ensures.longer_dictionary

pub returns-in-Err-clause-read_within : goal.returns-in-Err-clause-read_within
returns-in-Err-clause-read_within g c =
    let told : c.refused.result.status ≡ status_of c.in-Err.refusal = ap (λ (r : Report). r.status) c.refused.ensures in
    within-told _ _ _ _ _ told c.in-Err.ensures.within
