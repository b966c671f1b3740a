-- Inputs that a plain simulation gives make what a detail table holds later.
use Rattle.std.proofs.Common.{◌≡◌, ◌≤◌, ◌+◌, ◌-◌, ◌*◌, ℕ, zero, suc, Bool, true, false, List, [], ◌∷◌, ◌++◌, append_assoc, flat_map, get_or, length, length-append, Option, None, Some, Result, Ok, Err, ap, arith, refl, subst, sym, ◌∙◌}
use Rattle.std.specs.Prelude.{IfOk, OnOk, nat_lt, if◌then◌else◌}
use Rattle.std.specs.List.{range_with_len}
use Rattle.std.proofs.lemmas.List.{append-nil}
use Rattle.dictionaries.specs.WordList.{WordList}
use Rattle.pd_outside.specs.Files.{File, bytes_of}
use Rattle.pd_outside.specs.Shelf.{Held}
use Rattle.plan_stages.specs.Inputs.{inputs_of}
use Rattle.pd_outside.specs.declared.faults.ReadFault.TheVariants.{TooLong}
use Rattle.plan_stages.specs.DictionaryFiles.{fault_at, with_dictionaries, words_in, words_named}
use Rattle.plan_stages.specs.Limits.{schema_limit}
use Rattle.plan_stages.specs.Plans.{plan_in}
use Rattle.plan_stages.specs.Stages.{in_stage, on_ok}
use Rattle.refusals.specs.declared.refusal.DetailsCause.{DetailsCause}
use Rattle.refusals.specs.declared.refusal.DetailsCause.TheVariants as details
use Rattle.refusals.specs.declared.refusal.DictionaryCause.{DictionaryCause}
use Rattle.refusals.specs.declared.refusal.DictionaryFault.{DictionaryFault}
use Rattle.refusals.specs.declared.refusal.JobFault.{JobFault}
use Rattle.refusals.specs.declared.refusal.JobFault.TheVariants as job
use Rattle.refusals.specs.declared.refusal.PlanFault.{PlanFault}
use Rattle.refusals.specs.declared.refusal.Refusal.{Refusal}
use Rattle.request_words.specs.Words.{request}
use Rattle.request_words.specs.declared.usage.Mode.TheVariants.{DetailsApply, Play}
use Rattle.request_words.specs.declared.usage.Mode.{Mode}
use Rattle.request_words.specs.declared.usage.OptionName.TheVariants as option
use Rattle.request_words.specs.declared.usage.Request.{Request}
use Rattle.life_intervals.specs.Generator.{last_unit}
use Rattle.schema_facts.specs.Dictionaries.{Dictionary, Project}
use Rattle.schema_facts.specs.Layout.{layout_of}
use Rattle.schema_plan.specs.Limits.{IsInLimits}
use Rattle.stream_apply.specs.InTurn.{IsAppliedText}
use Rattle.stream_apply.specs.declared.key_fields.KeyFields.TheVariants.{Two}
use Rattle.detail_plan.specs.Kept.{Kept, KeepsRules}
use Rattle.detail_plan.specs.Rules.{first_broken}
use Rattle.detail_plan.specs.declared.detail.Detail.{Detail}
use Rattle.detail_rows.specs.Applying.{detail_streams}
use Rattle.detail_lines.specs.Lines.{detail_text}
use Rattle.detail_laws.proofs.ApplyLawLemmas.{units-applied}
use Rattle.run_jobs.specs.Details.{declared_of, detail_in, detail_of_text, kept_in, kept_over, kept_with, kept_with_lists, lists_cited, unless_broken}
use Rattle.run_jobs.specs.Formats.{made_files}
use Rattle.replay_files.specs.Replay.{AreReplayed, IsMadeOf, IsReplayDue, IsReplayOf, format_of, input_paths, inputs_at}
use Rattle.run_jobs.specs.InputFiles.{text_name}
use Rattle.pdgf_run.specs.ReadingList.{reads_schema}
use Rattle.pdgf_run.specs.TopCall.{Carries, GivesLaterDetails}
use Rattle.pdgf_run.specs.Verdict.{IsInMode, IsVerdict}
use Rattle.replay_files.specs.declared.replay.Replay.{Replay}
use Rattle.replay_files.specs.declared.replay.Way.TheVariants as way
use Rattle.pdgf_run.specs.declared.report.Report.{Report}
use Rattle.replay_files.specs.modes.DetailsApply.{AreDeclared, AreLaterDetails, HoldDetailInputs, IsDetailsApplyDue, apply_of_detail, detail_asked, detail_inputs}
use Rattle.pdgf_run.proofs.AppliedLemmas.{all_read, not_less, passes}
use Rattle.run_jobs.proofs.PageLemmas.{delimits}
use Rattle.pdgf_run.proofs.CarriedLemmas.{Carried, Gives, Refuses, carried_gives, due_carried, refused_gives}
use Rattle.replay_files.proofs.ChunkLemmas.{chunk}
use Rattle.replay_files.proofs.ReplayLemmas.{read_and_made}

-- ---- a detail table that is declared keeps its rules

passed : {A F : Type 0} (test : Bool) (fault : F) (rest : Result A F) (value : A) → (if test then Err fault else rest) ≡ Ok value → rest ≡ Ok value
passed true fault rest value is = absurd (cc)
passed false fault rest value is = is

kept_unbroken : (broken : Option ℕ) (given kept : Kept) → unless_broken broken given ≡ Ok kept → (broken ≡ None) × (given ≡ kept)
kept_unbroken None given kept is = (refl, let same : given ≡ kept = cc in same)
kept_unbroken (Some number) given kept is = absurd (cc)

-- over the schema's word lists and others
over_keeps : (plan : Project) (detail : Detail) (others : List Dictionary) (kept : Kept) → kept_over plan detail (plan.dictionaries ++ others) ≡ Ok kept → KeepsRules plan kept
over_keeps plan detail others kept is =
    let lists : List Dictionary = plan.dictionaries ++ others in
    let found = kept_unbroken (first_broken plan lists detail) (kept_with plan detail lists) kept is in
    subst (KeepsRules plan) found.1 (record { others = others; lists = refl; keeps = found.0; columns = refl; facts = refl; reach = refl })

-- word lists are read after those that are known
read_behind : (files : List File) (known : List Dictionary) (names : List (List ℕ)) (lists : List Dictionary) → with_dictionaries files known names ≡ Ok lists →
    (others : List Dictionary) × (lists ≡ known ++ others)
read_behind files known [] lists is = ([], let same : known ≡ lists = cc in sym same ∙ sym (append-nil known))
read_behind files known (name ∷ names) lists is = go (words_in files name) (λ now made. read_behind files now names lists made) is
  where
    go : (words : Result WordList DictionaryCause) →
        ((now : List Dictionary) → with_dictionaries files now names ≡ Ok lists → (others : List Dictionary) × (lists ≡ now ++ others)) →
        ◌≡◌ {A = Result (List Dictionary) DictionaryFault}
        (on_ok (in_stage (fault_at (length known + 1)) (on_ok words (λ w. Ok (known ++ words_named name w ∷ [])))) (λ now. with_dictionaries files now names)) (Ok lists) →
        (others : List Dictionary) × (lists ≡ known ++ others)
    go (Ok words) behind made =
        let rest = behind (known ++ words_named name words ∷ []) made in
        (words_named name words ∷ rest.0, rest.1 ∙ append_assoc known (words_named name words ∷ []) rest.0)
    go (Err cause) behind made = absurd (cc)

lists_keep : (plan : Project) (files : List File) (detail : Detail) (names : List (List ℕ)) (read : Result (List Dictionary) DictionaryFault) (kept : Kept) →
    with_dictionaries files plan.dictionaries names ≡ read → on_ok (in_stage details.Dictionary read) (kept_over plan detail) ≡ Ok kept → KeepsRules plan kept
lists_keep plan files detail names (Err fault) kept read is = absurd (cc)
lists_keep plan files detail names (Ok lists) kept read is =
    let behind = read_behind files plan.dictionaries names lists read in
    over_keeps plan detail behind.0 kept (subst (λ (all : List Dictionary). kept_over plan detail all ≡ Ok kept) behind.1 is)

cited_keep : (plan : Project) (files : List File) (detail : Detail) (cited : Result (List (List ℕ)) DetailsCause) (kept : Kept) →
    on_ok cited (kept_with_lists plan files detail) ≡ Ok kept → KeepsRules plan kept
cited_keep plan files detail (Err cause) kept is = absurd (cc)
cited_keep plan files detail (Ok names) kept is = lists_keep plan files detail names (with_dictionaries files plan.dictionaries names) kept refl is

declared_keep : (plan : Project) (files : List File) (read : Result Detail DetailsCause) (kept : Kept) → on_ok read (kept_in plan files) ≡ Ok kept → KeepsRules plan kept
declared_keep plan files (Err cause) kept is = absurd (cc)
declared_keep plan files (Ok detail) kept is = cited_keep plan files detail (lists_cited plan detail) kept is

keeps_of : (plan : Project) (files : List File) (r : Request) (kept : Kept) → detail_in plan files r.spec ≡ Ok kept → KeepsRules plan kept
keeps_of plan files r kept is =
    let bytes : List ℕ = bytes_of files r.spec in
    declared_keep plan files (declared_of bytes) kept (passed (nat_lt schema_limit (length bytes)) (details.Reading TooLong) (detail_of_text plan files bytes) kept is)

-- ---- its inputs

length-streams : (plan : Project) (kept : Kept) (first count : ℕ) → length (flat_map (detail_streams plan kept) (range_with_len first count)) ≡ 3 * count
length-streams plan kept first zero = refl
length-streams plan kept first (suc count) =
    let rest = flat_map (detail_streams plan kept) (range_with_len (first + 1) count) in
    let more : length (detail_streams plan kept first ++ rest) ≡ 3 + length rest = length-append (detail_streams plan kept first) rest in
    omega (arith, more, length-streams plan kept (first + 1) count)

length-inputs : (plan : Project) (kept : Kept) (from count : ℕ) → length (detail_inputs plan kept from count) ≡ 1 + 3 * count
length-inputs plan kept from count = omega (arith, length-streams plan kept (from + 1) count)

-- ---- they make what it holds later

later_replayed : (plan : Project) (r : Request) (kept : Kept) → IsInLimits plan → KeepsRules plan kept → r.from ≤ r.to → r.to ≤ last_unit plan →
    AreReplayed (way.Apply Two) (layout_of plan).delimiter (1 + 3 * (r.to - r.from)) (detail_inputs plan kept r.from (r.to - r.from)) (detail_text plan kept r.to ∷ [])
later_replayed plan r kept limits keeps order within = record {
  replayed = λ i below.
      let count : ℕ = r.to - r.from in
      let own : List (List ℕ) = detail_inputs plan kept r.from count in
      let first : i ≡ 0 = omega (arith, below) in
      let all : flat_map (λ (place : ℕ). own) (0 ∷ []) ≡ own = append-nil own in
      let part : inputs_at (1 + 3 * count) own 0 ≡ own =
      ap (λ (l : List (List ℕ)). inputs_at (1 + 3 * count) l 0) (sym all)
      ∙ chunk (λ (place : ℕ). own) (1 + 3 * count) (0 ∷ []) 0 0 (λ place. length-inputs plan kept r.from count) (omega arith) in
      let sum : r.from + count ≡ r.to = omega (arith, order) in
      let made : IsAppliedText Two (layout_of plan).delimiter own (detail_text plan kept r.to) =
      subst (λ (t : ℕ). IsAppliedText Two (layout_of plan).delimiter own (detail_text plan kept t)) sum
      (units-applied plan limits kept keeps (delimits plan) r.from count (omega (arith, sum, within))) in
      subst (λ (n : ℕ). IsAppliedText Two (layout_of plan).delimiter (inputs_at (1 + 3 * count) own n) (get_or (detail_text plan kept r.to ∷ []) n [])) (sym first)
      (subst (λ (l : List (List ℕ)). IsAppliedText Two (layout_of plan).delimiter l (detail_text plan kept r.to)) (sym part) made);
}

later_due : (plan : Project) (r : Request) (files : List File) (kept : Kept) → IsInLimits plan → KeepsRules plan kept → detail_in plan files r.spec ≡ Ok kept →
    detail_asked plan r kept.detail ≡ Ok kept.detail → HoldDetailInputs plan r kept files →
    (due : List File) × AreLaterDetails plan r kept due × IsDetailsApplyDue plan r files (Ok due)
later_due plan r files kept limits keeps is_declared asked hold =
    let first = passes (nat_lt r.to r.from) (job.Range option.From) _ kept.detail asked in
    let second = passes (nat_lt (layout_of plan).units r.to) (job.Range option.To) (Ok kept.detail) kept.detail first.1 in
    let delimiter : ℕ = (layout_of plan).delimiter in
    let replay : Replay = apply_of_detail kept.detail in
    let inputs : List (List ℕ) = inputs_of files (input_paths r replay) in
    let texts : List (List ℕ) = detail_text plan kept r.to ∷ [] in
    let due : List File = made_files (text_name (format_of replay)) r.out replay.names texts in
    let are : AreLaterDetails plan r kept due = record { written = texts; are = refl; due_is = refl } in
    let within : r.to ≤ last_unit plan = not_less (layout_of plan).units r.to second.0 in
    let order : r.from ≤ r.to = not_less r.to r.from first.0 in
    let replayed : AreReplayed (way.Apply Two) delimiter (1 + 3 * (r.to - r.from)) inputs texts =
    subst (λ (l : List (List ℕ)). AreReplayed (way.Apply Two) delimiter (1 + 3 * (r.to - r.from)) l texts) (sym hold.texts)
    (later_replayed plan r kept limits keeps order within) in
    let made : IsMadeOf delimiter r replay inputs (Ok due) = (texts, refl, replayed, are) in (
      due,
      are,
      subst (λ (d : Result Kept DetailsCause). AreDeclared plan r files d (Ok due)) (sym is_declared)
          (of_asked (detail_asked plan r kept.detail) (Ok due) asked (read_and_made delimiter r replay files (Ok inputs) (Ok due) (all_read files (input_paths r replay) hold.within) made)),
    )
  where
    of_asked : (asked : Result Detail JobFault) (answer : Result (List File) JobFault) → asked ≡ Ok kept.detail →
        IsReplayDue (layout_of plan).delimiter r (apply_of_detail kept.detail) files answer → IsReplayOf apply_of_detail (layout_of plan).delimiter r files asked answer
    of_asked asked answer is made = subst (λ (a : Result Detail JobFault). IsReplayOf apply_of_detail (layout_of plan).delimiter r files a answer) (sym is) made

-- ---- the verdict

-- what is asked of a detail table is that one
asked_same : (plan : Project) (r : Request) (given detail : Detail) → detail_asked plan r given ≡ Ok detail → given ≡ detail
asked_same plan r given detail is =
    let first = passed (nat_lt r.to r.from) (job.Range option.From) _ detail is in
    let second = passed (nat_lt (layout_of plan).units r.to) (job.Range option.To) (Ok given) detail first in
    let same : given ≡ detail = cc in
    same

of_asked : (words : List (List ℕ)) (files : List File) (r : Request) (plan : Project) (kept : Kept) (asked : Result Detail JobFault) (verdict : Result (List File) Refusal)
    (report : Report) (before now : Option Held) → request words ≡ Ok r → r.mode ≡ DetailsApply → plan_in files r.schema ≡ Ok plan → detail_in plan files r.spec ≡ Ok kept →
    detail_asked plan r kept.detail ≡ asked → IsInLimits plan → IsVerdict words files verdict → Carries verdict report before now →
    OnOk asked (HoldDetailInputs plan r kept files → (due : List File) × AreLaterDetails plan r kept due × Carries (Ok due) report before now)
of_asked words files r plan kept (Err fault) verdict report before now is_request mode planned is_declared asked limits is carries = tt
of_asked words files r plan kept (Ok detail) verdict report before now is_request mode planned is_declared asked limits is carries = λ hold.
    let own : detail_asked plan r kept.detail ≡ Ok kept.detail = asked ∙ ap Ok (sym (asked_same plan r kept.detail detail asked)) in
    let found = later_due plan r files kept limits (keeps_of plan files r kept is_declared) is_declared own hold in
    let due : IsInMode r.mode r plan files (Ok found.0) = subst (λ (m : Mode). IsInMode m r plan files (Ok found.0)) (sym mode) found.2 in
    (found.0, found.1, due_carried delimits words files r plan found.0 verdict report before now is_request (ap reads_schema mode) planned due is carries)

of_declared : (words : List (List ℕ)) (files : List File) (r : Request) (plan : Project) (made : Result Kept DetailsCause) (verdict : Result (List File) Refusal) (report : Report)
    (before now : Option Held) → request words ≡ Ok r → r.mode ≡ DetailsApply → plan_in files r.schema ≡ Ok plan → detail_in plan files r.spec ≡ made → IsInLimits plan →
    IsVerdict words files verdict → Carries verdict report before now →
    IfOk made (λ (kept : Kept). OnOk (detail_asked plan r kept.detail)
    (HoldDetailInputs plan r kept files → (due : List File) × AreLaterDetails plan r kept due × Carries (Ok due) report before now))
of_declared words files r plan (Err cause) verdict report before now is_request mode planned is_declared limits is carries = tt
of_declared words files r plan (Ok kept) verdict report before now is_request mode planned is_declared limits is carries =
    of_asked words files r plan kept (detail_asked plan r kept.detail) verdict report before now is_request mode planned is_declared refl limits is carries

of_plan : (words : List (List ℕ)) (files : List File) (r : Request) (made : Result Project PlanFault) (verdict : Result (List File) Refusal) (report : Report) (before now : Option Held) →
    request words ≡ Ok r → r.mode ≡ DetailsApply → plan_in files r.schema ≡ made → IfOk made IsInLimits → IsVerdict words files verdict → Carries verdict report before now →
    IfOk made (λ (plan : Project). IfOk (detail_in plan files r.spec) (λ (kept : Kept). OnOk (detail_asked plan r kept.detail)
    (HoldDetailInputs plan r kept files → (due : List File) × AreLaterDetails plan r kept due × Carries (Ok due) report before now)))
of_plan words files r (Err fault) verdict report before now is_request mode planned limits is carries = tt
of_plan words files r (Ok plan) verdict report before now is_request mode planned limits is carries =
    of_declared words files r plan (detail_in plan files r.spec) verdict report before now is_request mode planned refl limits is carries

gives_later : Gives DetailsApply GivesLaterDetails
gives_later words files r verdict report before now is_request mode limits is carries =
    of_plan words files r (plan_in files r.schema) verdict report before now is_request mode refl limits is carries

-- ---- the report

apart : DetailsApply ≡ Play → ⊥
apart is = cc

pub details_applied_refused : Refuses DetailsApply GivesLaterDetails
details_applied_refused = refused_gives DetailsApply refl GivesLaterDetails gives_later

pub details_applied_carried : Carried DetailsApply GivesLaterDetails
details_applied_carried = carried_gives DetailsApply refl apart GivesLaterDetails gives_later
