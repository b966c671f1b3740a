-- Inputs that a plain simulation gives make what it held earlier.
use Rattle.std.proofs.Common.{◌≡◌, ◌<◌, ◌≤◌, ◌+◌, ◌-◌, ℕ, zero, suc, List, [], flat_map, get_or, length, map, Option, None, Some, Result, Ok, Err, ap, arith, refl, subst, sym, ◌∙◌}
use Rattle.std.specs.Prelude.{IfOk, IfSome, nat_lt}
use Rattle.std.proofs.lemmas.List.{get_or-map, length-map}
use Rattle.pd_outside.specs.Files.{File}
use Rattle.pd_outside.specs.Shelf.{Held}
use Rattle.plan_stages.specs.Inputs.{inputs_of}
use Rattle.plan_stages.specs.Plans.{plan_in}
use Rattle.refusals.specs.declared.refusal.JobFault.{JobFault}
use Rattle.refusals.specs.declared.refusal.JobFault.TheVariants as job
use Rattle.refusals.specs.declared.refusal.PlanFault.{PlanFault}
use Rattle.refusals.specs.declared.refusal.Refusal.{Refusal}
use Rattle.request_words.specs.Words.{request}
use Rattle.request_words.specs.declared.usage.Mode.TheVariants.{Play, Revert}
use Rattle.request_words.specs.declared.usage.Mode.{Mode}
use Rattle.request_words.specs.declared.usage.OptionName.TheVariants as option
use Rattle.request_words.specs.declared.usage.Request.{Request}
use Rattle.row_lines.specs.Lines.{table_text}
use Rattle.life_intervals.specs.Generator.{generator_of, last_unit}
use Rattle.schema_facts.specs.Dictionaries.{Project}
use Rattle.schema_facts.specs.Layout.{layout_of}
use Rattle.schema_plan.specs.Limits.{IsInLimits}
use Rattle.undo_streams.specs.InTurn.{IsRevertedText}
use Rattle.update_box.specs.Packages.{chosen_places}
use Rattle.update_box.specs.Parts.{name_at}
use Rattle.request_words.specs.declared.usage.Format.TheVariants.{Copy}
use Rattle.run_jobs.specs.DueFiles.{chosen_table}
use Rattle.pdgf_run.specs.ReadingList.{reads_schema}
use Rattle.pdgf_run.specs.TopCall.{Carries, GivesEarlier}
use Rattle.replay_files.specs.UndoLaws.{undo_texts}
use Rattle.pdgf_run.specs.Verdict.{IsInMode, IsVerdict}
use Rattle.pdgf_run.specs.declared.report.Report.{Report}
use Rattle.run_jobs.specs.Formats.{made_files}
use Rattle.replay_files.specs.Replay.{AreReplayed, IsMadeOf, input_paths, inputs_at}
use Rattle.run_jobs.specs.InputFiles.{text_name}
use Rattle.replay_files.specs.declared.replay.Replay.{Replay}
use Rattle.replay_files.specs.declared.replay.Way.TheVariants as way
use Rattle.replay_files.specs.modes.Revert.{AreEarlierFiles, HoldUndoInputs, IsRevertDue, revert_of, tables_reverted, undo_inputs}
use Rattle.pdgf_run.proofs.AppliedLemmas.{all_read, choice_is, chosen_within, not_less, passes, place_within}
use Rattle.run_jobs.proofs.PageLemmas.{delimits}
use Rattle.replay_files.proofs.ChunkLemmas.{chunk}
use Rattle.pdgf_run.proofs.CarriedLemmas.{Carried, Gives, Refuses, carried_gives, due_carried, refused_gives}
use Rattle.replay_files.proofs.ApplyLemmas.{due_asked}
use Rattle.replay_files.proofs.ReplayLemmas.{read_and_made}
use Rattle.replay_files.proofs.UndoLawLemmas.{units-reverted}

-- ---- the inputs of a table among all

length-undo_texts : (plan : Project) (place to count : ℕ) → length (undo_texts plan place to count) ≡ count
length-undo_texts plan place to zero = refl
length-undo_texts plan place to (suc count) = ap suc (length-undo_texts plan place to count)

length-undo_inputs : (plan : Project) (r : Request) (place : ℕ) → length (undo_inputs plan r.to (r.from - r.to) place) ≡ 1 + (r.from - r.to)
length-undo_inputs plan r place = omega (arith, length-undo_texts plan place r.to (r.from - r.to))

-- ---- they make what the tables held earlier

earlier_reverted : (plan : Project) (r : Request) (table : Option ℕ) (inputs : List (List ℕ)) → IsInLimits plan → r.to ≤ r.from → r.from ≤ last_unit plan →
    IfSome table (λ place. place < length plan.schema.tables) →
    inputs ≡ flat_map (undo_inputs plan r.to (r.from - r.to)) (chosen_places plan table) →
    AreReplayed way.Undo (layout_of plan).delimiter (1 + (r.from - r.to)) inputs (map (table_text (generator_of plan) r.to) (chosen_places plan table))
earlier_reverted plan r table inputs limits order units within are = record {
  replayed = λ i below.
      let places : List ℕ = chosen_places plan table in
      let inside : i < length places = omega (arith, below, length-map places (table_text (generator_of plan) r.to)) in
      let place : ℕ = get_or places i 0 in
      let at_start : r.to + (r.from - r.to) ≤ last_unit plan = omega (arith, order, units) in
      let own : inputs_at (1 + (r.from - r.to)) inputs i ≡ undo_inputs plan r.to (r.from - r.to) place =
      ap (λ (l : List (List ℕ)). inputs_at (1 + (r.from - r.to)) l i) are
      ∙ chunk (undo_inputs plan r.to (r.from - r.to)) (1 + (r.from - r.to)) places i 0 (length-undo_inputs plan r) inside in
      let text : get_or (map (table_text (generator_of plan) r.to) places) i [] ≡ table_text (generator_of plan) r.to place =
      get_or-map (table_text (generator_of plan) r.to) places i 0 [] inside in
      subst (λ (t : List ℕ). IsRevertedText (layout_of plan).delimiter (inputs_at (1 + (r.from - r.to)) inputs i) t) (sym text)
      (subst (λ (l : List (List ℕ)). IsRevertedText (layout_of plan).delimiter l (table_text (generator_of plan) r.to place)) (sym own)
      (units-reverted plan limits place (place_within plan table i within inside) r.to (r.from - r.to) at_start));
}

earlier_due : (plan : Project) (r : Request) (files : List File) (table : Option ℕ) → IsInLimits plan → tables_reverted plan r ≡ Ok table →
    HoldUndoInputs plan r table files → (due : List File) × AreEarlierFiles plan r table due × IsRevertDue plan r files (Ok due)
earlier_due plan r files table limits asked hold =
    let first = passes (nat_lt (layout_of plan).units r.from) (job.Range option.From) _ table asked in
    let second = passes (nat_lt r.from r.to) (job.Range option.To) _ table first.1 in
    let chosen : chosen_table plan.schema r.table ≡ Some table = choice_is (chosen_table plan.schema r.table) table second.1 in
    let delimiter : ℕ = (layout_of plan).delimiter in
    let places : List ℕ = chosen_places plan table in
    let replay : Replay = revert_of plan table in
    let inputs : List (List ℕ) = inputs_of files (input_paths r replay) in
    let earlier : List (List ℕ) = map (table_text (generator_of plan) r.to) places in
    let due : List File = made_files (text_name Copy) r.out replay.names earlier in
    let are : AreEarlierFiles plan r table due = record { written = earlier; are = refl; due_is = refl } in
    let within : r.from ≤ last_unit plan = not_less (layout_of plan).units r.from first.0 in
    let order : r.to ≤ r.from = not_less r.from r.to second.0 in
    let made : IsMadeOf delimiter r replay inputs (Ok due) = (
      earlier,
      length-map places (table_text (generator_of plan) r.to) ∙ sym (length-map places (name_at plan.schema)),
      earlier_reverted plan r table inputs limits order within (there table chosen) hold.texts,
      are,
    ) in (
      due,
      are,
      due_asked (revert_of plan) delimiter delimiter r files (tables_reverted plan r) table replay (Ok due) (sym asked) refl refl
          (read_and_made delimiter r replay files (Ok inputs) (Ok due) (all_read files (input_paths r replay) hold.within) made),
    )
  where
    there : (table : Option ℕ) → chosen_table plan.schema r.table ≡ Some table → IfSome table (λ place. place < length plan.schema.tables)
    there None chosen = tt
    there (Some place) chosen = chosen_within plan r.table place chosen

-- ---- the verdict

of_asked : (words : List (List ℕ)) (files : List File) (r : Request) (plan : Project) (asked : Result (Option ℕ) JobFault) (verdict : Result (List File) Refusal) (report : Report)
    (before now : Option Held) → request words ≡ Ok r → r.mode ≡ Revert → plan_in files r.schema ≡ Ok plan → tables_reverted plan r ≡ asked → IsInLimits plan →
    IsVerdict words files verdict → Carries verdict report before now →
    IfOk asked (λ (table : Option ℕ). HoldUndoInputs plan r table files → (due : List File) × AreEarlierFiles plan r table due × Carries (Ok due) report before now)
of_asked words files r plan (Err fault) verdict report before now given mode planned asked limits is carries = tt
of_asked words files r plan (Ok table) verdict report before now given mode planned asked limits is carries = λ hold.
    let found = earlier_due plan r files table limits asked hold in
    let due : IsInMode r.mode r plan files (Ok found.0) = subst (λ (m : Mode). IsInMode m r plan files (Ok found.0)) (sym mode) found.2 in
    (found.0, found.1, due_carried delimits words files r plan found.0 verdict report before now given (ap reads_schema mode) planned due is carries)

of_plan : (words : List (List ℕ)) (files : List File) (r : Request) (made : Result Project PlanFault) (verdict : Result (List File) Refusal) (report : Report) (before now : Option Held) →
    request words ≡ Ok r → r.mode ≡ Revert → plan_in files r.schema ≡ made → IfOk made IsInLimits → IsVerdict words files verdict → Carries verdict report before now →
    IfOk made (λ (plan : Project). IfOk (tables_reverted plan r) (λ (table : Option ℕ).
    HoldUndoInputs plan r table files → (due : List File) × AreEarlierFiles plan r table due × Carries (Ok due) report before now))
of_plan words files r (Err fault) verdict report before now given mode planned limits is carries = tt
of_plan words files r (Ok plan) verdict report before now given mode planned limits is carries =
    of_asked words files r plan (tables_reverted plan r) verdict report before now given mode planned refl limits is carries

gives_earlier : Gives Revert GivesEarlier
gives_earlier words files r verdict report before now given mode limits is carries =
    of_plan words files r (plan_in files r.schema) verdict report before now given mode refl limits is carries

-- ---- the report

apart : Revert ≡ Play → ⊥
apart is = cc

pub reverted_refused : Refuses Revert GivesEarlier
reverted_refused = refused_gives Revert refl GivesEarlier gives_earlier

pub reverted_carried : Carried Revert GivesEarlier
reverted_carried = carried_gives Revert refl apart GivesEarlier gives_earlier
