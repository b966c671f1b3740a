-- Applying and then reverting.
use Rattle.std.proofs.Common.{◌≡◌, ◌<◌, ◌≤◌, ◌+◌, ℕ, List, ◌∷◌, length, subst, sym}
use Rattle.life_intervals.specs.Generator.{generator_of, last_unit}
use Rattle.row_lines.specs.Lines.{table_text}
use Rattle.schema_facts.specs.Dictionaries.{Project}
use Rattle.schema_facts.specs.Layout.{layout_of}
use Rattle.schema_plan.specs.Limits.{IsInLimits}
use Rattle.stream_apply.specs.InTurn.{IsAppliedText}
use Rattle.stream_apply.specs.declared.key_fields.KeyFields.TheVariants.{One}
use Rattle.undo_streams.specs.InTurn.{IsRevertedText}
use Rattle.update_box.proofs.ApplyLawLemmas.{units-applied}
use Rattle.replay_files.specs.UndoLaws.{undo_texts}
use Rattle.replay_files.specs.modes.Apply.{table_inputs}
use Rattle.run_jobs.proofs.PageLemmas.{delimits}
use Rattle.replay_files.proofs.ReplayOutcomeLemmas.{one_text}
use Rattle.replay_files.proofs.UndoLawLemmas.{units-reverted}

-- streams make one text, which is the later one, and from that the undo texts lead back
pub reverted-after : (plan : Project) → IsInLimits plan → (place : ℕ) → place < length plan.schema.tables → (from count : ℕ) → from + count ≤ last_unit plan → (made : List ℕ) →
    IsAppliedText One (layout_of plan).delimiter (table_inputs plan from count place) made →
    IsRevertedText (layout_of plan).delimiter (made ∷ undo_texts plan place from count) (table_text (generator_of plan) from place)
reverted-after plan limits place below from count within made applied =
    let later : List ℕ = table_text (generator_of plan) (from + count) place in
    let same : made ≡ later =
    one_text One (layout_of plan).delimiter (table_inputs plan from count place) made later (delimits plan) applied (units-applied plan limits place below from count within) in
    subst (λ (text : List ℕ). IsRevertedText (layout_of plan).delimiter (text ∷ undo_texts plan place from count) (table_text (generator_of plan) from place)) (sym same)
    (units-reverted plan limits place below from count within)
