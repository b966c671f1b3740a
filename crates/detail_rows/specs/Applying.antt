-- The streams of units for a detail table, applied to its text: its lines are known by their first two fields, the row's key and the number.
use Rattle.std.specs.Prelude.{⊤, ℕ, List, [], ◌∷◌}
use Rattle.schema_facts.specs.Dictionaries.{Project}
use Rattle.stream_apply.specs.InTurn.{IsFaultAt}
use Rattle.stream_apply.specs.declared.fault.ApplyFault.{ApplyFault}
use Rattle.stream_apply.specs.declared.fault.ApplyFault.TheVariants as applying
use Rattle.stream_apply.specs.declared.key_fields.KeyFields.TheVariants.{Two}
use Rattle.detail_plan.specs.Kept.{Kept}
use Rattle.detail_lines.specs.Lines.{detail_deleted_text, detail_inserted_text, detail_updated_text}
use Rattle.detail_rows.specs.declared.applied.DetailApplyFault.{DetailApplyFault}
use Rattle.detail_rows.specs.declared.applied.DetailApplyFault.TheVariants.{BadLine, DoubleKey, KeyExists, Memory, NoSuchKey}

-- what a unit changes in a detail table, in the order in which it is applied: what it deletes, updates and inserts
abbrev pub detail_streams : Project → Kept → ℕ → List (List ℕ)
detail_streams plan kept unit =
    detail_deleted_text plan kept unit ∷ detail_updated_text plan kept unit ∷ detail_inserted_text plan kept unit ∷ []

-- a fault of an input as it is told of a detail table
abbrev pub detail_fault : ℕ → ApplyFault → DetailApplyFault
detail_fault input (applying.BadLine line) = BadLine input line
detail_fault input (applying.DoubleKey line) = DoubleKey input line
detail_fault input (applying.NoSuchKey line) = NoSuchKey input line
detail_fault input (applying.KeyExists line) = KeyExists input line
detail_fault input applying.Memory = Memory

-- the first fault of a table's text and of streams, in the order in which they are applied; the inputs are counted from 0
abbrev pub IsFirstFault : ℕ → List (List ℕ) → DetailApplyFault → Type 0
IsFirstFault delimiter inputs (BadLine input line) = IsFaultAt Two delimiter inputs input (applying.BadLine line)
IsFirstFault delimiter inputs (DoubleKey input line) = IsFaultAt Two delimiter inputs input (applying.DoubleKey line)
IsFirstFault delimiter inputs (NoSuchKey input line) = IsFaultAt Two delimiter inputs input (applying.NoSuchKey line)
IsFirstFault delimiter inputs (KeyExists input line) = IsFaultAt Two delimiter inputs input (applying.KeyExists line)
IsFirstFault delimiter inputs Memory = ⊤
