-- A table while an undo text is taken, as the code keeps it.
use Rattle.std.specs.Prelude.{◌≡◌, ◌≤◌, ℕ, true, false, All, List, [], ◌++◌, drop, length, take}
use Rattle.stream_apply.specs.KeyedLines.{KeyedLine, has_key}
use Rattle.stream_apply.specs.Streams.{without}
use Rattle.undo_streams.specs.Reverting.{Undoing}
use Rattle.undo_streams.specs.declared.part.Part.{Part}
use Rattle.undo_streams.specs.declared.part.Part.TheVariants.{Adds, Drops, Sets}
use Rattle.undo_streams.specs.declared.weaver.Weaver.{Weaver}

-- the lines: those that are told are still to be dropped; or all; or those that are woven, and after them those of the table that aren't yet
abbrev pub lines_now : Part → List KeyedLine → List KeyedLine → List KeyedLine → ℕ → List KeyedLine
lines_now Drops table told woven next = without table told
lines_now Sets table told woven next = table
lines_now Adds table told woven next = woven ++ drop next table

abbrev pub undoing_of : Weaver → Undoing
undoing_of weaver = record {
  lines = lines_now weaver.part weaver.table weaver.told weaver.woven weaver.next;
  told = weaver.told;
  part = weaver.part;
  least = length weaver.woven;
}

-- the lines of the table up to the next one are woven and no others are, and none is before lines are added
pub record IsWoven (weaver : Weaver) : Type 0 where
  pub early : (weaver.part ≡ Adds → ⊥) → (weaver.woven ≡ []) × (weaver.next ≡ 0)
  pub within : weaver.next ≤ length weaver.table
  pub moved : All (λ (line : KeyedLine). has_key weaver.woven line.key ≡ true) (take weaver.next weaver.table)
  pub left : All (λ (line : KeyedLine). has_key weaver.woven line.key ≡ false) (drop weaver.next weaver.table)
