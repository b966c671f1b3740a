-- What is made of a sample's tables.
use Rattle.std.specs.Prelude.{◌≡◌, ◌<◌, ℕ, ◌+◌, ◌^◌, Some}
use Rattle.life_intervals.specs.Generator.{generator_of, last_unit}
use Rattle.request_words.specs.declared.usage.Request.{Request}
use Rattle.row_lines.specs.Lines.{table_text}
use Rattle.schema_facts.specs.Dictionaries.{Project}
use Rattle.update_box.specs.declared.parts.Content.TheVariants.{Deleted, Inserted, Updated}
use Rattle.update_box.specs.declared.parts.Job.{Job}
use Rattle.run_jobs.specs.DueFiles.{package_of}
use Rattle.table_jobs.specs.declared.modes.sample.Changed.{Changed}
use Rattle.table_jobs.specs.declared.modes.sample.TableTexts.{TableTexts}
use Rattle.table_jobs.specs.modes.Sample.{later_units, lines_at, text_and_changes}

-- what is asked of a table alone, whole
abbrev pub whole_job : Project → Request → ℕ → ℕ → Job
whole_job plan request table unit = record { unit = unit; table = Some table; «package» = package_of plan request; node = 0; nodes = 1 }

-- so few lines that those of a text can be added
pub record AreFew (changed : Changed) : Type 0 where
  pub deleted : changed.deleted < 2 ^ 100
  pub updated : changed.updated < 2 ^ 100
  pub inserted : changed.inserted < 2 ^ 100

-- by those of one text more
pub record RiseLittle (before now : Changed) : Type 0 where
  pub deleted : now.deleted < before.deleted + 2 ^ 64
  pub updated : now.updated < before.updated + 2 ^ 64
  pub inserted : now.inserted < before.inserted + 2 ^ 64

-- the texts of the table at a place, and how many lines the units change
pub record AreTexts (plan : Project) (place : ℕ) (texts : TableTexts) : Type 0 where
  pub inputs : texts.inputs ≡ text_and_changes plan place (later_units plan)
  pub deleted : texts.changed.deleted ≡ lines_at plan place Deleted (later_units plan)
  pub updated : texts.changed.updated ≡ lines_at plan place Updated (later_units plan)
  pub inserted : texts.changed.inserted ≡ lines_at plan place Inserted (later_units plan)
  pub last : texts.last.items ≡ table_text (generator_of plan) (last_unit plan) place
