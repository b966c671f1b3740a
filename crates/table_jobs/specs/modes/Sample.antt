-- Mode sample: of a sample's tables, which a size gives, what they hold first and last and what the units between change, on the standard
-- output.
use Rattle.std.specs.Prelude.{◌≡◌, ◌≤◌, ℕ, ◌==◌, ◌++◌, Bool, true, false, List, ◌∷◌, count_by, codes, decimal, flat_map, length, nat_lt, Result, Ok, Err, sum}
use Rattle.std.specs.List.{AllZip, range_with_len, sum_by}
use Rattle.pd_outside.specs.Files.{File}
use Rattle.life_intervals.specs.Generator.{generator_of, last_unit}
use Rattle.row_lines.specs.Lines.{table_text}
use Rattle.refusals.specs.declared.refusal.JobFault.{JobFault}
use Rattle.refusals.specs.declared.refusal.JobFault.TheVariants.{Range}
use Rattle.request_words.specs.declared.usage.OptionName.TheVariants as option
use Rattle.request_words.specs.declared.usage.Request.{Request}
use Rattle.sample_tables.specs.Schema.{sample_project}
use Rattle.schema_facts.specs.Dictionaries.{Project}
use Rattle.schema_facts.specs.Layout.{layout_of}
use Rattle.schema_facts.specs.TableFacts.{reach}
use Rattle.stream_apply.specs.InTurn.{IsAppliedText}
use Rattle.stream_apply.specs.declared.key_fields.KeyFields.TheVariants.{One}
use Rattle.update_box.specs.Parts.{content_text, name_at}
use Rattle.update_box.specs.TextLaws.{unit_streams}
use Rattle.update_box.specs.declared.parts.Content.{Content}
use Rattle.update_box.specs.declared.parts.Content.TheVariants.{Deleted, Inserted, Updated}
use Rattle.run_jobs.specs.DueFiles.{most_page_bytes, package_of, page_bytes, text_files}

-- ---- what is told of a table

-- how many lines a text has
abbrev pub lines_in : List ℕ → ℕ
lines_in text = count_by (λ byte. byte == 10) text

-- the units at which a plan's tables change: all but unit 0
abbrev pub later_units : Project → List ℕ
later_units plan = range_with_len 1 (last_unit plan)

-- how many lines the texts of a content of the table at a place have together at some units
abbrev pub lines_at : Project → ℕ → Content → List ℕ → ℕ
lines_at plan place content units = sum_by (λ unit. lines_in (content_text plan unit place content)) units

-- its name, the lines and bytes of its text at unit 0, how many rows are deleted, updated and inserted, and the lines and bytes of its text
-- at the last unit
abbrev pub table_line : Project → ℕ → List ℕ
table_line plan place =
    name_at plan.schema place ++ codes "\t"
    ++ decimal (lines_in (table_text (generator_of plan) 0 place)) ++ codes "\t"
    ++ decimal (length (table_text (generator_of plan) 0 place)) ++ codes "\t"
    ++ decimal (lines_at plan place Deleted (later_units plan)) ++ codes "\t"
    ++ decimal (lines_at plan place Updated (later_units plan)) ++ codes "\t"
    ++ decimal (lines_at plan place Inserted (later_units plan)) ++ codes "\t"
    ++ decimal (lines_in (table_text (generator_of plan) (last_unit plan) place)) ++ codes "\t"
    ++ decimal (length (table_text (generator_of plan) (last_unit plan) place)) ++ codes "\n"

-- ---- what the changes make

-- the text of a table at unit 0 and what some units change in it, in the order in which that is applied
abbrev pub text_and_changes : Project → ℕ → List ℕ → List (List ℕ)
text_and_changes plan place units = table_text (generator_of plan) 0 place ∷ flat_map (unit_streams plan place) units

-- what it makes with what all units change
abbrev pub IsLaterText : Project → ℕ → List ℕ → Type 0
IsLaterText plan place text = IsAppliedText One (layout_of plan).delimiter (text_and_changes plan place (later_units plan)) text

-- the sum of all bytes of some texts, as numbers from 0 to 255
abbrev pub sum_of_bytes : List (List ℕ) → ℕ
sum_of_bytes texts = sum_by sum texts

-- ---- the summary

-- a line for each table, and the sum of all bytes of the texts that their changes make
abbrev pub summary_of : Project → List (List ℕ) → List ℕ
summary_of plan made =
    flat_map (table_line plan) (range_with_len 0 (length plan.schema.tables))
    ++ codes "sum " ++ decimal (sum_of_bytes made) ++ codes "\n"

abbrev pub IsSummary : Project → List ℕ → Type 0
IsSummary plan text =
    (made : List (List ℕ)) × AllZip (IsLaterText plan) (range_with_len 0 (length plan.schema.tables)) made
    × (text ≡ summary_of plan made)

-- ---- what is due

-- the packages of a request are such as the pages of its workers take
abbrev pub HaveRoom : Project → Request → Type 0
HaveRoom plan request = page_bytes request.workers (package_of plan request) (reach (layout_of plan)) ≤ most_page_bytes

-- packages that they don't take are refused
abbrev pub IsSampleUnless : Bool → Project → Result (List File) JobFault → Type 0
IsSampleUnless true plan answer = answer ≡ Err (Range option.Package)
IsSampleUnless false plan answer = (text : List ℕ) × IsSummary plan text × (answer ≡ Ok (text_files text))

abbrev pub IsSampleOf : Project → Request → Result (List File) JobFault → Type 0
IsSampleOf plan request answer =
    IsSampleUnless (nat_lt most_page_bytes (page_bytes request.workers (package_of plan request) (reach (layout_of plan)))) plan answer

-- what the mode is due: the summary of the sample of the request's size
abbrev pub IsSampleDue : Request → Result (List File) JobFault → Type 0
IsSampleDue request answer = IsSampleOf (sample_project request.size) request answer
