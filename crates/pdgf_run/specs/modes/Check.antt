-- Mode check: a line for each table, on the standard output.
use Rattle.std.specs.Prelude.{ℕ, ◌++◌, List, length, flat_map, Option, Some, None, Result, Ok, codes, decimal}
use Rattle.std.specs.List.{range_with_len}
use Rattle.pd_outside.specs.Files.{File}
use Rattle.schema_facts.specs.Dictionaries.{Project}
use Rattle.schema_facts.specs.Layout.{layout_of}
use Rattle.schema_facts.specs.Lineage.{sure_life}
use Rattle.schema_facts.specs.TableFacts.{cost, max_line}
use Rattle.life_intervals.specs.Generator.{rows_in_all}
use Rattle.refusals.specs.declared.refusal.JobFault.{JobFault}
use Rattle.update_box.specs.Parts.{name_at}
use Rattle.run_jobs.specs.DueFiles.{text_files}

-- how long the rows of a table live for sure, as it is told
abbrev pub life_text : Option ℕ → List ℕ
life_text None = codes "none"
life_text (Some units) = decimal units

-- what is told of a table: its name, the rows born in all units, its sure life, its cost and its greatest line
abbrev pub check_line : Project → ℕ → List ℕ
check_line plan place =
    name_at plan.schema place ++ codes "\t"
    ++ decimal (rows_in_all plan place) ++ codes "\t"
    ++ life_text (sure_life (layout_of plan).tables place) ++ codes "\t"
    ++ decimal (cost (layout_of plan) place) ++ codes "\t"
    ++ decimal (max_line (layout_of plan) place) ++ codes "\n"

-- the lines of the first tables of a plan, as many as `count`
unfoldable pub check_lines : Project → ℕ → List ℕ
check_lines plan count = flat_map (check_line plan) (range_with_len 0 count)

-- the file of a check: a line for each table on the standard output
abbrev pub check_files : Project → List File
check_files plan = text_files (check_lines plan (length plan.schema.tables))

-- what the mode is due: nothing that it is asked for is out of the schema's range
abbrev pub check_due : Project → Result (List File) JobFault
check_due plan = Ok (check_files plan)
