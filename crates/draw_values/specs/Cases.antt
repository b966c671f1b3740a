-- The fields of a column of cases over a run of rows, where all their branches are short.
use Rattle.std.specs.Prelude.{ℕ, List, if◌then◌else◌, unwrap_or}
use Rattle.philox_seeds.specs.SeedTree.{draw}
use Rattle.schema_plan.specs.declared.ready.ReadyColumn.{ReadyColumn}
use Rattle.schema_plan.specs.declared.ready.ReadyKind.{ReadyKind}
use Rattle.schema_plan.specs.declared.ready.ReadyLeaf.{ReadyLeaf}
use Rattle.draw_values.specs.ReadyValues.{ready_branch, ready_entry}
use Rattle.draw_values.specs.Runs.{RunColumnOf, null_text, text_by, with_behind}
use Rattle.draw_values.specs.Values.{Draws, is_null}

-- the number of the entry that the draws of a pick's field select; 0 of any other kind
abbrev pub entry_drawn : ReadyKind → Draws → ℕ
entry_drawn held draw = unwrap_or (ready_entry held draw) 0

-- what is written for a case that isn't null, by its own draws and those of its pick column, with the byte after it
abbrev pub branch_text : RunColumnOf → ReadyKind → List ReadyLeaf → Draws → Draws → List ℕ
branch_text run pick branches own_draws pick_draws =
    with_behind run.behind (text_by (ready_branch branches (entry_drawn pick pick_draws)) (own_draws 1))

-- the same of one that is null where it is drawn to be, and where its pick column's field is
abbrev pub case_text : RunColumnOf → ReadyColumn → ReadyColumn → List ReadyLeaf → Draws → Draws → List ℕ
case_text run own pick branches own_draws pick_draws =
    if is_null own.null own_draws then null_text run
    else (if is_null pick.null pick_draws then null_text run else branch_text run pick.kind branches own_draws pick_draws)
