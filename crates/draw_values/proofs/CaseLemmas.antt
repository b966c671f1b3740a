-- The fields of a column of cases over a run of rows, by what a plan keeps ready for the column and for the one that it goes by.
use Rattle.std.proofs.Common.{◌≡◌, ◌<◌, ◌≤◌, ℕ, Bool, true, false, max, List, [], ◌∷◌, if◌then◌else◌, get_or, length, map, option_map, Option, None, Some, refl, ap, sym, ◌∙◌, length-append, arith}
use Rattle.std.specs.Prelude.{codes, unwrap_or}
use Rattle.std.specs.List.{list_all}
use Rattle.std.proofs.lemmas.List.Folds.{list_all_at}
use Rattle.philox_seeds.specs.SeedTree.{column_seed, draw, table_seed}
use Rattle.line_pages.specs.declared.piece.Piece.{Piece}
use Rattle.line_pages.specs.Pieces.{piece_text}
use Rattle.row_text.specs.Fields.{escaped_text, field_text}
use Rattle.schema_plan.specs.declared.ready.ReadyColumn.{ReadyColumn}
use Rattle.schema_plan.specs.declared.ready.ReadyKind.{ReadyKind}
use Rattle.schema_plan.specs.declared.ready.ReadyKind.TheVariants as kind
use Rattle.schema_plan.specs.declared.ready.ReadyLeaf.{ReadyLeaf}
use Rattle.schema_plan.specs.declared.ready.ReadyLeaf.TheVariants as leaf
use Rattle.schema_facts.specs.Dictionaries.{Project}
use Rattle.schema_facts.specs.FieldSizes.{greatest_by}
use Rattle.schema_facts.specs.Layout.{KindLayout, key_kind, born_kind, changed_kind, leaf_kind, template_kind, case_kind, reference_kind, lookup_kind, list_kind, unit_date_kind, after_kind, sum_kind, product_kind, column_at, layout_of, table_at}
use Rattle.schema_plan.specs.Limits.{IsTableInLimits}
use Rattle.schema_plan.specs.Ready.{ready_columns, ready_kind}
use Rattle.draw_values.specs.declared.runs.RunRows.{RunRows}
use Rattle.draw_values.specs.Cases.{case_text, entry_drawn}
use Rattle.draw_values.specs.ReadyValues.{IsReadyPick, chooser_of, ready_branch, ready_entry, ready_field, ready_held_entry, ready_kind_size, ready_size, ready_text, ready_value}
use Rattle.draw_values.specs.Runs.{IsRunColumn, RunColumnOf, is_case, is_short_leaf, ready_at, run_field, run_row, run_seed, text_by, with_behind}
use Rattle.draw_values.specs.Values.{Draws, draws_at, is_null, is_own, size_at, unless_null, value_at}
use Rattle.draw_values.proofs.FieldLemmas.{IsKeptField, kept_field, length-field_text, size_at-kept, value_at-kept}
use Rattle.draw_values.proofs.RunLemmas.{field_text-kept, leaf_text_size, or_null, run_draws, text-short, text_by-ready}
use Rattle.draw_values.proofs.SizeLemmas.{greatest_by-each}

-- ---- the column

case_own : (delimiter : ℕ) (held : KindLayout) → is_case (ready_kind delimiter held) ≡ true → is_own held ≡ true
case_own delimiter key_kind case = case
case_own delimiter born_kind case = refl
case_own delimiter changed_kind case = refl
case_own delimiter (leaf_kind drawn) case = refl
case_own delimiter (template_kind parts) case = case
case_own delimiter (case_kind on branches) case = refl
case_own delimiter (reference_kind parent window spread nulls drawn) case = case
case_own delimiter (lookup_kind via parent name) case = case
case_own delimiter (list_kind words) case = refl
case_own delimiter (unit_date_kind changed start step) case = refl
case_own delimiter (after_kind of lo hi) case = case
case_own delimiter (sum_kind of) case = case
case_own delimiter (product_kind of) case = case

-- the column that is kept for cases, and the one that they go by
pub kept_case : (plan : Project) (run : RunColumnOf) (kept : List ReadyColumn) (own pick : ReadyColumn) (on units : ℕ) (branches : List ReadyLeaf) → IsRunColumn plan run →
    kept ≡ ready_columns (layout_of plan) run.table → IsTableInLimits units (table_at (layout_of plan).tables run.table) → own ≡ get_or kept run.column own → own ≡ ready_at plan run.table run.column →
    own.kind ≡ kind.Case on branches → pick ≡ get_or kept on pick → IsKeptField (layout_of plan) run.table run.column on own pick
kept_case plan run kept own pick on units branches of kept_is limits at is case pick_at =
    let held : KindLayout = (column_at (table_at (layout_of plan).tables run.table).columns run.column).kind in
    let cased : is_case (ready_kind (layout_of plan).delimiter held) ≡ true = ap (λ (found : ReadyColumn). is_case found.kind) (sym is) ∙ ap is_case case in
    kept_field (layout_of plan) run.table run.column on units kept own pick kept_is limits of.column_within (case_own (layout_of plan).delimiter held cased) at (sym (ap (chooser_of run.column) case)) pick_at

-- ---- entries and branches

entry_some : (held : ReadyKind) (draws : Draws) → IsReadyPick held → ready_entry held draws ≡ Some (entry_drawn held draws)
entry_some (kind.Drawn (leaf.Pick entries weights total)) draws pick = refl
entry_some (kind.Drawn (leaf.Int lo hi step count)) draws pick = absurd pick
entry_some (kind.Drawn (leaf.Fixed lo hi count decimals unit)) draws pick = absurd pick
entry_some (kind.Drawn (leaf.Date lo hi count)) draws pick = absurd pick
entry_some (kind.Drawn (leaf.Skew lo weights total)) draws pick = absurd pick
entry_some (kind.Drawn (leaf.Chars lo lengths characters count)) draws pick = absurd pick
entry_some (kind.Drawn (leaf.Dict words)) draws pick = absurd pick
entry_some (kind.Drawn (leaf.Words lo lengths words)) draws pick = absurd pick
entry_some (kind.Drawn leaf.Uuid) draws pick = absurd pick
entry_some kind.Key draws pick = absurd pick
entry_some kind.Born draws pick = absurd pick
entry_some kind.Changed draws pick = absurd pick
entry_some (kind.Template parts) draws pick = absurd pick
entry_some (kind.Case on branches) draws pick = absurd pick
entry_some (kind.Reference reference) draws pick = absurd pick
entry_some (kind.Lookup lookup) draws pick = absurd pick
entry_some (kind.List list) draws pick = absurd pick
entry_some (kind.UnitDate date) draws pick = absurd pick
entry_some (kind.After after) draws pick = absurd pick
entry_some (kind.Sum of) draws pick = absurd pick
entry_some (kind.Product of) draws pick = absurd pick

decided : (b : Bool) → (b ≡ false → ⊥) → b ≡ true
decided true not_false = refl
decided false not_false = absurd (not_false refl)

clash : (b : Bool) → b ≡ true → b ≡ false → ⊥
clash b is_true is_false = cc

branch_short : (branches : List ReadyLeaf) (place : ℕ) → list_all is_short_leaf branches ≡ true → place < length branches → is_short_leaf (ready_branch branches place) ≡ true
branch_short branches place short within =
    decided (is_short_leaf (ready_branch branches place))
    (λ long. clash (list_all is_short_leaf branches) short (list_all_at is_short_leaf branches place (ready_branch [] 0) within long))

-- ---- fields

-- what a case holds, by whether its own field and that of its pick column are null
abbrev held_case : Bool → Bool → List ℕ → Option (List ℕ)
held_case own_null pick_null text = if own_null then None else (if pick_null then None else Some text)

by_nulls : (own_null pick_null : Bool) (behind : ℕ) (text : List ℕ) →
    (if own_null then with_behind behind (codes "\\N") else (if pick_null then with_behind behind (codes "\\N") else with_behind behind text)) ≡ with_behind behind (or_null (held_case own_null pick_null text))
by_nulls true pick_null behind text = refl
by_nulls false true behind text = refl
by_nulls false false behind text = refl

chosen_branch : (own_null pick_null : Bool) (text_of : ℕ → List ℕ) (entry : ℕ) →
    (if own_null then None else option_map text_of (if pick_null then None else Some entry)) ≡ held_case own_null pick_null (text_of entry)
chosen_branch true pick_null text_of entry = refl
chosen_branch false true text_of entry = refl
chosen_branch false false text_of entry = refl

-- the draws of the pick column's fields
pick_draws : (plan : Project) (run : RunColumnOf) (pick : ReadyColumn) (rows : RunRows) (i on chooser : ℕ) → chooser ≡ column_seed (table_seed (layout_of plan).seed run.table) on → pick ≡ ready_at plan run.table on →
    draw (run_seed chooser pick.changes rows i) ≡ draws_at (layout_of plan) run.table (run_row rows i) on
pick_draws plan run pick rows i on chooser seed is =
    ap (λ (s : ℕ). draw (run_seed s pick.changes rows i)) seed
    ∙ ap (λ (found : ReadyColumn). draw (run_seed (column_seed (table_seed (layout_of plan).seed run.table) on) found.changes rows i)) is

-- what is known of a field of cases
pub record IsCaseAt (plan : Project) (run : RunColumnOf) (own pick : ReadyColumn) (on : ℕ) (branches : List ReadyLeaf) (chooser : ℕ) : Type 0 where
  pub of : IsRunColumn plan run
  pub kept : IsKeptField (layout_of plan) run.table run.column on own pick
  pub own_is : own ≡ ready_at plan run.table run.column
  pub case : own.kind ≡ kind.Case on branches
  pub pick_is : IsReadyPick pick.kind
  pub chooser_is : chooser ≡ column_seed (table_seed (layout_of plan).seed run.table) on
  pub short : list_all is_short_leaf branches ≡ true

-- the value of the field
case_held : (plan : Project) (run : RunColumnOf) (own pick : ReadyColumn) (on : ℕ) (branches : List ReadyLeaf) (chooser : ℕ) (rows : RunRows) (i : ℕ) → IsCaseAt plan run own pick on branches chooser →
    entry_drawn pick.kind (draw (run_seed chooser pick.changes rows i)) < length branches →
    ready_field (run_row rows i) pick (draw (run_seed chooser pick.changes rows i)) own (draw (run_seed run.seed own.changes rows i))
    ≡ held_case (is_null own.null (draw (run_seed run.seed own.changes rows i))) (is_null pick.null (draw (run_seed chooser pick.changes rows i)))
    (text_by (ready_branch branches (entry_drawn pick.kind (draw (run_seed chooser pick.changes rows i)))) (draw (run_seed run.seed own.changes rows i) 1))
case_held plan run own pick on branches chooser rows i known within =
    let own_draws : Draws = draw (run_seed run.seed own.changes rows i) in
    let draws : Draws = draw (run_seed chooser pick.changes rows i) in
    let entry : ℕ = entry_drawn pick.kind draws in
    let held : Option ℕ = ready_held_entry pick draws in
    let text_of : ℕ → List ℕ = λ (e : ℕ). ready_text (ready_branch branches e) own_draws in
    ap (λ (found : ReadyKind). unless_null own.null own_draws (ready_value (run_row rows i) held own_draws found)) known.case
    ∙ ap (λ (found : Option ℕ). unless_null own.null own_draws (option_map text_of (unless_null pick.null draws found))) (entry_some pick.kind draws known.pick_is)
    ∙ chosen_branch (is_null own.null own_draws) (is_null pick.null draws) text_of entry
    ∙ ap (held_case (is_null own.null own_draws) (is_null pick.null draws)) (text_by-ready (ready_branch branches entry) own_draws (branch_short branches entry known.short within))

case_value : (plan : Project) (run : RunColumnOf) (own pick : ReadyColumn) (on : ℕ) (branches : List ReadyLeaf) (chooser : ℕ) (rows : RunRows) (i : ℕ) → IsCaseAt plan run own pick on branches chooser →
    option_map (escaped_text (layout_of plan).delimiter) (value_at (layout_of plan) run.table run.column (run_row rows i))
    ≡ ready_field (run_row rows i) pick (draw (run_seed chooser pick.changes rows i)) own (draw (run_seed run.seed own.changes rows i))
case_value plan run own pick on branches chooser rows i known =
    value_at-kept (layout_of plan) run.table run.column on own pick known.kept (run_row rows i) (run_row rows i) (draw (run_seed run.seed own.changes rows i)) (draw (run_seed chooser pick.changes rows i)) refl
    (run_draws plan run own rows i known.of known.own_is) (pick_draws plan run pick rows i on chooser known.chooser_is known.kept.chooser_is)

-- the text that is put for it
pub run_field-case : (plan : Project) (run : RunColumnOf) (own pick : ReadyColumn) (on : ℕ) (branches : List ReadyLeaf) (chooser : ℕ) (rows : RunRows) (i : ℕ) → IsCaseAt plan run own pick on branches chooser →
    entry_drawn pick.kind (draw (run_seed chooser pick.changes rows i)) < length branches →
    case_text run own pick branches (draw (run_seed run.seed own.changes rows i)) (draw (run_seed chooser pick.changes rows i)) ≡ run_field plan run rows i
run_field-case plan run own pick on branches chooser rows i known within =
    let own_draws : Draws = draw (run_seed run.seed own.changes rows i) in
    let draws : Draws = draw (run_seed chooser pick.changes rows i) in
    by_nulls (is_null own.null own_draws) (is_null pick.null draws) run.behind (text_by (ready_branch branches (entry_drawn pick.kind draws)) (own_draws 1))
    ∙ ap (λ (value : Option (List ℕ)). with_behind run.behind (or_null value)) (sym (case_held plan run own pick on branches chooser rows i known within))
    ∙ ap (with_behind run.behind) (sym (field_text-kept (layout_of plan).delimiter (value_at (layout_of plan) run.table run.column (run_row rows i)) _ (case_value plan run own pick on branches chooser rows i known)))

-- ---- sizes

case_size : (own_null pick_null : Bool) (behind : ℕ) (drawn : ReadyLeaf) (number most : ℕ) → is_short_leaf drawn ≡ true → ready_size drawn ≤ most →
    length (if own_null then with_behind behind (codes "\\N") else (if pick_null then with_behind behind (codes "\\N") else with_behind behind (text_by drawn number))) ≤ 16 →
    length (unwrap_or (held_case own_null pick_null (text_by drawn number)) []) ≤ most
case_size true pick_null behind drawn number most short fits few = omega arith
case_size false true behind drawn number most short fits few = omega arith
case_size false false behind drawn number most short fits few =
    let at_most : length (text_by drawn number) ≤ 15 = omega (arith, few, length-append (text_by drawn number) (behind ∷ [])) in
    omega (arith, fits, leaf_text_size drawn number short at_most)

-- a field that is put as a piece is no longer than the greatest size of the column's
pub run_size-case : (plan : Project) (run : RunColumnOf) (own pick : ReadyColumn) (on : ℕ) (branches : List ReadyLeaf) (chooser : ℕ) (rows : RunRows) (i : ℕ) (pieces : List Piece) → IsCaseAt plan run own pick on branches chooser →
    entry_drawn pick.kind (draw (run_seed chooser pick.changes rows i)) < length branches →
    get_or (map piece_text pieces) i [] ≡ case_text run own pick branches (draw (run_seed run.seed own.changes rows i)) (draw (run_seed chooser pick.changes rows i)) →
    length (field_text (layout_of plan).delimiter (value_at (layout_of plan) run.table run.column (run_row rows i))) ≤ size_at (layout_of plan) run.table run.column
run_size-case plan run own pick on branches chooser rows i pieces known within put =
    let own_draws : Draws = draw (run_seed run.seed own.changes rows i) in
    let draws : Draws = draw (run_seed chooser pick.changes rows i) in
    let entry : ℕ = entry_drawn pick.kind draws in
    let few : length (case_text run own pick branches own_draws draws) ≤ 16 = omega (arith, ap (length {A = ℕ}) put, text-short pieces i) in
    omega (
      arith,
      length-field_text (layout_of plan).delimiter (greatest_by ready_size branches) (value_at (layout_of plan) run.table run.column (run_row rows i)) _
          (case_value plan run own pick on branches chooser rows i known ∙ case_held plan run own pick on branches chooser rows i known within)
          (case_size (is_null own.null own_draws) (is_null pick.null draws) run.behind (ready_branch branches entry) (own_draws 1) (greatest_by ready_size branches)
          (branch_short branches entry known.short within) (greatest_by-each ready_size branches entry (ready_branch [] 0) within) few),
      size_at-kept (layout_of plan) run.table run.column on own pick known.kept,
      ap (λ (held : ReadyKind). max 2 (ready_kind_size held)) known.case,
    )
