-- Lines side by side: what is drawn of them, and the fields that are made of them.
use Rattle.std.proofs.Common.{◌≡◌, ◌<◌, ◌≤◌, ◌+◌, ◌+ℤ◌, ℕ, ℤ, pos, Bool, true, false, List, Option, Some, None, get_or, if◌then◌else◌, length, refl, ap, sym, subst, ◌∙◌, arith}
use Rattle.philox_seeds.specs.SeedTree.{column_seed, draw, row_seed, unit_seed}
use Rattle.line_pages.specs.declared.piece.Piece.{Piece}
use Rattle.line_pages.specs.Rows.{piece_text_at}
use Rattle.row_text.specs.Fields.{field_text}
use Rattle.schema_plan.specs.declared.ready.ReadyAfter.{ReadyAfter}
use Rattle.schema_plan.specs.declared.ready.ReadyKind.{ReadyKind}
use Rattle.schema_plan.specs.declared.ready.ReadyKind.TheVariants as kind
use Rattle.schema_plan.specs.declared.ready.ReadyLeaf.{ReadyLeaf}
use Rattle.schema_facts.specs.Ends.{IsBetween, IsInCalendar}
use Rattle.schema_facts.specs.FieldSizes.{size_of}
use Rattle.schema_facts.specs.Layout.{KindLayout, column_at, table_layouts}
use Rattle.schema_plan.specs.Ready.{ready_kind}
use Rattle.draw_values.specs.declared.runs.RunRows.{RunRows}
use Rattle.draw_values.specs.declared.values.RowAt.{RowAt}
use Rattle.draw_values.specs.Dates.{date_text}
use Rattle.draw_values.specs.ReadyValues.{ready_own_day, ready_size, ready_text}
use Rattle.draw_values.specs.Runs.{drawn_field, is_short_leaf, null_behind, run_row, run_seed, short_value, text_by, with_behind}
use Rattle.draw_values.specs.Values.{Draws, chosen, is_null}
use Rattle.draw_values.proofs.RunLemmas.{leaf_text_size, text_by-ready}
use Rattle.row_lines.specs.RowViews.{at_row}
use Rattle.row_lines.specs.Runs.{behind}
use Rattle.row_lines.proofs.RunValueLemmas.{length-date, never_null}
use Rattle.std.proofs.lemmas.List.FromFn.{get_or-map-range_with_len, length-map-range_with_len}
use Rattle.schema_plan.specs.declared.ready.ReadyColumn.{ReadyColumn}
use Rattle.schema_plan.specs.Limits.{IsInLimits as IsPlanInLimits}
use Rattle.schema_facts.specs.Layout.{after_kind, leaf_kind, lookup_kind, product_kind, sum_kind}
use Rattle.draw_values.specs.Runs.{AreOfLength, AreRunRows, DrawnColumnOf, IsReadyDrawn}
use Rattle.draw_values.proofs.ReadyLemmas.{leaf_is_ready}
use Rattle.life_intervals.specs.Generator.{generator_of, last_unit}
use Rattle.life_intervals.proofs.LifeLemmas.{change_unit-le}
use Rattle.detail_lines.specs.Made.{prepared_columns}
use Rattle.detail_lines.proofs.ColumnLemmas.{IsKnown, known, ready_at, ready_count}
use Rattle.detail_plan.specs.Kept.{KeepsRules}
use Rattle.detail_plan.specs.Limits.{IsInLimits}
use Rattle.detail_lines.specs.declared.detail_lines.LineKind.TheVariants.{Whole}
use Rattle.detail_lines.specs.declared.line_run.LineRun.{LineRun}
use Rattle.detail_lines.specs.Lines.{draws_of_line, line_day_in, line_ordinal, line_value}
use Rattle.detail_lines.specs.LineRuns.{AreDays, AreFields, AreLines, drawn_row, line_of}
use Rattle.detail_lines.specs.Made.{LineOver, LinesOver, behind_over, columns_over, delimiter_over, detail_seed, line_over, own_over, place_over, prepared_column, ready_over, row_of, size_over}
use Rattle.detail_lines.specs.Shown.{IsAfterAt, IsDayAt, IsInCalendar as IsInYears, value_text}
use Rattle.detail_lines.proofs.LineValueLemmas.{after-calendar, after_as, day-drawn, day-from, drawn_as, size-after, size-drawn, text-after, text-drawn}
use Rattle.detail_lines.proofs.ToldLemmas.{units-told}
use Rattle.detail_lines.proofs.ShownLemmas.{day_is}

-- ---- columns

-- as they are read
pub ready-of : (over : LinesOver) → KeepsRules over.plan over.kept → IsInLimits over.kept.lists over.kept.detail → (column : ℕ) → column < own_over over → (columns : List ReadyColumn) (found : ReadyColumn) → columns ≡ over.kept.columns →
    found ≡ get_or columns column found → found ≡ ready_over over column
ready-of over keeps limits column within columns found are at =
    at ∙ ap (λ (all : List ReadyColumn). get_or all column found) are ∙ ready_at over.plan over.kept keeps limits column found within

pub ready-length : (over : LinesOver) → KeepsRules over.plan over.kept → IsInLimits over.kept.lists over.kept.detail → (columns : List ReadyColumn) → columns ≡ over.kept.columns → length columns ≡ own_over over + 1
ready-length over keeps limits columns are = ap (λ (all : List ReadyColumn). length all) are ∙ ready_count over.plan over.kept keeps limits

pub prepared-of : (over : LinesOver) (column : ℕ) → column < own_over over → (columns : List DrawnColumnOf) (found : DrawnColumnOf) → columns ≡ prepared_columns over → found ≡ get_or columns column found → found ≡ prepared_column over column
prepared-of over column within columns found are at =
    at ∙ ap (λ (all : List DrawnColumnOf). get_or all column found) are ∙ get_or-map-range_with_len (prepared_column over) 0 (own_over over) column column found within (omega arith)

pub prepared-length : (over : LinesOver) (columns : List DrawnColumnOf) → columns ≡ prepared_columns over → length columns ≡ own_over over
prepared-length over columns are = ap (λ (all : List DrawnColumnOf). length all) are ∙ length-map-range_with_len (prepared_column over) 0 (own_over over)

-- what is drawn is within its limits
pub drawn-ready : (over : LinesOver) → KeepsRules over.plan over.kept → IsInLimits over.kept.lists over.kept.detail → (column : ℕ) → column < own_over over → IsReadyDrawn (ready_over over column).kind
drawn-ready over keeps limits column within = of_kind (column_at (columns_over over) column).kind (known over.plan over.kept keeps limits column within)
  where
    of_kind : (held : KindLayout) → IsKnown over.plan over.kept.detail over.kept.facts column held → IsReadyDrawn (ready_kind (delimiter_over over) held)
    of_kind (leaf_kind leaf) knows = leaf_is_ready (delimiter_over over) leaf knows.limits
    of_kind (lookup_kind via parent name) knows = tt
    of_kind (after_kind of lo hi) knows = tt
    of_kind (sum_kind of) knows = tt
    of_kind (product_kind of) knows = tt
    of_kind _ knows = absurd knows

-- lines as rows whose fields are drawn
pub run-rows : (over : LinesOver) (unit count : ℕ) (run : LineRun) (rows : RunRows) → IsPlanInLimits over.plan → unit ≤ last_unit over.plan → AreLines over unit count run → AreOfLength count rows →
    ((k : ℕ) → k < count → run_row rows k ≡ drawn_row run k) → AreRunRows 10000 count rows
run-rows over unit count run rows sound within lines lengths are = record {
  few = lines.few;
  lengths = lengths;
  born = λ k inside. omega (arith, ap (λ (row : RowAt). row.born) (are k inside), (lines.told k inside).born, within, sound.unit_limit);
  changed = λ k inside.
      omega (
        arith,
        ap (λ (row : RowAt). row.changed) (are k inside),
        (lines.told k inside).changed refl,
        change_unit-le (generator_of over.plan) (place_over over) unit (get_or run.rows.ordinals.now k 0) (lines.told k inside).ordinal,
        within,
        sound.unit_limit,
      );
}

-- ---- nulls

-- a field where nulls are put for those that are drawn to be null
put-nulled : (null : Bool) (d behind : ℕ) (held : Option (List ℕ)) → (if null then null_behind behind else with_behind behind (field_text d held)) ≡ with_behind behind (field_text d (if null then None else held))
put-nulled true d behind held = refl
put-nulled false d behind held = refl

size-nulled : (null : Bool) (d size : ℕ) (held : Option (List ℕ)) → 2 ≤ size → length (field_text d held) ≤ size → length (field_text d (if null then None else held)) ≤ size
size-nulled true d size held room within = omega (arith, room)
size-nulled false d size held room within = within

module _ (over : LinesOver) (unit count : ℕ) (run : LineRun) (lines : AreLines over unit count run) (keeps : KeepsRules over.plan over.kept) (limits : IsInLimits over.kept.lists over.kept.detail) (below : place_over over < length over.plan.schema.tables) where
  abbrev d : ℕ
  d = delimiter_over over

  abbrev at : ℕ → LineOver
  at k = line_of over unit run k

  abbrev kind_at : ℕ → KindLayout
  kind_at column = (column_at (columns_over over) column).kind

  abbrev AreRows : RunRows → Type 0
  AreRows rows = (k : ℕ) → k < count → run_row rows k ≡ drawn_row run k

  -- ---- draws

  -- the units of a line's row, and the ordinal by which its fields are drawn
  pub seen : (k : ℕ) → k < count →
      drawn_row run k ≡ record { ordinal = line_ordinal (at k).ordinal (at k).number; born = (at_row (line_over (at k)).row).born; changed = (at_row (line_over (at k)).row).changed }
  seen k inside =
      ap (λ (drawn : ℕ). record { ordinal = drawn; born = get_or run.rows.births.now k 0; changed = get_or run.rows.changes.now k 0 }) (lines.drawn_are k inside)
      ∙ ap (λ (row : RowAt). record { ordinal = line_ordinal (at k).ordinal (at k).number; born = row.born; changed = row.changed })
      (units-told over unit Whole (row_of run.rows k) below (lines.told k inside) refl)

  -- the draws of its field in a column
  pub drawn-seen : (rows : RunRows) → AreRows rows → (column k : ℕ) → k < count →
      draw (run_seed (column_seed (detail_seed over.kept) column) (ready_over over column).changes rows k) ≡ draws_of_line (line_over (at k)) column
  drawn-seen rows are column k inside =
      ap (λ (row : RowAt). draw (row_seed (unit_seed (column_seed (detail_seed over.kept) column) (if (ready_over over column).changes then row.changed else row.born)) row.ordinal)) (are k inside ∙ seen k inside)

  -- ---- fields

  -- fields of which the values are made, and then the nulls
  pub made-nulled : (rows : RunRows) → AreRows rows → (column : ℕ) (shows : ℕ → List ℕ) (pieces : List Piece) → 2 ≤ size_over over column →
      ((k : ℕ) → k < count → shows k ≡ value_text (at k) column) → ((k : ℕ) → k < count → length (shows k) ≤ size_over over column) →
      ((k : ℕ) → k < count → piece_text_at pieces k
      ≡ (if is_null (ready_over over column).null (draw (run_seed (column_seed (detail_seed over.kept) column) (ready_over over column).changes rows k)) then null_behind (behind_over over column) else with_behind (behind_over over column) (shows k))) →
      AreFields over unit count run pieces 0 column
  made-nulled rows are column shows pieces room written size made = record {
    text = λ k inside.
        let begun : 0 + k ≡ k = omega arith in
        ap (piece_text_at pieces) begun ∙ made k inside
        ∙ ap (λ (draws : Draws). if is_null (ready_over over column).null draws then null_behind (behind_over over column) else with_behind (behind_over over column) (shows k)) (drawn-seen rows are column k inside)
        ∙ ap (λ (text : List ℕ). if is_null (ready_over over column).null (draws_of_line (line_over (at k)) column) then null_behind (behind_over over column) else with_behind (behind_over over column) text) (written k inside)
        ∙ put-nulled (is_null (ready_over over column).null (draws_of_line (line_over (at k)) column)) d (behind_over over column) (line_value (line_over (at k)) column (kind_at column));
    size = λ k inside.
        size-nulled (is_null (ready_over over column).null (draws_of_line (line_over (at k)) column)) d (size_over over column) (line_value (line_over (at k)) column (kind_at column)) room
        (subst (λ (text : List ℕ). length text ≤ size_over over column) (written k inside) (size k inside));
  }

  module _ (column : ℕ) (within : column < own_over over) where
    -- drawn values
    pub made-drawn : (rows : RunRows) → AreRows rows → (leaf : ReadyLeaf) → ready_kind d (kind_at column) ≡ kind.Drawn leaf → is_short_leaf leaf ≡ true → (pieces : List Piece) →
        ((k : ℕ) → k < count → piece_text_at pieces k ≡ drawn_field (prepared_column over column) (ready_over over column) rows k) →
        ((k : ℕ) → k < count → length (short_value (column_seed (detail_seed over.kept) column) (ready_over over column).changes (ready_over over column).kind rows k) ≤ 15) →
        AreFields over unit count run pieces 0 column
    made-drawn rows are leaf leaf_is short pieces made few =
        made-nulled rows are column value pieces room written
        (λ k inside. omega (
          arith,
          ap (λ (text : List ℕ). length text) (value_is k),
          leaf_text_size leaf (drawn k 1) short (omega (arith, few k inside, ap (λ (text : List ℕ). length text) (value_is k))),
          ready_fits k,
        ))
        made
      where
        drawn : ℕ → Draws
        drawn k = draw (run_seed (column_seed (detail_seed over.kept) column) (ready_over over column).changes rows k)

        value : ℕ → List ℕ
        value k = short_value (column_seed (detail_seed over.kept) column) (ready_over over column).changes (ready_over over column).kind rows k

        value_is : (k : ℕ) → value k ≡ text_by leaf (drawn k 1)
        value_is k = ap (λ (held : ReadyKind). short_value (column_seed (detail_seed over.kept) column) (ready_over over column).changes held rows k) leaf_is

        written : (k : ℕ) → k < count → value k ≡ value_text (at k) column
        written k inside =
            value_is k ∙ sym (text_by-ready leaf (drawn k) short)
            ∙ ap (ready_text leaf) (drawn-seen rows are column k inside)
            ∙ text-drawn (at k) keeps limits column within leaf leaf_is

        ready_fits : (k : ℕ) → ready_size leaf ≤ size_over over column
        ready_fits k = size-drawn (at k) keeps limits column within leaf leaf_is

        room : 2 ≤ size_over over column
        room =
            let found = drawn_as (at 0) keeps limits column within leaf leaf_is in
            omega (arith, ap (size_of d (table_layouts over.kept.lists over.plan.schema.tables) (columns_over over)) found.is)

    -- ---- dates

    -- days that are drawn
    pub days-drawn : (rows : RunRows) → AreRows rows → (leaf : ReadyLeaf) → ready_kind d (kind_at column) ≡ kind.Drawn leaf → (days : List ℤ) →
        ((k : ℕ) → k < count → ready_own_day (run_row rows k) (draw (run_seed (column_seed (detail_seed over.kept) column) (ready_over over column).changes rows k)) (ready_over over column).kind ≡ Some (get_or days k (pos 0))) →
        AreDays over unit count run days column
    days-drawn rows are leaf leaf_is days found = record {
      each = λ k inside.
          let draws : Draws = draw (run_seed (column_seed (detail_seed over.kept) column) (ready_over over column).changes rows k) in
          day-drawn (at k) keeps limits column within leaf leaf_is draws (drawn-seen rows are column k inside) (Some (get_or days k (pos 0)))
          (sym (found k inside) ∙ ap (λ (held : ReadyKind). ready_own_day (run_row rows k) draws held) leaf_is);
    }

    -- days that follow others
    module _ (rows : RunRows) (are : AreRows rows) (after : ReadyAfter) (after_is : ready_kind d (kind_at column) ≡ kind.After after) where
      pub is_after : (k : ℕ) → IsAfterAt (at k) column after
      is_after k = after_as (at k) keeps limits column within after after_is

      -- the earlier one, which isn't null
      earlier_in : (earlier : List ℤ) → AreDays over unit count run earlier after.of → (ready_over over after.of).null ≡ 0 → (k : ℕ) → k < count → (n : ℕ) → after.of < n → Some (get_or earlier k (pos 0)) ≡ line_day_in n (line_over (at k)) after.of
      earlier_in earlier of never k inside n past =
          day_is (at k) after.of n (Some (get_or earlier k (pos 0))) (never_null (ready_over over after.of).null (draws_of_line (line_over (at k)) after.of) never) (of.each k inside) past

      pub days-calendar : (earlier more : List ℤ) → AreDays over unit count run earlier after.of → (ready_over over after.of).null ≡ 0 →
          ((k : ℕ) → k < count → get_or more k (pos 0) ≡ chosen after.lo after.hi 1 (draw (run_seed (column_seed (detail_seed over.kept) column) (ready_over over column).changes rows k) 1)) →
          ((k : ℕ) → k < count → IsBetween after.lo after.hi (get_or more k (pos 0))) → (k : ℕ) → k < count → IsInCalendar (get_or earlier k (pos 0) +ℤ get_or more k (pos 0))
      days-calendar earlier more of never drawn between k inside =
          (day-from (at k) keeps limits column within after (is_after k) (get_or earlier k (pos 0)) (get_or more k (pos 0)) (earlier_in earlier of never k inside) (of.each k inside).1
          (drawn k inside ∙ ap (λ (draws : Draws). chosen after.lo after.hi 1 (draws 1)) (drawn-seen rows are column k inside)) (between k inside)).calendar

      pub days-later : (earlier more days : List ℤ) → AreDays over unit count run earlier after.of → (ready_over over after.of).null ≡ 0 →
          ((k : ℕ) → k < count → get_or more k (pos 0) ≡ chosen after.lo after.hi 1 (draw (run_seed (column_seed (detail_seed over.kept) column) (ready_over over column).changes rows k) 1)) →
          ((k : ℕ) → k < count → IsBetween after.lo after.hi (get_or more k (pos 0))) →
          ((k : ℕ) → k < count → get_or days k (pos 0) ≡ get_or earlier k (pos 0) +ℤ get_or more k (pos 0)) →
          AreDays over unit count run days column
      days-later earlier more days of never drawn between sums = record {
        each = λ k inside.
            subst (λ (day : ℤ). IsDayAt (at k) column (Some day)) (sym (sums k inside))
            (day-from (at k) keeps limits column within after (is_after k) (get_or earlier k (pos 0)) (get_or more k (pos 0)) (earlier_in earlier of never k inside) (of.each k inside).1
            (drawn k inside ∙ ap (λ (draws : Draws). chosen after.lo after.hi 1 (draws 1)) (drawn-seen rows are column k inside)) (between k inside)).shown;
      }

    -- dates after dates
    pub made-dates : (rows : RunRows) → AreRows rows → (after : ReadyAfter) → ready_kind d (kind_at column) ≡ kind.After after → (days : List ℤ) → AreDays over unit count run days column → (pieces : List Piece) →
        ((k : ℕ) → k < count → piece_text_at pieces k
        ≡ (if is_null (ready_over over column).null (draw (run_seed (column_seed (detail_seed over.kept) column) (ready_over over column).changes rows k)) then null_behind (behind_over over column) else with_behind (behind_over over column) (date_text (get_or days k (pos 0))))) →
        AreFields over unit count run pieces 0 column
    made-dates rows are after after_is days of pieces made =
        made-nulled rows are column (λ k. date_text (get_or days k (pos 0))) pieces (omega (arith, size-after (at 0) keeps limits column within after after_is))
        (λ k inside. text-after (at k) keeps limits column within after after_is (Some (get_or days k (pos 0))) (of.each k inside))
        (λ k inside. omega (arith, length-date (get_or days k (pos 0)), size-after (at k) keeps limits column within after after_is)) made

    pub dates-calendar : (after : ReadyAfter) → ready_kind d (kind_at column) ≡ kind.After after → (days : List ℤ) → AreDays over unit count run days column → (k : ℕ) → k < count → IsInYears (get_or days k (pos 0))
    dates-calendar after after_is days of k inside = after-calendar (at k) keeps limits column within after after_is (Some (get_or days k (pos 0))) (of.each k inside)
