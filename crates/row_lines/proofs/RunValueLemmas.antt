-- The days and numbers of the rows of a run in a column, and the fields that are made of them.
use Rattle.std.proofs.Common.{◌≡◌, ◌<◌, ◌≤◌, ◌+◌, ◌+ℤ◌, ℕ, ℤ, pos, Bool, true, false, List, [], ◌∷◌, ◌++◌, Option, Some, None, length, get_or, codes, if◌then◌else◌, refl, ap, subst, sym, ◌∙◌, arith}
use Rattle.std.proofs.lemmas.Bool.Decides.{nat_tests}
use Rattle.std.specs.Option.{option_map}
use Rattle.line_pages.specs.declared.piece.Piece.{Piece}
use Rattle.line_pages.specs.Rows.{piece_text_at}
use Rattle.row_text.specs.Fields.{field_text}
use Rattle.schema_plan.specs.declared.ready.ReadyAfter.{ReadyAfter}
use Rattle.schema_plan.specs.declared.ready.ReadyKind.TheVariants as kind
use Rattle.schema_facts.specs.ColumnFacts.{field_facts}
use Rattle.schema_facts.specs.Ends.{IsBetween, IsInCalendar}
use Rattle.schema_facts.specs.Layout.{KindLayout, after_kind, born_kind, case_kind, changed_kind, column_at, key_kind, layout_of, leaf_kind, list_kind, lookup_kind, product_kind, reference_kind, sum_kind, template_kind, unit_date_kind}
use Rattle.schema_plan.specs.Limits.{is_lookup_kind}
use Rattle.schema_plan.specs.Ready.{ready_kind}
use Rattle.draw_values.specs.declared.runs.RunRows.{RunRows}
use Rattle.draw_values.specs.declared.values.RowAt.{RowAt}
use Rattle.draw_values.specs.CohortValues.{IsDayOf}
use Rattle.draw_values.specs.Dates.{date_text}
use Rattle.draw_values.specs.Runs.{RunColumnOf, day_in as drawn_day_in, is_null_in, null_text, run_row}
use Rattle.draw_values.specs.Values.{Draws, chosen, draws_at, is_null, own_day, unless_null}
use Rattle.draw_values.proofs.DateLemmas.{length-date_digits}
use Rattle.draw_values.proofs.PlainLemmas.{escaped_text-plain, plain-date_text}
use Rattle.life_intervals.specs.Generator.{Generator, generator_of}
use Rattle.life_intervals.specs.Rows.{Row}
use Rattle.life_intervals.proofs.AcceptedLemmas.{place-below, row_at-changed}
use Rattle.row_lines.specs.Derived.{columns_before, day_by, day_in}
use Rattle.row_lines.specs.Lines.{value_in_table}
use Rattle.row_lines.specs.RowViews.{at_row, draws_of}
use Rattle.row_lines.specs.RunFields.{AreMade, AreRowsOf, size_for}
use Rattle.row_lines.specs.RunValues.{AreDays, row_of}
use Rattle.row_lines.specs.Runs.{RunLinesOf, layout_for, text_at}
use Rattle.row_lines.specs.TableLines.{behind_of, column_of}
use Rattle.row_lines.proofs.DerivedLemmas.{IsAfterHere, day-drawn, day-within}
use Rattle.row_lines.proofs.FieldLemmas.{field-in_table}
use Rattle.row_lines.proofs.RunFieldLemmas.{lines_of, run-birth}
use Rattle.row_lines.proofs.RunLookupLemmas.{looked_up-length, looked_up-put}
use Rattle.row_lines.specs.Totals.{IsDated}

-- ---- a row of a run

-- as its own values see it
pub row-seen : (lines : RunLinesOf) (rows : RunRows) (i : ℕ) → lines.table < length lines.plan.schema.tables → AreRowsOf lines rows → i < length rows.ordinals.now →
    at_row (row_of lines (get_or rows.ordinals.now i 0)) ≡ run_row rows i
row-seen lines rows i below are inside =
    let ordinal : ℕ = get_or rows.ordinals.now i 0 in
    let row : Row = row_of lines ordinal in
    ap (λ (born : ℕ). record { ordinal = ordinal; born = born; changed = row.changed }) (run-birth lines.plan lines.table lines.unit rows.ordinals.now rows.births.now are.living.run i inside)
    ∙ ap (λ (changed : ℕ). record { ordinal = ordinal; born = get_or rows.births.now i 0; changed = changed })
    (row_at-changed (generator_of lines.plan) lines.table lines.unit ordinal (place-below lines.plan lines.table below) ∙ sym (are.changes.each i inside))

-- what is drawn for it
pub draws-seen : (lines : RunLinesOf) (rows : RunRows) (i column : ℕ) → lines.table < length lines.plan.schema.tables → AreRowsOf lines rows → i < length rows.ordinals.now →
    draws_of (generator_of lines.plan) lines.table (row_of lines (get_or rows.ordinals.now i 0)) column ≡ draws_at (layout_of lines.plan) lines.table (run_row rows i) column
draws-seen lines rows i column below are inside =
    ap (λ (at : RowAt). draws_at (layout_of lines.plan) lines.table at column) (row-seen lines rows i below are inside)

-- whether its field is null
pub null-seen : (lines : RunLinesOf) (rows : RunRows) (i column : ℕ) → lines.table < length lines.plan.schema.tables → AreRowsOf lines rows → i < length rows.ordinals.now →
    is_null_in lines.plan (column_of lines.plan lines.table column) (run_row rows i)
    ≡ is_null (column_at (layout_for lines).columns column).null (draws_of (generator_of lines.plan) lines.table (row_of lines (get_or rows.ordinals.now i 0)) column)
null-seen lines rows i column below are inside =
    sym (ap (λ (at : RowAt). is_null_in lines.plan (column_of lines.plan lines.table column) at) (row-seen lines rows i below are inside))

-- a field that can't be null isn't
pub never_null : (null : ℕ) (draw : Draws) → null ≡ 0 → is_null null draw ≡ false
never_null null draw never = grind (arith, nat_tests)

-- ---- fields that are made as if they weren't null

-- the fields of a column, where nulls are put for those that are drawn to be null
pub made-nulled : (lines : RunLinesOf) (rows : RunRows) (column : ℕ) (own : RunColumnOf) (held pieces : List Piece) (shows : ℕ → List ℕ) → lines.table < length lines.plan.schema.tables → AreRowsOf lines rows →
    own ≡ column_of lines.plan lines.table column → 2 ≤ size_for lines column →
    ((i : ℕ) → i < length rows.ordinals.now → text_at lines (get_or rows.ordinals.now i 0) column
    ≡ (if is_null (column_at (layout_for lines).columns column).null (draws_of (generator_of lines.plan) lines.table (row_of lines (get_or rows.ordinals.now i 0)) column) then codes "\\N" else shows i)) →
    ((i : ℕ) → i < length rows.ordinals.now → piece_text_at held i ≡ shows i ++ behind_of lines.plan lines.table column ∷ []) →
    ((i : ℕ) → i < length rows.ordinals.now → length (shows i) ≤ size_for lines column) →
    ((i : ℕ) → i < length rows.ordinals.now → piece_text_at pieces i ≡ (if is_null_in lines.plan own (run_row rows i) then null_text own else piece_text_at held i)) →
    AreMade lines rows.ordinals.now pieces 0 column
made-nulled lines rows column own held pieces shows below are own_is room written text size nulled = record {
  text = λ i inside.
      let begun : 0 + i ≡ i = omega arith in
      ap (piece_text_at pieces) begun
      ∙ looked_up-put (null i) (piece_text_at pieces i) _ (piece_text_at held i) (shows i) byte (nulled i inside ∙ null_by own_is i inside) refl (text i inside)
      ∙ ap (λ (t : List ℕ). t ++ byte ∷ []) (sym (written i inside));
  size = λ i inside.
      subst (λ (t : List ℕ). length t ≤ size_for lines column) (sym (written i inside)) (looked_up-length (null i) (shows i) (size_for lines column) room (size i inside));
}
  where
    byte : ℕ
    byte = behind_of lines.plan lines.table column

    null : ℕ → Bool
    null i = is_null (column_at (layout_for lines).columns column).null (draws_of (generator_of lines.plan) lines.table (row_of lines (get_or rows.ordinals.now i 0)) column)

    null_by : own ≡ column_of lines.plan lines.table column → (i : ℕ) → i < length rows.ordinals.now →
        (if is_null_in lines.plan own (run_row rows i) then null_text own else piece_text_at held i) ≡ (if null i then codes "\\N" ++ byte ∷ [] else piece_text_at held i)
    null_by is i inside =
        ap (λ (run : RunColumnOf). if is_null_in lines.plan run (run_row rows i) then null_text run else piece_text_at held i) is
        ∙ ap (λ (test : Bool). if test then codes "\\N" ++ byte ∷ [] else piece_text_at held i) (null-seen lines rows i column below are inside)

-- ---- days

-- the day that a row shows by its units or its own draws
own-shown : (delimiter : ℕ) (day : ℕ → Row → ℕ → Option ℤ) (generator : Generator) (place column : ℕ) (row : Row) (held : KindLayout) (found : ℤ) → ((after : ReadyAfter) → ready_kind delimiter held ≡ kind.After after → ⊥) →
    own_day (at_row row) (draws_of generator place row column) held ≡ Some found → Some found ≡ day_by day generator place row column held
own-shown delimiter day generator place column row key_kind found no_after is = absurd (cc)
own-shown delimiter day generator place column row born_kind found no_after is = absurd (cc)
own-shown delimiter day generator place column row changed_kind found no_after is = absurd (cc)
own-shown delimiter day generator place column row (leaf_kind leaf) found no_after is = sym is
own-shown delimiter day generator place column row (template_kind parts) found no_after is = absurd (cc)
own-shown delimiter day generator place column row (case_kind on branches) found no_after is = absurd (cc)
own-shown delimiter day generator place column row (reference_kind parent window spread nulls drawn) found no_after is = absurd (cc)
own-shown delimiter day generator place column row (lookup_kind via parent name) found no_after is = absurd (cc)
own-shown delimiter day generator place column row (list_kind words) found no_after is = absurd (cc)
own-shown delimiter day generator place column row (unit_date_kind changed start step) found no_after is = sym is
own-shown delimiter day generator place column row (after_kind of lo hi) found no_after is = absurd (no_after _ refl)
own-shown delimiter day generator place column row (sum_kind of) found no_after is = absurd (cc)
own-shown delimiter day generator place column row (product_kind of) found no_after is = absurd (cc)

pub own-days : (lines : RunLinesOf) (rows : RunRows) (column : ℕ) (own : RunColumnOf) (days : List ℤ) → lines.table < length lines.plan.schema.tables → AreRowsOf lines rows → own ≡ column_of lines.plan lines.table column →
    ((after : ReadyAfter) → ready_kind (layout_of lines.plan).delimiter (column_at (layout_for lines).columns column).kind ≡ kind.After after → ⊥) →
    ((i : ℕ) → i < length rows.ordinals.now → drawn_day_in lines.plan own (run_row rows i) ≡ Some (get_or days i (pos 0))) →
    ((i : ℕ) → i < length rows.ordinals.now → IsDayOf (field_facts (layout_of lines.plan) own.table own.column).days (get_or days i (pos 0))) →
    AreDays lines rows.ordinals.now days column
own-days lines rows column own days below are own_is no_after found within = record {
  each = λ i inside n enough.
      let row : Row = row_of lines (get_or rows.ordinals.now i 0) in
      own-shown (layout_of lines.plan).delimiter (day_in n (generator_of lines.plan)) (generator_of lines.plan) lines.table column row (column_at (layout_for lines).columns column).kind (get_or days i (pos 0)) no_after
      (ap (λ (at : RowAt). own_day at (draws_at (layout_of lines.plan) lines.table at column) (column_at (layout_for lines).columns column).kind) (row-seen lines rows i below are inside)
      ∙ sym (ap (λ (run : RunColumnOf). drawn_day_in lines.plan run (run_row rows i)) own_is) ∙ found i inside);
  within = λ i inside. subst (λ (run : RunColumnOf). IsDayOf (field_facts (layout_of lines.plan) run.table run.column).days (get_or days i (pos 0))) own_is (within i inside);
}

-- a date after a date is so many days later
pub later-days : (lines : RunLinesOf) (rows : RunRows) (column : ℕ) (after : ReadyAfter) (earlier more days : List ℤ) → lines.table < length lines.plan.schema.tables → AreRowsOf lines rows →
    IsAfterHere (lines_of lines) column after.of after.lo after.hi → after.of < column → (column_at (layout_for lines).columns after.of).null ≡ 0 → AreDays lines rows.ordinals.now earlier after.of →
    ((i : ℕ) → i < length rows.ordinals.now → get_or more i (pos 0) ≡ chosen after.lo after.hi 1 (draws_at (layout_of lines.plan) lines.table (run_row rows i) column 1)) →
    ((i : ℕ) → i < length rows.ordinals.now → IsBetween after.lo after.hi (get_or more i (pos 0))) →
    ((i : ℕ) → i < length rows.ordinals.now → get_or days i (pos 0) ≡ get_or earlier i (pos 0) +ℤ get_or more i (pos 0)) →
    AreDays lines rows.ordinals.now days column
later-days lines rows column after earlier more days below are here before never of drawn between sums = record {
  each = λ i inside n enough.
      let row : Row = row_of lines (get_or rows.ordinals.now i 0) in
      ap Some
      (sums i inside
      ∙ ap (λ (by : ℤ). get_or earlier i (pos 0) +ℤ by) (drawn i inside ∙ ap (λ (draw : Draws). chosen after.lo after.hi 1 (draw 1)) (sym (draws-seen lines rows i column below are inside))))
      ∙ ap (option_map (λ (day : ℤ). day +ℤ chosen after.lo after.hi 1 (draws_of generator lines.table row column 1)))
      (day-drawn generator lines.table after.of row (column_at (layout_for lines).columns after.of).kind (Some (get_or earlier i (pos 0))) refl
      (never_null (column_at (layout_for lines).columns after.of).null (draws_of generator lines.table row after.of) never) (of.each i inside) n (omega (arith, enough, before)))
      ∙ ap (day_by (day_in n generator) generator lines.table row column) (sym here.of.kind_is);
  within = λ i inside.
      subst (IsDayOf (field_facts (layout_of lines.plan) lines.table column).days) (sym (sums i inside))
      (day-within (lines_of lines) column after.of after.lo after.hi (get_or earlier i (pos 0)) (get_or more i (pos 0)) here (of.within i inside) (between i inside)).0;
}
  where
    generator : Generator
    generator = generator_of lines.plan

-- which is of the calendar
pub later-calendar : (lines : RunLinesOf) (rows : RunRows) (column : ℕ) (after : ReadyAfter) (earlier more : List ℤ) → IsAfterHere (lines_of lines) column after.of after.lo after.hi → AreDays lines rows.ordinals.now earlier after.of →
    ((i : ℕ) → i < length rows.ordinals.now → IsBetween after.lo after.hi (get_or more i (pos 0))) → (i : ℕ) → i < length rows.ordinals.now → IsInCalendar (get_or earlier i (pos 0) +ℤ get_or more i (pos 0))
later-calendar lines rows column after earlier more here of between i inside =
    (day-within (lines_of lines) column after.of after.lo after.hi (get_or earlier i (pos 0)) (get_or more i (pos 0)) here (of.within i inside) (between i inside)).1

-- ---- dates

no_lookup_dated : (held : KindLayout) → IsDated held → is_lookup_kind held ≡ false
no_lookup_dated (after_kind before lo hi) dated = refl
no_lookup_dated _ dated = absurd dated

-- what is written for a date after a date
pub text-dated : (lines : RunLinesOf) (ordinals : List ℕ) (days : List ℤ) (column i : ℕ) → IsDated (column_at (layout_for lines).columns column).kind → AreDays lines ordinals days column → i < length ordinals →
    text_at lines (get_or ordinals i 0) column
    ≡ (if is_null (column_at (layout_for lines).columns column).null (draws_of (generator_of lines.plan) lines.table (row_of lines (get_or ordinals i 0)) column) then codes "\\N" else date_text (get_or days i (pos 0)))
text-dated lines ordinals days column i dated are inside =
    ap (field_text d) (field-in_table generator lines.unit lines.table column row (no_lookup_dated (column_at (layout_for lines).columns column).kind dated))
    ∙ of_kind (column_at (layout_for lines).columns column).kind dated (are.each i inside (columns_before lines.table column) (omega arith))
  where
    d : ℕ
    d = (layout_of lines.plan).delimiter

    generator : Generator
    generator = generator_of lines.plan

    row : Row
    row = row_of lines (get_or ordinals i 0)

    day : ℤ
    day = get_or days i (pos 0)

    null : ℕ
    null = (column_at (layout_for lines).columns column).null

    by_null : (test : Bool) → field_text d (if test then None else Some (date_text day)) ≡ (if test then codes "\\N" else date_text day)
    by_null true = refl
    by_null false = escaped_text-plain d (date_text day) (plain-date_text day)

    of_kind : (held : KindLayout) → IsDated held → Some day ≡ day_by (day_in (columns_before lines.table column) generator) generator lines.table row column held →
        field_text d (unless_null null (draws_of generator lines.table row column) (value_in_table generator lines.table row column held))
        ≡ (if is_null null (draws_of generator lines.table row column) then codes "\\N" else date_text day)
    of_kind (after_kind before lo hi) dated found =
        ap (λ (shown : Option ℤ). field_text d (unless_null null (draws_of generator lines.table row column) (option_map date_text shown))) (sym found)
        ∙ by_null (is_null null (draws_of generator lines.table row column))
    of_kind _ dated found = absurd dated

pub length-date : (day : ℤ) → length (date_text day) ≡ 10
unfolding date_text
length-date day = length-date_digits _ _ _
