-- Columns of the parent in lines side by side.
use Rattle.std.proofs.Common.{◌≡◌, ◌<◌, ◌≤◌, ℕ, ℤ, pos, suc, true, List, Option, Some, None, get_or, if◌then◌else◌, length, unwrap_or, refl, ap, sym, subst, ◌∙◌, arith}
use Rattle.std.proofs.lemmas.List.FromFn.{get_or-map-range_with_len, length-map-range_with_len}
use Rattle.philox_seeds.specs.SeedTree.{column_seed, draw}
use Rattle.line_pages.specs.declared.piece.Piece.{Piece}
use Rattle.line_pages.specs.Rows.{piece_text_at}
use Rattle.row_text.specs.Fields.{field_text}
use Rattle.schema_plan.specs.declared.ready.ReadyColumn.{ReadyColumn}
use Rattle.schema_plan.specs.declared.ready.ReadyKind.{ReadyKind}
use Rattle.schema_plan.specs.declared.ready.ReadyKind.TheVariants as kind
use Rattle.schema_plan.specs.declared.ready.ReadyLookup.{ReadyLookup}
use Rattle.schema_facts.specs.ColumnFacts.{field_facts}
use Rattle.schema_facts.specs.Dictionaries.{Project}
use Rattle.schema_facts.specs.FieldSizes.{size_in_table, size_of}
use Rattle.schema_facts.specs.Layout.{ColumnLayout, KindLayout, TableLayout, born_kind, case_kind, changed_kind, column_at, layout_of, leaf_kind, list_kind, no_table, unit_date_kind}
use Rattle.schema_plan.specs.Limits.{IsInLimits as IsPlanInLimits, IsTableInLimits}
use Rattle.schema_plan.specs.Ready.{ready_columns}
use Rattle.draw_values.specs.declared.runs.RunRows.{RunRows}
use Rattle.draw_values.specs.declared.values.RowAt.{RowAt}
use Rattle.draw_values.specs.CohortValues.{IsDayOf}
use Rattle.draw_values.specs.Runs.{AreOfLength, AreRunRows, DrawnColumnOf, IsRunColumn, RunColumnOf, day_in, null_behind, run_column, run_field, run_row, run_seed, with_behind}
use Rattle.draw_values.specs.Values.{draws_at, is_null, is_own, own_day, size_at as size_drawn, value_at}
use Rattle.life_intervals.specs.Generator.{Generator, generator_of, last_unit, table_of}
use Rattle.life_intervals.specs.Rows.{Row}
use Rattle.life_intervals.proofs.AcceptedLemmas.{place-below}
use Rattle.life_intervals.proofs.CohortParentLemmas.{length-ready_columns}
use Rattle.life_intervals.proofs.LifeLemmas.{change_unit-le}
use Rattle.row_lines.specs.CohortLines.{LinesOf}
use Rattle.row_lines.specs.Derived.{columns_before, day_by, day_in as shown_days}
use Rattle.row_lines.specs.Lookups.{day_held, text_held}
use Rattle.row_lines.specs.RowViews.{at_row, draws_of}
use Rattle.row_lines.specs.TableLines.{shown_by}
use Rattle.row_lines.proofs.CohortFieldLemmas as cohort
use Rattle.row_lines.proofs.DerivedLemmas.{day-drawn}
use Rattle.row_lines.proofs.FieldLemmas.{in_table-own}
use Rattle.row_lines.proofs.RunFieldLemmas.{own_from_short}
use Rattle.row_lines.proofs.RunValueLemmas.{never_null}
use Rattle.detail_plan.specs.Kept.{KeepsRules}
use Rattle.detail_plan.specs.Limits.{IsInLimits}
use Rattle.detail_lines.specs.declared.detail_lines.LineKind.TheVariants.{Whole}
use Rattle.detail_lines.specs.declared.line_run.LineRun.{LineRun}
use Rattle.detail_lines.specs.declared.parent_row.ParentRows.{ParentRows}
use Rattle.detail_lines.specs.LineRuns.{AreDays, AreFields, AreLines, AreParents, drawn_row, line_of}
use Rattle.detail_lines.specs.Made.{LineOver, LinesOver, behind_over, delimiter_over, detail_seed, own_over, place_over, prepared_column, ready_over, row_of, row_over, shown_column, shown_columns, size_over, told_at}
use Rattle.detail_lines.proofs.DeclaredLemmas.{parent-below}
use Rattle.detail_lines.proofs.LineRunLemmas.{made-nulled, ready-of}
use Rattle.detail_lines.proofs.LineValueLemmas.{IsShownAs, day-shown, shown_as, size-shown, text-shown}
use Rattle.detail_lines.proofs.ToldLemmas.{units-told}

-- ---- sizes of what a row holds by itself

size-own : (delimiter : ℕ) (tables : List TableLayout) (columns : List ColumnLayout) (held : KindLayout) → is_own held ≡ true → size_of delimiter tables columns held ≡ size_in_table delimiter columns held
size-own delimiter tables columns born_kind own = refl
size-own delimiter tables columns changed_kind own = refl
size-own delimiter tables columns (leaf_kind leaf) own = refl
size-own delimiter tables columns (case_kind on branches) own = refl
size-own delimiter tables columns (list_kind words) own = refl
size-own delimiter tables columns (unit_date_kind changed start step) own = refl
size-own delimiter tables columns _ own = cc

-- there is room for a null
room-own : (delimiter : ℕ) (columns : List ColumnLayout) (held : KindLayout) → is_own held ≡ true → 2 ≤ size_in_table delimiter columns held
room-own delimiter columns born_kind own = omega arith
room-own delimiter columns changed_kind own = omega arith
room-own delimiter columns (leaf_kind leaf) own = omega arith
room-own delimiter columns (case_kind on branches) own = omega arith
room-own delimiter columns (list_kind words) own = omega arith
room-own delimiter columns (unit_date_kind changed start step) own = omega arith
room-own delimiter columns _ own = absurd (cc)

-- ---- the day that a row shows by its units or its own draws

own-day : (day : ℕ → Row → ℕ → Option ℤ) (generator : Generator) (place column : ℕ) (row : Row) (held : KindLayout) (found : ℤ) → own_day (at_row row) (draws_of generator place row column) held ≡ Some found →
    Some found ≡ day_by day generator place row column held
own-day day generator place column row (leaf_kind leaf) found is = sym is
own-day day generator place column row (unit_date_kind changed start step) found is = sym is
own-day day generator place column row _ found is = absurd (cc)

-- a line's row among those of the parent
pub row-picked : (over : LinesOver) (unit count : ℕ) (run : LineRun) → AreLines over unit count run → (rows : RunRows) → ((i : ℕ) → i < length run.parents.ordinals.now → run_row rows i ≡ told_at (row_of run.parents i)) → (k : ℕ) → k < count →
    run_row rows (get_or run.places.now k 0) ≡ told_at (row_of run.rows k)
row-picked over unit count run lines rows are k inside = are (get_or run.places.now k 0) (lines.placed k inside) ∙ ap told_at (lines.parent_is k inside)

module _ (over : LinesOver) (keeps : KeepsRules over.plan over.kept) (limits : IsInLimits over.kept.lists over.kept.detail) (column : ℕ) (within : column < own_over over) where
  abbrev plan : Project
  plan = over.plan

  abbrev place : ℕ
  place = place_over over

  abbrev behind : ℕ
  behind = behind_over over column

  -- ---- what is kept of a column

  found-shown : (columns : List (Option RunColumnOf)) (found : Option RunColumnOf) → columns ≡ shown_columns over → found ≡ get_or columns column found → found ≡ shown_column over column
  found-shown columns found are at =
      at ∙ ap (λ (all : List (Option RunColumnOf)). get_or all column found) are
      ∙ get_or-map-range_with_len (shown_column over) 0 (own_over over) column column found within (omega arith)

  pub below-shown : (columns : List (Option RunColumnOf)) → columns ≡ shown_columns over → column < length columns
  below-shown columns are =
      omega (arith, within, ap (λ (all : List (Option RunColumnOf)). length all) are, length-map-range_with_len (shown_column over) 0 (own_over over))

  -- a column of any other kind has none of the parent
  pub shown-none : (columns : List ReadyColumn) (found : ReadyColumn) → columns ≡ over.kept.columns → found ≡ get_or columns column found → ((lookup : ReadyLookup) → (get_or columns column found).kind ≡ kind.Lookup lookup → ⊥) →
      None ≡ shown_column over column
  shown-none columns found are at no_lookup =
      by_kind (get_or columns column found).kind no_lookup ∙ ap (λ (of : ReadyColumn). shown_by plan behind of.kind) (sym at ∙ ready-of over keeps limits column within columns found are at)
    where
      by_kind : (held : ReadyKind) → ((lookup : ReadyLookup) → held ≡ kind.Lookup lookup → ⊥) → None ≡ shown_by plan behind held
      by_kind (kind.Lookup lookup) no_lookup = absurd (no_lookup lookup refl)
      by_kind _ no_lookup = refl

  -- what is ready of a column of the parent
  pub lookup-ready : (columns : List ReadyColumn) (found : ReadyColumn) (lookup : ReadyLookup) → columns ≡ over.kept.columns → found ≡ get_or columns column found → (get_or columns column found).kind ≡ kind.Lookup lookup →
      (ready_over over column).kind ≡ kind.Lookup lookup
  lookup-ready columns found lookup are at is = ap (λ (of : ReadyColumn). of.kind) (sym (ready-of over keeps limits column within columns found are at) ∙ at) ∙ is

  module _ (lookup : ReadyLookup) (is : (ready_over over column).kind ≡ kind.Lookup lookup) where
    -- some line
    abbrev line : LineOver
    line = record { over = over; unit = 0; ordinal = 0; number = 0 }

    knows : IsShownAs line keeps limits column within lookup
    knows = shown_as line keeps limits column within lookup is

    -- ---- the column of the parent

    pub parent-is : lookup.parent ≡ place
    parent-is = knows.knows.parent_is

    pub table-within : lookup.parent < length plan.schema.tables
    table-within = subst (λ (table : ℕ). table < length plan.schema.tables) (sym parent-is) (parent-below plan over.kept keeps)

    pub column-within : lookup.column < length (table_of plan lookup.parent).columns
    column-within = subst (λ (table : ℕ). lookup.column < length (table_of plan table).columns) (sym parent-is) knows.knows.still.within

    pub column-few : IsPlanInLimits plan → lookup.column < 64
    column-few sound =
        let table : IsTableInLimits (last_unit plan) (table_of plan place) = sound.tables place no_table (place-below plan place (parent-below plan over.kept keeps)) in
        omega (arith, knows.knows.still.within, table.column_limit)

    -- it is ready for rows
    pub below-parent : (columns : List ReadyColumn) → columns ≡ ready_columns (layout_of plan) lookup.parent → lookup.column < length columns
    below-parent columns are = omega (arith, column-within, ap (λ (all : List ReadyColumn). length all) are, length-ready_columns plan lookup.parent)

    pub parent-null : (columns : List ReadyColumn) (found : ReadyColumn) → columns ≡ ready_columns (layout_of plan) lookup.parent → found ≡ get_or columns lookup.column found →
        found.null ≡ (column_at (table_of plan place).columns lookup.column).null
    parent-null columns found are at =
        let parents : LinesOf = record { plan = plan; table = lookup.parent; born = 0; unit = 0 } in
        ap (λ (of : ReadyColumn). of.null) (sym (cohort.ready_at parents columns are lookup.column found column-within at))
        ∙ ap (λ (table : ℕ). (column_at (table_of plan table).columns lookup.column).null) parent-is

    -- it is prepared for runs
    pub shown-run : (columns : List (Option RunColumnOf)) (found : Option RunColumnOf) (run : RunColumnOf) → columns ≡ shown_columns over → found ≡ get_or columns column found → found ≡ Some run →
        run ≡ run_column plan place lookup.column behind
    shown-run columns found run are at held =
        ap (λ (o : Option RunColumnOf). unwrap_or o run) (sym held ∙ found-shown columns found are at ∙ ap (shown_by plan behind) is)
        ∙ ap (λ (table : ℕ). run_column plan table lookup.column behind) parent-is

    pub shown-is : (run : RunColumnOf) → run ≡ run_column plan place lookup.column behind → IsRunColumn plan run
    shown-is run run_is = record {
      table_within = subst (λ (of : RunColumnOf). of.table < length plan.schema.tables) (sym run_is) (parent-below plan over.kept keeps);
      column_within = subst (λ (of : RunColumnOf). of.column < length (table_of plan of.table).columns) (sym run_is) knows.knows.still.within;
      is = run_is ∙ ap (λ (of : RunColumnOf). run_column plan of.table of.column of.behind) (sym run_is);
    }

    -- a short one is made of the row itself
    short-own : (run : RunColumnOf) → run ≡ run_column plan place lookup.column behind → run.short ≡ true → is_own (column_at (table_of plan place).columns lookup.column).kind ≡ true
    short-own run run_is short =
        own_from_short (delimiter_over over) (column_at (table_of plan place).columns lookup.column).kind (sym (ap (λ (of : RunColumnOf). of.short) run_is) ∙ short)

    -- ---- rows of the parent

    -- they are of the units
    pub parents-run : (unit : ℕ) (parents : ParentRows) → AreParents over unit parents → (rows : RunRows) → AreOfLength (length parents.ordinals.now) rows → ((i : ℕ) → i < length parents.ordinals.now → run_row rows i ≡ told_at (row_of parents i)) →
        unit ≤ last_unit plan → AreRunRows (last_unit plan) (length parents.ordinals.now) rows
    parents-run unit parents told rows lengths are inside = record {
      few = told.few;
      lengths = lengths;
      born = λ i here. omega (arith, ap (λ (row : RowAt). row.born) (are i here), (told.told i here).born, inside);
      changed = λ i here. omega (
        arith,
        ap (λ (row : RowAt). row.changed) (are i here),
        (told.told i here).changed refl,
        change_unit-le (generator_of plan) place unit (get_or parents.ordinals.now i 0) (told.told i here).ordinal,
        inside,
      );
    }

    -- ---- lines

    module _ (unit count : ℕ) (run : LineRun) (lines : AreLines over unit count run) (rows : RunRows) (lengths : AreOfLength count rows) (are : (k : ℕ) → k < count → run_row rows k ≡ told_at (row_of run.rows k)) where
      below : place < length plan.schema.tables
      below = parent-below plan over.kept keeps

      abbrev parent : ℕ → Row
      parent k = row_over over unit (get_or run.rows.ordinals.now k 0)

      -- what is read of a line's row
      abbrev shows : ℕ → List ℕ
      shows k = text_held plan place unit (get_or run.rows.ordinals.now k 0) lookup.column

      -- its rows are of the units
      pub parent-rows : unit ≤ last_unit plan → AreRunRows (last_unit plan) count rows
      parent-rows inside = record {
        few = lines.few;
        lengths = lengths;
        born = λ k here. omega (arith, ap (λ (row : RowAt). row.born) (are k here), (lines.told k here).born, inside);
        changed = λ k here. omega (
          arith,
          ap (λ (row : RowAt). row.changed) (are k here),
          (lines.told k here).changed refl,
          change_unit-le (generator_of plan) place unit (get_or run.rows.ordinals.now k 0) (lines.told k here).ordinal,
          inside,
        );
      }

      -- what is drawn of it is what it holds
      text-told : (shown : RunColumnOf) → shown ≡ run_column plan place lookup.column behind → shown.short ≡ true → (k : ℕ) → k < count →
          field_text (delimiter_over over) (value_at (layout_of plan) shown.table shown.column (run_row rows k)) ≡ shows k
      text-told shown shown_is short k here =
          ap (λ (of : RunColumnOf). field_text (delimiter_over over) (value_at (layout_of plan) of.table of.column (run_row rows k))) shown_is
          ∙ ap (λ (row : RowAt). field_text (delimiter_over over) (value_at (layout_of plan) place lookup.column row)) (are k here ∙ units-told over unit Whole (row_of run.rows k) below (lines.told k here) refl)
          ∙ ap (field_text (delimiter_over over)) (sym (in_table-own (generator_of plan) place lookup.column (parent k) (short-own shown shown_is short)))

      size-told : IsPlanInLimits plan → (shown : RunColumnOf) → shown ≡ run_column plan place lookup.column behind → shown.short ≡ true → size_drawn (layout_of plan) shown.table shown.column ≡ size_over over column
      size-told sound shown shown_is short =
          ap (λ (of : RunColumnOf). size_drawn (layout_of plan) of.table of.column) shown_is
          ∙ size-own (delimiter_over over) (layout_of plan).tables (table_of plan place).columns (column_at (table_of plan place).columns lookup.column).kind (short-own shown shown_is short)
          ∙ size-shown line keeps limits column within sound below lookup is

      room-told : IsPlanInLimits plan → (shown : RunColumnOf) → shown ≡ run_column plan place lookup.column behind → shown.short ≡ true → 2 ≤ size_over over column
      room-told sound shown shown_is short =
          omega (
            arith,
            room-own (delimiter_over over) (table_of plan place).columns (column_at (table_of plan place).columns lookup.column).kind (short-own shown shown_is short),
            size-shown line keeps limits column within sound below lookup is,
          )

      -- ---- fields

      pub made-shown : IsPlanInLimits plan → (shown : RunColumnOf) → shown ≡ run_column plan place lookup.column behind → shown.short ≡ true → (held pieces : List Piece) (drawn : RunRows) → ((k : ℕ) → k < count → run_row drawn k ≡ drawn_row run k) →
          ((k : ℕ) → k < count → piece_text_at held k ≡ run_field plan shown rows k) →
          ((k : ℕ) → k < count → length (field_text (delimiter_over over) (value_at (layout_of plan) shown.table shown.column (run_row rows k))) ≤ size_drawn (layout_of plan) shown.table shown.column) →
          (prepared : DrawnColumnOf) (ready : ReadyColumn) → prepared ≡ prepared_column over column → ready ≡ ready_over over column →
          ((k : ℕ) → k < count → piece_text_at pieces k ≡ (if is_null ready.null (draw (run_seed prepared.seed ready.changes drawn k)) then null_behind prepared.behind else piece_text_at held k)) →
          AreFields over unit count run pieces 0 column
      made-shown sound shown shown_is short held pieces drawn drawn_are text size prepared ready prepared_is ready_is nulled =
          made-nulled over unit count run lines keeps limits below drawn drawn_are column shows pieces (room-told sound shown shown_is short)
          (λ k here. text-shown (line_of over unit run k) keeps limits column within lookup is)
          (λ k here. omega (
            arith,
            size k here,
            ap (λ (t : List ℕ). length t) (text-told shown shown_is short k here),
            size-told sound shown shown_is short,
          ))
          (λ k here.
          nulled k here
          ∙ ap (λ (of : DrawnColumnOf). if is_null ready.null (draw (run_seed of.seed ready.changes drawn k)) then null_behind of.behind else piece_text_at held k) prepared_is
          ∙ ap (λ (of : ReadyColumn). if is_null of.null (draw (run_seed (column_seed (detail_seed over.kept) column) of.changes drawn k)) then null_behind behind else piece_text_at held k) ready_is
          ∙ ap (λ (t : List ℕ). if is_null (ready_over over column).null (draw (run_seed (column_seed (detail_seed over.kept) column) (ready_over over column).changes drawn k)) then null_behind behind else t)
          (text k here
          ∙ ap (λ (of : RunColumnOf). with_behind of.behind (field_text (delimiter_over over) (value_at (layout_of plan) shown.table shown.column (run_row rows k)))) shown_is
          ∙ ap (with_behind behind) (text-told shown shown_is short k here)))

      -- ---- days

      pub days-shown : (shown : RunColumnOf) → shown ≡ run_column plan place lookup.column behind → (column_at (table_of plan place).columns lookup.column).null ≡ 0 → (days : List ℤ) →
          ((k : ℕ) → k < count → day_in plan shown (run_row rows k) ≡ Some (get_or days k (pos 0))) →
          ((k : ℕ) → k < count → IsDayOf (field_facts (layout_of plan) shown.table shown.column).days (get_or days k (pos 0))) →
          AreDays over unit count run days column
      days-shown shown shown_is never days found known_days = record {
        each = λ k here.
            day-shown (line_of over unit run k) keeps limits column within lookup is (Some (get_or days k (pos 0))) (day-here k here)
            (subst (λ (of : RunColumnOf). IsDayOf (field_facts (layout_of plan) of.table of.column).days (get_or days k (pos 0))) shown_is (known_days k here));
      }
        where
          held : KindLayout
          held = (column_at (table_of plan place).columns lookup.column).kind

          own-here : (k : ℕ) → k < count → own_day (at_row (parent k)) (draws_of (generator_of plan) place (parent k) lookup.column) held ≡ Some (get_or days k (pos 0))
          own-here k here =
              ap (λ (row : RowAt). own_day row (draws_at (layout_of plan) place row lookup.column) held) (sym (are k here ∙ units-told over unit Whole (row_of run.rows k) below (lines.told k here) refl))
              ∙ sym (ap (λ (of : RunColumnOf). day_in plan of (run_row rows k)) shown_is) ∙ found k here

          day-here : (k : ℕ) → k < count → Some (get_or days k (pos 0)) ≡ day_held plan place unit (get_or run.rows.ordinals.now k 0) lookup.column
          day-here k here =
              day-drawn (generator_of plan) place lookup.column (parent k) held (Some (get_or days k (pos 0))) refl
              (never_null (column_at (table_of plan place).columns lookup.column).null (draws_of (generator_of plan) place (parent k) lookup.column) never)
              (λ m past. own-day (shown_days m (generator_of plan)) (generator_of plan) place lookup.column (parent k) held (get_or days k (pos 0)) (own-here k here))
              (suc (columns_before place lookup.column)) (omega arith)
