-- What the rows of a run look up, and how it is written.
use Rattle.std.proofs.Common.{◌≡◌, ◌<◌, ◌≤◌, ℕ, ◌+◌, ◌*◌, Bool, true, false, List, [], ◌∷◌, ◌++◌, Option, Some, length, get_or, codes, unwrap_or, if◌then◌else◌, refl, ap, subst, sym, ◌∙◌, arith}
use Rattle.std.proofs.Math.Nat.{mul-le-mul_left}
use Rattle.std.proofs.lemmas.List.FromFn.{get_or-map-range_with_len, length-map-range_with_len}
use Rattle.line_pages.specs.declared.piece.Piece.{Piece}
use Rattle.line_pages.specs.Rows.{piece_text_at}
use Rattle.row_text.specs.Fields.{field_text}
use Rattle.cohort_sizes.specs.Births.{birth}
use Rattle.schema_plan.specs.declared.ready.ReadyColumn.{ReadyColumn}
use Rattle.schema_plan.specs.declared.ready.ReadyKind.TheVariants as kind
use Rattle.schema_plan.specs.declared.ready.ReadyLookup.{ReadyLookup}
use Rattle.schema_plan.specs.declared.ready.ReadyReference.{ReadyReference}
use Rattle.schema_facts.specs.Dictionaries.{Project}
use Rattle.schema_facts.specs.Layout.{column_at, layout_of, no_table}
use Rattle.schema_plan.specs.Limits.{IsInLimits, IsStillColumn, IsTableInLimits}
use Rattle.schema_facts.specs.Lineage.{choice_cost}
use Rattle.schema_plan.specs.Ready.{ready_columns}
use Rattle.draw_values.specs.declared.runs.RunRows.{RunRows}
use Rattle.draw_values.specs.Runs.{RunColumnOf, is_null_in, null_text, run_column, run_row}
use Rattle.draw_values.specs.Values.{is_null, size_at, value_at}
use Rattle.life_intervals.specs.CohortParents.{IsReferenceOf, reference_by}
use Rattle.life_intervals.specs.Generator.{Generator, generator_of, last_unit, table_of}
use Rattle.life_intervals.specs.Intervals.{change_unit, parent_of, row_at}
use Rattle.life_intervals.specs.Rows.{Row}
use Rattle.life_intervals.proofs.AcceptedLemmas.{place-below, row_at-changed}
use Rattle.life_intervals.proofs.CohortParentLemmas.{parent_below}
use Rattle.row_lines.specs.CohortLines.{LinesOf}
use Rattle.row_lines.specs.RowViews.{draws_of}
use Rattle.row_lines.specs.Lookups.{IsLookupOf, text_held}
use Rattle.row_lines.specs.RunFields.{AreMade, AreRowsOf, asked_for, column_lines, size_for}
use Rattle.row_lines.specs.Runs.{RunLinesOf, layout_for, text_at}
use Rattle.row_lines.specs.TableLines.{behind_of, column_of, is_short_at, is_short_kind, shown_by, shown_of, table_lines}
use Rattle.row_lines.proofs.CohortFieldLemmas.{ready_at}
use Rattle.row_lines.proofs.FieldLemmas.{in_table-own}
use Rattle.row_lines.proofs.LookupLemmas.{asked-lookup, size_of-in_table, is_lookup, looks_up_still, reference_cascades, reference_ready, reference_to, room-lookup, size-lookup, text-looked_up}
use Rattle.life_intervals.proofs.HeldParentLemmas.{parent_of-by}
use Rattle.row_lines.proofs.RunFieldLemmas.{own_from_short, run-birth, run-born}
use Rattle.row_lines.proofs.RunTextLemmas.{born_for}
use Rattle.row_lines.proofs.StillLemmas.{still_field-changed}

-- ---- a lookup

-- it is ready in the column at a place
pub lookup-ready : (plan : Project) (table column : ℕ) (columns : List ReadyColumn) (found : ReadyColumn) (lookup : ReadyLookup) → columns ≡ ready_columns (layout_of plan) table →
    column < length (table_of plan table).columns → found ≡ get_or columns column found → found.kind ≡ kind.Lookup lookup → IsLookupOf (record { plan = plan; table = table; born = 0; unit = 0 }) column lookup
lookup-ready plan table column columns found lookup are within at held = record {
  within = within;
  is = ap (λ (of : ReadyColumn). of.kind) (ready_at (record { plan = plan; table = table; born = 0; unit = 0 }) columns are column found within at) ∙ held;
}

-- the column that it looks up by is ready as a reference to its table, which doesn't become null
pub lookup_refers : (lines : LinesOf) → IsInLimits lines.plan → lines.table < length lines.plan.schema.tables → (columns : List ReadyColumn) → columns ≡ ready_columns (layout_of lines.plan) lines.table →
    (column : ℕ) (lookup : ReadyLookup) (found : ReadyColumn) (reference : ReadyReference) → IsLookupOf lines column lookup → found ≡ get_or columns lookup.via found → found.kind ≡ kind.Reference reference →
    IsReferenceOf lines.plan lines.table lookup.via reference × (reference.parent ≡ lookup.parent) × (reference.nulls ≡ false)
lookup_refers lines limits table columns are column lookup found reference of at held =
    let looks = is_lookup lines limits table column lookup of in
    let within : lookup.via < length (table_of lines.plan lines.table).columns = omega (arith, looks.earlier, of.within) in
    let is = ap (λ (column : ReadyColumn). column.kind) (ready_at lines columns are lookup.via found within at) ∙ held in (
      record { within = within; is = is },
      reference_to (layout_of lines.plan).delimiter lookup.parent (column_at (table_of lines.plan lines.table).columns lookup.via).kind reference looks.reference is,
      reference_cascades (layout_of lines.plan).delimiter lookup.parent (column_at (table_of lines.plan lines.table).columns lookup.via).kind reference looks.reference is,
    )

-- no other kind is ready there
pub lookup_by_reference : (lines : LinesOf) → IsInLimits lines.plan → lines.table < length lines.plan.schema.tables → (columns : List ReadyColumn) → columns ≡ ready_columns (layout_of lines.plan) lines.table →
    (column : ℕ) (lookup : ReadyLookup) (found : ReadyColumn) → IsLookupOf lines column lookup → found ≡ get_or columns lookup.via found → (reference : ReadyReference) × (found.kind ≡ kind.Reference reference)
lookup_by_reference lines limits table columns are column lookup found of at =
    let looks = is_lookup lines limits table column lookup of in
    let within : lookup.via < length (table_of lines.plan lines.table).columns = omega (arith, looks.earlier, of.within) in
    let is = reference_ready (layout_of lines.plan).delimiter lookup.parent (column_at (table_of lines.plan lines.table).columns lookup.via).kind looks.reference in
    (is.0, sym (ap (λ (column : ReadyColumn). column.kind) (ready_at lines columns are lookup.via found within at)) ∙ is.1)

-- its table is one of the schema's, and the column that it shows is one of that
pub lookup-parent : (lines : LinesOf) → IsInLimits lines.plan → lines.table < length lines.plan.schema.tables → (column : ℕ) (lookup : ReadyLookup) → IsLookupOf lines column lookup →
    lookup.parent < length lines.plan.schema.tables
lookup-parent lines limits table column lookup of =
    let looks = is_lookup lines limits table column lookup of in
    let is = reference_ready (layout_of lines.plan).delimiter lookup.parent (column_at (table_of lines.plan lines.table).columns lookup.via).kind looks.reference in
    let to = reference_to (layout_of lines.plan).delimiter lookup.parent (column_at (table_of lines.plan lines.table).columns lookup.via).kind is.0 looks.reference is.1 in
    subst (λ (place : ℕ). place < length lines.plan.schema.tables) to
    (parent_below lines.plan limits lines.table lookup.via is.0 table (record { within = omega (arith, looks.earlier, of.within); is = is.1 }))

pub lookup-column : (lines : LinesOf) → IsInLimits lines.plan → lines.table < length lines.plan.schema.tables → (column : ℕ) (lookup : ReadyLookup) → IsLookupOf lines column lookup → lookup.column < 64
lookup-column lines limits table column lookup of =
    let looks = is_lookup lines limits table column lookup of in
    let own : IsTableInLimits (last_unit lines.plan) (table_of lines.plan lookup.parent) = limits.tables lookup.parent no_table (place-below lines.plan lookup.parent (lookup-parent lines limits table column lookup of)) in
    omega (arith, looks.looked_up.within, own.column_limit)

-- ---- what is kept of a lookup

-- what the column at a place shows
pub shown-at : (plan : Project) (table column : ℕ) (shown : List (Option RunColumnOf)) (found : Option RunColumnOf) → shown ≡ (table_lines plan table).shown → column < length (table_of plan table).columns →
    found ≡ get_or shown column found → found ≡ shown_of plan table column
shown-at plan table column shown found are within at =
    at ∙ ap (λ (all : List (Option RunColumnOf)). get_or all column found) are
    ∙ get_or-map-range_with_len (shown_of plan table) 0 (length (table_of plan table).columns) column column found within (omega arith)

pub length-shown : (plan : Project) (table : ℕ) (shown : List (Option RunColumnOf)) → shown ≡ (table_lines plan table).shown → length shown ≡ length (table_of plan table).columns
length-shown plan table shown are = ap (λ (all : List (Option RunColumnOf)). length all) are ∙ length-map-range_with_len (shown_of plan table) 0 (length (table_of plan table).columns)

-- of a lookup it is the column of the parent's table
pub shown-lookup : (plan : Project) (table column unit : ℕ) (lookup : ReadyLookup) → IsLookupOf (record { plan = plan; table = table; born = 0; unit = unit }) column lookup →
    shown_of plan table column ≡ Some (run_column plan lookup.parent lookup.column (behind_of plan table column))
shown-lookup plan table column unit lookup of = ap (shown_by plan (behind_of plan table column)) of.is

pub shown_column-is : (plan : Project) (table column unit : ℕ) (lookup : ReadyLookup) (shown : List (Option RunColumnOf)) (found : Option RunColumnOf) (run : RunColumnOf) → shown ≡ (table_lines plan table).shown →
    IsLookupOf (record { plan = plan; table = table; born = 0; unit = unit }) column lookup → found ≡ get_or shown column found → found ≡ Some run →
    run ≡ run_column plan lookup.parent lookup.column (behind_of plan table column)
shown_column-is plan table column unit lookup shown found run are of at held =
    ap (λ (o : Option RunColumnOf). unwrap_or o run)
    (sym held ∙ shown-at plan table column shown found are of.within at ∙ shown-lookup plan table column unit lookup of)

-- which is short where the lookup is made as pieces
pub shown-short : (plan : Project) (table column unit : ℕ) (lookup : ReadyLookup) → IsLookupOf (record { plan = plan; table = table; born = 0; unit = unit }) column lookup → is_short_at plan table column ≡ true →
    (run_column plan lookup.parent lookup.column (behind_of plan table column)).short ≡ true
shown-short plan table column unit lookup of short = sym (ap (is_short_kind plan table (column_of plan table column)) of.is) ∙ short

-- ---- what a parent holds in a column that doesn't move

pub text_held-own : (plan : Project) (table unit ordinal column born : ℕ) → IsInLimits plan → table < length plan.schema.tables → IsTableInLimits (last_unit plan) (table_of plan table) → IsStillColumn (table_of plan table) column →
    (run_column plan table column 0).short ≡ true → birth (table_of plan table).births unit ordinal ≡ born →
    field_text (layout_of plan).delimiter (value_at (layout_of plan) table column (record { ordinal = ordinal; born = born; changed = born })) ≡ text_held plan table unit ordinal column
text_held-own plan table unit ordinal column born sound below limits still short born_is =
    let generator : Generator = generator_of plan in
    let row : Row = row_at generator table unit ordinal in
    let own = own_from_short (layout_of plan).delimiter (column_at (table_of plan table).columns column).kind short in
    ap (λ (b : ℕ). field_text (layout_of plan).delimiter (value_at (layout_of plan) table column (record { ordinal = ordinal; born = b; changed = born }))) (sym born_is)
    ∙ ap (field_text (layout_of plan).delimiter)
    (sym (in_table-own generator table column (record row { changed = born }) own) ∙ still_field-changed generator table row born (last_unit plan) limits (λ place within. sound.lookups table place below within) column still.within still.still)

-- ---- what a row looks up

-- whether it is drawn to be null
null-drawn_for : (lines : RunLinesOf) (ordinal column born changed : ℕ) → lines.table < length lines.plan.schema.tables → birth (layout_for lines).births lines.unit ordinal ≡ born →
    changed ≡ change_unit (generator_of lines.plan) lines.table lines.unit ordinal →
    is_null_in lines.plan (column_of lines.plan lines.table column) (record { ordinal = ordinal; born = born; changed = changed })
    ≡ is_null (column_at (layout_for lines).columns column).null (draws_of (generator_of lines.plan) lines.table (row_at (generator_of lines.plan) lines.table lines.unit ordinal) column)
null-drawn_for lines ordinal column born changed below born_is changed_is =
    let row : Row = row_at (generator_of lines.plan) lines.table lines.unit ordinal in
    let null : ℕ → ℕ → Bool = λ b c. is_null_in lines.plan (column_of lines.plan lines.table column) (record { ordinal = ordinal; born = b; changed = c }) in
    ap (λ (b : ℕ). null b changed) (sym born_is)
    ∙ ap (null row.born) (changed_is ∙ sym (row_at-changed (generator_of lines.plan) lines.table lines.unit ordinal (place-below lines.plan lines.table below)))

-- what is put for it
pub looked_up-put : (null : Bool) (text null_piece piece held : List ℕ) (byte : ℕ) → text ≡ (if null then null_piece else piece) → null_piece ≡ codes "\\N" ++ byte ∷ [] → piece ≡ held ++ byte ∷ [] →
    text ≡ (if null then codes "\\N" else held) ++ byte ∷ []
looked_up-put true text null_piece piece held byte is null_is piece_is = is ∙ null_is
looked_up-put false text null_piece piece held byte is null_is piece_is = is ∙ piece_is

pub looked_up-length : (null : Bool) (held : List ℕ) (most : ℕ) → 2 ≤ most → length held ≤ most → length (if null then codes "\\N" else held) ≤ most
looked_up-length true held most room within = omega (arith, room)
looked_up-length false held most room within = within

-- the fields of a lookup, by those of the parents
pub made-lookups : (lines : RunLinesOf) (rows : RunRows) (column : ℕ) (lookup : ReadyLookup) (reference : ReadyReference) (parents : List ℕ) (own : RunColumnOf) (held pieces : List Piece) → IsInLimits lines.plan →
    lines.table < length lines.plan.schema.tables → lines.unit ≤ last_unit lines.plan → AreRowsOf lines rows → IsLookupOf (column_lines lines) column lookup →
    IsReferenceOf lines.plan lines.table lookup.via reference → reference.parent ≡ lookup.parent → reference.nulls ≡ false → own ≡ column_of lines.plan lines.table column →
    ((i : ℕ) → i < length rows.ordinals.now → get_or parents i 0 ≡ parent_of (generator_of lines.plan) lines.table (last_unit lines.plan) (get_or rows.ordinals.now i 0) (reference_by lookup.via reference)) →
    ((i : ℕ) → i < length rows.ordinals.now → piece_text_at held i ≡ text_held lines.plan lookup.parent lines.unit (get_or parents i 0) lookup.column ++ behind_of lines.plan lines.table column ∷ []) →
    ((i : ℕ) → i < length rows.ordinals.now → length (text_held lines.plan lookup.parent lines.unit (get_or parents i 0) lookup.column) ≤ size_at (layout_of lines.plan) lookup.parent lookup.column) →
    ((i : ℕ) → i < length rows.ordinals.now → piece_text_at pieces i ≡ (if is_null_in lines.plan own (run_row rows i) then null_text own else piece_text_at held i)) →
    AreMade lines rows.ordinals.now pieces 0 column
made-lookups lines rows column lookup reference parents own held pieces sound below within are of refers to cascades own_is parents_are text size nulled = record {
  text = λ i inside.
      let begun : 0 + i ≡ i = omega arith in
      ap (piece_text_at pieces) begun
      ∙ looked_up-put (null i) (piece_text_at pieces i) _ (piece_text_at held i) (shows i) byte (nulled i inside ∙ null_by own_is i inside) refl (text i inside)
      ∙ ap (λ (t : List ℕ). t ++ byte ∷ []) (sym (written i inside));
  size = λ i inside.
      let in_table = size_of-in_table (layout_of lines.plan).delimiter (layout_of lines.plan).tables (table_of lines.plan lookup.parent).columns (column_at (table_of lines.plan lookup.parent).columns lookup.column).kind
      (looks_up_still (column_lines lines) sound below column lookup of).no_lookup in
      subst (λ (t : List ℕ). length t ≤ size_for lines column) (sym (written i inside))
      (looked_up-length (null i) (shows i) (size_for lines column) (room-lookup (column_lines lines) sound below column lookup of)
      (omega (arith, size i inside, size-lookup (column_lines lines) sound below column lookup of, in_table)));
}
  where
    byte : ℕ
    byte = behind_of lines.plan lines.table column

    ordinal : ℕ → ℕ
    ordinal i = get_or rows.ordinals.now i 0

    null : ℕ → Bool
    null i = is_null (column_at (layout_for lines).columns column).null (draws_of (generator_of lines.plan) lines.table (row_at (generator_of lines.plan) lines.table lines.unit (ordinal i)) column)

    shows : ℕ → List ℕ
    shows i = text_held lines.plan lookup.parent lines.unit (get_or parents i 0) lookup.column

    null_is : (i : ℕ) → i < length rows.ordinals.now → is_null_in lines.plan (column_of lines.plan lines.table column) (run_row rows i) ≡ null i
    null_is i inside =
        null-drawn_for lines (ordinal i) column (get_or rows.births.now i 0) (get_or rows.changes.now i 0) below
        (run-birth lines.plan lines.table lines.unit rows.ordinals.now rows.births.now are.living.run i inside) (are.changes.each i inside)

    null_by : own ≡ column_of lines.plan lines.table column → (i : ℕ) → i < length rows.ordinals.now →
        (if is_null_in lines.plan own (run_row rows i) then null_text own else piece_text_at held i) ≡ (if null i then codes "\\N" ++ byte ∷ [] else piece_text_at held i)
    null_by is i inside =
        ap (λ (run : RunColumnOf). if is_null_in lines.plan run (run_row rows i) then null_text run else piece_text_at held i) is
        ∙ ap (λ (test : Bool). if test then codes "\\N" ++ byte ∷ [] else piece_text_at held i) (null_is i inside)

    written : (i : ℕ) → i < length rows.ordinals.now → text_at lines (ordinal i) column ≡ (if null i then codes "\\N" else shows i)
    written i inside =
        let born : ordinal i < born_for lines = run-born lines.plan lines.table lines.unit rows.ordinals.now rows.births.now are.living.run i inside in
        text-looked_up (column_lines lines) sound below within column (ordinal i) lookup reference (null i) of refers to cascades born (are.living.alive i inside) refl
        ∙ ap (λ (j : ℕ). if null i then codes "\\N" else text_held lines.plan lookup.parent lines.unit j lookup.column)
        (sym (parents_are i inside ∙ parent_of-by (generator_of lines.plan) lines.table (last_unit lines.plan) lines.unit (ordinal i) (reference_by lookup.via reference) within born))

-- the permutations that they ask
pub lookup-steps : (lines : RunLinesOf) (column count before steps : ℕ) (lookup : ReadyLookup) (reference : ReadyReference) → IsInLimits lines.plan → lines.table < length lines.plan.schema.tables →
    IsLookupOf (column_lines lines) column lookup → IsReferenceOf lines.plan lines.table lookup.via reference → steps ≤ before + count * choice_cost reference.drawn → steps ≤ before + count * asked_for lines column
lookup-steps lines column count before steps lookup reference sound below of refers is =
    let some : choice_cost reference.drawn ≤ asked_for lines column = omega (arith, asked-lookup (column_lines lines) sound below column lookup of reference refers) in
    omega (arith, is, mul-le-mul_left count some)
