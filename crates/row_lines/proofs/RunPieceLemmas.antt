-- The pieces of a run, column by column, and the lines that are put together of them.
use Rattle.std.proofs.Common.{◌≡◌, ◌<◌, ◌≤◌, ◌^◌, ℕ, ◌+◌, ◌*◌, Bool, true, false, List, [], ◌∷◌, ◌++◌, All, length, map, get_or, codes, decimal, if◌then◌else◌, refl, ap, subst, sym, ◌∙◌, arith}
use Rattle.std.proofs.lemmas.Grind.{get_or_default_zero}
use Rattle.std.proofs.lemmas.List.{get_or-map}
use Rattle.std.proofs.lemmas.List.FromFn.{get_or-map-range_with_len, length-map-range_with_len}
use Rattle.line_pages.specs.declared.piece.Piece.{Piece}
use Rattle.line_pages.specs.Pieces.{piece_text}
use Rattle.line_pages.specs.Rows.{piece_text_at, row_of_pieces, rows_of_pieces}
use Rattle.row_text.specs.Fields.{field_text}
use Rattle.cohort_sizes.proofs.CohortLemmas.{born_count-le}
use Rattle.schema_plan.specs.declared.ready.ReadyKind.TheVariants as kind
use Rattle.schema_plan.specs.declared.ready.ReadyLookup.{ReadyLookup}
use Rattle.schema_plan.specs.declared.ready.ReadyReference.{ReadyReference}
use Rattle.schema_facts.specs.Dictionaries.{Project}
use Rattle.schema_facts.specs.Layout.{KindLayout, after_kind, born_kind, case_kind, changed_kind, column_at, key_kind, layout_of, leaf_kind, list_kind, lookup_kind, product_kind, reference_kind, sum_kind, template_kind, unit_date_kind}
use Rattle.schema_plan.specs.Ready.{ready_kind}
use Rattle.schema_plan.specs.Limits.{IsInLimits, IsTableInLimits}
use Rattle.schema_facts.specs.TableFacts.{max_line}
use Rattle.draw_values.specs.declared.runs.RunRows.{RunRows}
use Rattle.draw_values.specs.Runs.{AreColumnsOf, IsRunColumn, RunColumnOf, run_row, run_field}
use Rattle.draw_values.specs.Values.{size_at, value_at}
use Rattle.life_intervals.specs.CohortParents.{IsReferenceOf, reference_by}
use Rattle.life_intervals.specs.Generator.{generator_of, last_unit, table_of}
use Rattle.life_intervals.specs.Intervals.{is_live, parent_of}
use Rattle.life_intervals.specs.Keys.{key_of}
use Rattle.life_intervals.specs.Runs.{IsRun}
use Rattle.row_lines.specs.RunFields.{AreMade, AreRowsOf, AreRunLines, size_for}
use Rattle.row_lines.specs.Runs.{AreKeys, RunLinesOf, layout_for, line_for, listed_text, text_at, text_behind}
use Rattle.row_lines.specs.TableLines.{TableLinesOf, behind_of, column_of, has_short_keys, is_short_at, is_valued, table_lines}
use Rattle.row_lines.proofs.FieldLemmas.{length-decimal-le_20}
use Rattle.row_lines.proofs.RunFieldLemmas.{key-short, line_for-size, own_from_short, run-birth, run-born, size-of_key, size-of_reference, text_at-key, text_at-own, text_at-reference}
use Rattle.row_lines.proofs.RunListLemmas.{flat_map-indices, flat_map-range_same, length-flat_map_most}
use Rattle.row_lines.proofs.RunTextLemmas.{line_for-fields}

-- what is kept is of the lines that a contract sees
pub AreRunLines-view : (inside lines : RunLinesOf) (kept : TableLinesOf) → inside ≡ lines → AreRunLines inside kept → AreRunLines lines kept
AreRunLines-view inside lines kept same known = subst (λ (of : RunLinesOf). AreRunLines of kept) same known

-- ---- columns

-- the column at a place, and whether its fields are made as pieces
pub columns-at : (plan : Project) (table column : ℕ) (columns : List RunColumnOf) (found : RunColumnOf) → columns ≡ (table_lines plan table).columns → column < length (table_of plan table).columns →
    found ≡ get_or columns column found → found ≡ column_of plan table column
columns-at plan table column columns found are within at =
    at ∙ ap (λ (all : List RunColumnOf). get_or all column found) are
    ∙ get_or-map-range_with_len (column_of plan table) 0 (length (table_of plan table).columns) column column found within (omega arith)

pub short-at : (plan : Project) (table column : ℕ) (short : List Bool) → short ≡ (table_lines plan table).short → column < length (table_of plan table).columns →
    get_or short column false ≡ is_short_at plan table column
short-at plan table column short are within =
    ap (λ (all : List Bool). get_or all column false) are
    ∙ get_or-map-range_with_len (is_short_at plan table) 0 (length (table_of plan table).columns) column column false within (omega arith)

pub column_of-is : (plan : Project) (table column : ℕ) (run : RunColumnOf) → table < length plan.schema.tables → column < length (table_of plan table).columns → run ≡ column_of plan table column → IsRunColumn plan run
column_of-is plan table column run below within is =
    subst (IsRunColumn plan) (sym is) (record { table_within = below; column_within = within; is = refl })

-- what is ready as no key, no reference and no lookup holds no keys and looks nothing up
pub valued-ready : (delimiter : ℕ) (held : KindLayout) → (ready_kind delimiter held ≡ kind.Key → ⊥) → ((reference : ReadyReference) → ready_kind delimiter held ≡ kind.Reference reference → ⊥) →
    ((lookup : ReadyLookup) → ready_kind delimiter held ≡ kind.Lookup lookup → ⊥) → is_valued held ≡ true
valued-ready delimiter key_kind no_key no_reference no_lookup = absurd (no_key refl)
valued-ready delimiter born_kind no_key no_reference no_lookup = refl
valued-ready delimiter changed_kind no_key no_reference no_lookup = refl
valued-ready delimiter (leaf_kind leaf) no_key no_reference no_lookup = refl
valued-ready delimiter (template_kind parts) no_key no_reference no_lookup = refl
valued-ready delimiter (case_kind on branches) no_key no_reference no_lookup = refl
valued-ready delimiter (reference_kind parent window spread nulls drawn) no_key no_reference no_lookup = absurd (no_reference _ refl)
valued-ready delimiter (lookup_kind via parent name) no_key no_reference no_lookup = absurd (no_lookup _ refl)
valued-ready delimiter (list_kind words) no_key no_reference no_lookup = refl
valued-ready delimiter (unit_date_kind changed start step) no_key no_reference no_lookup = refl
valued-ready delimiter (after_kind of lo hi) no_key no_reference no_lookup = refl
valued-ready delimiter (sum_kind of) no_key no_reference no_lookup = refl
valued-ready delimiter (product_kind of) no_key no_reference no_lookup = refl

-- ---- what is drawn

pub made-drawn : (lines : RunLinesOf) (rows : RunRows) (column : ℕ) (run : RunColumnOf) (pieces : List Piece) → lines.table < length lines.plan.schema.tables → AreRowsOf lines rows →
    run ≡ column_of lines.plan lines.table column → run.short ≡ true →
    ((i : ℕ) → i < length rows.ordinals.now → piece_text_at pieces i ≡ run_field lines.plan run rows i) →
    ((i : ℕ) → i < length rows.ordinals.now → length (field_text (layout_of lines.plan).delimiter (value_at (layout_of lines.plan) run.table run.column (run_row rows i))) ≤ size_at (layout_of lines.plan) run.table run.column) →
    AreMade lines rows.ordinals.now pieces 0 column
made-drawn lines rows column run pieces below are is short text size =
    let own = own_from_short (layout_of lines.plan).delimiter (column_at (layout_for lines).columns column).kind (ap (λ (of : RunColumnOf). of.short) (sym is) ∙ short) in
    let written : (i : ℕ) → i < length rows.ordinals.now →
    field_text (layout_of lines.plan).delimiter (value_at (layout_of lines.plan) lines.table column (run_row rows i)) ≡ text_at lines (get_or rows.ordinals.now i 0) column =
    λ i inside. text_at-own lines (get_or rows.ordinals.now i 0) column (get_or rows.births.now i 0) (get_or rows.changes.now i 0) below own
    (run-birth lines.plan lines.table lines.unit rows.ordinals.now rows.births.now are.living.run i inside) (are.changes.each i inside) in
    record {
      text = λ i inside.
          let begun : 0 + i ≡ i = omega arith in
          ap (piece_text_at pieces) begun ∙ text i inside ∙ ap (λ (of : RunColumnOf). run_field lines.plan of rows i) is
          ∙ ap (λ (t : List ℕ). t ++ behind_of lines.plan lines.table column ∷ []) (written i inside);
      size = λ i inside.
          subst (λ (t : List ℕ). length t ≤ size_for lines column) (written i inside)
          (subst (λ (of : RunColumnOf). length (field_text (layout_of lines.plan).delimiter (value_at (layout_of lines.plan) of.table of.column (run_row rows i))) ≤ size_at (layout_of lines.plan) of.table of.column) is (size i inside));
    }

-- ---- keys

-- of rows of a table whose keys are short
pub keys-short : (plan : Project) (table unit : ℕ) (ordinals births keys : List ℕ) → unit ≤ last_unit plan → IsRun plan table unit ordinals births → length keys ≡ length ordinals →
    ((i : ℕ) → i < length ordinals → get_or keys i 0 ≡ key_of (generator_of plan) table (last_unit plan) (get_or ordinals i 0)) → has_short_keys plan table ≡ true → All (λ number. number < 10 ^ 15) keys
keys-short plan table unit ordinals births keys within run many each short = λ i d below.
    let inside : i < length ordinals = omega (arith, below, many) in
    let small : key_of (generator_of plan) table (last_unit plan) (get_or ordinals i 0) < 10 ^ 15 =
    key-short plan table (get_or ordinals i 0) short
    (omega (arith, run-born plan table unit ordinals births run i inside, born_count-le (table_of plan table).births unit (last_unit plan) within)) in
    subst (λ (key : ℕ). key < 10 ^ 15) (sym (get_or_default_zero keys i d below ∙ each i inside)) small

-- a number and a byte for each
number-at : (numbers : List ℕ) (pieces : List Piece) (byte i : ℕ) → map piece_text pieces ≡ map (λ number. decimal number ++ byte ∷ []) numbers → i < length numbers →
    piece_text_at pieces i ≡ decimal (get_or numbers i 0) ++ byte ∷ []
number-at numbers pieces byte i are below =
    ap (λ (texts : List (List ℕ)). get_or texts i []) are ∙ get_or-map (λ number. decimal number ++ byte ∷ []) numbers i 0 [] below

pub made-keys : (lines : RunLinesOf) (ordinals births keys : List ℕ) (column byte : ℕ) (pieces : List Piece) → lines.unit ≤ last_unit lines.plan → IsTableInLimits (last_unit lines.plan) (layout_for lines) →
    IsRun lines.plan lines.table lines.unit ordinals births → AreKeys lines ordinals keys → has_short_keys lines.plan lines.table ≡ true →
    (column_at (layout_for lines).columns column).kind ≡ key_kind → (column_at (layout_for lines).columns column).null ≡ 0 → byte ≡ behind_of lines.plan lines.table column →
    map piece_text pieces ≡ map (λ number. decimal number ++ byte ∷ []) keys → AreMade lines ordinals pieces 0 column
made-keys lines ordinals births keys column byte pieces within limits run are short is never byte_is made =
    let small : (i : ℕ) → i < length ordinals → get_or keys i 0 < 10 ^ 15 = λ i below.
    keys-short lines.plan lines.table lines.unit ordinals births keys within run are.same_length are.each short i 0 (omega (arith, below, are.same_length)) in
    let written : (i : ℕ) → i < length ordinals → decimal (get_or keys i 0) ≡ text_at lines (get_or ordinals i 0) column = λ i below.
    text_at-key lines (get_or ordinals i 0) column (get_or keys i 0) is never within (run-born lines.plan lines.table lines.unit ordinals births run i below) (are.each i below) (omega (arith, small i below)) in
    record {
      text = λ i below.
          let begun : 0 + i ≡ i = omega arith in
          ap (piece_text_at pieces) begun ∙ number-at keys pieces byte i made (omega (arith, below, are.same_length))
          ∙ ap (λ (b : ℕ). decimal (get_or keys i 0) ++ b ∷ []) byte_is ∙ ap (λ (t : List ℕ). t ++ behind_of lines.plan lines.table column ∷ []) (written i below);
      size = λ i below. omega (
        arith,
        ap (λ (t : List ℕ). length t) (written i below),
        length-decimal-le_20 (get_or keys i 0) (omega (arith, small i below)),
        size-of_key lines column is,
      );
    }

-- ---- references

-- what is put for a row, by whether it still has its parent
pub held_text : Bool → ℕ → ℕ → List ℕ
held_text held key byte = (if held then decimal key else codes "\\N") ++ byte ∷ []

pub key_pieces : (keys : List ℕ) (pieces : List Piece) (byte i : ℕ) → map piece_text pieces ≡ map (λ number. decimal number ++ byte ∷ []) keys → i < length keys → piece_text_at pieces i ≡ held_text true (get_or keys i 0) byte
unfolding held_text
key_pieces keys pieces byte i are below = number-at keys pieces byte i are below

pub nulled_pieces : (keys : List ℕ) (old pieces : List Piece) (null : Piece) (held : List Bool) (byte i : ℕ) → map piece_text old ≡ map (λ number. decimal number ++ byte ∷ []) keys → i < length keys →
    piece_text null ≡ codes "\\N" ++ byte ∷ [] → piece_text_at pieces i ≡ (if get_or held i false then piece_text_at old i else piece_text null) → piece_text_at pieces i ≡ held_text (get_or held i false) (get_or keys i 0) byte
unfolding held_text
nulled_pieces keys old pieces null held byte i are below null_is is = is ∙ by_held (get_or held i false)
  where
    by_held : (test : Bool) → (if test then piece_text_at old i else piece_text null) ≡ (if test then decimal (get_or keys i 0) else codes "\\N") ++ byte ∷ []
    by_held true = number-at keys old byte i are below
    by_held false = null_is

held_length : (held : Bool) (key : ℕ) → key < 10 ^ 15 → length (if held then decimal key else codes "\\N") ≤ 20
held_length true key small = length-decimal-le_20 key (omega (arith, small))
held_length false key small = omega arith

pub made-references : (lines : RunLinesOf) (ordinals births parents parent_births keys : List ℕ) (column byte : ℕ) (ready : ReadyReference) (held : ℕ → Bool) (pieces : List Piece) → IsInLimits lines.plan →
    IsTableInLimits (last_unit lines.plan) (layout_for lines) → lines.table < length lines.plan.schema.tables → lines.unit ≤ last_unit lines.plan → IsRun lines.plan lines.table lines.unit ordinals births →
    IsReferenceOf lines.plan lines.table column ready → has_short_keys lines.plan ready.parent ≡ true → byte ≡ behind_of lines.plan lines.table column → length parents ≡ length ordinals → length keys ≡ length parents →
    ((i : ℕ) → i < length ordinals → get_or parents i 0 ≡ parent_of (generator_of lines.plan) lines.table (last_unit lines.plan) (get_or ordinals i 0) (reference_by column ready)) →
    IsRun lines.plan ready.parent lines.unit parents parent_births →
    ((i : ℕ) → i < length parents → get_or keys i 0 ≡ key_of (generator_of lines.plan) ready.parent (last_unit lines.plan) (get_or parents i 0)) →
    (ready.nulls ≡ false → (i : ℕ) → i < length ordinals → held i ≡ true) →
    (ready.nulls ≡ true → (i : ℕ) → i < length parents → held i ≡ is_live (generator_of lines.plan) ready.parent lines.unit (get_or parents i 0)) →
    ((i : ℕ) → i < length ordinals → piece_text_at pieces i ≡ held_text (held i) (get_or keys i 0) byte) → AreMade lines ordinals pieces 0 column
unfolding held_text
made-references lines ordinals births parents parent_births keys column byte ready held pieces limits own below within run of short byte_is many keys_many parents_are parent_run keys_are kept lost made =
    let small : (i : ℕ) → i < length ordinals → get_or keys i 0 < 10 ^ 15 = λ i inside.
    keys-short lines.plan ready.parent lines.unit parents parent_births keys within parent_run keys_many keys_are short i 0 (omega (arith, inside, keys_many, many)) in
    let written : (i : ℕ) → i < length ordinals → (if held i then decimal (get_or keys i 0) else codes "\\N") ≡ text_at lines (get_or ordinals i 0) column = λ i inside.
    text_at-reference lines limits own below within column (get_or ordinals i 0) (get_or parents i 0) (get_or keys i 0) ready (held i) of
    (run-born lines.plan lines.table lines.unit ordinals births run i inside) (parents_are i inside)
    (run-born lines.plan ready.parent lines.unit parents parent_births parent_run i (omega (arith, inside, many))) (keys_are i (omega (arith, inside, many))) (omega (arith, small i inside))
    (λ cascades. kept cascades i inside) (λ nulls. lost nulls i (omega (arith, inside, many))) in
    record {
      text = λ i inside.
          let begun : 0 + i ≡ i = omega arith in
          ap (piece_text_at pieces) begun ∙ made i inside ∙ ap (λ (b : ℕ). (if held i then decimal (get_or keys i 0) else codes "\\N") ++ b ∷ []) byte_is
          ∙ ap (λ (t : List ℕ). t ++ behind_of lines.plan lines.table column ∷ []) (written i inside);
      size = λ i inside. omega (
        arith,
        ap (λ (t : List ℕ). length t) (written i inside),
        held_length (held i) (get_or keys i 0) (small i inside),
        size-of_reference lines column ready of,
      );
    }

-- ---- lines

-- where all fields are made, the rows of pieces are the lines
pub rows-lines : (lines : RunLinesOf) (ordinals : List ℕ) (pieces : List Piece) (columns count : ℕ) → columns ≡ length (layout_for lines).columns → count ≡ length ordinals → 1 ≤ length (layout_for lines).columns →
    ((column : ℕ) → column < length (layout_for lines).columns → AreMade lines ordinals pieces (column * length ordinals) column) → rows_of_pieces pieces columns count count ≡ listed_text lines ordinals
rows-lines lines ordinals pieces columns count columns_are count_is some made =
    ap (λ (n : ℕ). rows_of_pieces pieces n count count) columns_are
    ∙ ap (λ (n : ℕ). rows_of_pieces pieces (length (layout_for lines).columns) n n) count_is
    ∙ flat_map-range_same (row_of_pieces pieces (length (layout_for lines).columns) (length ordinals)) (λ i. line_for lines (get_or ordinals i 0)) 0 (length ordinals)
    (λ i below. row_is (0 + i) (omega (arith, below)))
    ∙ flat_map-indices (line_for lines) ordinals (length ordinals) 0 refl
  where
    row_is : (i : ℕ) → i < length ordinals → row_of_pieces pieces (length (layout_for lines).columns) (length ordinals) i ≡ line_for lines (get_or ordinals i 0)
    row_is i below =
        flat_map-range_same (λ column. piece_text_at pieces (column * length ordinals + i)) (text_behind lines (get_or ordinals i 0)) 0 (length (layout_for lines).columns)
        (λ column within. (made (0 + column) (omega (arith, within))).text i below)
        ∙ line_for-fields lines (get_or ordinals i 0) some

-- and none is longer than the table's greatest line
pub lines-size : (lines : RunLinesOf) (ordinals : List ℕ) → ((i : ℕ) → i < length ordinals → length (line_for lines (get_or ordinals i 0)) ≤ max_line (layout_of lines.plan) lines.table) →
    length (listed_text lines ordinals) ≤ length ordinals * max_line (layout_of lines.plan) lines.table
lines-size lines ordinals each = length-flat_map_most (line_for lines) (max_line (layout_of lines.plan) lines.table) ordinals 0 each

pub made-size : (lines : RunLinesOf) (ordinals : List ℕ) (pieces : List Piece) → 1 ≤ length (layout_for lines).columns →
    ((column : ℕ) → column < length (layout_for lines).columns → AreMade lines ordinals pieces (column * length ordinals) column) →
    length (listed_text lines ordinals) ≤ length ordinals * max_line (layout_of lines.plan) lines.table
made-size lines ordinals pieces some made =
    lines-size lines ordinals (λ i below. line_for-size lines (get_or ordinals i 0) some (λ column within. (made column within).size i below))

-- as many columns as the table has
pub length-columns : (plan : Project) (table : ℕ) (columns : List RunColumnOf) → columns ≡ (table_lines plan table).columns → length columns ≡ length (table_of plan table).columns
length-columns plan table columns are = ap (λ (all : List RunColumnOf). length all) are ∙ length-map-range_with_len (column_of plan table) 0 (length (table_of plan table).columns)

pub length-short : (plan : Project) (table : ℕ) (short : List Bool) → short ≡ (table_lines plan table).short → length short ≡ length (table_of plan table).columns
length-short plan table short are = ap (λ (all : List Bool). length all) are ∙ length-map-range_with_len (is_short_at plan table) 0 (length (table_of plan table).columns)

-- each with its seed
pub columns-seeds : (plan : Project) (table : ℕ) (columns : List RunColumnOf) → columns ≡ (table_lines plan table).columns → AreColumnsOf plan table columns
columns-seeds plan table columns are =
    let count : ℕ = length (table_of plan table).columns in
    record {
      many = length-columns plan table columns are;
      each = λ column below.
          let within : column < count = omega (arith, below, length-columns plan table columns are) in
          get_or-map (λ (run : RunColumnOf). run.seed) columns column (column_of plan table column) 0 below
          ∙ ap (λ (all : List RunColumnOf). (get_or all column (column_of plan table column)).seed) are
          ∙ ap (λ (run : RunColumnOf). run.seed) (get_or-map-range_with_len (column_of plan table) 0 count column column (column_of plan table column) within (omega arith));
    }

-- a piece at a place
pub piece-at : (pieces : List Piece) (place : ℕ) (piece : Piece) → place < length pieces → piece ≡ get_or pieces place piece → piece_text piece ≡ piece_text_at pieces place
piece-at pieces place piece below is = ap piece_text is ∙ sym (get_or-map piece_text pieces place piece [] below)
