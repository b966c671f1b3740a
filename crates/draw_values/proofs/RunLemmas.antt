-- The fields of a column over a run of rows, by what a plan keeps ready for the column.
use Rattle.std.proofs.Common.{◌≡◌, ◌<◌, ◌≤◌, ◌^◌, ◌%◌, ◌+ℤ◌, pos, ℕ, ℤ, Bool, true, false, zero, suc, max, List, [], ◌∷◌, if◌then◌else◌, get_or, length, map, option_map, Option, None, Some, refl, ap, sym, ◌∙◌, arith}
use Rattle.std.specs.Prelude.{codes, unwrap_or}
use Rattle.std.specs.List.{fold, range_with_len}
use Rattle.std.proofs.lemmas.Bool.{le-ltb}
use Rattle.std.proofs.lemmas.List.{get_or-map, length-map}
use Rattle.std.proofs.lemmas.List.FromFn.{get_or-map-range_with_len, length-map-range_with_len}
use Rattle.philox_seeds.specs.SeedTree.{column_seed, draw, table_seed}
use Rattle.line_pages.specs.declared.piece.Piece.{Piece}
use Rattle.line_pages.specs.Pieces.{piece_text}
use Rattle.line_pages.proofs.LowBytes.{length-low_bytes}
use Rattle.row_text.specs.Fields.{field_text, escaped_text as written_text}
use Rattle.schema_plan.specs.declared.ready.ReadyColumn.{ReadyColumn}
use Rattle.schema_plan.specs.declared.ready.ReadyKind.{ReadyKind}
use Rattle.schema_plan.specs.declared.ready.ReadyKind.TheVariants as kind
use Rattle.schema_plan.specs.declared.ready.ReadyLeaf.{ReadyLeaf}
use Rattle.schema_plan.specs.declared.ready.ReadyLeaf.TheVariants as leaf
use Rattle.schema_facts.specs.Dictionaries.{Project}
use Rattle.schema_facts.specs.Layout.{KindLayout, key_kind, born_kind, changed_kind, leaf_kind, template_kind, case_kind, reference_kind, lookup_kind, list_kind, unit_date_kind, after_kind, sum_kind, product_kind, ColumnLayout, column_at, layout_of, table_at}
use Rattle.schema_plan.specs.Limits.{IsKindInLimits, IsTableInLimits}
use Rattle.schema_plan.specs.Ready.{ready_columns, ready_kind}
use Rattle.draw_values.specs.declared.runs.RunRows.{RunRows}
use Rattle.draw_values.specs.Dates.{date_text}
use Rattle.draw_values.specs.ReadyValues.{chooser_of, ready_day, ready_held_entry, ready_kind_size, ready_size, ready_text, ready_value}
use Rattle.draw_values.specs.Runs.{IsReadyDrawn, IsRunColumn, RunColumnOf, is_null_in, is_short, is_short_alone, is_short_leaf, leaf_texts, ready_at, run_row, run_seed, run_field, short_value, text_by, with_behind}
use Rattle.draw_values.specs.Values.{Draws, chosen, chosen_group, draws_at, is_null, is_own, size_at, unless_null, value_at}
use Rattle.draw_values.proofs.ColumnLemmas.{length-decimal-unit, ready_column-at}
use Rattle.draw_values.proofs.DateLemmas.{length-date_digits}
use Rattle.draw_values.proofs.FieldLemmas.{IsKeptField, kept_field, length-field_text, size_at-kept, value_at-kept}
use Rattle.draw_values.proofs.ReadyLemmas.{leaf_is_ready, list_is_ready}

-- ---- the kinds of short columns

short_own : (delimiter : ℕ) (held : KindLayout) → is_short_alone (ready_kind delimiter held) ≡ true → is_own held ≡ true
short_own delimiter key_kind short = short
short_own delimiter born_kind short = refl
short_own delimiter changed_kind short = refl
short_own delimiter (leaf_kind drawn) short = refl
short_own delimiter (template_kind parts) short = short
short_own delimiter (case_kind on branches) short = absurd (cc)
short_own delimiter (reference_kind parent window spread nulls drawn) short = short
short_own delimiter (lookup_kind via parent name) short = short
short_own delimiter (list_kind words) short = refl
short_own delimiter (unit_date_kind changed start step) short = refl
short_own delimiter (after_kind of lo hi) short = short
short_own delimiter (sum_kind of) short = short
short_own delimiter (product_kind of) short = short

short_chooser : (place : ℕ) (held : ReadyKind) → is_short_alone held ≡ true → place ≡ chooser_of place held
short_chooser place kind.Key short = refl
short_chooser place kind.Born short = refl
short_chooser place kind.Changed short = refl
short_chooser place (kind.Drawn drawn) short = refl
short_chooser place (kind.Template parts) short = refl
short_chooser place (kind.Case on branches) short = absurd (cc)
short_chooser place (kind.Reference reference) short = refl
short_chooser place (kind.Lookup lookup) short = refl
short_chooser place (kind.List list) short = refl
short_chooser place (kind.UnitDate date) short = refl
short_chooser place (kind.After after) short = refl
short_chooser place (kind.Sum of) short = refl
short_chooser place (kind.Product of) short = refl

-- what is drawn is within its limits
pub drawn_is_ready : (delimiter : ℕ) (columns : List ColumnLayout) (place : ℕ) (held : KindLayout) → IsKindInLimits columns place held → IsReadyDrawn (ready_kind delimiter held)
drawn_is_ready delimiter columns place key_kind limits = tt
drawn_is_ready delimiter columns place born_kind limits = tt
drawn_is_ready delimiter columns place changed_kind limits = tt
drawn_is_ready delimiter columns place (leaf_kind drawn) limits = leaf_is_ready delimiter drawn limits
drawn_is_ready delimiter columns place (template_kind parts) limits = tt
drawn_is_ready delimiter columns place (case_kind on branches) limits = tt
drawn_is_ready delimiter columns place (reference_kind parent window spread nulls drawn) limits = tt
drawn_is_ready delimiter columns place (lookup_kind via parent name) limits = tt
drawn_is_ready delimiter columns place (list_kind words) limits = list_is_ready delimiter words
drawn_is_ready delimiter columns place (unit_date_kind changed start step) limits = tt
drawn_is_ready delimiter columns place (after_kind of lo hi) limits = tt
drawn_is_ready delimiter columns place (sum_kind of) limits = tt
drawn_is_ready delimiter columns place (product_kind of) limits = tt

-- ---- values

pub text_by-ready : (drawn : ReadyLeaf) (draws : Draws) → is_short_leaf drawn ≡ true → ready_text drawn draws ≡ text_by drawn (draws 1)
text_by-ready (leaf.Int lo hi step count) draws short = refl
text_by-ready (leaf.Fixed lo hi count decimals unit) draws short = refl
text_by-ready (leaf.Date lo hi count) draws short = refl
text_by-ready (leaf.Pick entries weights total) draws short = refl
text_by-ready (leaf.Skew lo weights total) draws short = refl
text_by-ready (leaf.Chars lo lengths characters count) draws short = absurd (cc)
text_by-ready (leaf.Dict words) draws short = refl
text_by-ready (leaf.Words lo lengths words) draws short = absurd (cc)
text_by-ready leaf.Uuid draws short = absurd (cc)

short_value-ready : (seed : ℕ) (changes : Bool) (held : ReadyKind) (rows : RunRows) (i : ℕ) (entry : Option ℕ) → is_short_alone held ≡ true →
    ready_value (run_row rows i) entry (draw (run_seed seed changes rows i)) held ≡ Some (short_value seed changes held rows i)
short_value-ready seed changes kind.Key rows i entry short = absurd (cc)
short_value-ready seed changes kind.Born rows i entry short = refl
short_value-ready seed changes kind.Changed rows i entry short = refl
short_value-ready seed changes (kind.Drawn drawn) rows i entry short = ap Some (text_by-ready drawn (draw (run_seed seed changes rows i)) short)
short_value-ready seed changes (kind.Template parts) rows i entry short = absurd (cc)
short_value-ready seed changes (kind.Case on branches) rows i entry short = absurd (cc)
short_value-ready seed changes (kind.Reference reference) rows i entry short = absurd (cc)
short_value-ready seed changes (kind.Lookup lookup) rows i entry short = absurd (cc)
short_value-ready seed changes (kind.List list) rows i entry short = refl
short_value-ready seed changes (kind.UnitDate date) rows i entry short = refl
short_value-ready seed changes (kind.After after) rows i entry short = absurd (cc)
short_value-ready seed changes (kind.Sum of) rows i entry short = absurd (cc)
short_value-ready seed changes (kind.Product of) rows i entry short = absurd (cc)

-- the draws of a row's field
pub run_draws : (plan : Project) (run : RunColumnOf) (column : ReadyColumn) (rows : RunRows) (i : ℕ) → IsRunColumn plan run → column ≡ ready_at plan run.table run.column →
    draw (run_seed run.seed column.changes rows i) ≡ draws_at (layout_of plan) run.table (run_row rows i) run.column
run_draws plan run column rows i of is =
    ap (λ (seed : ℕ). draw (run_seed seed column.changes rows i)) (ap (λ (r : RunColumnOf). r.seed) of.is)
    ∙ ap (λ (found : ReadyColumn). draw (run_seed (column_seed (table_seed (layout_of plan).seed run.table) run.column) found.changes rows i)) is

-- what is written for a field as it is kept, null where it is None
abbrev pub or_null : Option (List ℕ) → List ℕ
or_null None = codes "\\N"
or_null (Some text) = text

-- a field that is known as it is kept
pub field_text-kept : (delimiter : ℕ) (value held : Option (List ℕ)) → option_map (written_text delimiter) value ≡ held → field_text delimiter value ≡ or_null held
field_text-kept delimiter None held is = ap or_null is
field_text-kept delimiter (Some text) held is = ap or_null is

-- nulls are put over values
nulled : (null : Bool) (behind : ℕ) (text before after : List ℕ) → before ≡ with_behind behind text → after ≡ (if null then with_behind behind (codes "\\N") else before) →
    after ≡ with_behind behind (or_null (if null then None else Some text))
nulled true behind text before after before_is after_is = after_is
nulled false behind text before after before_is after_is = after_is ∙ before_is

-- the column that is kept for a short one
pub kept_short : (plan : Project) (run : RunColumnOf) (kept : List ReadyColumn) (column : ReadyColumn) (units : ℕ) → IsRunColumn plan run → kept ≡ ready_columns (layout_of plan) run.table →
    IsTableInLimits units (table_at (layout_of plan).tables run.table) → column ≡ get_or kept run.column column → column ≡ ready_at plan run.table run.column → is_short_alone column.kind ≡ true →
    IsKeptField (layout_of plan) run.table run.column run.column column column
kept_short plan run kept column units of kept_is limits at is short =
    let held : KindLayout = (column_at (table_at (layout_of plan).tables run.table).columns run.column).kind in
    let own : is_own held ≡ true = short_own (layout_of plan).delimiter held (ap (λ (found : ReadyColumn). is_short_alone found.kind) (sym is) ∙ short) in
    kept_field (layout_of plan) run.table run.column run.column units kept column column kept_is limits of.column_within own at (short_chooser run.column column.kind short) at

-- the texts that a run is filled with
pub run_field-filled : (plan : Project) (run : RunColumnOf) (column : ReadyColumn) (rows : RunRows) (i : ℕ) (before after : List ℕ) → IsRunColumn plan run →
    IsKeptField (layout_of plan) run.table run.column run.column column column → column ≡ ready_at plan run.table run.column → is_short_alone column.kind ≡ true →
    before ≡ with_behind run.behind (short_value run.seed column.changes column.kind rows i) →
    after ≡ (if is_null column.null (draw (run_seed run.seed column.changes rows i)) then with_behind run.behind (codes "\\N") else before) →
    after ≡ run_field plan run rows i
run_field-filled plan run column rows i before after of kept is short before_is after_is =
    let draws : Draws = draw (run_seed run.seed column.changes rows i) in
    let drawn = run_draws plan run column rows i of is in
    let entry : Option ℕ = ready_held_entry column draws in
    let field = value_at-kept (layout_of plan) run.table run.column run.column column column kept (run_row rows i) (run_row rows i) draws draws refl drawn drawn in
    nulled (is_null column.null draws) run.behind (short_value run.seed column.changes column.kind rows i) before after before_is after_is
    ∙ ap (λ (value : Option (List ℕ)). with_behind run.behind (or_null (unless_null column.null draws value))) (sym (short_value-ready run.seed column.changes column.kind rows i entry short))
    ∙ ap (with_behind run.behind) (sym (field_text-kept (layout_of plan).delimiter (value_at (layout_of plan) run.table run.column (run_row rows i)) _ field))

-- ---- sizes

piece_text-short : (piece : Piece) → length (piece_text piece) ≤ 16
piece_text-short piece = omega (arith, length-low_bytes piece.len piece.word, piece.short)

-- a text that a piece has is of at most 16 bytes
pub text-short : (pieces : List Piece) (i : ℕ) → length (get_or (map piece_text pieces) i []) ≤ 16
text-short [] i = omega arith
text-short (piece ∷ pieces) zero = piece_text-short piece
text-short (piece ∷ pieces) (suc i) = text-short pieces i

greatest_from_most : (most : ℕ) (entries : List (List ℕ)) → most ≤ fold (λ m text. max m (length text)) most entries
greatest_from_most most [] = omega arith
greatest_from_most most (entry ∷ entries) = omega (arith, greatest_from_most (max most (length entry)) entries)

pub entry_size : (most : ℕ) (entries : List (List ℕ)) (i : ℕ) → length (get_or entries i []) ≤ fold (λ m text. max m (length text)) most entries
entry_size most [] i = omega arith
entry_size most (entry ∷ entries) zero = omega (arith, greatest_from_most (max most (length entry)) entries)
entry_size most (entry ∷ entries) (suc i) = entry_size (max most (length entry)) entries i

length-date_text : (day : ℤ) → length (date_text day) ≡ 10
unfolding date_text
length-date_text day = length-date_digits _ _ _

-- a short text of a leaf is no longer than its greatest size
pub leaf_text_size : (drawn : ReadyLeaf) (number : ℕ) → is_short_leaf drawn ≡ true → length (text_by drawn number) ≤ 15 → length (text_by drawn number) ≤ ready_size drawn
leaf_text_size (leaf.Int lo hi step count) number short few = omega arith
leaf_text_size (leaf.Fixed lo hi count decimals unit) number short few = omega arith
leaf_text_size (leaf.Date lo hi count) number short few = omega (arith, length-date_text (chosen lo hi 1 number))
leaf_text_size (leaf.Pick entries weights total) number short few = entry_size 0 entries (chosen_group weights number)
leaf_text_size (leaf.Skew lo weights total) number short few = omega arith
leaf_text_size (leaf.Chars lo lengths characters count) number short few = absurd (cc)
leaf_text_size (leaf.Dict words) number short few = entry_size 0 words.entries (chosen_group words.weights number)
leaf_text_size (leaf.Words lo lengths words) number short few = absurd (cc)
leaf_text_size leaf.Uuid number short few = absurd (cc)

short_value_size : (seed : ℕ) (changes : Bool) (held : ReadyKind) (rows : RunRows) (i : ℕ) → is_short_alone held ≡ true → (run_row rows i).born ≤ 10000 → (run_row rows i).changed ≤ 10000 →
    length (short_value seed changes held rows i) ≤ 15 → length (short_value seed changes held rows i) ≤ ready_kind_size held
short_value_size seed changes kind.Key rows i short born changed few = absurd (cc)
short_value_size seed changes kind.Born rows i short born changed few = length-decimal-unit (run_row rows i).born born
short_value_size seed changes kind.Changed rows i short born changed few = length-decimal-unit (run_row rows i).changed changed
short_value_size seed changes (kind.Drawn drawn) rows i short born changed few = leaf_text_size drawn (draw (run_seed seed changes rows i) 1) short few
short_value_size seed changes (kind.Template parts) rows i short born changed few = absurd (cc)
short_value_size seed changes (kind.Case on branches) rows i short born changed few = absurd (cc)
short_value_size seed changes (kind.Reference reference) rows i short born changed few = absurd (cc)
short_value_size seed changes (kind.Lookup lookup) rows i short born changed few = absurd (cc)
short_value_size seed changes (kind.List list) rows i short born changed few = entry_size 0 list.words.entries ((run_row rows i).ordinal % list.count)
short_value_size seed changes (kind.UnitDate date) rows i short born changed few = omega (arith, length-date_text (ready_day date (run_row rows i)))
short_value_size seed changes (kind.After after) rows i short born changed few = absurd (cc)
short_value_size seed changes (kind.Sum of) rows i short born changed few = absurd (cc)
short_value_size seed changes (kind.Product of) rows i short born changed few = absurd (cc)

unless_null_size : (null : Bool) (value : List ℕ) (size : ℕ) → length value ≤ size → length (unwrap_or (if null then None else Some value) []) ≤ size
unless_null_size true value size fits = omega arith
unless_null_size false value size fits = fits

-- a field of a short column is no longer than the greatest size of its fields
pub run_text_size : (plan : Project) (run : RunColumnOf) (column : ReadyColumn) (rows : RunRows) (i : ℕ) → IsRunColumn plan run →
    IsKeptField (layout_of plan) run.table run.column run.column column column → column ≡ ready_at plan run.table run.column → is_short_alone column.kind ≡ true →
    (run_row rows i).born ≤ 10000 → (run_row rows i).changed ≤ 10000 → length (short_value run.seed column.changes column.kind rows i) ≤ 15 →
    length (field_text (layout_of plan).delimiter (value_at (layout_of plan) run.table run.column (run_row rows i))) ≤ size_at (layout_of plan) run.table run.column
run_text_size plan run column rows i of kept is short born changed few =
    let draws : Draws = draw (run_seed run.seed column.changes rows i) in
    let drawn = run_draws plan run column rows i of is in
    let value : List ℕ = short_value run.seed column.changes column.kind rows i in
    let entry : Option ℕ = ready_held_entry column draws in
    let field = value_at-kept (layout_of plan) run.table run.column run.column column column kept (run_row rows i) (run_row rows i) draws draws refl drawn drawn in
    let size : length value ≤ ready_kind_size column.kind = short_value_size run.seed column.changes column.kind rows i short born changed few in
    let held : unless_null column.null draws (ready_value (run_row rows i) entry draws column.kind) ≡ unless_null column.null draws (Some value) =
    ap (unless_null column.null draws) (short_value-ready run.seed column.changes column.kind rows i entry short) in
    omega (
      arith,
      length-field_text (layout_of plan).delimiter (ready_kind_size column.kind) (value_at (layout_of plan) run.table run.column (run_row rows i)) (unless_null column.null draws (Some value)) (field ∙ held)
          (unless_null_size (is_null column.null draws) value (ready_kind_size column.kind) size),
      size_at-kept (layout_of plan) run.table run.column run.column column column kept,
    )

-- ---- the column that is read

pub own_ready : (plan : Project) (run : RunColumnOf) (kept : List ReadyColumn) (column : ReadyColumn) (table place : ℕ) → IsRunColumn plan run → kept ≡ ready_columns (layout_of plan) table →
    table ≡ run.table → place ≡ run.column → column ≡ get_or kept place column → column ≡ ready_at plan run.table run.column
own_ready plan run kept column table place of kept_is table_is place_is at =
    ready_column-at (layout_of plan).delimiter (table_at (layout_of plan).tables run.table).columns kept run.column column (kept_is ∙ ap (ready_columns (layout_of plan)) table_is) of.column_within
    (at ∙ ap (λ (p : ℕ). get_or kept p column) place_is)

-- what is drawn to be null in it
pub null_in : (plan : Project) (run : RunColumnOf) (column : ReadyColumn) (rows : RunRows) (i : ℕ) → IsRunColumn plan run → column ≡ ready_at plan run.table run.column →
    is_null column.null (draw (run_seed run.seed column.changes rows i)) ≡ is_null_in plan run (run_row rows i)
null_in plan run column rows i of is =
    ap (is_null column.null) (run_draws plan run column rows i of is)
    ∙ ap (λ (found : ReadyColumn). is_null found.null (draws_at (layout_of plan) run.table (run_row rows i) run.column)) is

-- ---- days that are kept

pub days_kept : (behind : ℕ) (lo hi : ℤ) (count : ℕ) (texts : List (List ℕ)) (day : ℕ) → texts ≡ leaf_texts behind (leaf.Date lo hi count) → count ≤ 4096 → day < count →
    (day < length texts) × (get_or texts day [] ≡ with_behind behind (date_text (lo +ℤ pos day)))
days_kept behind lo hi count texts day texts_are few within =
    let text : ℕ → List ℕ = λ (d : ℕ). date_text (lo +ℤ pos d) in
    let days : List (List ℕ) = map text (range_with_len 0 count) in
    let none : List (List ℕ) = [] in
    let is : texts ≡ map (with_behind behind) days =
    texts_are ∙ ap (λ (many : Bool). map (with_behind behind) (if many then none else days)) (le-ltb 4096 count few) in
    let long : length days ≡ count = length-map-range_with_len text 0 count in (
      omega (arith, ap (length {A = List ℕ}) is, length-map days (with_behind behind), long),
      ap (λ (all : List (List ℕ)). get_or all day []) is
          ∙ get_or-map (with_behind behind) days day [] [] (omega (arith, long))
          ∙ ap (with_behind behind) (get_or-map-range_with_len text 0 count day day [] within (omega arith)),
    )

-- what is short and no case goes by no other column
pub alone_from_short : (held : ReadyKind) → is_short held ≡ true → ((on : ℕ) (branches : List ReadyLeaf) → held ≡ kind.Case on branches → ⊥) → is_short_alone held ≡ true
alone_from_short kind.Key short no_case = short
alone_from_short kind.Born short no_case = short
alone_from_short kind.Changed short no_case = short
alone_from_short (kind.Drawn drawn) short no_case = short
alone_from_short (kind.Template parts) short no_case = short
alone_from_short (kind.Case on branches) short no_case = absurd (no_case on branches refl)
alone_from_short (kind.Reference reference) short no_case = short
alone_from_short (kind.Lookup lookup) short no_case = short
alone_from_short (kind.List list) short no_case = short
alone_from_short (kind.UnitDate date) short no_case = short
alone_from_short (kind.After after) short no_case = short
alone_from_short (kind.Sum of) short no_case = short
alone_from_short (kind.Product of) short no_case = short

-- the place of the column that cases go by is a number of 32 bits
pub chooser_small : (delimiter : ℕ) (columns : List ColumnLayout) (place : ℕ) (held : KindLayout) → IsKindInLimits columns place held → place < 2 ^ 32 → chooser_of 0 (ready_kind delimiter held) < 2 ^ 32
chooser_small delimiter columns place key_kind limits small = omega arith
chooser_small delimiter columns place born_kind limits small = omega arith
chooser_small delimiter columns place changed_kind limits small = omega arith
chooser_small delimiter columns place (leaf_kind drawn) limits small = omega arith
chooser_small delimiter columns place (template_kind parts) limits small = omega arith
chooser_small delimiter columns place (case_kind on branches) limits small = omega (arith, limits.earlier)
chooser_small delimiter columns place (reference_kind parent window spread nulls drawn) limits small = omega arith
chooser_small delimiter columns place (lookup_kind via parent name) limits small = omega arith
chooser_small delimiter columns place (list_kind words) limits small = omega arith
chooser_small delimiter columns place (unit_date_kind changed start step) limits small = omega arith
chooser_small delimiter columns place (after_kind of lo hi) limits small = omega arith
chooser_small delimiter columns place (sum_kind of) limits small = omega arith
chooser_small delimiter columns place (product_kind of) limits small = omega arith
