-- What the rows of a run hold in a column, by their ordinals, and how it is written.
use Rattle.std.proofs.Common.{◌≡◌, ◌<◌, ◌≤◌, ◌^◌, ℕ, zero, suc, ◌+◌, ◌*◌, Bool, true, false, List, [], ◌∷◌, ◌++◌, length, take, sum_by, flat_map, get_or, codes, decimal, Option, Some, None, option_map, if◌then◌else◌, refl, ap, sym, ◌∙◌, arith, length-append}
use Rattle.std.specs.List.{range_with_len}
use Rattle.std.proofs.lemmas.Bool.{leb-true}
use Rattle.std.proofs.lemmas.List.{take_all}
use Rattle.std.proofs.lemmas.List.FromFn.{length-range_with_len}
use Rattle.std.proofs.lemmas.List.Sums.{sum_by_more, sum_by_more_le}
use Rattle.line_pages.specs.Pages.{Page}
use Rattle.row_text.specs.Fields.{field_text}
use Rattle.row_text.proofs.DigitLemmas.{escaped_text-decimal}
use Rattle.cohort_sizes.specs.Births.{LiesIn, birth, born_count}
use Rattle.cohort_sizes.proofs.CohortLemmas.{birth-only, cohort-within}
use Rattle.schema_plan.specs.declared.ready.ReadyReference.{ReadyReference}
use Rattle.schema_facts.specs.Dictionaries.{Project}
use Rattle.schema_facts.specs.Layout.{ColumnLayout, KindLayout, born_kind, case_kind, changed_kind, column_at, key_kind, layout_of, leaf_kind, lookup_kind, list_kind, unit_date_kind, after_kind, sum_kind, product_kind, no_column, reference_kind, table_at, template_kind}
use Rattle.schema_facts.specs.FieldSizes.{size_of}
use Rattle.schema_plan.specs.Limits.{IsInLimits, IsTableInLimits, is_lookup_kind}
use Rattle.schema_facts.specs.Lineage.{one_if}
use Rattle.schema_plan.specs.Ready.{ready_kind}
use Rattle.schema_facts.specs.References.{Reference, reference_at}
use Rattle.schema_facts.specs.TableFacts.{line_cost, max_line}
use Rattle.draw_values.specs.declared.runs.RunRows.{RunRows}
use Rattle.draw_values.specs.Runs.{AreRunRows, is_short}
use Rattle.draw_values.specs.Values.{is_own, value_at}
use Rattle.life_intervals.specs.CohortParents.{IsReferenceOf, asked_for_change, reference_by}
use Rattle.life_intervals.specs.Generator.{Generator, generator_of, last_unit, rows_in_all, table_of}
use Rattle.life_intervals.specs.Intervals.{change_unit, death, held_parent, held_until, is_live, loss_of, parent_of, row_at}
use Rattle.life_intervals.specs.Keys.{key_of}
use Rattle.life_intervals.specs.Rows.{Row}
use Rattle.life_intervals.specs.Runs.{IsRun}
use Rattle.life_intervals.specs.Sound.{AreSound}
use Rattle.life_intervals.proofs.AcceptedLemmas.{AreSound-accepted, place-below, row_at-changed}
use Rattle.life_intervals.proofs.CohortParentLemmas.{ready_is}
use Rattle.life_intervals.proofs.KeyLemmas.{OrdersCohorts-generator_of, key_of-within}
use Rattle.life_intervals.proofs.LifeLemmas.{change_unit-le, loss_of-death}
use Rattle.life_intervals.proofs.Ranges.{flat_map-range_with_len_more}
use Rattle.life_intervals.proofs.ReferenceLemmas.{at_column, reference_at-within}
use Rattle.row_lines.specs.CohortLines.{LinesOf, asked_for as asked_of_lines}
use Rattle.row_lines.specs.RunFields.{AreRowsOf, asked_for, asked_long, asked_short, size_for}
use Rattle.row_lines.specs.Kept.{kept_by}
use Rattle.row_lines.specs.Runs.{AreLiving, RunLinesOf, behind, layout_for, line_for, living_from, text_at, text_behind}
use Rattle.row_lines.specs.TableLines.{has_short_keys, is_short_at}
use Rattle.row_lines.proofs.CohortLineLemmas.{asked_before, asked_for_line-is, max_line-columns, room_in, steps-line_cost, sum_by-range_more}
use Rattle.row_lines.proofs.FieldLemmas.{field-in_table, field-key, in_table-own}
use Rattle.row_lines.proofs.KeptLemmas.{kept_by-each, kept_by-filter, length-kept_by}
use Rattle.row_lines.proofs.LineLemmas.{key_of-by}
use Rattle.life_intervals.proofs.HeldParentLemmas.{held_parent-cascades, parent_of-by}
use Rattle.row_lines.proofs.ReferenceFieldLemmas.{field-reference, kind_is}
use Rattle.row_lines.proofs.RunTextLemmas.{born_for, line_for-fields}

-- ---- the rows of a run

-- a row is born by the unit
pub run-born : (plan : Project) (table unit : ℕ) (ordinals births : List ℕ) → IsRun plan table unit ordinals births → (i : ℕ) → i < length ordinals → get_or ordinals i 0 < born_count (table_of plan table).births unit
run-born plan table unit ordinals births run i below =
    omega (arith, (run.lies i below).not_ended, cohort-within (table_of plan table).births (get_or births i 0) unit (run.born i below))

-- at the unit that stands beside it
pub run-birth : (plan : Project) (table unit : ℕ) (ordinals births : List ℕ) → IsRun plan table unit ordinals births → (i : ℕ) → i < length ordinals → birth (table_of plan table).births unit (get_or ordinals i 0) ≡ get_or births i 0
run-birth plan table unit ordinals births run i below =
    birth-only (table_of plan table).births unit (get_or births i 0) (get_or ordinals i 0) (run.born i below) (run.lies i below)

pub run-later : (plan : Project) (table unit later : ℕ) (ordinals births : List ℕ) → unit ≤ later → IsRun plan table unit ordinals births → IsRun plan table later ordinals births
run-later plan table unit later ordinals births within run = record {
  same_length = run.same_length;
  lies = run.lies;
  born = λ i below. omega (arith, run.born i below, within);
}

-- ---- what is drawn

own_no_lookup : (kind : KindLayout) → is_own kind ≡ true → is_lookup_kind kind ≡ false
own_no_lookup (lookup_kind via parent column) own = cc
own_no_lookup key_kind own = refl
own_no_lookup born_kind own = refl
own_no_lookup changed_kind own = refl
own_no_lookup (leaf_kind leaf) own = refl
own_no_lookup (template_kind parts) own = refl
own_no_lookup (case_kind on branches) own = refl
own_no_lookup (reference_kind parent window spread nulls drawn) own = refl
own_no_lookup (list_kind words) own = refl
own_no_lookup (unit_date_kind changed start step) own = refl
own_no_lookup (after_kind of lo hi) own = refl
own_no_lookup (sum_kind of) own = refl
own_no_lookup (product_kind of) own = refl

-- what is known to be short is made of units and of draws
pub own_from_short : (delimiter : ℕ) (kind : KindLayout) → is_short (ready_kind delimiter kind) ≡ true → is_own kind ≡ true
own_from_short delimiter born_kind short = refl
own_from_short delimiter changed_kind short = refl
own_from_short delimiter (leaf_kind leaf) short = refl
own_from_short delimiter (case_kind on branches) short = refl
own_from_short delimiter (list_kind words) short = refl
own_from_short delimiter (unit_date_kind changed start step) short = refl
own_from_short delimiter _ short = cc

pub text_at-own : (lines : RunLinesOf) (ordinal column born changed : ℕ) → lines.table < length lines.plan.schema.tables → is_own (column_at (layout_for lines).columns column).kind ≡ true →
    birth (layout_for lines).births lines.unit ordinal ≡ born → changed ≡ change_unit (generator_of lines.plan) lines.table lines.unit ordinal →
    field_text (layout_of lines.plan).delimiter (value_at (layout_of lines.plan) lines.table column (record { ordinal = ordinal; born = born; changed = changed })) ≡ text_at lines ordinal column
text_at-own lines ordinal column born changed below own born_is changed_is =
    let generator : Generator = generator_of lines.plan in
    let row : Row = row_at generator lines.table lines.unit ordinal in
    let written : ℕ → ℕ → List ℕ =
    λ b c. field_text (layout_of lines.plan).delimiter (value_at (layout_of lines.plan) lines.table column (record { ordinal = ordinal; born = b; changed = c })) in
    ap (λ (b : ℕ). written b changed) (sym born_is)
    ∙ ap (written row.born) (changed_is ∙ sym (row_at-changed generator lines.table lines.unit ordinal (place-below lines.plan lines.table below)))
    ∙ ap (field_text (layout_of lines.plan).delimiter)
    (sym (field-in_table generator lines.unit lines.table column row (own_no_lookup (column_at (layout_for lines).columns column).kind own)
    ∙ in_table-own generator lines.table column row own))

-- ---- keys

pub text_at-key : (lines : RunLinesOf) (ordinal column key : ℕ) → (column_at (layout_for lines).columns column).kind ≡ key_kind → (column_at (layout_for lines).columns column).null ≡ 0 →
    lines.unit ≤ last_unit lines.plan → ordinal < born_for lines → key ≡ key_of (generator_of lines.plan) lines.table (last_unit lines.plan) ordinal → key < 2 ^ 64 →
    decimal key ≡ text_at lines ordinal column
text_at-key lines ordinal column key is never within born key_is small =
    sym (escaped_text-decimal (layout_of lines.plan).delimiter key small)
    ∙ ap (λ (k : ℕ). field_text (layout_of lines.plan).delimiter (Some (decimal k))) (key_is ∙ key_of-by (generator_of lines.plan) (last_unit lines.plan) lines.unit lines.table ordinal within born)
    ∙ ap (field_text (layout_of lines.plan).delimiter) (sym (field-key (generator_of lines.plan) lines.unit lines.table ordinal column is never))

-- keys of at most 15 digits
pub key-short : (plan : Project) (table ordinal : ℕ) → has_short_keys plan table ≡ true → ordinal < rows_in_all plan table → key_of (generator_of plan) table (last_unit plan) ordinal < 10 ^ 15
key-short plan table ordinal short within =
    omega (
      arith,
      leb-true ((table_of plan table).key.base + rows_in_all plan table) (10 ^ 15) short,
      key_of-within (generator_of plan) table (OrdersCohorts-generator_of plan table) (last_unit plan) ordinal within,
    )

-- ---- references

-- it has it while the parent lives, where the reference becomes null
held_while_live : (units : ℕ) (generator : Generator) → AreSound units generator.tables → (place : ℕ) → place < length generator.tables → (unit ordinal : ℕ) → unit ≤ units → ordinal < born_count (table_at generator.tables place).births unit →
    (column : ℕ) (reference : Reference) → reference_at (table_at generator.tables place) column ≡ Some reference → reference.nulls ≡ true →
    held_parent generator place unit ordinal reference
    ≡ (if is_live generator reference.parent unit (parent_of generator place unit ordinal reference) then Some (parent_of generator place unit ordinal reference) else None)
held_while_live units generator sound place below unit ordinal within born column reference is nulls =
    let parent : ℕ = parent_of generator place unit ordinal reference in
    ap (λ (loss : Option ℕ). held_until loss unit parent)
    (at_column (λ (r : Reference). loss_of generator place unit ordinal r ≡ (if r.nulls then death generator r.parent unit (parent_of generator place unit ordinal r) else None)) (table_at generator.tables place)
    (loss_of-death units generator sound place below unit ordinal within born) column reference (reference_at-within (table_at generator.tables place) column reference is) is
    ∙ ap (λ (b : Bool). if b then death generator reference.parent unit parent else None) nulls)

-- so it has the parent where it is told to
held_where : (lines : RunLinesOf) → IsInLimits lines.plan → lines.table < length lines.plan.schema.tables → lines.unit ≤ last_unit lines.plan →
    (column ordinal at : ℕ) (ready : ReadyReference) (held nulls : Bool) → IsReferenceOf lines.plan lines.table column ready → ordinal < born_for lines →
    at ≡ parent_of (generator_of lines.plan) lines.table lines.unit ordinal (reference_by column ready) → ready.nulls ≡ nulls →
    (ready.nulls ≡ false → held ≡ true) → (ready.nulls ≡ true → held ≡ is_live (generator_of lines.plan) ready.parent lines.unit at) →
    held_parent (generator_of lines.plan) lines.table lines.unit ordinal (reference_by column ready) ≡ (if held then Some at else None)
held_where lines limits below within column ordinal at ready held true of born at_is nulls kept lost =
    let generator : Generator = generator_of lines.plan in
    let by : Reference = reference_by column ready in
    held_while_live (last_unit lines.plan) generator (AreSound-accepted lines.plan limits) lines.table (place-below lines.plan lines.table below) lines.unit ordinal within born column by
    (ready_is lines.plan lines.table column ready of).is nulls
    ∙ ap (λ (p : ℕ). if is_live generator ready.parent lines.unit p then Some p else None) (sym at_is)
    ∙ ap (λ (b : Bool). if b then Some at else None) (sym (lost nulls))
held_where lines limits below within column ordinal at ready held false of born at_is nulls kept lost =
    held_parent-cascades (generator_of lines.plan) lines.table lines.unit ordinal (reference_by column ready) nulls
    ∙ ap Some (sym at_is) ∙ ap (λ (b : Bool). if b then Some at else None) (sym (kept nulls))

-- what is written for a parent, by its key
key_or_null : (d key at : ℕ) (key_at : ℕ → ℕ) (parent : Option ℕ) (held : Bool) → parent ≡ (if held then Some at else None) → key ≡ key_at at → key < 2 ^ 64 →
    (if held then decimal key else codes "\\N") ≡ field_text d (option_map (λ p. decimal (key_at p)) parent)
key_or_null d key at key_at parent held parent_is key_is small =
    by_held held ∙ ap (λ (o : Option ℕ). field_text d (option_map (λ p. decimal (key_at p)) o)) (sym parent_is)
  where
    by_held : (test : Bool) → (if test then decimal key else codes "\\N") ≡ field_text d (option_map (λ p. decimal (key_at p)) (if test then Some at else None))
    by_held true = sym (escaped_text-decimal d key small) ∙ ap (λ (n : ℕ). field_text d (Some (decimal n))) key_is
    by_held false = refl

pub text_at-reference : (lines : RunLinesOf) → IsInLimits lines.plan → IsTableInLimits (last_unit lines.plan) (layout_for lines) → lines.table < length lines.plan.schema.tables → lines.unit ≤ last_unit lines.plan →
    (column ordinal parent key : ℕ) (ready : ReadyReference) (held : Bool) → IsReferenceOf lines.plan lines.table column ready → ordinal < born_for lines →
    parent ≡ parent_of (generator_of lines.plan) lines.table (last_unit lines.plan) ordinal (reference_by column ready) → parent < born_count (table_of lines.plan ready.parent).births lines.unit →
    key ≡ key_of (generator_of lines.plan) ready.parent (last_unit lines.plan) parent → key < 2 ^ 64 →
    (ready.nulls ≡ false → held ≡ true) → (ready.nulls ≡ true → held ≡ is_live (generator_of lines.plan) ready.parent lines.unit parent) →
    (if held then decimal key else codes "\\N") ≡ text_at lines ordinal column
text_at-reference lines limits own below within column ordinal parent key ready held of born parent_is parent_born key_is small kept lost =
    let generator : Generator = generator_of lines.plan in
    let by : Reference = reference_by column ready in
    let is = (ready_is lines.plan lines.table column ready of).is in
    key_or_null (layout_of lines.plan).delimiter key parent (key_of generator ready.parent lines.unit) (held_parent generator lines.table lines.unit ordinal by) held
    (held_where lines limits below within column ordinal parent ready held ready.nulls of born (parent_is ∙ parent_of-by generator lines.table (last_unit lines.plan) lines.unit ordinal by within born) refl kept lost)
    (key_is ∙ key_of-by generator (last_unit lines.plan) lines.unit ready.parent parent within parent_born) small
    ∙ ap (field_text (layout_of lines.plan).delimiter)
    (sym (field-reference (last_unit lines.plan) generator (AreSound-accepted lines.plan limits) lines.table (place-below lines.plan lines.table below) lines.unit within ordinal born column by is
    (own.reference_never_null column by of.within is)))

-- what its field takes
pub size-of_reference : (lines : RunLinesOf) (column : ℕ) (ready : ReadyReference) → IsReferenceOf lines.plan lines.table column ready → size_for lines column ≡ 20
size-of_reference lines column ready of =
    ap (size_of (layout_of lines.plan).delimiter (layout_of lines.plan).tables (layout_for lines).columns)
    (kind_is (layout_for lines) column (reference_by column ready) (ready_is lines.plan lines.table column ready of).is)

pub size-of_key : (lines : RunLinesOf) (column : ℕ) → (column_at (layout_for lines).columns column).kind ≡ key_kind → size_for lines column ≡ 20
size-of_key lines column is =
    ap (size_of (layout_of lines.plan).delimiter (layout_of lines.plan).tables (layout_for lines).columns) is

-- ---- what lines take

-- the lines of the table, for those born at some unit
abbrev pub lines_of : RunLinesOf → LinesOf
lines_of lines = record { plan = lines.plan; table = lines.table; born = 0; unit = lines.unit }

pub fields-size : (lines : RunLinesOf) (ordinal k : ℕ) → k ≤ length (layout_for lines).columns → ((column : ℕ) → column < k → length (text_at lines ordinal column) ≤ size_for lines column) →
    length (flat_map (text_behind lines ordinal) (range_with_len 0 k)) ≤ sum_by (room_in (lines_of lines)) (take k (layout_for lines).columns)
fields-size lines ordinal zero within short = omega arith
fields-size lines ordinal (suc k) within short =
    let next : suc k ≡ k + 1 = omega arith in
    let text : ℕ → List ℕ = text_behind lines ordinal in
    let columns : List ColumnLayout = (layout_for lines).columns in
    omega (
      arith,
      ap (λ (n : ℕ). length (flat_map text (range_with_len 0 n))) next,
      ap (λ (n : ℕ). sum_by (room_in (lines_of lines)) (take n columns)) next,
      ap (λ (t : List ℕ). length t) (flat_map-range_with_len_more text k),
      length-append (flat_map text (range_with_len 0 k)) (text k),
      length-append (text_at lines ordinal k) (behind (layout_of lines.plan).delimiter (length columns) k ∷ []),
      short k (omega arith),
      sum_by_more (room_in (lines_of lines)) columns k no_column (omega (arith, within)),
      fields-size lines ordinal k (omega (arith, within)) (λ column below. short column (omega (arith, below))),
    )

-- a line whose fields are no longer than they may be
pub line_for-size : (lines : RunLinesOf) (ordinal : ℕ) → 1 ≤ length (layout_for lines).columns →
    ((column : ℕ) → column < length (layout_for lines).columns → length (text_at lines ordinal column) ≤ size_for lines column) → length (line_for lines ordinal) ≤ max_line (layout_of lines.plan) lines.table
line_for-size lines ordinal some short =
    omega (
      arith,
      ap (λ (t : List ℕ). length t) (line_for-fields lines ordinal some),
      fields-size lines ordinal (length (layout_for lines).columns) (omega arith) short,
      ap (sum_by (room_in (lines_of lines))) (take_all (length (layout_for lines).columns) (layout_for lines).columns (omega arith)),
      max_line-columns (lines_of lines),
    )

-- the permutations of the short fields and of the long ones are those of all
pub asked-more : (f : ℕ → ℕ) (k count before steps more : ℕ) → steps ≤ before + count * sum_by f (range_with_len 0 k) → more ≤ steps + count * f k → more ≤ before + count * sum_by f (range_with_len 0 (k + 1))
asked-more f k count before steps more so_far here = omega (arith, so_far, here, ap (λ (n : ℕ). count * n) (sum_by-range_more f k))

asked-split : (lines : RunLinesOf) (k : ℕ) → k ≤ length (layout_for lines).columns →
    sum_by (asked_short lines) (range_with_len 0 k) + sum_by (asked_long lines) (range_with_len 0 k) ≡ asked_before (lines_of lines) k
asked-split lines zero within = refl
asked-split lines (suc k) within =
    let next : suc k ≡ k + 1 = omega arith in
    omega (
      arith,
      ap (λ (n : ℕ). sum_by (asked_short lines) (range_with_len 0 n)) next,
      ap (λ (n : ℕ). sum_by (asked_long lines) (range_with_len 0 n)) next,
      ap (asked_before (lines_of lines)) next,
      sum_by-range_more (asked_short lines) k,
      sum_by-range_more (asked_long lines) k,
      sum_by-range_more (asked_of_lines true (lines_of lines)) k,
      asked-split lines k (omega (arith, within)),
      either (is_short_at lines.plan lines.table k) (asked_for lines k),
    )
  where
    either : (test : Bool) (n : ℕ) → (if test then n else 0) + (if test then 0 else n) ≡ n
    either true n = omega arith
    either false n = omega arith

-- with those of its key and its change they are those that a line may ask
pub line-steps : (lines : RunLinesOf) → IsInLimits lines.plan → lines.table < length lines.plan.schema.tables → IsTableInLimits (last_unit lines.plan) (layout_for lines) →
    asked_for_change lines.plan lines.table + one_if (layout_for lines).key.scramble
    + sum_by (asked_short lines) (range_with_len 0 (length (layout_for lines).columns)) + sum_by (asked_long lines) (range_with_len 0 (length (layout_for lines).columns)) ≤ line_cost (layout_of lines.plan) lines.table
line-steps lines sound table limits =
    omega (
      arith,
      asked-split lines (length (layout_for lines).columns) (omega arith),
      asked_for_line-is (lines_of lines),
      steps-line_cost (lines_of lines) sound table limits,
    )

-- rows of a run as its columns see them
pub run_rows : (lines : RunLinesOf) (rows : RunRows) (count : ℕ) → lines.unit ≤ last_unit lines.plan → AreRowsOf lines rows → count ≡ length rows.ordinals.now → AreRunRows (last_unit lines.plan) count rows
run_rows lines rows count within are count_is = record {
  few = omega (arith, are.few, count_is);
  lengths = record {
    ordinals = sym count_is;
    births = are.living.run.same_length ∙ sym count_is;
    changes = are.changes.same_length ∙ sym count_is;
  };
  born = λ i below. omega (arith, are.living.run.born i (omega (arith, below, count_is)), within);
  changed = λ i below. omega (
    arith,
    are.changes.each i (omega (arith, below, count_is)),
    change_unit-le (generator_of lines.plan) lines.table lines.unit (get_or rows.ordinals.now i 0)
        (run-born lines.plan lines.table lines.unit rows.ordinals.now rows.births.now are.living.run i (omega (arith, below, count_is))),
    within,
  );
}

-- ---- the living of a run

-- what is kept by the lives of the rows is alive
pub kept_living : (lines : RunLinesOf) (ordinals births : List ℕ) (live : List Bool) → IsRun lines.plan lines.table lines.unit ordinals births → length live ≡ length ordinals →
    ((i : ℕ) → i < length ordinals → get_or live i false ≡ is_live (generator_of lines.plan) lines.table lines.unit (get_or ordinals i 0)) →
    AreLiving lines (kept_by live ordinals) (kept_by live births)
kept_living lines ordinals births live run many each = record {
  run = record {
    same_length = length-kept_by live births ordinals run.same_length;
    lies = kept_by-each (λ (ordinal born : ℕ). LiesIn (layout_for lines).births born ordinal) live ordinals births many run.same_length (λ i below passes. run.lies i below);
    born = kept_by-each (λ (ordinal born : ℕ). born ≤ lines.unit) live ordinals births many run.same_length (λ i below passes. run.born i below);
  };
  alive = kept_by-each (λ (ordinal born : ℕ). is_live (generator_of lines.plan) lines.table lines.unit ordinal ≡ true) live ordinals births many run.same_length (λ i below passes. sym (each i below) ∙ passes);
}

-- which are the living of a range
pub kept_range : (lines : RunLinesOf) (first count : ℕ) (live : List Bool) → length live ≡ count →
    ((i : ℕ) → i < count → get_or live i false ≡ is_live (generator_of lines.plan) lines.table lines.unit (get_or (range_with_len first count) i 0)) →
    kept_by live (range_with_len first count) ≡ living_from lines first count
kept_range lines first count live many each =
    kept_by-filter (is_live (generator_of lines.plan) lines.table lines.unit) live (range_with_len first count) (many ∙ sym (length-range_with_len first count))
    (λ i below. each i (omega (arith, below, length-range_with_len first count)))

-- ---- the lines of a cohort among those of the table

abbrev pub run_of : LinesOf → RunLinesOf
run_of lines = record { plan = lines.plan; table = lines.table; unit = lines.unit }

pub sum_by-same : (f g : ℕ → ℕ) (k : ℕ) → ((i : ℕ) → i < k → f i ≡ g i) → sum_by f (range_with_len 0 k) ≡ sum_by g (range_with_len 0 k)
sum_by-same f g zero same = refl
sum_by-same f g (suc k) same =
    let next : suc k ≡ k + 1 = omega arith in
    omega (
      arith,
      ap (λ (n : ℕ). sum_by f (range_with_len 0 n)) next,
      ap (λ (n : ℕ). sum_by g (range_with_len 0 n)) next,
      sum_by-range_more f k,
      sum_by-range_more g k,
      same k (omega arith),
      sum_by-same f g k (λ i below. same i (omega (arith, below))),
    )

-- ---- a line, field by field

-- there is room for the field after those before
pub mixed-room : (lines : RunLinesOf) (ordinal column : ℕ) (old before : Page) → column < length (layout_for lines).columns →
    before ≡ record { text = old.text ++ flat_map (text_behind lines ordinal) (range_with_len 0 column); room = old.room } →
    ((k : ℕ) → k < column → length (text_at lines ordinal k) ≤ size_for lines k) → length old.text + max_line (layout_of lines.plan) lines.table ≤ old.room →
    length before.text + (size_for lines column + 1) ≤ before.room
mixed-room lines ordinal column old before below before_is sizes room =
    let text : List ℕ = flat_map (text_behind lines ordinal) (range_with_len 0 column) in
    omega (
      arith,
      ap (λ (page : Page). length page.text) before_is,
      ap (λ (page : Page). page.room) before_is,
      length-append old.text text,
      fields-size lines ordinal column (omega (arith, below)) sizes,
      sum_by_more_le (room_in (lines_of lines)) (layout_for lines).columns column no_column below,
      max_line-columns (lines_of lines),
      room,
    )

-- the fields are the line
pub mixed-line : (lines : RunLinesOf) (ordinal count : ℕ) → count ≡ length (layout_for lines).columns → 1 ≤ length (layout_for lines).columns →
    flat_map (text_behind lines ordinal) (range_with_len 0 count) ≡ line_for lines ordinal
mixed-line lines ordinal count all some =
    ap (λ (n : ℕ). flat_map (text_behind lines ordinal) (range_with_len 0 n)) all ∙ line_for-fields lines ordinal some

-- which has no more bytes than it may
pub mixed-size : (lines : RunLinesOf) (ordinal count : ℕ) → count ≡ length (layout_for lines).columns → 1 ≤ length (layout_for lines).columns →
    ((k : ℕ) → k < count → length (text_at lines ordinal k) ≤ size_for lines k) → length (line_for lines ordinal) ≤ max_line (layout_of lines.plan) lines.table
mixed-size lines ordinal count all some sizes =
    line_for-size lines ordinal some (λ column below. sizes column (omega (arith, below, all)))
