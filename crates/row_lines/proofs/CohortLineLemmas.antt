-- The line of a row of a cohort, field by field.
use Rattle.std.proofs.Common.{◌≡◌, ◌<◌, ◌≤◌, ℕ, zero, suc, ◌+◌, ◌-◌, ◌==◌, if◌then◌else◌, Bool, false, true, List, [], ◌∷◌, ◌++◌, map, length, min, sum_by, take, get_or, codes, refl, ap, subst, ◌∙◌, arith}
use Rattle.std.specs.List.{join_with_byte, range_with_len}
use Rattle.std.proofs.lemmas.Bool.Decides.{nat_tests}
use Rattle.std.proofs.lemmas.List.{take_all}
use Rattle.std.proofs.lemmas.List.Folds.{fold-map}
use Rattle.std.proofs.lemmas.List.FromFn.{length-range_with_len}
use Rattle.std.proofs.lemmas.List.Sums.{sum_by-append, sum_by-cons, sum_by-take-le, sum_by_more}
use Rattle.schema_facts.specs.declared.column_facts.ColumnFacts.{ColumnFacts}
use Rattle.schema_facts.specs.declared.lineage.Lineage.{Lineage}
use Rattle.schema_plan.specs.declared.ready.ReadyColumn.{ReadyColumn}
use Rattle.cohort_sizes.specs.Births.{cohort_size}
use Rattle.schema_facts.specs.ColumnFacts.{column_facts, column_facts_at, facts_of_kind, field_cost}
use Rattle.schema_facts.specs.FactsBefore.{no_facts}
use Rattle.schema_facts.specs.FieldSizes.{size_of}
use Rattle.schema_facts.specs.Layout.{ColumnLayout, KindLayout, Layout, PartLayout, after_kind, born_kind, case_kind, changed_kind, cited_part, column_at, key_kind, layout_of, leaf_kind, literal_part, lookup_kind, list_kind, no_column, product_kind, reference_kind, sum_kind, table_at, template_kind, unit_date_kind}
use Rattle.schema_facts.specs.Lineage.{lineages, null_cost_of, null_cost_of_field, null_cost_of_part, one_if}
use Rattle.schema_plan.specs.Limits.{IsInLimits, IsKindInLimits, IsPart, IsTableInLimits}
use Rattle.schema_facts.specs.TableFacts.{fields_cost, line_cost, max_line}
use Rattle.schema_facts.proofs.ColumnFactsLemmas.{column_facts_at-is}
use Rattle.schema_facts.proofs.Lists.{length-in_turn}
use Rattle.schema_facts.proofs.FieldFactsLemmas.{CitesEarlier, IsColumnOf, cost-template, cost_cited, field_facts-kind}
use Rattle.life_intervals.specs.CohortParents.{asked_for_change}
use Rattle.life_intervals.specs.Generator.{generator_of, last_unit}
use Rattle.cohort_sizes.proofs.CohortLemmas.{cohort-within}
use Rattle.life_intervals.proofs.AcceptedLemmas.{length-tables}
use Rattle.life_intervals.proofs.CohortParentLemmas.{asked_for_change-cost}
use Rattle.life_intervals.proofs.LifeLemmas.{change_unit-le}
use Rattle.life_intervals.proofs.Ranges.{range_with_len-add}
use Rattle.row_lines.specs.CohortLines.{AreLinesOf, LinesOf, asked_alone, asked_by, asked_by_part, asked_for, asked_for_line, change_for, layout_for, line_in_cohort, ordinal_of, text_in_cohort, unless_known}
use Rattle.row_lines.specs.Lines.{line, line_of}
use Rattle.row_lines.proofs.NullCostLemmas.{null_cost-fields}

-- what the field of a column takes at most in bytes, with the one after it
abbrev pub room_in : LinesOf → ColumnLayout → ℕ
room_in lines column = size_of (layout_of lines.plan).delimiter (layout_of lines.plan).tables (layout_for lines).columns column.kind + 1

-- what the fields before a place take at most
abbrev pub bytes_before : LinesOf → ℕ → ℕ
bytes_before lines place = sum_by (room_in lines) (take place (layout_for lines).columns)

-- and how many permutations, of a row whose key is known
abbrev pub asked_before : LinesOf → ℕ → ℕ
asked_before lines place = sum_by (asked_for true lines) (range_with_len 0 place)

pub asked_for_line-is : (lines : LinesOf) → asked_for_line lines ≡ asked_before lines (length (layout_for lines).columns)
unfolding asked_for_line
asked_for_line-is lines = refl

sum_by-both : {A : Type 0} (f g : A → ℕ) (xs : List A) → sum_by (λ x. f x + g x) xs ≡ sum_by f xs + sum_by g xs
sum_by-both f g [] = refl
sum_by-both f g (x ∷ xs) =
    omega (arith, sum_by-both f g xs, sum_by-cons (λ y. f y + g y) x xs, sum_by-cons f x xs, sum_by-cons g x xs)

sum_by-map : {A B : Type 0} (h : A → B) (xs : List A) (g : B → ℕ) → sum_by g (map h xs) ≡ sum_by (λ x. g (h x)) xs
sum_by-map h xs g = fold-map (λ all y. all + g y) h 0 xs

-- what all take: the bytes of the greatest line
pub max_line-columns : (lines : LinesOf) → max_line (layout_of lines.plan) lines.table ≡ sum_by (room_in lines) (layout_for lines).columns
unfolding max_line
max_line-columns lines =
    sum_by-map (λ (column : ColumnLayout). size_of (layout_of lines.plan).delimiter (layout_of lines.plan).tables (layout_for lines).columns column.kind)
    (layout_for lines).columns (λ size. size + 1)

-- ---- sums over places

pub sum_by-range_more : (f : ℕ → ℕ) (k : ℕ) → sum_by f (range_with_len 0 (k + 1)) ≡ sum_by f (range_with_len 0 k) + f k
sum_by-range_more f k =
    let last : 0 + k ≡ k = omega arith in
    let one : sum_by f (range_with_len (0 + k) 1) ≡ f k = omega (arith, ap f last) in
    omega (arith, one, ap (sum_by f) (range_with_len-add 0 k 1), sum_by-append f (range_with_len 0 k) (range_with_len (0 + k) 1))

sum_by-places : {A : Type 0} (f : A → ℕ) (d : A) (xs : List A) (k : ℕ) → k ≤ length xs → sum_by (λ i. f (get_or xs i d)) (range_with_len 0 k) ≡ sum_by f (take k xs)
sum_by-places f d xs zero within = refl
sum_by-places f d xs (suc k) within =
    let next : suc k ≡ k + 1 = omega arith in
    omega (
      arith,
      ap (λ (n : ℕ). sum_by (λ i. f (get_or xs i d)) (range_with_len 0 n)) next,
      ap (λ (n : ℕ). sum_by f (take n xs)) next,
      sum_by-range_more (λ i. f (get_or xs i d)) k,
      sum_by_more f xs k d (omega (arith, within)),
      sum_by-places f d xs k (omega (arith, within)),
    )

sum_by-least : (f g : ℕ → ℕ) (k : ℕ) → ((i : ℕ) → i < k → f i ≤ g i) → sum_by f (range_with_len 0 k) ≤ sum_by g (range_with_len 0 k)
sum_by-least f g zero each = omega arith
sum_by-least f g (suc k) each =
    let next : suc k ≡ k + 1 = omega arith in
    omega (
      arith,
      ap (λ (n : ℕ). sum_by f (range_with_len 0 n)) next,
      ap (λ (n : ℕ). sum_by g (range_with_len 0 n)) next,
      sum_by-range_more f k,
      sum_by-range_more g k,
      each k (omega arith),
      sum_by-least f g k (λ i below. each i (omega (arith, below))),
    )

-- one more at the first place
sum_by-first : (f g : ℕ → ℕ) (k more : ℕ) → 1 ≤ k → ((i : ℕ) → i < k → f i ≤ g i) → more + f 0 ≤ g 0 → more + sum_by f (range_with_len 0 k) ≤ sum_by g (range_with_len 0 k)
sum_by-first f g zero more some each first = absurd (omega (arith, some))
sum_by-first f g (suc zero) more some each first = omega (arith, first)
sum_by-first f g (suc (suc k)) more some each first =
    let next : suc (suc k) ≡ suc k + 1 = omega arith in
    omega (
      arith,
      ap (λ (n : ℕ). sum_by f (range_with_len 0 n)) next,
      ap (λ (n : ℕ). sum_by g (range_with_len 0 n)) next,
      sum_by-range_more f (suc k),
      sum_by-range_more g (suc k),
      each (suc k) (omega arith),
      sum_by-first f g (suc k) more (omega arith) (λ i below. each i (omega (arith, below))) first,
    )

-- what is kept is of the lines that a contract sees
pub AreLinesOf-view : (kept lines : LinesOf) (columns : List ReadyColumn) (fields : LinesOf) (byte : ℕ) → kept ≡ lines → AreLinesOf kept columns fields byte → AreLinesOf lines columns fields byte
AreLinesOf-view kept lines columns fields byte same known = subst (λ (of : LinesOf). AreLinesOf of columns fields byte) same known

-- a field asks no more permutations than the schema counts for it, and that of the key one less where keys are scrambled
sum_by-each : {A : Type 0} (f g : A → ℕ) → ((x : A) → f x ≤ g x) → (xs : List A) → sum_by f xs ≤ sum_by g xs
sum_by-each f g each [] = omega arith
sum_by-each f g each (x ∷ xs) = omega (arith, each x, sum_by-each f g each xs, sum_by-cons f x xs, sum_by-cons g x xs)

unless_known-le : (kind : KindLayout) (known : Bool) (asked : ℕ) → unless_known kind known asked ≤ asked
unless_known-le key_kind true asked = omega arith
unless_known-le key_kind false asked = omega arith
unless_known-le _ known asked = omega arith

module _ (known : Bool) (layout : Layout) (table : ℕ) where
  abbrev all : List Lineage
  all = lineages layout.tables

  abbrev own : List ColumnLayout
  own = (table_at layout.tables table).columns

  alone-le : (column : ℕ) → asked_alone known layout table column ≤ null_cost_of all (column_at own column).kind + field_cost layout table column
  alone-le column = unless_known-le (column_at own column).kind known (null_cost_of all (column_at own column).kind + field_cost layout table column)

  part-le : (part : PartLayout) → asked_by_part known layout table part ≤ null_cost_of_part all own part + cost_cited layout table part
  part-le (literal_part bytes) = omega arith
  part-le (cited_part column width) = alone-le column

  -- what parts cite stands before
  cites_earlier : (column : ℕ) (part : PartLayout) → IsPart own column part → CitesEarlier column part
  cites_earlier column (literal_part bytes) is = tt
  cites_earlier column (cited_part cited width) is = is.0

  kind-le : (column : ℕ) (kind : KindLayout) → IsColumnOf layout table column kind → IsKindInLimits own column kind →
      asked_by known layout table column kind ≤ null_cost_of_field all own kind + field_cost layout table column
  kind-le column (template_kind parts) of limits =
      omega (
        arith,
        sum_by-each (asked_by_part known layout table) (λ part. null_cost_of_part all own part + cost_cited layout table part) part-le parts,
        sum_by-both (null_cost_of_part all own) (cost_cited layout table) parts,
        cost-template layout table column parts of (λ i d below. cites_earlier column (get_or parts i d) (limits.each i d below)),
      )
  kind-le column (lookup_kind via parent name) of limits = omega arith
  kind-le column key_kind of limits = omega (arith, alone-le column, ap (null_cost_of all) of.kind_is)
  kind-le column born_kind of limits = omega (arith, alone-le column, ap (null_cost_of all) of.kind_is)
  kind-le column changed_kind of limits = omega (arith, alone-le column, ap (null_cost_of all) of.kind_is)
  kind-le column (leaf_kind leaf) of limits = omega (arith, alone-le column, ap (null_cost_of all) of.kind_is)
  kind-le column (case_kind on branches) of limits = omega (arith, alone-le column, ap (null_cost_of all) of.kind_is)
  kind-le column (reference_kind parent window spread nulls drawn) of limits = omega (arith, alone-le column, ap (null_cost_of all) of.kind_is)
  kind-le column (list_kind words) of limits = omega (arith, alone-le column, ap (null_cost_of all) of.kind_is)
  kind-le column (unit_date_kind changed start step) of limits = omega (arith, alone-le column, ap (null_cost_of all) of.kind_is)
  kind-le column (after_kind before lo hi) of limits = omega (arith, alone-le column, ap (null_cost_of all) of.kind_is)
  kind-le column (sum_kind operands) of limits = omega (arith, alone-le column, ap (null_cost_of all) of.kind_is)
  kind-le column (product_kind operands) of limits = omega (arith, alone-le column, ap (null_cost_of all) of.kind_is)

pub asked_for-le : (known : Bool) (lines : LinesOf) (column : ℕ) → lines.table < length lines.plan.schema.tables → IsTableInLimits (last_unit lines.plan) (layout_for lines) → column < length (layout_for lines).columns →
    asked_for known lines column
    ≤ null_cost_of_field (lineages (layout_of lines.plan).tables) (layout_for lines).columns (column_at (layout_for lines).columns column).kind + field_cost (layout_of lines.plan) lines.table column
asked_for-le known lines column table limits within =
    kind-le known (layout_of lines.plan) lines.table column (column_at (layout_for lines).columns column).kind
    (record { below = omega (arith, table, length-tables lines.plan); within = omega (arith, within, limits.column_limit); kind_is = refl }) (limits.kinds column within)

-- the key is the first field, and costs nothing more where it is known
key_first : (lines : LinesOf) → lines.table < length lines.plan.schema.tables → IsTableInLimits (last_unit lines.plan) (layout_for lines) →
    one_if (layout_for lines).key.scramble + asked_for true lines 0
    ≤ null_cost_of_field (lineages (layout_of lines.plan).tables) (layout_for lines).columns (column_at (layout_for lines).columns 0).kind + field_cost (layout_of lines.plan) lines.table 0
key_first lines table limits =
    let of : IsColumnOf (layout_of lines.plan) lines.table 0 key_kind = record { below = omega (arith, table, length-tables lines.plan); within = omega arith; kind_is = limits.key_first } in
    omega (
      arith,
      ap (λ (facts : ColumnFacts). facts.cost) (field_facts-kind (layout_of lines.plan) lines.table 0 key_kind of),
      ap (asked_by true (layout_of lines.plan) lines.table 0) limits.key_first,
      ap (λ (kind : KindLayout). unless_known kind true (null_cost_of (lineages (layout_of lines.plan).tables) kind + field_cost (layout_of lines.plan) lines.table 0)) limits.key_first,
    )

length-facts : (layout : Layout) (table : ℕ) → table < length layout.tables → length (column_facts_at layout table) ≡ 64
length-facts layout table below =
    let earlier = take table (column_facts layout) in
    ap (λ (facts : List ColumnFacts). length facts) (column_facts_at-is layout table below)
    ∙ length-in_turn (λ before place. facts_of_kind layout.units layout.tables (table_at layout.tables table) earlier before (column_at (table_at layout.tables table).columns place).kind) [] (range_with_len 0 64)
    ∙ length-range_with_len 0 64

-- the fields of the table's columns cost no more than the facts tell
fields-cost : (lines : LinesOf) → lines.table < length lines.plan.schema.tables → IsTableInLimits (last_unit lines.plan) (layout_for lines) →
    sum_by (field_cost (layout_of lines.plan) lines.table) (range_with_len 0 (length (layout_for lines).columns)) ≤ fields_cost (layout_of lines.plan) lines.table
fields-cost lines table limits =
    let layout : Layout = layout_of lines.plan in
    let facts : List ColumnFacts = column_facts_at layout lines.table in
    let n : ℕ = length (layout_for lines).columns in
    let cost : ColumnFacts → ℕ = λ (f : ColumnFacts). f.cost in
    let many : n ≤ length facts = omega (arith, limits.column_limit, length-facts layout lines.table (omega (arith, table, length-tables lines.plan))) in
    omega (arith, sum_by-places cost no_facts facts n many, sum_by-take-le cost facts n)

-- a line may ask the permutation of its key, which is its first field, those of its change, and those of its other fields
pub steps-line_cost : (lines : LinesOf) → IsInLimits lines.plan → lines.table < length lines.plan.schema.tables → IsTableInLimits (last_unit lines.plan) (layout_for lines) →
    one_if (layout_for lines).key.scramble + asked_for_change lines.plan lines.table + asked_for_line lines ≤ line_cost (layout_of lines.plan) lines.table
unfolding line_cost
steps-line_cost lines sound table limits =
    let layout : Layout = layout_of lines.plan in
    let columns : List ColumnLayout = (layout_for lines).columns in
    let null : ColumnLayout → ℕ = λ (column : ColumnLayout). null_cost_of_field (lineages layout.tables) columns column.kind in
    let null_at : ℕ → ℕ = λ place. null (column_at columns place) in
    let cost : ℕ → ℕ = field_cost layout lines.table in
    omega (
      arith,
      asked_for_change-cost lines.plan sound lines.table table,
      null_cost-fields lines.plan sound lines.table table,
      sum_by-places null no_column columns (length columns) (omega arith),
      ap (sum_by null) (take_all (length columns) columns (omega arith)),
      sum_by-both null_at cost (range_with_len 0 (length columns)),
      sum_by-first (asked_for true lines) (λ place. null_at place + cost place) (length columns) (one_if (layout_for lines).key.scramble) limits.some_column
          (λ column within. asked_for-le true lines column table limits within) (key_first lines table limits),
      asked_for_line-is lines,
      fields-cost lines table limits,
    )

pub length-delimiter : (column delimiter : ℕ) → length (if column == 0 then [] else delimiter ∷ []) ≡ min column 1
length-delimiter zero delimiter = refl
length-delimiter (suc column) delimiter =
    let later : (if suc column == 0 then [] else delimiter ∷ []) ≡ delimiter ∷ [] = grind (arith, nat_tests) in
    omega (arith, ap (λ (bytes : List ℕ). length bytes) later)

-- the fields are those of the line
pub line_in_cohort-fields : (lines : LinesOf) (index count : ℕ) → count ≡ length (layout_for lines).columns →
    join_with_byte (layout_of lines.plan).delimiter (map (text_in_cohort lines index) (range_with_len 0 count)) ++ codes "\n" ≡ line_in_cohort lines index
unfolding line
line_in_cohort-fields lines index count all =
    ap (λ (n : ℕ). join_with_byte (layout_of lines.plan).delimiter (map (text_in_cohort lines index) (range_with_len 0 n)) ++ codes "\n") all

-- an ordinal lies after the first of its cohort by its index
pub ordinal_of-index : (start first ordinal : ℕ) → first ≡ start → start ≤ ordinal → start + (ordinal - first) ≡ ordinal
ordinal_of-index start first ordinal same begun = omega (arith, same, begun)

-- the line of its index in its cohort is that of the ordinal
pub line_in_cohort-line_of : (lines schema_lines : LinesOf) (index ordinal : ℕ) → lines ≡ schema_lines → ordinal_of schema_lines index ≡ ordinal →
    line_in_cohort lines index ≡ line_of (generator_of schema_lines.plan) schema_lines.unit schema_lines.table ordinal
line_in_cohort-line_of lines schema_lines index ordinal same at =
    ap (λ (of : LinesOf). line_in_cohort of index) same
    ∙ ap (line_of (generator_of schema_lines.plan) schema_lines.unit schema_lines.table) at

-- the unit of a row's last change is no later than the unit of the lines
pub change_for-le : (lines : LinesOf) (index : ℕ) → lines.born ≤ lines.unit → index < cohort_size (layout_for lines).births lines.born → change_for lines index ≤ lines.unit
change_for-le lines index within below =
    change_unit-le (generator_of lines.plan) lines.table lines.unit (ordinal_of lines index)
    (omega (arith, below, cohort-within (layout_for lines).births lines.born lines.unit within))
