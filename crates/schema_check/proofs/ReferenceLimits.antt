-- References that pass the tests of the rules are within their limits.
use Rattle.std.proofs.Common.{◌≡◌, ◌∙◌, ℕ, ℤ, pos, suc, ◌+◌, ◌<◌, ◌≤◌, ◌==◌, ◌&&◌, ◌||◌, All, Bool, true, false, filter_map, List, [], ◌∷◌, length, map, get_or, nat_le, nat_lt, int_le, Option, Some, None, refl, sym, ap, subst, add-zero, zero-add, arith}
use Rattle.std.specs.List.{cons_option, enumerate_from, list_all, range_with_len}
use Rattle.std.proofs.lemmas.Bool.{and_parts, leb-true, ltb-true}
use Rattle.std.proofs.lemmas.Bool.Decides.{nat_tests}
use Rattle.std.proofs.lemmas.List.{get_or-map, length-map}
use Rattle.std.proofs.lemmas.List.Elements.{All-cons}
use Rattle.std.proofs.lemmas.List.FromFn.{get_or-range_with_len, length-range_with_len}
use Rattle.schema_model.specs.declared.column.Column.{Column}
use Rattle.schema_model.specs.declared.column.Kind.{Kind}
use Rattle.schema_model.specs.declared.column.Kind.TheVariants as kind
use Rattle.schema_model.specs.declared.column.Window.{Window}
use Rattle.schema_model.specs.declared.column.Window.TheVariants as window
use Rattle.cohort_sizes.specs.Births.{Births, born_count, cohort_size}
use Rattle.schema_facts.specs.Counts.{count}
use Rattle.schema_facts.specs.Dictionaries.{Project}
use Rattle.schema_facts.specs.Layout.{ColumnLayout, TableLayout, births_of, column_at, kind_layout, layout_of, place_of_table, table_at, window_layout}
use Rattle.schema_facts.specs.Lineage.{sure_life}
use Rattle.schema_facts.specs.References.{IsReferenceInLimits, IsSpread, IsSpreadWeight, IsWithinLife, Reference, first_in_window, reference_at, reference_of, references_of}
use Rattle.schema_plan.specs.Rules.{has_parent_row, has_parent_rows, has_parents, is_between, is_spread, is_target, is_window, is_within_life, schema_table}
use Rattle.schema_facts.proofs.FactsLemmas.{table_at-is}
use Rattle.schema_check.proofs.FromTests.{least_from_test, limit_from_test, passes_each}
use Rattle.schema_check.proofs.Kept.{one_of_some}

-- ---- spreads

weights_from_test : (spread : List ℤ) → list_all (is_between 1 1000) spread ≡ true → All IsSpreadWeight (map count spread)
weights_from_test spread h = λ i d lt.
    let within : i < length spread = omega (arith, lt, length-map spread count) in
    let weight = get_or spread i (pos 0) in
    let parts = and_parts (int_le (pos 1) weight) (int_le weight (pos 1000)) (passes_each (is_between 1 1000) spread i (pos 0) within h) in
    subst IsSpreadWeight (sym (get_or-map count spread i (pos 0) d within))
    (record { positive = least_from_test weight 1 parts.0; weight_limit = limit_from_test weight 1000 parts.1 })

-- a spread that passes its test is within its limits
pub spread_from_test : (spread : List ℤ) → (nat_le 1 (length spread) && nat_le (length spread) 64 && list_all (is_between 1 1000) spread) ≡ true → IsSpread (map count spread)
spread_from_test spread h =
    let v = and_parts (nat_le 1 (length spread) && nat_le (length spread) 64) (list_all (is_between 1 1000) spread) h in
    let w = and_parts (nat_le 1 (length spread)) (nat_le (length spread) 64) v.0 in
    record {
      some_weight = omega (arith, length-map spread count, leb-true 1 (length spread) w.0);
      group_limit = omega (arith, length-map spread count, leb-true (length spread) 64 w.1);
      each = weights_from_test spread v.1;
    }

-- ---- the references of a table

one_more : (P : Reference → Type 0) (found : Option Reference) (others : List Reference) → ((reference : Reference) → found ≡ Some reference → P reference) → All P others → All P (cons_option found others)
one_more P None others own each = each
one_more P (Some reference) others own each = All-cons P reference others (own reference refl) each

each_from : (P : Reference → Type 0) (start : ℕ) (columns : List ColumnLayout) → ((i : ℕ) (reference : Reference) → i < length columns → reference_of (start + i) (column_at columns i).kind ≡ Some reference → P reference) → All P (filter_map (λ (at : ℕ × ColumnLayout). reference_of at.0 at.1.kind) (enumerate_from start columns))
each_from P start [] each = λ i d h. absurd (omega arith)
each_from P start (column ∷ columns) each =
    one_more P (reference_of start column.kind) (filter_map (λ (at : ℕ × ColumnLayout). reference_of at.0 at.1.kind) (enumerate_from (start + 1) columns))
    (λ reference is. each 0 reference (omega arith) (ap (λ at. reference_of at column.kind) (add-zero start) ∙ is))
    (each_from P (start + 1) columns (λ i reference h is.
    let same : start + suc i ≡ start + 1 + i = omega arith in
    each (suc i) reference (omega arith) (ap (λ at. reference_of at (column_at columns i).kind) same ∙ is)))

-- what holds of each column that is a reference holds of each reference of the table
pub each_reference : (P : Reference → Type 0) (table : TableLayout) → ((column : ℕ) (reference : Reference) → column < length table.columns → reference_at table column ≡ Some reference → P reference) → All P (references_of table)
each_reference P table each =
    each_from P 0 table.columns (λ i reference h is. each i reference h (ap (λ at. reference_of at (column_at table.columns i).kind) (sym (zero-add i)) ∙ is))

-- ---- a reference by its tests

within_life_from_test : (sure : Option ℕ) (of : Window) → is_within_life sure of ≡ true → IsWithinLife (window_layout of) sure
within_life_from_test None window.All h = refl
within_life_from_test (Some life) window.All h = cc
within_life_from_test None (window.Units units) h = tt
within_life_from_test (Some life) (window.Units units) h = ltb-true (count units) life ((and_parts (int_le (pos 0) units) (nat_lt (count units) life) h).1)

-- what is asked of one of the first 64 tables holds of it
asked_below : (place : ℕ) (test : Bool) → place < 64 → (nat_le 64 place || test) ≡ true → test ≡ true
asked_below place test few h =
    let asked : nat_le 64 place ≡ false = grind (arith, nat_tests) in
    ap (λ past. past || test) (sym asked) ∙ h

-- what is asked of so many units is asked of at most 10,000
pub asked_units : (units : ℕ) (test : Bool) → units ≤ 10000 → (nat_lt 10000 units || test) ≡ true → test ≡ true
asked_units units test within h =
    let asked : nat_lt 10000 units ≡ false = grind (arith, nat_tests) in
    ap (λ past. past || test) (sym asked) ∙ h

-- a row to refer to at a unit at which rows are born
row_from_tests : (units : ℕ) (child parent : Births) (of : Option ℕ) → has_parent_rows units child parent of ≡ true → (unit : ℕ) → unit ≤ units → 0 < cohort_size child unit → first_in_window parent of unit < born_count parent unit
row_from_tests units child parent of h unit within born =
    let at : has_parent_row child parent of unit ≡ true =
    ap (has_parent_row child parent of) (sym (get_or-range_with_len 0 (units + 1) unit 0 (omega arith) ∙ zero-add unit))
    ∙ passes_each (has_parent_row child parent of) (range_with_len 0 (units + 1)) unit 0 (omega (arith, length-range_with_len 0 (units + 1))) h in
    born_from_test (cohort_size child unit) (first_in_window parent of unit) (born_count parent unit) born at
  where
    born_from_test : (size first last : ℕ) → 0 < size → (size == 0 || nat_lt first last) ≡ true → first < last
    born_from_test size first last some test = grind (arith, nat_tests)

births_at : (project : Project) (place : ℕ) → place < length project.schema.tables → births_of (schema_table project.schema place) ≡ (table_at (layout_of project).tables place).births
births_at project place h = ap (λ (table : TableLayout). table.births) (sym (table_at-is project.dictionaries project.schema.tables place _ h))

-- a reference whose column passes the tests of the rules is within its limits
pub reference_from_tests : (project : Project) (place column earlier : ℕ) (columns : List Column) (kind : Kind) → place < length project.schema.tables → length project.schema.tables ≤ 64 → count project.schema.units ≤ 10000 → is_target project.schema.tables place earlier kind ≡ true → is_window project kind ≡ true → has_parents project.schema place kind ≡ true → is_spread kind ≡ true → (reference : Reference) → reference_of column (kind_layout project.dictionaries project.schema.tables columns kind) ≡ Some reference → IsReferenceInLimits (count project.schema.units) (layout_of project).tables place reference
reference_from_tests project place column earlier columns (kind.Ref table of weights on_delete deal) within few units target life parents spread reference is =
    let parent = place_of_table project.schema.tables table in
    let before : parent < place = ltb-true parent place ((and_parts (nat_lt parent place) (nat_lt earlier 8) target).0) in
    let in_tables : parent < length project.schema.tables = omega arith in
    subst (IsReferenceInLimits (count project.schema.units) (layout_of project).tables place) (one_of_some _ _ is)
    (record {
      earlier = before;
      within_life = within_life_from_test (sure_life (layout_of project).tables parent) of (asked_below parent (is_within_life (sure_life (layout_of project).tables parent) of) (omega arith) life);
      some_parent = row_from_tests (count project.schema.units) (table_at (layout_of project).tables place).births (table_at (layout_of project).tables parent).births (window_layout of)
          (ap (λ (child : Births). has_parent_rows (count project.schema.units) child (table_at (layout_of project).tables parent).births (window_layout of)) (sym (births_at project place within))
          ∙ ap (λ (born : Births). has_parent_rows (count project.schema.units) (births_of (schema_table project.schema place)) born (window_layout of)) (sym (births_at project parent in_tables))
          ∙ asked_units (count project.schema.units) _ units parents);
      spread = spread_from_test weights spread;
    })
reference_from_tests project place column earlier columns _ within few units target life parents spread reference is = cc
