-- A detail table whose rules hold is within their limits, and one that breaks none keeps each.
use Rattle.std.proofs.Common.{◌≡◌, ◌∙◌, ℕ, ℤ, pos, negsuc, ◌+◌, ◌<◌, ◌≤◌, ◌&&◌, All, Bool, true, false, List, [], ◌∷◌, length, map, get_or, nat_le, int_le, not, is_some, None, refl, ap, sym, subst, arith}
use Rattle.std.specs.List.{range_with_len}
use Rattle.std.proofs.lemmas.Bool.{and_parts, le-leb, leb-true}
use Rattle.std.proofs.lemmas.List.{get_or-map, get_or_append_left, length-append, length-map}
use Rattle.std.proofs.lemmas.List.Elements.{All-append, All-cons}
use Rattle.std.proofs.lemmas.List.FromFn.{get_or-range_with_len, length-range_with_len}
use Rattle.schema_model.specs.declared.column.Column.{Column}
use Rattle.schema_model.specs.declared.column.Kind.TheVariants as schema
use Rattle.schema_model.specs.declared.column.Leaf.TheVariants.{Uuid}
use Rattle.schema_plan.specs.Citations.{cited_in}
use Rattle.schema_facts.specs.Counts.{count}
use Rattle.schema_facts.specs.Dictionaries.{AreWordLists, Dictionary, Project}
use Rattle.schema_facts.specs.FactsBefore.{facts_among}
use Rattle.schema_plan.specs.Limits.{CanBeReady, IsSpreadOf}
use Rattle.schema_facts.specs.Layout.{kind_layout, layout_of}
use Rattle.schema_facts.specs.Names.{is_name}
use Rattle.schema_plan.specs.Planned.{table_named}
use Rattle.schema_facts.specs.References.{IsSpreadWeight}
use Rattle.schema_plan.specs.Rules.{is_supplied_kind_by, keeps_column_rules, kind_at, null_at}
use Rattle.schema_plan.proofs.BesideLemmas.{are_facts_beside, known_tables}
use Rattle.schema_check.proofs.BesideLimits.{can_be_ready, keeps_column}
use Rattle.schema_check.proofs.ColumnLimits.{kind_at-layout, null_limit}
use Rattle.schema_check.proofs.FromTests.{count_from_test, least_from_test, limit_from_test, passes_each}
use Rattle.schema_check.proofs.OtherLimits.{others_from_tests}
use Rattle.detail_plan.specs.declared.detail.Detail.{Detail}
use Rattle.detail_plan.specs.declared.detail.DetailColumn.{DetailColumn}
use Rattle.detail_plan.specs.declared.detail.DetailKind.{DetailKind}
use Rattle.detail_plan.specs.declared.detail.DetailKind.TheVariants.{Leaf, Parent, After, Sum, Product}
use Rattle.detail_plan.specs.Beside.{column_beside, columns_beside, kind_beside, reference_to, table_beside}
use Rattle.detail_plan.specs.Limits.{AreMadeOfEarlier, IsColumnInLimits, IsInLimits}
use Rattle.detail_plan.specs.Rules.{are_shown, facts_of, first_broken, first_false, has_columns, has_line_counts, has_lists, has_new_name, has_parent, has_short_lines, keep_column_rules, parent_columns, reach_of}

-- ---- each rule

first_is_true : (number : ℕ) (b : Bool) (others : List (ℕ × Bool)) → first_false ((number, b) ∷ others) ≡ None → (b ≡ true) × (first_false others ≡ None)
first_is_true number true others h = (refl, h)
first_is_true number false others h = cc

-- each rule holds
pub record KeepsEach (plan : Project) (lists : List Dictionary) (detail : Detail) : Type 0 where
  pub word_lists : has_lists lists detail ≡ true
  pub new_name : has_new_name plan detail ≡ true
  pub parent : has_parent plan detail ≡ true
  pub line_counts : has_line_counts detail ≡ true
  pub columns : has_columns plan detail ≡ true
  pub short_lines : has_short_lines plan lists detail ≡ true

pub keeps_each : (plan : Project) (lists : List Dictionary) (detail : Detail) → first_broken plan lists detail ≡ None → KeepsEach plan lists detail
keeps_each plan lists detail h =
    let last = (5, has_short_lines plan lists detail) ∷ [] in
    let from_fourth = (4, has_columns plan detail) ∷ last in
    let from_third = (3, has_line_counts detail) ∷ from_fourth in
    let from_second = (2, has_parent plan detail) ∷ from_third in
    let from_first = (1, has_new_name plan detail) ∷ from_second in
    let sixth = first_is_true 6 (has_lists lists detail) from_first h in
    let first = first_is_true 1 (has_new_name plan detail) from_second sixth.1 in
    let second = first_is_true 2 (has_parent plan detail) from_third first.1 in
    let third = first_is_true 3 (has_line_counts detail) from_fourth second.1 in
    let fourth = first_is_true 4 (has_columns plan detail) last third.1 in
    let fifth = first_is_true 5 (has_short_lines plan lists detail) [] fourth.1 in
    record { word_lists = sixth.0; new_name = first.0; parent = second.0; line_counts = third.0; columns = fourth.0; short_lines = fifth.0 }

-- ---- columns

-- no column of a file has a spread
no_spread : (kind : DetailKind) → IsSpreadOf (kind_beside kind)
no_spread (Leaf leaf) = tt
no_spread (Parent column) = tt
no_spread (After of lo hi) = tt
no_spread (Sum of) = tt
no_spread (Product of) = tt

-- a column of a file keeps the rules of columns
column_keeps : (plan : Project) (detail : Detail) → keep_column_rules (facts_of plan detail) (columns_beside detail) (length detail.columns) ≡ true → (i : ℕ) → i < length detail.columns →
    keeps_column_rules (facts_among (facts_of plan detail) i) (columns_beside detail) i ≡ true
column_keeps plan detail keeps i within =
    let columns = columns_beside detail in
    let facts = facts_of plan detail in
    let place_is : get_or (range_with_len 0 (length detail.columns)) i 0 ≡ i = omega (arith, get_or-range_with_len 0 (length detail.columns) i 0 within) in
    ap (λ place. keeps_column_rules (facts_among facts place) columns place) (sym place_is)
    ∙ passes_each (λ place. keeps_column_rules (facts_among facts place) columns place) (range_with_len 0 (length detail.columns)) i 0
    (omega (arith, within, length-range_with_len 0 (length detail.columns))) keeps

a_column : DetailColumn
a_column = record { name = []; kind = Leaf Uuid; changes = false; null = pos 0 }

-- the columns of a file, where each cites word lists that are there and keeps the rules of columns
own_in_limits : (plan : Project) (lists : List Dictionary) → AreWordLists lists → (detail : Detail) → has_lists lists detail ≡ true →
    keep_column_rules (facts_of plan detail) (columns_beside detail) (length detail.columns) ≡ true →
    All (IsColumnInLimits lists) (map column_beside detail.columns)
own_in_limits plan lists are_lists detail supplied keeps = λ i d lt.
    let own = map column_beside detail.columns in
    let columns = columns_beside detail in
    let facts = facts_of plan detail in
    let count_is : length own ≡ length detail.columns = length-map detail.columns column_beside in
    let all_is : length columns ≡ length own + 1 = length-append own (reference_to detail.parent ∷ []) in
    let within : i < length detail.columns = omega (arith, lt, count_is) in
    let among : i < length columns = omega (arith, lt, all_is) in
    let column_is : get_or columns i d ≡ get_or own i d = get_or_append_left own (reference_to detail.parent ∷ []) d i lt in
    let kind_is : kind_at columns i ≡ (get_or own i d).kind = get_or-map (λ (c : Column). c.kind) columns i d schema.Born among ∙ ap (λ (c : Column). c.kind) column_is in
    let null_is : null_at columns i ≡ (get_or own i d).null = get_or-map (λ (c : Column). c.null) columns i d (pos 0) among ∙ ap (λ (c : Column). c.null) column_is in
    let given_is : get_or own i d ≡ column_beside (get_or detail.columns i a_column) = get_or-map column_beside detail.columns i a_column d within in
    let cites : is_supplied_kind_by (cited_in columns) lists (kind_at columns i) ≡ true =
    ap (is_supplied_kind_by (cited_in columns) lists) (kind_is ∙ sym (ap (λ (c : Column). c.kind) column_is))
    ∙ passes_each (λ (c : Column). is_supplied_kind_by (cited_in columns) lists c.kind) columns i d among supplied in
    let keeps_one = column_keeps plan detail keeps i within in
    let spread : IsSpreadOf (kind_at columns i) = subst IsSpreadOf (sym (kind_is ∙ ap (λ (c : Column). c.kind) given_is)) (no_spread (get_or detail.columns i a_column).kind) in
    record {
      nulls = omega (arith, ap count null_is, null_limit (kind_at columns i) (null_at columns i) (keeps_column (facts_among facts i) columns i keeps_one).null_share);
      ready = subst (CanBeReady lists) kind_is (can_be_ready (cited_in columns) lists are_lists (facts_among facts i) columns i cites keeps_one spread);
    }

-- the reference to the parent
reference_in_limits : (lists : List Dictionary) (parent : List ℕ) → All (IsColumnInLimits lists) (reference_to parent ∷ [])
reference_in_limits lists parent =
    All-cons (IsColumnInLimits lists) (reference_to parent) []
    (record {
      nulls = omega arith;
      ready = record {
        drawn = λ i d none. absurd (omega arith);
        spread = record {
          some_weight = omega arith;
          group_limit = omega arith;
          each = All-cons IsSpreadWeight 1 [] (record { positive = omega arith; weight_limit = omega arith }) (λ i d none. absurd (omega arith));
        };
        listed = tt;
        after = tt;
      };
    })
    (λ i d none. absurd (omega arith))

-- ---- numbers

-- one number of a test that is at most another is so as a count
ordered_counts : (lo hi : ℤ) → int_le (pos 0) lo ≡ true → int_le lo hi ≡ true → count lo ≤ count hi
ordered_counts lo hi low ordered =
    let lo_is : lo ≡ pos (count lo) = count_from_test lo low in
    least_from_test hi (count lo) (ap (λ n. int_le n hi) (sym lo_is) ∙ ordered)

least : (lo hi : ℤ) → int_le (pos 0) lo ≡ true → int_le lo hi ≡ true → int_le (pos 0) hi ≡ true
least (pos n) (pos m) low ordered = le-leb 0 m (omega arith)
least (pos n) (negsuc m) low ordered = cc
least (negsuc n) hi low ordered = cc

seed_from_test : (plan : Project) (detail : Detail) → has_new_name plan detail ≡ true → int_le (pos 0) detail.seed ≡ true
seed_from_test plan detail h =
    let parts = and_parts (int_le (pos 0) detail.seed && is_name detail.name) (not (is_some (table_named plan.schema detail.name))) h in
    (and_parts (int_le (pos 0) detail.seed) (is_name detail.name) parts.0).0

-- ---- all limits

limits_from_tests : (plan : Project) (lists : List Dictionary) → AreWordLists lists → (detail : Detail) → KeepsEach plan lists detail → IsInLimits lists detail
limits_from_tests plan lists are_lists detail keeps =
    let own = length detail.columns in
    let counts = and_parts (int_le (pos 0) detail.lo && int_le detail.lo detail.hi && int_le (pos 1) detail.hi) (int_le detail.hi (pos 64)) keeps.line_counts in
    let ends = and_parts (int_le (pos 0) detail.lo && int_le detail.lo detail.hi) (int_le (pos 1) detail.hi) counts.0 in
    let order = and_parts (int_le (pos 0) detail.lo) (int_le detail.lo detail.hi) ends.0 in
    let rules = keep_column_rules (facts_of plan detail) (columns_beside detail) own in
    let shown = and_parts (nat_le 1 own && nat_le own 32 && rules) (are_shown (parent_columns plan detail) detail.columns) keeps.columns in
    let kept = and_parts (nat_le 1 own && nat_le own 32) rules shown.0 in
    let many = and_parts (nat_le 1 own) (nat_le own 32) kept.0 in
    record {
      seed = count_from_test detail.seed (seed_from_test plan detail keeps.new_name);
      lo = count_from_test detail.lo order.0;
      hi = count_from_test detail.hi (least detail.lo detail.hi order.0 order.1);
      ordered = ordered_counts detail.lo detail.hi order.0 order.1;
      some_line = least_from_test detail.hi 1 ends.1;
      few_lines = limit_from_test detail.hi 64 counts.1;
      some_column = leb-true 1 own many.0;
      few_columns = leb-true own 32 many.1;
      columns = All-append (IsColumnInLimits lists) (map column_beside detail.columns) (reference_to detail.parent ∷ [])
          (own_in_limits plan lists are_lists detail keeps.word_lists kept.1) (reference_in_limits lists detail.parent);
    }

-- one that breaks no rule is within their limits, and the lines of a row within their reach
pub limits_of : (plan : Project) (lists : List Dictionary) → AreWordLists lists → (detail : Detail) → first_broken plan lists detail ≡ None → IsInLimits lists detail
limits_of plan lists are_lists detail h = limits_from_tests plan lists are_lists detail (keeps_each plan lists detail h)

pub short_lines_of : (plan : Project) (lists : List Dictionary) (detail : Detail) → first_broken plan lists detail ≡ None → reach_of plan lists detail ≤ 65536
short_lines_of plan lists detail h = leb-true (reach_of plan lists detail) 65536 (keeps_each plan lists detail h).short_lines

-- its columns, and the reference to the parent, can be made ready
pub can_be_ready_all : (lists : List Dictionary) (detail : Detail) → IsInLimits lists detail → All (λ (column : Column). CanBeReady lists column.kind) (columns_beside detail)
can_be_ready_all lists detail limits = λ i d lt. (limits.columns i d lt).ready

-- ---- columns that are made of others

pub made_of_earlier : (plan : Project) (lists : List Dictionary) (detail : Detail) → first_broken plan lists detail ≡ None → AreMadeOfEarlier plan (facts_of plan detail) detail
made_of_earlier plan lists detail h = λ place within.
    let own = length detail.columns in
    let rules = keep_column_rules (facts_of plan detail) (columns_beside detail) own in
    let shown = and_parts (nat_le 1 own && nat_le own 32 && rules) (are_shown (parent_columns plan detail) detail.columns) (keeps_each plan lists detail h).columns in
    let kept = and_parts (nat_le 1 own && nat_le own 32) rules shown.0 in
    let few = leb-true own 32 (and_parts (nat_le 1 own) (nat_le own 32) kept.0).1 in
    let columns = columns_beside detail in
    let kind = kind_at columns place in
    let among : place < length columns = omega (arith, within, length-append (map column_beside detail.columns) (reference_to detail.parent ∷ []), length-map detail.columns column_beside) in
    let keeps = keeps_column (facts_among (facts_of plan detail) place) columns place (column_keeps plan detail kept.1 place within) in
    others_from_tests (layout_of plan).units (known_tables plan) (facts_of plan detail) plan.dictionaries plan.schema.tables place columns kind
    (are_facts_beside plan (table_beside detail) place (kind_layout plan.dictionaries plan.schema.tables columns kind) (omega (arith, within, few))
    (kind_at-layout plan.dictionaries plan.schema.tables columns place among))
    keeps.later_date keeps.total
