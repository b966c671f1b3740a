-- Columns that keep the rules of a table beside a schema can be made ready.
use Rattle.std.proofs.Common.{◌≡◌, ℕ, ◌&&◌, ◌||◌, not, All, Bool, true, List, get_or, is_some, Option, map, arith}
use Rattle.std.specs.List.{list_all}
use Rattle.std.proofs.lemmas.Bool.{and_parts}
use Rattle.schema_model.specs.declared.column.Column.{Column}
use Rattle.schema_model.specs.declared.column.Kind.{Kind}
use Rattle.schema_model.specs.declared.column.Kind.TheVariants as kind
use Rattle.schema_model.specs.declared.column.Leaf.{Leaf}
use Rattle.schema_facts.specs.declared.column_facts.ColumnFacts.{ColumnFacts}
use Rattle.schema_facts.specs.declared.days.Days.{Days}
use Rattle.schema_plan.specs.Citations.{leaves_of}
use Rattle.schema_facts.specs.Dictionaries.{AreWordLists, Dictionary}
use Rattle.schema_facts.specs.Layout.{leaf_layout, place_of_column}
use Rattle.schema_plan.specs.Limits.{CanBeReady, IsAfterOf, IsLeafInLimits, IsListOf, IsSpreadOf}
use Rattle.schema_plan.specs.Rules.{are_in_range, are_supplied_by, is_after_range, is_change, is_date_range, is_later_date, is_length_range, is_new_at, is_null_share, is_number_range, is_redrawn_at, is_skew_range, is_supplied_kind_by, is_total, is_weighted, keeps_column_rules, kind_at, moves_at, null_at}
use Rattle.schema_check.proofs.FromTests.{passes_each}
use Rattle.schema_check.proofs.LeafLimits.{leaf_in_limits, words_supplied}
use Rattle.schema_check.proofs.ColumnLimits.{after_range_from_test}

-- what some drawn values draw
leaves_ready : (names : List (List ℕ)) (dictionaries : List Dictionary) → AreWordLists dictionaries → (leaves : List Leaf) → list_all (are_supplied_by names dictionaries) leaves ≡ true → list_all is_number_range leaves ≡ true → list_all is_date_range leaves ≡ true → list_all is_weighted leaves ≡ true → list_all is_skew_range leaves ≡ true → list_all is_length_range leaves ≡ true → All (λ leaf. IsLeafInLimits (leaf_layout dictionaries leaf)) leaves
leaves_ready names dictionaries lists leaves supplied numbers dates picks skews lengths = λ i d lt.
    let passes = λ (test : Leaf → Bool) (all : list_all test leaves ≡ true). passes_each test leaves i d lt all in
    leaf_in_limits names dictionaries lists (get_or leaves i d) (passes (are_supplied_by names dictionaries) supplied) (passes is_number_range numbers) (passes is_date_range dates) (passes is_weighted picks) (passes is_skew_range skews) (passes is_length_range lengths)

drawn_ready : (names : List (List ℕ)) (dictionaries : List Dictionary) → AreWordLists dictionaries → (kind : Kind) → is_supplied_kind_by names dictionaries kind ≡ true → are_in_range kind ≡ true → All (λ leaf. IsLeafInLimits (leaf_layout dictionaries leaf)) (leaves_of kind)
drawn_ready names dictionaries lists (kind.List file) supplied ranges = λ i d none. absurd (omega arith)
drawn_ready names dictionaries lists kind supplied ranges =
    let leaves = leaves_of kind in
    let v = and_parts (list_all is_number_range leaves && list_all is_date_range leaves && list_all is_weighted leaves && list_all is_skew_range leaves) (list_all is_length_range leaves) ranges in
    let w = and_parts (list_all is_number_range leaves && list_all is_date_range leaves && list_all is_weighted leaves) (list_all is_skew_range leaves) v.0 in
    let x = and_parts (list_all is_number_range leaves && list_all is_date_range leaves) (list_all is_weighted leaves) w.0 in
    let y = and_parts (list_all is_number_range leaves) (list_all is_date_range leaves) x.0 in
    leaves_ready names dictionaries lists leaves supplied y.0 y.1 x.1 w.1 v.1

list_ready : (names : List (List ℕ)) (dictionaries : List Dictionary) → AreWordLists dictionaries → (kind : Kind) → is_supplied_kind_by names dictionaries kind ≡ true → IsListOf dictionaries kind
list_ready names dictionaries lists (kind.List file) supplied = words_supplied names dictionaries lists file supplied
list_ready names dictionaries lists _ supplied = tt

after_ready : (days : Option Days) (columns : List Column) (place : ℕ) (kind : Kind) → is_later_date days columns place kind ≡ true → IsAfterOf kind
after_ready days columns place (kind.After of lo hi) later =
    let v = and_parts (is_after_range lo hi && is_some days) (is_redrawn_at columns place || not (moves_at columns (place_of_column columns of))) later in
    after_range_from_test lo hi (and_parts (is_after_range lo hi) (is_some days) v.0).0
after_ready days columns place _ later = tt

-- the parts of the rules of a column
pub record KeepsColumn (facts : ColumnFacts) (columns : List Column) (place : ℕ) : Type 0 where
  pub new_name : is_new_at (map (λ (column : Column). column.name) columns) place ≡ true
  pub in_range : are_in_range (kind_at columns place) ≡ true
  pub null_share : is_null_share (kind_at columns place) (null_at columns place) ≡ true
  pub change : is_change (kind_at columns place) (is_redrawn_at columns place) ≡ true
  pub later_date : is_later_date facts.days columns place (kind_at columns place) ≡ true
  pub total : is_total facts.numbers columns place (kind_at columns place) ≡ true

pub keeps_column : (facts : ColumnFacts) (columns : List Column) (place : ℕ) → keeps_column_rules facts columns place ≡ true → KeepsColumn facts columns place
keeps_column facts columns place h =
    let kind = kind_at columns place in
    let names = is_new_at (map (λ (column : Column). column.name) columns) place in
    let nulls = is_null_share kind (null_at columns place) in
    let changes = is_change kind (is_redrawn_at columns place) in
    let later = is_later_date facts.days columns place kind in
    let total = is_total facts.numbers columns place kind in
    let v = and_parts (names && are_in_range kind && nulls && changes && later) total h in
    let w = and_parts (names && are_in_range kind && nulls && changes) later v.0 in
    let x = and_parts (names && are_in_range kind && nulls) changes w.0 in
    let y = and_parts (names && are_in_range kind) nulls x.0 in
    let z = and_parts names (are_in_range kind) y.0 in
    record { new_name = z.0; in_range = z.1; null_share = y.1; change = x.1; later_date = w.1; total = v.1 }

-- a column that cites dictionaries that are there, and keeps the rules of columns, can be made ready, where its spread can
pub can_be_ready : (names : List (List ℕ)) (dictionaries : List Dictionary) → AreWordLists dictionaries → (facts : ColumnFacts) (columns : List Column) (place : ℕ) →
    is_supplied_kind_by names dictionaries (kind_at columns place) ≡ true → keeps_column_rules facts columns place ≡ true → IsSpreadOf (kind_at columns place) → CanBeReady dictionaries (kind_at columns place)
can_be_ready names dictionaries lists facts columns place supplied keeps spread =
    let kept = keeps_column facts columns place keeps in
    record {
      drawn = drawn_ready names dictionaries lists (kind_at columns place) supplied kept.in_range;
      spread = spread;
      listed = list_ready names dictionaries lists (kind_at columns place) supplied;
      after = after_ready facts.days columns place (kind_at columns place) kept.later_date;
    }
