-- Dates after dates, sums and products that pass the tests of their rules are within their limits.
use Rattle.std.proofs.Common.{◌≡◌, ℕ, ◌≤◌, ◌<◌, ◌&&◌, ◌||◌, All, not, true, List, length, map, nat_le, is_some, arith}
use Rattle.std.proofs.lemmas.Bool.{and_parts, leb-true}
use Rattle.std.proofs.lemmas.List.{length-map}
use Rattle.schema_model.specs.declared.column.Column.{Column}
use Rattle.schema_model.specs.declared.column.Kind.{Kind}
use Rattle.schema_model.specs.declared.column.Kind.TheVariants as kind
use Rattle.schema_model.specs.declared.table.Table.{Table}
use Rattle.schema_facts.specs.declared.column_facts.ColumnFacts.{ColumnFacts}
use Rattle.schema_facts.specs.Dictionaries.{Dictionary}
use Rattle.schema_facts.specs.FactsBefore.{facts_among}
use Rattle.schema_facts.specs.Layout.{kind_layout, place_of_column}
use Rattle.schema_plan.specs.Limits.{IsOfOthersAmong, IsTotalAmong}
use Rattle.schema_plan.specs.Rules.{are_still_names, is_after_range, is_later_date, is_redrawn_at, is_total, joins, moves_at}
use Rattle.schema_facts.proofs.FieldFactsLemmas.{AreFactsOf, adds_earlier, follows_earlier, multiplies_earlier}

-- from so many to so many operands, and numeric
total_from_test : (facts : List ColumnFacts) (column : ℕ) (columns : List Column) (of : List (List ℕ)) (least most : ℕ) → 1 ≤ least → most ≤ 8 →
    (nat_le least (length of) && nat_le (length of) most && joins (facts_among facts column).numbers columns column of) ≡ true →
    (is_some (facts_among facts column).numbers ≡ true → All (λ place. place < column) (map (place_of_column columns) of)) →
    IsTotalAmong facts column (map (place_of_column columns) of)
total_from_test facts column columns of least most some few h earlier =
    let numbers = (facts_among facts column).numbers in
    let v = and_parts (nat_le least (length of) && nat_le (length of) most) (joins numbers columns column of) h in
    let w = and_parts (nat_le least (length of)) (nat_le (length of) most) v.0 in
    let numeric = (and_parts (is_some numbers) (is_redrawn_at columns column || are_still_names columns of) v.1).0 in
    let same = length-map of (place_of_column columns) in
    record {
      some_operand = omega (arith, same, some, leb-true least (length of) w.0);
      operand_limit = omega (arith, same, few, leb-true (length of) most w.1);
      earlier = earlier numeric;
      numeric = numeric;
    }

-- a column of one of the kinds that are made of others, by the facts of its table's columns
pub others_from_tests : (units : ℕ) (earlier : List (List ColumnFacts)) (facts : List ColumnFacts) (dictionaries : List Dictionary) (tables : List Table) (column : ℕ) (columns : List Column) (kind : Kind) →
    AreFactsOf units earlier facts column (kind_layout dictionaries tables columns kind) →
    is_later_date (facts_among facts column).days columns column kind ≡ true → is_total (facts_among facts column).numbers columns column kind ≡ true →
    IsOfOthersAmong facts column (kind_layout dictionaries tables columns kind)
others_from_tests units earlier facts dictionaries tables column columns (kind.After of lo hi) are later total =
    let days = (facts_among facts column).days in
    let v = and_parts (is_after_range lo hi && is_some days) (is_redrawn_at columns column || not (moves_at columns (place_of_column columns of))) later in
    let dated = (and_parts (is_after_range lo hi) (is_some days) v.0).1 in
    record { earlier = follows_earlier units earlier facts column (place_of_column columns of) lo hi are dated; dated = dated }
others_from_tests units earlier facts dictionaries tables column columns (kind.Sum of) are later total =
    total_from_test facts column columns of 1 8 (omega arith) (omega arith) total (adds_earlier units earlier facts column (map (place_of_column columns) of) are)
others_from_tests units earlier facts dictionaries tables column columns (kind.Product of) are later total =
    total_from_test facts column columns of 2 4 (omega arith) (omega arith) total (multiplies_earlier units earlier facts column (map (place_of_column columns) of) are)
others_from_tests units earlier facts dictionaries tables column columns _ are later total = tt
