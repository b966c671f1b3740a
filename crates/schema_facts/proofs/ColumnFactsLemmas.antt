-- The facts of columns as the code keeps them, with costs that stand at the last of 64 bits where they are past it.
use Rattle.std.proofs.Common.{◌≡◌, ℕ, ◌+◌, ◌<◌, List, [], ◌∷◌, length, map, take, Option, option_and_then, refl, sym, ap, ◌∙◌, arith}
use Rattle.std.proofs.Math.ListN as N
use Rattle.std.specs.List.{range_with_len}
use Rattle.std.proofs.lemmas.List.{length-map, length-take-le, get_or-take, get_or-map}
use Rattle.std.proofs.lemmas.List.FromFn.{fill_by_all}
use Rattle.schema_facts.specs.declared.column_facts.ColumnFacts.{ColumnFacts}
use Rattle.schema_facts.specs.declared.days.Days.{Days}
use Rattle.schema_facts.specs.declared.numbers.Numbers.{Numbers}
use Rattle.schema_facts.specs.Capped.{capped, capped_column}
use Rattle.schema_facts.specs.ColumnFacts.{column_facts, column_facts_at, facts_of_columns, facts_of_kind}
use Rattle.schema_facts.specs.Days.{days_after, days_of_kind}
use Rattle.schema_facts.specs.FactsBefore.{facts_among, facts_in, no_facts}
use Rattle.schema_facts.specs.FieldCosts.{choice_cost_of, cost_among, cost_of_field, cost_of_part}
use Rattle.schema_facts.specs.Layout.{PartLayout, literal_part, cited_part, KindLayout, key_kind, born_kind, changed_kind, leaf_kind, template_kind, case_kind, reference_kind, lookup_kind, list_kind, unit_date_kind, after_kind, sum_kind, product_kind, Layout, TableLayout, column_at, no_table, table_at}
use Rattle.schema_facts.specs.Numbers.{numbers_of_kind, operands, product_of, sum_of}
use Rattle.schema_facts.proofs.Capping.{capped_sum-same}
use Rattle.schema_facts.proofs.LineageLemmas.{capped-capped}
use Rattle.schema_facts.proofs.Lists.{get_or-in_turn, length-in_turn}

-- ---- of one column among others

pub facts_among-capped : (before : List ColumnFacts) (place : ℕ) → facts_among (map capped_column before) place ≡ capped_column (facts_among before place)
facts_among-capped before place = N.get_or-map capped_column before place no_facts

pub facts_in-capped : (given : List (List ColumnFacts)) (table column : ℕ) → facts_in (map (map capped_column) given) table column ≡ capped_column (facts_in given table column)
facts_in-capped given table column =
    ap (λ columns. facts_among columns column) (N.get_or-map (map capped_column) given table [])
    ∙ facts_among-capped (N.get_or given table []) column

-- ---- costs

cost_among-capped : (before : List ColumnFacts) (place : ℕ) → capped (cost_among (map capped_column before) place) ≡ capped (cost_among before place)
cost_among-capped before place =
    ap (λ (facts : ColumnFacts). capped facts.cost) (facts_among-capped before place) ∙ capped-capped (cost_among before place)

cost_of_part-capped : (before : List ColumnFacts) (part : PartLayout) → capped (cost_of_part (map capped_column before) part) ≡ capped (cost_of_part before part)
cost_of_part-capped before (literal_part bytes) = refl
cost_of_part-capped before (cited_part column width) = cost_among-capped before column

capped-add : (n m : ℕ) → capped (n + capped m) ≡ capped (n + m)
capped-add n m = omega arith

cost_of_field-capped : (tables : List TableLayout) (table : TableLayout) (given : List (List ColumnFacts)) (before : List ColumnFacts) (kind : KindLayout) →
    capped (cost_of_field tables table (map (map capped_column) given) (map capped_column before) kind) ≡ capped (cost_of_field tables table given before kind)
cost_of_field-capped tables table given before (template_kind parts) =
    capped_sum-same (cost_of_part (map capped_column before)) (cost_of_part before) parts (cost_of_part-capped before)
cost_of_field-capped tables table given before (lookup_kind via parent column) =
    let choice = choice_cost_of (column_at table.columns via).kind in
    ap (λ (facts : ColumnFacts). capped (choice + facts.cost)) (facts_in-capped given parent column) ∙ capped-add choice (facts_in given parent column).cost
cost_of_field-capped tables table given before (after_kind of lo hi) = cost_among-capped before of
cost_of_field-capped tables table given before (sum_kind of) = capped_sum-same (cost_among (map capped_column before)) (cost_among before) of (cost_among-capped before)
cost_of_field-capped tables table given before (product_kind of) = capped_sum-same (cost_among (map capped_column before)) (cost_among before) of (cost_among-capped before)
cost_of_field-capped tables table given before key_kind = refl
cost_of_field-capped tables table given before born_kind = refl
cost_of_field-capped tables table given before changed_kind = refl
cost_of_field-capped tables table given before (leaf_kind leaf) = refl
cost_of_field-capped tables table given before (case_kind on branches) = refl
cost_of_field-capped tables table given before (reference_kind parent window spread nulls drawn) = refl
cost_of_field-capped tables table given before (list_kind words) = refl
cost_of_field-capped tables table given before (unit_date_kind changed start step) = refl

-- ---- days

days_of_kind-capped : (units : ℕ) (given : List (List ColumnFacts)) (before : List ColumnFacts) (kind : KindLayout) →
    days_of_kind units (map (map capped_column) given) (map capped_column before) kind ≡ days_of_kind units given before kind
days_of_kind-capped units given before (lookup_kind via parent column) = ap (λ (facts : ColumnFacts). facts.days) (facts_in-capped given parent column)
days_of_kind-capped units given before (after_kind of lo hi) = ap (λ (facts : ColumnFacts). option_and_then (days_after lo hi) facts.days) (facts_among-capped before of)
days_of_kind-capped units given before key_kind = refl
days_of_kind-capped units given before born_kind = refl
days_of_kind-capped units given before changed_kind = refl
days_of_kind-capped units given before (leaf_kind leaf) = refl
days_of_kind-capped units given before (template_kind parts) = refl
days_of_kind-capped units given before (case_kind on branches) = refl
days_of_kind-capped units given before (reference_kind parent window spread nulls drawn) = refl
days_of_kind-capped units given before (list_kind words) = refl
days_of_kind-capped units given before (unit_date_kind changed start step) = refl
days_of_kind-capped units given before (sum_kind of) = refl
days_of_kind-capped units given before (product_kind of) = refl

-- ---- numbers

operands-capped : (before : List ColumnFacts) (of : List ℕ) → operands (map capped_column before) of ≡ operands before of
operands-capped before [] = refl
operands-capped before (place ∷ others) = both (ap (λ (facts : ColumnFacts). facts.numbers) (facts_among-capped before place)) (operands-capped before others)
  where
    both : {first one : Option Numbers} {rest more : List (Option Numbers)} → first ≡ one → rest ≡ more → first ∷ rest ≡ one ∷ more
    both p q = cc

numbers_of_kind-capped : (given : List (List ColumnFacts)) (before : List ColumnFacts) (kind : KindLayout) →
    numbers_of_kind (map (map capped_column) given) (map capped_column before) kind ≡ numbers_of_kind given before kind
numbers_of_kind-capped given before (lookup_kind via parent column) = ap (λ (facts : ColumnFacts). facts.numbers) (facts_in-capped given parent column)
numbers_of_kind-capped given before (sum_kind of) = ap sum_of (operands-capped before of)
numbers_of_kind-capped given before (product_kind of) = ap product_of (operands-capped before of)
numbers_of_kind-capped given before key_kind = refl
numbers_of_kind-capped given before born_kind = refl
numbers_of_kind-capped given before changed_kind = refl
numbers_of_kind-capped given before (leaf_kind leaf) = refl
numbers_of_kind-capped given before (template_kind parts) = refl
numbers_of_kind-capped given before (case_kind on branches) = refl
numbers_of_kind-capped given before (reference_kind parent window spread nulls drawn) = refl
numbers_of_kind-capped given before (list_kind words) = refl
numbers_of_kind-capped given before (unit_date_kind changed start step) = refl
numbers_of_kind-capped given before (after_kind of lo hi) = refl

-- ---- all facts of a column

abbrev facts_with : ℕ → Option Days → Option Numbers → ColumnFacts
facts_with cost days numbers = record { cost = cost; days = days; numbers = numbers }

same_facts : {cost cost' : ℕ} {days days' : Option Days} {numbers numbers' : Option Numbers} → cost ≡ cost' → days ≡ days' → numbers ≡ numbers' → facts_with cost days numbers ≡ facts_with cost' days' numbers'
same_facts p q r = cc

pub facts_of_kind-capped : (units : ℕ) (tables : List TableLayout) (table : TableLayout) (given : List (List ColumnFacts)) (before : List ColumnFacts) (kind : KindLayout) →
    capped_column (facts_of_kind units tables table (map (map capped_column) given) (map capped_column before) kind) ≡ capped_column (facts_of_kind units tables table given before kind)
facts_of_kind-capped units tables table given before kind =
    same_facts (cost_of_field-capped tables table given before kind) (days_of_kind-capped units given before kind) (numbers_of_kind-capped given before kind)

-- ---- all columns of a table

-- the facts of one more column are those of the column at its place
pub next_facts : (units : ℕ) (tables : List TableLayout) (table : TableLayout) (given earlier : List (List ColumnFacts)) (before filled : List ColumnFacts) (place : ℕ) (next : ColumnFacts) →
    earlier ≡ map (map capped_column) given → filled ≡ map capped_column before →
    next ≡ capped_column (facts_of_kind units tables table earlier filled (column_at table.columns place).kind) →
    next ≡ capped_column (facts_of_kind units tables table given before (column_at table.columns place).kind)
next_facts units tables table given earlier before filled place next earlier_is filled_is next_is =
    next_is
    ∙ ap (λ known. capped_column (facts_of_kind units tables table known filled (column_at table.columns place).kind)) earlier_is
    ∙ ap (λ known. capped_column (facts_of_kind units tables table (map (map capped_column) given) known (column_at table.columns place).kind)) filled_is
    ∙ facts_of_kind-capped units tables table given before (column_at table.columns place).kind

-- ---- all tables

pub length-facts_of_columns : (units : ℕ) (tables : List TableLayout) (earlier : List (List ColumnFacts)) (table : TableLayout) → length (facts_of_columns units tables earlier table) ≡ 64
length-facts_of_columns units tables earlier table =
    length-in_turn (λ before place. facts_of_kind units tables table earlier before (column_at table.columns place).kind) [] (range_with_len 0 64)

pub length-column_facts : (layout : Layout) → length (column_facts layout) ≡ length layout.tables
unfolding column_facts
length-column_facts layout = length-in_turn (facts_of_columns layout.units layout.tables) [] layout.tables

-- the facts of the columns of the table at a place, by those of the tables before it
pub column_facts_at-is : (layout : Layout) (place : ℕ) → place < length layout.tables →
    column_facts_at layout place ≡ facts_of_columns layout.units layout.tables (take place (column_facts layout)) (table_at layout.tables place)
unfolding column_facts
column_facts_at-is layout place h = get_or-in_turn (facts_of_columns layout.units layout.tables) layout.tables place [] no_table h

-- those of the tables before a place
pub earlier_facts : (layout : Layout) (place : ℕ) → place < length layout.tables →
    map (λ k. map capped_column (column_facts_at layout k)) (range_with_len 0 place) ≡ map (map capped_column) (take place (column_facts layout))
earlier_facts layout place h =
    let all = column_facts layout in
    let before = take place all in
    let count : length before ≡ place = length-take-le place all (omega (arith, length-column_facts layout)) in
    sym (fill_by_all (λ k. map capped_column (column_facts_at layout k)) (map (map capped_column) before) place [] (length-map before (map capped_column) ∙ count)
    (λ k below. get_or-map (map capped_column) before k [] [] (omega arith)
    ∙ ap (map capped_column) (get_or-take place all k [] below)))
