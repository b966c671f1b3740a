-- What the facts of a column are, by its kind and by the facts of the columns that it is made of.
use Rattle.std.proofs.Common.{◌≡◌, ◌∙◌, ℕ, ℤ, pos, zero, suc, ◌+◌, ◌<◌, Bool, true, false, cond, All, List, [], ◌∷◌, length, map, nat_le, get_or, take, Option, Some, None, is_some, option_and_then, refl, sym, ap, arith}
use Rattle.std.specs.List.{fold, range_with_len, sum_by}
use Rattle.std.specs.Prelude.{⊤}
use Rattle.std.proofs.lemmas.Bool.{leb-false, leb-true}
use Rattle.std.proofs.lemmas.List.{get_or-map, get_or-take, length-map}
use Rattle.std.proofs.lemmas.List.Elements.{All-cons, All-head, All-nil, All-tail}
use Rattle.std.proofs.lemmas.List.FromFn.{get_or-range_with_len, length-range_with_len}
use Rattle.schema_facts.specs.declared.column_facts.ColumnFacts.{ColumnFacts}
use Rattle.schema_facts.specs.declared.days.Days.{Days}
use Rattle.schema_facts.specs.declared.numbers.Numbers.{Numbers}
use Rattle.schema_facts.specs.ColumnFacts.{column_facts, column_facts_at, facts_of_kind, field_cost, field_facts}
use Rattle.schema_facts.specs.Days.{days_after, days_of_kind}
use Rattle.schema_facts.specs.FactsBefore.{facts_among, facts_in, no_facts}
use Rattle.schema_facts.specs.FieldCosts.{choice_cost_of, cost_among, cost_of_part}
use Rattle.schema_facts.specs.Layout.{PartLayout, literal_part, cited_part, KindLayout, after_kind, lookup_kind, product_kind, sum_kind, template_kind, Layout, TableLayout, column_at, table_at}
use Rattle.schema_facts.specs.Numbers.{most_decimals, numbers_of_kind, operands, plus, product_of, start_from, sum_of, times, with_operand}
use Rattle.schema_facts.proofs.ColumnFactsLemmas.{column_facts_at-is}
use Rattle.schema_facts.proofs.Lists.{get_or-in_turn}
use Rattle.schema_facts.proofs.NumberLemmas.{lost}

-- ---- a column, by those before it

-- of a column, by its kind, by the columns before it and by the tables before its own
pub field_facts-is : (layout : Layout) (table column : ℕ) → table < length layout.tables → column < 64 →
    field_facts layout table column
    ≡ facts_of_kind layout.units layout.tables (table_at layout.tables table) (take table (column_facts layout)) (take column (column_facts_at layout table)) (column_at (table_at layout.tables table).columns column).kind
field_facts-is layout table column below within =
    let earlier = take table (column_facts layout) in
    let own : TableLayout = table_at layout.tables table in
    let give : List ColumnFacts → ℕ → ColumnFacts = λ before place. facts_of_kind layout.units layout.tables own earlier before (column_at own.columns place).kind in
    let at : get_or (range_with_len 0 64) column 0 ≡ column = omega (arith, get_or-range_with_len 0 64 column 0 within) in
    let here = column_facts_at-is layout table below in
    ap (λ (all : List ColumnFacts). facts_among all column) here
    ∙ get_or-in_turn give (range_with_len 0 64) column no_facts 0 (omega (arith, within, length-range_with_len 0 64))
    ∙ ap (λ (all : List ColumnFacts). give (take column all) (get_or (range_with_len 0 64) column 0)) (sym here)
    ∙ ap (give (take column (column_facts_at layout table))) at

-- a column before another one is found among those before it
pub facts_among-before : (layout : Layout) (table column of : ℕ) → of < column → facts_among (take column (column_facts_at layout table)) of ≡ field_facts layout table of
facts_among-before layout table column of earlier = get_or-take column (column_facts_at layout table) of no_facts earlier

-- one of a table before another one among those of the tables before
pub facts_in-before : (layout : Layout) (table parent column : ℕ) → parent < table → facts_in (take table (column_facts layout)) parent column ≡ field_facts layout parent column
facts_in-before layout table parent column earlier = ap (λ all. facts_among all column) (get_or-take table (column_facts layout) parent [] earlier)

-- what isn't before a place isn't among what is
facts_among-past : (columns : List ColumnFacts) (column of : ℕ) → column < suc of → facts_among (take column columns) of ≡ no_facts
facts_among-past columns zero of past = refl
facts_among-past [] (suc column) of past = refl
facts_among-past (facts ∷ columns) (suc column) zero past = absurd (omega arith)
facts_among-past (facts ∷ columns) (suc column) (suc of) past = facts_among-past columns column of (omega arith)

-- ---- a column, by the columns that it is made of

-- the column at a place is of this kind
pub record IsColumnOf (layout : Layout) (table column : ℕ) (kind : KindLayout) : Type 0 where
  pub below : table < length layout.tables
  pub within : column < 64
  pub kind_is : (column_at (table_at layout.tables table).columns column).kind ≡ kind

-- its facts
abbrev pub facts_by_kind : Layout → ℕ → ℕ → KindLayout → ColumnFacts
facts_by_kind layout table column kind =
    facts_of_kind layout.units layout.tables (table_at layout.tables table) (take table (column_facts layout)) (take column (column_facts_at layout table)) kind

pub field_facts-kind : (layout : Layout) (table column : ℕ) (kind : KindLayout) → IsColumnOf layout table column kind → field_facts layout table column ≡ facts_by_kind layout table column kind
field_facts-kind layout table column kind of = field_facts-is layout table column of.below of.within ∙ ap (facts_by_kind layout table column) of.kind_is

-- a lookup asks what chooses its parent and what the parent's column asks, and is dated or numeric where that is
pub cost-lookup : (layout : Layout) (table column via parent shown : ℕ) → IsColumnOf layout table column (lookup_kind via parent shown) → parent < table →
    field_cost layout table column ≡ choice_cost_of (column_at (table_at layout.tables table).columns via).kind + field_cost layout parent shown
cost-lookup layout table column via parent shown of earlier =
    ap (λ (facts : ColumnFacts). facts.cost) (field_facts-kind layout table column (lookup_kind via parent shown) of)
    ∙ ap (λ (facts : ColumnFacts). choice_cost_of (column_at (table_at layout.tables table).columns via).kind + facts.cost) (facts_in-before layout table parent shown earlier)

pub days-lookup : (layout : Layout) (table column via parent shown : ℕ) → IsColumnOf layout table column (lookup_kind via parent shown) → parent < table →
    (field_facts layout table column).days ≡ (field_facts layout parent shown).days
days-lookup layout table column via parent shown of earlier =
    ap (λ (facts : ColumnFacts). facts.days) (field_facts-kind layout table column (lookup_kind via parent shown) of)
    ∙ ap (λ (facts : ColumnFacts). facts.days) (facts_in-before layout table parent shown earlier)

pub numbers-lookup : (layout : Layout) (table column via parent shown : ℕ) → IsColumnOf layout table column (lookup_kind via parent shown) → parent < table →
    (field_facts layout table column).numbers ≡ (field_facts layout parent shown).numbers
numbers-lookup layout table column via parent shown of earlier =
    ap (λ (facts : ColumnFacts). facts.numbers) (field_facts-kind layout table column (lookup_kind via parent shown) of)
    ∙ ap (λ (facts : ColumnFacts). facts.numbers) (facts_in-before layout table parent shown earlier)

-- a date after a date asks what that one asks, and lies so many days after it
pub cost-after : (layout : Layout) (table column before : ℕ) (lo hi : ℤ) → IsColumnOf layout table column (after_kind before lo hi) → before < column → field_cost layout table column ≡ field_cost layout table before
cost-after layout table column before lo hi of earlier =
    ap (λ (facts : ColumnFacts). facts.cost) (field_facts-kind layout table column (after_kind before lo hi) of)
    ∙ ap (λ (facts : ColumnFacts). facts.cost) (facts_among-before layout table column before earlier)

pub days-after : (layout : Layout) (table column before : ℕ) (lo hi : ℤ) → IsColumnOf layout table column (after_kind before lo hi) → before < column →
    (field_facts layout table column).days ≡ option_and_then (days_after lo hi) (field_facts layout table before).days
days-after layout table column before lo hi of earlier =
    ap (λ (facts : ColumnFacts). facts.days) (field_facts-kind layout table column (after_kind before lo hi) of)
    ∙ ap (λ (facts : ColumnFacts). option_and_then (days_after lo hi) facts.days) (facts_among-before layout table column before earlier)

-- ---- sums of costs

sum_by-from : {A : Type 0} (f g : A → ℕ) (xs : List A) (n : ℕ) → ((i : ℕ) (d : A) → i < length xs → f (get_or xs i d) ≡ g (get_or xs i d)) → fold (λ total x. total + f x) n xs ≡ fold (λ total x. total + g x) n xs
sum_by-from f g [] n same = refl
sum_by-from f g (x ∷ xs) n same =
    ap (λ m. fold (λ total y. total + f y) (n + m) xs) (same 0 x (omega arith))
    ∙ sum_by-from f g xs (n + g x) (λ i d below. same (suc i) d (omega arith))

-- the costs of columns, as they are found before another one
costs-before : (layout : Layout) (table column : ℕ) (of : List ℕ) → All (λ place. place < column) of →
    sum_by (cost_among (take column (column_facts_at layout table))) of ≡ sum_by (field_cost layout table) of
costs-before layout table column of earlier =
    sum_by-from (cost_among (take column (column_facts_at layout table))) (field_cost layout table) of 0
    (λ i d below. ap (λ (facts : ColumnFacts). facts.cost) (facts_among-before layout table column (get_or of i d) (earlier i d below)))

-- a sum and a product ask what all operands ask, each as often as it is named
pub cost-sum : (layout : Layout) (table column : ℕ) (of : List ℕ) → IsColumnOf layout table column (sum_kind of) → All (λ place. place < column) of →
    field_cost layout table column ≡ sum_by (field_cost layout table) of
cost-sum layout table column of is earlier =
    ap (λ (facts : ColumnFacts). facts.cost) (field_facts-kind layout table column (sum_kind of) is) ∙ costs-before layout table column of earlier

pub cost-product : (layout : Layout) (table column : ℕ) (of : List ℕ) → IsColumnOf layout table column (product_kind of) → All (λ place. place < column) of →
    field_cost layout table column ≡ sum_by (field_cost layout table) of
cost-product layout table column of is earlier =
    ap (λ (facts : ColumnFacts). facts.cost) (field_facts-kind layout table column (product_kind of) is) ∙ costs-before layout table column of earlier

-- what a part of a template asks
abbrev pub cost_cited : Layout → ℕ → PartLayout → ℕ
cost_cited layout table (literal_part bytes) = 0
cost_cited layout table (cited_part column width) = field_cost layout table column

-- a part that cites a column before a place
abbrev pub CitesEarlier : ℕ → PartLayout → Type 0
CitesEarlier column (literal_part bytes) = ⊤
CitesEarlier column (cited_part cited width) = cited < column

cost_of_part-before : (layout : Layout) (table column : ℕ) (part : PartLayout) → CitesEarlier column part → cost_of_part (take column (column_facts_at layout table)) part ≡ cost_cited layout table part
cost_of_part-before layout table column (literal_part bytes) earlier = refl
cost_of_part-before layout table column (cited_part cited width) earlier = ap (λ (facts : ColumnFacts). facts.cost) (facts_among-before layout table column cited earlier)

-- a template asks what the cited columns ask, once for each part that cites one
pub cost-template : (layout : Layout) (table column : ℕ) (parts : List PartLayout) → IsColumnOf layout table column (template_kind parts) → All (CitesEarlier column) parts →
    field_cost layout table column ≡ sum_by (cost_cited layout table) parts
cost-template layout table column parts is earlier =
    ap (λ (facts : ColumnFacts). facts.cost) (field_facts-kind layout table column (template_kind parts) is)
    ∙ sum_by-from (cost_of_part (take column (column_facts_at layout table))) (cost_cited layout table) parts 0
    (λ i d below. cost_of_part-before layout table column (get_or parts i d) (earlier i d below))

-- ---- the numbers of sums and products

-- the operands of a column, as they are found before it
pub operands-before : (layout : Layout) (table column : ℕ) (of : List ℕ) → All (λ place. place < column) of →
    operands (take column (column_facts_at layout table)) of ≡ map (λ place. (field_facts layout table place).numbers) of
operands-before layout table column [] earlier = refl
operands-before layout table column (place ∷ of) earlier =
    both (ap (λ (facts : ColumnFacts). facts.numbers) (facts_among-before layout table column place (All-head (λ p. p < column) place of earlier)))
    (operands-before layout table column of (All-tail (λ p. p < column) place of earlier))
  where
    both : {first one : Option Numbers} {rest more : List (Option Numbers)} → first ≡ one → rest ≡ more → first ∷ rest ≡ one ∷ more
    both p q = cc

pub numbers-sum : (layout : Layout) (table column : ℕ) (of : List ℕ) → IsColumnOf layout table column (sum_kind of) → All (λ place. place < column) of →
    (field_facts layout table column).numbers ≡ sum_of (map (λ place. (field_facts layout table place).numbers) of)
numbers-sum layout table column of is earlier =
    ap (λ (facts : ColumnFacts). facts.numbers) (field_facts-kind layout table column (sum_kind of) is) ∙ ap sum_of (operands-before layout table column of earlier)

pub numbers-product : (layout : Layout) (table column : ℕ) (of : List ℕ) → IsColumnOf layout table column (product_kind of) → All (λ place. place < column) of →
    (field_facts layout table column).numbers ≡ product_of (map (λ place. (field_facts layout table place).numbers) of)
numbers-product layout table column of is earlier =
    ap (λ (facts : ColumnFacts). facts.numbers) (field_facts-kind layout table column (product_kind of) is) ∙ ap product_of (operands-before layout table column of earlier)

-- ---- what stands before a column that is dated or numeric

-- what is dated or numeric among those before a place is before it
before_if : (columns : List ColumnFacts) (column of : ℕ) (test : ColumnFacts → Bool) → test no_facts ≡ false → test (facts_among (take column columns) of) ≡ true → of < column
before_if columns column of test none found = by_place (nat_le column of) refl
  where
    differ : true ≡ false → ⊥
    differ h = cc

    by_place : (past : Bool) → nat_le column of ≡ past → of < column
    by_place false is = leb-false column of is
    by_place true is =
        let nothing = facts_among-past columns column of (omega (arith, leb-true column of is)) in
        absurd (differ (sym found ∙ ap test nothing ∙ none))

-- among the facts of some columns, those of the one at a place are of this kind
pub record AreFactsOf (units : ℕ) (earlier : List (List ColumnFacts)) (facts : List ColumnFacts) (column : ℕ) (kind : KindLayout) : Type 0 where
  pub days : (facts_among facts column).days ≡ days_of_kind units earlier (take column facts) kind
  pub numbers : (facts_among facts column).numbers ≡ numbers_of_kind earlier (take column facts) kind

pub are_field_facts : (layout : Layout) (table column : ℕ) (kind : KindLayout) → IsColumnOf layout table column kind →
    AreFactsOf layout.units (take table (column_facts layout)) (column_facts_at layout table) column kind
are_field_facts layout table column kind of =
    let is = field_facts-kind layout table column kind of in
    record { days = ap (λ (facts : ColumnFacts). facts.days) is; numbers = ap (λ (facts : ColumnFacts). facts.numbers) is }

-- what a dated column follows stands before it
pub follows_earlier : (units : ℕ) (earlier : List (List ColumnFacts)) (facts : List ColumnFacts) (column of : ℕ) (lo hi : ℤ) → AreFactsOf units earlier facts column (after_kind of lo hi) →
    is_some (facts_among facts column).days ≡ true → of < column
follows_earlier units earlier facts column of lo hi are dated =
    let days = (facts_among (take column facts) of).days in
    before_if facts column of (λ (one : ColumnFacts). is_some one.days) refl (first days lo hi (sym (ap is_some are.days) ∙ dated))
  where
    first : (days : Option Days) (lo hi : ℤ) → is_some (option_and_then (days_after lo hi) days) ≡ true → is_some days ≡ true
    first None lo hi h = h
    first (Some days) lo hi h = refl

-- operands that are joined are numeric
all_numeric : (join : Numbers → Numbers → Option Numbers) (start : Option Numbers) (of : List (Option Numbers)) (numbers : Numbers) → fold (with_operand join) start of ≡ Some numbers → All (λ operand. is_some operand ≡ true) of
all_numeric join start [] numbers h = All-nil (λ operand. is_some operand ≡ true)
all_numeric join None (None ∷ of) numbers h = absurd (none (sym (lost join (λ operand. operand) of) ∙ h))
  where
    none : None ≡ Some numbers → ⊥
    none p = cc
all_numeric join (Some so_far) (None ∷ of) numbers h = absurd (none (sym (lost join (λ operand. operand) of) ∙ h))
  where
    none : None ≡ Some numbers → ⊥
    none p = cc
all_numeric join start (Some operand ∷ of) numbers h =
    All-cons (λ operand. is_some operand ≡ true) (Some operand) of refl (all_numeric join (with_operand join start (Some operand)) of numbers h)

sum_numeric : (of : List (Option Numbers)) (found : Option Numbers) → found ≡ sum_of of → is_some found ≡ true → All (λ operand. is_some operand ≡ true) of
sum_numeric of None is some = absurd (cc)
sum_numeric of (Some numbers) is some = by_test (nat_le (most_decimals of) 9) refl
  where
    whole : Option Numbers
    whole = fold (with_operand plus) (Some (start_from (most_decimals of) (pos 0))) of

    none : Some numbers ≡ None → ⊥
    none p = cc

    by_test : (test : Bool) → nat_le (most_decimals of) 9 ≡ test → All (λ operand. is_some operand ≡ true) of
    by_test true few = all_numeric plus (Some (start_from (most_decimals of) (pos 0))) of numbers (sym (is ∙ ap (λ t. cond t whole None) few))
    by_test false many = absurd (none (is ∙ ap (λ t. cond t whole None) many))

product_numeric : (of : List (Option Numbers)) (found : Option Numbers) → found ≡ product_of of → is_some found ≡ true → All (λ operand. is_some operand ≡ true) of
product_numeric of None is some = absurd (cc)
product_numeric of (Some numbers) is some = all_numeric times (Some (start_from 0 (pos 1))) of numbers (sym is)

-- the columns at the places of numeric operands stand before
places_before : (columns : List ColumnFacts) (column : ℕ) (of : List ℕ) → All (λ operand. is_some operand ≡ true) (operands (take column columns) of) → All (λ place. place < column) of
places_before columns column of numeric = λ i d below.
    before_if columns column (get_or of i d) (λ (facts : ColumnFacts). is_some facts.numbers) refl
    (ap is_some (sym (get_or-map (λ place. (facts_among (take column columns) place).numbers) of i d None below))
    ∙ numeric i None (omega (arith, below, length-map of (λ place. (facts_among (take column columns) place).numbers))))

-- the operands of a numeric sum, and of a numeric product, stand before it
pub adds_earlier : (units : ℕ) (earlier : List (List ColumnFacts)) (facts : List ColumnFacts) (column : ℕ) (of : List ℕ) → AreFactsOf units earlier facts column (sum_kind of) →
    is_some (facts_among facts column).numbers ≡ true → All (λ place. place < column) of
adds_earlier units earlier facts column of are numeric =
    places_before facts column of (sum_numeric (operands (take column facts) of) (facts_among facts column).numbers are.numbers numeric)

pub multiplies_earlier : (units : ℕ) (earlier : List (List ColumnFacts)) (facts : List ColumnFacts) (column : ℕ) (of : List ℕ) → AreFactsOf units earlier facts column (product_kind of) →
    is_some (facts_among facts column).numbers ≡ true → All (λ place. place < column) of
multiplies_earlier units earlier facts column of are numeric =
    places_before facts column of (product_numeric (operands (take column facts) of) (facts_among facts column).numbers are.numbers numeric)
