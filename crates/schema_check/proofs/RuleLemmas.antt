-- What the tests of the rules ask, as the code asks it.
use Rattle.std.proofs.Common.{◌≡◌, ℕ, suc, zero, ◌+◌, ◌-◌, ◌<◌, ◌^◌, Bool, true, false, not, ◌&&◌, ◌||◌, List, [], ◌∷◌, length, map, min, get_or, take, refl, sym, ap, ◌∙◌, arith, nat_le}
use Rattle.std.specs.List.{list_any, range_with_len}
use Rattle.std.proofs.lemmas.Bool.{leb-false}
use Rattle.std.proofs.lemmas.Bool.Decides.{nat_tests}
use Rattle.std.proofs.lemmas.List.{get_or-map}
use Rattle.std.proofs.lemmas.List.FromFn.{length-map-range_with_len, get_or-map-range_with_len}
use Rattle.schema_model.specs.declared.table.Schema.{Schema}
use Rattle.schema_model.specs.declared.table.Table.{Table}
use Rattle.schema_facts.specs.declared.column_facts.ColumnFacts.{ColumnFacts}
use Rattle.schema_facts.specs.declared.facts.TableFacts.{TableFacts}
use Rattle.schema_plan.specs.declared.rules.Rule.{Rule}
use Rattle.schema_plan.specs.declared.rules.Rule.TheVariants.{RowCost, LineSize}
use Rattle.schema_plan.specs.declared.site.Site.{Site}
use Rattle.schema_plan.specs.declared.site.Site.TheVariants.{OfTable}
use Rattle.schema_facts.specs.Capped.{capped, capped_column, capped_facts, first_facts, is_known_at_most}
use Rattle.schema_facts.specs.ColumnFacts.{column_facts_at, field_facts}
use Rattle.schema_facts.specs.FactsBefore.{facts_among, facts_in}
use Rattle.schema_facts.specs.Counts.{count}
use Rattle.schema_facts.specs.Dictionaries.{Project}
use Rattle.schema_facts.specs.Layout.{layout_of}
use Rattle.schema_facts.specs.Names.{same_text, is_name}
use Rattle.schema_plan.specs.Rules.{holds, is_new_name, is_new_at}
use Rattle.schema_plan.specs.Sites.{columns_at}
use Rattle.schema_facts.specs.TableFacts.{cost, facts_at, max_line}
use Rattle.schema_facts.proofs.ColumnFactsLemmas.{facts_among-capped}
use Rattle.schema_facts.proofs.Lists.{list_any-map, map-map}

take-map : {A B : Type 0} (f : A → B) (i : ℕ) (xs : List A) → take i (map f xs) ≡ map f (take i xs)
take-map f zero xs = refl
take-map f (suc i) [] = refl
take-map f (suc i) (x ∷ xs) = ap (λ ys. f x ∷ ys) (take-map f i xs)

-- of some items, the one at a place has a name that none before it has
pub is_new_at-item : {A : Type 0} (name_of : A → List ℕ) (xs : List A) (i : ℕ) (d : A) (any : Bool) → i < length xs → is_name (name_of (get_or xs i d)) ≡ true → any ≡ list_any (λ other. same_text (name_of other) (name_of (get_or xs i d))) (take i xs) → not any ≡ is_new_at (map name_of xs) i
is_new_at-item name_of xs i d any h is_name_at any_is =
    let name = name_of (get_or xs i d) in
    ap not (any_is ∙ sym (ap (list_any (λ other. same_text other name)) (take-map name_of i xs) ∙ list_any-map (λ other. same_text other name) name_of (take i xs)))
    ∙ ap (λ test. test && not (list_any (λ other. same_text other name) (take i (map name_of xs)))) (sym is_name_at)
    ∙ ap (is_new_name (take i (map name_of xs))) (sym (get_or-map name_of xs i d [] h))

-- a number past the end of 64 bits is past the limit, and so is the end
pub capped-test : (n limit : ℕ) → limit < 2 ^ 64 - 1 → nat_le (capped n) limit ≡ nat_le n limit
capped-test n limit h = grind (arith, nat_tests)

-- the last of some numbers that are added up one by one, each at most the last of 64 bits
pub capped-more : (a b n m : ℕ) → a ≡ capped n → m ≡ n + b → capped (a + b) ≡ capped m
capped-more a b n m a_is m_is = omega arith

-- what is asked of the facts of the first tables is asked of those tables
pub is_known-range : (number : ℕ → ℕ) (count place limit : ℕ) → place < count → limit < 2 ^ 64 - 1 → is_known_at_most (map (λ p. capped (number p)) (range_with_len 0 (min count 64))) place limit ≡ (nat_le 64 place || nat_le (number place) limit)
is_known-range number count place limit within below =
    ap (λ n. nat_le n place || nat_le (get_or known place 0) limit) (length-map-range_with_len (λ p. capped (number p)) 0 (min count 64))
    ∙ of_test (nat_le 64 place) refl
  where
    known : List ℕ
    known = map (λ p. capped (number p)) (range_with_len 0 (min count 64))

    of_test : (past : Bool) → nat_le 64 place ≡ past → (nat_le (min count 64) place || nat_le (get_or known place 0) limit) ≡ (past || nat_le (number place) limit)
    of_test true h =
        let is_past : nat_le (min count 64) place ≡ true = grind (arith, nat_tests) in
        ap (λ test. test || nat_le (get_or known place 0) limit) is_past
    of_test false h =
        let before = leb-false 64 place h in
        let is_before : nat_le (min count 64) place ≡ false = grind (arith, nat_tests) in
        ap (λ test. test || nat_le (get_or known place 0) limit) is_before
        ∙ ap (λ n. nat_le n limit) (get_or-map-range_with_len (λ p. capped (number p)) 0 (min count 64) place place 0 (omega arith) (omega arith))
        ∙ capped-test (number place) limit below

-- a test of a rule at a site
pub holds_at : (rule own : Rule) (project : Project) (site at : Site) (test : Bool) → rule ≡ own → site ≡ at → test ≡ holds own project at → test ≡ holds rule project site
holds_at rule own project site at test p q r = cc

pub row_cost-is : (project : Project) (table : ℕ) → table < length project.schema.tables → is_known_at_most (map (λ (fact : TableFacts). fact.cost) (first_facts project)) table 4096 ≡ holds RowCost project (OfTable table)
row_cost-is project table h =
    ap (λ costs. is_known_at_most costs table 4096) (map-map (λ (fact : TableFacts). fact.cost) (λ place. capped_facts (facts_at (layout_of project) place)) (range_with_len 0 (min (length project.schema.tables) 64)))
    ∙ is_known-range (cost (layout_of project)) (length project.schema.tables) table 4096 h (omega arith)

pub line_size-is : (project : Project) (table : ℕ) → table < length project.schema.tables → is_known_at_most (map (λ (fact : TableFacts). fact.max_line) (first_facts project)) table 65536 ≡ holds LineSize project (OfTable table)
line_size-is project table h =
    ap (λ lines. is_known_at_most lines table 65536) (map-map (λ (fact : TableFacts). fact.max_line) (λ place. capped_facts (facts_at (layout_of project) place)) (range_with_len 0 (min (length project.schema.tables) 64)))
    ∙ is_known-range (max_line (layout_of project)) (length project.schema.tables) table 65536 h (omega arith)

-- what is asked of the facts of a column of the first tables is asked of the columns of those tables
pub known_facts-is : (project : Project) (table column : ℕ) (test : ColumnFacts → Bool) → table < length project.schema.tables → ((facts : ColumnFacts) → test (capped_column facts) ≡ test facts) →
    (nat_le (length (first_facts project)) table || test (facts_in (map (λ (of : TableFacts). of.columns) (first_facts project)) table column))
    ≡ (nat_le 64 table || test (field_facts (layout_of project) table column))
known_facts-is project table column test within same =
    ap (λ n. nat_le n table || test (facts_in known table column)) (length-map-range_with_len facts 0 (min count 64))
    ∙ of_test (nat_le 64 table) refl
  where
    count : ℕ
    count = length project.schema.tables

    facts : ℕ → TableFacts
    facts = λ place. capped_facts (facts_at (layout_of project) place)

    known : List (List ColumnFacts)
    known = map (λ (of : TableFacts). of.columns) (first_facts project)

    of_test : (past : Bool) → nat_le 64 table ≡ past → (nat_le (min count 64) table || test (facts_in known table column)) ≡ (past || test (field_facts (layout_of project) table column))
    of_test true h =
        let is_past : nat_le (min count 64) table ≡ true = grind (arith, nat_tests) in
        ap (λ t. t || test (facts_in known table column)) is_past
    of_test false h =
        let before = leb-false 64 table h in
        let is_before : nat_le (min count 64) table ≡ false = grind (arith, nat_tests) in
        let own = column_facts_at (layout_of project) table in
        ap (λ t. t || test (facts_in known table column)) is_before
        ∙ ap (λ (all : List (List ColumnFacts)). test (facts_in all table column)) (map-map (λ (of : TableFacts). of.columns) facts (range_with_len 0 (min count 64)))
        ∙ ap (λ (all : List ColumnFacts). test (facts_among all column))
        (get_or-map-range_with_len (λ p. map capped_column (column_facts_at (layout_of project) p)) 0 (min count 64) table table [] (omega arith) (omega arith))
        ∙ ap test (facts_among-capped own column)
        ∙ same (facts_among own column)

-- the columns of the table at a place
pub columns_at-is : (schema : Schema) (table : ℕ) (d : Table) → table < length schema.tables → columns_at schema table ≡ (get_or schema.tables table d).columns
columns_at-is schema table d h = get_or-map (λ (t : Table). t.columns) schema.tables table d [] h
