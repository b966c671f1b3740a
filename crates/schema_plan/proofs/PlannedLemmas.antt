-- What a plan keeps of the table at a place.
use Rattle.std.proofs.Common.{◌≡◌, ℕ, pos, zero, suc, ◌+◌, ◌^◌, ◌<◌, ◌≤◌, All, None, min, max, List, [], ◌∷◌, length, map, get_or, refl, subst, sym, ap, ◌∙◌, arith}
use Rattle.std.specs.List.{fold, range_with_len}
use Rattle.std.proofs.lemmas.List.{get_or-map, length-map}
use Rattle.std.proofs.lemmas.List.FromFn.{fill_by_all, get_or-map-range_with_len, length-map-range_with_len}
use Rattle.std.proofs.lemmas.List.Folds.{fold-map}
use Rattle.std.proofs.lemmas.List.Sums.{sum_by-cons}
use Rattle.cohort_sizes.specs.Births.{Births}
use Rattle.cohort_sizes.specs.Kept.{BirthsUpTo}
use Rattle.schema_model.specs.declared.table.Table.{Table}
use Rattle.schema_facts.specs.declared.column_facts.ColumnFacts.{ColumnFacts}
use Rattle.schema_facts.specs.declared.facts.TableFacts.{TableFacts}
use Rattle.schema_facts.specs.Counts.{count}
use Rattle.schema_facts.specs.Capped.{capped, capped_column, capped_facts, capped_lineage, first_facts}
use Rattle.schema_facts.specs.Dictionaries.{Project}
use Rattle.schema_facts.specs.FieldSizes.{greatest_by}
use Rattle.schema_facts.specs.Layout.{Layout, TableLayout, births_of, layout_of, no_table, table_at, table_layout}
use Rattle.schema_plan.specs.Limits.{AreBirthsInLimits, IsInLimits, IsTableInLimits}
use Rattle.schema_plan.specs.Planned.{births_through}
use Rattle.schema_facts.specs.TableFacts.{facts_at, line_cost, line_of_table, max_line, reach, sum_of_costs}
use Rattle.schema_facts.proofs.Lists.{map-same}

-- no cost of some columns is past the end of 64 bits where their sum isn't
costs_whole : (columns : List ColumnFacts) → sum_of_costs columns < 2 ^ 64 → map capped_column columns ≡ columns
costs_whole [] h = refl
costs_whole (facts ∷ others) h =
    let parts : sum_of_costs (facts ∷ others) ≡ facts.cost + sum_of_costs others = sum_by-cons (λ (facts : ColumnFacts). facts.cost) facts others in
    let whole : capped facts.cost ≡ facts.cost = omega (arith, h, parts) in
    ap (λ cost. record facts { cost = cost } ∷ map capped_column others) whole
    ∙ ap (λ rest. facts ∷ rest) (costs_whole others (omega (arith, h, parts)))

-- no fact of an accepted schema is past the end of 64 bits
not_capped : (project : Project) → IsInLimits project → (place : ℕ) → place < length project.schema.tables → capped_facts (facts_at (layout_of project) place) ≡ facts_at (layout_of project) place
unfolding line_cost
not_capped project limits place h =
    let facts = facts_at (layout_of project) place in
    let cost : capped facts.cost ≡ facts.cost = omega (arith, limits.costs place h) in
    let death : capped facts.lineage.death_cost ≡ facts.lineage.death_cost = omega (arith, limits.costs place h) in
    let loss : capped facts.lineage.loss_cost ≡ facts.lineage.loss_cost = omega (arith, limits.costs place h) in
    let null : capped facts.lineage.null_cost ≡ facts.lineage.null_cost = omega (arith, limits.costs place h) in
    let line : capped facts.max_line ≡ facts.max_line = omega (arith, limits.lines place h) in
    let columns : map capped_column facts.columns ≡ facts.columns = costs_whole facts.columns (omega (arith, limits.costs place h)) in
    ap (λ all. record (capped_facts facts) { columns = all }) columns
    ∙ ap (λ n. record (capped_facts facts) { columns = facts.columns; lineage = record (capped_lineage facts.lineage) { death_cost = n } }) death
    ∙ ap (λ n. record facts { lineage = record facts.lineage { loss_cost = n; null_cost = capped facts.lineage.null_cost }; cost = capped facts.cost; max_line = capped facts.max_line }) loss
    ∙ ap (λ n. record facts { lineage = record facts.lineage { null_cost = n }; cost = capped facts.cost; max_line = capped facts.max_line }) null
    ∙ ap (λ n. record facts { cost = n; max_line = capped facts.max_line }) cost
    ∙ ap (λ n. record facts { max_line = n }) line

pub facts_whole : (project : Project) → IsInLimits project → first_facts project ≡ map (facts_at (layout_of project)) (range_with_len 0 (length project.schema.tables))
facts_whole project limits =
    let all : min (length project.schema.tables) 64 ≡ length project.schema.tables = omega (arith, limits.table_limit) in
    ap (λ n. map (λ place. capped_facts (facts_at (layout_of project) place)) (range_with_len 0 n)) all
    ∙ map-same (λ place. capped_facts (facts_at (layout_of project) place)) (facts_at (layout_of project)) (length project.schema.tables) (λ k h. not_capped project limits k h)

-- the reach is the greatest of the lines
pub reach-is : (project : Project) → greatest_by (λ (fact : TableFacts). fact.max_line) (map (facts_at (layout_of project)) (range_with_len 0 (length project.schema.tables))) ≡ reach (layout_of project)
unfolding max_line reach
reach-is project =
    let layout = layout_of project in
    let places = range_with_len 0 (length project.schema.tables) in
    let in_row : layout.tables ≡ map (table_at layout.tables) places = fill_by_all (table_at layout.tables) layout.tables (length project.schema.tables) no_table (length-map project.schema.tables (table_layout project.dictionaries project.schema.tables)) (λ k h. refl) in
    fold-map (λ most (fact : TableFacts). max most fact.max_line) (facts_at layout) 0 places
    ∙ sym (ap (greatest_by (line_of_table layout)) in_row
    ∙ fold-map (λ most (table : TableLayout). max most (line_of_table layout table)) (table_at layout.tables) 0 places)

-- the greatest of a number is at least what it began from, and at least that of each item
greatest_from : {A : Type 0} (number : A → ℕ) (xs : List A) (a : ℕ) → a ≤ fold (λ most x. max most (number x)) a xs
greatest_from number [] a = omega arith
greatest_from number (x ∷ xs) a = omega (arith, greatest_from number xs (max a (number x)))

greatest_at : {A : Type 0} (number : A → ℕ) (xs : List A) (a : ℕ) (i : ℕ) (d : A) → number d ≤ a → number (get_or xs i d) ≤ fold (λ most x. max most (number x)) a xs
greatest_at number [] a i d h = h
greatest_at number (x ∷ xs) a zero d h = omega (arith, greatest_from number xs (max a (number x)))
greatest_at number (x ∷ xs) a (suc i) d h = greatest_at number xs (max a (number x)) i d (omega arith)

-- no line is longer than the reach
pub max_line-reach : (layout : Layout) (place : ℕ) → max_line layout place ≤ reach layout
unfolding max_line reach
max_line-reach layout place =
    let none : line_of_table layout no_table ≡ 0 = refl in
    greatest_at (line_of_table layout) layout.tables 0 place no_table (omega (arith, none))

-- what is kept of the tables, one for each
pub length-kept : {A : Type 0} (of : ℕ → A) (tables : ℕ) (kept : List A) → kept ≡ map of (range_with_len 0 tables) → length kept ≡ tables
length-kept of tables kept is = ap length is ∙ length-map-range_with_len of 0 tables

pub get_or-kept : {A : Type 0} (of : ℕ → A) (tables : ℕ) (kept : List A) → kept ≡ map of (range_with_len 0 tables) → (place : ℕ) (d : A) → place < tables → get_or kept place d ≡ of place
get_or-kept of tables kept is place d h = ap (λ all. get_or all place d) is ∙ get_or-map-range_with_len of 0 tables place place d h (omega arith)

-- the births of each table of an accepted schema are within their limits
pub births_in_limits : (project : Project) → IsInLimits project → All (λ (table : Table). AreBirthsInLimits (count project.schema.units) (births_of table)) project.schema.tables
births_in_limits project limits k d below =
    let tables = project.schema.tables in
    let in_layouts : k < length (layout_of project).tables = omega (arith, below, length-map tables (table_layout project.dictionaries tables)) in
    let layout : get_or (layout_of project).tables k no_table ≡ table_layout project.dictionaries tables (get_or tables k d) = get_or-map (table_layout project.dictionaries tables) tables k d no_table below in
    let within = subst (λ (table : TableLayout). IsTableInLimits (count project.schema.units) table) layout (limits.tables k no_table in_layouts) in
    within.births

-- what is told of the cohorts of the table at a place
pub cohorts_kept : (project : Project) (place : ℕ) (d : BirthsUpTo) → place < length project.schema.tables →
    get_or (map (births_through (count project.schema.units)) project.schema.tables) place d
    ≡ record { births = (table_at (layout_of project).tables place).births; last = (layout_of project).units }
cohorts_kept project place d below =
    let tables = project.schema.tables in
    let none : Table = record { name = []; rows = pos 0; insert = []; life = None; update = None; columns = [] } in
    get_or-map (births_through (count project.schema.units)) tables place none d below
    ∙ ap (λ (births : Births). record { births = births; last = (layout_of project).units })
    (sym (ap (λ (table : TableLayout). table.births) (get_or-map (table_layout project.dictionaries tables) tables place none no_table below)))
