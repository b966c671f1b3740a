-- What is known of tables, with numbers that stand at the last of 64 bits where they are past it.
use Rattle.std.proofs.Common.{◌≡◌, ℕ, ◌+◌, ◌<◌, Bool, true, false, List, [], ◌∷◌, ◌++◌, length, map, get_or, take, Option, Some, None, is_some, refl, sym, ap, ◌∙◌, arith}
use Rattle.std.proofs.Math.ListN.{set}
use Rattle.std.specs.List.{range_with_len}
use Rattle.std.specs.Option.{option_map}
use Rattle.std.proofs.lemmas.List.{get_or-map, length-map, take_more_set}
use Rattle.std.proofs.lemmas.List.Folds.{fold-map}
use Rattle.std.proofs.lemmas.List.FromFn.{map-range_with_len_more}
use Rattle.schema_model.specs.declared.table.Table.{Table}
use Rattle.schema_facts.specs.declared.column_facts.ColumnFacts.{ColumnFacts}
use Rattle.schema_facts.specs.declared.facts.TableFacts.{TableFacts}
use Rattle.schema_facts.specs.declared.layout.Keys.{Keys}
use Rattle.schema_facts.specs.declared.lineage.Lineage.{Lineage}
use Rattle.schema_facts.specs.Capped.{capped, capped_column, capped_facts, capped_lineage}
use Rattle.schema_facts.specs.ColumnFacts.{column_facts, column_facts_at, facts_of_columns}
use Rattle.schema_facts.specs.Counts.{count}
use Rattle.schema_facts.specs.Dictionaries.{Dictionary, Project}
use Rattle.schema_facts.specs.Layout.{keys_of, layout_of, no_table, table_at, table_layout, table_layouts}
use Rattle.schema_facts.specs.Lineage.{lineage_at, lineage_of, lineages, one_if}
use Rattle.schema_facts.specs.TableFacts.{cost, facts_at, fields_cost, line_cost, line_of_table, max_line, sum_of_costs}
use Rattle.schema_facts.proofs.Lists.{map-map}
use Rattle.schema_facts.proofs.Capping.{capped_sum-same}
use Rattle.schema_facts.proofs.ColumnFactsLemmas.{column_facts_at-is, earlier_facts}
use Rattle.schema_facts.proofs.LineageLemmas.{capped-capped, earlier_lineages, lineage_at-lineages}
use mir.Val.{bool_byte}

-- one more table
pub one_more : (project : Project) (facts : List TableFacts) (place : ℕ) (given : TableFacts) → place < length facts → take place facts ≡ map (λ p. capped_facts (facts_at (layout_of project) p)) (range_with_len 0 place) → given ≡ capped_facts (facts_at (layout_of project) place) → take (place + 1) (set facts place given) ≡ map (λ p. capped_facts (facts_at (layout_of project) p)) (range_with_len 0 (place + 1))
one_more project facts place given within so_far given_is =
    let known = λ (p : ℕ). capped_facts (facts_at (layout_of project) p) in
    take_more_set facts place given within
    ∙ ap (λ front. front ++ given ∷ []) so_far
    ∙ ap (λ one. map known (range_with_len 0 place) ++ one ∷ []) given_is
    ∙ sym (map-range_with_len_more known 0 place place (omega arith))

-- the layout of the table at a place
pub table_at-is : (dictionaries : List Dictionary) (tables : List Table) (place : ℕ) (d : Table) → place < length tables → table_at (table_layouts dictionaries tables) place ≡ table_layout dictionaries tables (get_or tables place d)
table_at-is dictionaries tables place d h = get_or-map (table_layout dictionaries tables) tables place d no_table h

abbrev facts_of_parts : Keys → Lineage → List ColumnFacts → ℕ → ℕ → TableFacts
facts_of_parts keys lineage columns cost line = record { keys = keys; lineage = lineage; columns = columns; cost = cost; max_line = line }

same_facts : (k k' : Keys) (l l' : Lineage) (f f' : List ColumnFacts) (c c' m m' : ℕ) → k ≡ k' → l ≡ l' → f ≡ f' → c ≡ c' → m ≡ m' → facts_of_parts k l f c m ≡ facts_of_parts k' l' f' c' m'
same_facts k k' l l' f f' c c' m m' q r p s t = cc

is_some-map : {A B : Type 0} (f : A → B) (o : Option A) → is_some (option_map f o) ≡ is_some o
is_some-map f None = refl
is_some-map f (Some x) = refl

-- the cost of a row of a table of this lineage, by whether its rows change and by what its fields cost
abbrev cost_of : Lineage → Bool → ℕ → ℕ
cost_of lineage updates fields = 1 + lineage.death_cost + (one_if updates + lineage.loss_cost + (lineage.null_cost + fields))

-- the cost of a row, by the layout of its table
cost-is : (project : Project) (place : ℕ) (table : Table) → table_at (table_layouts project.dictionaries project.schema.tables) place ≡ table_layout project.dictionaries project.schema.tables table → cost (layout_of project) place ≡ cost_of (lineage_at (lineages (table_layouts project.dictionaries project.schema.tables)) place) (is_some table.update) (fields_cost (layout_of project) place)
unfolding line_cost
cost-is project place table at =
    let lineage = lineage_at (lineages (table_layouts project.dictionaries project.schema.tables)) place in
    ap (λ layout. cost_of lineage (is_some layout.update) (fields_cost (layout_of project) place)) at
    ∙ ap (λ updates. cost_of lineage updates (fields_cost (layout_of project) place)) (is_some-map count table.update)

max_line-is : (project : Project) (place : ℕ) (table : Table) → table_at (table_layouts project.dictionaries project.schema.tables) place ≡ table_layout project.dictionaries project.schema.tables table → max_line (layout_of project) place ≡ line_of_table (layout_of project) (table_layout project.dictionaries project.schema.tables table)
unfolding max_line
max_line-is project place table at = ap (line_of_table (layout_of project)) at

-- what the fields of a row cost, by what the facts of its columns are
pub sum_of_costs-capped : (columns : List ColumnFacts) → capped (sum_of_costs (map capped_column columns)) ≡ capped (sum_of_costs columns)
sum_of_costs-capped columns =
    ap capped (fold-map (λ total (facts : ColumnFacts). total + facts.cost) capped_column 0 columns)
    ∙ capped_sum-same (λ (facts : ColumnFacts). (capped_column facts).cost) (λ (facts : ColumnFacts). facts.cost) columns (λ facts. capped-capped facts.cost)

-- the facts of the table at a place, as they are put together
pub facts_are : (project : Project) (place : ℕ) (table : Table) (keys : Keys) (lineage : Lineage) (columns : List ColumnFacts) (update fields line given : ℕ) → place < length project.schema.tables → table ≡ get_or project.schema.tables place table → keys ≡ keys_of table.columns → lineage ≡ capped_lineage (lineage_at (lineages (table_layouts project.dictionaries project.schema.tables)) place) → columns ≡ map capped_column (column_facts_at (layout_of project) place) → update ≡ one_if (is_some table.update) → fields ≡ capped (sum_of_costs columns) → line ≡ capped (line_of_table (layout_of project) (table_layout project.dictionaries project.schema.tables table)) → given ≡ capped (capped (lineage.death_cost + 1) + capped (capped (lineage.loss_cost + update) + capped (lineage.null_cost + fields))) → facts_of_parts keys lineage columns given line ≡ capped_facts (facts_at (layout_of project) place)
facts_are project place table keys lineage columns update fields line given within table_is keys_is lineage_is columns_are update_is fields_are line_is given_is =
    let at : table_at (table_layouts project.dictionaries project.schema.tables) place ≡ table_layout project.dictionaries project.schema.tables table = table_at-is project.dictionaries project.schema.tables place table within ∙ ap (table_layout project.dictionaries project.schema.tables) (sym table_is) in
    let known = lineage_at (lineages (table_layouts project.dictionaries project.schema.tables)) place in
    let cost_is = fields_are ∙ ap (λ (all : List ColumnFacts). capped (sum_of_costs all)) columns_are ∙ sum_of_costs-capped (column_facts_at (layout_of project) place) in
    let whole = sum known lineage (is_some table.update) update (fields_cost (layout_of project) place) fields lineage_is update_is cost_is in
    same_facts keys _ lineage _ columns _ given _ line _
    (keys_is ∙ sym (ap (λ layout. layout.key) at))
    lineage_is
    columns_are
    (given_is ∙ whole ∙ ap capped (sym (cost-is project place table at)))
    (line_is ∙ ap capped (sym (max_line-is project place table at)))
  where
    sum : (known lineage : Lineage) (updates : Bool) (update fields permutations : ℕ) → lineage ≡ capped_lineage known → update ≡ one_if updates → permutations ≡ capped fields →
        capped (capped (lineage.death_cost + 1) + capped (capped (lineage.loss_cost + update) + capped (lineage.null_cost + permutations))) ≡ capped (cost_of known updates fields)
    sum known lineage updates update fields permutations is update_is permutations_is =
        omega (
          arith,
          ap (λ (l : Lineage). l.death_cost) is,
          ap (λ (l : Lineage). l.loss_cost) is,
          ap (λ (l : Lineage). l.null_cost) is,
        )

-- the facts of the columns of the table at a place, by the facts of the tables before it
pub columns_are : (project : Project) (place : ℕ) (table : Table) (earlier : List TableFacts) (columns : List ColumnFacts) → place < length project.schema.tables → table ≡ get_or project.schema.tables place table → earlier ≡ map (λ p. capped_facts (facts_at (layout_of project) p)) (range_with_len 0 place) →
    ((given : List (List ColumnFacts)) → map (λ (facts : TableFacts). facts.columns) earlier ≡ map (map capped_column) given →
    columns ≡ map capped_column (facts_of_columns (layout_of project).units (table_layouts project.dictionaries project.schema.tables) given (table_layout project.dictionaries project.schema.tables table))) →
    columns ≡ map capped_column (column_facts_at (layout_of project) place)
columns_are project place table earlier columns within table_is earlier_is by_given =
    let layouts = table_layouts project.dictionaries project.schema.tables in
    let in_layouts : place < length layouts = omega (arith, length-map project.schema.tables (table_layout project.dictionaries project.schema.tables)) in
    let before = take place (column_facts (layout_of project)) in
    let at : table_at layouts place ≡ table_layout project.dictionaries project.schema.tables table = table_at-is project.dictionaries project.schema.tables place table within ∙ ap (table_layout project.dictionaries project.schema.tables) (sym table_is) in
    by_given before
    (ap (map (λ (facts : TableFacts). facts.columns)) earlier_is
    ∙ map-map (λ (facts : TableFacts). facts.columns) (λ p. capped_facts (facts_at (layout_of project) p)) (range_with_len 0 place)
    ∙ earlier_facts (layout_of project) place in_layouts)
    ∙ ap (λ layout. map capped_column (facts_of_columns (layout_of project).units layouts before layout)) (sym at)
    ∙ ap (map capped_column) (sym (column_facts_at-is (layout_of project) place in_layouts))

-- the lineage of the table at a place, by the facts of the tables before it
pub lineage_is : (project : Project) (place : ℕ) (table : Table) (earlier : List TableFacts) (lineage : Lineage) → place < length project.schema.tables → table ≡ get_or project.schema.tables place table → earlier ≡ map (λ p. capped_facts (facts_at (layout_of project) p)) (range_with_len 0 place) → ((given : List Lineage) → map (λ (facts : TableFacts). facts.lineage) earlier ≡ map capped_lineage given → lineage ≡ capped_lineage (lineage_of given (table_layout project.dictionaries project.schema.tables table))) → lineage ≡ capped_lineage (lineage_at (lineages (table_layouts project.dictionaries project.schema.tables)) place)
lineage_is project place table earlier lineage within table_is earlier_is by_given =
    let layouts = table_layouts project.dictionaries project.schema.tables in
    let in_layouts : place < length layouts = omega (arith, length-map project.schema.tables (table_layout project.dictionaries project.schema.tables)) in
    let before = take place (lineages layouts) in
    let at : table_at layouts place ≡ table_layout project.dictionaries project.schema.tables table = table_at-is project.dictionaries project.schema.tables place table within ∙ ap (table_layout project.dictionaries project.schema.tables) (sym table_is) in
    by_given before
    (ap (map (λ (facts : TableFacts). facts.lineage)) earlier_is
    ∙ map-map (λ (facts : TableFacts). facts.lineage) (λ p. capped_facts (facts_at (layout_of project) p)) (range_with_len 0 place)
    ∙ earlier_lineages layouts place in_layouts)
    ∙ ap (λ layout. capped_lineage (lineage_of before layout)) (sym at)
    ∙ ap capped_lineage (sym (lineage_at-lineages layouts place in_layouts))

pub bool_byte-is : (b : Bool) → bool_byte b ≡ one_if b
bool_byte-is true = refl
bool_byte-is false = refl
