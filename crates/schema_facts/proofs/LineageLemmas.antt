-- Lineages as the code keeps them, with costs that stand at the last of 64 bits where they are past it.
use Rattle.std.proofs.Common.{◌≡◌, ℕ, ℤ, ◌+◌, ◌<◌, Bool, true, false, List, [], length, map, take, Option, Some, None, refl, sym, ap, ◌∙◌, arith}
use Rattle.std.proofs.Math.ListN as N
use Rattle.std.specs.List.{range_with_len, fold}
use Rattle.std.proofs.lemmas.List.{length-map, length-take-le, get_or-take, get_or-map}
use Rattle.std.proofs.lemmas.List.FromFn.{fill_by_all}
use Rattle.std.proofs.lemmas.List.Folds.{fold-map}
use Rattle.schema_model.specs.declared.table.Table.{Table}
use Rattle.schema_model.specs.declared.column.Column.{Column}
use Rattle.schema_model.specs.declared.column.Deal.{Deal}
use Rattle.schema_model.specs.declared.column.Kind.{Kind}
use Rattle.schema_model.specs.declared.column.Kind.TheVariants.{Ref}
use Rattle.schema_model.specs.declared.column.OnDelete.{OnDelete}
use Rattle.schema_model.specs.declared.column.OnDelete.TheVariants.{Cascade, Null}
use Rattle.schema_model.specs.declared.column.Window.{Window}
use Rattle.schema_facts.specs.declared.layout.Span.{Span}
use Rattle.schema_facts.specs.declared.lineage.Lineage.{Lineage}
use Rattle.schema_facts.specs.Capped.{capped, capped_lineage}
use Rattle.schema_facts.specs.Layout.{PartLayout, literal_part, cited_part, KindLayout, key_kind, born_kind, changed_kind, leaf_kind, template_kind, case_kind, reference_kind, lookup_kind, list_kind, unit_date_kind, after_kind, sum_kind, product_kind, TableLayout, ColumnLayout, no_table, column_at, table_at, column_layout, is_drawn_deal, kind_layout, place_of_table, table_layout, window_layout}
use Rattle.schema_facts.specs.Lineage.{choice_cost, endless, lineage_at, lineage_of, lineages, null_cost_of, null_cost_of_field, null_cost_of_line, null_cost_of_part, own_lineage, with_kind, with_loss, with_parent}
use Rattle.schema_facts.specs.Dictionaries.{Dictionary}
use Rattle.schema_facts.proofs.Capping.{capped_sum-same}
use Rattle.schema_facts.proofs.Lists.{length-in_turn, get_or-in_turn}

pub lineage_at-capped : (given : List Lineage) (place : ℕ) → lineage_at (map capped_lineage given) place ≡ capped_lineage (lineage_at given place)
lineage_at-capped given place = N.get_or-map capped_lineage given place endless

pub capped-capped : (n : ℕ) → capped (capped n) ≡ capped n
capped-capped n = omega arith

-- lineages with the same costs, capped
with_costs : (lineage : Lineage) {death death' loss loss' null null' : ℕ} → death ≡ death' → loss ≡ loss' → null ≡ null' →
    record lineage { death_cost = death; loss_cost = loss; null_cost = null } ≡ record lineage { death_cost = death'; loss_cost = loss'; null_cost = null' }
with_costs lineage deaths losses nulls = cc

-- a cost with what a parent adds to it
with_cost-capped : (own chosen parent : ℕ) → capped (capped own + (chosen + capped parent)) ≡ capped (own + (chosen + parent))
with_cost-capped own chosen parent = omega arith

pub with_parent-capped : (own parent : Lineage) (window : Option ℕ) (drawn : Bool) → capped_lineage (with_parent (capped_lineage own) (capped_lineage parent) window drawn) ≡ capped_lineage (with_parent own parent window drawn)
with_parent-capped own parent window drawn =
    with_costs (with_parent own parent window drawn) (with_cost-capped own.death_cost (choice_cost drawn) parent.death_cost) (capped-capped own.loss_cost) (capped-capped own.null_cost)

pub with_loss-capped : (own parent : Lineage) (drawn : Bool) → capped_lineage (with_loss (capped_lineage own) (capped_lineage parent) drawn) ≡ capped_lineage (with_loss own parent drawn)
with_loss-capped own parent drawn =
    with_costs own (capped-capped own.death_cost) (with_cost-capped own.loss_cost (choice_cost drawn) parent.death_cost) (capped-capped own.null_cost)

pub own_lineage-capped : (life : Option Span) → own_lineage life ≡ capped_lineage (own_lineage life)
own_lineage-capped None = refl
own_lineage-capped (Some life) = refl

-- a kind that is no reference adds nothing
pub no_parent : (given : List Lineage) (own : Lineage) (dictionaries : List Dictionary) (tables : List Table) (columns : List Column) (kind : Kind) → ((table : List ℕ) (window : Window) (spread : List ℤ) (on_delete : OnDelete) (deal : Deal) → kind ≡ Ref table window spread on_delete deal → ⊥) → own ≡ with_kind given own (kind_layout dictionaries tables columns kind)
no_parent given own dictionaries tables columns (Ref table window spread on_delete deal) other = absurd (other table window spread on_delete deal refl)
no_parent given own dictionaries tables columns _ other = refl

-- the lineage of a parent, as the code finds it
parent_given : (given earlier : List Lineage) (parent : Lineage) (place at : ℕ) → earlier ≡ map capped_lineage given → place ≡ at → parent ≡ lineage_at earlier place → parent ≡ capped_lineage (lineage_at given at)
parent_given given earlier parent place at earlier_is place_is parent_is =
    parent_is ∙ ap (lineage_at earlier) place_is ∙ ap (λ lineages. lineage_at lineages at) earlier_is ∙ lineage_at-capped given at

-- a reference whose rows are deleted with their parents adds its parent
pub parent_added : (given earlier : List Lineage) (before own parent after : Lineage) (dictionaries : List Dictionary) (tables : List Table) (columns : List Column) (kind : Kind) (table : List ℕ) (window : Window) (spread : List ℤ) (on_delete : OnDelete) (deal : Deal) (drawn : Bool) (place : ℕ) → kind ≡ Ref table window spread on_delete deal → drawn ≡ is_drawn_deal deal → on_delete ≡ Cascade → earlier ≡ map capped_lineage given → own ≡ capped_lineage before → place ≡ place_of_table tables table → parent ≡ lineage_at earlier place → after ≡ capped_lineage (with_parent own parent (window_layout window) drawn) → after ≡ capped_lineage (with_kind given before (kind_layout dictionaries tables columns kind))
parent_added given earlier before own parent after dictionaries tables columns kind table window spread on_delete deal drawn place kind_is drawn_is cascades earlier_is own_is place_is parent_is after_is =
    let older = window_layout window in
    let at = place_of_table tables table in
    after_is
    ∙ ap (λ lineage. capped_lineage (with_parent lineage parent older drawn)) own_is
    ∙ ap (λ lineage. capped_lineage (with_parent (capped_lineage before) lineage older drawn)) (parent_given given earlier parent place at earlier_is place_is parent_is)
    ∙ with_parent-capped before (lineage_at given at) older drawn
    ∙ ap (λ d. capped_lineage (with_parent before (lineage_at given at) older d)) drawn_is
    ∙ ap (λ k. capped_lineage (with_kind given before (kind_layout dictionaries tables columns k))) (sym (kind_is ∙ ap (λ o. Ref table window spread o deal) cascades))

-- one that becomes null adds its loss
pub loss_added : (given earlier : List Lineage) (before own parent after : Lineage) (dictionaries : List Dictionary) (tables : List Table) (columns : List Column) (kind : Kind) (table : List ℕ) (window : Window) (spread : List ℤ) (on_delete : OnDelete) (deal : Deal) (drawn : Bool) (place : ℕ) → kind ≡ Ref table window spread on_delete deal → drawn ≡ is_drawn_deal deal → on_delete ≡ Null → earlier ≡ map capped_lineage given → own ≡ capped_lineage before → place ≡ place_of_table tables table → parent ≡ lineage_at earlier place → after ≡ capped_lineage (with_loss own parent drawn) → after ≡ capped_lineage (with_kind given before (kind_layout dictionaries tables columns kind))
loss_added given earlier before own parent after dictionaries tables columns kind table window spread on_delete deal drawn place kind_is drawn_is nulls earlier_is own_is place_is parent_is after_is =
    let at = place_of_table tables table in
    after_is
    ∙ ap (λ lineage. capped_lineage (with_loss lineage parent drawn)) own_is
    ∙ ap (λ lineage. capped_lineage (with_loss (capped_lineage before) lineage drawn)) (parent_given given earlier parent place at earlier_is place_is parent_is)
    ∙ with_loss-capped before (lineage_at given at) drawn
    ∙ ap (λ d. capped_lineage (with_loss before (lineage_at given at) d)) drawn_is
    ∙ ap (λ k. capped_lineage (with_kind given before (kind_layout dictionaries tables columns k))) (sym (kind_is ∙ ap (λ o. Ref table window spread o deal) nulls))

-- of the table at a place, by those of the tables before it
pub lineage_at-lineages : (tables : List TableLayout) (place : ℕ) → place < length tables → lineage_at (lineages tables) place ≡ lineage_of (take place (lineages tables)) (table_at tables place)
unfolding lineages
lineage_at-lineages tables place h = get_or-in_turn lineage_of tables place endless no_table h

pub length-lineages : (tables : List TableLayout) → length (lineages tables) ≡ length tables
unfolding lineages
length-lineages tables = length-in_turn lineage_of [] tables

-- the lineages before a place
pub earlier_lineages : (tables : List TableLayout) (place : ℕ) → place < length tables → map (λ k. capped_lineage (lineage_at (lineages tables) k)) (range_with_len 0 place) ≡ map capped_lineage (take place (lineages tables))
earlier_lineages tables place h =
    let before = take place (lineages tables) in
    let count : length before ≡ place = length-take-le place (lineages tables) (omega (arith, length-lineages tables)) in
    sym (fill_by_all (λ k. capped_lineage (lineage_at (lineages tables) k)) (map capped_lineage before) place endless (length-map before capped_lineage ∙ count)
    (λ k below. get_or-map capped_lineage before k endless endless (omega arith)
    ∙ ap capped_lineage (get_or-take place (lineages tables) k endless below)))

-- ---- which references are null

null_cost_of-capped : (given : List Lineage) (kind : KindLayout) → null_cost_of (map capped_lineage given) kind ≡ capped (null_cost_of given kind)
null_cost_of-capped given (reference_kind parent window spread true drawn) = ap (λ (lineage : Lineage). lineage.death_cost) (lineage_at-capped given parent)
null_cost_of-capped given (reference_kind parent window spread false drawn) = refl
null_cost_of-capped given key_kind = refl
null_cost_of-capped given born_kind = refl
null_cost_of-capped given changed_kind = refl
null_cost_of-capped given (leaf_kind leaf) = refl
null_cost_of-capped given (template_kind parts) = refl
null_cost_of-capped given (case_kind on branches) = refl
null_cost_of-capped given (lookup_kind via parent column) = refl
null_cost_of-capped given (list_kind words) = refl
null_cost_of-capped given (unit_date_kind changed start step) = refl
null_cost_of-capped given (after_kind of lo hi) = refl
null_cost_of-capped given (sum_kind of) = refl
null_cost_of-capped given (product_kind of) = refl

null_cost_of_part-capped : (given : List Lineage) (columns : List ColumnLayout) (part : PartLayout) → capped (null_cost_of_part (map capped_lineage given) columns part) ≡ capped (null_cost_of_part given columns part)
null_cost_of_part-capped given columns (literal_part bytes) = refl
null_cost_of_part-capped given columns (cited_part column width) =
    ap capped (null_cost_of-capped given (column_at columns column).kind) ∙ capped-capped (null_cost_of given (column_at columns column).kind)

null_cost_of_field-capped : (given : List Lineage) (columns : List ColumnLayout) (kind : KindLayout) → capped (null_cost_of_field (map capped_lineage given) columns kind) ≡ capped (null_cost_of_field given columns kind)
null_cost_of_field-capped given columns (template_kind parts) =
    capped_sum-same (null_cost_of_part (map capped_lineage given) columns) (null_cost_of_part given columns) parts (null_cost_of_part-capped given columns)
null_cost_of_field-capped given columns (reference_kind parent window spread nulls drawn) =
    let of : KindLayout = reference_kind parent window spread nulls drawn in
    ap capped (null_cost_of-capped given of) ∙ capped-capped (null_cost_of given of)
null_cost_of_field-capped given columns key_kind = refl
null_cost_of_field-capped given columns born_kind = refl
null_cost_of_field-capped given columns changed_kind = refl
null_cost_of_field-capped given columns (leaf_kind leaf) = refl
null_cost_of_field-capped given columns (case_kind on branches) = refl
null_cost_of_field-capped given columns (lookup_kind via parent column) = refl
null_cost_of_field-capped given columns (list_kind words) = refl
null_cost_of_field-capped given columns (unit_date_kind changed start step) = refl
null_cost_of_field-capped given columns (after_kind of lo hi) = refl
null_cost_of_field-capped given columns (sum_kind of) = refl
null_cost_of_field-capped given columns (product_kind of) = refl

null_cost_of_line-capped : (given : List Lineage) (columns : List ColumnLayout) → capped (null_cost_of_line (map capped_lineage given) columns) ≡ capped (null_cost_of_line given columns)
null_cost_of_line-capped given columns =
    capped_sum-same (λ (column : ColumnLayout). null_cost_of_field (map capped_lineage given) columns column.kind) (λ (column : ColumnLayout). null_cost_of_field given columns column.kind) columns
    (λ column. null_cost_of_field-capped given columns column.kind)

-- ---- the columns of a table

-- what is folded from the columns of a table, as its layout has them
folded_columns : (given : List Lineage) (dictionaries : List Dictionary) (tables : List Table) (table : Table) → fold (λ own (column : Column). with_kind given own (kind_layout dictionaries tables table.columns column.kind)) (own_lineage (table_layout dictionaries tables table).life) table.columns
    ≡ fold (λ own (column : ColumnLayout). with_kind given own column.kind) (own_lineage (table_layout dictionaries tables table).life) (table_layout dictionaries tables table).columns
folded_columns given dictionaries tables table =
    sym (fold-map (λ own (column : ColumnLayout). with_kind given own column.kind) (column_layout dictionaries tables table.columns) (own_lineage (table_layout dictionaries tables table).life) table.columns)

-- the lineage of a table as it is folded from its columns, and put together
pub lineage_of-columns : (given earlier : List Lineage) (dictionaries : List Dictionary) (tables : List Table) (table : Table) (folded : Lineage) (null_cost : ℕ) →
    earlier ≡ map capped_lineage given →
    folded ≡ capped_lineage (fold (λ own (column : Column). with_kind given own (kind_layout dictionaries tables table.columns column.kind)) (own_lineage (table_layout dictionaries tables table).life) table.columns) →
    null_cost ≡ capped (null_cost_of_line earlier (table_layout dictionaries tables table).columns) →
    record folded { null_cost = null_cost } ≡ capped_lineage (lineage_of given (table_layout dictionaries tables table))
lineage_of-columns given earlier dictionaries tables table folded null_cost earlier_is folded_is null_cost_is =
    let columns = (table_layout dictionaries tables table).columns in
    ap (λ (lineage : Lineage). record lineage { null_cost = null_cost }) (folded_is ∙ ap capped_lineage (folded_columns given dictionaries tables table))
    ∙ ap (λ n. record (capped_lineage (lineage_of given (table_layout dictionaries tables table))) { null_cost = n })
    (null_cost_is ∙ ap (λ lineages. capped (null_cost_of_line lineages columns)) earlier_is ∙ null_cost_of_line-capped given columns)
