-- A column is bare as it is kept where its layout is.
use Rattle.std.proofs.Common.{◌≡◌, ◌≢◌, ◌<◌, ℕ, ◌&&◌, Bool, List, [], ◌∷◌, get_or, length, map, inl, inr, refl, ap, ap₂, subst, sym, ◌∙◌, arith}
use Rattle.std.specs.List.{list_all}
use Rattle.std.proofs.lemmas.Bool.{cases_lt}
use Rattle.std.proofs.lemmas.List.{get_or_past, length-map}
use Rattle.schema_facts.specs.Dictionaries.{Project}
use Rattle.schema_facts.specs.Layout.{ColumnLayout, KindLayout, LeafLayout, TableLayout, born_kind, case_kind, changed_kind, chars_leaf, column_at, date_leaf, dict_leaf, fixed_leaf, int_leaf, key_kind, layout_of, leaf_kind, list_kind, lookup_kind, no_table, pick_leaf, reference_kind, skew_leaf, table_at, template_kind, unit_date_kind, after_kind, sum_kind, product_kind, uuid_leaf, words_leaf}
use Rattle.schema_plan.specs.Limits.{IsInLimits, IsLookupInLimits, IsTableInLimits}
use Rattle.schema_plan.specs.Ready.{ready_column, ready_columns, ready_kind, ready_leaf}
use Rattle.schema_plan.specs.declared.ready.ReadyColumn.{ReadyColumn}
use Rattle.schema_plan.specs.declared.ready.ReadyKind.TheVariants as kind
use Rattle.schema_plan.specs.declared.ready.ReadyLookup.{ReadyLookup}
use Rattle.life_intervals.specs.Generator.{table_of}
use Rattle.life_intervals.proofs.AcceptedLemmas.{length-tables, place-below}
use Rattle.life_intervals.proofs.CohortParentLemmas.{ready_columns-at}
use Rattle.sql_lines.specs.Bare.{is_bare, is_bare_in_table, is_bare_leaf, is_bare_ready, is_bare_ready_leaf}

leaf-bare : (delimiter : ℕ) (leaf : LeafLayout) → is_bare_ready_leaf (ready_leaf delimiter leaf) ≡ is_bare_leaf leaf
leaf-bare delimiter (int_leaf lo hi step) = refl
leaf-bare delimiter (fixed_leaf lo hi decimals) = refl
leaf-bare delimiter (date_leaf lo hi) = refl
leaf-bare delimiter (pick_leaf entries weights) = refl
leaf-bare delimiter (skew_leaf lo size power) = refl
leaf-bare delimiter (dict_leaf words) = refl
leaf-bare delimiter (words_leaf words lo hi) = refl
leaf-bare delimiter (chars_leaf alphabet lo hi) = refl
leaf-bare delimiter uuid_leaf = refl

leaves-bare : (delimiter : ℕ) (leaves : List LeafLayout) → list_all is_bare_ready_leaf (map (ready_leaf delimiter) leaves) ≡ list_all is_bare_leaf leaves
leaves-bare delimiter [] = refl
leaves-bare delimiter (leaf ∷ leaves) = ap₂ (λ (one others : Bool). one && others) (leaf-bare delimiter leaf) (leaves-bare delimiter leaves)

pub kind-bare : (delimiter : ℕ) (held : KindLayout) → is_bare_ready (ready_kind delimiter held) ≡ is_bare_in_table held
kind-bare delimiter (leaf_kind leaf) = leaf-bare delimiter leaf
kind-bare delimiter (case_kind on branches) = leaves-bare delimiter branches
kind-bare delimiter key_kind = refl
kind-bare delimiter born_kind = refl
kind-bare delimiter changed_kind = refl
kind-bare delimiter (template_kind parts) = refl
kind-bare delimiter (reference_kind parent window spread nulls drawn) = refl
kind-bare delimiter (lookup_kind via parent column) = refl
kind-bare delimiter (list_kind words) = refl
kind-bare delimiter (unit_date_kind changed start step) = refl
kind-bare delimiter (after_kind of lo hi) = refl
kind-bare delimiter (sum_kind of) = refl
kind-bare delimiter (product_kind of) = refl

-- one that is no lookup
pub own-bare : (tables : List TableLayout) (delimiter : ℕ) (held : KindLayout) → ((lookup : ReadyLookup) → ready_kind delimiter held ≢ kind.Lookup lookup) →
    is_bare_ready (ready_kind delimiter held) ≡ is_bare tables held
own-bare tables delimiter (lookup_kind via parent column) other = absurd (other (record { via = via; parent = parent; column = column }) refl)
own-bare tables delimiter (leaf_kind leaf) other = leaf-bare delimiter leaf
own-bare tables delimiter (case_kind on branches) other = leaves-bare delimiter branches
own-bare tables delimiter key_kind other = refl
own-bare tables delimiter born_kind other = refl
own-bare tables delimiter changed_kind other = refl
own-bare tables delimiter (template_kind parts) other = refl
own-bare tables delimiter (reference_kind parent window spread nulls drawn) other = refl
own-bare tables delimiter (list_kind words) other = refl
own-bare tables delimiter (unit_date_kind changed start step) other = refl
own-bare tables delimiter (after_kind of lo hi) other = refl
own-bare tables delimiter (sum_kind of) other = refl
own-bare tables delimiter (product_kind of) other = refl

-- and one that is
pub lookup-bare : (tables : List TableLayout) (delimiter : ℕ) (held : KindLayout) (lookup : ReadyLookup) → ready_kind delimiter held ≡ kind.Lookup lookup →
    is_bare_in_table (column_at (table_at tables lookup.parent).columns lookup.column).kind ≡ is_bare tables held
lookup-bare tables delimiter (lookup_kind via parent column) lookup is =
    ap (λ (of : ReadyLookup). is_bare_in_table (column_at (table_at tables of.parent).columns of.column).kind) (sym (same is))
  where
    same : kind.Lookup (record { via = via; parent = parent; column = column }) ≡ kind.Lookup lookup → record { via = via; parent = parent; column = column } ≡ lookup
    same e = cc
lookup-bare tables delimiter key_kind lookup is = absurd (cc)
lookup-bare tables delimiter born_kind lookup is = absurd (cc)
lookup-bare tables delimiter changed_kind lookup is = absurd (cc)
lookup-bare tables delimiter (leaf_kind leaf) lookup is = absurd (cc)
lookup-bare tables delimiter (template_kind parts) lookup is = absurd (cc)
lookup-bare tables delimiter (case_kind on branches) lookup is = absurd (cc)
lookup-bare tables delimiter (reference_kind parent window spread nulls drawn) lookup is = absurd (cc)
lookup-bare tables delimiter (list_kind words) lookup is = absurd (cc)
lookup-bare tables delimiter (unit_date_kind changed start step) lookup is = absurd (cc)
lookup-bare tables delimiter (after_kind of lo hi) lookup is = absurd (cc)
lookup-bare tables delimiter (sum_kind of) lookup is = absurd (cc)
lookup-bare tables delimiter (product_kind of) lookup is = absurd (cc)

-- as many are kept as there are
pub columns-many : (plan : Project) (table : ℕ) (columns : List ReadyColumn) → columns ≡ ready_columns (layout_of plan) table → length columns ≡ length (table_of plan table).columns
columns-many plan table columns are = ap (λ (cs : List ReadyColumn). length cs) are ∙ length-map (table_of plan table).columns (ready_column (layout_of plan).delimiter)

-- the column that is found
pub kind-found : (plan : Project) (table column : ℕ) (columns : List ReadyColumn) (found : ReadyColumn) → columns ≡ ready_columns (layout_of plan) table →
    column < length (table_of plan table).columns → found ≡ get_or columns column found →
    found.kind ≡ ready_kind (layout_of plan).delimiter (column_at (table_of plan table).columns column).kind
kind-found plan table column columns found are below is =
    ap (λ (c : ReadyColumn). c.kind) (is ∙ ap (λ (cs : List ReadyColumn). get_or cs column found) are ∙ ready_columns-at plan table column found below)

-- ---- what a lookup shows

shown-by : (tables : List TableLayout) (delimiter : ℕ) (columns : List ColumnLayout) (place : ℕ) (held : KindLayout) (lookup : ReadyLookup) → IsLookupInLimits tables columns place held →
    ready_kind delimiter held ≡ kind.Lookup lookup → lookup.column < length (table_at tables lookup.parent).columns
shown-by tables delimiter columns place (lookup_kind via parent column) lookup limits is =
    subst (λ (of : ReadyLookup). of.column < length (table_at tables of.parent).columns) (same is) limits.looked_up.within
  where
    same : kind.Lookup (record { via = via; parent = parent; column = column }) ≡ kind.Lookup lookup → record { via = via; parent = parent; column = column } ≡ lookup
    same e = cc
shown-by tables delimiter columns place key_kind lookup limits is = absurd (cc)
shown-by tables delimiter columns place born_kind lookup limits is = absurd (cc)
shown-by tables delimiter columns place changed_kind lookup limits is = absurd (cc)
shown-by tables delimiter columns place (leaf_kind leaf) lookup limits is = absurd (cc)
shown-by tables delimiter columns place (template_kind parts) lookup limits is = absurd (cc)
shown-by tables delimiter columns place (case_kind on branches) lookup limits is = absurd (cc)
shown-by tables delimiter columns place (reference_kind parent window spread nulls drawn) lookup limits is = absurd (cc)
shown-by tables delimiter columns place (list_kind words) lookup limits is = absurd (cc)
shown-by tables delimiter columns place (unit_date_kind changed start step) lookup limits is = absurd (cc)
shown-by tables delimiter columns place (after_kind of lo hi) lookup limits is = absurd (cc)
shown-by tables delimiter columns place (sum_kind of) lookup limits is = absurd (cc)
shown-by tables delimiter columns place (product_kind of) lookup limits is = absurd (cc)

module _ (plan : Project) (limits : IsInLimits plan) (table column : ℕ) (below : table < length plan.schema.tables) (within : column < length (table_of plan table).columns)
    (lookup : ReadyLookup) (is : ready_kind (layout_of plan).delimiter (column_at (table_of plan table).columns column).kind ≡ kind.Lookup lookup) where
  -- a column that is there
  pub shown-column : lookup.column < length (table_of plan lookup.parent).columns
  shown-column =
      shown-by (layout_of plan).tables (layout_of plan).delimiter (table_of plan table).columns column (column_at (table_of plan table).columns column).kind lookup
      (limits.lookups table column below within) is

  -- of a table that is there
  pub shown-table : lookup.parent < length plan.schema.tables
  shown-table = elim (cases_lt lookup.parent (length plan.schema.tables)) [
    | inl there ↦ there
    | inr past ↦
        let none : table_of plan lookup.parent ≡ no_table = get_or_past (layout_of plan).tables lookup.parent no_table (omega (arith, past, length-tables plan)) in
        absurd (omega (arith, shown-column, ap (λ (of : TableLayout). length of.columns) none))
  ]

  -- and one of few
  pub shown-few : lookup.column < 64
  shown-few =
      let own : IsTableInLimits _ (table_of plan lookup.parent) = limits.tables lookup.parent no_table (place-below plan lookup.parent shown-table) in
      omega (arith, shown-column, own.column_limit)
