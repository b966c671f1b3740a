-- Which columns have bare literals: those that show numbers.
use Rattle.std.specs.Prelude.{ℕ, Bool, true, false, List}
use Rattle.std.specs.List.{list_all}
use Rattle.schema_facts.specs.Dictionaries.{Project}
use Rattle.schema_plan.specs.declared.ready.ReadyKind.{ReadyKind}
use Rattle.schema_plan.specs.declared.ready.ReadyKind.TheVariants as kind
use Rattle.schema_plan.specs.declared.ready.ReadyLeaf.{ReadyLeaf}
use Rattle.schema_plan.specs.declared.ready.ReadyLeaf.TheVariants as leaf
use Rattle.schema_facts.specs.Layout.{LeafLayout, int_leaf, fixed_leaf, skew_leaf, KindLayout, key_kind, born_kind, changed_kind, leaf_kind, case_kind, reference_kind, lookup_kind, sum_kind, product_kind, TableLayout, column_at, layout_of, table_at}

-- a value that is drawn for a field alone
abbrev pub is_bare_leaf : LeafLayout → Bool
is_bare_leaf (int_leaf lo hi step) = true
is_bare_leaf (fixed_leaf lo hi decimals) = true
is_bare_leaf (skew_leaf lo size power) = true
is_bare_leaf _ = false

-- a kind that shows no other table: a case shows numbers where all its branches do
abbrev pub is_bare_in_table : KindLayout → Bool
is_bare_in_table key_kind = true
is_bare_in_table born_kind = true
is_bare_in_table changed_kind = true
is_bare_in_table (leaf_kind leaf) = is_bare_leaf leaf
is_bare_in_table (case_kind on branches) = list_all is_bare_leaf branches
is_bare_in_table (reference_kind parent window spread nulls drawn) = true
is_bare_in_table (sum_kind of) = true
is_bare_in_table (product_kind of) = true
is_bare_in_table _ = false

-- a kind of a column of some tables: a lookup is as the column that it shows
abbrev pub is_bare : List TableLayout → KindLayout → Bool
is_bare tables (lookup_kind via parent column) = is_bare_in_table (column_at (table_at tables parent).columns column).kind
is_bare tables kind = is_bare_in_table kind

-- the column at a place of the table at a place
abbrev pub is_bare_at : Project → ℕ → ℕ → Bool
is_bare_at plan place column =
    is_bare (layout_of plan).tables (column_at (table_at (layout_of plan).tables place).columns column).kind

-- ---- what a plan keeps of them

abbrev pub is_bare_ready_leaf : ReadyLeaf → Bool
is_bare_ready_leaf (leaf.Int lo hi step count) = true
is_bare_ready_leaf (leaf.Fixed lo hi count decimals unit) = true
is_bare_ready_leaf (leaf.Skew lo weights total) = true
is_bare_ready_leaf _ = false

abbrev pub is_bare_ready : ReadyKind → Bool
is_bare_ready kind.Key = true
is_bare_ready kind.Born = true
is_bare_ready kind.Changed = true
is_bare_ready (kind.Drawn drawn) = is_bare_ready_leaf drawn
is_bare_ready (kind.Case on branches) = list_all is_bare_ready_leaf branches
is_bare_ready (kind.Reference reference) = true
is_bare_ready (kind.Sum of) = true
is_bare_ready (kind.Product of) = true
is_bare_ready _ = false
