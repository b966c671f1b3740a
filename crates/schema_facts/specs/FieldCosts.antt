-- How many permutations a field asks at most, once it is known which references are null.
use Rattle.std.specs.Prelude.{ℕ, ◌+◌, false, List, sum_by}
use Rattle.schema_facts.specs.declared.column_facts.ColumnFacts.{ColumnFacts}
use Rattle.schema_facts.specs.FactsBefore.{facts_among, facts_in}
use Rattle.schema_facts.specs.Layout.{PartLayout, literal_part, cited_part, KindLayout, key_kind, template_kind, reference_kind, lookup_kind, after_kind, sum_kind, product_kind, TableLayout, table_at, column_at}
use Rattle.schema_facts.specs.Lineage.{choice_cost, one_if}

-- of the column at a place among those before; nothing where none of them has the place
abbrev pub cost_among : List ColumnFacts → ℕ → ℕ
cost_among before place = (facts_among before place).cost

-- of a part of a template: what the cited column asks, once for each part that cites it
abbrev pub cost_of_part : List ColumnFacts → PartLayout → ℕ
cost_of_part before (literal_part bytes) = 0
cost_of_part before (cited_part column width) = cost_among before column

-- how many permutations choose the parent by the reference of a kind; any other kind counts as one in turn
abbrev pub choice_cost_of : KindLayout → ℕ
choice_cost_of (reference_kind parent window spread nulls drawn) = choice_cost drawn
choice_cost_of _ = choice_cost false

-- of a field, by its kind: a reference asks what finds its parent, and the parent's key; a lookup what chooses its parent, and what the
-- parent's column asks; a column that is made of others what those ask, each as often as it is named
abbrev pub cost_of_field : List TableLayout → TableLayout → List (List ColumnFacts) → List ColumnFacts → KindLayout → ℕ
cost_of_field tables table earlier before key_kind = one_if table.key.scramble
cost_of_field tables table earlier before (template_kind parts) = sum_by (cost_of_part before) parts
cost_of_field tables table earlier before (reference_kind parent window spread nulls drawn) =
    choice_cost drawn + one_if (table_at tables parent).key.scramble
cost_of_field tables table earlier before (lookup_kind via parent column) =
    choice_cost_of (column_at table.columns via).kind + (facts_in earlier parent column).cost
cost_of_field tables table earlier before (after_kind of lo hi) = cost_among before of
cost_of_field tables table earlier before (sum_kind of) = sum_by (cost_among before) of
cost_of_field tables table earlier before (product_kind of) = sum_by (cost_among before) of
cost_of_field tables table earlier before _ = 0
