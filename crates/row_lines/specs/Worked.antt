-- Small generators, whose tables can be worked out by hand.
use Rattle.std.specs.Prelude.{ℕ, ◌+◌, ◌-◌, pos, neg_ℤ, Bool, false, true, List, [], ◌∷◌, Some, None, codes}
use Rattle.schema_facts.specs.Layout.{date_leaf, fixed_leaf, int_leaf, literal_part, cited_part, KindLayout, leaf_kind, after_kind, sum_kind, product_kind, key_kind, born_kind, changed_kind, template_kind, reference_kind, lookup_kind, ColumnLayout, TableLayout}
use Rattle.life_intervals.specs.Generator.{Order, Draw, in_place, Generator}
use Rattle.life_intervals.specs.Rows.{Row}

-- a column that neither changes nor is null
abbrev pub plain_column : KindLayout → ColumnLayout
plain_column kind = record { kind = kind; changes = false; null = 0 }

-- a table of keys from a base and birth units, as many columns of these as are given
abbrev pub keyed_table : ℕ → ℕ → ℕ → Bool → List ColumnLayout → TableLayout
keyed_table rows insert base scramble births = record {
  births = record { rows = rows; rates = record { from = 1; rows = insert } ∷ [] };
  life = None;
  update = None;
  key = record { base = base; scramble = scramble };
  columns = plain_column key_kind ∷ births;
}

-- nothing is drawn
abbrev pub no_draw : Draw
no_draw table column unit ordinal number = 0

-- one table, with a row at each unit: its key, counted from 1, and its birth unit; tabs between
abbrev pub one : Generator
one = record {
  tables = keyed_table 1 1 1 false (plain_column born_kind ∷ []) ∷ [];
  order = in_place;
  draw = no_draw;
  delimiter = 9;
}

-- the orders that give the two rows of a cohort each other's place
abbrev pub swapped : Order
swapped = record in_place { place = λ table purpose unit index. 1 - index }

-- a table of two rows at each unit but 0, with scrambled keys from 10; and a table of two rows
-- at unit 0 alone, with keys in place; bars between
abbrev pub pairs : Generator
pairs = record {
  tables = keyed_table 0 2 10 true (plain_column born_kind ∷ plain_column born_kind ∷ []) ∷ keyed_table 2 0 0 false [] ∷ [];
  order = swapped;
  draw = no_draw;
  delimiter = 124;
}

-- a column that is null by each draw of 0
abbrev pub nulled : KindLayout → ColumnLayout
nulled kind = record { kind = kind; changes = false; null = 1 }

-- a table of a row at each unit: its key, counted from 1, its birth unit, which is null, and templates: one of the key, one of what is
-- null, one of a tab and a backslash, one of two keys, and one that is null itself; tabs between
abbrev pub labels : Generator
labels = record {
  tables = keyed_table 1 1 1 false (nulled born_kind
      ∷ plain_column (template_kind (literal_part (codes "r") ∷ cited_part 0 0 ∷ literal_part (codes "!") ∷ []))
      ∷ plain_column (template_kind (literal_part (codes "[") ∷ cited_part 1 0 ∷ literal_part (codes "]") ∷ []))
      ∷ plain_column (template_kind (literal_part (codes "a\tb\\") ∷ []))
      ∷ plain_column (template_kind (cited_part 0 0 ∷ cited_part 0 0 ∷ []))
      ∷ nulled (template_kind (cited_part 0 0 ∷ [])) ∷ []) ∷ [];
  order = in_place;
  draw = no_draw;
  delimiter = 9;
}

-- cities with a row at each unit: the key, counted from 5, a template of it, and the birth; and houses with a row at each unit: the key,
-- counted from 1, the city that is born with it, and of that the birth, the template and the key, which is null; tabs between
abbrev pub land : Generator
land = record {
  tables = keyed_table 1 1 5 false (plain_column (template_kind (literal_part (codes "c") ∷ cited_part 0 0 ∷ [])) ∷ plain_column born_kind ∷ [])
      ∷ keyed_table 1 1 1 false (plain_column (reference_kind 0 (Some 0) (1 ∷ []) false false) ∷ plain_column (lookup_kind 1 0 2) ∷ plain_column (lookup_kind 1 0 1)
      ∷ nulled (lookup_kind 1 0 0) ∷ []) ∷ [];
  order = in_place;
  draw = no_draw;
  delimiter = 9;
}

-- owners, who live two units, and notes, each born with its owner: the key, the owner, the unit of the last change, and a template of
-- the owner; tabs between
abbrev pub owned : Generator
owned = record {
  tables = record (keyed_table 1 1 1 false []) { life = Some (record { least = 2; most = 2 }) }
      ∷ keyed_table 1 1 1 false (plain_column (reference_kind 0 (Some 0) (1 ∷ []) true false) ∷ plain_column changed_kind
      ∷ plain_column (template_kind (literal_part (codes "of ") ∷ cited_part 1 0 ∷ [])) ∷ []) ∷ [];
  order = in_place;
  draw = no_draw;
  delimiter = 9;
}

-- each draw is the column's place and its own number together
abbrev pub by_column : Draw
by_column table column unit ordinal number = column + number

-- bills with a row at each unit: the key, the day that it is sent, one of ten, and that until which it is due, 1 to 30 days later; a day that
-- is null, and one after it; 3, 12.34, their product and their sum; a number that is null, and a sum with it; -0.05, and three times that.
-- And payments, each born with its bill: the key, the bill, the day until which that is due, and one 10 days later; what the bill's product
-- is, and twice that; tabs between
abbrev pub billed : Generator
billed = record {
  tables = keyed_table 1 1 1 false (plain_column (leaf_kind (date_leaf (pos 100) (pos 109)))
      ∷ plain_column (after_kind 1 (pos 1) (pos 30))
      ∷ record (nulled (leaf_kind (date_leaf (pos 200) (pos 200)))) { null = 4 }
      ∷ plain_column (after_kind 3 (pos 0) (pos 0))
      ∷ plain_column (leaf_kind (int_leaf (pos 3) (pos 3) 1))
      ∷ plain_column (leaf_kind (fixed_leaf (pos 1234) (pos 1234) 2))
      ∷ plain_column (product_kind (6 ∷ 5 ∷ []))
      ∷ plain_column (sum_kind (6 ∷ 5 ∷ []))
      ∷ record (nulled (leaf_kind (int_leaf (pos 1) (pos 1) 1))) { null = 10 }
      ∷ plain_column (sum_kind (5 ∷ 9 ∷ []))
      ∷ plain_column (leaf_kind (fixed_leaf (neg_ℤ (pos 5)) (neg_ℤ (pos 5)) 2))
      ∷ plain_column (product_kind (11 ∷ 5 ∷ [])) ∷ [])
      ∷ keyed_table 1 1 1 false (plain_column (reference_kind 0 (Some 0) (1 ∷ []) false false) ∷ plain_column (lookup_kind 1 0 2) ∷ plain_column (after_kind 2 (pos 10) (pos 10))
      ∷ plain_column (lookup_kind 1 0 7) ∷ plain_column (sum_kind (4 ∷ 4 ∷ [])) ∷ []) ∷ [];
  order = in_place;
  draw = by_column;
  delimiter = 9;
}

-- the house that is born at unit 0
abbrev pub first_house : Row
first_house = record { ordinal = 0; born = 0; changed = 0; left = None; wait = None; parents = Some 0 ∷ [] }

-- the note that is born at unit 0, with its owner and when it has lost it
abbrev pub first_note : Row
first_note = record { ordinal = 0; born = 0; changed = 0; left = None; wait = None; parents = Some 0 ∷ [] }

abbrev pub first_note_alone : Row
first_note_alone = record first_note { changed = 2; parents = None ∷ [] }
