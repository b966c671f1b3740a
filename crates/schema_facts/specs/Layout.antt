-- The layout of a schema with its dictionaries: its tables and columns with each name resolved to what it names, a table or a
-- column to its place, counted from 0, and a dictionary to its words. It is total: a name that nothing has stands for the place
-- past the last one or for no words, and a number below 0 counts as 0.
use Rattle.std.specs.Prelude.{ℕ, ℤ, Bool, true, false, List, [], map, length, Option, Some, None, slice_index_or}
use Rattle.std.specs.List.{position_or_len}
use Rattle.std.specs.Option.{option_map}
use Rattle.dictionaries.specs.WordList.{WordList}
use Rattle.schema_model.specs.declared.table.Table.{Table}
use Rattle.schema_model.specs.declared.table.Life.{Life}
use Rattle.schema_model.specs.declared.table.Phase.{Phase}
use Rattle.schema_model.specs.declared.column.Column.{Column}
use Rattle.schema_model.specs.declared.column.Deal.{Deal}
use Rattle.schema_model.specs.declared.column.Deal.TheVariants.{Turn, Drawn}
use Rattle.schema_model.specs.declared.column.Kind.{Kind}
use Rattle.schema_model.specs.declared.column.Kind.TheVariants as kind
use Rattle.schema_model.specs.declared.column.Leaf.{Leaf}
use Rattle.schema_model.specs.declared.column.Leaf.TheVariants as drawn
use Rattle.schema_model.specs.declared.column.OnDelete.{OnDelete}
use Rattle.schema_model.specs.declared.column.OnDelete.TheVariants.{Cascade, Null}
use Rattle.schema_model.specs.declared.column.Part.{Part}
use Rattle.schema_model.specs.declared.column.Part.TheVariants as part
use Rattle.schema_model.specs.declared.column.Window.{Window}
use Rattle.schema_model.specs.declared.column.Window.TheVariants as window
use Rattle.cohort_sizes.specs.Births.{Births}
use Rattle.cohort_sizes.specs.declared.rate.Rate.{Rate}
use Rattle.schema_facts.specs.declared.layout.Keys.{Keys}
use Rattle.schema_facts.specs.declared.layout.Span.{Span}
use Rattle.schema_facts.specs.Counts.{count}
use Rattle.schema_facts.specs.Delimiters.{delimiter_byte}
use Rattle.schema_facts.specs.Dictionaries.{Dictionary, Project, words_named}
use Rattle.schema_facts.specs.Names.{same_text}

-- ---- the types

-- a value that is drawn for a field alone
pub data LeafLayout : Type 0 where
  int_leaf : ℤ → ℤ → ℕ → LeafLayout
  fixed_leaf : ℤ → ℤ → ℕ → LeafLayout
  date_leaf : ℤ → ℤ → LeafLayout
  pick_leaf : List (List ℕ) → List ℕ → LeafLayout
  skew_leaf : ℤ → ℕ → ℕ → LeafLayout
  dict_leaf : WordList → LeafLayout
  words_leaf : WordList → ℕ → ℕ → LeafLayout
  chars_leaf : List ℕ → ℕ → ℕ → LeafLayout
  uuid_leaf : LeafLayout

-- a part of a template: a text, or the place of a column of the same table, and up to how many bytes its field is filled with zeros: 0
-- where it stands as it is
pub data PartLayout : Type 0 where
  literal_part : List ℕ → PartLayout
  cited_part : ℕ → ℕ → PartLayout

-- what a column holds. A case has the place of its pick column; a reference the place of its parent's table, the units by which
-- a parent may be older (None: any), its spread, whether it becomes null where the parent is deleted, and whether the parents are dealt in
-- a drawn order; a lookup the places of its reference column, of that one's parent and of the parent's column; a list the words that its
-- rows take in turn;
-- a date of units whether it goes by the unit of the row's last change, not by that of its birth, the day of unit 0, and the days from one
-- unit to the next; a date after a date the place of the column that it follows, and by how many days at least and at most; a sum and a
-- product the places of the columns whose numbers they join, a place for each time that one is named
pub data KindLayout : Type 0 where
  key_kind : KindLayout
  born_kind : KindLayout
  changed_kind : KindLayout
  leaf_kind : LeafLayout → KindLayout
  template_kind : List PartLayout → KindLayout
  case_kind : ℕ → List LeafLayout → KindLayout
  reference_kind : ℕ → Option ℕ → List ℕ → Bool → Bool → KindLayout
  lookup_kind : ℕ → ℕ → ℕ → KindLayout
  list_kind : WordList → KindLayout
  unit_date_kind : Bool → ℤ → ℕ → KindLayout
  after_kind : ℕ → ℤ → ℤ → KindLayout
  sum_kind : List ℕ → KindLayout
  product_kind : List ℕ → KindLayout

-- a column: what it holds, whether it is drawn anew where a row changes, and how many of a thousand fields are null
pub record ColumnLayout : Type 0 where
  pub kind : KindLayout
  pub changes : Bool
  pub null : ℕ

-- a table: its births, how long a row lives (None: for good), every how many units it changes (None: never), its keys and columns
pub record TableLayout : Type 0 where
  pub births : Births
  pub life : Option Span
  pub update : Option ℕ
  pub key : Keys
  pub columns : List ColumnLayout

-- a schema: its seed, its last unit, the byte between two fields, and its tables in order
pub record Layout : Type 0 where
  pub seed : ℕ
  pub units : ℕ
  pub delimiter : ℕ
  pub tables : List TableLayout

-- ---- what stands at a place

-- the table without rows and columns, which stands past the last table
abbrev pub no_table : TableLayout
no_table = record {
  births = record { rows = 0; rates = [] };
  life = None;
  update = None;
  key = record { base = 0; scramble = false };
  columns = [];
}

-- the table at a place
abbrev pub table_at : List TableLayout → ℕ → TableLayout
table_at tables place = slice_index_or tables place no_table

-- the column past the last one holds the empty text
abbrev pub no_column : ColumnLayout
no_column = record { kind = template_kind []; changes = false; null = 0 }

-- the column at a place
abbrev pub column_at : List ColumnLayout → ℕ → ColumnLayout
column_at columns place = slice_index_or columns place no_column

-- ---- names to places

-- the place of the table with a name
abbrev pub place_of_table : List Table → List ℕ → ℕ
place_of_table tables name = position_or_len (λ table. same_text table.name name) tables

-- the place of the column with a name
abbrev pub place_of_column : List Column → List ℕ → ℕ
place_of_column columns name = position_or_len (λ column. same_text column.name name) columns

-- the columns of the table at a place
abbrev pub columns_of : List Table → ℕ → List Column
columns_of tables place = slice_index_or (map (λ table. table.columns) tables) place []

-- the place of the table that a kind names as its parent; the place past the last one where it names none
abbrev pub place_of_parent : List Table → Kind → ℕ
place_of_parent tables (kind.Ref table window spread on_delete deal) = place_of_table tables table
place_of_parent tables _ = length tables

-- the kinds of some columns
abbrev pub kinds_of : List Column → List Kind
kinds_of columns = map (λ column. column.kind) columns

-- the place of the table that the column with a name refers to
abbrev pub parent_via : List Table → List Column → List ℕ → ℕ
parent_via tables columns via =
    place_of_parent tables (slice_index_or (kinds_of columns) (place_of_column columns via) kind.Born)

-- ---- the layout of a schema

abbrev pub leaf_layout : List Dictionary → Leaf → LeafLayout
leaf_layout dictionaries (drawn.Int lo hi step) = int_leaf lo hi (count step)
leaf_layout dictionaries (drawn.Fixed lo hi decimals) = fixed_leaf lo hi (count decimals)
leaf_layout dictionaries (drawn.Date lo hi) = date_leaf lo hi
leaf_layout dictionaries (drawn.Pick entries weights) = pick_leaf entries (map count weights)
leaf_layout dictionaries (drawn.Skew lo size power) = skew_leaf lo (count size) (count power)
leaf_layout dictionaries (drawn.Dict file) = dict_leaf (words_named dictionaries file)
leaf_layout dictionaries (drawn.Words file lo hi) = words_leaf (words_named dictionaries file) (count lo) (count hi)
leaf_layout dictionaries (drawn.Chars alphabet lo hi) = chars_leaf alphabet (count lo) (count hi)
leaf_layout dictionaries drawn.Uuid = uuid_leaf

abbrev pub part_layout : List Column → Part → PartLayout
part_layout columns (part.Literal bytes) = literal_part bytes
part_layout columns (part.Cited name) = cited_part (place_of_column columns name) 0
part_layout columns (part.Padded name width) = cited_part (place_of_column columns name) (count width)

abbrev pub window_layout : Window → Option ℕ
window_layout (window.Units units) = Some (count units)
window_layout window.All = None

-- whether a reference becomes null where its parent is deleted; else its row is deleted too
abbrev pub becomes_null : OnDelete → Bool
becomes_null Cascade = false
becomes_null Null = true

-- whether a reference deals the parents in a drawn order; else in turn
abbrev pub is_drawn_deal : Deal → Bool
is_drawn_deal Turn = false
is_drawn_deal Drawn = true

abbrev pub kind_layout : List Dictionary → List Table → List Column → Kind → KindLayout
kind_layout dictionaries tables columns (kind.Key base scramble) = key_kind
kind_layout dictionaries tables columns kind.Born = born_kind
kind_layout dictionaries tables columns kind.Changed = changed_kind
kind_layout dictionaries tables columns (kind.Leaf drawn) = leaf_kind (leaf_layout dictionaries drawn)
kind_layout dictionaries tables columns (kind.Template parts) = template_kind (map (part_layout columns) parts)
kind_layout dictionaries tables columns (kind.Case on branches) =
    case_kind (place_of_column columns on) (map (leaf_layout dictionaries) branches)
kind_layout dictionaries tables columns (kind.Ref table window spread on_delete deal) =
    reference_kind (place_of_table tables table) (window_layout window) (map count spread) (becomes_null on_delete) (is_drawn_deal deal)
kind_layout dictionaries tables columns (kind.Lookup via column) =
    lookup_kind (place_of_column columns via) (parent_via tables columns via)
    (place_of_column (columns_of tables (parent_via tables columns via)) column)
kind_layout dictionaries tables columns (kind.List file) = list_kind (words_named dictionaries file)
kind_layout dictionaries tables columns (kind.BornDate start step) = unit_date_kind false start (count step)
kind_layout dictionaries tables columns (kind.ChangedDate start step) = unit_date_kind true start (count step)
kind_layout dictionaries tables columns (kind.After of lo hi) = after_kind (place_of_column columns of) lo hi
kind_layout dictionaries tables columns (kind.Sum of) = sum_kind (map (place_of_column columns) of)
kind_layout dictionaries tables columns (kind.Product of) = product_kind (map (place_of_column columns) of)

abbrev pub column_layout : List Dictionary → List Table → List Column → Column → ColumnLayout
column_layout dictionaries tables columns column = record {
  kind = kind_layout dictionaries tables columns column.kind;
  changes = column.changes;
  null = count column.null;
}

-- the keys that a column of some kind holds
abbrev pub keys_of_kind : Kind → Keys
keys_of_kind (kind.Key base scramble) = record { base = count base; scramble = scramble }
keys_of_kind _ = record { base = 0; scramble = false }

-- the keys of a table, which its first column holds
abbrev pub keys_of : List Column → Keys
keys_of columns = keys_of_kind (slice_index_or (kinds_of columns) 0 kind.Born)

-- how many rows are born from the first unit of a phase on
abbrev pub rate_of : Phase → Rate
rate_of phase = record { from = count phase.from; rows = count phase.rate }

abbrev pub births_of : Table → Births
births_of table = record { rows = count table.rows; rates = map rate_of table.insert }

abbrev pub span_of : Life → Span
span_of life = record { least = count life.lo; most = count life.hi }

abbrev pub table_layout : List Dictionary → List Table → Table → TableLayout
table_layout dictionaries tables table = record {
  births = births_of table;
  life = option_map span_of table.life;
  update = option_map count table.update;
  key = keys_of table.columns;
  columns = map (column_layout dictionaries tables table.columns) table.columns;
}

-- the tables of a schema, in order
abbrev pub table_layouts : List Dictionary → List Table → List TableLayout
table_layouts dictionaries tables = map (table_layout dictionaries tables) tables

-- the layout of a schema with its dictionaries
abbrev pub layout_of : Project → Layout
layout_of project = record {
  seed = count project.schema.seed;
  units = count project.schema.units;
  delimiter = delimiter_byte project.schema.delimiter;
  tables = table_layouts project.dictionaries project.schema.tables;
}
