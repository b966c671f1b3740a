-- The rules of a schema, each at the sites where it asks something, and the first that is broken.
use Rattle.std.specs.Prelude.{◌≡◌, ℕ, zero, suc, ℤ, pos, neg_ℤ, ◌+ℤ◌, ◌-ℤ◌, ◌+◌, ◌-◌, ◌*◌, ◌^◌, ◌==◌, List, [], ◌∷◌, length, map, sum, take, Bool, true, false, not, ◌&&◌, ◌||◌, nat_le, nat_lt, int_le, int_lt, count_by, Option, Some, None, is_none, is_some, slice_index_or, if◌then◌else◌}
use Rattle.std.specs.List.{list_all, list_any, range_with_len}
use Rattle.std.specs.Option.{option_or, option_map}
use Rattle.std.specs.Ordering.{int_eq}
use Rattle.std.specs.Str.{chars}
use Rattle.schema_model.specs.declared.table.Schema.{Schema}
use Rattle.schema_model.specs.declared.table.Table.{Table}
use Rattle.schema_model.specs.declared.table.Life.{Life}
use Rattle.schema_model.specs.declared.table.Phase.{Phase}
use Rattle.schema_model.specs.declared.column.Column.{Column}
use Rattle.schema_model.specs.declared.column.Kind.{Kind}
use Rattle.schema_model.specs.declared.column.Kind.TheVariants as kind
use Rattle.schema_model.specs.declared.column.Leaf.{Leaf}
use Rattle.schema_model.specs.declared.column.Leaf.TheVariants as drawn
use Rattle.schema_model.specs.declared.column.OnDelete.TheVariants.{Cascade}
use Rattle.schema_model.specs.declared.column.Part.{Part}
use Rattle.schema_model.specs.declared.column.Part.TheVariants as part
use Rattle.schema_model.specs.declared.column.Window.{Window}
use Rattle.schema_model.specs.declared.column.Window.TheVariants as window
use Rattle.schema_plan.specs.declared.broken.Broken.{Broken}
use Rattle.schema_facts.specs.declared.column_facts.ColumnFacts.{ColumnFacts}
use Rattle.schema_facts.specs.declared.days.Days.{Days}
use Rattle.schema_facts.specs.declared.numbers.Numbers.{Numbers}
use Rattle.cohort_sizes.specs.Births.{Births, born_count, cohort_size}
use Rattle.schema_plan.specs.declared.rules.Rule.{Rule}
use Rattle.schema_plan.specs.declared.rules.Rule.TheVariants.{Dictionaries, CitedNames, SeedAndUnits, TableCount, TableNames, Columns, KeyColumn, RowCount, LifeRange, UpdatePeriod, NumberRange, DateRange, PickEntries, SkewRange, LengthRange, TemplateParts, CaseBranches, StillCitations, ReferenceTargets, ReferenceWindows, ParentRows, SpreadWeights, LookupColumns, RowCost, LineSize, ChangesAndNulls, UnitDates, LaterDates, Totals, PaddedParts}
use Rattle.schema_plan.specs.declared.site.Site.{Site}
use Rattle.schema_plan.specs.declared.site.Site.TheVariants.{Whole, OfTable, OfColumn}
use Rattle.schema_plan.specs.Citations.{cited_in, cited_names, leaves_of, may_cite, may_cite_of_kind, names_in_leaf}
use Rattle.schema_facts.specs.ColumnFacts.{field_facts}
use Rattle.schema_facts.specs.Counts.{count}
use Rattle.schema_facts.specs.Dictionaries.{Dictionary, Project, dictionary_named}
use Rattle.schema_facts.specs.Layout.{becomes_null, births_of, columns_of, layout_of, place_of_column, place_of_table, window_layout}
use Rattle.schema_facts.specs.Lineage.{sure_life}
use Rattle.schema_facts.specs.Names.{same_text, is_name}
use Rattle.schema_facts.specs.References.{first_in_window}
use Rattle.schema_plan.specs.Sites.{columns_at, IsSiteOf, IsBefore}
use Rattle.schema_facts.specs.TableFacts.{cost, max_line}

-- ---- what rules ask

-- from lo to hi
abbrev pub is_between : ℕ → ℕ → ℤ → Bool
is_between lo hi n = int_le (pos lo) n && int_le n (pos hi)

-- at least 1 and at most 64
abbrev pub is_one_to_64 : ℕ → Bool
is_one_to_64 n = nat_le 1 n && nat_le n 64

-- a name that none of the earlier ones is
abbrev pub is_new_name : List (List ℕ) → List ℕ → Bool
is_new_name earlier name = is_name name && not (list_any (λ other. same_text other name) earlier)

-- of some names, the one at a place is a name that none before it is
abbrev pub is_new_at : List (List ℕ) → ℕ → Bool
is_new_at names place = is_new_name (take place names) (slice_index_or names place [])

abbrev pub table_names : Schema → List (List ℕ)
table_names schema = map (λ (table : Table). table.name) schema.tables

abbrev pub column_names : Schema → ℕ → List (List ℕ)
column_names schema table = map (λ (column : Column). column.name) (columns_at schema table)

-- the kind of the column at a place of some columns, counted from 0
abbrev pub kind_at : List Column → ℕ → Kind
kind_at columns place = slice_index_or (map (λ (column : Column). column.kind) columns) place kind.Born

-- how many of a thousand fields of the column at a place are null
abbrev pub null_at : List Column → ℕ → ℤ
null_at columns place = slice_index_or (map (λ (column : Column). column.null) columns) place (pos 0)

abbrev pub is_key : Kind → Bool
is_key (kind.Key base scramble) = true
is_key _ = false

-- a key whose numbers begin from 0 to 2^62
abbrev pub is_key_in_range : Kind → Bool
is_key_in_range (kind.Key base scramble) = is_between 0 (2 ^ 62) base
is_key_in_range _ = false

-- the first column is the key, in range, and no other is a key
abbrev pub is_key_first : ℕ → Kind → Bool
is_key_first zero kind = is_key_in_range kind
is_key_first (suc place) kind = not (is_key kind)

-- the one at a place of some tables; past the last one, the table without rows and columns
abbrev pub table_in : List Table → ℕ → Table
table_in tables place =
    slice_index_or tables place (record { name = []; rows = pos 0; insert = []; life = None; update = None; columns = [] })

-- the table at a place of a schema
abbrev pub schema_table : Schema → ℕ → Table
schema_table schema place = table_in schema.tables place

-- each phase begins after the one before it, the first of them after a unit, and none after unit 10,000; and by none is a negative
-- number of rows born
abbrev pub do_phases_rise : ℤ → List Phase → Bool
do_phases_rise unit [] = true
do_phases_rise unit (phase ∷ phases) =
    int_lt unit phase.from && int_le phase.from (pos 10000) && int_le (pos 0) phase.rate && do_phases_rise phase.from phases

-- there are 1 to 64 such phases, and the first begins at unit 1
abbrev pub are_phases : List Phase → Bool
are_phases [] = false
are_phases (phase ∷ phases) = int_eq phase.from (pos 1) && nat_le (length phases) 63 && do_phases_rise (pos 0) (phase ∷ phases)

-- no negative number of rows, and at most 2^40 by the last unit. Past 10,000 units, where an earlier rule is broken, nothing is asked of
-- the sum
abbrev pub is_row_count : ℤ → Table → Bool
is_row_count units table =
    int_le (pos 0) table.rows && are_phases table.insert
    && (nat_lt 10000 (count units) || nat_le (born_count (births_of table) (count units)) (2 ^ 40))

-- a life of at least 1 unit, from lo to hi, which is at most 20,000
abbrev pub is_life : Option Life → Bool
is_life None = true
is_life (Some life) = int_le (pos 1) life.lo && int_le life.lo life.hi && int_le life.hi (pos 20000)

-- from one change of a row to its next 1 to 10,000 units
abbrev pub is_update_period : Option ℤ → Bool
is_update_period None = true
is_update_period (Some units) = is_between 1 10000 units

-- ---- what rules ask of drawn values

-- numbers from lo to hi, which is at most 2^63 - 1 past lo
abbrev pub is_range : ℤ → ℤ → Bool
is_range lo hi = int_le lo hi && int_le (hi -ℤ lo) (pos (2 ^ 63 - 1))

-- a number is of such a range, in steps of at least 1, or with at most 9 digits after the point
abbrev pub is_number_range : Leaf → Bool
is_number_range (drawn.Int lo hi step) = is_range lo hi && int_le (pos 1) step
is_number_range (drawn.Fixed lo hi decimals) = is_range lo hi && is_between 0 9 decimals
is_number_range _ = true

-- a date is from 0001-01-01 to 9999-12-31
abbrev pub is_date_range : Leaf → Bool
is_date_range (drawn.Date lo hi) = int_le (neg_ℤ (pos 719162)) lo && int_le lo hi && int_le hi (pos 2932896)
is_date_range _ = true

-- a pick has 1 to 256 entries and as many weights, each at least 1 and together at most 2^32
abbrev pub is_weighted : Leaf → Bool
is_weighted (drawn.Pick entries weights) =
    nat_le 1 (length entries) && nat_le (length entries) 256 && length weights == length entries
    && list_all (int_le (pos 1)) weights && nat_le (sum (map count weights)) (2 ^ 32)
is_weighted _ = true

-- a skew has 1 to 4,096 numbers, the last at most 2^63 - 1, and a power from 1 to 3
abbrev pub is_skew_range : Leaf → Bool
is_skew_range (drawn.Skew lo size power) =
    is_between 1 4096 size && is_between 1 3 power && int_le (lo +ℤ (size -ℤ pos 1)) (pos (2 ^ 63 - 1))
is_skew_range _ = true

-- from lo to hi, which is at most 1,000
abbrev pub is_length_between : ℤ → ℤ → Bool
is_length_between lo hi = int_le (pos 0) lo && int_le lo hi && int_le hi (pos 1000)

-- words and characters are at most 1,000, of an alphabet of 1 to 256 characters
abbrev pub is_length_range : Leaf → Bool
is_length_range (drawn.Words file lo hi) = is_length_between lo hi
is_length_range (drawn.Chars alphabet lo hi) =
    is_length_between lo hi && nat_le 1 (length (chars alphabet)) && nat_le (length (chars alphabet)) 256
is_length_range _ = true

-- whether each value that is drawn for the column at a place passes a test
abbrev pub is_each_leaf : (Leaf → Bool) → Schema → ℕ → ℕ → Bool
is_each_leaf test schema table column = list_all test (leaves_of (kind_at (columns_at schema table) column))

-- ---- what rules ask of dictionaries

-- a dictionary that may be cited, and is one of some
abbrev pub is_supplied_by : List (List ℕ) → List Dictionary → List ℕ → Bool
is_supplied_by names dictionaries name = may_cite names name && is_some (dictionary_named dictionaries name)

-- whether all dictionaries that a drawn value cites are so
abbrev pub are_supplied_by : List (List ℕ) → List Dictionary → Leaf → Bool
are_supplied_by names dictionaries leaf = list_all (is_supplied_by names dictionaries) (names_in_leaf leaf)

-- whether all dictionaries that a column cites are so
abbrev pub is_supplied_kind_by : List (List ℕ) → List Dictionary → Kind → Bool
is_supplied_kind_by names dictionaries (kind.List file) = is_supplied_by names dictionaries file
is_supplied_kind_by names dictionaries held = list_all (are_supplied_by names dictionaries) (leaves_of held)

-- the same by what a schema may cite, and its dictionaries
abbrev pub is_supplied : Project → List ℕ → Bool
is_supplied project name = is_supplied_by (cited_names project.schema.tables) project.dictionaries name

abbrev pub are_supplied : Project → Leaf → Bool
are_supplied project leaf = are_supplied_by (cited_names project.schema.tables) project.dictionaries leaf

abbrev pub is_supplied_kind : Project → Kind → Bool
is_supplied_kind project held = is_supplied_kind_by (cited_names project.schema.tables) project.dictionaries held

-- the same by what some columns may cite alone, of each of them
abbrev pub are_columns_supplied : List Dictionary → List Column → Bool
are_columns_supplied dictionaries columns = list_all (λ (column : Column). is_supplied_kind_by (cited_in columns) dictionaries column.kind) columns

-- whether a schema may cite all that is cited at a site
abbrev pub cites_well : Schema → Site → Bool
cites_well schema (OfColumn table column) = may_cite_of_kind (cited_names schema.tables) (kind_at (columns_at schema table) column)
cites_well schema site = true

-- ---- what rules ask of columns that speak of others

-- a kind that a template may cite
abbrev pub is_citable : Kind → Bool
is_citable (kind.Template parts) = false
is_citable (kind.Case on branches) = false
is_citable (kind.Lookup via column) = false
is_citable _ = true

-- a part of the template at a place of some columns is a text, or an earlier column that may be cited
abbrev pub is_part : List Column → ℕ → Part → Bool
is_part columns place (part.Literal text) = true
is_part columns place (part.Cited name) =
    nat_lt (place_of_column columns name) place && is_citable (kind_at columns (place_of_column columns name))
is_part columns place (part.Padded name width) =
    nat_lt (place_of_column columns name) place && is_citable (kind_at columns (place_of_column columns name))

-- a template has 1 to 32 parts
abbrev pub is_template : List Column → ℕ → Kind → Bool
is_template columns place (kind.Template parts) =
    nat_le 1 (length parts) && nat_le (length parts) 32 && list_all (is_part columns place) parts
is_template columns place _ = true

-- a pick of so many entries
abbrev pub is_pick_of : ℕ → Kind → Bool
is_pick_of count (kind.Leaf (drawn.Pick entries weights)) = length entries == count
is_pick_of count _ = false

-- a case names an earlier pick column, with as many entries as it has branches
abbrev pub is_case : List Column → ℕ → Kind → Bool
is_case columns place (kind.Case on branches) =
    nat_lt (place_of_column columns on) place && is_pick_of (length branches) (kind_at columns (place_of_column columns on))
is_case columns place _ = true

-- whether the column at a place is drawn anew where a row changes
abbrev pub is_redrawn_at : List Column → ℕ → Bool
is_redrawn_at columns place = slice_index_or (map (λ (column : Column). column.changes) columns) place false

-- a kind whose fields move though nothing is drawn anew: the unit of a row's last change, the date of that unit, and a reference that
-- becomes null
abbrev pub is_moving_kind : Kind → Bool
is_moving_kind kind.Changed = true
is_moving_kind (kind.ChangedDate start step) = true
is_moving_kind (kind.Ref table window spread on_delete deal) = becomes_null on_delete
is_moving_kind _ = false

-- whether the column at a place moves: it is drawn anew where a row changes, or is of such a kind
abbrev pub moves_at : List Column → ℕ → Bool
moves_at columns place = is_redrawn_at columns place || is_moving_kind (kind_at columns place)

-- a part of a template that cites no column that moves
abbrev pub is_still_part : List Column → Part → Bool
is_still_part columns (part.Literal text) = true
is_still_part columns (part.Cited name) = not (moves_at columns (place_of_column columns name))
is_still_part columns (part.Padded name width) = not (moves_at columns (place_of_column columns name))

-- a kind that cites no column that moves
abbrev pub is_still_kind : List Column → Kind → Bool
is_still_kind columns (kind.Template parts) = list_all (is_still_part columns) parts
is_still_kind columns (kind.Case on branches) = not (moves_at columns (place_of_column columns on))
is_still_kind columns _ = true

-- the column at a place cites no column that moves, or changes itself
abbrev pub cites_still : List Column → ℕ → Bool
cites_still columns place = is_redrawn_at columns place || is_still_kind columns (kind_at columns place)

-- a kind whose fields may be drawn anew: no key, no unit, no list, and none that other rows tell
abbrev pub may_be_redrawn : Kind → Bool
may_be_redrawn (kind.Leaf leaf) = true
may_be_redrawn (kind.Template parts) = true
may_be_redrawn (kind.Case on branches) = true
may_be_redrawn (kind.After of lo hi) = true
may_be_redrawn (kind.Sum of) = true
may_be_redrawn (kind.Product of) = true
may_be_redrawn _ = false

-- a column that changes is of such a kind
abbrev pub is_change : Kind → Bool → Bool
is_change kind changes = not changes || may_be_redrawn kind

-- how many of a thousand fields of a kind are null: at most 999, and of keys and references none
abbrev pub is_null_share : Kind → ℤ → Bool
is_null_share (kind.Key base scramble) null = int_eq null (pos 0)
is_null_share (kind.Ref table window spread on_delete deal) null = int_eq null (pos 0)
is_null_share _ null = is_between 0 999 null

-- ---- what rules ask of dates of units

-- from 0001-01-01 on, in steps of 0 to 3,660 days a unit, and at most 9999-12-31 at the last unit. Past 10,000 units, where an earlier
-- rule is broken, nothing is asked of the last day
abbrev pub are_unit_days : ℤ → ℤ → ℤ → Bool
are_unit_days units start step =
    int_le (neg_ℤ (pos 719162)) start && is_between 0 3660 step
    && (nat_lt 10000 (count units) || int_le (start +ℤ pos (count step * count units)) (pos 2932896))

-- a date of units has such days
abbrev pub is_unit_date : ℤ → Kind → Bool
is_unit_date units (kind.BornDate start step) = are_unit_days units start step
is_unit_date units (kind.ChangedDate start step) = are_unit_days units start step
is_unit_date units _ = true

-- ---- what rules ask of dates after dates, and of sums and products

-- a date follows another by days from lo to hi, at most 36,525, before or after
abbrev pub is_after_range : ℤ → ℤ → Bool
is_after_range lo hi = int_le (neg_ℤ (pos 36525)) lo && int_le lo hi && int_le hi (pos 36525)

-- the column at a place, where it is a date after a date: it has days, so the one that it follows stands before it and has some too; and
-- that one doesn't move, unless the column changes itself
abbrev pub is_later_date : Option Days → List Column → ℕ → Kind → Bool
is_later_date days columns place (kind.After of lo hi) =
    is_after_range lo hi && is_some days && (is_redrawn_at columns place || not (moves_at columns (place_of_column columns of)))
is_later_date days columns place _ = true

-- of some names none is that of a column that moves
abbrev pub are_still_names : List Column → List (List ℕ) → Bool
are_still_names columns names = list_all (λ name. not (moves_at columns (place_of_column columns name))) names

-- the column at a place joins others: it has numbers, so these stand before it and have some too; and none of them moves, unless the column
-- changes itself
abbrev pub joins : Option Numbers → List Column → ℕ → List (List ℕ) → Bool
joins numbers columns place of = is_some numbers && (is_redrawn_at columns place || are_still_names columns of)

-- a sum joins 1 to 8 operands, a product 2 to 4
abbrev pub is_total : Option Numbers → List Column → ℕ → Kind → Bool
is_total numbers columns place (kind.Sum of) = nat_le 1 (length of) && nat_le (length of) 8 && joins numbers columns place of
is_total numbers columns place (kind.Product of) = nat_le 2 (length of) && nat_le (length of) 4 && joins numbers columns place of
is_total numbers columns place _ = true

-- ---- what rules ask of padded parts

-- a kind whose fields are whole numbers
abbrev pub is_whole_leaf : Leaf → Bool
is_whole_leaf (drawn.Int lo hi step) = true
is_whole_leaf (drawn.Skew lo size power) = true
is_whole_leaf _ = false

abbrev pub is_whole_kind : Kind → Bool
is_whole_kind (kind.Key base scramble) = true
is_whole_kind kind.Born = true
is_whole_kind kind.Changed = true
is_whole_kind (kind.Leaf leaf) = is_whole_leaf leaf
is_whole_kind (kind.Ref table window spread on_delete deal) = true
is_whole_kind _ = false

-- a part pads a whole number to 1 to 64 bytes, or nothing
abbrev pub is_padding : List Column → Part → Bool
is_padding columns (part.Padded name width) =
    is_between 1 64 width && is_whole_kind (kind_at columns (place_of_column columns name))
is_padding columns _ = true

-- the parts of a template do
abbrev pub are_paddings : List Column → Kind → Bool
are_paddings columns (kind.Template parts) = list_all (is_padding columns) parts
are_paddings columns _ = true

-- ---- what rules ask of references

abbrev pub is_reference : Kind → Bool
is_reference (kind.Ref table window spread on_delete deal) = true
is_reference _ = false

-- how many of the columns before a place are references
abbrev pub references_before : List Column → ℕ → ℕ
references_before columns place = count_by (λ (column : Column). is_reference column.kind) (take place columns)

-- a reference of the table at a place names an earlier table, and is one of at most 8
abbrev pub is_target : List Table → ℕ → ℕ → Kind → Bool
is_target tables place earlier (kind.Ref table window spread on_delete deal) = nat_lt (place_of_table tables table) place && nat_lt earlier 8
is_target tables place earlier _ = true

-- a window in which each row is alive at its end, by how long rows live for sure
abbrev pub is_within_life : Option ℕ → Window → Bool
is_within_life sure window.All = is_none sure
is_within_life None (window.Units units) = int_le (pos 0) units
is_within_life (Some life) (window.Units units) = int_le (pos 0) units && nat_lt (count units) life

-- a reference has such a window. Of a table past the first 64, where an earlier rule is broken, nothing is asked
abbrev pub is_window : Project → Kind → Bool
is_window project (kind.Ref table window spread on_delete deal) =
    nat_le 64 (place_of_table project.schema.tables table)
    || is_within_life (sure_life (layout_of project).tables (place_of_table project.schema.tables table)) window
is_window project _ = true

-- whether there is a row to refer to in a window that ends at a unit, where rows are born at it
abbrev pub has_parent_row : Births → Births → Option ℕ → ℕ → Bool
has_parent_row child parent window unit =
    cohort_size child unit == 0 || nat_lt (first_in_window parent window unit) (born_count parent unit)

-- whether there is one at each unit up to a last one
abbrev pub has_parent_rows : ℕ → Births → Births → Option ℕ → Bool
has_parent_rows units child parent window = list_all (has_parent_row child parent window) (range_with_len 0 (units + 1))

-- a reference of the table at a place has parents at each unit. Past 10,000 units, where an earlier rule is broken, nothing is asked
abbrev pub has_parents : Schema → ℕ → Kind → Bool
has_parents schema place (kind.Ref table window spread on_delete deal) =
    nat_lt 10000 (count schema.units)
    || has_parent_rows (count schema.units) (births_of (schema_table schema place))
    (births_of (schema_table schema (place_of_table schema.tables table))) (window_layout window)
has_parents schema place _ = true

-- a spread has 1 to 64 weights, each from 1 to 1,000
abbrev pub is_spread : Kind → Bool
is_spread (kind.Ref table window spread on_delete deal) =
    nat_le 1 (length spread) && nat_le (length spread) 64 && list_all (is_between 1 1000) spread
is_spread _ = true

-- ---- what rules ask of lookups

abbrev pub is_lookup_kind : Kind → Bool
is_lookup_kind (kind.Lookup via column) = true
is_lookup_kind _ = false

-- some columns have one of a name that doesn't move and is no lookup
abbrev pub has_still_column : List Column → List ℕ → Bool
has_still_column columns name =
    nat_lt (place_of_column columns name) (length columns) && not (moves_at columns (place_of_column columns name))
    && not (is_lookup_kind (kind_at columns (place_of_column columns name)))

-- a kind is a reference, with whose parent the row is deleted, to a table with such a column
abbrev pub is_looked_up : List Table → Kind → List ℕ → Bool
is_looked_up tables (kind.Ref table window spread Cascade deal) name = has_still_column (columns_of tables (place_of_table tables table)) name
is_looked_up tables _ name = false

-- a lookup names an earlier column that is so
abbrev pub is_lookup : List Table → List Column → ℕ → Kind → Bool
is_lookup tables columns place (kind.Lookup via column) =
    nat_lt (place_of_column columns via) place && is_looked_up tables (kind_at columns (place_of_column columns via)) column
is_lookup tables columns place _ = true

-- ---- what rules ask of a column of a table that stands beside a schema

-- what is drawn for a kind is in its range
abbrev pub are_in_range : Kind → Bool
are_in_range kind =
    list_all is_number_range (leaves_of kind) && list_all is_date_range (leaves_of kind) && list_all is_weighted (leaves_of kind)
    && list_all is_skew_range (leaves_of kind) && list_all is_length_range (leaves_of kind)

-- the column at a place, by its facts, keeps the rules on the names of columns, on drawn values, on changes and nulls, on dates after dates,
-- and on sums and products
abbrev pub keeps_column_rules : ColumnFacts → List Column → ℕ → Bool
keeps_column_rules facts columns place =
    is_new_at (map (λ (column : Column). column.name) columns) place
    && are_in_range (kind_at columns place)
    && is_null_share (kind_at columns place) (null_at columns place)
    && is_change (kind_at columns place) (is_redrawn_at columns place)
    && is_later_date facts.days columns place (kind_at columns place)
    && is_total facts.numbers columns place (kind_at columns place)

-- ---- the rules

-- whether a rule holds at a site; where a rule asks nothing, it holds
abbrev pub holds : Rule → Project → Site → Bool
-- V13: a dictionary that is cited has a name of 1 to 255 bytes, at most 64 different ones are cited, and each is there. Tried at
-- a case for its branches
holds Dictionaries project (OfColumn table column) = is_supplied_kind project (kind_at (columns_at project.schema table) column)
-- the same as far as a schema alone tells it
holds CitedNames project site = cites_well project.schema site
-- V1: the seed is at least 0, and the last unit is from 0 to 10,000
holds SeedAndUnits project Whole = int_le (pos 0) project.schema.seed && is_between 0 10000 project.schema.units
-- V2: there are 1 to 64 tables
holds TableCount project Whole = is_one_to_64 (length project.schema.tables)
-- V3: a table has a name that no table before it has
holds TableNames project (OfTable table) = is_new_at (table_names project.schema) table
-- V4: a table has 1 to 64 columns, and a column has a name that no column of its table before it has
holds Columns project (OfTable table) = is_one_to_64 (length (columns_at project.schema table))
holds Columns project (OfColumn table column) = is_new_at (column_names project.schema table) column
-- V5: the first column is the key, its base is from 0 to 2^62, and no other column is a key
holds KeyColumn project (OfColumn table column) = is_key_first column (kind_at (columns_at project.schema table) column)
-- V6: a table has 1 to 64 phases of births, the first from unit 1 on and each after the one before, up to unit 10,000; it gains no
-- negative number of rows, and at most 2^40 by the last unit
holds RowCount project (OfTable table) = is_row_count project.schema.units (schema_table project.schema table)
-- V7: a life is from 1 unit on, from lo to hi, which is at most 20,000
holds LifeRange project (OfTable table) = is_life (schema_table project.schema table).life
-- V8: from one change of a row to its next there are 1 to 10,000 units
holds UpdatePeriod project (OfTable table) = is_update_period (schema_table project.schema table).update
-- V9: a number is from lo to hi, which is at most 2^63 - 1 past lo; its step is at least 1, its decimals are 0 to 9. This rule and
-- the next three are tried on the branches of a case too
holds NumberRange project (OfColumn table column) = is_each_leaf is_number_range project.schema table column
-- V10: a date is from 0001-01-01 to 9999-12-31
holds DateRange project (OfColumn table column) = is_each_leaf is_date_range project.schema table column
-- V11: a pick has 1 to 256 entries and as many weights, each at least 1 and together at most 2^32
holds PickEntries project (OfColumn table column) = is_each_leaf is_weighted project.schema table column
-- V12: a skew has 1 to 4,096 numbers up to 2^63 - 1, and a power from 1 to 3
holds SkewRange project (OfColumn table column) = is_each_leaf is_skew_range project.schema table column
-- V14: words and characters are 0 to 1,000, of an alphabet of 1 to 256 characters. Tried on the branches of a case too
holds LengthRange project (OfColumn table column) = is_each_leaf is_length_range project.schema table column
-- V15: a template has 1 to 32 parts, and cites earlier columns that are no template, case or lookup
holds TemplateParts project (OfColumn table column) =
    is_template (columns_at project.schema table) column (kind_at (columns_at project.schema table) column)
-- V16: a case names an earlier pick column of its table, with as many entries as the case has branches
holds CaseBranches project (OfColumn table column) =
    is_case (columns_at project.schema table) column (kind_at (columns_at project.schema table) column)
-- V17: a template or a case cites no column that moves, unless it changes itself
holds StillCitations project (OfColumn table column) = cites_still (columns_at project.schema table) column
-- V18: a reference names a table before its own, and a table has at most 8 references
holds ReferenceTargets project (OfColumn table column) =
    is_target project.schema.tables table (references_before (columns_at project.schema table) column)
    (kind_at (columns_at project.schema table) column)
-- V19: a window of units is from 0 on and ends before the sure life of the parent's rows does, and one of all units is of parents
-- that nothing ends
holds ReferenceWindows project (OfColumn table column) = is_window project (kind_at (columns_at project.schema table) column)
-- V20: at each unit at which rows are born, a row of the parent's table is born in the window
holds ParentRows project (OfColumn table column) = has_parents project.schema table (kind_at (columns_at project.schema table) column)
-- V21: a spread has 1 to 64 weights, each from 1 to 1,000
holds SpreadWeights project (OfColumn table column) = is_spread (kind_at (columns_at project.schema table) column)
-- V22: a lookup names an earlier reference of its table, with whose parent the row is deleted, and a column of the parent's table that
-- doesn't move and is no lookup
holds LookupColumns project (OfColumn table column) =
    is_lookup project.schema.tables (columns_at project.schema table) column (kind_at (columns_at project.schema table) column)
-- V23: the cost of a row is at most 4,096. Past 64 tables, where an earlier rule is broken, nothing is asked
holds RowCost project (OfTable table) = nat_le 64 table || nat_le (cost (layout_of project) table) 4096
-- V24: a line has at most 65,536 bytes. The same
holds LineSize project (OfTable table) = nat_le 64 table || nat_le (max_line (layout_of project) table) 65536
-- V25: at most 999 of a thousand fields are null, and none of a key or a reference; keys, units and their dates, references, lookups and lists don't change
holds ChangesAndNulls project (OfColumn table column) =
    is_null_share (kind_at (columns_at project.schema table) column) (null_at (columns_at project.schema table) column)
    && is_change (kind_at (columns_at project.schema table) column) (is_redrawn_at (columns_at project.schema table) column)
-- V26: a date of units is from 0001-01-01 to 9999-12-31 at each unit, and its step is 0 to 3,660 days
holds UnitDates project (OfColumn table column) = is_unit_date project.schema.units (kind_at (columns_at project.schema table) column)
-- V27: a date after a date names an earlier dated column, follows it by at most 36,525 days, before or after, and is from 0001-01-01 to
-- 9999-12-31; it follows none that moves, unless it changes itself. Past 64 tables, where an earlier rule is broken, nothing is asked
holds LaterDates project (OfColumn table column) =
    nat_le 64 table
    || is_later_date (field_facts (layout_of project) table column).days (columns_at project.schema table) column
    (kind_at (columns_at project.schema table) column)
-- V28: a sum has 1 to 8 operands and a product 2 to 4, each an earlier numeric column; it has at most 9 digits after the point, and at most
-- 64 drawn values are read for it; each operand, in a sum with the digits of the sum, and what is joined so far after each operand is from
-- -(2^63 - 1) to 2^63 - 1; no operand moves, unless the column changes itself. The same of tables past 64
holds Totals project (OfColumn table column) =
    nat_le 64 table
    || is_total (field_facts (layout_of project) table column).numbers (columns_at project.schema table) column
    (kind_at (columns_at project.schema table) column)
-- V29: a padded part of a template has a width of 1 to 64, and cites a column of whole numbers
holds PaddedParts project (OfColumn table column) =
    are_paddings (columns_at project.schema table) (kind_at (columns_at project.schema table) column)
holds _ project site = true

-- the number of a rule in messages, as 1 for V1
abbrev pub rule_number : Rule → ℕ
rule_number Dictionaries = 13
rule_number CitedNames = 13
rule_number SeedAndUnits = 1
rule_number TableCount = 2
rule_number TableNames = 3
rule_number Columns = 4
rule_number KeyColumn = 5
rule_number RowCount = 6
rule_number LifeRange = 7
rule_number UpdatePeriod = 8
rule_number NumberRange = 9
rule_number DateRange = 10
rule_number PickEntries = 11
rule_number SkewRange = 12
rule_number LengthRange = 14
rule_number TemplateParts = 15
rule_number CaseBranches = 16
rule_number StillCitations = 17
rule_number ReferenceTargets = 18
rule_number ReferenceWindows = 19
rule_number ParentRows = 20
rule_number SpreadWeights = 21
rule_number LookupColumns = 22
rule_number RowCost = 23
rule_number LineSize = 24
rule_number ChangesAndNulls = 25
rule_number UnitDates = 26
rule_number LaterDates = 27
rule_number Totals = 28
rule_number PaddedParts = 29

-- the rules in the order in which they are tried: V13, V1 to V12, V14 to V29. Of V13 the part that a schema alone tells is no rule beside
-- the whole
abbrev pub rules : List Rule
rules = Dictionaries ∷ SeedAndUnits ∷ TableCount ∷ TableNames ∷ Columns ∷ KeyColumn ∷ RowCount
    ∷ LifeRange ∷ UpdatePeriod ∷ NumberRange ∷ DateRange ∷ PickEntries ∷ SkewRange ∷ LengthRange ∷ TemplateParts ∷ CaseBranches
    ∷ StillCitations ∷ ReferenceTargets ∷ ReferenceWindows ∷ ParentRows ∷ SpreadWeights ∷ LookupColumns ∷ RowCost ∷ LineSize ∷ ChangesAndNulls ∷ UnitDates
    ∷ LaterDates ∷ Totals ∷ PaddedParts ∷ []

-- ---- the first broken rule

-- what is found first at some items, in order
abbrev pub first_found : {A B : Type 0} → (A → Option B) → List A → Option B
first_found look [] = None
first_found look (x ∷ xs) = option_or (look x) (first_found look xs)

-- the site, where the rule is broken there
abbrev pub break_at : Rule → Project → Site → Option Site
break_at rule project site = if holds rule project site then None else Some site

-- the first site of a table at which a rule is broken: the table itself, then its columns
abbrev pub break_in_table : Rule → Project → ℕ → Option Site
break_in_table rule project table =
    option_or (break_at rule project (OfTable table))
    (first_found (λ column. break_at rule project (OfColumn table column))
    (range_with_len 0 (length (columns_at project.schema table))))

-- the first site at which a rule is broken: the whole, then the tables
abbrev pub first_break : Rule → Project → Option Site
first_break rule project =
    option_or (break_at rule project Whole)
    (first_found (break_in_table rule project) (range_with_len 0 (length project.schema.tables)))

-- a rule with the first site at which it is broken
abbrev pub broken_rule : Project → Rule → Option Broken
broken_rule project rule = option_map (λ site. record { rule = rule; site = site }) (first_break rule project)

-- the first rule that a schema breaks with its dictionaries, at its first site
unfoldable pub first_broken : Project → Option Broken
first_broken project = first_found (broken_rule project) rules

-- a schema that breaks no rule with its dictionaries
abbrev pub IsAccepted : Project → Type 0
IsAccepted project = first_broken project ≡ None

-- a rule holds at each site of a schema
abbrev pub Keeps : Rule → Project → Type 0
Keeps rule project = (site : Site) → IsSiteOf project.schema site → holds rule project site ≡ true

-- a rule is broken at a site, and holds at each site before it
pub record IsFirstBreak (rule : Rule) (project : Project) (site : Site) : Type 0 where
  pub is_site : IsSiteOf project.schema site
  pub breaks : holds rule project site ≡ false
  pub before : (other : Site) → IsSiteOf project.schema other → IsBefore other site → holds rule project other ≡ true
