-- How many bytes a field takes at most, as it is written.
use Rattle.std.specs.Prelude.{ℕ, ◌+◌, ◌*◌, ◌-◌, max, min, List, sum_by, length, map, encode_utf8}
use Rattle.std.specs.List.{fold}
use Rattle.std.specs.Str.{chars}
use Rattle.dictionaries.specs.WordList.{WordList}
use Rattle.row_text.specs.Fields.{escaped_text}
use Rattle.schema_facts.specs.Layout.{LeafLayout, int_leaf, fixed_leaf, date_leaf, pick_leaf, skew_leaf, dict_leaf, words_leaf, chars_leaf, uuid_leaf, PartLayout, literal_part, cited_part, KindLayout, key_kind, born_kind, changed_kind, leaf_kind, template_kind, case_kind, reference_kind, lookup_kind, ColumnLayout, TableLayout, table_at, column_at, list_kind, unit_date_kind, after_kind, sum_kind, product_kind}

-- the greatest of a number for each item, 0 where there is no item
abbrev pub greatest_by : {A : Type 0} → (A → ℕ) → List A → ℕ
greatest_by number xs = fold (λ most x. max most (number x)) 0 xs

-- the size of a text as it is written
abbrev pub written_size : ℕ → List ℕ → ℕ
written_size delimiter bytes = length (escaped_text delimiter bytes)

-- the size of the greatest entry of a word list as it is written
abbrev pub entry_size : ℕ → WordList → ℕ
entry_size delimiter words = greatest_by (written_size delimiter) words.entries

-- some items of at most a size, and a byte between two
abbrev pub joined_size : ℕ → ℕ → ℕ
joined_size items size = items * size + (items - 1)

-- the greatest size of a drawn value
abbrev pub leaf_size : ℕ → LeafLayout → ℕ
leaf_size delimiter (int_leaf lo hi step) = 20
leaf_size delimiter (fixed_leaf lo hi decimals) = 21
leaf_size delimiter (date_leaf lo hi) = 10
leaf_size delimiter (pick_leaf entries weights) = greatest_by (written_size delimiter) entries
leaf_size delimiter (skew_leaf lo size power) = 20
leaf_size delimiter (dict_leaf words) = entry_size delimiter words
leaf_size delimiter (words_leaf words lo hi) = joined_size hi (entry_size delimiter words)
leaf_size delimiter (chars_leaf alphabet lo hi) =
    hi * greatest_by (λ c. written_size delimiter (encode_utf8 c)) (chars alphabet)
leaf_size delimiter uuid_leaf = 36

-- a field may be null: it takes never less than 2 bytes, the size of \N
abbrev pub or_null : ℕ → ℕ
or_null size = max 2 size

-- of a field that shows no other column; a template and a lookup take what they cite
abbrev pub size_alone : ℕ → KindLayout → ℕ
size_alone delimiter key_kind = 20
size_alone delimiter born_kind = 5
size_alone delimiter changed_kind = 5
size_alone delimiter (leaf_kind leaf) = or_null (leaf_size delimiter leaf)
size_alone delimiter (template_kind parts) = or_null 0
size_alone delimiter (case_kind on branches) = or_null (greatest_by (leaf_size delimiter) branches)
size_alone delimiter (reference_kind parent window spread nulls drawn) = 20
size_alone delimiter (lookup_kind via parent column) = or_null 0
size_alone delimiter (list_kind words) = or_null (entry_size delimiter words)
size_alone delimiter (unit_date_kind changed start step) = 10
size_alone delimiter (after_kind of lo hi) = 10
size_alone delimiter (sum_kind of) = 21
size_alone delimiter (product_kind of) = 21

-- of a part of a template: a cited column its own field, or the bytes to which that is filled. It counts once for each part that
-- cites it. Past 64 bytes, where a rule is broken, no more are counted
abbrev pub size_of_part : ℕ → List ColumnLayout → PartLayout → ℕ
size_of_part delimiter columns (literal_part bytes) = written_size delimiter bytes
size_of_part delimiter columns (cited_part column width) = max (size_alone delimiter (column_at columns column).kind) (min width 64)

-- of all parts of a template
abbrev pub size_of_parts : ℕ → List ColumnLayout → List PartLayout → ℕ
size_of_parts delimiter columns parts = or_null (sum_by (size_of_part delimiter columns) parts)

-- of a field of one of some columns that shows no other table
abbrev pub size_in_table : ℕ → List ColumnLayout → KindLayout → ℕ
size_in_table delimiter columns (template_kind parts) = size_of_parts delimiter columns parts
size_in_table delimiter columns kind = size_alone delimiter kind

-- of the field of the column at a place
abbrev pub size_at : ℕ → List ColumnLayout → ℕ → ℕ
size_at delimiter columns place = size_in_table delimiter columns (column_at columns place).kind

-- of a field: a lookup takes what the parent's field takes
abbrev pub size_of : ℕ → List TableLayout → List ColumnLayout → KindLayout → ℕ
size_of delimiter tables columns (lookup_kind via parent column) = size_at delimiter (table_at tables parent).columns column
size_of delimiter tables columns kind = size_in_table delimiter columns kind

-- of the fields of a table's rows, column by column
abbrev pub field_sizes : ℕ → List TableLayout → List ColumnLayout → List ℕ
field_sizes delimiter tables columns = map (λ (column : ColumnLayout). size_of delimiter tables columns column.kind) columns
