-- The tree of seeds: each seed keys the generator, and a counter names the child. Seeds are numbers below 2 ^ 64.
use Rattle.std.specs.Prelude.{ℕ, ◌+◌, ◌*◌, ◌^◌}
use Rattle.philox_seeds.specs.Philox.{high_word, low_word, philox4x32_10}

-- the number of 64 bits with these two words
abbrev pub number_of_words : ℕ → ℕ → ℕ
number_of_words low high = low + 2 ^ 32 * high

-- the number that a seed, as the key, gives at a counter of four words: words 0 and 1 of the block, joined
unfoldable pub keyed_number : ℕ → ℕ → ℕ → ℕ → ℕ → ℕ
keyed_number seed c0 c1 c2 c3 =
    let block = philox4x32_10
    (record { c0 = c0; c1 = c1; c2 = c2; c3 = c3 })
    (record { k0 = low_word seed; k1 = high_word seed }) in
    number_of_words block.c0 block.c1

-- the levels of the tree, each a counter word 2
abbrev pub table_level : ℕ
table_level = 1

abbrev pub column_level : ℕ
column_level = 2

abbrev pub unit_level : ℕ
unit_level = 3

abbrev pub row_level : ℕ
row_level = 4

abbrev pub draw_level : ℕ
draw_level = 5

-- the seed below a seed: the one of this index at this level
unfoldable pub child : ℕ → ℕ → ℕ → ℕ
child seed level index = keyed_number seed (low_word index) (high_word index) level 0

-- the seed of a table, from the project's
abbrev pub table_seed : ℕ → ℕ → ℕ
table_seed project table = child project table_level table

-- the seed of a column, from its table's
abbrev pub column_seed : ℕ → ℕ → ℕ
column_seed table column = child table column_level column

-- the seed of a time unit, from its column's
abbrev pub unit_seed : ℕ → ℕ → ℕ
unit_seed column unit = child column unit_level unit

-- the seed of a row, from its unit's
abbrev pub row_seed : ℕ → ℕ → ℕ
row_seed unit ordinal = child unit row_level ordinal

-- draw number n of a seed
unfoldable pub draw : ℕ → ℕ → ℕ
draw seed n = keyed_number seed n 0 draw_level 0

-- a draw of a row's field, by its number: down the tree of seeds from the project's to the row's
abbrev pub field_draw : ℕ → ℕ → ℕ → ℕ → ℕ → ℕ → ℕ
field_draw project table column unit ordinal number =
    draw (row_seed (unit_seed (column_seed (table_seed project table) column) unit) ordinal) number

-- the column that stands for the permutation of a table's keys; a reference's permutation has the reference's own column
abbrev pub key_column : ℕ
key_column = 64

-- the column that stands for the permutation of a table's lives
abbrev pub life_column : ℕ
life_column = 65

-- the column that stands for the permutation of a table's updates
abbrev pub update_column : ℕ
update_column = 66

-- what a reference's column is moved on by, for the permutation of the candidates among which its rows find their parents
abbrev pub deal_columns : ℕ
deal_columns = 128

-- the seed of the permutation of (table, purpose column, time unit), from the project's seed
abbrev pub permutation_seed : ℕ → ℕ → ℕ → ℕ → ℕ
permutation_seed project table column unit =
    unit_seed (column_seed (table_seed project table) column) unit

-- the seed of the order of the keys of a cohort: of a table's rows that are born at a unit
abbrev pub key_order_seed : ℕ → ℕ → ℕ → ℕ
key_order_seed project table unit = permutation_seed project table key_column unit

-- the seed of the order of the lives of a cohort
abbrev pub life_order_seed : ℕ → ℕ → ℕ → ℕ
life_order_seed project table unit = permutation_seed project table life_column unit

-- the seed of the order of the updates of a cohort
abbrev pub update_order_seed : ℕ → ℕ → ℕ → ℕ
update_order_seed project table unit = permutation_seed project table update_column unit

-- the seed of the order in which the references of a cohort, in this column, find their rows
abbrev pub reference_order_seed : ℕ → ℕ → ℕ → ℕ → ℕ
reference_order_seed project table column unit = permutation_seed project table column unit

-- the seed of the order in which a drawn reference in this column deals its candidates to a cohort
abbrev pub deal_seed : ℕ → ℕ → ℕ → ℕ → ℕ
deal_seed project table column unit = permutation_seed project table (deal_columns + column) unit
