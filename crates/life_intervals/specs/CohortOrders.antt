-- The orders of cohorts, of their keys, lives, updates and parents.
use Rattle.std.specs.Prelude.{ℕ, ◌-◌, Bool, ◌&&◌, nat_lt, true, false, if◌then◌else◌, Option, Some, None}
use Rattle.std.specs.Option.{option_map_or}
use Rattle.philox_seeds.specs.SeedTree.{key_order_seed, life_order_seed, reference_order_seed, update_order_seed}
use Rattle.id_permutation.specs.Order.{Arrangement, place_in}
use Rattle.schema_facts.specs.declared.layout.Span.{Span}
use Rattle.cohort_sizes.specs.Births.{cohort_size, first_ordinal}
use Rattle.schema_facts.specs.Dictionaries.{Project}
use Rattle.schema_facts.specs.Layout.{TableLayout, layout_of}
use Rattle.life_intervals.specs.declared.orders.Purpose.{Purpose}
use Rattle.life_intervals.specs.declared.orders.Purpose.TheVariants.{Keys, Lives, Updates, Parents}
use Rattle.life_intervals.specs.Changes.{due_by}
use Rattle.life_intervals.specs.Generator.{generator_of, table_of}

-- whether the places of a unit's cohort matter: what they decide is drawn, and the cohort isn't empty
abbrev pub is_permuted : Project → ℕ → ℕ → Bool → Bool
is_permuted project table unit drawn = drawn && nat_lt 0 (cohort_size (table_of project table).births unit)

-- the order of a unit's cohort by a seed, where its places matter
abbrev pub order_by : Project → ℕ → ℕ → Bool → ℕ → Arrangement
order_by project table unit drawn seed = record {
  size = cohort_size (table_of project table).births unit;
  seed = if is_permuted project table unit drawn then Some seed else None;
}

-- whether rows of a table may live for different numbers of units
abbrev pub do_lives_differ : Option Span → Bool
do_lives_differ life = option_map_or (λ (span : Span). nat_lt span.least span.most) life false

-- whether rows of one cohort may change at different units
abbrev pub do_updates_differ : Option ℕ → Bool
do_updates_differ update = option_map_or (λ period. nat_lt 1 period) update false

-- the order of the keys of a unit's cohort
abbrev pub key_order : Project → ℕ → ℕ → Arrangement
key_order project table unit =
    order_by project table unit (table_of project table).key.scramble (key_order_seed (layout_of project).seed table unit)

-- that of its lives
abbrev pub life_order : Project → ℕ → ℕ → Arrangement
life_order project table unit =
    order_by project table unit (do_lives_differ (table_of project table).life) (life_order_seed (layout_of project).seed table unit)

-- that of its updates
abbrev pub update_order : Project → ℕ → ℕ → Arrangement
update_order project table unit =
    order_by project table unit (do_updates_differ (table_of project table).update) (update_order_seed (layout_of project).seed table unit)

-- that in which its rows choose their parents by the reference in the column at a place
abbrev pub parent_order : Project → ℕ → ℕ → ℕ → Arrangement
parent_order project table column unit =
    order_by project table unit true (reference_order_seed (layout_of project).seed table column unit)

-- whether places are drawn for a purpose
abbrev pub is_drawn : TableLayout → Purpose → Bool
is_drawn table Keys = table.key.scramble
is_drawn table Lives = do_lives_differ table.life
is_drawn table Updates = do_updates_differ table.update
is_drawn table (Parents column) = true

-- the seed of the order of a unit's cohort for a purpose
abbrev pub order_seed : Project → ℕ → Purpose → ℕ → ℕ
order_seed project table Keys unit = key_order_seed (layout_of project).seed table unit
order_seed project table Lives unit = life_order_seed (layout_of project).seed table unit
order_seed project table Updates unit = update_order_seed (layout_of project).seed table unit
order_seed project table (Parents column) unit = reference_order_seed (layout_of project).seed table column unit

-- the order
abbrev pub order_for : Project → ℕ → Purpose → ℕ → Arrangement
order_for project table purpose unit =
    order_by project table unit (is_drawn (table_of project table) purpose) (order_seed project table purpose unit)

-- the place in it of the row with an ordinal
abbrev pub place_for : Project → ℕ → Purpose → ℕ → ℕ → ℕ
place_for project table purpose unit ordinal =
    place_in (order_for project table purpose unit) (ordinal - first_ordinal (table_of project table).births unit)

-- the last unit up to another at which that row is due, or its birth
abbrev pub due_for : Project → ℕ → ℕ → ℕ → ℕ → ℕ
due_for project table unit born ordinal =
    due_by (generator_of project).order table (table_of project table) born (ordinal - first_ordinal (table_of project table).births born) unit
