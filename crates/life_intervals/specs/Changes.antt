-- Changes: the units at which a row is updated.
use Rattle.std.specs.Prelude.{◌≡◌, ℕ, ◌+◌, ◌-◌, ◌*◌, ◌%◌, ◌<◌, ◌≤◌, ◌⊎◌, All, Bool, Contains, IfSome, ◌||◌, fold, if◌then◌else◌, is_some, List, max, min, nat_lt, Option, Some, None}
use Rattle.std.specs.List.{list_any}
use Rattle.std.specs.Option.{option_map, option_map_or}
use Rattle.philox_seeds.specs.SeedTree.{update_column}
use Rattle.schema_facts.specs.Layout.{TableLayout}
use Rattle.schema_facts.specs.References.{Reference, references_of}
use Rattle.life_intervals.specs.Generator.{Order}

-- the last up to a unit of the units `first`, `first` + `period`, and so on; `born` where the first of them is past it
abbrev pub last_due : ℕ → ℕ → ℕ → ℕ → ℕ
last_due born first period unit = if nat_lt unit first then born else unit - (unit - first) % period

-- how many units later the next of them comes
abbrev pub units_to_due : ℕ → ℕ → ℕ → ℕ
units_to_due first period unit = if nat_lt unit first then first - unit else period - (unit - first) % period

-- the first unit at which a row of the table at a place is due, by its birth unit, its index and how often rows change
abbrev pub first_due : Order → ℕ → ℕ → ℕ → ℕ → ℕ
first_due order place born index period = born + (1 + order.place place update_column born index % period)

-- the last unit up to another at which it is due, or its birth
abbrev pub due_by : Order → ℕ → TableLayout → ℕ → ℕ → ℕ → ℕ
due_by order place table born index unit =
    option_map_or (λ period. last_due born (first_due order place born index period) period unit) table.update born

-- the later of a change and a loss, where that has come by a unit; None never comes
abbrev pub later_change : ℕ → ℕ → Option ℕ → ℕ
later_change unit change None = change
later_change unit change (Some loss) = if nat_lt unit loss then change else max change loss

-- the last of a change and of all losses that have come by a unit
abbrev pub last_change : ℕ → ℕ → List (Option ℕ) → ℕ
last_change unit change losses = fold (later_change unit) change losses

-- the unit of a row's last change by a unit: it changes where it is due and where it loses a parent, at each of some losses
abbrev pub change_by : Order → ℕ → TableLayout → List (Option ℕ) → ℕ → ℕ → ℕ → ℕ
change_by order place table losses born index unit = last_change unit (due_by order place table born index unit) losses

-- how many units later it changes next
abbrev pub wait_by : Order → ℕ → TableLayout → ℕ → ℕ → ℕ → Option ℕ
wait_by order place table born index unit =
    option_map (λ period. units_to_due (first_due order place born index period) period unit) table.update

-- whether a table has references that become null
abbrev pub has_nullings : TableLayout → Bool
has_nullings table = list_any (λ (reference : Reference). reference.nulls) (references_of table)

-- of the units 1 to another, how many of the last ones each row of a table that has changed by it has its last change in
abbrev pub change_span : TableLayout → ℕ → ℕ
change_span table unit =
    option_map_or (λ period. min period unit) table.update (if has_nullings table then unit else 0)

-- whether rows of a table may change after their birth
abbrev pub may_change : TableLayout → Bool
may_change table = is_some table.update || has_nullings table

-- a unit is the last one up to another of the units `first`, `first` + `period`, and so on, or `born` where none of them comes
abbrev pub IsLastDue : ℕ → ℕ → ℕ → ℕ → ℕ → Type 0
IsLastDue born first period unit last =
    ((unit < first) × (last ≡ born))
    ⊎ ((turns : ℕ) × (last ≡ first + turns * period) × (last ≤ unit) × (unit < last + period))

-- a unit is the last of a change and of the losses that have come by another
pub record IsLastChange (unit change : ℕ) (losses : List (Option ℕ)) (last : ℕ) : Type 0 where
  pub change_first : change ≤ last
  pub losses_first : All (λ loss. IfSome loss (λ l. l ≤ unit → l ≤ last)) losses
  pub one_of_them : (last ≡ change) ⊎ Contains losses (Some last)
