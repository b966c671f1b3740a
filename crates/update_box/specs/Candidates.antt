-- The rows that a unit may delete or update, as they are looked for.
use Rattle.std.specs.Prelude.{ℕ, ◌+◌, ◌*◌, ◌==◌, Bool, false, not, ◌&&◌, if◌then◌else◌, List, count_by, filter, is_some, length, sum_by}
use Rattle.std.specs.List.{flat_map, range_with_len}
use Rattle.std.specs.Option.{option_map}
use Rattle.cohort_sizes.specs.Births.{birth, born_count, cohort_size, first_ordinal}
use Rattle.schema_model.specs.declared.column.OnDelete.{OnDelete}
use Rattle.schema_model.specs.declared.column.OnDelete.TheVariants.{Cascade, Null}
use Rattle.schema_facts.specs.Dictionaries.{Project}
use Rattle.schema_facts.specs.Layout.{TableLayout, layout_of}
use Rattle.schema_facts.specs.Lineage.{longest_life, one_if}
use Rattle.schema_plan.specs.declared.ready.ReadyColumn.{ReadyColumn}
use Rattle.schema_plan.specs.declared.ready.ReadyKind.{ReadyKind}
use Rattle.schema_plan.specs.declared.ready.ReadyKind.TheVariants as kind
use Rattle.schema_plan.specs.declared.ready.ReadyReference.{ReadyReference}
use Rattle.schema_facts.specs.References.{Reference, cascades_of, first_in_window, references_of}
use Rattle.schema_facts.specs.TableFacts.{cost}
use Rattle.life_intervals.specs.Children.{children_of_each}
use Rattle.life_intervals.specs.Generator.{generator_of, table_of}
use Rattle.life_intervals.specs.Intervals.{death, dying, is_after, is_at, is_live, own_death, parent_of}
use Rattle.life_intervals.specs.FoundAt.{due_unit}
use Rattle.update_box.specs.Ordinals.{lies_within}

-- the ordinals of the rows of the table at a place that are born before a unit
abbrev pub born_before : Project → ℕ → ℕ → List ℕ
born_before plan place unit = range_with_len 0 (first_ordinal (table_of plan place).births unit)

-- ---- what comes to a row that is born before a unit

-- its own life ends at the unit
abbrev pub ends_at : Project → ℕ → ℕ → ℕ → Bool
ends_at plan place unit ordinal = is_at (own_death (generator_of plan) place unit ordinal) unit

-- its parent by a reference dies at it
abbrev pub loses_at : Project → ℕ → ℕ → Reference → ℕ → Bool
loses_at plan place unit reference ordinal =
    is_at (death (generator_of plan) reference.parent unit (parent_of (generator_of plan) place unit ordinal reference)) unit

-- a row that is born at one unit is young at another while the longest life of its table hasn't ended
abbrev pub is_young : Project → ℕ → ℕ → ℕ → Bool
is_young plan place born unit = is_after (option_map (λ life. born + life) (longest_life (layout_of plan).tables place)) unit

-- it is due at the unit, in a table with updates, and young
abbrev pub is_due_at : Project → ℕ → ℕ → ℕ → Bool
is_due_at plan place unit ordinal =
    is_young plan place (birth (table_of plan place).births unit ordinal) unit && due_unit (generator_of plan) place unit ordinal == unit

-- it dies at the unit, and it is alive at it
abbrev pub dies_at : Project → ℕ → ℕ → ℕ → Bool
dies_at plan place unit ordinal = is_at (death (generator_of plan) place unit ordinal) unit

abbrev pub lives_at : Project → ℕ → ℕ → ℕ → Bool
lives_at plan place unit ordinal = is_live (generator_of plan) place unit ordinal

-- ---- the rows that are looked at

-- whether a reference does this to a row whose parent is deleted, in the table's layout and as it is ready
abbrev pub is_on : OnDelete → Reference → Bool
is_on Cascade reference = not reference.nulls
is_on Null reference = reference.nulls

abbrev pub is_on_ready : OnDelete → ReadyReference → Bool
is_on_ready Cascade ready = not ready.nulls
is_on_ready Null ready = ready.nulls

-- a column that is ready as a reference whose parents take their rows along
abbrev pub is_cascade_kind : ReadyKind → Bool
is_cascade_kind (kind.Reference ready) = is_on_ready Cascade ready
is_cascade_kind _ = false

abbrev pub is_cascade : ReadyColumn → Bool
is_cascade column = is_cascade_kind column.kind

-- those of a table that do
abbrev pub references_on : OnDelete → TableLayout → List Reference
references_on on_delete table = filter (is_on on_delete) (references_of table)

-- how many things may end a row of a table: its own life, and a parent's by each reference that takes its rows along
abbrev pub endings : TableLayout → ℕ
endings table = one_if (is_some table.life) + length (cascades_of table)

-- the rows whose own lives end at a unit, those that are due at it, and those whose parents by a reference die at it
abbrev pub ending : Project → ℕ → ℕ → List ℕ
ending plan place unit = filter (ends_at plan place unit) (born_before plan place unit)

abbrev pub due : Project → ℕ → ℕ → List ℕ
due plan place unit = filter (is_due_at plan place unit) (born_before plan place unit)

abbrev pub losing : Project → ℕ → ℕ → Reference → List ℕ
losing plan place unit reference = filter (loses_at plan place unit reference) (born_before plan place unit)

-- of those whose parents die by some references each, reference by reference
abbrev pub losing_by : Project → ℕ → ℕ → List Reference → List ℕ
losing_by plan place unit references = flat_map (losing plan place unit) references

-- ---- the parents that are looked at

-- those of some rows of a reference's parent table that are born in the window of a unit's cohort
abbrev pub in_window : Project → Reference → ℕ → List ℕ → List ℕ
in_window plan reference born parents =
    filter (lies_within (first_in_window (table_of plan reference.parent).births reference.window born) (born_count (table_of plan reference.parent).births born)) parents

-- the children of these in the cohort
abbrev pub children_near : Project → ℕ → Reference → ℕ → List ℕ → List ℕ
children_near plan place reference born parents = children_of_each plan place reference born (in_window plan reference born parents)

-- whether a reference of the table at a place deals the candidates of a unit's cohort in a drawn order; to an empty cohort none is dealt
abbrev pub is_dealt : Project → ℕ → Reference → ℕ → Bool
is_dealt plan place reference born = reference.drawn && not (cohort_size (table_of plan place).births born == 0)

-- how many pairs a unit makes with some rows of the parent table: one with each that is a candidate of its cohort and dealt so
abbrev pub pairs_at : Project → ℕ → Reference → ℕ → List ℕ → ℕ
pairs_at plan place reference born parents =
    if is_dealt plan place reference born then length (in_window plan reference born parents) else 0

-- how many there are of a row that dies at a unit and an earlier unit, by a reference, and by some
abbrev pub pairs : Project → ℕ → ℕ → Reference → ℕ
pairs plan place unit reference =
    sum_by (λ born. pairs_at plan place reference born (dying (generator_of plan) reference.parent unit)) (range_with_len 0 unit)

abbrev pub pairs_by : Project → ℕ → ℕ → List Reference → ℕ
pairs_by plan place unit references = sum_by (pairs plan place unit) references

-- ---- how many are looked at

-- how many rows are looked at for what a unit deletes in the table at a place, and for what it updates, each as often as it is found
abbrev pub looked_at_to_delete : Project → ℕ → ℕ → ℕ
looked_at_to_delete plan place unit =
    length (ending plan place unit) + length (losing_by plan place unit (references_on Cascade (table_of plan place)))

abbrev pub looked_at_to_update : Project → ℕ → ℕ → ℕ
looked_at_to_update plan place unit =
    length (due plan place unit) + length (losing_by plan place unit (references_on Null (table_of plan place)))

-- and how many pairs there are
abbrev pub pairs_to_delete : Project → ℕ → ℕ → ℕ
pairs_to_delete plan place unit = pairs_by plan place unit (references_on Cascade (table_of plan place))

abbrev pub pairs_to_update : Project → ℕ → ℕ → ℕ
pairs_to_update plan place unit = pairs_by plan place unit (references_on Null (table_of plan place))

-- the candidates of a unit: the rows whose own lives end at it, for each reference those whose parents die at it, those that are due at
-- it, and for each drawn reference the pairs of a parent that dies at it and an earlier unit whose cohort isn't empty, in whose window the
-- parent is born. A row counts once for each of the first three, and each pair once
abbrev pub candidates : Project → ℕ → ℕ → ℕ
candidates plan place unit =
    count_by (ends_at plan place unit) (born_before plan place unit)
    + sum_by (λ reference. count_by (loses_at plan place unit reference) (born_before plan place unit)) (references_of (table_of plan place))
    + count_by (is_due_at plan place unit) (born_before plan place unit)
    + pairs_by plan place unit (references_of (table_of plan place))

-- how many permutations it takes at most to tell what a unit changes: for each candidate of each table as many as a row of it costs
abbrev pub cost_of_unit : Project → ℕ → ℕ
cost_of_unit plan unit =
    sum_by (λ place. cost (layout_of plan) place * candidates plan place unit) (range_with_len 0 (length plan.schema.tables))
