-- The parents of a cohort's rows, by what the code keeps of the rows that they are chosen of.
use Rattle.std.proofs.Common.{◌≡◌, ℕ, suc, ◌+◌, ◌^◌, ◌<◌, ◌≤◌, max, true, false, not, ◌||◌, Bool, List, [], ◌∷◌, ◌++◌, filter, length, map, take, get_or, sum_by, is_some, Option, Some, None, refl, ap, ap₂, arith, sym, subst, ◌∙◌}
use Rattle.std.specs.Prelude.{All, if◌then◌else◌}
use Rattle.std.specs.List.{fold, list_any}
use Rattle.std.proofs.lemmas.List.{append-nil, get_or-map, get_or-take, length-map, map-append, take_all}
use Rattle.std.proofs.lemmas.List.Elements.{All-filter, All-from_recursion, filter-append}
use Rattle.std.proofs.lemmas.List.Sums.{fold-append, sum_by-cons, sum_by_push}
use Rattle.philox_seeds.specs.SeedTree.{reference_order_seed}
use Rattle.id_permutation.specs.Order.{place_in}
use Rattle.cohort_sizes.specs.Births.{Births, birth, born_count, cohort_size, index_at}
use Rattle.schema_facts.specs.declared.layout.Span.{Span}
use Rattle.schema_facts.specs.declared.lineage.Lineage.{Lineage}
use Rattle.schema_plan.specs.declared.ready.ReadyColumn.{ReadyColumn}
use Rattle.schema_plan.specs.declared.ready.ReadyReference.{ReadyReference}
use Rattle.schema_plan.specs.declared.ready.ReadyKind.TheVariants as kind
use Rattle.schema_facts.specs.Dictionaries.{Project}
use Rattle.schema_facts.specs.Layout.{KindLayout, reference_kind, ColumnLayout, TableLayout, column_at, layout_of, no_column, no_table, table_at}
use Rattle.schema_plan.specs.Limits.{IsInLimits}
use Rattle.schema_facts.specs.Lineage.{choice_cost, death_cost, endless, lesser_life, loss_cost, lineage_at, lineages, one_if, own_lineage, sure_life, with_kind}
use Rattle.schema_facts.specs.TableFacts.{change_cost}
use Rattle.schema_plan.specs.Ready.{ready_column, ready_columns, ready_kind}
use Rattle.schema_facts.specs.References.{IsReferenceInLimits, Reference, cascades_of, count_in_window, first_in_window, reference_at, references_of}
use Rattle.schema_facts.proofs.LineageLemmas.{lineage_at-lineages}
use Rattle.life_intervals.specs.declared.window.CandidateWindow.{CandidateWindow}
use Rattle.life_intervals.specs.Changes.{due_by, has_nullings, last_change, later_change}
use Rattle.life_intervals.specs.CohortKeys.{CohortOf}
use Rattle.life_intervals.specs.CohortOrders.{do_lives_differ, do_updates_differ, parent_order}
use Rattle.life_intervals.specs.CohortParents.{IsReferenceOf, asked_for_change, asked_for_death, cascades_cost, deal_by, held_in, is_nulling, loss_in, losses_in, parent_cost, parent_death_in, parent_in, parents_death_in, reference_by, window_by}
use Rattle.life_intervals.specs.Generator.{Generator, generator_of, last_unit, table_of}
use Rattle.life_intervals.specs.Intervals.{Known, change_unit, death, first_death, held_parent, held_until, known_tables, own_death, parent_of}
use Rattle.life_intervals.specs.References.{choice, dealt}
use Rattle.life_intervals.proofs.AcceptedLemmas.{AreSound-accepted, length-tables}
use Rattle.life_intervals.proofs.CascadeLemmas.{is_cascading}
use Rattle.cohort_sizes.proofs.CohortLemmas.{birth-le, born_count-le, cohort-within, index_at-below}
use Rattle.life_intervals.proofs.KnownLemmas.{known_at-before, length-known_before, refers-of}
use Rattle.life_intervals.proofs.LifeLemmas.{death-first, loss_by-death, losses_by-deaths}
use Rattle.life_intervals.proofs.OrderLemmas.{place_by-if}
use Rattle.life_intervals.proofs.ParentLemmas.{Refers, parent_by-lies}
use Rattle.life_intervals.proofs.ReferenceLemmas.{IsReady, at_column, first_death-more, none_from_ready, reference_from_ready, references_before, references_before-none, references_before-some, references_in}

-- ---- a reference of the table at a place

-- what is ready of a column is ready for its reference
pub ready_is : (plan : Project) (table column : ℕ) (ready : ReadyReference) → IsReferenceOf plan table column ready →
    IsReady column (column_at (table_of plan table).columns column).kind ready
ready_is plan table column ready of = reference_from_ready (layout_of plan).delimiter column (column_at (table_of plan table).columns column).kind ready of.is

-- which is within its limits
pub limits_of : (plan : Project) → IsInLimits plan → (table column : ℕ) (ready : ReadyReference) → table < length plan.schema.tables → IsReferenceOf plan table column ready →
    IsReferenceInLimits (last_unit plan) (layout_of plan).tables table (reference_by column ready)
limits_of plan limits table column ready below of =
    at_column (IsReferenceInLimits (last_unit plan) (layout_of plan).tables table) (table_of plan table) (limits.references table below) column (reference_by column ready) of.within
    (ready_is plan table column ready of).is

-- the parent's table is an earlier one
pub parent_below : (plan : Project) → IsInLimits plan → (table column : ℕ) (ready : ReadyReference) → table < length plan.schema.tables → IsReferenceOf plan table column ready →
    ready.parent < length plan.schema.tables
parent_below plan limits table column ready below of = omega (arith, below, (limits_of plan limits table column ready below of).earlier)

-- the column at a place, as the plan has it ready
pub ready_columns-at : (plan : Project) (table column : ℕ) (d : ReadyColumn) → column < length (table_of plan table).columns →
    get_or (ready_columns (layout_of plan) table) column d ≡ ready_column (layout_of plan).delimiter (column_at (table_of plan table).columns column)
ready_columns-at plan table column d below = get_or-map (ready_column (layout_of plan).delimiter) (table_of plan table).columns column no_column d below

pub length-ready_columns : (plan : Project) (table : ℕ) → length (ready_columns (layout_of plan) table) ≡ length (table_of plan table).columns
length-ready_columns plan table = length-map (table_of plan table).columns (ready_column (layout_of plan).delimiter)

-- a column of a table whose columns are ready is a reference where it is ready as one
pub reference_from_columns : (plan : Project) (table column : ℕ) (columns : List ReadyColumn) (held : ReadyColumn) (ready : ReadyReference) → columns ≡ ready_columns (layout_of plan) table →
    column < length columns → held ≡ get_or columns column held → held.kind ≡ kind.Reference ready → IsReferenceOf plan table column ready
reference_from_columns plan table column columns held ready are within is kind_is =
    let below : column < length (table_of plan table).columns = omega (arith, within, ap length are, length-ready_columns plan table) in
    record {
      within = below;
      is = ap (λ (c : ReadyColumn). c.kind) (sym (is ∙ ap (λ (cs : List ReadyColumn). get_or cs column held) are ∙ ready_columns-at plan table column held below)) ∙ kind_is;
    }

-- and none where it isn't
pub none_from_columns : (plan : Project) (table column : ℕ) (columns : List ReadyColumn) (held : ReadyColumn) → columns ≡ ready_columns (layout_of plan) table →
    column < length columns → held ≡ get_or columns column held → ((ready : ReadyReference) → held.kind ≡ kind.Reference ready → ⊥) →
    (column < length (table_of plan table).columns) × (reference_at (table_of plan table) column ≡ None)
none_from_columns plan table column columns held are within is other =
    let below : column < length (table_of plan table).columns = omega (arith, within, ap length are, length-ready_columns plan table) in
    let same : held.kind ≡ ready_kind (layout_of plan).delimiter (column_at (table_of plan table).columns column).kind =
    ap (λ (c : ReadyColumn). c.kind) (is ∙ ap (λ (cs : List ReadyColumn). get_or cs column held) are ∙ ready_columns-at plan table column held below) in
    (below, none_from_ready (layout_of plan).delimiter column (column_at (table_of plan table).columns column).kind (λ ready e. other ready (same ∙ e)))

-- whether a reference becomes null, by what is ready
nullings-ready : (delimiter start : ℕ) (columns : List ColumnLayout) →
    list_any is_nulling (map (ready_column delimiter) columns) ≡ list_any (λ (reference : Reference). reference.nulls) (references_in start columns)
nullings-ready delimiter start [] = refl
nullings-ready delimiter start (column ∷ others) =
    nulling-ready delimiter start column.kind column.changes column.null others (nullings-ready delimiter (start + 1) others)
  where
    nulling-ready : (delimiter start : ℕ) (held : KindLayout) (changes : Bool) (null : ℕ) (others : List ColumnLayout) →
        list_any is_nulling (map (ready_column delimiter) others) ≡ list_any (λ (reference : Reference). reference.nulls) (references_in (start + 1) others) →
        list_any is_nulling (map (ready_column delimiter) (record { kind = held; changes = changes; null = null } ∷ others))
        ≡ list_any (λ (reference : Reference). reference.nulls) (references_in start (record { kind = held; changes = changes; null = null } ∷ others))
    nulling-ready delimiter start (reference_kind parent window spread nulls drawn) changes null others rest = ap (λ (b : Bool). nulls || b) rest
    nulling-ready delimiter start _ changes null others rest = rest

pub has_nullings-ready : (plan : Project) (table : ℕ) → list_any is_nulling (ready_columns (layout_of plan) table) ≡ has_nullings (table_of plan table)
has_nullings-ready plan table = nullings-ready (layout_of plan).delimiter 0 (table_of plan table).columns

-- ---- parents

-- a parent is the candidate that the place of its child chooses, as they are dealt
pub parent_in-choice : (plan : Project) → IsInLimits plan → (table column unit index : ℕ) (ready : ReadyReference) → table < length plan.schema.tables → IsReferenceOf plan table column ready →
    unit ≤ last_unit plan → index < cohort_size (table_of plan table).births unit →
    (window_by plan ready unit).first + place_in (deal_by plan table column ready unit) (choice ready.spread (window_by plan ready unit).count (place_in (parent_order plan table column unit) index))
    ≡ parent_in (record { plan = plan; table = table; unit = unit }) index (reference_by column ready)
parent_in-choice plan limits table column unit index ready below of within inside =
    let generator : Generator = generator_of plan in
    let is = limits_of plan limits table column ready below of in
    let births : Births = (table_of plan ready.parent).births in
    let earlier : List Known = take table (known_tables generator) in
    let in_tables : table < length generator.tables = omega (arith, below, length-tables plan) in
    let some : first_in_window births ready.window unit < born_count births unit = is.some_parent unit within (omega (arith, inside)) in
    let many : max 1 (count_in_window births ready.window unit) ≡ count_in_window births ready.window unit = omega (arith, some) in
    let placed : place_in (parent_order plan table column unit) index ≡ generator.order.place table column unit index =
    place_by-if true (cohort_size (table_of plan table).births unit) (reference_order_seed (layout_of plan).seed table column unit) index inside in
    let reference : Reference = reference_by column ready in
    let chosen : ℕ → Births → ℕ = λ place born.
    first_in_window born ready.window unit + dealt reference (generator.order.deal place column unit) (count_in_window born ready.window unit) (generator.order.place place column unit index) in
    ap₂ (λ (count place : ℕ). first_in_window births ready.window unit + dealt reference (generator.order.deal table column unit) count place) many placed
    ∙ ap (λ (place : ℕ). chosen place births) (sym (length-known_before generator table in_tables))
    ∙ ap (λ (known : Known). chosen (length earlier) known.table.births) (sym (known_at-before generator table ready.parent in_tables is.earlier))

-- it is born by its child's birth
pub parent_in-born : (plan : Project) → IsInLimits plan → (table column unit index : ℕ) (ready : ReadyReference) → table < length plan.schema.tables → IsReferenceOf plan table column ready →
    unit ≤ last_unit plan → index < cohort_size (table_of plan table).births unit →
    parent_in (record { plan = plan; table = table; unit = unit }) index (reference_by column ready) < born_count (table_of plan ready.parent).births unit
parent_in-born plan limits table column unit index ready below of within inside =
    let generator : Generator = generator_of plan in
    let reference : Reference = reference_by column ready in
    let is = limits_of plan limits table column ready below of in
    let in_tables : table < length generator.tables = omega (arith, below, length-tables plan) in
    let refers = at_column (Refers (last_unit plan) (take table (known_tables generator)) (sure_life generator.tables) (table_of plan table).births) (table_of plan table)
    (All-from_recursion (Refers (last_unit plan) (take table (known_tables generator)) (sure_life generator.tables) (table_of plan table).births) (references_of (table_of plan table))
    (refers-of (last_unit plan) generator (AreSound-accepted plan limits) table in_tables)) column reference of.within (ready_is plan table column ready of).is in
    subst (λ (known : Known). parent_in (record { plan = plan; table = table; unit = unit }) index reference < born_count known.table.births unit)
    (known_at-before generator table ready.parent in_tables is.earlier)
    (parent_by-lies (last_unit plan) generator.order (take table (known_tables generator)) (sure_life generator.tables) (table_of plan table).births unit index within inside reference refers).1

-- its window, and its cohort, are of at most 2^40 rows
pub record IsLimited (plan : Project) (table unit : ℕ) (window : CandidateWindow) : Type 0 where
  pub first : window.first ≤ 2 ^ 40
  pub count : window.count ≤ 2 ^ 40
  pub size : cohort_size (table_of plan table).births unit ≤ 2 ^ 40

pub row_limit : (plan : Project) → IsInLimits plan → (table : ℕ) → table < length plan.schema.tables → born_count (table_of plan table).births (last_unit plan) ≤ 2 ^ 40
row_limit plan limits table below = (limits.tables table no_table (omega (arith, below, length-tables plan))).births.row_limit

pub window_limited : (plan : Project) → IsInLimits plan → (table column unit index : ℕ) (ready : ReadyReference) → table < length plan.schema.tables → IsReferenceOf plan table column ready →
    unit ≤ last_unit plan → index < cohort_size (table_of plan table).births unit → IsLimited plan table unit (window_by plan ready unit)
window_limited plan limits table column unit index ready below of within inside =
    let is = limits_of plan limits table column ready below of in
    let parent : Births = (table_of plan ready.parent).births in
    let some : first_in_window parent ready.window unit < born_count parent unit = is.some_parent unit within (omega (arith, inside)) in
    let all : born_count parent unit ≤ born_count parent (last_unit plan) = born_count-le parent unit (last_unit plan) within in
    let limit : born_count parent (last_unit plan) ≤ 2 ^ 40 = row_limit plan limits ready.parent (omega (arith, below, is.earlier)) in
    record {
      first = omega (arith, some, all, limit);
      count = omega (arith, some, all, limit);
      size = omega (arith, cohort-within (table_of plan table).births unit (last_unit plan) within, row_limit plan limits table below);
    }

-- ---- deaths

-- a row dies by its own life or with the first of its parents
pub death-parents : (plan : Project) → IsInLimits plan → (table unit ordinal index : ℕ) → table < length plan.schema.tables →
    ordinal < born_count (table_of plan table).births (last_unit plan) →
    unit ≡ birth (table_of plan table).births (last_unit plan) ordinal → index ≡ index_at (table_of plan table).births (last_unit plan) ordinal →
    lesser_life (own_death (generator_of plan) table (last_unit plan) ordinal) (parents_death_in (record { plan = plan; table = table; unit = unit }) index)
    ≡ death (generator_of plan) table (last_unit plan) ordinal
death-parents plan limits table unit ordinal index below born unit_is index_is =
    let generator : Generator = generator_of plan in
    let in_tables : table < length generator.tables = omega (arith, below, length-tables plan) in
    let own : Option ℕ = own_death generator table (last_unit plan) ordinal in
    ap₂ (λ (u i : ℕ). lesser_life own (parents_death_in (record { plan = plan; table = table; unit = u }) i)) unit_is index_is
    ∙ sym (death-first (last_unit plan) generator (AreSound-accepted plan limits) table in_tables (last_unit plan) ordinal (omega arith) born)

-- ---- losses

module _ (plan : Project) (limits : IsInLimits plan) (table unit ordinal : ℕ) (below : table < length plan.schema.tables) (within : unit ≤ last_unit plan) (born : ordinal < born_count (table_of plan table).births unit) where
  abbrev generator : Generator
  generator = generator_of plan

  abbrev births : Births
  births = (table_of plan table).births

  in_tables : table < length (generator_of plan).tables
  in_tables = omega (arith, below, length-tables plan)

  early : birth births unit ordinal ≤ unit
  early = birth-le births unit ordinal born

  -- the last change is the last of the last due unit and of the losses
  pub change_unit-losses : (at index : ℕ) → at ≡ birth births unit ordinal → index ≡ index_at births unit ordinal →
      last_change unit (due_by generator.order table (table_of plan table) at index unit) (losses_in (record { plan = plan; table = table; unit = at }) index)
      ≡ change_unit generator table unit ordinal
  change_unit-losses at index at_is index_is =
      ap₂ (λ (b i : ℕ). last_change unit (due_by generator.order table (table_of plan table) b i unit) (losses_in (record { plan = plan; table = table; unit = b }) i)) at_is index_is
      ∙ ap (last_change unit (due_by generator.order table (table_of plan table) (birth births unit ordinal) (index_at births unit ordinal) unit))
      (sym (losses_by-deaths (last_unit plan) generator (AreSound-accepted plan limits) table in_tables (birth births unit ordinal) (index_at births unit ordinal) (omega (arith, early, within))
      (index_at-below births unit ordinal born) (last_unit plan) (omega (arith, early, within)) (references_of (table_of plan table))
      (refers-of (last_unit plan) generator (AreSound-accepted plan limits) table in_tables)))

  -- the parent that a row still has
  pub held_parent-in : (at index column : ℕ) (ready : ReadyReference) → IsReferenceOf plan table column ready → at ≡ birth births unit ordinal → index ≡ index_at births unit ordinal →
      held_in (record { plan = plan; table = table; unit = at }) index unit (reference_by column ready) ≡ held_parent generator table unit ordinal (reference_by column ready)
  held_parent-in at index column ready of at_is index_is =
      let reference : Reference = reference_by column ready in
      let Refers_here : Reference → Type 0 = Refers (last_unit plan) (take table (known_tables generator)) (sure_life generator.tables) births in
      let refers = at_column Refers_here (table_of plan table)
      (All-from_recursion Refers_here (references_of (table_of plan table)) (refers-of (last_unit plan) generator (AreSound-accepted plan limits) table in_tables)) column reference of.within
      (ready_is plan table column ready of).is in
      ap₂ (λ (b i : ℕ). held_in (record { plan = plan; table = table; unit = b }) i unit reference) at_is index_is
      ∙ ap (λ (loss : Option ℕ). held_until loss unit (parent_of generator table unit ordinal reference))
      (sym (loss_by-death (last_unit plan) generator (AreSound-accepted plan limits) table in_tables (birth births unit ordinal) (index_at births unit ordinal) (omega (arith, early, within))
      (index_at-below births unit ordinal born) (last_unit plan) (omega (arith, early, within)) reference refers))

-- what the death of the parent by a reference costs
abbrev pub cost_of_reference : CohortOf → Reference → ℕ
cost_of_reference cohort reference = choice_cost reference.drawn + death_cost (layout_of cohort.plan).tables reference.parent

-- of the references before a column, those that a test lets through
abbrev passing_before : (Reference → Bool) → CohortOf → ℕ → List Reference
passing_before test cohort column = filter test (references_before (table_of cohort.plan cohort.table) column)

-- the first death of the parents by those before it with whose parents a row dies
abbrev pub first_before : CohortOf → ℕ → ℕ → Option ℕ
first_before cohort index column = first_death (map (parent_death_in cohort index) (passing_before is_cascading cohort column))

-- and what these cost
abbrev pub cost_before : CohortOf → ℕ → ℕ
cost_before cohort column = sum_by (cost_of_reference cohort) (passing_before is_cascading cohort column)

-- the last of a change and of the losses up to a unit of the parents by those before it
abbrev pub change_before : CohortOf → ℕ → ℕ → ℕ → ℕ → ℕ
change_before cohort index change unit column =
    last_change unit change (map (loss_in cohort index) (references_before (table_of cohort.plan cohort.table) column))

-- and what these cost
abbrev pub loss_before : CohortOf → ℕ → ℕ
loss_before cohort column = sum_by (cost_of_reference cohort) (passing_before (λ (reference : Reference). reference.nulls) cohort column)

-- a reference more, which the test lets through or not
passing_before-some : (test : Reference → Bool) (cohort : CohortOf) (column : ℕ) (ready : ReadyReference) → IsReferenceOf cohort.plan cohort.table column ready →
    test (reference_by column ready) ≡ true → passing_before test cohort (column + 1) ≡ passing_before test cohort column ++ reference_by column ready ∷ []
passing_before-some test cohort column ready of passes =
    ap (filter test) (references_before-some (table_of cohort.plan cohort.table) column (reference_by column ready) of.within (ready_is cohort.plan cohort.table column ready of).is)
    ∙ filter-append test (references_before (table_of cohort.plan cohort.table) column) (reference_by column ready ∷ [])
    ∙ ap (λ (passed : Bool). passing_before test cohort column ++ (if passed then reference_by column ready ∷ [] else [])) passes

passing_before-other : (test : Reference → Bool) (cohort : CohortOf) (column : ℕ) (ready : ReadyReference) → IsReferenceOf cohort.plan cohort.table column ready →
    test (reference_by column ready) ≡ false → passing_before test cohort (column + 1) ≡ passing_before test cohort column
passing_before-other test cohort column ready of fails =
    ap (filter test) (references_before-some (table_of cohort.plan cohort.table) column (reference_by column ready) of.within (ready_is cohort.plan cohort.table column ready of).is)
    ∙ filter-append test (references_before (table_of cohort.plan cohort.table) column) (reference_by column ready ∷ [])
    ∙ ap (λ (passed : Bool). passing_before test cohort column ++ (if passed then reference_by column ready ∷ [] else [])) fails
    ∙ append-nil (passing_before test cohort column)

-- a reference more with whose parent a row dies
pub first_before-some : (cohort : CohortOf) (index column : ℕ) (ready : ReadyReference) → IsReferenceOf cohort.plan cohort.table column ready → ready.nulls ≡ false →
    first_before cohort index (column + 1)
    ≡ lesser_life (first_before cohort index column) (death (generator_of cohort.plan) ready.parent (last_unit cohort.plan) (parent_in cohort index (reference_by column ready)))
first_before-some cohort index column ready of cascades =
    let d : Reference → Option ℕ = parent_death_in cohort index in
    ap (λ (references : List Reference). first_death (map d references)) (passing_before-some is_cascading cohort column ready of (ap not cascades))
    ∙ first_death-more d (passing_before is_cascading cohort column) (reference_by column ready)

pub cost_before-some : (cohort : CohortOf) (column : ℕ) (ready : ReadyReference) → IsReferenceOf cohort.plan cohort.table column ready → ready.nulls ≡ false →
    cost_before cohort (column + 1) ≡ cost_before cohort column + (choice_cost ready.drawn + death_cost (layout_of cohort.plan).tables ready.parent)
cost_before-some cohort column ready of cascades =
    ap (sum_by (cost_of_reference cohort)) (passing_before-some is_cascading cohort column ready of (ap not cascades))
    ∙ sum_by_push (cost_of_reference cohort) (passing_before is_cascading cohort column) (reference_by column ready)

-- and one that becomes null
pub first_before-nulls : (cohort : CohortOf) (index column : ℕ) (ready : ReadyReference) → IsReferenceOf cohort.plan cohort.table column ready → ready.nulls ≡ true →
    first_before cohort index (column + 1) ≡ first_before cohort index column
first_before-nulls cohort index column ready of nulls =
    ap (λ (references : List Reference). first_death (map (parent_death_in cohort index) references)) (passing_before-other is_cascading cohort column ready of (ap not nulls))

pub cost_before-nulls : (cohort : CohortOf) (column : ℕ) (ready : ReadyReference) → IsReferenceOf cohort.plan cohort.table column ready → ready.nulls ≡ true →
    cost_before cohort (column + 1) ≡ cost_before cohort column
cost_before-nulls cohort column ready of nulls = ap (sum_by (cost_of_reference cohort)) (passing_before-other is_cascading cohort column ready of (ap not nulls))

-- the changes of a row by one reference more
change_before-more : (cohort : CohortOf) (index change unit column : ℕ) (ready : ReadyReference) → IsReferenceOf cohort.plan cohort.table column ready →
    change_before cohort index change unit (column + 1) ≡ later_change unit (change_before cohort index change unit column) (loss_in cohort index (reference_by column ready))
change_before-more cohort index change unit column ready of =
    let before : List Reference = references_before (table_of cohort.plan cohort.table) column in
    let loss : Reference → Option ℕ = loss_in cohort index in
    ap (λ (references : List Reference). last_change unit change (map loss references))
    (references_before-some (table_of cohort.plan cohort.table) column (reference_by column ready) of.within (ready_is cohort.plan cohort.table column ready of).is)
    ∙ ap (last_change unit change) (map-append loss before (reference_by column ready ∷ []))
    ∙ fold-append (later_change unit) change (map loss before) (loss (reference_by column ready) ∷ [])

pub change_before-nulls : (cohort : CohortOf) (index change unit column : ℕ) (ready : ReadyReference) → IsReferenceOf cohort.plan cohort.table column ready → ready.nulls ≡ true →
    change_before cohort index change unit (column + 1)
    ≡ later_change unit (change_before cohort index change unit column) (parent_death_in cohort index (reference_by column ready))
change_before-nulls cohort index change unit column ready of nulls =
    let dies : Option ℕ = parent_death_in cohort index (reference_by column ready) in
    change_before-more cohort index change unit column ready of
    ∙ ap (λ (lost : Bool). later_change unit (change_before cohort index change unit column) (if lost then dies else None)) nulls

pub change_before-other : (cohort : CohortOf) (index change unit column : ℕ) (ready : ReadyReference) → IsReferenceOf cohort.plan cohort.table column ready → ready.nulls ≡ false →
    change_before cohort index change unit (column + 1) ≡ change_before cohort index change unit column
change_before-other cohort index change unit column ready of cascades =
    let dies : Option ℕ = parent_death_in cohort index (reference_by column ready) in
    change_before-more cohort index change unit column ready of
    ∙ ap (λ (lost : Bool). later_change unit (change_before cohort index change unit column) (if lost then dies else None)) cascades

pub loss_before-nulls : (cohort : CohortOf) (column : ℕ) (ready : ReadyReference) → IsReferenceOf cohort.plan cohort.table column ready → ready.nulls ≡ true →
    loss_before cohort (column + 1) ≡ loss_before cohort column + (choice_cost ready.drawn + death_cost (layout_of cohort.plan).tables ready.parent)
loss_before-nulls cohort column ready of nulls =
    ap (sum_by (cost_of_reference cohort)) (passing_before-some (λ (reference : Reference). reference.nulls) cohort column ready of nulls)
    ∙ sum_by_push (cost_of_reference cohort) (passing_before (λ (reference : Reference). reference.nulls) cohort column) (reference_by column ready)

pub loss_before-other : (cohort : CohortOf) (column : ℕ) (ready : ReadyReference) → IsReferenceOf cohort.plan cohort.table column ready → ready.nulls ≡ false →
    loss_before cohort (column + 1) ≡ loss_before cohort column
loss_before-other cohort column ready of cascades = ap (sum_by (cost_of_reference cohort)) (passing_before-other (λ (reference : Reference). reference.nulls) cohort column ready of cascades)

-- a column more that is no reference
pub before-none : (cohort : CohortOf) (column : ℕ) → column < length (table_of cohort.plan cohort.table).columns → reference_at (table_of cohort.plan cohort.table) column ≡ None →
    references_before (table_of cohort.plan cohort.table) (column + 1) ≡ references_before (table_of cohort.plan cohort.table) column
before-none cohort column within none = references_before-none (table_of cohort.plan cohort.table) column within none

-- all columns
pub references_before-all : (plan : Project) (table column : ℕ) → length (table_of plan table).columns ≤ column → references_before (table_of plan table) column ≡ references_of (table_of plan table)
references_before-all plan table column all = ap (references_in 0) (take_all column (table_of plan table).columns all)

-- ---- costs

-- what those of a table's references that a test lets through add to the cost of a death or of a loss
abbrev cost_in : List Lineage → (Reference → Bool) → ℕ → List ColumnLayout → ℕ
cost_in earlier test place columns =
    sum_by (λ (reference : Reference). choice_cost reference.drawn + (lineage_at earlier reference.parent).death_cost) (filter test (references_in place columns))

abbrev nulls_of : Reference → Bool
nulls_of reference = reference.nulls

pub record Costs (earlier : List Lineage) (columns : List ColumnLayout) (place : ℕ) (own : Lineage) : Type 0 where
  pub death : (fold (λ own (column : ColumnLayout). with_kind earlier own column.kind) own columns).death_cost ≡ own.death_cost + cost_in earlier is_cascading place columns
  pub loss : (fold (λ own (column : ColumnLayout). with_kind earlier own column.kind) own columns).loss_cost ≡ own.loss_cost + cost_in earlier nulls_of place columns

kind-cost : (earlier : List Lineage) (held : KindLayout) (changes : Bool) (null : ℕ) (others : List ColumnLayout) (place : ℕ) (own : Lineage) →
    ((after : Lineage) → Costs earlier others (place + 1) after) → Costs earlier (record { kind = held; changes = changes; null = null } ∷ others) place own
kind-cost earlier (reference_kind parent window spread false drawn) changes null others place own next =
    let rest = next (with_kind earlier own (reference_kind parent window spread false drawn)) in
    record {
      death = omega (
        arith,
        rest.death,
        sum_by-cons (λ (reference : Reference). choice_cost reference.drawn + (lineage_at earlier reference.parent).death_cost)
            (record { column = place; parent = parent; window = window; spread = spread; nulls = false; drawn = drawn }) (filter is_cascading (references_in (place + 1) others)),
      );
      loss = rest.loss;
    }
kind-cost earlier (reference_kind parent window spread true drawn) changes null others place own next =
    let rest = next (with_kind earlier own (reference_kind parent window spread true drawn)) in
    record {
      death = rest.death;
      loss = omega (
        arith,
        rest.loss,
        sum_by-cons (λ (reference : Reference). choice_cost reference.drawn + (lineage_at earlier reference.parent).death_cost)
            (record { column = place; parent = parent; window = window; spread = spread; nulls = true; drawn = drawn }) (filter nulls_of (references_in (place + 1) others)),
      );
    }
kind-cost earlier _ changes null others place own next = record { death = (next own).death; loss = (next own).loss }

columns-cost : (earlier : List Lineage) (columns : List ColumnLayout) (place : ℕ) (own : Lineage) → Costs earlier columns place own
columns-cost earlier [] place own = record { death = omega arith; loss = omega arith }
columns-cost earlier (column ∷ others) place own =
    kind-cost earlier column.kind column.changes column.null others place own (λ after. columns-cost earlier others (place + 1) after)

lives_cost : (life : Option Span) → (own_lineage life).death_cost ≡ one_if (is_some life)
lives_cost None = refl
lives_cost (Some life) = refl

no_loss : (life : Option Span) → (own_lineage life).loss_cost ≡ 0
no_loss None = refl
no_loss (Some life) = refl

one_if-le : (test : Bool) → one_if test ≤ 1
one_if-le true = omega arith
one_if-le false = omega arith

differ_cost : (life : Option Span) → one_if (do_lives_differ life) ≤ one_if (is_some life)
differ_cost None = omega arith
differ_cost (Some life) = one_if-le (do_lives_differ (Some life))

-- those of the tables before are those of all
sum-before : (tables : List TableLayout) (place : ℕ) (references : List Reference) → All (λ (reference : Reference). reference.parent < place) references →
    sum_by (λ (reference : Reference). choice_cost reference.drawn + (lineage_at (take place (lineages tables)) reference.parent).death_cost) references
    ≡ sum_by (λ (reference : Reference). choice_cost reference.drawn + death_cost tables reference.parent) references
sum-before tables place [] earlier = refl
sum-before tables place (reference ∷ others) earlier =
    omega (
      arith,
      sum_by-cons (λ (r : Reference). choice_cost r.drawn + (lineage_at (take place (lineages tables)) r.parent).death_cost) reference others,
      sum_by-cons (λ (r : Reference). choice_cost r.drawn + death_cost tables r.parent) reference others,
      ap (λ (lineage : Lineage). lineage.death_cost) (get_or-take place (lineages tables) reference.parent endless (earlier 0 reference (omega arith))),
      sum-before tables place others (λ k d below. earlier (suc k) d (omega (arith, below))),
    )

-- the cost of a death is that of the own life and of the parents' deaths
pub death_cost-parts : (plan : Project) → IsInLimits plan → (table : ℕ) → table < length plan.schema.tables →
    death_cost (layout_of plan).tables table ≡ one_if (is_some (table_of plan table).life) + cascades_cost (layout_of plan).tables table
death_cost-parts plan limits table below =
    let tables : List TableLayout = (layout_of plan).tables in
    let in_tables : table < length tables = omega (arith, below, length-tables plan) in
    omega (
      arith,
      ap (λ (lineage : Lineage). lineage.death_cost) (lineage_at-lineages tables table in_tables),
      (columns-cost (take table (lineages tables)) (table_at tables table).columns 0 (own_lineage (table_at tables table).life)).death,
      lives_cost (table_at tables table).life,
      sum-before tables table (cascades_of (table_at tables table))
          (All-filter is_cascading (λ (reference : Reference). reference.parent < table) (references_of (table_at tables table)) (λ k d inside. (limits.references table below k d inside).earlier)),
    )

-- the references that become null when their parents are deleted
abbrev pub nullings_of : TableLayout → List Reference
nullings_of table = filter nulls_of (references_of table)

-- the cost of losses is that of the deaths of all parents that a row may lose
pub loss_cost-parts : (plan : Project) → IsInLimits plan → (table : ℕ) → table < length plan.schema.tables →
    loss_cost (layout_of plan).tables table ≡ sum_by (parent_cost (layout_of plan).tables) (nullings_of (table_of plan table))
loss_cost-parts plan limits table below =
    let tables : List TableLayout = (layout_of plan).tables in
    let in_tables : table < length tables = omega (arith, below, length-tables plan) in
    omega (
      arith,
      ap (λ (lineage : Lineage). lineage.loss_cost) (lineage_at-lineages tables table in_tables),
      (columns-cost (take table (lineages tables)) (table_at tables table).columns 0 (own_lineage (table_at tables table).life)).loss,
      no_loss (table_at tables table).life,
      sum-before tables table (nullings_of (table_at tables table))
          (All-filter nulls_of (λ (reference : Reference). reference.parent < table) (references_of (table_at tables table)) (λ k d inside. (limits.references table below k d inside).earlier)),
    )

updates_cost : (update : Option ℕ) → one_if (do_updates_differ update) ≤ one_if (is_some update)
updates_cost None = omega arith
updates_cost (Some period) = one_if-le (do_updates_differ (Some period))

-- a change asks at most what it costs
pub asked_for_change-cost : (plan : Project) → IsInLimits plan → (table : ℕ) → table < length plan.schema.tables → asked_for_change plan table ≤ change_cost (layout_of plan) table
asked_for_change-cost plan limits table below = omega (arith, updates_cost (table_of plan table).update)

-- a death asks at most what it costs
pub asked_for_death-cost : (plan : Project) → IsInLimits plan → (table : ℕ) → table < length plan.schema.tables →
    asked_for_death plan table ≤ death_cost (layout_of plan).tables table
asked_for_death-cost plan limits table below = omega (arith, death_cost-parts plan limits table below, differ_cost (table_of plan table).life)
