-- What a lookup shows is what the parent holds, which its table holds as long as the row is alive.
use Rattle.std.proofs.Common.{◌≡◌, ◌<◌, ◌≤◌, ℕ, ◌+◌, true, false, Bool, List, length, codes, Option, Some, None, if◌then◌else◌, refl, ap, subst, sym, ◌∙◌, arith}
use Rattle.std.specs.Prelude.{IfSome}
use Rattle.std.specs.Option.{option_and_then}
use Rattle.row_text.specs.Fields.{field_text}
use Rattle.cohort_sizes.specs.Births.{Births, birth, born_count, cohort_size}
use Rattle.schema_plan.specs.declared.ready.ReadyKind.{ReadyKind}
use Rattle.schema_plan.specs.declared.ready.ReadyKind.TheVariants as kind
use Rattle.schema_plan.specs.declared.ready.ReadyLookup.{ReadyLookup}
use Rattle.schema_plan.specs.declared.ready.ReadyReference.{ReadyReference}
use Rattle.schema_facts.specs.ColumnFacts.{field_cost}
use Rattle.schema_facts.specs.FieldCosts.{choice_cost_of}
use Rattle.schema_facts.specs.FieldSizes.{size_at, size_in_table, size_of}
use Rattle.schema_facts.specs.Layout.{ColumnLayout, KindLayout, TableLayout, born_kind, case_kind, changed_kind, column_at, key_kind, layout_of, leaf_kind, lookup_kind, list_kind, no_table, unit_date_kind, after_kind, sum_kind, product_kind, reference_kind, table_at, template_kind}
use Rattle.schema_plan.specs.Limits.{IsCascadeTo, IsInLimits, IsLookup, IsLookupInLimits, IsStillColumn, IsTableInLimits, is_lookup_kind, is_moving_kind}
use Rattle.schema_facts.specs.Lineage.{choice_cost, lineages}
use Rattle.schema_plan.specs.Ready.{ready_kind, ready_reference}
use Rattle.schema_facts.specs.References.{Reference, reference_at}
use Rattle.schema_facts.proofs.FieldFactsLemmas.{cost-lookup}
use Rattle.draw_values.specs.CohortValues.{ValuesOf, is_null_for}
use Rattle.draw_values.specs.Values.{is_null, unless_null}
use Rattle.life_intervals.specs.CohortParents.{IsReferenceOf, parent_in, reference_by}
use Rattle.life_intervals.specs.Generator.{Generator, generator_of, last_unit, table_of}
use Rattle.life_intervals.specs.Intervals.{held_parent, is_after, is_live, loss_of, parent_of, row_at}
use Rattle.life_intervals.specs.Rows.{Row}
use Rattle.life_intervals.specs.Simulation.{holds_row, rows_at}
use Rattle.life_intervals.specs.Sound.{AreSound}
use Rattle.life_intervals.proofs.AcceptedLemmas.{AreSound-accepted, length-tables, place-below, row_at-changed}
use Rattle.life_intervals.proofs.CohortParentLemmas.{limits_of}
use Rattle.cohort_sizes.proofs.CohortLemmas.{birth-first_ordinal, birth-le, born_count-le, cohort-within}
use Rattle.life_intervals.proofs.HeldParentLemmas.{parents-held}
use Rattle.life_intervals.proofs.LifeLemmas.{parent_of-born}
use Rattle.life_intervals.proofs.LiveLemmas.{holds_row-live}
use Rattle.life_intervals.proofs.ReferenceLemmas.{at_column, reference_at-within}
use Rattle.row_lines.specs.CohortLines.{LinesOf, asked_by, asked_for, change_for, is_live_for, layout_for, ordinal_of, parent_for, row_changed, size_for, text_in_cohort, text_in_table, values_at}
use Rattle.row_lines.specs.Lines.{field, field_in_table, held_row, looked_up, value}
use Rattle.row_lines.specs.RowViews.{draws_of}
use Rattle.row_lines.specs.Lookups.{IsLookupOf, text_held}
use Rattle.row_lines.proofs.CohortLineLemmas.{asked_for-le}
use Rattle.row_lines.proofs.FieldLemmas.{field-in_table}
use Rattle.row_lines.proofs.HeldRowLemmas.{held_row-live}
use Rattle.row_lines.proofs.NullCostLemmas.{null_cost-still}
use Rattle.row_lines.proofs.PartLemmas.{null-drawn}
use Rattle.life_intervals.proofs.HeldParentLemmas.{held_parent-cascades}
use Rattle.row_lines.proofs.ReferenceFieldLemmas.{index_here, parent_of_row-by, parents-held_parent, reference_here}
use Rattle.row_lines.proofs.StillLemmas.{still_field-changed, still_parts}

-- ---- what fields take

-- but for lookups no field takes from another table
pub size_of-in_table : (delimiter : ℕ) (tables : List TableLayout) (columns : List ColumnLayout) (kind : KindLayout) → is_lookup_kind kind ≡ false →
    size_of delimiter tables columns kind ≡ size_in_table delimiter columns kind
size_of-in_table delimiter tables columns key_kind no_lookup = refl
size_of-in_table delimiter tables columns born_kind no_lookup = refl
size_of-in_table delimiter tables columns changed_kind no_lookup = refl
size_of-in_table delimiter tables columns (leaf_kind leaf) no_lookup = refl
size_of-in_table delimiter tables columns (template_kind parts) no_lookup = refl
size_of-in_table delimiter tables columns (case_kind on branches) no_lookup = refl
size_of-in_table delimiter tables columns (reference_kind parent window spread nulls drawn) no_lookup = refl
size_of-in_table delimiter tables columns (list_kind words) no_lookup = refl
size_of-in_table delimiter tables columns (unit_date_kind changed start step) no_lookup = refl
size_of-in_table delimiter tables columns (after_kind of lo hi) no_lookup = refl
size_of-in_table delimiter tables columns (sum_kind of) no_lookup = refl
size_of-in_table delimiter tables columns (product_kind of) no_lookup = refl
size_of-in_table delimiter tables columns _ no_lookup = cc

-- each has room for a null one
pub room_for_null : (delimiter : ℕ) (columns : List ColumnLayout) (kind : KindLayout) → 2 ≤ size_in_table delimiter columns kind
room_for_null delimiter columns key_kind = omega arith
room_for_null delimiter columns born_kind = omega arith
room_for_null delimiter columns changed_kind = omega arith
room_for_null delimiter columns (leaf_kind leaf) = omega arith
room_for_null delimiter columns (template_kind parts) = omega arith
room_for_null delimiter columns (case_kind on branches) = omega arith
room_for_null delimiter columns (reference_kind parent window spread nulls drawn) = omega arith
room_for_null delimiter columns (lookup_kind via parent name) = omega arith
room_for_null delimiter columns (list_kind words) = omega arith
room_for_null delimiter columns (unit_date_kind changed start step) = omega arith
room_for_null delimiter columns (after_kind of lo hi) = omega arith
room_for_null delimiter columns (sum_kind of) = omega arith
room_for_null delimiter columns (product_kind of) = omega arith

-- ---- a column that is ready as a lookup

lookup_from_ready : (delimiter : ℕ) (held : KindLayout) (lookup : ReadyLookup) → ready_kind delimiter held ≡ kind.Lookup lookup →
    held ≡ lookup_kind lookup.via lookup.parent lookup.column
lookup_from_ready delimiter (lookup_kind via parent column) lookup is =
    let same : record { via = via; parent = parent; column = column } ≡ lookup = cc in
    ap (λ (l : ReadyLookup). lookup_kind l.via l.parent l.column) same
lookup_from_ready delimiter _ lookup is = absurd (cc)

pub no_lookup-ready : (delimiter : ℕ) (held : KindLayout) → ((lookup : ReadyLookup) → ready_kind delimiter held ≡ kind.Lookup lookup → ⊥) → is_lookup_kind held ≡ false
no_lookup-ready delimiter (lookup_kind via parent column) other = absurd (other _ refl)
no_lookup-ready delimiter _ other = refl

-- a reference is ready as one, to the same table
pub reference_ready : (delimiter place : ℕ) (held : KindLayout) → IsCascadeTo place held → (ready : ReadyReference) × (ready_kind delimiter held ≡ kind.Reference ready)
reference_ready delimiter place (reference_kind parent window spread false drawn) is = (ready_reference parent window spread false drawn, refl)
reference_ready delimiter place _ is = absurd is

pub reference_to : (delimiter place : ℕ) (held : KindLayout) (ready : ReadyReference) → IsCascadeTo place held → ready_kind delimiter held ≡ kind.Reference ready → ready.parent ≡ place
reference_to delimiter place (reference_kind parent window spread false drawn) ready is held =
    let same : ready_reference parent window spread false drawn ≡ ready = cc in
    sym (ap (λ (r : ReadyReference). r.parent) same) ∙ is
reference_to delimiter place _ ready is held = absurd is

-- that doesn't become null
pub reference_cascades : (delimiter place : ℕ) (held : KindLayout) (ready : ReadyReference) → IsCascadeTo place held → ready_kind delimiter held ≡ kind.Reference ready → ready.nulls ≡ false
reference_cascades delimiter place (reference_kind parent window spread false drawn) ready is held =
    let same : ready_reference parent window spread false drawn ≡ ready = cc in
    sym (ap (λ (r : ReadyReference). r.nulls) same)
reference_cascades delimiter place _ ready is held = absurd is

-- one kind is ready as one reference
pub same_ready : {held : ReadyKind} (one other : ReadyReference) → held ≡ kind.Reference one → held ≡ kind.Reference other → one ≡ other
same_ready one other p q = cc

-- and what chooses its parent takes what the schema counts for its column
pub choice_cost-ready : (delimiter : ℕ) (held : KindLayout) (ready : ReadyReference) → ready_kind delimiter held ≡ kind.Reference ready → choice_cost_of held ≡ choice_cost ready.drawn
choice_cost-ready delimiter (reference_kind parent window spread nulls drawn) ready is =
    let same : ready_reference parent window spread nulls drawn ≡ ready = cc in
    ap (λ (r : ReadyReference). choice_cost r.drawn) same
choice_cost-ready delimiter _ ready is = absurd (cc)

module _ (lines : LinesOf) (limits : IsInLimits lines.plan) (table : lines.table < length lines.plan.schema.tables) (column : ℕ) (lookup : ReadyLookup) (of : IsLookupOf lines column lookup) where
  -- it is that of the layout
  pub kind_of_lookup : (column_at (layout_for lines).columns column).kind ≡ lookup_kind lookup.via lookup.parent lookup.column
  kind_of_lookup = lookup_from_ready (layout_of lines.plan).delimiter (column_at (layout_for lines).columns column).kind lookup of.is

  -- within its limits
  pub is_lookup : IsLookup (layout_of lines.plan).tables (layout_for lines).columns column lookup.via lookup.parent lookup.column
  is_lookup =
      subst (IsLookupInLimits (layout_of lines.plan).tables (layout_for lines).columns column) kind_of_lookup
      (limits.lookups lines.table column table of.within)

  pub looks_up_still : IsStillColumn (table_of lines.plan lookup.parent) lookup.column
  looks_up_still = is_lookup.looked_up

  -- in an earlier table
  pub looks_up_earlier : lookup.parent < lines.table
  looks_up_earlier =
      let is = reference_ready (layout_of lines.plan).delimiter lookup.parent (column_at (layout_for lines).columns lookup.via).kind is_lookup.reference in
      subst (λ (place : ℕ). place < lines.table) (reference_to (layout_of lines.plan).delimiter lookup.parent (column_at (layout_for lines).columns lookup.via).kind is.0 is_lookup.reference is.1)
      (limits_of lines.plan limits lines.table lookup.via is.0 table (record { within = omega (arith, is_lookup.earlier, of.within); is = is.1 })).earlier

  -- what it takes
  pub size-lookup : size_for lines column ≡ size_at (layout_of lines.plan).delimiter (table_of lines.plan lookup.parent).columns lookup.column
  size-lookup = ap (size_of (layout_of lines.plan).delimiter (layout_of lines.plan).tables (layout_for lines).columns) kind_of_lookup

  pub room-lookup : 2 ≤ size_for lines column
  room-lookup = omega (
    arith,
    size-lookup,
    room_for_null (layout_of lines.plan).delimiter (table_of lines.plan lookup.parent).columns (column_at (table_of lines.plan lookup.parent).columns lookup.column).kind,
  )

  pub cost_of_lookup : field_cost (layout_of lines.plan) lines.table column ≡ choice_cost_of (column_at (layout_for lines).columns lookup.via).kind + field_cost (layout_of lines.plan) lookup.parent lookup.column
  cost_of_lookup =
      cost-lookup (layout_of lines.plan) lines.table column lookup.via lookup.parent lookup.column
      (record {
        below = omega (arith, table, length-tables lines.plan);
        within = omega (arith, of.within, (limits.tables lines.table no_table (place-below lines.plan lines.table table)).column_limit);
        kind_is = kind_of_lookup;
      })
      looks_up_earlier

  pub asked-lookup : (reference : ReadyReference) → IsReferenceOf lines.plan lines.table lookup.via reference →
      asked_for true lines column
      ≡ choice_cost reference.drawn + field_cost (layout_of lines.plan) lookup.parent lookup.column
  asked-lookup reference refers =
      let shown : ℕ = field_cost (layout_of lines.plan) lookup.parent lookup.column in
      ap (asked_by true (layout_of lines.plan) lines.table column) kind_of_lookup
      ∙ cost_of_lookup
      ∙ ap (λ (chosen : ℕ). chosen + shown) (choice_cost-ready (layout_of lines.plan).delimiter (column_at (layout_for lines).columns lookup.via).kind reference refers.is)

-- ---- what it shows

-- what a living row looks up is what the parent holds that it still has, as the parent's ordinal tells
pub looked_up-held : (units : ℕ) (generator : Generator) → AreSound units generator.tables → (place : ℕ) → place < length generator.tables → (unit : ℕ) → unit ≤ units →
    (ordinal : ℕ) → ordinal < born_count (table_at generator.tables place).births unit → is_live generator place unit ordinal ≡ true →
    (via name : ℕ) (reference : Reference) → reference_at (table_at generator.tables place) via ≡ Some reference →
    looked_up generator unit place (row_at generator place unit ordinal) via reference.parent name
    ≡ option_and_then (λ (parent : ℕ). field_in_table generator reference.parent (row_at generator reference.parent unit parent) name) (held_parent generator place unit ordinal reference)
looked_up-held units generator sound place below unit within ordinal born alive via name reference is =
    let table : TableLayout = table_at generator.tables place in
    let parent : ℕ = parent_of generator place unit ordinal reference in
    let early : birth table.births unit ordinal ≤ unit = birth-le table.births unit ordinal born in
    let parent_born : parent < born_count (table_at generator.tables reference.parent).births unit = omega (
      arith,
      parent_of-born units generator sound place below unit within ordinal born via reference is,
      born_count-le (table_at generator.tables reference.parent).births (birth table.births unit ordinal) unit early,
    ) in
    let held : IfSome (held_parent generator place unit ordinal reference) (λ p. holds_row (rows_at generator reference.parent unit) p ≡ true) =
    at_column (λ (r : Reference). IfSome (held_parent generator place unit ordinal r) (λ p. holds_row (rows_at generator r.parent unit) p ≡ true)) table
    (parents-held units generator sound place below unit ordinal within (holds_row-live units generator place unit ordinal sound within born ∙ alive))
    via reference (reference_at-within table via reference is) is in
    ap (λ (o : Option ℕ). option_and_then (λ (row : Row). field_in_table generator reference.parent row name) (option_and_then (held_row generator reference.parent unit) o))
    (parent_of_row-by table (row_at generator place unit ordinal) (held_parent generator place unit ordinal) via reference (parents-held_parent generator place unit ordinal) is)
    ∙ shown (is_after (loss_of generator place unit ordinal reference) unit) parent parent_born held
  where
    shown : (test : Bool) (parent : ℕ) → parent < born_count (table_at generator.tables reference.parent).births unit →
        IfSome (if test then Some parent else None) (λ p. holds_row (rows_at generator reference.parent unit) p ≡ true) →
        option_and_then (λ (row : Row). field_in_table generator reference.parent row name) (option_and_then (held_row generator reference.parent unit) (if test then Some parent else None))
        ≡ option_and_then (λ (p : ℕ). field_in_table generator reference.parent (row_at generator reference.parent unit p) name) (if test then Some parent else None)
    shown true parent parent_born held =
        ap (option_and_then (λ (row : Row). field_in_table generator reference.parent row name))
        (held_row-live units generator reference.parent unit parent sound within parent_born
        (sym (holds_row-live units generator reference.parent unit parent sound within parent_born) ∙ held))
    shown false parent parent_born held = refl

-- so that is the field of a lookup, unless it is drawn to be null
field-lookup : (units : ℕ) (generator : Generator) → AreSound units generator.tables → (place : ℕ) → place < length generator.tables → (unit : ℕ) → unit ≤ units →
    (ordinal : ℕ) → ordinal < born_count (table_at generator.tables place).births unit → is_live generator place unit ordinal ≡ true →
    (column via name : ℕ) (reference : Reference) → (column_at (table_at generator.tables place).columns column).kind ≡ lookup_kind via reference.parent name →
    reference_at (table_at generator.tables place) via ≡ Some reference →
    field generator unit place (row_at generator place unit ordinal) column
    ≡ unless_null (column_at (table_at generator.tables place).columns column).null (draws_of generator place (row_at generator place unit ordinal) column)
    (option_and_then (λ (parent : ℕ). field_in_table generator reference.parent (row_at generator reference.parent unit parent) name) (held_parent generator place unit ordinal reference))
field-lookup units generator sound place below unit within ordinal born alive column via name reference held is =
    let row : Row = row_at generator place unit ordinal in
    let null : ℕ = (column_at (table_at generator.tables place).columns column).null in
    ap (λ (kind : KindLayout). unless_null null (draws_of generator place row column) (value generator unit place row column kind)) held
    ∙ ap (unless_null null (draws_of generator place row column)) (looked_up-held units generator sound place below unit within ordinal born alive via name reference is)

-- and that of the parent, as its own field has it
pub lookup-field : (units : ℕ) (generator : Generator) → AreSound units generator.tables → (place : ℕ) → place < length generator.tables → (unit : ℕ) → unit ≤ units →
    (ordinal : ℕ) → ordinal < born_count (table_at generator.tables place).births unit → is_live generator place unit ordinal ≡ true →
    (column via shown : ℕ) (reference : Reference) → (column_at (table_at generator.tables place).columns column).kind ≡ lookup_kind via reference.parent shown →
    reference_at (table_at generator.tables place) via ≡ Some reference →
    is_lookup_kind (column_at (table_at generator.tables reference.parent).columns shown).kind ≡ false →
    field generator unit place (row_at generator place unit ordinal) column
    ≡ unless_null (column_at (table_at generator.tables place).columns column).null (draws_of generator place (row_at generator place unit ordinal) column)
    (option_and_then (λ (parent : ℕ). field generator unit reference.parent (row_at generator reference.parent unit parent) shown) (held_parent generator place unit ordinal reference))
lookup-field units generator sound place below unit within ordinal born alive column via shown reference held is no_lookup =
    field-lookup units generator sound place below unit within ordinal born alive column via shown reference held is
    ∙ ap (unless_null (column_at (table_at generator.tables place).columns column).null (draws_of generator place (row_at generator place unit ordinal) column))
    (each_held (held_parent generator place unit ordinal reference))
  where
    each_held : (o : Option ℕ) →
        option_and_then (λ (parent : ℕ). field_in_table generator reference.parent (row_at generator reference.parent unit parent) shown) o
        ≡ option_and_then (λ (parent : ℕ). field generator unit reference.parent (row_at generator reference.parent unit parent) shown) o
    each_held None = refl
    each_held (Some parent) = sym (field-in_table generator unit reference.parent shown (row_at generator reference.parent unit parent) no_lookup)

-- the parent of a row of a cohort, by its ordinal and by its index
pub parent_of-for : (lines : LinesOf) (index : ℕ) (reference : Reference) → lines.born ≤ lines.unit → index < cohort_size (layout_for lines).births lines.born →
    parent_of (generator_of lines.plan) lines.table lines.unit (ordinal_of lines index) reference ≡ parent_for lines index reference
parent_of-for lines index reference early inside =
    let births : Births = (layout_for lines).births in
    let parent : ℕ → ℕ → ℕ = λ unit i. parent_in (record { plan = lines.plan; table = lines.table; unit = unit }) i reference in
    ap (parent (birth births lines.unit (ordinal_of lines index))) (index_here lines index early inside)
    ∙ ap (λ (unit : ℕ). parent unit index) (birth-first_ordinal births lines.unit lines.born index early inside)

-- how it is written, by the row's ordinal
pub text-looked_up : (lines : LinesOf) → IsInLimits lines.plan → lines.table < length lines.plan.schema.tables → lines.unit ≤ last_unit lines.plan →
    (column ordinal : ℕ) (lookup : ReadyLookup) (reference : ReadyReference) (null : Bool) → IsLookupOf lines column lookup →
    IsReferenceOf lines.plan lines.table lookup.via reference → reference.parent ≡ lookup.parent → reference.nulls ≡ false → ordinal < born_count (layout_for lines).births lines.unit →
    is_live (generator_of lines.plan) lines.table lines.unit ordinal ≡ true →
    is_null (column_at (layout_for lines).columns column).null (draws_of (generator_of lines.plan) lines.table (row_at (generator_of lines.plan) lines.table lines.unit ordinal) column) ≡ null →
    field_text (layout_of lines.plan).delimiter (field (generator_of lines.plan) lines.unit lines.table (row_at (generator_of lines.plan) lines.table lines.unit ordinal) column)
    ≡ (if null then codes "\\N" else text_held lines.plan lookup.parent lines.unit (parent_of (generator_of lines.plan) lines.table lines.unit ordinal (reference_by lookup.via reference)) lookup.column)
text-looked_up lines limits table within column ordinal lookup reference null of refers to cascades born alive null_is =
    let generator : Generator = generator_of lines.plan in
    let d : ℕ = (layout_of lines.plan).delimiter in
    let by : Reference = reference_by lookup.via reference in
    let is = reference_here lines lookup.via reference refers in
    let shown : ℕ → ℕ → Option (List ℕ) = λ place j. field_in_table generator place (row_at generator place lines.unit j) lookup.column in
    let kind : (column_at (layout_for lines).columns column).kind ≡ lookup_kind lookup.via by.parent lookup.column =
    kind_of_lookup lines limits table column lookup of ∙ ap (λ (place : ℕ). lookup_kind lookup.via place lookup.column) (sym to) in
    ap (field_text d)
    (field-lookup (last_unit lines.plan) generator (AreSound-accepted lines.plan limits) lines.table (omega (arith, table, length-tables lines.plan)) lines.unit within
    ordinal born alive column lookup.via lookup.column by kind is
    ∙ ap (λ (o : Option ℕ). unless_null (column_at (layout_for lines).columns column).null (draws_of generator lines.table (row_at generator lines.table lines.unit ordinal) column) (option_and_then (shown by.parent) o))
    (held_parent-cascades generator lines.table lines.unit ordinal by cascades)
    ∙ ap (λ (b : Bool). if b then None else shown by.parent (parent_of generator lines.table lines.unit ordinal by)) null_is
    ∙ ap (λ (place : ℕ). if null then None else shown place (parent_of generator lines.table lines.unit ordinal by)) to)
    ∙ of_null null (shown lookup.parent (parent_of generator lines.table lines.unit ordinal by))
  where
    of_null : (null : Bool) (held : Option (List ℕ)) → field_text (layout_of lines.plan).delimiter (if null then None else held) ≡ (if null then codes "\\N" else field_text (layout_of lines.plan).delimiter held)
    of_null true held = refl
    of_null false held = refl

-- and for a row of a cohort
pub text-lookup : (lines : LinesOf) → IsInLimits lines.plan → lines.table < length lines.plan.schema.tables → lines.born ≤ lines.unit → lines.unit ≤ last_unit lines.plan →
    (column index : ℕ) (lookup : ReadyLookup) (reference : ReadyReference) (null : Bool) → IsLookupOf lines column lookup →
    IsReferenceOf lines.plan lines.table lookup.via reference → reference.parent ≡ lookup.parent → reference.nulls ≡ false → index < cohort_size (layout_for lines).births lines.born → is_live_for lines index ≡ true →
    is_null (column_at (layout_for lines).columns column).null (draws_of (generator_of lines.plan) lines.table (row_at (generator_of lines.plan) lines.table lines.unit (ordinal_of lines index)) column) ≡ null →
    text_in_cohort lines index column ≡ (if null then codes "\\N" else text_held lines.plan lookup.parent lines.unit (parent_for lines index (reference_by lookup.via reference)) lookup.column)
text-lookup lines limits table early within column index lookup reference null of refers to cascades inside alive null_is =
    let born : ordinal_of lines index < born_count (layout_for lines).births lines.unit = omega (arith, inside, cohort-within (layout_for lines).births lines.born lines.unit early) in
    text-looked_up lines limits table within column (ordinal_of lines index) lookup reference null of refers to cascades born alive null_is
    ∙ ap (λ (j : ℕ). if null then codes "\\N" else text_held lines.plan lookup.parent lines.unit j lookup.column) (parent_of-for lines index (reference_by lookup.via reference) early inside)

-- ---- the row as it is at the unit

-- a row of a cohort is the one that changed when its layout says
row_changed-is : (lines : LinesOf) (index : ℕ) → lines.table < length lines.plan.schema.tables →
    row_changed lines index (change_for lines index) ≡ row_at (generator_of lines.plan) lines.table lines.unit (ordinal_of lines index)
row_changed-is lines index table =
    let row : Row = row_at (generator_of lines.plan) lines.table lines.unit (ordinal_of lines index) in
    ap (λ (changed : ℕ). record row { changed = changed })
    (sym (row_at-changed (generator_of lines.plan) lines.table lines.unit (ordinal_of lines index) (omega (arith, table, length-tables lines.plan))))

-- so what it holds in a column that is no lookup is its field
pub text-in_table : (lines : LinesOf) (index column : ℕ) → lines.table < length lines.plan.schema.tables → is_lookup_kind (column_at (layout_for lines).columns column).kind ≡ false →
    text_in_table lines index (change_for lines index) column ≡ text_in_cohort lines index column
text-in_table lines index column table no_lookup =
    let generator : Generator = generator_of lines.plan in
    ap (λ (row : Row). field_text (layout_of lines.plan).delimiter (field_in_table generator lines.table row column)) (row_changed-is lines index table)
    ∙ ap (field_text (layout_of lines.plan).delimiter)
    (sym (field-in_table generator lines.unit lines.table column (row_at generator lines.table lines.unit (ordinal_of lines index)) no_lookup))

-- whether its field is drawn to be null, as the values of the cohort have it
pub null-field : (lines : LinesOf) (values : ValuesOf) (column index ordinal : ℕ) → values ≡ values_at lines (change_for lines index) → ordinal ≡ ordinal_of lines index →
    lines.born ≤ lines.unit → index < cohort_size (layout_for lines).births lines.born → lines.table < length lines.plan.schema.tables →
    is_null (column_at (layout_for lines).columns column).null (draws_of (generator_of lines.plan) lines.table (row_at (generator_of lines.plan) lines.table lines.unit (ordinal_of lines index)) column)
    ≡ is_null_for values column ordinal
null-field lines values column index ordinal values_are ordinal_is early inside table =
    ap (λ (row : Row). is_null (column_at (layout_for lines).columns column).null (draws_of (generator_of lines.plan) lines.table row column)) (sym (row_changed-is lines index table))
    ∙ null-drawn lines values column index (change_for lines index) ordinal values_are ordinal_is early inside

pub text-null : (lines : LinesOf) (column index : ℕ) →
    is_null (column_at (layout_for lines).columns column).null (draws_of (generator_of lines.plan) lines.table (row_at (generator_of lines.plan) lines.table lines.unit (ordinal_of lines index)) column) ≡ true →
    text_in_cohort lines index column ≡ codes "\\N"
text-null lines column index null_is =
    let generator : Generator = generator_of lines.plan in
    let row : Row = row_at generator lines.table lines.unit (ordinal_of lines index) in
    ap (λ (b : Bool). field_text (layout_of lines.plan).delimiter (if b then None else value generator lines.unit lines.table row column (column_at (layout_for lines).columns column).kind)) null_is

-- what a row holds in a column that doesn't move, by any unit of its change
pub text-still : (lines : LinesOf) (index changed ordinal column : ℕ) → IsInLimits lines.plan → lines.table < length lines.plan.schema.tables → IsTableInLimits (last_unit lines.plan) (layout_for lines) → ordinal_of lines index ≡ ordinal → IsStillColumn (layout_for lines) column →
    text_in_table lines index changed column ≡ text_held lines.plan lines.table lines.unit ordinal column
text-still lines index changed ordinal column sound table limits ordinal_is still =
    let generator : Generator = generator_of lines.plan in
    ap (field_text (layout_of lines.plan).delimiter)
    (ap (λ (j : ℕ). field_in_table generator lines.table (record (row_at generator lines.table lines.unit j) { changed = changed }) column) ordinal_is
    ∙ still_field-changed generator lines.table (row_at generator lines.table lines.unit ordinal) changed (last_unit lines.plan) limits (λ place within. sound.lookups lines.table place table within) column still.within still.still)

-- what it takes
pub size-still : (lines : LinesOf) (column : ℕ) → IsStillColumn (layout_for lines) column →
    size_for lines column ≡ size_at (layout_of lines.plan).delimiter (layout_for lines).columns column
size-still lines column still =
    size_of-in_table (layout_of lines.plan).delimiter (layout_of lines.plan).tables (layout_for lines).columns (column_at (layout_for lines).columns column).kind still.no_lookup

pub asked-still : (lines : LinesOf) (column : ℕ) → lines.table < length lines.plan.schema.tables → IsTableInLimits (last_unit lines.plan) (layout_for lines) → IsStillColumn (layout_for lines) column →
    asked_for false lines column ≤ field_cost (layout_of lines.plan) lines.table column
asked-still lines column table limits still =
    let kind : KindLayout = (column_at (layout_for lines).columns column).kind in
    let parts = still_parts (column_at (layout_for lines).columns column).changes (is_moving_kind kind) still.still in
    omega (
      arith,
      null_cost-still (lineages (layout_of lines.plan).tables) (layout_for lines).columns kind parts.1 (limits.still column still.within parts.0),
      asked_for-le false lines column table limits still.within,
    )
