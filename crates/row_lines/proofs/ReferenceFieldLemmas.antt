-- What a row holds in a reference: the key of its parent, as long as it has it.
use Rattle.std.proofs.Common.{◌≡◌, ◌<◌, ◌≤◌, ◌^◌, ℕ, zero, suc, ◌+◌, ◌==◌, Bool, List, [], ◌∷◌, length, map, take, true, false, zip, decimal, Option, Some, None, add_comm, refl, ap, sym, eq-eqb, ne_eqb, zero-add, ◌∙◌, arith}
use Rattle.std.specs.Prelude.{find, if◌then◌else◌}
use Rattle.std.specs.List.{cons_option}
use Rattle.std.specs.Option.{option_and_then, option_map}
use Rattle.std.proofs.lemmas.List.Elements.{All-from_recursion}
use Rattle.row_text.specs.Fields.{field_text, escaped_text}
use Rattle.row_text.proofs.DigitLemmas.{escaped_text-decimal}
use Rattle.cohort_sizes.specs.Births.{Births, birth, born_count, cohort_size, first_ordinal, index_at}
use Rattle.schema_plan.specs.declared.ready.ReadyReference.{ReadyReference}
use Rattle.schema_facts.specs.Dictionaries.{Project}
use Rattle.schema_facts.specs.ColumnFacts.{field_cost}
use Rattle.schema_facts.specs.FieldSizes.{size_of}
use Rattle.schema_facts.specs.Layout.{ColumnLayout, KindLayout, TableLayout, column_at, layout_of, reference_kind, table_at}
use Rattle.schema_plan.specs.Limits.{IsInLimits, IsTableInLimits}
use Rattle.schema_facts.specs.Lineage.{choice_cost, death_cost, lineages, null_cost_of, one_if, sure_life}
use Rattle.schema_facts.specs.References.{Reference, reference_at, reference_of, references_of}
use Rattle.schema_facts.specs.declared.column_facts.ColumnFacts.{ColumnFacts}
use Rattle.schema_facts.proofs.FieldFactsLemmas.{field_facts-kind}
use Rattle.life_intervals.specs.CohortParents.{IsReferenceOf, held_cost, loss_in, parent_cost, reference_by}
use Rattle.life_intervals.specs.Generator.{Generator, generator_of, last_unit, table_of}
use Rattle.life_intervals.specs.Intervals.{Known, held_parent, held_until, is_after, known_tables, loss_by, loss_of, parent_by, parent_of, row_at}
use Rattle.life_intervals.specs.Keys.{key_of}
use Rattle.life_intervals.specs.Rows.{Row}
use Rattle.life_intervals.specs.Sound.{AreSound}
use Rattle.life_intervals.proofs.AcceptedLemmas.{AreSound-accepted, length-tables}
use Rattle.cohort_sizes.proofs.CohortLemmas.{birth-first_ordinal, birth-le}
use Rattle.life_intervals.proofs.CohortParentLemmas.{parent_in-born, ready_is}
use Rattle.life_intervals.proofs.KnownLemmas.{refers-of}
use Rattle.life_intervals.proofs.LifeLemmas.{loss_by-death, parent_of-born}
use Rattle.life_intervals.proofs.ParentLemmas.{Refers}
use Rattle.life_intervals.proofs.ReferenceLemmas.{at_column, reference_at-within, references_in}
use Rattle.row_lines.specs.CohortLines.{LinesOf, asked_alone, asked_by, asked_for, layout_for, ordinal_of, held_for, held_key_for, parent_for, reference_value, row_changed, size_for, text_in_table, unless_known}
use Rattle.row_lines.specs.Lines.{field, field_in_table, value, value_in_table}
use Rattle.row_lines.specs.RowViews.{draws_of, parent_of_row}
use Rattle.row_lines.proofs.FieldLemmas.{unless_null-never}
use Rattle.row_lines.proofs.LineLemmas.{key_of-by}

-- ---- a column that has a reference

same_reference : (k : ℕ) (held : KindLayout) (reference : Reference) → reference_of k held ≡ Some reference →
    (held ≡ reference_kind reference.parent reference.window reference.spread reference.nulls reference.drawn) × (reference.column ≡ k)
same_reference k (reference_kind parent window spread nulls drawn) reference is =
    let same : record { column = k; parent = parent; window = window; spread = spread; nulls = nulls; drawn = drawn } ≡ reference = cc in
    (ap (λ (r : Reference). reference_kind r.parent r.window r.spread r.nulls r.drawn) same, sym (ap (λ (r : Reference). r.column) same))
same_reference k _ reference is = absurd (cc)

-- is of that kind
pub kind_is : (table : TableLayout) (column : ℕ) (reference : Reference) → reference_at table column ≡ Some reference →
    (column_at table.columns column).kind ≡ reference_kind reference.parent reference.window reference.spread reference.nulls reference.drawn
kind_is table column reference is = (same_reference column (column_at table.columns column).kind reference is).0

-- ---- the parent of a row, by its column

-- what stands beside the reference of a column
abbrev beside : (Reference → Option ℕ) → ℕ → List Reference → Option ℕ
beside f column references =
    option_and_then (λ (at : Reference × Option ℕ). at.1) (find (λ (at : Reference × Option ℕ). at.0.column == column) (zip references (map f references)))

beside-first : (f : Reference → Option ℕ) (column : ℕ) (first : Reference) (others : List Reference) → first.column ≡ column → beside f column (first ∷ others) ≡ f first
beside-first f column first others same = rw (eq-eqb first.column column same) refl

beside-later : (f : Reference → Option ℕ) (column : ℕ) (found : Option Reference) (others : List Reference) → ((first : Reference) → found ≡ Some first → first.column ≡ column → ⊥) →
    beside f column (cons_option found others) ≡ beside f column others
beside-later f column None others other = refl
beside-later f column (Some first) others other = rw (ne_eqb first.column column (λ same. other first refl same)) refl

beside_in : (f : Reference → Option ℕ) (start : ℕ) (columns : List ColumnLayout) (i : ℕ) (reference : Reference) → i < length columns →
    reference_of (start + i) (column_at columns i).kind ≡ Some reference → beside f (start + i) (references_in start columns) ≡ f reference
beside_in f start [] i reference below is = absurd (omega (arith, below))
beside_in f start (column ∷ others) zero reference below is =
    let at : start ≡ start + 0 = omega arith in
    let found : reference_of start column.kind ≡ Some reference = ap (λ (k : ℕ). reference_of k column.kind) at ∙ is in
    ap (λ (o : Option Reference). beside f (start + 0) (cons_option o (references_in (start + 1) others))) found
    ∙ beside-first f (start + 0) reference (references_in (start + 1) others) (same_reference (start + 0) column.kind reference is).1
beside_in f start (column ∷ others) (suc i) reference below is =
    let at : start + suc i ≡ start + 1 + i = omega arith in
    beside-later f (start + suc i) (reference_of start column.kind) (references_in (start + 1) others)
    (λ first found same. omega (arith, same, (same_reference start column.kind first found).1))
    ∙ ap (λ (k : ℕ). beside f k (references_in (start + 1) others)) at
    ∙ beside_in f (start + 1) others i reference (omega (arith, below)) (ap (λ (k : ℕ). reference_of k (column_at others i).kind) (sym at) ∙ is)

-- a row that has this of the parent by each reference has that of the column's
pub parent_of_row-by : (table : TableLayout) (row : Row) (f : Reference → Option ℕ) (column : ℕ) (reference : Reference) → row.parents ≡ map f (references_of table) →
    reference_at table column ≡ Some reference → parent_of_row table row column ≡ f reference
parent_of_row-by table row f column reference are is =
    ap (λ (parents : List (Option ℕ)). option_and_then (λ (at : Reference × Option ℕ). at.1) (find (λ (at : Reference × Option ℕ). at.0.column == column) (zip (references_of table) parents))) are
    ∙ ap (λ (k : ℕ). beside f k (references_of table)) (sym (zero-add column))
    ∙ beside_in f 0 table.columns column reference (reference_at-within table column reference is) (ap (λ (k : ℕ). reference_of k (column_at table.columns column).kind) (zero-add column) ∙ is)

-- what is made of two lists side by side
map-zip : {A B C D : Type 0} (h : B × C → D) (f : A → B) (g : A → C) (xs : List A) → map h (zip (map f xs) (map g xs)) ≡ map (λ x. h (f x, g x)) xs
map-zip h f g [] = refl
map-zip h f g (x ∷ xs) = ap (λ rest. h (f x, g x) ∷ rest) (map-zip h f g xs)

-- a row has by each reference the parent that it still has at the unit
pub parents-held_parent : (generator : Generator) (place unit ordinal : ℕ) →
    (row_at generator place unit ordinal).parents ≡ map (held_parent generator place unit ordinal) (references_of (table_at generator.tables place))
parents-held_parent generator place unit ordinal =
    map-zip (λ (at : ℕ × Option ℕ). held_until at.1 unit at.0) (parent_of generator place unit ordinal) (loss_of generator place unit ordinal) (references_of (table_at generator.tables place))

-- ---- its field

-- what is made of a parent that a row still has
pub of_held : {A : Type 0} (loss : Option ℕ) (unit parent : ℕ) (f g : ℕ → A) → f parent ≡ g parent → option_map f (held_until loss unit parent) ≡ option_map g (held_until loss unit parent)
of_held loss unit parent f g same = by_test (is_after loss unit)
  where
    by_test : (test : Bool) → option_map f (if test then Some parent else None) ≡ option_map g (if test then Some parent else None)
    by_test true = ap Some same
    by_test false = refl

-- the key of the parent, as it is at the row's birth
pub field-parent : (generator : Generator) (unit place ordinal column : ℕ) (reference : Reference) → reference_at (table_at generator.tables place) column ≡ Some reference →
    (column_at (table_at generator.tables place).columns column).null ≡ 0 →
    field generator unit place (row_at generator place unit ordinal) column
    ≡ option_map (λ (parent : ℕ). decimal (key_of generator reference.parent (birth (table_at generator.tables place).births unit ordinal) parent)) (held_parent generator place unit ordinal reference)
field-parent generator unit place ordinal column reference is never =
    let row : Row = row_at generator place unit ordinal in
    let table : TableLayout = table_at generator.tables place in
    let of : ColumnLayout = column_at table.columns column in
    unless_null-never of.null (draws_of generator place row column) (value generator unit place row column of.kind) never
    ∙ ap (value generator unit place row column) (kind_is table column reference is)
    ∙ ap (option_map (λ (parent : ℕ). decimal (key_of generator reference.parent row.born parent)))
    (parent_of_row-by table row (held_parent generator place unit ordinal) column reference (parents-held_parent generator place unit ordinal) is)

-- whatever the unit of the row's last change
in_table-parent : (generator : Generator) (unit place ordinal column changed : ℕ) (reference : Reference) → reference_at (table_at generator.tables place) column ≡ Some reference →
    (column_at (table_at generator.tables place).columns column).null ≡ 0 →
    field_in_table generator place (record (row_at generator place unit ordinal) { changed = changed }) column
    ≡ option_map (λ (parent : ℕ). decimal (key_of generator reference.parent (birth (table_at generator.tables place).births unit ordinal) parent)) (held_parent generator place unit ordinal reference)
in_table-parent generator unit place ordinal column changed reference is never =
    let row : Row = record (row_at generator place unit ordinal) { changed = changed } in
    let table : TableLayout = table_at generator.tables place in
    let of : ColumnLayout = column_at table.columns column in
    unless_null-never of.null (draws_of generator place row column) (value_in_table generator place row column of.kind) never
    ∙ ap (value_in_table generator place row column) (kind_is table column reference is)
    ∙ ap (option_map (λ (parent : ℕ). decimal (key_of generator reference.parent row.born parent)))
    (parent_of_row-by table row (held_parent generator place unit ordinal) column reference (parents-held_parent generator place unit ordinal) is)

-- which is its key at any unit by which the row is born
pub field-reference : (units : ℕ) (generator : Generator) → AreSound units generator.tables → (place : ℕ) → place < length generator.tables → (unit : ℕ) → unit ≤ units →
    (ordinal : ℕ) → ordinal < born_count (table_at generator.tables place).births unit → (column : ℕ) (reference : Reference) → reference_at (table_at generator.tables place) column ≡ Some reference →
    (column_at (table_at generator.tables place).columns column).null ≡ 0 →
    field generator unit place (row_at generator place unit ordinal) column
    ≡ option_map (λ (parent : ℕ). decimal (key_of generator reference.parent unit parent)) (held_parent generator place unit ordinal reference)
field-reference units generator sound place below unit within ordinal born column reference is never =
    let births : Births = (table_at generator.tables place).births in
    let parent : ℕ = parent_of generator place unit ordinal reference in
    field-parent generator unit place ordinal column reference is never
    ∙ of_held (loss_of generator place unit ordinal reference) unit parent
    (λ (p : ℕ). decimal (key_of generator reference.parent (birth births unit ordinal) p)) (λ (p : ℕ). decimal (key_of generator reference.parent unit p))
    (ap decimal (sym (key_of-by generator unit (birth births unit ordinal) reference.parent parent
    (birth-le births unit ordinal born) (parent_of-born units generator sound place below unit within ordinal born column reference is))))

-- ---- in a cohort

-- the reference that is ready in a column of a table within its limits
pub reference_here : (lines : LinesOf) (column : ℕ) (ready : ReadyReference) → IsReferenceOf lines.plan lines.table column ready → reference_at (layout_for lines) column ≡ Some (reference_by column ready)
reference_here lines column ready of = (ready_is lines.plan lines.table column ready of).is

-- what its field takes: the permutations that tell the parent which it still has, and that of the key
held_cost-null_cost : (tables : List TableLayout) (reference : Reference) (nulls : Bool) → reference.nulls ≡ nulls →
    held_cost tables reference ≡ null_cost_of (lineages tables) (reference_kind reference.parent reference.window reference.spread nulls reference.drawn) + choice_cost reference.drawn
held_cost-null_cost tables reference true is = ap (λ (b : Bool). if b then parent_cost tables reference else choice_cost reference.drawn) is ∙ add_comm (choice_cost reference.drawn) (death_cost tables reference.parent)
held_cost-null_cost tables reference false is = ap (λ (b : Bool). if b then parent_cost tables reference else choice_cost reference.drawn) is ∙ sym (zero-add (choice_cost reference.drawn))

pub asked-reference : (known : Bool) (lines : LinesOf) (column : ℕ) (ready : ReadyReference) → lines.table < length lines.plan.schema.tables → IsTableInLimits (last_unit lines.plan) (layout_for lines) →
    IsReferenceOf lines.plan lines.table column ready →
    asked_alone known (layout_of lines.plan) lines.table column
    ≡ held_cost (layout_of lines.plan).tables (reference_by column ready) + one_if (table_of lines.plan ready.parent).key.scramble
asked-reference known lines column ready below own of =
    let tables : List TableLayout = (layout_of lines.plan).tables in
    let reference : Reference = reference_by column ready in
    let kind : KindLayout = reference_kind reference.parent reference.window reference.spread reference.nulls reference.drawn in
    let is = kind_is (layout_for lines) column reference (reference_here lines column ready of) in
    ap (λ (held : KindLayout). unless_known held known (null_cost_of (lineages tables) held + field_cost (layout_of lines.plan) lines.table column)) is
    ∙ ap (λ (cost : ℕ). null_cost_of (lineages tables) kind + cost)
    (ap (λ (facts : ColumnFacts). facts.cost)
    (field_facts-kind (layout_of lines.plan) lines.table column kind
    (record { below = omega (arith, below, length-tables lines.plan); within = omega (arith, of.within, own.column_limit); kind_is = is })))
    ∙ sum (null_cost_of (lineages tables) kind) (held_cost tables reference) (choice_cost reference.drawn) (one_if (table_of lines.plan ready.parent).key.scramble) (held_cost-null_cost tables reference reference.nulls refl)
  where
    sum : (null held choice scramble : ℕ) → held ≡ null + choice → null + (choice + scramble) ≡ held + scramble
    sum null held choice scramble is = omega arith

pub asked_by-reference : (known : Bool) (lines : LinesOf) (column : ℕ) (ready : ReadyReference) → lines.table < length lines.plan.schema.tables → IsTableInLimits (last_unit lines.plan) (layout_for lines) → IsReferenceOf lines.plan lines.table column ready →
    asked_for known lines column ≡ held_cost (layout_of lines.plan).tables (reference_by column ready) + one_if (table_of lines.plan ready.parent).key.scramble
asked_by-reference known lines column ready below own of =
    ap (asked_by known (layout_of lines.plan) lines.table column) (kind_is (layout_for lines) column (reference_by column ready) (reference_here lines column ready of))
    ∙ asked-reference known lines column ready below own of

pub size-reference : (lines : LinesOf) (column : ℕ) (ready : ReadyReference) → IsReferenceOf lines.plan lines.table column ready → size_for lines column ≡ 20
size-reference lines column ready of =
    ap (size_of (layout_of lines.plan).delimiter (layout_of lines.plan).tables (layout_for lines).columns)
    (kind_is (layout_for lines) column (reference_by column ready) (reference_here lines column ready of))

pub index_here : (lines : LinesOf) (index : ℕ) → lines.born ≤ lines.unit → index < cohort_size (layout_for lines).births lines.born → index_at (layout_for lines).births lines.unit (ordinal_of lines index) ≡ index
index_here lines index early inside =
    omega (arith, ap (first_ordinal (layout_for lines).births) (birth-first_ordinal (layout_for lines).births lines.unit lines.born index early inside))

-- the parent that a row of the cohort still has, by its ordinal and by its index
pub held_parent-for : (lines : LinesOf) → IsInLimits lines.plan → lines.table < length lines.plan.schema.tables → lines.born ≤ lines.unit → lines.unit ≤ last_unit lines.plan →
    (column index : ℕ) (ready : ReadyReference) → IsReferenceOf lines.plan lines.table column ready → index < cohort_size (layout_for lines).births lines.born →
    held_parent (generator_of lines.plan) lines.table lines.unit (ordinal_of lines index) (reference_by column ready) ≡ held_for lines index (reference_by column ready)
held_parent-for lines limits below early within column index ready of inside =
    let plan : Project = lines.plan in
    let generator : Generator = generator_of plan in
    let units : ℕ = last_unit plan in
    let reference : Reference = reference_by column ready in
    let births : Births = (layout_for lines).births in
    let earlier : List Known = take lines.table (known_tables generator) in
    let sound : AreSound units generator.tables = AreSound-accepted plan limits in
    let place : lines.table < length generator.tables = omega (arith, below, length-tables plan) in
    let is = reference_here lines column ready of in
    let refers : Refers units earlier (sure_life generator.tables) births reference =
    at_column (Refers units earlier (sure_life generator.tables) births) (layout_for lines)
    (All-from_recursion (Refers units earlier (sure_life generator.tables) births) (references_of (layout_for lines)) (refers-of units generator sound lines.table place))
    column reference of.within is in
    let held : ℕ → ℕ → Option ℕ = λ born i. held_until (loss_by generator.order earlier born i reference) lines.unit (parent_by generator.order earlier born i reference) in
    ap (held (birth births lines.unit (ordinal_of lines index))) (index_here lines index early inside)
    ∙ ap (λ (born : ℕ). held born index) (birth-first_ordinal births lines.unit lines.born index early inside)
    ∙ ap (λ (loss : Option ℕ). held_until loss lines.unit (parent_for lines index reference))
    (loss_by-death units generator sound lines.table place lines.born index (omega (arith, early, within)) inside units (omega (arith, early, within)) reference refers)

-- what it holds
pub held-reference : (lines : LinesOf) → IsInLimits lines.plan → IsTableInLimits (last_unit lines.plan) (layout_for lines) → lines.table < length lines.plan.schema.tables → lines.born ≤ lines.unit → lines.unit ≤ last_unit lines.plan →
    (column index changed : ℕ) (ready : ReadyReference) → IsReferenceOf lines.plan lines.table column ready → index < cohort_size (layout_for lines).births lines.born →
    field_in_table (generator_of lines.plan) lines.table (row_changed lines index changed) column ≡ reference_value lines index (reference_by column ready)
held-reference lines limits own below early within column index changed ready of inside =
    let plan : Project = lines.plan in
    let generator : Generator = generator_of plan in
    let reference : Reference = reference_by column ready in
    let births : Births = (layout_for lines).births in
    let is = reference_here lines column ready of in
    let born_is : birth births lines.unit (ordinal_of lines index) ≡ lines.born = birth-first_ordinal births lines.unit lines.born index early inside in
    let parent : ℕ = parent_for lines index reference in
    let key : ℕ → ℕ → List ℕ = λ unit p. decimal (key_of generator reference.parent unit p) in
    in_table-parent generator lines.unit lines.table (ordinal_of lines index) column changed reference is (own.reference_never_null column reference of.within is)
    ∙ ap (option_map (key (birth births lines.unit (ordinal_of lines index)))) (held_parent-for lines limits below early within column index ready of inside)
    ∙ ap (λ (unit : ℕ). option_map (key unit) (held_for lines index reference)) born_is
    ∙ of_held (loss_in (record { plan = plan; table = lines.table; unit = lines.born }) index reference) lines.unit parent (key lines.born) (key (last_unit plan))
    (ap decimal (sym (key_of-by generator (last_unit plan) lines.born reference.parent parent (omega (arith, early, within))
    (parent_in-born plan limits lines.table column lines.born index ready below of (omega (arith, early, within)) inside))))
    ∙ sym (option_map-option_map decimal (key_of generator reference.parent (last_unit plan)) (held_for lines index reference))
  where
    option_map-option_map : {A B C : Type 0} (g : B → C) (f : A → B) (o : Option A) → option_map g (option_map f o) ≡ option_map (λ x. g (f x)) o
    option_map-option_map g f None = refl
    option_map-option_map g f (Some x) = refl

-- how it is written
pub text-reference : (lines : LinesOf) → IsInLimits lines.plan → IsTableInLimits (last_unit lines.plan) (layout_for lines) → lines.table < length lines.plan.schema.tables → lines.born ≤ lines.unit → lines.unit ≤ last_unit lines.plan →
    (column index changed : ℕ) (ready : ReadyReference) → IsReferenceOf lines.plan lines.table column ready → index < cohort_size (layout_for lines).births lines.born →
    text_in_table lines index changed column ≡ field_text (layout_of lines.plan).delimiter (reference_value lines index (reference_by column ready))
text-reference lines limits own below early within column index changed ready of inside =
    ap (field_text (layout_of lines.plan).delimiter) (held-reference lines limits own below early within column index changed ready of inside)

-- what is written for a key that the row still has, and for none
pub written-key : (lines : LinesOf) (index key : ℕ) (reference : Reference) → Some key ≡ held_key_for lines index reference → key < 2 ^ 64 →
    (reference_value lines index reference ≡ Some (decimal key)) × (escaped_text (layout_of lines.plan).delimiter (decimal key) ≡ decimal key)
written-key lines index key reference is small =
    (sym (ap (option_map decimal) is), escaped_text-decimal (layout_of lines.plan).delimiter key small)
