-- The fields of a row of a cohort, but for lookups.
use Rattle.std.proofs.Common.{◌≡◌, ◌<◌, ◌≤◌, ◌^◌, ℕ, zero, suc, ◌+◌, Bool, false, true, List, [], length, codes, decimal, Option, Some, None, get_or, if◌then◌else◌, refl, ap, sym, subst, zero-add, ◌∙◌, arith}
use Rattle.std.proofs.lemmas.List.{get_or-map, length-map}
use Rattle.row_text.specs.Fields.{field_text}
use Rattle.row_text.proofs.DigitLemmas.{escaped_text-decimal}
use Rattle.schema_facts.specs.declared.column_facts.ColumnFacts.{ColumnFacts}
use Rattle.schema_plan.specs.declared.ready.ReadyAfter.{ReadyAfter}
use Rattle.schema_plan.specs.declared.ready.ReadyColumn.{ReadyColumn}
use Rattle.schema_plan.specs.declared.ready.ReadyKind.TheVariants.{After, Key, Product, Reference, Sum, Template}
use Rattle.schema_plan.specs.declared.ready.ReadyPart.{ReadyPart}
use Rattle.schema_plan.specs.declared.ready.ReadyReference.{ReadyReference}
use Rattle.cohort_sizes.specs.Births.{cohort_size, first_ordinal}
use Rattle.schema_facts.specs.ColumnFacts.{field_cost}
use Rattle.schema_facts.specs.FieldSizes.{size_of}
use Rattle.schema_facts.specs.Layout.{ColumnLayout, KindLayout, born_kind, case_kind, changed_kind, column_at, key_kind, layout_of, leaf_kind, list_kind, unit_date_kind, after_kind, sum_kind, product_kind, no_column, reference_kind, template_kind}
use Rattle.schema_plan.specs.Limits.{is_lookup_kind}
use Rattle.schema_facts.specs.Lineage.{lineages, null_cost_of, one_if}
use Rattle.schema_plan.specs.Ready.{ready_column, ready_columns, ready_kind}
use Rattle.schema_facts.proofs.FieldFactsLemmas.{IsColumnOf, field_facts-kind}
use Rattle.draw_values.specs.CohortValues.{ValuesOf, value_for}
use Rattle.draw_values.specs.declared.values.Put.TheVariants.{Text, Null}
use Rattle.draw_values.specs.Values.{is_own, put_of, written}
use Rattle.life_intervals.specs.Generator.{Generator, generator_of, last_unit}
use Rattle.life_intervals.specs.Intervals.{row_at}
use Rattle.life_intervals.specs.Keys.{key_in_cohort}
use Rattle.life_intervals.specs.Rows.{Row, index_in_cohort}
use Rattle.cohort_sizes.proofs.CohortLemmas.{birth-first_ordinal, cohort-within}
use Rattle.life_intervals.proofs.AcceptedLemmas.{length-tables}
use Rattle.row_lines.specs.CohortLines.{AreFieldsOf, LinesOf, asked_alone, asked_by, asked_for, key_for, layout_for, ordinal_of, row_changed, size_for, text_in_table, unless_known, values_at}
use Rattle.row_lines.specs.Lines.{field_in_table}
use Rattle.row_lines.proofs.FieldLemmas.{in_table-key, in_table-own}

-- what is kept is of the fields that a contract sees
pub AreFieldsOf-view : (kept lines : LinesOf) (columns : List ReadyColumn) (first : ℕ) → kept ≡ lines → AreFieldsOf kept columns first → AreFieldsOf lines columns first
AreFieldsOf-view kept lines columns first same known = subst (λ (of : LinesOf). AreFieldsOf of columns first) same known

-- ---- columns

-- the column at a place is of its kind
pub column_here : (lines : LinesOf) (columns : List ReadyColumn) (first : ℕ) → AreFieldsOf lines columns first → (place : ℕ) (kind : KindLayout) → place < length (layout_for lines).columns →
    (column_at (layout_for lines).columns place).kind ≡ kind → IsColumnOf (layout_of lines.plan) lines.table place kind
column_here lines columns first known place kind within is =
    record { below = omega (arith, known.table, length-tables lines.plan); within = omega (arith, within, known.limits.column_limit); kind_is = is }

-- as many columns as the schema has
pub length-columns : (lines : LinesOf) (columns : List ReadyColumn) → columns ≡ ready_columns (layout_of lines.plan) lines.table → length (layout_for lines).columns ≡ length columns
length-columns lines columns are =
    sym (ap (λ (ready : List ReadyColumn). length ready) are
    ∙ length-map (layout_for lines).columns (ready_column (layout_of lines.plan).delimiter))

-- the column at a place is ready for what the layout has there
pub ready_at : (lines : LinesOf) (columns : List ReadyColumn) → columns ≡ ready_columns (layout_of lines.plan) lines.table →
    (place : ℕ) (column : ReadyColumn) → place < length (layout_for lines).columns → column ≡ get_or columns place column →
    ready_column (layout_of lines.plan).delimiter (column_at (layout_for lines).columns place) ≡ column
ready_at lines columns are place column within is =
    sym (is
    ∙ ap (λ (ready : List ReadyColumn). get_or ready place column) are
    ∙ get_or-map (ready_column (layout_of lines.plan).delimiter) (layout_for lines).columns place no_column column within)

-- a column that is ready as a key is one, and any other that is no template, reference or lookup is made of units and of draws
pub key_from_ready : (delimiter : ℕ) (kind : KindLayout) → ready_kind delimiter kind ≡ Key → kind ≡ key_kind
key_from_ready delimiter key_kind is = refl
key_from_ready delimiter _ is = cc

-- which is made of other columns' days or numbers
abbrev pub is_derived : KindLayout → Bool
is_derived (after_kind of lo hi) = true
is_derived (sum_kind of) = true
is_derived (product_kind of) = true
is_derived _ = false

-- as a column is ready
pub derived_from_ready : (delimiter : ℕ) (kind : KindLayout) → ((after : ReadyAfter) → ready_kind delimiter kind ≡ After after → ⊥) → ((of : List ℕ) → ready_kind delimiter kind ≡ Sum of → ⊥) →
    ((of : List ℕ) → ready_kind delimiter kind ≡ Product of → ⊥) → is_derived kind ≡ false
derived_from_ready delimiter (after_kind of lo hi) no_after no_sum no_product = absurd (no_after _ refl)
derived_from_ready delimiter (sum_kind of) no_after no_sum no_product = absurd (no_sum _ refl)
derived_from_ready delimiter (product_kind of) no_after no_sum no_product = absurd (no_product _ refl)
derived_from_ready delimiter _ no_after no_sum no_product = refl

pub own_from_ready : (delimiter : ℕ) (kind : KindLayout) → is_lookup_kind kind ≡ false → is_derived kind ≡ false → (ready_kind delimiter kind ≡ Key → ⊥) →
    ((parts : List ReadyPart) → ready_kind delimiter kind ≡ Template parts → ⊥) → ((reference : ReadyReference) → ready_kind delimiter kind ≡ Reference reference → ⊥) → is_own kind ≡ true
own_from_ready delimiter (after_kind of lo hi) no_lookup no_derived no_key no_template no_reference = absurd (cc)
own_from_ready delimiter (sum_kind of) no_lookup no_derived no_key no_template no_reference = absurd (cc)
own_from_ready delimiter (product_kind of) no_lookup no_derived no_key no_template no_reference = absurd (cc)
own_from_ready delimiter key_kind no_lookup no_derived no_key no_template no_reference = absurd (no_key refl)
own_from_ready delimiter born_kind no_lookup no_derived no_key no_template no_reference = refl
own_from_ready delimiter changed_kind no_lookup no_derived no_key no_template no_reference = refl
own_from_ready delimiter (leaf_kind leaf) no_lookup no_derived no_key no_template no_reference = refl
own_from_ready delimiter (template_kind parts) no_lookup no_derived no_key no_template no_reference = absurd (no_template _ refl)
own_from_ready delimiter (case_kind on branches) no_lookup no_derived no_key no_template no_reference = refl
own_from_ready delimiter (reference_kind parent window spread nulls drawn) no_lookup no_derived no_key no_template no_reference = absurd (no_reference _ refl)
own_from_ready delimiter (list_kind words) no_lookup no_derived no_key no_template no_reference = refl
own_from_ready delimiter (unit_date_kind changed start step) no_lookup no_derived no_key no_template no_reference = refl
own_from_ready delimiter _ no_lookup no_derived no_key no_template no_reference = cc

-- a key is never null
pub key_never_null : (columns : List ColumnLayout) (place : ℕ) → (column_at columns 0).null ≡ 0 →
    ((other : ℕ) → suc other < length columns → (column_at columns (suc other)).kind ≡ key_kind → ⊥) →
    place < length columns → (column_at columns place).kind ≡ key_kind → (column_at columns place).null ≡ 0
key_never_null columns zero never no_other within is = never
key_never_null columns (suc other) never no_other within is = absurd (no_other other within is)

-- ---- the rows of a cohort

-- a row is born at the cohort's unit
pub born_of_index : (lines : LinesOf) (index : ℕ) → lines.born ≤ lines.unit → index < cohort_size (layout_for lines).births lines.born →
    (row_at (generator_of lines.plan) lines.table lines.unit (ordinal_of lines index)).born ≡ lines.born
born_of_index lines index within below = birth-first_ordinal (layout_for lines).births lines.unit lines.born index within below

-- its ordinal is no sum past 64 bits
pub ordinal-limit : (lines : LinesOf) (columns : List ReadyColumn) (first : ℕ) → AreFieldsOf lines columns first →
    (index : ℕ) → index < cohort_size (layout_for lines).births lines.born → first + index < 2 ^ 64
ordinal-limit lines columns first known index below =
    omega (
      arith,
      known.first_is,
      known.limits.births.row_limit,
      cohort-within (layout_for lines).births lines.born (last_unit lines.plan) (omega (arith, known.born, known.unit)),
    )

-- ---- what they hold

-- what the row with an index in the cohort, as one that changed last at a unit, holds in the column at a place
abbrev pub held_in_table : LinesOf → ℕ → ℕ → ℕ → Option (List ℕ)
held_in_table lines index changed place = field_in_table (generator_of lines.plan) lines.table (row_changed lines index changed) place

-- what a key takes, and how it is written
pub size-key : (lines : LinesOf) (place : ℕ) → (column_at (layout_for lines).columns place).kind ≡ key_kind → size_for lines place ≡ 20
size-key lines place is =
    ap (size_of (layout_of lines.plan).delimiter (layout_of lines.plan).tables (layout_for lines).columns) is

-- how many permutations: none where it is known
pub cost-key : (lines : LinesOf) (place : ℕ) → IsColumnOf (layout_of lines.plan) lines.table place key_kind → field_cost (layout_of lines.plan) lines.table place ≡ one_if (layout_for lines).key.scramble
cost-key lines place of = ap (λ (facts : ColumnFacts). facts.cost) (field_facts-kind (layout_of lines.plan) lines.table place key_kind of)

pub asked-key : (known : Bool) (lines : LinesOf) (place : ℕ) → IsColumnOf (layout_of lines.plan) lines.table place key_kind →
    asked_alone known (layout_of lines.plan) lines.table place ≡ (if known then 0 else one_if (layout_for lines).key.scramble)
asked-key known lines place of =
    ap (λ (kind : KindLayout). unless_known kind known (null_cost_of (lineages (layout_of lines.plan).tables) kind + field_cost (layout_of lines.plan) lines.table place)) of.kind_is
    ∙ by_known known (field_cost (layout_of lines.plan) lines.table place) (cost-key lines place of)
  where
    by_known : (known : Bool) (cost : ℕ) → cost ≡ one_if (layout_for lines).key.scramble → unless_known key_kind known (0 + cost) ≡ (if known then 0 else one_if (layout_for lines).key.scramble)
    by_known true cost is = refl
    by_known false cost is = zero-add cost ∙ is

pub asked_by-key : (known : Bool) (lines : LinesOf) (place : ℕ) → IsColumnOf (layout_of lines.plan) lines.table place key_kind →
    asked_for known lines place ≡ (if known then 0 else one_if (layout_for lines).key.scramble)
asked_by-key known lines place of =
    ap (asked_by known (layout_of lines.plan) lines.table place) of.kind_is ∙ asked-key known lines place of

pub held-key : (lines : LinesOf) (place index changed key : ℕ) → (column_at (layout_for lines).columns place).kind ≡ key_kind →
    (column_at (layout_for lines).columns place).null ≡ 0 → lines.born ≤ lines.unit →
    index < cohort_size (layout_for lines).births lines.born → key ≡ key_for lines index →
    held_in_table lines index changed place ≡ Some (decimal key)
held-key lines place index changed key is never within below key_is =
    let generator : Generator = generator_of lines.plan in
    let row : Row = row_changed lines index changed in
    let born_is = born_of_index lines index within below in
    let index_is : index_in_cohort (layout_for lines) row ≡ index = omega (arith, ap (first_ordinal (layout_for lines).births) born_is) in
    in_table-key generator lines.table place row is never
    ∙ ap (λ (i : ℕ). Some (decimal (key_in_cohort generator lines.table row.born i))) index_is
    ∙ ap (λ (born : ℕ). Some (decimal (key_in_cohort generator lines.table born index))) born_is
    ∙ ap (λ (k : ℕ). Some (decimal k)) (sym key_is)

pub text-key : (lines : LinesOf) (place index changed key : ℕ) → (column_at (layout_for lines).columns place).kind ≡ key_kind →
    (column_at (layout_for lines).columns place).null ≡ 0 → lines.born ≤ lines.unit →
    index < cohort_size (layout_for lines).births lines.born → key ≡ key_for lines index → key < 2 ^ 64 →
    text_in_table lines index changed place ≡ decimal key
text-key lines place index changed key is never within below key_is small =
    ap (field_text (layout_of lines.plan).delimiter) (held-key lines place index changed key is never within below key_is)
    ∙ escaped_text-decimal (layout_of lines.plan).delimiter key small

-- what is made of a row's units is made of the cohort's birth and of the unit of the change
pub of_units : {A : Type 0} (lines : LinesOf) (index changed : ℕ) (f : ℕ → ℕ → A) → lines.born ≤ lines.unit → index < cohort_size (layout_for lines).births lines.born →
    f (row_changed lines index changed).born (row_changed lines index changed).changed ≡ f lines.born changed
of_units lines index changed f within below = ap (λ (born : ℕ). f born changed) (born_of_index lines index within below)

-- what a column holds that needs no other row, as the values of the cohort have it
pub held-own : (lines : LinesOf) (values : ValuesOf) (place index changed ordinal : ℕ) → values ≡ values_at lines changed →
    ordinal ≡ ordinal_of lines index → is_own (column_at (layout_for lines).columns place).kind ≡ true → lines.born ≤ lines.unit →
    index < cohort_size (layout_for lines).births lines.born → held_in_table lines index changed place ≡ value_for values place ordinal
held-own lines values place index changed ordinal values_are ordinal_is own within below =
    in_table-own (generator_of lines.plan) lines.table place (row_changed lines index changed) own
    ∙ of_units lines index changed (λ (born at : ℕ). value_for (record { plan = lines.plan; table = lines.table; born = born; changed = at }) place (ordinal_of lines index)) within below
    ∙ ap (value_for (values_at lines changed) place) (sym ordinal_is)
    ∙ ap (λ (of : ValuesOf). value_for of place ordinal) (sym values_are)

pub text-own : (lines : LinesOf) (values : ValuesOf) (place index changed ordinal : ℕ) → values ≡ values_at lines changed →
    ordinal ≡ ordinal_of lines index → is_own (column_at (layout_for lines).columns place).kind ≡ true → lines.born ≤ lines.unit →
    index < cohort_size (layout_for lines).births lines.born → text_in_table lines index changed place ≡ field_text (layout_of lines.plan).delimiter (value_for values place ordinal)
text-own lines values place index changed ordinal values_are ordinal_is own within below =
    ap (field_text (layout_of lines.plan).delimiter) (held-own lines values place index changed ordinal values_are ordinal_is own within below)

-- a value that isn't null is written as its field, and a null one leaves nothing before it
pub written-text : (delimiter : ℕ) (value : Option (List ℕ)) → Text ≡ put_of value → written delimiter value ≡ field_text delimiter value
written-text delimiter (Some text) is = refl
written-text delimiter None is = cc

pub written-null : (delimiter : ℕ) (value : Option (List ℕ)) → Null ≡ put_of value → written delimiter value ≡ []
written-null delimiter (Some text) is = cc
written-null delimiter None is = refl

pub field_text-null : (delimiter : ℕ) (value : Option (List ℕ)) → Null ≡ put_of value → field_text delimiter value ≡ codes "\\N"
field_text-null delimiter (Some text) is = cc
field_text-null delimiter None is = refl
