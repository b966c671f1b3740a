-- What it costs to tell which of the references that a line shows are null, as the schema counts it.
use Rattle.std.proofs.Common.{◌≡◌, ◌<◌, ℕ, suc, Bool, true, false, List, [], ◌∷◌, length, sum_by, take, All, refl, ap, ◌∙◌, arith}
use std.Path.{fun_ext}
use Rattle.std.proofs.lemmas.List.{get_or-take, length-map}
use Rattle.std.proofs.lemmas.List.Elements.{All-head, All-tail}
use Rattle.std.proofs.lemmas.List.Sums.{sum_by-cons}
use Rattle.schema_facts.specs.declared.lineage.Lineage.{Lineage}
use Rattle.schema_facts.specs.Dictionaries.{Project}
use Rattle.schema_facts.specs.Layout.{ColumnLayout, KindLayout, PartLayout, born_kind, case_kind, changed_kind, cited_part, column_at, key_kind, layout_of, leaf_kind, literal_part, lookup_kind, list_kind, unit_date_kind, after_kind, sum_kind, product_kind, reference_kind, table_layout, template_kind}
use Rattle.schema_plan.specs.Limits.{CitesStill, IsInLimits, IsStillPart, is_moving_kind}
use Rattle.schema_facts.specs.Lineage.{endless, lineages, null_cost, null_cost_of, null_cost_of_field, null_cost_of_part}
use Rattle.schema_facts.specs.References.{IsReferenceInLimits, reference_of}
use Rattle.schema_facts.proofs.LineageLemmas.{lineage_at-lineages}
use Rattle.life_intervals.specs.Generator.{last_unit, table_of}
use Rattle.life_intervals.proofs.ReferenceLemmas.{at_column, reference_at-within}
use Rattle.row_lines.proofs.StillLemmas.{still_parts}

-- ---- by the lineages of all tables

-- sums over columns are the same where the numbers of each are
sum_by-columns : (f g : ColumnLayout → ℕ) (columns : List ColumnLayout) → ((place : ℕ) → f (column_at columns place) ≡ g (column_at columns place)) → sum_by f columns ≡ sum_by g columns
sum_by-columns f g [] same = refl
sum_by-columns f g (column ∷ others) same =
    omega (arith, same 0, sum_by-columns f g others (λ place. same (suc place)), sum_by-cons f column others, sum_by-cons g column others)

module _ (plan : Project) (limits : IsInLimits plan) (place : ℕ) (below : place < length plan.schema.tables) where
  abbrev all : List Lineage
  all = lineages (layout_of plan).tables

  abbrev own : List ColumnLayout
  own = (table_of plan place).columns

  -- a parent's table comes before
  of_kind : (kind : KindLayout) → ((parent : ℕ) (window : _) (spread : List ℕ) (drawn : Bool) → kind ≡ reference_kind parent window spread true drawn → parent < place) →
      null_cost_of (take place all) kind ≡ null_cost_of all kind
  of_kind (reference_kind parent window spread true drawn) earlier =
      ap (λ (lineage : Lineage). lineage.death_cost) (get_or-take place all parent endless (earlier parent window spread drawn refl))
  of_kind (reference_kind parent window spread false drawn) earlier = refl
  of_kind key_kind earlier = refl
  of_kind born_kind earlier = refl
  of_kind changed_kind earlier = refl
  of_kind (leaf_kind leaf) earlier = refl
  of_kind (template_kind parts) earlier = refl
  of_kind (case_kind on branches) earlier = refl
  of_kind (lookup_kind via parent column) earlier = refl
  of_kind (list_kind words) earlier = refl
  of_kind (unit_date_kind changed start step) earlier = refl
  of_kind (after_kind of lo hi) earlier = refl
  of_kind (sum_kind of) earlier = refl
  of_kind (product_kind of) earlier = refl

  of_column : (column : ℕ) → null_cost_of (take place all) (column_at own column).kind ≡ null_cost_of all (column_at own column).kind
  of_column column =
      of_kind (column_at own column).kind
      (λ parent window spread drawn is.
      let found = ap (reference_of column) is in
      (at_column (IsReferenceInLimits (last_unit plan) (layout_of plan).tables place) (table_of plan place) (limits.references place below) column _
      (reference_at-within (table_of plan place) column _ found) found).earlier)

  of_part : (part : PartLayout) → null_cost_of_part (take place all) own part ≡ null_cost_of_part all own part
  of_part (literal_part bytes) = refl
  of_part (cited_part column width) = of_column column

  of_field : (kind : KindLayout) → null_cost_of (take place all) kind ≡ null_cost_of all kind → null_cost_of_field (take place all) own kind ≡ null_cost_of_field all own kind
  of_field (template_kind parts) same = ap (λ (cost : PartLayout → ℕ). sum_by cost parts) (fun_ext of_part)
  of_field (reference_kind parent window spread nulls drawn) same = same
  of_field key_kind same = same
  of_field born_kind same = same
  of_field changed_kind same = same
  of_field (leaf_kind leaf) same = same
  of_field (case_kind on branches) same = same
  of_field (lookup_kind via parent column) same = same
  of_field (list_kind words) same = same
  of_field (unit_date_kind changed start step) same = same
  of_field (after_kind of lo hi) same = same
  of_field (sum_kind of) same = same
  of_field (product_kind of) same = same

  pub null_cost-fields : null_cost (layout_of plan).tables place ≡ sum_by (λ (column : ColumnLayout). null_cost_of_field all own column.kind) own
  null_cost-fields =
      ap (λ (lineage : Lineage). lineage.null_cost)
      (lineage_at-lineages (layout_of plan).tables place (omega (arith, below, length-map plan.schema.tables (table_layout plan.dictionaries plan.schema.tables))))
      ∙ sum_by-columns (λ (column : ColumnLayout). null_cost_of_field (take place all) own column.kind) (λ (column : ColumnLayout). null_cost_of_field all own column.kind) own
      (λ column. of_field (column_at own column).kind (of_column column))

-- ---- columns that don't move

-- show no reference that becomes null
still-kind : (lineages : List Lineage) (kind : KindLayout) → is_moving_kind kind ≡ false → null_cost_of lineages kind ≡ 0
still-kind lineages (reference_kind parent window spread true drawn) still = absurd (cc)
still-kind lineages (reference_kind parent window spread false drawn) still = refl
still-kind lineages key_kind still = refl
still-kind lineages born_kind still = refl
still-kind lineages changed_kind still = refl
still-kind lineages (leaf_kind leaf) still = refl
still-kind lineages (template_kind parts) still = refl
still-kind lineages (case_kind on branches) still = refl
still-kind lineages (lookup_kind via parent column) still = refl
still-kind lineages (list_kind words) still = refl
still-kind lineages (unit_date_kind changed start step) still = refl
still-kind lineages (after_kind of lo hi) still = refl
still-kind lineages (sum_kind of) still = refl
still-kind lineages (product_kind of) still = refl

still-part : (lineages : List Lineage) (columns : List ColumnLayout) (part : PartLayout) → IsStillPart columns part → null_cost_of_part lineages columns part ≡ 0
still-part lineages columns (literal_part bytes) still = refl
still-part lineages columns (cited_part column width) still =
    still-kind lineages (column_at columns column).kind (still_parts (column_at columns column).changes (is_moving_kind (column_at columns column).kind) still).1

still-parts : (lineages : List Lineage) (columns : List ColumnLayout) (parts : List PartLayout) → All (IsStillPart columns) parts → sum_by (null_cost_of_part lineages columns) parts ≡ 0
still-parts lineages columns [] still = refl
still-parts lineages columns (part ∷ parts) still =
    omega (
      arith,
      still-part lineages columns part (All-head (IsStillPart columns) part parts still),
      still-parts lineages columns parts (All-tail (IsStillPart columns) part parts still),
      sum_by-cons (null_cost_of_part lineages columns) part parts,
    )

pub null_cost-still : (lineages : List Lineage) (columns : List ColumnLayout) (kind : KindLayout) → is_moving_kind kind ≡ false → CitesStill columns kind → null_cost_of_field lineages columns kind ≡ 0
null_cost-still lineages columns (template_kind parts) still cites = still-parts lineages columns parts cites
null_cost-still lineages columns (reference_kind parent window spread nulls drawn) still cites = still-kind lineages (reference_kind parent window spread nulls drawn) still
null_cost-still lineages columns key_kind still cites = refl
null_cost-still lineages columns born_kind still cites = refl
null_cost-still lineages columns changed_kind still cites = refl
null_cost-still lineages columns (leaf_kind leaf) still cites = refl
null_cost-still lineages columns (case_kind on branches) still cites = refl
null_cost-still lineages columns (lookup_kind via parent column) still cites = refl
null_cost-still lineages columns (list_kind words) still cites = refl
null_cost-still lineages columns (unit_date_kind changed start step) still cites = refl
null_cost-still lineages columns (after_kind of lo hi) still cites = refl
null_cost-still lineages columns (sum_kind of) still cites = refl
null_cost-still lineages columns (product_kind of) still cites = refl
