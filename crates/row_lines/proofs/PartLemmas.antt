-- The parts of a template, as they are written by what is kept of them.
use Rattle.std.proofs.Common.{◌≡◌, ◌<◌, ◌≤◌, ◌^◌, ℕ, ◌+◌, ◌++◌, true, false, max, List, [], ◌∷◌, map, flat_map, sum_by, length, codes, decimal, All, Bool, Option, Some, None, if◌then◌else◌, get_or, take, refl, ap, ap₂, sym, subst, ◌∙◌, arith}
use std.Path.{fun_ext}
use Rattle.std.proofs.lemmas.Grind.{flat_map-append}
use Rattle.std.proofs.lemmas.List.{flat_map_more, take_more}
use Rattle.std.proofs.lemmas.List.Concat.{flat_map-cons}
use Rattle.std.proofs.lemmas.List.Elements.{All-head, All-map, All-tail}
use Rattle.std.proofs.lemmas.List.Folds.{flat_map-map, fold-map}
use Rattle.row_text.specs.Fields.{escaped, field_text, escaped_text}
use Rattle.row_text.proofs.DigitLemmas.{escaped_text-decimal}
use Rattle.schema_plan.specs.declared.ready.ReadyKind.TheVariants.{Key, Reference, Template}
use Rattle.schema_plan.specs.declared.ready.ReadyPart.{ReadyPart}
use Rattle.schema_plan.specs.declared.ready.ReadyReference.{ReadyReference}
use Rattle.cohort_sizes.specs.Births.{cohort_size}
use Rattle.schema_facts.specs.FieldSizes.{size_alone, size_of, size_of_part}
use Rattle.schema_facts.specs.Layout.{ColumnLayout, KindLayout, PartLayout, TableLayout, born_kind, changed_kind, cited_part, column_at, key_kind, layout_of, leaf_kind, list_kind, unit_date_kind, after_kind, sum_kind, product_kind, literal_part, reference_kind, template_kind}
use Rattle.schema_plan.specs.Limits.{AreFilledParts, AreParts, IsFilledPart, IsKindInLimits, IsPart, is_cited}
use Rattle.schema_plan.specs.Ready.{ready_kind, ready_part}
use Rattle.draw_values.specs.CohortValues.{ValuesOf, is_null_for, value_for}
use Rattle.draw_values.specs.Values.{is_null, is_own, written}
use Rattle.life_intervals.specs.Generator.{Generator, generator_of}
use Rattle.life_intervals.specs.Rows.{Row}
use Rattle.row_lines.specs.CohortLines.{LinesOf, asked_by, asked_by_part, asked_for, layout_for, ordinal_of, row_changed, size_for, text_in_table, values_at}
use Rattle.row_lines.specs.Lines.{part_text}
use Rattle.row_lines.specs.RowViews.{draws_of}
use Rattle.row_lines.specs.Parts.{IsCitable, IsPartOfTemplate, cited_for, cited_size, cited_text, part_asked, part_size, written_part}
use Rattle.row_lines.proofs.CohortFieldLemmas.{held-own, held_in_table, is_derived, of_units}
use Rattle.row_lines.proofs.FieldLemmas.{in_table-cited, in_table-template}
use Rattle.row_lines.proofs.PaddedLemmas.{whole-plain, written-padded}

-- ---- a column that is cited

-- it is a key, a reference, or made of units and of draws
pub own_from_cited : (delimiter : ℕ) (kind : KindLayout) → is_cited kind ≡ true → is_derived kind ≡ false → (ready_kind delimiter kind ≡ Key → ⊥) → ((reference : ReadyReference) → ready_kind delimiter kind ≡ Reference reference → ⊥) → is_own kind ≡ true
own_from_cited delimiter key_kind cited no_derived no_key no_reference = absurd (no_key refl)
own_from_cited delimiter born_kind cited no_derived no_key no_reference = refl
own_from_cited delimiter (leaf_kind leaf) cited no_derived no_key no_reference = refl
own_from_cited delimiter changed_kind cited no_derived no_key no_reference = refl
own_from_cited delimiter (reference_kind parent window spread nulls drawn) cited no_derived no_key no_reference = absurd (no_reference _ refl)
own_from_cited delimiter (list_kind words) cited no_derived no_key no_reference = refl
own_from_cited delimiter (unit_date_kind changed start step) cited no_derived no_key no_reference = refl
own_from_cited delimiter (after_kind of lo hi) cited no_derived no_key no_reference = absurd (cc)
own_from_cited delimiter (sum_kind of) cited no_derived no_key no_reference = absurd (cc)
own_from_cited delimiter (product_kind of) cited no_derived no_key no_reference = absurd (cc)
own_from_cited delimiter _ cited no_derived no_key no_reference = cc

-- it takes what its own field takes
size_of-cited : (delimiter : ℕ) (tables : List TableLayout) (columns : List ColumnLayout) (kind : KindLayout) → is_cited kind ≡ true →
    size_of delimiter tables columns kind ≡ size_alone delimiter kind
size_of-cited delimiter tables columns key_kind cited = refl
size_of-cited delimiter tables columns born_kind cited = refl
size_of-cited delimiter tables columns changed_kind cited = refl
size_of-cited delimiter tables columns (leaf_kind leaf) cited = refl
size_of-cited delimiter tables columns (reference_kind parent window spread nulls drawn) cited = refl
size_of-cited delimiter tables columns (list_kind words) cited = refl
size_of-cited delimiter tables columns (unit_date_kind changed start step) cited = refl
size_of-cited delimiter tables columns (after_kind of lo hi) cited = refl
size_of-cited delimiter tables columns (sum_kind of) cited = refl
size_of-cited delimiter tables columns (product_kind of) cited = refl
size_of-cited delimiter tables columns _ cited = cc

-- a key takes 20 bytes
pub cited_size-key : (lines : LinesOf) (place : ℕ) → (column_at (layout_for lines).columns place).kind ≡ key_kind → cited_size lines place ≡ 20
cited_size-key lines place is = ap (size_alone (layout_of lines.plan).delimiter) is

pub size_for-cited : (lines : LinesOf) (column : ℕ) → IsCitable lines column → size_for lines column ≡ cited_size lines column
size_for-cited lines column citable =
    size_of-cited (layout_of lines.plan).delimiter (layout_of lines.plan).tables (layout_for lines).columns (column_at (layout_for lines).columns column).kind citable.cited

-- and it holds what its own field holds
pub cited_for-held : (lines : LinesOf) (index changed column : ℕ) → IsCitable lines column → cited_for lines index changed column ≡ held_in_table lines index changed column
cited_for-held lines index changed column citable =
    sym (in_table-cited (generator_of lines.plan) lines.table column (row_changed lines index changed) citable.cited)

-- a cited column that holds a number
pub cited_text-number : (lines : LinesOf) (index changed column number : ℕ) → IsCitable lines column → held_in_table lines index changed column ≡ Some (decimal number) → number < 2 ^ 64 →
    cited_text lines index changed column ≡ decimal number
cited_text-number lines index changed column number citable held small =
    ap (written (layout_of lines.plan).delimiter) (cited_for-held lines index changed column citable ∙ held)
    ∙ escaped_text-decimal (layout_of lines.plan).delimiter number small

pub cited_for-own : (lines : LinesOf) (values : ValuesOf) (place index changed ordinal : ℕ) → IsCitable lines place → values ≡ values_at lines changed →
    ordinal ≡ ordinal_of lines index → is_own (column_at (layout_for lines).columns place).kind ≡ true → lines.born ≤ lines.unit →
    index < cohort_size (layout_for lines).births lines.born → cited_for lines index changed place ≡ value_for values place ordinal
cited_for-own lines values place index changed ordinal citable values_are ordinal_is own within below =
    cited_for-held lines index changed place citable ∙ held-own lines values place index changed ordinal values_are ordinal_is own within below

-- what is written for it is no longer than its field
pub length-written : (delimiter : ℕ) (value : Option (List ℕ)) → length (written delimiter value) ≤ length (field_text delimiter value)
length-written delimiter None = omega arith
length-written delimiter (Some text) = omega arith

-- ---- parts

-- a template is escaped part by part
pub escaped_text-parts : (generator : Generator) (place : ℕ) (row : Row) (parts : List PartLayout) →
    escaped_text generator.delimiter (flat_map (part_text generator place row) parts)
    ≡ flat_map (λ part. escaped_text generator.delimiter (part_text generator place row part)) parts
escaped_text-parts generator place row [] = refl
escaped_text-parts generator place row (part ∷ parts) =
    flat_map-append (escaped generator.delimiter) (part_text generator place row part) (flat_map (part_text generator place row) parts)
    ∙ ap (λ (rest : List ℕ). escaped_text generator.delimiter (part_text generator place row part) ++ rest) (escaped_text-parts generator place row parts)

-- a part is written as it is kept
part-written : (lines : LinesOf) (index changed : ℕ) (part : PartLayout) → IsFilledPart (layout_for lines).columns part →
    written_part lines index changed (ready_part (layout_of lines.plan).delimiter part)
    ≡ escaped_text (layout_of lines.plan).delimiter (part_text (generator_of lines.plan) lines.table (row_changed lines index changed) part)
part-written lines index changed (literal_part bytes) filled = refl
part-written lines index changed (cited_part column width) filled =
    written-padded (layout_of lines.plan).delimiter width (cited_for lines index changed column)
    (λ some. whole-plain (layout_of lines.plan).delimiter (generator_of lines.plan) lines.table (row_changed lines index changed) column (filled some).whole)

flat_map-same : {A : Type 0} (P : A → Type 0) (write other : A → List ℕ) → ((x : A) → P x → write x ≡ other x) → (xs : List A) → All P xs → flat_map write xs ≡ flat_map other xs
flat_map-same P write other same [] all = refl
flat_map-same P write other same (x ∷ xs) all =
    flat_map-cons write x xs
    ∙ ap₂ (λ (first rest : List ℕ). first ++ rest) (same x (All-head P x xs all)) (flat_map-same P write other same xs (All-tail P x xs all))
    ∙ sym (flat_map-cons other x xs)

parts-written : (lines : LinesOf) (index changed : ℕ) (parts : List PartLayout) → All (IsFilledPart (layout_for lines).columns) parts →
    escaped_text (layout_of lines.plan).delimiter (flat_map (part_text (generator_of lines.plan) lines.table (row_changed lines index changed)) parts)
    ≡ flat_map (written_part lines index changed) (map (ready_part (layout_of lines.plan).delimiter) parts)
parts-written lines index changed parts filled =
    escaped_text-parts (generator_of lines.plan) lines.table (row_changed lines index changed) parts
    ∙ sym (flat_map-same (IsFilledPart (layout_for lines).columns) (λ part. written_part lines index changed (ready_part (layout_of lines.plan).delimiter part)) _ (part-written lines index changed) parts filled)
    ∙ sym (flat_map-map (written_part lines index changed) (ready_part (layout_of lines.plan).delimiter) parts)

-- it takes what the schema counts for it
part-size : (lines : LinesOf) (part : PartLayout) →
    part_size lines (ready_part (layout_of lines.plan).delimiter part)
    ≡ size_of_part (layout_of lines.plan).delimiter (layout_for lines).columns part
part-size lines (literal_part bytes) = refl
part-size lines (cited_part column width) = refl

parts-size : (lines : LinesOf) (parts : List PartLayout) →
    sum_by (part_size lines) (map (ready_part (layout_of lines.plan).delimiter) parts)
    ≡ sum_by (size_of_part (layout_of lines.plan).delimiter (layout_for lines).columns) parts
parts-size lines parts =
    fold-map (λ all part. all + part_size lines part) (ready_part (layout_of lines.plan).delimiter) 0 parts
    ∙ ap (λ (size : PartLayout → ℕ). sum_by size parts) (fun_ext (part-size lines))

-- and cites what may be cited
part-citable : (lines : LinesOf) (place : ℕ) → place < length (layout_for lines).columns → (part : PartLayout) → IsPart (layout_for lines).columns place part →
    IsFilledPart (layout_for lines).columns part → IsPartOfTemplate lines (ready_part (layout_of lines.plan).delimiter part)
part-citable lines place within (literal_part bytes) is filled = tt
part-citable lines place within (cited_part column width) is filled =
    record { citable = record { within = omega (arith, is.0); cited = is.1 }; filled = filled }

-- one more part
pub parts-more : {A : Type 0} (write : A → List ℕ) (parts : List A) (i : ℕ) (d : A) → i < length parts → (old text : List ℕ) →
    text ≡ old ++ flat_map write (take i parts) → text ++ write (get_or parts i d) ≡ old ++ flat_map write (take (i + 1) parts)
parts-more write parts i d within old text is =
    ap (λ (bytes : List ℕ). bytes ++ write (get_or parts i d)) is
    ∙ flat_map_more write old (take i parts) (get_or parts i d)
    ∙ ap (λ first. old ++ flat_map write first) (sym (take_more parts i d within))

-- ---- templates

-- a column that is ready as a template is one, of these parts
pub record IsTemplateOf (lines : LinesOf) (column : ℕ) (ready : List ReadyPart) : Type 0 where
  pub parts : List PartLayout
  pub is : (column_at (layout_for lines).columns column).kind ≡ template_kind parts
  pub ready_are : ready ≡ map (ready_part (layout_of lines.plan).delimiter) parts

parts_of : (delimiter : ℕ) (kind : KindLayout) (ready : List ReadyPart) → ready_kind delimiter kind ≡ Template ready →
    (parts : List PartLayout) × (kind ≡ template_kind parts) × (ready ≡ map (ready_part delimiter) parts)
parts_of delimiter (template_kind parts) ready is = (parts, refl, cc)
parts_of delimiter key_kind ready is = absurd (cc)
parts_of delimiter _ ready is = absurd (cc)

pub template_of : (lines : LinesOf) (column : ℕ) (ready : List ReadyPart) →
    ready_kind (layout_of lines.plan).delimiter (column_at (layout_for lines).columns column).kind ≡ Template ready → IsTemplateOf lines column ready
template_of lines column ready is =
    let found = parts_of (layout_of lines.plan).delimiter (column_at (layout_for lines).columns column).kind ready is in
    record { parts = found.0; is = found.1; ready_are = found.2 }

-- whose parts fill whole numbers alone
parts_filled : (lines : LinesOf) (column : ℕ) (ready : List ReadyPart) (template : IsTemplateOf lines column ready) →
    AreFilledParts (layout_for lines).columns (column_at (layout_for lines).columns column).kind → All (IsFilledPart (layout_for lines).columns) template.parts
parts_filled lines column ready template filled = subst (AreFilledParts (layout_for lines).columns) template.is filled

pub parts_citable : (lines : LinesOf) (column : ℕ) (ready : List ReadyPart) → IsTemplateOf lines column ready → column < length (layout_for lines).columns →
    IsKindInLimits (layout_for lines).columns column (column_at (layout_for lines).columns column).kind →
    AreFilledParts (layout_for lines).columns (column_at (layout_for lines).columns column).kind → All (IsPartOfTemplate lines) ready
parts_citable lines column ready template within limits filled =
    let are : AreParts (layout_for lines).columns column template.parts = subst (λ (kind : KindLayout). IsKindInLimits (layout_for lines).columns column kind) template.is limits in
    subst (λ (parts : List ReadyPart). All (IsPartOfTemplate lines) parts) (sym template.ready_are)
    (All-map (IsPartOfTemplate lines) (ready_part (layout_of lines.plan).delimiter) template.parts
    (λ i d below. part-citable lines column within (get_or template.parts i d) (are.each i d below) (parts_filled lines column ready template filled i d below)))

-- what it takes
pub size-template : (lines : LinesOf) (column : ℕ) (ready : List ReadyPart) → IsTemplateOf lines column ready → size_for lines column ≡ max 2 (sum_by (part_size lines) ready)
size-template lines column ready template =
    ap (size_of (layout_of lines.plan).delimiter (layout_of lines.plan).tables (layout_for lines).columns) template.is
    ∙ ap (λ (size : ℕ). max 2 size) (sym (parts-size lines template.parts) ∙ ap (λ (parts : List ReadyPart). sum_by (part_size lines) parts) (sym template.ready_are))

-- and asks
part-asked : (known : Bool) (lines : LinesOf) (part : PartLayout) → part_asked known lines (ready_part (layout_of lines.plan).delimiter part) ≡ asked_by_part known (layout_of lines.plan) lines.table part
part-asked known lines (literal_part bytes) = refl
part-asked known lines (cited_part column width) = refl

pub asked-template : (known : Bool) (lines : LinesOf) (column : ℕ) (ready : List ReadyPart) → IsTemplateOf lines column ready → sum_by (part_asked known lines) ready ≡ asked_for known lines column
asked-template known lines column ready template =
    ap (sum_by (part_asked known lines)) template.ready_are
    ∙ fold-map (λ all part. all + part_asked known lines part) (ready_part (layout_of lines.plan).delimiter) 0 template.parts
    ∙ ap (λ (asked : PartLayout → ℕ). sum_by asked template.parts) (fun_ext (part-asked known lines))
    ∙ sym (ap (asked_by known (layout_of lines.plan) lines.table column) template.is)

-- whether a field is drawn to be null, as the values of the cohort have it
pub null-drawn : (lines : LinesOf) (values : ValuesOf) (column index changed ordinal : ℕ) → values ≡ values_at lines changed →
    ordinal ≡ ordinal_of lines index → lines.born ≤ lines.unit → index < cohort_size (layout_for lines).births lines.born →
    is_null (column_at (layout_for lines).columns column).null (draws_of (generator_of lines.plan) lines.table (row_changed lines index changed) column)
    ≡ is_null_for values column ordinal
null-drawn lines values column index changed ordinal values_are ordinal_is within below =
    of_units lines index changed (λ (born at : ℕ). is_null_for (record { plan = lines.plan; table = lines.table; born = born; changed = at }) column (ordinal_of lines index)) within below
    ∙ ap (λ (j : ℕ). is_null_for (values_at lines changed) column j) (sym ordinal_is)
    ∙ ap (λ (of : ValuesOf). is_null_for of column ordinal) (sym values_are)

-- how it is written
pub text-template : (lines : LinesOf) (values : ValuesOf) (column index changed ordinal : ℕ) (ready : List ReadyPart) (null : Bool) → IsTemplateOf lines column ready →
    AreFilledParts (layout_for lines).columns (column_at (layout_for lines).columns column).kind →
    values ≡ values_at lines changed → ordinal ≡ ordinal_of lines index → lines.born ≤ lines.unit → index < cohort_size (layout_for lines).births lines.born →
    is_null_for values column ordinal ≡ null →
    text_in_table lines index changed column ≡ (if null then codes "\\N" else flat_map (written_part lines index changed) ready)
text-template lines values column index changed ordinal ready null template filled values_are ordinal_is within below null_is =
    let generator : Generator = generator_of lines.plan in
    let d : ℕ = (layout_of lines.plan).delimiter in
    let row : Row = row_changed lines index changed in
    let text : List ℕ = flat_map (part_text generator lines.table row) template.parts in
    ap (field_text d) (in_table-template generator lines.table column row template.parts template.is)
    ∙ ap (λ (null : Bool). field_text d (if null then None else Some text)) (null-drawn lines values column index changed ordinal values_are ordinal_is within below ∙ null_is)
    ∙ field_text-if d null text
    ∙ ap (λ (bytes : List ℕ). if null then codes "\\N" else bytes)
    (parts-written lines index changed template.parts (parts_filled lines column ready template filled) ∙ ap (λ (parts : List ReadyPart). flat_map (written_part lines index changed) parts) (sym template.ready_are))
  where
    field_text-if : (d : ℕ) (null : Bool) (text : List ℕ) → field_text d (if null then None else Some text) ≡ (if null then codes "\\N" else escaped_text d text)
    field_text-if d true text = refl
    field_text-if d false text = refl
