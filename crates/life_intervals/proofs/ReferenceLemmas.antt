-- The references of a table, column by column.
use Rattle.std.proofs.Common.{◌≡◌, ℕ, zero, suc, ◌+◌, ◌<◌, List, [], ◌∷◌, ◌++◌, length, map, take, sum, Option, Some, None, add-one, zero-add, refl, ap, arith, sym, subst, ◌∙◌}
use Rattle.std.specs.Prelude.{All}
use Rattle.std.proofs.lemmas.List.{append-nil}
use Rattle.std.specs.List.{cons_option, enumerate_from, filter_map}
use Rattle.schema_plan.specs.declared.ready.ReadyReference.{ReadyReference}
use Rattle.schema_plan.specs.declared.ready.ReadyKind.TheVariants as kind
use Rattle.schema_facts.specs.Layout.{KindLayout, reference_kind, ColumnLayout, TableLayout, column_at}
use Rattle.schema_facts.specs.Lineage.{lesser_life}
use Rattle.schema_plan.specs.Ready.{ready_kind, ready_reference}
use Rattle.schema_facts.specs.References.{Reference, reference_at, reference_of, references_of}
use Rattle.life_intervals.specs.CohortParents.{reference_by}
use Rattle.life_intervals.specs.Intervals.{first_death}

-- those of some columns, the first of which has a place
abbrev pub references_in : ℕ → List ColumnLayout → List Reference
references_in start columns = filter_map (λ (at : ℕ × ColumnLayout). reference_of at.0 at.1.kind) (enumerate_from start columns)

-- those of the columns before a place
abbrev pub references_before : TableLayout → ℕ → List Reference
references_before table place = references_in 0 (take place table.columns)

-- ---- of one column

-- a column that is ready as a reference is one
pub record IsReady (column : ℕ) (held : KindLayout) (ready : ReadyReference) : Type 0 where
  pub is : reference_of column held ≡ Some (reference_by column ready)
  pub groups : ready.groups ≡ length ready.spread
  pub total : ready.total ≡ sum ready.spread

pub reference_from_ready : (delimiter column : ℕ) (held : KindLayout) (ready : ReadyReference) → ready_kind delimiter held ≡ kind.Reference ready → IsReady column held ready
reference_from_ready delimiter column (reference_kind parent window spread nulls drawn) ready is =
    let same : ready_reference parent window spread nulls drawn ≡ ready = cc in
    record {
      is = ap (λ (r : ReadyReference). Some (reference_by column r)) same;
      groups = subst (λ (r : ReadyReference). r.groups ≡ length r.spread) same refl;
      total = subst (λ (r : ReadyReference). r.total ≡ sum r.spread) same refl;
    }
reference_from_ready delimiter column _ ready is = absurd (cc)

-- a column that isn't ready as one is none
pub none_from_ready : (delimiter column : ℕ) (held : KindLayout) → ((ready : ReadyReference) → ready_kind delimiter held ≡ kind.Reference ready → ⊥) → reference_of column held ≡ None
none_from_ready delimiter column (reference_kind parent window spread nulls drawn) other = absurd (other _ refl)
none_from_ready delimiter column _ other = refl

-- ---- of all columns

first_of : (P : Reference → Type 0) (found : Option Reference) (others : List Reference) → All P (cons_option found others) → (reference : Reference) → found ≡ Some reference → P reference
first_of P None others all reference is = absurd (cc)
first_of P (Some first) others all reference is =
    let same : first ≡ reference = cc in
    subst P same (all 0 first (omega arith))

rest_of : (P : Reference → Type 0) (found : Option Reference) (others : List Reference) → All P (cons_option found others) → All P others
rest_of P None others all = all
rest_of P (Some first) others all = λ k d below. all (suc k) d (omega (arith, below))

all_columns : (P : Reference → Type 0) (start : ℕ) (columns : List ColumnLayout) → All P (references_in start columns) →
    (i : ℕ) (reference : Reference) → i < length columns → reference_of (start + i) (column_at columns i).kind ≡ Some reference → P reference
all_columns P start [] all i reference below is = absurd (omega (arith, below))
all_columns P start (column ∷ others) all zero reference below is =
    let at : start ≡ start + 0 = omega arith in
    first_of P (reference_of start column.kind) (references_in (start + 1) others) all reference (ap (λ (k : ℕ). reference_of k column.kind) at ∙ is)
all_columns P start (column ∷ others) all (suc i) reference below is =
    let at : start + 1 + i ≡ start + suc i = omega arith in
    all_columns P (start + 1) others (rest_of P (reference_of start column.kind) (references_in (start + 1) others) all) i reference (omega (arith, below))
    (ap (λ (k : ℕ). reference_of k (column_at others i).kind) at ∙ is)

-- what holds of each reference of a table holds of that of a column
pub at_column : (P : Reference → Type 0) (table : TableLayout) → All P (references_of table) → (column : ℕ) (reference : Reference) → column < length table.columns →
    reference_at table column ≡ Some reference → P reference
at_column P table all column reference below is =
    all_columns P 0 table.columns all column reference below (ap (λ (k : ℕ). reference_of k (column_at table.columns column).kind) (zero-add column) ∙ is)

within_in : (k : ℕ) (columns : List ColumnLayout) (i : ℕ) (reference : Reference) → reference_of k (column_at columns i).kind ≡ Some reference → i < length columns
within_in k [] i reference is = absurd (cc)
within_in k (column ∷ others) zero reference is = omega arith
within_in k (column ∷ others) (suc i) reference is = omega (arith, within_in k others i reference is)

-- a column that has one is a column of the table
pub reference_at-within : (table : TableLayout) (column : ℕ) (reference : Reference) → reference_at table column ≡ Some reference → column < length table.columns
reference_at-within table column reference is = within_in column table.columns column reference is

-- ---- one column more

append_cons_option : (found : Option Reference) (xs ys : List Reference) → cons_option found xs ++ ys ≡ cons_option found (xs ++ ys)
append_cons_option None xs ys = refl
append_cons_option (Some x) xs ys = refl

references_in-more : (start : ℕ) (columns : List ColumnLayout) (i : ℕ) → i < length columns →
    references_in start (take (suc i) columns) ≡ references_in start (take i columns) ++ cons_option (reference_of (start + i) (column_at columns i).kind) []
references_in-more start [] i below = absurd (omega (arith, below))
references_in-more start (column ∷ others) zero below =
    let at : start ≡ start + 0 = omega arith in
    ap (λ (k : ℕ). cons_option (reference_of k column.kind) []) at
references_in-more start (column ∷ others) (suc i) below =
    let at : start + 1 + i ≡ start + suc i = omega arith in
    ap (cons_option (reference_of start column.kind)) (references_in-more (start + 1) others i (omega (arith, below)))
    ∙ sym (append_cons_option (reference_of start column.kind) (references_in (start + 1) (take i others)) (cons_option (reference_of (start + 1 + i) (column_at others i).kind) []))
    ∙ ap (λ (k : ℕ). cons_option (reference_of start column.kind) (references_in (start + 1) (take i others)) ++ cons_option (reference_of k (column_at others i).kind) []) at

before_more : (table : TableLayout) (column : ℕ) → column < length table.columns →
    references_before table (column + 1) ≡ references_before table column ++ cons_option (reference_at table column) []
before_more table column below =
    ap (λ (k : ℕ). references_before table k) (add-one column)
    ∙ references_in-more 0 table.columns column below
    ∙ ap (λ (k : ℕ). references_before table column ++ cons_option (reference_of k (column_at table.columns column).kind) []) (zero-add column)

-- a column that is a reference comes after those before
pub references_before-some : (table : TableLayout) (column : ℕ) (reference : Reference) → column < length table.columns → reference_at table column ≡ Some reference →
    references_before table (column + 1) ≡ references_before table column ++ reference ∷ []
references_before-some table column reference below is =
    before_more table column below
    ∙ ap (λ (found : Option Reference). references_before table column ++ cons_option found []) is

-- and one that isn't adds none
pub references_before-none : (table : TableLayout) (column : ℕ) → column < length table.columns → reference_at table column ≡ None →
    references_before table (column + 1) ≡ references_before table column
references_before-none table column below is =
    before_more table column below
    ∙ ap (λ (found : Option Reference). references_before table column ++ cons_option found []) is
    ∙ append-nil (references_before table column)

-- ---- the first of some deaths

lesser_life-none : (life : Option ℕ) → lesser_life life None ≡ life
lesser_life-none None = refl
lesser_life-none (Some life) = refl

lesser_life-assoc : (a b c : Option ℕ) → lesser_life a (lesser_life b c) ≡ lesser_life (lesser_life a b) c
lesser_life-assoc None b c = refl
lesser_life-assoc (Some a) None c = refl
lesser_life-assoc (Some a) (Some b) None = refl
lesser_life-assoc (Some a) (Some b) (Some c) = ap Some (omega arith)

-- one death more
pub first_death-more : (d : Reference → Option ℕ) (xs : List Reference) (x : Reference) → first_death (map d (xs ++ x ∷ [])) ≡ lesser_life (first_death (map d xs)) (d x)
first_death-more d [] x = lesser_life-none (d x)
first_death-more d (y ∷ xs) x =
    ap (lesser_life (d y)) (first_death-more d xs x) ∙ lesser_life-assoc (d y) (first_death (map d xs)) (d x)
