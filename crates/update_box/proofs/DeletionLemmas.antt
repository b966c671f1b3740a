-- Which of the rows that are looked at a unit deletes.
use Rattle.std.proofs.Common.{◌≡◌, ℕ, ◌+◌, ◌==◌, ◌<◌, ◌≤◌, min, Bool, true, false, ◌&&◌, ◌||◌, List, [], ◌∷◌, count_by, length, filter, map, zero-add, option_map, Option, Some, None, inl, inr, arith, refl, ap, sym, ◌∙◌}
use Rattle.std.specs.Prelude.{if◌then◌else◌, is_some, nat_lt}
use Rattle.std.proofs.lemmas.List.Sums.{sum_by-cons}
use Rattle.std.specs.List.{list_any}
use Rattle.std.specs.List.Sorted.{IsStrictlyIncreasing}
use Rattle.std.proofs.Math.Bool.{or-false, or-true}
use Rattle.std.proofs.lemmas.Bool.{cases_Bool, cases_lt, false≢true, le-ltb, lt-ltb}
use Rattle.std.proofs.lemmas.List.{length-map}
use Rattle.cohort_sizes.specs.Births.{Births, birth, first_ordinal, index_at}
use Rattle.schema_facts.specs.declared.layout.Span.{Span}
use Rattle.schema_plan.specs.declared.ready.ReadyColumn.{ReadyColumn}
use Rattle.schema_facts.specs.Layout.{ColumnLayout, KindLayout, layout_of, reference_kind}
use Rattle.schema_plan.specs.Ready.{ready_column, ready_columns}
use Rattle.schema_facts.specs.Dictionaries.{Project}
use Rattle.schema_plan.specs.Limits.{IsInLimits}
use Rattle.schema_facts.specs.Lineage.{lesser_life, one_if}
use Rattle.schema_facts.specs.References.{Reference, cascades_of}
use Rattle.life_intervals.proofs.CascadeLemmas.{is_cascading}
use Rattle.life_intervals.proofs.ReferenceLemmas.{references_in}
use Rattle.life_intervals.specs.Generator.{generator_of, last_unit, table_of}
use Rattle.life_intervals.specs.Intervals.{death, dying, first_death, is_at, own_death, parent_of}
use Rattle.life_intervals.specs.Rows.{life_by}
use Rattle.philox_seeds.specs.SeedTree.{life_column}
use Rattle.life_intervals.proofs.AcceptedLemmas.{AreSound-accepted, length-tables}
use Rattle.life_intervals.proofs.LifeLemmas.{death-first}
use Rattle.update_box.specs.Candidates.{dies_at, endings, ends_at, is_cascade}
use Rattle.update_box.proofs.BornLemmas.{born-by}
use Rattle.update_box.proofs.CandidateLemmas.{AreLookedAt, is_looked_at, kept-all, kept-filter}

-- ---- the first of some deaths

lesser-none : (death : Option ℕ) → lesser_life death None ≡ death
lesser-none None = refl
lesser-none (Some death) = refl

-- the lesser of two deaths comes at a unit at which one of them does
at-lesser : (death other : Option ℕ) (unit : ℕ) → is_at (lesser_life death other) unit ≡ true → (is_at death unit || is_at other unit) ≡ true
at-lesser None other unit at = at
at-lesser (Some death) None unit at = or-false (death == unit) ∙ at
at-lesser (Some death) (Some other) unit at = elim (cases_lt death other) [
  | inl first ↦ let same : min death other ≡ death = omega (arith, first) in
      let here : (death == unit) ≡ true = ap (λ (d : ℕ). d == unit) (sym same) ∙ at in
      ap (λ (b : Bool). b || other == unit) here
  | inr later ↦ let same : min death other ≡ other = omega (arith, later) in
      let there : (other == unit) ≡ true = ap (λ (d : ℕ). d == unit) (sym same) ∙ at in
      ap (λ (b : Bool). death == unit || b) there ∙ or-true (death == unit)
]

-- and so does the first of some
at-first : (deaths : List (Option ℕ)) (unit : ℕ) → is_at (first_death deaths) unit ≡ true → list_any (λ death. is_at death unit) deaths ≡ true
at-first [] unit at = absurd (false≢true at)
at-first (death ∷ others) unit at = elim (cases_Bool (is_at (first_death others) unit)) [
  | inl among ↦ ap (λ (b : Bool). is_at death unit || b) (at-first others unit among) ∙ or-true (is_at death unit)
  | inr none ↦
      let here : is_at death unit ≡ true = sym (or-false (is_at death unit)) ∙ ap (λ (b : Bool). is_at death unit || b) (sym none) ∙ at-lesser death (first_death others) unit at in
      ap (λ (b : Bool). b || list_any (λ d. is_at d unit) others) here
]

-- where there is but one, it comes exactly then
at-only : (life : Option Span) (own : Option ℕ) (deaths : List (Option ℕ)) (unit : ℕ) → (life ≡ None → own ≡ None) → one_if (is_some life) + length deaths ≤ 1 →
    is_at (first_death (own ∷ deaths)) unit ≡ (is_at own unit || list_any (λ death. is_at death unit) deaths)
at-only (Some life) own [] unit ends few = ap (λ (d : Option ℕ). is_at d unit) (lesser-none own) ∙ sym (or-false (is_at own unit))
at-only (Some life) own (death ∷ others) unit ends few = absurd (omega (arith, few))
at-only None own [] unit ends few = ap (λ (d : Option ℕ). is_at d unit) (lesser-none own) ∙ sym (or-false (is_at own unit))
at-only None own (death ∷ []) unit ends few = rw (ends refl, lesser-none death) (sym (or-false (is_at death unit)))
at-only None own (death ∷ other ∷ others) unit ends few = absurd (omega (arith, few))

any-map : {X : Type 0} (f : X → Option ℕ) (unit : ℕ) (xs : List X) → list_any (λ death. is_at death unit) (map f xs) ≡ list_any (λ x. is_at (f x) unit) xs
any-map f unit [] = refl
any-map f unit (x ∷ xs) = ap (λ (b : Bool). is_at (f x) unit || b) (any-map f unit xs)

-- ---- the rows that are looked at

module _ (plan : Project) (limits : IsInLimits plan) (table t : ℕ) (below : table < length plan.schema.tables) (within : t ≤ last_unit plan) where
  abbrev births : Births
  births = (table_of plan table).births

  abbrev is_ended : ℕ → Bool
  is_ended = is_looked_at plan table t (ends_at plan table t) (cascades_of (table_of plan table))

  death-is : (ordinal : ℕ) → ordinal < first_ordinal births t →
      dies_at plan table t ordinal ≡ is_at (first_death (own_death (generator_of plan) table t ordinal ∷ map (λ (reference : Reference). death (generator_of plan) reference.parent t (parent_of (generator_of plan) table t ordinal reference)) (cascades_of (table_of plan table)))) t
  death-is ordinal born =
      ap (λ (d : Option ℕ). is_at d t)
      (death-first (last_unit plan) (generator_of plan) (AreSound-accepted plan limits) table (omega (arith, below, length-tables plan)) t ordinal within (born-by births t t ordinal (omega arith) born))

  -- those of which one of these comes hold each row that dies
  pub dies-ended : (ordinal : ℕ) → ordinal < first_ordinal births t → dies_at plan table t ordinal ≡ true → is_ended ordinal ≡ true
  dies-ended ordinal born dies =
      let parent_dies : Reference → Option ℕ = λ reference. death (generator_of plan) reference.parent t (parent_of (generator_of plan) table t ordinal reference) in
      ap (λ (b : Bool). ends_at plan table t ordinal || b) (sym (any-map parent_dies t (cascades_of (table_of plan table))))
      ∙ at-first (own_death (generator_of plan) table t ordinal ∷ map parent_dies (cascades_of (table_of plan table))) t (sym (death-is ordinal born) ∙ dies)

  -- and no other where no more than one may come
  pub ended-dies : endings (table_of plan table) ≤ 1 → (ordinal : ℕ) → ordinal < first_ordinal births t → is_ended ordinal ≡ dies_at plan table t ordinal
  ended-dies few ordinal born =
      let parent_dies : Reference → Option ℕ = λ reference. death (generator_of plan) reference.parent t (parent_of (generator_of plan) table t ordinal reference) in
      ap (λ (b : Bool). ends_at plan table t ordinal || b) (sym (any-map parent_dies t (cascades_of (table_of plan table))))
      ∙ sym (at-only (table_of plan table).life (own_death (generator_of plan) table t ordinal) (map parent_dies (cascades_of (table_of plan table))) t (own-none ordinal) (omega (arith, few, length-map (cascades_of (table_of plan table)) parent_dies)))
      ∙ sym (death-is ordinal born)
    where
      own-none : (ordinal : ℕ) → (table_of plan table).life ≡ None → own_death (generator_of plan) table t ordinal ≡ None
      own-none ordinal none = ap (λ (life : Option Span). option_map (λ l. birth births t ordinal + l) (life_by life ((generator_of plan).order.place table life_column (birth births t ordinal) (index_at births t ordinal)))) none

  -- so the rows that are looked at and die are all that the unit deletes, and those that are looked at are where no more than one thing may end a row
  pub dying-filter : (found kept : List ℕ) → AreLookedAt plan table t (ends_at plan table t) (cascades_of (table_of plan table)) found kept → IsStrictlyIncreasing kept →
      filter (dies_at plan table t) kept ≡ dying (generator_of plan) table t
  dying-filter found kept are rising =
      kept-filter plan table t (ends_at plan table t) (cascades_of (table_of plan table)) found kept are rising (dies_at plan table t) (dies_at plan table t)
      (λ ordinal born. both (dies_at plan table t ordinal) (is_ended ordinal) (dies-ended ordinal born))
    where
      both : (dies ended : Bool) → (dies ≡ true → ended ≡ true) → (dies && ended) ≡ dies
      both true ended follows = follows refl
      both false ended follows = refl

  pub dying-all : endings (table_of plan table) ≤ 1 → (found kept : List ℕ) → AreLookedAt plan table t (ends_at plan table t) (cascades_of (table_of plan table)) found kept → IsStrictlyIncreasing kept →
      kept ≡ dying (generator_of plan) table t
  dying-all few found kept are rising =
      kept-all plan table t (ends_at plan table t) (cascades_of (table_of plan table)) found kept are rising (dies_at plan table t) (ended-dies few)

-- ---- how many things may end a row

-- the references that take their rows along, as they are ready
cascades-ready : (delimiter start : ℕ) (columns : List ColumnLayout) →
    count_by is_cascade (map (ready_column delimiter) columns) ≡ length (filter is_cascading (references_in start columns))
cascades-ready delimiter start [] = refl
cascades-ready delimiter start (column ∷ others) =
    sum_by-cons (λ (c : ReadyColumn). if is_cascade c then 1 else 0) (ready_column delimiter column) (map (ready_column delimiter) others)
    ∙ cascade-ready delimiter start column.kind column.changes column.null others (cascades-ready delimiter (start + 1) others)
  where
    cascade-ready : (delimiter start : ℕ) (held : KindLayout) (changes : Bool) (null : ℕ) (others : List ColumnLayout) →
        count_by is_cascade (map (ready_column delimiter) others) ≡ length (filter is_cascading (references_in (start + 1) others)) →
        (if is_cascade (ready_column delimiter (record { kind = held; changes = changes; null = null })) then 1 else 0) + count_by is_cascade (map (ready_column delimiter) others)
        ≡ length (filter is_cascading (references_in start (record { kind = held; changes = changes; null = null } ∷ others)))
    cascade-ready delimiter start (reference_kind parent window spread true drawn) changes null others rest = zero-add _ ∙ rest
    cascade-ready delimiter start (reference_kind parent window spread false drawn) changes null others rest = ap (λ (n : ℕ). 1 + n) rest ∙ omega arith
    cascade-ready delimiter start _ changes null others rest = zero-add _ ∙ rest

pub count-cascades : (plan : Project) (table : ℕ) → count_by is_cascade (ready_columns (layout_of plan) table) ≡ length (cascades_of (table_of plan table))
count-cascades plan table = cascades-ready (layout_of plan).delimiter 0 (table_of plan table).columns

-- with a life one reference is one thing too many, and without it two are
pub many-with_life : (n : ℕ) → nat_lt 0 n ≡ nat_lt 1 (1 + n)
many-with_life n = elim (cases_lt 0 n) [
  | inl some ↦ lt-ltb 0 n some ∙ sym (lt-ltb 1 (1 + n) (omega (arith, some)))
  | inr none ↦ le-ltb 0 n none ∙ sym (le-ltb 1 (1 + n) (omega (arith, none)))
]
