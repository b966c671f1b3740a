-- The rows of a cohort whose own lives end at a unit and those that are due at it, by what their places leave.
use Rattle.std.proofs.Common.{◌≡◌, ℕ, ◌+◌, ◌-◌, ◌*◌, ◌%◌, ◌/◌, ◌<◌, ◌≤◌, ◌⊎◌, Bool, [], inl, inr, length, Option, Some, None, option_map, ap, arith, sym, ◌∙◌}
use Rattle.std.specs.Prelude.{◌==◌, IfSome, if◌then◌else◌}
use Rattle.std.proofs.lemmas.Bool.{cases_lt, le-ltb, lt-ltb}
use Rattle.std.proofs.lemmas.Nat.{div-add-mod', mod-mul-add, mod_below}
use Rattle.cohort_sizes.specs.Births.{Births, LiesIn, birth, cohort_size, first_ordinal}
use Rattle.cohort_sizes.proofs.CohortLemmas.{birth-only}
use Rattle.schema_facts.specs.declared.layout.Span.{Span}
use Rattle.schema_facts.specs.Dictionaries.{Project}
use Rattle.life_intervals.specs.declared.orders.Purpose.TheVariants.{Lives, Updates}
use Rattle.life_intervals.specs.Changes.{due_by, last_due}
use Rattle.life_intervals.specs.CohortOrders.{due_for, place_for}
use Rattle.life_intervals.specs.FoundAt.{due_at, due_unit, ending_at, rows_leaving}
use Rattle.life_intervals.specs.Generator.{generator_of, last_unit, table_of}
use Rattle.life_intervals.specs.Intervals.{is_at, own_death}
use Rattle.life_intervals.specs.Rows.{life_by}
use Rattle.schema_plan.specs.Limits.{IsInLimits, IsSpan}
use Rattle.life_intervals.proofs.AcceptedLemmas.{AreSound-accepted, length-tables}
use Rattle.life_intervals.proofs.BlockLemmas.{filter-range_none, mod-smaller}
use Rattle.life_intervals.proofs.PartLemmas.{due_for-never, place_for-due, place_for-own_death}
use Rattle.life_intervals.proofs.PermutationLemmas.{differs, filter-range_same, tests-same}

-- whether the last unit at which a row is due by a unit is the unit itself, by the age at which it is due first
last_due-at : (born t period rest : ℕ) → born < t → rest < period → (last_due born (born + (1 + rest)) period t == t) ≡ (rest == (t - born - 1) % period)
last_due-at born t period rest early below =
    let first : ℕ = born + (1 + rest) in
    let age : ℕ = t - born - 1 in
    elim (cases_lt t first) [
      | inl before ↦
          let small : age % period ≡ age = mod-smaller period age (omega (arith, before, below)) in
          ap (λ (b : Bool). (if b then born else t - (t - first) % period) == t) (lt-ltb t first before)
          ∙ tests-same born t rest (age % period) (λ same. absurd (omega (arith, same, early))) (λ same. absurd (omega (arith, same, small, before, early)))
      | inr past ↦
          let over : ℕ = t - first in
          let age_is : age ≡ over + rest = omega (arith, past) in
          let no_more : over % period ≤ over = omega (arith, div-add-mod' over period) in
          ap (λ (b : Bool). (if b then born else t - over % period) == t) (le-ltb t first past)
          ∙ tests-same (t - over % period) t rest (age % period)
          (λ same.
          let none : over % period ≡ 0 = omega (arith, same, no_more, past) in
          let whole : over / period * period + rest ≡ age = omega (arith, div-add-mod' over period, none, age_is) in
          sym (mod-mul-add (over / period) period rest below) ∙ ap (λ n. n % period) whole)
          (λ same.
          let whole : age / period * period + 0 ≡ over = omega (arith, div-add-mod' age period, same, age_is) in
          let none : over % period ≡ 0 = ap (λ n. n % period) (sym whole) ∙ mod-mul-add (age / period) period 0 (omega (arith, below)) in
          omega (arith, none))
    ]

module _ (plan : Project) (table born : ℕ) (t : ℕ) (early : born ≤ t) (within : t ≤ last_unit plan) where
  abbrev births : Births
  births = (table_of plan table).births

  abbrev first : ℕ
  first = first_ordinal births born

  lies_in : (ordinal : ℕ) → first ≤ ordinal → ordinal < first + cohort_size births born → LiesIn births born ordinal
  lies_in ordinal low high = record { begun = low; not_ended = high }

  born_within : born ≤ last_unit plan
  born_within = omega (arith, early, within)

  -- ---- own lives

  own_death_is : (life : Option Span) → (table_of plan table).life ≡ life → (ordinal : ℕ) → first ≤ ordinal → ordinal < first + cohort_size births born →
      own_death (generator_of plan) table t ordinal ≡ option_map (λ l. born + l) (life_by life (place_for plan table Lives born ordinal))
  own_death_is life is ordinal low high =
      place_for-own_death plan table born born_within ordinal (lies_in ordinal low high) t early
      ∙ ap (λ (l : Option Span). option_map (λ n. born + n) (life_by l (place_for plan table Lives born ordinal))) is

  -- none ends where the table's rows have no end of their own
  pub ending-never : (table_of plan table).life ≡ None → [] ≡ ending_at plan table born t
  ending-never is =
      sym (filter-range_none (λ ordinal. is_at (own_death (generator_of plan) table t ordinal) t) first (cohort_size births born) (λ ordinal low high.
      ap (λ (death : Option ℕ). is_at death t) (own_death_is None is ordinal low high)))

  module _ (life : Span) (is : (table_of plan table).life ≡ Some life) (order : life.least ≤ life.most) where
    abbrev lengths : ℕ
    lengths = life.most - life.least + 1

    -- none outside the span
    pub ending-outside : (t < born + life.least) ⊎ (born + life.most < t) → [] ≡ ending_at plan table born t
    ending-outside outside =
        sym (filter-range_none (λ ordinal. is_at (own_death (generator_of plan) table t ordinal) t) first (cohort_size births born) (λ ordinal low high.
        let place : ℕ = place_for plan table Lives born ordinal in
        let rest : place % lengths < lengths = mod_below place lengths (omega arith) in
        ap (λ (death : Option ℕ). is_at death t) (own_death_is (Some life) is ordinal low high)
        ∙ differs (born + (life.least + place % lengths)) t (λ same. elim outside [
          | inl before ↦ omega (arith, before, same)
          | inr past ↦ omega (arith, past, same, rest, order)
        ])))

    -- within it, those whose places leave how far it has come
    pub ending-leaving : born + life.least ≤ t → ending_at plan table born t ≡ rows_leaving plan table Lives born lengths (t - born - life.least)
    ending-leaving from =
        filter-range_same (λ ordinal. is_at (own_death (generator_of plan) table t ordinal) t) (λ ordinal. place_for plan table Lives born ordinal % lengths == t - born - life.least)
        first (cohort_size births born) (λ ordinal low high.
        let rest : ℕ = place_for plan table Lives born ordinal % lengths in
        ap (λ (death : Option ℕ). is_at death t) (own_death_is (Some life) is ordinal low high)
        ∙ tests-same (born + (life.least + rest)) t rest (t - born - life.least) (λ same. omega (arith, same)) (λ same. omega (arith, same, from)))

  -- ---- due rows

  due_unit_is : (ordinal : ℕ) → first ≤ ordinal → ordinal < first + cohort_size births born → due_unit (generator_of plan) table t ordinal ≡ due_for plan table t born ordinal
  due_unit_is ordinal low high =
      ap (λ (b : ℕ). due_by (generator_of plan).order table (table_of plan table) b (ordinal - first_ordinal births b) t)
      (birth-only births t born ordinal early (lies_in ordinal low high))

  -- none is due where the table's rows don't change
  pub due-never : born < t → (table_of plan table).update ≡ None → [] ≡ due_at plan table born t
  due-never before is =
      sym (filter-range_none (λ ordinal. due_unit (generator_of plan) table t ordinal == t) first (cohort_size births born) (λ ordinal low high.
      differs (due_unit (generator_of plan) table t ordinal) t (λ same.
      absurd (omega (arith, same, before, due_unit_is ordinal low high, due_for-never plan table born born_within ordinal (lies_in ordinal low high) t is)))))

  -- those whose places leave how old the rows are, but for a unit
  pub due-leaving : born < t → (period : ℕ) → (table_of plan table).update ≡ Some period → 1 ≤ period → due_at plan table born t ≡ rows_leaving plan table Updates born period ((t - born - 1) % period)
  due-leaving before period is some =
      filter-range_same (λ ordinal. due_unit (generator_of plan) table t ordinal == t) (λ ordinal. place_for plan table Updates born ordinal % period == (t - born - 1) % period)
      first (cohort_size births born) (λ ordinal low high.
      let place : ℕ = place_for plan table Updates born ordinal in
      ap (λ (due : ℕ). due == t) (due_unit_is ordinal low high ∙ sym (place_for-due plan table born born_within ordinal (lies_in ordinal low high) t period is some))
      ∙ last_due-at born t period (place % period) before (mod_below place period some))

-- a row's own life ends within the span of the table's lives
own_death-span : (life : Option Span) → IfSome life IsSpan → (born place death : ℕ) → option_map (λ l. born + l) (life_by life place) ≡ Some death →
    IfSome life (λ span. (born + span.least ≤ death) × (death ≤ born + span.most))
own_death-span None span born place death is = tt
own_death-span (Some life) span born place death is =
    let rest : place % (life.most - life.least + 1) < life.most - life.least + 1 = mod_below place (life.most - life.least + 1) (omega arith) in
    let same : born + (life.least + place % (life.most - life.least + 1)) ≡ death = cc in
    (omega (arith, same), omega (arith, same, rest, span.ordered))

pub own_death-in_span : (plan : Project) → IsInLimits plan → (table : ℕ) → table < length plan.schema.tables → (unit ordinal death : ℕ) → own_death (generator_of plan) table unit ordinal ≡ Some death →
    IfSome (table_of plan table).life (λ span. (birth (table_of plan table).births unit ordinal + span.least ≤ death) × (death ≤ birth (table_of plan table).births unit ordinal + span.most))
own_death-in_span plan limits table below unit ordinal death is =
    own_death-span (table_of plan table).life (AreSound-accepted plan limits table (omega (arith, below, length-tables plan))).life (birth (table_of plan table).births unit ordinal) _ death is
