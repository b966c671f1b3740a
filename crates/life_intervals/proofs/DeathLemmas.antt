-- Deaths: the first of some, those that a unit passes, and how many units are left to one.
use Rattle.std.proofs.Common.{◌≡◌, ℕ, suc, ◌-◌, ◌≤◌, min, ltb, not, true, false, ◌&&◌, Option, Some, None, option_map, inl, inr, arith, refl, sym, ◌∙◌, ap, le-ltb, lt-ltb, ltb-true, ltb-false, eq-eqb, ne_eqb}
use Rattle.std.proofs.lemmas.Bool.{cases_lt, cases_Bool, and_parts, and_from, false≢true}
use Rattle.schema_facts.specs.Lineage.{lesser_life}
use Rattle.life_intervals.specs.Intervals.{is_after, is_at}
use Rattle.life_intervals.specs.Simulation.{is_over, one_less}

-- the lesser of two deaths is past a unit where both are
pub is_after-lesser_life : (a b : Option ℕ) (unit : ℕ) → is_after (lesser_life a b) unit ≡ (is_after a unit && is_after b unit)
is_after-lesser_life None b unit = refl
is_after-lesser_life (Some a) None unit = elim (cases_Bool (ltb unit a)) [ inl y ↦ rw y refl | inr n ↦ rw n refl ]
is_after-lesser_life (Some a) (Some b) unit = elim (cases_lt unit a) [
  | inl before_a ↦ elim (cases_lt unit b) [
    | inl before_b ↦ rw (lt-ltb unit a before_a, lt-ltb unit b before_b) (lt-ltb unit (min a b) (omega arith))
    | inr past_b ↦ rw (lt-ltb unit a before_a, le-ltb unit b past_b) (le-ltb unit (min a b) (omega arith))
  ]
  | inr past_a ↦ rw (le-ltb unit a past_a) (le-ltb unit (min a b) (omega arith))
]

pub is_after-lesser_parts : (a b : Option ℕ) (unit : ℕ) → is_after (lesser_life a b) unit ≡ true → (is_after a unit ≡ true) × (is_after b unit ≡ true)
is_after-lesser_parts a b unit past = and_parts _ _ (sym (is_after-lesser_life a b unit) ∙ past)

pub is_after-lesser_from : (a b : Option ℕ) (unit : ℕ) → is_after a unit ≡ true → is_after b unit ≡ true → is_after (lesser_life a b) unit ≡ true
is_after-lesser_from a b unit past_a past_b = is_after-lesser_life a b unit ∙ and_from _ _ past_a past_b

-- what a unit has passed, the next one has
pub is_after-suc : (death : Option ℕ) (unit : ℕ) → is_after death unit ≡ false → is_after death (suc unit) ≡ false
is_after-suc None unit passed = absurd (false≢true (sym passed))
is_after-suc (Some death) unit passed = le-ltb (suc unit) death (omega (arith, ltb-false unit death passed))

-- what is past a unit is past each one before
pub is_after-before : (death : Option ℕ) (unit last : ℕ) → unit ≤ last → is_after death last ≡ true → is_after death unit ≡ true
is_after-before None unit last within past = refl
is_after-before (Some death) unit last within past = lt-ltb unit death (omega (arith, ltb-true last death past))

-- the units that are left to a death, one unit on
pub one_less-left : (death : Option ℕ) (unit : ℕ) → one_less (option_map (λ d. d - unit) death) ≡ option_map (λ d. d - suc unit) death
one_less-left None unit = refl
one_less-left (Some death) unit = ap Some (omega arith)

-- they are over when the death comes
pub is_over-left : (death : Option ℕ) (unit : ℕ) → is_after death unit ≡ true → not (is_over (option_map (λ d. d - suc unit) death)) ≡ is_after death (suc unit)
is_over-left None unit past = refl
is_over-left (Some death) unit past = elim (cases_lt (suc unit) death) [
  | inl before ↦ rw (lt-ltb (suc unit) death before) (ap not (ne_eqb (death - suc unit) 0 (λ e. omega arith)))
  | inr after ↦ rw (le-ltb (suc unit) death after) (ap not (eq-eqb (death - suc unit) 0 (omega arith)))
]

-- a death comes at a unit where it was past the one before and isn't past this one, and nowhere else
pub is_at-passed : (death : Option ℕ) (unit : ℕ) → is_after death unit ≡ false → is_at death (suc unit) ≡ false
is_at-passed None unit passed = refl
is_at-passed (Some death) unit passed = ne_eqb death (suc unit) (λ same. omega (arith, ltb-false unit death passed))

pub is_at-later : (death : Option ℕ) (unit : ℕ) → is_after death unit ≡ true → is_at death unit ≡ false
is_at-later None unit past = refl
is_at-later (Some death) unit past = ne_eqb death unit (λ same. omega (arith, ltb-true unit death past))

pub is_at-now : (death : Option ℕ) (unit : ℕ) → is_after death unit ≡ true → is_after death (suc unit) ≡ false → is_at death (suc unit) ≡ true
is_at-now None unit past passed = absurd (false≢true (sym passed))
is_at-now (Some death) unit past passed = eq-eqb death (suc unit) (omega (arith, ltb-true unit death past, ltb-false (suc unit) death passed))
