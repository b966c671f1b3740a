-- Changes: how long a row waits for the next one, and which was the last.
use Rattle.std.proofs.Common.{◌≡◌, ℕ, suc, ◌+◌, ◌-◌, ◌/◌, ◌%◌, ◌<◌, ◌≤◌, max, true, false, ◌⊎◌, Option, Some, None, List, [], ◌∷◌, map, inl, inr, arith, refl, sym, ◌∙◌, ap, le-ltb, lt-ltb, eqb-true, eq-eqb, ne_eqb}
use Rattle.std.specs.Prelude.{Contains, IfSome, if◌then◌else◌}
use Rattle.std.specs.List.{AllByRecursion, list_any}
use Rattle.std.specs.Option.{option_map, option_map_or}
use Rattle.std.proofs.lemmas.Bool.{cases_eq, cases_lt, eqb-false, false≢true}
use Rattle.std.proofs.lemmas.List.Elements.{All-from_recursion}
use Rattle.std.proofs.lemmas.Nat.{div-add-mod', mod_below}
use Rattle.std.proofs.Math.Nat.{mod-add-mod, mod_self, mod-eq_of_lt}
use Rattle.life_intervals.specs.Changes.{IsLastChange, IsLastDue, last_change, last_due, units_to_due}
use Rattle.life_intervals.specs.Intervals.{is_at}
use Rattle.life_intervals.specs.Simulation.{is_over, one_less}

-- the remainder of the next number
next_mod_wraps : (x period : ℕ) → x % period + 1 ≡ period → suc x % period ≡ 0
next_mod_wraps x period e = let s : suc x ≡ x + 1 = omega arith in rw s (sym (mod-add-mod x period 1) ∙ ap (λ n. n % period) e ∙ mod_self period)

next_mod : (x period : ℕ) → x % period + 1 < period → suc x % period ≡ x % period + 1
next_mod x period e = let s : suc x ≡ x + 1 = omega arith in rw s (sym (mod-add-mod x period 1) ∙ mod-eq_of_lt e)

-- where a wait ends at the next unit, that unit is the last due one, and a whole period is waited from it on
wait_ends : (born unit first period : ℕ) → 1 ≤ period → is_over (one_less (Some (units_to_due first period unit))) ≡ true →
    (last_due born first period (suc unit) ≡ suc unit) × (units_to_due first period (suc unit) ≡ period)
wait_ends born unit first period some over = elim (cases_lt unit first) [
  | inl before ↦
      let at : first - unit - 1 ≡ 0 = eqb-true _ 0 (rw (lt-ltb unit first before) at over) in
      let rest : (suc unit - first) % period ≡ 0 =
      let e : suc unit - first ≡ 0 = omega arith in rw e (mod-eq_of_lt (omega arith)) in
      rw (le-ltb (suc unit) first (omega arith), rest) (omega arith, omega arith)
  | inr after ↦
      let at : period - (unit - first) % period - 1 ≡ 0 = eqb-true _ 0 (rw (le-ltb unit first after) at over) in
      let below : (unit - first) % period < period = mod_below (unit - first) period (omega arith) in
      let rest : (suc unit - first) % period ≡ 0 =
      let e : suc unit - first ≡ suc (unit - first) = omega arith in rw e (next_mod_wraps (unit - first) period (omega arith)) in
      rw (le-ltb (suc unit) first (omega arith), rest) (omega arith, omega arith)
]

-- where it doesn't end, the last due unit stays, and a unit less is waited
wait_goes_on : (born unit first period : ℕ) → 1 ≤ period → is_over (one_less (Some (units_to_due first period unit))) ≡ false →
    (last_due born first period (suc unit) ≡ last_due born first period unit) × (units_to_due first period (suc unit) ≡ units_to_due first period unit - 1)
wait_goes_on born unit first period some on = elim (cases_lt unit first) [
  | inl before ↦
      let at : first - unit - 1 ≡ 0 → ⊥ = eqb-false _ 0 (rw (lt-ltb unit first before) at on) in
      let early : suc unit < first = elim (cases_lt (suc unit) first) [ inl y ↦ y | inr n ↦ absurd (at (omega arith)) ] in
      rw (lt-ltb (suc unit) first early, lt-ltb unit first before) (refl, omega arith)
  | inr after ↦
      let at : period - (unit - first) % period - 1 ≡ 0 → ⊥ = eqb-false _ 0 (rw (le-ltb unit first after) at on) in
      let below : (unit - first) % period + 1 < period = elim (cases_lt ((unit - first) % period + 1) period) [ inl y ↦ y | inr n ↦ absurd (at (omega arith)) ] in
      let rest : (suc unit - first) % period ≡ (unit - first) % period + 1 =
      let e : suc unit - first ≡ suc (unit - first) = omega arith in rw e (next_mod (unit - first) period below) in
      rw (le-ltb (suc unit) first (omega arith), le-ltb unit first after, rest) (omega arith, omega arith)
]

-- what a wait and a last change are at the next unit
pub record NextChange (update : Option ℕ) (unit : ℕ) (change : ℕ → ℕ) (wait : ℕ → Option ℕ) : Type 0 where
  pub ends : is_over (one_less (wait unit)) ≡ true → (change (suc unit) ≡ suc unit) × (wait (suc unit) ≡ update)
  pub goes_on : is_over (one_less (wait unit)) ≡ false → (change (suc unit) ≡ change unit) × (wait (suc unit) ≡ one_less (wait unit))

pub NextChange-update : (update : Option ℕ) (unit born : ℕ) (first : ℕ → ℕ) → IfSome update (λ period. 1 ≤ period) →
    NextChange update unit (λ unit. option_map_or (λ period. last_due born (first period) period unit) update born)
    (λ unit. option_map (λ period. units_to_due (first period) period unit) update)
NextChange-update None unit born first some = record { ends = λ over. absurd (false≢true over); goes_on = λ on. (refl, refl) }
NextChange-update (Some period) unit born first some = record {
  ends = λ over. let e = wait_ends born unit (first period) period some over in (e.0, ap Some e.1);
  goes_on = λ on. let e = wait_goes_on born unit (first period) period some on in (e.0, ap Some e.1);
}

-- a last change is no later than its unit
pub change-le : (update : Option ℕ) (unit born : ℕ) (first : ℕ → ℕ) → born ≤ unit → option_map_or (λ period. last_due born (first period) period unit) update born ≤ unit
change-le None unit born first within = within
change-le (Some period) unit born first within = elim (cases_lt unit (first period)) [
  | inl before ↦ rw (lt-ltb unit (first period) before) within
  | inr after ↦ rw (le-ltb unit (first period) after) (omega arith)
]

-- at the birth of a row: it changes later, and waits as long as its place says
pub change-born : (update : Option ℕ) (unit place : ℕ) → option_map_or (λ period. last_due unit (unit + (1 + place % period)) period unit) update unit ≡ unit
change-born None unit place = refl
change-born (Some period) unit place = rw (lt-ltb unit (unit + (1 + place % period)) (omega arith)) refl

pub wait-born : (update : Option ℕ) (unit place : ℕ) →
    option_map (λ period. units_to_due (unit + (1 + place % period)) period unit) update ≡ option_map (λ period. 1 + place % period) update
wait-born None unit place = refl
wait-born (Some period) unit place = rw (lt-ltb unit (unit + (1 + place % period)) (omega arith)) (ap Some (omega arith))

pub IsLastDue-last_due : (born first period unit : ℕ) → 1 ≤ period → IsLastDue born first period unit (last_due born first period unit)
IsLastDue-last_due born first period unit some = elim (cases_lt unit first) [
  | inl before ↦ rw (lt-ltb unit first before) (inl (before, refl))
  | inr after ↦
      let whole = div-add-mod' (unit - first) period in
      let below : (unit - first) % period < period = mod_below (unit - first) period (omega arith) in
      rw (le-ltb unit first after) (inr ((unit - first) / period, omega (arith, whole), omega arith, omega (arith, below)))
]

-- ---- losses

-- a change and the losses that have come by a unit are no later than it
pub last_change-le : (unit change : ℕ) (losses : List (Option ℕ)) → change ≤ unit → last_change unit change losses ≤ unit
last_change-le unit change [] within = within
last_change-le unit change (None ∷ losses) within = last_change-le unit change losses within
last_change-le unit change (Some loss ∷ losses) within = elim (cases_lt unit loss) [
  | inl later ↦ rw (lt-ltb unit loss later) (last_change-le unit change losses within)
  | inr past ↦ rw (le-ltb unit loss past) (last_change-le unit (max change loss) losses (omega (arith, within, past)))
]

-- nor are they earlier than the change
pub last_change-from : (unit change : ℕ) (losses : List (Option ℕ)) → change ≤ last_change unit change losses
last_change-from unit change [] = omega arith
last_change-from unit change (None ∷ losses) = last_change-from unit change losses
last_change-from unit change (Some loss ∷ losses) = elim (cases_lt unit loss) [
  | inl later ↦ rw (lt-ltb unit loss later) (last_change-from unit change losses)
  | inr past ↦ rw (le-ltb unit loss past) (omega (arith, last_change-from unit (max change loss) losses))
]

-- what changes at a unit changed then last
pub last_change-now : (unit : ℕ) (losses : List (Option ℕ)) → last_change unit unit losses ≡ unit
last_change-now unit losses = omega (arith, last_change-le unit unit losses (omega arith), last_change-from unit unit losses)

-- at the next unit they are that unit where a loss comes at it, and else what they are
pub last_change-next : (unit change : ℕ) (losses : List (Option ℕ)) → change ≤ unit →
    last_change (suc unit) change losses ≡ (if list_any (λ loss. is_at loss (suc unit)) losses then suc unit else last_change unit change losses)
last_change-next unit change [] within = refl
last_change-next unit change (None ∷ losses) within = last_change-next unit change losses within
last_change-next unit change (Some loss ∷ losses) within = elim (cases_eq loss (suc unit)) [
  | inl now ↦
      let over : max change loss ≡ suc unit = omega (arith, now, within) in
      rw (le-ltb (suc unit) loss (omega (arith, now)), eq-eqb loss (suc unit) now)
      (ap (λ (c : ℕ). last_change (suc unit) c losses) over ∙ last_change-now (suc unit) losses)
  | inr other ↦ elim (cases_lt unit loss) [
    | inl later ↦
        rw (lt-ltb (suc unit) loss (omega (arith, later, other)), lt-ltb unit loss later, ne_eqb loss (suc unit) other) (last_change-next unit change losses within)
    | inr past ↦
        rw (le-ltb (suc unit) loss (omega (arith, past)), le-ltb unit loss past, ne_eqb loss (suc unit) other)
        (last_change-next unit (max change loss) losses (omega (arith, within, past)))
  ]
]

-- where none is there is but the change
pub last_change-none : {X : Type 0} (unit change : ℕ) (loss : X → Option ℕ) (xs : List X) → AllByRecursion (λ x. loss x ≡ None) xs → last_change unit change (map loss xs) ≡ change
last_change-none unit change loss [] none = refl
last_change-none unit change loss (x ∷ xs) none = rw none.0 (last_change-none unit change loss xs none.1)

-- each of those losses comes no later
losses-first : (unit change last : ℕ) (losses : List (Option ℕ)) → last_change unit change losses ≤ last → AllByRecursion (λ loss. IfSome loss (λ l. l ≤ unit → l ≤ last)) losses
losses-first unit change last [] within = tt
losses-first unit change last (None ∷ losses) within = (tt, losses-first unit change last losses within)
losses-first unit change last (Some loss ∷ losses) within = elim (cases_lt unit loss) [
  | inl later ↦ ((λ come. absurd (omega (arith, later, come))), losses-first unit change last losses (rw (lt-ltb unit loss later) at within))
  | inr past ↦
      let rest : last_change unit (max change loss) losses ≤ last = rw (le-ltb unit loss past) at within in
      ((λ come. omega (arith, rest, last_change-from unit (max change loss) losses)), losses-first unit (max change loss) last losses rest)
]

-- the last is the change or one of the losses
or-later : (change last : ℕ) (loss : Option ℕ) (losses : List (Option ℕ)) → (last ≡ change) ⊎ Contains losses (Some last) → (last ≡ change) ⊎ Contains (loss ∷ losses) (Some last)
or-later change last loss losses (inl same) = inl same
or-later change last loss losses (inr (k, below, at)) = inr (suc k, omega (arith, below), at)

or-loss : (change loss last : ℕ) (losses : List (Option ℕ)) → (last ≡ max change loss) ⊎ Contains losses (Some last) → (last ≡ change) ⊎ Contains (Some loss ∷ losses) (Some last)
or-loss change loss last losses (inr found) = or-later change last (Some loss) losses (inr found)
or-loss change loss last losses (inl same) = elim (cases_lt change loss) [
  | inl after ↦ inr (0, omega arith, ap Some (omega (arith, same, after)))
  | inr before ↦ inl (omega (arith, same, before))
]

one_of : (unit change : ℕ) (losses : List (Option ℕ)) → (last_change unit change losses ≡ change) ⊎ Contains losses (Some (last_change unit change losses))
one_of unit change [] = inl refl
one_of unit change (None ∷ losses) = or-later change (last_change unit change losses) None losses (one_of unit change losses)
one_of unit change (Some loss ∷ losses) = elim (cases_lt unit loss) [
  | inl later ↦ rw (lt-ltb unit loss later) (or-later change (last_change unit change losses) (Some loss) losses (one_of unit change losses))
  | inr past ↦ rw (le-ltb unit loss past) (or-loss change loss (last_change unit (max change loss) losses) losses (one_of unit (max change loss) losses))
]

pub IsLastChange-last_change : (unit change : ℕ) (losses : List (Option ℕ)) → IsLastChange unit change losses (last_change unit change losses)
IsLastChange-last_change unit change losses = record {
  change_first = last_change-from unit change losses;
  losses_first = All-from_recursion (λ loss. IfSome loss (λ l. l ≤ unit → l ≤ last_change unit change losses)) losses (losses-first unit change (last_change unit change losses) losses (omega arith));
  one_of_them = one_of unit change losses;
}
