use Rattle.std.proofs.Common.{◌≡◌, ◌≤◌, ◌-◌, ℕ, zero, suc, take, ap, arith, subst, sym, ◌∙◌}
use Rattle.schema_facts.specs.Dictionaries.{Project}
use Rattle.schema_plan.specs.Limits.{IsInLimits}
use Rattle.life_intervals.specs.Generator.{generator_of, last_unit}
use Rattle.row_keeper.specs.Kept.{NoneDangles}
use Rattle.keeper_play.specs.Statements.{rows_of_unit}
use Rattle.sql_lines.specs.Effects.{after_effects, effects_of, unit_statements}
use Rattle.sql_lines.proofs.EffectLemmas.{unit-gives, unit-safe}
use Rattle.sql_lines.proofs.laws.unit_scripts_give_the_rows.Goals as goal

-- a unit from the first on, as the one that follows another
safe : (plan : Project) → IsInLimits plan → (unit count : ℕ) → 1 ≤ unit → unit ≤ last_unit plan →
    NoneDangles (after_effects (take count (effects_of (unit_statements plan unit))) (rows_of_unit (generator_of plan) (unit - 1)))
safe plan limits zero count some within = absurd (omega (arith, some))
safe plan limits (suc unit) count some within =
    let before : suc unit - 1 ≡ unit = omega arith in
    subst (λ (n : ℕ). NoneDangles (after_effects (take count (effects_of (unit_statements plan (suc unit)))) (rows_of_unit (generator_of plan) n))) (sym before)
    (unit-safe plan limits unit within count)

gives : (plan : Project) → IsInLimits plan → (unit : ℕ) → 1 ≤ unit → unit ≤ last_unit plan →
    after_effects (effects_of (unit_statements plan unit)) (rows_of_unit (generator_of plan) (unit - 1)) ≡ rows_of_unit (generator_of plan) unit
gives plan limits zero some within = absurd (omega (arith, some))
gives plan limits (suc unit) some within =
    let before : suc unit - 1 ≡ unit = omega arith in
    ap (λ (n : ℕ). after_effects (effects_of (unit_statements plan (suc unit))) (rows_of_unit (generator_of plan) n)) before ∙ unit-gives plan limits unit within

pub returns : goal.returns
returns c = record { none_dangles = safe; rows = gives }
