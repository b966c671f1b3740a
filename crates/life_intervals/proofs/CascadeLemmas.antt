-- Of some references, those with whose parents a row dies, and those that become null.
use Rattle.std.proofs.Common.{◌≡◌, ℕ, Bool, true, false, not, ◌&&◌, ◌||◌, Option, List, [], ◌∷◌, map, filter, inl, inr, refl}
use Rattle.std.specs.Prelude.{if◌then◌else◌}
use Rattle.std.specs.List.{AllByRecursion}
use Rattle.std.proofs.lemmas.Bool.{cases_Bool}
use Rattle.schema_facts.specs.References.{Reference}
use Rattle.life_intervals.specs.Intervals.{first_death, is_after}
use Rattle.life_intervals.proofs.DeathLemmas.{is_after-lesser_life}

-- whether a row dies with its parent
abbrev pub is_cascading : Reference → Bool
is_cascading reference = not reference.nulls

-- what holds of each item holds of those that a test lets through
pub AllByRecursion-filter : {X : Type 0} (P : X → Type 0) (p : X → Bool) (xs : List X) → AllByRecursion P xs → AllByRecursion P (filter p xs)
AllByRecursion-filter P p [] all = tt
AllByRecursion-filter P p (x ∷ xs) all = elim (cases_Bool (p x)) [
  | inl passes ↦ rw passes (all.0, AllByRecursion-filter P p xs all.1)
  | inr fails ↦ rw fails (AllByRecursion-filter P p xs all.1)
]

-- and so does what follows from it of each
pub AllByRecursion-map : {X : Type 0} (P Q : X → Type 0) → ((x : X) → P x → Q x) → (xs : List X) → AllByRecursion P xs → AllByRecursion Q xs
AllByRecursion-map P Q to [] all = tt
AllByRecursion-map P Q to (x ∷ xs) all = (to x all.0, AllByRecursion-map P Q to xs all.1)

-- the first death of the parents with which a row dies comes after a unit where that of the first reference does, or it becomes null, and
-- that of the others does
pub is_after-cascades : (d : Reference → Option ℕ) (reference : Reference) (others : List Reference) (unit : ℕ) →
    is_after (first_death (map d (filter is_cascading (reference ∷ others)))) unit
    ≡ ((reference.nulls || is_after (d reference) unit) && is_after (first_death (map d (filter is_cascading others))) unit)
is_after-cascades d reference others unit =
    let rest : List Reference = filter is_cascading others in
    elim reference.nulls as (λ nulls. is_after (first_death (map d (if not nulls then reference ∷ rest else rest))) unit
    ≡ ((nulls || is_after (d reference) unit) && is_after (first_death (map d rest)) unit)) [
      | true ↦ refl
      | false ↦ is_after-lesser_life (d reference) (first_death (map d rest)) unit
    ]
