-- Rates that begin one after the other.
use Rattle.std.specs.Prelude.{◌≡◌, ℕ, ◌+◌, ◌<◌, min, ⊤, List, [], ◌∷◌, slice_get}
use Rattle.std.specs.Option.{option_map_or}
use Rattle.cohort_sizes.specs.declared.rate.Rate.{Rate}

-- each begins later than the one before it, and the first of them later than a unit
abbrev pub RiseFrom : ℕ → List Rate → Type 0
RiseFrom unit [] = ⊤
RiseFrom unit (rate ∷ rates) = (unit < rate.from) × RiseFrom rate.from rates

-- the first begins at unit 1, and each other later than the one before it
abbrev pub AreRates : List Rate → Type 0
AreRates [] = ⊥
AreRates (rate ∷ rates) = (rate.from ≡ 1) × RiseFrom rate.from rates

-- the first unit of the rate at a place, at most the unit after a last one; that unit past the last rate
abbrev pub begin_of_rate : List Rate → ℕ → ℕ → ℕ
begin_of_rate rates place last = min (option_map_or (λ (rate : Rate). rate.from) (slice_get rates place) (last + 1)) (last + 1)
