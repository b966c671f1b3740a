-- Rates: how many rows are born at the units between the beginning of one and that of the next.
use Rattle.std.proofs.Common.{◌≡◌, ℕ, zero, suc, ◌+◌, ◌<◌, ◌≤◌, Bool, List, [], ◌∷◌, inl, inr, length, get_or, Option, ap, arith, add-one, refl, sym, ◌∙◌}
use Rattle.std.specs.Prelude.{if◌then◌else◌, min}
use Rattle.std.specs.Option.{option_map_or}
use Rattle.std.specs.List.{fold}
use Rattle.std.proofs.lemmas.Bool.{cases_lt, le-leb, lt-leb}
use Rattle.std.proofs.lemmas.Option.{slice_get-get_or, slice_get_past}
use Rattle.cohort_sizes.specs.declared.rate.Rate.{Rate}
use Rattle.cohort_sizes.specs.Births.{Births, cohort_size, rate_at, with_rate}
use Rattle.cohort_sizes.specs.Rates.{AreRates, RiseFrom, begin_of_rate}

begun : (unit before : ℕ) (rate : Rate) → rate.from ≤ unit → with_rate unit before rate ≡ rate.rows
begun unit before rate h = ap (λ (test : Bool). if test then rate.rows else before) (le-leb rate.from unit h)

not_begun : (unit before : ℕ) (rate : Rate) → unit < rate.from → with_rate unit before rate ≡ before
not_begun unit before rate h = ap (λ (test : Bool). if test then rate.rows else before) (lt-leb rate.from unit h)

-- rates that begin later change nothing
none_begun : (rates : List Rate) (unit from before : ℕ) → unit ≤ from → RiseFrom from rates → fold (with_rate unit) before rates ≡ before
none_begun [] unit from before within rise = refl
none_begun (rate ∷ rates) unit from before within rise =
    ap (λ (n : ℕ). fold (with_rate unit) n rates) (not_begun unit before rate (omega (arith, within, rise.0)))
    ∙ none_begun rates unit rate.from before (omega (arith, within, rise.0)) rise.1

-- of rates, the last that has begun by a unit tells how many are born
rate_at-from : (rates : List Rate) (k unit from before : ℕ) (d : Rate) → RiseFrom from rates → k < length rates → (get_or rates k d).from ≤ unit →
    (suc k < length rates → unit < (get_or rates (suc k) d).from) → fold (with_rate unit) before rates ≡ (get_or rates k d).rows
rate_at-from [] k unit from before d rise within is_begun next = absurd (omega (arith, within))
rate_at-from (rate ∷ []) zero unit from before d rise within is_begun next = begun unit before rate is_begun
rate_at-from (rate ∷ other ∷ rates) zero unit from before d rise within is_begun next =
    ap (λ (n : ℕ). fold (with_rate unit) n (other ∷ rates)) (begun unit before rate is_begun)
    ∙ ap (λ (n : ℕ). fold (with_rate unit) n rates) (not_begun unit rate.rows other (next (omega arith)))
    ∙ none_begun rates unit other.from rate.rows (let later = next (omega arith) in omega (arith, later)) rise.1.1
rate_at-from (rate ∷ rates) (suc k) unit from before d rise within is_begun next =
    rate_at-from rates k unit rate.from (with_rate unit before rate) d rise.1 (omega (arith, within)) is_begun (λ below. next (omega (arith, below)))

-- each begins later than the one before it
rise-next : (rates : List Rate) (k from : ℕ) (d : Rate) → RiseFrom from rates → suc k < length rates → (get_or rates k d).from < (get_or rates (suc k) d).from
rise-next [] k from d rise within = absurd (omega (arith, within))
rise-next (rate ∷ []) k from d rise within = absurd (omega (arith, within))
rise-next (rate ∷ other ∷ rates) zero from d rise within = rise.1.0
rise-next (rate ∷ other ∷ rates) (suc k) from d rise within = rise-next (other ∷ rates) k rate.from d rise.1 (omega (arith, within))

-- and later than the unit from which on they rise
rise-past : (rates : List Rate) (k from : ℕ) (d : Rate) → RiseFrom from rates → k < length rates → from < (get_or rates k d).from
rise-past [] k from d rise within = absurd (omega (arith, within))
rise-past (rate ∷ rates) zero from d rise within = rise.0
rise-past (rate ∷ rates) (suc k) from d rise within =
    let past = rise-past rates k rate.from d rise.1 (omega (arith, within)) in omega (arith, past, rise.0)

-- ---- of a table's rates

after_zero : (rates : List Rate) → AreRates rates → RiseFrom 0 rates
after_zero [] are = absurd are
after_zero (rate ∷ rates) are = (omega (arith, are.0), are.1)

pub rates-some : (rates : List Rate) → AreRates rates → 0 < length rates
rates-some [] are = absurd are
rates-some (rate ∷ rates) are = omega arith

pub rates-first : (rates : List Rate) (d : Rate) → AreRates rates → (get_or rates 0 d).from ≡ 1
rates-first [] d are = absurd are
rates-first (rate ∷ rates) d are = are.0

pub rates-rise : (rates : List Rate) (k : ℕ) (d : Rate) → AreRates rates → suc k < length rates → (get_or rates k d).from < (get_or rates (suc k) d).from
rates-rise rates k d are within = rise-next rates k 0 d (after_zero rates are) within

pub rates-late : (rates : List Rate) (k : ℕ) (d : Rate) → AreRates rates → k < length rates → 0 < (get_or rates k d).from
rates-late rates k d are within = rise-past rates k 0 d (after_zero rates are) within

later_size : (births : Births) (unit : ℕ) → 0 < unit → cohort_size births unit ≡ rate_at births.rates unit
later_size births zero some = absurd (omega (arith, some))
later_size births (suc unit) some = refl

-- as many rows are born at each unit from the beginning of a rate up to that of the next
pub cohort_size-rate : (births : Births) (k unit : ℕ) (d : Rate) → AreRates births.rates → k < length births.rates → (get_or births.rates k d).from ≤ unit →
    (suc k < length births.rates → unit < (get_or births.rates (suc k) d).from) → cohort_size births unit ≡ (get_or births.rates k d).rows
cohort_size-rate births k unit d are within is_begun next =
    later_size births unit (omega (arith, is_begun, rates-late births.rates k d are within))
    ∙ rate_at-from births.rates k unit 0 0 d (after_zero births.rates are) within is_begun next

-- ---- where rates begin, up to a last unit

pub begin-first : (rates : List Rate) (last : ℕ) → AreRates rates → begin_of_rate rates 0 last ≡ 1
begin-first [] last are = absurd are
begin-first (rate ∷ rates) last are =
    let first : rate.from ≡ 1 = are.0 in omega (arith, first)

pub begin-at : (rates : List Rate) (place last : ℕ) (d : Rate) → place < length rates → begin_of_rate rates place last ≡ min (get_or rates place d).from (last + 1)
begin-at rates place last d within =
    ap (λ (found : Option Rate). min (option_map_or (λ (rate : Rate). rate.from) found (last + 1)) (last + 1)) (slice_get-get_or rates place d within)

pub begin-past : (rates : List Rate) (place last : ℕ) → length rates ≤ place → begin_of_rate rates place last ≡ last + 1
begin-past rates place last past =
    ap (λ (found : Option Rate). min (option_map_or (λ (rate : Rate). rate.from) found (last + 1)) (last + 1)) (slice_get_past rates place past) ∙ omega arith

-- a rate that has a unit begins where it stands, up to the last unit
pub begin-within : (rates : List Rate) (place last : ℕ) (d : Rate) → AreRates rates → place < length rates → (get_or rates place d).from < begin_of_rate rates (place + 1) last →
    (get_or rates place d).from ≡ begin_of_rate rates place last
begin-within rates place last d are within some =
    let at = begin-at rates place last d within in
    let bound : begin_of_rate rates (place + 1) last ≤ last + 1 = omega arith in
    omega (arith, at, some, bound)

-- one that has none begins past the last unit, and so does the next
pub begin-beyond : (rates : List Rate) (place last : ℕ) (d : Rate) → AreRates rates → place < length rates → begin_of_rate rates (place + 1) last ≤ (get_or rates place d).from →
    begin_of_rate rates place last ≡ begin_of_rate rates (place + 1) last
begin-beyond rates place last d are within none =
    let at = begin-at rates place last d within in
    elim (cases_lt (suc place) (length rates)) [
      | inl more ↦
          let next = begin-at rates (place + 1) last d (omega (arith, more)) in
          let rise = rates-rise rates place d are more in
          let same : (get_or rates (suc place) d).from ≡ (get_or rates (place + 1) d).from = ap (λ (n : ℕ). (get_or rates n d).from) (sym (add-one place)) in
          omega (arith, at, next, rise, same, none)
      | inr last_one ↦ omega (arith, at, begin-past rates (place + 1) last (omega (arith, last_one)), none)
    ]

-- as many rows are born at each unit of the rate at a place
pub cohort_size-at : (births : Births) (place last unit : ℕ) (d : Rate) → AreRates births.rates → place < length births.rates → (get_or births.rates place d).from ≤ unit →
    unit < begin_of_rate births.rates (place + 1) last → cohort_size births unit ≡ (get_or births.rates place d).rows
cohort_size-at births place last unit d are within is_begun not_ended =
    cohort_size-rate births place unit d are within is_begun (λ more.
    let next = begin-at births.rates (place + 1) last d (omega (arith, more)) in
    let same : (get_or births.rates (suc place) d).from ≡ (get_or births.rates (place + 1) d).from = ap (λ (n : ℕ). (get_or births.rates n d).from) (sym (add-one place)) in
    omega (arith, next, same, not_ended))
