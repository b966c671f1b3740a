-- Rows that are kept, by the ordinals of their tables' rows.
use Rattle.std.proofs.Common.{◌≡◌, ◌<◌, ◌≤◌, ℕ, zero, suc, ◌+◌, Bool, true, false, ◌&&◌, ◌==◌, Option, Some, None, List, [], ◌∷◌, find, inl, inr, eq-eqb, eqb-true, ne_eqb, refl, ap, ap₂, arith, subst, sym, ◌∙◌}
use Rattle.std.specs.Prelude.{All, IfSome, IsSome, if◌then◌else◌}
use Rattle.std.specs.List.{range_with_len}
use Rattle.std.specs.Option.{option_and_then}
use Rattle.std.proofs.Math.Path.{fun_ext}
use Rattle.std.proofs.lemmas.Bool.{and_parts, cases_Bool, cases_eq, false≢true}
use Rattle.schema_facts.specs.Dictionaries.{Project}
use Rattle.life_intervals.specs.Generator.{generator_of, last_unit, rows_in_all}
use Rattle.life_intervals.specs.Keys.{key_of}
use Rattle.life_intervals.proofs.KeyLemmas.{OrdersCohorts-generator_of, key_of-one_to_one}
use Rattle.row_lines.specs.Reports.{row_with_key}
use Rattle.row_keeper.specs.Kept.{KeptRow, KeptRows, NoneDangles, is_row, with_row}
use Rattle.row_keeper.specs.declared.keeper.RefTo.{RefTo}

-- ---- the first number of a range that passes a test

pub find-passes : (p : ℕ → Bool) (a n j : ℕ) → find p (range_with_len a n) ≡ Some j → (p j ≡ true) × (a ≤ j) × (j < a + n)
find-passes p a zero j found = absurd (cc)
find-passes p a (suc n) j found = elim (cases_Bool (p a)) [
  | inl passes ↦
      let here : Some a ≡ Some j = rw passes at found in
      let same : a ≡ j = cc in
      (subst (λ (x : ℕ). p x ≡ true) same passes, omega (arith, same), omega (arith, same))
  | inr fails ↦
      let rest = find-passes p (a + 1) n j (rw fails at found) in
      (rest.0, omega (arith, rest.1), omega (arith, rest.2))
]

-- the one number that passes is found
pub find-only : (p : ℕ → Bool) (a n j : ℕ) → a ≤ j → j < a + n → p j ≡ true → ((i : ℕ) → a ≤ i → i < a + n → p i ≡ true → i ≡ j) → find p (range_with_len a n) ≡ Some j
find-only p a zero j from below passes only = absurd (omega (arith, from, below))
find-only p a (suc n) j from below passes only = elim (cases_Bool (p a)) [
  | inl here ↦ rw here (ap Some (only a (omega arith) (omega arith) here))
  | inr fails ↦ elim (cases_eq a j) [
    | inl same ↦ absurd (false≢true (sym fails ∙ ap p same ∙ passes))
    | inr apart ↦ rw fails (find-only p (a + 1) n j (omega (arith, from, apart)) (omega (arith, below)) passes (λ i low high. only i (omega (arith, low)) (omega (arith, high))))
  ]
]

-- ---- keys and ordinals

module _ (plan : Project) where
  abbrev key : ℕ → ℕ → ℕ
  key table ordinal = key_of (generator_of plan) table (last_unit plan) ordinal

  -- two rows of a table with one key are one
  pub key-only : (table i j : ℕ) → i < rows_in_all plan table → j < rows_in_all plan table → key table i ≡ key table j → i ≡ j
  key-only table i j born_i born_j same =
      key_of-one_to_one (generator_of plan) table (OrdersCohorts-generator_of plan table) (last_unit plan) i j born_i born_j same

  -- the row with a key has it
  pub row_with_key-has : (table k j : ℕ) → row_with_key plan table k ≡ Some j → (key table j ≡ k) × (j < rows_in_all plan table)
  row_with_key-has table k j found =
      let is = find-passes (λ ordinal. key table ordinal == k) 0 (rows_in_all plan table) j found in
      (eqb-true (key table j) k is.0, omega (arith, is.2))

  -- and a row is found by its key
  pub row_with_key-at : (table j : ℕ) → j < rows_in_all plan table → row_with_key plan table (key table j) ≡ Some j
  row_with_key-at table j born =
      find-only (λ ordinal. key table ordinal == key table j) 0 (rows_in_all plan table) j (omega arith) (omega (arith, born)) (eq-eqb (key table j) (key table j) refl)
      (λ i low high same. key-only table i j (omega (arith, high)) born (eqb-true (key table i) (key table j) same))

  -- rows by the places of their tables and their ordinals, as rows by keys
  abbrev pub by_keys : KeptRows → KeptRows
  by_keys rows table k = option_and_then (rows table) (row_with_key plan table k)

  -- one row more, by its key or by its ordinal
  entry : (table i : ℕ) (row : Option KeptRow) (rows : KeptRows) (t k : ℕ) (found : Option ℕ) → i < rows_in_all plan table → row_with_key plan t k ≡ found →
      (if is_row table (key table i) t k then row else option_and_then (rows t) found) ≡ option_and_then (with_row table i row rows t) found
  entry table i row rows t k None born found = elim (cases_eq table t) [
    | inl same ↦ elim (cases_eq (key table i) k) [
      | inl is ↦
          let there : row_with_key plan t k ≡ Some i = ap₂ (λ (a b : ℕ). row_with_key plan a b) (sym same) (sym is) ∙ row_with_key-at table i born in
          absurd (cc)
      | inr apart ↦ rw (eq-eqb table t same, ne_eqb (key table i) k apart) refl
    ]
    | inr other ↦ rw (ne_eqb table t other) refl
  ]
  entry table i row rows t k (Some j) born found =
      let has = row_with_key-has t k j found in
      elim (cases_eq table t) [
        | inl same ↦ elim (cases_eq i j) [
          | inl is ↦
              let here : key table i ≡ k = ap₂ (λ (a b : ℕ). key a b) same is ∙ has.0 in
              rw (eq-eqb table t same, eq-eqb (key table i) k here, eq-eqb i j is) refl
          | inr apart ↦
              let off : key table i ≡ k → ⊥ = λ e. apart (key-only table i j born (subst (λ (a : ℕ). j < rows_in_all plan a) (sym same) has.1) (e ∙ sym has.0 ∙ ap (λ (a : ℕ). key a j) (sym same))) in
              rw (eq-eqb table t same, ne_eqb (key table i) k off, ne_eqb i j apart) refl
        ]
        | inr other ↦ rw (ne_eqb table t other) refl
      ]

  pub by_keys-with : (table i : ℕ) (row : Option KeptRow) (rows : KeptRows) → i < rows_in_all plan table →
      with_row table (key table i) row (by_keys rows) ≡ by_keys (with_row table i row rows)
  by_keys-with table i row rows born =
      fun_ext (λ (t : ℕ). fun_ext (λ (k : ℕ). entry table i row rows t k (row_with_key plan t k) born refl))

  -- ---- references

  -- a reference leads to a row that is kept
  pub record IsThere (rows : KeptRows) (ref : RefTo) : Type 0 where
    pub ordinal : ℕ
    pub born : ordinal < rows_in_all plan ref.table
    pub has : key_of (generator_of plan) ref.table (last_unit plan) ordinal ≡ ref.key
    pub kept : IsSome (rows ref.table ordinal)

  -- each reference of each row does
  unfoldable pub AreThere : KeptRows → Type 0
  AreThere rows = (table ordinal : ℕ) → IfSome (rows table ordinal) (λ (row : KeptRow). All (IsThere rows) row.refs)

  there-by_key : (rows : KeptRows) (ref : RefTo) → IsThere rows ref → IsSome (by_keys rows ref.table ref.key)
  there-by_key rows ref is =
      subst (λ (found : Option ℕ). IsSome (option_and_then (rows ref.table) found))
      (sym (ap (row_with_key plan ref.table) (sym is.has) ∙ row_with_key-at ref.table is.ordinal is.born)) is.kept

  all-there : (rows : KeptRows) (kept : Option KeptRow) → IfSome kept (λ (row : KeptRow). All (IsThere rows) row.refs) →
      IfSome kept (λ (row : KeptRow). All (λ (ref : RefTo). IsSome (by_keys rows ref.table ref.key)) row.refs)
  all-there rows None are = tt
  all-there rows (Some row) are = λ i d below. there-by_key rows _ (are i d below)

  pub none_dangles : (rows : KeptRows) → AreThere rows → NoneDangles (by_keys rows)
  unfolding AreThere
  none_dangles rows are table k = at (row_with_key plan table k)
    where
      at : (found : Option ℕ) → IfSome (option_and_then (rows table) found) (λ (row : KeptRow). All (λ (ref : RefTo). IsSome (by_keys rows ref.table ref.key)) row.refs)
      at None = tt
      at (Some j) = all-there rows (rows table j) (are table j)
