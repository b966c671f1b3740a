-- Statements after each of which no reference dangles.
use Rattle.std.proofs.Common.{◌≡◌, ◌<◌, ◌≤◌, ℕ, zero, suc, ◌+◌, ◌-◌, Bool, true, false, ◌&&◌, ◌==◌, Option, Some, None, List, [], ◌∷◌, ◌++◌, length, map, take, inl, inr, eq-eqb, eqb-true, ne_eqb, refl, ap, ap₂, arith, subst, sym, ◌∙◌}
use Rattle.std.specs.Prelude.{All, IfSome, IsSome, if◌then◌else◌}
use Rattle.std.proofs.lemmas.Bool.{cases_Bool, cases_eq, cases_lt}
use Rattle.std.proofs.lemmas.List.{length-append, take-append-le}
use Rattle.std.proofs.lemmas.List.Sums.{fold-append}
use Rattle.std.proofs.Math.Seq.{take-append-add}
use Rattle.schema_facts.specs.Dictionaries.{Project}
use Rattle.life_intervals.specs.Generator.{generator_of, last_unit, rows_in_all}
use Rattle.life_intervals.specs.Keys.{key_of}
use Rattle.row_keeper.specs.Kept.{KeptRow, KeptRows, NoneDangles, Statement, after_statement, after_statements, put_row, drop_row, is_row, with_row}
use Rattle.row_keeper.specs.declared.keeper.RefTo.{RefTo}
use Rattle.keeper_play.proofs.OrdinalLemmas.{AreThere, IsThere, by_keys, by_keys-with, none_dangles}

take-none : {X : Type 0} (n : ℕ) → take {A = X} n [] ≡ []
take-none zero = refl
take-none (suc n) = refl

module _ (plan : Project) where
  -- some statements take rows to others, and no reference dangles meanwhile
  pub record Plays (statements : List Statement) (before now : KeptRows) : Type 0 where
    pub safe : (count : ℕ) → NoneDangles (after_statements (take count statements) (by_keys plan before))
    pub ends : after_statements statements (by_keys plan before) ≡ by_keys plan now
    pub there : AreThere plan now

  pub plays-none : (rows : KeptRows) → AreThere plan rows → Plays [] rows rows
  plays-none rows there = record {
    safe = λ count. subst (λ (some : List Statement). NoneDangles (after_statements some (by_keys plan rows))) (sym (take-none count)) (none_dangles plan rows there);
    ends = refl;
    there = there;
  }

  plays-one : (statement : Statement) (before now : KeptRows) → AreThere plan before → after_statement (by_keys plan before) statement ≡ by_keys plan now → AreThere plan now →
      Plays (statement ∷ []) before now
  plays-one statement before now was made there = record {
    safe = safe;
    ends = made;
    there = there;
  }
    where
      safe : (count : ℕ) → NoneDangles (after_statements (take count (statement ∷ [])) (by_keys plan before))
      safe zero = none_dangles plan before was
      safe (suc count) =
          subst (λ (some : List Statement). NoneDangles (after_statements (statement ∷ some) (by_keys plan before))) (sym (take-none count))
          (subst NoneDangles (sym made) (none_dangles plan now there))

  -- some and then others
  pub plays-both : (xs ys : List Statement) (before between now : KeptRows) → Plays xs before between → Plays ys between now → Plays (xs ++ ys) before now
  plays-both xs ys before between now first last = record {
    safe = λ count. elim (cases_lt (length xs) count) [
      | inl more ↦
          let rest : length xs + (count - length xs) ≡ count = omega (arith, more) in
          let parts : take count (xs ++ ys) ≡ xs ++ take (count - length xs) ys =
          ap (λ (n : ℕ). take n (xs ++ ys)) (sym rest) ∙ take-append-add xs ys (count - length xs) in
          subst (λ (some : List Statement). NoneDangles (after_statements some (by_keys plan before))) (sym parts)
          (subst NoneDangles (sym (fold-append after_statement (by_keys plan before) xs (take (count - length xs) ys) ∙ ap (after_statements (take (count - length xs) ys)) first.ends))
          (last.safe (count - length xs)))
      | inr few ↦
          subst (λ (some : List Statement). NoneDangles (after_statements some (by_keys plan before))) (sym (take-append-le count xs ys few)) (first.safe count)
    ];
    ends = fold-append after_statement (by_keys plan before) xs ys ∙ ap (after_statements ys) first.ends ∙ last.ends;
    there = last.there;
  }

  -- ---- puts

  -- what is kept stays there where a row is put
  stays : (table i t j : ℕ) (row : KeptRow) (rows : KeptRows) → IsSome (rows t j) → IsSome (with_row table i (Some row) rows t j)
  stays table i t j row rows kept = elim (cases_Bool (is_row table i t j)) [ inl here ↦ rw here refl | inr other ↦ rw other kept ]

  pub still_there : (table i : ℕ) (row : KeptRow) (rows : KeptRows) (ref : RefTo) → IsThere plan rows ref → IsThere plan (with_row table i (Some row) rows) ref
  still_there table i row rows ref is = record { ordinal = is.ordinal; born = is.born; has = is.has; kept = stays table i ref.table is.ordinal row rows is.kept }

  all_still : (table i : ℕ) (row : KeptRow) (rows : KeptRows) (kept : Option KeptRow) → IfSome kept (λ (of : KeptRow). All (IsThere plan rows) of.refs) →
      IfSome kept (λ (of : KeptRow). All (IsThere plan (with_row table i (Some row) rows)) of.refs)
  all_still table i row rows None are = tt
  all_still table i row rows (Some of) are = λ k d below. still_there table i row rows _ (are k d below)

  there-put : (table i : ℕ) (row : KeptRow) (rows : KeptRows) → AreThere plan rows → All (IsThere plan rows) row.refs → AreThere plan (with_row table i (Some row) rows)
  unfolding AreThere
  there-put table i row rows are its t j = elim (cases_Bool (is_row table i t j)) [
    | inl here ↦ rw here (λ k d below. still_there table i row rows _ (its k d below))
    | inr other ↦ rw other (all_still table i row rows (rows t j) (are t j))
  ]

  -- rows of a table that are put, by ordinals
  abbrev pub with_rows : ℕ → (ℕ → KeptRow) → List ℕ → KeptRows → KeptRows
  with_rows table row [] rows = rows
  with_rows table row (i ∷ is) rows = with_rows table row is (with_row table i (Some (row i)) rows)

  -- a row is one of the table's, and each of its references leads to a row that is kept
  pub record CanPut (table : ℕ) (row : ℕ → KeptRow) (rows : KeptRows) (i : ℕ) : Type 0 where
    pub born : i < rows_in_all plan table
    pub refs : All (IsThere plan rows) (row i).refs

  pub plays-puts : (table : ℕ) (row : ℕ → KeptRow) (is : List ℕ) (rows : KeptRows) → AreThere plan rows → All (CanPut table row rows) is →
      Plays (map (λ i. put_row table (key_of (generator_of plan) table (last_unit plan) i) (row i)) is) rows (with_rows table row is rows)
  plays-puts table row [] rows are can = plays-none rows are
  plays-puts table row (i ∷ is) rows are can =
      let first : CanPut table row rows i = can 0 i (omega arith) in
      let next : KeptRows = with_row table i (Some (row i)) rows in
      let there : AreThere plan next = there-put table i (row i) rows are first.refs in
      plays-both (put_row table (key_of (generator_of plan) table (last_unit plan) i) (row i) ∷ []) (map (λ j. put_row table (key_of (generator_of plan) table (last_unit plan) j) (row j)) is) rows next (with_rows table row is next)
      (plays-one (put_row table (key_of (generator_of plan) table (last_unit plan) i) (row i)) rows next are (by_keys-with plan table i (Some (row i)) rows first.born) there)
      (plays-puts table row is next there
      (λ k d below.
      let at : CanPut table row rows _ = can (suc k) d (omega (arith, below)) in
      record { born = at.born; refs = λ n e within. still_there table i (row i) rows _ (at.refs n e within) }))

  -- ---- drops

  -- a reference doesn't lead to a row
  abbrev pub IsOff : ℕ → ℕ → RefTo → Type 0
  IsOff table i ref = (ordinal : ℕ) → ordinal < rows_in_all plan ref.table → key_of (generator_of plan) ref.table (last_unit plan) ordinal ≡ ref.key → ref.table ≡ table → ordinal ≡ i → ⊥

  -- no row's does
  unfoldable pub NoneLeads : ℕ → ℕ → KeptRows → Type 0
  NoneLeads table i rows = (t j : ℕ) → IfSome (rows t j) (λ (row : KeptRow). All (IsOff table i) row.refs)

  stays_off : (table i t j : ℕ) (rows : KeptRows) → (table ≡ t → i ≡ j → ⊥) → IsSome (rows t j) → IsSome (with_row table i None rows t j)
  stays_off table i t j rows off kept = elim (cases_eq table t) [
    | inr other ↦ rw (ne_eqb table t other) kept
    | inl same ↦ elim (cases_eq i j) [
      | inl is ↦ absurd (off same is)
      | inr apart ↦ rw (eq-eqb table t same, ne_eqb i j apart) kept
    ]
  ]

  there_off : (table i : ℕ) (rows : KeptRows) (ref : RefTo) → IsOff table i ref → IsThere plan rows ref → IsThere plan (with_row table i None rows) ref
  there_off table i rows ref off is = record {
    ordinal = is.ordinal;
    born = is.born;
    has = is.has;
    kept = stays_off table i ref.table is.ordinal rows (λ same here. off is.ordinal is.born is.has (sym same) (sym here)) is.kept;
  }

  all_off : (table i : ℕ) (rows : KeptRows) (kept : Option KeptRow) → IfSome kept (λ (of : KeptRow). All (IsOff table i) of.refs) → IfSome kept (λ (of : KeptRow). All (IsThere plan rows) of.refs) →
      IfSome kept (λ (of : KeptRow). All (IsThere plan (with_row table i None rows)) of.refs)
  all_off table i rows None off are = tt
  all_off table i rows (Some of) off are = λ k d below. there_off table i rows _ (off k d below) (are k d below)

  there-drop : (table i : ℕ) (rows : KeptRows) → AreThere plan rows → NoneLeads table i rows → AreThere plan (with_row table i None rows)
  unfolding AreThere NoneLeads
  there-drop table i rows are none t j = elim (cases_Bool (is_row table i t j)) [
    | inl here ↦ rw here tt
    | inr other ↦ rw other (all_off table i rows (rows t j) (none t j) (are t j))
  ]

  none_leads : (table i other : ℕ) (rows : KeptRows) → NoneLeads table i rows → NoneLeads table i (with_row table other None rows)
  unfolding NoneLeads
  none_leads table i other rows none t j = elim (cases_Bool (is_row table other t j)) [ inl here ↦ rw here tt | inr off ↦ rw off (none t j) ]

  -- rows of a table that are dropped, by ordinals
  abbrev pub without_rows : ℕ → List ℕ → KeptRows → KeptRows
  without_rows table [] rows = rows
  without_rows table (i ∷ is) rows = without_rows table is (with_row table i None rows)

  pub plays-drops : (table : ℕ) (is : List ℕ) (rows : KeptRows) → AreThere plan rows → All (λ i. i < rows_in_all plan table) is → All (λ i. NoneLeads table i rows) is →
      Plays (map (λ i. drop_row table (key_of (generator_of plan) table (last_unit plan) i)) is) rows (without_rows table is rows)
  plays-drops table [] rows are born none = plays-none rows are
  plays-drops table (i ∷ is) rows are born none =
      let next : KeptRows = with_row table i None rows in
      let there : AreThere plan next = there-drop table i rows are (none 0 i (omega arith)) in
      plays-both (drop_row table (key_of (generator_of plan) table (last_unit plan) i) ∷ []) (map (λ j. drop_row table (key_of (generator_of plan) table (last_unit plan) j)) is) rows next (without_rows table is next)
      (plays-one (drop_row table (key_of (generator_of plan) table (last_unit plan) i)) rows next are (by_keys-with plan table i None rows (born 0 i (omega arith))) there)
      (plays-drops table is next there (λ k d below. born (suc k) d (omega (arith, below))) (λ k d below. none_leads table _ i rows (none (suc k) d (omega (arith, below)))))
