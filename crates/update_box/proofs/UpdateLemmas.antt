-- Which of the rows that are looked at a unit updates.
use Rattle.std.proofs.Common.{◌≡◌, ℕ, zero, suc, ◌+◌, ◌-◌, ◌==◌, ◌<◌, ◌≤◌, Bool, true, false, ◌&&◌, ◌||◌, List, [], ◌∷◌, length, filter, map, Option, Some, None, option_map, eq-eqb, ne_eqb, inl, inr, arith, refl, ap, ap₂, subst, sym, ◌∙◌}
use Rattle.std.specs.Prelude.{if◌then◌else◌}
use Rattle.std.specs.List.{AllByRecursion, list_any}
use Rattle.std.specs.List.Sorted.{IsStrictlyIncreasing}
use Rattle.std.proofs.lemmas.Bool.{cases_Bool, cases_eq, cases_lt, false≢true, le-ltb, lt-ltb}
use Rattle.std.proofs.lemmas.List.Elements.{recursion_from_All}
use Rattle.schema_model.specs.declared.column.OnDelete.TheVariants.{Null}
use Rattle.cohort_sizes.specs.Births.{Births, birth, born_count, cohort_size, first_ordinal, index_at}
use Rattle.cohort_sizes.proofs.CohortLemmas.{LiesIn-birth, birth-le, index_at-below}
use Rattle.schema_facts.specs.Dictionaries.{Project}
use Rattle.schema_facts.specs.Layout.{layout_of}
use Rattle.schema_plan.specs.Limits.{IsInLimits}
use Rattle.schema_facts.specs.Lineage.{longest_life, sure_life}
use Rattle.schema_facts.specs.References.{Reference, references_of}
use Rattle.life_intervals.specs.Changes.{first_due, last_change}
use Rattle.life_intervals.specs.Generator.{Generator, generator_of, last_unit, table_of}
use Rattle.life_intervals.specs.Intervals.{change_unit, changing, death, is_after, is_at, is_live, loss_of, parent_of}
use Rattle.life_intervals.specs.Sound.{AreSound}
use Rattle.life_intervals.proofs.AcceptedLemmas.{AreSound-accepted, length-tables}
use Rattle.life_intervals.specs.declared.lives.Survival.TheVariants.{Sure}
use Rattle.life_intervals.specs.CohortLives.{survival_at, survival_by}
use Rattle.life_intervals.proofs.CohortAtLemmas.{is_live_in-sure}
use Rattle.life_intervals.proofs.ChangeLemmas.{change-le, last_change-le, last_change-next, last_change-now}
use Rattle.life_intervals.proofs.LifeLemmas.{loss_of-death}
use Rattle.life_intervals.proofs.LongestLifeLemmas.{EndsBy-known_of}
use Rattle.update_box.specs.Candidates.{is_due_at, is_young, lives_at, loses_at, references_on}
use Rattle.life_intervals.specs.FoundAt.{due_unit}
use Rattle.update_box.proofs.BornLemmas.{born-by}
use Rattle.update_box.proofs.CandidateLemmas.{AreLookedAt, is_looked_at, kept-all, kept-filter}

-- a row is alive at a unit, and the unit is its change unit
abbrev pub changes_at : Project → ℕ → ℕ → ℕ → Bool
changes_at plan place unit ordinal = lives_at plan place unit ordinal && change_unit (generator_of plan) place unit ordinal == unit

-- ---- the last change comes at a unit where the change or a loss does

change-now : (unit change : ℕ) (losses : List (Option ℕ)) → 1 ≤ unit → change ≤ unit → (last_change unit change losses == unit) ≡ (change == unit || list_any (λ loss. is_at loss unit) losses)
change-now zero change losses some within = absurd (omega (arith, some))
change-now (suc unit) change losses some within = elim (cases_eq change (suc unit)) [
  | inl now ↦
      rw (eq-eqb change (suc unit) now)
      (eq-eqb (last_change (suc unit) change losses) (suc unit) (ap (λ (c : ℕ). last_change (suc unit) c losses) now ∙ last_change-now (suc unit) losses))
  | inr earlier ↦
      let before : change ≤ unit = omega (arith, within, earlier) in
      let next = last_change-next unit change losses before in
      rw (ne_eqb change (suc unit) earlier)
      (ap (λ (c : ℕ). c == suc unit) next
      ∙ by-loss (list_any (λ loss. is_at loss (suc unit)) losses) (last_change unit change losses) (last_change-le unit change losses before))
]
  where
    by-loss : (comes : Bool) (last : ℕ) → last ≤ unit → ((if comes then suc unit else last) == suc unit) ≡ comes
    by-loss true last before = eq-eqb (suc unit) (suc unit) refl
    by-loss false last before = ne_eqb last (suc unit) (λ same. omega (arith, same, before))

-- ---- losses

-- of what a test lets through something passes another where something passes both
any-filter : {X : Type 0} (p q : X → Bool) (xs : List X) → list_any p (filter q xs) ≡ list_any (λ x. q x && p x) xs
any-filter p q [] = refl
any-filter p q (x ∷ xs) = elim (cases_Bool (q x)) [
  | inl passes ↦ rw passes (ap (λ (b : Bool). p x || b) (any-filter p q xs))
  | inr fails ↦ rw fails (any-filter p q xs)
]

-- where each loss is the parent's death, if the reference becomes null, a loss comes where a parent dies
any-loss : (loss parent_death : Reference → Option ℕ) (unit : ℕ) (references : List Reference) →
    AllByRecursion (λ (reference : Reference). loss reference ≡ (if reference.nulls then parent_death reference else None)) references →
    list_any (λ l. is_at l unit) (map loss references) ≡ list_any (λ (reference : Reference). is_at (parent_death reference) unit) (filter (λ (reference : Reference). reference.nulls) references)
any-loss loss parent_death unit [] are = refl
any-loss loss parent_death unit (reference ∷ others) are =
    ap₂ (λ (a b : Bool). a || b) (ap (λ (l : Option ℕ). is_at l unit) are.0) (any-loss loss parent_death unit others are.1)
    ∙ here reference.nulls
  where
    here : (nulls : Bool) →
        (is_at (if nulls then parent_death reference else None) unit || list_any (λ (r : Reference). is_at (parent_death r) unit) (filter (λ (r : Reference). r.nulls) others))
        ≡ list_any (λ (r : Reference). is_at (parent_death r) unit) (if nulls then reference ∷ filter (λ (r : Reference). r.nulls) others else filter (λ (r : Reference). r.nulls) others)
    here true = refl
    here false = refl

-- ---- the rows that are looked at

module _ (plan : Project) (limits : IsInLimits plan) (table t : ℕ) (below : table < length plan.schema.tables) (some : 1 ≤ t) (within : t ≤ last_unit plan) where
  abbrev generator : Generator
  generator = generator_of plan

  abbrev births : Births
  births = (table_of plan table).births

  abbrev nullings : List Reference
  nullings = references_on Null (table_of plan table)

  sound : AreSound (last_unit plan) (generator_of plan).tables
  sound = AreSound-accepted plan limits

  in_tables : table < length (generator_of plan).tables
  in_tables = omega (arith, below, length-tables plan)

  -- a row that was born before the longest life is dead
  old-dead : (ordinal : ℕ) → ordinal < first_ordinal births t → is_young plan table (birth births t ordinal) t ≡ false → lives_at plan table t ordinal ≡ false
  old-dead ordinal before old =
      let born : ordinal < born_count births t = born-by births t t ordinal (omega arith) before in
      let at : ℕ = birth births t ordinal in
      let early : at ≤ t = birth-le births t ordinal born in
      let whole : at + (t - at) ≡ t = omega (arith, early) in
      subst (λ (u : ℕ). is_after (death generator table t ordinal) u ≡ false) whole
      (EndsBy-known_of (last_unit plan) generator sound table in_tables at (index_at births t ordinal) (t - at) (omega (arith, early, within)) (index_at-below births t ordinal born)
      (sym (after-age (longest_life (layout_of plan).tables table) at t early) ∙ old))
    where
      after-age : (life : Option ℕ) (born unit : ℕ) → born ≤ unit → is_after (option_map (λ l. born + l) life) unit ≡ is_after life (unit - born)
      after-age None born unit within = refl
      after-age (Some life) born unit within = elim (cases_lt unit (born + life)) [
        | inl before ↦ lt-ltb unit (born + life) before ∙ sym (lt-ltb (unit - born) life (omega (arith, before, within)))
        | inr past ↦ le-ltb unit (born + life) past ∙ sym (le-ltb (unit - born) life (omega (arith, past)))
      ]

  -- a row changes at the unit where it is due or a parent dies whom it outlives
  change-is : (ordinal : ℕ) → ordinal < first_ordinal births t →
      (change_unit generator table t ordinal == t) ≡ (due_unit generator table t ordinal == t || list_any (λ reference. loses_at plan table t reference ordinal) nullings)
  change-is ordinal before =
      let born : ordinal < born_count births t = born-by births t t ordinal (omega arith) before in
      let losses : List (Option ℕ) = map (loss_of generator table t ordinal) (references_of (table_of plan table)) in
      let due-le : due_unit generator table t ordinal ≤ t =
      change-le (table_of plan table).update t (birth births t ordinal) (first_due generator.order table (birth births t ordinal) (index_at births t ordinal)) (birth-le births t ordinal born) in
      let parent_death : Reference → Option ℕ = λ reference. death generator reference.parent t (parent_of generator table t ordinal reference) in
      let IsLoss : Reference → Type 0 = λ reference. loss_of generator table t ordinal reference ≡ (if reference.nulls then parent_death reference else None) in
      change-now t (due_unit generator table t ordinal) losses some due-le
      ∙ ap (λ (b : Bool). due_unit generator table t ordinal == t || b)
      (any-loss (loss_of generator table t ordinal) parent_death t (references_of (table_of plan table))
      (recursion_from_All IsLoss (references_of (table_of plan table)) (loss_of-death (last_unit plan) generator sound table in_tables t ordinal within born)))

  -- a row that is looked at and lives on is one that the unit updates
  looked-changes : (ordinal : ℕ) → ordinal < first_ordinal births t →
      (lives_at plan table t ordinal && is_looked_at plan table t (is_due_at plan table t) nullings ordinal) ≡ changes_at plan table t ordinal
  looked-changes ordinal born =
      among (lives_at plan table t ordinal) (is_young plan table (birth births t ordinal) t) (due_unit generator table t ordinal == t) (list_any (λ reference. loses_at plan table t reference ordinal) nullings) (old-dead ordinal born)
      ∙ ap (λ (b : Bool). lives_at plan table t ordinal && b) (sym (change-is ordinal born))
    where
      among : (lives young due loses : Bool) → (young ≡ false → lives ≡ false) → (lives && ((young && due) || loses)) ≡ (lives && (due || loses))
      among false young due loses dead = refl
      among true true due loses dead = refl
      among true false due loses dead = absurd (false≢true (sym (dead refl)))

  -- so those that live on are all that it updates
  pub changing-filter : (list kept : List ℕ) → AreLookedAt plan table t (is_due_at plan table t) nullings list kept → IsStrictlyIncreasing kept →
      filter (lives_at plan table t) kept ≡ changing generator table t
  changing-filter list kept are rising =
      kept-filter plan table t (is_due_at plan table t) nullings list kept are rising (lives_at plan table t) (changes_at plan table t) looked-changes

  -- and those that are looked at are where no row ever dies
  endless-lives : sure_life (layout_of plan).tables table ≡ None → (ordinal : ℕ) → ordinal < first_ordinal births t → lives_at plan table t ordinal ≡ true
  endless-lives endless ordinal before =
      let born : ordinal < born_count births t = born-by births t t ordinal (omega arith) before in
      let at : ℕ = birth births t ordinal in
      let early : at ≤ t = birth-le births t ordinal born in
      let inside : index_at births t ordinal < cohort_size births at = index_at-below births t ordinal born in
      let sure : survival_at plan table at t ≡ Sure = ap (λ (life : Option ℕ). survival_by life (longest_life (layout_of plan).tables table) at t) endless in
      let begun : first_ordinal births at ≤ ordinal = (LiesIn-birth births t ordinal born).1.begun in
      let is : ordinal ≡ first_ordinal births at + index_at births t ordinal = omega (arith, begun) in
      ap (is_live generator table t) is ∙ is_live_in-sure (record { plan = plan; table = table; born = at; unit = t }) limits below within early sure (index_at births t ordinal) inside

  pub changing-all : sure_life (layout_of plan).tables table ≡ None → (list kept : List ℕ) → AreLookedAt plan table t (is_due_at plan table t) nullings list kept → IsStrictlyIncreasing kept →
      kept ≡ changing generator table t
  changing-all endless list kept are rising =
      kept-all plan table t (is_due_at plan table t) nullings list kept are rising (changes_at plan table t)
      (λ ordinal born.
      ap (λ (lives : Bool). lives && is_looked_at plan table t (is_due_at plan table t) nullings ordinal) (sym (endless-lives endless ordinal born)) ∙ looked-changes ordinal born)
