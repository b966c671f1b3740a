-- What is found of each table, one after the other.
use Rattle.std.proofs.Common.{◌≡◌, ℕ, ◌+◌, ◌<◌, ◌≤◌, Bool, true, false, List, [], ◌∷◌, length, length-set, map, set, get_or, get_or-set_other, get_or-set_same, Option, inl, inr, arith, refl, ap, sym, ◌∙◌}
use Rattle.std.specs.Prelude.{All, if◌then◌else◌}
use Rattle.std.specs.List.{range_with_len}
use Rattle.std.proofs.lemmas.Bool.{cases_Bool, cases_eq, false≢true}
use Rattle.std.proofs.lemmas.List.{get_or-map, length-map, same_lists}
use Rattle.std.proofs.lemmas.List.FromFn.{get_or-map-range_with_len, length-map-range_with_len}
use Rattle.schema_facts.specs.Dictionaries.{Project}
use Rattle.schema_plan.specs.Limits.{IsInLimits}
use Rattle.schema_facts.specs.References.{Reference, references_of}
use Rattle.life_intervals.specs.Generator.{generator_of, last_unit, table_of}
use Rattle.life_intervals.specs.Intervals.{dying}
use Rattle.update_box.specs.declared.table_rows.TableRows.{TableRows}
use Rattle.update_box.specs.Found.{AreNeeded, HasDying, is_needed, is_something, kept_if_chosen, lists_as_needed, sought_of}
use Rattle.update_box.specs.TableLists.{is_chosen, lists_if_chosen, lists_of, no_lists}
use Rattle.update_box.specs.UnitLists.{TableLists}
use Rattle.update_box.proofs.StepLemmas.{deleted-ordinals}

module _ (plan : Project) (limits : IsInLimits plan) (t : ℕ) (within : t ≤ last_unit plan) (table : Option ℕ) (marks : List Bool) (needed : AreNeeded plan table marks) where
  abbrev sought : ℕ → TableLists
  sought = lists_as_needed plan t table marks

  -- where anything is looked for, the table is needed
  something-needed : (place : ℕ) → place < length plan.schema.tables → is_something (sought_of table (is_needed marks place) place) ≡ true → is_needed marks place ≡ true
  something-needed place below something = elim (cases_Bool (is_chosen table place)) [
    | inl chosen ↦ needed.chosen place below chosen
    | inr other ↦ elim (cases_Bool (is_needed marks place)) [
      | inl marked ↦ marked
      | inr none ↦ let nothing = rw (other, none) at something in absurd (false≢true nothing)
    ]
  ]

  -- and of a table that is needed the deletions are found
  sought-deleted : (place : ℕ) → place < length plan.schema.tables → is_needed marks place ≡ true → (sought place).deleted ≡ dying (generator_of plan) place t
  sought-deleted place below marked = elim (cases_Bool (is_chosen table place)) [
    | inl chosen ↦ rw chosen (deleted-ordinals plan limits place below t within)
    | inr other ↦ rw (other, marked) refl
  ]

  -- those that are found so far stand at their places
  found-at : (tables : List TableRows) (place : ℕ) → map lists_of tables ≡ map sought (range_with_len 0 place) → (other : ℕ) → other < place → (d : TableRows) → lists_of (get_or tables other d) ≡ sought other
  found-at tables place are other before d =
      let many : length tables ≡ place = sym (length-map tables lists_of) ∙ ap length are ∙ length-map-range_with_len sought 0 place in
      sym (get_or-map lists_of tables other d (lists_of d) (omega (arith, before, many)))
      ∙ ap (λ (lists : List TableLists). get_or lists other (lists_of d)) are
      ∙ get_or-map-range_with_len sought 0 place other other (lists_of d) before (omega arith)

  -- so what dies is found in the tables to which a table refers, where anything is looked for
  pub parents-found : (tables : List TableRows) (place : ℕ) → place < length plan.schema.tables → map lists_of tables ≡ map sought (range_with_len 0 place) →
      is_something (sought_of table (is_needed marks place) place) ≡ true → All (λ (reference : Reference). HasDying plan t tables reference.parent) (references_of (table_of plan place))
  parents-found tables place below are something = λ k d inside.
      let reference : Reference = get_or (references_of (table_of plan place)) k d in
      let is = limits.references place below k d inside in
      let marked : is_needed marks reference.parent ≡ true = needed.parents place below (something-needed place below something) k d inside in
      let many : length tables ≡ place = sym (length-map tables lists_of) ∙ ap length are ∙ length-map-range_with_len sought 0 place in
      record {
        there = omega (arith, many, is.earlier);
        are = λ e.
            ap (λ (lists : TableLists). lists.deleted) (found-at tables place are reference.parent is.earlier e)
            ∙ sought-deleted reference.parent (omega (arith, is.earlier, below)) marked;
      }

  -- where those of the tables that aren't chosen are left out, the lists of those that are remain
  pub chosen-left : (old new : List TableRows) → map lists_of old ≡ map sought (range_with_len 0 (length plan.schema.tables)) → length new ≡ length old →
      ((place : ℕ) (d : TableRows) → place < length old → lists_of (get_or new place d) ≡ kept_if_chosen table place (lists_of (get_or old place d))) →
      map lists_of new ≡ map (lists_if_chosen plan t table) (range_with_len 0 (length plan.schema.tables))
  chosen-left old new are same each =
      let count : ℕ = length plan.schema.tables in
      let chosen : ℕ → TableLists = lists_if_chosen plan t table in
      let many : length old ≡ count = sym (length-map old lists_of) ∙ ap length are ∙ length-map-range_with_len sought 0 count in
      same_lists (map lists_of new) (map chosen (range_with_len 0 count)) (length-map new lists_of ∙ same ∙ many ∙ sym (length-map-range_with_len chosen 0 count))
      (λ k d inside.
      let below : k < count = omega (arith, inside, length-map new lists_of, same, many) in
      by-index old new are same many each k d below)
    where
      -- some rows to stand past the end of a list that has as many as there are tables
      by-index : (old new : List TableRows) → map lists_of old ≡ map sought (range_with_len 0 (length plan.schema.tables)) → length new ≡ length old → length old ≡ length plan.schema.tables →
          ((place : ℕ) (d : TableRows) → place < length old → lists_of (get_or new place d) ≡ kept_if_chosen table place (lists_of (get_or old place d))) →
          (k : ℕ) (d : TableLists) → k < length plan.schema.tables → get_or (map lists_of new) k d ≡ get_or (map (lists_if_chosen plan t table) (range_with_len 0 (length plan.schema.tables))) k d
      by-index old [] are same many each k d below = absurd (omega (arith, same, many, below))
      by-index old (e ∷ rest) are same many each k d below =
          get_or-map lists_of (e ∷ rest) k e d (omega (arith, same, many, below))
          ∙ each k e (omega (arith, many, below))
          ∙ ap (kept_if_chosen table k) (found-at old (length plan.schema.tables) are k below e)
          ∙ if-chosen k
          ∙ sym (get_or-map-range_with_len (lists_if_chosen plan t table) 0 (length plan.schema.tables) k k d below (omega arith))
        where
          if-chosen : (k : ℕ) → kept_if_chosen table k (sought k) ≡ lists_if_chosen plan t table k
          if-chosen k = elim (cases_Bool (is_chosen table k)) [ inl chosen ↦ rw chosen refl | inr other ↦ rw other refl ]

-- ---- those that are left

-- of the tables before a place those that are chosen are as before, and the others have no lists
pub record AreLeft (table : Option ℕ) (place : ℕ) (before after : List TableRows) : Type 0 where
  pub all : length after ≡ length before
  pub each : (other : ℕ) (d : TableRows) → other < place → lists_of (get_or after other d) ≡ kept_if_chosen table other (lists_of (get_or before other d))
  pub rest : (other : ℕ) (d : TableRows) → place ≤ other → get_or after other d ≡ get_or before other d

pub left-none : (table : Option ℕ) (before : List TableRows) → AreLeft table 0 before before
left-none table before = record { all = refl; each = λ other d below. absurd (omega (arith, below)); rest = λ other d from. refl }

pub left-kept : (table : Option ℕ) (place : ℕ) (before after : List TableRows) → is_chosen table place ≡ true → AreLeft table place before after → AreLeft table (place + 1) before after
left-kept table place before after chosen left = record {
  all = left.all;
  each = λ other d below. elim (cases_eq other place) [
    | inl here ↦
        ap lists_of (left.rest other d (omega (arith, here)))
        ∙ sym (ap (λ (kept : Bool). if kept then lists_of (get_or before other d) else no_lists) (ap (is_chosen table) here ∙ chosen))
    | inr apart ↦ left.each other d (omega (arith, below, apart))
  ];
  rest = λ other d from. left.rest other d (omega (arith, from));
}

pub left-out : (table : Option ℕ) (place : ℕ) (before after : List TableRows) (none : TableRows) → place < length after → lists_of none ≡ no_lists → is_chosen table place ≡ false →
    AreLeft table place before after → AreLeft table (place + 1) before (set after place none)
left-out table place before after none inside is other left = record {
  all = length-set after place none ∙ left.all;
  each = λ at d below. elim (cases_eq at place) [
    | inl here ↦
        ap (λ (k : ℕ). lists_of (get_or (set after place none) k d)) here
        ∙ ap lists_of (get_or-set_same after place none d inside)
        ∙ is
        ∙ sym (ap (λ (kept : Bool). if kept then lists_of (get_or before at d) else no_lists) (ap (is_chosen table) here ∙ other))
    | inr apart ↦ ap lists_of (get_or-set_other after place at none d apart) ∙ left.each at d (omega (arith, below, apart))
  ];
  rest = λ at d from. get_or-set_other after place at none d (λ same. omega (arith, same, from)) ∙ left.rest at d (omega (arith, from));
}
