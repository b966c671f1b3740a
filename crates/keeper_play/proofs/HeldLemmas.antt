-- Where the references of living rows lead, and rows that a unit leaves as they are.
use Rattle.std.proofs.Common.{◌≡◌, ◌<◌, ◌≤◌, ℕ, zero, suc, ◌+◌, ◌-◌, Bool, true, false, ◌&&◌, ◌==◌, Option, Some, None, List, [], ◌∷◌, ◌++◌, filter_map, get_or, length, map, take, inl, inr, eq-eqb, eqb-true, ne_eqb, refl, ap, ap₂, arith, subst, sym, ◌∙◌}
use Rattle.std.specs.Prelude.{All, IfSome, codes, if◌then◌else◌}
use Rattle.std.specs.List.{cons_option, join_with_byte}
use Rattle.std.proofs.lemmas.Bool.{cases_Bool, cases_eq, cases_lt, le-ltb, lt-ltb}
use Rattle.std.proofs.lemmas.List.{get_or-map, length-map}
use Rattle.std.proofs.lemmas.List.Elements.{All-cons, All-from_recursion, All-map}
use Rattle.cohort_sizes.specs.Births.{Births, birth, born_count, first_ordinal, index_at}
use Rattle.cohort_sizes.proofs.CohortLemmas.{LiesIn-birth, birth-later, birth-le, born_count-le, index_at-below}
use Rattle.schema_facts.specs.Dictionaries.{Project}
use Rattle.schema_facts.specs.Layout.{TableLayout, table_at}
use Rattle.schema_plan.specs.Limits.{IsInLimits}
use Rattle.schema_facts.specs.Lineage.{sure_life}
use Rattle.schema_facts.specs.References.{IsReferenceInLimits, Reference, references_of}
use Rattle.life_intervals.specs.Generator.{Generator, generator_of, last_unit, rows_in_all, table_of}
use Rattle.life_intervals.specs.Intervals.{Known, change_unit, death, held_parent, held_until, is_after, is_live, known_tables, loss_by, loss_of, parent_of, row_at}
use Rattle.life_intervals.specs.Keys.{key_of}
use Rattle.life_intervals.specs.Rows.{Row}
use Rattle.life_intervals.specs.Simulation.{holds_row, rows_at}
use Rattle.life_intervals.specs.Sound.{AreSound}
use Rattle.life_intervals.proofs.AcceptedLemmas.{AreSound-accepted, place-below}
use Rattle.life_intervals.proofs.HeldParentLemmas.{parent_of-by, parents-held}
use Rattle.life_intervals.proofs.KnownLemmas.{known_at-before, length-known_before, refers-of}
use Rattle.life_intervals.proofs.LifeLemmas.{change_unit-le, death-later}
use Rattle.life_intervals.proofs.LiveLemmas.{holds_row-live}
use Rattle.life_intervals.proofs.ParentLemmas.{Refers, parent_by-lies}
use Rattle.life_intervals.proofs.SoundLemmas.{change_unit-last}
use Rattle.row_lines.specs.Lines.{field_texts, line}
use Rattle.row_lines.proofs.LineLemmas.{key_of-by}
use Rattle.row_lines.proofs.RestedLineLemmas.{field_texts-next}
use Rattle.row_keeper.specs.Kept.{KeptRow}
use Rattle.keeper_play.specs.Statements.{kept_row, refs_of, reference_to}
use Rattle.row_keeper.specs.declared.keeper.RefTo.{RefTo}
use Rattle.keeper_play.proofs.RefLemmas.{ref_at, refs_of-row_at}

-- what is found of each item
all-found : {X Y : Type 0} (f : X → Option Y) (P : Y → Type 0) (xs : List X) → All (λ x. IfSome (f x) P) xs → All P (filter_map f xs)
all-found f P [] each = λ i d below. absurd (omega (arith, below))
all-found f P (x ∷ xs) each = first (f x) (each 0 x (omega arith)) (all-found f P xs (λ i d below. each (suc i) d (omega (arith, below))))
  where
    first : (found : Option _) → IfSome found P → All P (filter_map f xs) → All P (cons_option found (filter_map f xs))
    first None is rest = rest
    first (Some y) is rest = All-cons P y (filter_map f xs) is rest

found-same : {X Y : Type 0} (f g : X → Option Y) (xs : List X) → All (λ x. f x ≡ g x) xs → filter_map f xs ≡ filter_map g xs
found-same f g [] same = refl
found-same f g (x ∷ xs) same = ap₂ cons_option (same 0 x (omega arith)) (found-same f g xs (λ i d below. same (suc i) d (omega (arith, below))))

module _ (plan : Project) (limits : IsInLimits plan) where
  abbrev generator : Generator
  generator = generator_of plan

  abbrev sound : AreSound (last_unit plan) (generator_of plan).tables
  sound = AreSound-accepted plan limits

  abbrev births : ℕ → Births
  births place = (table_of plan place).births

  -- a reference leads to a row of an earlier table that is alive, and born no later than the row of the reference
  pub record LeadsTo (place unit born : ℕ) (ref : RefTo) : Type 0 where
    pub ordinal : ℕ
    pub earlier : ref.table < place
    pub by_birth : ordinal < born_count (table_of plan ref.table).births born
    pub has : key_of (generator_of plan) ref.table (last_unit plan) ordinal ≡ ref.key
    pub alive : is_live (generator_of plan) ref.table unit ordinal ≡ true

  module _ (place : ℕ) (below : place < length plan.schema.tables) (unit : ℕ) (within : unit ≤ last_unit plan) (ordinal : ℕ) (born : ordinal < born_count (table_of plan place).births unit) where
    at_birth : birth (births place) unit ordinal ≤ unit
    at_birth = birth-le (births place) unit ordinal born

    -- a parent is born by the birth
    parent-born : (reference : Reference) → Refers (last_unit plan) (take place (known_tables (generator_of plan))) (sure_life (generator_of plan).tables) (births place) reference →
        parent_of (generator_of plan) place unit ordinal reference < born_count (table_of plan reference.parent).births (birth (births place) unit ordinal)
    parent-born reference refers =
        let is_earlier : reference.parent < place = omega (arith, refers.is_earlier, length-known_before generator place (place-below plan place below)) in
        subst (λ (known : Known). parent_of generator place unit ordinal reference < born_count known.table.births (birth (births place) unit ordinal))
        (known_at-before generator place reference.parent (place-below plan place below) is_earlier)
        (parent_by-lies (last_unit plan) generator.order (take place (known_tables generator)) (sure_life generator.tables) (births place) (birth (births place) unit ordinal) (index_at (births place) unit ordinal)
        (omega (arith, at_birth, within)) (index_at-below (births place) unit ordinal born) reference refers).1

    -- where a held parent is held by its table, the reference leads to it
    leads : (reference : Reference) (held : Option ℕ) → reference.parent < place →
        IfSome held (λ parent. parent < born_count (table_of plan reference.parent).births (birth (births place) unit ordinal)) →
        IfSome held (λ parent. holds_row (rows_at (generator_of plan) reference.parent unit) parent ≡ true) →
        IfSome (reference_to (generator_of plan) (birth (births place) unit ordinal) (reference, held)) (LeadsTo place unit (birth (births place) unit ordinal))
    leads reference None earlier by is = tt
    leads reference (Some parent) earlier by is = record {
      ordinal = parent;
      earlier = earlier;
      by_birth = by;
      has = key_of-by generator (last_unit plan) (birth (births place) unit ordinal) reference.parent parent (omega (arith, at_birth, within)) by;
      alive =
          sym (holds_row-live (last_unit plan) generator reference.parent unit parent sound within
          (omega (arith, by, born_count-le (table_of plan reference.parent).births (birth (births place) unit ordinal) unit at_birth))) ∙ is;
    }

    -- a parent that is held until a loss is born when the parent is
    held-born : (reference : Reference) (loss : Option ℕ) → parent_of (generator_of plan) place unit ordinal reference < born_count (table_of plan reference.parent).births (birth (births place) unit ordinal) →
        IfSome (held_until loss unit (parent_of (generator_of plan) place unit ordinal reference)) (λ parent. parent < born_count (table_of plan reference.parent).births (birth (births place) unit ordinal))
    held-born reference loss is = elim (cases_Bool (is_after loss unit)) [ inl held ↦ rw held is | inr lost ↦ rw lost tt ]

    pub refs-lead : is_live (generator_of plan) place unit ordinal ≡ true →
        All (LeadsTo place unit (birth (table_of plan place).births unit ordinal)) (refs_of (generator_of plan) place (row_at (generator_of plan) place unit ordinal))
    refs-lead alive =
        let references : List Reference = references_of (table_of plan place) in
        let held = parents-held (last_unit plan) generator sound place (place-below plan place below) unit ordinal within
        (holds_row-live (last_unit plan) generator place unit ordinal sound within born ∙ alive) in
        let refers = All-from_recursion (Refers (last_unit plan) (take place (known_tables generator)) (sure_life generator.tables) (births place)) references
        (refers-of (last_unit plan) generator sound place (place-below plan place below)) in
        subst (All (LeadsTo place unit (birth (births place) unit ordinal))) (sym (refs_of-row_at generator place unit ordinal))
        (all-found (ref_at generator place unit ordinal) (LeadsTo place unit (birth (births place) unit ordinal)) references
        (λ i d inside.
        let reference : Reference = get_or references i d in
        leads reference (held_parent generator place unit ordinal reference) (limits.references place below i d inside).earlier
        (held-born reference (loss_of generator place unit ordinal reference) (parent-born reference (refers i d inside)))
        (held i d inside)))

  -- ---- rows that stay as they are

  -- what doesn't come at the next unit comes past it where it comes past this one
  after-next : (loss : Option ℕ) (unit : ℕ) → (loss ≡ Some (suc unit) → ⊥) → is_after loss (suc unit) ≡ is_after loss unit
  after-next None unit off = refl
  after-next (Some loss) unit off = elim (cases_lt unit loss) [
    | inr past ↦ rw (le-ltb (suc unit) loss (omega (arith, past)), le-ltb unit loss past) refl
    | inl later ↦ elim (cases_eq loss (suc unit)) [
      | inl here ↦ absurd (off (ap Some here))
      | inr other ↦ rw (lt-ltb (suc unit) loss (omega (arith, later, other)), lt-ltb unit loss later) refl
    ]
  ]

  module _ (place : ℕ) (below : place < length plan.schema.tables) (unit : ℕ) (within : suc unit ≤ last_unit plan) (ordinal : ℕ) (born : ordinal < born_count (table_of plan place).births unit)
      (before : is_live (generator_of plan) place unit ordinal ≡ true) (alive : is_live (generator_of plan) place (suc unit) ordinal ≡ true)
      (still : change_unit (generator_of plan) place (suc unit) ordinal ≡ suc unit → ⊥) where
    same_birth : birth (births place) (suc unit) ordinal ≡ birth (births place) unit ordinal
    same_birth = birth-later (births place) unit (suc unit) ordinal born (omega arith)

    -- no parent is lost at the next unit
    unlost : All (λ (reference : Reference). loss_of (generator_of plan) place (suc unit) ordinal reference ≡ Some (suc unit) → ⊥) (references_of (table_of plan place))
    unlost i d inside = λ lost.
        let references : List Reference = references_of (table_of plan place) in
        let loss : Reference → Option ℕ = loss_of generator place (suc unit) ordinal in
        let change : ℕ = change_unit generator place (suc unit) ordinal in
        let by : change ≤ suc unit = change_unit-le generator place (suc unit) ordinal (omega (arith, born, born_count-le (births place) unit (suc unit) (omega arith))) in
        let at : get_or (map loss references) i None ≡ Some (suc unit) = get_or-map loss references i d None inside ∙ lost in
        let first : suc unit ≤ suc unit → suc unit ≤ change =
        subst (λ (o : Option ℕ). IfSome o (λ l. l ≤ suc unit → l ≤ change)) at
        ((change_unit-last generator place (suc unit) ordinal).losses_first i None (omega (arith, inside, length-map references loss))) in
        still (omega (arith, by, first (omega arith)))

    same_loss : (reference : Reference) → loss_of (generator_of plan) place (suc unit) ordinal reference ≡ loss_of (generator_of plan) place unit ordinal reference
    same_loss reference =
        ap (λ (b : ℕ). loss_by generator.order (take place (known_tables generator)) b (ordinal - first_ordinal (births place) b) reference) same_birth

    same_held : (reference : Reference) → (loss_of (generator_of plan) place (suc unit) ordinal reference ≡ Some (suc unit) → ⊥) →
        held_parent (generator_of plan) place (suc unit) ordinal reference ≡ held_parent (generator_of plan) place unit ordinal reference
    same_held reference off =
        ap (λ (loss : Option ℕ). held_until loss (suc unit) (parent_of generator place (suc unit) ordinal reference)) (same_loss reference)
        ∙ ap (held_until (loss_of generator place unit ordinal reference) (suc unit)) (parent_of-by generator place (suc unit) unit ordinal reference (omega arith) born)
        ∙ ap (λ (holds : Bool). if holds then Some (parent_of generator place unit ordinal reference) else None)
        (after-next (loss_of generator place unit ordinal reference) unit (λ at. off (same_loss reference ∙ at)))

    refs-next : refs_of (generator_of plan) place (row_at (generator_of plan) place (suc unit) ordinal) ≡ refs_of (generator_of plan) place (row_at (generator_of plan) place unit ordinal)
    refs-next =
        refs_of-row_at generator place (suc unit) ordinal
        ∙ found-same (ref_at generator place (suc unit) ordinal) (ref_at generator place unit ordinal) (references_of (table_of plan place))
        (λ i d inside.
        let reference : Reference = get_or (references_of (table_of plan place)) i d in
        ap₂ (λ (born : ℕ) (parent : Option ℕ). reference_to generator born (reference, parent)) same_birth (same_held reference (unlost i d inside)))
        ∙ sym (refs_of-row_at generator place unit ordinal)

    pub kept-next : kept_row (generator_of plan) (suc unit) place (row_at (generator_of plan) place (suc unit) ordinal) ≡ kept_row (generator_of plan) unit place (row_at (generator_of plan) place unit ordinal)
    unfolding line
    kept-next =
        ap₂ (λ (refs : List RefTo) (bytes : List ℕ). record { refs = refs; line = bytes }) refs-next
        (ap (λ (texts : List (List ℕ)). join_with_byte generator.delimiter texts ++ codes "\n") (field_texts-next plan limits place below unit within ordinal born before alive still))
