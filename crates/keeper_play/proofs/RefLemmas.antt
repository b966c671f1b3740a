-- Where the references of a row lead, column by column.
use Rattle.std.proofs.Common.{◌≡◌, ◌<◌, ◌≤◌, ℕ, suc, ◌+◌, ◌-◌, List, [], ◌∷◌, ◌++◌, Option, Some, None, length, map, filter_map, refl, ap, ap₂, arith, subst, sym, ◌∙◌}
use Rattle.std.specs.Prelude.{zip, IfSome}
use Rattle.std.specs.List.{cons_option}
use Rattle.std.proofs.lemmas.List.Elements.{filter_map-append}
use Rattle.std.proofs.lemmas.List.{append-nil, length-append}
use Rattle.cohort_sizes.specs.Births.{Births, birth, born_count, first_ordinal}
use Rattle.cohort_sizes.proofs.CohortLemmas.{LiesIn-birth, born_count-next}
use Rattle.schema_plan.specs.declared.ready.ReadyReference.{ReadyReference}
use Rattle.schema_facts.specs.Dictionaries.{Project}
use Rattle.schema_facts.specs.Layout.{TableLayout, table_at}
use Rattle.schema_plan.specs.Limits.{IsInLimits}
use Rattle.schema_facts.specs.References.{Reference, reference_at, references_of}
use Rattle.life_intervals.specs.declared.found.FoundRow.{FoundRow}
use Rattle.life_intervals.specs.CohortParents.{IsReferenceOf, held_in, reference_by}
use Rattle.life_intervals.specs.Found.{IsFound, cohort_of_row}
use Rattle.life_intervals.specs.Generator.{Generator, generator_of, last_unit, table_of}
use Rattle.life_intervals.specs.Intervals.{held_parent, row_at}
use Rattle.life_intervals.specs.Keys.{key_of}
use Rattle.life_intervals.specs.Rows.{Row}
use Rattle.life_intervals.proofs.AcceptedLemmas.{row_at-parents}
use Rattle.life_intervals.proofs.CohortParentLemmas.{ready_is, references_before-all}
use Rattle.life_intervals.proofs.FoundLemmas.{found-birth, found-by, found-held}
use Rattle.life_intervals.proofs.ReferenceLemmas.{references_before, references_before-none, references_before-some}
use Rattle.row_lines.proofs.LineLemmas.{key_of-by}
use Rattle.keeper_play.specs.Statements.{reference_to, refs_of, row_key}
use Rattle.row_keeper.specs.declared.keeper.RefTo.{RefTo}

-- ---- a row's references by its ordinal

-- where a row's reference leads at a unit by which the row is born; None where it is null
abbrev pub ref_at : Generator → ℕ → ℕ → ℕ → Reference → Option RefTo
ref_at generator place unit ordinal reference =
    reference_to generator (birth (table_at generator.tables place).births unit ordinal) (reference, held_parent generator place unit ordinal reference)

zip-map : {X Y Z : Type 0} (f : X × Y → Option Z) (h : X → Y) (xs : List X) → filter_map f (zip xs (map h xs)) ≡ filter_map (λ x. f (x, h x)) xs
zip-map f h [] = refl
zip-map f h (x ∷ xs) = ap (cons_option (f (x, h x))) (zip-map f h xs)

pub refs_of-row_at : (generator : Generator) (place unit ordinal : ℕ) →
    refs_of generator place (row_at generator place unit ordinal)
    ≡ filter_map (ref_at generator place unit ordinal) (references_of (table_at generator.tables place))
refs_of-row_at generator place unit ordinal =
    let references : List Reference = references_of (table_at generator.tables place) in
    let born : ℕ = birth (table_at generator.tables place).births unit ordinal in
    ap (λ (parents : List (Option ℕ)). filter_map (reference_to generator born) (zip references parents)) (row_at-parents generator place unit ordinal)
    ∙ zip-map (reference_to generator born) (held_parent generator place unit ordinal) references

-- those of the columns before a place
abbrev pub refs_before : Project → ℕ → ℕ → ℕ → ℕ → List RefTo
refs_before plan table unit ordinal column =
    filter_map (ref_at (generator_of plan) table unit ordinal) (references_before (table_of plan table) column)

pub refs_before-all : (plan : Project) (table unit ordinal column : ℕ) → length (table_of plan table).columns ≤ column →
    refs_before plan table unit ordinal column ≡ refs_of (generator_of plan) table (row_at (generator_of plan) table unit ordinal)
refs_before-all plan table unit ordinal column all =
    ap (filter_map (ref_at (generator_of plan) table unit ordinal)) (references_before-all plan table column all)
    ∙ sym (refs_of-row_at (generator_of plan) table unit ordinal)

pub refs_before-other : (plan : Project) (table unit ordinal column : ℕ) → column < length (table_of plan table).columns → reference_at (table_of plan table) column ≡ None →
    refs_before plan table unit ordinal (column + 1) ≡ refs_before plan table unit ordinal column
refs_before-other plan table unit ordinal column within none =
    ap (filter_map (ref_at (generator_of plan) table unit ordinal)) (references_before-none (table_of plan table) column within none)

more : {X Y : Type 0} (f : X → Option Y) (xs : List X) (x : X) (found : Option Y) → f x ≡ found → filter_map f (xs ++ x ∷ []) ≡ filter_map f xs ++ cons_option found []
more f xs x found is = filter_map-append f xs (x ∷ []) ∙ ap (λ (o : Option _). filter_map f xs ++ cons_option o []) is

module _ (plan : Project) (limits : IsInLimits plan) (table : ℕ) (below : table < length plan.schema.tables) (row : FoundRow) (found : IsFound plan table row)
    (t : ℕ) (later : row.born ≤ t) (within : t ≤ last_unit plan) (column : ℕ) (ready : ReadyReference) (of : IsReferenceOf plan table column ready) where
  -- what is found of a reference is where it leads
  pub ref-found : reference_to (generator_of plan) row.born (reference_by column ready, held_in (cohort_of_row plan table row) row.index t (reference_by column ready))
      ≡ ref_at (generator_of plan) table t row.ordinal (reference_by column ready)
  ref-found =
      ap₂ (λ (born : ℕ) (parent : Option ℕ). reference_to (generator_of plan) born (reference_by column ready, parent))
      (found-birth plan table row found t later)
      (found-held plan table row found limits below t later within column ready of)

  -- so with it come the references of one column more
  pub refs_before-more : (o : Option RefTo) →
      o ≡ reference_to (generator_of plan) row.born (reference_by column ready, held_in (cohort_of_row plan table row) row.index t (reference_by column ready)) →
      refs_before plan table t row.ordinal (column + 1) ≡ refs_before plan table t row.ordinal column ++ cons_option o []
  refs_before-more o is =
      ap (filter_map (ref_at (generator_of plan) table t row.ordinal)) (references_before-some (table_of plan table) column (reference_by column ready) of.within (ready_is plan table column ready of).is)
      ∙ more (ref_at (generator_of plan) table t row.ordinal) (references_before (table_of plan table) column) (reference_by column ready) o (sym (is ∙ ref-found))

-- ---- keys

-- an ordinal is born by its birth
pub born-at_birth : (births : Births) (unit ordinal : ℕ) → ordinal < born_count births unit → ordinal < born_count births (birth births unit ordinal)
born-at_birth births unit ordinal born =
    omega (arith, (LiesIn-birth births unit ordinal born).1.not_ended, born_count-next births (birth births unit ordinal))

-- a row's key is the same by any unit by which it is born
pub row_key-at : (generator : Generator) (last place unit ordinal : ℕ) → unit ≤ last → ordinal < born_count (table_at generator.tables place).births unit →
    row_key generator place (row_at generator place unit ordinal) ≡ key_of generator place last ordinal
row_key-at generator last place unit ordinal within born =
    let births : Births = (table_at generator.tables place).births in
    let found = LiesIn-birth births unit ordinal born in
    sym (key_of-by generator last (birth births unit ordinal) place ordinal (omega (arith, found.0, within)) (born-at_birth births unit ordinal born))

-- so a row that is found has the key of its ordinal
pub row_key-found : (plan : Project) (table t : ℕ) (row : FoundRow) → IsFound plan table row → row.born ≤ t → t ≤ last_unit plan →
    key_of (generator_of plan) table (last_unit plan) row.ordinal ≡ row_key (generator_of plan) table (row_at (generator_of plan) table t row.ordinal)
row_key-found plan table t row found later within =
    sym (row_key-at (generator_of plan) (last_unit plan) table t row.ordinal within (found-by plan table row found t later))
