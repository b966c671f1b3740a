-- The rows that lose a parent by the references of a table, column by column.
use Rattle.std.proofs.Common.{◌≡◌, ℕ, zero, suc, ◌+◌, ◌<◌, ◌≤◌, Bool, true, false, List, [], ◌∷◌, ◌++◌, length, filter, sum_by, take, Option, Some, None, length-append, inl, inr, arith, refl, ap, subst, sym, ◌∙◌}
use Rattle.std.specs.Prelude.{if◌then◌else◌}
use Rattle.std.specs.List.{cons_option}
use Rattle.std.proofs.lemmas.Bool.{cases_Bool}
use Rattle.std.proofs.lemmas.List.{append-nil}
use Rattle.std.proofs.lemmas.List.Elements.{filter-append}
use Rattle.std.proofs.lemmas.List.Concat.{flat_map-append}
use Rattle.std.proofs.lemmas.List.Sums.{sum_by-cons, sum_by_push}
use Rattle.schema_model.specs.declared.column.OnDelete.{OnDelete}
use Rattle.schema_model.specs.declared.column.OnDelete.TheVariants.{Cascade, Null}
use Rattle.schema_plan.specs.declared.ready.ReadyReference.{ReadyReference}
use Rattle.schema_facts.specs.Dictionaries.{Project}
use Rattle.schema_facts.specs.Layout.{ColumnLayout}
use Rattle.schema_facts.specs.References.{Reference, reference_at, reference_of}
use Rattle.life_intervals.specs.CohortParents.{IsReferenceOf, reference_by}
use Rattle.life_intervals.specs.Generator.{table_of}
use Rattle.life_intervals.proofs.CohortParentLemmas.{ready_is, references_before-all}
use Rattle.life_intervals.proofs.ReferenceLemmas.{references_before, references_before-none, references_before-some, references_in}
use Rattle.update_box.specs.Candidates.{is_on, is_on_ready, losing, losing_by, pairs, pairs_by, references_on}
use Rattle.life_intervals.specs.FoundAt.{AreAppended}
use Rattle.life_intervals.proofs.AppendLemmas.{AreAppended-more, AreAppended-none}
use Rattle.update_box.proofs.CostLemmas.{length-losing_by, lost}

-- what is ready of a reference says what is done by it
pub is_on-ready : (on_delete : OnDelete) (column : ℕ) (ready : ReadyReference) → is_on on_delete (reference_by column ready) ≡ is_on_ready on_delete ready
is_on-ready Cascade column ready = refl
is_on-ready Null column ready = refl

-- of the references before a column, those by which this is done
abbrev pub on_before : OnDelete → Project → ℕ → ℕ → List Reference
on_before on_delete plan table column = filter (is_on on_delete) (references_before (table_of plan table) column)

on_before-by : (on_delete : OnDelete) (plan : Project) (table column : ℕ) (ready : ReadyReference) → IsReferenceOf plan table column ready → (done : Bool) → is_on_ready on_delete ready ≡ done →
    on_before on_delete plan table (column + 1) ≡ on_before on_delete plan table column ++ (if done then reference_by column ready ∷ [] else [])
on_before-by on_delete plan table column ready of done is =
    ap (filter (is_on on_delete)) (references_before-some (table_of plan table) column (reference_by column ready) of.within (ready_is plan table column ready of).is)
    ∙ filter-append (is_on on_delete) (references_before (table_of plan table) column) (reference_by column ready ∷ [])
    ∙ ap (λ (passed : Bool). on_before on_delete plan table column ++ (if passed then reference_by column ready ∷ [] else [])) (is_on-ready on_delete column ready ∙ is)

-- the rows that lose a parent by the references before a column stand after a list, and no more steps have been taken than they and the
-- pairs are
pub record AreLosingBefore (plan : Project) (table t : ℕ) (on_delete : OnDelete) (column : ℕ) (before after : List ℕ) (from to : ℕ) : Type 0 where
  pub rows : AreAppended (losing_by plan table t (on_before on_delete plan table column)) before after
  pub steps : to ≤ from + length (losing_by plan table t (on_before on_delete plan table column)) + pairs_by plan table t (on_before on_delete plan table column)

pub losing-none : (plan : Project) (table t : ℕ) (on_delete : OnDelete) (before : List ℕ) (from : ℕ) → AreLosingBefore plan table t on_delete 0 before before from from
losing-none plan table t on_delete before from = record { rows = AreAppended-none [] before refl; steps = omega arith }

-- those of a reference more
losing_by-more : (plan : Project) (table t : ℕ) (on_delete : OnDelete) (column : ℕ) (ready : ReadyReference) → IsReferenceOf plan table column ready → is_on_ready on_delete ready ≡ true →
    losing_by plan table t (on_before on_delete plan table (column + 1)) ≡ losing_by plan table t (on_before on_delete plan table column) ++ losing plan table t (reference_by column ready)
losing_by-more plan table t on_delete column ready of is =
    ap (losing_by plan table t) (on_before-by on_delete plan table column ready of true is)
    ∙ flat_map-append (losing plan table t) (on_before on_delete plan table column) (reference_by column ready ∷ [])
    ∙ ap (λ (xs : List ℕ). losing_by plan table t (on_before on_delete plan table column) ++ xs) (append-nil (losing plan table t (reference_by column ready)))

pairs_by-more : (plan : Project) (table t : ℕ) (on_delete : OnDelete) (column : ℕ) (ready : ReadyReference) → IsReferenceOf plan table column ready → is_on_ready on_delete ready ≡ true →
    pairs_by plan table t (on_before on_delete plan table (column + 1)) ≡ pairs_by plan table t (on_before on_delete plan table column) + pairs plan table t (reference_by column ready)
pairs_by-more plan table t on_delete column ready of is =
    ap (pairs_by plan table t) (on_before-by on_delete plan table column ready of true is)
    ∙ sum_by_push (pairs plan table t) (on_before on_delete plan table column) (reference_by column ready)

pub losing-next : (plan : Project) (table t : ℕ) (on_delete : OnDelete) (column : ℕ) (ready : ReadyReference) → IsReferenceOf plan table column ready → is_on_ready on_delete ready ≡ true →
    (before between after : List ℕ) (from mid to : ℕ) → AreLosingBefore plan table t on_delete column before between from mid →
    AreAppended (losing plan table t (reference_by column ready)) between after → to ≤ mid + length (losing plan table t (reference_by column ready)) + pairs plan table t (reference_by column ready) →
    AreLosingBefore plan table t on_delete (column + 1) before after from to
losing-next plan table t on_delete column ready of is before between after from mid to so_far more steps =
    let first : List ℕ = losing_by plan table t (on_before on_delete plan table column) in
    let next = losing_by-more plan table t on_delete column ready of is in
    record {
      rows = subst (λ (rows : List ℕ). AreAppended rows before after) (sym next) (AreAppended-more first (losing plan table t (reference_by column ready)) before between after so_far.rows more);
      steps = omega (
        arith,
        so_far.steps,
        steps,
        ap length next,
        length-append first (losing plan table t (reference_by column ready)),
        pairs_by-more plan table t on_delete column ready of is,
      );
    }

-- a column that isn't such a reference adds none
pub losing-other : (plan : Project) (table t : ℕ) (on_delete : OnDelete) (column : ℕ) (ready : ReadyReference) → IsReferenceOf plan table column ready → is_on_ready on_delete ready ≡ false →
    (before after : List ℕ) (from to : ℕ) → AreLosingBefore plan table t on_delete column before after from to → AreLosingBefore plan table t on_delete (column + 1) before after from to
losing-other plan table t on_delete column ready of is before after from to so_far =
    let next : on_before on_delete plan table (column + 1) ≡ on_before on_delete plan table column = on_before-by on_delete plan table column ready of false is ∙ append-nil (on_before on_delete plan table column) in
    record {
      rows = subst (λ (references : List Reference). AreAppended (losing_by plan table t references) before after) (sym next) so_far.rows;
      steps = omega (arith, so_far.steps, ap (λ (references : List Reference). length (losing_by plan table t references)) next, ap (pairs_by plan table t) next);
    }

pub losing-no_reference : (plan : Project) (table t : ℕ) (on_delete : OnDelete) (column : ℕ) → column < length (table_of plan table).columns → reference_at (table_of plan table) column ≡ None →
    (before after : List ℕ) (from to : ℕ) → AreLosingBefore plan table t on_delete column before after from to → AreLosingBefore plan table t on_delete (column + 1) before after from to
losing-no_reference plan table t on_delete column within none before after from to so_far =
    let next : references_before (table_of plan table) (column + 1) ≡ references_before (table_of plan table) column = references_before-none (table_of plan table) column within none in
    record {
      rows = subst (λ (references : List Reference). AreAppended (losing_by plan table t (filter (is_on on_delete) references)) before after) (sym next) so_far.rows;
      steps = omega (
        arith,
        so_far.steps,
        ap (λ (references : List Reference). length (losing_by plan table t (filter (is_on on_delete) references))) next,
        ap (λ (references : List Reference). pairs_by plan table t (filter (is_on on_delete) references)) next,
      );
    }

-- all columns
pub losing-all : (plan : Project) (table t : ℕ) (on_delete : OnDelete) (column : ℕ) → length (table_of plan table).columns ≤ column → (before after : List ℕ) (from to : ℕ) →
    AreLosingBefore plan table t on_delete column before after from to →
    AreAppended (losing_by plan table t (references_on on_delete (table_of plan table))) before after
    × (to ≤ from + length (losing_by plan table t (references_on on_delete (table_of plan table))) + pairs_by plan table t (references_on on_delete (table_of plan table)))
losing-all plan table t on_delete column past before after from to found =
    let P : List Reference → Type 0 = λ references.
    AreAppended (losing_by plan table t (filter (is_on on_delete) references)) before after
    × (to ≤ from + length (losing_by plan table t (filter (is_on on_delete) references)) + pairs_by plan table t (filter (is_on on_delete) references)) in
    subst P (references_before-all plan table column past) (found.rows, found.steps)

-- the references of the first columns have no more of what each has a number of than all
prefix-le : (number : Reference → ℕ) (test : Reference → Bool) (start k : ℕ) (columns : List ColumnLayout) →
    sum_by number (filter test (references_in start (take k columns))) ≤ sum_by number (filter test (references_in start columns))
prefix-le number test start zero columns = omega arith
prefix-le number test start (suc k) [] = omega arith
prefix-le number test start (suc k) (column ∷ others) =
    one-more (reference_of start column.kind) (references_in (start + 1) (take k others)) (references_in (start + 1) others) (prefix-le number test (start + 1) k others)
  where
    one-more : (found : Option Reference) (some all : List Reference) → sum_by number (filter test some) ≤ sum_by number (filter test all) →
        sum_by number (filter test (cons_option found some)) ≤ sum_by number (filter test (cons_option found all))
    one-more None some all fewer = fewer
    one-more (Some reference) some all fewer = elim (cases_Bool (test reference)) [
      | inl passes ↦ rw passes (omega (arith, fewer, sum_by-cons number reference (filter test some), sum_by-cons number reference (filter test all)))
      | inr fails ↦ rw fails fewer
    ]

-- the steps of a reference, whose rows may not be found, are within those of all
pub losing-within : (plan : Project) (table t : ℕ) (on_delete : OnDelete) (column : ℕ) (ready : ReadyReference) → IsReferenceOf plan table column ready → is_on_ready on_delete ready ≡ true →
    (before between : List ℕ) (from mid to : ℕ) → AreLosingBefore plan table t on_delete column before between from mid →
    to ≤ mid + length (losing plan table t (reference_by column ready)) + pairs plan table t (reference_by column ready) →
    to ≤ from + length (losing_by plan table t (references_on on_delete (table_of plan table))) + pairs_by plan table t (references_on on_delete (table_of plan table))
losing-within plan table t on_delete column ready of is before between from mid to so_far steps =
    omega (
      arith,
      so_far.steps,
      steps,
      ap length (losing_by-more plan table t on_delete column ready of is),
      length-append (losing_by plan table t (on_before on_delete plan table column)) (losing plan table t (reference_by column ready)),
      pairs_by-more plan table t on_delete column ready of is,
      length-losing_by plan table t (on_before on_delete plan table (column + 1)),
      length-losing_by plan table t (references_on on_delete (table_of plan table)),
      prefix-le (lost plan table t) (is_on on_delete) 0 (column + 1) (table_of plan table).columns,
      prefix-le (pairs plan table t) (is_on on_delete) 0 (column + 1) (table_of plan table).columns,
    )
