-- Marks of the tables that are needed.
use Rattle.std.proofs.Common.{◌≡◌, ◌≢◌, ℕ, ◌+◌, ◌<◌, ◌≤◌, Bool, true, false, List, length, replicate, set, get_or, get_or-set_other, get_or-set_same, inl, inr, arith, refl, ap, subst, sym, ◌∙◌, ◌==◌, ◌||◌, ◌⊎◌, eq-eqb, eqb-true, ◌∷◌, [], Some, zero, suc}
use Rattle.std.specs.List.{list_any}
use Rattle.std.proofs.Math.Bool.{or-true}
use Rattle.std.proofs.lemmas.List.Folds.{list_any-append}
use Rattle.std.specs.Prelude.{All, None}
use Rattle.std.proofs.lemmas.Bool.{cases_eq, false≢true}
use Rattle.std.proofs.lemmas.List.{get_or-replicate, length-replicate}
use Rattle.std.proofs.lemmas.List.Elements.{All-push, All-weaker}
use Rattle.schema_plan.specs.declared.ready.ReadyReference.{ReadyReference}
use Rattle.schema_facts.specs.Dictionaries.{Project}
use Rattle.schema_facts.specs.References.{IsReferenceInLimits, Reference, reference_at, references_of}
use Rattle.schema_facts.specs.Layout.{layout_of}
use Rattle.schema_plan.specs.Limits.{IsInLimits}
use Rattle.life_intervals.specs.CohortParents.{IsReferenceOf, reference_by}
use Rattle.life_intervals.specs.Generator.{last_unit, table_of}
use Rattle.life_intervals.proofs.CohortParentLemmas.{ready_is, references_before-all}
use Rattle.life_intervals.proofs.ReferenceLemmas.{references_before, references_before-none, references_before-some}
use Rattle.update_box.specs.Found.{AreNeeded, is_needed, refers_to}

-- one mark more
pub mark-here : (marks : List Bool) (at : ℕ) → at < length marks → is_needed (set marks at true) at ≡ true
mark-here marks at inside = get_or-set_same marks at true false inside

pub mark-other : (marks : List Bool) (at other : ℕ) → other ≢ at → is_needed (set marks at true) other ≡ is_needed marks other
mark-other marks at other apart = get_or-set_other marks at other true false apart

pub mark-kept : (marks : List Bool) (at other : ℕ) → at < length marks → is_needed marks other ≡ true → is_needed (set marks at true) other ≡ true
mark-kept marks at other inside before = elim (cases_eq other at) [
  | inl same ↦ ap (is_needed (set marks at true)) same ∙ mark-here marks at inside
  | inr apart ↦ mark-other marks at other apart ∙ before
]

-- the marks of the tables to which the columns before one refer
pub record AreMarked (plan : Project) (place column : ℕ) (before marks : List Bool) : Type 0 where
  pub kept : (other : ℕ) → is_needed before other ≡ true → is_needed marks other ≡ true
  pub later : (other : ℕ) → place ≤ other → is_needed marks other ≡ is_needed before other
  pub parents : All (λ (reference : Reference). is_needed marks reference.parent ≡ true) (references_before (table_of plan place) column)
  pub no_others : (other : ℕ) → is_needed marks other ≡ true →
      (is_needed before other ≡ true) ⊎ (list_any (λ (reference : Reference). reference.parent == other) (references_before (table_of plan place) column) ≡ true)

pub marked-none : (plan : Project) (place : ℕ) (marks : List Bool) → AreMarked plan place 0 marks marks
marked-none plan place marks = record { kept = λ other at. at; later = λ other from. refl; parents = λ k d inside. absurd (omega (arith, inside)); no_others = λ other at. inl at }

pub marked-next : (plan : Project) (place column : ℕ) (ready : ReadyReference) → IsReferenceOf plan place column ready → ready.parent < place → (before marks : List Bool) → ready.parent < length marks →
    AreMarked plan place column before marks → AreMarked plan place (column + 1) before (set marks ready.parent true)
marked-next plan place column ready of earlier before marks inside so_far =
    let IsMarked : Reference → Type 0 = λ reference. is_needed (set marks ready.parent true) reference.parent ≡ true in
    record {
      kept = λ other at. mark-kept marks ready.parent other inside (so_far.kept other at);
      later = λ other from. mark-other marks ready.parent other (λ same. omega (arith, same, from, earlier)) ∙ so_far.later other from;
      parents = subst (All IsMarked) (sym (references_before-some (table_of plan place) column (reference_by column ready) of.within (ready_is plan place column ready of).is))
          (All-push IsMarked (references_before (table_of plan place) column) (reference_by column ready)
          (All-weaker (λ (reference : Reference). is_needed marks reference.parent ≡ true) IsMarked (λ reference at. mark-kept marks ready.parent reference.parent inside at) (references_before (table_of plan place) column) so_far.parents)
          (mark-here marks ready.parent inside));
      no_others = λ other at.
          let is : Reference → Bool = λ reference. reference.parent == other in
          let before_it : List Reference = references_before (table_of plan place) column in
          let next = references_before-some (table_of plan place) column (reference_by column ready) of.within (ready_is plan place column ready of).is in
          let any : list_any is (references_before (table_of plan place) (column + 1)) ≡ (list_any is before_it || (ready.parent == other || false)) =
          ap (list_any is) next ∙ list_any-append is before_it (reference_by column ready ∷ []) in
          elim (cases_eq other ready.parent) [
            | inl same ↦ inr (any ∙ ap (λ (b : Bool). list_any is before_it || (b || false)) (eq-eqb ready.parent other (sym same)) ∙ or-true (list_any is before_it))
            | inr apart ↦ elim (so_far.no_others other (sym (mark-other marks ready.parent other apart) ∙ at)) [
              | inl old ↦ inl old
              | inr found ↦ inr (any ∙ ap (λ (b : Bool). b || (ready.parent == other || false)) found)
            ]
          ];
    }

pub marked-other : (plan : Project) (place column : ℕ) → column < length (table_of plan place).columns → reference_at (table_of plan place) column ≡ None → (before marks : List Bool) →
    AreMarked plan place column before marks → AreMarked plan place (column + 1) before marks
marked-other plan place column within none before marks so_far = record {
  kept = so_far.kept;
  later = so_far.later;
  parents = subst (All (λ (reference : Reference). is_needed marks reference.parent ≡ true)) (sym (references_before-none (table_of plan place) column within none)) so_far.parents;
  no_others = λ other at.
      subst (λ (references : List Reference). (is_needed before other ≡ true) ⊎ (list_any (λ (reference : Reference). reference.parent == other) references ≡ true)) (sym (references_before-none (table_of plan place) column within none))
      (so_far.no_others other at);
}

pub marked-all : (plan : Project) (place column : ℕ) (marks : List Bool) → length (table_of plan place).columns ≤ column →
    All (λ (reference : Reference). is_needed marks reference.parent ≡ true) (references_before (table_of plan place) column) → All (λ (reference : Reference). is_needed marks reference.parent ≡ true) (references_of (table_of plan place))
marked-all plan place column marks past all = subst (All (λ (reference : Reference). is_needed marks reference.parent ≡ true)) (references_before-all plan place column past) all

pub marked-no_others : (plan : Project) (place column : ℕ) (before marks : List Bool) → length (table_of plan place).columns ≤ column → AreMarked plan place column before marks →
    (other : ℕ) → is_needed marks other ≡ true → (is_needed before other ≡ true) ⊎ (refers_to plan place other ≡ true)
marked-no_others plan place column before marks past marked other at =
    subst (λ (references : List Reference). (is_needed before other ≡ true) ⊎ (list_any (λ (reference : Reference). reference.parent == other) references ≡ true)) (references_before-all plan place column past)
    (marked.no_others other at)

-- where all are marked, so are those that are needed for all
pub needed-all : (plan : Project) → IsInLimits plan → (marks : List Bool) → marks ≡ replicate (length plan.schema.tables) true → AreNeeded plan None marks
needed-all plan limits marks are =
    let count : ℕ = length plan.schema.tables in
    let each : (place : ℕ) → place < count → is_needed marks place ≡ true = λ place inside. ap (λ (ms : List Bool). get_or ms place false) are ∙ get_or-replicate count place true false inside in
    record {
      all = ap length are ∙ length-replicate count true;
      chosen = λ place inside chosen. each place inside;
      parents = λ place inside marked.
          All-weaker (IsReferenceInLimits (last_unit plan) (layout_of plan).tables place) (λ (reference : Reference). is_needed marks reference.parent ≡ true)
          (λ reference is. each reference.parent (omega (arith, is.earlier, inside))) (references_of (table_of plan place)) (limits.references place inside);
      no_others = λ place marked. inl refl;
    }

-- where there's no table at a place, none is marked for it
none-marked : (count other : ℕ) → is_needed (replicate count false) other ≡ false
none-marked zero zero = refl
none-marked zero (suc other) = refl
none-marked (suc count) zero = refl
none-marked (suc count) (suc other) = none-marked count other

pub needed-none : (plan : Project) (place : ℕ) → length plan.schema.tables ≤ place → (marks : List Bool) → marks ≡ replicate (length plan.schema.tables) false → AreNeeded plan (Some place) marks
needed-none plan place past marks are =
    let count : ℕ = length plan.schema.tables in
    let none : (other : ℕ) → is_needed marks other ≡ false = λ other. ap (λ (ms : List Bool). is_needed ms other) are ∙ none-marked count other in
    record {
      all = ap length are ∙ length-replicate count false;
      chosen = λ other inside is. absurd (omega (arith, past, inside, eqb-true other place is));
      parents = λ other inside marked. absurd (false≢true (sym (none other) ∙ marked));
      no_others = λ other marked. absurd (false≢true (sym (none other) ∙ marked));
    }
