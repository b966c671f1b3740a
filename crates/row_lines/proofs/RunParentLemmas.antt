-- The parents of a run's rows that are known.
use Rattle.std.proofs.Common.{◌≡◌, ◌≤◌, ℕ, Bool, true, List, Option, Some, None, is_some, length, ap, subst, sym, ◌∙◌}
use Rattle.std.proofs.lemmas.Bool.{eqb-true}
use Rattle.cohort_sizes.specs.Births.{LiesIn}
use Rattle.schema_plan.specs.declared.ready.ReadyReference.{ReadyReference}
use Rattle.life_intervals.specs.CohortParents.{reference_by}
use Rattle.life_intervals.specs.Generator.{generator_of, last_unit, table_of}
use Rattle.life_intervals.specs.Intervals.{parent_of}
use Rattle.life_intervals.specs.RunParents.{AreKnownOf, AreParentsOf}
use Rattle.row_lines.specs.Kept.{kept_by}
use Rattle.row_lines.specs.RunParents.{ParentsOf, is_by, is_column}
use Rattle.row_lines.specs.Runs.{RunLinesOf}
use Rattle.row_lines.proofs.KeptLemmas.{kept_by-each, length-kept_by}

some_column : (by : Option ℕ) (column : ℕ) → is_column by column ≡ true → by ≡ Some column
some_column None column told = cc
some_column (Some by) column told = ap Some (eqb-true by column told)

-- those by the reference in a column
pub by_column : (parents : ParentsOf) (column : ℕ) → is_by parents column ≡ true → parents.by ≡ Some column
by_column parents column told = some_column parents.by column told

-- where they are known of the rows of a run, those of the rows that are kept are
pub kept_parents : (lines : RunLinesOf) (ordinals parents births : List ℕ) (live : List Bool) (column : ℕ) (reference : ReadyReference) → length live ≡ length ordinals →
    AreParentsOf lines.plan lines.table lines.unit ordinals column reference parents births →
    AreParentsOf lines.plan lines.table lines.unit (kept_by live ordinals) column reference (kept_by live parents) (kept_by live births)
kept_parents lines ordinals parents births live column reference many are =
    let flags : length live ≡ length parents = many ∙ sym are.same_length in
    record {
      same_length = length-kept_by live parents ordinals are.same_length;
      each = kept_by-each (λ (ordinal parent : ℕ). parent ≡ parent_of (generator_of lines.plan) lines.table (last_unit lines.plan) ordinal (reference_by column reference)) live ordinals parents many are.same_length (λ i below passes. are.each i below);
      run = record {
        same_length = length-kept_by live births parents are.run.same_length;
        lies = kept_by-each (λ (parent born : ℕ). LiesIn (table_of lines.plan reference.parent).births born parent) live parents births flags are.run.same_length (λ i below passes. are.run.lies i below);
        born = kept_by-each (λ (parent born : ℕ). born ≤ lines.unit) live parents births flags are.run.same_length (λ i below passes. are.run.born i below);
      };
    }

told : (by : Option ℕ) (column : ℕ) → by ≡ Some column → is_some by ≡ true
told by column is = ap is_some is

pub kept_known : (lines : RunLinesOf) (ordinals parents births : List ℕ) (live : List Bool) (by : Option ℕ) (living known known_births : List ℕ) → length live ≡ length ordinals →
    AreKnownOf lines.plan lines.table lines.unit ordinals by parents births →
    living ≡ kept_by live ordinals → length known ≡ length living → length known_births ≡ length living →
    (is_some by ≡ true → known ≡ kept_by live parents) → (is_some by ≡ true → known_births ≡ kept_by live births) →
    AreKnownOf lines.plan lines.table lines.unit living by known known_births
kept_known lines ordinals parents births live by living known known_births many are living_are known_many births_many known_are births_are = record {
  parents_many = known_many;
  births_many = births_many;
  are = λ column reference is of.
      let some : is_some by ≡ true = told by column is in
      subst (λ (xs : List ℕ). AreParentsOf lines.plan lines.table lines.unit xs column reference known known_births) (sym living_are)
      (subst (λ (xs : List ℕ). AreParentsOf lines.plan lines.table lines.unit (kept_by live ordinals) column reference xs known_births) (sym (known_are some))
      (subst (AreParentsOf lines.plan lines.table lines.unit (kept_by live ordinals) column reference (kept_by live parents)) (sym (births_are some))
      (kept_parents lines ordinals parents births live column reference many (are.are column reference is of))));
}
