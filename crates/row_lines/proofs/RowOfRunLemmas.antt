-- A row of a run, as one of its cohort.
use Rattle.std.proofs.Common.{◌≡◌, ◌<◌, ◌≤◌, ℕ, ◌-◌, ◌++◌, true, List, [], ◌∷◌, length, get_or, ap, sym, arith, ◌∙◌}
use Rattle.cohort_sizes.specs.Births.{cohort_size, first_ordinal}
use Rattle.life_intervals.specs.Generator.{generator_of, last_unit}
use Rattle.life_intervals.specs.Intervals.{change_unit, is_live}
use Rattle.life_intervals.specs.Keys.{key_of}
use Rattle.life_intervals.proofs.KeyLemmas.{key_of-found}
use Rattle.row_lines.specs.CohortLines.{LinesOf, change_for, is_live_for, key_for, layout_for, ordinal_of, text_in_cohort}
use Rattle.row_lines.specs.Runs.{AreLiving, RunLinesOf, text_at, text_behind}
use Rattle.row_lines.specs.TableLines.{behind_of}
use Rattle.row_lines.proofs.CohortLineLemmas.{ordinal_of-index}
use Rattle.row_lines.proofs.RunFieldLemmas.{run-birth, run-later}

-- the lines of the rows of the table that are born at a unit
abbrev pub of_unit : RunLinesOf → ℕ → LinesOf
of_unit lines born = record { plan = lines.plan; table = lines.table; born = born; unit = lines.unit }

-- the row with an index in the cohort has this ordinal, is alive, and has this key and this unit of the last change
pub record IsRowOf (lines : LinesOf) (index ordinal key changed : ℕ) : Type 0 where
  pub inside : index < cohort_size (layout_for lines).births lines.born
  pub ordinal_is : ordinal_of lines index ≡ ordinal
  pub alive : is_live_for lines index ≡ true
  pub key_is : key ≡ key_for lines index
  pub changed_is : changed ≡ change_for lines index

pub row_of_run : (lines : RunLinesOf) (ordinals births : List ℕ) (row first key changed : ℕ) → AreLiving lines ordinals births → lines.unit ≤ last_unit lines.plan → row < length ordinals →
    first ≡ first_ordinal (layout_for (of_unit lines (get_or births row 0))).births (get_or births row 0) →
    key ≡ key_of (generator_of lines.plan) lines.table (last_unit lines.plan) (get_or ordinals row 0) →
    changed ≡ change_unit (generator_of lines.plan) lines.table lines.unit (get_or ordinals row 0) →
    IsRowOf (of_unit lines (get_or births row 0)) (get_or ordinals row 0 - first) (get_or ordinals row 0) key changed
row_of_run lines ordinals births row first key changed are within below first_is key_is changed_is =
    let born : ℕ = get_or births row 0 in
    let ordinal : ℕ = get_or ordinals row 0 in
    let lies = are.run.lies row below in
    let at = ordinal_of-index _ first ordinal first_is lies.begun in
    record {
      inside = omega (arith, first_is, lies.begun, lies.not_ended);
      ordinal_is = at;
      alive = ap (is_live (generator_of lines.plan) lines.table lines.unit) at ∙ are.alive row below;
      key_is = key_is
          ∙ sym (key_of-found (generator_of lines.plan) lines.table (last_unit lines.plan) ordinal born first
          (sym (run-birth lines.plan lines.table (last_unit lines.plan) ordinals births (run-later lines.plan lines.table lines.unit (last_unit lines.plan) ordinals births within are.run) row below)) first_is);
      changed_is = changed_is ∙ sym (ap (change_unit (generator_of lines.plan) lines.table lines.unit) at);
    }

-- its field in the column at a place
pub field_of_run : (lines : RunLinesOf) (of : LinesOf) (born index ordinal key changed column : ℕ) → of ≡ of_unit lines born → IsRowOf of index ordinal key changed →
    text_in_cohort of index column ≡ text_at lines ordinal column
field_of_run lines of born index ordinal key changed column same row =
    ap (λ (l : LinesOf). text_in_cohort l index column) same
    ∙ ap (λ (o : ℕ). text_at lines o column) (sym (ap (λ (l : LinesOf). ordinal_of l index) same) ∙ row.ordinal_is)

-- with the byte after it
pub behind_of_run : (lines : RunLinesOf) (of : LinesOf) (born index ordinal key changed column : ℕ) → of ≡ of_unit lines born → IsRowOf of index ordinal key changed →
    text_in_cohort of index column ++ behind_of of.plan of.table column ∷ [] ≡ text_behind lines ordinal column
behind_of_run lines of born index ordinal key changed column same row =
    ap (λ (text : List ℕ). text ++ behind_of of.plan of.table column ∷ []) (field_of_run lines of born index ordinal key changed column same row)
    ∙ ap (λ (l : LinesOf). text_at lines ordinal column ++ behind_of l.plan l.table column ∷ []) same
