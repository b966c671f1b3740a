-- The packages of a detail table's lines, one after the other, are its texts.
use Rattle.std.proofs.Common.{◌≡◌, ◌<◌, ◌≤◌, ℕ, zero, suc, ◌+◌, ◌-◌, ◌*◌, List, [], ◌∷◌, ◌++◌, flat_map, length, map, min, take, drop, decimal, Some, refl, ap, arith, sym, ◌∙◌}
use Rattle.std.specs.List.{range_with_len, slice_range}
use Rattle.std.proofs.Math.Seq.{take-add}
use Rattle.std.proofs.lemmas.List.{take_all}
use Rattle.std.proofs.lemmas.List.Concat.{flat_map-append}
use Rattle.std.proofs.lemmas.List.Folds.{flat_map-map}
use Rattle.range_workers.specs.Marks.{texts}
use Rattle.cohort_sizes.specs.Births.{Births, born_count, first_ordinal}
use Rattle.schema_facts.specs.Dictionaries.{Project}
use Rattle.schema_plan.specs.Limits.{IsInLimits}
use Rattle.life_intervals.specs.Generator.{Generator, generator_of, last_unit, table_of}
use Rattle.life_intervals.specs.Intervals.{changing, death, dying, is_at, is_live, living, newborn, row_at}
use Rattle.life_intervals.specs.Keys.{key_in_cohort}
use Rattle.life_intervals.specs.Streams.{deleted, updated}
use Rattle.life_intervals.proofs.AcceptedLemmas.{AreSound-accepted, place-below}
use Rattle.life_intervals.proofs.Ranges.{filter-range_with_len_all}
use Rattle.life_intervals.proofs.SimulationLemmas.{rows_at-rows_of}
use Rattle.life_intervals.proofs.StreamLemmas.{deleted-dying, inserted-newborn, updated-changing}
use Rattle.update_box.specs.Cuts.{package_count}
use Rattle.update_box.specs.UnitLists.{ordinals}
use Rattle.update_box.proofs.CutLemmas.{AreJoined, flat_map-range_same, packages-joined}
use Rattle.row_lines.proofs.LineLemmas.{birth-by}
use Rattle.update_box.proofs.RangeLemmas.{flat_map-filter_same}
use Rattle.update_box.proofs.StepLemmas.{deleted-ordinals, updated-ordinals}
use Rattle.update_box.proofs.StreamTextLemmas.{newborn-alive}
use Rattle.detail_plan.specs.Kept.{Kept}
use Rattle.detail_lines.specs.declared.detail_lines.LineKind.{LineKind}
use Rattle.detail_lines.specs.declared.detail_lines.LineKind.TheVariants.{Whole, KeysAlone}
use Rattle.detail_rows.specs.declared.packer.PackedRows.{PackedRows}
use Rattle.detail_rows.specs.declared.packer.PackedRows.TheVariants.{All, Born, Keys, Lines}
use Rattle.philox_seeds.specs.SeedTree.{field_draw}
use Rattle.detail_lines.specs.Lines.{DetailLayout, count_column, detail_deleted_text, detail_inserted_text, detail_text, detail_updated_text, key_lines_of_row, key_lines_over, layout_beside, line_by, lines_of_draw, lines_over, parent_place}
use Rattle.detail_lines.specs.Rows.{born_by, row_text}
use Rattle.detail_rows.specs.Packages.{Packages, count_of, first_born, listed_text, living_from, range_text, rows_in, size_born, text_numbered}
use Rattle.detail_rows.proofs.ParentLemmas.{living-more}

-- ---- texts of ranges join where they meet

drop-none : {A : Type 0} (n : ℕ) → drop n (let none : List A = [] in none) ≡ []
drop-none zero = refl
drop-none (suc n) = refl

drop-again : {A : Type 0} (xs : List A) (m n : ℕ) → drop n (drop m xs) ≡ drop (m + n) xs
drop-again xs zero n = let all : n ≡ 0 + n = omega arith in ap (λ (k : ℕ). drop k xs) all
drop-again [] (suc m) n = let all : suc (m + n) ≡ suc m + n = omega arith in drop-none n ∙ ap (λ (k : ℕ). drop k []) all
drop-again (x ∷ xs) (suc m) n = let all : suc (m + n) ≡ suc m + n = omega arith in drop-again xs m n ∙ ap (λ (k : ℕ). drop k (x ∷ xs)) all

part-join : {A : Type 0} (xs : List A) (a b c : ℕ) → a ≤ b → b ≤ c → slice_range xs a b ++ slice_range xs b c ≡ slice_range xs a c
part-join xs a b c first second =
    let whole : b - a + (c - b) ≡ c - a = omega (arith, first, second) in
    let reached : b ≡ a + (b - a) = omega (arith, first) in
    ap (λ (k : ℕ). slice_range xs a b ++ take (c - b) (drop k xs)) reached
    ∙ ap (λ (rest : List _). slice_range xs a b ++ take (c - b) rest) (sym (drop-again xs a (b - a)))
    ∙ sym (take-add (b - a) (c - b) (drop a xs))
    ∙ ap (λ (n : ℕ). take n (drop a xs)) whole

listed-join : (plan : Project) (kept : Kept) (kind : LineKind) (unit : ℕ) (xs : List ℕ) (a b c : ℕ) → a ≤ b → b ≤ c →
    listed_text plan kept kind unit (slice_range xs a b) ++ listed_text plan kept kind unit (slice_range xs b c) ≡ listed_text plan kept kind unit (slice_range xs a c)
listed-join plan kept kind unit xs a b c first second =
    sym (flat_map-append (row_text plan kept kind unit) (slice_range xs a b) (slice_range xs b c)) ∙ ap (listed_text plan kept kind unit) (part-join xs a b c first second)

living-join : (plan : Project) (kept : Kept) (unit start a b c : ℕ) → a ≤ b → b ≤ c →
    listed_text plan kept Whole unit (living_from plan kept unit (start + a) (b - a)) ++ listed_text plan kept Whole unit (living_from plan kept unit (start + b) (c - b))
    ≡ listed_text plan kept Whole unit (living_from plan kept unit (start + a) (c - a))
living-join plan kept unit start a b c first second =
    let size : b - a + (c - b) ≡ c - a = omega (arith, first, second) in
    let from : start + b ≡ start + a + (b - a) = omega (arith, first) in
    ap (λ (n : ℕ). listed_text plan kept Whole unit (living_from plan kept unit (start + a) (b - a)) ++ listed_text plan kept Whole unit (living_from plan kept unit n (c - b))) from
    ∙ sym (living-more plan kept unit (start + a) (b - a) (c - b))
    ∙ ap (λ (n : ℕ). listed_text plan kept Whole unit (living_from plan kept unit (start + a) n)) size

range_text-joined : (plan : Project) (kept : Kept) (rows : PackedRows) → AreJoined (range_text plan kept rows) (rows_in plan kept rows)
range_text-joined plan kept (All unit) = record {
  join = λ a b c first second within.
      let at : (n : ℕ) → 0 + n ≡ n = λ n. omega arith in
      ap (λ (n : ℕ). listed_text plan kept Whole unit (living_from plan kept unit n (b - a)) ++ range_text plan kept (All unit) b c) (sym (at a))
      ∙ ap (λ (n : ℕ). listed_text plan kept Whole unit (living_from plan kept unit (0 + a) (b - a)) ++ listed_text plan kept Whole unit (living_from plan kept unit n (c - b))) (sym (at b))
      ∙ living-join plan kept unit 0 a b c first second
      ∙ ap (λ (n : ℕ). listed_text plan kept Whole unit (living_from plan kept unit n (c - a))) (at a);
}
range_text-joined plan kept (Keys xs) = record { join = λ a b c first second within. listed-join plan kept KeysAlone (last_unit plan) xs.now a b c first second }
range_text-joined plan kept (Lines xs unit) = record { join = λ a b c first second within. listed-join plan kept Whole unit xs.now a b c first second }
range_text-joined plan kept (Born unit) = record { join = λ a b c first second within. living-join plan kept unit (first_born plan kept unit) a b c first second }

-- the packages, one after the other
pub packages-whole : (packages : Packages) → 1 ≤ packages.size → texts (text_numbered packages) 0 (count_of packages) ≡ range_text packages.plan packages.kept packages.rows 0 (rows_in packages.plan packages.kept packages.rows)
packages-whole packages some =
    let rows : ℕ = rows_in packages.plan packages.kept packages.rows in
    let size : ℕ = packages.size in
    let text : ℕ → ℕ → List ℕ = range_text packages.plan packages.kept packages.rows in
    let many : count_of packages - 0 ≡ package_count size (rows - 0) =
    let all : rows ≡ rows - 0 = omega arith in
    let same : count_of packages - 0 ≡ count_of packages = omega arith in
    same ∙ ap (package_count size) all in
    ap (λ (n : ℕ). flat_map (text_numbered packages) (range_with_len 0 n)) many
    ∙ flat_map-range_same (text_numbered packages) (λ n. text (0 + n * size) (min rows (0 + (n + 1) * size))) 0 (package_count size (rows - 0))
    (λ k below.
    let begin : k * size ≡ 0 + k * size = omega arith in
    let end : min rows ((k + 1) * size) ≡ min rows (0 + (k + 1) * size) = omega arith in
    ap (λ (a : ℕ). text a (min rows ((k + 1) * size))) begin ∙ ap (text (0 + k * size)) end)
    ∙ packages-joined text rows (range_text-joined packages.plan packages.kept packages.rows) 0 rows size some (omega arith) (omega arith)

-- ---- and all rows give the texts

module _ (plan : Project) (limits : IsInLimits plan) (kept : Kept) (below : parent_place plan kept.detail < length plan.schema.tables) where
  abbrev generator : Generator
  generator = generator_of plan

  abbrev place : ℕ
  place = parent_place plan kept.detail

  abbrev births : Births
  births = (table_of plan place).births

  rows-text : (unit : ℕ) (js : List ℕ) → listed_text plan kept Whole unit js ≡ flat_map (lines_over plan kept) (map (row_at generator place unit) js)
  rows-text unit js = sym (flat_map-map (lines_over plan kept) (row_at generator place unit) js)

  pub all-text : (unit : ℕ) → unit ≤ last_unit plan → range_text plan kept (All unit) 0 (rows_in plan kept (All unit)) ≡ detail_text plan kept unit
  all-text unit within =
      let many : born_by plan kept unit - 0 ≡ born_by plan kept unit = omega arith in
      ap (λ (n : ℕ). listed_text plan kept Whole unit (living_from plan kept unit 0 n)) many
      ∙ rows-text unit (living generator place unit)
      ∙ ap (flat_map (lines_over plan kept)) (sym (rows_at-rows_of (last_unit plan) generator place unit (AreSound-accepted plan limits) within))

  -- a row's key lines are the same at each unit by which it is born
  keys-by : (last unit ordinal : ℕ) → unit ≤ last → ordinal < born_count births unit →
      key_lines_over plan kept (row_at generator place last ordinal) ≡ key_lines_over plan kept (row_at generator place unit ordinal)
  unfolding key_lines_of_row
  keys-by last unit ordinal within born =
      let layout : DetailLayout = layout_beside plan kept in
      ap (λ (b : ℕ). flat_map (λ number. line_by generator.delimiter (Some (decimal (key_in_cohort generator place b (ordinal - first_ordinal births b))) ∷ Some (decimal number) ∷ []))
      (range_with_len 1 (lines_of_draw layout (field_draw layout.seed 0 count_column b ordinal 1)))) (birth-by births last unit ordinal within born)

  keys-dying : (unit : ℕ) → suc unit ≤ last_unit plan →
      listed_text plan kept KeysAlone (last_unit plan) (dying generator place (suc unit)) ≡ flat_map (λ j. key_lines_over plan kept (row_at generator place unit j)) (dying generator place (suc unit))
  keys-dying unit within =
      flat_map-filter_same (row_text plan kept KeysAlone (last_unit plan)) (λ j. key_lines_over plan kept (row_at generator place unit j)) (λ ordinal. is_at (death generator place (suc unit) ordinal) (suc unit)) 0
      (first_ordinal births (suc unit))
      (λ j low high.
      let one : unit + 1 ≡ suc unit = omega arith in
      keys-by (last_unit plan) unit j (omega (arith, within)) (omega (arith, high, ap (first_ordinal births) one)))

  pub keys-text : (unit : ℕ) → unit ≤ last_unit plan → (xs : List ℕ) → xs ≡ ordinals (deleted generator place unit) → listed_text plan kept KeysAlone (last_unit plan) xs ≡ detail_deleted_text plan kept unit
  unfolding deleted
  keys-text zero within xs are = ap (listed_text plan kept KeysAlone (last_unit plan)) are
  keys-text (suc unit) within xs are =
      let before : suc unit - 1 ≡ unit = omega arith in
      ap (listed_text plan kept KeysAlone (last_unit plan)) (are ∙ deleted-ordinals plan limits place below (suc unit) within)
      ∙ keys-dying unit within
      ∙ sym (flat_map-map (key_lines_over plan kept) (row_at generator place unit) (dying generator place (suc unit)))
      ∙ ap (flat_map (key_lines_over plan kept))
      (sym (deleted-dying (last_unit plan) generator (AreSound-accepted plan limits) place (place-below plan place below) (suc unit) within
      ∙ ap (λ (u : ℕ). map (row_at generator place u) (dying generator place (suc unit))) before))

  pub updated-text : (unit : ℕ) → unit ≤ last_unit plan → (xs : List ℕ) → xs ≡ ordinals (updated generator place unit) → listed_text plan kept Whole unit xs ≡ detail_updated_text plan kept unit
  updated-text unit within xs are =
      ap (listed_text plan kept Whole unit) (are ∙ updated-ordinals plan limits place below unit within)
      ∙ rows-text unit (changing generator place unit)
      ∙ ap (flat_map (lines_over plan kept)) (sym (updated-changing (last_unit plan) generator (AreSound-accepted plan limits) place (place-below plan place below) unit within))

  pub born-text : (unit : ℕ) → unit ≤ last_unit plan → range_text plan kept (Born unit) 0 (rows_in plan kept (Born unit)) ≡ detail_inserted_text plan kept unit
  born-text unit within =
      let many : size_born plan kept unit - 0 ≡ size_born plan kept unit = omega arith in
      let begin : first_born plan kept unit + 0 ≡ first_born plan kept unit = omega arith in
      ap (λ (n : ℕ). listed_text plan kept Whole unit (living_from plan kept unit (first_born plan kept unit + 0) n)) many
      ∙ ap (λ (a : ℕ). listed_text plan kept Whole unit (living_from plan kept unit a (size_born plan kept unit))) begin
      ∙ ap (listed_text plan kept Whole unit)
      (filter-range_with_len_all (is_live generator place unit) (first_born plan kept unit) (size_born plan kept unit) (λ k inside. newborn-alive plan limits place below unit within k inside))
      ∙ rows-text unit (newborn generator place unit)
      ∙ ap (flat_map (lines_over plan kept)) (sym (inserted-newborn (last_unit plan) generator (AreSound-accepted plan limits) place (place-below plan place below) unit within))

  -- those of rows that are listed
  whole-list : (xs : List ℕ) → slice_range xs 0 (length xs) ≡ xs
  whole-list xs = let all : length xs - 0 ≡ length xs = omega arith in ap (λ (n : ℕ). take n xs) all ∙ take_all (length xs) xs (omega arith)

  pub keys-whole : (told : PackedRows) (xs : _) → told ≡ Keys xs → (unit : ℕ) → unit ≤ last_unit plan → xs.now ≡ ordinals (deleted generator place unit) →
      range_text plan kept told 0 (rows_in plan kept told) ≡ detail_deleted_text plan kept unit
  keys-whole told xs is unit within are =
      ap (λ (r : PackedRows). range_text plan kept r 0 (rows_in plan kept r)) is
      ∙ ap (listed_text plan kept KeysAlone (last_unit plan)) (whole-list xs.now)
      ∙ keys-text unit within xs.now are

  pub lines-whole : (told : PackedRows) (xs : _) (unit : ℕ) → told ≡ Lines xs unit → unit ≤ last_unit plan → xs.now ≡ ordinals (updated generator place unit) →
      range_text plan kept told 0 (rows_in plan kept told) ≡ detail_updated_text plan kept unit
  lines-whole told xs unit is within are =
      ap (λ (r : PackedRows). range_text plan kept r 0 (rows_in plan kept r)) is
      ∙ ap (listed_text plan kept Whole unit) (whole-list xs.now)
      ∙ updated-text unit within xs.now are
