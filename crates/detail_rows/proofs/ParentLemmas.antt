-- The lines of rows of the parent, by their ordinals.
use Rattle.std.proofs.Common.{◌≡◌, ℕ, ◌+◌, Bool, List, [], ◌∷◌, ◌++◌, filter, flat_map, get_or, if◌then◌else◌, length, map, take, drop, refl, ap, sym, ◌∙◌}
use Rattle.std.specs.List.{range_with_len}
use Rattle.std.proofs.Math.Seq.{take-add}
use Rattle.std.proofs.lemmas.List.Concat.{flat_map-append}
use Rattle.std.proofs.lemmas.List.Folds.{flat_map-map}
use Rattle.std.proofs.lemmas.List.FromFn.{fill_by_all}
use Rattle.schema_facts.specs.Dictionaries.{Project}
use Rattle.life_intervals.specs.Generator.{generator_of}
use Rattle.life_intervals.specs.Intervals.{is_live}
use Rattle.life_intervals.proofs.Ranges.{range_with_len-add}
use Rattle.row_lines.specs.Kept.{kept_by}
use Rattle.row_lines.proofs.ListLemmas.{flat_map-filter_append}
use Rattle.detail_plan.specs.Kept.{Kept}
use Rattle.detail_lines.specs.declared.detail_lines.LineKind.{LineKind}
use Rattle.detail_lines.specs.declared.detail_lines.LineKind.TheVariants.{Whole}
use Rattle.detail_lines.specs.declared.parent_row.ParentRows.{ParentRows}
use Rattle.detail_lines.specs.Lines.{parent_place}
use Rattle.detail_lines.specs.Made.{LinesOver, made_rows}
use Rattle.detail_lines.specs.Rows.{row_text}
use Rattle.detail_rows.specs.Packages.{listed_text, living_from}

-- ---- rows side by side

pub rows-listed : (over : LinesOver) (kind : LineKind) (unit : ℕ) (rows : ParentRows) →
    made_rows over kind unit rows (length rows.ordinals.now) ≡ listed_text over.plan over.kept kind unit rows.ordinals.now
rows-listed over kind unit rows =
    let ordinals : List ℕ = rows.ordinals.now in
    let at : ℕ → ℕ = λ i. get_or ordinals i 0 in
    sym (flat_map-map (row_text over.plan over.kept kind unit) at (range_with_len 0 (length ordinals)))
    ∙ ap (flat_map (row_text over.plan over.kept kind unit)) (sym (fill_by_all at ordinals (length ordinals) 0 refl (λ k inside. refl)))

-- ---- some rows, and some more

pub listed_text-part : (plan : Project) (kept : Kept) (kind : LineKind) (unit : ℕ) (ordinals : List ℕ) (done some : ℕ) →
    listed_text plan kept kind unit (take done ordinals) ++ listed_text plan kept kind unit (take some (drop done ordinals)) ≡ listed_text plan kept kind unit (take (done + some) ordinals)
listed_text-part plan kept kind unit ordinals done some =
    sym (flat_map-append (row_text plan kept kind unit) (take done ordinals) (take some (drop done ordinals))) ∙ ap (listed_text plan kept kind unit) (sym (take-add done some ordinals))

pub living-more : (plan : Project) (kept : Kept) (unit first count more : ℕ) →
    listed_text plan kept Whole unit (living_from plan kept unit first (count + more))
    ≡ listed_text plan kept Whole unit (living_from plan kept unit first count) ++ listed_text plan kept Whole unit (living_from plan kept unit (first + count) more)
living-more plan kept unit first count more =
    let live : ℕ → Bool = is_live (generator_of plan) (parent_place plan kept.detail) unit in
    ap (λ (ordinals : List ℕ). listed_text plan kept Whole unit (filter live ordinals)) (range_with_len-add first count more)
    ∙ flat_map-filter_append (row_text plan kept Whole unit) live (range_with_len first count) (range_with_len (first + count) more)

-- what is kept by a test of each item is what passes it
pub kept-filter : (p : ℕ → Bool) (xs : List ℕ) → kept_by (map p xs) xs ≡ filter p xs
kept-filter p [] = refl
kept-filter p (x ∷ xs) = ap (λ ys. if p x then x ∷ ys else ys) (kept-filter p xs)
