-- The texts of runs: one after the other, and of all rows; and the line of a row, field by field.
use Rattle.std.proofs.Common.{◌≡◌, ◌<◌, ◌≤◌, ℕ, zero, suc, ◌+◌, ◌*◌, Bool, List, [], ◌∷◌, ◌++◌, filter, flat_map, get_or, length, length-append, take, drop, append-nil, append_assoc, refl, ap, sym, arith, ◌∙◌}
use Rattle.std.specs.List.{range_with_len}
use Rattle.std.proofs.Math.Nat.{mul-le-mul_right}
use Rattle.std.proofs.Math.Seq.{take-add}
use Rattle.std.proofs.lemmas.List.{take_more}
use Rattle.std.proofs.lemmas.List.Concat.{flat_map-append}
use Rattle.std.proofs.lemmas.List.Elements.{filter-append}
use Rattle.line_pages.specs.Pages.{Page}
use Rattle.cohort_sizes.specs.Births.{Births, born_count, cohort_size, first_ordinal}
use Rattle.schema_facts.specs.Layout.{layout_of}
use Rattle.schema_plan.specs.Limits.{IsInLimits}
use Rattle.life_intervals.specs.CohortLives.{survival_at}
use Rattle.life_intervals.specs.Generator.{generator_of, last_unit}
use Rattle.life_intervals.specs.declared.lives.Survival.TheVariants.{Over}
use Rattle.life_intervals.specs.Intervals.{is_live}
use Rattle.life_intervals.specs.Sound.{AreSound}
use Rattle.life_intervals.proofs.CohortAt.{CohortAt}
use Rattle.life_intervals.proofs.CohortAtLemmas.{is_live_in-over}
use Rattle.life_intervals.proofs.Ranges.{range_with_len-add}
use Rattle.row_lines.specs.Lines.{cohort_text, first_lines, line, line_of, table_text}
use Rattle.row_lines.specs.Runs.{RunLinesOf, layout_for, line_for, listed_text, living_from, run_text, text_at, text_behind}
use Rattle.row_lines.proofs.LineLemmas.{cohort_text-over, table_text-living}
use Rattle.row_lines.proofs.ListLemmas.{flat_map-filter_append}
use Rattle.row_lines.proofs.RunListLemmas.{joined_fields}

-- how many rows of the table are born by the unit
abbrev pub born_for : RunLinesOf → ℕ
born_for lines = born_count (layout_for lines).births lines.unit

-- no row, and so many more
pub run_text-none : (lines : RunLinesOf) (first : ℕ) → run_text lines first 0 ≡ []
run_text-none lines first = refl

pub living_from-more : (lines : RunLinesOf) (first count more : ℕ) → living_from lines first (count + more) ≡ living_from lines first count ++ living_from lines (first + count) more
living_from-more lines first count more =
    let live : ℕ → Bool = is_live (generator_of lines.plan) lines.table lines.unit in
    ap (filter live) (range_with_len-add first count more) ∙ filter-append live (range_with_len first count) (range_with_len (first + count) more)

pub run_text-more : (lines : RunLinesOf) (first count more : ℕ) → run_text lines first (count + more) ≡ run_text lines first count ++ run_text lines (first + count) more
run_text-more lines first count more =
    let live : ℕ → Bool = is_live (generator_of lines.plan) lines.table lines.unit in
    ap (λ (ordinals : List ℕ). listed_text lines (filter live ordinals)) (range_with_len-add first count more)
    ∙ flat_map-filter_append (line_of (generator_of lines.plan) lines.unit lines.table) live (range_with_len first count) (range_with_len (first + count) more)

-- all rows that are born by the unit are the table's text
pub table_text-run : (units : ℕ) (lines : RunLinesOf) → AreSound units (generator_of lines.plan).tables → lines.unit ≤ units →
    table_text (generator_of lines.plan) lines.unit lines.table ≡ run_text lines 0 (born_for lines)
table_text-run units lines sound within = table_text-living units (generator_of lines.plan) lines.unit lines.table sound within

-- those of a cohort are the cohort's
pub cohort_text-run : (lines : RunLinesOf) (born : ℕ) →
    cohort_text (generator_of lines.plan) lines.unit lines.table born ≡ run_text lines (first_ordinal (layout_for lines).births born) (cohort_size (layout_for lines).births born)
unfolding cohort_text first_lines
cohort_text-run lines born = refl

-- two lists, one after the other
pub listed_text-append : (lines : RunLinesOf) (ordinals others : List ℕ) → listed_text lines (ordinals ++ others) ≡ listed_text lines ordinals ++ listed_text lines others
listed_text-append lines ordinals others = flat_map-append (line_of (generator_of lines.plan) lines.unit lines.table) ordinals others

-- a line, field by field
pub line_for-fields : (lines : RunLinesOf) (ordinal : ℕ) → 1 ≤ length (layout_for lines).columns →
    flat_map (text_behind lines ordinal) (range_with_len 0 (length (layout_for lines).columns)) ≡ line_for lines ordinal
unfolding line
line_for-fields lines ordinal some =
    sym (joined_fields (layout_of lines.plan).delimiter (text_at lines ordinal) (length (layout_for lines).columns) some)

-- the rows of cohorts whose longest life has ended are none
pub run_text-over : (lines : RunLinesOf) → IsInLimits lines.plan → lines.table < length lines.plan.schema.tables → lines.unit ≤ last_unit lines.plan →
    (born : ℕ) → born ≤ lines.unit → ((earlier : ℕ) → earlier < born → survival_at lines.plan lines.table earlier lines.unit ≡ Over) → run_text lines 0 (first_ordinal (layout_for lines).births born) ≡ []
run_text-over lines limits below within zero early over = refl
run_text-over lines limits below within (suc born) early over =
    let births : Births = (layout_for lines).births in
    let start : 0 + first_ordinal births born ≡ first_ordinal births born = omega arith in
    let cohort : CohortAt = record { plan = lines.plan; table = lines.table; born = born; unit = lines.unit } in
    run_text-more lines 0 (first_ordinal births born) (cohort_size births born)
    ∙ ap (λ (text : List ℕ). text ++ run_text lines (0 + first_ordinal births born) (cohort_size births born))
    (run_text-over lines limits below within born (omega (arith, early)) (λ earlier before. over earlier (omega (arith, before))))
    ∙ ap (λ (first : ℕ). run_text lines first (cohort_size births born)) start
    ∙ sym (cohort_text-run lines born)
    ∙ cohort_text-over (generator_of lines.plan) lines.unit lines.table born (is_live_in-over cohort limits below within (omega (arith, early)) (over born (omega arith)))

-- ---- texts that are appended to a page, one after the other

pub appended-more : (old before after : Page) (so_far more all : List ℕ) → before ≡ record { text = old.text ++ so_far; room = old.room } → after ≡ record { text = before.text ++ more; room = before.room } →
    so_far ++ more ≡ all → after ≡ record { text = old.text ++ all; room = old.room }
appended-more old before after so_far more all before_is after_is all_is =
    after_is
    ∙ ap (λ (page : Page). record { text = page.text ++ more; room = page.room }) before_is
    ∙ ap (λ (text : List ℕ). record { text = text; room = old.room }) (append_assoc old.text so_far more ∙ ap (λ (text : List ℕ). old.text ++ text) all_is)

-- so many texts, each of at most a size, and as many more
pub sizes-more : (so_far more all : List ℕ) (done some most : ℕ) → so_far ++ more ≡ all → length so_far ≤ done * most → length more ≤ some * most → length all ≤ (done + some) * most
sizes-more so_far more all done some most all_is few_before few_more = omega (arith, ap (λ (text : List ℕ). length text) all_is, length-append so_far more, few_before, few_more)

-- leave room for the rest
pub room-more : (old before : Page) (so_far : List ℕ) (done some count most : ℕ) → before ≡ record { text = old.text ++ so_far; room = old.room } → length so_far ≤ done * most → done + some ≤ count →
    length old.text + count * most ≤ old.room → length before.text + some * most ≤ before.room
room-more old before so_far done some count most before_is few within room =
    omega (
      arith,
      ap (λ (page : Page). length page.text) before_is,
      ap (λ (page : Page). page.room) before_is,
      length-append old.text so_far,
      few,
      room,
      mul-le-mul_right most within,
    )

-- the lines of some rows, and of one more
pub listed_text-more : (lines : RunLinesOf) (ordinals : List ℕ) (row : ℕ) → row < length ordinals →
    listed_text lines (take row ordinals) ++ line_for lines (get_or ordinals row 0) ≡ listed_text lines (take (row + 1) ordinals)
listed_text-more lines ordinals row below =
    ap (λ (text : List ℕ). listed_text lines (take row ordinals) ++ text) (sym (append-nil (line_for lines (get_or ordinals row 0))))
    ∙ sym (listed_text-append lines (take row ordinals) (get_or ordinals row 0 ∷ []))
    ∙ ap (listed_text lines) (sym (take_more ordinals row 0 below))

-- and of some more
pub listed_text-part : (lines : RunLinesOf) (ordinals : List ℕ) (done some : ℕ) → listed_text lines (take done ordinals) ++ listed_text lines (take some (drop done ordinals)) ≡ listed_text lines (take (done + some) ordinals)
listed_text-part lines ordinals done some =
    sym (listed_text-append lines (take done ordinals) (take some (drop done ordinals))) ∙ ap (listed_text lines) (sym (take-add done some ordinals))
