-- The rows that are told, in parts.
use Rattle.std.proofs.Common.{◌≡◌, ◌<◌, ◌≤◌, ℕ, ◌+◌, ◌-◌, List, ◌++◌, All, flat_map, length, inl, inr, refl, ap, sym, ◌∙◌, arith}
use Rattle.std.specs.List.{range_with_len}
use Rattle.std.proofs.lemmas.List.Concat.{flat_map-append}
use Rattle.std.proofs.lemmas.List.Elements.{All-filter, All-from_get_or}
use Rattle.std.proofs.lemmas.List.FromFn.{get_or-range_with_len, length-range_with_len}
use Rattle.std.proofs.lemmas.List.Sums.{count_by-le-length, length-filter}
use Rattle.cohort_sizes.specs.Births.{born_count}
use Rattle.schema_facts.specs.Delimiters.{delimiter_byte}
use Rattle.schema_facts.specs.Dictionaries.{Project}
use Rattle.schema_facts.specs.Layout.{layout_of}
use Rattle.schema_model.specs.declared.table.Delimiter.{Delimiter}
use Rattle.schema_model.specs.declared.table.Delimiter.TheVariants.{Bar, Tab}
use Rattle.row_text.specs.Fields.{IsDelimiter}
use Rattle.life_intervals.specs.Generator.{generator_of}
use Rattle.life_intervals.specs.Intervals.{is_live}
use Rattle.row_lines.specs.Runs.{RunLinesOf, layout_for, living_from}
use Rattle.row_lines.proofs.RunTextLemmas.{living_from-more}
use Rattle.update_box.proofs.EntryLemmas.{part-joined}
use Rattle.sql_lines.specs.declared.rows.Told.{Told}
use Rattle.sql_lines.specs.declared.rows.Told.TheVariants.{Listed, Living}
use Rattle.sql_lines.specs.Told.{AreTold, many_told, ordinals_told, told_range}

-- ---- all of them

-- they are born by the unit
pub told-born : (lines : RunLinesOf) (told : Told) → AreTold lines told → All (λ ordinal. ordinal < born_count (layout_for lines).births lines.unit) (ordinals_told lines told)
told-born lines (Living first count) within =
    All-filter (is_live (generator_of lines.plan) lines.table lines.unit) (λ ordinal. ordinal < born_count (layout_for lines).births lines.unit) (range_with_len first count)
    (All-from_get_or (λ ordinal. ordinal < born_count (layout_for lines).births lines.unit) (range_with_len first count) 0
    (λ i below. let inside : i < count = omega (arith, below, length-range_with_len first count) in omega (arith, within, inside, get_or-range_with_len first count i 0 inside)))
told-born lines (Listed ordinals) listed = listed.born

-- and no more than are asked for
pub told-few : (lines : RunLinesOf) (told : Told) → length (ordinals_told lines told) ≤ many_told told
told-few lines (Living first count) =
    omega (
      arith,
      length-filter (is_live (generator_of lines.plan) lines.table lines.unit) (range_with_len first count),
      count_by-le-length (is_live (generator_of lines.plan) lines.table lines.unit) (range_with_len first count),
      length-range_with_len first count,
    )
told-few lines (Listed ordinals) = omega arith

-- ---- in parts

module _ (lines : RunLinesOf) (f : ℕ → List ℕ) where
  living-joined : (first a b c : ℕ) → a ≤ b → b ≤ c →
      flat_map f (living_from lines (first + a) (b - a)) ++ flat_map f (living_from lines (first + b) (c - b)) ≡ flat_map f (living_from lines (first + a) (c - a))
  living-joined first a b c order next =
      let size : b - a + (c - b) ≡ c - a = omega (arith, order, next) in
      let start : first + b ≡ first + a + (b - a) = omega (arith, order) in
      ap (λ (n : ℕ). flat_map f (living_from lines (first + a) (b - a)) ++ flat_map f (living_from lines n (c - b))) start
      ∙ sym (flat_map-append f (living_from lines (first + a) (b - a)) (living_from lines (first + a + (b - a)) (c - b)))
      ∙ ap (flat_map f) (sym (living_from-more lines (first + a) (b - a) (c - b)))
      ∙ ap (λ (n : ℕ). flat_map f (living_from lines (first + a) n)) size

  pub told-joined : (told : Told) (a b c : ℕ) → a ≤ b → b ≤ c → flat_map f (told_range lines told a b) ++ flat_map f (told_range lines told b c) ≡ flat_map f (told_range lines told a c)
  told-joined (Living first count) a b c order next = living-joined first a b c order next
  told-joined (Listed ordinals) a b c order next = part-joined f ordinals.now a b c order next

  -- one part more
  pub told-more : (told part : Told) (done some : ℕ) → ordinals_told lines part ≡ told_range lines told done (done + some) →
      flat_map f (told_range lines told 0 done) ++ flat_map f (ordinals_told lines part) ≡ flat_map f (told_range lines told 0 (done + some))
  told-more told part done some are =
      ap (λ (ordinals : List ℕ). flat_map f (told_range lines told 0 done) ++ flat_map f ordinals) are ∙ told-joined told 0 done (done + some) (omega arith) (omega arith)

-- ---- what stands between their fields

pub delimits : (plan : Project) → IsDelimiter (layout_of plan).delimiter
delimits plan = by plan.schema.delimiter refl
  where
    by : (delimiter : Delimiter) → plan.schema.delimiter ≡ delimiter → IsDelimiter (layout_of plan).delimiter
    by Tab is = inl (ap delimiter_byte is)
    by Bar is = inr (ap delimiter_byte is)
