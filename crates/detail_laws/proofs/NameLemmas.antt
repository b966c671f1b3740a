-- The lines of a detail table's text have keys apart, and each names one row of the parent.
use Rattle.std.proofs.Common.{◌≡◌, ℕ, ◌*◌, ◌%◌, ◌<◌, ◌≤◌, nat_lt, All, true, List, decimal, refl, ap, arith, sym, subst, ◌∙◌}
use Rattle.std.proofs.lemmas.Bool.{and_parts}
use Rattle.row_text.specs.Fields.{IsDelimiter}
use Rattle.cohort_sizes.specs.Births.{born_count}
use Rattle.cohort_sizes.proofs.CohortLemmas.{born_count-le}
use Rattle.schema_facts.specs.Dictionaries.{Project}
use Rattle.schema_facts.specs.Layout.{layout_of}
use Rattle.schema_plan.specs.Limits.{IsInLimits}
use Rattle.life_intervals.specs.Generator.{generator_of, last_unit, table_of}
use Rattle.life_intervals.specs.Intervals.{is_live}
use Rattle.life_intervals.specs.Keys.{key_of}
use Rattle.row_lines.proofs.LineLemmas.{key_of-by}
use Rattle.stream_apply.specs.KeyedLines.{KeyedLine}
use Rattle.stream_apply.specs.Streams.{IsLoaded}
use Rattle.stream_apply.specs.declared.key_fields.KeyFields.TheVariants.{Two}
use Rattle.stream_apply.proofs.NumberedLineLemmas.{lines_in-all}
use Rattle.stream_apply.proofs.UnitLemmas.{loaded-lines}
use Rattle.update_box.specs.TextLaws.{lines_with_key}
use Rattle.update_box.proofs.KeyLineLemmas.{lines_with_key-live}
use Rattle.detail_plan.specs.Kept.{Kept, KeepsRules}
use Rattle.detail_laws.specs.Naming.{AreDetailLines, NamesOneRow}
use Rattle.detail_lines.specs.Lines.{parent_place}
use Rattle.detail_laws.proofs.ApplyLawLemmas.{detail_text-lines, key, keyed-text, keys-apart, lines_of, live_lines, row-born, text}
use Rattle.detail_lines.proofs.DeclaredLemmas.{parent-below}
use Rattle.detail_laws.proofs.NumberedRowLemmas.{is_line, number_of, row_of}

module _ (plan : Project) (limits : IsInLimits plan) (kept : Kept) (keeps : KeepsRules plan kept) (delimits : IsDelimiter (layout_of plan).delimiter) (t : ℕ) (within : t ≤ last_unit plan) where
  abbrev place : ℕ
  place = parent_place plan kept.detail

  abbrev lines : List KeyedLine
  lines = live_lines plan limits kept keeps t

  abbrev born : ℕ
  born = born_count (table_of plan (parent_place plan kept.detail)).births t

  -- the line of a row that is alive names it
  line-names : (n : ℕ) → n < born * 64 → is_line (is_live (generator_of plan) place t) (lines_of plan limits kept keeps) n ≡ true →
      lines_with_key (generator_of plan) t place (decimal (key_of (generator_of plan) place (last_unit plan) (row_of n))) ≡ 1
  line-names n inside at =
      let own : row_of n < born = row-born plan limits kept keeps t n inside in
      let alive = (and_parts (is_live (generator_of plan) place t (row_of n)) (nat_lt (n % 64) (lines_of plan limits kept keeps (row_of n))) at).0 in
      ap (λ (of : ℕ). lines_with_key (generator_of plan) t place (decimal of)) (key_of-by (generator_of plan) (last_unit plan) t place (row_of n) within own)
      ∙ lines_with_key-live plan limits t within place (parent-below plan kept keeps) (row_of n) own alive

  all-name : All (NamesOneRow plan kept t) lines
  all-name =
      lines_in-all (NamesOneRow plan kept t) (key plan limits kept keeps) (text plan limits kept keeps t) (is_line (is_live (generator_of plan) place t) (lines_of plan limits kept keeps)) 0 (born * 64)
      (λ n low high at. (decimal (key_of (generator_of plan) place (last_unit plan) (row_of n)), decimal (number_of n), refl, line-names n (omega (arith, high)) at))

  pub lines-name : (those : List KeyedLine) × AreDetailLines plan kept t those
  lines-name = (
    lines,
    record {
      read = subst (λ (bytes : List ℕ). IsLoaded bytes Two (layout_of plan).delimiter (record { keys = Two; delimiter = (layout_of plan).delimiter; lines = lines })) (sym (detail_text-lines plan limits kept keeps t within))
          (loaded-lines Two (layout_of plan).delimiter (key plan limits kept keeps) (born_count (table_of plan place).births (last_unit plan) * 64) (keys-apart plan limits kept keeps delimits)
          (text plan limits kept keeps t) (is_line (is_live (generator_of plan) place t) (lines_of plan limits kept keeps)) 0 (born * 64)
          (omega (arith, born_count-le (table_of plan place).births t (last_unit plan) within)) (λ n low high. keyed-text plan limits kept keeps t n));
      name = all-name;
    },
  )
