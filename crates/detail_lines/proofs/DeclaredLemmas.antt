-- What the rules of a detail table tell of its parent and of the number of a row's lines.
use Rattle.std.proofs.Common.{◌≡◌, ℕ, ◌+◌, ◌-◌, ◌<◌, ◌≤◌, nat_lt, Bool, true, false, Some, None, cond, inl, inr, is_some, length, refl, arith, sym, ◌∙◌}
use Rattle.std.specs.Prelude.{unwrap_or}
use Rattle.std.proofs.lemmas.Bool.{cases_lt, le-ltb, true≢false}
use Rattle.std.proofs.lemmas.Nat.{mod_below}
use Rattle.philox_seeds.specs.SeedTree.{field_draw}
use Rattle.row_text.specs.Fields.{IsDelimiter}
use Rattle.schema_model.specs.declared.table.Delimiter.{Delimiter}
use Rattle.schema_model.specs.declared.table.Delimiter.TheVariants.{Bar, Tab}
use Rattle.schema_facts.specs.Counts.{count}
use Rattle.schema_facts.specs.Dictionaries.{Project}
use Rattle.schema_facts.specs.Delimiters.{delimiter_byte}
use Rattle.schema_facts.specs.Layout.{layout_of}
use Rattle.life_intervals.specs.Rows.{Row}
use Rattle.detail_plan.specs.Limits.{IsInLimits}
use Rattle.detail_plan.specs.Kept.{Kept, KeepsRules}
use Rattle.detail_plan.specs.declared.detail.Detail.{Detail}
use Rattle.detail_plan.proofs.Accepted.{keeps_each}
use Rattle.detail_lines.specs.Lines.{count_column, layout_beside, line_count, parent_place}

-- a place that is found is there
found-below : (place size : ℕ) (test : Bool) → nat_lt place size ≡ test → is_some (cond test (Some place) None) ≡ true → unwrap_or (cond test (Some place) None) 0 < size
found-below place size true test found = elim (cases_lt place size) [
  | inl below ↦ below
  | inr past ↦ absurd (true≢false (sym test ∙ le-ltb place size past))
]
found-below place size false test found = absurd (true≢false (sym found))

-- the parent is a table of the schema
pub parent-below : (plan : Project) (kept : Kept) → KeepsRules plan kept → parent_place plan kept.detail < length plan.schema.tables
parent-below plan kept keeps = found-below _ (length plan.schema.tables) _ refl (keeps_each plan kept.lists kept.detail keeps.keeps).parent

-- a row has at most 64 lines
pub few-lines : (plan : Project) (kept : Kept) → IsInLimits kept.lists kept.detail → (row : Row) → line_count (layout_beside plan kept) row ≤ 64
few-lines plan kept limits row =
    let detail : Detail = kept.detail in
    let draw : ℕ = field_draw (count detail.seed) 0 count_column row.born row.ordinal 1 in
    omega (arith, limits.ordered, limits.few_lines, mod_below draw (count detail.hi - count detail.lo + 1) (omega arith))

-- a schema's fields stand between tabs or bars
pub delimits : (plan : Project) → IsDelimiter (layout_of plan).delimiter
delimits plan = of_delimiter plan.schema.delimiter
  where
    of_delimiter : (delimiter : Delimiter) → IsDelimiter (delimiter_byte delimiter)
    of_delimiter Tab = inl refl
    of_delimiter Bar = inr refl
