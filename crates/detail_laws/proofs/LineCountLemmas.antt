-- A row has at most 64 lines.
use Rattle.std.proofs.Common.{◌≡◌, ℕ, ℤ, pos, negsuc, ◌+◌, ◌-◌, ◌≤◌, ◌&&◌, true, int_le, arith}
use Rattle.std.proofs.lemmas.Bool.{and_parts, leb-true}
use Rattle.std.proofs.lemmas.Nat.{mod_below}
use Rattle.philox_seeds.specs.SeedTree.{field_draw}
use Rattle.schema_facts.specs.Counts.{count}
use Rattle.schema_facts.specs.Dictionaries.{Project}
use Rattle.life_intervals.specs.Rows.{Row}
use Rattle.detail_plan.specs.Kept.{Kept, KeepsRules}
use Rattle.detail_plan.specs.declared.detail.Detail.{Detail}
use Rattle.detail_plan.proofs.Accepted.{keeps_each}
use Rattle.detail_lines.specs.Lines.{count_column, layout_beside, line_count}

ordered_counts : (lo hi : ℤ) → int_le lo hi ≡ true → count lo ≤ count hi
ordered_counts (pos lo) (pos hi) ordered = leb-true lo hi ordered
ordered_counts (pos lo) (negsuc hi) ordered = absurd (cc)
ordered_counts (negsuc lo) hi ordered = omega arith

pub few-lines : (plan : Project) (kept : Kept) → KeepsRules plan kept → (row : Row) → line_count (layout_beside plan kept) row ≤ 64
few-lines plan kept keeps row =
    let detail : Detail = kept.detail in
    let counts =
    and_parts (int_le (pos 0) detail.lo && int_le detail.lo detail.hi && int_le (pos 1) detail.hi) (int_le detail.hi (pos 64)) (keeps_each plan kept.lists detail keeps.keeps).line_counts in
    let ends = and_parts (int_le (pos 0) detail.lo && int_le detail.lo detail.hi) (int_le (pos 1) detail.hi) counts.0 in
    let order = and_parts (int_le (pos 0) detail.lo) (int_le detail.lo detail.hi) ends.0 in
    let draw : ℕ = field_draw (count detail.seed) 0 count_column row.born row.ordinal 1 in
    omega (
      arith,
      ordered_counts detail.lo detail.hi order.1,
      ordered_counts detail.hi (pos 64) counts.1,
      mod_below draw (count detail.hi - count detail.lo + 1) (omega arith),
    )
