use Rattle.std.proofs.Common.{◌≡◌, ◌<◌, ℕ, get_or}
use Rattle.philox_seeds.specs.SeedTree.{column_seed, unit_seed}
use Rattle.schema_facts.specs.Layout.{column_at}
use Rattle.draw_values.specs.Values.{draw_unit}
use Rattle.detail_lines.specs.Made.{columns_over, detail_seed, told_at}
use Rattle.detail_lines.proofs.detail_lines.DetailLines.put_seeds.Given as goal

abbrev pub invariant-loop-column : goal.invariant-loop-column
invariant-loop-column l = (column : ℕ) → column < l.column →
    get_or l.seeds column 0 ≡ unit_seed (column_seed (detail_seed l.self.kept) column) (draw_unit (column_at (columns_over l.self) column) (told_at l.row))
