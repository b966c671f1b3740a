use Rattle.std.proofs.Common.{◌≡◌, ◌≤◌, ◌-◌, ◌*◌, flat_map}
use Rattle.std.specs.List.{range_with_len}
use Rattle.schema_facts.specs.Counts.{count}
use Rattle.detail_lines.specs.declared.detail_lines.LineKind.TheVariants.{Whole}
use Rattle.detail_lines.specs.LineRuns.{AreListed, ArePlaced, listed_lines}
use Rattle.detail_lines.specs.Made.{made_row, row_of}
use Rattle.detail_lines.proofs.detail_lines.DetailLines.gather.Given as goal

-- the lines of the rows before one
abbrev pub invariant-loop-i : goal.invariant-loop-i
invariant-loop-i l = record {
  ordered : l.first ≤ l.i;
  few : l.lines ≤ l.most;
  bound : l.lines ≤ (l.i - l.first) * count l.self.kept.detail.hi;
  begun : l.i ≡ l.first → l.lines ≡ 0;
  listed : AreListed l.self l.t l.lines l.lists;
  placed : ArePlaced l.rows l.first (l.i - l.first) l.lines l.lists;
  text : listed_lines l.self l.t l.lists l.lines ≡ flat_map (λ i. made_row l.self Whole l.t (row_of l.rows i).ordinal) (range_with_len l.first (l.i - l.first));
}
