use Rattle.std.proofs.Common.{◌≡◌, ◌≤◌, ◌*◌, ◌++◌, length}
use Rattle.detail_lines.specs.declared.detail_lines.LineKind.TheVariants.{Whole}
use Rattle.detail_lines.specs.Made.{AreSeedsBefore, made_rows}
use Rattle.detail_lines.proofs.detail_lines.DetailLines.put_each_row.Given as goal

abbrev pub invariant-loop-i : goal.invariant-loop-i
invariant-loop-i g l = record {
  seeds : l.kind ≡ Whole → AreSeedsBefore l.self l.rows l.i l.seeds;
  text : l.page ≡ record { text = l.fn.page.text ++ made_rows l.self l.kind l.at.unit l.rows l.i; room = l.fn.page.room };
  size : length (made_rows l.self l.kind l.at.unit l.rows l.i) ≤ l.i * l.self.kept.reach;
}
