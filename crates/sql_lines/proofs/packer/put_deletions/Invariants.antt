use Rattle.std.proofs.Common.{◌≡◌, ◌≤◌, ◌*◌, length, take}
use Rattle.schema_facts.specs.Layout.{layout_of}
use Rattle.sql_lines.specs.Reach.{statement_size}
use Rattle.sql_lines.specs.Statements.{deletions_of}
use Rattle.sql_lines.proofs.packer.put_deletions.Given as goal

abbrev pub invariant-loop-ordinal : goal.invariant-loop-ordinal
invariant-loop-ordinal g l = record {
  page : l.page ≡ record l.fn.page { text = deletions_of l.rows l.table (take l.ordinal-index l.ordinals) };
  size : length (deletions_of l.rows l.table (take l.ordinal-index l.ordinals)) ≤ l.ordinal-index * statement_size (layout_of l.rows) l.table;
}
