use Rattle.std.proofs.Common.{◌<◌, ◌≤◌, ◌*◌, ℕ, ap, ap₂, arith, length, sym}
use Rattle.schema_facts.specs.Dictionaries.{Project}
use Rattle.schema_facts.specs.Layout.{layout_of}
use Rattle.update_box.proofs.PackLemmas.{put-none, put-text, text-size}
use Rattle.sql_lines.specs.Frames.{FrameOf}
use Rattle.sql_lines.specs.Reach.{statement_size}
use Rattle.sql_lines.specs.Statements.{column_count}
use Rattle.sql_lines.proofs.BareLemmas.{columns-many}
use Rattle.sql_lines.proofs.PackageLemmas.{no-updates}
use Rattle.sql_lines.proofs.PutLemmas.{listed-alive, some-other, updates-told}
use Rattle.sql_lines.proofs.packer.put_updates.Goals as goal
use Rattle.sql_lines.proofs.packer.put_updates.Goals.{Then-columns-le1}

-- a table that has only its key
alone : (g : _) (c : Then-columns-le1 g) → column_count c.args.plan.now c.args.table ≤ 1
alone g c = omega (arith, c.if-columns-le1.true, columns-many c.args.plan.now c.args.table c.columns.result.now c.columns.ensures.columns)

pub returns-then-columns-le1-clause-text : goal.returns-then-columns-le1-clause-text
returns-then-columns-le1-clause-text g c =
    put-none c.args.page.now _ c.requires.empty
    (sym (no-updates c.args.plan.now c.args.lines.now.unit c.args.table c.args.ordinals.now (alone g (goal.at.returns-then-columns-le1-clause-text g c).Then-columns-le1)))

pub returns-then-columns-le1-clause-size : goal.returns-then-columns-le1-clause-size
returns-then-columns-le1-clause-size g c =
    text-size _ _ _ (sym (no-updates c.args.plan.now c.args.lines.now.unit c.args.table c.args.ordinals.now (alone g (goal.at.returns-then-columns-le1-clause-size g c).Then-columns-le1))) (omega arith)

pub put_rows-requires-clause-columns : goal.put_rows-requires-clause-columns
put_rows-requires-clause-columns g c =
    let several : 1 < column_count c.args.plan.now c.args.table = omega (arith, c.if-columns-le1.false, columns-many c.args.plan.now c.args.table c.columns.result.now c.columns.ensures.columns) in
    omega (arith, ap (λ (frame : FrameOf). length frame.columns) c.requires.frame, some-other c.args.plan.now c.args.table several)

pub put_rows-requires-clause-told : goal.put_rows-requires-clause-told
put_rows-requires-clause-told g c = listed-alive c.args.plan.now c.args.table c.args.lines.now c.args.ordinals.now c.requires.plan c.requires.table c.requires.rows

pub returns-clause-text : goal.returns-clause-text
returns-clause-text g c =
    put-text c.args.page.now c.put_rows.new.page _ _ c.requires.empty c.put_rows.ensures.text
    (updates-told c.args.plan.now c.args.table c.args.lines.now c.args.ordinals c.requires.plan c.requires.table)

pub returns-clause-size : goal.returns-clause-size
returns-clause-size g c =
    text-size _ _ _ (updates-told c.args.plan.now c.args.table c.args.lines.now c.args.ordinals c.requires.plan c.requires.table)
    (omega (
      arith,
      c.put_rows.ensures.size,
      ap₂ (λ (plan : Project) (table : ℕ). length c.args.ordinals.now * statement_size (layout_of plan) table) c.requires.plan c.requires.table,
    ))
