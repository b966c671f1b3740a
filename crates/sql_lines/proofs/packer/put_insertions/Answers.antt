use Rattle.std.proofs.Common.{◌≡◌, ◌≤◌, ◌-◌, ◌*◌, ap, arith}
use Rattle.std.proofs.Math.Nat.{mul-le-mul_right}
use Rattle.cohort_sizes.proofs.CohortLemmas.{born_count-le}
use Rattle.schema_facts.specs.Layout.{layout_of}
use Rattle.life_intervals.specs.Generator.{last_unit, table_of}
use Rattle.row_lines.specs.Runs.{RunLinesOf}
use Rattle.update_box.proofs.PackLemmas.{put-text, text-size}
use Rattle.sql_lines.specs.Packages.{insertions_between}
use Rattle.sql_lines.specs.Reach.{statement_size}
use Rattle.sql_lines.specs.Told.{statements_told}
use Rattle.sql_lines.specs.declared.frame.Verb.TheVariants.{Insert}
use Rattle.sql_lines.specs.declared.rows.Told.TheVariants.{Living}
use Rattle.sql_lines.proofs.PutLemmas.{insertions-told}
use Rattle.sql_lines.proofs.packer.put_insertions.Goals as goal
use Rattle.sql_lines.proofs.packer.put_insertions.Goals.{After-put_rows}

pub put_rows-requires-clause-few : goal.put_rows-requires-clause-few
put_rows-requires-clause-few g c =
    omega (
      arith,
      c.begin_at-begin.ensures.within,
      c.requires.rows,
      born_count-le (table_of c.args.plan.now c.args.table).births c.args.unit (last_unit c.args.plan.now) c.requires.unit,
      c.table-limits.ensures.limits.births.row_limit,
    )

-- the rows from the first that may be alive on have the statements of all
told_is : (g : _) (c : After-put_rows g) →
    statements_told c.args.lines.now Insert (Living c.begin_at-begin.result (c.args.end - c.begin_at-begin.result)) ≡ insertions_between c.args.plan.now c.args.table c.args.unit c.args.first c.args.end
told_is g c =
    insertions-told c.args.plan.now c.args.table c.args.unit c.args.first c.args.end c.begin_at-begin.result c.args.living c.args.lines.now c.requires.lines
    c.begin_at-begin.ensures.begun c.begin_at-begin.ensures.within c.begin_at-begin.ensures.passed c.requires.living

pub returns-clause-text : goal.returns-clause-text
returns-clause-text g c = put-text c.args.page.now c.put_rows.new.page _ _ c.requires.empty c.put_rows.ensures.text (told_is g (goal.at.returns-clause-text g c).After-put_rows)

pub returns-clause-size : goal.returns-clause-size
returns-clause-size g c =
    let few : c.args.end - c.begin_at-begin.result ≤ c.args.end - c.args.first = omega (arith, c.begin_at-begin.ensures.begun) in
    text-size _ _ _ (told_is g (goal.at.returns-clause-size g c).After-put_rows)
    (omega (
      arith,
      c.put_rows.ensures.size,
      ap (λ (lines : RunLinesOf). (c.args.end - c.begin_at-begin.result) * statement_size (layout_of lines.plan) lines.table) c.requires.lines,
      mul-le-mul_right (statement_size (layout_of c.args.plan.now) c.args.table) few,
    ))
