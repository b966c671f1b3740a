use Rattle.std.proofs.Common.{ℕ, ap, arith, subst, sym, ◌∙◌}
use Rattle.philox_seeds.specs.SeedTree.{row_seed, unit_seed}
use Rattle.draw_values.specs.declared.values.RowAt.{RowAt}
use Rattle.draw_values.specs.Runs.{AreOfLength}
use Rattle.detail_lines.specs.declared.parent_row.ParentRow.{ParentRow}
use Rattle.detail_lines.specs.Made.{row_of}
use Rattle.detail_lines.proofs.detail_lines.DetailLines.put_count_seeds.Goals as goal

pub put_run_seeds-requires : goal.put_run_seeds-requires
put_run_seeds-requires c = subst (λ (many : ℕ). AreOfLength many c.drawn_rows.result) (sym c.requires.same) c.drawn_rows.ensures.lengths

pub returns : goal.returns
returns c = λ i inside.
    let row : ParentRow = row_of c.args.rows.now i in
    c.put_run_seeds.ensures i (omega (arith, inside, c.requires.same))
    ∙ ap (λ (at : RowAt). row_seed (unit_seed c.counts.result.now at.born) at.ordinal) (c.drawn_rows.ensures.rows i inside)
    ∙ ap (λ (seed : ℕ). row_seed (unit_seed seed row.born) row.ordinal) c.counts.ensures
