use Rattle.std.proofs.Common.{ℕ, List, ap₂, arith}
use Rattle.update_box.specs.TableLists.{no_lists}
use Rattle.update_box.proofs.CostLemmas.{changes-cost}
use Rattle.update_box.proofs.table_rows.TableRows.deleted_at.Goals as goal

pub returns-in_err-deleted-clause-steps : goal.returns-in_err-deleted-clause-steps
returns-in_err-deleted-clause-steps g c = omega (arith, c.deletions.ensures.steps, changes-cost c.args.rows.now c.args.table c.args.t)

pub returns : goal.returns
returns g c = record {
  rows = ap₂ (λ (xs ys : List ℕ). record no_lists { deleted = xs; updated = ys }) c.in_ok-deleted.ensures.rows c.new.ensures.items;
  steps = omega (arith, c.deletions.ensures.steps, changes-cost c.args.rows.now c.args.table c.args.t);
}
