use Rattle.std.proofs.Common.{◌≤◌, ◌*◌, ℕ, arith, subst, sym}
use Rattle.schema_facts.specs.Layout.{layout_of}
use Rattle.sql_lines.specs.Reach.{statement_reach}
use Rattle.sql_lines.proofs.ReachLemmas.{room-within}
use Rattle.sql_lines.proofs.packer.room_for.Goals as goal

pub returns-clause-within : goal.returns-clause-within
returns-clause-within c =
    subst (λ (size : ℕ). c.min.result * size ≤ c.args.size * statement_reach (layout_of c.args.plan.now)) (sym c.statement_size.ensures.size)
    (room-within c.args.plan.now c.args.table c.args.size c.min.result c.requires.table (omega (arith, c.min.ensures)))
