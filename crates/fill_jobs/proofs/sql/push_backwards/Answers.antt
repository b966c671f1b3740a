use Rattle.std.proofs.Common.{◌-◌, ◌+◌, arith}
use Rattle.fill_jobs.proofs.SqlLemmas.{parts_before, parts_done, parts_left}
use Rattle.fill_jobs.proofs.sql.push_backwards.Goals as goal

pub loop-behind-init : goal.loop-behind-init
loop-behind-init c = parts_left c.args.contents.now c.args.places.from c.args.places.count (c.args.places.count - 0) c.args.parts.now.items (omega arith)

pub loop-behind-preserved : goal.loop-behind-preserved
loop-behind-preserved c =
    parts_before c.args.contents.now c.args.places.from (c.args.places.count - c.loop-behind.behind) (c.args.places.count - (c.loop-behind.behind + 1)) _ c.loop-behind.parts.items _ _
    (omega (arith, c.loop-behind-test.true)) (omega (arith, c.loop-behind-test.true)) c.loop-behind.invariant c.in_ok-push_table.ensures

pub returns : goal.returns
returns c =
    parts_done c.args.contents.now c.args.places.from (c.args.places.count - c.loop-behind.behind) c.loop-behind.parts.items _ (omega (arith, c.loop-behind-test.false)) c.loop-behind.invariant
