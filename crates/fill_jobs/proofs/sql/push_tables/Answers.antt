use Rattle.std.proofs.Common.{append-nil, sym}
use Rattle.fill_jobs.proofs.SqlLemmas.{parts_behind}
use Rattle.fill_jobs.proofs.sql.push_tables.Goals as goal

pub loop-number-init : goal.loop-number-init
loop-number-init c = sym (append-nil c.args.parts.now.items)

pub loop-number-preserved : goal.loop-number-preserved
loop-number-preserved c =
    parts_behind c.args.contents.now c.args.places.from c.loop-number.number c.args.parts.now.items c.loop-number.parts.items _ c.loop-number.invariant c.in_ok-push_table.ensures
