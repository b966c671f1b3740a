use Rattle.std.proofs.Common.{◌≡◌, ap, arith, decimal, get_or, length, subst}
use Rattle.line_pages.specs.Pages.{Page}
use Rattle.schema_plan.specs.Limits.{IsInLimits}
use Rattle.schema_plan.specs.Rules.{IsAccepted}
use Rattle.life_intervals.specs.Generator.{generator_of, last_unit}
use Rattle.life_intervals.specs.Keys.{key_of}
use Rattle.sql_lines.specs.Frames.{FrameOf, end_with}
use Rattle.sql_lines.proofs.PutLemmas.{deletion-room, deletions-more, deletions-size}
use Rattle.sql_lines.proofs.packer.put_deletions.Goals as goal

pub put_deletion-requires : goal.put_deletion-requires
put_deletion-requires g c =
    let plan = c.args.rows.now in
    let i = c.loop-ordinal.ordinal-index in
    let key : c.key-key.result ≡ key_of (generator_of plan) c.args.table (last_unit plan) (get_or c.args.ordinals.now i 0) = c.key-key.ensures.key in
    omega (
      arith,
      ap (λ (page : Page). length page.text) c.loop-ordinal.invariant.page,
      ap (λ (page : Page). page.room) c.loop-ordinal.invariant.page,
      ap (λ (frame : FrameOf). length (end_with frame (decimal c.key-key.result))) c.requires.frame,
      deletion-room plan c.args.table (subst IsAccepted c.plan.ensures c.schema-limits.ensures.accepted) (subst IsInLimits c.plan.ensures c.schema-limits.ensures.limits) c.requires.table
          c.args.ordinals.now c.requires.rows i c.loop-ordinal-test.true c.loop-ordinal.invariant.size c.args.page.now.room c.key-key.result c.requires.room key,
    )

pub loop-ordinal-preserved : goal.loop-ordinal-preserved
loop-ordinal-preserved g c =
    let plan = c.args.rows.now in
    let i = c.loop-ordinal.ordinal-index in
    let key : c.key-key.result ≡ key_of (generator_of plan) c.args.table (last_unit plan) (get_or c.args.ordinals.now i 0) = c.key-key.ensures.key in
    let accepted = subst IsAccepted c.plan.ensures c.schema-limits.ensures.accepted in
    let limits = subst IsInLimits c.plan.ensures c.schema-limits.ensures.limits in
    record {
      page = deletions-more plan c.args.table accepted limits c.requires.table c.args.ordinals.now c.requires.rows i c.loop-ordinal-test.true c.loop-ordinal.invariant.size
          c.args.page.now c.loop-ordinal.page c.put_deletion.new.page c.args.frame.now c.key-key.result c.loop-ordinal.invariant.page c.put_deletion.ensures c.requires.frame key;
      size = deletions-size plan c.args.table accepted limits c.requires.table c.args.ordinals.now c.requires.rows i c.loop-ordinal-test.true c.loop-ordinal.invariant.size;
    }
