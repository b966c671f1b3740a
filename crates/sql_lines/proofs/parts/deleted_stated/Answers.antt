use Rattle.std.proofs.Common.{◌<◌, ◌-◌, ℕ, ap, arith, drop, length}
use Rattle.std.proofs.lemmas.List.Elements.{All-drop, All-take}
use Rattle.life_intervals.specs.Generator.{rows_in_all}
use Rattle.update_box.specs.declared.parts.Content.TheVariants as content
use Rattle.update_box.proofs.EntryLemmas.{content_count-few}
use Rattle.update_box.proofs.StreamTextLemmas.{keys-born}
use Rattle.sql_lines.proofs.PackageLemmas.{part-few}
use Rattle.sql_lines.proofs.ShareLemmas.{count-deleted}
use Rattle.sql_lines.proofs.parts.deleted_stated.Goals as goal

pub share_of-share-requires-clause-count : goal.share_of-share-requires-clause-count
share_of-share-requires-clause-count c =
    omega (
      arith,
      ap length c.requires.list,
      count-deleted c.args.plan.now c.args.job.now.unit c.args.table,
      content_count-few c.args.plan.now c.schema-sound.ensures.limits c.args.table c.requires.table c.args.job.now.unit c.requires.job.unit content.Deleted,
      c.table-limits.ensures.limits.births.row_limit,
    )

pub returns-clause-are : goal.returns-clause-are
returns-clause-are c =
    let is_born : ℕ → Type 0 = λ j. j < rows_in_all c.args.plan.now c.args.table in
    let first : ℕ = c.share_of-share.result.first in
    let all = keys-born c.args.plan.now c.schema-sound.ensures.limits c.args.table c.requires.table c.args.job.now.unit c.requires.job.unit c.args.ordinals.now c.requires.list in
    All-take is_born (c.share_of-share.result.end - first) (drop first c.args.ordinals.now) (All-drop is_born first c.args.ordinals.now all)

pub returns-clause-few : goal.returns-clause-few
returns-clause-few c =
    omega (
      arith,
      part-few c.args.ordinals.now c.share_of-share.result.first c.share_of-share.result.end,
      ap length c.requires.list,
      count-deleted c.args.plan.now c.args.job.now.unit c.args.table,
      content_count-few c.args.plan.now c.schema-sound.ensures.limits c.args.table c.requires.table c.args.job.now.unit c.requires.job.unit content.Deleted,
      c.table-limits.ensures.limits.births.row_limit,
    )
