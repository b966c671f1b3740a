use Rattle.std.proofs.Common.{◌<◌, ◌-◌, ℕ, List, All, true, ◌≡◌, ap, arith, drop, length, subst, sym}
use Rattle.std.proofs.lemmas.List.Elements.{All-drop, All-take}
use Rattle.cohort_sizes.specs.Births.{born_count}
use Rattle.life_intervals.specs.Generator.{generator_of, table_of}
use Rattle.life_intervals.specs.Intervals.{is_live}
use Rattle.update_box.specs.declared.parts.Content.TheVariants as content
use Rattle.update_box.proofs.EntryLemmas.{content_count-few}
use Rattle.update_box.proofs.StreamTextLemmas.{updated-born, updated-live}
use Rattle.sql_lines.proofs.PackageLemmas.{part-few}
use Rattle.sql_lines.proofs.ShareLemmas.{count-updated}
use Rattle.sql_lines.proofs.parts.updated_stated.Goals as goal

pub share_of-share-requires-clause-count : goal.share_of-share-requires-clause-count
share_of-share-requires-clause-count c =
    omega (
      arith,
      ap length c.requires.list,
      count-updated c.args.plan.now c.args.job.now.unit c.args.table,
      content_count-few c.args.plan.now c.schema-sound.ensures.limits c.args.table c.requires.table c.args.job.now.unit c.requires.job.unit content.Updated,
      c.table-limits.ensures.limits.births.row_limit,
    )

pub returns-clause-are : goal.returns-clause-are
returns-clause-are c =
    let plan = c.args.plan.now in
    let unit : ℕ = c.args.job.now.unit in
    let first : ℕ = c.share_of-share.result.first in
    let size : ℕ = c.share_of-share.result.end - first in
    let is_born : ℕ → Type 0 = λ j. j < born_count (table_of plan c.args.table).births unit in
    let lives : ℕ → Type 0 = λ j. is_live (generator_of plan) c.args.table unit j ≡ true in
    let born : All (λ j. j < born_count (table_of plan c.args.table).births unit) c.args.ordinals.now =
    subst (λ (js : List ℕ). All (λ j. j < born_count (table_of plan c.args.table).births unit) js) (sym c.requires.list)
    (updated-born plan c.schema-sound.ensures.limits c.args.table c.requires.table unit c.requires.job.unit) in
    let live : All (λ j. is_live (generator_of plan) c.args.table unit j ≡ true) c.args.ordinals.now =
    subst (λ (js : List ℕ). All (λ j. is_live (generator_of plan) c.args.table unit j ≡ true) js) (sym c.requires.list)
    (updated-live plan c.schema-sound.ensures.limits c.args.table c.requires.table unit c.requires.job.unit) in
    record {
      reached = c.requires.job.unit;
      born = All-take is_born size (drop first c.args.ordinals.now) (All-drop is_born first c.args.ordinals.now born);
      alive = All-take lives size (drop first c.args.ordinals.now) (All-drop lives first c.args.ordinals.now live);
    }

pub returns-clause-few : goal.returns-clause-few
returns-clause-few c =
    omega (
      arith,
      part-few c.args.ordinals.now c.share_of-share.result.first c.share_of-share.result.end,
      ap length c.requires.list,
      count-updated c.args.plan.now c.args.job.now.unit c.args.table,
      content_count-few c.args.plan.now c.schema-sound.ensures.limits c.args.table c.requires.table c.args.job.now.unit c.requires.job.unit content.Updated,
      c.table-limits.ensures.limits.births.row_limit,
    )
