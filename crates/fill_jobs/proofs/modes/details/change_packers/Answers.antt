use Rattle.std.proofs.Common.{ap, arith, length, refl, ℕ, ◌+◌, ◌∙◌, ◌≤◌}
use Rattle.std.specs.List.{sum_by}
use Rattle.detail_rows.specs.Packages.{count_of}
use Rattle.update_box.specs.TableLists.{table_lists_at}
use Rattle.fill_jobs.proofs.DetailFilesLemmas.{changes-told, deleted-few, deleted-told, parent-lists, size-few, updated-few, updated-told}
use Rattle.fill_jobs.proofs.modes.details.change_packers.Goals as goal

pub dels-deleted-requires : goal.dels-deleted-requires
dels-deleted-requires c =
    let job = c.args.job.now in
    omega (arith, (parent-lists job.plan job.kept c.requires.can.keeps job.unit c.args.changes.now c.requires.found).there, c.parent_of-parent.ensures.place)

pub push_lines-requires-clause-told : goal.push_lines-requires-clause-told
push_lines-requires-clause-told c =
    let job = c.args.job.now in
    deleted-told job.plan c.schema-limits.ensures.limits job.kept c.requires.can.keeps job.unit c.requires.can.unit c.args.changes.now c.requires.found c.dels-deleted.result.now
    (c.dels-deleted.ensures ∙ ap (λ (place : ℕ). (table_lists_at c.args.changes.now place).deleted) c.parent_of-parent.ensures.place)

pub push_lines-requires-2-clause-told : goal.push_lines-requires-2-clause-told
push_lines-requires-2-clause-told c =
    let job = c.args.job.now in (
      c.requires.can.unit,
      updated-told job.plan c.schema-limits.ensures.limits job.kept c.requires.can.keeps job.unit c.requires.can.unit c.args.changes.now c.requires.found c.upds-updated.result.now
          (c.upds-updated.ensures ∙ ap (λ (place : ℕ). (table_lists_at c.args.changes.now place).updated) c.parent_of-parent.ensures.place),
    )

pub push_lines-requires-2-clause-few : goal.push_lines-requires-2-clause-few
push_lines-requires-2-clause-few c =
    let job = c.args.job.now in
    let can = c.requires.can in
    let limits = c.schema-limits.ensures.limits in
    let deleted_few =
    deleted-few job.plan limits job.kept can.keeps job.unit can.unit c.args.changes.now c.requires.found c.dels-deleted.result.now
    (c.dels-deleted.ensures ∙ ap (λ (place : ℕ). (table_lists_at c.args.changes.now place).deleted) c.parent_of-parent.ensures.place) in
    let updated_few =
    updated-few job.plan limits job.kept can.keeps job.unit can.unit c.args.changes.now c.requires.found c.upds-updated.result.now
    (c.upds-updated.ensures ∙ ap (λ (place : ℕ). (table_lists_at c.args.changes.now place).updated) c.parent_of-parent.ensures.place) in
    let first : sum_by count_of c.push_lines.new.packers.parts.items ≤ sum_by count_of c.new-packers.result.parts.items + length c.dels-deleted.result.now =
    c.in_ok-push_lines.ensures.count in
    omega (arith, first, ap (sum_by count_of) c.new-packers.ensures, deleted_few, updated_few)

pub push_lines-requires-3-clause-few : goal.push_lines-requires-3-clause-few
push_lines-requires-3-clause-few c =
    let job = c.args.job.now in
    let can = c.requires.can in
    let limits = c.schema-limits.ensures.limits in
    let deleted_few =
    deleted-few job.plan limits job.kept can.keeps job.unit can.unit c.args.changes.now c.requires.found c.dels-deleted.result.now
    (c.dels-deleted.ensures ∙ ap (λ (place : ℕ). (table_lists_at c.args.changes.now place).deleted) c.parent_of-parent.ensures.place) in
    let updated_few =
    updated-few job.plan limits job.kept can.keeps job.unit can.unit c.args.changes.now c.requires.found c.upds-updated.result.now
    (c.upds-updated.ensures ∙ ap (λ (place : ℕ). (table_lists_at c.args.changes.now place).updated) c.parent_of-parent.ensures.place) in
    let first : sum_by count_of c.push_lines.new.packers.parts.items ≤ sum_by count_of c.new-packers.result.parts.items + length c.dels-deleted.result.now =
    c.in_ok-push_lines.ensures.count in
    let second : sum_by count_of c.push_lines-2.new.packers.parts.items ≤ sum_by count_of c.push_lines.new.packers.parts.items + length c.upds-updated.result.now =
    c.in_ok-push_lines-2.ensures.count in
    omega (arith, first, second, ap (sum_by count_of) c.new-packers.ensures, deleted_few, updated_few, size-few job.plan limits job.kept can.keeps job.unit can.unit)

pub returns : goal.returns
returns c =
    let job = c.args.job.now in
    let can = c.requires.can in
    changes-told job.plan c.schema-limits.ensures.limits job.kept can.keeps job.unit can.unit c.args.changes.now c.requires.found _ _ c.dels-deleted.result c.upds-updated.result _ _ _ _
    refl refl
    (c.dels-deleted.ensures ∙ ap (λ (place : ℕ). (table_lists_at c.args.changes.now place).deleted) c.parent_of-parent.ensures.place)
    (c.upds-updated.ensures ∙ ap (λ (place : ℕ). (table_lists_at c.args.changes.now place).updated) c.parent_of-parent.ensures.place)
    c.new-packers.ensures c.in_ok-push_lines.ensures.texts c.in_ok-push_lines-2.ensures.texts c.in_ok-push_lines-3.ensures.texts
