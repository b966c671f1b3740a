use Rattle.std.proofs.Common.{◌≡◌, ◌+◌, ◌≤◌, ℕ, List, filter, length, ap, arith, sym, ◌∙◌}
use Rattle.std.specs.List.{range_with_len}
use Rattle.std.proofs.lemmas.List.FromFn.{length-range_with_len}
use Rattle.cohort_sizes.specs.Births.{Births, first_ordinal}
use Rattle.cohort_sizes.proofs.CohortLemmas.{cohort-within}
use Rattle.schema_facts.specs.Dictionaries.{Project}
use Rattle.life_intervals.specs.Generator.{generator_of, last_unit, table_of}
use Rattle.life_intervals.specs.Intervals.{changing, dying}
use Rattle.life_intervals.proofs.CohortParentLemmas.{row_limit}
use Rattle.undo_streams.proofs.UndoLineLemmas.{changing-few, deleted-ordinals, dying-few, lines-count, updated-ordinals}
use Rattle.undo_streams.proofs.undo_packer.line_count.Goals as goal

pub returns-clause-count : goal.returns-clause-count
returns-clause-count c =
    let plan : Project = c.args.plan.now in
    omega (
      arith,
      lines-count plan c.schema-sound.ensures.limits c.args.table c.requires.table c.args.unit c.requires.later c.requires.unit,
      ap (λ (xs : List ℕ). length xs) (c.requires.changes.deleted ∙ deleted-ordinals plan c.schema-sound.ensures.limits c.args.table c.requires.table c.args.unit c.requires.later c.requires.unit),
      ap (λ (xs : List ℕ). length xs) (c.requires.changes.updated ∙ updated-ordinals plan c.schema-sound.ensures.limits c.args.table c.requires.table c.args.unit c.requires.later c.requires.unit),
      c.requires.changes.inserted.size,
    )

pub returns-clause-few : goal.returns-clause-few
returns-clause-few c =
    let plan : Project = c.args.plan.now in
    let births : Births = (table_of plan c.args.table).births in
    omega (
      arith,
      ap (λ (xs : List ℕ). length xs) (c.requires.changes.deleted ∙ deleted-ordinals plan c.schema-sound.ensures.limits c.args.table c.requires.table c.args.unit c.requires.later c.requires.unit),
      ap (λ (xs : List ℕ). length xs) (c.requires.changes.updated ∙ updated-ordinals plan c.schema-sound.ensures.limits c.args.table c.requires.table c.args.unit c.requires.later c.requires.unit),
      c.requires.changes.inserted.size,
      changing-few plan c.args.table c.args.unit,
      dying-few plan c.args.table c.args.unit,
      cohort-within births c.args.unit (last_unit plan) c.requires.unit,
      row_limit plan c.schema-sound.ensures.limits c.args.table c.requires.table,
    )
