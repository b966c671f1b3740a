use Rattle.std.proofs.Common.{◌<◌, ℕ, List, Bool, ap, arith, filter, get_or, length, ◌∙◌}
use Rattle.std.specs.List.{range_with_len}
use Rattle.std.proofs.lemmas.List.FromFn.{get_or-range_with_len}
use Rattle.cohort_sizes.specs.Births.{born_count}
use Rattle.schema_facts.specs.Dictionaries.{Project}
use Rattle.life_intervals.specs.Generator.{generator_of, table_of}
use Rattle.life_intervals.specs.Intervals.{is_live}
use Rattle.row_lines.specs.Kept.{kept_by}
use Rattle.detail_lines.specs.Lines.{parent_place}
use Rattle.detail_rows.proofs.ParentLemmas.{kept-filter}
use Rattle.detail_rows.proofs.parent_lines.ParentLines.find_living.Goals as goal

pub put_range-requires : goal.put_range-requires
put_range-requires g c = omega (arith, c.requires.rows, c.requires.length, c.born-most.ensures.count, c.born-most.ensures.limit)

pub put_births-requires-clause-rows : goal.put_births-requires-clause-rows
put_births-requires-clause-rows g c = λ i below.
    let inside : i < length c.args.ordinals.now = omega (arith, below, c.put_range.auto.list) in
    omega (
      arith,
      ap (λ (xs : List ℕ). get_or xs i 0) c.put_range.ensures,
      get_or-range_with_len c.args.first (length c.args.ordinals.now) i 0 inside,
      c.requires.rows,
      c.requires.length,
      ap (λ (plan : Project). born_count (table_of plan c.table-table.result).births c.args.t) c.rows.ensures,
      ap (λ (place : ℕ). born_count (table_of c.args.self.now.plan place).births c.args.t) c.table-table.ensures.place,
    )

pub returns-clause-living : goal.returns-clause-living
returns-clause-living g c =
    let live : ℕ → Bool = is_live (generator_of c.args.self.now.plan) (parent_place c.args.self.now.plan c.args.self.now.kept.detail) c.args.t in
    c.keep.ensures.kept
    ∙ ap (λ (flags : List Bool). kept_by flags c.put_range.new.list) c.put_lives.ensures
    ∙ kept-filter live c.put_range.new.list
    ∙ ap (filter live) (c.put_range.ensures ∙ ap (range_with_len c.args.first) c.requires.length)
