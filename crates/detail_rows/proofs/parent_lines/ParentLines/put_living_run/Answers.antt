use Rattle.std.proofs.Common.{◌<◌, ◌≤◌, ℕ, All, List, ap, arith, length, length-take, take, subst, sym}
use Rattle.std.specs.List.{range_with_len}
use Rattle.std.proofs.Math.Nat.{mul-le-mul_right}
use Rattle.std.proofs.lemmas.List.Elements.{All-filter}
use Rattle.std.proofs.lemmas.List.FromFn.{get_or-range_with_len, length-range_with_len}
use Rattle.schema_facts.specs.Dictionaries.{Project}
use Rattle.life_intervals.specs.Generator.{generator_of}
use Rattle.life_intervals.specs.Intervals.{is_live}
use Rattle.detail_plan.specs.Kept.{Kept}
use Rattle.detail_lines.specs.declared.detail_lines.LineKind.TheVariants.{Whole}
use Rattle.detail_lines.specs.Lines.{parent_place}
use Rattle.detail_lines.specs.Rows.{born_by}
use Rattle.detail_rows.specs.Packages.{listed_text}
use Rattle.detail_rows.proofs.parent_lines.ParentLines.put_living_run.Goals as goal

pub put_run-requires-clause-rows : goal.put_run-requires-clause-rows
put_run-requires-clause-rows g c = λ i below.
    let plan : Project = c.args.self.now.plan in
    let kept : Kept = c.args.self.now.kept in
    let most : ℕ = born_by plan kept c.args.t in
    let in_range : All (λ (j : ℕ). j < most) (range_with_len c.args.first c.args.some) =
    λ k d inside.
    let near : k < c.args.some = omega (arith, inside, length-range_with_len c.args.first c.args.some) in
    omega (arith, get_or-range_with_len c.args.first c.args.some k d near, near, c.requires.rows) in
    let living = All-filter (is_live (generator_of plan) (parent_place plan kept.detail) c.args.t) (λ (j : ℕ). j < most) (range_with_len c.args.first c.args.some) in_range in
    subst (λ (xs : List ℕ). All (λ (j : ℕ). j < most) xs) (sym c.find_living-living.ensures.living) living i 0 below

pub returns-clause-size : goal.returns-clause-size
returns-clause-size g c =
    let plan : Project = c.args.self.now.plan in
    let kept : Kept = c.args.self.now.kept in
    let few : length (take c.find_living-living.result c.find_living-living.new.ordinals) ≤ c.args.some = omega (arith, length-take c.find_living-living.result c.find_living-living.new.ordinals, c.find_living-living.ensures.within) in
    omega (
      arith,
      c.put_run.ensures.size,
      mul-le-mul_right kept.reach few,
      ap (λ (xs : List ℕ). length (listed_text plan kept Whole c.args.t xs)) c.find_living-living.ensures.living,
    )
