use Rattle.std.proofs.Common.{◌≤◌, ◌+◌, ◌*◌, ◌^◌, ℕ, List, get_or, length, map, ap, arith, subst, sym, ◌∙◌}
use Rattle.std.specs.List.{range_with_len, sum_by}
use Rattle.std.proofs.lemmas.List.FromFn.{get_or-range_with_len, length-range_with_len}
use Rattle.schema_facts.specs.Dictionaries.{Project}
use Rattle.schema_plan.specs.Limits.{IsInLimits}
use Rattle.undo_streams.specs.Packages.{Packages, count_of}
use Rattle.undo_streams.proofs.PackageLemmas.{packages-few}
use Rattle.run_jobs.specs.modes.Undo.{undo_packages}
use Rattle.table_jobs.proofs.UndoLemmas.{count-undo}
use Rattle.run_jobs.proofs.MoreLemmas.{one_more}
use Rattle.table_jobs.proofs.modes.undo.undo_packers.Goals as goal

pub undo_packer-requires-clause-number : goal.undo_packer-requires-clause-number
undo_packer-requires-clause-number c =
    omega (
      arith,
      ap (λ (xs : List ℕ). length xs) c.places_of-from.ensures.places,
      length-range_with_len c.places_of-from.result.from c.places_of-from.result.count,
      c.loop-number-test.true,
    )

pub undo_packer-requires-clause-table : goal.undo_packer-requires-clause-table
undo_packer-requires-clause-table c =
    ap (λ (xs : List ℕ). get_or xs c.loop-number.number 0) (sym c.places_of-from.ensures.places)
    ∙ get_or-range_with_len c.places_of-from.result.from c.places_of-from.result.count c.loop-number.number 0 c.loop-number-test.true

pub push-requires : goal.push-requires
push-requires c =
    let of = c.args.job.now.of.of in
    let plan : Project = of.plan in
    let limits : IsInLimits plan = subst IsInLimits (c.plan.ensures ∙ c.requires.rows) c.schema-sound.ensures.limits in
    let from : ℕ = c.places_of-from.result.from in
    let number : ℕ = c.loop-number.number in
    let packages : Packages = undo_packages plan of.asked (from + number) in
    let before : sum_by count_of (map (undo_packages plan of.asked) (range_with_len from number)) ≤ number * 2 ^ 42 =
    count-undo plan limits of.asked c.requires.can.of.later c.requires.can.of.of.asked.unit c.requires.can.of.of.asked.some_entry from number (omega (arith, c.places_of-from.ensures.within, c.loop-number-test.true)) in
    let one : count_of packages ≤ 2 ^ 42 =
    packages-few packages limits (omega (arith, c.places_of-from.ensures.within, c.loop-number-test.true)) c.requires.can.of.later c.requires.can.of.of.asked.unit c.requires.can.of.of.asked.some_entry in
    omega (
      arith,
      ap (sum_by count_of) c.loop-number.invariant,
      before,
      ap count_of c.in_ok-packer.ensures,
      one,
      c.loop-number-test.true,
      c.places_of-from.ensures.few,
    )

pub loop-number-preserved : goal.loop-number-preserved
loop-number-preserved c =
    let of = c.args.job.now.of.of in
    one_more (undo_packages of.plan of.asked) c.places_of-from.result.from c.loop-number.number c.loop-number.joined.parts.items c.push.new.self.parts.items c.in_ok-packer.packer
    c.loop-number.invariant c.in_ok-packer.ensures c.in-Ok.ensures.ok
