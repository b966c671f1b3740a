use Rattle.std.proofs.Common.{◌≡◌, ◌<◌, ◌≤◌, ◌+◌, ◌*◌, ℕ, length, get_or, ap, arith, subst, sym, ◌∙◌}
use Rattle.std.proofs.Math.Nat.{mul-le-mul_left}
use Rattle.schema_facts.specs.Lineage.{one_if}
use Rattle.life_intervals.specs.CohortParents.{asked_for_change}
use Rattle.life_intervals.specs.Generator.{generator_of, last_unit, table_of}
use Rattle.life_intervals.specs.Intervals.{change_unit}
use Rattle.life_intervals.specs.Keys.{key_of}
use Rattle.life_intervals.specs.Runs.{IsRun}
use Rattle.row_lines.specs.Runs.{RunLinesOf, layout_for}
use Rattle.row_lines.proofs.RunFieldLemmas.{line-steps, run-later}
use Rattle.row_lines.proofs.RunPieceLemmas.{AreRunLines-view}
use Rattle.row_lines.proofs.runs.RunLines.put_living.Goals as goal

pub put_changes-requires-clause-run : goal.put_changes-requires-clause-run
put_changes-requires-clause-run g c =
    subst (λ (of : RunLinesOf). IsRun of.plan of.table of.unit c.args.ordinals.now c.args.births.now) (sym c.self.view_is) c.requires.living.run

pub put_keys-requires-clause-run : goal.put_keys-requires-clause-run
put_keys-requires-clause-run g c =
    let lines : RunLinesOf = c.args.self.now in
    let known = AreRunLines-view _ lines c.self.inside.lines.now c.self.view_is c.self.invariant in
    subst (λ (of : RunLinesOf). IsRun of.plan of.table (last_unit of.plan) c.args.ordinals.now c.args.births.now) (sym c.self.view_is)
    (run-later lines.plan lines.table lines.unit (last_unit lines.plan) c.args.ordinals.now c.args.births.now known.unit c.requires.living.run)

pub put_columns-requires-clause-rows : goal.put_columns-requires-clause-rows
put_columns-requires-clause-rows g c = record {
  few = omega (arith, c.requires.few);
  living = c.requires.living;
  changes = record {
    same_length = c.put_changes.ensures.same_length;
    each = subst (λ (of : RunLinesOf). (i : ℕ) → i < length c.args.ordinals.now → get_or c.put_changes.new.changes i 0 ≡ change_unit (generator_of of.plan) of.table of.unit (get_or c.args.ordinals.now i 0))
        c.self.view_is c.put_changes.ensures.changes;
  };
}

pub put_columns-requires-clause-keys : goal.put_columns-requires-clause-keys
put_columns-requires-clause-keys g c = record {
  same_length = c.put_keys.ensures.same_length;
  each = subst (λ (of : RunLinesOf). (i : ℕ) → i < length c.args.ordinals.now → get_or c.put_keys.new.keys i 0 ≡ key_of (generator_of of.plan) of.table (last_unit of.plan) (get_or c.args.ordinals.now i 0))
      c.self.view_is c.put_keys.ensures.keys;
}

pub put_lines-requires-clause-rows : goal.put_lines-requires-clause-rows
put_lines-requires-clause-rows g c = record {
  few = omega (arith, c.requires.few);
  living = c.requires.living;
  changes = record {
    same_length = c.put_changes.ensures.same_length;
    each = subst (λ (of : RunLinesOf). (i : ℕ) → i < length c.args.ordinals.now → get_or c.put_changes.new.changes i 0 ≡ change_unit (generator_of of.plan) of.table of.unit (get_or c.args.ordinals.now i 0))
        c.self.view_is c.put_changes.ensures.changes;
  };
}

pub put_lines-requires-clause-keys : goal.put_lines-requires-clause-keys
put_lines-requires-clause-keys g c = record {
  same_length = c.put_keys.ensures.same_length;
  each = subst (λ (of : RunLinesOf). (i : ℕ) → i < length c.args.ordinals.now → get_or c.put_keys.new.keys i 0 ≡ key_of (generator_of of.plan) of.table (last_unit of.plan) (get_or c.args.ordinals.now i 0))
      c.self.view_is c.put_keys.ensures.keys;
}

pub returns-clause-steps : goal.returns-clause-steps
returns-clause-steps g c =
    let lines : RunLinesOf = c.args.self.now in
    let known = AreRunLines-view _ lines c.self.inside.lines.now c.self.view_is c.self.invariant in
    let count : ℕ = length c.args.ordinals.now in
    let columns : ℕ = length (layout_for lines).columns in
    let changes : c.put_changes.new.steps ≤ c.args.steps.now + count * asked_for_change lines.plan lines.table =
    subst (λ (of : RunLinesOf). c.put_changes.new.steps ≤ c.args.steps.now + count * asked_for_change of.plan of.table) c.self.view_is c.put_changes.ensures.steps in
    let keys : c.put_keys.new.steps ≡ c.put_changes.new.steps + count * one_if (layout_for lines).key.scramble =
    c.put_keys.ensures.steps ∙ ap (λ (of : RunLinesOf). c.put_changes.new.steps + count * one_if (table_of of.plan of.table).key.scramble) c.self.view_is in
    omega (
      arith,
      changes,
      keys,
      c.put_columns.ensures.steps,
      c.put_lines.ensures.steps,
      mul-le-mul_left count (line-steps lines known.sound known.table known.limits),
    )
