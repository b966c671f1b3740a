use Rattle.std.proofs.Common.{◌≡◌, ℕ, ℤ, pos, ◌≤◌, All, List, map, ap, arith, subst, sym, w64, ◌∙◌}
use Rattle.std.proofs.lemmas.Int.{ints, to_z-of_z}
use mir.Val.{SFits, of_z, to_z}
use Rattle.schema_model.specs.declared.table.Table.{Table}
use Rattle.schema_facts.specs.Dictionaries.{project_of}
use Rattle.schema_facts.specs.FieldSizes.{greatest_by}
use Rattle.schema_facts.specs.Counts.{count}
use Rattle.schema_facts.specs.Layout.{births_of}
use Rattle.schema_plan.specs.Limits.{AreBirthsInLimits}
use Rattle.schema_plan.specs.Planned.{births_through}
use Rattle.schema_plan.proofs.PlannedLemmas.{births_in_limits, facts_whole, reach-is}
use Rattle.schema_plan.proofs.plan.Plan.of_accepted.Goals as goal

-- the last unit, as the code reads it
units_read : (units : ℤ) → units ≡ pos (count units) → count units ≤ 10000 → to_z w64 (of_z w64 units) ≡ units
units_read units is within = to_z-of_z w64 units (subst (SFits w64) (sym is) (fits (count units) within))
  where
    fits : (n : ℕ) → n ≤ 10000 → SFits w64 (pos n)
    fits n h = omega (arith, ints)

pub invariant_of-result : goal.invariant_of-result
invariant_of-result c =
    let project = project_of c.args.schema c.args.dictionaries in
    let limits = c.requires.limits in
    let known = c.requires.facts ∙ facts_whole project limits in
    record {
      accepted = c.requires.accepted;
      limits = limits;
      facts = c.in_ok-facts.ensures.items ∙ known;
      columns = c.in_ok-ready.ensures;
      cohorts_are = c.in_ok-cohorts.ensures ∙ ap (λ (last : ℕ). map (births_through last) c.as_slice.result.now) (c.count.ensures ∙ ap count (units_read c.args.schema.units limits.units limits.unit_limit)) ∙ ap (map (births_through (count c.args.schema.units))) c.as_slice.ensures;
      reach = c.greatest_line-reach.ensures ∙ ap (greatest_by (λ fact. fact.max_line)) known ∙ reach-is project;
    }

pub cohorts_of_tables-requires : goal.cohorts_of_tables-requires
cohorts_of_tables-requires c =
    let project = project_of c.args.schema c.args.dictionaries in
    let limits = c.requires.limits in
    let last : c.count.result ≡ count c.args.schema.units = c.count.ensures ∙ ap count (units_read c.args.schema.units limits.units limits.unit_limit) in
    record {
      last = omega (arith, last, limits.unit_limit);
      births =
          subst (λ (tables : List Table). All (λ (table : Table). AreBirthsInLimits c.count.result (births_of table)) tables) (sym c.as_slice.ensures)
          (subst (λ (n : ℕ). All (λ (table : Table). AreBirthsInLimits n (births_of table)) c.args.schema.tables) (sym last) (births_in_limits project limits));
    }
