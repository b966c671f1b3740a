use Rattle.std.proofs.Common.{◌≡◌, ◌+◌, ◌≤◌, ℕ, Bool, List, length, Global, Vec, arith, ap, subst, sym, ◌∙◌}
use Rattle.std.specs.Prelude.{nat_lt}
use Rattle.std.proofs.lemmas.Bool.{ltb-false}
use Rattle.std.proofs.Math.Nat.{mul-le-mul_left}
use Rattle.schema_facts.specs.Dictionaries.{Project}
use Rattle.schema_facts.specs.Layout.{layout_of}
use Rattle.schema_plan.specs.Limits.{IsInLimits}
use Rattle.schema_facts.specs.Lineage.{death_cost}
use Rattle.schema_facts.specs.References.{Reference, cascades_of}
use Rattle.life_intervals.specs.Generator.{table_of}
use Rattle.update_box.specs.Candidates.{ending, endings, ends_at, losing_by}
use Rattle.update_box.proofs.CandidateLemmas.{AreLookedAt, kept-below, looked-fewer, looked-found}
use Rattle.update_box.proofs.DeletionLemmas.{dying-all, dying-filter}
use Rattle.update_box.proofs.deletions.deletions.Goals as goal
use Rattle.update_box.proofs.deletions.deletions.Goals.{then-has_many_endings, else-has_many_endings}

pub keep-requires-clause-born : goal.keep-requires-clause-born
keep-requires-clause-born g c =
    let plan : Project = c.args.rows.now in
    let ends : ℕ → Bool = ends_at plan c.args.table c.args.t in
    let cascades : List Reference = cascades_of (table_of plan c.args.table) in
    kept-below plan c.args.table c.args.t ends cascades c.push_losing_by.new.list.items c.put_in_order.new.list.items
    (looked-found plan c.args.table c.args.t ends cascades c.new-list.result.items c.push_all_ending.new.list.items c.push_losing_by.new.list.items c.put_in_order.new.list.items
    c.new-list.ensures.items c.in_ok-push_all_ending.ensures.rows c.in_ok-push_losing_by.ensures.rows c.put_in_order.ensures.same)

pub returns : goal.returns
returns g c =
    let plan : Project = c.args.rows.now in
    let table : ℕ = c.args.table in
    let ends : ℕ → Bool = ends_at plan table c.args.t in
    let cascades : List Reference = cascades_of (table_of plan table) in
    let list : List ℕ = c.push_losing_by.new.list.items in
    let kept : List ℕ = c.put_in_order.new.list.items in
    let cost : ℕ = death_cost (layout_of plan).tables table in
    let limits : IsInLimits plan = subst IsInLimits c.plan.ensures c.schema-sound.ensures.limits in
    let are : AreLookedAt plan table c.args.t ends cascades list kept =
    looked-found plan table c.args.t ends cascades c.new-list.result.items c.push_all_ending.new.list.items list kept
    c.new-list.ensures.items c.in_ok-push_all_ending.ensures.rows c.in_ok-push_losing_by.ensures.rows c.put_in_order.ensures.same in
    let many : c.has_many_endings.result ≡ nat_lt 1 (endings (table_of plan table)) = c.has_many_endings.ensures ∙ ap (λ (p : Project). nat_lt 1 (endings (table_of p table))) c.plan-2.ensures in
    let fewer : length kept ≤ length (ending plan table c.args.t) + length (losing_by plan table c.args.t cascades) = looked-fewer plan table c.args.t ends cascades list kept are c.put_in_order.ensures.bound in
    elim c.if-has_many_endings.branch [
      | then-has_many_endings w ↦ record {
        rows = ap (λ (v : Vec ℕ Global). v.items) w.list-is ∙ w.keep.ensures.kept ∙ dying-filter plan limits table c.args.t c.requires.table c.requires.unit list kept are c.put_in_order.ensures.rising;
        steps = omega (
          arith,
          w.steps-is,
          w.keep.ensures.steps,
          c.push_all_ending.ensures.steps,
          c.push_losing_by.ensures.steps,
          mul-le-mul_left cost fewer,
        );
      }
      | else-has_many_endings w ↦ record {
        rows = ap (λ (v : Vec ℕ Global). v.items) w.list-is
            ∙ dying-all plan limits table c.args.t c.requires.table c.requires.unit (ltb-false 1 (endings (table_of plan table)) (sym many ∙ w.if-has_many_endings.false)) list kept are c.put_in_order.ensures.rising;
        steps = omega (arith, w.steps-is, c.push_all_ending.ensures.steps, c.push_losing_by.ensures.steps);
      }
    ]
