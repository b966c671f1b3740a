use Rattle.std.proofs.Common.{◌≡◌, ◌+◌, ◌≤◌, ℕ, Bool, List, Vec, Global, None, is_none, length, ap, arith, subst, sym, ◌∙◌}
use Rattle.std.proofs.Math.Nat.{mul-le-mul_left}
use Rattle.schema_model.specs.declared.column.OnDelete.TheVariants.{Null}
use Rattle.schema_facts.specs.Dictionaries.{Project}
use Rattle.schema_facts.specs.Layout.{layout_of}
use Rattle.schema_plan.specs.Limits.{IsInLimits}
use Rattle.schema_facts.specs.Lineage.{death_cost, sure_life}
use Rattle.schema_facts.specs.References.{Reference}
use Rattle.life_intervals.specs.Generator.{table_of}
use Rattle.life_intervals.proofs.FoundLemmas.{none-from}
use Rattle.update_box.specs.Candidates.{due, is_due_at, losing_by, references_on}
use Rattle.update_box.proofs.CandidateLemmas.{AreLookedAt, kept-below, looked-fewer, looked-found}
use Rattle.update_box.proofs.UpdateLemmas.{changing-all, changing-filter}
use Rattle.update_box.proofs.updates.updates.Goals as goal
use Rattle.update_box.proofs.updates.updates.Goals.{then-not-is_endless, else-not-is_endless}

pub keep-requires-clause-born : goal.keep-requires-clause-born
keep-requires-clause-born g c =
    let plan : Project = c.args.rows.now in
    let is_due : ℕ → Bool = is_due_at plan c.args.table c.args.t in
    let nullings : List Reference = references_on Null (table_of plan c.args.table) in
    kept-below plan c.args.table c.args.t is_due nullings c.push_losing_by.new.list.items c.put_in_order.new.list.items
    (looked-found plan c.args.table c.args.t is_due nullings c.new-list.result.items c.push_all_due.new.list.items c.push_losing_by.new.list.items c.put_in_order.new.list.items
    c.new-list.ensures.items c.in_ok-push_all_due.ensures.rows c.in_ok-push_losing_by.ensures.rows c.put_in_order.ensures.same)

pub returns : goal.returns
returns g c =
    let plan : Project = c.args.rows.now in
    let table : ℕ = c.args.table in
    let is_due : ℕ → Bool = is_due_at plan table c.args.t in
    let nullings : List Reference = references_on Null (table_of plan table) in
    let list : List ℕ = c.push_losing_by.new.list.items in
    let kept : List ℕ = c.put_in_order.new.list.items in
    let cost : ℕ = death_cost (layout_of plan).tables table in
    let limits : IsInLimits plan = subst IsInLimits c.plan.ensures c.schema-sound.ensures.limits in
    let are : AreLookedAt plan table c.args.t is_due nullings list kept =
    looked-found plan table c.args.t is_due nullings c.new-list.result.items c.push_all_due.new.list.items list kept
    c.new-list.ensures.items c.in_ok-push_all_due.ensures.rows c.in_ok-push_losing_by.ensures.rows c.put_in_order.ensures.same in
    let fewer : length kept ≤ length (due plan table c.args.t) + length (losing_by plan table c.args.t nullings) = looked-fewer plan table c.args.t is_due nullings list kept are c.put_in_order.ensures.bound in
    elim c.if-not-is_endless.branch [
      | then-not-is_endless w ↦ record {
        rows = ap (λ (v : Vec ℕ Global). v.items) w.list-is
            ∙ w.keep.ensures.kept
            ∙ changing-filter plan limits table c.args.t c.requires.table c.requires.some c.requires.unit list kept are c.put_in_order.ensures.rising;
        steps = omega (
          arith,
          w.steps-is,
          w.keep.ensures.steps,
          c.push_all_due.ensures.steps,
          c.push_losing_by.ensures.steps,
          mul-le-mul_left cost fewer,
        );
      }
      | else-not-is_endless w ↦
          let endless : sure_life (layout_of plan).tables table ≡ None =
          none-from (sure_life (layout_of plan).tables table)
          (ap (λ (p : Project). is_none (sure_life (layout_of p).tables table)) (sym c.plan-2.ensures) ∙ sym c.is_endless.ensures ∙ w.if-not-is_endless.false) in
          record {
            rows = ap (λ (v : Vec ℕ Global). v.items) w.list-is
                ∙ changing-all plan limits table c.args.t c.requires.table c.requires.some c.requires.unit endless list kept are c.put_in_order.ensures.rising;
            steps = omega (arith, w.steps-is, c.push_all_due.ensures.steps, c.push_losing_by.ensures.steps);
          }
    ]
