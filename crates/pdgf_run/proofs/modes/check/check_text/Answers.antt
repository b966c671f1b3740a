use Rattle.std.proofs.Common.{◌≡◌, ◌+◌, ◌++◌, List, [], ℕ, ap, refl, sym, ◌∙◌}
use Rattle.life_intervals.proofs.Ranges.{flat_map-range_with_len_more}
use Rattle.schema_facts.specs.Dictionaries.{Project}
use Rattle.pdgf_run.specs.modes.Check.{check_line, check_lines}
use Rattle.pdgf_run.proofs.modes.check.check_text.Goals as goal

-- what is told of tables: nothing, and one more line
check_lines-zero : (plan : Project) → check_lines plan 0 ≡ []
unfolding check_lines
check_lines-zero plan = refl

check_lines-add_one : (plan : Project) (count : ℕ) → check_lines plan (count + 1) ≡ check_lines plan count ++ check_line plan count
unfolding check_lines
check_lines-add_one plan count = flat_map-range_with_len_more (check_line plan) count

pub loop-table-init : goal.loop-table-init
loop-table-init c = c.new-text.ensures.items ∙ sym (check_lines-zero c.args.plan.now)

pub loop-table-preserved : goal.loop-table-preserved
loop-table-preserved c =
    c.in_ok-push_line.ensures
    ∙ ap (λ (text : List ℕ). text ++ check_line c.args.plan.now c.loop-table.table) c.loop-table.invariant
    ∙ sym (check_lines-add_one c.args.plan.now c.loop-table.table)
