use Rattle.std.proofs.Common.{◌≡◌, ◌+◌, ◌++◌, List, [], ℕ, length, codes, decimal, ap, ap₂, arith, refl, sym, ◌∙◌}
use Rattle.life_intervals.specs.Generator.{generator_of, last_unit}
use Rattle.life_intervals.specs.Simulation.{rows_at}
use Rattle.life_intervals.proofs.Ranges.{flat_map-range_with_len_more}
use Rattle.schema_facts.specs.Dictionaries.{Project}
use Rattle.fill_jobs.specs.modes.Play.{play_line, play_lines}
use Rattle.fill_jobs.proofs.modes.play.summary_of.Goals as goal

-- what is told of tables: nothing, and one more line
play_lines-zero : (plan : Project) (unit : ℕ) → play_lines plan unit 0 ≡ []
unfolding play_lines
play_lines-zero plan unit = refl

play_lines-add_one : (plan : Project) (unit count : ℕ) → play_lines plan unit (count + 1) ≡ play_lines plan unit count ++ play_line plan unit count
unfolding play_lines
play_lines-add_one plan unit count = flat_map-range_with_len_more (play_line plan unit) count

pub loop-table-init : goal.loop-table-init
loop-table-init g c = c.new-text.ensures.items ∙ sym (play_lines-zero c.args.plan.now c.args.unit)

pub count_living-count-requires-clause-table : goal.count_living-count-requires-clause-table
count_living-count-requires-clause-table g c =
    omega (arith, c.loop-table-test.true, c.tables-table-end.ensures, ap (λ (p : Project). length p.schema.tables) c.with-rows.ensures)

pub count_living-count-requires-clause-unit : goal.count_living-count-requires-clause-unit
count_living-count-requires-clause-unit g c = omega (arith, c.requires.unit, ap last_unit c.with-rows.ensures)

pub loop-table-preserved : goal.loop-table-preserved
loop-table-preserved g c =
    let plan : Project = c.args.plan.now in
    let unit : ℕ = c.args.unit in
    let table : ℕ = c.loop-table.table in
    let line : c.name_of.result.now ++ codes "\t" ++ decimal c.count_living-count.result ++ codes "\n" ≡ play_line plan unit table =
    ap₂ (λ (name : List ℕ) (count : ℕ). name ++ codes "\t" ++ decimal count ++ codes "\n") c.name_of.ensures
    (c.count_living-count.ensures.count ∙ ap (λ (p : Project). length (rows_at (generator_of p) table unit)) c.with-rows.ensures) in
    c.in_ok-push_line.ensures
    ∙ ap₂ (λ (text last : List ℕ). text ++ last) c.loop-table.invariant line
    ∙ sym (play_lines-add_one plan unit table)
