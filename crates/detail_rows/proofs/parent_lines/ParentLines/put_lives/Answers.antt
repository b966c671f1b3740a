use Rattle.std.proofs.Common.{ℕ, ap, map, ◌∙◌}
use Rattle.schema_facts.specs.Dictionaries.{Project}
use Rattle.life_intervals.specs.Generator.{generator_of}
use Rattle.life_intervals.specs.Intervals.{is_live}
use Rattle.detail_rows.proofs.parent_lines.ParentLines.put_lives.Goals as goal

pub returns : goal.returns
returns g c =
    c.put_run_lives.ensures.live
    ∙ ap (λ (plan : Project). map (is_live (generator_of plan) c.table-table.result c.args.t) c.args.ordinals.now) c.rows.ensures
    ∙ ap (λ (place : ℕ). map (is_live (generator_of c.args.self.now.plan) place c.args.t) c.args.ordinals.now) c.table-table.ensures.place
