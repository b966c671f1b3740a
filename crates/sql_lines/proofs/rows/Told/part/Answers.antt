use Rattle.std.proofs.Common.{◌≡◌, ◌<◌, ℕ, ◌+◌, ◌-◌, drop, true, subst}
use Rattle.std.proofs.lemmas.List.Elements.{All-drop, All-take}
use Rattle.cohort_sizes.specs.Births.{born_count}
use Rattle.life_intervals.specs.Generator.{generator_of}
use Rattle.life_intervals.specs.Intervals.{is_live}
use Rattle.row_lines.specs.Runs.{layout_for}
use Rattle.sql_lines.specs.declared.rows.Told.{Told}
use Rattle.sql_lines.specs.Told.{AreListed, AreTold}
use Rattle.sql_lines.proofs.rows.Told.part.Goals as goal

pub returns-in-Listed-clause-told : goal.returns-in-Listed-clause-told
returns-in-Listed-clause-told c = λ lines told.
    let listed : AreListed lines c.in-Listed.ordinals.now = subst (λ (t : Told). AreTold lines t) c.in-Listed.is told in
    let behind : ℕ = c.args.done in
    let many : ℕ = c.args.done + c.args.some - c.args.done in
    record {
      born =
          All-take (λ (ordinal : ℕ). ordinal < born_count (layout_for lines).births lines.unit) many (drop behind c.in-Listed.ordinals.now)
          (All-drop (λ (ordinal : ℕ). ordinal < born_count (layout_for lines).births lines.unit) behind c.in-Listed.ordinals.now listed.born);
      alive =
          All-take (λ (ordinal : ℕ). is_live (generator_of lines.plan) lines.table lines.unit ordinal ≡ true) many (drop behind c.in-Listed.ordinals.now)
          (All-drop (λ (ordinal : ℕ). is_live (generator_of lines.plan) lines.table lines.unit ordinal ≡ true) behind c.in-Listed.ordinals.now listed.alive);
    }
