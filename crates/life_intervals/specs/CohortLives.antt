-- Whether the rows of a cohort may be dead at a unit.
use Rattle.std.specs.Prelude.{ℕ, ◌+◌, Option, if◌then◌else◌}
use Rattle.std.specs.Option.{option_map}
use Rattle.schema_facts.specs.Dictionaries.{Project}
use Rattle.schema_facts.specs.Layout.{layout_of}
use Rattle.schema_facts.specs.Lineage.{longest_life, sure_life}
use Rattle.life_intervals.specs.declared.lives.Survival.{Survival}
use Rattle.life_intervals.specs.declared.lives.Survival.TheVariants.{Sure, Drawn, Over}
use Rattle.life_intervals.specs.Intervals.{is_after}

-- what lives say of the rows that are born at a unit, at another, by how long they last at least and at most: before the shortest
-- ends each row is alive, and none from the end of the longest on
abbrev pub survival_by : Option ℕ → Option ℕ → ℕ → ℕ → Survival
survival_by sure longest born unit =
    if is_after (option_map (λ life. born + life) sure) unit then Sure
    else if is_after (option_map (λ life. born + life) longest) unit then Drawn else Over

-- what those of the rows of the table at a place say
abbrev pub survival_at : Project → ℕ → ℕ → ℕ → Survival
survival_at plan table born unit =
    survival_by (sure_life (layout_of plan).tables table) (longest_life (layout_of plan).tables table) born unit
