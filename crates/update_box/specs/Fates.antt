-- What becomes of a row at a unit.
use Rattle.std.specs.Prelude.{ℕ, Bool}
use Rattle.schema_facts.specs.Dictionaries.{Project}
use Rattle.update_box.specs.declared.fates.Fate.{Fate}
use Rattle.update_box.specs.declared.fates.Fate.TheVariants.{Dies, Lives}
use Rattle.update_box.specs.Candidates.{dies_at, lives_at}

-- whether this becomes of the row of an ordinal that is born before the unit
abbrev pub has_fate : Project → ℕ → ℕ → Fate → ℕ → Bool
has_fate plan place unit Dies ordinal = dies_at plan place unit ordinal
has_fate plan place unit Lives ordinal = lives_at plan place unit ordinal
