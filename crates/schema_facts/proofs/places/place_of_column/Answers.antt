use Rattle.std.proofs.Common.{ap, ◌∙◌, length}
use Rattle.std.specs.Option.{unwrap_or}
use Rattle.schema_facts.proofs.PlaceLemmas.{position-unwrap}
use Rattle.schema_facts.proofs.places.place_of_column.Goals as goal

pub returns-clause-place : goal.returns-clause-place
returns-clause-place c =
    c.unwrap_or.ensures ∙ ap (λ found. unwrap_or found (length c.args.columns.now)) c.find_column.ensures ∙ position-unwrap _ c.args.columns.now
