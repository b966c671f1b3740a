use Rattle.std.proofs.Common.{ap, ◌∙◌, length}
use Rattle.std.specs.Option.{unwrap_or}
use Rattle.schema_facts.proofs.PlaceLemmas.{position-unwrap}
use Rattle.schema_facts.proofs.word_lists.Dictionaries.place_of.Goals as goal

pub returns : goal.returns
returns c =
    c.unwrap_or.ensures
    ∙ ap (unwrap_or c.position.result) c.len.ensures.count
    ∙ ap (λ found. unwrap_or found (length c.args.self.now)) c.position.ensures
    ∙ position-unwrap _ c.args.self.now
