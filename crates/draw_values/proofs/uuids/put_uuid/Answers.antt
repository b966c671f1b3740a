use Rattle.std.proofs.Common.{◌≡◌, ◌++◌, List, ℕ, length, ap, ◌∙◌, arith}
use Rattle.philox_seeds.specs.SeedTree.{draw}
use Rattle.uuid.specs.Text.{hyphenated_text, lower}
use Rattle.draw_values.specs.Uuids.{uuid_bytes, uuid_text}
use Rattle.draw_values.proofs.UuidLemmas.{length-uuid_text}
use Rattle.draw_values.proofs.uuids.put_uuid.Goals as goal
use Rattle.draw_values.proofs.uuids.put_uuid.Goals.{After-as_bytes}

text_is : (c : After-as_bytes) → c.as_bytes.result.now ≡ uuid_text c.args.first (draw c.args.seed 2)
unfolding uuid_text
text_is c =
    c.as_bytes.ensures.value
    ∙ c.text_of-text.ensures
    ∙ ap (hyphenated_text lower) (c.uuid_of.ensures ∙ ap (uuid_bytes c.args.first) c.draw.ensures.number)

pub put-requires : goal.put-requires
put-requires c = omega (arith, ap length (text_is c), length-uuid_text c.args.first (draw c.args.seed 2), c.requires)

pub returns-clause-text : goal.returns-clause-text
returns-clause-text c =
    c.put.ensures
    ∙ ap (λ (text : List ℕ). record { text = c.args.buf.now.text ++ text; room = c.args.buf.now.room }) (text_is (goal.at.returns-clause-text c).After-as_bytes)

pub returns-clause-size : goal.returns-clause-size
returns-clause-size c = length-uuid_text c.args.first (draw c.args.seed 2)
