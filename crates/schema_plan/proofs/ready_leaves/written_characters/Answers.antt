use Rattle.std.proofs.Common.{encode_utf8, map, map-id, sym, ap, ◌∙◌}
use Rattle.std.proofs.lemmas.Iterator.{YieldsList-from_chars}
use Rattle.std.proofs.lemmas.Iterator.Consumers.{YieldsList-end}
use Rattle.row_text.specs.Fields.{escaped_text}
use Rattle.schema_plan.proofs.ready_leaves.written_characters.Goals as goal

pub returns : goal.returns
returns c =
    let all = YieldsList-end (YieldsList-from_chars c.args.alphabet.now c.utf8.alphabet cc) c.loop-c.yielded _ c.loop-c.yielded_by _ _ c.in-None.is c.next.ensures.steps in
    let delimiter = c.args.delimiter in
    c.loop-c.invariant ∙ ap (map (λ character. escaped_text delimiter (encode_utf8 character))) (sym (map-id c.loop-c.yielded) ∙ all.0)
