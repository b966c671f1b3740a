use Rattle.std.proofs.Common.{◌≡◌, ◌∙◌, ap, sym, arith, max}
use Rattle.std.proofs.lemmas.Grind.{common_steps}
use Rattle.std.proofs.lemmas.List.{take_all}
use Rattle.std.proofs.lemmas.Option.{get_or_from_slice_get, slice_get_within}
use Rattle.schema_facts.specs.FieldSizes.{greatest_by, written_size}
use Rattle.schema_facts.proofs.Capping.{greatest_more}
use Rattle.schema_facts.proofs.word_lists.greatest_entry.Goals as goal

pub loop-i-preserved : goal.loop-i-preserved
loop-i-preserved c =
    let size = written_size c.args.delimiter in
    let entries = c.args.words.now.entries in
    let entry = c.entry.result.now in
    let greater : c.max-most.result ≡ max c.loop-i.most c.written_size.result = grind (arith, common_steps) in
    greater
    ∙ ap (max c.loop-i.most) (c.written_size.ensures ∙ ap size c.as_bytes.ensures.value ∙ ap size (sym (get_or_from_slice_get entries c.loop-i.i entry entry c.entry.ensures.exact)))
    ∙ greatest_more size entries c.loop-i.i entry c.loop-i.most (slice_get_within entries c.loop-i.i entry c.entry.ensures.exact) c.loop-i.invariant

pub returns : goal.returns
returns c =
    let entries = c.args.words.now.entries in
    c.loop-i.invariant
    ∙ ap (greatest_by (written_size c.args.delimiter)) (take_all c.loop-i.i entries (omega (arith, c.len-i-end.ensures.exact)))
