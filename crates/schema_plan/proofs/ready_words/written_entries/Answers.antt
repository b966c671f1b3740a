use Rattle.std.proofs.Common.{◌∙◌, ◌++◌, ◌∷◌, [], ap, sym, arith, map, take}
use Rattle.std.proofs.lemmas.List.{map-append, take_all}
use Rattle.row_text.specs.Fields.{escaped_text}
use Rattle.schema_plan.proofs.WordListLemmas.{take_more_got}
use Rattle.schema_plan.proofs.ready_words.written_entries.Goals as goal

pub loop-i-preserved : goal.loop-i-preserved
loop-i-preserved c =
    let written = escaped_text c.args.delimiter in
    let entries = c.args.words.now.entries in
    let i = c.loop-i.i in
    let entry = c.entry.result.now in
    c.in_ok-push.ensures.appended
    ∙ ap (λ texts. texts ++ written c.as_bytes.result.now ∷ []) c.loop-i.invariant
    ∙ ap (λ bytes. map written (take i entries) ++ written bytes ∷ []) c.as_bytes.ensures.value
    ∙ sym (ap (map written) (take_more_got entries i entry c.entry.ensures.exact) ∙ map-append written (take i entries) (entry ∷ []))

pub returns : goal.returns
returns c =
    let entries = c.args.words.now.entries in
    c.loop-i.invariant
    ∙ ap (map (escaped_text c.args.delimiter)) (take_all c.loop-i.i entries (omega (arith, c.len-i-end.ensures.exact)))
