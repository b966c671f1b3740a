use Rattle.std.proofs.Common.{◌∙◌, ℕ, List, arith, sym}
use Rattle.csv.specs.Records.{fields_of}
use Rattle.csv_face.proofs.RowLemmas.{length-None, other-names, same-more}
use Rattle.csv_face.proofs.read.are_names.Goals as goal
use Rattle.csv_face.proofs.read.are_names.Goals.{in-Some+else-ne, in_default}

pub returns-then-ne-clause-other : goal.returns-then-ne-clause-other
returns-then-ne-clause-other c = λ no.
    other-names (fields_of c.args.fields.now) c.args.names.now c.loop-place.place c.in-Some.field.now c.as_bytes.result.now _
    (sym (rw c.in-Some.is at c.get.ensures.value)) (c.as_bytes.ensures.value ∙ c.as_str.ensures.value ∙ c.index-names-place.is) c.if-ne.ensures

pub loop-place-preserved : goal.loop-place-preserved
loop-place-preserved c =
    let fields : List (List ℕ) = fields_of c.args.fields.now in
    elim c.match-get.branch [
      | in-Some+else-ne w ↦
          same-more fields c.args.names.now c.loop-place.place w.in-Some.field.now w.as_bytes.result.now _ (sym (rw w.in-Some.is at c.get.ensures.value)) (omega (arith, c.loop-place-test.true))
          (w.as_bytes.ensures.value ∙ w.as_str.ensures.value ∙ w.index-names-place.is) w.if-ne.ensures c.loop-place.invariant
      | in_default w ↦
          absurd (omega (arith, length-None fields c.loop-place.place (sym (rw w.in_default.is at c.get.ensures.value)), c.loop-place-test.true, c.if-len-names.false))
    ]
