use Rattle.std.proofs.Common.{◌≤◌, ◌∙◌, sym, arith, length}
use Rattle.std.proofs.lemmas.List.{drop_all}
use Rattle.csv.specs.Records.{fields_of}
use Rattle.csv_face.specs.Reading.{is_bad_field}
use Rattle.csv_face.proofs.RowLemmas.{any-found, any-next, length-None}
use Rattle.csv_face.proofs.read.has_bad_field.Goals as goal
use Rattle.csv_face.proofs.read.has_bad_field.Goals.{in-Some+else-is_bad_field, in_default}

pub returns-then-is_bad_field : goal.returns-then-is_bad_field
returns-then-is_bad_field c =
    sym (any-found is_bad_field (fields_of c.args.fields.now) c.loop-index.index c.in-Some.field.now (sym (rw c.in-Some.is at c.get.ensures.value)) (sym c.if-is_bad_field.ensures)) ∙ c.loop-index.invariant

pub loop-index-preserved : goal.loop-index-preserved
loop-index-preserved c =
    elim c.match-get.branch [
      | in-Some+else-is_bad_field w ↦
          sym (any-next is_bad_field (fields_of c.args.fields.now) c.loop-index.index w.in-Some.field.now (sym (rw w.in-Some.is at c.get.ensures.value)) (sym w.is_bad_field.ensures ∙ w.if-is_bad_field.false)) ∙ c.loop-index.invariant
      | in_default w ↦
          absurd (omega (arith, length-None (fields_of c.args.fields.now) c.loop-index.index (sym (rw w.in_default.is at c.get.ensures.value)), c.loop-index-test.true, c.len-index-end.ensures))
    ]

pub returns : goal.returns
returns c =
    let past : length (fields_of c.args.fields.now) ≤ c.loop-index.index = omega (arith, c.loop-index-test.false, c.len-index-end.ensures) in
    rw (drop_all _ _ past) at c.loop-index.invariant
