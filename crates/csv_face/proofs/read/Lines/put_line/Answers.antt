use Rattle.std.proofs.Common.{◌∙◌, sym, ap, arith, List, ℕ}
use Rattle.csv.specs.Records.{fields_of}
use Rattle.csv_face.specs.declared.read.Lines.{Lines}
use Rattle.csv_face.proofs.RowLemmas.{length-None, put-first, put-more}
use Rattle.csv_face.proofs.read.Lines.put_line.Goals as goal
use Rattle.csv_face.proofs.read.Lines.put_line.Goals.{in-Some+in_ok-put_field, then-index-gt0+in_ok-push, else-index-gt0, in_default}

items : Lines → List ℕ
items lines = lines.text.items

pub loop-index-preserved : goal.loop-index-preserved
unfolding items
loop-index-preserved c =
    let fields = fields_of c.args.fields.now in
    let old = c.args.self.now.text.items in
    elim c.match-get.branch [
      | in-Some+in_ok-put_field w ↦
          let found = sym (rw w.in-Some.is at c.get.ensures.value) in
          let put = ap items w.self-is ∙ w.in_ok-put_field.ensures in
          elim w.if-index-gt0.branch [
            | then-index-gt0+in_ok-push w' ↦
                put-more c.args.delimiter c.loop-index.index fields w.in-Some.field.now old c.loop-index.self.text.items w.if-index-gt0.self.text.items c.match-get.self.text.items
                w'.if-index-gt0.true found c.loop-index.invariant (ap items w'.self-is ∙ w'.in_ok-push.ensures.items) put
            | else-index-gt0 w' ↦
                put-first c.args.delimiter c.loop-index.index fields w.in-Some.field.now old w.if-index-gt0.self.text.items c.match-get.self.text.items
                w'.if-index-gt0.false found (ap items w'.self-is ∙ c.loop-index.invariant) put
          ]
      | in_default w ↦
          absurd (omega (arith, length-None fields c.loop-index.index (sym (rw w.in_default.is at c.get.ensures.value)), c.loop-index-test.true, c.len-index-end.ensures))
    ]
