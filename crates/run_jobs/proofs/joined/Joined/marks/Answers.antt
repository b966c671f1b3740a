use Rattle.std.proofs.Common.{◌∙◌, Some, ap, sym}
use Rattle.run_jobs.proofs.JoinedLemmas.{first-fits, first-next, marks-all, marks-are, marks-files, marks-next}
use Rattle.run_jobs.proofs.joined.Joined.marks.Goals as goal

pub loop-place-preserved : goal.loop-place-preserved
loop-place-preserved g c = record {
  marks =
      marks-next g.P.Packer.count c.args.names.now c.args.self.now.parts.items c.deref-part-items.result.now c.loop-place.place c.loop-place.first c.as_str.result.now c.part-item.result c.loop-place.marks c.push.new.self
      c.requires.alike c.deref-part-items.ensures.value c.loop-place-test.true c.loop-place.invariant.marks c.loop-place.invariant.first (c.get.ensures ∙ ap Some (sym c.as_str.ensures.value)) c.in_ok-push.ensures.ok;
  first =
      first-next g.P.Packer.count c.args.self.now.parts.items c.deref-part-items.result.now c.loop-place.place c.loop-place.first c.count-first.result c.part-item.result c.deref-part-items.ensures.value c.loop-place-test.true
      c.part-item.is c.loop-place.invariant.first c.count-first.ensures.count;
}

pub overflow_add-first : goal.overflow_add-first
overflow_add-first g c =
    first-fits g.P.Packer.count c.args.self.now.parts.items c.deref-part-items.result.now c.loop-place.place c.loop-place.first c.count-first.result c.args.self.now.count c.part-item.result c.deref-part-items.ensures.value c.loop-place-test.true
    c.part-item.is c.loop-place.invariant.first c.count-first.ensures.count c.args.self.now.counted c.args.self.now.few

pub returns-clause-marks : goal.returns-clause-marks
returns-clause-marks g c =
    marks-are g.P.Packer.count c.args.names.now c.args.self.now.parts.items c.loop-place.marks c.requires.alike c.requires.some
    (marks-all g.P.Packer.count c.args.names.now c.args.self.now.parts.items c.deref-part-items.result.now c.loop-place.place c.loop-place.marks c.deref-part-items.ensures.value c.loop-place-test.false c.requires.alike c.loop-place.invariant.marks)

pub returns-clause-files : goal.returns-clause-files
returns-clause-files g c =
    marks-files g.P.Packer.count g.P.Packer.text c.args.names.now c.args.self.now.parts.items c.loop-place.marks c.requires.alike
    (marks-all g.P.Packer.count c.args.names.now c.args.self.now.parts.items c.deref-part-items.result.now c.loop-place.place c.loop-place.marks c.deref-part-items.ensures.value c.loop-place-test.false c.requires.alike c.loop-place.invariant.marks)
