use Rattle.std.proofs.Common.{◌∙◌}
use Rattle.table_jobs.specs.modes.Sample.{later_units}
use Rattle.table_jobs.proofs.SampleLemmas.{first-text, line-put}
use Rattle.table_jobs.proofs.modes.sample.push_line.Goals as goal

pub returns : goal.returns
returns c =
    let texts = c.requires.texts in
    line-put c.args.plan.now c.args.table c.as_bytes.result.now c.get-first.result.now c.as_slice-last.result.now
    c.lines_in.result c.args.texts.now.changed.deleted c.args.texts.now.changed.updated c.args.texts.now.changed.inserted c.lines_in-2.result
    c.args.text.now.items c.extend_from_slice.new.self.items c.push.new.self.items c.push_number.new.text.items c.push_number-2.new.text.items c.push_number-3.new.text.items
    c.push_number-4.new.text.items c.push_number-5.new.text.items c.push_number-6.new.text.items c.push_number-7.new.text.items
    (c.as_bytes.ensures.value ∙ c.name_of.ensures)
    (first-text c.args.plan.now c.args.table (later_units c.args.plan.now) c.args.texts.now.inputs c.get-first.result.now texts.inputs c.get-first.ensures)
    (c.as_slice-last.ensures.value ∙ texts.last) c.lines_in.ensures.lines texts.deleted texts.updated texts.inserted c.lines_in-2.ensures.lines
    c.in_ok-extend_from_slice.ensures.items c.in_ok-push.ensures.items c.in_ok-push_number.ensures c.in_ok-push_number-2.ensures c.in_ok-push_number-3.ensures c.in_ok-push_number-4.ensures c.in_ok-push_number-5.ensures c.in_ok-push_number-6.ensures
    c.in_ok-push_number-7.ensures
