use Rattle.std.proofs.Common.{◌≡◌, ◌+◌, ◌++◌, ℕ, List, ap, arith, map, sym, ◌∙◌}
use Rattle.std.specs.List.{range_with_len}
use Rattle.life_intervals.specs.Generator.{generator_of, last_unit}
use Rattle.pd_outside.specs.Files.{File, file_at}
use Rattle.row_lines.specs.Lines.{table_text}
use Rattle.schema_facts.specs.Dictionaries.{Project}
use Rattle.update_box.specs.TextLaws.{unit_streams}
use Rattle.update_box.specs.declared.parts.Content.TheVariants.{Deleted, Inserted, Updated}
use Rattle.table_jobs.specs.modes.Sample.{later_units, lines_at, text_and_changes}
use Rattle.table_jobs.proofs.SampleLemmas.{changes-next, lines-more, three-held}
use Rattle.table_jobs.proofs.modes.sample.table_texts.Goals as goal

pub loop-step-preserved : goal.loop-step-preserved
loop-step-preserved g c =
    let plan : Project = c.args.plan in
    let place : ℕ = c.args.table in
    let step : ℕ = c.loop-step.step in
    let files : List File = c.finished.result.now in
    let at : step + 1 ≡ 1 + step = omega arith in
    let before = c.loop-step.invariant in
    let put = c.in_ok-push_changes.ensures in
    let streams : map (λ (file : File). file.bytes) files ≡ unit_streams plan place (step + 1) =
    ap (map (λ (file : File). file.bytes)) c.finished.ensures ∙ c.in_ok-made.ensures.texts ∙ ap (λ (p : Project). unit_streams p place (step + 1)) before.plan in
    let three = three-held plan place (step + 1) files streams in
    record {
      plan = c.in_ok-made.ensures.plan ∙ before.plan;
      inputs =
          put.inputs ∙ ap (λ (inputs : List (List ℕ)). inputs ++ map (λ (file : File). file.bytes) files) before.inputs
          ∙ ap (λ (more : List (List ℕ)). text_and_changes plan place (range_with_len 1 step) ++ more) streams ∙ sym (changes-next plan place step (step + 1) at);
      deleted = lines-more plan place step (step + 1) Deleted c.loop-step.changed.deleted _ (file_at files 0).bytes at before.deleted three.1 put.deleted;
      updated = lines-more plan place step (step + 1) Updated c.loop-step.changed.updated _ (file_at files 1).bytes at before.updated three.2 put.updated;
      inserted = lines-more plan place step (step + 1) Inserted c.loop-step.changed.inserted _ (file_at files 2).bytes at before.inserted three.3 put.inserted;
      few_deleted = omega (arith, before.few_deleted, put.little.deleted);
      few_updated = omega (arith, before.few_updated, put.little.updated);
      few_inserted = omega (arith, before.few_inserted, put.little.inserted);
    }

pub returns-clause-texts : goal.returns-clause-texts
returns-clause-texts g c =
    let plan : Project = c.args.plan in
    let place : ℕ = c.args.table in
    let made = c.loop-step.invariant in
    let all : c.loop-step.step ≡ last_unit plan = omega (arith, c.loop-step-test.false, c.loop-step.auto.step-end, c.units-last.ensures) in
    let units : range_with_len 1 c.loop-step.step ≡ later_units plan = ap (range_with_len 1) all in
    record {
      inputs = made.inputs ∙ ap (text_and_changes plan place) units;
      deleted = made.deleted ∙ ap (lines_at plan place Deleted) units;
      updated = made.updated ∙ ap (lines_at plan place Updated) units;
      inserted = made.inserted ∙ ap (lines_at plan place Inserted) units;
      last =
          c.in_ok-end.ensures.text ∙ ap (λ (p : Project). table_text (generator_of p) c.units-last.result place) made.plan
          ∙ ap (λ (unit : ℕ). table_text (generator_of plan) unit place) c.units-last.ensures;
    }
