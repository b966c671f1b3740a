use Rattle.std.proofs.Common.{List, [], arith, ap, length, map, subst, ◌<◌, ◌≤◌, ◌∙◌, ℕ}
use Rattle.std.proofs.lemmas.List.{length-map}
use Rattle.std.proofs.lemmas.Option.{get_or_from_slice_get}
use Rattle.csv_face.specs.Csv.{HasRows}
use Rattle.run_jobs.specs.Formats.{heading_of}
use Rattle.run_jobs.proofs.CsvLemmas.{csv_all, csv_more, csv_none, headed-long, mapped_got}
use Rattle.replay_files.proofs.replay.copies.csv_of_texts.Goals as goal

pub loop-place-init : goal.loop-place-init
loop-place-init c = csv_none c.args.delimiter (map (heading_of c.args.header) c.args.tables.now) c.args.texts.now _ c.new-csvs.ensures

pub push_csv-requires-clause-rows : goal.push_csv-requires-clause-rows
push_csv-requires-clause-rows c =
    subst (HasRows c.args.delimiter) (get_or_from_slice_get c.args.texts.now c.loop-place.place c.get.result.now [] c.get.ensures)
    (c.requires.rows c.loop-place.place [] (omega (arith, c.len-place-end.ensures, c.loop-place-test.true)))

pub loop-place-preserved : goal.loop-place-preserved
loop-place-preserved c =
    let csv = c.in_ok-push_csv.ensures in
    let headings : List (List ℕ) = map (heading_of c.args.header) c.args.tables.now in
    let inside : c.loop-place.place < length c.args.tables.now = omega (arith, c.requires.alike, c.len-place-end.ensures, c.loop-place-test.true) in
    csv_more c.args.delimiter headings c.args.texts.now c.loop-place.csvs _ c.loop-place.place _ c.get.result.now csv.0
    (mapped_got (heading_of c.args.header) c.args.tables.now c.loop-place.place c.index-tables-place.result _ inside
    (c.as_slice-in-loop-place.ensures.value ∙ c.in_ok-heading.ensures ∙ ap (heading_of c.args.header) (c.as_slice.ensures ∙ c.index-tables-place.is)))
    c.get.ensures c.loop-place.invariant csv.1 csv.2

pub returns-clause-csvs : goal.returns-clause-csvs
returns-clause-csvs c =
    let headings : List (List ℕ) = map (heading_of c.args.header) c.args.tables.now in
    let past : length c.args.texts.now ≤ c.loop-place.place = omega (arith, c.len-place-end.ensures, c.loop-place-test.false) in
    let all = csv_all c.args.delimiter headings c.args.texts.now c.loop-place.csvs c.loop-place.place
    (omega (arith, past, c.requires.alike, length-map c.args.tables.now (heading_of c.args.header))) past c.loop-place.invariant in
    (all.rows, all.are, all.headed)

pub returns-clause-count : goal.returns-clause-count
returns-clause-count c =
    let headings : List (List ℕ) = map (heading_of c.args.header) c.args.tables.now in
    let past : length c.args.texts.now ≤ c.loop-place.place = omega (arith, c.len-place-end.ensures, c.loop-place-test.false) in
    headed-long c.args.delimiter headings c.args.texts.now c.loop-place.csvs
    (csv_all c.args.delimiter headings c.args.texts.now c.loop-place.csvs c.loop-place.place
    (omega (arith, past, c.requires.alike, length-map c.args.tables.now (heading_of c.args.header))) past c.loop-place.invariant)
