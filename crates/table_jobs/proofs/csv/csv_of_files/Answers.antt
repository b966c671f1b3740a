use Rattle.std.proofs.Common.{List, arith, length, map, subst, ◌<◌, ◌≤◌, ℕ, ◌∙◌}
use Rattle.std.proofs.lemmas.List.{length-map}
use Rattle.csv_face.specs.Csv.{IsCsvOf}
use Rattle.pd_outside.specs.Files.{File, file_at}
use Rattle.run_jobs.proofs.CsvLemmas.{AreHeaded, csv_all, csv_more, csv_none, file_got, headed-long}
use Rattle.table_jobs.proofs.csv.csv_of_files.Goals as goal

pub loop-place-init : goal.loop-place-init
loop-place-init c =
    csv_none c.args.delimiter c.args.headings.now (map (λ (file : File). file.bytes) c.args.files.now) _ c.new-csvs.ensures

pub loop-place-preserved : goal.loop-place-preserved
loop-place-preserved c =
    let files : List File = c.args.files.now in
    let csv = c.in_ok-push_csv.ensures in
    let inside : c.loop-place.place < length files = omega (arith, c.len-place-end.ensures, c.loop-place-test.true) in
    csv_more c.args.delimiter c.args.headings.now (map (λ (file : File). file.bytes) files) c.loop-place.csvs _ c.loop-place.place c.get.result.now (file_at files c.loop-place.place).bytes csv.0
    c.get.ensures (file_got files c.loop-place.place inside) c.loop-place.invariant (subst (λ (text : List ℕ). IsCsvOf c.args.delimiter text csv.0) c.bytes.ensures csv.1) csv.2

pub returns-clause-csvs : goal.returns-clause-csvs
returns-clause-csvs c =
    let texts : List (List ℕ) = map (λ (file : File). file.bytes) c.args.files.now in
    let past : length c.args.files.now ≤ c.loop-place.place = omega (arith, c.len-place-end.ensures, c.loop-place-test.false) in
    let all : AreHeaded c.args.delimiter c.args.headings.now texts c.loop-place.csvs =
    csv_all c.args.delimiter c.args.headings.now texts c.loop-place.csvs c.loop-place.place (omega (arith, past, c.requires.alike))
    (omega (arith, past, length-map c.args.files.now (λ (file : File). file.bytes))) c.loop-place.invariant in
    (all.rows, all.are, all.headed)

pub returns-clause-count : goal.returns-clause-count
returns-clause-count c =
    let texts : List (List ℕ) = map (λ (file : File). file.bytes) c.args.files.now in
    let past : length c.args.files.now ≤ c.loop-place.place = omega (arith, c.len-place-end.ensures, c.loop-place-test.false) in
    headed-long c.args.delimiter c.args.headings.now texts c.loop-place.csvs
    (csv_all c.args.delimiter c.args.headings.now texts c.loop-place.csvs c.loop-place.place (omega (arith, past, c.requires.alike))
    (omega (arith, past, length-map c.args.files.now (λ (file : File). file.bytes))) c.loop-place.invariant)
    ∙ length-map c.args.files.now (λ (file : File). file.bytes)
