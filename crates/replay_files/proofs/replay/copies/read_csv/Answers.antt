use Rattle.std.proofs.Common.{◌≡◌, ◌<◌, List, [], ap, arith, get_or, inr, length, map, subst, sym, ℕ, ◌∙◌}
use Rattle.std.proofs.lemmas.List.{length-map}
use Rattle.std.proofs.lemmas.Option.{get_or_from_slice_get}
use Rattle.refusals.specs.declared.refusal.InputCause.TheVariants.{BadRecord}
use Rattle.replay_files.specs.Replay.{AreColumns, named_fault}
use Rattle.run_jobs.specs.InputFiles.{HasBadIn, IsReadIn}
use Rattle.run_jobs.proofs.CsvLemmas.{as_long, bad_behind, read_all, read_more, viewed_at, zip_length}
use Rattle.replay_files.proofs.KeyedTextLemmas.{read-rows}
use Rattle.replay_files.proofs.replay.copies.read_csv.Goals as goal

pub copy_of-requires-clause-columns : goal.copy_of-requires-clause-columns
copy_of-requires-clause-columns c =
    let within : c.loop-number.number < length c.args.columns.now = omega (arith, c.requires.fields, c.len-number-end.ensures, c.loop-number-test.true) in
    subst AreColumns (viewed_at (λ own. own.now) c.args.columns.now c.loop-number.number c.index-columns-number.result [] within c.index-columns-number.is)
    (c.requires.columns c.loop-number.number [] (omega (arith, within, length-map c.args.columns.now (λ own. own.now))))

pub returns-in-Err-BadRecord-clause-bad : goal.returns-in-Err-BadRecord-clause-bad
returns-in-Err-BadRecord-clause-bad c =
    let number : ℕ = c.loop-number.number in
    let at : ℕ = c.in-Err-BadRecord.at in
    let columns : List (List (List ℕ)) = map (λ own. own.now) c.args.columns.now in
    let inside : number < length c.args.inputs.now = omega (arith, c.len-number-end.ensures, c.loop-number-test.true) in
    let alike : length columns ≡ length c.args.inputs.now = length-map c.args.columns.now (λ own. own.now) ∙ c.requires.fields in
    let own : get_or columns number [] ≡ c.index-columns-number.result.now =
    viewed_at (λ own. own.now) c.args.columns.now number c.index-columns-number.result [] (omega (arith, inside, c.requires.fields)) c.index-columns-number.is in
    let bad : HasBadIn c.args.header (get_or columns number []) (get_or c.args.inputs.now number []) at =
    subst (λ (names : List (List ℕ)). HasBadIn c.args.header names (get_or c.args.inputs.now number []) at) (sym own)
    (subst (λ (input : List ℕ). HasBadIn c.args.header c.index-columns-number.result.now input at) (sym (get_or_from_slice_get c.args.inputs.now number c.get.result.now [] c.get.ensures))
    (c.in-Err-BadRecord.ensures.bad at c.in-Err-BadRecord.field-0-is)) in
    inr (
      number,
      at,
      bad_behind c.args.header c.args.delimiter columns c.args.inputs.now c.loop-number.copies number at alike inside c.loop-number.invariant bad,
      c.fault_at.ensures ∙ ap (λ (record_number : ℕ). named_fault c.args.names.now number (BadRecord record_number)) c.in-Err-BadRecord.at-is,
    )

pub loop-number-preserved : goal.loop-number-preserved
loop-number-preserved c =
    let number : ℕ = c.loop-number.number in
    let columns : List (List (List ℕ)) = map (λ own. own.now) c.args.columns.now in
    let inside : number < length c.args.inputs.now = omega (arith, c.len-number-end.ensures, c.loop-number-test.true) in
    let alike : length columns ≡ length c.args.inputs.now = length-map c.args.columns.now (λ own. own.now) ∙ c.requires.fields in
    let own : get_or columns number [] ≡ c.index-columns-number.result.now =
    viewed_at (λ own. own.now) c.args.columns.now number c.index-columns-number.result [] (omega (arith, inside, c.requires.fields)) c.index-columns-number.is in
    read_more c.args.header c.args.delimiter columns c.args.inputs.now c.loop-number.copies _ number c.in-Ok.text.items alike inside c.loop-number.invariant
    (subst (λ (names : List (List ℕ)). IsReadIn c.args.header c.args.delimiter (names, get_or c.args.inputs.now number []) c.in-Ok.text.items) (sym own)
    (subst (λ (input : List ℕ). IsReadIn c.args.header c.args.delimiter (c.index-columns-number.result.now, input) c.in-Ok.text.items)
    (sym (get_or_from_slice_get c.args.inputs.now number c.get.result.now [] c.get.ensures)) c.in-Ok.ensures.read))
    c.in-Ok-push.ensures.appended

pub returns-clause-read : goal.returns-clause-read
returns-clause-read c =
    read_all c.args.header c.args.delimiter (map (λ own. own.now) c.args.columns.now) c.args.inputs.now c.loop-number.copies c.loop-number.number
    (length-map c.args.columns.now (λ own. own.now) ∙ c.requires.fields) (omega (arith, c.len-number-end.ensures, c.loop-number-test.false)) c.loop-number.invariant

pub returns-clause-count : goal.returns-clause-count
returns-clause-count c =
    let columns : List (List (List ℕ)) = map (λ own. own.now) c.args.columns.now in
    let alike : length columns ≡ length c.args.inputs.now = length-map c.args.columns.now (λ own. own.now) ∙ c.requires.fields in
    let read = read_all c.args.header c.args.delimiter columns c.args.inputs.now c.loop-number.copies c.loop-number.number alike
    (omega (arith, c.len-number-end.ensures, c.loop-number-test.false)) c.loop-number.invariant in
    as_long (IsReadIn c.args.header c.args.delimiter) _ c.loop-number.copies read ∙ zip_length columns c.args.inputs.now alike

pub returns-clause-rows : goal.returns-clause-rows
returns-clause-rows c =
    let columns : List (List (List ℕ)) = map (λ own. own.now) c.args.columns.now in
    let alike : length columns ≡ length c.args.inputs.now = length-map c.args.columns.now (λ own. own.now) ∙ c.requires.fields in
    read-rows c.args.header c.args.delimiter columns c.args.inputs.now c.loop-number.copies alike c.requires.columns
    (read_all c.args.header c.args.delimiter columns c.args.inputs.now c.loop-number.copies c.loop-number.number alike
    (omega (arith, c.len-number-end.ensures, c.loop-number-test.false)) c.loop-number.invariant)
