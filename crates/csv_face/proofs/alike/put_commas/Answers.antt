use Rattle.std.proofs.Common.{◌<◌, ℕ, ap, arith, get_or, length, slice_set, ◌∙◌}
use Rattle.std.proofs.lemmas.List.{get_or_default}
use Rattle.std.proofs.lemmas.List.Edits.{map_over_more}
use Rattle.csv_face.specs.Alike.{byte_in_csv}
use Rattle.csv_face.proofs.alike.put_commas.Goals as goal

pub loop-place-preserved : goal.loop-place-preserved
loop-place-preserved c =
    let lines = c.loop-place.lines in
    let place = c.loop-place.place in
    let byte : ℕ = get_or lines place 0 in
    let within : place < length lines = omega (arith, c.loop-place-test.true, c.loop-place.auto.lines) in
    ap (λ (b : ℕ). slice_set lines place b) c.byte_in_csv.ensures
    ∙ map_over_more (byte_in_csv c.args.delimiter) c.args.lines.now lines place byte c.loop-place-test.true c.loop-place.invariant (get_or_default lines place 0 byte within)
