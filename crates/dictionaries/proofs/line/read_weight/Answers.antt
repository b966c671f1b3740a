use Rattle.std.proofs.Common.{◌≡◌, ◌<◌, ◌^◌, ◌==◌, true, false, length, arith}
use Rattle.std.proofs.lemmas.Bool.Decides.{nat_tests}
use Rattle.std.proofs.lemmas.Str.Parse.{digits_value_short, parse_gives}
use Rattle.std.specs.Char.{is_ascii_digit}
use Rattle.std.specs.List.{list_all}
use Rattle.std.specs.Str.Parse.{digits_value}
use Rattle.dictionaries.proofs.LineLemmas.{digits_model}
use Rattle.dictionaries.proofs.line.read_weight.Goals as goal

pub returns-in_err-weight : goal.returns-in_err-weight
returns-in_err-weight c =
    let bytes = c.args.digits.now in
    let digits : list_all is_ascii_digit bytes ≡ true = cc in
    let some : 0 < length bytes = let empty : (length bytes == 0) ≡ false = cc in grind (arith, nat_tests) in
    let below : digits_value 10 bytes < 2 ^ 64 = omega (arith, digits_value_short digits_model bytes 7 digits (omega arith)) in
    let read = parse_gives digits_model 64 bytes c.parse.result c.parse.ensures.value.0 digits some below in
    let fails = c.in_err-weight.ensures.value in
    cc
