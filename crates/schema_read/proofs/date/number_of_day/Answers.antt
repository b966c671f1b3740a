use Rattle.std.proofs.Common.{Some, rules, arith, ap, ◌∙◌}
use Rattle.std.specs.Prelude.{FitsSigned}
use Rattle.std.specs.Int.{w32}
use Rattle.std.proofs.lemmas.Int.{ints, to_z-of_z}
use Rattle.schema_read.proofs.Days.{day_number-date}
use Rattle.schema_read.proofs.date.number_of_day.Goals as goal

pub returns-in-Ok : goal.returns-in-Ok
returns-in-Ok c =
    let (same_year, same_month, same_day) = c.in-Ok.ensures.value in
    let fits : FitsSigned w32 c.to_unix_epoch_day.result = search rules in
    let number = day_number-date c.args.year c.args.month c.args.day c.in-Ok.date c.if-year-lt1.false (omega (arith, ints)) (omega (arith, ints)) (omega (arith, ints)) in
    ap Some (to_z-of_z w32 c.to_unix_epoch_day.result fits ∙ c.to_unix_epoch_day.ensures.value) ∙ number
