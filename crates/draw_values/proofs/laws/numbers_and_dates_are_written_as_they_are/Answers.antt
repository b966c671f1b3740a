use Rattle.std.specs.Fmt.{signed_decimal}
use Rattle.draw_values.specs.Dates.{date_text}
use Rattle.draw_values.specs.Digits.{signed_pointed}
use Rattle.draw_values.proofs.PlainLemmas.{escaped_text-plain, plain-date_text, plain-signed_decimal, plain-signed_pointed}
use Rattle.draw_values.proofs.laws.numbers_and_dates_are_written_as_they_are.Goals as goal

pub returns-clause-whole : goal.returns-clause-whole
returns-clause-whole c = λ delimiter number. escaped_text-plain delimiter (signed_decimal number) (plain-signed_decimal number)

pub returns-clause-fixed : goal.returns-clause-fixed
returns-clause-fixed c = λ delimiter decimals number. escaped_text-plain delimiter (signed_pointed decimals number) (plain-signed_pointed decimals number)

pub returns-clause-date : goal.returns-clause-date
returns-clause-date c = λ delimiter day. escaped_text-plain delimiter (date_text day) (plain-date_text day)
