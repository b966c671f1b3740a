use Rattle.std.proofs.Common.{pos, refl}
use Rattle.jiff_core.specs.Calendar.{days_from_civil}
use Rattle.draw_values.proofs.DateLemmas.{date_text-civil, days_from_civil-from_first}
use Rattle.draw_values.proofs.laws.dates_are_those_of_the_calendar.Goals as goal

pub returns : goal.returns
returns c = λ year month day some civil.
    date_text-civil (days_from_civil (pos year) month day) year month day some civil refl (days_from_civil-from_first year month day some civil)
