use Rattle.std.proofs.Common.{refl}
use Rattle.draw_values.specs.Dates.{date_text, month_from, year_from}
use Rattle.line_pages.specs.Digits.{last_digits}
use Rattle.draw_values.proofs.laws.worked_dates.Goals as goal

pub returns-clause-first : goal.returns-clause-first
unfolding date_text year_from month_from last_digits
returns-clause-first c = refl

pub returns-clause-before_0 : goal.returns-clause-before_0
unfolding date_text year_from month_from last_digits
returns-clause-before_0 c = refl

pub returns-clause-leap_day : goal.returns-clause-leap_day
unfolding date_text year_from month_from last_digits
returns-clause-leap_day c = refl

pub returns-clause-century : goal.returns-clause-century
unfolding date_text year_from month_from last_digits
returns-clause-century c = refl

pub returns-clause-last : goal.returns-clause-last
unfolding date_text year_from month_from last_digits
returns-clause-last c = refl
