use Rattle.std.proofs.Common.{refl}
use Rattle.row_text.specs.Fields.{escaped}
use Rattle.std.specs.Fmt.{digits}
use Rattle.cohort_sizes.specs.Births.{birth}
use Rattle.line_pages.specs.Digits.{last_digits}
use Rattle.draw_values.specs.Dates.{date_text, month_from, year_from}
use Rattle.life_intervals.specs.Keys.{key_of}
use Rattle.life_intervals.specs.Simulation.{simulation, rows_at}
use Rattle.row_lines.specs.Derived.{day_in, number_in}
use Rattle.row_lines.specs.Lines.{line, table_text}
use Rattle.row_lines.proofs.laws.worked_totals.Goals as goal

pub returns : goal.returns
unfolding simulation rows_at birth key_of line table_text digits escaped day_in number_in date_text year_from month_from last_digits
returns c = record { bill = refl; day_after_that_of_the_bill = refl; twice_that_of_the_bill = refl }
