use Rattle.std.proofs.Common.{refl}
use lib.Utf8.{encode}
use Rattle.std.specs.Fmt.{digits}
use Rattle.std.specs.Str.{chars}
use Rattle.weight_tables.specs.Harmonic.{harmonic_weight, harmonic_weights}
use Rattle.weight_tables.specs.Weights.{selected}
use Rattle.draw_values.specs.Dates.{date_text, month_from, year_from}
use Rattle.draw_values.specs.Uuids.{uuid_text}
use Rattle.uuid.specs.Text.{by_index}
use Rattle.line_pages.specs.Digits.{last_digits}
use Rattle.draw_values.proofs.laws.worked_values.Goals as goal

pub returns-clause-int : goal.returns-clause-int
unfolding digits
returns-clause-int c = refl

pub returns-clause-fixed : goal.returns-clause-fixed
unfolding digits last_digits
returns-clause-fixed c = refl

pub returns-clause-whole : goal.returns-clause-whole
unfolding digits
returns-clause-whole c = refl

pub returns-clause-date : goal.returns-clause-date
unfolding date_text year_from month_from last_digits
returns-clause-date c = refl

pub returns-clause-pick : goal.returns-clause-pick
unfolding selected
returns-clause-pick c = refl

pub returns-clause-skew : goal.returns-clause-skew
unfolding digits selected harmonic_weights harmonic_weight
returns-clause-skew c = refl

pub returns-clause-chars : goal.returns-clause-chars
unfolding chars encode
returns-clause-chars c = refl

pub returns-clause-dict : goal.returns-clause-dict
unfolding selected
returns-clause-dict c = refl

pub returns-clause-words : goal.returns-clause-words
unfolding selected
returns-clause-words c = refl

pub returns-clause-uuid : goal.returns-clause-uuid
unfolding uuid_text by_index
returns-clause-uuid c = refl
