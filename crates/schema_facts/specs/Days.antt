-- The days that the fields of dated columns show: from a least to a greatest one. Dates, dates of units, dates after dates and lookups of
-- these are dated.
use Rattle.std.specs.Prelude.{ℕ, ℤ, pos, neg_ℤ, ◌*◌, ◌+ℤ◌, ◌&&◌, int_le, if◌then◌else◌, List, Option, Some, None, option_and_then}
use Rattle.schema_facts.specs.declared.column_facts.ColumnFacts.{ColumnFacts}
use Rattle.schema_facts.specs.declared.days.Days.{Days}
use Rattle.schema_facts.specs.FactsBefore.{facts_among, facts_in}
use Rattle.schema_facts.specs.Layout.{LeafLayout, date_leaf, KindLayout, leaf_kind, lookup_kind, unit_date_kind, after_kind}

-- a day where it is from 0001-01-01 to 9999-12-31
abbrev pub in_calendar : ℤ → Option ℤ
in_calendar day = if int_le (neg_ℤ (pos 719162)) day && int_le day (pos 2932896) then Some day else None

-- the days between two ends in the calendar
abbrev pub days_in : Option ℤ → Option ℤ → Option Days
days_in (Some least) (Some greatest) = if int_le least greatest then Some (record { least = least; greatest = greatest }) else None
days_in _ _ = None

-- the days from a least to a greatest one; None where a rule is broken since they aren't all of the years 1 to 9999
abbrev pub days_between : ℤ → ℤ → Option Days
days_between least greatest = days_in (in_calendar least) (in_calendar greatest)

-- those from lo to hi days after others
abbrev pub days_after : ℤ → ℤ → Days → Option Days
days_after lo hi days = days_between (days.least +ℤ lo) (days.greatest +ℤ hi)

-- of a drawn value; None where it isn't a date
abbrev pub days_of_leaf : LeafLayout → Option Days
days_of_leaf (date_leaf lo hi) = days_between lo hi
days_of_leaf _ = None

-- of a column in a schema with a last unit; None where the column isn't dated
abbrev pub days_of_kind : ℕ → List (List ColumnFacts) → List ColumnFacts → KindLayout → Option Days
days_of_kind units earlier before (leaf_kind leaf) = days_of_leaf leaf
days_of_kind units earlier before (unit_date_kind changed start step) = days_between start (start +ℤ pos (step * units))
days_of_kind units earlier before (lookup_kind via parent column) = (facts_in earlier parent column).days
days_of_kind units earlier before (after_kind of lo hi) = option_and_then (days_after lo hi) (facts_among before of).days
days_of_kind units earlier before _ = None
