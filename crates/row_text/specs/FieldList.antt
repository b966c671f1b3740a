-- Fields one after the other in one buffer.
use Rattle.std.specs.Prelude.{ℕ, ◌≤◌, List, length, map, Option, Some, None}
use Rattle.std.specs.List.{slice_range}
use Rattle.row_text.specs.declared.field_list.Span.{Span}

-- the field of a span of a buffer, null where there is no span
abbrev pub field_in : List ℕ → Option Span → Option (List ℕ)
field_in bytes None = None
field_in bytes (Some span) = Some (slice_range bytes span.start span.end)

-- the fields of a buffer, in order
abbrev pub fields_in : List ℕ → List (Option Span) → List (Option (List ℕ))
fields_in bytes spans = map (field_in bytes) spans

-- a span, if there is one, is a part of the buffer
abbrev pub IsSpanWithin : List ℕ → Option Span → Type 0
IsSpanWithin bytes None = Unit {0}
IsSpanWithin bytes (Some span) = (span.start ≤ span.end) × (span.end ≤ length bytes)
