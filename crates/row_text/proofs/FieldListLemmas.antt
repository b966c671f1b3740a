-- Fields one after the other in one buffer.
use Rattle.std.proofs.Common.{◌≡◌, ℕ, ◌+◌, ◌-◌, ◌≤◌, List, [], ◌∷◌, ◌++◌, length, take, drop, Option, Some, None, All, refl, ap, sym, ◌∙◌, arith, length-append, length-drop}
use Rattle.std.specs.List.{slice_range}
use Rattle.std.proofs.lemmas.List.{drop-append-le, take-append-le, drop_at, take_all, map_push}
use Rattle.std.proofs.lemmas.List.Elements.{All-head, All-tail, All-weaker}
use Rattle.row_text.specs.FieldList.{field_in, fields_in, IsSpanWithin}
use Rattle.row_text.specs.declared.field_list.Span.{Span}

-- more bytes after a buffer leave its fields
field_in-append : (bytes more : List ℕ) (span : Option Span) → IsSpanWithin bytes span → field_in (bytes ++ more) span ≡ field_in bytes span
field_in-append bytes more None within = refl
field_in-append bytes more (Some span) within =
    let before : span.start ≤ length bytes = omega arith in
    let left : span.end - span.start ≤ length (drop span.start bytes) = omega (arith, length-drop span.start bytes) in
    ap Some (ap (take (span.end - span.start)) (drop-append-le span.start bytes more before) ∙ take-append-le (span.end - span.start) (drop span.start bytes) more left)

pub fields_in-append : (bytes more : List ℕ) (spans : List (Option Span)) → All (IsSpanWithin bytes) spans → fields_in (bytes ++ more) spans ≡ fields_in bytes spans
fields_in-append bytes more [] within = refl
fields_in-append bytes more (span ∷ spans) within =
    let first = field_in-append bytes more span (All-head (IsSpanWithin bytes) span spans within) in
    let others = fields_in-append bytes more spans (All-tail (IsSpanWithin bytes) span spans within) in
    cc

IsSpanWithin-append : (bytes more : List ℕ) (span : Option Span) → IsSpanWithin bytes span → IsSpanWithin (bytes ++ more) span
IsSpanWithin-append bytes more None within = tt
IsSpanWithin-append bytes more (Some span) within = (within.0, omega (arith, length-append bytes more))

pub All-IsSpanWithin-append : (bytes more : List ℕ) (spans : List (Option Span)) → All (IsSpanWithin bytes) spans → All (IsSpanWithin (bytes ++ more)) spans
All-IsSpanWithin-append bytes more spans within = All-weaker (IsSpanWithin bytes) (IsSpanWithin (bytes ++ more)) (IsSpanWithin-append bytes more) spans within

-- a text after the others
pub fields_in-push : (bytes text : List ℕ) (spans : List (Option Span)) (start end : ℕ) → All (IsSpanWithin bytes) spans → start ≡ length bytes → end ≡ length bytes + length text → fields_in (bytes ++ text) (spans ++ Some (record { start = start; end = end }) ∷ []) ≡ fields_in bytes spans ++ Some text ∷ []
fields_in-push bytes text spans start end within start_is end_is =
    let all : length text ≤ end - start = omega arith in
    let own : slice_range (bytes ++ text) start end ≡ text = ap (take (end - start)) (drop_at bytes text start (sym start_is)) ∙ take_all (end - start) text all in
    map_push (field_in (bytes ++ text)) spans (Some (record { start = start; end = end }))
    ∙ ap (λ (fields : List (Option (List ℕ))). fields ++ Some (slice_range (bytes ++ text) start end) ∷ []) (fields_in-append bytes text spans within)
    ∙ ap (λ (xs : List ℕ). fields_in bytes spans ++ Some xs ∷ []) own

pub IsSpanWithin-pushed : (bytes text : List ℕ) (start end : ℕ) → start ≡ length bytes → end ≡ length bytes + length text → IsSpanWithin (bytes ++ text) (Some (record { start = start; end = end }))
IsSpanWithin-pushed bytes text start end start_is end_is = (omega arith, omega (arith, length-append bytes text))
