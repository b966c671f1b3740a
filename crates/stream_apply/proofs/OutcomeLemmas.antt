-- What a stream is read as: one list of lines, or one first fault.
use Rattle.std.proofs.Common.{◌≡◌, ◌≢◌, ℕ, ◌+◌, ◌<◌, false, List, [], ◌∷◌, ◌++◌, All, ◌⊎◌, inl, inr, length, take, get_or, refl, ap, sym, subst, ◌∙◌, arith, append_assoc, length-append}
use Rattle.std.proofs.lemmas.Bool.{both_ways}
use Rattle.std.proofs.lemmas.List.{append-nil, append_cancel_left, take_at, get_or_at}
use Rattle.std.proofs.lemmas.List.Elements.{All-head, All-tail, All-get_or}
use Rattle.row_text.specs.Fields.{IsDelimiter}
use Rattle.row_text.proofs.ReadLemmas.{IsLineBody-same}
use Rattle.row_text.specs.Lines.{IsLineBody, line_text}
use Rattle.stream_apply.specs.KeyedLines.{KeyedLine, has_key, keyed, lines_text}
use Rattle.stream_apply.specs.Streams.{IsKeyedLine, IsReadTo, IsStream, IsFaultOf, HasBadLine, HasKeyFault, IsKeyFault, text_fields, wants_held}
use Rattle.stream_apply.specs.declared.fault.ApplyFault.{ApplyFault}
use Rattle.stream_apply.specs.declared.fault.ApplyFault.TheVariants.{BadLine, DoubleKey, KeyExists, Memory, NoSuchKey}
use Rattle.stream_apply.specs.declared.key_fields.KeyFields.{KeyFields}
use Rattle.stream_apply.specs.declared.kind.InputKind.{InputKind}
use Rattle.stream_apply.proofs.LineLemmas.{first-cut, front-same, keyed-line_feed}

-- two lines of a stream with one text are one line
pub same-line : (keys : KeyFields) (delimiter : ℕ) → IsDelimiter delimiter → (kind : InputKind) (line other : KeyedLine) → IsKeyedLine keys delimiter kind line → IsKeyedLine keys delimiter kind other → line.text ≡ other.text → line ≡ other
same-line keys delimiter delimits kind line other is other_is texts =
    let fields = IsLineBody-same delimiter delimits is.fields other_is.fields other.text (subst (IsLineBody delimiter is.fields) texts is.body) other_is.body in
    let parts : text_fields is.front ++ is.others ≡ text_fields other_is.front ++ other_is.others = sym is.parts.is ∙ fields ∙ other_is.parts.is in
    let fronts : is.front ≡ other_is.front = front-same is.front other_is.front is.others other_is.others (is.parts.count ∙ sym other_is.parts.count) parts in
    let same : line.key ≡ other.key = is.key ∙ ap (λ (front : List (List ℕ)). line_text delimiter (text_fields front)) fronts ∙ sym other_is.key in
    ap (λ (k : List ℕ). keyed k line.text) same ∙ ap (keyed other.key) texts

-- two starts with a line are one
same-start : (keys : KeyFields) (delimiter : ℕ) → IsDelimiter delimiter → (kind : InputKind) (line other : KeyedLine) (rest behind : List ℕ) → IsKeyedLine keys delimiter kind line → IsKeyedLine keys delimiter kind other → line.text ++ 10 ∷ rest ≡ other.text ++ 10 ∷ behind → (line ≡ other) × (rest ≡ behind)
same-start keys delimiter delimits kind line other rest behind is other_is same =
    let texts = first-cut 10 line.text other.text rest behind (keyed-line_feed keys delimiter delimits kind line is) (keyed-line_feed keys delimiter delimits kind other other_is) same in
    let tails : 10 ∷ rest ≡ 10 ∷ behind = append_cancel_left other.text (10 ∷ rest) (10 ∷ behind) (ap (λ (t : List ℕ). t ++ 10 ∷ rest) (sym texts) ∙ same) in
    let rests : rest ≡ behind = cc in
    (same-line keys delimiter delimits kind line other is other_is texts, rests)

front : (line : KeyedLine) (lines : List KeyedLine) (rest : List ℕ) → lines_text (line ∷ lines) ++ rest ≡ line.text ++ 10 ∷ (lines_text lines ++ rest)
front line lines rest = append_assoc (line.text ++ 10 ∷ []) (lines_text lines) rest ∙ append_assoc line.text (10 ∷ []) (lines_text lines ++ rest)

-- of two readings of the same bytes, one goes on from the other
abbrev GoesOn : List KeyedLine → List ℕ → List KeyedLine → List ℕ → Type 0
GoesOn lines rest others behind = (more : List KeyedLine) × (lines ≡ others ++ more) × (behind ≡ lines_text more ++ rest)

one-of : (keys : KeyFields) (delimiter : ℕ) → IsDelimiter delimiter → (kind : InputKind) (lines others : List KeyedLine) (rest behind : List ℕ) → All (IsKeyedLine keys delimiter kind) lines → All (IsKeyedLine keys delimiter kind) others → lines_text lines ++ rest ≡ lines_text others ++ behind → GoesOn lines rest others behind ⊎ GoesOn others behind lines rest
one-of keys delimiter delimits kind lines [] rest behind all other_all same = inl (lines, refl, sym same)
one-of keys delimiter delimits kind [] (other ∷ others) rest behind all other_all same = inr (other ∷ others, refl, same)
one-of keys delimiter delimits kind (line ∷ lines) (other ∷ others) rest behind all other_all same =
    let both = same-start keys delimiter delimits kind line other (lines_text lines ++ rest) (lines_text others ++ behind)
    (All-head (IsKeyedLine keys delimiter kind) line lines all) (All-head (IsKeyedLine keys delimiter kind) other others other_all)
    (sym (front line lines rest) ∙ same ∙ front other others behind) in
    let firsts : line ≡ other = both.0 in
    elim (one-of keys delimiter delimits kind lines others rest behind (All-tail (IsKeyedLine keys delimiter kind) line lines all) (All-tail (IsKeyedLine keys delimiter kind) other others other_all) both.1) [
      | inl on ↦ let more : lines ≡ others ++ on.0 = on.1 in let longer : line ∷ lines ≡ other ∷ (others ++ on.0) = cc in inl (on.0, longer, on.2)
      | inr on ↦ let more : others ≡ lines ++ on.0 = on.1 in let longer : other ∷ others ≡ line ∷ (lines ++ on.0) = cc in inr (on.0, longer, on.2)
    ]

pub one-way : (keys : KeyFields) (delimiter : ℕ) → IsDelimiter delimiter → (kind : InputKind) (lines others : List KeyedLine) → All (IsKeyedLine keys delimiter kind) lines → All (IsKeyedLine keys delimiter kind) others → lines_text lines ≡ lines_text others → lines ≡ others
one-way keys delimiter delimits kind [] [] all other_all same = refl
one-way keys delimiter delimits kind [] (other ∷ others) all other_all same =
    absurd (omega (arith, ap length same, length-append (other.text ++ 10 ∷ []) (lines_text others), length-append other.text (10 ∷ [])))
one-way keys delimiter delimits kind (line ∷ lines) [] all other_all same =
    absurd (omega (arith, ap length same, length-append (line.text ++ 10 ∷ []) (lines_text lines), length-append line.text (10 ∷ [])))
one-way keys delimiter delimits kind (line ∷ lines) (other ∷ others) all other_all same =
    let both = same-start keys delimiter delimits kind line other (lines_text lines) (lines_text others)
    (All-head (IsKeyedLine keys delimiter kind) line lines all) (All-head (IsKeyedLine keys delimiter kind) other others other_all)
    (sym (append_assoc line.text (10 ∷ []) (lines_text lines)) ∙ same ∙ append_assoc other.text (10 ∷ []) (lines_text others)) in
    let firsts : line ≡ other = both.0 in
    let tails : lines ≡ others = one-way keys delimiter delimits kind lines others (All-tail (IsKeyedLine keys delimiter kind) line lines all) (All-tail (IsKeyedLine keys delimiter kind) other others other_all) both.1 in
    cc

-- a fault is of the line or of its key
split : (keys : KeyFields) (delimiter : ℕ) (kind : InputKind) (table : List KeyedLine) (bytes : List ℕ) (fault : ApplyFault) → IsFaultOf keys delimiter kind table bytes fault → fault ≢ Memory → ((line : ℕ) × (fault ≡ BadLine line) × HasBadLine keys delimiter kind table bytes line) ⊎ HasKeyFault keys delimiter kind table bytes fault
split keys delimiter kind table bytes (BadLine line) is other = inl (line, refl, is)
split keys delimiter kind table bytes (DoubleKey line) is other = inr is
split keys delimiter kind table bytes (NoSuchKey line) is other = inr is
split keys delimiter kind table bytes (KeyExists line) is other = inr is
split keys delimiter kind table bytes Memory is other = absurd (other refl)

-- a key with no fault
key-none : (kind : InputKind) (table before : List KeyedLine) (key : List ℕ) (number : ℕ) (fault : ApplyFault) → IsKeyFault kind table before key number fault → fault ≢ Memory → has_key before key ≡ false → has_key table key ≡ wants_held kind → ⊥
key-none kind table before key number (BadLine line) is other free held = is
key-none kind table before key number (DoubleKey line) is other free held = both_ways _ free is.1
key-none kind table before key number (NoSuchKey line) is other free held = both_ways _ is.3 (held ∙ is.2)
key-none kind table before key number (KeyExists line) is other free held = both_ways _ (held ∙ is.2) is.3
key-none kind table before key number Memory is other free held = other refl

-- a key has one fault
key-one : (kind : InputKind) (table before : List KeyedLine) (key : List ℕ) (number : ℕ) (fault other : ApplyFault) → IsKeyFault kind table before key number fault → IsKeyFault kind table before key number other → fault ≢ Memory → other ≢ Memory → fault ≡ other
key-one kind table before key number (BadLine line) other is other_is known other_known = absurd is
key-one kind table before key number fault (BadLine line) is other_is known other_known = absurd other_is
key-one kind table before key number Memory other is other_is known other_known = absurd (known refl)
key-one kind table before key number fault Memory is other_is known other_known = absurd (other_known refl)
key-one kind table before key number (DoubleKey line) (DoubleKey line') is other_is known other_known = ap DoubleKey (is.0 ∙ sym other_is.0)
key-one kind table before key number (DoubleKey line) (NoSuchKey line') is other_is known other_known = absurd (both_ways _ other_is.1 is.1)
key-one kind table before key number (DoubleKey line) (KeyExists line') is other_is known other_known = absurd (both_ways _ other_is.1 is.1)
key-one kind table before key number (NoSuchKey line) (DoubleKey line') is other_is known other_known = absurd (both_ways _ is.1 other_is.1)
key-one kind table before key number (NoSuchKey line) (NoSuchKey line') is other_is known other_known = ap NoSuchKey (is.0 ∙ sym other_is.0)
key-one kind table before key number (NoSuchKey line) (KeyExists line') is other_is known other_known = absurd (both_ways _ is.3 other_is.3)
key-one kind table before key number (KeyExists line) (DoubleKey line') is other_is known other_known = absurd (both_ways _ is.1 other_is.1)
key-one kind table before key number (KeyExists line) (NoSuchKey line') is other_is known other_known = absurd (both_ways _ other_is.3 is.3)
key-one kind table before key number (KeyExists line) (KeyExists line') is other_is known other_known = ap KeyExists (is.0 ∙ sym other_is.0)

-- where a fault stands: after lines without one, before a line that has one
record Stop (keys : KeyFields) (delimiter : ℕ) (kind : InputKind) (table : List KeyedLine) (bytes : List ℕ) : Type 0 where
  before : List KeyedLine
  rest : List ℕ
  read : IsReadTo keys delimiter kind table bytes before rest
  more : 0 < length rest
  stops : (line : KeyedLine) (behind : List ℕ) → rest ≡ line.text ++ 10 ∷ behind → IsKeyedLine keys delimiter kind line → has_key before line.key ≡ false → has_key table line.key ≡ wants_held kind → ⊥

stop-bad : (keys : KeyFields) (delimiter : ℕ) (kind : InputKind) (table : List KeyedLine) (bytes : List ℕ) (line : ℕ) → HasBadLine keys delimiter kind table bytes line → Stop keys delimiter kind table bytes
stop-bad keys delimiter kind table bytes line bad = record {
  before = bad.before;
  rest = bad.rest;
  read = bad.read;
  more = bad.more;
  stops = λ next behind is keyed_line _ _. bad.none next behind is keyed_line;
}

stop-key : (keys : KeyFields) (delimiter : ℕ) → IsDelimiter delimiter → (kind : InputKind) (table : List KeyedLine) (bytes : List ℕ) (fault : ApplyFault) → HasKeyFault keys delimiter kind table bytes fault → fault ≢ Memory → Stop keys delimiter kind table bytes
stop-key keys delimiter delimits kind table bytes fault bad known = record {
  before = bad.before;
  rest = bad.line.text ++ 10 ∷ bad.rest;
  read = bad.read;
  more = omega (arith, length-append bad.line.text (10 ∷ bad.rest));
  stops = λ next behind is keyed_line free held.
      let same : bad.line ≡ next = (same-start keys delimiter delimits kind bad.line next bad.rest behind bad.keyed keyed_line is).0 in
      key-none kind table bad.before next.key (length bad.before + 1) fault (subst (λ (l : KeyedLine). IsKeyFault kind table bad.before l.key (length bad.before + 1) fault) same bad.key) known free held;
}

-- lines that are read past such a place have no fault there
passed : (keys : KeyFields) (delimiter : ℕ) (kind : InputKind) (table : List KeyedLine) (bytes : List ℕ) (stop : Stop keys delimiter kind table bytes) (lines : List KeyedLine) (behind : List ℕ) → IsReadTo keys delimiter kind table bytes lines behind → (next : KeyedLine) (more : List KeyedLine) → lines ≡ stop.before ++ next ∷ more → stop.rest ≡ lines_text (next ∷ more) ++ behind → ⊥
passed keys delimiter kind table bytes stop lines behind read next more is rest_is =
    let place : ℕ = length stop.before in
    let below : place < length lines = omega (arith, ap length is, length-append stop.before (next ∷ more)) in
    let at : get_or lines place next ≡ next = ap (λ (ls : List KeyedLine). get_or ls place next) is ∙ get_or_at stop.before next more next place refl in
    let first : take place lines ≡ stop.before = ap (take place) is ∙ take_at stop.before (next ∷ more) place refl in
    let free : has_key stop.before next.key ≡ false =
    sym (ap (λ (ls : List KeyedLine). has_key ls next.key) first) ∙ sym (ap (λ (l : KeyedLine). has_key (take place lines) l.key) at) ∙ read.lines_read.apart place next below in
    stop.stops next (lines_text more ++ behind) (rest_is ∙ front next more behind)
    (subst (IsKeyedLine keys delimiter kind) at (All-get_or (IsKeyedLine keys delimiter kind) lines place next below read.lines_read.keyed))
    free
    (subst (λ (l : KeyedLine). has_key table l.key ≡ wants_held kind) at (All-get_or (λ (l : KeyedLine). has_key table l.key ≡ wants_held kind) lines place next below read.lines_read.held))

-- a stream that is read whole has no fault
stop-none : (keys : KeyFields) (delimiter : ℕ) → IsDelimiter delimiter → (kind : InputKind) (table : List KeyedLine) (bytes : List ℕ) (lines : List KeyedLine) → IsReadTo keys delimiter kind table bytes lines [] → ¬ Stop keys delimiter kind table bytes
stop-none keys delimiter delimits kind table bytes lines read stop =
    elim (one-of keys delimiter delimits kind lines stop.before [] stop.rest read.lines_read.keyed stop.read.lines_read.keyed (sym read.text ∙ stop.read.text)) [
      | inl on ↦ behind on.0 on.1 on.2
      | inr on ↦ omega (arith, stop.more, ap length on.2, length-append (lines_text on.0) stop.rest)
    ]
  where
    behind : (more : List KeyedLine) → lines ≡ stop.before ++ more → stop.rest ≡ lines_text more ++ [] → ⊥
    behind [] is rest_is = omega (arith, stop.more, ap length rest_is)
    behind (next ∷ more) is rest_is = passed keys delimiter kind table bytes stop lines [] read next more is rest_is

stop_of : (keys : KeyFields) (delimiter : ℕ) → IsDelimiter delimiter → (kind : InputKind) (table : List KeyedLine) (bytes : List ℕ) (fault : ApplyFault) → IsFaultOf keys delimiter kind table bytes fault → fault ≢ Memory → Stop keys delimiter kind table bytes
stop_of keys delimiter delimits kind table bytes fault is known =
    elim (split keys delimiter kind table bytes fault is known) [
      | inl bad ↦ stop-bad keys delimiter kind table bytes bad.0 bad.2
      | inr bad ↦ stop-key keys delimiter delimits kind table bytes fault bad known
    ]

pub read-no_fault : (keys : KeyFields) (delimiter : ℕ) (kind : InputKind) (table : List KeyedLine) (bytes : List ℕ) (lines : List KeyedLine) (fault : ApplyFault) → IsDelimiter delimiter → IsStream keys delimiter kind table bytes lines → fault ≢ Memory → ¬ IsFaultOf keys delimiter kind table bytes fault
read-no_fault keys delimiter kind table bytes lines fault delimits stream known is =
    let read : IsReadTo keys delimiter kind table bytes lines [] = record {
      text = stream.text ∙ sym (append-nil (lines_text lines));
      lines_read = subst (λ (t : List ℕ). IsStream keys delimiter kind table t lines) stream.text stream;
    } in
    stop-none keys delimiter delimits kind table bytes lines read (stop_of keys delimiter delimits kind table bytes fault is known)

-- two faults stand at one place
one-place : (keys : KeyFields) (delimiter : ℕ) → IsDelimiter delimiter → (kind : InputKind) (table : List KeyedLine) (bytes : List ℕ) (stop other : Stop keys delimiter kind table bytes) → (stop.before ≡ other.before) × (stop.rest ≡ other.rest)
one-place keys delimiter delimits kind table bytes stop other =
    elim (one-of keys delimiter delimits kind stop.before other.before stop.rest other.rest stop.read.lines_read.keyed other.read.lines_read.keyed (sym stop.read.text ∙ other.read.text)) [
      | inl on ↦ before on.0 on.1 on.2
      | inr on ↦ behind on.0 on.1 on.2
    ]
  where
    before : (more : List KeyedLine) → stop.before ≡ other.before ++ more → other.rest ≡ lines_text more ++ stop.rest → (stop.before ≡ other.before) × (stop.rest ≡ other.rest)
    before [] is rest_is = (is ∙ append-nil other.before, sym rest_is)
    before (next ∷ more) is rest_is = absurd (passed keys delimiter kind table bytes other stop.before stop.rest stop.read next more is rest_is)

    behind : (more : List KeyedLine) → other.before ≡ stop.before ++ more → stop.rest ≡ lines_text more ++ other.rest → (stop.before ≡ other.before) × (stop.rest ≡ other.rest)
    behind [] is rest_is = (sym (is ∙ append-nil stop.before), rest_is)
    behind (next ∷ more) is rest_is = absurd (passed keys delimiter kind table bytes stop other.before other.rest other.read next more is rest_is)

-- a bad line and a line with a key at fault stand at two
bad-or-key : (keys : KeyFields) (delimiter : ℕ) → IsDelimiter delimiter → (kind : InputKind) (table : List KeyedLine) (bytes : List ℕ) (line : ℕ) (fault : ApplyFault) → HasBadLine keys delimiter kind table bytes line → HasKeyFault keys delimiter kind table bytes fault → fault ≢ Memory → ⊥
unfolding stop-bad stop-key
bad-or-key keys delimiter delimits kind table bytes line fault bad key known =
    let place = one-place keys delimiter delimits kind table bytes (stop-bad keys delimiter kind table bytes line bad) (stop-key keys delimiter delimits kind table bytes fault key known) in
    let rests : bad.rest ≡ key.line.text ++ 10 ∷ key.rest = place.1 in
    bad.none key.line key.rest rests key.keyed

two-bad : (keys : KeyFields) (delimiter : ℕ) → IsDelimiter delimiter → (kind : InputKind) (table : List KeyedLine) (bytes : List ℕ) (line other : ℕ) → HasBadLine keys delimiter kind table bytes line → HasBadLine keys delimiter kind table bytes other → line ≡ other
unfolding stop-bad
two-bad keys delimiter delimits kind table bytes line other bad other_bad =
    let place = one-place keys delimiter delimits kind table bytes (stop-bad keys delimiter kind table bytes line bad) (stop-bad keys delimiter kind table bytes other other_bad) in
    let befores : bad.before ≡ other_bad.before = place.0 in
    bad.number ∙ ap (λ (ls : List KeyedLine). length ls + 1) befores ∙ sym other_bad.number

two-keys : (keys : KeyFields) (delimiter : ℕ) → IsDelimiter delimiter → (kind : InputKind) (table : List KeyedLine) (bytes : List ℕ) (fault other : ApplyFault) → HasKeyFault keys delimiter kind table bytes fault → HasKeyFault keys delimiter kind table bytes other → fault ≢ Memory → other ≢ Memory → fault ≡ other
unfolding stop-key
two-keys keys delimiter delimits kind table bytes fault other bad other_bad known other_known =
    let place = one-place keys delimiter delimits kind table bytes (stop-key keys delimiter delimits kind table bytes fault bad known) (stop-key keys delimiter delimits kind table bytes other other_bad other_known) in
    let befores : bad.before ≡ other_bad.before = place.0 in
    let rests : bad.line.text ++ 10 ∷ bad.rest ≡ other_bad.line.text ++ 10 ∷ other_bad.rest = place.1 in
    let lines : bad.line ≡ other_bad.line = (same-start keys delimiter delimits kind bad.line other_bad.line bad.rest other_bad.rest bad.keyed other_bad.keyed rests).0 in
    key-one kind table other_bad.before other_bad.line.key (length other_bad.before + 1) fault other
    (subst (λ (ls : List KeyedLine). IsKeyFault kind table ls other_bad.line.key (length ls + 1) fault) befores
    (subst (λ (l : KeyedLine). IsKeyFault kind table bad.before l.key (length bad.before + 1) fault) lines bad.key))
    other_bad.key known other_known

pub one-fault : (keys : KeyFields) (delimiter : ℕ) (kind : InputKind) (table : List KeyedLine) (bytes : List ℕ) (fault other : ApplyFault) → IsDelimiter delimiter → IsFaultOf keys delimiter kind table bytes fault → IsFaultOf keys delimiter kind table bytes other → fault ≢ Memory → other ≢ Memory → fault ≡ other
one-fault keys delimiter kind table bytes fault other delimits is other_is known other_known =
    elim (split keys delimiter kind table bytes fault is known) [
      | inl bad ↦ elim (split keys delimiter kind table bytes other other_is other_known) [
        | inl other_bad ↦ bad.1 ∙ ap BadLine (two-bad keys delimiter delimits kind table bytes bad.0 other_bad.0 bad.2 other_bad.2) ∙ sym other_bad.1
        | inr key ↦ absurd (bad-or-key keys delimiter delimits kind table bytes bad.0 other bad.2 key other_known)
      ]
      | inr key ↦ elim (split keys delimiter kind table bytes other other_is other_known) [
        | inl other_bad ↦ absurd (bad-or-key keys delimiter delimits kind table bytes other_bad.0 fault other_bad.2 key known)
        | inr other_key ↦ two-keys keys delimiter delimits kind table bytes fault other key other_key known other_known
      ]
    ]
