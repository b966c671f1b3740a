-- A stream that is read line by line.
use Rattle.std.proofs.Common.{◌≡◌, ℕ, zero, suc, ◌==◌, Option, None, Some, MatchOption, ◌+◌, ◌≤◌, ◌<◌, Bool, true, false, ◌||◌, List, [], ◌∷◌, ◌++◌, length, take, get_or, if◌then◌else◌, refl, ap, sym, subst, ◌∙◌, inl, inr, arith, append_assoc, length-append}
use Rattle.std.specs.Str.{bytes_eq}
use Rattle.std.proofs.lemmas.List.{append-nil, take-append-le, take_at, get_or_append_left, get_or_push, length_push, nil_from_length}
use Rattle.std.proofs.lemmas.List.Concat.{flat_map-append}
use Rattle.std.proofs.lemmas.List.Elements.{All-nil, All-push}
use Rattle.std.proofs.lemmas.Bool.{cases_lt, true≢false}
use Rattle.stream_apply.specs.KeyedLines.{KeyedLine, has_key, keyed, lines_text, put}
use Rattle.stream_apply.specs.Streams.{IsKeyedLine, IsReadTo, IsStream, wants_held}
use Rattle.stream_apply.specs.declared.key_fields.KeyFields.{KeyFields}
use Rattle.stream_apply.specs.declared.kind.InputKind.{InputKind}

-- a line with a new key goes after the others
pub put-absent : (lines : List KeyedLine) (line : KeyedLine) → has_key lines line.key ≡ false → put lines line ≡ lines ++ line ∷ []
put-absent [] line absent = refl
put-absent (first ∷ lines) line absent = by (bytes_eq line.key first.key) refl (put-absent lines line)
  where
    by : (b : Bool) → bytes_eq line.key first.key ≡ b → (has_key lines line.key ≡ false → put lines line ≡ lines ++ line ∷ []) → put (first ∷ lines) line ≡ (first ∷ lines) ++ line ∷ []
    by true is behind = absurd (true≢false (sym (ap (λ (c : Bool). c || has_key lines line.key) is) ∙ absent))
    by false is behind =
        ap (λ (c : Bool). if c then keyed first.key line.text ∷ lines else first ∷ put lines line) is
        ∙ ap (λ (ls : List KeyedLine). first ∷ ls) (behind (sym (ap (λ (c : Bool). c || has_key lines line.key) is) ∙ absent))

pub lines_text-push : (lines : List KeyedLine) (line : KeyedLine) → lines_text (lines ++ line ∷ []) ≡ lines_text lines ++ (line.text ++ 10 ∷ [])
lines_text-push lines line =
    flat_map-append (λ (l : KeyedLine). l.text ++ 10 ∷ []) lines (line ∷ [])
    ∙ ap (λ (t : List ℕ). lines_text lines ++ t) (append-nil (line.text ++ 10 ∷ []))

-- before the first line
pub read-none : (keys : KeyFields) (delimiter : ℕ) (kind : InputKind) (table : List KeyedLine) (bytes : List ℕ) → IsReadTo keys delimiter kind table bytes [] bytes
read-none keys delimiter kind table bytes = record {
  text = refl;
  lines_read = record {
    text = refl;
    keyed = All-nil (IsKeyedLine keys delimiter kind);
    apart = λ i d below. absurd (omega arith);
    held = All-nil (λ (line : KeyedLine). has_key table line.key ≡ wants_held kind);
  };
}

-- a line more
apart-push : (lines : List KeyedLine) (line : KeyedLine) → ((i : ℕ) (d : KeyedLine) → i < length lines → has_key (take i lines) (get_or lines i d).key ≡ false) → has_key lines line.key ≡ false → (i : ℕ) (d : KeyedLine) → i < length (lines ++ line ∷ []) → has_key (take i (lines ++ line ∷ [])) (get_or (lines ++ line ∷ []) i d).key ≡ false
apart-push lines line apart free i d below =
    elim (cases_lt i (length lines)) [
      | inl early ↦
          ap (λ (ls : List KeyedLine). has_key ls (get_or (lines ++ line ∷ []) i d).key) (take-append-le i lines (line ∷ []) (omega arith))
          ∙ ap (λ (l : KeyedLine). has_key (take i lines) l.key) (get_or_append_left lines (line ∷ []) d i early)
          ∙ apart i d early
      | inr late ↦
          let last : length lines ≡ i = omega (arith, length_push lines line) in
          ap (λ (ls : List KeyedLine). has_key ls (get_or (lines ++ line ∷ []) i d).key) (take_at lines (line ∷ []) i last)
          ∙ ap (λ (l : KeyedLine). has_key lines l.key) (get_or_push lines line d i last)
          ∙ free
    ]

pub read-more : (keys : KeyFields) (delimiter : ℕ) (kind : InputKind) (table lines now : List KeyedLine) (line : KeyedLine) (bytes rest behind : List ℕ) → IsReadTo keys delimiter kind table bytes lines rest → IsKeyedLine keys delimiter kind line → rest ≡ line.text ++ 10 ∷ behind → has_key lines line.key ≡ false → has_key table line.key ≡ wants_held kind → now ≡ put lines line → IsReadTo keys delimiter kind table bytes now behind
read-more keys delimiter kind table lines now line bytes rest behind read keyed_line cut free held is =
    let pushed : now ≡ lines ++ line ∷ [] = is ∙ put-absent lines line free in
    let stream = read.lines_read in
    let whole : bytes ≡ lines_text (lines ++ line ∷ []) ++ behind =
    read.text
    ∙ ap (λ (t : List ℕ). lines_text lines ++ t) (cut ∙ sym (append_assoc line.text (10 ∷ []) behind))
    ∙ sym (append_assoc (lines_text lines) (line.text ++ 10 ∷ []) behind)
    ∙ ap (λ (t : List ℕ). t ++ behind) (sym (lines_text-push lines line)) in
    subst (λ (ls : List KeyedLine). IsReadTo keys delimiter kind table bytes ls behind) (sym pushed) (record {
      text = whole;
      lines_read = record {
        text = refl;
        keyed = All-push (IsKeyedLine keys delimiter kind) lines line stream.keyed keyed_line;
        apart = apart-push lines line stream.apart free;
        held = All-push (λ (l : KeyedLine). has_key table l.key ≡ wants_held kind) lines line stream.held held;
      };
    })

-- after the last line
pub read-all : (keys : KeyFields) (delimiter : ℕ) (kind : InputKind) (table lines : List KeyedLine) (bytes rest : List ℕ) → IsReadTo keys delimiter kind table bytes lines rest → length rest ≡ 0 → IsStream keys delimiter kind table bytes lines
read-all keys delimiter kind table lines bytes rest read none =
    let all : lines_text lines ≡ bytes = sym (read.text ∙ ap (λ (t : List ℕ). lines_text lines ++ t) (nil_from_length rest none) ∙ append-nil (lines_text lines)) in
    subst (λ (t : List ℕ). IsStream keys delimiter kind table t lines) all read.lines_read

-- there are no more lines than bytes
lines-within : (lines : List KeyedLine) → length lines ≤ length (lines_text lines)
lines-within [] = omega arith
lines-within (line ∷ lines) = omega (arith, lines-within lines, length-append (line.text ++ 10 ∷ []) (lines_text lines), length-append line.text (10 ∷ []))

pub lines-below : (keys : KeyFields) (delimiter : ℕ) (kind : InputKind) (table lines : List KeyedLine) (bytes rest : List ℕ) → IsReadTo keys delimiter kind table bytes lines rest → length lines + length rest ≤ length bytes
lines-below keys delimiter kind table lines bytes rest read = omega (arith, lines-within lines, ap length read.text, length-append (lines_text lines) rest)

-- what is not empty
pub above_zero : (n : ℕ) → (n == 0) ≡ false → 0 < n
above_zero zero is = absurd (true≢false is)
above_zero (suc n) is = omega arith

-- a fact for each variant, at one of them
pub at_none : {A : Type 0} (o : Option A) (P : Type 0) (Q : A → Type 0) → o ≡ None → MatchOption o P Q → P
at_none {A} o P Q is holds = subst (λ (p : Option A). MatchOption p P Q) is holds

pub at_some : {A : Type 0} (o : Option A) (P : Type 0) (Q : A → Type 0) (x : A) → o ≡ Some x → MatchOption o P Q → Q x
at_some {A} o P Q x is holds = subst (λ (p : Option A). MatchOption p P Q) is holds
