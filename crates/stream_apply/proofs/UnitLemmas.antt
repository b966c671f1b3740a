-- What the streams of units make of lines of numbers, each with a key of its own.
use Rattle.std.proofs.Common.{◌≡◌, ℕ, ◌+◌, ◌<◌, ◌≤◌, Bool, true, false, not, ◌&&◌, Option, Some, List, [], ◌∷◌, ◌++◌, length, length-append, refl, ap, arith, sym, subst, ◌∙◌}
use Rattle.std.proofs.lemmas.Bool.{true≢false}
use Rattle.std.proofs.lemmas.List.{append-nil, length-map}
use Rattle.row_text.specs.Lines.{line_text}
use Rattle.stream_apply.specs.InTurn.{IsAppliedText, IsMadeInTurn, inputs_from}
use Rattle.stream_apply.specs.KeyedLines.{KeyedLine, has_key, keyed, lines_text}
use Rattle.stream_apply.specs.Streams.{IsKeyedLine, IsLoaded, IsStream, holds_keys_alone, key_count, text_fields, wants_held, with_each, without}
use Rattle.stream_apply.specs.declared.key_fields.KeyFields.{KeyFields}
use Rattle.stream_apply.specs.declared.kind.InputKind.{InputKind}
use Rattle.stream_apply.specs.declared.kind.InputKind.TheVariants.{Deletes, Inserts, Snapshot, Updates}
use Rattle.stream_apply.proofs.LineLemmas.{key_count-some}
use Rattle.stream_apply.proofs.NumberedLineLemmas.{AreKeys, has_key-inside, has_key-outside, lines_in, lines_in-all, lines_in-apart, lines_in-append, with_each-lines_in, without-lines_in}

-- a table before and after the streams of units, in the order in which they are applied
abbrev pub IsMadeByUnits : KeyFields → ℕ → List (List ℕ) → List KeyedLine → List KeyedLine → Type 0
IsMadeByUnits keys delimiter streams before after = IsMadeInTurn keys delimiter (inputs_from Deletes streams) before after

-- a text that is written from fields of which as many as a key has are texts, and these as they are written
pub record IsKeyedText (keys : KeyFields) (delimiter : ℕ) (key text : List ℕ) : Type 0 where
  pub front : List (List ℕ)
  pub others : List (Option (List ℕ))
  pub count : length front ≡ key_count keys
  pub written : text ≡ line_text delimiter (text_fields front ++ others)
  pub key_written : key ≡ line_text delimiter (text_fields front)

-- it is a line of each stream but of one of keys alone
pub keyed-whole : (keys : KeyFields) (delimiter : ℕ) (kind : InputKind) (key text : List ℕ) → holds_keys_alone kind ≡ false → IsKeyedText keys delimiter key text →
    IsKeyedLine keys delimiter kind (keyed key text)
keyed-whole keys delimiter kind key text whole is = record {
  fields = text_fields is.front ++ is.others;
  front = is.front;
  others = is.others;
  body = record {
    some = omega (arith, key_count-some keys, is.count, length-map is.front (λ (text : List ℕ). Some text), length-append (text_fields is.front) is.others);
    written = is.written;
  };
  parts = record { count = is.count; is = refl; alone = λ alone. absurd (true≢false (sym alone ∙ whole)) };
  key = is.key_written;
}

-- and its key is a line of keys alone
pub keyed-alone : (keys : KeyFields) (delimiter : ℕ) (key text : List ℕ) → IsKeyedText keys delimiter key text → IsKeyedLine keys delimiter Deletes (keyed key key)
keyed-alone keys delimiter key text is = record {
  fields = text_fields is.front;
  front = is.front;
  others = [];
  body = record { some = omega (arith, key_count-some keys, is.count, length-map is.front (λ (text : List ℕ). Some text)); written = is.key_written };
  parts = record { count = is.count; is = sym (append-nil (text_fields is.front)); alone = λ alone. refl };
  key = is.key_written;
}

module _ (keys : KeyFields) (delimiter : ℕ) (key : ℕ → List ℕ) (size : ℕ) (one_to_one : AreKeys key size) where
  -- lines of numbers are those of a stream
  stream-lines_in : (kind : InputKind) (table : List KeyedLine) (text : ℕ → List ℕ) (p : ℕ → Bool) (a n : ℕ) → a + n ≤ size →
      ((j : ℕ) → a ≤ j → j < a + n → p j ≡ true → IsKeyedLine keys delimiter kind (keyed (key j) (text j))) →
      ((j : ℕ) → a ≤ j → j < a + n → p j ≡ true → has_key table (key j) ≡ wants_held kind) →
      IsStream keys delimiter kind table (lines_text (lines_in key text p a n)) (lines_in key text p a n)
  stream-lines_in kind table text p a n within keyed_lines held = record {
    text = refl;
    keyed = lines_in-all (IsKeyedLine keys delimiter kind) key text p a n keyed_lines;
    apart = lines_in-apart key size one_to_one text p a n within;
    held = lines_in-all (λ (line : KeyedLine). has_key table line.key ≡ wants_held kind) key text p a n held;
  }

  -- a table's text is read as its lines
  pub loaded-lines : (text : ℕ → List ℕ) (p : ℕ → Bool) (a n : ℕ) → a + n ≤ size → ((j : ℕ) → a ≤ j → j < a + n → IsKeyedText keys delimiter (key j) (text j)) →
      IsLoaded (lines_text (lines_in key text p a n)) keys delimiter (record { keys = keys; delimiter = delimiter; lines = lines_in key text p a n })
  loaded-lines text p a n within rows = record {
    known_by = refl;
    delimits = refl;
    read = stream-lines_in Snapshot [] text p a n within (λ j low high passes. keyed-whole keys delimiter Snapshot (key j) (text j) refl (rows j low high)) (λ j low high passes. refl);
  }

  -- a table's text and the streams of units after it
  made-table : (text : ℕ → List ℕ) (p : ℕ → Bool) (a n : ℕ) (streams : List (List ℕ)) (last : List KeyedLine) → a + n ≤ size →
      ((j : ℕ) → a ≤ j → j < a + n → IsKeyedText keys delimiter (key j) (text j)) →
      IsMadeByUnits keys delimiter streams (lines_in key text p a n) last →
      IsMadeInTurn keys delimiter (inputs_from Snapshot (lines_text (lines_in key text p a n) ∷ streams)) [] last
  made-table text p a n streams last within rows made = (
    lines_in key text p a n,
    (loaded-lines text p a n within rows).read,
    made,
  )

  -- so they are applied to that text
  pub applied-units : (table after : List ℕ) (text : ℕ → List ℕ) (p : ℕ → Bool) (a n : ℕ) (streams : List (List ℕ)) (last : List KeyedLine) →
      a + n ≤ size →
      ((j : ℕ) → a ≤ j → j < a + n → IsKeyedText keys delimiter (key j) (text j)) →
      table ≡ lines_text (lines_in key text p a n) → after ≡ lines_text last →
      IsMadeByUnits keys delimiter streams (lines_in key text p a n) last → IsAppliedText keys delimiter (table ∷ streams) after
  applied-units table after text p a n streams last within rows table_is after_is made = record {
    lines = last;
    made = subst (λ (bytes : List ℕ). IsMadeInTurn keys delimiter (inputs_from Snapshot (bytes ∷ streams)) [] last) (sym table_is)
        (made-table text p a n streams last within rows made);
    is = after_is;
  }

  -- the streams of a unit, where numbers below a first one drop out, others have new texts, and further ones come last, and the
  -- streams of units after it
  pub made-unit : (old new : ℕ → List ℕ) (before dies changes live : ℕ → Bool) (first count : ℕ) (streams : List (List ℕ)) (last : List KeyedLine) →
      first + count ≤ size →
      ((j : ℕ) → j < first + count → IsKeyedText keys delimiter (key j) (new j)) →
      ((j : ℕ) → j < first → dies j ≡ true → before j ≡ true) →
      ((j : ℕ) → j < first → (before j && not (dies j)) ≡ live j) →
      ((j : ℕ) → j < first → changes j ≡ true → live j ≡ true) →
      ((j : ℕ) → j < first → live j ≡ true → changes j ≡ false → old j ≡ new j) →
      IsMadeByUnits keys delimiter streams (lines_in key new live 0 (first + count)) last →
      IsMadeByUnits keys delimiter
      (lines_text (lines_in key key dies 0 first) ∷ lines_text (lines_in key new changes 0 first) ∷ lines_text (lines_in key new live first count) ∷ streams)
      (lines_in key old before 0 first) last
  made-unit old new before dies changes live first count streams last within rows were left among still made =
      let dropped : List KeyedLine = lines_in key key dies 0 first in
      let replaced : List KeyedLine = lines_in key new changes 0 first in
      let added : List KeyedLine = lines_in key new live first count in
      let table : List KeyedLine = lines_in key old before 0 first in
      let kept : List KeyedLine = lines_in key old live 0 first in
      let changed : List KeyedLine = lines_in key new live 0 first in
      let kept_is : without table dropped ≡ kept =
      without-lines_in dropped key old before live 0 first (λ j low high.
      ap (λ (held : Bool). before j && not held) (has_key-inside key size one_to_one key dies 0 first j (omega (arith, within)) low high) ∙ left j (omega (arith, high))) in
      let changed_is : with_each kept replaced ≡ changed =
      with_each-lines_in key size one_to_one old new live changes 0 first (omega (arith, within))
      (λ j low high at. among j (omega (arith, high)) at) (λ j low high alive rests. still j (omega (arith, high)) alive rests) in
      let start : 0 + first ≡ first = omega arith in
      let all : changed ++ added ≡ lines_in key new live 0 (first + count) =
      ap (λ (a : ℕ). changed ++ lines_in key new live a count) (sym start) ∙ lines_in-append key new live 0 first count in (
        dropped,
        stream-lines_in Deletes table key dies 0 first (omega (arith, within))
            (λ j low high at. keyed-alone keys delimiter (key j) (new j) (rows j (omega (arith, high))))
            (λ j low high at. has_key-inside key size one_to_one old before 0 first j (omega (arith, within)) low high ∙ were j (omega (arith, high)) at),
        subst (λ (lines : List KeyedLine). IsMadeInTurn keys delimiter (inputs_from Updates (lines_text replaced ∷ lines_text added ∷ streams)) lines last) (sym kept_is) (
          replaced,
          stream-lines_in Updates kept new changes 0 first (omega (arith, within))
              (λ j low high at. keyed-whole keys delimiter Updates (key j) (new j) refl (rows j (omega (arith, high))))
              (λ j low high at. has_key-inside key size one_to_one old live 0 first j (omega (arith, within)) low high ∙ among j (omega (arith, high)) at),
          subst (λ (lines : List KeyedLine). IsMadeInTurn keys delimiter (inputs_from Inserts (lines_text added ∷ streams)) lines last) (sym changed_is) (
            added,
            stream-lines_in Inserts changed new live first count within
                (λ j low high at. keyed-whole keys delimiter Inserts (key j) (new j) refl (rows j high))
                (λ j low high at. has_key-outside key size one_to_one new live 0 first j (omega (arith, within)) (omega (arith, high, within)) (λ k from below same. omega (arith, below, same, low))),
            subst (λ (lines : List KeyedLine). IsMadeInTurn keys delimiter (inputs_from Deletes streams) lines last) (sym all) made,
          ),
        ),
      )
