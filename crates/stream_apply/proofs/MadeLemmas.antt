-- What lines make of a table, one after the other.
use Rattle.std.proofs.Common.{◌≡◌, ℕ, zero, suc, ◌+◌, ◌≤◌, ◌<◌, Bool, false, ◌||◌, List, [], ◌∷◌, ◌++◌, All, Option, IfSome, length, take, get_or, slice_get, fold, refl, ap, sym, subst, ◌∙◌, arith, append_assoc, add-one}
use Rattle.std.specs.Str.{bytes_eq}
use Rattle.std.proofs.lemmas.List.{append-nil, take_all, take_more}
use Rattle.std.proofs.lemmas.List.Elements.{All-get_or}
use Rattle.std.proofs.lemmas.List.Folds.{list_any-append}
use Rattle.std.proofs.lemmas.Option.{slice_get-get_or}
use Rattle.stream_apply.specs.KeyedLines.{KeyedLine, has_key, keyed, lines_text, put}
use Rattle.stream_apply.specs.Streams.{IsStream}
use Rattle.stream_apply.specs.declared.key_fields.KeyFields.{KeyFields}
use Rattle.stream_apply.specs.declared.kind.InputKind.TheVariants.{Inserts}
use Rattle.stream_apply.proofs.StreamLemmas.{lines_text-push, put-absent}

abbrev no_line : KeyedLine
no_line = keyed [] []

-- what is read of the line at a place
got : (P : KeyedLine → Type 0) (lines : List KeyedLine) (i : ℕ) → i < length lines → IfSome (slice_get lines i) P → P (get_or lines i no_line)
got P lines i below holds = subst (λ (o : Option KeyedLine). IfSome o P) (slice_get-get_or lines i no_line below) holds

fold-push : (table lines : List KeyedLine) (line : KeyedLine) → fold put table (lines ++ line ∷ []) ≡ put (fold put table lines) line
fold-push table [] line = refl
fold-push table (first ∷ lines) line = fold-push (put table first) lines line

-- one line more
line-at : (line : KeyedLine) (key text : List ℕ) → line.key ≡ key → line.text ≡ text → line ≡ keyed key text
line-at line key text key_is text_is = ap (λ (k : List ℕ). keyed k line.text) key_is ∙ ap (keyed key) text_is

pub put_all-more : (table now next lines : List KeyedLine) (i : ℕ) (key text : List ℕ) → i < length lines → now ≡ fold put table (take i lines) → IfSome (slice_get lines i) (λ line. line.key ≡ key) → IfSome (slice_get lines i) (λ line. line.text ≡ text) → next ≡ put now (keyed key text) → next ≡ fold put table (take (i + 1) lines)
put_all-more table now next lines i key text below so_far key_is text_is is =
    let line : KeyedLine = get_or lines i no_line in
    let same : line ≡ keyed key text =
    line-at line key text (got (λ (l : KeyedLine). l.key ≡ key) lines i below key_is) (got (λ (l : KeyedLine). l.text ≡ text) lines i below text_is) in
    is
    ∙ ap (λ (ls : List KeyedLine). put ls (keyed key text)) so_far
    ∙ ap (put (fold put table (take i lines))) (sym same)
    ∙ sym (fold-push table (take i lines) line)
    ∙ ap (fold put table) (sym (take_more lines i no_line below))

pub text-more : (lines : List KeyedLine) (i : ℕ) (text old now : List ℕ) → i < length lines → old ≡ lines_text (take i lines) → IfSome (slice_get lines i) (λ line. line.text ≡ text) → now ≡ old ++ (text ++ 10 ∷ []) → now ≡ lines_text (take (i + 1) lines)
text-more lines i text old now below so_far text_is is =
    let line : KeyedLine = get_or lines i no_line in
    is
    ∙ ap (λ (t : List ℕ). t ++ (text ++ 10 ∷ [])) so_far
    ∙ ap (λ (t : List ℕ). lines_text (take i lines) ++ (t ++ 10 ∷ [])) (sym (got (λ (l : KeyedLine). l.text ≡ text) lines i below text_is))
    ∙ sym (lines_text-push (take i lines) line)
    ∙ ap lines_text (sym (take_more lines i no_line below))

-- lines whose keys are new go after the others
new-keys : (table lines : List KeyedLine) → All (λ (line : KeyedLine). has_key table line.key ≡ false) lines → ((i : ℕ) (d : KeyedLine) → i < length lines → has_key (take i lines) (get_or lines i d).key ≡ false) → (n : ℕ) → n ≤ length lines → fold put table (take n lines) ≡ table ++ take n lines
new-keys table lines free apart zero within = sym (append-nil table)
new-keys table lines free apart (suc n) within =
    let below : n < length lines = omega arith in
    let line : KeyedLine = get_or lines n no_line in
    let more : take (suc n) lines ≡ take n lines ++ line ∷ [] = ap (λ (m : ℕ). take m lines) (sym (add-one n)) ∙ take_more lines n no_line below in
    let before : fold put table (take n lines) ≡ table ++ take n lines = new-keys table lines free apart n (omega arith) in
    let absent : has_key (table ++ take n lines) line.key ≡ false =
    list_any-append (λ (l : KeyedLine). bytes_eq line.key l.key) table (take n lines)
    ∙ ap (λ (b : Bool). b || has_key (take n lines) line.key) (All-get_or (λ (l : KeyedLine). has_key table l.key ≡ false) lines n no_line below free)
    ∙ apart n no_line below in
    ap (fold put table) more
    ∙ fold-push table (take n lines) line
    ∙ ap (λ (ls : List KeyedLine). put ls line) before
    ∙ put-absent (table ++ take n lines) line absent
    ∙ append_assoc table (take n lines) (line ∷ [])
    ∙ ap (λ (ls : List KeyedLine). table ++ ls) (sym more)

pub insert-appends : (keys : KeyFields) (delimiter : ℕ) (table lines : List KeyedLine) (bytes : List ℕ) → IsStream keys delimiter Inserts table bytes lines → fold put table lines ≡ table ++ lines
insert-appends keys delimiter table lines bytes stream =
    let all : take (length lines) lines ≡ lines = take_all (length lines) lines (omega arith) in
    ap (fold put table) (sym all)
    ∙ new-keys table lines stream.held stream.apart (length lines) (omega arith)
    ∙ ap (λ (ls : List KeyedLine). table ++ ls) all
