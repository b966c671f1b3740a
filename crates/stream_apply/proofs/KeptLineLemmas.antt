-- What is true of the lines of a table's text and of streams is true of the lines that they make in turn.
use Rattle.std.proofs.Common.{ℕ, All, List, [], ◌∷◌, fold}
use Rattle.std.specs.Prelude.{⊤}
use Rattle.std.specs.Str.{bytes_eq}
use Rattle.std.proofs.lemmas.Bool.{cases_Bool}
use Rattle.std.proofs.Common.{inl, inr}
use Rattle.std.proofs.lemmas.List.Elements.{All-append, All-cons, All-filter, All-head, All-nil, All-tail}
use Rattle.stream_apply.specs.InTurn.{IsAppliedText, IsMadeInTurn, inputs_from, next_kind}
use Rattle.stream_apply.specs.KeyedLines.{KeyedLine, keyed, put}
use Rattle.stream_apply.specs.Streams.{IsStream, made_by}
use Rattle.stream_apply.specs.declared.key_fields.KeyFields.{KeyFields}
use Rattle.stream_apply.specs.declared.kind.InputKind.{InputKind}
use Rattle.stream_apply.specs.declared.kind.InputKind.TheVariants.{Deletes, Inserts, Snapshot, Updates}

-- a fact of each line's text
abbrev pub AllTexts : (List ℕ → Type 0) → List KeyedLine → Type 0
AllTexts P lines = All (λ (line : KeyedLine). P line.text) lines

-- it is true of the lines of bytes, whatever they are a stream for
abbrev pub IsTrueOfLines : (List ℕ → Type 0) → KeyFields → ℕ → List ℕ → Type 0
IsTrueOfLines P keys delimiter bytes =
    (kind : InputKind) (table lines : List KeyedLine) → IsStream keys delimiter kind table bytes lines → AllTexts P lines

-- and of those of inputs, but for what units delete, of which the first is of a kind
abbrev pub IsTrueOfKind : (List ℕ → Type 0) → KeyFields → ℕ → InputKind → List ℕ → Type 0
IsTrueOfKind P keys delimiter Deletes bytes = ⊤
IsTrueOfKind P keys delimiter kind bytes = IsTrueOfLines P keys delimiter bytes

abbrev pub AreTrueFrom : (List ℕ → Type 0) → KeyFields → ℕ → InputKind → List (List ℕ) → Type 0
AreTrueFrom P keys delimiter kind [] = ⊤
AreTrueFrom P keys delimiter kind (bytes ∷ rest) = IsTrueOfKind P keys delimiter kind bytes × AreTrueFrom P keys delimiter (next_kind kind) rest

-- of the inputs of a table, and of what units change in it
abbrev pub AreTrueOfTable : (List ℕ → Type 0) → KeyFields → ℕ → List (List ℕ) → Type 0
AreTrueOfTable P keys delimiter inputs = AreTrueFrom P keys delimiter Snapshot inputs

abbrev pub AreTrueOfChanges : (List ℕ → Type 0) → KeyFields → ℕ → List (List ℕ) → Type 0
AreTrueOfChanges P keys delimiter inputs = AreTrueFrom P keys delimiter Deletes inputs

all-put : (P : List ℕ → Type 0) (table : List KeyedLine) (line : KeyedLine) → AllTexts P table → P line.text → AllTexts P (put table line)
all-put P [] line all is = All-cons (λ (l : KeyedLine). P l.text) line [] is (All-nil (λ (l : KeyedLine). P l.text))
all-put P (first ∷ table) line all is =
    let Is : KeyedLine → Type 0 = λ (l : KeyedLine). P l.text in
    elim (cases_Bool (bytes_eq line.key first.key)) [
      | inl same ↦ rw same (All-cons Is (keyed first.key line.text) table is (All-tail Is first table all))
      | inr other ↦ rw other (All-cons Is first (put table line) (All-head Is first table all) (all-put P table line (All-tail Is first table all) is))
    ]

all-each : (P : List ℕ → Type 0) (table lines : List KeyedLine) → AllTexts P table → AllTexts P lines → AllTexts P (fold put table lines)
all-each P table [] all each = all
all-each P table (line ∷ lines) all each =
    let Is : KeyedLine → Type 0 = λ (l : KeyedLine). P l.text in
    all-each P (put table line) lines (all-put P table line all (All-head Is line lines each)) (All-tail Is line lines each)

all-made : (P : List ℕ → Type 0) (keys : KeyFields) (delimiter : ℕ) (kind : InputKind) (bytes : List ℕ) (table lines : List KeyedLine) → AllTexts P table → IsTrueOfKind P keys delimiter kind bytes →
    IsStream keys delimiter kind table bytes lines → AllTexts P (made_by kind table lines)
all-made P keys delimiter Snapshot bytes table lines all true_of stream = true_of Snapshot table lines stream
all-made P keys delimiter Deletes bytes table lines all true_of stream = All-filter _ (λ (l : KeyedLine). P l.text) table all
all-made P keys delimiter Updates bytes table lines all true_of stream = all-each P table lines all (true_of Updates table lines stream)
all-made P keys delimiter Inserts bytes table lines all true_of stream = All-append (λ (l : KeyedLine). P l.text) table lines all (true_of Inserts table lines stream)

all-in_turn : (P : List ℕ → Type 0) (keys : KeyFields) (delimiter : ℕ) (kind : InputKind) (inputs : List (List ℕ)) (before after : List KeyedLine) → AllTexts P before → AreTrueFrom P keys delimiter kind inputs →
    IsMadeInTurn keys delimiter (inputs_from kind inputs) before after → AllTexts P after
all-in_turn P keys delimiter kind [] before after all true_of same = rw same at all
all-in_turn P keys delimiter kind (bytes ∷ rest) before after all true_of made =
    all-in_turn P keys delimiter (next_kind kind) rest (made_by kind before made.0) after (all-made P keys delimiter kind bytes before made.0 all true_of.0 made.1) true_of.1 made.2

-- the lines of a text that inputs make
pub applied-all : (P : List ℕ → Type 0) (keys : KeyFields) (delimiter : ℕ) (inputs : List (List ℕ)) (text : List ℕ) → AreTrueOfTable P keys delimiter inputs → (is : IsAppliedText keys delimiter inputs text) →
    AllTexts P is.lines
applied-all P keys delimiter inputs text true_of is = all-in_turn P keys delimiter Snapshot inputs [] is.lines (All-nil (λ (l : KeyedLine). P l.text)) true_of is.made
