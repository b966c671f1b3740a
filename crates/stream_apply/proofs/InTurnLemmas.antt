-- Inputs that are applied in turn.
use Rattle.std.proofs.Common.{◌≡◌, ◌≢◌, ◌↔◌, ℕ, zero, suc, ◌+◌, ◌<◌, List, [], ◌∷◌, ◌⊎◌, inl, inr, drop, fold, get_or, length, map, refl, ap, sym, subst, ◌∙◌, arith}
use Rattle.std.proofs.lemmas.List.{drop_more}
use Rattle.row_text.specs.Fields.{IsDelimiter}
use Rattle.stream_apply.specs.InTurn.{HasFaultAt, Input, IsMadeInTurn, inputs_from, next_kind}
use Rattle.stream_apply.specs.KeyedLines.{KeyedLine, put}
use Rattle.stream_apply.specs.Streams.{IsBehind, IsFaultOf, IsStream, made_by}
use Rattle.stream_apply.specs.declared.fault.ApplyFault.{ApplyFault}
use Rattle.stream_apply.specs.declared.fault.ApplyFault.TheVariants.{Memory}
use Rattle.stream_apply.specs.declared.key_fields.KeyFields.{KeyFields}
use Rattle.stream_apply.specs.declared.kind.InputKind.{InputKind}
use Rattle.stream_apply.specs.declared.kind.InputKind.TheVariants.{Inserts, Snapshot, Updates}
use Rattle.stream_apply.proofs.MadeLemmas.{insert-appends}
use Rattle.stream_apply.proofs.OutcomeLemmas.{one-fault, one-way, read-no_fault}

-- inputs of which as many are applied as the place tells: all of them make what the rest makes of the table, and the rest's first fault is theirs
pub record IsReached (keys : KeyFields) (delimiter : ℕ) (inputs rest : List (List ℕ)) (place : ℕ) (kind : InputKind) (table : List KeyedLine) : Type 0 where
  pub made : (after : List KeyedLine) → IsMadeInTurn keys delimiter (inputs_from kind rest) table after → IsMadeInTurn keys delimiter (inputs_from Snapshot inputs) [] after
  pub faults : (more : ℕ) (fault : ApplyFault) → HasFaultAt keys delimiter (inputs_from kind rest) table more fault → HasFaultAt keys delimiter (inputs_from Snapshot inputs) [] (place + more) fault

-- the texts from a place on
pub texts-at : {V : Type 0} (text : V → List ℕ) (inputs : List V) (place : ℕ) (d : V) → place < length inputs → map text (drop place inputs) ≡ text (get_or inputs place d) ∷ map text (drop (place + 1) inputs)
texts-at {V} text inputs place d below = ap (map text) (drop_more inputs place d below)

-- an input more
pub reached-more : (keys : KeyFields) (delimiter : ℕ) (inputs now rest : List (List ℕ)) (bytes : List ℕ) (place : ℕ) (kind next : InputKind) (table made : List KeyedLine) → IsReached keys delimiter inputs now place kind table → now ≡ bytes ∷ rest → (lines : List KeyedLine) × IsStream keys delimiter kind table bytes lines × (made ≡ made_by kind table lines) → next ≡ next_kind kind → IsReached keys delimiter inputs rest (place + 1) next made
reached-more keys delimiter inputs now rest bytes place kind next table made reached is read next_is =
    let lines : List KeyedLine = read.0 in
    let before : IsReached keys delimiter inputs (bytes ∷ rest) place kind table = subst (λ (ls : List (List ℕ)). IsReached keys delimiter inputs ls place kind table) is reached in
    let behind : IsReached keys delimiter inputs rest (place + 1) (next_kind kind) (made_by kind table lines) = record {
      made = λ after rest_made. before.made after (lines, read.1, rest_made);
      faults = λ more fault has.
          let same : place + suc more ≡ place + 1 + more = omega arith in
          subst (λ (p : ℕ). HasFaultAt keys delimiter (inputs_from Snapshot inputs) [] p fault) same (before.faults (suc more) fault (lines, read.1, has));
    } in
    subst (λ (k : InputKind). IsReached keys delimiter inputs rest (place + 1) k made) (sym next_is)
    (subst (IsReached keys delimiter inputs rest (place + 1) (next_kind kind)) (sym read.2) behind)

-- the input at the place has the first fault
pub reached-fault : (keys : KeyFields) (delimiter : ℕ) (inputs now rest : List (List ℕ)) (bytes : List ℕ) (place : ℕ) (kind : InputKind) (table : List KeyedLine) (fault : ApplyFault) → IsReached keys delimiter inputs now place kind table → now ≡ bytes ∷ rest → IsFaultOf keys delimiter kind table bytes fault → HasFaultAt keys delimiter (inputs_from Snapshot inputs) [] place fault
reached-fault keys delimiter inputs now rest bytes place kind table fault reached is has =
    let before : IsReached keys delimiter inputs (bytes ∷ rest) place kind table = subst (λ (ls : List (List ℕ)). IsReached keys delimiter inputs ls place kind table) is reached in
    let same : place + 0 ≡ place = omega arith in
    subst (λ (p : ℕ). HasFaultAt keys delimiter (inputs_from Snapshot inputs) [] p fault) same (before.faults zero fault has)

-- lines that are put into a table, each in its turn
pub put-made : (keys : KeyFields) (delimiter : ℕ) (kind : InputKind) (table now lines : List KeyedLine) (bytes : List ℕ) → (kind ≡ Updates) ⊎ (kind ≡ Inserts) → IsStream keys delimiter kind table bytes lines → now ≡ fold put table lines → now ≡ made_by kind table lines
put-made keys delimiter kind table now lines bytes (inl updates) stream is = is ∙ ap (λ (k : InputKind). made_by k table lines) (sym updates)
put-made keys delimiter kind table now lines bytes (inr inserts) stream is =
    is
    ∙ insert-appends keys delimiter table lines bytes (subst (λ (k : InputKind). IsStream keys delimiter k table bytes lines) inserts stream)
    ∙ ap (λ (k : InputKind). made_by k table lines) (sym inserts)

-- the lines of an input are one list
same-lines : (keys : KeyFields) (delimiter : ℕ) → IsDelimiter delimiter → (kind : InputKind) (table lines others : List KeyedLine) (bytes : List ℕ) → IsStream keys delimiter kind table bytes lines → IsStream keys delimiter kind table bytes others → others ≡ lines
same-lines keys delimiter delimits kind table lines others bytes stream other = one-way keys delimiter delimits kind others lines other.keyed stream.keyed (sym other.text ∙ stream.text)

pub one-made : (keys : KeyFields) (delimiter : ℕ) (inputs : List Input) (before after other : List KeyedLine) → IsDelimiter delimiter → IsMadeInTurn keys delimiter inputs before after → IsMadeInTurn keys delimiter inputs before other → after ≡ other
one-made keys delimiter [] before after other delimits made other_made = sym made ∙ other_made
one-made keys delimiter (input ∷ rest) before after other delimits made other_made =
    let same : other_made.0 ≡ made.0 = same-lines keys delimiter delimits input.kind before made.0 other_made.0 input.bytes made.1 other_made.1 in
    one-made keys delimiter rest (made_by input.kind before made.0) after other delimits made.2
    (subst (λ (ls : List KeyedLine). IsMadeInTurn keys delimiter rest (made_by input.kind before ls) other) same other_made.2)

pub made-no_fault : (keys : KeyFields) (delimiter : ℕ) (inputs : List Input) (before after : List KeyedLine) (place : ℕ) (fault : ApplyFault) → IsDelimiter delimiter → IsMadeInTurn keys delimiter inputs before after → fault ≢ Memory → ¬ HasFaultAt keys delimiter inputs before place fault
made-no_fault keys delimiter [] before after place fault delimits made known has = has
made-no_fault keys delimiter (input ∷ rest) before after zero fault delimits made known has =
    read-no_fault keys delimiter input.kind before input.bytes made.0 fault delimits made.1 known has
made-no_fault keys delimiter (input ∷ rest) before after (suc place) fault delimits made known has =
    let same : has.0 ≡ made.0 = same-lines keys delimiter delimits input.kind before made.0 has.0 input.bytes made.1 has.1 in
    made-no_fault keys delimiter rest (made_by input.kind before made.0) after place fault delimits made.2 known
    (subst (λ (ls : List KeyedLine). HasFaultAt keys delimiter rest (made_by input.kind before ls) place fault) same has.2)

pub one-first : (keys : KeyFields) (delimiter : ℕ) (inputs : List Input) (before : List KeyedLine) (place other_place : ℕ) (fault other : ApplyFault) → IsDelimiter delimiter → HasFaultAt keys delimiter inputs before place fault → HasFaultAt keys delimiter inputs before other_place other → fault ≢ Memory → other ≢ Memory → (place ≡ other_place) × (fault ≡ other)
one-first keys delimiter [] before place other_place fault other delimits has other_has known other_known = absurd has
one-first keys delimiter (input ∷ rest) before zero zero fault other delimits has other_has known other_known =
    (refl, one-fault keys delimiter input.kind before input.bytes fault other delimits has other_has known other_known)
one-first keys delimiter (input ∷ rest) before zero (suc other_place) fault other delimits has other_has known other_known =
    absurd (read-no_fault keys delimiter input.kind before input.bytes other_has.0 fault delimits other_has.1 known has)
one-first keys delimiter (input ∷ rest) before (suc place) zero fault other delimits has other_has known other_known =
    absurd (read-no_fault keys delimiter input.kind before input.bytes has.0 other delimits has.1 other_known other_has)
one-first keys delimiter (input ∷ rest) before (suc place) (suc other_place) fault other delimits has other_has known other_known =
    let same : other_has.0 ≡ has.0 = same-lines keys delimiter delimits input.kind before has.0 other_has.0 input.bytes has.1 other_has.1 in
    let behind = one-first keys delimiter rest (made_by input.kind before has.0) place other_place fault other delimits has.2
    (subst (λ (ls : List KeyedLine). HasFaultAt keys delimiter rest (made_by input.kind before ls) other_place other) same other_has.2) known other_known in
    (ap (λ (p : ℕ). suc p) behind.0, behind.1)

-- the streams of one unit
pub one-unit : (keys : KeyFields) (delimiter : ℕ) (text deletes updates inserts : List ℕ) (lines : List KeyedLine) → IsMadeInTurn keys delimiter (inputs_from Snapshot (text ∷ deletes ∷ updates ∷ inserts ∷ [])) [] lines ↔ IsBehind keys delimiter text deletes updates inserts lines
one-unit keys delimiter text deletes updates inserts lines = (there, back)
  where
    there : IsMadeInTurn keys delimiter (inputs_from Snapshot (text ∷ deletes ∷ updates ∷ inserts ∷ [])) [] lines → IsBehind keys delimiter text deletes updates inserts lines
    there made = record {
      table = made.0;
      dropped = made.2.0;
      replaced = made.2.2.0;
      added = made.2.2.2.0;
      table_read = made.1;
      deletes_read = made.2.1;
      updates_read = made.2.2.1;
      inserts_read = made.2.2.2.1;
      are = sym made.2.2.2.2;
    }

    back : IsBehind keys delimiter text deletes updates inserts lines → IsMadeInTurn keys delimiter (inputs_from Snapshot (text ∷ deletes ∷ updates ∷ inserts ∷ [])) [] lines
    back behind = (
      behind.table,
      behind.table_read,
      (
        behind.dropped,
        behind.deletes_read,
        (
          behind.replaced,
          behind.updates_read,
          (behind.added, behind.inserts_read, sym behind.are),
        ),
      ),
    )
