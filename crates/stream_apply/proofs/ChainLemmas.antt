-- Calls in turn.
use Rattle.std.proofs.Common.{◌≡◌, ℕ, List, ◌++◌, refl, ap, subst, ◌∙◌}
use Rattle.stream_apply.specs.KeyedLines.{KeyedLine}
use Rattle.stream_apply.specs.Streams.{IsApplied, IsBehind, IsLoaded, IsStream, Table, with_each, without}
use Rattle.stream_apply.specs.declared.key_fields.KeyFields.{KeyFields}
use Rattle.stream_apply.specs.declared.kind.InputKind.{InputKind}
use Rattle.stream_apply.specs.declared.kind.InputKind.TheVariants.{Deletes, Inserts, Updates}

-- the lines of a stream, for a table that is known otherwise
moved : (keys known : KeyFields) (delimiter delimits_it : ℕ) (kind : InputKind) (table lines read : List KeyedLine) (bytes : List ℕ) → known ≡ keys → delimits_it ≡ delimiter → table ≡ lines →
    IsStream known delimits_it kind table bytes read → IsStream keys delimiter kind lines bytes read
moved keys known delimiter delimits_it kind table lines read bytes known_by delimits is stream =
    subst (λ (k : KeyFields). IsStream k delimiter kind lines bytes read) known_by
    (subst (λ (d : ℕ). IsStream known d kind lines bytes read) delimits (subst (λ (ls : List KeyedLine). IsStream known delimits_it kind ls bytes read) is stream))

pub in-turn : (keys : KeyFields) (delimiter : ℕ) (text deletes updates inserts : List ℕ) (loaded deleted updated inserted : Table) → IsLoaded text keys delimiter loaded → IsApplied Deletes deletes loaded deleted → IsApplied Updates updates deleted updated → IsApplied Inserts inserts updated inserted → IsBehind keys delimiter text deletes updates inserts inserted.lines
in-turn keys delimiter text deletes updates inserts loaded deleted updated inserted load delete update insert =
    let second_keys : deleted.keys ≡ keys = delete.known_by ∙ load.known_by in
    let third_keys : updated.keys ≡ keys = update.known_by ∙ second_keys in
    let second : deleted.delimiter ≡ delimiter = delete.delimits ∙ load.delimits in
    let third : updated.delimiter ≡ delimiter = update.delimits ∙ second in
    let kept : updated.lines ≡ with_each (without loaded.lines delete.lines) update.lines = update.made ∙ ap (λ (ls : List KeyedLine). with_each ls update.lines) delete.made in
    record {
      table = loaded.lines;
      dropped = delete.lines;
      replaced = update.lines;
      added = insert.lines;
      table_read = load.read;
      deletes_read = moved keys loaded.keys delimiter loaded.delimiter Deletes loaded.lines loaded.lines delete.lines deletes load.known_by load.delimits refl delete.read;
      updates_read = moved keys deleted.keys delimiter deleted.delimiter Updates deleted.lines (without loaded.lines delete.lines) update.lines updates second_keys second delete.made update.read;
      inserts_read = moved keys updated.keys delimiter updated.delimiter Inserts updated.lines (with_each (without loaded.lines delete.lines) update.lines) insert.lines inserts third_keys third kept insert.read;
      are = insert.made ∙ ap (λ (ls : List KeyedLine). ls ++ insert.lines) kept;
    }
