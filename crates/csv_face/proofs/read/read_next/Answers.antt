use Rattle.std.proofs.Common.{◌≡◌, ◌∙◌, sym, refl, List, ℕ, Option, true, false, Some, Bor, inl}
use Rattle.csv.specs.Reading.{ExplainsRead, default_config, stops_reader, strip_bom}
use Rattle.csv.specs.Records.{fields_of}
use Rattle.csv.specs.declared.error.ErrorKind.{ErrorKind}
use Rattle.csv.specs.declared.error.ErrorKind.TheVariants as kind
use Rattle.csv.specs.declared.parser.State.TheVariants as st
use Rattle.csv.specs.declared.reader.Reader.{Reader}
use Rattle.csv.proofs.ReadFacts.{rows-end, rows-more}
use Rattle.csv_face.proofs.read.read_next.Goals as goal

-- a flexible reader fails for the reader underneath or for memory
explains-stops : {R : Type 0} (rem : R → Option (List ℕ)) (a b : Reader R) (k : ErrorKind) → a.flexible ≡ true → ExplainsRead rem a b false k → stops_reader k ≡ true
explains-stops rem a b (kind.Io e) flexible why = refl
explains-stops rem a b kind.OutOfMemory flexible why = refl
explains-stops rem a b (kind.UnequalLengths pos expected len) flexible why = sym why.0 ∙ flexible
explains-stops rem a b (kind.Utf8 pos err) flexible why = why.0
explains-stops rem a b (kind.Serialize text) flexible why = absurd why
explains-stops rem a b (kind.Deserialize pos err) flexible why = absurd why

pub returns-in-Ok-clause-next : goal.returns-in-Ok-clause-next
returns-in-Ok-clause-next c = λ bytes before stands yes.
    let fields = fields_of c.read_byte_record.new.row in
    let read = rw yes at (c.in-Ok.ensures.reads c.requires.trim c.requires.ready) in
    let (rest, source_rest, next) = rows-more (λ (s : Bor (List ℕ)). Some s.now) c.args.reader.now c.read_byte_record.new.self fields default_config st.StartRecord (strip_bom bytes) stands.left before
    c.requires.config stands.source stands.reached read in
    record { left = rest; source = source_rest; reached = next }

pub returns-in-Ok-clause-end : goal.returns-in-Ok-clause-end
returns-in-Ok-clause-end c = λ bytes before stands no.
    let read = rw no at (c.in-Ok.ensures.reads c.requires.trim c.requires.ready) in
    let end = rows-end (λ (s : Bor (List ℕ)). Some s.now) c.args.reader.now c.read_byte_record.new.self (fields_of c.read_byte_record.new.row) default_config stands.left
    c.requires.config stands.source read in
    (c.args.reader.now.state, stands.left, stands.reached, end)

pub returns-in-Ok-clause-can : goal.returns-in-Ok-clause-can
returns-in-Ok-clause-can c =
    let read = c.in-Ok.ensures.reads c.requires.trim c.requires.ready in
    record {
      flexible = c.in-Ok.ensures.flexible ∙ c.requires.flexible;
      trim = read.3 ∙ c.requires.trim;
      ready = inl (c.in-Ok.ensures.ready c.requires.trim);
      config = read.2 ∙ c.requires.config;
    }

pub stopped-requires : goal.stopped-requires
stopped-requires c =
    explains-stops (λ (s : Bor (List ℕ)). Some s.now) c.args.reader.now c.read_byte_record.new.self _ c.requires.flexible (c.in-Err.ensures.why c.requires.ready)
