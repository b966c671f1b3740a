use Rattle.std.proofs.Common.{◌∙◌, sym, arith, ◌++◌}
use Rattle.csv.specs.Records.{fields_of}
use Rattle.csv.proofs.ReadFacts.{on-ok}
use Rattle.csv_face.proofs.ReadLemmas.{next-stands, read-more, read-none}
use Rattle.csv_face.proofs.read.read_rows.Goals as goal

pub loop-number-init : goal.loop-number-init
loop-number-init c = (
  c.requires.can,
  λ bytes first stands. read-none bytes first c.args.delimiter c.args.fields c.args.next c.in-Ok.lines.text.items c.args.reader c.in-Ok.ensures stands,
)

pub returns-then-not-branch-clause-read : goal.returns-then-not-branch-clause-read
returns-then-not-branch-clause-read c = λ bytes first stands.
    let read = c.loop-number.invariant.1 bytes first stands in
    record {
      records = read.records;
      are = c.in_ok-read_next.ensures.end bytes (first ++ read.records) read.stands c.if-not-branch.true;
      good = read.good;
      is = rw c.into_text.ensures read.is;
    }

pub returns-then-is_bad_record-clause-bad : goal.returns-then-is_bad_record-clause-bad
returns-then-is_bad_record-clause-bad c = λ bytes first stands next.
    let read = c.loop-number.invariant.1 bytes first stands in
    let fields = fields_of c.read_next.new.fields in
    let there = next-stands bytes first read.records fields c.read_next.new.reader (c.in_ok-read_next.ensures.next bytes (first ++ read.records) read.stands c.if-not-branch.false) in
    record {
      before = read.records;
      bad = fields;
      state = c.read_next.new.reader.state;
      rest = there.left;
      reached = there.reached;
      good = read.good;
      is_bad = sym c.is_bad_record.ensures ∙ c.if-is_bad_record.true;
      at = omega (arith, read.counted, next);
    }

pub loop-number-preserved : goal.loop-number-preserved
loop-number-preserved c = (
  c.in_ok-read_next.ensures.can,
  λ bytes first stands.
      let read = c.loop-number.invariant.1 bytes first stands in
      let fields = fields_of c.read_next.new.fields in
      read-more bytes first c.args.delimiter c.args.fields c.args.next c.loop-number.number c.loop-number.lines.text.items c.put_line.new.self.text.items fields c.loop-number.reader c.read_next.new.reader
      read (c.in_ok-read_next.ensures.next bytes (first ++ read.records) read.stands c.if-not-branch.false) (sym c.is_bad_record.ensures ∙ c.if-is_bad_record.false)
      (on-ok c.put_line.result (sym c.if-is_err.ensures.value) c.put_line.ensures),
)
