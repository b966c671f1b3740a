use Rattle.std.proofs.Common.{◌∙◌, sym, refl, inr}
use Rattle.csv.specs.Reading.{Reached, strip_bom}
use Rattle.csv_face.proofs.read.reader_of.Goals as goal

pub returns-clause-can : goal.returns-clause-can
returns-clause-can c =
    let reader = c.from_reader.ensures in
    let headers = c.has_headers.ensures in
    let flexible = c.flexible.ensures in
    record {
      flexible = rw flexible at reader.flexible;
      trim = rw (flexible, headers) at reader.trim ∙ c.new.ensures.trim;
      ready = inr (inr (rw (flexible, headers) at reader.has_headers, reader.headers));
      config = rw (flexible, headers) at reader.config ∙ c.new.ensures.config;
    }

pub returns-clause-begins : goal.returns-clause-begins
unfolding Reached
returns-clause-begins c = record {
  left = strip_bom c.args.bytes.now;
  source = c.from_reader.ensures.source;
  reached = (sym c.from_reader.ensures.state, refl);
}
