use Rattle.std.proofs.Common.{[], ◌∷◌, List, ℕ, inl, inr, refl, subst}
use Rattle.csv.specs.Records.{fields_of}
use Rattle.csv_face.specs.Readers.{StandsAfter}
use Rattle.csv_face.proofs.ReadLemmas.{fault-after_names}
use Rattle.csv_face.proofs.read.from_csv_named.Goals as goal
use Rattle.csv_face.proofs.read.from_csv_named.Goals.{then-not-branch-via-then-not-branch, then-not-branch-via-else-not-branch+then-not-are_names}

pub returns-then-not-branch-clause-bad : goal.returns-then-not-branch-clause-bad
returns-then-not-branch-clause-bad c =
    let bytes : List ℕ = c.args.bytes.now in
    elim c.then-not-branch.branch [
      | then-not-branch-via-then-not-branch w ↦ inl (refl, inl (c.in_ok-read_next.ensures.end bytes [] c.reader_of-reader.ensures.begins w.if-not-branch.true))
      | then-not-branch-via-else-not-branch+then-not-are_names w ↦
          let there = c.in_ok-read_next.ensures.next bytes [] c.reader_of-reader.ensures.begins w.if-not-branch.false in
          inl (
            refl,
            inr (record {
              first = fields_of c.read_next.new.fields;
              state = c.read_next.new.reader.state;
              rest = there.left;
              reached = there.reached;
              other = w.are_names.ensures.other w.if-not-are_names.true;
            }),
          )
    ]

pub returns-clause-read : goal.returns-clause-read
returns-clause-read c =
    let names : List (List ℕ) = c.args.names.now in
    let there = c.in_ok-read_next.ensures.next c.args.bytes.now [] c.reader_of-reader.ensures.begins c.if-not-branch.false in
    let stands : StandsAfter c.args.bytes.now (names ∷ []) c.read_next.new.reader =
    subst (λ (first : List (List ℕ)). StandsAfter c.args.bytes.now (first ∷ []) c.read_next.new.reader) (c.are_names.ensures.same c.if-not-are_names.false) there in
    c.read_rows.ensures.read c.args.bytes.now (names ∷ []) stands

pub returns-clause-bad : goal.returns-clause-bad
returns-clause-bad c =
    let names : List (List ℕ) = c.args.names.now in
    let there = c.in_ok-read_next.ensures.next c.args.bytes.now [] c.reader_of-reader.ensures.begins c.if-not-branch.false in
    let stands : StandsAfter c.args.bytes.now (names ∷ []) c.read_next.new.reader =
    subst (λ (first : List (List ℕ)). StandsAfter c.args.bytes.now (first ∷ []) c.read_next.new.reader) (c.are_names.ensures.same c.if-not-are_names.false) there in
    fault-after_names names c.args.bytes.now c.read_rows.result (c.read_rows.ensures.bad c.args.bytes.now (names ∷ []) stands refl)
