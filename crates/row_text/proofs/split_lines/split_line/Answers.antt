use Rattle.std.proofs.Common.{List, ℕ, [], ◌∷◌, ◌++◌, get_or, refl, subst}
use Rattle.row_text.specs.Lines.{BeginsLineBody}
use Rattle.row_text.proofs.ReadLemmas.{bad_at, text_so_far-begins, on_false}
use Rattle.row_text.proofs.split_lines.split_line.Goals as goal

pub returns-then-not-branch-clause-bad : goal.returns-then-not-branch-clause-bad
returns-then-not-branch-clause-bad c =
    let reader = c.loop-at.reader in
    let line = c.args.line.now in
    let byte = get_or line c.loop-at.at 0 in
    bad_at c.args.delimiter line c.loop-at.at byte c.loop-at-test.true refl
    (subst (BeginsLineBody c.args.delimiter) c.loop-at.invariant (text_so_far-begins c.args.delimiter reader.fields reader.text.items reader.place))
    (subst (λ (t : List ℕ). ¬ BeginsLineBody c.args.delimiter (t ++ byte ∷ [])) c.loop-at.invariant (on_false c.in_ok-read_byte.field-0 _ c.in_ok-read_byte.ensures.bad c.if-not-branch.true))
