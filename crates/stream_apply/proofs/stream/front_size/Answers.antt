use Rattle.std.proofs.Common.{◌≡◌, ◌≤◌, [], ◌∷◌, true, length, arith, ap, sym, ◌∙◌}
use Rattle.std.proofs.lemmas.Bool.{both_ways, true≢false}
use Rattle.row_text.specs.Lines.{line_text}
use Rattle.stream_apply.specs.Streams.{holds_keys_alone, key_count, text_fields}
use Rattle.stream_apply.specs.declared.kind.InputKind.TheVariants.{Snapshot}
use Rattle.stream_apply.proofs.LineLemmas.{first_null-none, front-one, front-two, front-within, one-size, second_null-none, two-sizes}
use Rattle.stream_apply.proofs.stream.front_size.Goals as goal
use Rattle.stream_apply.proofs.stream.front_size.Goals.{else-holds_keys_alone-via-then-holds_keys_alone+else-len-count-2, else-holds_keys_alone-via-else-holds_keys_alone}

pub returns-in_err-first : goal.returns-in_err-first
returns-in_err-first c = rw c.from_residual.ensures (first_null-none c.args.keys c.args.kind c.args.fields.now c.in_err-first.ensures)

pub returns-in_err-text_size-in-Two : goal.returns-in_err-text_size-in-Two
returns-in_err-text_size-in-Two c =
    rw (c.from_residual-in_err-text_size-in-Two.ensures, c.in-Two.is) (second_null-none c.args.kind c.args.fields.now c.in_err-text_size-in-Two.ensures)

pub overflow_add-result-in-Two : goal.overflow_add-result-in-Two
overflow_add-result-in-Two c =
    let first = c.in_ok-first.ensures in
    let second = c.in_ok-text_size-in-Two.ensures in
    let parts = front-two Snapshot c.args.fields.now first.0 second.0 first.1 second.1 (λ alone. absurd (true≢false (sym alone))) in
    omega (
      arith,
      c.requires,
      first.2,
      second.2,
      two-sizes c.args.delimiter first.0 second.0,
      ap (λ fs. length (line_text c.args.delimiter fs)) parts.1.is,
      front-within c.args.delimiter (text_fields (first.0 ∷ second.0 ∷ [])) parts.0 (omega arith),
    )

pub returns-in-One : goal.returns-in-One
returns-in-One c =
    let first = c.in_ok-first.ensures in
    let alone : holds_keys_alone c.args.kind ≡ true → length c.args.fields.now ≤ 1 = elim c.else-holds_keys_alone.branch [
      | else-holds_keys_alone-via-then-holds_keys_alone+else-len-count-2 w ↦ λ _. omega (arith, ap key_count c.in-One.is)
      | else-holds_keys_alone-via-else-holds_keys_alone w ↦ λ holds. absurd (both_ways _ (sym c.holds_keys_alone.ensures ∙ w.if-holds_keys_alone.false) holds)
    ] in
    let parts = front-one c.args.kind c.args.fields.now first.0 first.1 alone in
    rw c.in-One.is (first.0 ∷ [], parts.0, parts.1, first.2 ∙ one-size c.args.delimiter first.0)

pub returns-in_ok-text_size-in-Two : goal.returns-in_ok-text_size-in-Two
returns-in_ok-text_size-in-Two c =
    let first = c.in_ok-first.ensures in
    let second = c.in_ok-text_size-in-Two.ensures in
    let alone : holds_keys_alone c.args.kind ≡ true → length c.args.fields.now ≤ 2 = elim c.else-holds_keys_alone.branch [
      | else-holds_keys_alone-via-then-holds_keys_alone+else-len-count-2 w ↦ λ _. omega (arith, ap key_count c.in-Two.is)
      | else-holds_keys_alone-via-else-holds_keys_alone w ↦ λ holds. absurd (both_ways _ (sym c.holds_keys_alone.ensures ∙ w.if-holds_keys_alone.false) holds)
    ] in
    let parts = front-two c.args.kind c.args.fields.now first.0 second.0 first.1 second.1 alone in
    rw c.in-Two.is (first.0 ∷ second.0 ∷ [], parts.0, parts.1, omega (arith, first.2, second.2, two-sizes c.args.delimiter first.0 second.0))
