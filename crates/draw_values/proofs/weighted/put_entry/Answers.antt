use Rattle.std.proofs.Common.{◌≡◌, ◌++◌, ℕ, List, [], length, get_or, ap, sym, ◌∙◌, arith}
use Rattle.std.proofs.lemmas.Option.{get_or_from_slice_get}
use Rattle.draw_values.proofs.SizeLemmas.{greatest_by-each}
use Rattle.draw_values.proofs.weighted.put_entry.Goals as goal
use Rattle.draw_values.proofs.weighted.put_entry.Goals.{After-get}

entry_is : (c : After-get) → get_or c.args.entries.now c.args.group [] ≡ c.get.result.now
entry_is c = get_or_from_slice_get c.args.entries.now c.args.group c.get.result.now [] c.get.ensures

pub returns-clause-size : goal.returns-clause-size
returns-clause-size c = greatest_by-each (length {A = ℕ}) c.args.entries.now c.args.group [] c.requires.group

pub put_text-requires : goal.put_text-requires
put_text-requires c =
    omega (
      arith,
      ap (λ (entry : List ℕ). length entry) (entry_is (goal.at.put_text-requires c).After-get),
      greatest_by-each (length {A = ℕ}) c.args.entries.now c.args.group [] c.requires.group,
      c.requires.room,
    )

pub returns-clause-text : goal.returns-clause-text
returns-clause-text c =
    c.put_text.ensures
    ∙ ap (λ (entry : List ℕ). record { text = c.args.buf.now.text ++ entry; room = c.args.buf.now.room }) (sym (entry_is (goal.at.returns-clause-text c).After-get))
