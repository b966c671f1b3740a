use Rattle.std.proofs.Common.{◌≡◌, ◌++◌, ℕ, List, [], length, get_or, ap, sym, ◌∙◌, arith}
use Rattle.std.proofs.lemmas.Option.{get_or_from_slice_get}
use Rattle.draw_values.proofs.SizeLemmas.{greatest_by-each}
use Rattle.draw_values.proofs.words.put_entry.Goals as goal
use Rattle.draw_values.proofs.words.put_entry.Goals.{After-entry}

entry_is : (c : After-entry) → get_or c.args.words.now.entries c.args.place [] ≡ c.entry.result.now
entry_is c = get_or_from_slice_get c.args.words.now.entries c.args.place c.entry.result.now [] c.entry.ensures

pub returns-clause-size : goal.returns-clause-size
returns-clause-size c = greatest_by-each (length {A = ℕ}) c.args.words.now.entries c.args.place [] c.requires.place

pub put-requires : goal.put-requires
put-requires c =
    omega (
      arith,
      ap (λ (entry : List ℕ). length entry) (entry_is (goal.at.put-requires c).After-entry),
      greatest_by-each (length {A = ℕ}) c.args.words.now.entries c.args.place [] c.requires.place,
      c.requires.room,
    )

pub returns-clause-text : goal.returns-clause-text
returns-clause-text c =
    c.put.ensures
    ∙ ap (λ (entry : List ℕ). record { text = c.args.buf.now.text ++ entry; room = c.args.buf.now.room }) (sym (entry_is (goal.at.returns-clause-text c).After-entry))
