use Rattle.std.proofs.Common.{◌≡◌, ◌+◌, ◌++◌, ◌*◌, ◌≤◌, ℕ, List, length, ap, arith, sym, ◌∙◌, length-append, append-nil}
use Rattle.std.specs.List.{range_with_len}
use Rattle.std.proofs.lemmas.Grind.{flat_map-append}
use Rattle.schema_facts.specs.Dictionaries.{Project}
use Rattle.life_intervals.proofs.Ranges.{range_with_len-add}
use Rattle.undo_streams.specs.Packages.{most_bytes}
use Rattle.undo_streams.specs.Parts.{dropping, dropping_each}
use Rattle.undo_streams.proofs.ListLemmas.{page-two, size-next}
use Rattle.undo_streams.proofs.undo_packer.put_drops.Goals as goal

one_more : (plan : Project) (table first number : ℕ) →
    dropping_each plan table (range_with_len first number) ++ dropping plan table (first + number) ≡ dropping_each plan table (range_with_len first (number + 1))
one_more plan table first number =
    sym (
    ap (dropping_each plan table) (range_with_len-add first number 1)
    ∙ flat_map-append (dropping plan table) (range_with_len first number) (range_with_len (first + number) 1)
    ∙ ap (λ (text : List ℕ). dropping_each plan table (range_with_len first number) ++ text) (append-nil (dropping plan table (first + number))))

pub loop-number-preserved : goal.loop-number-preserved
loop-number-preserved g c =
    let plan : Project = c.args.rows.now in
    let first : ℕ = c.args.first in
    let number : ℕ = c.loop-number.number in
    let so_far : List ℕ = dropping_each plan c.args.table (range_with_len first number) in
    let more : List ℕ = dropping plan c.args.table (first + number) in
    let joined = one_more plan c.args.table first number in
    record {
      text =
          page-two c.args.page.now c.loop-number.page c.put_drop.new.page so_far more c.loop-number.invariant.text c.put_drop.ensures.text
          ∙ ap (λ (text : List ℕ). record { text = c.args.page.now.text ++ text; room = c.args.page.now.room }) joined;
      size =
          omega (
            arith,
            ap (λ (text : List ℕ). length text) joined,
            length-append so_far more,
            size-next number (most_bytes plan c.args.table) (length so_far) (length more) c.loop-number.invariant.size c.put_drop.ensures.size,
          );
    }
