use Rattle.std.proofs.Common.{◌≡◌, ◌+◌, ◌++◌, ◌*◌, ◌≤◌, ℕ, List, get_or, take, length, ap, arith, ◌∙◌, length-append}
use Rattle.row_lines.specs.Runs.{RunLinesOf}
use Rattle.undo_streams.specs.Packages.{most_bytes}
use Rattle.undo_streams.specs.Parts.{adding, adding_each}
use Rattle.undo_streams.proofs.ListLemmas.{flat_map-zip-next, page-two, size-next}
use Rattle.undo_streams.proofs.undo_packer.put_adds.Goals as goal

pub loop-i-preserved : goal.loop-i-preserved
loop-i-preserved g c =
    let lines : RunLinesOf = c.args.before.now in
    let i : ℕ = c.loop-i.i in
    let so_far : List ℕ = adding_each lines (take i c.args.deleted.now) (take i c.args.places.now) in
    let more : List ℕ = adding lines (get_or c.args.deleted.now i 0) (get_or c.args.places.now i 0) in
    let joined : so_far ++ more ≡ adding_each lines (take (i + 1) c.args.deleted.now) (take (i + 1) c.args.places.now) =
    flat_map-zip-next (adding lines) c.args.deleted.now c.args.places.now i c.loop-i-test.true c.requires.places in
    record {
      text =
          page-two c.args.page.now c.loop-i.page c.put_add.new.page so_far more c.loop-i.invariant.text c.put_add.ensures.text
          ∙ ap (λ (text : List ℕ). record { text = c.args.page.now.text ++ text; room = c.args.page.now.room }) joined;
      size =
          omega (
            arith,
            ap (λ (text : List ℕ). length text) joined,
            length-append so_far more,
            size-next i (most_bytes lines.plan lines.table) (length so_far) (length more) c.loop-i.invariant.size c.put_add.ensures.size,
          );
    }
