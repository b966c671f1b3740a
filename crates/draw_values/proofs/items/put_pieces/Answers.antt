use Rattle.std.proofs.Common.{◌≡◌, ℕ, ◌+◌, ◌++◌, List, append_assoc, get_or, length, length-append, refl, sym, ap, ◌∙◌, arith}
use Rattle.std.specs.List.{flat_map, range_with_len}
use Rattle.line_pages.specs.Pages.{Page}
use Rattle.line_pages.specs.Pieces.{piece_text}
use Rattle.line_pages.specs.Rows.{piece_text_at}
use Rattle.line_pages.proofs.RowLemmas.{piece_text_at-read, texts-fit, texts-next}
use Rattle.draw_values.specs.Items.{space_before}
use Rattle.draw_values.proofs.items.put_pieces.Goals as goal

pub put_space-requires : goal.put_space-requires
put_space-requires c =
    let f : ℕ → List ℕ = λ (i : ℕ). space_before c.args.spaced (c.args.first + i) ++ piece_text_at c.args.kept.now (get_or c.args.places.now i 0) in
    let i : ℕ = c.loop-i.i in
    omega (
      arith,
      texts-fit f i (length c.args.places.now) c.loop-i-test.true,
      c.requires.room,
      c.loop-i.invariant.room,
      ap (length {A = ℕ}) c.loop-i.invariant.text,
      length-append c.args.page.now.text (flat_map f (range_with_len 0 i)),
      length-append (space_before c.args.spaced (c.args.first + i)) (piece_text_at c.args.kept.now (get_or c.args.places.now i 0)),
    )

pub put_piece-requires : goal.put_piece-requires
put_piece-requires c =
    let f : ℕ → List ℕ = λ (i : ℕ). space_before c.args.spaced (c.args.first + i) ++ piece_text_at c.args.kept.now (get_or c.args.places.now i 0) in
    let i : ℕ = c.loop-i.i in
    let space : List ℕ = space_before c.args.spaced (c.args.first + i) in
    let place : ℕ = get_or c.args.places.now i 0 in
    omega (
      arith,
      texts-fit f i (length c.args.places.now) c.loop-i-test.true,
      c.requires.room,
      c.loop-i.invariant.room,
      ap (length {A = ℕ}) c.loop-i.invariant.text,
      length-append c.args.page.now.text (flat_map f (range_with_len 0 i)),
      length-append space (piece_text_at c.args.kept.now place),
      ap (λ (page : Page). length page.text) c.put_space.ensures,
      ap (λ (page : Page). page.room) c.put_space.ensures,
      length-append c.loop-i.page.text space,
      ap (length {A = ℕ}) (piece_text_at-read c.args.kept.now place c.index-kept-place.result (c.requires.within i c.loop-i-test.true) c.index-kept-place.is),
    )

pub loop-i-preserved : goal.loop-i-preserved
loop-i-preserved c =
    let i : ℕ = c.loop-i.i in
    let space : List ℕ = space_before c.args.spaced (c.args.first + i) in
    let place : ℕ = get_or c.args.places.now i 0 in
    let f : ℕ → List ℕ = λ (k : ℕ). space_before c.args.spaced (c.args.first + k) ++ piece_text_at c.args.kept.now (get_or c.args.places.now k 0) in
    let read : piece_text_at c.args.kept.now place ≡ piece_text c.index-kept-place.result =
    piece_text_at-read c.args.kept.now place c.index-kept-place.result (c.requires.within i c.loop-i-test.true) c.index-kept-place.is in
    record {
      text = ap (λ (page : Page). page.text) c.put_piece.ensures
          ∙ ap (λ (page : Page). page.text ++ piece_text c.index-kept-place.result) c.put_space.ensures
          ∙ append_assoc c.loop-i.page.text space (piece_text c.index-kept-place.result)
          ∙ ap (λ (piece : List ℕ). c.loop-i.page.text ++ (space ++ piece)) (sym read)
          ∙ texts-next f i c.args.page.now.text c.loop-i.page.text (f i) c.loop-i.invariant.text refl;
      room = ap (λ (page : Page). page.room) c.put_piece.ensures ∙ ap (λ (page : Page). page.room) c.put_space.ensures ∙ c.loop-i.invariant.room;
    }
