use Rattle.std.proofs.Common.{◌<◌, ◌^◌, ◌++◌, ℕ, List, length, get_or, take, decimal, codes, ap, arith, ◌∙◌, append_assoc, length-append}
use Rattle.std.specs.List.{flat_map}
use Rattle.line_pages.specs.Pages.{Page}
use Rattle.line_pages.specs.Pieces.{piece_text}
use Rattle.row_lines.proofs.FieldLemmas.{length-decimal-le_20}
use Rattle.row_lines.proofs.RunKeyLemmas.{key_text, key_texts-more}
use Rattle.row_lines.proofs.RunTextLemmas.{appended-more}
use Rattle.row_lines.proofs.run_keys.put_long_keys.Goals as goal

pub put_number-requires : goal.put_number-requires
put_number-requires c =
    let fits : get_or c.args.keys.now c.loop-key.key-index 0 < 2 ^ 64 = (c.type_inv.keys c.loop-key.key-index).fits in
    omega (
      arith,
      c.requires,
      c.loop-key-test.true,
      ap (λ (page : Page). length page.text) c.loop-key.invariant.text,
      ap (λ (page : Page). page.room) c.loop-key.invariant.text,
      length-append c.args.page.now.text (flat_map key_text (take c.loop-key.key-index c.args.keys.now)),
      c.loop-key.invariant.size,
      length-decimal-le_20 (get_or c.args.keys.now c.loop-key.key-index 0) fits,
    )

pub put_piece-requires : goal.put_piece-requires
put_piece-requires c =
    let key : ℕ = get_or c.args.keys.now c.loop-key.key-index 0 in
    let fits : key < 2 ^ 64 = (c.type_inv.keys c.loop-key.key-index).fits in
    omega (
      arith,
      c.requires,
      c.loop-key-test.true,
      ap (λ (text : List ℕ). length text) c.of_byte.ensures,
      ap (λ (page : Page). length page.text) c.put_number.ensures,
      ap (λ (page : Page). page.room) c.put_number.ensures,
      length-append c.loop-key.page.text (decimal key),
      ap (λ (page : Page). length page.text) c.loop-key.invariant.text,
      ap (λ (page : Page). page.room) c.loop-key.invariant.text,
      length-append c.args.page.now.text (flat_map key_text (take c.loop-key.key-index c.args.keys.now)),
      c.loop-key.invariant.size,
      length-decimal-le_20 key fits,
    )

pub loop-key-preserved : goal.loop-key-preserved
loop-key-preserved c =
    let keys : List ℕ = c.args.keys.now in
    let row : ℕ = c.loop-key.key-index in
    let key : ℕ = get_or keys row 0 in
    let fits : key < 2 ^ 64 = (c.type_inv.keys c.loop-key.key-index).fits in
    let old : Page = c.loop-key.page in
    let more = key_texts-more keys row (omega arith) in
    record {
      text = appended-more c.args.page.now old c.put_piece.new.self (flat_map key_text (take row keys)) (key_text key) _ c.loop-key.invariant.text
          (c.put_piece.ensures
          ∙ ap (λ (page : Page). record { text = page.text ++ piece_text c.of_byte.result; room = page.room }) c.put_number.ensures
          ∙ ap (λ (text : List ℕ). record { text = (old.text ++ decimal key) ++ text; room = old.room }) c.of_byte.ensures
          ∙ ap (λ (text : List ℕ). record { text = text; room = old.room }) (append_assoc old.text (decimal key) (codes "\n"))) more;
      size = omega (
        arith,
        c.loop-key.invariant.size,
        ap (λ (text : List ℕ). length text) more,
        length-append (flat_map key_text (take row keys)) (key_text key),
        length-append (decimal key) (codes "\n"),
        length-decimal-le_20 key fits,
      );
    }
