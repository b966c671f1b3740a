use Rattle.std.proofs.Common.{◌+◌, ◌/◌, ◌%◌, ◌^◌, ℕ, List, ◌++◌, take, w64, refl, sym, ap, ◌∙◌}
use Rattle.std.specs.Int.{to_le_bytes}
use Rattle.line_pages.proofs.LowBytes.{length-low_bytes, take-low_bytes, low_bytes-halves}
use Rattle.line_pages.proofs.Pasting.{take-put_halves}
use Rattle.line_pages.proofs.piece.Piece.paste.Goals as goal

pub returns-clause-end : goal.returns-clause-end
returns-clause-end c = ap (λ (len : ℕ). c.args.at + len) (sym (length-low_bytes c.args.self.now.len c.args.self.now.word))

pub returns-clause-text : goal.returns-clause-text
returns-clause-text c =
    let piece = c.args.self.now in
    let bytes = c.args.bytes.now in
    take-put_halves bytes (to_le_bytes w64 (piece.word % 2 ^ 64)) (to_le_bytes w64 (piece.word / 2 ^ 64)) c.copy_from_slice.new.self c.copy_from_slice-2.new.self c.args.at piece.len c.requires piece.short
    (c.copy_from_slice.ensures.after ∙ c.to_le_bytes.ensures) refl (c.copy_from_slice-2.ensures.after ∙ c.to_le_bytes-2.ensures) refl
    ∙ ap (λ (text : List ℕ). take c.args.at bytes ++ text)
    (ap (take piece.len) (low_bytes-halves piece.word) ∙ take-low_bytes piece.len 16 piece.word piece.short)
