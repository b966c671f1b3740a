-- Sixteen bytes that are copied over others in two halves.
use Rattle.std.proofs.Common.{◌≡◌, ℕ, ◌+◌, ◌-◌, ◌≤◌, List, ◌++◌, length, take, sym, ap, ◌∙◌, arith}
use Rattle.std.proofs.lemmas.List.{take-take, length-take-le, length-append}
use Rattle.std.proofs.lemmas.List.Edits.{take-paste, paste-paste}
use lib.Seq.{paste}
use Rattle.std.proofs.lemmas.Slice.{put_mid-paste}
use Rattle.std.proofs.Math.Seq.{take-append-add}
use borrow.Rule.Slice.PartMut.{put_mid}

pub take-put_halves : (bytes low high put_low put_high : List ℕ) (at n : ℕ) → at + 16 ≤ length bytes → n ≤ 16 →
    put_low ≡ low → length low ≡ 8 → put_high ≡ high → length high ≡ 8 →
    take (at + n) (put_mid (at + 8) (at + 16 - (at + 8)) (put_mid at (at + 8 - at) bytes put_low) put_high) ≡ take at bytes ++ take n (low ++ high)
take-put_halves bytes low high put_low put_high at n room short is_low eight_low is_high eight_high =
    let first : put_mid at (at + 8 - at) bytes put_low ≡ paste bytes at low 8 =
    put_mid-paste at (at + 8 - at) bytes put_low low 8 is_low (omega arith) (sym eight_low)
    in
    let second : put_mid (at + 8) (at + 16 - (at + 8)) (paste bytes at low 8) put_high ≡ paste (paste bytes at low 8) (at + 8) high 8 =
    put_mid-paste (at + 8) (at + 16 - (at + 8)) (paste bytes at low 8) put_high high 8 is_high (omega arith) (sym eight_high)
    in
    let both : paste (paste bytes at low 8) (at + 8) high 8 ≡ paste bytes at (low ++ high) 16 =
    paste-paste bytes at low high 8 8 (sym eight_low) (sym eight_high) (omega arith)
    in
    let sixteen : 16 ≤ length (low ++ high) = omega (arith, length-append low high) in
    let before : length (take at bytes) ≡ at = length-take-le at bytes (omega arith) in
    ap (λ (half : List ℕ). take (at + n) (put_mid (at + 8) (at + 16 - (at + 8)) half put_high)) first
    ∙ ap (take (at + n)) (second ∙ both)
    ∙ sym (take-take (at + n) (at + 16) (paste bytes at (low ++ high) 16) (omega arith))
    ∙ ap (take (at + n)) (take-paste bytes at (low ++ high) 16 (omega arith) sixteen)
    ∙ ap (λ (k : ℕ). take (k + n) (take at bytes ++ take 16 (low ++ high))) (sym before)
    ∙ take-append-add (take at bytes) (take 16 (low ++ high)) n
    ∙ ap (λ (piece : List ℕ). take at bytes ++ piece) (take-take n 16 (low ++ high) short)
