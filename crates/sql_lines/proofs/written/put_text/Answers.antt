use Rattle.std.proofs.Common.{◌≡◌, ◌+◌, ◌==◌, ◌&&◌, not, if◌then◌else◌, Bool, get_or, drop, false, ℕ, [], ◌∷◌, length, length-append, ap, sym, ◌∙◌, arith}
use Rattle.sql_lines.specs.Literals.{literal_text, text_byte}
use Rattle.sql_lines.specs.Reading.{byte_of, text_from}
use Rattle.sql_lines.proofs.ReadingLemmas.{goes-on, text-next}
use Rattle.sql_lines.proofs.written.put_text.Goals as goal
use Rattle.sql_lines.proofs.written.put_text.Goals.{then-escape, else-escape}

pub put_byte-requires : goal.put_byte-requires
put_byte-requires c =
    let goes_on : (get_or c.args.written.now c.loop-byte.byte-index 0 == 92 && not c.loop-byte.escape) ≡ false = goes-on c.loop-byte.escape _ c.else-byte-eq92.either in
    let byte : (if c.loop-byte.escape then byte_of (get_or c.args.written.now c.loop-byte.byte-index 0) else get_or c.args.written.now c.loop-byte.byte-index 0) ≡ c.if-escape.byte = elim c.if-escape.branch [
      | then-escape w ↦ ap (λ (slash : Bool). if slash then byte_of (get_or c.args.written.now c.loop-byte.byte-index 0) else get_or c.args.written.now c.loop-byte.byte-index 0) w.if-escape.true
          ∙ sym w.byte_of-byte.ensures ∙ sym w.byte-is
      | else-escape w ↦ ap (λ (slash : Bool). if slash then byte_of (get_or c.args.written.now c.loop-byte.byte-index 0) else get_or c.args.written.now c.loop-byte.byte-index 0) w.if-escape.false
          ∙ sym w.byte-is
    ] in
    let next = text-next c.loop-byte.escape c.args.bare c.args.written.now c.loop-byte.byte-index c.loop-byte-test.true goes_on in
    omega (
      arith,
      c.requires.room,
      c.loop-byte.invariant.room,
      ap length c.loop-byte.invariant.text,
      ap length next,
      ap (λ (byte : ℕ). length (text_byte c.args.bare byte)) byte,
      length-append c.loop-byte.buf.text (literal_text c.args.bare (text_from c.loop-byte.escape (drop c.loop-byte.byte-index c.args.written.now))),
      length-append c.args.buf.now.text (literal_text c.args.bare (text_from false c.args.written.now)),
      length-append (text_byte c.args.bare (if c.loop-byte.escape then byte_of (get_or c.args.written.now c.loop-byte.byte-index 0) else get_or c.args.written.now c.loop-byte.byte-index 0)) [],
      length-append (literal_text c.args.bare ((if c.loop-byte.escape then byte_of (get_or c.args.written.now c.loop-byte.byte-index 0) else get_or c.args.written.now c.loop-byte.byte-index 0) ∷ [])) (literal_text c.args.bare (text_from false (drop (c.loop-byte.byte-index + 1) c.args.written.now))),
    )
