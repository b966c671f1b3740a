use Rattle.std.proofs.Common.{◌≡◌, ◌==◌, ℕ, length, ap, ◌∙◌, arith}
use Rattle.std.specs.Vec.{vec_len}
use Rattle.row_text.proofs.WrittenLemmas.{length-texts_in}
use Rattle.row_text.proofs.written_texts.WrittenTexts.is_empty.Goals as goal

pub returns : goal.returns
returns c =
    let size : vec_len c.self.inside.ends ≡ length c.args.self.now = omega (arith, length-texts_in c.self.inside.bytes.items c.self.inside.ends.items, ap length c.self.view_is) in
    c.is_empty.ensures ∙ ap (λ (n : ℕ). n == 0) size
