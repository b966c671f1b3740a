use Rattle.std.proofs.Common.{◌≡◌, ◌+◌, ℕ, List, [], ◌∷◌, ◌++◌, length, ap, ◌∙◌, arith, length-append}
use Rattle.row_text.specs.Fields.{escaped_text}
use Rattle.row_text.specs.WrittenTexts.{texts_in}
use Rattle.row_text.proofs.WrittenLemmas.{texts_in-push}
use Rattle.row_text.proofs.written_texts.WrittenTexts.push.Goals as goal

pub returns-clause-appended : goal.returns-clause-appended
returns-clause-appended c =
    let bytes = c.self.inside.bytes.items in
    let ends = c.self.inside.ends.items in
    let text = escaped_text c.args.delimiter c.args.text.now in
    let all : c.put_written.new.bytes.items ≡ bytes ++ text = c.in-Ok.ensures.appended in
    let more : c.push.new.self.items ≡ ends ++ c.len.result ∷ [] = c.in-Ok-push.ensures.items in
    let end : c.len.result ≡ length bytes + length text = omega (arith, ap length all, length-append bytes text) in
    ap (λ (now : List ℕ). texts_in now c.push.new.self.items) all
    ∙ ap (texts_in (bytes ++ text)) more
    ∙ texts_in-push bytes ends text c.len.result c.self.invariant end
    ∙ ap (λ (texts : List (List ℕ)). texts ++ text ∷ []) c.self.view_is
