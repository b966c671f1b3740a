use Rattle.std.proofs.Common.{◌≡◌, ◌+◌, ℕ, List, [], ◌∷◌, ◌++◌, Option, Some, length, ap, ◌∙◌, arith, length-append}
use Rattle.row_text.specs.FieldList.{fields_in}
use Rattle.row_text.proofs.FieldListLemmas.{fields_in-push}
use Rattle.row_text.proofs.field_list.Fields.push_text.Goals as goal

pub returns : goal.returns
returns c =
    let bytes = c.self.inside.bytes.items in
    let spans = c.self.inside.spans.items in
    let text = c.args.text.now in
    let start = c.len-start.result in
    let end = c.len.result in
    let all : c.extend_from_slice.new.self.items ≡ bytes ++ text = c.in_ok-extend_from_slice.ensures.items in
    let more : c.push.new.self.items ≡ spans ++ Some (record { start = start; end = end }) ∷ [] = c.in_ok-push.ensures.items in
    let start_is : start ≡ length bytes = omega arith in
    let end_is : end ≡ length bytes + length text = omega (arith, ap length all, length-append bytes text) in
    ap (λ (now : List ℕ). fields_in now c.push.new.self.items) all
    ∙ ap (fields_in (bytes ++ text)) more
    ∙ fields_in-push bytes text spans start end c.self.invariant start_is end_is
    ∙ ap (λ (fields : List (Option (List ℕ))). fields ++ Some text ∷ []) c.self.view_is
