use Rattle.std.proofs.Common.{◌≡◌, ◌∷◌, ◌++◌, [], ℕ, List, string_bytes, length, ap, ◌∙◌, arith}
use Rattle.dictionaries.proofs.PieceLemmas.{IsCutFrom-push, pieces_from-push}
use Rattle.dictionaries.proofs.entries.Entries.push.Goals as goal

text_after : (c : goal.After-push_reserved) →
    string_bytes c.push_str.new.self ≡ string_bytes c.self.inside.text ++ c.args.entry.now
text_after c = c.in_ok-push_str.ensures.bytes

ends_after : (c : goal.After-push_reserved) →
    c.push_reserved.new.self.items ≡ c.self.inside.ends.items ++ length (string_bytes c.self.inside.text ++ c.args.entry.now) ∷ []
ends_after c =
    let whole : c.len.result ≡ length (string_bytes c.push_str.new.self) = omega arith in
    c.push_reserved.ensures.items
    ∙ ap (λ (xs : List ℕ). xs ++ c.len.result ∷ []) c.reserve.ensures.items
    ∙ ap (λ (n : ℕ). c.self.inside.ends.items ++ n ∷ []) (whole ∙ ap length (text_after c))

pub invariant_of-self-2 : goal.invariant_of-self-2
invariant_of-self-2 c =
    rw (text_after c, ends_after c)
    (IsCutFrom-push 0 (string_bytes c.self.inside.text) c.self.inside.ends.items c.args.entry.now c.utf8.entry c.self.invariant)

pub returns-clause-appended : goal.returns-clause-appended
returns-clause-appended c =
    rw (text_after c, ends_after c, ← c.self.view_is)
    (pieces_from-push 0 (string_bytes c.self.inside.text) c.self.inside.ends.items c.args.entry.now c.self.invariant)
