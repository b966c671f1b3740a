-- A byte order mark at the beginning of a text.
use Rattle.std.proofs.Common.{◌≡◌, ℕ, Bool, true, false, List, ◌++◌, Option, Some, None, drop, Bor, refl, ap, sym, ◌∙◌, if◌then◌else◌}
use Rattle.std.proofs.lemmas.Str.Pattern.{starts_text}
use Rattle.std.proofs.Math.Utf8.{encode}
use Rattle.std.specs.Option.{MatchOption, unwrap_or}
use Rattle.std.specs.Str.Pattern.{FindsCharPrefix, HasCharAt, StripsPrefix}
use Rattle.dictionaries.specs.Grammar.{byte_order_mark, without_mark}

without_mark-lacking : (text : List ℕ) → ((rest : List ℕ) → text ≡ byte_order_mark ++ rest → ⊥) → without_mark text ≡ text
without_mark-lacking text lacks =
    ap (λ (b : Bool). if b then drop 3 text else text) (sym (starts_text false byte_order_mark text lacks))

without_mark-found : (text rest : List ℕ) (n : ℕ) → HasCharAt 65279 text 0 n → rest ≡ drop n text → without_mark text ≡ rest
unfolding encode
without_mark-found text rest n at rest-is =
    let n-is : n ≡ 3 = at.ends in
    let begins : text ≡ byte_order_mark ++ drop 3 text = rw n-is at at.split in
    let found = starts_text true byte_order_mark text (3, (refl, begins, at.after), at.after) in
    ap (λ (b : Bool). if b then drop 3 text else text) (sym found) ∙ sym (rest-is ∙ ap (λ (k : ℕ). drop k text) n-is)

pub without_mark-stripped : (text : Bor (List ℕ)) (stripped : Option (Bor (List ℕ))) →
    MatchOption stripped (FindsCharPrefix 65279 text.now None) (λ rest. StripsPrefix (FindsCharPrefix 65279) text.now rest.now) →
    (unwrap_or stripped text).now ≡ without_mark text.now
unfolding encode
without_mark-stripped text None lacks = sym (without_mark-lacking text.now lacks)
without_mark-stripped text (Some rest) found = sym (without_mark-found text.now rest.now found.0 found.1 found.2)
