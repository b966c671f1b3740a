use Rattle.std.proofs.Common.{List, ap, arith, drop, length, replicate, sym, take, ◌+◌, ◌-◌, ◌≡◌, ◌≤◌, ◌++◌, ◌∙◌, ℕ}
use Rattle.std.proofs.lemmas.List.{length-drop, length-take-le, take-replicate, with_items_is}
use lib.Seq.{paste}
use Rattle.line_pages.specs.Padding.{sign_size, with_zeros}
use Rattle.line_pages.specs.Pages.{Page}
use Rattle.line_pages.proofs.PaddingLemmas.{length-filled, number-part, same_page, sign-within, text-filled}
use Rattle.line_pages.proofs.page_buf.PageBuf.put_zeros.Goals as goal

pub returns : goal.returns
returns c =
    let from : ℕ = c.args.from in
    let zeros : ℕ = c.args.zeros in
    let sign : ℕ = c.sign_size.result in
    let len : ℕ = c.self.inside.len in
    let bytes : List ℕ = c.self.inside.bytes.items in
    let text : take len bytes ≡ c.args.self.now.text = ap (λ (page : Page). page.text) c.self.view_is in
    let sign_is : sign ≡ sign_size (drop from (take len bytes)) =
    c.sign_size.ensures ∙ ap sign_size (number-part c.text.result.now from ∙ ap (drop from) (c.text.ensures ∙ sym text)) in
    let long : length (take len bytes) ≡ len = length-take-le len bytes (omega (arith, c.self.invariant.text, c.self.invariant.slack)) in
    let room : len + zeros ≤ length bytes =
    omega (arith, c.requires.room, long, ap (λ (bytes : List ℕ). length bytes) text, ap (λ (page : Page). page.room) c.self.view_is, c.self.invariant.slack) in
    let start : from ≤ len = omega (arith, c.requires.from, ap (λ (bytes : List ℕ). length bytes) text, long) in
    let before : from + sign ≤ len = omega (arith, sign_is, start, long, sign-within (drop from (take len bytes)), length-drop from (take len bytes)) in
    let copied : c.deref_mut.result.now ≡ paste bytes (from + sign + zeros) (drop (from + sign) bytes) (len - (from + sign)) = c.deref_mut.ensures.value ∙ c.copy_within.ensures.items in
    let filling : c.copy_from_slice.new.self ≡ replicate zeros 48 = c.copy_from_slice.ensures.after ∙ take-replicate zeros 64 48 c.requires.few in
    let same_size : length bytes ≡ c.copy_within.new.self.len = omega (arith, c.copy_within.ensures.len, c.self.inside.bytes.ok) in
    let size : from + sign + zeros - (from + sign) ≡ zeros = omega arith in
    same_page _ _ _ _
    (ap (take (len + zeros)) (with_items_is c.copy_within.new.self _
    (length-filled bytes c.deref_mut.result.now c.copy_from_slice.new.self (from + sign) zeros len _ before room copied filling size ∙ same_size))
    ∙ text-filled bytes c.deref_mut.result.now c.copy_from_slice.new.self from sign zeros len _ before room copied filling size sign_is
    ∙ ap (λ (t : List ℕ). take from t ++ with_zeros zeros (drop from t)) text)
    (ap (λ (page : Page). page.room) c.self.view_is)
