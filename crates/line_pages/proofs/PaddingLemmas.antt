-- Texts that are filled with zeros.
use Rattle.std.proofs.Common.{◌≡◌, ◌∙◌, ℕ, Bool, ◌+◌, ◌-◌, ◌≤◌, ◌==◌, List, [], ◌∷◌, ◌++◌, arith, ap, drop, drop-drop, if◌then◌else◌, length, replicate, sym, take, true, false}
use Rattle.std.proofs.lemmas.List.{append_assoc, drop-take, length-append, length-drop, length-replicate, length-take-le, take-append-le, take-take}
use Rattle.std.proofs.lemmas.List.Edits.{paste_all}
use Rattle.std.proofs.lemmas.Slice.{put_mid-paste}
use Rattle.std.proofs.Math.Seq.{drop-append_seam, take-add, take-append_seam, take-length}
use lib.Seq.{paste}
use borrow.Rule.Slice.PartMut.{put_mid}
use Rattle.line_pages.specs.Padding.{sign_size, with_zeros}
use Rattle.line_pages.specs.Pages.{Page}

pub same_page : (text text' : List ℕ) (room room' : ℕ) → text ≡ text' → room ≡ room' →
    ◌≡◌ {A = Page} (record { text = text; room = room }) (record { text = text'; room = room' })
same_page text text' room room' texts rooms = cc

-- the number is the text from its place on
pub number-part : (text : List ℕ) (from : ℕ) → take (length text - from) (drop from text) ≡ drop from text
number-part text from = ap (λ (k : ℕ). take k (drop from text)) (sym (length-drop from text)) ∙ take-length (drop from text)

-- the sign is within its text
pub sign-within : (text : List ℕ) → sign_size text ≤ length text
sign-within [] = omega arith
sign-within (byte ∷ bytes) = of_test (byte == 45)
  where
    of_test : (test : Bool) → (if test then 1 else 0) ≤ length (byte ∷ bytes)
    of_test true = omega arith
    of_test false = omega arith

length-zeros : (zeros : ℕ) → length {A = ℕ} (replicate zeros 48) ≡ zeros
length-zeros zeros = length-replicate zeros 48

-- bytes whose last ones are copied after a gap: what stands before the gap, and from its end on
before-gap : (bytes : List ℕ) (digits zeros len : ℕ) → digits ≤ len → len + zeros ≤ length bytes →
    take digits (paste bytes (digits + zeros) (drop digits bytes) (len - digits)) ≡ take digits bytes
before-gap bytes digits zeros len before within =
    let end : ℕ = digits + zeros in
    let first : List ℕ = take end bytes in
    let long : length first ≡ end = length-take-le end bytes (omega (arith, before, within)) in
    let last : List ℕ = take (len - digits) (drop digits bytes) in
    ap (take digits) (append_assoc first last (drop (end + (len - digits)) bytes))
    ∙ take-append-le digits first (last ++ drop (end + (len - digits)) bytes) (omega (arith, long))
    ∙ take-take digits end bytes (omega arith)

behind-gap : (bytes : List ℕ) (digits zeros len : ℕ) → digits ≤ len → len + zeros ≤ length bytes →
    drop (digits + zeros) (paste bytes (digits + zeros) (drop digits bytes) (len - digits))
    ≡ take (len - digits) (drop digits bytes) ++ drop (digits + zeros + (len - digits)) bytes
behind-gap bytes digits zeros len before within =
    let end : ℕ = digits + zeros in
    let first : List ℕ = take end bytes in
    let long : length first ≡ end = length-take-le end bytes (omega (arith, before, within)) in
    let last : List ℕ = take (len - digits) (drop digits bytes) in
    let rest : List ℕ = last ++ drop (end + (len - digits)) bytes in
    ap (drop end) (append_assoc first last (drop (end + (len - digits)) bytes))
    ∙ ap (λ (n : ℕ). drop n (first ++ rest)) (sym long)
    ∙ drop-append_seam first rest

-- the bytes after a place of the text are copied after a gap, and zeros fill the gap
gap-filled : (bytes copied filling : List ℕ) (digits zeros len n : ℕ) → digits ≤ len → len + zeros ≤ length bytes →
    copied ≡ paste bytes (digits + zeros) (drop digits bytes) (len - digits) → filling ≡ replicate zeros 48 → n ≡ zeros →
    put_mid digits n copied filling
    ≡ (take digits bytes ++ (replicate zeros 48 ++ take (len - digits) (drop digits bytes))) ++ drop (digits + zeros + (len - digits)) bytes
gap-filled bytes copied filling digits zeros len n before within copied_is filling_is size =
    let fill : List ℕ = replicate zeros 48 in
    let last : List ℕ = take (len - digits) (drop digits bytes) in
    let rest : List ℕ = drop (digits + zeros + (len - digits)) bytes in
    put_mid-paste digits n copied filling fill zeros filling_is (sym size) (sym (length-replicate zeros 48))
    ∙ paste_all copied digits fill zeros (sym (length-replicate zeros 48))
    ∙ ap (λ (b : List ℕ). take digits b ++ (fill ++ drop (digits + zeros) b)) copied_is
    ∙ ap (λ (first : List ℕ). first ++ (fill ++ drop (digits + zeros) (paste bytes (digits + zeros) (drop digits bytes) (len - digits)))) (before-gap bytes digits zeros len before within)
    ∙ ap (λ (b : List ℕ). take digits bytes ++ (fill ++ b)) (behind-gap bytes digits zeros len before within)
    ∙ ap (λ (b : List ℕ). take digits bytes ++ b) (sym (append_assoc fill last rest))
    ∙ sym (append_assoc (take digits bytes) (fill ++ last) rest)

-- the bytes stay as many
pub length-filled : (bytes copied filling : List ℕ) (digits zeros len n : ℕ) → digits ≤ len → len + zeros ≤ length bytes →
    copied ≡ paste bytes (digits + zeros) (drop digits bytes) (len - digits) → filling ≡ replicate zeros 48 → n ≡ zeros →
    length (put_mid digits n copied filling) ≡ length bytes
length-filled bytes copied filling digits zeros len n before within copied_is filling_is size =
    let fill : List ℕ = replicate zeros 48 in
    let last : List ℕ = take (len - digits) (drop digits bytes) in
    let rest : List ℕ = drop (digits + zeros + (len - digits)) bytes in
    ap length (gap-filled bytes copied filling digits zeros len n before within copied_is filling_is size)
    ∙ omega (
      arith,
      length-append (take digits bytes ++ (fill ++ last)) rest,
      length-append (take digits bytes) (fill ++ last),
      length-append fill last,
      length-zeros zeros,
      length-take-le digits bytes (omega (arith, before, within)),
      length-take-le (len - digits) (drop digits bytes) (omega (arith, length-drop digits bytes, within)),
      length-drop (digits + zeros + (len - digits)) bytes,
    )

-- the text with the zeros in it
pub text-filled : (bytes copied filling : List ℕ) (from sign zeros len n : ℕ) → from + sign ≤ len → len + zeros ≤ length bytes →
    copied ≡ paste bytes (from + sign + zeros) (drop (from + sign) bytes) (len - (from + sign)) → filling ≡ replicate zeros 48 → n ≡ zeros →
    sign ≡ sign_size (drop from (take len bytes)) →
    take (len + zeros) (put_mid (from + sign) n copied filling) ≡ take from (take len bytes) ++ with_zeros zeros (drop from (take len bytes))
text-filled bytes copied filling from sign zeros len n before within copied_is filling_is size sign_is =
    let digits : ℕ = from + sign in
    let text : List ℕ = take len bytes in
    let number : List ℕ = drop from text in
    let fill : List ℕ = replicate zeros 48 in
    let last : List ℕ = take (len - digits) (drop digits bytes) in
    let whole : List ℕ = take digits bytes ++ (fill ++ last) in
    let rest : List ℕ = drop (digits + zeros + (len - digits)) bytes in
    let long : length whole ≡ len + zeros = omega (
      arith,
      length-append (take digits bytes) (fill ++ last),
      length-append fill last,
      length-zeros zeros,
      length-take-le digits bytes (omega (arith, before, within)),
      length-take-le (len - digits) (drop digits bytes) (omega (arith, length-drop digits bytes, within)),
    ) in
    let again : digits + (len - digits) ≡ len = omega (arith, before) in
    let behind : last ≡ drop digits text = sym (ap (λ (k : ℕ). drop digits (take k bytes)) (sym again) ∙ drop-take digits (len - digits) bytes) in
    ap (take (len + zeros)) (gap-filled bytes copied filling digits zeros len n before within copied_is filling_is size)
    ∙ ap (λ (k : ℕ). take k (whole ++ rest)) (sym long)
    ∙ take-append_seam whole rest
    ∙ ap (λ (first : List ℕ). first ++ (fill ++ last)) (sym (take-take digits len bytes before))
    ∙ ap (λ (b : List ℕ). take digits text ++ (fill ++ b)) behind
    ∙ ap (λ (first : List ℕ). first ++ (fill ++ drop digits text)) (take-add from sign text)
    ∙ ap (λ (b : List ℕ). (take from text ++ take sign number) ++ (fill ++ b)) (sym (drop-drop sign from text))
    ∙ append_assoc (take from text) (take sign number) (fill ++ drop sign number)
    ∙ ap (λ (b : List ℕ). take from text ++ b) (sym (append_assoc (take sign number) fill (drop sign number)))
    ∙ ap (λ (k : ℕ). take from text ++ ((take k number ++ fill) ++ drop k number)) sign_is
