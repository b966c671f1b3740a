-- Fields one after the other, as a frame puts them.
use Rattle.std.proofs.Common.{◌≡◌, ◌≢◌, ◌<◌, ◌≤◌, ℕ, suc, ◌+◌, ◌-◌, min, false, List, ◌∷◌, ◌++◌, drop, drop-drop, get_or, length, length-append, take, append_assoc, inl, inr, ap, ap₂, sym, ◌∙◌, arith}
use Rattle.std.proofs.Math.Seq.{drop-cons}
use Rattle.std.proofs.lemmas.Bool.{cases_lt}
use Rattle.std.proofs.lemmas.List.{drop_all}
use Rattle.line_pages.specs.Pages.{Page}
use Rattle.sql_lines.specs.Frames.{FramedColumn, behind_framed, field_framed, framed, stop_before}
use Rattle.sql_lines.specs.Reading.{field_before, field_behind}
use Rattle.sql_lines.proofs.ReadingLemmas.{behind-part, field-part}

-- ---- one field

-- the field is the part of the lines up to its end
pub field-here : (stop : ℕ) (lines : List ℕ) (at end : ℕ) → end ≡ at + length (field_before stop (drop at lines)) → take (end - at) (drop at lines) ≡ field_before stop (drop at lines)
field-here stop lines at end is =
    let size : end - at ≡ length (field_before stop (drop at lines)) = omega (arith, is) in
    ap (λ (n : ℕ). take n (drop at lines)) size ∙ field-part false stop (drop at lines)

-- after its end and the byte there the next begins
pub behind-here : (stop : ℕ) (lines : List ℕ) (at end next : ℕ) → at ≤ length lines → end ≡ at + length (field_before stop (drop at lines)) → end ≤ length lines →
    next ≡ min (length lines) (end + 1) → drop next lines ≡ field_behind stop (drop at lines)
behind-here stop lines at end next begins is within next_is =
    let size : ℕ = length (field_before stop (drop at lines)) in
    let here : drop (at + (size + 1)) lines ≡ field_behind stop (drop at lines) = sym (drop-drop (size + 1) at lines) ∙ behind-part false stop (drop at lines) in
    elim (cases_lt end (length lines)) [
      | inl inside ↦
          let same : next ≡ at + (size + 1) = omega (arith, inside, is, next_is) in
          ap (λ (n : ℕ). drop n lines) same ∙ here
      | inr past ↦ drop_all next lines (omega (arith, past, within, next_is)) ∙ sym (drop_all (at + (size + 1)) lines (omega (arith, past, is))) ∙ here
    ]

-- ---- the fields of a frame

-- the byte after a field, with columns after it or none
pub stop-last : (delimiter : ℕ) (columns : List FramedColumn) (number : ℕ) → number + 1 ≡ length columns → stop_before delimiter (drop (number + 1) columns) ≡ 10
stop-last delimiter columns number last = ap (stop_before delimiter) (drop_all (number + 1) columns (omega (arith, last)))

pub stop-other : (delimiter : ℕ) (columns : List FramedColumn) (number : ℕ) (blank : FramedColumn) → number < length columns → number + 1 ≢ length columns →
    stop_before delimiter (drop (number + 1) columns) ≡ delimiter
stop-other delimiter columns number blank below other =
    let inside : number + 1 < length columns = elim (cases_lt (number + 1) (length columns)) [
      | inl more ↦ more
      | inr past ↦ absurd (other (omega (arith, below, past)))
    ] in
    ap (stop_before delimiter) (drop-cons columns (number + 1) blank inside)

-- the column of a number, and those after it
module _ (delimiter : ℕ) (columns : List FramedColumn) (number : ℕ) (column : FramedColumn) (stop : ℕ) (below : number < length columns)
    (column_is : column ≡ get_or columns number column) (stop_is : stop ≡ stop_before delimiter (drop (number + 1) columns)) where
  one_more : drop number columns ≡ column ∷ drop (number + 1) columns
  one_more =
      let next : suc number ≡ number + 1 = omega arith in
      drop-cons columns number column below ∙ ap₂ (λ (c : FramedColumn) (n : ℕ). c ∷ drop n columns) (sym column_is) next

  pub framed-next : (bytes : List ℕ) →
      framed delimiter (drop number columns) bytes ≡ field_framed column stop bytes ++ framed delimiter (drop (number + 1) columns) (field_behind stop bytes)
  framed-next bytes =
      ap (λ (cs : List FramedColumn). framed delimiter cs bytes) one_more
      ∙ ap (λ (n : ℕ). field_framed column n bytes ++ framed delimiter (drop (number + 1) columns) (field_behind n bytes)) (sym stop_is)

  pub behind_framed-next : (bytes : List ℕ) → behind_framed delimiter (drop number columns) bytes ≡ behind_framed delimiter (drop (number + 1) columns) (field_behind stop bytes)
  behind_framed-next bytes =
      ap (λ (cs : List FramedColumn). behind_framed delimiter cs bytes) one_more
      ∙ ap (λ (n : ℕ). behind_framed delimiter (drop (number + 1) columns) (field_behind n bytes)) (sym stop_is)

  pub framed-put : (old page new : Page) (bytes next all : List ℕ) → page.text ++ framed delimiter (drop number columns) bytes ≡ old.text ++ all →
      new ≡ record { text = page.text ++ field_framed column stop bytes; room = page.room } → next ≡ field_behind stop bytes →
      new.text ++ framed delimiter (drop (number + 1) columns) next ≡ old.text ++ all
  framed-put old page new bytes next all before put next_is =
      ap (λ (p : Page). p.text ++ framed delimiter (drop (number + 1) columns) next) put
      ∙ ap (λ (rest : List ℕ). (page.text ++ field_framed column stop bytes) ++ framed delimiter (drop (number + 1) columns) rest) next_is
      ∙ append_assoc page.text (field_framed column stop bytes) (framed delimiter (drop (number + 1) columns) (field_behind stop bytes))
      ∙ ap (λ (text : List ℕ). page.text ++ text) (sym (framed-next bytes))
      ∙ before

-- ---- pieces one after the other on a page

pub more-text : (old page new : Page) (so_far piece : List ℕ) → page ≡ record { text = old.text ++ so_far; room = old.room } → new ≡ record { text = page.text ++ piece; room = page.room } →
    new ≡ record { text = old.text ++ (so_far ++ piece); room = old.room }
more-text old page new so_far piece before put =
    put
    ∙ ap (λ (p : Page). record { text = p.text ++ piece; room = p.room }) before
    ∙ ap (λ (text : List ℕ). record { text = text; room = old.room }) (append_assoc old.text so_far piece)

-- the room that is left after a piece
pub more-fits : (old page : Page) (so_far piece : List ℕ) → page ≡ record { text = old.text ++ so_far; room = old.room } → length old.text + length (so_far ++ piece) ≤ old.room →
    length page.text + length piece ≤ page.room
more-fits old page so_far piece before room =
    omega (
      arith,
      room,
      ap (λ (p : Page). length p.text) before,
      ap (λ (p : Page). p.room) before,
      length-append old.text so_far,
      length-append so_far piece,
    )
