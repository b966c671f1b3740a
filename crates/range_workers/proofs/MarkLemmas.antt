-- Marks in their places, and the files that are due by them.
use Rattle.std.proofs.Common.{◌≡◌, ◌≤◌, ◌<◌, ◌+◌, ℕ, zero, suc, List, [], ◌∷◌, ◌++◌, inl, inr, ap, arith, drop, length, refl, take, append-nil, ◌∙◌}
use Rattle.std.specs.Prelude.{All}
use Rattle.std.specs.List.{flat_map}
use Rattle.std.specs.List.Sorted.{IsNonDecreasingBy}
use Rattle.std.proofs.lemmas.Bool.{cases_lt}
use Rattle.std.proofs.lemmas.List.Elements.{All-tail}
use Rattle.pd_outside.specs.Files.{File}
use Rattle.range_workers.specs.Marks.{AreMarksOf, Mark, due_files, end_before, mark_at, texts}
use Rattle.range_workers.proofs.WriteLemmas.{texts_joined}

pub end_before_mark : (count i : ℕ) (marks : List Mark) → i < length marks → end_before count (drop i marks) ≡ (mark_at marks i).first
end_before_mark count i [] below = absurd (omega (arith, below))
end_before_mark count zero (mark ∷ marks) below = refl
end_before_mark count (suc i) (mark ∷ marks) below = end_before_mark count i marks (omega (arith, below))

pub end_before_none : (count i : ℕ) (marks : List Mark) → length marks ≤ i → end_before count (drop i marks) ≡ count
end_before_none count zero [] past = refl
end_before_none count (suc i) [] past = refl
end_before_none count zero (mark ∷ marks) past = absurd (omega (arith, past))
end_before_none count (suc i) (mark ∷ marks) past = end_before_none count i marks (omega (arith, past))

-- where so many packages are told
pub end_before_told : (told count end : ℕ) (marks : List Mark) → told ≡ count → end ≡ end_before told marks → end ≡ end_before count marks
end_before_told told count end marks same is = is ∙ ap (λ n. end_before n marks) same

-- the packages of a mark end after their first one
pub mark_ordered : (count i : ℕ) (marks : List Mark) → AreMarksOf count marks → i < length marks → (mark_at marks i).first ≤ end_before count (drop (i + 1) marks)
mark_ordered count i marks are below =
    elim (cases_lt (i + 1) (length marks)) [
      | inl more ↦ omega (arith, end_before_mark count (i + 1) marks more, are.rising i (i + 1) (record { first = 0; name = [] }) (omega arith) more)
      | inr last ↦ omega (arith, end_before_none count (i + 1) marks last, are.within i (record { first = 0; name = [] }) below)
    ]

-- and within the count
pub mark_within : (count i : ℕ) (marks : List Mark) → AreMarksOf count marks → end_before count (drop i marks) ≤ count
mark_within count i marks are =
    elim (cases_lt i (length marks)) [
      | inl more ↦ omega (arith, end_before_mark count i marks more, are.within i (record { first = 0; name = [] }) more)
      | inr last ↦ omega (arith, end_before_none count i marks last)
    ]

-- the file of a mark
abbrev pub due_file : (ℕ → List ℕ) → ℕ → List Mark → ℕ → File
due_file text count marks i = record { name = (mark_at marks i).name; bytes = texts text (mark_at marks i).first (end_before count (drop (suc i) marks)) }

next_is : (i : ℕ) → i + 1 ≡ suc i
next_is i = omega arith

pub due_file-is : (text : ℕ → List ℕ) (count i : ℕ) (marks : List Mark) (name : List ℕ) (first end : ℕ) → name ≡ (mark_at marks i).name → first ≡ (mark_at marks i).first →
    end ≡ end_before count (drop (i + 1) marks) → record { name = name; bytes = texts text first end } ≡ due_file text count marks i
due_file-is text count i marks name first end same_name same_first same_end =
    let file : List ℕ → ℕ → ℕ → File = λ n f e. record { name = n; bytes = texts text f e } in
    ap (λ n. file n first end) same_name
    ∙ ap (λ f. file (mark_at marks i).name f end) same_first
    ∙ ap (λ e. file (mark_at marks i).name (mark_at marks i).first e) (same_end ∙ ap (λ next. end_before count (drop next marks)) (next_is i))

-- it stands after those of the marks before, and before the rest
pub due_files-around : (text : ℕ → List ℕ) (count i : ℕ) (marks : List Mark) → i < length marks →
    due_files text count marks ≡ take i (due_files text count marks) ++ (due_file text count marks i ∷ drop (suc i) (due_files text count marks))
due_files-around text count i [] below = absurd (omega (arith, below))
due_files-around text count zero (mark ∷ marks) below = refl
due_files-around text count (suc i) (mark ∷ marks) below =
    ap (λ files. due_file text count (mark ∷ marks) 0 ∷ files) (due_files-around text count i marks (omega (arith, below)))

due_files-next : (text : ℕ → List ℕ) (count i : ℕ) (marks : List Mark) → i < length marks →
    take (suc i) (due_files text count marks) ≡ take i (due_files text count marks) ++ due_file text count marks i ∷ []
due_files-next text count i [] below = absurd (omega (arith, below))
due_files-next text count zero (mark ∷ marks) below = refl
due_files-next text count (suc i) (mark ∷ marks) below =
    ap (λ files. due_file text count (mark ∷ marks) 0 ∷ files) (due_files-next text count i marks (omega (arith, below)))

pub due_files-onto : (text : ℕ → List ℕ) (count i : ℕ) (marks : List Mark) → i < length marks →
    take (i + 1) (due_files text count marks) ≡ take i (due_files text count marks) ++ due_file text count marks i ∷ []
due_files-onto text count i marks below =
    ap (λ next. take next (due_files text count marks)) (next_is i) ∙ due_files-next text count i marks below

pub due_files-all : (text : ℕ → List ℕ) (count i : ℕ) (marks : List Mark) → length marks ≤ i → take i (due_files text count marks) ≡ due_files text count marks
due_files-all text count zero [] past = refl
due_files-all text count (suc i) [] past = refl
due_files-all text count zero (mark ∷ marks) past = absurd (omega (arith, past))
due_files-all text count (suc i) (mark ∷ marks) past = ap (λ files. due_file text count (mark ∷ marks) 0 ∷ files) (due_files-all text count i marks (omega (arith, past)))

texts_from : (text : ℕ → List ℕ) (count : ℕ) (mark : Mark) (marks : List Mark) → IsNonDecreasingBy (λ (it : Mark). it.first) (mark ∷ marks) →
    All (λ (it : Mark). it.first ≤ count) (mark ∷ marks) → flat_map (λ (file : File). file.bytes) (due_files text count (mark ∷ marks)) ≡ texts text mark.first count
texts_from text count mark [] rising within = append-nil (texts text mark.first count)
texts_from text count mark (next ∷ marks) rising within =
    let rest = texts_from text count next marks (λ i j d from below. rising (suc i) (suc j) d (omega (arith, from)) (omega (arith, below))) (All-tail (λ (it : Mark). it.first ≤ count) mark (next ∷ marks) within) in
    ap (λ bytes. texts text mark.first next.first ++ bytes) rest
    ∙ texts_joined text mark.first next.first count (rising 0 1 mark (omega arith) (omega arith)) (within 1 mark (omega arith))

-- the due files have the texts of all packages
pub all_texts : (text : ℕ → List ℕ) (count : ℕ) (marks : List Mark) → AreMarksOf count marks → flat_map (λ (file : File). file.bytes) (due_files text count marks) ≡ texts text 0 count
all_texts text count [] are = absurd (omega (arith, are.some))
all_texts text count (mark ∷ marks) are = texts_from text count mark marks are.rising are.within ∙ ap (λ first. texts text first count) are.first

-- the first mark's packages begin with package 0
pub starts_at_0 : (count : ℕ) (marks : List Mark) → AreMarksOf count marks → end_before count (drop 0 marks) ≡ 0
starts_at_0 count marks are = end_before_mark count 0 marks are.some ∙ are.first
