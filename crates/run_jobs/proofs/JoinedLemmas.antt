-- The packages of packers in turn.
use Rattle.std.proofs.Common.{◌≡◌, ◌<◌, ◌≤◌, ◌^◌, ℕ, zero, suc, ◌+◌, ◌-◌, List, [], ◌∷◌, ◌++◌, Fits, w64, get_or, length, max, take, ap, arith, refl, subst, sym, ◌∙◌}
use Rattle.std.specs.Prelude.{All, Some, if◌then◌else◌, nat_lt, slice_get, zip}
use Rattle.std.specs.List.{flat_map, range_with_len, sum_by}
use Rattle.std.proofs.lemmas.List.{take_all, take_more}
use Rattle.std.proofs.lemmas.List.Elements.{All-cons, All-nil}
use Rattle.std.proofs.lemmas.List.Sorted.{IsNonDecreasingBy-short}
use Rattle.std.proofs.lemmas.List.Sums.{sum_by-append, sum_by-cons, sum_by_more, sum_by_more_le}
use Rattle.std.proofs.lemmas.Option.{get_or_from_slice_get}
use Rattle.std.proofs.lemmas.Slice.Zip.{get_or-zip, length-zip}
use Rattle.range_workers.specs.Marks.{AreMarksOf, Mark, due_files}
use Rattle.update_box.specs.Cuts.{greatest, text_in}
use Rattle.update_box.specs.Packages.{marks_from}
use Rattle.run_jobs.specs.Joined.{joined_text, part_count, part_files, part_name, whole_text}
use Rattle.update_box.proofs.CutLemmas.{AreMarksOf-items, due_files-items, marks_from-push, text_in-all, text_in-at}

-- ---- one more packer

pub sum_by-push : {P : Type 0} (count : P → ℕ) (parts now : List P) (part : P) → now ≡ parts ++ part ∷ [] → sum_by count parts + count part ≡ sum_by count now
sum_by-push count parts now part pushed =
    omega (arith, ap (λ (ps : List _). sum_by count ps) pushed, sum_by-append count parts (part ∷ []), sum_by-cons count part [])

greatest-behind : {P : Type 0} (room : P → ℕ) (parts : List P) (part : P) → greatest room (parts ++ part ∷ []) ≡ max (greatest room parts) (room part)
greatest-behind room [] part = omega arith
greatest-behind room (first ∷ parts) part = omega (arith, greatest-behind room parts part)

pub greatest-push : {P : Type 0} (room : P → ℕ) (parts now : List P) (part : P) → now ≡ parts ++ part ∷ [] → max (greatest room parts) (room part) ≡ greatest room now
greatest-push room parts now part pushed = sym (ap (greatest room) pushed ∙ greatest-behind room parts part)

-- ---- the packer of a package

pub found-next : {P : Type 0} (count : P → ℕ) (parts : List P) (i n number size : ℕ) (part : P) → i < length parts → part ≡ get_or parts i part → n ≡ sum_by count (take i parts) + number → size ≡ count part → size ≤ number →
    n ≡ sum_by count (take (i + 1) parts) + (number - size)
found-next count parts i n number size part below is sofar many within = omega (arith, sum_by_more count parts i part below, ap count is, sofar, many, within)

pub found-text : {P : Type 0} (count : P → ℕ) (text : P → ℕ → List ℕ) (parts : List P) (i n number size : ℕ) (part : P) → i < length parts → part ≡ get_or parts i part → n ≡ sum_by count (take i parts) + number →
    size ≡ count part → number < size → text part number ≡ text_in count text parts n
found-text count text parts i n number size part below is sofar many inside =
    sym (ap (text_in count text parts) sofar
    ∙ text_in-at count text parts i number part below (omega (arith, ap count is, many, inside))
    ∙ ap (λ (p : _). text p number) (sym is))

room-at : {P : Type 0} (room : P → ℕ) (parts : List P) (i : ℕ) (d : P) → i < length parts → room (get_or parts i d) ≤ greatest room parts
room-at room [] i d below = absurd (omega (arith, below))
room-at room (part ∷ parts) zero d below = omega arith
room-at room (part ∷ parts) (suc i) d below = omega (arith, room-at room parts i d (omega (arith, below)))

pub found-room : {P : Type 0} (room : P → ℕ) (parts : List P) (i : ℕ) (part : P) → i < length parts → part ≡ get_or parts i part → room part ≤ greatest room parts
found-room room parts i part below is = omega (arith, ap room is, room-at room parts i part below)

-- ---- names and packers

zipped-count : {P : Type 0} (count : P → ℕ) (names : List (List ℕ)) (parts : List P) → length names ≡ length parts → sum_by (part_count count) (zip names parts) ≡ sum_by count parts
zipped-count count [] [] alike = refl
zipped-count count [] (part ∷ parts) alike = absurd (omega (arith, alike))
zipped-count count (name ∷ names) [] alike = absurd (omega (arith, alike))
zipped-count count (name ∷ names) (part ∷ parts) alike =
    omega (arith, sum_by-cons (part_count count) (name, part) (zip names parts), sum_by-cons count part parts, zipped-count count names parts (omega (arith, alike)))

zipped-text : {P : Type 0} (count : P → ℕ) (text : P → ℕ → List ℕ) (names : List (List ℕ)) (parts : List P) → length names ≡ length parts → (n : ℕ) →
    text_in count text parts n ≡ text_in (part_count count) (λ (named : List ℕ × P). text named.1) (zip names parts) n
zipped-text count text [] [] alike n = refl
zipped-text count text [] (part ∷ parts) alike n = absurd (omega (arith, alike))
zipped-text count text (name ∷ names) [] alike n = absurd (omega (arith, alike))
zipped-text count text (name ∷ names) (part ∷ parts) alike n =
    ap (λ (t : List ℕ). if nat_lt n (count part) then text part n else t) (zipped-text count text names parts (omega (arith, alike)) (n - count part))

whole-all : {A : Type 0} (count : A → ℕ) (text : A → ℕ → List ℕ) (items : List A) → All (λ item. flat_map (text item) (range_with_len 0 (count item)) ≡ whole_text count text item) items
whole-all count text [] = All-nil (λ item. flat_map (text item) (range_with_len 0 (count item)) ≡ whole_text count text item)
whole-all count text (item ∷ items) =
    let all : count item ≡ count item - 0 = omega arith in
    All-cons (λ item. flat_map (text item) (range_with_len 0 (count item)) ≡ whole_text count text item) item items
    (ap (λ (n : ℕ). flat_map (text item) (range_with_len 0 n)) all) (whole-all count text items)

zipped-before : {P : Type 0} (count : P → ℕ) (names : List (List ℕ)) (parts : List P) (i : ℕ) → length names ≡ length parts →
    sum_by (part_count count) (take i (zip names parts)) ≡ sum_by count (take i parts)
zipped-before count [] [] zero alike = refl
zipped-before count [] [] (suc i) alike = refl
zipped-before count [] (part ∷ parts) i alike = absurd (omega (arith, alike))
zipped-before count (name ∷ names) [] i alike = absurd (omega (arith, alike))
zipped-before count (name ∷ names) (part ∷ parts) zero alike = refl
zipped-before count (name ∷ names) (part ∷ parts) (suc i) alike =
    omega (arith, sum_by-cons (part_count count) (name, part) (take i (zip names parts)), sum_by-cons count part (take i parts), zipped-before count names parts i (omega (arith, alike)))

-- ---- marks

-- one more mark
pub marks-next : {P : Type 0} (count : P → ℕ) (names : List (List ℕ)) (parts read : List P) (i first : ℕ) (name : List ℕ) (part : P) (before now : List Mark) → length names ≡ length parts → read ≡ parts → i < length read →
    before ≡ marks_from (part_count count) part_name 0 (take i (zip names parts)) → first ≡ sum_by count (take i parts) → slice_get names i ≡ Some name → now ≡ before ++ record { first = first; name = name } ∷ [] →
    now ≡ marks_from (part_count count) part_name 0 (take (i + 1) (zip names parts))
marks-next {P = P} count names parts read i first name part before now alike same below sofar begin named pushed =
    let items : List (List ℕ × P) = zip names parts in
    let inside : i < length parts = omega (arith, below, ap (λ (ps : List P). length ps) same) in
    let number : first ≡ 0 + sum_by (part_count count) (take i items) = omega (arith, begin, zipped-before count names parts i alike) in
    let item : List ℕ × P = get_or items i ([], part) in
    let is : name ≡ item.0 = sym (get_or_from_slice_get names i name [] named) ∙ ap (λ (at : List ℕ × P). at.0) (sym (get_or-zip names parts i ([], part) (omega (arith, inside, alike)) inside)) in
    pushed
    ∙ ap (λ (marks : List Mark). marks ++ record { first = first; name = name } ∷ []) sofar
    ∙ ap (λ (n : ℕ). marks_from (part_count count) part_name 0 (take i items) ++ record { first = n; name = name } ∷ []) number
    ∙ ap (λ (t : List ℕ). marks_from (part_count count) part_name 0 (take i items) ++ record { first = 0 + sum_by (part_count count) (take i items); name = t } ∷ []) is
    ∙ sym (marks_from-push (part_count count) part_name 0 (take i items) item)
    ∙ ap (marks_from (part_count count) part_name 0) (sym (take_more items i ([], part) (omega (arith, inside, alike, length-zip names parts))))

pub first-next : {P : Type 0} (count : P → ℕ) (parts read : List P) (i first size : ℕ) (part : P) → read ≡ parts → i < length read → part ≡ get_or read i part → first ≡ sum_by count (take i parts) → size ≡ count part →
    first + size ≡ sum_by count (take (i + 1) parts)
first-next {P = P} count parts read i first size part same below is begin many =
    omega (arith, begin, many, ap count (is ∙ ap (λ (ps : List P). get_or ps i part) same), sum_by_more count parts i part (omega (arith, below, ap (λ (ps : List P). length ps) same)))

pub first-fits : {P : Type 0} (count : P → ℕ) (parts read : List P) (i first size total : ℕ) (part : P) → read ≡ parts → i < length read → part ≡ get_or read i part → first ≡ sum_by count (take i parts) → size ≡ count part →
    total ≡ sum_by count parts → total ≤ 2 ^ 60 → Fits w64 (first + size)
first-fits {P = P} count parts read i first size total part same below is begin many all few =
    omega (arith, begin, many, all, few, ap count (is ∙ ap (λ (ps : List P). get_or ps i part) same), sum_by_more_le count parts i part (omega (arith, below, ap (λ (ps : List P). length ps) same)))

-- all marks
pub marks-all : {P : Type 0} (count : P → ℕ) (names : List (List ℕ)) (parts read : List P) (i : ℕ) (marks : List Mark) → read ≡ parts → length read ≤ i → length names ≡ length parts →
    marks ≡ marks_from (part_count count) part_name 0 (take i (zip names parts)) → marks ≡ marks_from (part_count count) part_name 0 (zip names parts)
marks-all {P = P} count names parts read i marks same past alike are =
    are ∙ ap (marks_from (part_count count) part_name 0) (take_all i (zip names parts) (omega (arith, past, ap (λ (ps : List P). length ps) same, alike, length-zip names parts)))

pub marks-files : {P : Type 0} (count : P → ℕ) (text : P → ℕ → List ℕ) (names : List (List ℕ)) (parts : List P) (marks : List Mark) → length names ≡ length parts →
    marks ≡ marks_from (part_count count) part_name 0 (zip names parts) → due_files (text_in count text parts) (sum_by count parts) marks ≡ part_files count text names parts
marks-files {P = P} count text names parts marks alike are =
    let items : List (List ℕ × P) = zip names parts in
    let all : sum_by count parts ≡ 0 + sum_by (part_count count) items = omega (arith, zipped-count count names parts alike) in
    ap (due_files (text_in count text parts) (sum_by count parts)) are
    ∙ ap (λ (n : ℕ). due_files (text_in count text parts) n (marks_from (part_count count) part_name 0 items)) all
    ∙ due_files-items (part_count count) (λ (named : List ℕ × P). text named.1) (λ (named : List ℕ × P). whole_text count text named.1) part_name items (whole-all (part_count count) (λ (named : List ℕ × P). text named.1) items) (text_in count text parts) 0
    (λ n. let same : 0 + n ≡ n = omega arith in ap (text_in count text parts) same ∙ zipped-text count text names parts alike n)

pub marks-are : {P : Type 0} (count : P → ℕ) (names : List (List ℕ)) (parts : List P) (marks : List Mark) → length names ≡ length parts → 0 < length names →
    marks ≡ marks_from (part_count count) part_name 0 (zip names parts) → AreMarksOf (sum_by count parts) marks
marks-are {P = P} count names parts marks alike some are =
    let items : List (List ℕ × P) = zip names parts in
    subst (λ (n : ℕ). AreMarksOf n marks) (zipped-count count names parts alike)
    (subst (λ (ms : List Mark). AreMarksOf (sum_by (part_count count) items) ms) (sym are)
    (AreMarksOf-items (part_count count) part_name items (omega (arith, some, alike, length-zip names parts))))

-- the one mark of all packers
pub one-mark-files : {P : Type 0} (count : P → ℕ) (text : P → ℕ → List ℕ) (parts : List P) (name : List ℕ) (marks : List Mark) → marks ≡ record { first = 0; name = name } ∷ [] →
    due_files (text_in count text parts) (sum_by count parts) marks ≡ record { name = name; bytes = joined_text count text parts } ∷ []
one-mark-files count text parts name marks are =
    let all : sum_by count parts - 0 ≡ sum_by count parts = omega arith in
    ap (due_files (text_in count text parts) (sum_by count parts)) are
    ∙ ap (λ (bytes : List ℕ). record { name = name; bytes = bytes } ∷ [])
    (ap (λ (n : ℕ). flat_map (text_in count text parts) (range_with_len 0 n)) all
    ∙ text_in-all count text (whole_text count text) parts (whole-all count text parts) (text_in count text parts) 0 (λ n. let same : 0 + n ≡ n = omega arith in ap (text_in count text parts) same))

pub one-mark-is : (count : ℕ) (name : List ℕ) (marks : List Mark) → marks ≡ record { first = 0; name = name } ∷ [] → AreMarksOf count marks
one-mark-is count name marks are = subst (λ (ms : List Mark). AreMarksOf count ms) (sym are) (record {
  some = omega arith;
  first = refl;
  rising = IsNonDecreasingBy-short (λ (mark : Mark). mark.first) (record { first = 0; name = name } ∷ []) (omega arith);
  within = All-cons (λ (mark : Mark). mark.first ≤ count) (record { first = 0; name = name }) [] (omega arith) (All-nil (λ (mark : Mark). mark.first ≤ count));
})
