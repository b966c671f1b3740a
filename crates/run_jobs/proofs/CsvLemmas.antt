-- Texts in CSV, one for one with those in COPY text form.
use Rattle.std.proofs.Common.{◌≡◌, ◌<◌, ◌≤◌, ◌+◌, ℕ, zero, suc, List, [], ◌∷◌, ◌++◌, drop, get_or, length, map, take, Some, ap, arith, refl, subst, sym, ◌∙◌}
use Rattle.std.specs.Prelude.{slice_get, zip}
use Rattle.std.specs.List.{AllZip}
use Rattle.std.proofs.lemmas.List.{take_all}
use Rattle.pd_outside.specs.Files.{File, file_at}
use Rattle.csv_face.proofs.BackLemmas.{bad-one, csv-one, read-none_bad, read-one}
use Rattle.csv_face.proofs.NamedLemmas.{named-bad_one, named-none_bad}
use Rattle.csv_face.specs.Csv.{IsCsvOf}
use Rattle.request_words.specs.declared.usage.Format.{Format}
use Rattle.request_words.specs.declared.usage.Format.TheVariants.{Copy, Csv, Sql}
use Rattle.request_words.specs.declared.usage.Header.{Header}
use Rattle.request_words.specs.declared.usage.Header.TheVariants as header
use Rattle.row_text.specs.Fields.{IsDelimiter}
use Rattle.schema_plan.proofs.WordListLemmas.{take_more_got}
use Rattle.run_jobs.specs.Formats.{AreCsvOf, AreWritten, each_after}
use Rattle.run_jobs.specs.InputFiles.{AreReadAs, HasBadAt, HasBadIn, IsReadIn}

-- ---- two lists, one for one

-- what each item gives is one
pub one_image : {A B : Type 0} (R : A → B → Type 0) (xs : List A) (ys zs : List B) → ((x : A) (y z : B) → R x y → R x z → y ≡ z) → AllZip R xs ys → AllZip R xs zs → ys ≡ zs
one_image R [] [] [] one are others = refl
one_image R [] [] (z ∷ zs) one are others = absurd others
one_image R [] (y ∷ ys) zs one are others = absurd are
one_image R (x ∷ xs) [] zs one are others = absurd are
one_image R (x ∷ xs) (y ∷ ys) [] one are others = absurd others
one_image R (x ∷ xs) (y ∷ ys) (z ∷ zs) one are others =
    let first : y ≡ z = one x y z are.0 others.0 in
    let rest : ys ≡ zs = one_image R xs ys zs one are.1 others.1 in
    cc (first, rest)

pub pushed : {A B : Type 0} (R : A → B → Type 0) (xs : List A) (ys : List B) (x : A) (y : B) → AllZip R xs ys → R x y → AllZip R (xs ++ x ∷ []) (ys ++ y ∷ [])
pushed R [] [] x y are is = (is, tt)
pushed R [] (b ∷ ys) x y are is = absurd are
pushed R (a ∷ xs) [] x y are is = absurd are
pushed R (a ∷ xs) (b ∷ ys) x y are is = (are.0, pushed R xs ys x y are.1 is)

pub appended : {A B : Type 0} (R : A → B → Type 0) (xs : List A) (ys : List B) (us : List A) (vs : List B) → AllZip R xs ys → AllZip R us vs → AllZip R (xs ++ us) (ys ++ vs)
appended R [] [] us vs are others = others
appended R [] (y ∷ ys) us vs are others = absurd are
appended R (x ∷ xs) [] us vs are others = absurd are
appended R (x ∷ xs) (y ∷ ys) us vs are others = (are.0, appended R xs ys us vs are.1 others)

pub taken : {A B : Type 0} (R : A → B → Type 0) (n : ℕ) (xs : List A) (ys : List B) → AllZip R xs ys → AllZip R (take n xs) (take n ys)
taken R zero xs ys are = tt
taken R (suc n) [] [] are = tt
taken R (suc n) [] (y ∷ ys) are = absurd are
taken R (suc n) (x ∷ xs) [] are = absurd are
taken R (suc n) (x ∷ xs) (y ∷ ys) are = (are.0, taken R n xs ys are.1)

pub file_got : (files : List File) (place : ℕ) → place < length files → slice_get (map (λ (file : File). file.bytes) files) place ≡ Some (file_at files place).bytes
file_got [] place within = absurd (omega (arith, within))
file_got (file ∷ files) zero within = refl
file_got (file ∷ files) (suc place) within = file_got files place (omega (arith, within))

pub as_long : {A B : Type 0} (R : A → B → Type 0) (xs : List A) (ys : List B) → AllZip R xs ys → length ys ≡ length xs
as_long R [] [] are = refl
as_long R [] (y ∷ ys) are = absurd are
as_long R (x ∷ xs) [] are = absurd are
as_long R (x ∷ xs) (y ∷ ys) are = ap suc (as_long R xs ys are.1)

-- what is made of the item at a place
pub mapped_got : {A B : Type 0} (f : A → B) (items : List A) (place : ℕ) (d : A) (made : B) → place < length items → made ≡ f (get_or items place d) → slice_get (map f items) place ≡ Some made
mapped_got f [] place d made within is = absurd (omega (arith, within))
mapped_got f (item ∷ items) zero d made within is = ap Some (sym is)
mapped_got f (item ∷ items) (suc place) d made within is = mapped_got f items place d made (omega (arith, within)) is

-- texts that are written, each after its heading
pub record AreHeaded (delimiter : ℕ) (headings texts csvs : List (List ℕ)) : Type 0 where
  pub rows : List (List ℕ)
  pub are : AreCsvOf delimiter texts rows
  pub headed : csvs ≡ each_after headings rows

-- one more is
after_more : (headings rows : List (List ℕ)) (number : ℕ) (heading row : List ℕ) → length rows ≡ number → slice_get headings number ≡ Some heading →
    each_after (take (suc number) headings) (rows ++ row ∷ []) ≡ each_after (take number headings) rows ++ (heading ++ row) ∷ []
after_more [] rows number heading row long at = absurd (cc)
after_more (h ∷ headings) [] zero heading row long at = let same : h ≡ heading = cc in ap (λ (t : List ℕ). (t ++ row) ∷ []) same
after_more (h ∷ headings) [] (suc number) heading row long at = absurd (omega (arith, long))
after_more (h ∷ headings) (r ∷ rows) zero heading row long at = absurd (omega (arith, long))
after_more (h ∷ headings) (r ∷ rows) (suc number) heading row long at =
    ap (λ (rest : List (List ℕ)). (h ++ r) ∷ rest) (after_more headings rows number heading row (omega (arith, long)) at)

taken_long : (texts : List (List ℕ)) (number : ℕ) (text : List ℕ) → slice_get texts number ≡ Some text → length (take number texts) ≡ number
taken_long [] number text at = absurd (cc)
taken_long (t ∷ texts) zero text at = refl
taken_long (t ∷ texts) (suc number) text at = ap suc (taken_long texts number text at)

pub csv_more : (delimiter : ℕ) (headings texts csvs after : List (List ℕ)) (number : ℕ) (heading text csv : List ℕ) → slice_get headings number ≡ Some heading → slice_get texts number ≡ Some text →
    AreHeaded delimiter (take number headings) (take number texts) csvs → IsCsvOf delimiter text csv → after ≡ csvs ++ (heading ++ csv) ∷ [] →
    AreHeaded delimiter (take (number + 1) headings) (take (number + 1) texts) after
csv_more delimiter headings texts csvs after number heading text csv heading_at at are is after_is =
    let next : number + 1 ≡ suc number = omega arith in
    let long : length are.rows ≡ number = as_long (IsCsvOf delimiter) (take number texts) are.rows are.are ∙ taken_long texts number text at in
    record {
      rows = are.rows ++ csv ∷ [];
      are = rw (take_more_got texts number text at) (pushed (IsCsvOf delimiter) (take number texts) are.rows text csv are.are is);
      headed =
          after_is ∙ ap (λ (front : List (List ℕ)). front ++ (heading ++ csv) ∷ []) are.headed
          ∙ sym (after_more headings are.rows number heading csv long heading_at)
          ∙ ap (λ (n : ℕ). each_after (take n headings) (are.rows ++ csv ∷ [])) (sym next);
    }

pub csv_all : (delimiter : ℕ) (headings texts csvs : List (List ℕ)) (number : ℕ) → length headings ≤ number → length texts ≤ number →
    AreHeaded delimiter (take number headings) (take number texts) csvs → AreHeaded delimiter headings texts csvs
csv_all delimiter headings texts csvs number all_headings all are =
    subst (λ (h : List (List ℕ)). AreHeaded delimiter h texts csvs) (take_all number headings all_headings)
    (subst (λ (l : List (List ℕ)). AreHeaded delimiter (take number headings) l csvs) (take_all number texts all) are)

-- none is written yet
pub csv_none : (delimiter : ℕ) (headings texts csvs : List (List ℕ)) → csvs ≡ [] → AreHeaded delimiter (take 0 headings) (take 0 texts) csvs
csv_none delimiter headings texts csvs none = record { rows = []; are = tt; headed = none }

-- an item as it is seen
pub viewed_at : {A B : Type 0} (view : A → B) (items : List A) (place : ℕ) (item : A) (d : B) → place < length items → item ≡ get_or items place item → get_or (map view items) place d ≡ view item
viewed_at view [] place item d within is = absurd (omega (arith, within))
viewed_at view (first ∷ items) zero item d within is = ap view (sym is)
viewed_at view (first ∷ items) (suc place) item d within is = viewed_at view items place item d (omega (arith, within)) is

-- headings leave the number of texts as it is
pub length-after : (headings texts : List (List ℕ)) → length (each_after headings texts) ≡ length texts
length-after [] texts = refl
length-after (heading ∷ headings) [] = refl
length-after (heading ∷ headings) (text ∷ texts) = ap suc (length-after headings texts)

pub headed-long : (delimiter : ℕ) (headings texts csvs : List (List ℕ)) → AreHeaded delimiter headings texts csvs → length csvs ≡ length texts
headed-long delimiter headings texts csvs are =
    ap length are.headed ∙ length-after headings are.rows ∙ as_long (IsCsvOf delimiter) texts are.rows are.are

pub dropped : {A B : Type 0} (R : A → B → Type 0) (n : ℕ) (xs : List A) (ys : List B) → AllZip R xs ys → AllZip R (drop n xs) (drop n ys)
dropped R zero xs ys are = are
dropped R (suc n) [] [] are = tt
dropped R (suc n) [] (y ∷ ys) are = absurd are
dropped R (suc n) (x ∷ xs) [] are = absurd are
dropped R (suc n) (x ∷ xs) (y ∷ ys) are = dropped R n xs ys are.1

-- ---- what is written is one

pub one_written : (format : Format) (delimiter : ℕ) (texts written other : List (List ℕ)) → IsDelimiter delimiter → AreWritten format delimiter texts written →
    AreWritten format delimiter texts other → written ≡ other
one_written Copy delimiter texts written other delimits is other_is = is ∙ sym other_is
one_written Csv delimiter texts written other delimits is other_is =
    one_image (IsCsvOf delimiter) texts written other (λ text csv csv_2. csv-one delimiter text csv csv_2 delimits) is other_is
one_written Sql delimiter texts written other delimits is other_is = absurd is

-- ---- what is read

one_copy : (asked : Header) (delimiter : ℕ) (input : List (List ℕ) × List ℕ) (copy other : List ℕ) → IsReadIn asked delimiter input copy → IsReadIn asked delimiter input other → copy ≡ other
one_copy header.None delimiter input copy other is other_is = read-one [] delimiter (length input.0) input.1 copy other is other_is
one_copy header.Names delimiter input copy other is other_is = read-one (input.0 ∷ []) delimiter (length input.0) input.1 copy other is other_is

copy-not_bad : (asked : Header) (delimiter : ℕ) (input : List (List ℕ) × List ℕ) (copy : List ℕ) (at : ℕ) → IsReadIn asked delimiter input copy → ¬ HasBadIn asked input.0 input.1 at
copy-not_bad header.None delimiter input copy at is bad = read-none_bad [] delimiter (length input.0) input.1 copy at is bad
copy-not_bad header.Names delimiter input copy at is bad = named-none_bad delimiter input.0 input.1 copy at is bad

one_bad_in : (asked : Header) (names : List (List ℕ)) (bytes : List ℕ) (at other : ℕ) → HasBadIn asked names bytes at → HasBadIn asked names bytes other → at ≡ other
one_bad_in header.None names bytes at other bad other_bad = bad-one [] (length names) bytes at other bad other_bad
one_bad_in header.Names names bytes at other bad other_bad = named-bad_one names bytes at other bad other_bad

pub one_copies : (asked : Header) (delimiter : ℕ) (inputs : List (List (List ℕ) × List ℕ)) (copies others : List (List ℕ)) → AreReadAs asked delimiter inputs copies →
    AreReadAs asked delimiter inputs others → copies ≡ others
one_copies asked delimiter inputs copies others are other_are =
    one_image (IsReadIn asked delimiter) inputs copies others (one_copy asked delimiter) are other_are

-- inputs that are read have no bad record
pub no_bad : (asked : Header) (delimiter : ℕ) (inputs : List (List (List ℕ) × List ℕ)) (copies : List (List ℕ)) (number at : ℕ) → AreReadAs asked delimiter inputs copies →
    ¬ HasBadAt asked delimiter inputs number at
no_bad asked delimiter [] copies number at are bad = bad
no_bad asked delimiter (input ∷ inputs) [] number at are bad = absurd are
no_bad asked delimiter (input ∷ inputs) (copy ∷ copies) zero at are bad = copy-not_bad asked delimiter input copy at are.0 bad
no_bad asked delimiter (input ∷ inputs) (copy ∷ copies) (suc number) at are bad = no_bad asked delimiter inputs copies number at are.1 bad.1

-- one record is the first bad one
pub one_bad : (asked : Header) (delimiter : ℕ) (inputs : List (List (List ℕ) × List ℕ)) (number other at other_at : ℕ) → HasBadAt asked delimiter inputs number at →
    HasBadAt asked delimiter inputs other other_at → (number ≡ other) × (at ≡ other_at)
one_bad asked delimiter [] number other at other_at bad other_bad = absurd bad
one_bad asked delimiter (input ∷ inputs) zero zero at other_at bad other_bad = (refl, one_bad_in asked input.0 input.1 at other_at bad other_bad)
one_bad asked delimiter (input ∷ inputs) zero (suc other) at other_at bad other_bad =
    absurd (copy-not_bad asked delimiter input other_bad.0.0 at other_bad.0.1 bad)
one_bad asked delimiter (input ∷ inputs) (suc number) zero at other_at bad other_bad =
    absurd (copy-not_bad asked delimiter input bad.0.0 other_at bad.0.1 other_bad)
one_bad asked delimiter (input ∷ inputs) (suc number) (suc other) at other_at bad other_bad =
    let rest = one_bad asked delimiter inputs number other at other_at bad.1 other_bad.1 in
    (ap suc rest.0, rest.1)

-- an input after those that are read has the first bad record
pub bad_behind : (asked : Header) (delimiter : ℕ) (columns : List (List (List ℕ))) (inputs copies : List (List ℕ)) (number at : ℕ) → length columns ≡ length inputs → number < length inputs →
    AreReadAs asked delimiter (take number (zip columns inputs)) copies → HasBadIn asked (get_or columns number []) (get_or inputs number []) at →
    HasBadAt asked delimiter (zip columns inputs) number at
bad_behind asked delimiter columns [] copies number at alike within are has = absurd (omega (arith, within))
bad_behind asked delimiter [] (input ∷ inputs) copies number at alike within are has = absurd (omega (arith, alike))
bad_behind asked delimiter (names ∷ columns) (input ∷ inputs) copies zero at alike within are has = has
bad_behind asked delimiter (names ∷ columns) (input ∷ inputs) [] (suc number) at alike within are has = absurd are
bad_behind asked delimiter (names ∷ columns) (input ∷ inputs) (copy ∷ copies) (suc number) at alike within are has =
    ((copy, are.0), bad_behind asked delimiter columns inputs copies number at (omega (arith, alike)) (omega (arith, within)) are.1 has)

-- ---- all of them

pub zip_length : (columns : List (List (List ℕ))) (inputs : List (List ℕ)) → length columns ≡ length inputs → length (zip columns inputs) ≡ length inputs
zip_length [] [] alike = refl
zip_length [] (input ∷ inputs) alike = absurd (omega (arith, alike))
zip_length (names ∷ columns) [] alike = absurd (omega (arith, alike))
zip_length (names ∷ columns) (input ∷ inputs) alike = ap suc (zip_length columns inputs (omega (arith, alike)))

pub read_all : (asked : Header) (delimiter : ℕ) (columns : List (List (List ℕ))) (inputs copies : List (List ℕ)) (number : ℕ) → length columns ≡ length inputs → length inputs ≤ number →
    AreReadAs asked delimiter (take number (zip columns inputs)) copies → AreReadAs asked delimiter (zip columns inputs) copies
read_all asked delimiter columns inputs copies number alike all are =
    subst (λ (l : List (List (List ℕ) × List ℕ)). AreReadAs asked delimiter l copies) (take_all number (zip columns inputs) (omega (arith, all, zip_length columns inputs alike))) are

-- one more input is read
pub read_more : (asked : Header) (delimiter : ℕ) (columns : List (List (List ℕ))) (inputs copies after : List (List ℕ)) (number : ℕ) (copy : List ℕ) → length columns ≡ length inputs →
    number < length inputs → AreReadAs asked delimiter (take number (zip columns inputs)) copies → IsReadIn asked delimiter (get_or columns number [], get_or inputs number []) copy →
    after ≡ copies ++ copy ∷ [] → AreReadAs asked delimiter (take (number + 1) (zip columns inputs)) after
read_more asked delimiter columns inputs copies after number copy alike within are is after_is =
    rw (after_is, next columns inputs number alike within) (pushed (IsReadIn asked delimiter) (take number (zip columns inputs)) copies _ copy are is)
  where
    suc_next : (columns : List (List (List ℕ))) (inputs : List (List ℕ)) (number : ℕ) → length columns ≡ length inputs → number < length inputs →
        take (suc number) (zip columns inputs) ≡ take number (zip columns inputs) ++ (get_or columns number [], get_or inputs number []) ∷ []
    suc_next columns [] number alike within = absurd (omega (arith, within))
    suc_next [] (input ∷ inputs) number alike within = absurd (omega (arith, alike))
    suc_next (names ∷ columns) (input ∷ inputs) zero alike within = refl
    suc_next (names ∷ columns) (input ∷ inputs) (suc number) alike within =
        ap (λ (rest : List (List (List ℕ) × List ℕ)). (names, input) ∷ rest) (suc_next columns inputs number (omega (arith, alike)) (omega (arith, within)))

    next : (columns : List (List (List ℕ))) (inputs : List (List ℕ)) (number : ℕ) → length columns ≡ length inputs → number < length inputs →
        take (number + 1) (zip columns inputs) ≡ take number (zip columns inputs) ++ (get_or columns number [], get_or inputs number []) ∷ []
    next columns inputs number alike within =
        ap (λ (n : ℕ). take n (zip columns inputs)) (let more : number + 1 ≡ suc number = omega arith in more) ∙ suc_next columns inputs number alike within
