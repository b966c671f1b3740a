-- The records that the crate `csv` reads.
use Rattle.std.proofs.Common.{◌≡◌, ℕ, suc, List, [], ◌∷◌, ◌++◌, false, true, length, None, Some, map, refl, sym, ap, ◌∙◌, subst}
use Rattle.std.proofs.lemmas.List.Elements.{All-head, All-tail}
use Rattle.csv.specs.Machine.{Read, next_record}
use Rattle.csv.specs.Reading.{AreRecords, Reached, default_config}
use Rattle.csv.specs.Writing.{read_back}
use Rattle.csv.specs.declared.parser.Config.{Config}
use Rattle.csv.specs.declared.parser.State.{State}
use Rattle.csv.specs.declared.parser.State.TheVariants as st
use Rattle.csv.proofs.RoundTrip.{read-write}
use Rattle.csv_face.specs.Csv.{records_text}
use Rattle.csv_face.specs.Reading.{AreGood, is_bad_record}

-- those of the text of records
reached-records_text : (records : List (List (List ℕ))) → Reached default_config st.StartRecord (records_text records) (map read_back records) st.StartRecord []
unfolding Reached
reached-records_text [] = (refl, refl)
reached-records_text (fields ∷ records) =
    ((read_back fields, st.StartRecord, records_text records), read-write fields (records_text records), refl, reached-records_text records)

pub are_records-records_text : (records : List (List (List ℕ))) → AreRecords default_config st.StartRecord (records_text records) (map read_back records)
unfolding next_record
are_records-records_text records = (st.StartRecord, [], reached-records_text records, refl)

-- a text with a record isn't at its end
at_end : (config : Config) (s s2 : State) (text rest : List ℕ) (p : Read) → (s ≡ s2) × (text ≡ rest) → next_record config s2 [] [] rest ≡ None → next_record config s [] [] text ≡ Some p → ⊥
at_end config s s2 text rest p (same, here) none is =
    let clash : next_record config s [] [] text ≡ None = rw (same, here) none in
    cc (clash, is)

-- bytes have their records in one way
pub are_records-same : (config : Config) (s : State) (text : List ℕ) (xs ys : List (List (List ℕ)))
    → AreRecords config s text xs → AreRecords config s text ys → xs ≡ ys
unfolding Reached
are_records-same config s text [] [] one other = refl
are_records-same config s text [] (y ∷ ys) (s2, t2, here, none) (s3, t3, (p, is, first, more), none_3) = absurd (at_end config s s2 text t2 p here none is)
are_records-same config s text (x ∷ xs) [] (s3, t3, (p, is, first, more), none_3) (s2, t2, here, none) = absurd (at_end config s s2 text t2 p here none is)
are_records-same config s text (x ∷ xs) (y ∷ ys) (s2, t2, (p, is, first, more), none) (s3, t3, (q, is_q, first_q, more_q), none_3) =
    let both : Some p ≡ Some q = sym is ∙ is_q in
    let same : p ≡ q = cc both in
    let heads : x ≡ y = first ∙ ap (λ (r : Read). r.0) same ∙ sym first_q in
    let tails : xs ≡ ys =
    are_records-same config p.1 p.2 xs ys (s2, t2, more, none)
    (s3, t3, subst (λ (r : Read). Reached config r.1 r.2 ys s3 t3) (sym same) more_q, none_3) in
    cc (heads, tails)

good-head : (count : ℕ) (fields : List (List ℕ)) (records : List (List (List ℕ))) → AreGood count (fields ∷ records) → is_bad_record count fields ≡ false
good-head count fields records good = All-head (λ (f : List (List ℕ)). is_bad_record count f ≡ false) fields records good

good-tail : (count : ℕ) (fields : List (List ℕ)) (records : List (List (List ℕ))) → AreGood count (fields ∷ records) → AreGood count records
good-tail count fields records good = All-tail (λ (f : List (List ℕ)). is_bad_record count f ≡ false) fields records good

-- of records that are good each that is reached is
pub reached-good : (config : Config) (count : ℕ) (s s2 : State) (text rest : List ℕ) (before : List (List (List ℕ))) (last : List (List ℕ)) (records : List (List (List ℕ)))
    → Reached config s text (before ++ last ∷ []) s2 rest → AreRecords config s text records → AreGood count records → is_bad_record count last ≡ false
unfolding Reached
reached-good config count s s2 text rest [] last [] (p, is, _, _) (s3, t3, here, none) good = absurd (at_end config s s3 text t3 p here none is)
reached-good config count s s2 text rest (x ∷ before) last [] (p, is, _, _) (s3, t3, here, none) good = absurd (at_end config s s3 text t3 p here none is)
reached-good config count s s2 text rest [] last (y ∷ records) (p, is, first, more) (s3, t3, (q, is_q, first_q, more_q), none) good =
    let both : Some p ≡ Some q = sym is ∙ is_q in
    let same : p ≡ q = cc both in
    let heads : last ≡ y = first ∙ ap (λ (r : Read). r.0) same ∙ sym first_q in
    ap (is_bad_record count) heads ∙ good-head count y records good
reached-good config count s s2 text rest (x ∷ before) last (y ∷ records) (p, is, first, more) (s3, t3, (q, is_q, first_q, more_q), none) good =
    let both : Some p ≡ Some q = sym is ∙ is_q in
    let same : p ≡ q = cc both in
    reached-good config count p.1 s2 p.2 rest before last records more
    (s3, t3, subst (λ (r : Read). Reached config r.1 r.2 records s3 t3) (sym same) more_q, none) (good-tail count y records good)

-- two records that are reached after good ones, and are bad, are after as many
pub first_bad-same : (config : Config) (count : ℕ) (s s2 s3 : State) (text rest rest_3 : List ℕ) (before others : List (List (List ℕ))) (last other : List (List ℕ))
    → Reached config s text (before ++ last ∷ []) s2 rest → Reached config s text (others ++ other ∷ []) s3 rest_3
    → AreGood count before → AreGood count others → is_bad_record count last ≡ true → is_bad_record count other ≡ true → length before ≡ length others
unfolding Reached
first_bad-same config count s s2 s3 text rest rest_3 [] [] last other one two good good_2 bad bad_2 = refl
first_bad-same config count s s2 s3 text rest rest_3 [] (y ∷ others) last other (p, is, first, more) (q, is_q, first_q, more_q) good good_2 bad bad_2 =
    let both : Some p ≡ Some q = sym is ∙ is_q in
    let same : p ≡ q = cc both in
    let heads : last ≡ y = first ∙ ap (λ (r : Read). r.0) same ∙ sym first_q in
    let fine : is_bad_record count last ≡ false = ap (is_bad_record count) heads ∙ good-head count y others good_2 in
    cc (bad, fine)
first_bad-same config count s s2 s3 text rest rest_3 (x ∷ before) [] last other (p, is, first, more) (q, is_q, first_q, more_q) good good_2 bad bad_2 =
    let both : Some p ≡ Some q = sym is ∙ is_q in
    let same : p ≡ q = cc both in
    let heads : x ≡ other = first ∙ ap (λ (r : Read). r.0) same ∙ sym first_q in
    let fine : is_bad_record count other ≡ false = ap (is_bad_record count) (sym heads) ∙ good-head count x before good in
    cc (bad_2, fine)
first_bad-same config count s s2 s3 text rest rest_3 (x ∷ before) (y ∷ others) last other (p, is, first, more) (q, is_q, first_q, more_q) good good_2 bad bad_2 =
    let both : Some p ≡ Some q = sym is ∙ is_q in
    let same : p ≡ q = cc both in
    ap suc (first_bad-same config count p.1 s2 s3 p.2 rest rest_3 before others last other more
    (subst (λ (r : Read). Reached config r.1 r.2 (others ++ other ∷ []) s3 rest_3) (sym same) more_q)
    (good-tail count x before good) (good-tail count y others good_2) bad bad_2)

-- ---- after some first records

without_first : (first xs ys : List (List (List ℕ))) → first ++ xs ≡ first ++ ys → xs ≡ ys
without_first [] xs ys same = same
without_first (x ∷ first) xs ys same = without_first first xs ys (cc same)

pub are_records-after : (config : Config) (s : State) (text : List ℕ) (first xs ys : List (List (List ℕ)))
    → AreRecords config s text (first ++ xs) → AreRecords config s text (first ++ ys) → xs ≡ ys
are_records-after config s text first xs ys one other = without_first first xs ys (are_records-same config s text (first ++ xs) (first ++ ys) one other)

pub reached-good_after : (config : Config) (count : ℕ) (s s2 : State) (text rest : List ℕ) (first before : List (List (List ℕ))) (last : List (List ℕ)) (records : List (List (List ℕ)))
    → Reached config s text (first ++ (before ++ last ∷ [])) s2 rest → AreRecords config s text (first ++ records) → AreGood count records → is_bad_record count last ≡ false
unfolding Reached
reached-good_after config count s s2 text rest [] before last records reached are good = reached-good config count s s2 text rest before last records reached are good
reached-good_after config count s s2 text rest (x ∷ first) before last records (p, is, _, more) (s3, t3, (q, is_q, _, more_q), none) good =
    let both : Some p ≡ Some q = sym is ∙ is_q in
    let same : p ≡ q = cc both in
    reached-good_after config count p.1 s2 p.2 rest first before last records more
    (s3, t3, subst (λ (r : Read). Reached config r.1 r.2 (first ++ records) s3 t3) (sym same) more_q, none) good

pub first_bad-after : (config : Config) (count : ℕ) (s s2 s3 : State) (text rest rest_3 : List ℕ) (first before others : List (List (List ℕ))) (last other : List (List ℕ))
    → Reached config s text (first ++ (before ++ last ∷ [])) s2 rest → Reached config s text (first ++ (others ++ other ∷ [])) s3 rest_3
    → AreGood count before → AreGood count others → is_bad_record count last ≡ true → is_bad_record count other ≡ true → length before ≡ length others
unfolding Reached
first_bad-after config count s s2 s3 text rest rest_3 [] before others last other one two good good_2 bad bad_2 =
    first_bad-same config count s s2 s3 text rest rest_3 before others last other one two good good_2 bad bad_2
first_bad-after config count s s2 s3 text rest rest_3 (x ∷ first) before others last other (p, is, _, more) (q, is_q, _, more_q) good good_2 bad bad_2 =
    let both : Some p ≡ Some q = sym is ∙ is_q in
    let same : p ≡ q = cc both in
    first_bad-after config count p.1 s2 s3 p.2 rest rest_3 first before others last other more
    (subst (λ (r : Read). Reached config r.1 r.2 (first ++ (others ++ other ∷ [])) s3 rest_3) (sym same) more_q) good good_2 bad bad_2

-- the first record is one
pub first-same : (config : Config) (s s2 s3 : State) (text rest rest_3 : List ℕ) (x y : List (List ℕ)) (xs ys : List (List (List ℕ)))
    → Reached config s text (x ∷ xs) s2 rest → Reached config s text (y ∷ ys) s3 rest_3 → x ≡ y
unfolding Reached
first-same config s s2 s3 text rest rest_3 x y xs ys (p, is, first, more) (q, is_q, first_q, more_q) =
    let both : Some p ≡ Some q = sym is ∙ is_q in
    let same : p ≡ q = cc both in
    first ∙ ap (λ (r : Read). r.0) same ∙ sym first_q

-- bytes without a record reach none
pub none-reached : (config : Config) (s s2 : State) (text rest : List ℕ) (x : List (List ℕ)) (xs : List (List (List ℕ)))
    → AreRecords config s text [] → Reached config s text (x ∷ xs) s2 rest → ⊥
unfolding Reached
none-reached config s s2 text rest x xs (s3, t3, here, none) (p, is, first, more) = at_end config s s3 text t3 p here none is
