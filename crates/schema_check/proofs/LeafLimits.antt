-- Drawn values that pass the tests of the rules are within their limits.
use Rattle.std.proofs.Common.{◌≡◌, ◌∙◌, ℕ, ℤ, pos, negsuc, neg_ℤ, ◌+ℤ◌, ◌-ℤ◌, ◌<ℤ◌, ◌≤ℤ◌, ◌<◌, ◌≤◌, ◌-◌, ◌^◌, ◌==◌, ◌&&◌, All, Bool, true, false, suc, List, [], ◌∷◌, length, map, sum, get_or, nat_le, int_le, cond, Option, Some, is_some, sym, subst, arith}
use Rattle.std.specs.List.{find, list_all}
use Rattle.std.specs.Option.{option_map, unwrap_or}
use Rattle.std.specs.Str.{chars}
use Rattle.std.proofs.lemmas.Bool.{and_parts, eqb-true, leb-true}
use Rattle.std.proofs.lemmas.Int.{ints}
use Rattle.std.proofs.lemmas.List.{get_or-map, length-map}
use Rattle.dictionaries.specs.WordList.{WordList, IsWordList}
use Rattle.schema_model.specs.declared.column.Leaf.{Leaf}
use Rattle.schema_model.specs.declared.column.Leaf.TheVariants as drawn
use Rattle.schema_plan.specs.Citations.{may_cite}
use Rattle.schema_facts.specs.Counts.{count}
use Rattle.schema_facts.specs.Dictionaries.{AreWordLists, Dictionary, dictionary_named, no_words, words_named}
use Rattle.schema_facts.specs.Layout.{leaf_layout}
use Rattle.schema_plan.specs.Limits.{IsAlphabet, IsDateRange, IsLeafInLimits, IsLengthRange, IsRange, IsSkew, IsWeighted}
use Rattle.schema_facts.specs.Names.{same_text}
use Rattle.schema_plan.specs.Rules.{are_supplied_by, is_between, is_date_range, is_length_between, is_length_range, is_number_range, is_range, is_skew_range, is_supplied_by, is_weighted}
use Rattle.schema_check.proofs.FromTests.{le_from_test, least_from_test, limit_from_test, passes_each}

range_from_test : (lo hi : ℤ) → is_range lo hi ≡ true → IsRange lo hi
range_from_test lo hi h =
    let parts = and_parts (int_le lo hi) (int_le (hi -ℤ lo) (pos (2 ^ 63 - 1))) h in
    let near : (hi -ℤ lo) ≤ℤ pos (2 ^ 63 - 1) = le_from_test (hi -ℤ lo) (pos (2 ^ 63 - 1)) parts.1 in
    record { ordered = le_from_test lo hi parts.0; near = omega (arith, ints) }

dates_from_test : (lo hi : ℤ) → is_date_range (drawn.Date lo hi) ≡ true → IsDateRange lo hi
dates_from_test lo hi h =
    let parts = and_parts (int_le (neg_ℤ (pos 719162)) lo && int_le lo hi) (int_le hi (pos 2932896)) h in
    let first = and_parts (int_le (neg_ℤ (pos 719162)) lo) (int_le lo hi) parts.0 in
    record {
      first_day = le_from_test (neg_ℤ (pos 719162)) lo first.0;
      ordered = le_from_test lo hi first.1;
      last_day = le_from_test hi (pos 2932896) parts.1;
    }

-- weights that each are at least 1 count at least 1
positive_from_test : (weights : List ℤ) → list_all (int_le (pos 1)) weights ≡ true → All (λ weight. 1 ≤ weight) (map count weights)
positive_from_test weights h = λ i d lt.
    let within : i < length weights = omega (arith, lt, length-map weights count) in
    subst (λ (weight : ℕ). 1 ≤ weight) (sym (get_or-map count weights i (pos 0) d within))
    (least_from_test (get_or weights i (pos 0)) 1 (passes_each (int_le (pos 1)) weights i (pos 0) within h))

weights_from_test : (entries : List (List ℕ)) (weights : List ℤ) → is_weighted (drawn.Pick entries weights) ≡ true → IsWeighted entries (map count weights)
weights_from_test entries weights h =
    let some = nat_le 1 (length entries) in
    let few = nat_le (length entries) 256 in
    let as_many = length weights == length entries in
    let positive = list_all (int_le (pos 1)) weights in
    let v = and_parts (some && few && as_many && positive) (nat_le (sum (map count weights)) (2 ^ 32)) h in
    let w = and_parts (some && few && as_many) positive v.0 in
    let x = and_parts (some && few) as_many w.0 in
    let y = and_parts some few x.0 in
    record {
      some_entry = leb-true 1 (length entries) y.0;
      entry_limit = leb-true (length entries) 256 y.1;
      one_each = length-map weights count ∙ eqb-true (length weights) (length entries) x.1;
      positive = positive_from_test weights w.1;
      total_limit = leb-true (sum (map count weights)) (2 ^ 32) v.1;
    }

-- the last of a skew's numbers, as the layout counts them
last_from_test : (lo size : ℤ) → int_le (pos 1) size ≡ true → int_le (lo +ℤ (size -ℤ pos 1)) (pos (2 ^ 63 - 1)) ≡ true → (lo +ℤ pos (count size - 1)) <ℤ pos (2 ^ 63)
last_from_test lo (pos n) some h =
    let least : 1 ≤ n = leb-true 1 n some in
    let last : (lo +ℤ (pos n -ℤ pos 1)) ≤ℤ pos (2 ^ 63 - 1) = le_from_test (lo +ℤ (pos n -ℤ pos 1)) (pos (2 ^ 63 - 1)) h in
    omega (arith, ints)
last_from_test lo (negsuc n) some h = cc

skew_from_test : (lo size power : ℤ) → is_skew_range (drawn.Skew lo size power) ≡ true → IsSkew lo (count size) (count power)
skew_from_test lo size power h =
    let v = and_parts (is_between 1 4096 size && is_between 1 3 power) (int_le (lo +ℤ (size -ℤ pos 1)) (pos (2 ^ 63 - 1))) h in
    let w = and_parts (is_between 1 4096 size) (is_between 1 3 power) v.0 in
    let sizes = and_parts (int_le (pos 1) size) (int_le size (pos 4096)) w.0 in
    let powers = and_parts (int_le (pos 1) power) (int_le power (pos 3)) w.1 in
    record {
      some_number = least_from_test size 1 sizes.0;
      size_limit = limit_from_test size 4096 sizes.1;
      least_power = least_from_test power 1 powers.0;
      greatest_power = limit_from_test power 3 powers.1;
      last_number = last_from_test lo size sizes.0 v.1;
    }

-- numbers that aren't below 0 count in their order
counts_ordered : (lo hi : ℤ) → int_le (pos 0) lo ≡ true → int_le lo hi ≡ true → count lo ≤ count hi
counts_ordered (pos m) (pos n) least h = leb-true m n h
counts_ordered (pos m) (negsuc n) least h = cc
counts_ordered (negsuc m) hi least h = cc

lengths_from_test : (lo hi : ℤ) → is_length_between lo hi ≡ true → IsLengthRange (count lo) (count hi)
lengths_from_test lo hi h =
    let parts = and_parts (int_le (pos 0) lo && int_le lo hi) (int_le hi (pos 1000)) h in
    let first = and_parts (int_le (pos 0) lo) (int_le lo hi) parts.0 in
    record { ordered = counts_ordered lo hi first.0 first.1; length_limit = limit_from_test hi 1000 parts.1 }

characters_from_test : (alphabet : List ℕ) (lo hi : ℤ) → is_length_range (drawn.Chars alphabet lo hi) ≡ true → IsAlphabet alphabet × IsLengthRange (count lo) (count hi)
characters_from_test alphabet lo hi h =
    let some = nat_le 1 (length (chars alphabet)) in
    let v = and_parts (is_length_between lo hi && some) (nat_le (length (chars alphabet)) 256) h in
    let w = and_parts (is_length_between lo hi) some v.0 in (
      record { some_character = leb-true 1 (length (chars alphabet)) w.1; character_limit = leb-true (length (chars alphabet)) 256 v.1 },
      lengths_from_test lo hi w.0,
    )

-- ---- a drawn value, and some of them

-- ---- dictionaries

-- what is found among word lists is one
list_found : (test : Dictionary → Bool) (dictionaries : List Dictionary) → AreWordLists dictionaries → is_some (option_map (λ (d : Dictionary). d.words) (find test dictionaries)) ≡ true → IsWordList (unwrap_or (option_map (λ (d : Dictionary). d.words) (find test dictionaries)) no_words)
list_found test [] lists h = cc
list_found test (d ∷ dictionaries) lists h =
    of_test (test d) h (λ rest. list_found test dictionaries (λ i e lt. lists (suc i) e (omega arith)) rest)
  where
    words : Option Dictionary → Option WordList
    words = option_map (λ (d : Dictionary). d.words)

    of_test : (passes : Bool) → is_some (words (cond passes (Some d) (find test dictionaries))) ≡ true → (is_some (words (find test dictionaries)) ≡ true → IsWordList (unwrap_or (words (find test dictionaries)) no_words)) → IsWordList (unwrap_or (words (cond passes (Some d) (find test dictionaries))) no_words)
    of_test true h later = lists 0 d (omega arith)
    of_test false h later = later h

pub words_supplied : (names : List (List ℕ)) (dictionaries : List Dictionary) → AreWordLists dictionaries → (name : List ℕ) → is_supplied_by names dictionaries name ≡ true → IsWordList (words_named dictionaries name)
words_supplied names dictionaries lists name supplied =
    let there = (and_parts (may_cite names name) (is_some (dictionary_named dictionaries name)) supplied).1 in
    list_found (λ (d : Dictionary). same_text d.name name) dictionaries lists there

words_from_test : (names : List (List ℕ)) (dictionaries : List Dictionary) → AreWordLists dictionaries → (name : List ℕ) → (is_supplied_by names dictionaries name && true) ≡ true → IsWordList (words_named dictionaries name)
words_from_test names dictionaries lists name h = words_supplied names dictionaries lists name (and_parts (is_supplied_by names dictionaries name) true h).0

pub leaf_in_limits : (names : List (List ℕ)) (dictionaries : List Dictionary) → AreWordLists dictionaries → (leaf : Leaf) → are_supplied_by names dictionaries leaf ≡ true → is_number_range leaf ≡ true → is_date_range leaf ≡ true → is_weighted leaf ≡ true → is_skew_range leaf ≡ true → is_length_range leaf ≡ true → IsLeafInLimits (leaf_layout dictionaries leaf)
leaf_in_limits names dictionaries lists (drawn.Int lo hi step) supplied numbers dates picks skews lengths =
    let parts = and_parts (is_range lo hi) (int_le (pos 1) step) numbers in
    (range_from_test lo hi parts.0, least_from_test step 1 parts.1)
leaf_in_limits names dictionaries lists (drawn.Fixed lo hi decimals) supplied numbers dates picks skews lengths =
    let parts = and_parts (is_range lo hi) (is_between 0 9 decimals) numbers in
    (range_from_test lo hi parts.0, limit_from_test decimals 9 ((and_parts (int_le (pos 0) decimals) (int_le decimals (pos 9)) parts.1).1))
leaf_in_limits names dictionaries lists (drawn.Date lo hi) supplied numbers dates picks skews lengths = dates_from_test lo hi dates
leaf_in_limits names dictionaries lists (drawn.Pick entries weights) supplied numbers dates picks skews lengths = weights_from_test entries weights picks
leaf_in_limits names dictionaries lists (drawn.Skew lo size power) supplied numbers dates picks skews lengths = skew_from_test lo size power skews
leaf_in_limits names dictionaries lists (drawn.Dict file) supplied numbers dates picks skews lengths = words_from_test names dictionaries lists file supplied
leaf_in_limits names dictionaries lists (drawn.Words file lo hi) supplied numbers dates picks skews lengths =
    (words_from_test names dictionaries lists file supplied, lengths_from_test lo hi lengths)
leaf_in_limits names dictionaries lists (drawn.Chars alphabet lo hi) supplied numbers dates picks skews lengths = characters_from_test alphabet lo hi lengths
leaf_in_limits names dictionaries lists drawn.Uuid supplied numbers dates picks skews lengths = tt

pub leaves_in_limits : (names : List (List ℕ)) (dictionaries : List Dictionary) → AreWordLists dictionaries → (leaves : List Leaf) → list_all (are_supplied_by names dictionaries) leaves ≡ true → list_all is_number_range leaves ≡ true → list_all is_date_range leaves ≡ true → list_all is_weighted leaves ≡ true → list_all is_skew_range leaves ≡ true → list_all is_length_range leaves ≡ true → All IsLeafInLimits (map (leaf_layout dictionaries) leaves)
leaves_in_limits names dictionaries lists leaves supplied numbers dates picks skews lengths = λ i d lt.
    let within : i < length leaves = omega (arith, lt, length-map leaves (leaf_layout dictionaries)) in
    let leaf = get_or leaves i (drawn.Date (pos 0) (pos 0)) in
    let passes = λ (test : Leaf → Bool) (all : list_all test leaves ≡ true). passes_each test leaves i (drawn.Date (pos 0) (pos 0)) within all in
    subst IsLeafInLimits (sym (get_or-map (leaf_layout dictionaries) leaves i (drawn.Date (pos 0) (pos 0)) d within))
    (leaf_in_limits names dictionaries lists leaf (passes (are_supplied_by names dictionaries) supplied) (passes is_number_range numbers) (passes is_date_range dates) (passes is_weighted picks) (passes is_skew_range skews) (passes is_length_range lengths))
