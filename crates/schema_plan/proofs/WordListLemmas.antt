-- Word lists by their names, and names as they are cited.
use Rattle.std.proofs.Common.{◌≡◌, ℕ, ◌+◌, ◌<◌, ◌≤◌, not, Bool, true, false, cond, ◌||◌, Some, List, [], ◌∷◌, ◌++◌, flat_map, length, get_or, slice_get, take, drop, refl, sym, ap, ◌∙◌, arith, length-append, one-add}
use Rattle.std.specs.List.{find, fold, position_or_len}
use Rattle.std.specs.Option.{option_map, unwrap_or}
use Rattle.std.proofs.lemmas.Grind.{fold-append}
use Rattle.std.proofs.lemmas.List.{flat_map_more, length-take, take-append-drop, take-append-le, take_all, take_more}
use Rattle.std.proofs.lemmas.List.Folds.{list_any-append}
use Rattle.std.proofs.lemmas.Option.{get_or_from_slice_get, slice_get_within}
use Rattle.dictionaries.specs.WordList.{IsWordList}
use Rattle.schema_model.specs.declared.column.Kind.{Kind}
use Rattle.schema_model.specs.declared.column.Kind.TheVariants as kind
use Rattle.schema_plan.specs.Citations.{has_name, leaves_of, names_in_kind, names_in_leaf, with_name}
use Rattle.schema_facts.specs.Dictionaries.{Dictionary, no_words}
use Rattle.schema_facts.specs.Names.{same_text}

-- one more item of a list
pub take_more_got : {A : Type 0} (xs : List A) (i : ℕ) (x : A) → slice_get xs i ≡ Some x → take (i + 1) xs ≡ take i xs ++ x ∷ []
take_more_got xs i x at =
    take_more xs i x (slice_get_within xs i x at)
    ∙ ap (λ y. take i xs ++ y ∷ []) (get_or_from_slice_get xs i x x at)

-- ---- the first names

-- what is no list cites what its drawn values cite
pub names_in_kind-drawn : (held : Kind) → ((file : List ℕ) → held ≡ kind.List file → ⊥) → names_in_kind held ≡ flat_map names_in_leaf (leaves_of held)
names_in_kind-drawn (kind.List file) no_list = absurd (no_list file refl)
names_in_kind-drawn _ no_list = refl

-- a name that isn't among the first ones, of which there are fewer than 64, joins them
pub name_joins : (before : List (List ℕ)) (name : List ℕ) → length (take 64 before) < 64 → has_name (take 64 before) name ≡ false → take 64 before ++ name ∷ [] ≡ take 64 (with_name before name)
name_joins before name few new =
    let all : take 64 before ≡ before = take_all 64 before (omega (arith, length-take 64 before)) in
    let is_new : has_name before name ≡ false = ap (λ names. has_name names name) (sym all) ∙ new in
    let within : length (before ++ name ∷ []) ≤ 64 = omega (arith, length-append before (name ∷ []), length-take 64 before) in
    ap (λ names. names ++ name ∷ []) all
    ∙ sym (take_all 64 (before ++ name ∷ []) within)
    ∙ sym (ap (λ test. take 64 (cond test before (before ++ name ∷ []))) is_new)

-- a name that is among the first ones changes nothing
pub name_known : (before : List (List ℕ)) (name : List ℕ) → has_name (take 64 before) name ≡ true → take 64 before ≡ take 64 (with_name before name)
name_known before name known =
    let parted : take 64 before ++ drop 64 before ≡ before = take-append-drop 64 before in
    let is_known : has_name before name ≡ true =
    ap (λ names. has_name names name) (sym parted)
    ∙ list_any-append (λ other. same_text other name) (take 64 before) (drop 64 before)
    ∙ ap (λ test. test || has_name (drop 64 before) name) known in
    sym (ap (λ test. take 64 (cond test before (before ++ name ∷ []))) is_known)

-- nor does one more name where there are 64
pub names_full : (before : List (List ℕ)) (name : List ℕ) → 64 ≤ length (take 64 before) → take 64 before ≡ take 64 (with_name before name)
names_full before name full = of_test (has_name before name)
  where
    of_test : (test : Bool) → take 64 before ≡ take 64 (cond test before (before ++ name ∷ []))
    of_test true = refl
    of_test false = sym (take-append-le 64 before (name ∷ []) (omega (arith, length-take 64 before)))

-- the names of one more item
pub fold_names_more : {A : Type 0} (names_in : A → List (List ℕ)) (before : List (List ℕ)) (xs : List A) (i : ℕ) (x : A) → slice_get xs i ≡ Some x → fold with_name (fold with_name before (flat_map names_in (take i xs))) (names_in x) ≡ fold with_name before (flat_map names_in (take (i + 1) xs))
fold_names_more names_in before xs i x at =
    sym (fold-append with_name before (flat_map names_in (take i xs)) (names_in x))
    ∙ ap (fold with_name before) (flat_map_more names_in [] (take i xs) x ∙ ap (flat_map names_in) (sym (take_more_got xs i x at)))

-- ---- what is found by a name

-- where what is found has an entry, it stands at the place of the first that passes
pub found_at_place : (test : Dictionary → Bool) (dictionaries : List Dictionary) → IsWordList (unwrap_or (option_map (λ (d : Dictionary). d.words) (find test dictionaries)) no_words) → (position_or_len test dictionaries < length dictionaries) × ((d : Dictionary) → (get_or dictionaries (position_or_len test dictionaries) d).words ≡ unwrap_or (option_map (λ (d : Dictionary). d.words) (find test dictionaries)) no_words)
found_at_place test [] list = absurd (omega (arith, list.some))
found_at_place test (first ∷ rest) list =
    of_test (test first) list (λ later. found_at_place test rest later)
  where
    of_test : (passes : Bool) → IsWordList (unwrap_or (option_map (λ (d : Dictionary). d.words) (cond passes (Some first) (find test rest))) no_words) → (IsWordList (unwrap_or (option_map (λ (d : Dictionary). d.words) (find test rest)) no_words) → (position_or_len test rest < length rest) × ((d : Dictionary) → (get_or rest (position_or_len test rest) d).words ≡ unwrap_or (option_map (λ (d : Dictionary). d.words) (find test rest)) no_words)) → (cond (not passes) (1 + position_or_len test rest) 0 < length (first ∷ rest)) × ((d : Dictionary) → (get_or (first ∷ rest) (cond (not passes) (1 + position_or_len test rest) 0) d).words ≡ unwrap_or (option_map (λ (d : Dictionary). d.words) (cond passes (Some first) (find test rest))) no_words)
    of_test true list later = (omega arith, λ d. refl)
    of_test false list later =
        let found = later list in
        (omega (arith, found.0), λ d. ap (λ place. (get_or (first ∷ rest) place d).words) (one-add (position_or_len test rest)) ∙ found.1 d)
