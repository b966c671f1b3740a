-- The names that are asked, one after the other.
use Rattle.std.proofs.Common.{◌≡◌, ◌≤◌, ℕ, List, [], ◌∷◌, ◌++◌, append-nil, append_assoc, drop, length, length-append, take, Option, None, Some, refl, ap, sym, subst, ◌∙◌, arith}
use Rattle.std.specs.Option.{option_map}
use Rattle.std.proofs.lemmas.List.{take-append-drop, length-append}
use Rattle.dictionaries.specs.WordList.{WordList}
use Rattle.pd_outside.specs.Library.{AskedPrefixOf}
use Rattle.plan_stages.specs.DictionaryFiles.{names_of}
use Rattle.plan_stages.specs.PlanNames.{AskedNone}
use Rattle.plan_stages.proofs.DictionaryLemmas.{asked_also, asked_first}
use Rattle.schema_facts.specs.Dictionaries.{Dictionary}
use Rattle.run_jobs.specs.Details.{lists_named}
use Rattle.plan_stages.specs.Inputs.{AskedInTurn}

-- the first of some names are the first of more
pub first_of_more : (list more : List (List ℕ)) (before now : Option (List (List ℕ))) → AskedPrefixOf list before now → AskedPrefixOf (list ++ more) before now
first_of_more list more before now asks =
    asked_first (list ++ more) (take asks.count list) (drop asks.count list ++ more) before now asks.asked
    (ap (λ (l : List (List ℕ)). l ++ more) (sym (take-append-drop asks.count list)) ∙ append_assoc (take asks.count list) (drop asks.count list) more)

-- word lists that were read have the names that were asked for, and some words
pub words_read : (names : List (List ℕ)) (lists : List Dictionary) → names_of lists ≡ names → (words : List WordList) × (lists_named names words ≡ lists)
words_read names [] are = ([], subst (λ (ns : List (List ℕ)). lists_named ns [] ≡ []) are refl)
words_read names (list ∷ lists) are =
    let rest = words_read (names_of lists) lists refl in (
      list.words ∷ rest.0,
      subst (λ (ns : List (List ℕ)). lists_named ns (list.words ∷ rest.0) ≡ list ∷ lists) are (ap (λ (ls : List Dictionary). list ∷ ls) rest.1),
    )

-- names that were asked, and then the first of others
pub asked_then : (first list : List (List ℕ)) (before mid now : Option (List (List ℕ))) → mid ≡ option_map (λ names. names ++ first) before → AskedPrefixOf list mid now →
    AskedPrefixOf (first ++ list) before now
asked_then first list before mid now once more =
    asked_first (first ++ list) (first ++ take more.count list) (drop more.count list) before now
    (more.asked ∙ ap (option_map (λ (names : List (List ℕ)). names ++ take more.count list)) once ∙ asked_also first (take more.count list) before)
    (ap (λ (l : List (List ℕ)). first ++ l) (sym (take-append-drop more.count list)) ∙ sym (append_assoc first (take more.count list) (drop more.count list)))

pub none_first : (list : List (List ℕ)) (before : Option (List (List ℕ))) → AskedPrefixOf list before before
none_first list None = record { count = 0; asked = refl }
none_first list (Some names) = record { count = 0; asked = ap Some (sym (append-nil names)) }

nothing_behind : (names added : List (List ℕ)) → ◌≡◌ {A = Option (List (List ℕ))} (Some (names ++ added)) (Some names) → length added ≡ 0
nothing_behind names added same =
    let lengths : length (names ++ added) ≡ length names = ap length (let back : names ++ added ≡ names = cc in back) in
    omega (arith, lengths, length-append names added)

pub asked_some : (names : List (List ℕ)) (before now : Option (List (List ℕ))) → 1 ≤ length names → AskedInTurn names before now → ¬ AskedNone before now
asked_some names None now some turn none = none
asked_some names (Some all) now some turn none =
    let same : ◌≡◌ {A = Option (List (List ℕ))} (Some (all ++ names)) (Some all) = sym turn ∙ none in
    absurd (omega (arith, some, nothing_behind all names same))
