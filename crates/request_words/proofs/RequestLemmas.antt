-- The request of words that give one.
use Rattle.std.proofs.Common.{◌≡◌, ◌≤◌, ◌-◌, ℕ, ap, true, refl, List, [], ◌∷◌, length, drop, map, take, Some, None, Ok, arith}
use Rattle.std.specs.Option.{option_and_then}
use Rattle.std.proofs.lemmas.List.{take_all}
use Rattle.request_words.specs.Form.{given_in, has_form, mode_in}
use Rattle.request_words.specs.Options.{mode_named, request_of}
use Rattle.request_words.specs.Words.{fault_of, request}
use Rattle.request_words.specs.declared.usage.Mode.{Mode}

-- the words after the first one
pub behind_first : {X : Type 0} (f : X → List ℕ) (words : List X) → map f (take (length words - 1) (drop 1 words)) ≡ drop 1 (map f words)
behind_first f [] = refl
behind_first f (word ∷ words) = ap (map f) (take_all (length (word ∷ words) - 1) words (omega arith))

pub request_given : (words : List (List ℕ)) (mode : Mode) → 1 ≤ length words → has_form (drop 1 words) ≡ true →
    option_and_then mode_named (mode_in (drop 1 words)) ≡ Some mode → fault_of mode (given_in (drop 1 words)) ≡ None →
    request words ≡ Ok (request_of mode (given_in (drop 1 words)))
unfolding request
request_given [] mode some f named right = absurd (omega arith)
request_given (program ∷ words) mode some f named right = rw (f, named, right) refl
