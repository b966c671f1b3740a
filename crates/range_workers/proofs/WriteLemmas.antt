-- Texts of packages as they are appended one after the other, and files as they are finished one after the other.
use Rattle.std.proofs.Common.{◌≡◌, ◌≤◌, ◌<◌, ◌+◌, ◌-◌, ℕ, zero, suc, Bool, false, List, [], ◌∷◌, ◌++◌, Option, None, Some, ap, append_assoc, append-nil, arith, refl, subst, sym, ◌∙◌}
use Rattle.std.specs.Prelude.{IfSome, is_some}
use Rattle.std.specs.List.{flat_map, range_with_len}
use Rattle.std.specs.Option.{option_map}
use Rattle.pd_outside.proofs.Appending.{append_both, files_then_prefix, nothing_done}
use Rattle.pd_outside.specs.Files.{File}
use Rattle.pd_outside.specs.Shelf.{HoldsPrefixOf, Held, IsPrefixOfNext, append_bytes, finish_files}
use Rattle.range_workers.specs.Marks.{texts}

texts_split : (text : ℕ → List ℕ) (first m n : ℕ) →
    flat_map text (range_with_len first (m + n)) ≡ flat_map text (range_with_len first m) ++ flat_map text (range_with_len (first + m) n)
texts_split text first zero n =
    let all : 0 + n ≡ n = omega arith in
    let here : first ≡ first + 0 = omega arith in
    ap (λ count. flat_map text (range_with_len first count)) all ∙ ap (λ a. flat_map text (range_with_len a n)) here
texts_split text first (suc m) n =
    let all : suc m + n ≡ suc (m + n) = omega arith in
    let there : first + 1 + m ≡ first + suc m = omega arith in
    let front = flat_map text (range_with_len (first + 1) m) in
    ap (λ count. flat_map text (range_with_len first count)) all
    ∙ ap (λ rest. text first ++ rest) (texts_split text (first + 1) m n ∙ ap (λ a. front ++ flat_map text (range_with_len a n)) there)
    ∙ sym (append_assoc (text first) front (flat_map text (range_with_len (first + suc m) n)))

-- no package has no text
pub texts_none : (text : ℕ → List ℕ) (first : ℕ) → texts text first first ≡ []
texts_none text first = let none : first - first ≡ 0 = omega arith in ap (λ count. flat_map text (range_with_len first count)) none

-- the texts up to a package, that package's, and those after it
pub texts_around : (text : ℕ → List ℕ) (first n end : ℕ) → first ≤ n → n < end → texts text first end ≡ texts text first n ++ (text n ++ texts text (n + 1) end)
texts_around text first n end from below =
    let parts : end - first ≡ (n - first) + suc (end - (n + 1)) = omega (arith, from, below) in
    let here : first + (n - first) ≡ n = omega (arith, from) in
    ap (λ count. flat_map text (range_with_len first count)) parts
    ∙ texts_split text first (n - first) (suc (end - (n + 1)))
    ∙ ap (λ a. texts text first n ++ flat_map text (range_with_len a (suc (end - (n + 1))))) here

pub texts_onto : (text : ℕ → List ℕ) (first n : ℕ) → first ≤ n → texts text first (n + 1) ≡ texts text first n ++ text n
texts_onto text first n from =
    let past : n < n + 1 = omega arith in
    texts_around text first n (n + 1) from past
    ∙ ap (λ rest. texts text first n ++ (text n ++ rest)) (texts_none text (n + 1))
    ∙ ap (λ rest. texts text first n ++ rest) (append-nil (text n))

-- the texts up to a package, and those from it on
pub texts_joined : (text : ℕ → List ℕ) (first mid end : ℕ) → first ≤ mid → mid ≤ end → texts text first mid ++ texts text mid end ≡ texts text first end
texts_joined text first mid end from below =
    let parts : end - first ≡ (mid - first) + (end - mid) = omega (arith, from, below) in
    let here : first + (mid - first) ≡ mid = omega (arith, from) in
    sym (ap (λ count. flat_map text (range_with_len first count)) parts
    ∙ texts_split text first (mid - first) (end - mid)
    ∙ ap (λ a. texts text first mid ++ flat_map text (range_with_len a (end - mid))) here)

-- one more text after those that were appended
pub appended_then : (first second whole : List ℕ) (before mid now : Option Held) → whole ≡ first ++ second → mid ≡ option_map (append_bytes first) before →
    now ≡ option_map (append_bytes second) mid → now ≡ option_map (append_bytes whole) before
appended_then first second whole before mid now parts so_far step =
    step
    ∙ ap (option_map (append_bytes second)) so_far
    ∙ append_both first second before
    ∙ ap (λ bytes. option_map (append_bytes bytes) before) (sym parts)

-- a file that wasn't begun
pub refused_begin : (file : File) (before now : Option Held) (is_begun : Bool) → IfSome before (λ h. is_some h.begun ≡ is_begun) → is_begun ≡ false → now ≡ before →
    HoldsPrefixOf (file ∷ []) before now
refused_begin file before now is_begun alike none unchanged =
    let nothing = subst (λ begun. IfSome before (λ h. is_some h.begun ≡ begun)) none alike in
    subst (HoldsPrefixOf (file ∷ []) before) (sym unchanged) (nothing_done (file ∷ []) before nothing)

-- one file more after those that are finished
pub finished_then : (first second whole : List File) (before mid now : Option Held) → whole ≡ first ++ second → mid ≡ option_map (finish_files first) before →
    now ≡ option_map (finish_files second) mid → now ≡ option_map (finish_files whole) before
finished_then first second whole before mid now parts so_far step =
    step ∙ ap (option_map (finish_files second)) so_far ∙ both first second before ∙ ap (λ files. option_map (finish_files files) before) (sym parts)
  where
    both : (first second : List File) (held : Option Held) → option_map (finish_files second) (option_map (finish_files first) held) ≡ option_map (finish_files (first ++ second)) held
    both first second None = refl
    both first second (Some held) = ap (λ files. Some (record { finished = files; begun = None })) (append_assoc held.finished first second)

prefix_of_more : (rest more : List File) (begun : Option File) → IsPrefixOfNext rest begun → IsPrefixOfNext (rest ++ more) begun
prefix_of_more rest more None prefix = tt
prefix_of_more [] more (Some file) prefix = absurd prefix
prefix_of_more (next ∷ rest) more (Some file) prefix = prefix

-- a prefix of the next file, after those that are finished
pub next_in_part : (first : List File) (file : File) (rest whole : List File) (before mid now : Option Held) → whole ≡ first ++ (file ∷ rest) →
    mid ≡ option_map (finish_files first) before → HoldsPrefixOf (file ∷ []) mid now → HoldsPrefixOf whole before now
next_in_part first file rest whole before mid now parts so_far prefix =
    let more : HoldsPrefixOf (file ∷ rest) mid now = record {
      done = prefix.done;
      rest = prefix.rest ++ rest;
      begun = prefix.begun;
      parts = ap (λ files. files ++ rest) prefix.parts ∙ append_assoc prefix.done prefix.rest rest;
      prefix = prefix_of_more prefix.rest rest prefix.begun prefix.prefix;
      held = prefix.held;
    } in
    subst (λ due. HoldsPrefixOf due before now) (sym parts) (files_then_prefix first (file ∷ rest) before mid now so_far more)
