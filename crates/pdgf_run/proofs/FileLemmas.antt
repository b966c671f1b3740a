-- Texts under names as files, one after the other.
use Rattle.std.proofs.Common.{◌≡◌, ◌≤◌, ◌+◌, ℕ, zero, suc, Bool, false, List, [], ◌∷◌, ◌++◌, drop, length, take, Option, None, Some, ap, append-nil, arith, refl, subst, sym, ◌∙◌}
use Rattle.std.specs.Prelude.{IfSome, is_some, slice_get}
use Rattle.std.specs.Option.{option_map}
use Rattle.pd_outside.specs.Files.{File}
use Rattle.pd_outside.specs.Shelf.{HoldsPrefixOf, Held, finish_files}
use Rattle.range_workers.proofs.WriteLemmas.{finished_then, next_in_part}
use Rattle.run_jobs.specs.Formats.{named_files}

-- the file at a place, with those before it and those after it
around : (names texts : List (List ℕ)) (place : ℕ) (name text : List ℕ) → slice_get names place ≡ Some name → slice_get texts place ≡ Some text →
    named_files names texts ≡ take place (named_files names texts) ++ record { name = name; bytes = text } ∷ drop (suc place) (named_files names texts)
around [] texts place name text at_name at_text = absurd (cc)
around (n ∷ names) [] place name text at_name at_text = absurd (cc)
around (n ∷ names) (t ∷ texts) zero name text at_name at_text =
    let name_is : n ≡ name = cc in
    let text_is : t ≡ text = cc in
    ap (λ (m : List ℕ). record { name = m; bytes = t } ∷ named_files names texts) name_is ∙ ap (λ (u : List ℕ). record { name = name; bytes = u } ∷ named_files names texts) text_is
around (n ∷ names) (t ∷ texts) (suc place) name text at_name at_text =
    ap (λ (files : List File). record { name = n; bytes = t } ∷ files) (around names texts place name text at_name at_text)

one_more : (names texts : List (List ℕ)) (place : ℕ) (name text : List ℕ) → slice_get names place ≡ Some name → slice_get texts place ≡ Some text →
    take (suc place) (named_files names texts) ≡ take place (named_files names texts) ++ record { name = name; bytes = text } ∷ []
one_more [] texts place name text at_name at_text = absurd (cc)
one_more (n ∷ names) [] place name text at_name at_text = absurd (cc)
one_more (n ∷ names) (t ∷ texts) zero name text at_name at_text =
    let name_is : n ≡ name = cc in
    let text_is : t ≡ text = cc in
    ap (λ (m : List ℕ). record { name = m; bytes = t } ∷ []) name_is ∙ ap (λ (u : List ℕ). record { name = name; bytes = u } ∷ []) text_is
one_more (n ∷ names) (t ∷ texts) (suc place) name text at_name at_text =
    ap (λ (files : List File). record { name = n; bytes = t } ∷ files) (one_more names texts place name text at_name at_text)

all_of : (names texts : List (List ℕ)) (place : ℕ) → length texts ≤ place → take place (named_files names texts) ≡ named_files names texts
all_of [] texts zero all = refl
all_of [] texts (suc place) all = refl
all_of (n ∷ names) [] zero all = refl
all_of (n ∷ names) [] (suc place) all = refl
all_of (n ∷ names) (t ∷ texts) zero all = absurd (omega (arith, all))
all_of (n ∷ names) (t ∷ texts) (suc place) all = ap (λ (files : List File). record { name = n; bytes = t } ∷ files) (all_of names texts place (omega (arith, all)))

-- no file is finished
none_of : (begun : Option File) → is_some begun ≡ false → begun ≡ None
none_of None none = refl
none_of (Some file) none = absurd (cc)

as_it_is : (held : Option Held) → IfSome held (λ h. is_some h.begun ≡ false) → held ≡ option_map (finish_files []) held
as_it_is None none = refl
as_it_is (Some held) none =
    ap (λ (files : List File). Some (record { finished = files; begun = held.begun })) (sym (append-nil held.finished))
    ∙ ap (λ (begun : Option File). Some (record { finished = held.finished ++ []; begun = begun })) (none_of held.begun none)

pub none_finished : (names texts : List (List ℕ)) (held : Option Held) (is_begun : Bool) → IfSome held (λ h. is_some h.begun ≡ is_begun) → is_begun ≡ false →
    held ≡ option_map (finish_files (take 0 (named_files names texts))) held
none_finished names texts held is_begun alike none = as_it_is held (subst (λ (begun : Bool). IfSome held (λ h. is_some h.begun ≡ begun)) none alike)

-- one more is
pub next_finished : (names texts : List (List ℕ)) (place : ℕ) (name text : List ℕ) (before mid now : Option Held) → slice_get names place ≡ Some name → slice_get texts place ≡ Some text →
    mid ≡ option_map (finish_files (take place (named_files names texts))) before → now ≡ option_map (finish_files (record { name = name; bytes = text } ∷ [])) mid →
    now ≡ option_map (finish_files (take (place + 1) (named_files names texts))) before
next_finished names texts place name text before mid now at_name at_text so_far step =
    finished_then (take place (named_files names texts)) (record { name = name; bytes = text } ∷ []) (take (place + 1) (named_files names texts)) before mid now
    (ap (λ (count : ℕ). take count (named_files names texts)) (let more : place + 1 ≡ suc place = omega arith in more)
    ∙ one_more names texts place name text at_name at_text) so_far step

-- all are
pub all_finished : (names texts : List (List ℕ)) (place : ℕ) (before now : Option Held) → length texts ≤ place →
    now ≡ option_map (finish_files (take place (named_files names texts))) before → now ≡ option_map (finish_files (named_files names texts)) before
all_finished names texts place before now all so_far = so_far ∙ ap (λ (files : List File). option_map (finish_files files) before) (all_of names texts place all)

-- the next one is there in part
pub next_partly : (names texts : List (List ℕ)) (place : ℕ) (name text : List ℕ) (before mid now : Option Held) → slice_get names place ≡ Some name → slice_get texts place ≡ Some text →
    mid ≡ option_map (finish_files (take place (named_files names texts))) before → HoldsPrefixOf (record { name = name; bytes = text } ∷ []) mid now →
    HoldsPrefixOf (named_files names texts) before now
next_partly names texts place name text before mid now at_name at_text so_far prefix =
    next_in_part (take place (named_files names texts)) (record { name = name; bytes = text }) (drop (suc place) (named_files names texts)) (named_files names texts) before mid now
    (around names texts place name text at_name at_text) so_far prefix
