-- Appending to the begun file, piece after piece.
use Rattle.std.proofs.Common.{◌≡◌, ◌≤◌, ℕ, ◌+◌, List, [], ◌∷◌, ◌++◌, length, take, drop, false, Option, None, Some, refl, ap, sym, ◌∙◌, append_assoc, length-append, arith}
use Rattle.std.specs.Prelude.{IfSome, is_some}
use Rattle.std.specs.Option.{option_map}
use Rattle.std.proofs.lemmas.List.{append-nil, take-append-drop, take-append-le}
use Rattle.std.proofs.Math.Seq.{take-add, take-append-add}
use Rattle.pd_outside.specs.Files.{File}
use Rattle.pd_outside.specs.Shelf.{Held, begin_file, append_bytes, finish_files, AppendedPrefixOf, HoldsPrefixOf}

begun_nothing : (begun : Option File) → begun ≡ option_map (λ (file : File). record file { bytes = file.bytes ++ [] }) begun
begun_nothing None = refl
begun_nothing (Some file) = ap (λ (bytes : List ℕ). Some (record file { bytes = bytes })) (sym (append-nil file.bytes))

begun_both : (first second : List ℕ) (begun : Option File) →
    option_map (λ (file : File). record file { bytes = file.bytes ++ second }) (option_map (λ (file : File). record file { bytes = file.bytes ++ first }) begun)
    ≡ option_map (λ (file : File). record file { bytes = file.bytes ++ (first ++ second) }) begun
begun_both first second None = refl
begun_both first second (Some file) = ap (λ (bytes : List ℕ). Some (record file { bytes = bytes })) (append_assoc file.bytes first second)

-- no byte changes nothing
pub append_nothing : (held : Option Held) → held ≡ option_map (append_bytes []) held
append_nothing None = refl
append_nothing (Some held) = ap (λ (begun : Option File). Some (record held { begun = begun })) (begun_nothing held.begun)

-- a piece and then another are both at once
pub append_both : (first second : List ℕ) (held : Option Held) → option_map (append_bytes second) (option_map (append_bytes first) held) ≡ option_map (append_bytes (first ++ second)) held
append_both first second None = refl
append_both first second (Some held) =
    ap (λ (begun : Option File). Some (record held { begun = begun })) (begun_both first second held.begun)

-- after a prefix of the bytes, the next n of them
pub append_more : (bytes : List ℕ) (at n : ℕ) (before now next : Option Held) → now ≡ option_map (append_bytes (take at bytes)) before →
    next ≡ option_map (append_bytes (take n (drop at bytes))) now → next ≡ option_map (append_bytes (take (at + n) bytes)) before
append_more bytes at n before now next sofar step =
    step ∙ ap (option_map (append_bytes (take n (drop at bytes)))) sofar
    ∙ append_both (take at bytes) (take n (drop at bytes)) before
    ∙ ap (λ (piece : List ℕ). option_map (append_bytes piece) before) (sym (take-add at n bytes))

-- a prefix of the second part, after all of the first
pub prefix_after : (whole first second rest : List ℕ) (before mid now : Option Held) → whole ≡ first ++ (second ++ rest) →
    mid ≡ option_map (append_bytes first) before → AppendedPrefixOf second mid now → AppendedPrefixOf whole before now
prefix_after whole first second rest before mid now parts appended prefix =
    let within : length first + prefix.count ≤ length whole =
    omega (arith, ap length parts, length-append first (second ++ rest), length-append second rest, prefix.within)
    in
    let taken : take (length first + prefix.count) whole ≡ first ++ take prefix.count second =
    ap (take (length first + prefix.count)) parts
    ∙ take-append-add first (second ++ rest) prefix.count
    ∙ ap (λ (piece : List ℕ). first ++ piece) (take-append-le prefix.count second rest prefix.within)
    in
    record {
      count = length first + prefix.count;
      within = within;
      appended =
          prefix.appended ∙ ap (option_map (append_bytes (take prefix.count second))) appended
          ∙ append_both first (take prefix.count second) before
          ∙ ap (λ (piece : List ℕ). option_map (append_bytes piece) before) (sym taken);
    }

begun_in_part : (name piece : List ℕ) (before : Option Held) → option_map (append_bytes piece) (option_map (begin_file name) before)
    ≡ option_map (λ (h : Held). record { finished = h.finished ++ []; begun = Some (record { name = name; bytes = piece }) }) before
begun_in_part name piece None = refl
begun_in_part name piece (Some h) =
    ap (λ (files : List File). Some (record { finished = files; begun = Some (record { name = name; bytes = piece }) })) (sym (append-nil h.finished))

-- a file that was begun, where none was, and appended to in part
pub file_in_part : (file : File) (before begun now : Option Held) → begun ≡ option_map (begin_file file.name) before →
    AppendedPrefixOf file.bytes begun now → HoldsPrefixOf (file ∷ []) before now
file_in_part file before begun now began prefix = record {
  done = [];
  rest = file ∷ [];
  begun = Some (record { name = file.name; bytes = take prefix.count file.bytes });
  parts = refl;
  prefix = (refl, (drop prefix.count file.bytes, sym (take-append-drop prefix.count file.bytes)));
  held =
      prefix.appended ∙ ap (option_map (append_bytes (take prefix.count file.bytes))) began
      ∙ begun_in_part file.name (take prefix.count file.bytes) before;
}

-- a file that was begun and appended to as a whole
pub file_as_a_whole : (file : File) (before begun now : Option Held) → begun ≡ option_map (begin_file file.name) before →
    now ≡ option_map (append_bytes file.bytes) begun → HoldsPrefixOf (file ∷ []) before now
file_as_a_whole file before begun now began all = record {
  done = [];
  rest = file ∷ [];
  begun = Some file;
  parts = refl;
  prefix = (refl, ([], sym (append-nil file.bytes)));
  held = all ∙ ap (option_map (append_bytes file.bytes)) began ∙ begun_in_part file.name file.bytes before;
}

-- nothing is begun where nothing is told to be
pub nothing_begun : (begun : Option File) → is_some begun ≡ false → begun ≡ None
nothing_begun None is = refl
nothing_begun (Some file) is = absurd (cc)

as_it_is : (before : Option Held) → IfSome before (λ h. is_some h.begun ≡ false) →
    before ≡ option_map (λ (h : Held). record { finished = h.finished ++ []; begun = None }) before
as_it_is None none = refl
as_it_is (Some h) none =
    ap (λ (begun : Option File). Some (record h { begun = begun })) (nothing_begun h.begun none)
    ∙ ap (λ (files : List File). Some (record { finished = files; begun = None })) (sym (append-nil h.finished))

-- nothing was done, and nothing is begun
pub nothing_done : (due : List File) (before : Option Held) → IfSome before (λ h. is_some h.begun ≡ false) → HoldsPrefixOf due before before
nothing_done due before none = record { done = []; rest = due; begun = None; parts = refl; prefix = tt; held = as_it_is before none }

finished_twice : (done more : List File) (begun : Option File) (before : Option Held) →
    option_map {U = Held} (λ (h : Held). record { finished = h.finished ++ more; begun = begun }) (option_map (finish_files done) before)
    ≡ option_map {U = Held} (λ (h : Held). record { finished = h.finished ++ (done ++ more); begun = begun }) before
finished_twice done more begun None = refl
finished_twice done more begun (Some h) =
    ap (λ (files : List File). Some (record { finished = files; begun = begun })) (append_assoc h.finished done more)

-- these files are finished, and then a prefix of the rest
pub files_then_prefix : (done rest : List File) (before mid now : Option Held) → mid ≡ option_map (finish_files done) before →
    HoldsPrefixOf rest mid now → HoldsPrefixOf (done ++ rest) before now
files_then_prefix done rest before mid now finished prefix = record {
  done = done ++ prefix.done;
  rest = prefix.rest;
  begun = prefix.begun;
  parts = ap (λ (files : List File). done ++ files) prefix.parts ∙ sym (append_assoc done prefix.done prefix.rest);
  prefix = prefix.prefix;
  held = prefix.held ∙ ap (option_map (λ (h : Held). record { finished = h.finished ++ prefix.done; begun = prefix.begun })) finished ∙ finished_twice done prefix.done prefix.begun before;
}
