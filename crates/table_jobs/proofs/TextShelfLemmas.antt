-- How many bytes a shelf holds.
use Rattle.std.proofs.Common.{◌≡◌, ◌≤◌, ◌+◌, ℕ, false, List, [], ◌∷◌, ◌++◌, length, length-append, map, Option, None, Some, ap, arith, refl, subst, sym, ◌∙◌}
use Rattle.std.specs.Prelude.{IsTrue, is_some}
use Rattle.std.specs.List.{sum_by}
use Rattle.std.proofs.lemmas.List.Sums.{sum_by-append, sum_by-cons}
use Rattle.pd_outside.specs.Files.{File}
use Rattle.pd_outside.specs.Shelf.{Held, HoldsPrefixOf, IsPrefixOfNext, append_bytes, begin_file, bytes_begun, end_file, finish_files}
use Rattle.table_jobs.specs.InMemory.{bytes_held, file_length, no_files}

-- where a file is begun, as many as before
pub held-begin : (name : List ℕ) (held : Held) → is_some held.begun ≡ false → bytes_held (begin_file name held) ≡ bytes_held held
held-begin name held none = go held.begun none
  where
    go : (begun : Option File) → is_some begun ≡ false → sum_by file_length held.finished + 0 ≡ sum_by file_length held.finished + length (bytes_begun (record held { begun = begun }))
    go None is = refl
    go (Some file) is = cc is

-- where bytes are appended, as many more
pub held-append : (piece : List ℕ) (held : Held) → IsTrue (is_some held.begun) → bytes_held (append_bytes piece held) ≡ bytes_held held + length piece
held-append piece held begun = go held.begun begun
  where
    go : (begun : Option File) → IsTrue (is_some begun) →
        bytes_held (append_bytes piece (record held { begun = begun })) ≡ bytes_held (record held { begun = begun }) + length piece
    go None is = cc is
    go (Some file) is = omega (arith, length-append file.bytes piece)

-- where the file is finished, as many as before
pub held-end : (held : Held) → bytes_held (end_file held) ≡ bytes_held held
held-end held = go held.begun
  where
    go : (begun : Option File) → bytes_held (end_file (record held { begun = begun })) ≡ bytes_held (record held { begun = begun })
    go None = omega (arith, sum_by-append file_length held.finished [])
    go (Some file) = omega (arith, sum_by-append file_length held.finished (file ∷ []))

-- ---- of due files

pub held-finished : (due : List File) → bytes_held (finish_files due no_files) ≡ sum_by file_length due
held-finished due = omega arith

part-le : (due : List File) (begun : Option File) → IsPrefixOfNext due begun → length (bytes_begun (record { finished = []; begun = begun })) ≤ sum_by file_length due
part-le due None prefix = omega arith
part-le [] (Some file) prefix = absurd prefix
part-le (next ∷ due) (Some file) prefix =
    let all : sum_by file_length (next ∷ due) ≡ length next.bytes + sum_by file_length due = sum_by-cons file_length next due in
    let begun : length next.bytes ≡ length (file.bytes ++ prefix.1.0) = ap (length {A = ℕ}) prefix.1.1 in
    let begun_length : length (file.bytes ++ prefix.1.0) ≡ length file.bytes + length prefix.1.0 = length-append file.bytes prefix.1.0 in
    omega (arith, all, begun, begun_length)

-- of a prefix no more than of all
pub held-prefix : (due : List File) (held : Held) → HoldsPrefixOf due (Some no_files) (Some held) → bytes_held held ≤ sum_by file_length due
held-prefix due held prefix =
    let same : held ≡ record { finished = prefix.done; begun = prefix.begun } = of_some held _ prefix.held in
    let all : sum_by file_length due ≡ sum_by file_length prefix.done + sum_by file_length prefix.rest =
    ap (sum_by file_length) prefix.parts ∙ sum_by-append file_length prefix.done prefix.rest in
    subst (λ (h : Held). bytes_held h ≤ sum_by file_length due) (sym same) (omega (arith, all, part-le prefix.rest prefix.begun prefix.prefix))
  where
    of_some : (a b : Held) → Some a ≡ Some b → a ≡ b
    of_some a b is = cc is

-- the bytes of files one by one
pub lengths-of_bytes : (files : List File) → sum_by length (map (λ (file : File). file.bytes) files) ≡ sum_by file_length files
lengths-of_bytes [] = refl
lengths-of_bytes (file ∷ files) =
    sum_by-cons length file.bytes (map (λ (f : File). f.bytes) files)
    ∙ ap (λ (n : ℕ). length file.bytes + n) (lengths-of_bytes files)
    ∙ sym (sum_by-cons file_length file files)
