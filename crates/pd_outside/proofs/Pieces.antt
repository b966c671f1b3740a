-- Reading a file to its end, piece after piece.
use Rattle.std.proofs.Common.{◌≡◌, ◌<◌, ◌≤◌, ℕ, zero, suc, ◌+◌, List, [], ◌++◌, length, take, drop, Option, None, Some, refl, ap, subst, sym, ◌∙◌, arith, length-append}
use Rattle.std.specs.Prelude.{IfSome}
use Rattle.std.specs.Option.{option_map}
use Rattle.std.proofs.lemmas.List.{append-nil, drop-drop, length-drop, length-take-le, take-append-drop, take-append-le}
use Rattle.std.proofs.Math.Seq.{take-add}
use Rattle.pd_outside.specs.Files.{bytes_of}
use Rattle.pd_outside.specs.Library.{Content, left, start_file, take_bytes, read_out, stop, ReadsPrefix}

-- the file of this name was started and its first n bytes were taken
abbrev pub read_up_to : List ℕ → ℕ → Content → Content
read_up_to name n content =
    record content { started = Some (drop n (bytes_of content.files name)) }

-- these bytes were read of the file of this name
pub record HasRead (name bytes : List ℕ) (before now : Option Content) : Type 0 where
  pub content : now ≡ option_map (read_up_to name (length bytes)) before
  pub told : IfSome before (λ c. bytes ≡ take (length bytes) (bytes_of c.files name))

-- a started file is one of which nothing was read
pub read_nothing : (name : List ℕ) (before now : Option Content) → now ≡ option_map (start_file name) before → HasRead name [] before now
read_nothing name None now is = record { content = is; told = tt }
read_nothing name (Some c) now is = record { content = is; told = refl }

drop_of_nothing : (m : ℕ) → drop {A = ℕ} m [] ≡ []
drop_of_nothing zero = refl
drop_of_nothing (suc m) = refl

take_all_of_ended : (n : ℕ) (xs : List ℕ) → drop n xs ≡ [] → take n xs ≡ xs
take_all_of_ended n xs ended = sym (append-nil (take n xs)) ∙ ap (λ (back : List ℕ). take n xs ++ back) (sym ended) ∙ take-append-drop n xs

drop_past_ended : (m n : ℕ) (xs : List ℕ) → drop n xs ≡ [] → drop (n + m) xs ≡ []
drop_past_ended m n xs ended = sym (drop-drop m n xs) ∙ ap (drop m) ended ∙ drop_of_nothing m

-- one more piece
pub read_more : (name bytes piece into : List ℕ) (n : ℕ) (before now next : Option Content) → HasRead name bytes before now →
    next ≡ option_map (take_bytes n) now → IfSome now (λ c. ReadsPrefix (left c) n into) → piece ≡ take n into → length piece ≡ n →
    HasRead name (bytes ++ piece) before next
read_more name bytes piece into n None now next sofar step prefix is len =
    record { content = step ∙ ap (option_map (take_bytes n)) sofar.content; told = tt }
read_more name bytes piece into n (Some c) now next sofar step prefix is len =
    let told_now : IfSome (Some (read_up_to name (length bytes) c)) (λ d. ReadsPrefix (left d) n into) =
    subst (λ (o : Option Content). IfSome o (λ d. ReadsPrefix (left d) n into)) sofar.content prefix
    in
    let here : piece ≡ take n (drop (length bytes) (bytes_of c.files name)) = is ∙ told_now.prefix in
    let long : length (bytes ++ piece) ≡ length bytes + n = length-append bytes piece ∙ ap (λ (k : ℕ). length bytes + k) len in
    record {
      content =
          step ∙ ap (option_map (take_bytes n)) sofar.content
          ∙ ap (λ (rest : List ℕ). Some (record c { started = Some rest }))
          (drop-drop n (length bytes) (bytes_of c.files name) ∙ ap (λ (k : ℕ). drop k (bytes_of c.files name)) (sym long));
      told =
          ap (λ (prefix' : List ℕ). prefix' ++ piece) sofar.told
          ∙ ap (λ (back : List ℕ). take (length bytes) (bytes_of c.files name) ++ back) here
          ∙ sym (take-add (length bytes) n (bytes_of c.files name))
          ∙ ap (λ (k : ℕ). take k (bytes_of c.files name)) (sym long);
    }

-- a read that gave nothing was at the end of the file
pub read_all : (name bytes into : List ℕ) (n : ℕ) (before now next : Option Content) → HasRead name bytes before now → n ≡ 0 →
    next ≡ option_map (take_bytes n) now → IfSome now (λ c. ReadsPrefix (left c) n into) →
    IfSome before (λ c. bytes ≡ bytes_of c.files name) × (next ≡ option_map read_out before)
read_all name bytes into n None now next sofar none step prefix = (tt, step ∙ ap (option_map (take_bytes n)) sofar.content)
read_all name bytes into n (Some c) now next sofar none step prefix =
    let told_now : IfSome (Some (read_up_to name (length bytes) c)) (λ d. ReadsPrefix (left d) n into) =
    subst (λ (o : Option Content). IfSome o (λ d. ReadsPrefix (left d) n into)) sofar.content prefix
    in
    let ended : drop (length bytes) (bytes_of c.files name) ≡ [] = told_now.none_at_end none in (
      sofar.told ∙ take_all_of_ended (length bytes) (bytes_of c.files name) ended,
      step ∙ ap (option_map (take_bytes n)) sofar.content
          ∙ ap (λ (rest : List ℕ). Some (record c { started = Some rest }))
          (drop-drop n (length bytes) (bytes_of c.files name) ∙ drop_past_ended n (length bytes) (bytes_of c.files name) ended),
    )

-- a read past the limit shows a longer file
pub read_past : (name bytes into : List ℕ) (n limit : ℕ) (before now : Option Content) → HasRead name bytes before now →
    IfSome now (λ c. ReadsPrefix (left c) n into) → limit < length bytes + n → 0 < n →
    IfSome before (λ c. limit < length (bytes_of c.files name))
read_past name bytes into n limit None now sofar prefix over some = tt
read_past name bytes into n limit (Some c) now sofar prefix over some =
    let told_now : IfSome (Some (read_up_to name (length bytes) c)) (λ d. ReadsPrefix (left d) n into) =
    subst (λ (o : Option Content). IfSome o (λ d. ReadsPrefix (left d) n into)) sofar.content prefix
    in
    omega (arith, told_now.within, length-drop (length bytes) (bytes_of c.files name))

-- the files stay whatever was read
pub files_stay : (name bytes : List ℕ) (before now : Option Content) → HasRead name bytes before now →
    option_map (λ (c : Content). c.files) now ≡ option_map (λ (c : Content). c.files) before
files_stay name bytes None now sofar = ap (option_map (λ (c : Content). c.files)) sofar.content
files_stay name bytes (Some c) now sofar = ap (option_map (λ (d : Content). d.files)) sofar.content

-- and when reading stops
pub files_stay_stopped : (before now next : Option Content) → option_map (λ (c : Content). c.files) now ≡ option_map (λ (c : Content). c.files) before →
    next ≡ option_map stop now → option_map (λ (c : Content). c.files) next ≡ option_map (λ (c : Content). c.files) before
files_stay_stopped before None next same stopped = ap (option_map (λ (c : Content). c.files)) stopped ∙ same
files_stay_stopped before (Some c) next same stopped = ap (option_map (λ (d : Content). d.files)) stopped ∙ same

-- and when more is taken, or when the file was read out
pub files_stay_taken : (n : ℕ) (before now next : Option Content) → option_map (λ (c : Content). c.files) now ≡ option_map (λ (c : Content). c.files) before →
    next ≡ option_map (take_bytes n) now → option_map (λ (c : Content). c.files) next ≡ option_map (λ (c : Content). c.files) before
files_stay_taken n before None next same taken = ap (option_map (λ (c : Content). c.files)) taken ∙ same
files_stay_taken n before (Some c) next same taken = ap (option_map (λ (d : Content). d.files)) taken ∙ same

-- the prefix of a buffer whose own prefix was read
pub prefix_piece : (n : ℕ) (into rest : List ℕ) → n ≤ length into → (take n (into ++ rest) ≡ take n into) × (length (take n (into ++ rest)) ≡ n)
prefix_piece n into rest within =
    let same : take n (into ++ rest) ≡ take n into = take-append-le n into rest within in
    (same, ap length same ∙ length-take-le n into within)
