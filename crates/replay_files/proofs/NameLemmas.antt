-- The names of inputs, table by table and unit by unit, and the bytes of texts one after the other.
use Rattle.std.proofs.Common.{◌≡◌, ◌≤◌, ◌+◌, ◌-◌, ◌*◌, ℕ, zero, suc, List, [], ◌∷◌, ◌++◌, append-nil, append_assoc, flat_map, length, length-append, take, ap, arith, refl, sym, ◌∙◌}
use Rattle.std.specs.List.{range_with_len}
use Rattle.request_words.specs.declared.usage.Format.{Format}
use Rattle.request_words.specs.declared.usage.Request.{Request}
use Rattle.run_jobs.specs.Formats.{undo_name_of}
use Rattle.run_jobs.specs.InputFiles.{change_names, names_in, stream_names, text_name}
use Rattle.replay_files.specs.Replay.{format_of, input_names, inputs_by, inputs_each, names_by, undo_names}
use Rattle.replay_files.specs.declared.replay.Replay.{Replay}
use Rattle.replay_files.specs.declared.replay.Way.{Way}
use Rattle.replay_files.specs.declared.replay.Way.TheVariants as way
use Rattle.run_jobs.proofs.MoreLemmas.{flat_map_more}

-- ---- names

-- the names of the columns of the inputs of one more unit
pub columns_more : (names : List (List ℕ)) (unit : ℕ) (before mid now : List (List (List ℕ))) → mid ≡ before ++ names_in unit names →
    now ≡ ((mid ++ take 1 names ∷ []) ++ names ∷ []) ++ names ∷ [] → now ≡ before ++ names_in (unit + 1) names
columns_more names unit before mid now so_far step =
    step
    ∙ append_assoc (mid ++ take 1 names ∷ []) (names ∷ []) (names ∷ [])
    ∙ append_assoc mid (take 1 names ∷ []) (names ∷ names ∷ [])
    ∙ ap (λ (front : List (List (List ℕ))). front ++ change_names names) so_far
    ∙ append_assoc before (names_in unit names) (change_names names)
    ∙ ap (λ (rest : List (List (List ℕ))). before ++ names ∷ rest) (sym (flat_map_more (λ (u : ℕ). change_names names) 0 unit))

-- ---- the names of inputs

-- those of one more unit's streams
pub applied_more : (format : Format) (table : List ℕ) (from step unit : ℕ) (before mid now : List (List ℕ)) → unit ≡ from + 1 + step →
    mid ≡ before ++ (text_name format table ∷ flat_map (stream_names format table) (range_with_len (from + 1) step)) → now ≡ mid ++ stream_names format table unit →
    now ≡ before ++ (text_name format table ∷ flat_map (stream_names format table) (range_with_len (from + 1) (step + 1)))
applied_more format table from step unit before mid now at so_far more =
    let names : List (List ℕ) = text_name format table ∷ flat_map (stream_names format table) (range_with_len (from + 1) step) in
    more
    ∙ ap (λ (front : List (List ℕ)). front ++ stream_names format table unit) so_far
    ∙ append_assoc before names (stream_names format table unit)
    ∙ ap (λ (u : ℕ). before ++ (names ++ stream_names format table u)) at
    ∙ ap (λ (rest : List (List ℕ)). before ++ (text_name format table ∷ rest)) (sym (flat_map_more (stream_names format table) (from + 1) step))

-- those of the undo texts that are left after the text's name are all
pub undone_begun : (table name : List ℕ) (to count : ℕ) (before now : List (List ℕ)) → now ≡ before ++ name ∷ [] →
    now ++ undo_names table to count ≡ before ++ (name ∷ undo_names table to count)
undone_begun table name to count before now is =
    ap (λ (front : List (List ℕ)). front ++ undo_names table to count) is
    ∙ append_assoc before (name ∷ []) (undo_names table to count)

-- one fewer is left after the next
pub undone_more : (table : List ℕ) (to left rest unit : ℕ) (before mid now : List (List ℕ)) → left ≡ suc rest → unit ≡ to + left → mid ++ undo_names table to left ≡ before →
    now ≡ mid ++ undo_name_of table unit ∷ [] → now ++ undo_names table to rest ≡ before
undone_more table to left rest unit before mid now more at so_far step =
    let here : unit ≡ to + suc rest = at ∙ ap (λ (n : ℕ). to + n) more in
    ap (λ (front : List (List ℕ)). front ++ undo_names table to rest) step
    ∙ append_assoc mid (undo_name_of table unit ∷ []) (undo_names table to rest)
    ∙ ap (λ (u : ℕ). mid ++ undo_name_of table u ∷ undo_names table to rest) here
    ∙ sym (ap (λ (n : ℕ). mid ++ undo_names table to n) more)
    ∙ so_far

pub undone_all : (table : List ℕ) (to left : ℕ) (before now : List (List ℕ)) → left ≡ 0 → now ++ undo_names table to left ≡ before → now ≡ before
undone_all table to left before now none so_far =
    sym (append-nil now) ∙ sym (ap (λ (n : ℕ). now ++ undo_names table to n) none) ∙ so_far

-- ---- how many they are

length-streams : (format : Format) (table : List ℕ) (first count : ℕ) → length (flat_map (stream_names format table) (range_with_len first count)) ≡ 3 * count
length-streams format table first zero = refl
length-streams format table first (suc count) =
    let rest = flat_map (stream_names format table) (range_with_len (first + 1) count) in
    let more : length (stream_names format table first ++ rest) ≡ 3 + length rest = length-append (stream_names format table first) rest in
    omega (arith, more, length-streams format table (first + 1) count)

length-undo_names : (table : List ℕ) (to count : ℕ) → length (undo_names table to count) ≡ count
length-undo_names table to zero = refl
length-undo_names table to (suc count) = ap suc (length-undo_names table to count)

length-own : (w : Way) (format : Format) (from to : ℕ) (table : List ℕ) → length (names_by w format from to table) ≡ inputs_by w from to
length-own (way.Apply keys) format from to table = omega (arith, length-streams format table (from + 1) (to - from))
length-own way.Undo format from to table = omega (arith, length-undo_names table to (from - to))

length-all : (w : Way) (format : Format) (from to : ℕ) (tables : List (List ℕ)) → length (flat_map (names_by w format from to) tables) ≡ length tables * inputs_by w from to
length-all w format from to [] = omega arith
length-all w format from to (table ∷ tables) =
    let rest = flat_map (names_by w format from to) tables in
    length-append (names_by w format from to table) rest
    ∙ ap (λ (n : ℕ). n + length rest) (length-own w format from to table)
    ∙ ap (λ (n : ℕ). inputs_by w from to + n) (length-all w format from to tables)
    ∙ one_more (inputs_by w from to) (length tables)
  where
    one_more : (each count : ℕ) → each + count * each ≡ suc count * each
    one_more each count = grind (arith)

pub length-names : (r : Request) (replay : Replay) → length (input_names r replay) ≡ length replay.names * inputs_each r replay
length-names r replay = length-all replay.way (format_of replay) r.from r.to replay.names

-- a table has one at least
pub some-inputs : (w : Way) (from to : ℕ) → 1 ≤ inputs_by w from to
some-inputs (way.Apply keys) from to = omega arith
some-inputs way.Undo from to = omega arith

-- ---- texts one after the other
