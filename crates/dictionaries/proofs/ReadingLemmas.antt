-- The lines of a text, read one after the other.
use Rattle.std.proofs.Common.{◌≡◌, ℕ, zero, suc, ◌+◌, ◌<◌, ◌≤◌, ◌==◌, Bool, true, false, not, cond, List, [], ◌∷◌, ◌++◌, Option, Some, None, map, filter, length, get_or, take, drop, refl, ap, sym, ◌∙◌, arith}
use Rattle.std.proofs.lemmas.List.{length-append, length-map, take_all, map-append, append-nil, append_assoc, get_or-map, take-append-drop}
use Rattle.std.proofs.lemmas.List.Elements.{filter_more, filter-append}
use Rattle.std.specs.List.{slice_split}
use Rattle.std.specs.Option.{option_or, unwrap_or}
use Rattle.std.specs.Str.Lines.{strip_carriage_return}
use Rattle.dictionaries.specs.Grammar.{Line, is_line_feed, lines, numbered_line, numbered_from, has_entry, entry_lines, text_of, weight_of, fault_of, first_fault_from, word_list}
use Rattle.dictionaries.specs.WordList.{WordList}
use Rattle.dictionaries.specs.declared.fault.DictFault.{DictFault}

length-numbered_from : (number : ℕ) (lines : List (List ℕ)) → length (numbered_from number lines) ≡ length lines
length-numbered_from number [] = refl
length-numbered_from number (line ∷ others) = ap suc (length-numbered_from (number + 1) others)

get_or-numbered_from : (number : ℕ) (lines : List (List ℕ)) (i : ℕ) (d : Line) → i < length lines →
    get_or (numbered_from number lines) i d ≡ numbered_line (number + i) (get_or lines i d.bytes)
get_or-numbered_from number [] i d within = absurd (omega arith)
get_or-numbered_from number (line ∷ others) zero d within =
    let own : number ≡ number + 0 = omega arith in ap (λ (n : ℕ). numbered_line n line) own
get_or-numbered_from number (line ∷ others) (suc i) d within =
    let later : number + 1 + i ≡ number + suc i = omega arith in
    get_or-numbered_from (number + 1) others i d (omega arith) ∙ ap (λ (n : ℕ). numbered_line n (get_or others i d.bytes)) later

-- the numbered lines of a text
abbrev numbered : List ℕ → List Line
numbered text = numbered_from 1 (lines text)

-- of the first n lines, those with an entry
abbrev pub entries_before : List ℕ → ℕ → List Line
entries_before text n = filter has_entry (take n (numbered text))

-- the first n lines of a text have no fault, and these are their entries and weights
pub record AreRead (text : List ℕ) (n : ℕ) (entries : List (List ℕ)) (weights : List ℕ) : Type 0 where
  pub right : first_fault_from 1 (entries_before text n) ≡ None
  pub texts : entries ≡ map (λ line. text_of line.bytes) (entries_before text n)
  pub weighed : weights ≡ map (λ line. unwrap_or (weight_of line.bytes) 0) (entries_before text n)

pub AreRead-none : (text : List ℕ) → AreRead text 0 [] []
AreRead-none text = record { right = refl; texts = refl; weighed = refl }

-- a line after the first n
line-is : (text : List ℕ) (n : ℕ) (part : List ℕ) → n < length (slice_split is_line_feed text) →
    part ≡ get_or (slice_split is_line_feed text) n part →
    let line = numbered_line (n + 1) (strip_carriage_return part) in
    line ≡ get_or (numbered text) n line
line-is text n part within at =
    let line = numbered_line (n + 1) (strip_carriage_return part) in
    let stripped : get_or (lines text) n line.bytes ≡ strip_carriage_return part =
    get_or-map strip_carriage_return (slice_split is_line_feed text) n part line.bytes within ∙ ap strip_carriage_return (sym at) in
    let number : 1 + n ≡ n + 1 = omega arith in
    let long : n < length (lines text) = omega (arith, length-map (slice_split is_line_feed text) strip_carriage_return) in
    sym (get_or-numbered_from 1 (lines text) n line long ∙ ap (λ (bytes : List ℕ). numbered_line (1 + n) bytes) stripped ∙ ap (λ (k : ℕ). numbered_line k line.bytes) number)

-- of one line more, what its entry adds
entries_before-step : (text : List ℕ) (n : ℕ) (part : List ℕ) → n < length (slice_split is_line_feed text) →
    part ≡ get_or (slice_split is_line_feed text) n part →
    let line = numbered_line (n + 1) (strip_carriage_return part) in
    entries_before text (n + 1) ≡ entries_before text n ++ cond (has_entry line) (line ∷ []) []
entries_before-step text n part within at =
    let line = numbered_line (n + 1) (strip_carriage_return part) in
    let long : n < length (numbered text) =
    omega (arith, length-numbered_from 1 (lines text), length-map (slice_split is_line_feed text) strip_carriage_return) in
    filter_more has_entry (numbered text) n line long
    ∙ ap (λ (l : Line). entries_before text n ++ cond (has_entry l) (l ∷ []) []) (sym (line-is text n part within at))

-- a line without an entry adds none
pub AreRead-empty : (text : List ℕ) (n : ℕ) (part : List ℕ) (entries : List (List ℕ)) (weights : List ℕ) →
    n < length (slice_split is_line_feed text) → part ≡ get_or (slice_split is_line_feed text) n part →
    (length (strip_carriage_return part) == 0) ≡ true → AreRead text n entries weights → AreRead text (n + 1) entries weights
AreRead-empty text n part entries weights within at empty so_far =
    let line = numbered_line (n + 1) (strip_carriage_return part) in
    let same : entries_before text (n + 1) ≡ entries_before text n =
    entries_before-step text n part within at
    ∙ ap (λ (b : Bool). entries_before text n ++ cond (not b) (line ∷ []) []) empty
    ∙ append-nil (entries_before text n) in
    record {
      right = rw same so_far.right;
      texts = rw same so_far.texts;
      weighed = rw same so_far.weighed;
    }

entries_before-more : (text : List ℕ) (n : ℕ) (part : List ℕ) → n < length (slice_split is_line_feed text) →
    part ≡ get_or (slice_split is_line_feed text) n part → (length (strip_carriage_return part) == 0) ≡ false →
    entries_before text (n + 1) ≡ entries_before text n ++ numbered_line (n + 1) (strip_carriage_return part) ∷ []
entries_before-more text n part within at filled =
    let line = numbered_line (n + 1) (strip_carriage_return part) in
    entries_before-step text n part within at ∙ ap (λ (b : Bool). entries_before text n ++ cond (not b) (line ∷ []) []) filled

-- of two faults the first, and then the others: the same as in one row
option_or-assoc : {A : Type 0} (x y z : Option A) → option_or x (option_or y z) ≡ option_or (option_or x y) z
option_or-assoc None y z = refl
option_or-assoc (Some x) y z = refl

first_fault_from-append : (entry : ℕ) (xs ys : List Line) →
    first_fault_from entry (xs ++ ys) ≡ option_or (first_fault_from entry xs) (first_fault_from (entry + length xs) ys)
first_fault_from-append entry [] ys =
    let own : entry ≡ entry + 0 = omega arith in ap (λ (n : ℕ). first_fault_from n ys) own
first_fault_from-append entry (x ∷ xs) ys =
    let own = fault_of entry x.number x.bytes in
    let later : entry + 1 + length xs ≡ entry + suc (length xs) = omega arith in
    ap (option_or own) (first_fault_from-append (entry + 1) xs ys)
    ∙ option_or-assoc own (first_fault_from (entry + 1) xs) (first_fault_from (entry + 1 + length xs) ys)
    ∙ ap (λ (n : ℕ). option_or (option_or own (first_fault_from (entry + 1) xs)) (first_fault_from n ys)) later

-- where lines are right, the first fault of more lines is that of those after them
first_fault_from-behind : (xs ys : List Line) → first_fault_from 1 xs ≡ None → first_fault_from 1 (xs ++ ys) ≡ first_fault_from (length xs + 1) ys
first_fault_from-behind xs ys right =
    let place : 1 + length xs ≡ length xs + 1 = omega arith in
    first_fault_from-append 1 xs ys
    ∙ ap (λ (o : Option DictFault). option_or o (first_fault_from (1 + length xs) ys)) right
    ∙ ap (λ (n : ℕ). first_fault_from n ys) place

option_or-none : {A : Type 0} (o : Option A) → option_or o None ≡ o
option_or-none None = refl
option_or-none (Some x) = refl

-- a line with an entry and no fault adds its text and its weight
pub AreRead-more : (text : List ℕ) (n : ℕ) (part : List ℕ) (entries : List (List ℕ)) (weights : List ℕ) (weight : ℕ) →
    n < length (slice_split is_line_feed text) → part ≡ get_or (slice_split is_line_feed text) n part →
    (length (strip_carriage_return part) == 0) ≡ false →
    fault_of (length entries + 1) (n + 1) (strip_carriage_return part) ≡ None → weight_of (strip_carriage_return part) ≡ Some weight →
    AreRead text n entries weights →
    AreRead text (n + 1) (entries ++ text_of (strip_carriage_return part) ∷ []) (weights ++ weight ∷ [])
AreRead-more text n part entries weights weight within at filled fine named so_far =
    let line = numbered_line (n + 1) (strip_carriage_return part) in
    let before = entries_before text n in
    let more = entries_before-more text n part within at filled in
    let count : length entries ≡ length before = ap length so_far.texts ∙ length-map before (λ l. text_of l.bytes) in
    let fine_here : fault_of (length before + 1) line.number line.bytes ≡ None = rw count at fine in
    record {
      right = rw more (first_fault_from-behind before (line ∷ []) so_far.right ∙ option_or-none (fault_of (length before + 1) line.number line.bytes) ∙ fine_here);
      texts = rw (more, so_far.texts, map-append) refl;
      weighed = rw (more, so_far.weighed, map-append, named) refl;
    }

-- the lines with an entry: those of the first n lines, and those after them
entry_lines-split : (text : List ℕ) (n : ℕ) → entry_lines text ≡ entries_before text n ++ filter has_entry (drop n (numbered text))
entry_lines-split text n =
    ap (filter has_entry) (sym (take-append-drop n (numbered text))) ∙ filter-append has_entry (take n (numbered text)) (drop n (numbered text))

-- the first fault of all lines is that of the next line with an entry
pub first_fault-of_next : (text : List ℕ) (n : ℕ) (part : List ℕ) (entries : List (List ℕ)) (weights : List ℕ) (fault : DictFault) →
    n < length (slice_split is_line_feed text) → part ≡ get_or (slice_split is_line_feed text) n part →
    (length (strip_carriage_return part) == 0) ≡ false →
    fault_of (length entries + 1) (n + 1) (strip_carriage_return part) ≡ Some fault → AreRead text n entries weights →
    first_fault_from 1 (entry_lines text) ≡ Some fault
first_fault-of_next text n part entries weights fault within at filled wrong so_far =
    let line = numbered_line (n + 1) (strip_carriage_return part) in
    let before = entries_before text n in
    let after = filter has_entry (drop (n + 1) (numbered text)) in
    let count : length entries ≡ length before = ap length so_far.texts ∙ length-map before (λ l. text_of l.bytes) in
    let wrong_here : fault_of (length before + 1) line.number line.bytes ≡ Some fault = rw count at wrong in
    let split : entry_lines text ≡ before ++ (line ∷ after) =
    entry_lines-split text (n + 1) ∙ ap (λ (front : List Line). front ++ after) (entries_before-more text n part within at filled)
    ∙ append_assoc before (line ∷ []) after in
    ap (first_fault_from 1) split
    ∙ first_fault_from-behind before (line ∷ after) so_far.right
    ∙ ap (λ (o : Option DictFault). option_or o (first_fault_from (length before + 1 + 1) after)) wrong_here

-- all lines are read
entries_before-all : (text : List ℕ) (n : ℕ) → n ≡ length (slice_split is_line_feed text) → entries_before text n ≡ entry_lines text
entries_before-all text n whole =
    let long : length (numbered text) ≤ n =
    omega (arith, length-numbered_from 1 (lines text), length-map (slice_split is_line_feed text) strip_carriage_return) in
    ap (filter has_entry) (take_all n (numbered text) long)

pub AreRead-all : (text : List ℕ) (n : ℕ) (entries : List (List ℕ)) (weights : List ℕ) → n ≡ length (slice_split is_line_feed text) →
    AreRead text n entries weights →
    (first_fault_from 1 (entry_lines text) ≡ None) × (word_list (entry_lines text) ≡ record { entries = entries; weights = weights })
AreRead-all text n entries weights whole so_far =
    let all = entries_before-all text n whole in
    (rw all at so_far.right, rw (← all, so_far.texts, so_far.weighed) refl)

-- the first n lines of a text have no fault, they have so many entries, and these are their entries and weights where memory lasted
pub record AreTried (text : List ℕ) (n count : ℕ) (is_whole : Bool) (entries : List (List ℕ)) (weights : List ℕ) : Type 0 where
  pub texts : List (List ℕ)
  pub weighed : List ℕ
  pub read : AreRead text n texts weighed
  pub counted : count ≡ length texts
  pub kept_entries : is_whole ≡ true → entries ≡ texts
  pub kept_weights : is_whole ≡ true → weights ≡ weighed

pub AreTried-none : (text : List ℕ) (count : ℕ) (is_whole : Bool) (entries : List (List ℕ)) (weights : List ℕ) →
    count ≡ 0 → entries ≡ [] → weights ≡ [] → AreTried text 0 count is_whole entries weights
AreTried-none text count is_whole entries weights no_count none no_weights = record {
  texts = [];
  weighed = [];
  read = AreRead-none text;
  counted = no_count;
  kept_entries = λ _. none;
  kept_weights = λ _. no_weights;
}

pub AreTried-empty : (text : List ℕ) (n : ℕ) (part : List ℕ) (count : ℕ) (is_whole : Bool) (entries : List (List ℕ)) (weights : List ℕ) →
    n < length (slice_split is_line_feed text) → part ≡ get_or (slice_split is_line_feed text) n part →
    (length (strip_carriage_return part) == 0) ≡ true → AreTried text n count is_whole entries weights → AreTried text (n + 1) count is_whole entries weights
AreTried-empty text n part count is_whole entries weights within at empty so_far = record {
  texts = so_far.texts;
  weighed = so_far.weighed;
  read = AreRead-empty text n part so_far.texts so_far.weighed within at empty so_far.read;
  counted = so_far.counted;
  kept_entries = so_far.kept_entries;
  kept_weights = so_far.kept_weights;
}

pub AreTried-more : (text : List ℕ) (n : ℕ) (part : List ℕ) (count : ℕ) (is_whole : Bool) (entries : List (List ℕ)) (weights : List ℕ) (weight : ℕ)
    (count' : ℕ) (is_whole' : Bool) (entries' : List (List ℕ)) (weights' : List ℕ) →
    n < length (slice_split is_line_feed text) → part ≡ get_or (slice_split is_line_feed text) n part →
    (length (strip_carriage_return part) == 0) ≡ false →
    fault_of (count + 1) (n + 1) (strip_carriage_return part) ≡ None → weight_of (strip_carriage_return part) ≡ Some weight →
    count' ≡ count + 1 → (is_whole' ≡ true → is_whole ≡ true) →
    (is_whole' ≡ true → entries' ≡ entries ++ text_of (strip_carriage_return part) ∷ []) → (is_whole' ≡ true → weights' ≡ weights ++ weight ∷ []) →
    AreTried text n count is_whole entries weights → AreTried text (n + 1) count' is_whole' entries' weights'
AreTried-more text n part count is_whole entries weights weight count' is_whole' entries' weights' within at filled fine named one still more more_weights so_far =
    let fine_here : fault_of (length so_far.texts + 1) (n + 1) (strip_carriage_return part) ≡ None = rw so_far.counted at fine in
    record {
      texts = so_far.texts ++ text_of (strip_carriage_return part) ∷ [];
      weighed = so_far.weighed ++ weight ∷ [];
      read = AreRead-more text n part so_far.texts so_far.weighed weight within at filled fine_here named so_far.read;
      counted = omega (arith, length-append so_far.texts (text_of (strip_carriage_return part) ∷ []), so_far.counted);
      kept_entries = λ whole. more whole ∙ ap (λ (front : List (List ℕ)). front ++ text_of (strip_carriage_return part) ∷ []) (so_far.kept_entries (still whole));
      kept_weights = λ whole. more_weights whole ∙ ap (λ (front : List ℕ). front ++ weight ∷ []) (so_far.kept_weights (still whole));
    }

-- the first fault of all lines is that of the next line with an entry
pub first_fault-of_tried : (text : List ℕ) (n : ℕ) (part : List ℕ) (count : ℕ) (is_whole : Bool) (entries : List (List ℕ)) (weights : List ℕ) (fault : DictFault) →
    n < length (slice_split is_line_feed text) → part ≡ get_or (slice_split is_line_feed text) n part →
    (length (strip_carriage_return part) == 0) ≡ false →
    fault_of (count + 1) (n + 1) (strip_carriage_return part) ≡ Some fault → AreTried text n count is_whole entries weights →
    first_fault_from 1 (entry_lines text) ≡ Some fault
first_fault-of_tried text n part count is_whole entries weights fault within at filled wrong so_far =
    let wrong_here : fault_of (length so_far.texts + 1) (n + 1) (strip_carriage_return part) ≡ Some fault = rw so_far.counted at wrong in
    first_fault-of_next text n part so_far.texts so_far.weighed fault within at filled wrong_here so_far.read

-- all lines are tried
pub record AllAreTried (text : List ℕ) (count : ℕ) (is_whole : Bool) (entries : List (List ℕ)) (weights : List ℕ) : Type 0 where
  pub right : first_fault_from 1 (entry_lines text) ≡ None
  pub counted : count ≡ length (entry_lines text)
  pub kept : is_whole ≡ true → word_list (entry_lines text) ≡ record { entries = entries; weights = weights }

pub AreTried-all : (text : List ℕ) (n count : ℕ) (is_whole : Bool) (entries : List (List ℕ)) (weights : List ℕ) → n ≡ length (slice_split is_line_feed text) →
    AreTried text n count is_whole entries weights → AllAreTried text count is_whole entries weights
AreTried-all text n count is_whole entries weights whole so_far =
    let all = AreRead-all text n so_far.texts so_far.weighed whole so_far.read in
    record {
      right = all.0;
      counted = so_far.counted ∙ ap length (sym (ap (λ (list : WordList). list.entries) all.1)) ∙ length-map (entry_lines text) (λ l. text_of l.bytes);
      kept = λ last. rw (so_far.kept_entries last, so_far.kept_weights last) all.1;
    }
