-- The lines that undo what a unit changes in lines of numbers, each with a key of its own: numbers of a first one on are dropped, others are
-- set to what they were, and numbers below the first one are added again.
use Rattle.std.proofs.Common.{◌≡◌, ℕ, zero, suc, ◌+◌, ◌<◌, ◌≤◌, ◌^◌, ◌⊎◌, All, Bool, true, false, ◌||◌, List, [], ◌∷◌, ◌++◌, drop, filter, length, map, take, inl, inr, refl, ap, arith, sym, subst, ◌∙◌, append_assoc, length-append}
use Rattle.std.specs.Prelude.{codes, decimal}
use Rattle.std.specs.List.{flat_map, range_with_len}
use Rattle.std.specs.Str.{bytes_eq}
use Rattle.std.proofs.Math.Seq.{drop-append_seam, take-append_seam}
use Rattle.std.proofs.lemmas.Bool.{cases_Bool, true≢false}
use Rattle.std.proofs.lemmas.List.{append-nil}
use Rattle.std.proofs.lemmas.List.Folds.{flat_map-map}
use Rattle.std.proofs.lemmas.List.Elements.{All-head, All-nil, All-push, All-tail}
use Rattle.stream_apply.specs.KeyedLines.{KeyedLine, has_key, keyed, lines_text, put}
use Rattle.stream_apply.specs.Streams.{IsKeyedLine, IsLoaded, without}
use Rattle.stream_apply.specs.declared.key_fields.KeyFields.TheVariants.{One}
use Rattle.stream_apply.specs.declared.kind.InputKind.TheVariants.{Deletes, Inserts, Snapshot, Updates}
use Rattle.stream_apply.proofs.KeyedLineLemmas.{bytes_eq-apart, bytes_eq-same}
use Rattle.stream_apply.proofs.NumberedLineLemmas.{AreKeys, has_key-outside, lines_in, lines_in-all, lines_in-apart, lines_in-append}
use Rattle.undo_streams.specs.Reverting.{AreTaken, IsTaken, IsUndoneBy, UndoLine, Undoing, begun, behind, behind_all, rank_of, undo_line_text, undos_text}
use Rattle.undo_streams.specs.declared.part.Part.{Part}
use Rattle.undo_streams.specs.declared.part.Part.TheVariants.{Adds, Drops, Sets}
use Rattle.undo_streams.specs.InTurn.{table_with}
use Rattle.undo_streams.proofs.KeyedLemmas.{IsRow}
use Rattle.undo_streams.proofs.WeaverLemmas.{has_key-append}

-- ---- undo lines

-- those of the numbers of a range that pass a test, each at a place and with a text
abbrev pub undos_in : Part → (ℕ → ℕ) → (ℕ → List ℕ) → (ℕ → List ℕ) → (ℕ → Bool) → ℕ → ℕ → List UndoLine
undos_in part place key text p a n = map (λ (j : ℕ). record { part = part; place = place j; line = keyed (key j) (text j) }) (filter p (range_with_len a n))

-- those that drop numbers, set them and add them
abbrev pub drops_in : (ℕ → List ℕ) → (ℕ → Bool) → ℕ → ℕ → List UndoLine
drops_in key p a n = undos_in Drops (λ j. 0) key key p a n

abbrev pub sets_in : (ℕ → List ℕ) → (ℕ → List ℕ) → (ℕ → Bool) → ℕ → ℕ → List UndoLine
sets_in key text p a n = undos_in Sets (λ j. 0) key text p a n

abbrev pub adds_in : (ℕ → ℕ) → (ℕ → List ℕ) → (ℕ → List ℕ) → (ℕ → Bool) → ℕ → ℕ → List UndoLine
adds_in place key text p a n = undos_in Adds place key text p a n

-- their texts
flat_map-same : (f g : ℕ → List ℕ) (xs : List ℕ) → ((j : ℕ) → f j ≡ g j) → flat_map f xs ≡ flat_map g xs
flat_map-same f g [] same = refl
flat_map-same f g (x ∷ xs) same = ap (λ (t : List ℕ). t ++ flat_map f xs) (same x) ∙ ap (λ (t : List ℕ). g x ++ t) (flat_map-same f g xs same)

undos_text-in : (delimiter : ℕ) (undo : ℕ → UndoLine) (text : ℕ → List ℕ) (xs : List ℕ) → ((j : ℕ) → undo_line_text delimiter (undo j) ++ 10 ∷ [] ≡ text j) →
    undos_text delimiter (map undo xs) ≡ flat_map text xs
undos_text-in delimiter undo text xs same =
    flat_map-map (λ (u : UndoLine). undo_line_text delimiter u ++ 10 ∷ []) undo xs ∙ flat_map-same (λ (j : ℕ). undo_line_text delimiter (undo j) ++ 10 ∷ []) text xs same

pub drops_text : (delimiter : ℕ) (key : ℕ → List ℕ) (p : ℕ → Bool) (a n : ℕ) →
    undos_text delimiter (drops_in key p a n) ≡ flat_map (λ (j : ℕ). codes "drop" ++ delimiter ∷ (key j ++ 10 ∷ [])) (filter p (range_with_len a n))
drops_text delimiter key p a n =
    undos_text-in delimiter (λ (j : ℕ). record { part = Drops; place = 0; line = keyed (key j) (key j) }) (λ (j : ℕ). codes "drop" ++ delimiter ∷ (key j ++ 10 ∷ [])) (filter p (range_with_len a n))
    (λ j. append_assoc (codes "drop") (delimiter ∷ key j) (10 ∷ []))

pub sets_text : (delimiter : ℕ) (key text : ℕ → List ℕ) (p : ℕ → Bool) (a n : ℕ) →
    undos_text delimiter (sets_in key text p a n) ≡ flat_map (λ (j : ℕ). codes "set" ++ delimiter ∷ (text j ++ 10 ∷ [])) (filter p (range_with_len a n))
sets_text delimiter key text p a n =
    undos_text-in delimiter (λ (j : ℕ). record { part = Sets; place = 0; line = keyed (key j) (text j) }) (λ (j : ℕ). codes "set" ++ delimiter ∷ (text j ++ 10 ∷ [])) (filter p (range_with_len a n))
    (λ j. append_assoc (codes "set") (delimiter ∷ text j) (10 ∷ []))

pub adds_text : (delimiter : ℕ) (place : ℕ → ℕ) (key text : ℕ → List ℕ) (p : ℕ → Bool) (a n : ℕ) →
    undos_text delimiter (adds_in place key text p a n)
    ≡ flat_map (λ (j : ℕ). codes "add" ++ delimiter ∷ (decimal (place j) ++ delimiter ∷ (text j ++ 10 ∷ []))) (filter p (range_with_len a n))
adds_text delimiter place key text p a n =
    undos_text-in delimiter (λ (j : ℕ). record { part = Adds; place = place j; line = keyed (key j) (text j) })
    (λ (j : ℕ). codes "add" ++ delimiter ∷ (decimal (place j) ++ delimiter ∷ (text j ++ 10 ∷ []))) (filter p (range_with_len a n))
    (λ j.
    append_assoc (codes "add") (delimiter ∷ ((decimal (place j) ++ delimiter ∷ []) ++ text j)) (10 ∷ [])
    ∙ ap (λ (rest : List ℕ). codes "add" ++ delimiter ∷ rest) (append_assoc (decimal (place j) ++ delimiter ∷ []) (text j) (10 ∷ []) ∙ append_assoc (decimal (place j)) (delimiter ∷ []) (text j ++ 10 ∷ [])))

-- lines one after the other
pub behind_all-append : (undoing : Undoing) (xs ys : List UndoLine) → behind_all undoing (xs ++ ys) ≡ behind_all (behind_all undoing xs) ys
behind_all-append undoing [] ys = refl
behind_all-append undoing (x ∷ xs) ys = behind_all-append (behind undoing x) xs ys

pub taken-append : (delimiter : ℕ) (undoing : Undoing) (xs ys : List UndoLine) → AreTaken delimiter undoing xs → AreTaken delimiter (behind_all undoing xs) ys → AreTaken delimiter undoing (xs ++ ys)
taken-append delimiter undoing [] ys taken more = more
taken-append delimiter undoing (x ∷ xs) ys taken more = (taken.0, taken-append delimiter (behind undoing x) xs ys taken.1 more)

-- ---- lines of a table

-- those that lack a key stay where it is dropped
without-other : (lines : List KeyedLine) (key text : List ℕ) → has_key lines key ≡ false → without lines (keyed key text ∷ []) ≡ lines
without-other [] key text free = refl
without-other (line ∷ lines) key text free =
    let parts = or_both (bytes_eq key line.key) (has_key lines key) free in
    let other : bytes_eq line.key key ≡ false =
    bytes_eq-apart line.key key (λ same. true≢false (sym (bytes_eq-same key) ∙ ap (bytes_eq key) (sym same) ∙ parts.0)) in
    rw other (ap (λ (ls : List KeyedLine). line ∷ ls) (without-other lines key text parts.1))
  where
    or_both : (x y : Bool) → (x || y) ≡ false → (x ≡ false) × (y ≡ false)
    or_both true y e = (e, absurd (true≢false e))
    or_both false y e = (refl, e)

-- the one with the key goes
without-there : (front back : List KeyedLine) (key text new : List ℕ) → has_key front key ≡ false → has_key back key ≡ false →
    without (front ++ keyed key text ∷ back) (keyed key new ∷ []) ≡ front ++ back
without-there [] back key text new free back_free = rw (bytes_eq-same key) (without-other back key new back_free)
without-there (line ∷ front) back key text new free back_free =
    let parts = or_both (bytes_eq key line.key) (has_key front key) free in
    let other : bytes_eq line.key key ≡ false =
    bytes_eq-apart line.key key (λ same. true≢false (sym (bytes_eq-same key) ∙ ap (bytes_eq key) (sym same) ∙ parts.0)) in
    rw other (ap (λ (ls : List KeyedLine). line ∷ ls) (without-there front back key text new parts.1 back_free))
  where
    or_both : (x y : Bool) → (x || y) ≡ false → (x ≡ false) × (y ≡ false)
    or_both true y e = (e, absurd (true≢false e))
    or_both false y e = (refl, e)

-- or has another text
put-there : (front back : List KeyedLine) (key text new : List ℕ) → has_key front key ≡ false → put (front ++ keyed key text ∷ back) (keyed key new) ≡ front ++ keyed key new ∷ back
put-there [] back key text new free = rw (bytes_eq-same key) refl
put-there (line ∷ front) back key text new free =
    let parts = or_both (bytes_eq key line.key) (has_key front key) free in
    rw parts.0 (ap (λ (ls : List KeyedLine). line ∷ ls) (put-there front back key text new parts.1))
  where
    or_both : (x y : Bool) → (x || y) ≡ false → (x ≡ false) × (y ≡ false)
    or_both true y e = (e, absurd (true≢false e))
    or_both false y e = (refl, e)

has_key-there : (front back : List KeyedLine) (key text : List ℕ) → has_key (front ++ keyed key text ∷ back) key ≡ true
has_key-there front back key text = has_key-append front (keyed key text ∷ back) key ∙ rw (bytes_eq-same key) (or_true (has_key front key))
  where
    or_true : (b : Bool) → (b || true) ≡ true
    or_true true = refl
    or_true false = refl

module _ (delimiter : ℕ) (key : ℕ → List ℕ) (size : ℕ) (one_to_one : AreKeys key size) where
  -- ---- keys that are told

  -- each told line has the key of one of some numbers
  abbrev AreToldOf : (ℕ → Type 0) → List KeyedLine → Type 0
  AreToldOf T told = All (λ (line : KeyedLine). (i : ℕ) × (i < size) × T i × (line.key ≡ key i)) told

  -- so that of another isn't told
  told-free : (T : ℕ → Type 0) (told : List KeyedLine) (j : ℕ) → j < size → AreToldOf T told → ¬ (T j) → has_key told (key j) ≡ false
  told-free T [] j small told other = refl
  told-free T (line ∷ told) j small all other =
      let Is : KeyedLine → Type 0 = λ (l : KeyedLine). (i : ℕ) × (i < size) × T i × (l.key ≡ key i) in
      let first = All-head Is line told all in
      let apart : bytes_eq (key j) line.key ≡ false =
      bytes_eq-apart (key j) line.key (λ same. other (subst T (sym (one_to_one j first.0 small first.1 (same ∙ first.3))) first.2)) in
      rw apart (told-free T told j small (All-tail Is line told all) other)

  told-wider : (S T : ℕ → Type 0) (told : List KeyedLine) → ((i : ℕ) → S i → T i) → AreToldOf S told → AreToldOf T told
  told-wider S T told wider all i d below = let at = all i d below in (at.0, at.1, wider at.0 at.2, at.3)

  told-more : (T : ℕ → Type 0) (told : List KeyedLine) (j : ℕ) (text : List ℕ) → j < size → T j → AreToldOf T told → AreToldOf T (told ++ keyed (key j) text ∷ [])
  told-more T told j text small is all =
      All-push (λ (l : KeyedLine). (i : ℕ) × (i < size) × T i × (l.key ≡ key i)) told (keyed (key j) text) all (j, small, is, refl)

  -- ---- what becomes of an undoing

  record Goes (undoing : Undoing) (undos : List UndoLine) (lines : List KeyedLine) (T : ℕ → Type 0) (rank least : ℕ) : Type 0 where
    taken : AreTaken delimiter undoing undos
    are : (behind_all undoing undos).lines ≡ lines
    told : AreToldOf T (behind_all undoing undos).told
    order : rank_of (behind_all undoing undos).part ≤ rank
    place : (behind_all undoing undos).least ≤ least

  goes-none : (undoing : Undoing) (lines : List KeyedLine) (T : ℕ → Type 0) (rank least : ℕ) → undoing.lines ≡ lines → AreToldOf T undoing.told → rank_of undoing.part ≤ rank → undoing.least ≤ least →
      Goes undoing [] lines T rank least
  goes-none undoing lines T rank least are told order place = record { taken = tt; are = are; told = told; order = order; place = place }

  goes-first : (undoing : Undoing) (undo : UndoLine) (undos : List UndoLine) (lines : List KeyedLine) (T : ℕ → Type 0) (rank least : ℕ) → IsTaken delimiter undoing undo →
      Goes (behind undoing undo) undos lines T rank least → Goes undoing (undo ∷ undos) lines T rank least
  goes-first undoing undo undos lines T rank least first rest = record { taken = (first, rest.taken); are = rest.are; told = rest.told; order = rest.order; place = rest.place }

  -- ---- numbers that are dropped

  module _ (kept : List KeyedLine) (new : ℕ → List ℕ) (live : ℕ → Bool) (first : ℕ) (keys_alone : (j : ℕ) → j < size → IsKeyedLine One delimiter Deletes (keyed (key j) (key j)))
      (free : (j : ℕ) → first ≤ j → j < size → has_key kept (key j) ≡ false) where
    abbrev IsDroppedBelow : ℕ → ℕ → Type 0
    IsDroppedBelow a i = (first ≤ i) × (i < a)

    drops-go : (a n : ℕ) (undoing : Undoing) → first ≤ a → a + n ≤ size → ((j : ℕ) → a ≤ j → j < a + n → live j ≡ true) → undoing.lines ≡ kept ++ lines_in key new live a n →
        AreToldOf (IsDroppedBelow a) undoing.told → rank_of undoing.part ≤ 0 → undoing.least ≤ 0 →
        Goes undoing (undos_in Drops (λ j. 0) key key live a n) kept (IsDroppedBelow (a + n)) 0 0
    drops-go a zero undoing from within alive are told order place =
        let same : a + 0 ≡ a = omega arith in
        goes-none undoing kept (IsDroppedBelow (a + 0)) 0 0 (are ∙ append-nil kept) (subst (λ (b : ℕ). AreToldOf (IsDroppedBelow b) undoing.told) (sym same) told) order place
    drops-go a (suc n) undoing from within alive are told order place =
        let undo : UndoLine = record { part = Drops; place = 0; line = keyed (key a) (key a) } in
        let rest : List KeyedLine = lines_in key new live (a + 1) n in
        let small : a < size = omega (arith, within) in
        let here : live a ≡ true = alive a (omega arith) (omega arith) in
        let now : undoing.lines ≡ kept ++ keyed (key a) (new a) ∷ rest = are ∙ rw here refl in
        let rest_free : has_key rest (key a) ≡ false =
        has_key-outside key size one_to_one new live (a + 1) n a (omega (arith, within)) small (λ k low high same. omega (arith, low, same)) in
        let gone : without undoing.lines (undo.line ∷ []) ≡ kept ++ rest =
        ap (λ (ls : List KeyedLine). without ls (undo.line ∷ [])) now ∙ without-there kept rest (key a) (new a) (key a) (free a from small) rest_free in
        let taken : IsTaken delimiter undoing undo = record {
          is = record { place = refl; keyed = keys_alone a small };
          order = order;
          free = told-free (IsDroppedBelow a) undoing.told a small told (λ is. omega (arith, is.1));
          held = ap (λ (ls : List KeyedLine). has_key ls (key a)) now ∙ has_key-there kept rest (key a) (new a);
          placed = tt;
        } in
        let told_now : AreToldOf (IsDroppedBelow (a + 1)) (undoing.told ++ undo.line ∷ []) =
        told-more (IsDroppedBelow (a + 1)) undoing.told a (key a) small (from, omega arith)
        (told-wider (IsDroppedBelow a) (IsDroppedBelow (a + 1)) undoing.told (λ i is. (is.0, omega (arith, is.1))) told) in
        let all : (a + 1) + n ≡ a + suc n = omega arith in
        rw here (goes-first undoing undo (undos_in Drops (λ j. 0) key key live (a + 1) n) kept (IsDroppedBelow (a + suc n)) 0 0 taken
        (subst (λ (b : ℕ). Goes (behind undoing undo) (undos_in Drops (λ j. 0) key key live (a + 1) n) kept (IsDroppedBelow b) 0 0) all
        (drops-go (a + 1) n (behind undoing undo) (omega (arith, from)) (omega (arith, within)) (λ j low high. alive j (omega (arith, low)) (omega (arith, high))) gone told_now (omega arith) (omega arith))))

  -- ---- numbers that are set

  module _ (old new : ℕ → List ℕ) (live changes : ℕ → Bool) (first : ℕ) (within : first ≤ size)
      (rows : (j : ℕ) → j < first → IsRow delimiter (keyed (key j) (new j)))
      (among : (j : ℕ) → j < first → changes j ≡ true → live j ≡ true)
      (still : (j : ℕ) → j < first → live j ≡ true → changes j ≡ false → old j ≡ new j) where
    abbrev IsSetBelow : ℕ → ℕ → Type 0
    IsSetBelow a i = (first ≤ i) ⊎ ((i < a) × (live i ≡ true))

    -- one line more
    lines-push : (text : ℕ → List ℕ) (a : ℕ) → live a ≡ true → lines_in key text live 0 (a + 1) ≡ lines_in key text live 0 a ++ keyed (key a) (text a) ∷ []
    lines-push text a here =
        let start : 0 + a ≡ a = omega arith in
        sym (lines_in-append key text live 0 a 1) ∙ ap (λ (b : ℕ). lines_in key text live 0 a ++ lines_in key text live b 1) start ∙ ap (λ (ls : List KeyedLine). lines_in key text live 0 a ++ ls) (rw here refl)

    lines-skip : (text : ℕ → List ℕ) (a : ℕ) → live a ≡ false → lines_in key text live 0 (a + 1) ≡ lines_in key text live 0 a
    lines-skip text a here =
        let start : 0 + a ≡ a = omega arith in
        sym (lines_in-append key text live 0 a 1) ∙ ap (λ (b : ℕ). lines_in key text live 0 a ++ lines_in key text live b 1) start
        ∙ ap (λ (ls : List KeyedLine). lines_in key text live 0 a ++ ls) (rw here refl) ∙ append-nil (lines_in key text live 0 a)

    sets-go : (a n : ℕ) (undoing : Undoing) → a + n ≡ first → undoing.lines ≡ lines_in key new live 0 a ++ lines_in key old live a n → AreToldOf (IsSetBelow a) undoing.told →
        rank_of undoing.part ≤ 1 → undoing.least ≤ 0 →
        Goes undoing (undos_in Sets (λ j. 0) key new changes a n) (lines_in key new live 0 first) (IsSetBelow first) 1 0
    sets-go a zero undoing all are told order place =
        let same : a ≡ first = omega (arith, all) in
        goes-none undoing (lines_in key new live 0 first) (IsSetBelow first) 1 0
        (are ∙ append-nil (lines_in key new live 0 a) ∙ ap (λ (b : ℕ). lines_in key new live 0 b) same) (subst (λ (b : ℕ). AreToldOf (IsSetBelow b) undoing.told) same told) order place
    sets-go a (suc n) undoing all are told order place =
        let below : a < first = omega (arith, all) in
        let small : a < size = omega (arith, below, within) in
        let done : List KeyedLine = lines_in key new live 0 a in
        let rest : List KeyedLine = lines_in key old live (a + 1) n in
        let next : (a + 1) + n ≡ first = omega (arith, all) in
        let wider : AreToldOf (IsSetBelow (a + 1)) undoing.told =
        told-wider (IsSetBelow a) (IsSetBelow (a + 1)) undoing.told (λ i is. widen i is) told in
        elim (cases_Bool (live a)) [
          | inr dead ↦
              let rests : changes a ≡ false = not_changed below dead in
              let now : undoing.lines ≡ lines_in key new live 0 (a + 1) ++ rest = are ∙ rw dead (ap (λ (ls : List KeyedLine). ls ++ rest) (sym (lines-skip new a dead))) in
              rw rests (sets-go (a + 1) n undoing next now wider order place)
          | inl alive ↦
              let now : undoing.lines ≡ done ++ keyed (key a) (old a) ∷ rest = are ∙ rw alive refl in
              let longer : (lines_in key new live 0 (a + 1)) ++ rest ≡ done ++ keyed (key a) (new a) ∷ rest =
              ap (λ (ls : List KeyedLine). ls ++ rest) (lines-push new a alive) ∙ append_assoc done (keyed (key a) (new a) ∷ []) rest in
              elim (cases_Bool (changes a)) [
                | inr rests ↦
                    let same : undoing.lines ≡ lines_in key new live 0 (a + 1) ++ rest =
                    now ∙ ap (λ (t : List ℕ). done ++ keyed (key a) t ∷ rest) (still a below alive rests) ∙ sym longer in
                    rw rests (sets-go (a + 1) n undoing next same wider order place)
                | inl changed ↦
                    let undo : UndoLine = record { part = Sets; place = 0; line = keyed (key a) (new a) } in
                    let done_free : has_key done (key a) ≡ false =
                    has_key-outside key size one_to_one new live 0 a a (omega (arith, small)) small (λ k low high same. omega (arith, high, same)) in
                    let set : put undoing.lines undo.line ≡ lines_in key new live 0 (a + 1) ++ rest =
                    ap (λ (ls : List KeyedLine). put ls undo.line) now ∙ put-there done rest (key a) (old a) (new a) done_free ∙ sym longer in
                    let taken : IsTaken delimiter undoing undo = record {
                      is = record { place = refl; keyed = rows a below Updates refl };
                      order = order;
                      free = told-free (IsSetBelow a) undoing.told a small told (λ is. not_told below is);
                      held = ap (λ (ls : List KeyedLine). has_key ls (key a)) now ∙ has_key-there done rest (key a) (old a);
                      placed = tt;
                    } in
                    rw changed (goes-first undoing undo (undos_in Sets (λ j. 0) key new changes (a + 1) n) (lines_in key new live 0 first) (IsSetBelow first) 1 0 taken
                    (sets-go (a + 1) n (behind undoing undo) next set (told-more (IsSetBelow (a + 1)) undoing.told a (new a) small (inr (omega arith, alive)) wider) (omega arith) (omega arith)))
              ]
        ]
      where
        widen : (i : ℕ) → IsSetBelow a i → IsSetBelow (a + 1) i
        widen i (inl late) = inl late
        widen i (inr early) = inr (omega (arith, early.0), early.1)

        not_told : a < first → ¬ IsSetBelow a a
        not_told below (inl late) = omega (arith, below, late)
        not_told below (inr early) = omega (arith, early.0)

        not_changed : a < first → live a ≡ false → changes a ≡ false
        not_changed below dead = elim (cases_Bool (changes a)) [
          | inl changed ↦ absurd (true≢false (sym (among a below changed) ∙ dead))
          | inr rests ↦ rests
        ]

  -- ---- numbers that are added

  module _ (text : ℕ → List ℕ) (before after dies : ℕ → Bool) (place : ℕ → ℕ) (first : ℕ) (within : first ≤ size)
      (rows : (j : ℕ) → j < first → IsRow delimiter (keyed (key j) (text j)))
      (dead : (j : ℕ) → j < first → dies j ≡ true → (before j ≡ true) × (after j ≡ false))
      (same : (j : ℕ) → j < first → dies j ≡ false → before j ≡ after j)
      (places : (j : ℕ) → j < first → dies j ≡ true → (place j ≡ length (lines_in key text before 0 j)) × (place j < 10 ^ 13)) where
    abbrev IsAddedBelow : ℕ → ℕ → Type 0
    IsAddedBelow a i = (first ≤ i) ⊎ ((after i ≡ true) ⊎ (i < a))

    before-push : (a : ℕ) → before a ≡ true → lines_in key text before 0 (a + 1) ≡ lines_in key text before 0 a ++ keyed (key a) (text a) ∷ []
    before-push a here =
        let start : 0 + a ≡ a = omega arith in
        sym (lines_in-append key text before 0 a 1) ∙ ap (λ (b : ℕ). lines_in key text before 0 a ++ lines_in key text before b 1) start
        ∙ ap (λ (ls : List KeyedLine). lines_in key text before 0 a ++ ls) (rw here refl)

    before-skip : (a : ℕ) → before a ≡ false → lines_in key text before 0 (a + 1) ≡ lines_in key text before 0 a
    before-skip a here =
        let start : 0 + a ≡ a = omega arith in
        sym (lines_in-append key text before 0 a 1) ∙ ap (λ (b : ℕ). lines_in key text before 0 a ++ lines_in key text before b 1) start
        ∙ ap (λ (ls : List KeyedLine). lines_in key text before 0 a ++ ls) (rw here refl) ∙ append-nil (lines_in key text before 0 a)

    adds-go : (a n : ℕ) (undoing : Undoing) → a + n ≡ first → undoing.lines ≡ lines_in key text before 0 a ++ lines_in key text after a n → AreToldOf (IsAddedBelow a) undoing.told →
        rank_of undoing.part ≤ 2 → undoing.least ≤ length (lines_in key text before 0 a) →
        Goes undoing (undos_in Adds place key text dies a n) (lines_in key text before 0 first) (IsAddedBelow first) 2 (length (lines_in key text before 0 first))
    adds-go a zero undoing all are told order least =
        let here : a ≡ first = omega (arith, all) in
        goes-none undoing (lines_in key text before 0 first) (IsAddedBelow first) 2 (length (lines_in key text before 0 first))
        (are ∙ append-nil (lines_in key text before 0 a) ∙ ap (λ (b : ℕ). lines_in key text before 0 b) here)
        (subst (λ (b : ℕ). AreToldOf (IsAddedBelow b) undoing.told) here told) order (subst (λ (b : ℕ). undoing.least ≤ length (lines_in key text before 0 b)) here least)
    adds-go a (suc n) undoing all are told order least =
        let below : a < first = omega (arith, all) in
        let small : a < size = omega (arith, below, within) in
        let done : List KeyedLine = lines_in key text before 0 a in
        let rest : List KeyedLine = lines_in key text after (a + 1) n in
        let next : (a + 1) + n ≡ first = omega (arith, all) in
        let wider : AreToldOf (IsAddedBelow (a + 1)) undoing.told = told-wider (IsAddedBelow a) (IsAddedBelow (a + 1)) undoing.told (λ i is. widen i is) told in
        elim (cases_Bool (dies a)) [
          | inr lives ↦
              let one : before a ≡ after a = same a below lives in
              elim (cases_Bool (after a)) [
                | inl alive ↦
                    let was : before a ≡ true = one ∙ alive in
                    let now : undoing.lines ≡ lines_in key text before 0 (a + 1) ++ rest =
                    are ∙ rw alive (sym (ap (λ (ls : List KeyedLine). ls ++ rest) (before-push a was) ∙ append_assoc done (keyed (key a) (text a) ∷ []) rest)) in
                    let longer : undoing.least ≤ length (lines_in key text before 0 (a + 1)) =
                    omega (arith, least, ap (length {A = KeyedLine}) (before-push a was), length-append done (keyed (key a) (text a) ∷ [])) in
                    rw lives (adds-go (a + 1) n undoing next now wider order longer)
                | inr gone ↦
                    let was : before a ≡ false = one ∙ gone in
                    let now : undoing.lines ≡ lines_in key text before 0 (a + 1) ++ rest = are ∙ rw gone (ap (λ (ls : List KeyedLine). ls ++ rest) (sym (before-skip a was))) in
                    let longer : undoing.least ≤ length (lines_in key text before 0 (a + 1)) = omega (arith, least, ap (length {A = KeyedLine}) (before-skip a was)) in
                    rw lives (adds-go (a + 1) n undoing next now wider order longer)
              ]
          | inl dying ↦
              let were = dead a below dying in
              let at = places a below dying in
              let undo : UndoLine = record { part = Adds; place = place a; line = keyed (key a) (text a) } in
              let now : undoing.lines ≡ done ++ rest = are ∙ rw were.1 refl in
              let front : take (place a) undoing.lines ≡ done = ap (take (place a)) now ∙ ap (λ (m : ℕ). take m (done ++ rest)) at.0 ∙ take-append_seam done rest in
              let back : drop (place a) undoing.lines ≡ rest = ap (drop (place a)) now ∙ ap (λ (m : ℕ). drop m (done ++ rest)) at.0 ∙ drop-append_seam done rest in
              let added : take (place a) undoing.lines ++ undo.line ∷ drop (place a) undoing.lines ≡ lines_in key text before 0 (a + 1) ++ rest =
              ap (λ (ls : List KeyedLine). ls ++ undo.line ∷ drop (place a) undoing.lines) front
              ∙ ap (λ (ls : List KeyedLine). done ++ undo.line ∷ ls) back
              ∙ sym (ap (λ (ls : List KeyedLine). ls ++ rest) (before-push a were.0) ∙ append_assoc done (undo.line ∷ []) rest) in
              let done_free : has_key done (key a) ≡ false = has_key-outside key size one_to_one text before 0 a a (omega (arith, small)) small (λ k low high is. omega (arith, high, is)) in
              let rest_free : has_key rest (key a) ≡ false =
              has_key-outside key size one_to_one text after (a + 1) n a (omega (arith, next, within)) small (λ k low high is. omega (arith, low, is)) in
              let taken : IsTaken delimiter undoing undo = record {
                is = record { place = at.1; keyed = rows a below Inserts refl };
                order = order;
                free = told-free (IsAddedBelow a) undoing.told a small told (λ is. not_told below were.1 is);
                held = ap (λ (ls : List KeyedLine). has_key ls (key a)) now ∙ has_key-append done rest (key a) ∙ rw (done_free, rest_free) refl;
                placed = (omega (arith, least, at.0), omega (arith, at.0, ap (length {A = KeyedLine}) now, length-append done rest));
              } in
              let longer : place a + 1 ≤ length (lines_in key text before 0 (a + 1)) =
              omega (arith, at.0, ap (length {A = KeyedLine}) (before-push a were.0), length-append done (undo.line ∷ [])) in
              rw dying (goes-first undoing undo (undos_in Adds place key text dies (a + 1) n) (lines_in key text before 0 first) (IsAddedBelow first) 2 (length (lines_in key text before 0 first)) taken
              (adds-go (a + 1) n (behind undoing undo) next added (told-more (IsAddedBelow (a + 1)) undoing.told a (text a) small (inr (inr (omega arith))) wider) (omega arith) longer))
        ]
      where
        widen : (i : ℕ) → IsAddedBelow a i → IsAddedBelow (a + 1) i
        widen i (inl late) = inl late
        widen i (inr (inl alive)) = inr (inl alive)
        widen i (inr (inr early)) = inr (inr (omega (arith, early)))

        not_told : a < first → after a ≡ false → ¬ IsAddedBelow a a
        not_told below gone (inl late) = omega (arith, below, late)
        not_told below gone (inr (inl alive)) = true≢false (sym alive ∙ gone)
        not_told below gone (inr (inr early)) = omega (arith, early)

  -- ---- all of a unit

  pub unit-undone : (old new : ℕ → List ℕ) (before after dies changes : ℕ → Bool) (place : ℕ → ℕ) (first count : ℕ) → first + count ≤ size →
      ((j : ℕ) → j < size → IsKeyedLine One delimiter Deletes (keyed (key j) (key j))) →
      ((j : ℕ) → j < first → IsRow delimiter (keyed (key j) (old j))) →
      ((j : ℕ) → first ≤ j → j < first + count → after j ≡ true) →
      ((j : ℕ) → j < first → dies j ≡ true → (before j ≡ true) × (after j ≡ false)) →
      ((j : ℕ) → j < first → dies j ≡ false → before j ≡ after j) →
      ((j : ℕ) → j < first → changes j ≡ true → after j ≡ true) →
      ((j : ℕ) → j < first → after j ≡ true → changes j ≡ false → new j ≡ old j) →
      ((j : ℕ) → j < first → dies j ≡ true → (place j ≡ length (lines_in key old before 0 j)) × (place j < 10 ^ 13)) →
      IsUndoneBy delimiter (lines_in key new after 0 (first + count))
      (undos_text delimiter (undos_in Drops (λ j. 0) key key after first count ++ (undos_in Sets (λ j. 0) key old changes 0 first ++ undos_in Adds place key old dies 0 first)))
      (lines_in key old before 0 first)
  unit-undone old new before after dies changes place first count small keys_alone rows born dead same among still places =
      let table : List KeyedLine = lines_in key new after 0 (first + count) in
      let kept : List KeyedLine = lines_in key new after 0 first in
      let start : 0 + first ≡ first = omega arith in
      let few : first ≤ size = omega (arith, small) in
      let drops : List UndoLine = undos_in Drops (λ j. 0) key key after first count in
      let sets : List UndoLine = undos_in Sets (λ j. 0) key old changes 0 first in
      let adds : List UndoLine = undos_in Adds place key old dies 0 first in
      let begin : Undoing = begun table in
      let whole : table ≡ kept ++ lines_in key new after first count =
      sym (lines_in-append key new after 0 first count) ∙ ap (λ (a : ℕ). kept ++ lines_in key new after a count) start in
      let dropped : Goes begin drops kept (λ i. (first ≤ i) × (i < first + count)) 0 0 =
      drops-go kept new after first keys_alone (λ j from within. has_key-outside key size one_to_one new after 0 first j (omega (arith, few)) within (λ k low high is. omega (arith, from, high, is)))
      first count begin (omega arith) small born whole (All-nil (λ (line : KeyedLine). (i : ℕ) × (i < size) × ((first ≤ i) × (i < first)) × (line.key ≡ key i))) (omega arith) (omega arith) in
      let without_drops : Undoing = behind_all begin drops in
      let replaced : Goes without_drops sets (lines_in key old after 0 first) (λ i. (first ≤ i) ⊎ ((i < first) × (after i ≡ true))) 1 0 =
      sets-go new old after changes first few rows among still 0 first without_drops start dropped.are
      (told-wider (λ i. (first ≤ i) × (i < first + count)) (λ i. (first ≤ i) ⊎ ((i < 0) × (after i ≡ true))) without_drops.told (λ i is. inl is.0) dropped.told) (omega (arith, dropped.order)) dropped.place in
      let with_sets : Undoing = behind_all without_drops sets in
      let added : Goes with_sets adds (lines_in key old before 0 first) (λ i. (first ≤ i) ⊎ ((after i ≡ true) ⊎ (i < first))) 2 (length (lines_in key old before 0 first)) =
      adds-go old before after dies place first few rows dead same places 0 first with_sets start replaced.are
      (told-wider (λ i. (first ≤ i) ⊎ ((i < first) × (after i ≡ true))) (λ i. (first ≤ i) ⊎ ((after i ≡ true) ⊎ (i < 0))) with_sets.told (λ i is. later i is) replaced.told) (omega (arith, replaced.order)) replaced.place in
      record {
        undos = drops ++ (sets ++ adds);
        text = refl;
        taken = taken-append delimiter begin drops (sets ++ adds) dropped.taken (taken-append delimiter without_drops sets adds replaced.taken added.taken);
        made = sym added.are ∙ sym (ap (λ (u : Undoing). u.lines) (behind_all-append begin drops (sets ++ adds) ∙ behind_all-append without_drops sets adds));
      }
    where
      later : (i : ℕ) → (first ≤ i) ⊎ ((i < first) × (after i ≡ true)) → (first ≤ i) ⊎ ((after i ≡ true) ⊎ (i < 0))
      later i (inl late) = inl late
      later i (inr early) = inr (inl early.1)

-- lines of numbers are those of a table's text
pub lines_in-loaded : (delimiter : ℕ) (key : ℕ → List ℕ) (size : ℕ) → AreKeys key size → (text : ℕ → List ℕ) (p : ℕ → Bool) (n : ℕ) (bytes : List ℕ) → n ≤ size →
    ((j : ℕ) → j < n → IsRow delimiter (keyed (key j) (text j))) → bytes ≡ lines_text (lines_in key text p 0 n) → IsLoaded bytes One delimiter (table_with delimiter (lines_in key text p 0 n))
lines_in-loaded delimiter key size one_to_one text p n bytes within rows is =
    record {
      known_by = refl;
      delimits = refl;
      read = record {
        text = is;
        keyed = lines_in-all (IsKeyedLine One delimiter Snapshot) key text p 0 n (λ j low high passes. rows j (omega (arith, high)) Snapshot refl);
        apart = lines_in-apart key size one_to_one text p 0 n (omega (arith, within));
        held = λ i d below. refl;
      };
    }
