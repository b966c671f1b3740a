-- Lines that are dropped, and lines that are woven into others.
use Rattle.std.proofs.Common.{◌≡◌, ℕ, ◌+◌, ◌<◌, All, Bool, true, false, ◌||◌, List, [], ◌∷◌, ◌++◌, drop, get_or, length, map, take, refl, ap, sym, subst, ◌∙◌, arith, append_assoc, length-append, true≢false, inl, inr, Option, IfSome, slice_get, length-drop, Result, Ok, Err, IfErr, OnOk}
use Rattle.std.specs.List.{IsDistinct}
use Rattle.std.specs.Result.{IsErrAnd}
use Rattle.std.specs.Str.{bytes_eq}
use Rattle.std.proofs.Math.Seq.{drop-append_seam, take-append_seam}
use Rattle.std.proofs.lemmas.Bool.{cases_Bool, or_parts, or_left, or_right, false≢true}
use Rattle.std.proofs.lemmas.List.{append-nil, drop_more, get_or-drop, get_or-map, length-map, nil_from_length, take-append-drop, take_more}
use Rattle.std.proofs.lemmas.List.Elements.{All-cons, All-head, All-nil, All-push, All-tail}
use Rattle.std.proofs.lemmas.List.Folds.{list_any-append}
use Rattle.std.proofs.lemmas.Map.Keys.{apart_from_distinct}
use Rattle.std.proofs.lemmas.Option.{slice_get-get_or}
use Rattle.std.proofs.lemmas.Slice.Eq.{bytes_eq-Decides}
use Rattle.stream_apply.specs.KeyedLines.{KeyedLine, has_key, keyed, put}
use Rattle.stream_apply.specs.Streams.{without}
use Rattle.stream_apply.proofs.KeyedLineLemmas.{bytes_eq-apart, bytes_eq-same}
use Rattle.stream_apply.proofs.StreamLemmas.{put-absent}
use Rattle.stream_apply.proofs.TableLemmas.{none_dropped}
use Rattle.undo_streams.specs.Reverting.{Undoing, behind, least_behind, undone_by}
use Rattle.undo_streams.specs.Weaving.{IsWoven, lines_now, undoing_of}
use Rattle.undo_streams.specs.declared.part.Part.{Part}
use Rattle.undo_streams.specs.declared.part.Part.TheVariants.{Adds, Drops, Sets}
use Rattle.undo_streams.specs.declared.weaver.Weaver.{Weaver}

-- ---- keys

same-key : (xs ys : List ℕ) → bytes_eq xs ys ≡ true → xs ≡ ys
same-key xs ys is = (bytes_eq-Decides xs ys).0 is

pub has_key-append : (lines others : List KeyedLine) (key : List ℕ) → has_key (lines ++ others) key ≡ (has_key lines key || has_key others key)
has_key-append lines others key = list_any-append (λ (line : KeyedLine). bytes_eq key line.key) lines others

-- a key that some lines lack is that of none of them
pub lacked : (lines : List KeyedLine) (key : List ℕ) → has_key lines key ≡ false → All (λ (line : KeyedLine). bytes_eq line.key key ≡ false) lines
lacked [] key none = All-nil (λ (line : KeyedLine). bytes_eq line.key key ≡ false)
lacked (line ∷ lines) key none =
    let parts = or_parts (bytes_eq key line.key) (has_key lines key) none in
    All-cons (λ (l : KeyedLine). bytes_eq l.key key ≡ false) line lines
    (bytes_eq-apart line.key key (λ same. true≢false (sym (ap (λ (k : List ℕ). bytes_eq key k) same ∙ bytes_eq-same key) ∙ parts.0)))
    (lacked lines key parts.1)

-- a key that some lines have, each of which others have, is one of theirs
pub has_key-among : (lines others : List KeyedLine) (key : List ℕ) → All (λ (line : KeyedLine). has_key others line.key ≡ true) lines → has_key lines key ≡ true → has_key others key ≡ true
has_key-among [] others key all has = absurd (false≢true has)
has_key-among (line ∷ lines) others key all has = elim (cases_Bool (bytes_eq key line.key)) [
  | inl same ↦ ap (has_key others) (same-key key line.key same) ∙ All-head (λ (l : KeyedLine). has_key others l.key ≡ true) line lines all
  | inr other ↦ has_key-among lines others key (All-tail (λ (l : KeyedLine). has_key others l.key ≡ true) line lines all) (sym (ap (λ (b : Bool). b || has_key lines key) other) ∙ has)
]

-- ---- lines that are dropped

-- one more
pub without-push : (table told : List KeyedLine) (line : KeyedLine) → without table (told ++ line ∷ []) ≡ without (without table told) (line ∷ [])
without-push [] told line = refl
without-push (first ∷ table) told line =
    let rest = without-push table told line in
    let both : has_key (told ++ line ∷ []) first.key ≡ (has_key told first.key || has_key (line ∷ []) first.key) = has_key-append told (line ∷ []) first.key in
    elim (cases_Bool (has_key told first.key)) [
      | inl gone ↦
          let out : has_key (told ++ line ∷ []) first.key ≡ true = both ∙ or_left (has_key told first.key) (has_key (line ∷ []) first.key) gone in
          rw (out, gone) rest
      | inr stays ↦
          let same : has_key (told ++ line ∷ []) first.key ≡ has_key (line ∷ []) first.key = both ∙ ap (λ (b : Bool). b || has_key (line ∷ []) first.key) stays in
          elim (cases_Bool (has_key (line ∷ []) first.key)) [
            | inl dropped ↦ let out : has_key (told ++ line ∷ []) first.key ≡ true = same ∙ dropped in rw (out, stays, dropped) rest
            | inr kept ↦ let in_list : has_key (told ++ line ∷ []) first.key ≡ false = same ∙ kept in rw (in_list, stays, kept) (ap (λ (lines : List KeyedLine). first ∷ lines) rest)
          ]
    ]

-- a key that none of the dropped has
pub has_key-without : (table told : List KeyedLine) (key : List ℕ) → has_key told key ≡ false → has_key (without table told) key ≡ has_key table key
has_key-without [] told key free = refl
has_key-without (first ∷ table) told key free =
    let rest = has_key-without table told key free in
    elim (cases_Bool (has_key told first.key)) [
      | inl gone ↦
          let other : bytes_eq key first.key ≡ false = bytes_eq-apart key first.key (λ same. true≢false (sym gone ∙ ap (has_key told) (sym same) ∙ free)) in
          rw (gone, other) rest
      | inr stays ↦ rw stays (ap (λ (b : Bool). bytes_eq key first.key || b) rest)
    ]

pub without-none : (table : List KeyedLine) → without table [] ≡ table
without-none table = sym (none_dropped [] table refl)

-- ---- lines that are woven

abbrev no_line : KeyedLine
no_line = keyed [] []

module _ (table woven : List KeyedLine) (next : ℕ) where
  -- of a table, the first lines are among those that are woven, and the others aren't
  abbrev pub AreMoved : Type 0
  AreMoved = All (λ (line : KeyedLine). has_key woven line.key ≡ true) (take next table)

  abbrev pub AreLeft : Type 0
  AreLeft = All (λ (line : KeyedLine). has_key woven line.key ≡ false) (drop next table)

-- a line more that is woven
pub moved-push : (table woven : List KeyedLine) (next : ℕ) (line : KeyedLine) → AreMoved table woven next → AreMoved table (woven ++ line ∷ []) next
moved-push table woven next line moved i d below =
    has_key-append woven (line ∷ []) (get_or (take next table) i d).key
    ∙ or_left (has_key woven (get_or (take next table) i d).key) (has_key (line ∷ []) (get_or (take next table) i d).key) (moved i d below)

left-push : (lines woven : List KeyedLine) (line : KeyedLine) → All (λ (l : KeyedLine). has_key woven l.key ≡ false) lines → All (λ (l : KeyedLine). bytes_eq l.key line.key ≡ false) lines →
    All (λ (l : KeyedLine). has_key (woven ++ line ∷ []) l.key ≡ false) lines
left-push lines woven line left apart i d below =
    has_key-append woven (line ∷ []) (get_or lines i d).key
    ∙ ap (λ (b : Bool). b || (bytes_eq (get_or lines i d).key line.key || false)) (left i d below)
    ∙ ap (λ (b : Bool). b || false) (apart i d below)

-- a line that is added, which the rest of the table lacks
pub left-added : (table woven : List KeyedLine) (next : ℕ) (line : KeyedLine) → AreLeft table woven next → has_key (drop next table) line.key ≡ false → AreLeft table (woven ++ line ∷ []) next
left-added table woven next line left free = left-push (drop next table) woven line left (lacked (drop next table) line.key free)

-- the next line of a table of keys apart
pub left-next : (table woven : List KeyedLine) (next : ℕ) → next < length table → IsDistinct bytes_eq (map (λ (line : KeyedLine). line.key) table) → AreLeft table woven next →
    AreLeft table (woven ++ get_or table next no_line ∷ []) (next + 1)
left-next table woven next below apart left =
    left-push (drop (next + 1) table) woven (get_or table next no_line)
    (All-tail (λ (l : KeyedLine). has_key woven l.key ≡ false) (get_or table next no_line) (drop (next + 1) table)
    (subst (λ (ls : List KeyedLine). All (λ (l : KeyedLine). has_key woven l.key ≡ false) ls) (drop_more table next no_line below) left))
    (λ i d inside. differ i d inside)
  where
    key_of : KeyedLine → List ℕ
    key_of line = line.key

    differ : (i : ℕ) (d : KeyedLine) → i < length (drop (next + 1) table) → bytes_eq (get_or (drop (next + 1) table) i d).key (get_or table next no_line).key ≡ false
    differ i d inside =
        let line : KeyedLine = get_or table next no_line in
        let later : KeyedLine = get_or (drop (next + 1) table) i d in
        let place : ℕ = (next + 1) + i in
        let within : place < length table = omega (arith, inside, length-drop (next + 1) table) in
        let keys : List (List ℕ) = map key_of table in
        let at_line : get_or keys next [] ≡ line.key = get_or-map key_of table next no_line [] below in
        let at_later : get_or keys place [] ≡ later.key = get_or-map key_of table place d [] within ∙ ap key_of (sym (get_or-drop (next + 1) table i d)) in
        let other : bytes_eq (get_or keys next []) (get_or keys place []) ≡ false =
        apart_from_distinct bytes_eq keys next place [] apart (omega arith) (omega (arith, within, length-map table key_of)) in
        bytes_eq-apart later.key line.key (λ same. true≢false (sym (bytes_eq-same line.key) ∙ ap (bytes_eq line.key) (sym same) ∙ ap (λ (k : List ℕ). bytes_eq k later.key) (sym at_line) ∙ ap (bytes_eq (get_or keys next [])) (sym at_later) ∙ other))

pub moved-next : (table woven : List KeyedLine) (next : ℕ) → next < length table → AreMoved table woven next → AreMoved table (woven ++ get_or table next no_line ∷ []) (next + 1)
moved-next table woven next below moved =
    let line : KeyedLine = get_or table next no_line in
    let P : KeyedLine → Type 0 = λ (l : KeyedLine). has_key (woven ++ line ∷ []) l.key ≡ true in
    subst (All P) (sym (take_more table next no_line below))
    (All-push P (take next table) line (moved-push table woven next line moved)
    (has_key-append woven (line ∷ []) line.key ∙ or_right (has_key woven line.key) (has_key (line ∷ []) line.key) (ap (λ (b : Bool). b || false) (bytes_eq-same line.key))))

-- the list is the same
pub lines-next : (table woven : List KeyedLine) (next : ℕ) → next < length table → (woven ++ get_or table next no_line ∷ []) ++ drop (next + 1) table ≡ woven ++ drop next table
lines-next table woven next below =
    append_assoc woven (get_or table next no_line ∷ []) (drop (next + 1) table) ∙ ap (λ (ls : List KeyedLine). woven ++ ls) (sym (drop_more table next no_line below))

-- the next line isn't woven yet
pub next-free : (table woven : List KeyedLine) (next : ℕ) → next < length table → AreLeft table woven next → has_key woven (get_or table next no_line).key ≡ false
next-free table woven next below left =
    All-head (λ (l : KeyedLine). has_key woven l.key ≡ false) (get_or table next no_line) (drop (next + 1) table)
    (subst (λ (ls : List KeyedLine). All (λ (l : KeyedLine). has_key woven l.key ≡ false) ls) (drop_more table next no_line below) left)

-- what is read of the line at a place
pub line_at : (lines : List KeyedLine) (i : ℕ) (key text : List ℕ) → i < length lines → IfSome (slice_get lines i) (λ line. line.key ≡ key) → IfSome (slice_get lines i) (λ line. line.text ≡ text) →
    get_or lines i no_line ≡ keyed key text
line_at lines i key text below key_is text_is =
    let line : KeyedLine = get_or lines i no_line in
    let key_same : line.key ≡ key = subst (λ (o : Option KeyedLine). IfSome o (λ l. l.key ≡ key)) (slice_get-get_or lines i no_line below) key_is in
    let text_same : line.text ≡ text = subst (λ (o : Option KeyedLine). IfSome o (λ l. l.text ≡ text)) (slice_get-get_or lines i no_line below) text_is in
    ap (λ (k : List ℕ). keyed k line.text) key_same ∙ ap (keyed key) text_same

-- ---- a table while it is undone

-- two of the same parts are one
pub undoing-same : (one other : Undoing) → one.lines ≡ other.lines → one.told ≡ other.told → one.part ≡ other.part → one.least ≡ other.least → one ≡ other
undoing-same one other lines told part least =
    ap (λ (ls : List KeyedLine). record { lines = ls; told = one.told; part = one.part; least = one.least }) lines
    ∙ ap (λ (ls : List KeyedLine). record { lines = other.lines; told = ls; part = one.part; least = one.least }) told
    ∙ ap (λ (p : Part). record { lines = other.lines; told = other.told; part = p; least = one.least }) part
    ∙ ap (λ (n : ℕ). record { lines = other.lines; told = other.told; part = other.part; least = n }) least

-- the lines where some are added
pub lines-adds : (w : Weaver) → w.part ≡ Adds → (undoing_of w).lines ≡ w.woven ++ drop w.next w.table
lines-adds w adds = ap (λ (p : Part). lines_now p w.table w.told w.woven w.next) adds

-- a key that they lack
free-parts : (w : Weaver) (key : List ℕ) → w.part ≡ Adds → has_key (undoing_of w).lines key ≡ false → (has_key w.woven key ≡ false) × (has_key (drop w.next w.table) key ≡ false)
free-parts w key adds free =
    or_parts (has_key w.woven key) (has_key (drop w.next w.table) key)
    (sym (has_key-append w.woven (drop w.next w.table) key) ∙ ap (λ (ls : List KeyedLine). has_key ls key) (sym (lines-adds w adds)) ∙ free)

no_adds : (part : Part) → part ≡ Adds → (part ≡ Adds → ⊥) → ⊥
no_adds part adds other = other adds

-- the next line of the table is woven
pub woven-next : (w : Weaver) (woven : List KeyedLine) (key text : List ℕ) → IsWoven w → w.part ≡ Adds → w.next < length w.table → IsDistinct bytes_eq (map (λ (line : KeyedLine). line.key) w.table) →
    get_or w.table w.next no_line ≡ keyed key text → woven ≡ put w.woven (keyed key text) →
    IsWoven (record w { woven = woven; next = w.next + 1 })
woven-next w woven key text sound adds below apart line put_is =
    let first : KeyedLine = get_or w.table w.next no_line in
    let is : woven ≡ w.woven ++ first ∷ [] =
    put_is ∙ ap (put w.woven) (sym line) ∙ put-absent w.woven first (next-free w.table w.woven w.next below sound.left) in
    record {
      early = λ other. absurd (other adds);
      within = omega arith;
      moved = subst (λ (ls : List KeyedLine). AreMoved w.table ls (w.next + 1)) (sym is) (moved-next w.table w.woven w.next below sound.moved);
      left = subst (λ (ls : List KeyedLine). AreLeft w.table ls (w.next + 1)) (sym is) (left-next w.table w.woven w.next below apart sound.left);
    }

pub undoing-next : (w : Weaver) (woven : List KeyedLine) (key text : List ℕ) → IsWoven w → w.part ≡ Adds → w.next < length w.table →
    get_or w.table w.next no_line ≡ keyed key text → woven ≡ put w.woven (keyed key text) →
    undoing_of (record w { woven = woven; next = w.next + 1 }) ≡ record (undoing_of w) { least = length w.woven + 1 }
undoing-next w woven key text sound adds below line put_is =
    let first : KeyedLine = get_or w.table w.next no_line in
    let is : woven ≡ w.woven ++ first ∷ [] =
    put_is ∙ ap (put w.woven) (sym line) ∙ put-absent w.woven first (next-free w.table w.woven w.next below sound.left) in
    undoing-same (undoing_of (record w { woven = woven; next = w.next + 1 })) (record (undoing_of w) { least = length w.woven + 1 })
    (lines-adds (record w { woven = woven; next = w.next + 1 }) adds
    ∙ ap (λ (ls : List KeyedLine). ls ++ drop (w.next + 1) w.table) is
    ∙ lines-next w.table w.woven w.next below
    ∙ sym (lines-adds w adds)) refl refl
    (omega (arith, ap length is, length-append w.woven (first ∷ [])))

-- a line is added
pub woven-added : (w : Weaver) (woven told : List KeyedLine) (line : KeyedLine) → IsWoven w → w.part ≡ Adds → has_key (undoing_of w).lines line.key ≡ false → woven ≡ put w.woven line →
    IsWoven (record w { woven = woven; told = told })
woven-added w woven told line sound adds free put_is =
    let parts = free-parts w line.key adds free in
    let is : woven ≡ w.woven ++ line ∷ [] = put_is ∙ put-absent w.woven line parts.0 in
    record {
      early = λ other. absurd (other adds);
      within = sound.within;
      moved = subst (λ (ls : List KeyedLine). AreMoved w.table ls w.next) (sym is) (moved-push w.table w.woven w.next line sound.moved);
      left = subst (λ (ls : List KeyedLine). AreLeft w.table ls w.next) (sym is) (left-added w.table w.woven w.next line sound.left parts.1);
    }

pub undoing-added : (old w : Weaver) (woven told : List KeyedLine) (line : KeyedLine) (place : ℕ) → old.part ≡ Adds → has_key (undoing_of old).lines line.key ≡ false →
    undoing_of w ≡ record (undoing_of old) { least = place } → woven ≡ put w.woven line → told ≡ w.told ++ line ∷ [] →
    undoing_of (record w { woven = woven; told = told })
    ≡ record (undoing_of old) {
      lines = take place (undoing_of old).lines ++ line ∷ drop place (undoing_of old).lines;
      told = old.told ++ line ∷ [];
      least = place + 1;
    }
undoing-added old w woven told line place adds free same put_is told_is =
    let adds_now : w.part ≡ Adds = ap (λ (u : Undoing). u.part) same ∙ adds in
    let lines_same : (undoing_of w).lines ≡ (undoing_of old).lines = ap (λ (u : Undoing). u.lines) same in
    let free_now : has_key (undoing_of w).lines line.key ≡ false = ap (λ (ls : List KeyedLine). has_key ls line.key) lines_same ∙ free in
    let parts = free-parts w line.key adds_now free_now in
    let rest : List KeyedLine = drop w.next w.table in
    let is : woven ≡ w.woven ++ line ∷ [] = put_is ∙ put-absent w.woven line parts.0 in
    let long : length w.woven ≡ place = ap (λ (u : Undoing). u.least) same in
    let whole : w.woven ++ rest ≡ (undoing_of old).lines = sym (lines-adds w adds_now) ∙ lines_same in
    let front : w.woven ≡ take place (undoing_of old).lines =
    sym (take-append_seam w.woven rest) ∙ ap (λ (n : ℕ). take n (w.woven ++ rest)) long ∙ ap (take place) whole in
    let back : rest ≡ drop place (undoing_of old).lines =
    sym (drop-append_seam w.woven rest) ∙ ap (λ (n : ℕ). drop n (w.woven ++ rest)) long ∙ ap (drop place) whole in
    undoing-same (undoing_of (record w { woven = woven; told = told })) (record (undoing_of old) {
      lines = take place (undoing_of old).lines ++ line ∷ drop place (undoing_of old).lines;
      told = old.told ++ line ∷ [];
      least = place + 1;
    })
    (lines-adds (record w { woven = woven; told = told }) adds_now
    ∙ ap (λ (ls : List KeyedLine). ls ++ rest) is
    ∙ append_assoc w.woven (line ∷ []) rest
    ∙ ap (λ (ls : List KeyedLine). ls ++ line ∷ rest) front
    ∙ ap (λ (ls : List KeyedLine). take place (undoing_of old).lines ++ line ∷ ls) back)
    (told_is ∙ ap (λ (ls : List KeyedLine). ls ++ line ∷ []) (ap (λ (u : Undoing). u.told) same))
    (adds_now ∙ sym adds)
    (omega (arith, long, ap length is, length-append w.woven (line ∷ [])))

-- all of the table's lines are woven
pub woven-all : (old w : Weaver) (count : ℕ) → old.part ≡ Adds → old.next + count ≡ length old.table → undoing_of w ≡ record (undoing_of old) { least = length old.woven + count } →
    w.woven ≡ old.woven ++ drop old.next old.table
woven-all old w count adds all same =
    let adds_now : w.part ≡ Adds = ap (λ (u : Undoing). u.part) same ∙ adds in
    let rest : List KeyedLine = drop w.next w.table in
    let whole : w.woven ++ rest ≡ old.woven ++ drop old.next old.table =
    sym (lines-adds w adds_now) ∙ ap (λ (u : Undoing). u.lines) same ∙ lines-adds old adds in
    let long : length w.woven ≡ length old.woven + count = ap (λ (u : Undoing). u.least) same in
    let none : length rest ≡ 0 =
    omega (arith, long, ap length whole, length-append w.woven rest, length-append old.woven (drop old.next old.table), length-drop old.next old.table, all) in
    sym (append-nil w.woven) ∙ ap (λ (ls : List KeyedLine). w.woven ++ ls) (sym (nil_from_length rest none)) ∙ whole

-- ---- keys that are held

pub holds-key : (w : Weaver) (key : List ℕ) → IsWoven w → has_key w.told key ≡ false → (has_key w.table key || has_key w.woven key) ≡ has_key (undoing_of w).lines key
holds-key w key sound free = by w.part refl
  where
    none : (w.part ≡ Adds → ⊥) → (has_key w.table key || has_key w.woven key) ≡ has_key w.table key
    none other =
        ap (λ (ls : List KeyedLine). has_key w.table key || has_key ls key) (sound.early other).0
        ∙ or_nothing (has_key w.table key)
      where
        or_nothing : (b : Bool) → (b || false) ≡ b
        or_nothing true = refl
        or_nothing false = refl

    added : (has_key w.table key || has_key w.woven key) ≡ (has_key w.woven key || has_key (drop w.next w.table) key)
    added =
        let whole : has_key w.table key ≡ (has_key (take w.next w.table) key || has_key (drop w.next w.table) key) =
        ap (λ (ls : List KeyedLine). has_key ls key) (sym (take-append-drop w.next w.table)) ∙ has_key-append (take w.next w.table) (drop w.next w.table) key in
        ap (λ (b : Bool). b || has_key w.woven key) whole
        ∙ elim (cases_Bool (has_key (take w.next w.table) key)) [
          | inl among ↦ rw (among, has_key-among (take w.next w.table) w.woven key sound.moved among) refl
          | inr other ↦ rw other (swap (has_key (drop w.next w.table) key) (has_key w.woven key))
        ]
      where
        swap : (a b : Bool) → (a || b) ≡ (b || a)
        swap true true = refl
        swap true false = refl
        swap false true = refl
        swap false false = refl

    by : (part : Part) → w.part ≡ part → (has_key w.table key || has_key w.woven key) ≡ has_key (undoing_of w).lines key
    by Drops is =
        none (λ adds. let no : Drops ≡ Adds = sym is ∙ adds in cc)
        ∙ sym (has_key-without w.table w.told key free)
        ∙ ap (λ (p : Part). has_key (lines_now p w.table w.told w.woven w.next) key) (sym is)
    by Sets is =
        none (λ adds. let no : Sets ≡ Adds = sym is ∙ adds in cc)
        ∙ ap (λ (p : Part). has_key (lines_now p w.table w.told w.woven w.next) key) (sym is)
    by Adds is =
        added
        ∙ sym (has_key-append w.woven (drop w.next w.table) key)
        ∙ ap (λ (p : Part). has_key (lines_now p w.table w.told w.woven w.next) key) (sym is)

-- a line is dropped
pub undoing-dropped : (w : Weaver) (line : KeyedLine) (place : ℕ) (part : Part) → w.part ≡ part → part ≡ Drops → IsWoven w →
    undoing_of (record w { told = w.told ++ line ∷ [] }) ≡ behind (undoing_of w) (record { part = part; place = place; line = line })
undoing-dropped w line place part same drops sound =
    let here : w.part ≡ Drops = same ∙ drops in
    let woven : w.woven ≡ [] = (sound.early (λ adds. let no : Drops ≡ Adds = sym here ∙ adds in cc)).0 in
    undoing-same (undoing_of (record w { told = w.told ++ line ∷ [] })) (behind (undoing_of w) (record { part = part; place = place; line = line }))
    (ap (λ (p : Part). lines_now p w.table (w.told ++ line ∷ []) w.woven w.next) here
    ∙ without-push w.table w.told line
    ∙ ap (λ (p : Part). without (lines_now p w.table w.told w.woven w.next) (line ∷ [])) (sym here)
    ∙ ap (λ (p : Part). undone_by p place line (undoing_of w).lines) (sym drops))
    refl same
    (ap (length {A = KeyedLine}) woven ∙ ap (λ (p : Part). least_behind p place) (sym drops))

-- a fact on Ok that follows from another
pub on_ok : {T E : Type 0} (r : Result T E) (P Q : Type 0) → OnOk r P → (P → Q) → OnOk r Q
on_ok (Ok x) P Q holds gives = gives holds
on_ok (Err e) P Q holds gives = tt

-- a fact of the error of a result
pub if_err : {T E : Type 0} (r : Result T E) (x : E) (P : E → Type 0) → IsErrAnd r (λ y. y ≡ x) → P x → IfErr r P
if_err (Ok v) x P is holds = tt
if_err (Err y) x P is holds = subst P (sym is) holds
