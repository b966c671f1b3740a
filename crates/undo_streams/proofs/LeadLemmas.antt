-- What a line of an undo text begins with.
use Rattle.std.proofs.Common.{◌≡◌, ◌≢◌, ℕ, ◌<◌, ◌^◌, List, [], ◌∷◌, ◌++◌, decimal, get_or, refl, ap, sym, ◌∙◌, subst, arith, append_assoc, inl, inr, ◌⊎◌}
use Rattle.std.specs.List.{Contains}
use Rattle.std.proofs.lemmas.Fmt.{decimal_injective}
use Rattle.std.proofs.lemmas.List.{append_cancel_left}
use Rattle.std.proofs.lemmas.List.Elements.{Contains-append_cases, Contains-append_right, Contains-get_or}
use Rattle.row_text.specs.Fields.{IsDelimiter}
use Rattle.stream_apply.specs.KeyedLines.{keyed}
use Rattle.stream_apply.specs.Streams.{IsKeyedLine}
use Rattle.stream_apply.specs.declared.key_fields.KeyFields.TheVariants.{One}
use Rattle.stream_apply.proofs.LineLemmas.{first-cut, keyed-line_feed}
use Rattle.undo_streams.specs.ReadLines.{IsLead, LeadsNone}
use Rattle.undo_streams.specs.Reverting.{IsPlaceOf, IsUndoLine, StartsNone, UndoLine, kind_of, place_text, rank_of, undo_line_text, word_of}
use Rattle.undo_streams.specs.declared.part.Part.{Part}
use Rattle.undo_streams.specs.declared.part.Part.TheVariants.{Adds, Drops, Sets}
use Rattle.undo_streams.specs.declared.undo_lines.Lead.{Lead}
use Rattle.undo_streams.proofs.DigitLemmas.{decimal-lacks}

-- bytes with no such byte don't hold a text and that byte after it
lacks-no_cut : (byte : ℕ) (bytes text rest : List ℕ) → ¬ Contains bytes byte → bytes ≡ text ++ byte ∷ rest → ⊥
lacks-no_cut byte bytes text rest none is =
    none (subst (λ (xs : List ℕ). Contains xs byte) (sym is) (Contains-append_right text (byte ∷ rest) byte (Contains-get_or (byte ∷ rest) 0 byte (omega arith))))

-- a word holds neither a delimiter nor a line feed
low : (delimiter : ℕ) → IsDelimiter delimiter → (delimiter ≡ 9) ⊎ (delimiter ≡ 124)
low delimiter delimits = delimits

word-lacks : (part : Part) (byte : ℕ) → (byte < 48) ⊎ (122 < byte) → ¬ Contains (word_of part) byte
word-lacks Drops byte (inl other) found = grind (arith, found)
word-lacks Drops byte (inr other) found = grind (arith, found)
word-lacks Sets byte (inl other) found = grind (arith, found)
word-lacks Sets byte (inr other) found = grind (arith, found)
word-lacks Adds byte (inl other) found = grind (arith, found)
word-lacks Adds byte (inr other) found = grind (arith, found)

outside : (delimiter : ℕ) → IsDelimiter delimiter → (delimiter < 48) ⊎ (122 < delimiter)
outside delimiter (inl tab) = inl (omega (arith, tab))
outside delimiter (inr bar) = inr (omega (arith, bar))

no_digit : (delimiter : ℕ) → IsDelimiter delimiter → (delimiter < 48) ⊎ (57 < delimiter)
no_digit delimiter (inl tab) = inl (omega (arith, tab))
no_digit delimiter (inr bar) = inr (omega (arith, bar))

no_line_feed : (delimiter : ℕ) → IsDelimiter delimiter → delimiter ≡ 10 → ⊥
no_line_feed delimiter (inl tab) same = omega (arith, tab, same)
no_line_feed delimiter (inr bar) same = omega (arith, bar, same)

-- no two words are one
word-one : (part other : Part) → word_of part ≡ word_of other → part ≡ other
word-one Drops Drops same = refl
word-one Drops Sets same = absurd (omega (arith, ap (λ (w : List ℕ). get_or w 0 0) same))
word-one Drops Adds same = absurd (omega (arith, ap (λ (w : List ℕ). get_or w 0 0) same))
word-one Sets Drops same = absurd (omega (arith, ap (λ (w : List ℕ). get_or w 0 0) same))
word-one Sets Sets same = refl
word-one Sets Adds same = absurd (omega (arith, ap (λ (w : List ℕ). get_or w 0 0) same))
word-one Adds Drops same = absurd (omega (arith, ap (λ (w : List ℕ). get_or w 0 0) same))
word-one Adds Sets same = absurd (omega (arith, ap (λ (w : List ℕ). get_or w 0 0) same))
word-one Adds Adds same = refl

module _ (delimiter : ℕ) (delimits : IsDelimiter delimiter) where
  -- what is after a word
  pub behind-word : (part other : Part) (rest behind : List ℕ) → word_of part ++ delimiter ∷ rest ≡ word_of other ++ delimiter ∷ behind → (part ≡ other) × (rest ≡ behind)
  behind-word part other rest behind same =
      let words : word_of part ≡ word_of other =
      first-cut delimiter (word_of part) (word_of other) rest behind (word-lacks part delimiter (outside delimiter delimits)) (word-lacks other delimiter (outside delimiter delimits)) same in
      let tails : delimiter ∷ rest ≡ delimiter ∷ behind =
      append_cancel_left (word_of other) (delimiter ∷ rest) (delimiter ∷ behind) (ap (λ (w : List ℕ). w ++ delimiter ∷ rest) (sym words) ∙ same) in
      let rests : rest ≡ behind = cc in
      (word-one part other words, rests)

  -- and after a place
  pub behind-digits : (place other : ℕ) (rest behind : List ℕ) → place < 10 ^ 13 → other < 10 ^ 13 → (decimal place ++ delimiter ∷ []) ++ rest ≡ (decimal other ++ delimiter ∷ []) ++ behind →
      (place ≡ other) × (rest ≡ behind)
  behind-digits place other rest behind small other_small same =
      let plain : decimal place ++ delimiter ∷ rest ≡ decimal other ++ delimiter ∷ behind =
      sym (append_assoc (decimal place) (delimiter ∷ []) rest) ∙ same ∙ append_assoc (decimal other) (delimiter ∷ []) behind in
      let digits : decimal place ≡ decimal other =
      first-cut delimiter (decimal place) (decimal other) rest behind (decimal-lacks place delimiter small (no_digit delimiter delimits)) (decimal-lacks other delimiter other_small (no_digit delimiter delimits)) plain in
      let tails : delimiter ∷ rest ≡ delimiter ∷ behind =
      append_cancel_left (decimal other) (delimiter ∷ rest) (delimiter ∷ behind) (ap (λ (w : List ℕ). w ++ delimiter ∷ rest) (sym digits) ∙ plain) in
      let rests : rest ≡ behind = cc in
      (decimal_injective place other (omega arith) (omega arith) digits, rests)

  places : (part : Part) (place other : ℕ) (body behind : List ℕ) → IsPlaceOf part place → IsPlaceOf part other → place_text delimiter part place ++ body ≡ place_text delimiter part other ++ behind →
      (place ≡ other) × (body ≡ behind)
  places Drops place other body behind is other_is same = (is ∙ sym other_is, same)
  places Sets place other body behind is other_is same = (is ∙ sym other_is, same)
  places Adds place other body behind is other_is same = behind-digits place other body behind is other_is same

  -- what a line begins with is told by its text
  pub one-lead : (part other : Part) (place other_place : ℕ) (body behind : List ℕ) → IsPlaceOf part place → IsPlaceOf other other_place →
      word_of part ++ delimiter ∷ (place_text delimiter part place ++ body) ≡ word_of other ++ delimiter ∷ (place_text delimiter other other_place ++ behind) →
      (part ≡ other) × (place ≡ other_place) × (body ≡ behind)
  one-lead part other place other_place body behind is other_is same =
      let words = behind-word part other (place_text delimiter part place ++ body) (place_text delimiter other other_place ++ behind) same in
      let parts : part ≡ other = words.0 in
      let moved : IsPlaceOf other place = subst (λ (p : Part). IsPlaceOf p place) parts is in
      let rests : place_text delimiter other place ++ body ≡ place_text delimiter other other_place ++ behind =
      ap (λ (p : Part). place_text delimiter p place ++ body) (sym parts) ∙ words.1 in
      let found = places other place other_place body behind moved other_is rests in
      (parts, found.0, found.1)

  -- a line holds no line feed
  place-line_feed : (part : Part) (place : ℕ) → IsPlaceOf part place → ¬ Contains (place_text delimiter part place) 10
  place-line_feed Drops place is found = omega (arith, found.1)
  place-line_feed Sets place is found = omega (arith, found.1)
  place-line_feed Adds place is found = elim (Contains-append_cases (decimal place) (delimiter ∷ []) 10 found) [
    | inl within ↦ decimal-lacks place 10 is (inl (omega arith)) within
    | inr last ↦ no_line_feed delimiter delimits (alone last)
  ]
    where
      alone : Contains (delimiter ∷ []) 10 → delimiter ≡ 10
      alone found = grind (arith, found)

  pub undo-line_feed : (undo : UndoLine) → IsUndoLine delimiter undo → ¬ Contains (undo_line_text delimiter undo) 10
  undo-line_feed undo is found = elim (Contains-append_cases (word_of undo.part) (delimiter ∷ (place_text delimiter undo.part undo.place ++ undo.line.text)) 10 found) [
    | inl word ↦ word-lacks undo.part 10 (inl (omega arith)) word
    | inr behind ↦ elim (Contains-append_cases (delimiter ∷ []) (place_text delimiter undo.part undo.place ++ undo.line.text) 10 behind) [
      | inl between ↦ no_line_feed delimiter delimits (alone between)
      | inr later ↦ elim (Contains-append_cases (place_text delimiter undo.part undo.place) undo.line.text 10 later) [
        | inl place ↦ place-line_feed undo.part undo.place is.place place
        | inr line ↦ keyed-line_feed One delimiter delimits (kind_of undo.part) undo.line is.keyed line
      ]
    ]
  ]
    where
      alone : Contains (delimiter ∷ []) 10 → delimiter ≡ 10
      alone found = grind (arith, found)

  -- ---- lines that begin with nothing

  pub leads-no_word : (text : List ℕ) → ¬ Contains text delimiter → LeadsNone delimiter text
  leads-no_word text none undo place is = lacks-no_cut delimiter text (word_of undo.part) (place_text delimiter undo.part undo.place ++ undo.line.text) none is

  pub leads-other_word : (text word behind : List ℕ) → text ≡ word ++ delimiter ∷ behind → ¬ Contains word delimiter → ((part : Part) → word ≢ word_of part) → LeadsNone delimiter text
  leads-other_word text word behind cut lacks none undo place is =
      none undo.part (first-cut delimiter word (word_of undo.part) behind (place_text delimiter undo.part undo.place ++ undo.line.text) lacks (word-lacks undo.part delimiter (outside delimiter delimits)) (sym cut ∙ is))

  -- no place and body are after the word of a line that is added
  abbrev pub PlacesNone : List ℕ → Type 0
  PlacesNone behind = (place : ℕ) (body : List ℕ) → place < 10 ^ 13 → ¬ (behind ≡ (decimal place ++ delimiter ∷ []) ++ body)

  pub leads-no_place : (text behind : List ℕ) → text ≡ word_of Adds ++ delimiter ∷ behind → PlacesNone behind → LeadsNone delimiter text
  leads-no_place text behind cut none undo place is =
      let words = behind-word Adds undo.part behind (place_text delimiter undo.part undo.place ++ undo.line.text) (sym cut ∙ is) in
      let adds : undo.part ≡ Adds = sym words.0 in
      none undo.place undo.line.text (subst (λ (p : Part). IsPlaceOf p undo.place) adds place)
      (words.1 ∙ ap (λ (p : Part). place_text delimiter p undo.place ++ undo.line.text) adds)

  pub places-no_digits : (behind : List ℕ) → ¬ Contains behind delimiter → PlacesNone behind
  places-no_digits behind none place body small is = lacks-no_cut delimiter behind (decimal place) body none (is ∙ append_assoc (decimal place) (delimiter ∷ []) body)

  pub places-other : (behind digits body : List ℕ) → behind ≡ digits ++ delimiter ∷ body → ¬ Contains digits delimiter → ((place : ℕ) → place < 10 ^ 13 → digits ≢ decimal place) → PlacesNone behind
  places-other behind digits body cut lacks none place rest small is =
      none place small (first-cut delimiter digits (decimal place) body rest lacks (decimal-lacks place delimiter small (no_digit delimiter delimits))
      (sym cut ∙ is ∙ append_assoc (decimal place) (delimiter ∷ []) rest))

  -- ---- bytes that start with no line

  -- the text of a line is what stands before the first line feed
  undo-cut : (bytes text rest behind : List ℕ) (undo : UndoLine) → bytes ≡ text ++ 10 ∷ rest → ¬ Contains text 10 → IsUndoLine delimiter undo → bytes ≡ undo_line_text delimiter undo ++ 10 ∷ behind →
      text ≡ undo_line_text delimiter undo
  undo-cut bytes text rest behind undo cut lacks is same = first-cut 10 text (undo_line_text delimiter undo) rest behind lacks (undo-line_feed undo is) (sym cut ∙ same)

  pub starts-none : (part : Part) (bytes : List ℕ) → ¬ Contains bytes 10 → StartsNone delimiter part bytes
  starts-none part bytes none undo rest is line order = lacks-no_cut 10 bytes (undo_line_text delimiter undo) rest none is

  pub starts-no_lead : (part : Part) (bytes text rest : List ℕ) → bytes ≡ text ++ 10 ∷ rest → ¬ Contains text 10 → LeadsNone delimiter text → StartsNone delimiter part bytes
  starts-no_lead part bytes text rest cut lacks none undo behind is line order = none undo line.place (undo-cut bytes text rest behind undo cut lacks line is)

  module _ (part : Part) (bytes text rest : List ℕ) (lead : Lead) (cut : bytes ≡ text ++ 10 ∷ rest) (lacks : ¬ Contains text 10) (begins : IsLead delimiter text lead) where
    same-lead : (undo : UndoLine) (behind : List ℕ) → IsUndoLine delimiter undo → bytes ≡ undo_line_text delimiter undo ++ 10 ∷ behind →
        (lead.part ≡ undo.part) × (lead.place ≡ undo.place) × (lead.body.now ≡ undo.line.text)
    same-lead undo behind line is =
        one-lead lead.part undo.part lead.place undo.place lead.body.now undo.line.text begins.place line.place
        (sym begins.written ∙ undo-cut bytes text rest behind undo cut lacks line is)

    pub starts-earlier : rank_of lead.part < rank_of part → StartsNone delimiter part bytes
    starts-earlier early undo behind is line order = omega (arith, early, order, ap rank_of (same-lead undo behind line is).0)

    pub starts-no_key : ((key : List ℕ) → ¬ IsKeyedLine One delimiter (kind_of lead.part) (keyed key lead.body.now)) → StartsNone delimiter part bytes
    starts-no_key none undo behind is line order =
        let same = same-lead undo behind line is in
        none undo.line.key
        (subst (λ (p : Part). IsKeyedLine One delimiter (kind_of p) (keyed undo.line.key lead.body.now)) (sym same.0)
        (subst (λ (t : List ℕ). IsKeyedLine One delimiter (kind_of undo.part) (keyed undo.line.key t)) (sym same.2) line.keyed))

    pub starts-line : (key : List ℕ) → IsKeyedLine One delimiter (kind_of lead.part) (keyed key lead.body.now) →
        let undo : UndoLine = record { part = lead.part; place = lead.place; line = keyed key lead.body.now } in
        IsUndoLine delimiter undo × (bytes ≡ undo_line_text delimiter undo ++ 10 ∷ rest)
    starts-line key line = (record { place = begins.place; keyed = line }, cut ∙ ap (λ (t : List ℕ). t ++ 10 ∷ rest) begins.written)
