-- What a plan keeps ready for a drawn value gives that value, as it is written.
use Rattle.std.proofs.Common.{◌≡◌, ℕ, ℤ, ◌+◌, ◌-◌, ◌*◌, ◌%◌, ◌^◌, pos, ◌+ℤ◌, ◌<ℤ◌, max, List, [], get_or, length, encode_utf8, option_map, Some, refl, ap, sym, subst, ◌∙◌, arith}
use Rattle.std.specs.Fmt.{signed_decimal}
use Rattle.std.specs.Str.{chars}
use Rattle.std.proofs.lemmas.List.{length-map}
use Rattle.std.proofs.lemmas.List.Folds.{fold-map}
use Rattle.std.proofs.Math.ListN.{get_or-map}
use Rattle.dictionaries.specs.WordList.{WordList}
use Rattle.weight_tables.specs.Harmonic.{harmonic_weights}
use Rattle.weight_tables.proofs.HarmonicLemmas.{length-harmonic_weights}
use Rattle.row_text.specs.Fields.{escaped_text}
use Rattle.schema_facts.specs.FieldSizes.{entry_size, greatest_by, joined_size, leaf_size, written_size}
use Rattle.schema_facts.specs.Layout.{LeafLayout, int_leaf, fixed_leaf, date_leaf, pick_leaf, skew_leaf, dict_leaf, words_leaf, chars_leaf, uuid_leaf}
use Rattle.schema_plan.specs.Limits.{IsLeafInLimits}
use Rattle.schema_plan.specs.Ready.{ready_leaf}
use Rattle.schema_plan.specs.ReadyWords.{written_words}
use Rattle.draw_values.specs.Dates.{date_text}
use Rattle.draw_values.specs.Digits.{signed_pointed}
use Rattle.draw_values.specs.ReadyValues.{IsReady, ready_leaf_day, ready_leaf_number, ready_size, ready_text}
use Rattle.draw_values.specs.Values.{Draws, chosen, chosen_group, leaf_day, leaf_number, leaf_value}
use Rattle.draw_values.proofs.CharacterLemmas.{escaped_text-drawn_characters, escaped_text-drawn_words}
use Rattle.draw_values.proofs.PlainLemmas.{escaped_text-plain, plain-date_text, plain-signed_decimal, plain-signed_pointed}
use Rattle.draw_values.proofs.UuidLemmas.{escaped_text-uuid_text}

-- an entry of a word list
pub entry-written : (delimiter : ℕ) (words : WordList) (place : ℕ) → escaped_text delimiter (get_or words.entries place []) ≡ get_or (written_words delimiter words).entries place []
entry-written delimiter words place = sym (get_or-map (escaped_text delimiter) words.entries place [])

-- the words of a list, as many as are counted
pub list_is_ready : (delimiter : ℕ) (words : WordList) → length words.entries ≡ length (written_words delimiter words).entries
list_is_ready delimiter words = sym (length-map words.entries (escaped_text delimiter))

-- the drawn value
pub leaf_value-written : (delimiter : ℕ) (layout : LeafLayout) (draw : Draws) → IsLeafInLimits layout →
    option_map (escaped_text delimiter) (leaf_value layout draw) ≡ Some (ready_text (ready_leaf delimiter layout) draw)
leaf_value-written delimiter (int_leaf lo hi step) draw limits =
    let number : ℤ = chosen lo hi step (draw 1) in
    ap Some (escaped_text-plain delimiter (signed_decimal number) (plain-signed_decimal number))
leaf_value-written delimiter (fixed_leaf lo hi decimals) draw limits =
    let number : ℤ = chosen lo hi 1 (draw 1) in
    ap Some (escaped_text-plain delimiter (signed_pointed decimals number) (plain-signed_pointed decimals number))
leaf_value-written delimiter (date_leaf lo hi) draw limits =
    let day : ℤ = chosen lo hi 1 (draw 1) in
    ap Some (escaped_text-plain delimiter (date_text day) (plain-date_text day))
leaf_value-written delimiter (pick_leaf entries weights) draw limits =
    ap Some (sym (get_or-map (escaped_text delimiter) entries (chosen_group weights (draw 1)) []))
leaf_value-written delimiter (skew_leaf lo size power) draw limits =
    let number : ℤ = lo +ℤ pos (chosen_group (harmonic_weights size power) (draw 1)) in
    ap Some (escaped_text-plain delimiter (signed_decimal number) (plain-signed_decimal number))
leaf_value-written delimiter (dict_leaf words) draw limits =
    ap Some (entry-written delimiter words (chosen_group words.weights (draw 1)))
leaf_value-written delimiter (words_leaf words lo hi) draw limits =
    ap Some (escaped_text-drawn_words delimiter words draw (lo + draw 1 % (hi - lo + 1)))
leaf_value-written delimiter (chars_leaf alphabet lo hi) draw limits =
    ap Some (escaped_text-drawn_characters delimiter (chars alphabet) draw (lo + draw 1 % (hi - lo + 1)) limits.0.some_character)
leaf_value-written delimiter uuid_leaf draw limits = ap Some (escaped_text-uuid_text delimiter (draw 1) (draw 2))

-- the day and the number that are drawn
pub leaf_day-ready : (delimiter : ℕ) (layout : LeafLayout) (draw : Draws) → ready_leaf_day (ready_leaf delimiter layout) draw ≡ leaf_day layout draw
leaf_day-ready delimiter (int_leaf lo hi step) draw = refl
leaf_day-ready delimiter (fixed_leaf lo hi decimals) draw = refl
leaf_day-ready delimiter (date_leaf lo hi) draw = refl
leaf_day-ready delimiter (pick_leaf entries weights) draw = refl
leaf_day-ready delimiter (skew_leaf lo size power) draw = refl
leaf_day-ready delimiter (dict_leaf words) draw = refl
leaf_day-ready delimiter (words_leaf words lo hi) draw = refl
leaf_day-ready delimiter (chars_leaf alphabet lo hi) draw = refl
leaf_day-ready delimiter uuid_leaf draw = refl

pub leaf_number-ready : (delimiter : ℕ) (layout : LeafLayout) (draw : Draws) → ready_leaf_number (ready_leaf delimiter layout) draw ≡ leaf_number layout draw
leaf_number-ready delimiter (int_leaf lo hi step) draw = refl
leaf_number-ready delimiter (fixed_leaf lo hi decimals) draw = refl
leaf_number-ready delimiter (date_leaf lo hi) draw = refl
leaf_number-ready delimiter (pick_leaf entries weights) draw = refl
leaf_number-ready delimiter (skew_leaf lo size power) draw = refl
leaf_number-ready delimiter (dict_leaf words) draw = refl
leaf_number-ready delimiter (words_leaf words lo hi) draw = refl
leaf_number-ready delimiter (chars_leaf alphabet lo hi) draw = refl
leaf_number-ready delimiter uuid_leaf draw = refl

-- its limits
pub leaf_is_ready : (delimiter : ℕ) (layout : LeafLayout) → IsLeafInLimits layout → IsReady (ready_leaf delimiter layout)
leaf_is_ready delimiter (int_leaf lo hi step) limits = (limits.0, limits.1, refl)
leaf_is_ready delimiter (fixed_leaf lo hi decimals) limits = (limits.0, refl, limits.1, refl)
leaf_is_ready delimiter (date_leaf lo hi) limits = (limits, refl)
leaf_is_ready delimiter (pick_leaf entries weights) limits = (limits.one_each ∙ sym (length-map entries (escaped_text delimiter)), refl)
leaf_is_ready delimiter (skew_leaf lo size power) limits =
    let many = length-harmonic_weights size power in (
      omega (arith, many, limits.size_limit),
      subst (λ (n : ℕ). (lo +ℤ pos (n - 1)) <ℤ pos (2 ^ 63)) (sym many) limits.last_number,
      refl,
    )
leaf_is_ready delimiter (dict_leaf words) limits = tt
leaf_is_ready delimiter (words_leaf words lo hi) limits = omega (arith, limits.1.ordered, limits.1.length_limit)
leaf_is_ready delimiter (chars_leaf alphabet lo hi) limits = (
  omega (arith, limits.1.ordered, limits.1.length_limit),
  sym (length-map (chars alphabet) (λ c. escaped_text delimiter (encode_utf8 c))),
)
leaf_is_ready delimiter uuid_leaf limits = tt

-- and its greatest size
pub leaf_size-ready : (delimiter : ℕ) (layout : LeafLayout) → IsLeafInLimits layout → leaf_size delimiter layout ≡ ready_size (ready_leaf delimiter layout)
leaf_size-ready delimiter (int_leaf lo hi step) limits = refl
leaf_size-ready delimiter (fixed_leaf lo hi decimals) limits = refl
leaf_size-ready delimiter (date_leaf lo hi) limits = refl
leaf_size-ready delimiter (pick_leaf entries weights) limits =
    sym (fold-map (λ (most : ℕ) (text : List ℕ). max most (length text)) (escaped_text delimiter) 0 entries)
leaf_size-ready delimiter (skew_leaf lo size power) limits = refl
leaf_size-ready delimiter (dict_leaf words) limits =
    sym (fold-map (λ (most : ℕ) (text : List ℕ). max most (length text)) (escaped_text delimiter) 0 words.entries)
leaf_size-ready delimiter (words_leaf words lo hi) limits =
    let most : hi ≡ lo + (hi - lo + 1) - 1 = omega (arith, limits.1.ordered) in
    ap (λ (number : ℕ). joined_size number (entry_size delimiter words)) most
    ∙ ap (joined_size (lo + (hi - lo + 1) - 1))
    (sym (fold-map (λ (most : ℕ) (text : List ℕ). max most (length text)) (escaped_text delimiter) 0 words.entries))
leaf_size-ready delimiter (chars_leaf alphabet lo hi) limits =
    let most : hi ≡ lo + (hi - lo + 1) - 1 = omega (arith, limits.1.ordered) in
    ap (λ (number : ℕ). number * greatest_by (λ c. written_size delimiter (encode_utf8 c)) (chars alphabet)) most
    ∙ ap (λ (greatest : ℕ). (lo + (hi - lo + 1) - 1) * greatest)
    (sym (fold-map (λ (most : ℕ) (text : List ℕ). max most (length text)) (λ c. escaped_text delimiter (encode_utf8 c)) 0 (chars alphabet)))
leaf_size-ready delimiter uuid_leaf limits = refl
