use Rattle.std.proofs.Common.{◌≡◌, ◌∙◌, ◌<◌, [], List, ap, sym, arith, get_or, length, map, subst}
use Rattle.std.specs.List.{position_or_len}
use Rattle.std.proofs.lemmas.List.{get_or-map, length-map}
use Rattle.dictionaries.specs.WordList.{IsWordList, WordList}
use Rattle.schema_facts.specs.Dictionaries.{Dictionary, no_words, words_named}
use Rattle.schema_facts.specs.Names.{same_text}
use Rattle.schema_plan.specs.ReadyWords.{Spelling, written_words}
use Rattle.schema_plan.proofs.WordListLemmas.{found_at_place}
use Rattle.schema_plan.proofs.ready_words.Lexicon.ready_words.Goals as goal

no_dictionary : Dictionary
no_dictionary = record { name = []; words = no_words }

pub index-requires : goal.index-requires
index-requires c =
    let dictionaries = c.self.inside.dictionaries.now in
    let name = c.args.name.now in
    let same : dictionaries ≡ c.args.self.now.dictionaries = ap (λ (s : Spelling). s.dictionaries) c.self.view_is in
    let at = c.place_of-place.ensures ∙ ap (λ text. position_or_len (λ (d : Dictionary). same_text d.name text) dictionaries) c.as_str.ensures.value in
    let found = found_at_place (λ (d : Dictionary). same_text d.name name) dictionaries (subst (λ (ds : List Dictionary). IsWordList (words_named ds name)) (sym same) c.requires) in
    let within : c.place_of-place.result < length dictionaries = omega (arith, at, found.0) in
    omega (arith, within, ap length c.self.invariant, length-map dictionaries (λ (d : Dictionary). written_words c.self.inside.delimiter d.words), c.self.inside.ready.ok.0)

pub returns : goal.returns
returns c =
    let dictionaries = c.self.inside.dictionaries.now in
    let delimiter = c.self.inside.delimiter in
    let name = c.args.name.now in
    let same : dictionaries ≡ c.args.self.now.dictionaries = ap (λ (s : Spelling). s.dictionaries) c.self.view_is in
    let test = λ (d : Dictionary). same_text d.name name in
    let at = c.place_of-place.ensures ∙ ap (λ text. position_or_len (λ (d : Dictionary). same_text d.name text) dictionaries) c.as_str.ensures.value in
    let found = found_at_place test dictionaries (subst (λ (ds : List Dictionary). IsWordList (words_named ds name)) (sym same) c.requires) in
    let written = λ (d : Dictionary). written_words delimiter d.words in
    c.index.ensures
    ∙ ap (λ (ready : List WordList). get_or ready c.place_of-place.result c.index.result.now) c.self.invariant
    ∙ ap (λ place. get_or (map written dictionaries) place c.index.result.now) at
    ∙ get_or-map written dictionaries (position_or_len test dictionaries) no_dictionary c.index.result.now found.0
    ∙ ap (written_words delimiter) (found.1 no_dictionary)
    ∙ ap (λ (s : Spelling). written_words s.delimiter (words_named s.dictionaries name)) c.self.view_is
