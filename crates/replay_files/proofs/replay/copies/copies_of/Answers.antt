use Rattle.std.proofs.Common.{All, List, ap, length, map, subst, sym, ◌∙◌, ℕ}
use Rattle.std.proofs.lemmas.List.{length-map}
use Rattle.replay_files.specs.Replay.{AreColumns}
use Rattle.replay_files.proofs.KeyedTextLemmas.{input_columns-are, length-input_columns}
use Rattle.replay_files.proofs.replay.copies.copies_of.Goals as goal

pub read_csv-requires-clause-fields : goal.read_csv-requires-clause-fields
read_csv-requires-clause-fields c =
    sym (length-map c.as_slice.result.now (λ own. own.now))
    ∙ ap (λ own. length (map (λ names. names.now) own)) c.as_slice.ensures.value
    ∙ ap length c.in-Ok.ensures ∙ length-input_columns c.args.request.now c.args.tables.now ∙ sym c.requires.fields

pub read_csv-requires-clause-columns : goal.read_csv-requires-clause-columns
read_csv-requires-clause-columns c =
    subst (λ (columns : List (List (List ℕ))). All AreColumns columns) (sym (ap (map (λ names. names.now)) c.as_slice.ensures.value ∙ c.in-Ok.ensures))
    (input_columns-are c.args.request.now c.args.tables.now c.requires.columns)
