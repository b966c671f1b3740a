use Rattle.std.proofs.Common.{List, ℕ, [], ◌∷◌, ap, codes, ◌∙◌}
use Rattle.undo_streams.specs.Packages.{count_of, text_numbered}
use Rattle.update_box.specs.Packages.{chosen_places}
use Rattle.run_jobs.specs.Joined.{joined_text}
use Rattle.table_jobs.proofs.UndoLemmas.{joined-undo}
use Rattle.table_jobs.proofs.modes.undo.one_mark.Goals as goal

pub returns-in-Ok-clause-files : goal.returns-in-Ok-clause-files
returns-in-Ok-clause-files c =
    let of = c.args.job.now.of.of in
    c.in-Ok.ensures.files
    ∙ ap (λ (bytes : List ℕ). record { name = codes "-"; bytes = bytes } ∷ [])
    (ap (joined_text count_of text_numbered) c.requires.parts ∙ joined-undo of.plan of.asked c.requires.can.of.of.asked.some_entry (chosen_places of.plan of.asked.table))
