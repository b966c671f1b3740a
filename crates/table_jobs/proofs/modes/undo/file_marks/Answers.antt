use Rattle.std.proofs.Common.{List, ℕ, ap, ap₂, map, ◌∙◌}
use Rattle.undo_streams.specs.Packages.{count_of, text_numbered}
use Rattle.update_box.specs.Packages.{chosen_places}
use Rattle.run_jobs.specs.Joined.{part_files}
use Rattle.run_jobs.specs.modes.Undo.{undo_path}
use Rattle.table_jobs.proofs.UndoLemmas.{files-undo}
use Rattle.table_jobs.proofs.modes.undo.file_marks.Goals as goal

pub returns-in-Ok-clause-files : goal.returns-in-Ok-clause-files
returns-in-Ok-clause-files c =
    let of = c.args.job.now.of.of in
    let path : ℕ → List ℕ = undo_path of.plan of.asked.unit c.args.out.now in
    c.in-Ok.ensures.files
    ∙ ap₂ (part_files count_of text_numbered) (c.in_ok-names.ensures ∙ ap (map path) c.places_of-places.ensures.places) c.requires.parts
    ∙ files-undo of.plan of.asked c.requires.can.of.of.asked.some_entry c.args.out.now (chosen_places of.plan of.asked.table)
