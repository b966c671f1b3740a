use Rattle.std.proofs.Common.{◌≡◌, List, Option, ℕ, refl, subst, sym}
use Rattle.run_jobs.specs.Formats.{AreWritten, each_after}
use Rattle.replay_files.specs.Replay.{format_by, text_headings}
use Rattle.replay_files.proofs.replay.copies.written_in.Goals as goal

pub returns-in-None-clause-written : goal.returns-in-None-clause-written
returns-in-None-clause-written c =
    subst (λ (csv : Option (List (List (List ℕ)))). (rows : List (List ℕ)) × AreWritten (format_by csv) c.args.delimiter c.args.texts rows × (c.args.texts ≡ each_after (text_headings c.args.header csv) rows))
    (sym c.in-None.is) (c.args.texts, refl, refl)
