use Rattle.std.proofs.Common.{◌∙◌, ◌++◌, ◌∷◌, [], List, ap}
use Rattle.range_workers.specs.Marks.{Mark}
use Rattle.run_jobs.proofs.JoinedLemmas.{one-mark-files, one-mark-is}
use Rattle.run_jobs.proofs.joined.Joined.mark_of_all.Goals as goal

pub returns-clause-marks : goal.returns-clause-marks
returns-clause-marks g c = one-mark-is _ c.args.name.now c.push.new.self (c.in_ok-push.ensures.ok ∙ ap (λ (marks : List Mark). marks ++ record { first = 0; name = c.args.name.now } ∷ []) c.new-marks.ensures)

pub returns-clause-files : goal.returns-clause-files
returns-clause-files g c = one-mark-files g.P.Packer.count g.P.Packer.text c.args.self.now.parts.items c.args.name.now c.push.new.self (c.in_ok-push.ensures.ok ∙ ap (λ (marks : List Mark). marks ++ record { first = 0; name = c.args.name.now } ∷ []) c.new-marks.ensures)
