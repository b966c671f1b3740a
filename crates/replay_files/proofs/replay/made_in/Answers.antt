use Rattle.std.proofs.Common.{◌*◌, ◌∙◌, ap, ap₂, length, subst, sym, List, Option, ℕ}
use Rattle.std.specs.Prelude.{IfSome}
use Rattle.replay_files.specs.Replay.{IsCsvOfTables, inputs_by}
use Rattle.replay_files.specs.declared.replay.Way.{Way}
use Rattle.replay_files.proofs.NameLemmas.{length-names}
use Rattle.replay_files.proofs.replay.made_in.Goals as goal

pub copies_of-requires-clause-fields : goal.copies_of-requires-clause-fields
copies_of-requires-clause-fields c =
    let r = c.args.request.now in
    let replay = c.args.replay.now in
    let of = subst (λ (csv : Option (List (List (List ℕ)))). IfSome csv (IsCsvOfTables replay.way (length replay.names))) c.in-Some.is c.requires.can.csv in
    c.requires.alike ∙ ap length c.requires.names ∙ length-names r replay
    ∙ ap₂ (λ (count : ℕ) (w : Way). count * inputs_by w r.from r.to) (sym of.alike ∙ sym (ap length c.as_slice.ensures)) of.applies
