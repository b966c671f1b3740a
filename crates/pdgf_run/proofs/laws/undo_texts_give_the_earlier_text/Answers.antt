use Rattle.replay_files.proofs.UndoLawLemmas.{units-reverted}
use Rattle.pdgf_run.proofs.laws.undo_texts_give_the_earlier_text.Goals as goal

pub returns : goal.returns
returns c = units-reverted
