use Rattle.run_jobs.proofs.PageLemmas.{delimits}
use Rattle.pdgf_run.proofs.OutcomeLemmas.{one_verdict}
use Rattle.pdgf_run.proofs.laws.words_and_files_have_one_verdict.Goals as goal

pub returns : goal.returns
returns c = λ words files verdict other is other_is. one_verdict words files verdict other delimits is other_is
