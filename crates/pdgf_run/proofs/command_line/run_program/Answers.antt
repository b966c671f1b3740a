use Rattle.std.proofs.Common.{sym}
use Rattle.pdgf_run.proofs.command_line.run_program.Goals as goal

pub returns-in-Ok-clause-known : goal.returns-in-Ok-clause-known
returns-in-Ok-clause-known g c = c.pdgf.ensures.known

pub returns-in-Ok-clause-message : goal.returns-in-Ok-clause-message
returns-in-Ok-clause-message g c = c.pdgf.ensures.message

pub returns-in-Ok-clause-too_long : goal.returns-in-Ok-clause-too_long
returns-in-Ok-clause-too_long g c = c.pdgf.ensures.too_long

pub returns-in-Ok-clause-schema_read : goal.returns-in-Ok-clause-schema_read
returns-in-Ok-clause-schema_read g c = c.pdgf.ensures.schema_read

pub returns-in-Ok-clause-read_failed : goal.returns-in-Ok-clause-read_failed
returns-in-Ok-clause-read_failed g c = c.pdgf.ensures.read_failed

pub returns-in-Ok-clause-stopped : goal.returns-in-Ok-clause-stopped
returns-in-Ok-clause-stopped g c = c.pdgf.ensures.stopped

pub returns-in-Ok-clause-write_failed : goal.returns-in-Ok-clause-write_failed
returns-in-Ok-clause-write_failed g c = c.pdgf.ensures.write_failed

pub returns-in-Ok-clause-unwritten : goal.returns-in-Ok-clause-unwritten
returns-in-Ok-clause-unwritten g c = c.pdgf.ensures.unwritten

pub returns-in-Ok-clause-none_begun : goal.returns-in-Ok-clause-none_begun
returns-in-Ok-clause-none_begun g c = c.pdgf.ensures.none_begun

pub returns-in-Ok-clause-files : goal.returns-in-Ok-clause-files
returns-in-Ok-clause-files g c = c.pdgf.ensures.files

pub returns-in-Ok-clause-keeper_kept : goal.returns-in-Ok-clause-keeper_kept
returns-in-Ok-clause-keeper_kept g c = c.pdgf.ensures.keeper_kept

pub returns-in-Ok-clause-left_open : goal.returns-in-Ok-clause-left_open
returns-in-Ok-clause-left_open g c = c.pdgf.ensures.left_open

pub returns-in-Ok-clause-not_opened : goal.returns-in-Ok-clause-not_opened
returns-in-Ok-clause-not_opened g c = c.pdgf.ensures.not_opened

pub returns-in-Ok-clause-keeper_failed : goal.returns-in-Ok-clause-keeper_failed
returns-in-Ok-clause-keeper_failed g c = c.pdgf.ensures.keeper_failed

pub returns-in-Ok-clause-read_unfailed : goal.returns-in-Ok-clause-read_unfailed
returns-in-Ok-clause-read_unfailed g c = c.pdgf.ensures.read_unfailed

pub returns-in-Ok-clause-write_unfailed : goal.returns-in-Ok-clause-write_unfailed
returns-in-Ok-clause-write_unfailed g c = c.pdgf.ensures.write_unfailed

pub returns-in-Ok-clause-keeper_unfailed : goal.returns-in-Ok-clause-keeper_unfailed
returns-in-Ok-clause-keeper_unfailed g c = c.pdgf.ensures.keeper_unfailed

pub returns-in-Ok-clause-verdict_unread : goal.returns-in-Ok-clause-verdict_unread
returns-in-Ok-clause-verdict_unread g c = rw (c.in-Ok.is, sym c.as_slice.ensures.value) c.pdgf.ensures.verdict_unread

pub returns-in-Ok-clause-longer_schema : goal.returns-in-Ok-clause-longer_schema
returns-in-Ok-clause-longer_schema g c = rw (c.in-Ok.is, sym c.as_slice.ensures.value) c.pdgf.ensures.longer_schema
