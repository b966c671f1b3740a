use Rattle.std.proofs.Common.{subst, sym, arith}
use Rattle.std.proofs.lemmas.Option.{MatchOption-at_none}
use Rattle.stream_apply.specs.KeyedLines.{keyed}
use Rattle.stream_apply.specs.Streams.{IsKeyedLine}
use Rattle.stream_apply.specs.declared.key_fields.KeyFields.TheVariants.{One}
use Rattle.stream_apply.specs.declared.kind.InputKind.{InputKind}
use Rattle.undo_streams.proofs.LeadLemmas.{starts-earlier, starts-no_key, starts-no_lead, starts-none}
use Rattle.undo_streams.proofs.undo_lines.read_undo.Goals as goal

pub returns-in_default : goal.returns-in_default
returns-in_default c = starts-none c.args.delimiter c.requires c.args.part c.args.bytes.now c.in_default.ensures

pub returns-in_default-read_lead : goal.returns-in_default-read_lead
returns-in_default-read_lead c =
    starts-no_lead c.args.delimiter c.requires c.args.part c.args.bytes.now c.in-Some.text.now c.in-Some.rest.now c.in-Some.ensures.0 c.in-Some.ensures.1 c.in_default-read_lead.ensures

pub returns-then-rank : goal.returns-then-rank
returns-then-rank c =
    starts-earlier c.args.delimiter c.requires c.args.part c.args.bytes.now c.in-Some.text.now c.in-Some.rest.now c.in-Some-read_lead.lead c.in-Some.ensures.0 c.in-Some.ensures.1 c.in-Some-read_lead.ensures
    (omega (arith, c.rank.ensures, c.rank-2.ensures, c.if-rank.true))

pub returns-in-None : goal.returns-in-None
returns-in-None c =
    starts-no_key c.args.delimiter c.requires c.args.part c.args.bytes.now c.in-Some.text.now c.in-Some.rest.now c.in-Some-read_lead.lead c.in-Some.ensures.0 c.in-Some.ensures.1 c.in-Some-read_lead.ensures
    (λ key line. MatchOption-at_none _ _ c.in-None.is c.in_ok-key_size.ensures key (subst (λ (k : InputKind). IsKeyedLine One c.args.delimiter k (keyed key c.in-Some-read_lead.lead.body.now)) (sym c.kind.ensures) line))
