use Rattle.std.proofs.Common.{◌++◌, ap, subst, ◌∙◌}
use Rattle.stream_apply.specs.Streams.{IsStream, Table}
use Rattle.stream_apply.specs.declared.kind.InputKind.TheVariants.{Inserts}
use Rattle.stream_apply.proofs.MadeLemmas.{insert-appends}
use Rattle.stream_apply.proofs.applier.Applier.insert.Goals as goal

pub returns-clause-applied : goal.returns-clause-applied
returns-clause-applied c =
    let table = c.self.inside.table in
    let lines = c.in_ok-lines.lines in
    let bytes = c.args.bytes.now in
    record {
      lines = lines;
      known_by = ap (λ (t : Table). t.keys) c.self.view_is;
      delimits = ap (λ (t : Table). t.delimiter) c.self.view_is;
      read = subst (λ (t : Table). IsStream t.keys t.delimiter Inserts t.lines bytes lines) c.self.view_is c.in_ok-lines.ensures.read;
      made = c.in_ok-put_all.ensures
          ∙ insert-appends c.self.inside.keys c.self.inside.delimiter table lines bytes c.in_ok-lines.ensures.read
          ∙ ap (λ (t : Table). t.lines ++ lines) c.self.view_is;
    }
