use Rattle.std.proofs.Common.{◌++◌, option_map, sym, ap, ◌∙◌}
use Rattle.toml.specs.View.{table_view}
use Rattle.schema_read.specs.declared.wanted.Wanted.{Wanted}
use Rattle.schema_read.specs.Wanted.{wanted_key, expected_of, wrong_at}
use Rattle.schema_read.proofs.Found.{first_of-find}
use Rattle.schema_read.proofs.wrong_key.first_of.Goals as goal

pub returns-in-Some : goal.returns-in-Some
returns-in-Some c =
    rw (c.key.ensures, c.expected.ensures) (ap (option_map (λ (w : Wanted). wrong_at c.args.place (wanted_key w) (expected_of w))) c.in-Some.ensures ∙ sym (first_of-find c.args.place (c.args.common.now ++ c.args.own.now) (table_view c.args.members.now)))

pub returns-in-None : goal.returns-in-None
returns-in-None c =
    ap (option_map (λ (w : Wanted). wrong_at c.args.place (wanted_key w) (expected_of w))) c.in-None.ensures ∙ sym (first_of-find c.args.place (c.args.common.now ++ c.args.own.now) (table_view c.args.members.now))
