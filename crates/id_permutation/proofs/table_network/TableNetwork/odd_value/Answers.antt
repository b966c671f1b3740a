use Rattle.std.proofs.Common.{ℕ, ◌+◌, ◌<◌, sym, ◌∙◌, subst, arith}
use Rattle.std.proofs.lemmas.Nat.{mod_below}
use Rattle.id_permutation.proofs.TableLaws.{tables-below, get_or-tables-odd}
use Rattle.id_permutation.proofs.table_network.TableNetwork.odd_value.Goals as goal

pub bounds-self-first : goal.bounds-self-first
bounds-self-first c =
    let network = c.args.self.now.network in
    tables-below network.height network.width network.seed c.args.pair (c.args.self.now.network.width + c.args.left) _ _ c.args.self.now.exact c.requires.few (omega arith) (omega arith)

pub returns-clause-exact : goal.returns-clause-exact
returns-clause-exact c =
    c.from.ensures ∙ get_or-tables-odd _ _ _ _ _ _ _ _ c.args.self.now.exact c.requires.few c.requires.within c.odd_table-first.ensures.exact

pub returns-clause-below : goal.returns-clause-below
returns-clause-below c =
    subst (λ (v : ℕ). v < c.args.self.now.network.width)
    (sym (c.from.ensures ∙ get_or-tables-odd _ _ _ _ _ _ _ _ c.args.self.now.exact c.requires.few c.requires.within c.odd_table-first.ensures.exact))
    (mod_below _ _ c.args.self.now.network.columns)
