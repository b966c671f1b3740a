use Rattle.std.proofs.Common.{◌≡◌, ◌∙◌, ℕ, List, get_or, map, take, sym, ap, arith}
use Rattle.std.specs.List.{range_with_len}
use Rattle.std.proofs.lemmas.List.{length-set, take_all}
use Rattle.std.proofs.lemmas.List.FromFn.{get_or-range_with_len, length-range_with_len}
use Rattle.schema_facts.specs.declared.column_facts.ColumnFacts.{ColumnFacts}
use Rattle.schema_facts.specs.declared.facts.TableFacts.{TableFacts}
use Rattle.schema_facts.specs.Capped.{capped_column}
use Rattle.schema_facts.specs.ColumnFacts.{facts_of_columns, facts_of_kind}
use Rattle.schema_facts.specs.FactsBefore.{no_facts}
use Rattle.schema_facts.specs.Layout.{column_at, table_layout, table_layouts}
use Rattle.schema_facts.proofs.ColumnFactsLemmas.{length-facts_of_columns, next_facts}
use Rattle.schema_facts.proofs.Lists.{next_in_turn}
use Rattle.schema_facts.proofs.column_facts.facts_of_columns.Goals as goal

pub loop-place-preserved : goal.loop-place-preserved
loop-place-preserved c = record {
  long = length-set c.loop-place.facts c.loop-place.place c.facts_at.result ∙ c.loop-place.invariant.long;
  made = λ dictionaries given premise.
      let tables = table_layouts dictionaries c.args.tables.now in
      let table = table_layout dictionaries c.args.tables.now c.args.table.now in
      let give : List ColumnFacts → ℕ → ColumnFacts = λ before place. facts_of_kind c.args.units tables table given before (column_at table.columns place).kind in
      let place = c.loop-place.place in
      let before = take place (facts_of_columns c.args.units tables given table) in
      let so_far = c.loop-place.invariant.made dictionaries given premise in
      let earlier = map (λ (facts : TableFacts). facts.columns) c.args.earlier.now in
      let at : get_or (range_with_len 0 64) place 0 ≡ place = omega (arith, get_or-range_with_len 0 64 place 0 (omega (arith, c.loop-place-test.true))) in
      next_in_turn give capped_column (range_with_len 0 64) c.loop-place.facts place no_facts 0 c.facts_at.result
      (omega (arith, length-range_with_len 0 64, c.loop-place-test.true)) (omega (arith, c.loop-place.invariant.long, c.loop-place-test.true)) so_far
      (next_facts c.args.units tables table given earlier before (take place c.loop-place.facts) place c.facts_at.result premise so_far (c.facts_at.ensures dictionaries)
      ∙ ap (λ p. capped_column (give before p)) (sym at));
}

pub returns : goal.returns
returns c = λ dictionaries given premise.
    let tables = table_layouts dictionaries c.args.tables.now in
    let table = table_layout dictionaries c.args.tables.now c.args.table.now in
    sym (take_all c.loop-place.place c.loop-place.facts (omega (arith, c.loop-place.invariant.long, c.loop-place-test.false)))
    ∙ c.loop-place.invariant.made dictionaries given premise
    ∙ ap (map capped_column) (take_all c.loop-place.place (facts_of_columns c.args.units tables given table) (omega (arith, length-facts_of_columns c.args.units tables given table, c.loop-place-test.false)))
