use Rattle.std.proofs.Common.{◌≡◌, ◌++◌, ℕ, List, ap, arith, flat_map, subst, sym, ◌∙◌}
use Rattle.std.specs.List.{range_with_len}
use Rattle.life_intervals.proofs.Ranges.{flat_map-range_with_len_more}
use Rattle.schema_facts.specs.Dictionaries.{Project}
use Rattle.table_jobs.specs.modes.Sample.{IsLaterText, table_line}
use Rattle.table_jobs.proofs.SampleLemmas.{sums-next}
use Rattle.table_jobs.proofs.modes.sample.summary.Goals as goal

pub loop-table-preserved : goal.loop-table-preserved
loop-table-preserved g c =
    let plan : Project = c.args.plan in
    let table : ℕ = c.loop-table.table in
    let before = c.loop-table.invariant in
    let same : c.in_ok-made.made.0 ≡ plan = c.in_ok-made.ensures.plan ∙ before.plan in
    let later = c.in_ok-sum.ensures.sum in
    record {
      plan = same;
      text =
          c.in_ok-push_line.ensures ∙ ap (λ (text : List ℕ). text ++ table_line c.in_ok-made.made.0 table) before.text
          ∙ ap (λ (p : Project). flat_map (table_line plan) (range_with_len 0 table) ++ table_line p table) same
          ∙ sym (flat_map-range_with_len_more (table_line plan) table);
      sums = sums-next plan table c.loop-table.sum _ later.0 before.sums.0 before.sums.1 before.sums.2
          (subst (λ (p : Project). IsLaterText p table later.0) same later.1) later.2;
      few = omega (arith, before.few, c.in_ok-sum.ensures.few);
    }
