use Rattle.std.proofs.Common.{◌≡◌, ◌≤◌, ◌+◌, ◌-◌, ◌*◌, ℕ, List, length, take, drop, ap, arith, ◌∙◌}
use Rattle.schema_facts.specs.Dictionaries.{Project}
use Rattle.schema_facts.specs.Lineage.{one_if}
use Rattle.life_intervals.specs.Generator.{table_of}
use Rattle.row_lines.specs.Runs.{keys_text}
use Rattle.row_lines.proofs.ListLemmas.{part_length}
use Rattle.row_lines.proofs.RunKeyLemmas.{keys_text-part}
use Rattle.row_lines.proofs.RunTextLemmas.{appended-more, sizes-more}
use Rattle.row_lines.proofs.run_keys.put_keys.Goals as goal

pub loop-done-preserved : goal.loop-done-preserved
loop-done-preserved g c =
    let plan : Project = c.args.rows.now in
    let ordinals : List ℕ = c.args.ordinals.now in
    let done : ℕ = c.loop-done.done in
    let some : ℕ = c.min-some.result in
    let within : done + some ≤ length ordinals = omega arith in
    let many : length (take (done + some - done) (drop done ordinals)) ≡ some = part_length done some ordinals within in
    let end : done + (done + some - done) ≡ done + some = omega arith in
    let more = keys_text-part plan c.args.table ordinals done (done + some - done) ∙ ap (λ (n : ℕ). keys_text plan c.args.table (take n ordinals)) end in
    record {
      within = within;
      text = appended-more c.args.page.now c.loop-done.page c.put_few_keys.new.page (keys_text plan c.args.table (take done ordinals)) _ _ c.loop-done.invariant.text c.put_few_keys.ensures.text more;
      size = sizes-more (keys_text plan c.args.table (take done ordinals)) _ _ done some 21 more c.loop-done.invariant.size (omega (arith, c.put_few_keys.ensures.size, many));
      steps = c.put_few_keys.ensures.steps
          ∙ omega (
            arith,
            c.loop-done.invariant.steps,
            ap (λ (n : ℕ). n * one_if (table_of plan c.args.table).key.scramble) many,
          );
    }
