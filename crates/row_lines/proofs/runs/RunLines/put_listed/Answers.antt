use Rattle.std.proofs.Common.{◌≡◌, ◌≤◌, ◌+◌, ◌-◌, ◌*◌, ℕ, List, length, take, drop, ap, arith, subst, sym, ◌∙◌}
use Rattle.std.specs.Prelude.{All}
use Rattle.std.proofs.lemmas.List.Elements.{All-append}
use Rattle.std.proofs.lemmas.List.{take_all}
use Rattle.std.proofs.Math.Seq.{take-add}
use Rattle.schema_facts.specs.Layout.{layout_of}
use Rattle.schema_facts.specs.TableFacts.{line_cost, max_line}
use Rattle.life_intervals.specs.Generator.{generator_of}
use Rattle.life_intervals.specs.Intervals.{is_live}
use Rattle.row_lines.specs.RunFields.{HasSizes}
use Rattle.row_lines.specs.Runs.{RunLinesOf, listed_text}
use Rattle.row_lines.proofs.ListLemmas.{get_or-part, part_length}
use Rattle.row_lines.proofs.RunTextLemmas.{appended-more, listed_text-part, room-more, sizes-more}
use Rattle.row_lines.proofs.runs.RunLines.put_listed.Goals as goal

pub put_few-requires-clause-alive : goal.put_few-requires-clause-alive
put_few-requires-clause-alive g c = λ i below.
    let lines : RunLinesOf = c.args.self.now in
    let ordinals : List ℕ = c.args.ordinals.now in
    let done : ℕ = c.loop-done.done in
    let some : ℕ = c.min-some.result in
    let many : length (take (done + some - done) (drop done ordinals)) ≡ some = part_length done some ordinals (omega arith) in
    ap (is_live (generator_of lines.plan) lines.table lines.unit) (get_or-part done (done + some - done) ordinals i 0 (omega (arith, below, many)))
    ∙ c.requires.alive (done + i) (omega (arith, below, many))

pub put_few-requires-clause-room : goal.put_few-requires-clause-room
put_few-requires-clause-room g c =
    let lines : RunLinesOf = c.args.self.now in
    let ordinals : List ℕ = c.args.ordinals.now in
    let done : ℕ = c.loop-done.done in
    let some : ℕ = c.min-some.result in
    let many : length (take (done + some - done) (drop done ordinals)) ≡ some = part_length done some ordinals (omega arith) in
    let most : ℕ = max_line (layout_of lines.plan) lines.table in
    omega (
      arith,
      ap (λ (n : ℕ). n * most) many,
      room-more c.args.page.now c.loop-done.page (listed_text lines (take done ordinals)) done some (length ordinals) most c.loop-done.invariant.text c.loop-done.invariant.size (omega arith) c.requires.room,
    )

pub loop-done-preserved : goal.loop-done-preserved
loop-done-preserved g c =
    let lines : RunLinesOf = c.args.self.now in
    let ordinals : List ℕ = c.args.ordinals.now in
    let done : ℕ = c.loop-done.done in
    let some : ℕ = c.min-some.result in
    let within : done + some ≤ length ordinals = omega arith in
    let many : length (take (done + some - done) (drop done ordinals)) ≡ some = part_length done some ordinals within in
    let end : done + (done + some - done) ≡ done + some = omega arith in
    let more = listed_text-part lines ordinals done (done + some - done) ∙ ap (λ (n : ℕ). listed_text lines (take n ordinals)) end in
    let most : ℕ = max_line (layout_of lines.plan) lines.table in
    record {
      within = within;
      text = appended-more c.args.page.now c.loop-done.page c.put_few.new.page (listed_text lines (take done ordinals)) _ _ c.loop-done.invariant.text c.put_few.ensures.text more;
      size = sizes-more (listed_text lines (take done ordinals)) _ _ done some most more c.loop-done.invariant.size (omega (arith, c.put_few.ensures.size, ap (λ (n : ℕ). n * most) many));
      fields = subst (All (HasSizes lines)) (sym (take-add done (done + some - done) ordinals) ∙ ap (λ (n : ℕ). take n ordinals) end)
          (All-append (HasSizes lines) (take done ordinals) _ c.loop-done.invariant.fields c.put_few.ensures.fields);
      steps = omega (
        arith,
        c.loop-done.invariant.steps,
        c.put_few.ensures.steps,
        ap (λ (n : ℕ). n * line_cost (layout_of lines.plan) lines.table) many,
      );
    }

pub returns-clause-fields : goal.returns-clause-fields
returns-clause-fields g c =
    let all : take c.loop-done.done c.args.ordinals.now ≡ c.args.ordinals.now = take_all c.loop-done.done c.args.ordinals.now (omega arith) in
    subst (All (HasSizes c.args.self.now)) all c.loop-done.invariant.fields
