use Rattle.std.proofs.Common.{◌≡◌, ◌+◌, ◌-◌, ◌%◌, ℕ, List, Option, Some, get_or, length, option_map, ap, ap₂, arith, sym, ◌∙◌}
use Rattle.std.proofs.lemmas.List.{get_or-map, length-map}
use Rattle.schema_facts.specs.declared.layout.Span.{Span}
use Rattle.schema_facts.specs.Dictionaries.{Project}
use Rattle.life_intervals.specs.declared.orders.Purpose.TheVariants.{Lives}
use Rattle.life_intervals.specs.CohortOrders.{place_for}
use Rattle.life_intervals.specs.Ends.{earlier_end}
use Rattle.life_intervals.specs.Generator.{generator_of, last_unit}
use Rattle.life_intervals.specs.Intervals.{own_death}
use Rattle.life_intervals.specs.Rows.{life_by}
use Rattle.life_intervals.proofs.PartLemmas.{place_for-own_death}
use Rattle.life_intervals.proofs.rows.Rows.put_part_own_ends.Goals as goal

pub returns-clause-ends : goal.returns-clause-ends
returns-clause-ends g c =
    let plan : Project = c.args.self.now in
    let ordinals = c.args.ordinals.now in
    let born : ℕ = c.args.born in
    let life : Span = c.args.life in
    let place : ℕ → ℕ = place_for plan c.args.table Lives born in
    let long : length c.put_places.new.places ≡ length ordinals = ap length c.put_places.ensures.places ∙ length-map ordinals place in
    record {
      same_length = c.put_earlier.ensures.same_length ∙ long;
      each = λ i below.
          let j : ℕ = get_or ordinals i 0 in
          let placed : get_or c.put_places.new.places i 0 ≡ place j = ap (λ (places : List ℕ). get_or places i 0) c.put_places.ensures.places ∙ get_or-map place ordinals i 0 0 below in
          let death : own_death (generator_of plan) c.args.table (last_unit plan) j ≡ Some (born + (life.least + place j % (life.most - life.least + 1))) =
          place_for-own_death plan c.args.table born c.requires.unit j (c.requires.lie i 0 below) (last_unit plan) c.requires.unit
          ∙ ap (λ (span : Option Span). option_map (λ l. born + l) (life_by span (place j))) (sym c.requires.life) in
          let sum : born + life.least + place j % (life.most - life.least + 1) ≡ born + (life.least + place j % (life.most - life.least + 1)) = omega arith in
          c.put_earlier.ensures.each i (omega (arith, below, long))
          ∙ ap₂ (λ (p n : ℕ). earlier_end (get_or c.args.ends.now i 0) (Some (born + life.least + p % n))) placed c.requires.lengths
          ∙ ap (λ (unit : ℕ). earlier_end (get_or c.args.ends.now i 0) (Some unit)) sum
          ∙ ap (earlier_end (get_or c.args.ends.now i 0)) (sym death);
    }
