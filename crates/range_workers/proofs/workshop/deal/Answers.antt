use Rattle.std.proofs.Common.{Some, arith, length-append, [], ◌∷◌, ap, length, refl, ◌∙◌}
use Rattle.std.proofs.lemmas.List.Elements.{All-nil, All-pop, All-push, All-same}
use Rattle.range_workers.specs.Round.{HasRoom}
use Rattle.range_workers.proofs.workshop.deal.Goals as goal

pub loop-init : goal.loop-init
loop-init c = record {
  rooms = λ room all. (All-same (HasRoom room) c.args.to.now.items [] c.requires.none (All-nil (HasRoom room)), all);
  dealt = ap length c.requires.none;
  left = omega arith;
  to_fit = refl;
  from_fit = refl;
}

pub loop-preserved : goal.loop-preserved
loop-preserved c =
    let page = c.take_last.result in
    record {
      rooms = λ room all.
          let before = c.loop.invariant.rooms room all in
          let rest = All-pop (HasRoom room) c.loop.from.items c.take_last.new.self.items (Some page) c.take_last.ensures.items before.1 in (
            All-same (HasRoom room) c.push_reserved.new.self.items _ c.push_reserved.ensures.items (All-push (HasRoom room) c.loop.to.items page before.0 rest.1),
            rest.0,
          );
      dealt = omega (arith, ap length c.push_reserved.ensures.items, length-append c.loop.to.items (page ∷ []), c.loop.invariant.dealt);
      left = omega (arith, ap length c.take_last.ensures.items, length-append c.take_last.new.self.items (page ∷ []), c.loop.invariant.left);
      to_fit = c.push_reserved.ensures.capacity ∙ c.loop.invariant.to_fit;
      from_fit = c.take_last.ensures.capacity ∙ c.loop.invariant.from_fit;
    }
