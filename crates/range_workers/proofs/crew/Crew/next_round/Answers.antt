use Rattle.std.proofs.Common.{◌≡◌, ◌+◌, ◌*◌, ◌≤◌, ◌⊎◌, ℕ, List, ap, arith, refl, subst, sym, ◌∙◌}
use Rattle.std.proofs.lemmas.List.Elements.{All-nil}
use Rattle.ordered_sink.specs.Ordered.{Round}
use Rattle.range_workers.specs.declared.work.RoundClaims.{RoundClaims}
use Rattle.range_workers.specs.Crew.{IsOffering}
use Rattle.range_workers.specs.Round.{IsPageOf, numbers_of}
use Rattle.range_workers.specs.Rule.{times}
use Rattle.range_workers.proofs.OfferLemmas.{few_claims, still_few}
use Rattle.range_workers.proofs.crew.Crew.next_round.Goals as goal

pub returns : goal.returns
returns g c =
    let text : ℕ → List ℕ = g.P.Packer.text c.args.packer.now in
    let at = c.requires.at in
    let old = c.args.self.now in
    let shop = c.run_round-self.new.self in
    let ordered = c.offer_all.new.ordered in
    let round : RoundClaims = record { first = c.args.n; base = old.claimed; end = old.claimed + c.min-count.result } in
    let made = c.run_round-self.ensures.made in
    let same = c.run_round-self.ensures.same in
    let start : IsOffering text shop.room round shop.made.items c.restart.new.self =
    subst (IsOffering text shop.room round shop.made.items) (sym c.restart.ensures)
    (record {
      first = refl;
      count = refl;
      handed = refl;
      made = made.made;
      waiting = All-nil (IsPageOf text shop.room round);
      each = λ k from below. omega (arith, made.each k from below);
    }) in
    let offering = c.offer_all.ensures.offered text shop.room round start in
    let none : (k : ℕ) → times k (numbers_of c.offer_all.new.made.items) ≡ 0 = λ k. ap (λ pages. times k (numbers_of pages)) c.offer_all.ensures.all in
    let part : ordered.count ≡ c.min-count.result = omega (arith, offering.count) in
    let few = few_claims old.claimed old.round.first old.ordered.count old.ordered.handed c.args.n (g.P.Packer.count c.args.packer.now) at.far at.at c.requires.used_up c.requires.number in
    record {
      at = record {
        staffed = record {
          seat = made.staffed.seat;
          knows = made.staffed.knows;
          all = made.staffed.all;
          few = made.staffed.few;
          cleared = made.staffed.cleared;
          rooms = made.staffed.rooms;
          benches_fit = made.staffed.benches_fit;
          workers_fit = made.staffed.workers_fit;
          pages_fit = made.staffed.pages_fit;
          made_fit = omega (arith, made.staffed.made_fit, c.offer_all.ensures.made_fit);
        };
        in_house = made.in_house;
        none = c.offer_all.ensures.all;
        rooms = same.room ∙ at.rooms;
        some = omega (arith, same.count, at.some);
        claimed = made.all;
        capacity = omega (arith, c.offer_all.ensures.capacity, ap (λ (it : Round). it.capacity) c.restart.ensures, at.capacity, same.count);
        first = offering.first;
        part = offering.count;
        handed = omega (arith, offering.handed);
        at = omega (arith, offering.handed);
        pages = omega (arith, made.pages, offering.count, offering.handed);
        waiting = offering.waiting;
        each = λ k from below. omega (arith, offering.each k (omega (arith, from)) below, none k);
        far =
            subst (λ (part : ℕ). (c.run_round-self.result ≤ 2 * (c.args.n + part)) ⊎ (g.P.Packer.count c.args.packer.now ≤ c.args.n + part)) (sym part)
            (still_few c.run_round-self.result old.claimed c.args.n shop.count c.min-count.result (g.P.Packer.count c.args.packer.now) few made.most
            (omega (arith, c.min-count.ensures, c.count.ensures.count, same.count)) c.requires.number);
      };
      begun = omega (arith, offering.handed, part, c.min-count.ensures, c.count.ensures.count, c.requires.number, at.some);
    }
