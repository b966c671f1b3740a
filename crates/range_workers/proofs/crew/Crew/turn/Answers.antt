use Rattle.std.proofs.Common.{◌≡◌, ◌+◌, ◌∷◌, ℕ, List, [], Some, ap, arith, length, length-append, rules, subst, sym, ◌∙◌}
use Rattle.std.specs.Prelude.{IsSome, Option}
use Rattle.std.proofs.lemmas.List.Elements.{All-push, All-same}
use Rattle.line_pages.specs.Pages.{Page}
use Rattle.ordered_sink.specs.declared.offers.Numbered.{Numbered}
use Rattle.ordered_sink.specs.Ordered.{Round, due, without_page}
use Rattle.range_workers.specs.declared.workshop.Workshop.{Workshop}
use Rattle.range_workers.specs.Crew.{IsCrewAt}
use Rattle.range_workers.specs.Round.{HasRoom, IsPageOf, package_of_claim}
use Rattle.range_workers.proofs.OfferLemmas.{All-without, after_next-some, last_of_pushed, page_due, times-without}
use Rattle.range_workers.proofs.crew.Crew.turn.Goals as goal

pub unwrap-page-requires : goal.unwrap-page-requires
unwrap-page-requires g c =
    let crew = c.make_ready.new.self in
    let page = page_due _ _ _ c.args.n crew c.make_ready.ensures.at c.make_ready.ensures.begun in
    subst (λ (told : Option Numbered). IsSome told) (sym (c.next_page.ensures.page ∙ page.is)) (search rules)

pub returns : goal.returns
returns g c =
    let text : ℕ → List ℕ = g.P.Packer.text c.args.packer.now in
    let n : ℕ = c.args.n in
    let crew = c.make_ready.new.self in
    let at = c.make_ready.ensures.at in
    let Is : Numbered → Type 0 = IsPageOf text crew.shop.room crew.round in
    let before = crew.ordered in
    let it = c.unwrap-page.result in
    let found = page_due text (g.P.Packer.count c.args.packer.now) (g.P.Packer.room c.args.packer.now) n crew at c.make_ready.ensures.begun in
    let twice : Some it ≡ Some found.page = sym c.unwrap-page.ensures ∙ (c.next_page.ensures.page ∙ found.is) in
    let same : it ≡ found.page = cc twice in
    let is : Is it = subst Is (sym same) found.holds in
    let number : it.n ≡ due before = ap (λ (page : Numbered). page.n) same ∙ found.number in
    let after : c.next_page.new.self ≡ record before { handed = before.handed + 1; waiting = without_page (due before) before.waiting } =
    c.next_page.ensures.after ∙ after_next-some before found.page found.is in
    let shop : Workshop = record crew.shop { pages = c.push_reserved.new.self } in
    let pushed : length c.push_reserved.new.self.items ≡ length crew.shop.pages.items + 1 =
    ap length c.push_reserved.ensures.items ∙ length-append crew.shop.pages.items (it.page ∷ []) in
    let stands_for : package_of_claim crew.round it.n ≡ n = omega (arith, number, at.at, at.first) in
    record {
      at =
          subst (λ (now : Round). IsCrewAt text (g.P.Packer.count c.args.packer.now) (g.P.Packer.room c.args.packer.now) (n + 1) (record crew { shop = shop; ordered = now })) (sym after)
          (record {
            staffed = record {
              seat = at.staffed.seat;
              knows = at.staffed.knows;
              all = at.staffed.all;
              few = at.staffed.few;
              cleared = at.staffed.cleared;
              rooms = All-same (HasRoom crew.shop.room) c.push_reserved.new.self.items _ c.push_reserved.ensures.items
                  (All-push (HasRoom crew.shop.room) crew.shop.pages.items it.page at.staffed.rooms (ap (λ (page : Page). page.room) is.is));
              benches_fit = at.staffed.benches_fit;
              workers_fit = at.staffed.workers_fit;
              pages_fit = omega (arith, at.staffed.pages_fit, c.push_reserved.ensures.capacity);
              made_fit = at.staffed.made_fit;
            };
            in_house = at.in_house;
            none = at.none;
            rooms = at.rooms;
            some = at.some;
            claimed = at.claimed;
            capacity = at.capacity;
            first = at.first;
            part = at.part;
            handed = omega (arith, c.make_ready.ensures.begun);
            at = omega (arith, at.at);
            pages = omega (arith, at.pages, pushed);
            waiting = All-without Is (due before) before.waiting at.waiting;
            each = λ k from below.
                times-without k (due before) before.waiting (λ (same : k ≡ due before). omega (arith, same, from, at.first)) ∙ at.each k (omega (arith, from)) below;
            far = at.far;
          });
      page =
          ap (λ (page : Page). page.text) (last_of_pushed c.push_reserved.new.self.items crew.shop.pages.items it.page _ c.push_reserved.ensures.items ∙ is.is)
          ∙ ap text stands_for;
      some = omega (arith, pushed);
    }
