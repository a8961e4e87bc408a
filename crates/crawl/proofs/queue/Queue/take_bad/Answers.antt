-- A URL that is bad is taken out.
use Rattle.std.proofs.Common.{◌≡◌, ◌<◌, length, refl, rules, subst, sym}
use Rattle.crawl.specs.declared.queued.Queued.{Queued}
use Rattle.crawl.specs.declared.route.Route.TheVariants.{Bad}
use Rattle.crawl.proofs.Queues.{bad_text, takes_at, takes_first}
use Rattle.crawl.proofs.queue.Queue.take_bad.Goals as goal

pub returns-clause-takes : goal.returns-clause-takes
returns-clause-takes c =
    let all = c.args.self.now.queued.items in
    let left = c.remove.new.self.items in
    let place = c.in_ok-place.place in
    let one = c.in_ok-url.field-0 in
    let below : place < length all = search rules in
    record {
      takes = record {
        each = takes_at all left place one below c.in_ok-url.ensures.value c.in_ok-url.ensures.items;
        order = λ p. takes_first all left place one below c.in_ok-url.ensures.value c.in_ok-url.ensures.items (c.in_ok-place.ensures.first p);
        left = refl;
        lines = refl;
        options = refl;
        file = refl;
      };
      skips = search rules;
      number = refl;
      idle = c.in_ok-place.ensures.idle;
      bad = bad_text one (subst (λ (q : Queued). q.route ≡ Bad) (sym c.in_ok-url.ensures.value) (c.in_ok-place.ensures.bad one));
    }
