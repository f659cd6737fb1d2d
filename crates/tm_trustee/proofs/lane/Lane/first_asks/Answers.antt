use Rattle.std.proofs.Common.{◌≡◌, ◌++◌, take, drop, ◌∙◌, ap, arith}
use Rattle.tm_batch.specs.declared.limits.TheConstants.{MOST_REQUESTS}
use Rattle.tm_trustee.specs.declared.lane.Lane.{Lane}
use Rattle.tm_trustee.proofs.Fronts.{front_more, rest_less}
use Rattle.tm_trustee.proofs.lane.Lane.first_asks.Goals as goal

pub loop-preserved : goal.loop-preserved
loop-preserved g c =
    let i = c.loop.invariant in record {
      batch = c.take_one.ensures.requests ∙ ap (λ l. l ++ take 1 c.loop.self.waits.items) i.batch
          ∙ ap (λ l. take c.loop.counter c.args.self.now.waits.items ++ take 1 l) i.waits ∙ front_more c.loop.counter c.args.self.now.waits.items;
      waits = c.take_one.ensures.rest ∙ ap (drop 1) i.waits ∙ rest_less c.loop.counter c.args.self.now.waits.items;
      capacity = c.take_one.ensures.capacity ∙ i.capacity;
      room = c.take_one.ensures.room ∙ i.room;
      only = ap (λ (x : Lane _ _ _ _). record x { waits = c.take_one.new.waits }) i.only;
    }

pub returns-clause-goes : goal.returns-clause-goes
returns-clause-goes g c =
    let i = c.loop.invariant in
    let all : c.loop.counter ≡ MOST_REQUESTS = omega (arith, c.loop-test.false, c.loop.auto.counter-end) in record {
      is_first = i.batch ∙ ap (λ n. take n c.args.self.now.waits.items) all;
      stage = ap (λ (x : Lane _ _ _ _). x.stage) i.only;
      names = ap (λ (x : Lane _ _ _ _). x.names) i.only;
      askers = ap (λ (x : Lane _ _ _ _). x.askers) i.only;
      waits = i.waits ∙ ap (λ n. drop n c.args.self.now.waits.items) all;
      room = i.capacity;
      came = ap (λ (x : Lane _ _ _ _). x.came) i.only;
    }
