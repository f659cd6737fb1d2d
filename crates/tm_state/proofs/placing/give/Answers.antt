use Rattle.std.proofs.Common.{◌<◌, length, List, ap, arith}
use Rattle.tm_batch.specs.declared.message.Name.{Name}
use Rattle.tm_objects.specs.Live.{object_of}
use Rattle.tm_objects.specs.Stock.{gifts_of}
use Rattle.tm_state.proofs.OpenedObjects.{count_few, given_is}
use Rattle.tm_state.proofs.placing.give.Goals as goal

pub returns : goal.returns
returns g c =
    let s = c.args.objects.now in
    let waits : length (gifts_of s.gifts c.args.to) < 1024 = let e = ap (λ (l : List Name). length l) c.requires.none in omega (arith, e) in
    let few = count_few (object_of s.live c.args.name.id) c.args.to c.requires.live in
    given_is c.args.name c.args.to s _ _ c.requires.place c.requires.none (c.grant.ensures.granted waits few).1 c.take_gift.ensures.taken
