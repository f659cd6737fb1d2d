use Rattle.std.proofs.Common.{length, refl, ap}
use Rattle.std.proofs.lemmas.Option.{slice_get_read}
use Rattle.tm_trustee.proofs.AboveBye.{on_ok}
use Rattle.tm_trustee.proofs.lane.Lane.ask.Goals as goal

pub returns : goal.returns
returns g c =
    let lane = c.args.self.now in
    let askers = on_ok c.try_push_back.result (c.try_push_back.ensures.variant.1 c.requires.askers) c.try_push_back.ensures.ok in
    let waits = on_ok c.try_push_back-2.result (c.try_push_back-2.ensures.variant.1 c.requires.waits) c.try_push_back-2.ensures.ok in
    record {
      stage = refl;
      names = refl;
      came = refl;
      askers = ap (λ b. b.items) askers;
      askers_room = ap (λ b. b.capacity) askers;
      asks =
          (c.index-name.result.now, slice_get_read lane.names.items (length lane.names.items) c.args.index c.index-name.result.now refl c.requires.name c.index-name.ensures, ap (λ b. b.items) waits);
      waits_room = ap (λ b. b.capacity) waits;
    }
