use Rattle.std.proofs.Common.{rules, ◌≡◌, ◌<◌, length, inl, inr, refl, sym, ◌∙◌, ap}
use Rattle.std.specs.Prelude.{slice_get, slice_set}
use Rattle.std.specs.declared.option.Option.TheVariants.{Some}
use Rattle.tm_client.specs.Asking.{IsHeldBy, IsOpen}
use Rattle.tm_task.specs.declared.stage.Stage.TheVariants.{Asks, Waits}
use Rattle.tm_task.proofs.Asks.{blocked_by, refused_counts, room_counts}
use Rattle.tm_task.proofs.Places.{all_at, read_at, set_back, set_twice}
use Rattle.tm_task.proofs.tasks.Tasks.ask.Goals as goal

pub index-requires-2 : goal.index-requires-2
index-requires-2 g c =
    let stages = c.args.self.now.stages.items in
    let at : slice_get stages c.args.number ≡ Some (Asks c.in-Asks.trust c.in-Asks.op c.in-Asks.task) =
    read_at stages c.args.number c.index_mut.result.now c.requires.number c.index_mut.ensures.value ∙ ap (λ s. Some s) (sym c.in-Asks.ensures.value) in
    let lt : c.in-Asks.trust < length c.args.self.now.trusts.items = c.requires.in_range c.args.number (Asks c.in-Asks.trust c.in-Asks.op c.in-Asks.task) at in
    search rules

pub returns-in-Ok-clause-may : goal.returns-in-Ok-clause-may
returns-in-Ok-clause-may g c =
    let stages = c.args.self.now.stages.items in
    let at : slice_get stages c.args.number ≡ Some (Asks c.in-Asks.trust c.in-Asks.op c.in-Asks.task) =
    read_at stages c.args.number c.index_mut.result.now c.requires.number c.index_mut.ensures.value ∙ ap (λ s. Some s) (sym c.in-Asks.ensures.value) in
    let lt : c.in-Asks.trust < length c.args.self.now.trusts.items = c.requires.in_range c.args.number (Asks c.in-Asks.trust c.in-Asks.op c.in-Asks.task) at in
    inl (record {
      i = c.in-Asks.trust;
      op = c.in-Asks.op;
      trust = c.index-2.result.now;
      told = c.asked-told.ensures;
      steps = record {
        task = c.in-Asks.task;
        was = at;
        now = set_twice stages c.args.number c.replace-stage.new.dest (Waits c.in-Asks.trust c.in-Asks.task);
      };
      of_trust = read_at c.args.self.now.trusts.items c.in-Asks.trust c.index-2.result.now lt c.index-2.ensures;
      room_there = room_counts (slice_get c.args.client.now.books.lanes.items c.index-2.result.now.trustee) c.in-Ok.ensures.may.2;
      asked = c.in-Ok.ensures.asked;
      rest = record { trusts = refl; room = refl; stages_room = refl; outs = refl };
    })

pub returns-in-Err-clause-may : goal.returns-in-Err-clause-may
returns-in-Err-clause-may g c =
    let stages = c.args.self.now.stages.items in
    let trusts = c.args.self.now.trusts.items in
    let books = c.args.client.now.books in
    let trust = c.index-2.result.now in
    let at : slice_get stages c.args.number ≡ Some (Asks c.in-Asks.trust c.in-Asks.op c.in-Asks.task) =
    read_at stages c.args.number c.index_mut.result.now c.requires.number c.index_mut.ensures.value ∙ ap (λ s. Some s) (sym c.in-Asks.ensures.value) in
    let lt : c.in-Asks.trust < length trusts = c.requires.in_range c.args.number (Asks c.in-Asks.trust c.in-Asks.op c.in-Asks.task) at in
    let of = read_at trusts c.in-Asks.trust trust lt c.index-2.ensures in
    let may = all_at (λ t. IsHeldBy books t × IsOpen books t.trustee) trusts c.in-Asks.trust trust c.requires.holds of in
    let some = refused_counts books trust c.in-Err.refused.why may c.in-Err.ensures.why in
    let op = ap (λ p. p.0) c.in-Err.ensures.back in
    inr (record {
      told = refl;
      stages = ap (λ o. slice_set (slice_set stages c.args.number c.replace-stage.new.dest) c.args.number (Asks c.in-Asks.trust o c.in-Asks.task)) op
          ∙ set_back stages c.args.number (Asks c.in-Asks.trust c.in-Asks.op c.in-Asks.task) c.replace-stage.new.dest at;
      books = ap (λ v. v.books) c.in-Err.ensures.err;
      blocked = λ i o task e.
          blocked_by stages trusts c.args.number c.in-Asks.trust c.in-Asks.op c.in-Asks.task books trust at of some i o task e;
      rest = record { trusts = refl; room = refl; stages_room = refl; outs = refl };
    })
