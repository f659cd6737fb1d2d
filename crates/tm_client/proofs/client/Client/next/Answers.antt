use Rattle.std.proofs.Common.{rules, ◌≡◌, length, refl}
use Rattle.std.specs.Prelude.{slice_get}
use Rattle.std.specs.declared.option.Option.TheVariants.{Some}
use Rattle.std.proofs.lemmas.Option.{slice_get_read}
use Rattle.tm_client.proofs.Taken as taken
use Rattle.tm_client.proofs.client.Client.next.Goals as goal

pub overflow_sub-index_mut : goal.overflow_sub-index_mut
overflow_sub-index_mut g c =
    let (openings, is) = c.requires.client in
    let e : slice_get c.args.self.now.books.arrived.items 0 ≡ Some c.in-Some.arrival = search rules in
    let one = taken.is_first g.P.PairTable.theory.client_view openings c.args.self.now.books c.in-Some.arrival is e in
    let there =
    slice_get_read c.args.self.now.books.lanes.items (length c.args.self.now.books.lanes.items) c.in-Some.arrival.trustee c.index_mut.result.now refl one.within
    c.index_mut.ensures.value in
    one.counts c.index_mut.result.now there

pub returns-clause-next : goal.returns-clause-next
returns-clause-next g c =
    let (openings, is) = c.requires.client in
    let e : slice_get c.args.self.now.books.arrived.items 0 ≡ Some c.in-Some.arrival = search rules in
    let one = taken.is_first g.P.PairTable.theory.client_view openings c.args.self.now.books c.in-Some.arrival is e in
    let there =
    slice_get_read c.args.self.now.books.lanes.items (length c.args.self.now.books.lanes.items) c.in-Some.arrival.trustee c.index_mut.result.now refl one.within
    c.index_mut.ensures.value in
    record {
      came = c.in-Some.arrival.came;
      name = c.in-Some.arrival.name;
      t = c.in-Some.arrival.trustee;
      lane = c.index_mut.result.now;
      becomes = _;
      first = rw c.pop_front.ensures.items (taken.first_drop c.args.self.now.books.arrived.items c.in-Some.arrival e);
      capacity = rw c.pop_front.ensures.items refl;
      is_got = c.handed-got.ensures.got;
      coming = c.handed-got.ensures.coming;
      of_lane = there;
      counts = record {
        side = refl;
        waits = refl;
        afters = refl;
        launched = refl;
        counting = taken.back_again c.index_mut.result.now.counting 1 (one.counts c.index_mut.result.now there);
        out = refl;
        room = refl;
        fetching = refl;
        closing = refl;
        said = refl;
      };
      lanes = refl;
      gifts = refl;
      number = refl;
      clients = refl;
      most = refl;
    }

pub returns-clause-client : goal.returns-clause-client
returns-clause-client g c = λ openings is.
    let e : slice_get c.args.self.now.books.arrived.items 0 ≡ Some c.in-Some.arrival = search rules in
    let one = taken.is_first g.P.PairTable.theory.client_view openings c.args.self.now.books c.in-Some.arrival is e in
    let there =
    slice_get_read c.args.self.now.books.lanes.items (length c.args.self.now.books.lanes.items) c.in-Some.arrival.trustee c.index_mut.result.now refl one.within
    c.index_mut.ensures.value in
    taken.taking_keeps g.P.PairTable.theory.client_view openings c.in-Some.arrival.after c.handed-got.result c.args.self.now.books _ is (record {
      came = c.in-Some.arrival.came;
      name = c.in-Some.arrival.name;
      t = c.in-Some.arrival.trustee;
      lane = c.index_mut.result.now;
      becomes = _;
      first = rw c.pop_front.ensures.items (taken.first_drop c.args.self.now.books.arrived.items c.in-Some.arrival e);
      capacity = rw c.pop_front.ensures.items refl;
      is_got = c.handed-got.ensures.got;
      coming = c.handed-got.ensures.coming;
      of_lane = there;
      counts = record {
        side = refl;
        waits = refl;
        afters = refl;
        launched = refl;
        counting = taken.back_again c.index_mut.result.now.counting 1 (one.counts c.index_mut.result.now there);
        out = refl;
        room = refl;
        fetching = refl;
        closing = refl;
        said = refl;
      };
      lanes = refl;
      gifts = refl;
      number = refl;
      clients = refl;
      most = refl;
    })
