use Rattle.std.proofs.Common.{◌≡◌, ◌+◌, ◌-◌, min, length, arith, refl, sym, ◌∙◌, ap, subst}
use Rattle.tm_batch.specs.declared.limits.TheConstants.{MOST_ROOM}
use Rattle.std.specs.declared.option.Option.TheVariants.{None}
use Rattle.std.proofs.lemmas.Option.{slice_get_read}
use Rattle.tm_pair.specs.Calls.{Publishes}
use Rattle.tm_pair.specs.Sides.{IsGoodClient}
use Rattle.tm_client.specs.Listing.{held_count}
use Rattle.tm_client.specs.Lanes.{IsLane}
use Rattle.tm_client.specs.Clients.{come_of}
use Rattle.tm_client.proofs.Fronts.{some_has, set_there, set_same}
use Rattle.tm_client.proofs.Leaving.{left_goes, left_is_due, nothing_is_due}
use Rattle.tm_client.proofs.Looking.{same_extends}
use Rattle.tm_client.proofs.Seeing.{sees_at}
use Rattle.tm_client.proofs.Sending.{sending_keeps}
use Rattle.tm_client.proofs.client.Client.send.Goals as goal

pub post_due-count-requires-clause-mine : goal.post_due-count-requires-clause-mine
post_due-count-requires-clause-mine g c =
    let theory = g.P.PairTable.theory in
    let books = c.args.self.now.books in
    let lane = c.index_mut.result.now in
    let there = slice_get_read books.lanes.items (length books.lanes.items) c.args.trustee lane refl c.requires.trustee c.index_mut.ensures.value in
    some_has _ lane (λ lane. theory.HasClient c.args.table.now lane.side) there c.requires.mine

pub post_due-count-requires-clause-free : goal.post_due-count-requires-clause-free
post_due-count-requires-clause-free g c =
    let theory = g.P.PairTable.theory in
    let books = c.args.self.now.books in
    let lane = c.index_mut.result.now in
    let there = slice_get_read books.lanes.items (length books.lanes.items) c.args.trustee lane refl c.requires.trustee c.index_mut.ensures.value in
    some_has _ lane (λ lane. (theory.client_view lane.side).out ≡ None) there c.requires.free

pub post_due-count-requires-clause-lane : goal.post_due-count-requires-clause-lane
post_due-count-requires-clause-lane g c =
    let theory = g.P.PairTable.theory in
    let books = c.args.self.now.books in
    let lane = c.index_mut.result.now in
    let there = slice_get_read books.lanes.items (length books.lanes.items) c.args.trustee lane refl c.requires.trustee c.index_mut.ensures.value in
    let (openings, same, is) = c.requires.client in (
      books.number,
      come_of c.args.trustee books.arrived.items,
      subst (λ s. IsLane theory.client_view s books.number (come_of c.args.trustee books.arrived.items) lane) same (is.lanes c.args.trustee lane there),
    )

pub returns-clause-client : goal.returns-clause-client
returns-clause-client g c = λ openings same is.
    let theory = g.P.PairTable.theory in
    let books = c.args.self.now.books in
    let lane = c.index_mut.result.now in
    let there = slice_get_read books.lanes.items (length books.lanes.items) c.args.trustee lane refl c.requires.trustee c.index_mut.ensures.value in
    let mine = some_has _ lane (λ lane. theory.HasClient c.args.table.now lane.side) there c.requires.mine in
    let free = some_has _ lane (λ lane. (theory.client_view lane.side).out ≡ None) there c.requires.free in
    let posts = c.post_due-count.ensures in
    let good =
    subst (λ s. IsGoodClient g.S.Entrusted.kind s (theory.client_view lane.side)) (sym same) (g.met.P.PairTable.laws.client_is_good c.args.table.now lane.side mine) in
    let fits = c.room_of-room.ensures.fits in
    let many = c.len.ensures in
    sending_keeps g.S.Entrusted.kind theory.client_view openings c.args.trustee posts.batch.requests.items c.room_of-room.result lane c.post_due-count.new.lane books _ is (
    record {
      of_lane = there;
      lanes = refl;
      goes = left_goes posts.batch.requests.items lane c.post_due-count.new.lane posts.leaves;
      waits_room = posts.waits_room;
      afters = posts.afters;
      launched = posts.launched;
      counting = posts.counting;
      fetching = posts.fetching;
      closing = posts.closing;
      out = posts.out;
      room_of = posts.room_of;
      coming = refl;
      fits = omega (arith, fits, many);
      arrived = refl;
      gifts = refl;
      held = refl;
      number = refl;
      clients = refl;
      most = refl;
    }
    ) good free posts.publishes

pub returns-clause-turned : goal.returns-clause-turned
returns-clause-turned g c =
    let theory = g.P.PairTable.theory in
    let books = c.args.self.now.books in
    let lane = c.index_mut.result.now in
    let there = slice_get_read books.lanes.items (length books.lanes.items) c.args.trustee lane refl c.requires.trustee c.index_mut.ensures.value in
    let mine = some_has _ lane (λ lane. theory.HasClient c.args.table.now lane.side) there c.requires.mine in
    let free = some_has _ lane (λ lane. (theory.client_view lane.side).out ≡ None) there c.requires.free in
    let (openings, same, is) = c.requires.client in
    let posts = c.post_due-count.ensures in
    let becomes = c.post_due-count.new.lane in
    let length_is : c.len.result ≡ held_count books.held = c.len.ensures in
    let good =
    subst (λ s. IsGoodClient g.S.Entrusted.kind s (theory.client_view becomes.side)) (posts.keeps.opening ∙ sym same)
    (g.met.P.PairTable.laws.client_is_good c.post_due-count.new.table becomes.side posts.keeps.mine) in
    record {
      lane = lane;
      becomes = becomes;
      turns = record { of_lane = there; lanes = refl; closing = posts.closing; number = refl; clients = refl; most = refl; held = refl };
      tells = record {
        batch = posts.batch;
        free = free;
        due = left_is_due theory (openings c.args.trustee) books.number (come_of c.args.trustee books.arrived.items) lane (is.lanes c.args.trustee lane there)
            posts.batch.requests.items becomes posts.leaves;
        room = posts.room_is ∙ c.room_of-room.ensures.value ∙ ap (λ n. min (books.most - (n + books.coming)) MOST_ROOM) length_is;
        count = posts.count;
        publishes = subst (λ n. Publishes posts.batch.requests.items n (theory.client_view lane.side) (theory.client_view becomes.side)) (sym posts.room_is) posts.publishes;
        did = posts.did;
        arrived = refl;
        gifts = refl;
        afters = posts.afters;
        launched = posts.launched;
        counting = posts.counting;
        fetching = posts.fetching;
      };
      keeps = posts.keeps;
      extends = same_extends (theory.client_view lane.side) (theory.client_view becomes.side) posts.publishes.seen;
      sees =
          sees_at theory g.S.Entrusted.kind openings c.args.trustee becomes _ (returns-clause-client g c openings same is)
          (set_there books.lanes.items c.args.trustee becomes c.requires.trustee) good (theory.opening c.args.table.now) same;
    }

pub returns-then-is_idle-clause-turned : goal.returns-then-is_idle-clause-turned
returns-then-is_idle-clause-turned g c =
    let theory = g.P.PairTable.theory in
    let books = c.args.self.now.books in
    let lane = c.index.result.now in
    let there = slice_get_read books.lanes.items (length books.lanes.items) c.args.trustee lane refl c.requires.trustee c.index.ensures in
    let mine = some_has _ lane (λ lane. theory.HasClient c.args.table.now lane.side) there c.requires.mine in
    let free = some_has _ lane (λ lane. (theory.client_view lane.side).out ≡ None) there c.requires.free in
    let (openings, same, is) = c.requires.client in
    let none = c.if-is_idle.ensures.idle refl in
    let due = nothing_is_due theory (openings c.args.trustee) books.number (come_of c.args.trustee books.arrived.items) lane (is.lanes c.args.trustee lane there) none in
    let good =
    subst (λ s. IsGoodClient g.S.Entrusted.kind s (theory.client_view lane.side)) (sym same) (g.met.P.PairTable.laws.client_is_good c.args.table.now lane.side mine) in
    record {
      lane = lane;
      becomes = lane;
      turns = record { of_lane = there; lanes = sym (set_same books.lanes.items c.args.trustee lane there); closing = refl; number = refl; clients = refl; most = refl; held = refl };
      tells = record { free = free; waits = due.0; no_bye = due.1; no_fetch = due.2; kept = refl; table = refl };
      keeps = record {
        same = g.met.P.PairTable.laws.same_refl c.args.table.now;
        opening = refl;
        mine = mine;
        clients = λ other ne has. has;
        trustee = λ other has. has;
      };
      extends = same_extends (theory.client_view lane.side) (theory.client_view lane.side) refl;
      sees = sees_at theory g.S.Entrusted.kind openings c.args.trustee lane books is there good (theory.opening c.args.table.now) same;
    }
