use Rattle.std.proofs.Common.{◌+◌, ◌≤◌, ◌++◌, ◌∙◌, false, length, refl, sym, ap, subst, arith, append_assoc}
use Rattle.std.specs.Prelude.{nat_eq}
use Rattle.std.specs.List.{IsDistinct}
use Rattle.std.proofs.lemmas.Option.{slice_get_read}
use Rattle.tm_client.specs.Receiving.{MayReceive}
use Rattle.tm_client.specs.Launches.{ended_tickets, tickets_of, launches_left, arrivals_of, finished_of, with_told}
use Rattle.tm_client.specs.Turns.{gifts_from}
use Rattle.tm_client.proofs.Fronts.{some_has}
use Rattle.tm_client.proofs.turning.take_in.Goals as goal

pub overflow_sub-books : goal.overflow_sub-books
overflow_sub-books g c =
    let books = c.args.books.now in
    let lane = c.index_mut-lane.result.now in
    let there = slice_get_read books.lanes.items (length books.lanes.items) c.args.trustee lane refl c.requires.trustee c.index_mut-lane.ensures.value in
    let may = some_has _ lane (λ lane. MayReceive c.args.batch lane books) there c.requires.room in
    let fit = may.fit in
    let many = c.len-gifts.ensures.value in
    omega (arith, fit, many)

pub overflow_sub-books-2 : goal.overflow_sub-books-2
overflow_sub-books-2 g c =
    let books = c.args.books.now in
    let lane = c.index_mut-lane.result.now in
    let there = slice_get_read books.lanes.items (length books.lanes.items) c.args.trustee lane refl c.requires.trustee c.index_mut-lane.ensures.value in
    let may = some_has _ lane (λ lane. MayReceive c.args.batch lane books) there c.requires.room in
    let coming = may.coming in
    omega (arith, coming)

pub arrive-requires : goal.arrive-requires
arrive-requires g c =
    let books = c.args.books.now in
    let lane = c.index_mut-lane.result.now in
    let there = slice_get_read books.lanes.items (length books.lanes.items) c.args.trustee lane refl c.requires.trustee c.index_mut-lane.ensures.value in
    let may = some_has _ lane (λ lane. MayReceive c.args.batch lane books) there c.requires.room in
    let room = may.arrived in
    (g.met.S.FitsAnswers.fits, (omega (arith, room), may.launched))

pub finish-requires : goal.finish-requires
finish-requires g c =
    let books = c.args.books.now in
    let lane = c.index_mut-lane.result.now in
    let there = slice_get_read books.lanes.items (length books.lanes.items) c.args.trustee lane refl c.requires.trustee c.index_mut-lane.ensures.value in
    let may = some_has _ lane (λ lane. MayReceive c.args.batch lane books) there c.requires.room in
    let was = c.arrive.ensures in
    let count = was.count in
    let capacity = was.capacity in
    let room = may.arrived in (
      g.met.S.FitsAnswers.fits,
      (
        subst (λ ls. IsDistinct nat_eq (tickets_of ls)) (sym was.launched) may.once,
        (subst (λ xs. IsDistinct nat_eq (ended_tickets xs.items)) (sym was.completions) may.ended, omega (arith, count, capacity, room)),
      ),
    )

pub receive-requires : goal.receive-requires
receive-requires g c =
    let books = c.args.books.now in
    let lane = c.index_mut-lane.result.now in
    let there = slice_get_read books.lanes.items (length books.lanes.items) c.args.trustee lane refl c.requires.trustee c.index_mut-lane.ensures.value in
    let room = (some_has _ lane (λ lane. MayReceive c.args.batch lane books) there c.requires.room).gifts in
    record {
      room = subst (λ names. length books.gifts.items + length names.items ≤ books.gifts.capacity) (sym (c.finish.ensures.gifts ∙ c.arrive.ensures.gifts)) room;
    }

pub returns-clause-received : goal.returns-clause-received
returns-clause-received g c =
    let books = c.args.books.now in
    let lane = c.index_mut-lane.result.now in
    let there = slice_get_read books.lanes.items (length books.lanes.items) c.args.trustee lane refl c.requires.trustee c.index_mut-lane.ensures.value in
    let may = some_has _ lane (λ lane. MayReceive c.args.batch lane books) there c.requires.room in
    let came = c.arrive.ensures in
    let ended = c.finish.ensures in
    record {
      lane = lane;
      becomes = record lane { afters = c.arrive.new.afters; launched = c.finish.new.launched; out = false; room = 0 };
      side = refl;
      received = record {
        of_lane = there;
        lanes = refl;
        waits = refl;
        afters = came.afters;
        afters_room = came.afters_room;
        counting = refl;
        fetching = refl;
        closing = refl;
        said = refl;
        out = refl;
        room = refl;
        arrived =
            ended.arrived ∙ ap (λ l. l ++ finished_of c.args.trustee c.arrive.new.launched.items c.arrive.new.batch.completions.items) came.arrived
            ∙ append_assoc books.arrived.items (arrivals_of c.args.trustee lane.afters.items c.args.batch.answers.items)
            (finished_of c.args.trustee c.arrive.new.launched.items c.arrive.new.batch.completions.items)
            ∙ ap (λ ls. books.arrived.items ++ (arrivals_of c.args.trustee lane.afters.items c.args.batch.answers.items ++ finished_of c.args.trustee ls c.arrive.new.batch.completions.items)) came.launched
            ∙ ap (λ xs. books.arrived.items ++ (arrivals_of c.args.trustee lane.afters.items c.args.batch.answers.items ++ finished_of c.args.trustee (with_told lane c.args.batch) xs.items)) came.completions;
        launched =
            ended.launched ∙ ap (λ ls. launches_left (ended_tickets c.arrive.new.batch.completions.items) ls) came.launched
            ∙ ap (λ xs. launches_left (ended_tickets xs.items) (with_told lane c.args.batch)) came.completions;
        launched_room = ended.launched_room ∙ came.launched_room;
        arrived_room = ended.capacity ∙ came.capacity;
        gifts =
            c.receive.ensures.gifts
            ∙ ap (λ names. books.gifts.items ++ gifts_from c.args.trustee books.number names.items) (ended.gifts ∙ came.gifts);
        gifts_room = c.receive.ensures.capacity;
        coming =
            let fit = may.fit in
            let coming = may.coming in
            let many = c.len-gifts.ensures.value in
            omega (arith, fit, coming, many);
        held = refl;
        number = refl;
        clients = refl;
        most = refl;
      };
    }
