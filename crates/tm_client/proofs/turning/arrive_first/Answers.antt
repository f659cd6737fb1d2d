use Rattle.std.proofs.Common.{rules, ◌≡◌, ◌<◌, [], ◌∷◌, ◌++◌, length, sym, ap, ◌∙◌, append-nil}
use Rattle.std.specs.Prelude.{slice_get}
use Rattle.std.specs.declared.option.Option.TheVariants.{Some}
use Rattle.tm_client.specs.declared.answers.Came.TheVariants.{Answered}
use Rattle.tm_client.specs.Launches.{arrival_by, launch_by}
use Rattle.tm_client.proofs.Moving as moving
use Rattle.tm_client.proofs.turning.arrive_first.Goals as goal

pub returns-in-Some-ticket_of-clause-arrived : goal.returns-in-Some-ticket_of-clause-arrived
returns-in-Some-ticket_of-clause-arrived g c =
    let e : slice_get c.args.afters.now.items 0 ≡ Some c.in-Some.waiting = search rules in
    let told = moving.told_so c.args.answer c.in-Some-ticket_of.ticket c.in-Some-ticket_of.ensures in
    let none : arrival_by c.args.trustee c.in-Some.waiting c.args.answer ≡ [] = ap (arrival_by c.args.trustee c.in-Some.waiting) told in
    sym (
    ap (λ l. c.args.arrived.now.items ++ l) (moving.arrivals_one c.args.trustee c.args.afters.now.items c.in-Some.waiting c.args.answer e ∙ none)
    ∙ append-nil c.args.arrived.now.items
    )

pub returns-in-Some-ticket_of-clause-launched : goal.returns-in-Some-ticket_of-clause-launched
returns-in-Some-ticket_of-clause-launched g c =
    let e : slice_get c.args.afters.now.items 0 ≡ Some c.in-Some.waiting = search rules in
    let less : length c.args.launched.now.items < c.args.launched.now.capacity =
    moving.room_for c.args.afters.now.items c.in-Some.waiting (length c.args.launched.now.items) c.args.launched.now.capacity e c.requires.launched in
    let told = moving.told_so c.args.answer c.in-Some-ticket_of.ticket c.in-Some-ticket_of.ensures in
    let more : c.try_push_back.new.self.items
    ≡ c.args.launched.now.items ++ (record { ticket = c.in-Some-ticket_of.ticket; after = c.in-Some.waiting.after; name = c.in-Some.waiting.name }) ∷ [] =
    search rules in
    more
    ∙ ap (λ l. c.args.launched.now.items ++ l)
    (sym (moving.launches_one c.args.afters.now.items c.in-Some.waiting c.args.answer e ∙ ap (launch_by c.in-Some.waiting) told))

pub returns-in_default-ticket_of-clause-arrived : goal.returns-in_default-ticket_of-clause-arrived
returns-in_default-ticket_of-clause-arrived g c =
    let e : slice_get c.args.afters.now.items 0 ≡ Some c.in-Some.waiting = search rules in
    let less : length c.args.arrived.now.items < c.args.arrived.now.capacity =
    moving.room_for c.args.afters.now.items c.in-Some.waiting (length c.args.arrived.now.items) c.args.arrived.now.capacity e c.requires.room in
    let plain = sym c.in_default-ticket_of.ensures in
    let more : c.try_push_back-in_default-ticket_of.new.self.items
    ≡ c.args.arrived.now.items
    ++ (record { trustee = c.args.trustee; name = c.in-Some.waiting.name; after = c.in-Some.waiting.after; came = Answered c.args.answer }) ∷ [] =
    search rules in
    more
    ∙ ap (λ l. c.args.arrived.now.items ++ l)
    (sym (
    moving.arrivals_one c.args.trustee c.args.afters.now.items c.in-Some.waiting c.args.answer e
    ∙ moving.arrival_plain c.args.trustee c.in-Some.waiting c.args.answer plain
    ))

pub returns-in_default-ticket_of-clause-launched : goal.returns-in_default-ticket_of-clause-launched
returns-in_default-ticket_of-clause-launched g c =
    let e : slice_get c.args.afters.now.items 0 ≡ Some c.in-Some.waiting = search rules in
    let plain = sym c.in_default-ticket_of.ensures in
    sym (
    ap (λ l. c.args.launched.now.items ++ l)
    (moving.launches_one c.args.afters.now.items c.in-Some.waiting c.args.answer e ∙ moving.launch_plain c.in-Some.waiting c.args.answer plain)
    ∙ append-nil c.args.launched.now.items
    )
