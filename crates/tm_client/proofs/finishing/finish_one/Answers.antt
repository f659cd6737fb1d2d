use Rattle.std.proofs.Common.{rules, ◌≡◌, ◌<◌, [], ◌∷◌, ◌++◌, length, sym, ap, ◌∙◌, arith, append-nil}
use Rattle.tm_client.specs.declared.answers.Came.TheVariants.{Finished}
use Rattle.tm_client.specs.Launches.{finish_of}
use Rattle.tm_client.proofs.Ended.{found_at, none_found, all_other}
use Rattle.tm_client.proofs.finishing.finish_one.Goals as goal

pub returns-in_default-clause-arrived : goal.returns-in_default-clause-arrived
returns-in_default-clause-arrived g c =
    let none = none_found c.args.completion.ticket c.args.launched.now.items c.in_default.ensures.absent in
    sym (
    ap (λ l. c.args.arrived.now.items ++ l) (ap (finish_of c.args.trustee c.args.completion.reply) none) ∙ append-nil c.args.arrived.now.items
    )

pub returns-in_default-clause-launched : goal.returns-in_default-clause-launched
returns-in_default-clause-launched g c = sym (all_other c.args.completion.ticket c.args.launched.now.items c.in_default.ensures.absent)

pub take_out-requires : goal.take_out-requires
take_out-requires g c = (found_at c.args.completion.ticket c.args.launched.now.items c.in-Some.at c.requires.once c.in-Some.ensures.there).0

pub returns-in-Some-take_out-clause-arrived : goal.returns-in-Some-take_out-clause-arrived
returns-in-Some-take_out-clause-arrived g c =
    let (lt, found, rest) = found_at c.args.completion.ticket c.args.launched.now.items c.in-Some.at c.requires.once c.in-Some.ensures.there in
    let room = c.requires.room in
    let less : length c.args.arrived.now.items < c.args.arrived.now.capacity = omega (arith, lt, room) in
    let more : c.try_push_back.new.self.items
    ≡ c.args.arrived.now.items
    ++ (record {
      trustee = c.args.trustee;
      name = c.in-Some-take_out.launch.name;
      after = c.in-Some-take_out.launch.after;
      came = Finished c.args.completion.reply;
    }) ∷ [] =
    search rules in
    more
    ∙ ap (λ l. c.args.arrived.now.items ++ l) (ap (finish_of c.args.trustee c.args.completion.reply) (c.in-Some-take_out.ensures.taken ∙ found))

pub returns-in-Some-take_out-clause-launched : goal.returns-in-Some-take_out-clause-launched
returns-in-Some-take_out-clause-launched g c =
    let (lt, found, rest) = found_at c.args.completion.ticket c.args.launched.now.items c.in-Some.at c.requires.once c.in-Some.ensures.there in
    c.in-Some-take_out.ensures.items ∙ sym rest
