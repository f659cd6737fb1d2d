use Rattle.std.proofs.Common.{◌<◌, length, refl, arith}
use Rattle.tm_trustee.proofs.Elements.{read_at}
use Rattle.tm_turns.specs.Whole.{SameSides, StillClient}
use Rattle.tm_turns.specs.Closing.{HasTakenAll}
use Rattle.tm_turns.proofs.Clients.{each_none, each_more, each_all, each_weaker, clients_keep}
use Rattle.tm_turns.proofs.Shutting.{DidTake, take_sides, client_at_n}
use Rattle.tm_turns.proofs.turns.Turns.take_answers.Goals as goal

pub loop-client-init : goal.loop-client-init
loop-client-init g c = each_none (DidTake g.S.Entrusted.kind) c.args.self.now

pub take_all-requires : goal.take_all-requires
take_all-requires g c =
    let n = c.loop-client.client in
    let client = c.index_mut.result.now in
    let lt = c.loop-client-test.true in
    let clients = c.len-clients.ensures in
    let same = c.loop-client.invariant.as_many in
    let within : n < length c.loop-client.self.clients.items = omega (arith, lt, clients, same) in
    let at = read_at c.loop-client.self.clients.items n client within c.index_mut.ensures.value in
    record { client = (client_at_n g.S.Entrusted.kind (DidTake g.S.Entrusted.kind) c.args.self.now c.loop-client.self n client c.loop-client.invariant at c.requires.are).1 }

pub loop-client-preserved : goal.loop-client-preserved
loop-client-preserved g c =
    let n = c.loop-client.client in
    let client = c.index_mut.result.now in
    let lt = c.loop-client-test.true in
    let clients = c.len-clients.ensures in
    let same = c.loop-client.invariant.as_many in
    let within : n < length c.loop-client.self.clients.items = omega (arith, lt, clients, same) in
    let at = read_at c.loop-client.self.clients.items n client within c.index_mut.ensures.value in
    each_more (DidTake g.S.Entrusted.kind) n c.args.self.now c.loop-client.self _ client c.take_all.new.client c.loop-client.invariant at
    (c.take_all.ensures.taken, c.take_all.ensures.client) refl refl refl refl

pub returns-clause-takes : goal.returns-clause-takes
returns-clause-takes g c =
    let past = c.loop-client-test.false in
    let clients = c.len-clients.ensures in
    each_weaker (DidTake g.S.Entrusted.kind) (λ client becomes. HasTakenAll client.books becomes.books) c.args.self.now c.loop-client.self (λ client becomes did. did.0)
    (each_all (DidTake g.S.Entrusted.kind) c.loop-client.client c.args.self.now c.loop-client.self (omega (arith, past, clients)) c.loop-client.invariant)

pub returns-clause-keeps : goal.returns-clause-keeps
returns-clause-keeps g c =
    let past = c.loop-client-test.false in
    let clients = c.len-clients.ensures in
    clients_keep g.S.Entrusted.kind c.args.self.now c.loop-client.self
    (
    each_weaker (DidTake g.S.Entrusted.kind) (λ client becomes. SameSides client.books becomes.books × StillClient g.S.Entrusted.kind client becomes)
    c.args.self.now c.loop-client.self (take_sides g.S.Entrusted.kind)
    (each_all (DidTake g.S.Entrusted.kind) c.loop-client.client c.args.self.now c.loop-client.self (omega (arith, past, clients)) c.loop-client.invariant)
    )
