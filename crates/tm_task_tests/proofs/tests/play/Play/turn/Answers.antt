use Rattle.std.proofs.Common.{refl, ◌∙◌}
use Rattle.std.proofs.lemmas.List.{with_items_is}
use Rattle.tm_trustee.proofs.Elements.{read_at}
use Rattle.tm_task_tests.proofs.Turned.{some_client, may_turn, turned_plays}
use Rattle.tm_task_tests.proofs.tests.play.Play.turn.Goals as goal

pub turn-requires-clause-client : goal.turn-requires-clause-client
turn-requires-clause-client c =
    let play = c.args.self.now in
    let client = c.index_mut-client.result.now in
    let at = read_at play.turns.clients.items 0 client (some_client play.tasks play.turns c.requires) c.index_mut-client.ensures.value in
    may_turn play.tasks play.turns client c.as_mut_slice.result.now c.requires at c.as_mut_slice.ensures.value

pub returns : goal.returns
returns c =
    let play = c.args.self.now in
    let client = c.index_mut-client.result.now in
    let at = read_at play.turns.clients.items 0 client (some_client play.tasks play.turns c.requires) c.index_mut-client.ensures.value in
    turned_plays c.turn.result play.tasks c.turn.new.self play.turns _ client c.turn.new.client c.as_mut_slice.result.now c.turn.new.tables c.requires at
    c.as_mut_slice.ensures.value refl (λ many. with_items_is play.turns.tables c.turn.new.tables (many ∙ c.as_mut_slice.ensures.len)) refl refl
    c.turn.ensures.turned c.turn.ensures.client c.turn.ensures.tasks c.turn.ensures.theirs c.turn.ensures.holds
