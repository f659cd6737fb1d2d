use Rattle.std.proofs.Common.{refl, arith}
use Rattle.std.proofs.lemmas.List.{length-drop}
use Rattle.mc_grammar.proofs.Plainly.{spelled_next, rest_is, plain_reading}
use Rattle.mc_grammar.proofs.plain.read_plainly.Goals as goal

pub loop-messages-preserved : goal.loop-messages-preserved
loop-messages-preserved c =
    let at = c.loop-messages.at in
    let text = c.args.text.now in
    let found = rw (c.in-Some.is, rest_is at text) at c.in_ok-message.ensures in
    rw c.in_ok-push.ensures.items (record {
      within = omega (arith, found.1, length-drop at text);
      spelled = spelled_next text at c.in-Some.length c.loop-messages.messages.items c.in-Some.message c.loop-messages.invariant.spelled found.2;
    })

pub loop-messages-smaller : goal.loop-messages-smaller
loop-messages-smaller c =
    let at = c.loop-messages.at in
    let text = c.args.text.now in
    let found = rw (c.in-Some.is, rest_is at text) at c.in_ok-message.ensures in
    omega (arith, found.0, found.1, length-drop at text)

pub returns : goal.returns
returns c =
    let at = c.loop-messages.at in
    let text = c.args.text.now in
    plain_reading text at c.loop-messages.messages.items _ c.loop-messages.invariant.within c.loop-messages.invariant.spelled (rw (c.in_default.is, rest_is at text) at c.in_ok-message.ensures) refl
