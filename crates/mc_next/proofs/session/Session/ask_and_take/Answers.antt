use Rattle.std.proofs.Common.{Some, sym, ap, subst, ◌∙◌}
use Rattle.mc_next.specs.Sessions.{IsOf, IsGoing, seen}
use Rattle.mc_next.specs.Deeds.{RestsAtWork}
use Rattle.mc_next.specs.Steps.{HasWorkedOn}
use Rattle.mc_next.proofs.Working.{all_are_asked, work_taken, work_asked}
use Rattle.mc_next.proofs.Stepping.{neither_did}
use Rattle.mc_next.proofs.Worked.{keeps_both, client_both, did_work, rests, goes_at_work, goes_finished, finish_did, finish_over, finish_cause}
use Rattle.mc_next.proofs.Marked.{none_marked}
use Rattle.mc_next.proofs.session.Session.ask_and_take.Goals as goal

pub take_all-took-requires-clause-client : goal.take_all-took-requires-clause-client
take_all-took-requires-clause-client g c =
    let (openings, client) = c.requires.client in
    let (pieces, left, some, asks) = c.ask_on-asked.ensures.asked in (openings, asks.client openings client)

pub take_all-took-requires-clause-asking : goal.take_all-took-requires-clause-asking
take_all-took-requires-clause-asking g c =
    let (s, marks, first, now, of, on) = c.requires.on in
    let (pieces, left, some, asks) = c.ask_on-asked.ensures.asked in
    (on.client.was, _, asks.asks on.client.was on.client.asked on.client.at_work.2.many on.client.asks)

pub finish-requires-clause-client : goal.finish-requires-clause-client
finish-requires-clause-client g c =
    let (openings, client) = c.requires.client in (
      openings,
      client_both g.P.PairTable.theory.client_view c.args.trusts.now c.args.self.now c.args.work c.ask_on-asked.new.self c.take_all-took.new.self c.args.client.now.books
          c.ask_on-asked.new.client.books c.take_all-took.new.client.books c.ask_on-asked.result c.take_all-took.result c.ask_on-asked.ensures.asked c.take_all-took.ensures.taken openings client,
    )

pub finish-requires-clause-all : goal.finish-requires-clause-all
finish-requires-clause-all g c =
    let (s, marks, first, now, of, on) = c.requires.on in
    let (pieces, left, some, asks) = c.ask_on-asked.ensures.asked in
    let takes = c.take_all-took.ensures.taken in
    let command = on.client.at_work.0 in
    let mid = work_asked s.named s.trustees command c.args.self.now.moment on.client.asked c.args.work on.client.at_work.2 pieces c.ask_on-asked.new.self left asks.frame asks.many asks.replies in
    all_are_asked s.named s.trustees command c.args.self.now.moment _ c.take_all-took.new.self
    (work_taken s.named s.trustees command c.args.self.now.moment _ c.ask_on-asked.new.self mid c.take_all-took.new.self takes.frame takes.todo takes.many takes.replies)
    (c.is_replied.ensures.asked c.if-is_replied.true)

pub returns-then-is_replied-clause-goes : goal.returns-then-is_replied-clause-goes
returns-then-is_replied-clause-goes g c = λ s marks first left readings written of on.
    goes_finished g.P.PairTable.theory.client_view c.args.trusts.now c.args.self.now c.args.work c.ask_on-asked.new.self c.take_all-took.new.self c.args.client.now.books
    c.ask_on-asked.new.client.books c.take_all-took.new.client.books c.ask_on-asked.result c.take_all-took.result c.ask_on-asked.ensures.asked c.take_all-took.ensures.taken s marks first left
    readings written c.requires.running (subst (λ n. IsOf s c.args.trusts.now n) c.requires.many of) on c.requires.idle (c.is_replied.ensures.asked c.if-is_replied.true)
    (c.is_replied.ensures.none c.if-is_replied.true) c.finish.new.self c.finish.ensures

pub returns-then-is_replied-clause-moved : goal.returns-then-is_replied-clause-moved
returns-then-is_replied-clause-moved g c = λ _.
    let (s, marks, first, now, of, on) = c.requires.on in
    finish_did g.P.PairTable.theory.client_view c.args.trusts.now c.args.self.now c.args.work c.ask_on-asked.new.self c.take_all-took.new.self c.args.client.now.books
    c.ask_on-asked.new.client.books c.take_all-took.new.client.books c.ask_on-asked.result c.take_all-took.result c.ask_on-asked.ensures.asked c.take_all-took.ensures.taken
    on.client.at_work.0 on.client.at_work.2.frame c.requires.idle c.requires.running c.finish.new.self c.finish.ensures

pub returns-then-is_replied-clause-over : goal.returns-then-is_replied-clause-over
returns-then-is_replied-clause-over g c =
    let (s, marks, first, now, of, on) = c.requires.on in
    finish_over g.P.PairTable.theory.client_view c.args.trusts.now c.args.self.now c.args.work c.ask_on-asked.new.self c.take_all-took.new.self c.args.client.now.books
    c.ask_on-asked.new.client.books c.take_all-took.new.client.books c.ask_on-asked.result c.take_all-took.result c.ask_on-asked.ensures.asked c.take_all-took.ensures.taken
    on.client.at_work.0 on.client.at_work.2.frame c.requires.idle c.requires.running c.finish.new.self c.finish.ensures

pub returns-then-is_replied-clause-cause : goal.returns-then-is_replied-clause-cause
returns-then-is_replied-clause-cause g c =
    let (s, marks, first, now, of, on) = c.requires.on in
    finish_cause g.P.PairTable.theory.client_view c.args.trusts.now c.args.self.now c.args.work c.ask_on-asked.new.self c.take_all-took.new.self c.args.client.now.books
    c.ask_on-asked.new.client.books c.take_all-took.new.client.books c.ask_on-asked.result c.take_all-took.result c.ask_on-asked.ensures.asked c.take_all-took.ensures.taken
    on.client.at_work.0 on.client.at_work.2.frame c.requires.idle c.requires.running c.finish.new.self c.finish.ensures

pub returns-then-is_replied-clause-keeps : goal.returns-then-is_replied-clause-keeps
returns-then-is_replied-clause-keeps g c =
    keeps_both g.P.PairTable.theory.client_view c.args.trusts.now c.args.self.now c.args.work c.ask_on-asked.new.self c.take_all-took.new.self c.args.client.now.books
    c.ask_on-asked.new.client.books c.take_all-took.new.client.books c.ask_on-asked.result c.take_all-took.result c.ask_on-asked.ensures.asked c.take_all-took.ensures.taken

pub returns-then-is_replied-clause-client : goal.returns-then-is_replied-clause-client
returns-then-is_replied-clause-client g c =
    client_both g.P.PairTable.theory.client_view c.args.trusts.now c.args.self.now c.args.work c.ask_on-asked.new.self c.take_all-took.new.self c.args.client.now.books
    c.ask_on-asked.new.client.books c.take_all-took.new.client.books c.ask_on-asked.result c.take_all-took.result c.ask_on-asked.ensures.asked c.take_all-took.ensures.taken

pub returns-clause-goes : goal.returns-clause-goes
returns-clause-goes g c = λ s marks first left readings written of on.
    let view = g.P.PairTable.theory.client_view in
    let books = c.take_all-took.new.client.books in
    none_marked view s marks first (seen view books left readings written) books c.keep.new.self
    (subst (λ session. IsGoing view s marks session.stopped session first (seen view books left readings written) books) (sym c.keep.ensures)
    (goes_at_work view c.args.trusts.now c.args.self.now c.args.work c.ask_on-asked.new.self c.take_all-took.new.self c.args.client.now.books
    c.ask_on-asked.new.client.books books c.ask_on-asked.result c.take_all-took.result c.ask_on-asked.ensures.asked c.take_all-took.ensures.taken s marks first left
    readings written c.requires.running (subst (λ n. IsOf s c.args.trusts.now n) c.requires.many of) on))

pub returns-clause-moved : goal.returns-clause-moved
returns-clause-moved g c = λ e.
    let work = c.args.work in
    subst (λ session. HasWorkedOn (record c.args.self.now { work = Some work }) session c.args.client.now.books c.take_all-took.new.client.books) (sym c.keep.ensures)
    (did_work g.P.PairTable.theory.client_view c.args.trusts.now c.args.self.now c.args.work c.ask_on-asked.new.self c.take_all-took.new.self c.args.client.now.books
    c.ask_on-asked.new.client.books c.take_all-took.new.client.books c.ask_on-asked.result c.take_all-took.result c.ask_on-asked.ensures.asked c.take_all-took.ensures.taken
    (λ none. let stays = c.ask_on-asked.ensures.stays none in (ap (λ client. client.books) stays.0, stays.1)) c.take_all-took.ensures.took (sym c.is_either.ensures ∙ e))

pub returns-clause-rests : goal.returns-clause-rests
returns-clause-rests g c = λ e.
    let none = sym c.is_either.ensures ∙ e in
    let (one, two) = neither_did c.ask_on-asked.result c.take_all-took.result none in (
      (c.take_all-took.ensures.stays two).0 ∙ (c.ask_on-asked.ensures.stays one).0,
      subst (λ session. RestsAtWork c.args.work c.args.self.now session c.take_all-took.new.client.books) (sym c.keep.ensures)
          (rests g.P.PairTable.theory.client_view c.args.trusts.now c.args.self.now c.args.work c.ask_on-asked.new.self c.take_all-took.new.self c.args.client.now.books
          c.ask_on-asked.new.client.books c.take_all-took.new.client.books c.ask_on-asked.result c.take_all-took.result c.ask_on-asked.ensures.asked c.take_all-took.ensures.taken
          (λ none. let stays = c.ask_on-asked.ensures.stays none in (ap (λ client. client.books) stays.0, stays.1)) c.take_all-took.ensures.took
          (λ none. let stays = c.take_all-took.ensures.stays none in (ap (λ client. client.books) stays.0, stays.1)) c.take_all-took.ensures.none c.ask_on-asked.ensures.full
          (c.is_replied.ensures.counts c.if-is_replied.false) none),
    )

pub returns-clause-keeps : goal.returns-clause-keeps
returns-clause-keeps g c =
    keeps_both g.P.PairTable.theory.client_view c.args.trusts.now c.args.self.now c.args.work c.ask_on-asked.new.self c.take_all-took.new.self c.args.client.now.books
    c.ask_on-asked.new.client.books c.take_all-took.new.client.books c.ask_on-asked.result c.take_all-took.result c.ask_on-asked.ensures.asked c.take_all-took.ensures.taken

pub returns-clause-client : goal.returns-clause-client
returns-clause-client g c =
    client_both g.P.PairTable.theory.client_view c.args.trusts.now c.args.self.now c.args.work c.ask_on-asked.new.self c.take_all-took.new.self c.args.client.now.books
    c.ask_on-asked.new.client.books c.take_all-took.new.client.books c.ask_on-asked.result c.take_all-took.result c.ask_on-asked.ensures.asked c.take_all-took.ensures.taken
