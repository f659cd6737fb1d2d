use Rattle.std.proofs.Common.{◌≡◌, refl, sym, subst, ◌∙◌, inl}
use Rattle.mc_next.specs.Sessions.{seen, IsOn, IsGoing, IsNotDone}
use Rattle.mc_next.specs.Steps.{before_of, IsLess}
use Rattle.mc_next.proofs.Advancing.{idle_less}
use Rattle.mc_next.proofs.Endings.{why_stopped, not_stopped, given_now, drained_going}
use Rattle.mc_next.proofs.Stepping.{called_none, drained_waits, worked_waits}
use Rattle.mc_next.proofs.Turned.{seen_given}
use Rattle.mc_next.proofs.Marked.{none_marked}
use Rattle.mc_next.proofs.session.Session.go.Goals as goal

pub drain-requires-clause-given : goal.drain-requires-clause-given
drain-requires-clause-given g c =
    let old = c.args.self.now in
    let books = c.args.client.now.books in
    let (s, marks, first, of, going) = c.requires.going in
    let (why, stopped) = why_stopped old.stopped (sym c.is_some.ensures ∙ c.if-is_some.true) in
    (s, marks, first, _, given_now g.P.PairTable.theory.client_view s marks old first _ books (subst (λ o. IsNotDone o old books) stopped c.requires.not_done) why stopped going)

pub returns-then-is_some-clause-goes : goal.returns-then-is_some-clause-goes
returns-then-is_some-clause-goes g c = λ s marks first of going.
    let view = g.P.PairTable.theory.client_view in
    let old = c.args.self.now in
    let new = c.drain.new.self in
    let books = c.args.client.now.books in
    let books_new = c.drain.new.client.books in
    let left = g.A.Source.left c.args.source.now in
    let readings = g.W.Clock.readings c.args.clock.now in
    let told = g.B.Sink.written c.args.sink.now in
    let (why, stopped) = why_stopped old.stopped (sym c.is_some.ensures ∙ c.if-is_some.true) in
    let count = subst (λ o. IsNotDone o old books) stopped c.requires.not_done in
    let now = seen view books left readings told in
    let later = seen view books_new left readings told in
    none_marked view s marks first later books_new new
    (drained_going view s marks old first now books count why stopped going new later books_new c.drain.ensures.session
    (seen_given view s marks new first books_new now later refl refl refl (c.drain.ensures.given s marks first now (given_now view s marks old first now books count why stopped going))))

pub returns-then-is_some-clause-waits : goal.returns-then-is_some-clause-waits
returns-then-is_some-clause-waits g c = λ e.
    let (same, pending, counts) = c.drain.ensures.waits e in
    let (why, stopped) = why_stopped c.args.self.now.stopped (sym c.is_some.ensures ∙ c.if-is_some.true) in
    drained_waits g.P.PairTable.theory.client_view c.args.self.now c.args.client.now.books c.drain.new.client.books c.args.source.now c.args.clock.now pending counts
    c.drain.new.self why c.args.sink.now stopped same

pub returns-in_default-clause-moved : goal.returns-in_default-clause-moved
returns-in_default-clause-moved g c = λ _.
    let old = c.args.self.now in
    let new = c.take_or_read.new.self in
    let idle : c.take.new.self ≡ old.work = c.take.ensures.after ∙ c.in_default.ensures.value in
    inl (subst (λ w. IsLess (before_of new) (before_of (record old { work = w }))) idle
    (idle_less _ _ _ _ _ _ _ _ c.args.source.now c.take_or_read.new.source c.args.sink.now c.take_or_read.new.sink c.args.clock.now c.take_or_read.new.clock
    (record old { work = c.take.new.self }) new (not_stopped old.stopped (sym c.is_some.ensures ∙ c.if-is_some.false)) c.take_or_read.ensures.did))

pub returns-in_default-clause-turns : goal.returns-in_default-clause-turns
returns-in_default-clause-turns g c = called_none g.P.PairTable.theory c.args.tables.now c.args.client.now.books

pub work_on-requires-clause-on : goal.work_on-requires-clause-on
work_on-requires-clause-on g c =
    let view = g.P.PairTable.theory.client_view in
    let old = c.args.self.now in
    let books = c.args.client.now.books in
    let (s, marks, first, of, going) = c.requires.going in
    let now = seen view books (g.A.Source.left c.args.source.now) (g.W.Clock.readings c.args.clock.now) (g.B.Sink.written c.args.sink.now) in
    let running = not_stopped old.stopped (sym c.is_some.ensures ∙ c.if-is_some.false) in
    let on = subst (λ o. IsGoing view s marks o old first now books) running going in
    (s, marks, first, now, of, subst (λ w. IsOn view s marks (record old { work = w }) first now books) (sym c.in-Some.ensures.value) on)

pub returns-clause-goes : goal.returns-clause-goes
returns-clause-goes g c = λ s marks first of going.
    let view = g.P.PairTable.theory.client_view in
    let old = c.args.self.now in
    let books = c.args.client.now.books in
    let left = g.A.Source.left c.args.source.now in
    let readings = g.W.Clock.readings c.args.clock.now in
    let now = seen view books left readings (g.B.Sink.written c.args.sink.now) in
    let running = not_stopped old.stopped (sym c.is_some.ensures ∙ c.if-is_some.false) in
    let on = subst (λ o. IsGoing view s marks o old first now books) running going in
    c.work_on.ensures.goes s marks first left readings of (subst (λ w. IsOn view s marks (record old { work = w }) first now books) (sym c.in-Some.ensures.value) on)

pub returns-clause-waits : goal.returns-clause-waits
returns-clause-waits g c = λ e.
    let (same_sink, shown, pending, nothing, counts) = c.work_on.ensures.waits e in
    worked_waits g.P.PairTable.theory.client_view c.args.self.now c.args.client.now.books c.work_on.new.client.books c.args.source.now c.args.clock.now pending counts
    c.work_on.new.self c.in-Some.work c.args.sink.now c.work_on.new.sink (sym c.in-Some.ensures.value) same_sink shown nothing
