use Rattle.std.proofs.Common.{◌++◌, [], length, append-nil, inl, refl, sym, subst, ◌∙◌}
use Rattle.std.specs.Prelude.{MatchOption}
use Rattle.mc_next.specs.Clients.{AreStoreTrusts}
use Rattle.mc_next.specs.Sessions.{Holds, IsNotDone, IsOverSo, IsSession, seen}
use Rattle.mc_next.proofs.Endings.{not_over, none_over, stepped}
use Rattle.mc_next.proofs.Keeping.{trusts_by_marks}
use Rattle.mc_next.proofs.Stepping.{called_none}
use Rattle.mc_next.proofs.session.Session.step.Goals as goal

pub returns-clause-session : goal.returns-clause-session
returns-clause-session g c = λ s marks first of h.
    let view = g.P.PairTable.theory.client_view in
    let old = c.args.self.now in
    let books = c.args.client.now.books in
    let now = seen view books (g.A.Source.left c.args.source.now) (g.W.Clock.readings c.args.clock.now) (g.B.Sink.written c.args.sink.now) in
    let (openings, home) = c.requires.home in
    let later = c.go-moved.ensures.home openings home in
    let was = (subst (λ over. Holds view s marks over old first now books) (not_over old.over c.in_default.not-Some) h).0 in
    let (more, marked, going) = c.go-moved.ensures.goes s marks first of was in (
      more,
      marked,
      stepped view s (marks ++ more) first c.go-moved.new.client.books _ _ _ openings later.client (sym later.as_many ∙ c.go-moved.auto.tables ∙ sym of.trustees_are)
          c.go-moved.new.self c.end-self.result c.end-self.ensures going,
    )

pub returns-clause-none : goal.returns-clause-none
returns-clause-none g c = λ ended e.
    let view = g.P.PairTable.theory.client_view in
    let old = c.args.self.now in
    let books = c.args.client.now.books in
    let new = c.go-moved.new.self in
    let books_new = c.go-moved.new.client.books in
    let now = seen view books (g.A.Source.left c.args.source.now) (g.W.Clock.readings c.args.clock.now) (g.B.Sink.written c.args.sink.now) in
    let later = seen view books_new (g.A.Source.left c.go-moved.new.source) (g.W.Clock.readings c.go-moved.new.clock) (g.B.Sink.written c.go-moved.new.sink) in
    let (s, marks, first, of, h) = c.requires.session in
    let was = (subst (λ over. Holds view s marks over old first now books) (not_over old.over c.in_default.not-Some) h).0 in
    let is = (c.told.ensures.over ended).0 e in
    let (more, marked, going) = c.go-moved.ensures.goes s marks first of was in
    none_over view s (marks ++ more) first later books_new new ended going
    (subst (λ o. MatchOption o (IsNotDone new.stopped new books_new) (λ ended. IsOverSo ended new books_new)) is c.end-self.ensures)

pub returns-clause-moved : goal.returns-clause-moved
returns-clause-moved g c = λ e. c.go-moved.ensures.moved (c.told.ensures.moved e).1

pub returns-clause-trusts : goal.returns-clause-trusts
returns-clause-trusts g c =
    let new = c.go-moved.new.client.books in
    subst (λ n. AreStoreTrusts n new c.args.trusts.now) (sym c.go-moved.auto.tables)
    (trusts_by_marks (length c.args.tables.now) c.args.client.now.books new c.args.trusts.now c.requires.trusts c.go-moved.ensures.keeps)

pub returns-in-Some-clause-turns : goal.returns-in-Some-clause-turns
returns-in-Some-clause-turns g c = called_none g.P.PairTable.theory c.args.tables.now c.args.client.now.books

pub returns-in-Some-clause-session : goal.returns-in-Some-clause-session
returns-in-Some-clause-session g c = λ s marks first of h.
    let view = g.P.PairTable.theory.client_view in
    let books = c.args.client.now.books in
    let now = seen view books (g.A.Source.left c.args.source.now) (g.W.Clock.readings c.args.clock.now) (g.B.Sink.written c.args.sink.now) in
    ([], inl refl, subst (λ ms. IsSession view s ms c.args.self.now first now books) (sym (append-nil marks)) h)
