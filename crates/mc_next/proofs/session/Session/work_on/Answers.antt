use Rattle.std.proofs.Common.{◌≡◌, ◌++◌, [], Some, length, refl, ap, subst, ◌∙◌, inl, inr}
use Rattle.tm_asking.specs.declared.turning.Turned.TheVariants.{Pending}
use Rattle.tm_asking.specs.Turning.{TurnsBelow}
use Rattle.mc_next.specs.Parts.{store_kind}
use Rattle.mc_next.specs.Sessions.{seen, IsGoing}
use Rattle.mc_next.specs.Steps.{before_of, HasAdvanced}
use Rattle.mc_next.proofs.Advancing.{same_before}
use Rattle.mc_next.proofs.Clients.{home_stays}
use Rattle.mc_next.proofs.Stepping.{advanced_from, turns_from}
use Rattle.mc_next.proofs.session.Session.work_on.Goals as goal

pub returns-then-ask_and_take-clause-home : goal.returns-then-ask_and_take-clause-home
returns-then-ask_and_take-clause-home g c = λ openings home.
    home_stays g.P.PairTable.theory openings c.args.tables.now c.args.client.now.books c.ask_and_take.new.client.books home c.ask_and_take.ensures.keeps
    (c.ask_and_take.ensures.client openings home.client)

pub returns-then-ask_and_take-clause-turns : goal.returns-then-ask_and_take-clause-turns
returns-then-ask_and_take-clause-turns g c = inl (refl, record { keeps = c.ask_and_take.ensures.keeps; client = c.ask_and_take.ensures.client })

pub turn_or_write-requires-clause-busy : goal.turn_or_write-requires-clause-busy
turn_or_write-requires-clause-busy g c =
    let (same, rests) = c.if-ask_and_take.ensures.rests refl in
    (rests.becomes, ap (λ session. session.work) rests.session)

pub returns-clause-turns : goal.returns-clause-turns
returns-clause-turns g c =
    let (same, rests) = c.if-ask_and_take.ensures.rests refl in
    let (told, turns) = c.turn_or_write.ensures.turns in
    turns_from g.P.PairTable.theory c.ask_and_take.new.client.books c.args.client.now.books c.args.tables.now c.turn_or_write.new.tables c.turn_or_write.new.client.books told
    (ap (λ client. client.books) same) turns

pub returns-clause-looks : goal.returns-clause-looks
returns-clause-looks g c = λ e.
    let (same, rests) = c.if-ask_and_take.ensures.rests refl in
    subst (λ b. TurnsBelow g.P.PairTable.theory store_kind (length c.args.tables.now) Pending c.args.tables.now b c.turn_or_write.new.tables c.turn_or_write.new.client.books)
    (ap (λ client. client.books) same) (c.turn_or_write.ensures.looks e)

pub returns-clause-moved : goal.returns-clause-moved
returns-clause-moved g c = λ e.
    let theory = g.P.PairTable.theory in
    let old = c.args.self.now in
    let new = c.turn_or_write.new.self in
    let tables = c.args.tables.now in
    let tables_new = c.turn_or_write.new.tables in
    let books = c.turn_or_write.new.client.books in
    let (same, rests) = c.if-ask_and_take.ensures.rests refl in
    subst (λ b. HasAdvanced theory (record old { work = Some c.args.work }) new tables b tables_new books) (ap (λ client. client.books) same)
    (advanced_from theory (record old { work = Some c.args.work }) c.ask_and_take.new.self new tables c.ask_and_take.new.client.books tables_new books
    (ap before_of rests.session ∙ same_before old c.args.work rests.becomes rests.left) (c.turn_or_write.ensures.moved e))

pub returns-clause-goes : goal.returns-clause-goes
returns-clause-goes g c = λ s marks first left readings of on.
    let view = g.P.PairTable.theory.client_view in
    let mid = c.ask_and_take.new.self in
    let books = c.ask_and_take.new.client.books in
    let told = g.B.Sink.written c.args.sink.now in
    let (same, rests) = c.if-ask_and_take.ensures.rests refl in
    let running = ap (λ session. session.stopped) rests.session ∙ c.requires.running in
    let (more, marked, going) = c.ask_and_take.ensures.goes s marks first left readings told of on in
    let none : more ≡ [] = elim marked [ inl e ↦ e | inr done ↦ absurd (rests.counts done.1) ] in (
      more,
      inl none,
      c.turn_or_write.ensures.goes s (marks ++ more) first left readings (subst (λ o. IsGoing view s (marks ++ more) o mid first (seen view books left readings told) books) running going),
    )

pub returns-clause-home : goal.returns-clause-home
returns-clause-home g c = λ openings home.
    c.turn_or_write.ensures.home openings
    (home_stays g.P.PairTable.theory openings c.args.tables.now c.args.client.now.books c.ask_and_take.new.client.books home c.ask_and_take.ensures.keeps
    (c.ask_and_take.ensures.client openings home.client))
