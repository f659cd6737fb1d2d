use Rattle.std.proofs.Common.{refl, sym, ap, subst, ◌∙◌}
use Rattle.std.specs.declared.option.Option.TheVariants.{Some}
use Rattle.mc_next.specs.declared.ended.Ended.TheVariants.{NoMemory}
use Rattle.mc_next.specs.Deeds.{HasMet, HasNoMore}
use Rattle.mc_next.specs.Sessions.{taken, seen, HasGivenUp}
use Rattle.mc_next.proofs.Took.{met}
use Rattle.mc_next.proofs.Fewer.{met_fewer, met_rests, met_no_more, lost_fewer}
use Rattle.mc_next.proofs.Marked.{none_marked}
use Rattle.mc_next.proofs.Written.{lost}
use Rattle.mc_next.proofs.session.Session.take_next.Goals as goal

pub returns-in-Ok-clause-goes : goal.returns-in-Ok-clause-goes
returns-in-Ok-clause-goes g c = λ s marks first left written many on.
    let view = g.P.PairTable.theory.client_view in
    let books = c.args.client.now.books in
    let told = g.W.Clock.readings c.args.clock.now in
    let told_now = g.W.Clock.readings c.meet.new.clock in
    met view s marks first (seen view books left told written) books c.args.self.now on c.requires.idle c.requires.running c.requires.no_quit c.in-Ok.next
    (seen view books left told_now written) c.next.new.self c.meet.new.self c.args.clock.now c.meet.new.clock c.meet.result refl refl (λ e. ap g.W.Clock.readings e)
    (λ none. let e = (c.in-Ok.ensures.fed none).0 in cc) (c.in-Ok.ensures.next s.limit on.past.text (taken on.past) on.input.is_intake) (sym (many ∙ c.requires.many))
    (subst (λ n. HasMet view n c.in-Ok.next told told_now c.args.clock.now c.meet.new.clock (record c.args.self.now { intake = c.next.new.self }) c.meet.new.self books c.meet.result)
    (sym many) c.meet.ensures)

pub returns-in-Ok-clause-taken : goal.returns-in-Ok-clause-taken
returns-in-Ok-clause-taken g c =
    met_fewer g.P.PairTable.theory.client_view c.args.trustees _ _ c.args.clock.now c.meet.new.clock c.args.self.now c.meet.new.self c.next.new.self c.args.client.now.books
    c.meet.result c.in-Ok.next c.in-Ok.ensures.left (λ none. let e = (c.in-Ok.ensures.fed none).0 in cc) c.in-Ok.ensures.fewer c.meet.ensures

pub returns-in-Ok-clause-rests : goal.returns-in-Ok-clause-rests
returns-in-Ok-clause-rests g c = λ none.
    let (more, same, still) = met_rests g.P.PairTable.theory.client_view c.args.trustees _ _ c.args.clock.now c.meet.new.clock c.args.self.now c.meet.new.self c.next.new.self
    c.args.client.now.books c.meet.result c.in-Ok.next c.meet.ensures none in
    (same ∙ ap (λ i. record c.args.self.now { intake = i }) (sym (ap (λ session. session.intake) same)), still)

pub returns-in-Ok-clause-more : goal.returns-in-Ok-clause-more
returns-in-Ok-clause-more g c = λ none.
    let (more, same, still) = met_rests g.P.PairTable.theory.client_view c.args.trustees _ _ c.args.clock.now c.meet.new.clock c.args.self.now c.meet.new.self c.next.new.self
    c.args.client.now.books c.meet.result c.in-Ok.next c.meet.ensures none in
    subst (λ i. HasNoMore c.args.self.now.intake i) (sym (ap (λ session. session.intake) same))
    (met_no_more c.in-Ok.next c.args.self.now.intake c.next.new.self more c.in-Ok.ensures.left c.requires.intake c.in-Ok.ensures.next)

pub returns-in-Err-clause-goes : goal.returns-in-Err-clause-goes
returns-in-Err-clause-goes g c = λ s marks first left written many on.
    let view = g.P.PairTable.theory.client_view in
    let books = c.args.client.now.books in
    let now = seen view books left (g.W.Clock.readings c.args.clock.now) written in
    none_marked view s marks first now books (record c.args.self.now { intake = c.next.new.self; stopped = Some NoMemory })
    (subst (λ i. HasGivenUp view s marks (record c.args.self.now { intake = i; stopped = Some NoMemory }) first now books) (sym c.in-Err.ensures.err)
    (lost view s marks first now now books c.args.self.now on refl refl refl))

pub returns-in-Err-clause-taken : goal.returns-in-Err-clause-taken
returns-in-Err-clause-taken g c = λ _. lost_fewer c.args.self.now _ (ap (λ i. record c.args.self.now { intake = i; stopped = Some NoMemory }) c.in-Err.ensures.err)
