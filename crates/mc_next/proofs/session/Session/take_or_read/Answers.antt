use Rattle.std.proofs.Common.{◌++◌, length, refl, sym, ap, subst, ◌∙◌, inl, arith}
use Rattle.mc_next.specs.Sessions.{taken, seen, IsGoing}
use Rattle.mc_next.proofs.Written.{written}
use Rattle.mc_next.proofs.Marked.{none_marked}
use Rattle.mc_next.proofs.Idle.{did_rest, goes_rest}
use Rattle.mc_next.proofs.session.Session.take_or_read.Goals as goal

pub returns-then-len-ge-FULL-clause-did : goal.returns-then-len-ge-FULL-clause-did
returns-then-len-ge-FULL-clause-did g c =
    inl (record {
      some = λ none.
          let much = c.if-len-ge-FULL.true in
          let many = c.len.ensures in
          let empty = ap length none in
          absurd (omega (arith, much, many, empty));
      fed = c.args.self.now.intake;
      feeds = record { left = refl; fed = omega arith; keeps = λ limit text messages is. is };
      written = c.write.ensures;
      source_is = refl;
      clock_is = refl;
    })

pub returns-then-len-ge-FULL-clause-goes : goal.returns-then-len-ge-FULL-clause-goes
returns-then-len-ge-FULL-clause-goes g c = λ s marks first many on.
    let view = g.P.PairTable.theory.client_view in
    let books = c.args.client.now.books in
    let left = g.A.Source.left c.args.source.now in
    let readings = g.W.Clock.readings c.args.clock.now in
    none_marked view s marks first (seen view books left readings (g.B.Sink.written c.write.new.sink)) books c.write.new.self
    (written view s marks first (seen view books left readings (g.B.Sink.written c.args.sink.now)) (seen view books left readings (g.B.Sink.written c.write.new.sink)) books c.args.self.now on
    refl refl _ _ c.requires.running c.write.new.self c.write.ensures)

pub write_or_read-requires-clause-intake : goal.write_or_read-requires-clause-intake
write_or_read-requires-clause-intake g c =
    let (s, marks, first, on) = c.requires.on in
    let (same, still, feeds) = c.if-take_unless_quit.ensures.rests refl in
    (s.limit, on.past.text, taken on.past, feeds.keeps s.limit on.past.text (taken on.past) on.input.is_intake)

pub returns-clause-did : goal.returns-clause-did
returns-clause-did g c =
    let (s, marks, first, on) = c.requires.on in
    let (same, still, feeds) = c.if-take_unless_quit.ensures.rests refl in
    did_rest (g.A.Source.left c.args.source.now) (g.A.Source.left c.write_or_read.new.source) _ _ (g.B.Sink.written c.args.sink.now) (g.B.Sink.written c.write_or_read.new.sink) _ _
    c.args.source.now c.write_or_read.new.source c.args.sink.now c.write_or_read.new.sink c.args.clock.now c.take_unless_quit.new.clock c.args.self.now c.take_unless_quit.new.self
    c.write_or_read.new.self same feeds (c.if-take_unless_quit.ensures.more refl) still c.requires.idle c.requires.running c.requires.not_over
    (s.limit, on.past.text, taken on.past, on.input.is_intake) c.write_or_read.ensures.wrote c.write_or_read.ensures.read c.write_or_read.ensures.rests

pub returns-clause-goes : goal.returns-clause-goes
returns-clause-goes g c = λ s marks first many on.
    let view = g.P.PairTable.theory.client_view in
    let books = c.args.client.now.books in
    let mid = c.take_unless_quit.new.self in
    let left = g.A.Source.left c.args.source.now in
    let told = g.B.Sink.written c.args.sink.now in
    let readings = g.W.Clock.readings c.take_unless_quit.new.clock in
    let (same, still, feeds) = c.if-take_unless_quit.ensures.rests refl in
    let idle = ap (λ session. session.work) same ∙ c.requires.idle in
    let running = ap (λ session. session.stopped) same ∙ c.requires.running in
    let (more, marked, going) = c.take_unless_quit.ensures.goes s marks first left told many on in (
      more,
      marked,
      goes_rest view s (marks ++ more) first books left (g.A.Source.left c.write_or_read.new.source) readings told (g.B.Sink.written c.write_or_read.new.sink) _ _ _ _ c.args.source.now
          c.write_or_read.new.source c.args.sink.now c.write_or_read.new.sink (λ e. ap g.A.Source.left e) (λ e. ap g.B.Sink.written e) mid c.write_or_read.new.self
          (subst (λ stopped. IsGoing view s (marks ++ more) stopped mid first (seen view books left readings told) books) running going) idle running
          (λ none. let ended = c.requires.not_over c.requires.idle (sym (ap (λ session. session.gathered) same) ∙ none) in
          (ap (λ session. session.quit) same ∙ ended.0, ap (λ session. session.at_end) same ∙ ended.1))
          c.write_or_read.ensures.wrote c.write_or_read.ensures.read c.write_or_read.ensures.rests,
    )
