use Rattle.std.proofs.Common.{◌≡◌, ◌≢◌, ◌==◌, ℕ, ◌∷◌, List, true, false, [], length, refl, sym, subst, ◌∙◌, inl, inr, arith}
use Rattle.mc_model.specs.declared.reply.ShardReply.TheVariants.{Missing}
use Rattle.std.proofs.lemmas.Bool.{false≢true, eqb-true}
use Rattle.tm_asking.specs.declared.turning.Turned.TheVariants.{Moved}
use Rattle.mc_next.specs.Sessions.{seen}
use Rattle.mc_next.specs.Steps.{IsCaused}
use Rattle.mc_next.proofs.Finished.{goes_on}
use Rattle.mc_next.proofs.Turned.{turned_on}
use Rattle.mc_next.proofs.Written.{written}
use Rattle.mc_next.proofs.Wrote.{write_cause, write_over, write_less, turned_marks, turned_none, turned_pends, turned_counts, turned_nothing}
use Rattle.mc_next.proofs.session.Session.turn_or_write.Goals as goal

gathered_none : (xs : List ℕ) → (length xs == 0) ≡ true → xs ≡ []
gathered_none [] e = refl
gathered_none (x ∷ xs) e = let none = eqb-true (length (x ∷ xs)) 0 e in absurd (omega (arith, none))

gathered_some : (xs : List ℕ) → (length xs == 0) ≡ false → xs ≢ []
gathered_some [] e none = absurd cc
gathered_some (x ∷ xs) e none = absurd cc

pub returns-in-Moved-clause-turns : goal.returns-in-Moved-clause-turns
returns-in-Moved-clause-turns g c = (Moved, c.in-Moved.ensures.turned)

pub returns-in-Moved-clause-keeps : goal.returns-in-Moved-clause-keeps
returns-in-Moved-clause-keeps g c =
    turned_marks g.P.PairTable.theory _ c.args.tables.now c.turn_where_counting.new.tables c.args.client.now.books c.turn_where_counting.new.client.books c.in-Moved.ensures.turned

pub returns-in-Moved-clause-goes : goal.returns-in-Moved-clause-goes
returns-in-Moved-clause-goes g c = λ s marks first left readings on.
    let (w, e) = c.requires.busy in
    let view = g.P.PairTable.theory.client_view in
    let new = c.turn_where_counting.new.client.books in
    goes_on view s marks first _ new c.args.self.now c.requires.running
    (turned_on view s marks c.args.self.now first c.args.client.now.books new _ _ refl refl refl w e (c.turn_where_counting.ensures.asks Missing) on)

pub returns-then-is_empty : goal.returns-then-is_empty
returns-then-is_empty g c =
    let theory = g.P.PairTable.theory in
    let old = c.args.client.now.books in
    let new = c.turn_where_counting.new.client.books in
    let tables = c.args.tables.now in
    let tables_new = c.turn_where_counting.new.tables in
    let turns = c.turn_where_counting.ensures.turned in
    let none = gathered_none c.args.self.now.gathered (sym c.is_empty.ensures ∙ c.if-is_empty.true) in
    let (w, e) = c.requires.busy in
    let (openings, home) = c.requires.home in record {
      moved = λ no. absurd (false≢true no);
      waits = λ _. (
        refl,
        refl,
        turned_none theory _ tables tables_new old new turns openings home c.requires.none c.in_default.not-Moved,
        turned_nothing theory _ tables tables_new old new turns openings home c.requires.none c.in_default.not-Moved c.args.self.now w e c.requires.full none,
        turned_counts theory _ tables tables_new old new turns openings home c.requires.none c.in_default.not-Moved c.requires.counts,
      );
      writes = inl refl;
      cause = λ reads. subst (λ o. IsCaused o reads reads (g.B.Sink.faults c.args.sink.now) (g.B.Sink.faults c.args.sink.now)) (sym c.requires.running) (refl, refl);
      over = refl;
      looks = λ _. turned_pends theory _ tables tables_new old new turns openings home c.requires.none c.in_default.not-Moved c.requires.counts;
      turns = (c.turn_where_counting.result, turns);
      keeps = turned_marks theory _ tables tables_new old new turns;
      goes = λ s marks first left readings on.
          goes_on theory.client_view s marks first _ new c.args.self.now c.requires.running
          (turned_on theory.client_view s marks c.args.self.now first old new _ _ refl refl refl w e (c.turn_where_counting.ensures.asks Missing) on);
      home = c.turn_where_counting.ensures.home;
    }

pub returns : goal.returns
returns g c =
    let theory = g.P.PairTable.theory in
    let old = c.args.client.now.books in
    let new = c.turn_where_counting.new.client.books in
    let turns = c.turn_where_counting.ensures.turned in
    let some = gathered_some c.args.self.now.gathered (sym c.is_empty.ensures ∙ c.if-is_empty.false) in
    let (w, e) = c.requires.busy in
    let told = g.B.Sink.written c.args.sink.now in
    let told_now = g.B.Sink.written c.write.new.sink in record {
      moved = λ _. inl (write_less told told_now _ _ c.args.self.now c.write.new.self c.requires.running c.write.ensures some);
      waits = λ no. absurd (false≢true (sym no));
      writes = inr some;
      cause = write_cause told told_now _ _ c.args.self.now c.write.new.self c.requires.running c.write.ensures;
      over = write_over told told_now _ _ c.args.self.now c.write.new.self c.requires.running c.write.ensures;
      looks = λ no. absurd (false≢true (sym no));
      turns = (c.turn_where_counting.result, turns);
      keeps = turned_marks theory _ c.args.tables.now c.turn_where_counting.new.tables old new turns;
      goes = λ s marks first left readings on.
          written theory.client_view s marks first (seen theory.client_view new left readings told) (seen theory.client_view new left readings told_now) new c.args.self.now
          (turned_on theory.client_view s marks c.args.self.now first old new _ _ refl refl refl w e (c.turn_where_counting.ensures.asks Missing) on)
          refl refl _ _ c.requires.running c.write.new.self c.write.ensures;
      home = c.turn_where_counting.ensures.home;
    }
