use Rattle.std.proofs.Common.{◌≡◌, [], length, refl, sym, ap, subst, inl}
use Rattle.std.proofs.lemmas.Bool.{false≢true}
use Rattle.tm_asking.specs.Asking.{NoneCounts}
use Rattle.tm_asking.specs.declared.turning.Turned.TheVariants.{Moved, Pending}
use Rattle.tm_asking.specs.Turning.{IsAtTables, TurnsBelow}
use Rattle.mc_model.specs.declared.reply.ShardReply.TheVariants.{Missing}
use Rattle.mc_next.specs.Parts.{store_kind}
use Rattle.mc_next.specs.Steps.{AllPending, KeepsMarks, AsksNothing, HasAdvanced}
use Rattle.mc_next.proofs.Clients.{home_stays}
use Rattle.mc_next.proofs.Stepping.{turns_from}
use Rattle.mc_next.proofs.Turned.{turned_given}
use Rattle.mc_next.proofs.Wrote.{turned_marks, turned_asks, turned_moved, turned_none, turned_pends, turned_counts}
use Rattle.mc_next.proofs.session.Session.drain.Goals as goal

pub returns-then-drop_replies-clause-home : goal.returns-then-drop_replies-clause-home
returns-then-drop_replies-clause-home g c = λ openings home.
    home_stays g.P.PairTable.theory openings c.args.tables.now c.args.client.now.books c.drop_replies.new.client.books home c.drop_replies.ensures.keeps
    (c.drop_replies.ensures.client openings home.client)

pub returns-then-drop_replies-clause-turns : goal.returns-then-drop_replies-clause-turns
returns-then-drop_replies-clause-turns g c = inl (refl, record { keeps = c.drop_replies.ensures.keeps; client = c.drop_replies.ensures.client })

pub returns-in-Moved-clause-turns : goal.returns-in-Moved-clause-turns
returns-in-Moved-clause-turns g c =
    turns_from g.P.PairTable.theory _ _ c.args.tables.now c.turn_where_counting.new.tables c.turn_where_counting.new.client.books Moved
    (ap (λ client. client.books) (c.if-drop_replies.ensures.rests refl).0) c.in-Moved.ensures.turned

pub returns-in-Moved-clause-moved : goal.returns-in-Moved-clause-moved
returns-in-Moved-clause-moved g c = λ _.
    let theory = g.P.PairTable.theory in
    let new = c.turn_where_counting.new.client.books in
    let same = ap (λ client. client.books) (c.if-drop_replies.ensures.rests refl).0 in
    subst (λ b. HasAdvanced theory c.args.self.now c.drop_replies.new.self c.args.tables.now b c.turn_where_counting.new.tables new) same
    (turned_moved theory _ c.args.tables.now c.turn_where_counting.new.tables c.drop_replies.new.client.books new c.in-Moved.ensures.turned c.args.self.now c.drop_replies.new.self
    c.drop_replies.ensures.before refl)

pub returns-in-Moved-clause-lanes : goal.returns-in-Moved-clause-lanes
returns-in-Moved-clause-lanes g c =
    let theory = g.P.PairTable.theory in
    let new = c.turn_where_counting.new.client.books in
    let same = ap (λ client. client.books) (c.if-drop_replies.ensures.rests refl).0 in
    subst (λ b. AsksNothing theory.client_view b new) same
    (turned_asks theory _ c.args.tables.now c.turn_where_counting.new.tables c.drop_replies.new.client.books new c.in-Moved.ensures.turned)

pub returns-in-Moved-clause-keeps : goal.returns-in-Moved-clause-keeps
returns-in-Moved-clause-keeps g c =
    let theory = g.P.PairTable.theory in
    let new = c.turn_where_counting.new.client.books in
    let same = ap (λ client. client.books) (c.if-drop_replies.ensures.rests refl).0 in
    subst (λ b. KeepsMarks b new) same
    (turned_marks theory _ c.args.tables.now c.turn_where_counting.new.tables c.drop_replies.new.client.books new c.in-Moved.ensures.turned)

pub returns-in-Moved-clause-given : goal.returns-in-Moved-clause-given
returns-in-Moved-clause-given g c = λ s marks first now given.
    turned_given g.P.PairTable.theory.client_view s marks c.drop_replies.new.self first c.drop_replies.new.client.books c.turn_where_counting.new.client.books now now refl refl refl
    (c.turn_where_counting.ensures.asks Missing) (c.drop_replies.ensures.given s marks first now given)

pub returns-in-Moved-clause-home : goal.returns-in-Moved-clause-home
returns-in-Moved-clause-home g c = λ openings home.
    c.turn_where_counting.ensures.home openings
    (home_stays g.P.PairTable.theory openings c.args.tables.now c.args.client.now.books c.drop_replies.new.client.books home c.drop_replies.ensures.keeps
    (c.drop_replies.ensures.client openings home.client))

pub returns-in_default : goal.returns-in_default
returns-in_default g c =
    let theory = g.P.PairTable.theory in
    let old = c.args.client.now.books in
    let mid = c.drop_replies.new.client.books in
    let new = c.turn_where_counting.new.client.books in
    let tables = c.args.tables.now in
    let tables_new = c.turn_where_counting.new.tables in
    let turns = c.turn_where_counting.ensures.turned in
    let rests = c.if-drop_replies.ensures.rests refl in
    let same = ap (λ client. client.books) rests.0 in
    let (openings, home) = c.requires.home in
    let home_mid = subst (λ b. IsAtTables theory openings tables b) (sym same) home in
    let none = subst (λ b. b.arrived.items ≡ []) (sym same) rests.2 in record {
      moved = λ no. absurd (false≢true no);
      waits = λ _. (
        rests.1,
        subst (λ b. AllPending theory.client_view b new) same (turned_none theory _ tables tables_new mid new turns openings home_mid none c.in_default.not-Moved),
        turned_counts theory _ tables tables_new mid new turns openings home_mid none c.in_default.not-Moved (λ no. c.requires.counts (subst (λ b. NoneCounts b) same no)),
      );
      session = c.drop_replies.ensures.session;
      lanes = subst (λ b. AsksNothing theory.client_view b new) same (turned_asks theory _ tables tables_new mid new turns);
      looks = λ _.
          subst (λ b. TurnsBelow theory store_kind (length tables) Pending tables b tables_new new) same
          (turned_pends theory _ tables tables_new mid new turns openings home_mid none c.in_default.not-Moved (λ no. c.requires.counts (subst (λ b. NoneCounts b) same no)));
      turns = turns_from theory mid old tables tables_new new c.turn_where_counting.result same turns;
      keeps = subst (λ b. KeepsMarks b new) same (turned_marks theory _ tables tables_new mid new turns);
      given = λ s marks first now given.
          turned_given theory.client_view s marks c.drop_replies.new.self first mid new now now refl refl refl
          (c.turn_where_counting.ensures.asks Missing) (c.drop_replies.ensures.given s marks first now given);
      home = λ openings home.
          c.turn_where_counting.ensures.home openings
          (home_stays theory openings tables old mid home c.drop_replies.ensures.keeps (c.drop_replies.ensures.client openings home.client));
    }
