-- What a client holds, its tables and what counts at its trustees, whatever the tasks do.
use Rattle.std.proofs.Common.{◌≡◌, ℕ, ◌≤◌, inl, inr, false, List, length, length-set, sym, ◌∙◌, ap, subst, arith}
use Rattle.std.specs.Prelude.{slice_get, slice_set, IsSomeAnd}
use Rattle.std.specs.declared.option.Option.TheVariants.{None, Some}
use Rattle.std.proofs.lemmas.Bool.{cases_eq}
use Rattle.std.proofs.lemmas.Option.{slice_get_within}
use Rattle.tm_seq.specs.Kind.{Kind}
use Rattle.tm_batch.specs.declared.message.Name.{Name}
use Rattle.tm_batch.specs.declared.message.Answer.{Answer}
use Rattle.tm_batch.specs.declared.message.Answer.TheVariants.{Entrusted, NotEntrusted, Replied, Launched, TicketsSpent, Granted, Gone, GiftsFull, Released, Reclaimed, Shared, ByeDone}
use Rattle.tm_batch.specs.declared.limits.TheConstants.{MOST_TRUSTEES}
use Rattle.tm_model.specs.State.{State}
use Rattle.tm_pair.specs.Theory.{Theory}
use Rattle.tm_client.specs.declared.answers.Came.{Came}
use Rattle.tm_client.specs.declared.answers.Came.TheVariants.{Answered, Finished}
use Rattle.tm_client.specs.declared.answers.Got.{Got}
use Rattle.tm_client.specs.declared.answers.Turn.{Turn}
use Rattle.tm_client.specs.declared.books.Books.{Books}
use Rattle.tm_client.specs.declared.holds.Hold.{Hold}
use Rattle.tm_client.specs.declared.holds.Holds.{Holds}
use Rattle.tm_client.specs.declared.lane.Lane.{Lane}
use Rattle.tm_client.specs.declared.trust.Trust.{Trust}
use Rattle.tm_client.specs.Asking.{IsHeldBy, IsOpen}
use Rattle.tm_client.specs.Listing.{hold_of, held_at, HasHold, Gains}
use Rattle.tm_client.specs.Taking.{IsGot, IsHanded}
use Rattle.tm_client.specs.Turns.{HasTurned}
use Rattle.tm_client.proofs.Elements.{element_at, set_cases}
use Rattle.tm_task.specs.declared.deed.Deed.{Deed}
use Rattle.tm_task.specs.declared.deed.Deed.TheVariants.{Added, Started, Asked, Resumed, Turned}
use Rattle.tm_task.specs.Ours.{HoldsOpen, AreTables}
use Rattle.tm_task.specs.Rules.{Rules}
use Rattle.tm_task.specs.Runs.{World, Does, Runs}
use Rattle.tm_task.proofs.Chains.{runs_keep}
use Rattle.tm_task.proofs.Places.{all_map, some_at_set}

-- a list that got one more has what it had
gains_has : (h g : Hold) (at : ℕ) (old new : Holds) → Gains g at old new → HasHold old h → HasHold new h
gains_has h g at old new gains (k, there) =
    elim (cases_eq k at) [
      | inl e ↦ let none : held_at old k ≡ None = ap (held_at old) e ∙ gains.free in
          let clash : None ≡ Some h = sym none ∙ there in absurd cc
      | inr ne ↦ (k, gains.updates.others k ne ∙ there)
    ]

same_has : (h : Hold) (old new : Holds) → new ≡ old → HasHold old h → HasHold new h
same_has h old new e has = subst (λ holds. HasHold holds h) (sym e) has

module _ {V O R K : Type 0} where
  -- what stands in the list stays there when an answer is taken
  got_has : (t c : ℕ) (name : Name) (a : Answer V O R K) (got : Got V O R K) (h : Hold) (old new : Holds) → IsGot t c name a got old new
      → HasHold old h → HasHold new h
  got_has t c name (Entrusted n) got h old new (trust, is, listed) has = gains_has h (hold_of t n) trust.at old new listed.gains has
  got_has t c name (NotEntrusted refusal v) got h old new is has = same_has h old new is.1 has
  got_has t c name (Replied r) got h old new is has = same_has h old new is.1 has
  got_has t c name (Launched ticket) got h old new is has = absurd is
  got_has t c name (TicketsSpent task) got h old new is has = same_has h old new is.1 has
  got_has t c name Granted got h old new is has = same_has h old new is.1 has
  got_has t c name Gone got h old new is has = same_has h old new is.1 has
  got_has t c name GiftsFull got h old new is has = same_has h old new is.1 has
  got_has t c name Released got h old new is has = same_has h old new is.1 has
  got_has t c name (Reclaimed v) got h old new is has = same_has h old new is.1 has
  got_has t c name Shared got h old new (trust, is, listed) has = gains_has h (hold_of t name) trust.at old new listed.gains has
  got_has t c name ByeDone got h old new is has = absurd is

  handed_has : (t c : ℕ) (name : Name) (a : Came V O R K) (got : Got V O R K) (h : Hold) (old new : Holds) → IsHanded t c name a got old new
      → HasHold old h → HasHold new h
  handed_has t c name (Answered a) got h old new is has = got_has t c name a got h old new is has
  handed_has t c name (Finished r) got h old new is has = same_has h old new is.1 has

module _ {V O R K D : Type 0} where
  -- the client still holds what it held, and closed no further trustee
  pub record StillHolds (old new : Books V ℕ D O R K) : Type 0 where
    pub number : new.number ≡ old.number
    pub held : (h : Hold) → HasHold old.held h → HasHold new.held h
    pub open_ : (t : ℕ) → IsOpen old t → IsOpen new t

  holds_on : (trusts : List Trust) (old new : Books V ℕ D O R K) → StillHolds old new → HoldsOpen old trusts → HoldsOpen new trusts
  holds_on trusts old new still holds =
      all_map (λ trust. IsHeldBy old trust × IsOpen old trust.trustee) (λ trust. IsHeldBy new trust × IsOpen new trust.trustee)
      (λ trust h. ((h.0.0 ∙ sym still.number, still.held (hold_of trust.trustee trust.name) h.0.1), still.open_ trust.trustee h.1)) trusts holds

  same_holds : (old new : Books V ℕ D O R K) → new ≡ old → StillHolds old new
  same_holds old new e = record {
    number = ap (λ b. b.number) e;
    held = λ h has. same_has h old.held new.held (ap (λ b. b.held) e) has;
    open_ = λ t o. subst (λ b. IsOpen b t) (sym e) o;
  }

  -- a lane that keeps whether it is closing
  open_set : (t0 : ℕ) (lane becomes : Lane V ℕ D O R K) (old new : Books V ℕ D O R K) → slice_get old.lanes.items t0 ≡ Some lane
      → new.lanes.items ≡ slice_set old.lanes.items t0 becomes → becomes.closing ≡ lane.closing → (t : ℕ) → IsOpen old t → IsOpen new t
  open_set t0 lane becomes old new of_lane lanes closing t o =
      subst (λ l. IsSomeAnd (slice_get l t) (λ (x : Lane V ℕ D O R K). x.closing ≡ false)) (sym lanes)
      (some_at_set (λ (x : Lane V ℕ D O R K). x.closing ≡ false) old.lanes.items t0 t lane becomes of_lane (λ e. closing ∙ e) o)

module _ {V T U O R K D Table Owner : Type 0} (theory : Theory V O R K Table D Owner) (kind : Kind V O R K) (rules : Rules V T U O R K)
    (trusts : List Trust) where
  deed_holds : (d : Deed V T U O R K) (was now : World V T U O R K D Table) → Does theory kind rules trusts d was now → StillHolds was.books now.books
  deed_holds (Added task) was now h = same_holds was.books now.books h.calls.books
  deed_holds (Started n move) was now h = same_holds was.books now.books h.calls.books
  deed_holds (Asked n i op) was now h =
      let asked = h.calls.asked in
      record {
        number = asked.rest.number;
        held = λ x has. same_has x was.books.held now.books.held asked.rest.held has;
        open_ = open_set h.calls.trust.trustee asked.lane asked.becomes was.books now.books asked.of_lane asked.lanes asked.accepts.closing;
      }
  deed_holds (Resumed n got move) was now h =
      let taken = h.calls.taken in
      record {
        number = taken.number;
        held = λ x has. handed_has taken.t was.books.number taken.name taken.came got x was.books.held now.books.held taken.is_got has;
        open_ = open_set taken.t taken.lane taken.becomes was.books now.books taken.of_lane taken.lanes taken.counts.closing;
      }
  deed_holds (Turned t turn) was now h =
      let turns = h.calls.turned.turns in
      record {
        number = turns.number;
        held = λ x has. same_has x was.books.held now.books.held turns.held has;
        open_ = open_set t h.calls.turned.lane h.calls.turned.becomes was.books now.books turns.of_lane turns.lanes turns.closing;
      }

  -- whatever is done, the client holds the trusts and did not close at their trustees
  pub holds_then : (deeds : List (Deed V T U O R K)) (was now : World V T U O R K D Table) → Runs theory kind rules trusts deeds was now
      → HoldsOpen was.books trusts → HoldsOpen now.books trusts
  holds_then deeds was now runs holds =
      runs_keep theory kind rules trusts (λ w. HoldsOpen w.books trusts) (λ d x y does is. holds_on trusts x.books y.books (deed_holds d x y does) is)
      deeds was now runs holds

module _ {V O R K D Table Owner : Type 0} (theory : Theory V O R K Table D Owner) (openings : ℕ → State V O R K) where
  -- a lane that keeps its side
  tables_set : (t0 : ℕ) (lane becomes : Lane V ℕ D O R K) (old new : Books V ℕ D O R K) (tables : List Table) → slice_get old.lanes.items t0 ≡ Some lane
      → new.lanes.items ≡ slice_set old.lanes.items t0 becomes → becomes.side ≡ lane.side → AreTables theory openings old tables
      → AreTables theory openings new tables
  tables_set t0 lane becomes old new tables of_lane lanes side are = record {
    limit = are.limit;
    as_many = are.as_many ∙ sym (ap length lanes ∙ length-set old.lanes.items t0 becomes);
    mine = λ t table l at of.
        elim (set_cases old.lanes.items t0 t becomes l (subst (λ ls. slice_get ls t ≡ Some l) lanes of)) [
          | inl h ↦ subst (λ s. theory.HasClient table s) (sym (ap (λ (x : Lane V ℕ D O R K). x.side) h.1 ∙ side))
              (are.mine t table lane at (ap (slice_get old.lanes.items) h.0 ∙ of_lane))
          | inr h ↦ are.mine t table l at h.1
        ];
    opens = are.opens;
  }

  -- a client may make its turn at each of its tables
  pub may_turn : (books : Books V ℕ D O R K) (tables : List Table) (t : ℕ) (table : Table) → AreTables theory openings books tables
      → slice_get tables t ≡ Some table
      → IsSomeAnd (slice_get books.lanes.items t) (λ lane. theory.HasClient table lane.side) × (openings t ≡ theory.opening table)
  may_turn books tables t table are at =
      let within = slice_get_within tables t table at in
      let many = are.as_many in
      let (lane, of) = element_at books.lanes.items t (omega (arith, within, many)) in
      (subst (λ o. IsSomeAnd o (λ (x : Lane V ℕ D O R K). theory.HasClient table x.side)) (sym of) (are.mine t table lane at of), are.opens t table at)

  pub tables_turned : (kind : Kind V O R K) (t0 : ℕ) (turn : Turn) (was now : Table) (old new : Books V ℕ D O R K) (before after : List Table)
      → slice_get before t0 ≡ Some was → after ≡ slice_set before t0 now → HasTurned theory kind t0 turn was now old new
      → AreTables theory openings old before → AreTables theory openings new after
  tables_turned kind t0 turn was now old new before after of_table tables h are =
      let many : length after ≡ length before = ap length tables ∙ length-set before t0 now in
      record {
        limit = subst (λ n. n ≤ MOST_TRUSTEES) (sym many) are.limit;
        as_many = many ∙ are.as_many ∙ sym (ap length h.turns.lanes ∙ length-set old.lanes.items t0 h.becomes);
        mine = λ t table l at of.
            elim (set_cases before t0 t now table (subst (λ ts. slice_get ts t ≡ Some table) tables at)) [
              | inl first ↦
                  elim (set_cases old.lanes.items t0 t h.becomes l (subst (λ ls. slice_get ls t ≡ Some l) h.turns.lanes of)) [
                    | inl second ↦
                        let here : theory.HasClient now l.side = subst (λ (x : Lane V ℕ D O R K). theory.HasClient now x.side) (sym second.1) h.keeps.mine in
                        subst (λ x. theory.HasClient x l.side) (sym first.1) here
                    | inr second ↦ absurd (second.0 first.0)
                  ]
              | inr first ↦
                  elim (set_cases old.lanes.items t0 t h.becomes l (subst (λ ls. slice_get ls t ≡ Some l) h.turns.lanes of)) [
                    | inl second ↦ absurd (first.0 second.0)
                    | inr second ↦ are.mine t table l first.1 second.1
                  ]
            ];
        opens = λ t table at.
            elim (set_cases before t0 t now table (subst (λ ts. slice_get ts t ≡ Some table) tables at)) [
              | inl first ↦
                  are.opens t was (ap (slice_get before) first.0 ∙ of_table) ∙ sym h.keeps.opening ∙ ap theory.opening (sym first.1)
              | inr first ↦ are.opens t table first.1
            ];
      }

  same_tables : (old new : Books V ℕ D O R K) (before after : List Table) → new ≡ old → after ≡ before → AreTables theory openings old before
      → AreTables theory openings new after
  same_tables old new before after e f are =
      subst (λ b. AreTables theory openings b after) (sym e) (subst (λ ts. AreTables theory openings old ts) (sym f) are)

module _ {V T U O R K D Table Owner : Type 0} (theory : Theory V O R K Table D Owner) (kind : Kind V O R K) (rules : Rules V T U O R K)
    (trusts : List Trust) (openings : ℕ → State V O R K) where
  deed_tables : (d : Deed V T U O R K) (was now : World V T U O R K D Table) → Does theory kind rules trusts d was now
      → AreTables theory openings was.books was.tables → AreTables theory openings now.books now.tables
  deed_tables (Added task) was now h are = same_tables theory openings was.books now.books was.tables now.tables h.calls.books h.calls.tables are
  deed_tables (Started n move) was now h are = same_tables theory openings was.books now.books was.tables now.tables h.calls.books h.calls.tables are
  deed_tables (Asked n i op) was now h are =
      let asked = h.calls.asked in
      subst (λ ts. AreTables theory openings now.books ts) (sym h.calls.tables)
      (tables_set theory openings h.calls.trust.trustee asked.lane asked.becomes was.books now.books was.tables asked.of_lane asked.lanes asked.accepts.side are)
  deed_tables (Resumed n got move) was now h are =
      let taken = h.calls.taken in
      subst (λ ts. AreTables theory openings now.books ts) (sym h.calls.tables)
      (tables_set theory openings taken.t taken.lane taken.becomes was.books now.books was.tables taken.of_lane taken.lanes taken.counts.side are)
  deed_tables (Turned t turn) was now h are =
      tables_turned theory openings kind t turn h.calls.table h.calls.becomes was.books now.books was.tables now.tables h.calls.of_table h.calls.tables
      h.calls.turned are

  -- whatever is done, these are the client's tables
  pub tables_then : (deeds : List (Deed V T U O R K)) (was now : World V T U O R K D Table) → Runs theory kind rules trusts deeds was now
      → AreTables theory openings was.books was.tables → AreTables theory openings now.books now.tables
  tables_then deeds was now runs are =
      runs_keep theory kind rules trusts (λ w. AreTables theory openings w.books w.tables) (λ d x y does is. deed_tables d x y does is) deeds was now runs are
