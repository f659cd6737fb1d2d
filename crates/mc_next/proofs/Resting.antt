-- Turns of a client of which none moved anything: where a request counts each looked and found nothing.
use Rattle.std.proofs.Common.{◌≡◌, ◌≢◌, ℕ, zero, suc, ◌<◌, ◌≤◌, ◌⊎◌, inl, inr, Bool, true, false, List, [], ◌++◌, length, length-set, refl, sym, ◌∙◌, ap, subst, arith}
use Rattle.std.specs.Prelude.{slice_get, slice_set}
use Rattle.std.specs.declared.option.Option.TheVariants.{Some}
use Rattle.std.proofs.lemmas.Bool.{cases_eq}
use Rattle.std.proofs.lemmas.Option.{slice_get_within}
use Rattle.tm_seq.specs.Kind.{Kind}
use Rattle.tm_model.specs.Holds.{has_bye}
use Rattle.tm_pair.specs.Theory.{Theory}
use Rattle.tm_client.specs.declared.answers.Turn.{Turn}
use Rattle.tm_client.specs.declared.answers.Turn.TheVariants as turn
use Rattle.tm_client.specs.Lanes.{asks_in, out_requests, unanswered, IsLane}
use Rattle.tm_client.specs.Clients.{come_of, IsClient}
use Rattle.tm_client.specs.Turns.{HasNothing, HasLooked}
use Rattle.tm_client.proofs.Elements.{same_element}
use Rattle.tm_client.proofs.Fronts.{set_there}
use Rattle.tm_asking.specs.Asking.{NoneCounts}
use Rattle.tm_asking.specs.declared.turning.Turned.{Turned}
use Rattle.tm_asking.specs.declared.turning.Turned.TheVariants.{Nothing, Pending, Arrived, Moved}
use Rattle.tm_asking.specs.Turning.{told_of, told_with, TurnsAt, TurnsWhereCounting, TurnsBelow}
use Rattle.tm_asking.proofs.Dealing.{read_other}
use Rattle.mc_model.specs.declared.reply.ShardReply.{ShardReply}
use Rattle.mc_shard.specs.declared.op.ShardOp.{ShardOp}
use Rattle.mc_route.specs.Places.{StoreValue}
use Rattle.mc_next.specs.Parts.{StoreTask, StoreView}
use Rattle.mc_next.specs.Clients.{StoreBooks, StoreLane}
use Rattle.mc_next.specs.Works.{StoreState}
use Rattle.mc_next.specs.Steps.{IsLanePending, AllPending}

not_true : (b : Bool) → b ≢ true → b ≡ false
not_true true ne = absurd (ne refl)
not_true false ne = refl

-- turns that moved nothing together moved nothing each
neither_moved : (b h : Turned) → told_with b h ≢ Moved → (b ≢ Moved) × (h ≢ Moved)
neither_moved Nothing h ne = (λ e. absurd cc, ne)
neither_moved Pending Nothing ne = (λ e. absurd cc, λ e. absurd cc)
neither_moved Pending Pending ne = (λ e. absurd cc, λ e. absurd cc)
neither_moved Pending Arrived ne = (λ e. absurd cc, λ e. absurd cc)
neither_moved Pending Moved ne = absurd (ne refl)
neither_moved Arrived Nothing ne = (λ e. absurd cc, λ e. absurd cc)
neither_moved Arrived Pending ne = (λ e. absurd cc, λ e. absurd cc)
neither_moved Arrived Arrived ne = (λ e. absurd cc, λ e. absurd cc)
neither_moved Arrived Moved ne = absurd (ne refl)
neither_moved Moved h ne = absurd (ne refl)

module _ {D : Type 0} (view : D → StoreView) where
  -- the first n lanes looked where a request counts, and the others stay
  pub record RestsBelow (n : ℕ) (old new : StoreBooks D) : Type 0 where
    pub many : length new.lanes.items ≡ length old.lanes.items
    pub below : (t : ℕ) (lane becomes : StoreLane D) → t < n → slice_get old.lanes.items t ≡ Some lane → slice_get new.lanes.items t ≡ Some becomes → IsLanePending view lane becomes
    pub above : (t : ℕ) → n ≤ t → slice_get new.lanes.items t ≡ slice_get old.lanes.items t
    pub arrived : new.arrived ≡ old.arrived

  rests_none : (books : StoreBooks D) → RestsBelow 0 books books
  rests_none books = record { many = refl; below = λ t lane becomes lt e f. absurd (omega (arith, lt)); above = λ t le. refl; arrived = refl }

  one_more :
      (n : ℕ) (old mid new : StoreBooks D) → RestsBelow n old mid → length new.lanes.items ≡ length mid.lanes.items
      → ((lane becomes : StoreLane D) → slice_get old.lanes.items n ≡ Some lane → slice_get new.lanes.items n ≡ Some becomes → IsLanePending view lane becomes)
      → ((k : ℕ) → k ≢ n → slice_get new.lanes.items k ≡ slice_get mid.lanes.items k) → new.arrived ≡ mid.arrived → RestsBelow (suc n) old new
  one_more n old mid new r many here others arrived = record {
    many = many ∙ r.many;
    below = λ t lane becomes lt e f.
        elim (cases_eq t n) [
          | inl same ↦ here lane becomes (subst (λ k. slice_get old.lanes.items k ≡ Some lane) same e) (subst (λ k. slice_get new.lanes.items k ≡ Some becomes) same f)
          | inr other ↦ r.below t lane becomes (omega (arith, lt, other)) e (sym (others t other) ∙ f)
        ];
    above = λ t le. others t (λ same. absurd (omega (arith, le, same))) ∙ r.above t (omega (arith, le));
    arrived = arrived ∙ r.arrived;
  }

  pub all_rest : (old new : StoreBooks D) → RestsBelow (length old.lanes.items) old new → AllPending view old new
  all_rest old new r = record {
    many = r.many;
    lanes = λ t lane becomes e f. r.below t lane becomes (slice_get_within old.lanes.items t lane e) e f;
    arrived = r.arrived;
  }

module _ {D Table Owner : Type 0} (theory : Theory StoreValue ShardOp ShardReply StoreTask Table D Owner) where
  -- where a request counts at a lane and nothing arrived, something is out or due
  not_idle :
      (opening : StoreState) (c : ℕ) (lane becomes : StoreLane D) (was now : Table) (old new : StoreBooks D)
      → IsLane theory.client_view opening c 0 lane → lane.counting ≢ 0 → HasNothing theory was now lane becomes old new → ⊥
  not_idle opening c lane becomes was now old new is counts h =
      let none : length (unanswered theory.client_view lane) ≡ 0 = ap (λ b. length (asks_in (out_requests b) ++ lane.waits.items)) h.free ∙ ap length h.waits in
      let launched : lane.launched.items ≢ [] = λ e. counts (let all = is.counting in let empty = ap length e in omega (arith, all, none, empty)) in
      let unsaid : has_bye (theory.client_view lane.side).sent ≡ false = sym is.said ∙ not_true lane.said (λ e. counts (is.last e).1) in
      h.no_fetch (h.waits, h.no_bye, unsaid, inr launched)

  module _ (kind : Kind StoreValue ShardOp ShardReply StoreTask) (openings : ℕ → StoreState) (books : StoreBooks D) (client : IsClient theory.client_view openings books)
      (none : books.arrived.items ≡ []) where
    -- the turn at trustee n, behind those before it
    module _ (n : ℕ) (tables tables_new : List Table) (book books_new : StoreBooks D) (r : RestsBelow theory.client_view n books book) (lane : StoreLane D)
        (there : slice_get book.lanes.items n ≡ Some lane) where
      was_there : slice_get books.lanes.items n ≡ Some lane
      was_there = sym (r.above n (omega arith)) ∙ there

      is_lane : IsLane theory.client_view (openings n) books.number 0 lane
      is_lane = subst (λ xs. IsLane theory.client_view (openings n) books.number (come_of n xs) lane) none (client.lanes n lane was_there)

      none_counts : lane.counting ≡ 0 → books_new ≡ book → RestsBelow theory.client_view (suc n) books books_new
      none_counts zero_counts same =
          subst (λ b. RestsBelow theory.client_view (suc n) books b) (sym same)
          (one_more theory.client_view n books book book r refl
          (λ l becomes e f.
          let is = same_element books.lanes.items n lane l was_there e in
          let stays = same_element book.lanes.items n lane becomes there f in
          inl (ap (λ x. x.counting) is ∙ zero_counts, stays ∙ sym is))
          (λ k other. refl) refl)

      looked : (was now : Table) (becomes : StoreLane D) → lane.counting ≢ 0 → books_new.lanes.items ≡ slice_set book.lanes.items n becomes
          → HasLooked theory was now lane becomes book books_new → RestsBelow theory.client_view (suc n) books books_new
      looked was now becomes counts lanes h =
          one_more theory.client_view n books book books_new r (ap length lanes ∙ length-set book.lanes.items n becomes)
          (λ l b e f.
          let is = same_element books.lanes.items n lane l was_there e in
          let set = set_there book.lanes.items n becomes (slice_get_within book.lanes.items n lane there) in
          let stands : b ≡ becomes = same_element (slice_set book.lanes.items n becomes) n becomes b set (subst (λ xs. slice_get xs n ≡ Some b) lanes f) in
          subst (λ x. IsLanePending theory.client_view x b) (sym is) (subst (λ x. IsLanePending theory.client_view lane x) (sym stands) (inr (counts, h.pending, h.stays))))
          (λ k other. ap (λ xs. slice_get xs k) lanes ∙ read_other book.lanes.items n k becomes other)
          (ap (λ b. b.arrived) h.rest)

      by_answer : (answer : Turn) → told_of answer ≢ Moved → lane.counting ≢ 0 → TurnsAt theory kind n answer tables book tables_new books_new
          → RestsBelow theory.client_view (suc n) books books_new
      by_answer turn.Pending ne counts at =
          let is = same_element book.lanes.items n at.turned.lane lane at.turned.turns.of_lane there in
          looked at.was at.now at.turned.becomes counts at.turned.turns.lanes
          (subst (λ l. HasLooked theory at.was at.now l at.turned.becomes book books_new) (sym is) at.turned.tells)
      by_answer (turn.Sent k) ne counts at = absurd (ne refl)
      by_answer (turn.Got k) ne counts at = absurd (ne refl)
      by_answer turn.Idle ne counts at =
          let is = same_element book.lanes.items n at.turned.lane lane at.turned.turns.of_lane there in
          absurd (not_idle (openings n) books.number lane at.turned.becomes at.was at.now book books_new is_lane counts
          (subst (λ l. HasNothing theory at.was at.now l at.turned.becomes book books_new) (sym is) at.turned.tells))

    answer_pending : (n : ℕ) (tables tables_new : List Table) (book books_new : StoreBooks D) (r : RestsBelow theory.client_view n books book) (lane : StoreLane D)
        (there : slice_get book.lanes.items n ≡ Some lane) (answer : Turn) → told_of answer ≢ Moved → lane.counting ≢ 0
        → TurnsAt theory kind n answer tables book tables_new books_new → told_of answer ≡ Pending
    answer_pending n tables tables_new book books_new r lane there turn.Pending ne counts at = refl
    answer_pending n tables tables_new book books_new r lane there (turn.Sent k) ne counts at = absurd (ne refl)
    answer_pending n tables tables_new book books_new r lane there (turn.Got k) ne counts at = absurd (ne refl)
    answer_pending n tables tables_new book books_new r lane there turn.Idle ne counts at =
        let is = same_element book.lanes.items n at.turned.lane lane at.turned.turns.of_lane there in
        absurd (not_idle (openings n) books.number lane at.turned.becomes at.was at.now book books_new (is_lane n tables tables_new book books_new r lane there) counts
        (subst (λ l. HasNothing theory at.was at.now l at.turned.becomes book books_new) (sym is) at.turned.tells))

    turn_rests : (n : ℕ) (here : Turned) (tables tables_new : List Table) (book books_new : StoreBooks D) → RestsBelow theory.client_view n books book
        → TurnsWhereCounting theory kind n here tables book tables_new books_new → here ≢ Moved → RestsBelow theory.client_view (suc n) books books_new
    turn_rests n here tables tables_new book books_new r (lane, there, cases) ne =
        elim cases [
          | inl (zero_counts, told, stays, same) ↦ none_counts n tables tables_new book books_new r lane there zero_counts same
          | inr (counts, (answer, told, at)) ↦ by_answer n tables tables_new book books_new r lane there answer (λ e. ne (told ∙ e)) counts at
        ]

    rests_below : (n : ℕ) (told : Turned) (tables tables_new : List Table) (books_new : StoreBooks D) → TurnsBelow theory kind n told tables books tables_new books_new
        → told ≢ Moved → RestsBelow theory.client_view n books books_new
    unfolding TurnsBelow
    rests_below zero told tables tables_new books_new (nothing, stays, same) ne = subst (λ b. RestsBelow theory.client_view 0 books b) (sym same) (rests_none theory.client_view books)
    rests_below (suc n) told tables tables_new books_new (mid, book, before, here, below, turns, e) ne =
        let both = neither_moved before here (λ m. ne (e ∙ m)) in
        turn_rests n here mid tables_new book books_new (rests_below n before tables mid book below both.0) turns both.1

    -- what such turns say: that all are pending, or nothing where no request counts
    at_pending : (n : ℕ) (here : Turned) (tables tables_new : List Table) (book books_new : StoreBooks D) → RestsBelow theory.client_view n books book
        → TurnsWhereCounting theory kind n here tables book tables_new books_new → here ≢ Moved
        → (here ≡ Pending) ⊎ ((here ≡ Nothing) × ((lane : StoreLane D) → slice_get books.lanes.items n ≡ Some lane → lane.counting ≡ 0))
    at_pending n here tables tables_new book books_new r (lane, there, cases) ne =
        let was = was_there n tables tables_new book books_new r lane there in
        elim cases [
          | inl (zero_counts, told, stays, same) ↦
              inr (told, λ l e. ap (λ x. x.counting) (same_element books.lanes.items n lane l was e) ∙ zero_counts)
          | inr (counts, (answer, told, at)) ↦ inl (told ∙ answer_pending n tables tables_new book books_new r lane there answer (λ e. ne (told ∙ e)) counts at)
        ]

    abbrev pub ToldSo : ℕ → Turned → Type 0
    ToldSo n told =
        (told ≡ Pending) ⊎ ((told ≡ Nothing) × ((t : ℕ) (lane : StoreLane D) → t < n → slice_get books.lanes.items t ≡ Some lane → lane.counting ≡ 0))

    one_more_told : (n : ℕ) (before here : Turned) → ToldSo n before
        → (here ≡ Pending) ⊎ ((here ≡ Nothing) × ((lane : StoreLane D) → slice_get books.lanes.items n ≡ Some lane → lane.counting ≡ 0)) → ToldSo (suc n) (told_with before here)
    one_more_told n before here (inl e) (inl f) = inl (ap (λ t. told_with t here) e ∙ ap (told_with Pending) f)
    one_more_told n before here (inl e) (inr (f, zero_counts)) = inl (ap (λ t. told_with t here) e ∙ ap (told_with Pending) f)
    one_more_told n before here (inr (e, below)) (inl f) = inl (ap (λ t. told_with t here) e ∙ f)
    one_more_told n before here (inr (e, below)) (inr (f, zero_counts)) =
        inr (
          ap (λ t. told_with t here) e ∙ f,
          λ t lane lt there.
              elim (cases_eq t n) [
                | inl same ↦ zero_counts lane (subst (λ k. slice_get books.lanes.items k ≡ Some lane) same there)
                | inr other ↦ below t lane (omega (arith, lt, other)) there
              ],
        )

    told_below : (n : ℕ) (told : Turned) (tables tables_new : List Table) (books_new : StoreBooks D) → TurnsBelow theory kind n told tables books tables_new books_new
        → told ≢ Moved → ToldSo n told
    unfolding TurnsBelow
    told_below zero told tables tables_new books_new (nothing, stays, same) ne = inr (nothing, λ t lane lt. absurd (omega (arith, lt)))
    told_below (suc n) told tables tables_new books_new (mid, book, before, here, below, turns, e) ne =
        let both = neither_moved before here (λ m. ne (e ∙ m)) in
        subst (ToldSo (suc n)) (sym e)
        (one_more_told n before here (told_below n before tables mid book below both.0)
        (at_pending n here mid tables_new book books_new (rests_below n before tables mid book below both.0) turns both.1))

    -- where a request counts, all are pending
    pub turns_pend : (told : Turned) (tables tables_new : List Table) (books_new : StoreBooks D) → length tables ≡ length books.lanes.items
        → TurnsBelow theory kind (length tables) told tables books tables_new books_new → told ≢ Moved → ¬ (NoneCounts books) → told ≡ Pending
    turns_pend told tables tables_new books_new many turns ne counts =
        elim (told_below (length tables) told tables tables_new books_new turns ne) [
          | inl e ↦ e
          | inr (e, zero_counts) ↦
              absurd (counts (λ t lane there. let lt = slice_get_within books.lanes.items t lane there in zero_counts t lane (omega (arith, lt, many)) there))
        ]

    -- the turns at all of its trustees
    pub turns_rest : (told : Turned) (tables tables_new : List Table) (books_new : StoreBooks D) → length tables ≡ length books.lanes.items
        → TurnsBelow theory kind (length tables) told tables books tables_new books_new → told ≢ Moved → AllPending theory.client_view books books_new
    turns_rest told tables tables_new books_new many turns ne =
        all_rest theory.client_view books books_new
        (subst (λ n. RestsBelow theory.client_view n books books_new) many (rests_below (length tables) told tables tables_new books_new turns ne))
