-- What a client's turns leave alone: its trusts, what is closed and fetched, and what was asked at each trustee.
use Rattle.std.proofs.Common.{◌≡◌, ◌≢◌, ℕ, zero, suc, inl, inr, true, List, ◌++◌, length, length-set, take, refl, sym, ◌∙◌, ap, subst, arith, append_assoc}
use Rattle.std.specs.Prelude.{slice_get, slice_set}
use Rattle.std.specs.declared.option.Option.TheVariants.{Some}
use Rattle.std.proofs.lemmas.Bool.{false≢true}
use Rattle.std.proofs.lemmas.Option.{slice_get_within}
use Rattle.std.proofs.lemmas.List.{take-append-drop}
use Rattle.tm_seq.specs.Kind.{Kind}
use Rattle.tm_batch.specs.declared.limits.TheConstants.{MOST_REQUESTS}
use Rattle.tm_batch.specs.declared.message.Request.{Request}
use Rattle.tm_pair.specs.Theory.{Theory}
use Rattle.tm_client.specs.declared.answers.Turn.{Turn}
use Rattle.tm_client.specs.declared.answers.Turn.TheVariants as turn
use Rattle.tm_client.specs.Turns.{IsDue, Tells}
use Rattle.tm_client.proofs.Elements.{set_cases, element_at, same_element}
use Rattle.tm_client.proofs.Fronts.{set_there}
use Rattle.tm_asking.specs.declared.turning.Turned.{Turned}
use Rattle.tm_asking.specs.Turning.{TurnsAt, TurnsWhereCounting, TurnsBelow}
use Rattle.mc_model.specs.declared.reply.ShardReply.{ShardReply}
use Rattle.mc_shard.specs.declared.op.ShardOp.{ShardOp}
use Rattle.mc_route.specs.Places.{StoreValue}
use Rattle.mc_next.specs.Parts.{StoreTask, StoreView}
use Rattle.mc_next.specs.Clients.{StoreBooks, StoreLane, AreStoreTrusts}
use Rattle.mc_next.specs.Works.{KeepsClient}
use Rattle.mc_next.specs.Steps.{KeepsMarks, AsksNothing}
use Rattle.tm_client.specs.Listing.{HasHold, hold_of}
use Rattle.tm_client.specs.declared.trust.Trust.{Trust}

module _ {D : Type 0} where
  pub marks_none : (books : StoreBooks D) → KeepsMarks books books
  marks_none books = record {
    number = refl;
    held = refl;
    many = refl;
    marks = λ t lane becomes e f.
        let same = same_element books.lanes.items t lane becomes e f in (ap (λ l. l.closing) same, λ is. ap (λ l. l.fetching) (sym same) ∙ is);
  }

  pub marks_then : (first mid last : StoreBooks D) → KeepsMarks first mid → KeepsMarks mid last → KeepsMarks first last
  marks_then first mid last h k = record {
    number = k.number ∙ h.number;
    held = k.held ∙ h.held;
    many = k.many ∙ h.many;
    marks = λ t lane becomes e f.
        let lt = slice_get_within first.lanes.items t lane e in
        let many = h.many in
        let (between, there) = element_at mid.lanes.items t (omega (arith, lt, many)) in
        let one = h.marks t lane between e there in
        let two = k.marks t between becomes there f in
        (two.0 ∙ one.0, λ is. one.1 (two.1 is));
  }

  pub marks_of : (old new : StoreBooks D) → KeepsClient old new → KeepsMarks old new
  marks_of old new k = record {
    number = k.number;
    held = k.held;
    many = k.many;
    marks = λ t lane becomes e f. let sides = k.sides t lane becomes e f in (sides.1, λ is. sym sides.2 ∙ is);
  }

  -- the client holds the trusts still
  pub trusts_by_marks : (trustees : ℕ) (old new : StoreBooks D) (trusts : List Trust) → AreStoreTrusts trustees old trusts → KeepsMarks old new → AreStoreTrusts trustees new trusts
  trusts_by_marks trustees old new trusts a k = record {
    fewest = a.fewest;
    most = a.most;
    many = k.many ∙ a.many;
    count = a.count;
    classes = a.classes;
    desk = a.desk;
    held = λ i trust e. let h = a.held i trust e in (h.0 ∙ sym k.number, subst (λ held. HasHold held (hold_of trust.trustee trust.name)) (sym k.held) h.1);
  }

  -- what holds of a lane and what it becomes, and of each lane and itself, holds of all lanes
  all_lanes :
      (P : StoreLane D → StoreLane D → Type 0) (old : StoreBooks D) (t : ℕ) (lane becomes : StoreLane D) (lanes : List (StoreLane D))
      → slice_get old.lanes.items t ≡ Some lane → lanes ≡ slice_set old.lanes.items t becomes → P lane becomes → ((l : StoreLane D) → P l l)
      → (k : ℕ) (was now : StoreLane D) → slice_get old.lanes.items k ≡ Some was → slice_get lanes k ≡ Some now → P was now
  all_lanes P old t lane becomes lanes at set here same k was now e f =
      elim (set_cases old.lanes.items t k becomes now (subst (λ xs. slice_get xs k ≡ Some now) set f)) [
        | inl (place, is) ↦
            let there : was ≡ lane = same_element old.lanes.items t lane was at (subst (λ n. slice_get old.lanes.items n ≡ Some was) place e) in
            subst (λ l. P l now) (sym there) (subst (λ l. P lane l) (sym is) here)
        | inr (other, there) ↦ subst (λ l. P was l) (sym (same_element old.lanes.items k was now e there)) (same was)
      ]

module _ {D : Type 0} (view : D → StoreView) where
  pub asks_none : (books : StoreBooks D) → AsksNothing view books books
  asks_none books = λ t lane becomes e f. ap (λ l. (view l.side).sent ++ l.waits.items) (same_element books.lanes.items t lane becomes e f)

  pub asks_then : (first mid last : StoreBooks D) → length mid.lanes.items ≡ length first.lanes.items → AsksNothing view first mid → AsksNothing view mid last → AsksNothing view first last
  asks_then first mid last many h k = λ t lane becomes e f.
      let lt = slice_get_within first.lanes.items t lane e in
      let (between, there) = element_at mid.lanes.items t (omega (arith, lt, many)) in
      k t between becomes there f ∙ h t lane between e there

  -- where sides and what waits stay
  pub asks_of :
      (old new : StoreBooks D) → KeepsClient old new
      → ((t : ℕ) (lane becomes : StoreLane D) → slice_get old.lanes.items t ≡ Some lane → slice_get new.lanes.items t ≡ Some becomes → becomes.waits ≡ lane.waits)
      → AsksNothing view old new
  asks_of old new k waits = λ t lane becomes e f.
      ap (λ side. (view side).sent ++ becomes.waits.items) (k.sides t lane becomes e f).0 ∙ ap (λ w. (view lane.side).sent ++ w.items) (waits t lane becomes e f)

  -- what a turn leaves of a lane
  abbrev pub LaneKeeps : StoreLane D → StoreLane D → Type 0
  LaneKeeps lane becomes =
      (becomes.closing ≡ lane.closing) × (becomes.fetching ≡ true → lane.fetching ≡ true)
      × ((view becomes.side).sent ++ becomes.waits.items ≡ (view lane.side).sent ++ lane.waits.items)

module _ {D Table Owner : Type 0} (theory : Theory StoreValue ShardOp ShardReply StoreTask Table D Owner) (kind : Kind StoreValue ShardOp ShardReply StoreTask) where
  -- what is sent waits no more
  due_sent :
      (lane : StoreLane D) (b rest : List (Request StoreValue ShardOp ShardReply StoreTask)) → IsDue theory lane b rest → lane.counting ≢ 0
      → b ++ rest ≡ lane.waits.items
  due_sent lane b rest (inl (some, b_is, rest_is)) counts =
      ap (λ l. l ++ rest) b_is ∙ ap (λ l. take MOST_REQUESTS lane.waits.items ++ l) rest_is ∙ take-append-drop MOST_REQUESTS lane.waits.items
  due_sent lane b rest (inr (inl (bye, b_is, rest_is))) counts = absurd (counts bye.3)
  due_sent lane b rest (inr (inr (fetch, b_is, rest_is))) counts = ap (λ l. l ++ rest) b_is ∙ rest_is ∙ sym fetch.0

  lane_keeps :
      (answer : Turn) (t : ℕ) (was now : Table) (lane becomes : StoreLane D) (old new : StoreBooks D) → slice_get old.lanes.items t ≡ Some lane
      → new.lanes.items ≡ slice_set old.lanes.items t becomes → becomes.closing ≡ lane.closing → lane.counting ≢ 0
      → Tells theory kind t answer was now lane becomes old new → LaneKeeps theory.client_view lane becomes
  lane_keeps (turn.Got n) t was now lane becomes old new at set closing counts h = (
    closing,
    λ is. sym h.fetching ∙ is,
    ap (λ l. l ++ becomes.waits.items) h.gets.sent ∙ ap (λ w. (theory.client_view lane.side).sent ++ w.items) h.waits,
  )
  lane_keeps turn.Pending t was now lane becomes old new at set closing counts h = (
    closing,
    λ is. sym (ap (λ l. l.fetching) h.stays) ∙ is,
    ap (λ l. l ++ becomes.waits.items) h.pending.sent ∙ ap (λ l. (theory.client_view lane.side).sent ++ l.waits.items) h.stays,
  )
  lane_keeps (turn.Sent n) t was now lane becomes old new at set closing counts h = (
    closing,
    λ is. absurd (false≢true (sym h.fetching ∙ is)),
    ap (λ l. l ++ becomes.waits.items) h.publishes.sent ∙ append_assoc (theory.client_view lane.side).sent h.batch.requests.items becomes.waits.items
        ∙ ap (λ l. (theory.client_view lane.side).sent ++ l) (due_sent lane h.batch.requests.items becomes.waits.items h.due counts),
  )
  lane_keeps turn.Idle t was now lane becomes old new at set closing counts h =
      let there = set_there old.lanes.items t becomes (slice_get_within old.lanes.items t lane at) in
      let stands = subst (λ xs. slice_get xs t ≡ Some becomes) (sym set ∙ ap (λ b. b.lanes.items) h.kept) there in
      let same : becomes ≡ lane = same_element old.lanes.items t lane becomes at stands in
      (closing, λ is. sym (ap (λ l. l.fetching) same) ∙ is, ap (λ l. (theory.client_view l.side).sent ++ l.waits.items) same)

  -- one turn, where a request counts
  turn_keeps :
      (t : ℕ) (answer : Turn) (tables tables_new : List Table) (old new : StoreBooks D) (lane : StoreLane D) → slice_get old.lanes.items t ≡ Some lane → lane.counting ≢ 0
      → TurnsAt theory kind t answer tables old tables_new new → KeepsMarks old new × AsksNothing theory.client_view old new
  turn_keeps t answer tables tables_new old new lane at counts h =
      let is = same_element old.lanes.items t lane h.turned.lane at h.turned.turns.of_lane in
      let both = lane_keeps answer t h.was h.now h.turned.lane h.turned.becomes old new h.turned.turns.of_lane h.turned.turns.lanes h.turned.turns.closing
      (λ e. counts (ap (λ l. l.counting) (sym is) ∙ e)) h.turned.tells in
      let all = all_lanes (LaneKeeps theory.client_view) old t h.turned.lane h.turned.becomes new.lanes.items h.turned.turns.of_lane h.turned.turns.lanes both (λ l. (refl, λ is. is, refl)) in (
        record {
          number = h.turned.turns.number;
          held = h.turned.turns.held;
          many = ap length h.turned.turns.lanes ∙ length-set old.lanes.items t h.turned.becomes;
          marks = λ k was now e f. let kept = all k was now e f in (kept.0, kept.1);
        },
        λ k was now e f. (all k was now e f).2,
      )

  here_keeps : (t : ℕ) (told : Turned) (tables tables_new : List Table) (old new : StoreBooks D) → TurnsWhereCounting theory kind t told tables old tables_new new
      → KeepsMarks old new × AsksNothing theory.client_view old new
  here_keeps t told tables tables_new old new (lane, there, cases) =
      elim cases [
        | inl (none, said, stays, same) ↦ subst (λ b. KeepsMarks old b × AsksNothing theory.client_view old b) (sym same) (marks_none old, asks_none theory.client_view old)
        | inr (counts, (answer, said, at)) ↦ turn_keeps t answer tables tables_new old new lane there counts at
      ]

  -- all of them
  pub turns_keep : (n : ℕ) (told : Turned) (tables tables_new : List Table) (old new : StoreBooks D) → TurnsBelow theory kind n told tables old tables_new new
      → KeepsMarks old new × AsksNothing theory.client_view old new
  unfolding TurnsBelow
  turns_keep zero told tables tables_new old new (nothing, stays, same) =
      subst (λ b. KeepsMarks old b × AsksNothing theory.client_view old b) (sym same) (marks_none old, asks_none theory.client_view old)
  turns_keep (suc n) told tables tables_new old new (mid, book, before, here, below, turns, e) =
      let first = turns_keep n before tables mid old book below in
      let last = here_keeps n here mid tables_new book new turns in
      (marks_then old book new first.0 last.0, asks_then theory.client_view old book new first.0.many first.1 last.1)
