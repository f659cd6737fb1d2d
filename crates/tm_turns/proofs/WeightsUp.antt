-- How a trustee's serving turn lessens what its sides above and the tables have still to do.
use Rattle.std.proofs.Common.{◌≡◌, ◌≢◌, ℕ, zero, suc, ◌+◌, ◌*◌, ◌≤◌, ◌<◌, ◌⊎◌, inl, inr, cond, List, [], ◌∷◌, ◌++◌, length, length-append, map, take, refl, sym, ◌∙◌, ap, subst, arith, append-nil}
use Rattle.std.specs.Prelude.{slice_get, IsSome}
use Rattle.std.specs.List.{AllByRecursion}
use Rattle.std.specs.declared.option.Option.{Option}
use Rattle.std.specs.declared.option.Option.TheVariants.{None, Some}
use Rattle.tm_seq.specs.Kind.{Kind}
use Rattle.tm_batch.specs.declared.limits.TheConstants.{MOST_REQUESTS}
use Rattle.tm_batch.specs.declared.message.Request.{Request}
use Rattle.tm_batch.specs.declared.message.Request.TheVariants.{Entrust, Apply, Launch, Grant, Release, Reclaim, Bye}
use Rattle.tm_batch.specs.declared.message.AnswerBatch.{AnswerBatch}
use Rattle.tm_model.specs.Good.{FullCore}
use Rattle.tm_model.specs.Slots.{slot_of}
use Rattle.tm_core.proofs.Tallies.{bye_at}
use Rattle.tm_pair.specs.Views.{BatchView, ClientView}
use Rattle.tm_pair.specs.Calls.{Collects}
use Rattle.tm_pair.specs.Moves.{answers_found}
use Rattle.tm_pair.specs.Plain.{core_at, client_at, HasDone, plain_theory}
use Rattle.tm_pair.specs.declared.table.Collected.{Collected}
use Rattle.tm_pair.specs.declared.table.Collected.TheVariants.{Answers, Pending, Idle}
use Rattle.tm_pair.specs.declared.moves.Move.TheVariants.{Collect}
use Rattle.tm_pair.specs.declared.plain.PlainTable.{PlainTable}
use Rattle.tm_pair.specs.declared.plain.PlainClient.{PlainClient}
use Rattle.tm_trustee.specs.NestedAsks.{asked_by, IsApply}
use Rattle.tm_trustee.specs.Above.{one_if, moves_up, all_moves_up, ExchangesAt, SaysByeAt, GoesUpAt}
use Rattle.tm_trustee.proofs.Replied.{asked_by-append}
use Rattle.tm_client.specs.Clients.{total}
use Rattle.tm_turns.proofs.Ones.{length_more}
use Rattle.tm_turns.proofs.Light.{pending, batch_weight, batch_weight_most, work_of, core_weight, publish_weighs, collect_weighs}
use Rattle.tm_turns.proofs.Spending.{sent_asks}
use Rattle.tm_turns.proofs.Weights.{unsaid, unsaid_more}

pub one_most : {X : Type 0} (o : Option X) → one_if o ≤ 1
one_most None = omega arith
one_most (Some x) = omega arith

some_asked : {X : Type 0} (waits : List X) → waits ≢ [] → 1 ≤ length (take MOST_REQUESTS waits)
some_asked [] ne = absurd (ne refl)
some_asked (x ∷ waits) ne = omega arith

module _ {V O R T : Type 0} where
  -- what a side above has still to do, but for what its work asked
  abbrev pub up_weight : ClientView V O R T → ℕ
  up_weight view = 3 * unsaid view.sent + one_if view.out

  -- how many asks it sent
  abbrev pub asks_sent : ClientView V O R T → ℕ
  asks_sent view = length (asked_by view.sent)

  -- what an exchange above leaves of a side, as numbers, and of what its table has to do
  pub record ExchangesSo (old mid : ClientView V O R T) (was between : ℕ) : Type 0 where
    pub unsaid_is : unsaid mid.sent ≤ unsaid old.sent
    pub either : ((one_if mid.out ≡ one_if old.out) × (length mid.got ≡ length old.got) × (asks_sent mid ≡ asks_sent old) × (between ≤ was))
        ⊎ (((one_if old.out ≡ 1) × (one_if mid.out ≡ 0) × (length mid.got ≡ length old.got + 1) × (asks_sent mid ≡ asks_sent old) × (between ≤ was))
        ⊎ ((one_if old.out ≡ 0) × (one_if mid.out ≡ 1) × (length mid.got ≡ length old.got) × (asks_sent old + 1 ≤ asks_sent mid) × (between ≤ was + 1)))

  -- and what saying Bye leaves
  pub record SaysSo (mid new : ClientView V O R T) (between now : ℕ) : Type 0 where
    pub got : length new.got ≡ length mid.got
    pub asks : asks_sent new ≡ asks_sent mid
    pub either : ((unsaid new.sent ≡ unsaid mid.sent) × (one_if new.out ≡ one_if mid.out) × (now ≡ between))
        ⊎ ((unsaid mid.sent ≡ 1) × (unsaid new.sent ≡ 0) × (one_if new.out ≡ 1) × (now ≤ between + 1))

  up_less :
      (old mid new : ClientView V O R T) (was between now : ℕ) → ExchangesSo old mid was between → SaysSo mid new between now
      → up_weight new + now + moves_up old new + 3 * asks_sent old ≤ up_weight old + was + 3 * asks_sent new
  up_less old mid new was between now looks says =
      let first = looks.unsaid_is in
      let got = says.got in
      let asks = says.asks in
      let most_mid = one_most mid.out in
      let most_old = one_most old.out in
      elim looks.either [
        | inl (a, b, d, e) ↦
            elim says.either [
              | inl (x, y, z) ↦ omega (arith, first, got, asks, most_old, a, b, d, e, x, y, z)
              | inr (x, y, z, w) ↦ omega (arith, first, got, asks, most_old, a, b, d, e, x, y, z, w)
            ]
        | inr (inl (a, b, d, e, f)) ↦
            elim says.either [
              | inl (x, y, z) ↦ omega (arith, first, got, asks, a, b, d, e, f, x, y, z)
              | inr (x, y, z, w) ↦ omega (arith, first, got, asks, a, b, d, e, f, x, y, z, w)
            ]
        | inr (inr (a, b, d, e, f)) ↦
            elim says.either [
              | inl (x, y, z) ↦ omega (arith, first, got, asks, a, b, d, e, f, x, y, z)
              | inr (x, y, z, w) ↦ omega (arith, first, got, asks, a, b, d, e, f, x, y, z, w)
            ]
      ]

  -- applies have no work
  applies_work : (kind : Kind V O R T) (b : List (Request V O R T)) → AllByRecursion IsApply b → work_of kind b ≡ 0
  applies_work kind [] h = refl
  applies_work kind (Apply n op ∷ b) h = let more = applies_work kind b h.1 in omega (arith, more)
  applies_work kind (Entrust v ∷ b) h = absurd h.0
  applies_work kind (Launch n task ∷ b) h = absurd h.0
  applies_work kind (Grant n d ∷ b) h = absurd h.0
  applies_work kind (Release n ∷ b) h = absurd h.0
  applies_work kind (Reclaim n ∷ b) h = absurd h.0
  applies_work kind (Bye ∷ b) h = absurd h.0

  module _ (kind : Kind V O R T) where
    collect_falls :
        (c : ℕ) (found : Option (AnswerBatch V O R T)) (was between : PlainTable V O R T) → HasDone (Collect c found) was between
        → core_weight kind (core_at between) ≤ core_weight kind (core_at was)
    collect_falls c found was between did =
        subst (λ (core : FullCore V O R T). core_weight kind core ≤ core_weight kind (core_at was)) (sym did.core) (collect_weighs kind (core_at was) c)

    same_asks : (old mid : ClientView V O R T) → mid.sent ≡ old.sent → asks_sent mid ≡ asks_sent old
    same_asks old mid e = ap (λ (qs : List (Request V O R T)). length (asked_by qs)) e

    same_unsaid : (old mid : ClientView V O R T) → mid.sent ≡ old.sent → unsaid mid.sent ≤ unsaid old.sent
    same_unsaid old mid e = let is = ap (λ (qs : List (Request V O R T)). unsaid qs) e in omega (arith, is)

    looks_by :
        (found : Collected V O R T) (was between : PlainTable V O R T) (old mid : PlainClient V O R T) → 1 ≤ one_if (client_at old).out
        → Collects (client_at old) (client_at mid) found → HasDone (Collect (client_at old).place (answers_found found)) was between
        → ExchangesSo (client_at old) (client_at mid) (core_weight kind (core_at was)) (core_weight kind (core_at between))
    looks_by Idle was between old mid some idle did =
        let none : one_if (client_at old).out ≡ 0 = ap (λ (o : Option (BatchView V O R T)). one_if o) idle.out in
        absurd (omega (arith, some, none))
    looks_by Pending was between old mid some pending did =
        let (batch, was_out, now_out) = pending.out in
        record {
          unsaid_is = same_unsaid (client_at old) (client_at mid) pending.sent;
          either = inl (
            ap (λ (o : Option (BatchView V O R T)). one_if o) (now_out ∙ sym was_out),
            ap (λ (xs : List (AnswerBatch V O R T)). length xs) pending.got,
            same_asks (client_at old) (client_at mid) pending.sent,
            collect_falls (client_at old).place None was between did,
          );
        }
    looks_by (Answers a) was between old mid some gets did =
        let (b, room, are) = gets.answers in
        record {
          unsaid_is = same_unsaid (client_at old) (client_at mid) gets.sent;
          either = inr (inl (
            ap (λ (o : Option (BatchView V O R T)). one_if o) are.out,
            ap (λ (o : Option (BatchView V O R T)). one_if o) gets.out,
            ap (λ (xs : List (AnswerBatch V O R T)). length xs) gets.got ∙ length_more (client_at old).got a,
            same_asks (client_at old) (client_at mid) gets.sent,
            collect_falls (client_at old).place (Some a) was between did,
          ));
        }

    some_out : (o : Option (BatchView V O R T)) → IsSome o → 1 ≤ one_if o
    some_out None some = absurd cc
    some_out (Some x) some = omega arith

    exchanges_by :
        (waits : List (ℕ × O)) (was between : PlainTable V O R T) (old mid : PlainClient V O R T) → ExchangesAt (plain_theory kind) waits was between old mid
        → ExchangesSo (client_at old) (client_at mid) (core_weight kind (core_at was)) (core_weight kind (core_at between))
    exchanges_by waits was between old mid (inl (some, (found, collects, did, keeps))) =
        looks_by found was between old mid (some_out (client_at old).out some) collects did
    exchanges_by waits was between old mid (inr (inl (free, ne, (batch, applies, first, room, publishes, did, keeps)))) =
        let b = batch.requests.items in
        let view = client_at old in
        let slot = slot_of (core_at was) view.place in
        let falls = publish_weighs kind (core_at was) view.place b batch.room in
        let most = batch_weight_most (pending (slot.sent ++ b) slot.got) b in
        let works = applies_work kind b applies in
        let moved : core_weight kind (core_at between) ≤ core_weight kind (core_at was) + (batch_weight (pending (slot.sent ++ b) slot.got) b + work_of kind b) =
        subst (λ (c : FullCore V O R T). core_weight kind c ≤ core_weight kind (core_at was) + (batch_weight (pending (slot.sent ++ b) slot.got) b + work_of kind b)) (sym did.core) falls in
        let unsaid_is = ap (λ (qs : List (Request V O R T)). unsaid qs) publishes.sent in
        let more = unsaid_more view.sent b in
        let asks = ap (λ (qs : List (Request V O R T)). length (asked_by qs)) publishes.sent
        ∙ ap (λ xs. length xs) (asked_by-append view.sent b) ∙ length-append (asked_by view.sent) (asked_by b) in
        let went : length (asked_by b) ≡ length (take MOST_REQUESTS waits) = ap (λ xs. length xs) first in
        let some = some_asked waits ne in
        record {
          unsaid_is = omega (arith, unsaid_is, more);
          either = inr (inr (
            ap (λ (o : Option (BatchView V O R T)). one_if o) free,
            ap (λ (o : Option (BatchView V O R T)). one_if o) publishes.out,
            ap (λ (xs : List (AnswerBatch V O R T)). length xs) publishes.got,
            omega (arith, asks, went, some),
            omega (arith, moved, most, works),
          ));
        }
    exchanges_by waits was between old mid (inr (inr (free, none, same, kept, keeps))) =
        let table : core_weight kind (core_at between) ≡ core_weight kind (core_at was) = ap (λ (x : PlainTable V O R T). core_weight kind (core_at x)) same in
        let sent : (client_at mid).sent ≡ (client_at old).sent = ap (λ (x : ClientView V O R T). x.sent) kept in
        record {
          unsaid_is = same_unsaid (client_at old) (client_at mid) sent;
          either = inl (
            ap (λ (x : ClientView V O R T). one_if x.out) kept,
            ap (λ (x : ClientView V O R T). length x.got) kept,
            same_asks (client_at old) (client_at mid) sent,
            omega (arith, table),
          );
        }

    says_by :
        (all : Type 0) (between now : PlainTable V O R T) (mid after : PlainClient V O R T) → SaysByeAt (plain_theory kind) all between now mid after
        → SaysSo (client_at mid) (client_at after) (core_weight kind (core_at between)) (core_weight kind (core_at now))
    says_by all between now mid after (inl bye) =
        let (batch, requests, room, publishes, did, keeps) = bye.2 in
        let b = batch.requests.items in
        let view = client_at mid in
        let slot = slot_of (core_at between) view.place in
        let falls = publish_weighs kind (core_at between) view.place b batch.room in
        let most = batch_weight_most (pending (slot.sent ++ b) slot.got) b in
        let works : work_of kind b ≡ 0 = ap (work_of kind) requests in
        let moved : core_weight kind (core_at now) ≤ core_weight kind (core_at between) + (batch_weight (pending (slot.sent ++ b) slot.got) b + work_of kind b) =
        subst (λ (c : FullCore V O R T). core_weight kind c ≤ core_weight kind (core_at between) + (batch_weight (pending (slot.sent ++ b) slot.got) b + work_of kind b)) (sym did.core) falls in
        let sent : (client_at after).sent ≡ view.sent ++ Bye ∷ [] = publishes.sent ∙ ap (λ xs. view.sent ++ xs) requests in
        record {
          got = ap (λ (xs : List (AnswerBatch V O R T)). length xs) publishes.got;
          asks = ap (λ (qs : List (Request V O R T)). length (asked_by qs)) sent ∙ ap (λ xs. length xs) (asked_by-append view.sent (Bye ∷ []) ∙ append-nil (asked_by view.sent));
          either = inr (
            ap (λ x. cond x 0 1) bye.1,
            ap (λ (qs : List (Request V O R T)). unsaid qs) sent ∙ ap (λ x. cond x 0 1) (bye_at view.sent []),
            ap (λ (o : Option (BatchView V O R T)). one_if o) publishes.out,
            omega (arith, moved, most, works),
          );
        }
    says_by all between now mid after (inr none) = record {
      got = ap (λ (x : PlainClient V O R T). length (client_at x).got) none.0;
      asks = ap (λ (x : PlainClient V O R T). asks_sent (client_at x)) none.0;
      either = inl (
        ap (λ (x : PlainClient V O R T). unsaid (client_at x).sent) none.0,
        ap (λ (x : PlainClient V O R T). one_if (client_at x).out) none.0,
        ap (λ (x : PlainTable V O R T). core_weight kind (core_at x)) none.1,
      );
    }

    -- a side above went on, whatever waited there
    abbrev pub Rises : Type 0 → PlainTable V O R T → PlainTable V O R T → PlainClient V O R T → PlainClient V O R T → Type 0
    Rises all was now before after = (waits : List (ℕ × O)) × GoesUpAt (plain_theory kind) waits all was now before after

    -- what a side above and its table have to do, and what was moved there, are no more than what they had to do; and asks that it sent are paid
    pub up_falls :
        (all : Type 0) (was now : PlainTable V O R T) (before after : PlainClient V O R T) → Rises all was now before after
        → up_weight (client_at after) + core_weight kind (core_at now) + moves_up (client_at before) (client_at after) + 3 * asks_sent (client_at before)
        ≤ up_weight (client_at before) + core_weight kind (core_at was) + 3 * asks_sent (client_at after)
    up_falls all was now before after (waits, (between, mid, exchanges, mine, says)) =
        up_less (client_at before) (client_at mid) (client_at after) (core_weight kind (core_at was)) (core_weight kind (core_at between)) (core_weight kind (core_at now))
        (exchanges_by waits was between before mid exchanges) (says_by all between now mid after says)

    abbrev pub tables_weight : List (PlainTable V O R T) → ℕ
    tables_weight tables = total (λ table. core_weight kind (core_at table)) tables

    abbrev pub sides_weight : List (PlainClient V O R T) → ℕ
    sides_weight above = total up_weight (map (λ side. client_at side) above)

    abbrev pub asked_at : List (PlainClient V O R T) → ℕ
    asked_at above = sent_asks (map (λ side. client_at side) above)

    abbrev pub moved_at : List (PlainClient V O R T) → List (PlainClient V O R T) → ℕ
    moved_at above above_new = all_moves_up (map (λ side. client_at side) above) (map (λ side. client_at side) above_new)

    -- each side above went on, the one at i with the table at from + i
    abbrev pub EachGoes : Type 0 → ℕ → List (PlainTable V O R T) → List (PlainTable V O R T) → List (PlainClient V O R T) → List (PlainClient V O R T) → Type 0
    EachGoes all from old new above above_new =
        (i j : ℕ) (was now : PlainTable V O R T) (before after : PlainClient V O R T) → j ≡ from + i → slice_get old j ≡ Some was → slice_get new j ≡ Some now
        → slice_get above i ≡ Some before → slice_get above_new i ≡ Some after → Rises all was now before after

    heads_fall :
        (all : Type 0) (old new : List (PlainTable V O R T)) (above above_new : List (PlainClient V O R T)) → length new ≡ length old
        → length above ≡ length old → length above_new ≡ length above → EachGoes all 0 old new above above_new
        → tables_weight new + sides_weight above_new + moved_at above above_new + 3 * asked_at above
        ≤ tables_weight old + sides_weight above + 3 * asked_at above_new
    heads_fall all [] [] [] [] many seats as_many each = omega arith
    heads_fall all (x ∷ xs) (y ∷ ys) (s ∷ ss) (r ∷ rs) many seats as_many each =
        let rest = heads_fall all xs ys ss rs (omega (arith, many)) (omega (arith, seats)) (omega (arith, as_many))
        (λ i j was now before after is ex ey es er. each (suc i) (suc j) was now before after (omega (arith, is)) ex ey es er) in
        let here = up_falls all x y s r (each 0 0 x y s r (omega arith) refl refl refl refl) in
        omega (arith, rest, here)
    heads_fall all [] (y ∷ ys) above above_new many seats as_many each = absurd (omega (arith, many))
    heads_fall all (x ∷ xs) [] above above_new many seats as_many each = absurd (omega (arith, many))
    heads_fall all [] [] (s ∷ ss) above_new many seats as_many each = absurd (omega (arith, seats))
    heads_fall all [] [] [] (r ∷ rs) many seats as_many each = absurd (omega (arith, as_many))
    heads_fall all (x ∷ xs) (y ∷ ys) [] above_new many seats as_many each = absurd (omega (arith, seats))
    heads_fall all (x ∷ xs) (y ∷ ys) (s ∷ ss) [] many seats as_many each = absurd (omega (arith, as_many))

    -- so they do from number `from` on, where the lower tables stay
    pub ups_fall :
        (all : Type 0) (from : ℕ) (old new : List (PlainTable V O R T)) (above above_new : List (PlainClient V O R T)) → length new ≡ length old
        → from + length above ≡ length old → length above_new ≡ length above → ((v : ℕ) → v < from → slice_get new v ≡ slice_get old v)
        → EachGoes all from old new above above_new
        → tables_weight new + sides_weight above_new + moved_at above above_new + 3 * asked_at above
        ≤ tables_weight old + sides_weight above + 3 * asked_at above_new
    ups_fall all zero old new above above_new many seats as_many lower each = heads_fall all old new above above_new many (omega (arith, seats)) as_many each
    ups_fall all (suc from) [] new above above_new many seats as_many lower each = absurd (omega (arith, seats))
    ups_fall all (suc from) (x ∷ xs) [] above above_new many seats as_many lower each = absurd (omega (arith, many))
    ups_fall all (suc from) (x ∷ xs) (y ∷ ys) above above_new many seats as_many lower each =
        let rest = ups_fall all from xs ys above above_new (omega (arith, many)) (omega (arith, seats)) as_many (λ v lt. lower (suc v) (omega (arith, lt)))
        (λ i j was now before after is ex ey es er. each i (suc j) was now before after (omega (arith, is)) ex ey es er) in
        let head : Some y ≡ Some x = lower 0 (omega arith) in
        let same : y ≡ x = cc in
        let here : core_weight kind (core_at y) ≡ core_weight kind (core_at x) = ap (λ (z : PlainTable V O R T). core_weight kind (core_at z)) same in
        omega (arith, rest, here)
