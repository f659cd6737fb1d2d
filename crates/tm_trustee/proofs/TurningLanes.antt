-- What exchanges and Byes at all sides above leave of a trustee's lanes.
use Rattle.std.proofs.Common.{◌≡◌, ◌≢◌, ℕ, zero, suc, ◌≤◌, true, false, List, [], ◌∷◌, length, take, drop, inl, inr, refl, sym, ◌∙◌, ap, subst}
use Rattle.std.specs.Prelude.{IsSome}
use Rattle.std.specs.List.{AllByRecursion}
use Rattle.std.proofs.Math.Seq.{drop-append_seam}
use Rattle.tm_seq.specs.Kind.{Kind}
use Rattle.tm_batch.specs.declared.limits.TheConstants.{MOST_REQUESTS}
use Rattle.tm_batch.specs.declared.message.Request.{Request}
use Rattle.tm_batch.specs.declared.message.Request.TheVariants.{Entrust, Apply, Launch, Grant, Release, Reclaim, Bye}
use Rattle.tm_model.specs.declared.entry.Entry.{Entry}
use Rattle.tm_model.specs.State.{State, holds_at, ids_above}
use Rattle.tm_pair.specs.Views.{ClientView}
use Rattle.tm_pair.specs.Calls.{Publishes}
use Rattle.tm_pair.specs.Sides.{IsGoodClient}
use Rattle.tm_pair.specs.Theory.{Theory, TheoryLaws, KeepsSides}
use Rattle.tm_pair.specs.declared.moves.Move.TheVariants.{Publish}
use Rattle.tm_pair.specs.declared.table.Collected.TheVariants.{Answers, Pending}
use Rattle.tm_trustee.specs.NestedAsks.{asked_by, AppliesAmong, IsAmong, IsApply}
use Rattle.tm_trustee.specs.Above.{unsent, ExchangesAt, SaysByeAt}
use Rattle.tm_trustee.specs.Lanes.{IsLane}
use Rattle.tm_trustee.specs.Steps.{AppliesHeld, ExchangesLane, SaysByeLane}
use Rattle.tm_trustee.specs.declared.lane.Lane.{Lane}
use Rattle.tm_trustee.proofs.LaneKeeps.{lane_takes, lane_waits, lane_sends, lane_says}
use Rattle.tm_trustee.proofs.Replied.{asked_by-append}

module _ {V O R T : Type 0} where
  -- what waits in a lane is what was asked and not sent
  pub unsent_waits :
      (kind : Kind V O R T) (opening : State V O R T) (done : List (Entry V O R T)) (u : ℕ) (up : ClientView V O R T) (lane : Lane V O R T)
      → IsLane kind opening done u up lane → unsent opening.setup done u up ≡ asked_by lane.waits.items
  unsent_waits kind opening done u up lane is =
      ap (drop (length (asked_by up.sent))) (is.asks ∙ asked_by-append up.sent lane.waits.items) ∙ drop-append_seam (asked_by up.sent) (asked_by lane.waits.items)

  asked_some : (ids : List ℕ) (qs : List (Request V O R T)) → AllByRecursion (AppliesAmong ids) qs → qs ≢ [] → asked_by qs ≢ []
  asked_some ids [] all some e = some refl
  asked_some ids (Apply n op ∷ qs) all some e = absurd cc
  asked_some ids (Bye ∷ qs) all some e = absurd all.0
  asked_some ids (Entrust v ∷ qs) all some e = absurd all.0
  asked_some ids (Launch n t ∷ qs) all some e = absurd all.0
  asked_some ids (Grant n d ∷ qs) all some e = absurd all.0
  asked_some ids (Release n ∷ qs) all some e = absurd all.0
  asked_some ids (Reclaim n ∷ qs) all some e = absurd all.0

  asked_take : (ids : List ℕ) (n : ℕ) (qs : List (Request V O R T)) → AllByRecursion (AppliesAmong ids) qs → asked_by (take n qs) ≡ take n (asked_by qs)
  asked_take ids zero qs all = refl
  asked_take ids (suc n) [] all = refl
  asked_take ids (suc n) (Apply m op ∷ qs) all = ap (λ l. (m.id, op) ∷ l) (asked_take ids n qs all.1)
  asked_take ids (suc n) (Bye ∷ qs) all = absurd all.0
  asked_take ids (suc n) (Entrust v ∷ qs) all = absurd all.0
  asked_take ids (suc n) (Launch m t ∷ qs) all = absurd all.0
  asked_take ids (suc n) (Grant m d ∷ qs) all = absurd all.0
  asked_take ids (suc n) (Release m ∷ qs) all = absurd all.0
  asked_take ids (suc n) (Reclaim m ∷ qs) all = absurd all.0

  all_apply : (ids : List ℕ) (n : ℕ) (qs : List (Request V O R T)) → AllByRecursion (AppliesAmong ids) qs → AllByRecursion IsApply (take n qs)
  all_apply ids zero qs all = tt
  all_apply ids (suc n) [] all = tt
  all_apply ids (suc n) (Apply m op ∷ qs) all = (tt, all_apply ids n qs all.1)
  all_apply ids (suc n) (Bye ∷ qs) all = absurd all.0
  all_apply ids (suc n) (Entrust v ∷ qs) all = absurd all.0
  all_apply ids (suc n) (Launch m t ∷ qs) all = absurd all.0
  all_apply ids (suc n) (Grant m d ∷ qs) all = absurd all.0
  all_apply ids (suc n) (Release m ∷ qs) all = absurd all.0
  all_apply ids (suc n) (Reclaim m ∷ qs) all = absurd all.0

  -- objects of ids that a place holds
  pub all_held :
      (opening : State V O R T) (c : ℕ) (ids : List ℕ) (qs : List (Request V O R T)) → ((id : ℕ) → IsAmong id ids → 1 ≤ holds_at opening c id)
      → AllByRecursion (AppliesAmong ids) qs → AllByRecursion (AppliesHeld opening c) qs
  all_held opening c ids [] holds all = tt
  all_held opening c ids (Apply m op ∷ qs) holds all = (holds m.id all.0, all_held opening c ids qs holds all.1)
  all_held opening c ids (Bye ∷ qs) holds all = absurd all.0
  all_held opening c ids (Entrust v ∷ qs) holds all = absurd all.0
  all_held opening c ids (Launch m t ∷ qs) holds all = absurd all.0
  all_held opening c ids (Grant m d ∷ qs) holds all = absurd all.0
  all_held opening c ids (Release m ∷ qs) holds all = absurd all.0
  all_held opening c ids (Reclaim m ∷ qs) holds all = absurd all.0

module _ {V O R T Table Client Owner : Type 0} (theory : Theory V O R T Table Client Owner) (kind : Kind V O R T) (laws : TheoryLaws theory kind) where
  module _ (opening : State V O R T) (done : List (Entry V O R T)) (u : ℕ) (was now : Table) (old new : Client) (lane becomes : Lane V O R T)
      (mine : theory.HasClient was old) (mine_new : theory.HasClient now new) (is : IsLane kind opening done u (theory.client_view old) lane) where
    -- a lane is one still after an exchange
    pub exchanged_lane : theory.opening now ≡ theory.opening was → ExchangesLane theory was now old new lane becomes → IsLane kind opening done u (theory.client_view new) becomes
    exchanged_lane opens (inl (a, gets, takes, did, keeps)) =
        lane_takes kind (theory.opening was) (theory.client_view old) (theory.client_view new) a gets (laws.client_is_good was old mine)
        (subst (λ s. IsGoodClient kind s (theory.client_view new)) opens (laws.client_is_good now new mine_new)) opening done u lane becomes is takes
    exchanged_lane opens (inr (inl (pending, same, did, keeps))) =
        lane_waits kind opening done u (theory.client_view old) (theory.client_view new) lane becomes is pending same
    exchanged_lane opens (inr (inr (free, (mid, sent, view, keeps, inl (answer, some, (batch, goes, room, publishes, did, kept)))))) =
        lane_sends kind (theory.opening was) opening done u (theory.client_view old) (theory.client_view new) lane becomes batch.requests.items batch.room
        (laws.client_is_good was old mine) is some goes (subst (λ v. Publishes batch.requests.items batch.room v (theory.client_view new)) view publishes)
    exchanged_lane opens (inr (inr (free, (mid, sent, view, keeps, inr (answer, none, same, side, stays))))) =
        subst (λ l. IsLane kind opening done u (theory.client_view new) l) (sym stays)
        (subst (λ v. IsLane kind opening done u v lane) (sym (ap theory.client_view side ∙ view)) is)

    -- and the side looked, or sent the first of what waits
    pub exchanged_side : ExchangesLane theory was now old new lane becomes → ExchangesAt theory (unsent opening.setup done u (theory.client_view old)) was now old new
    exchanged_side (inl (a, gets, takes, did, keeps)) =
        let (b, room, are) = gets.answers in
        inl (subst (λ o. IsSome o) (sym are.out) refl, (Answers a, gets, did, keeps))
    exchanged_side (inr (inl (pending, same, did, keeps))) =
        let (b, out, out_new) = pending.out in
        inl (subst (λ o. IsSome o) (sym out) refl, (Pending, pending, did, keeps))
    exchanged_side (inr (inr (free, (mid, sent, view, keeps, inl (answer, some, (batch, goes, room, publishes, did, kept)))))) =
        let ids = ids_above opening.setup u in
        let waits = unsent_waits kind opening done u (theory.client_view old) lane is in
        inr (inl (
          free,
          (λ none. asked_some ids lane.waits.items is.only some (sym waits ∙ none)),
          (
            batch,
            subst (λ l. AllByRecursion IsApply l) (sym goes.is_first) (all_apply ids MOST_REQUESTS lane.waits.items is.only),
            ap asked_by goes.is_first ∙ asked_take ids MOST_REQUESTS lane.waits.items is.only ∙ ap (take MOST_REQUESTS) (sym waits),
            room,
            subst (λ v. Publishes batch.requests.items batch.room v (theory.client_view new)) view publishes,
            subst (λ (v : ClientView V O R T). theory.Did (Publish v.place batch) was now) view did,
            record {
              same = kept.same;
              opening = kept.opening;
              mine = kept.mine;
              clients = λ other ne has. kept.clients other (λ e. ne (e ∙ ap (λ v. v.place) view)) (keeps.clients other ne has);
              trustee = λ other has. kept.trustee other has;
            },
          ),
        ))
    exchanged_side (inr (inr (free, (mid, sent, view, keeps, inr (answer, none, same, side, stays))))) =
        inr (inr (
          free,
          unsent_waits kind opening done u (theory.client_view old) lane is ∙ ap asked_by none,
          same,
          ap theory.client_view side ∙ view,
          subst (λ x. KeepsSides theory was now old x) (sym side) (subst (λ x. KeepsSides theory was x old mid) (sym same) keeps),
        ))

    -- a lane is one still after a Bye, where nothing waited
    pub said_lane : lane.waits.items ≡ [] → SaysByeLane theory was now old new lane becomes → IsLane kind opening done u (theory.client_view new) becomes
    said_lane none (inl (unsaid, before, stays, inl (all, none_said, (batch, bye, room, publishes, did, keeps)))) =
        lane_says kind (theory.opening was) opening done u (theory.client_view old) (theory.client_view new) lane becomes batch.requests.items batch.room
        (laws.client_is_good was old mine) is none unsaid bye publishes (ap (λ l. l.names) stays) (ap (λ l. l.askers) stays) (ap (λ l. l.waits) stays) (ap (λ l. l.came) stays)
    said_lane none (inl (unsaid, before, stays, inr (side, table, inl said))) = let both : true ≡ false = sym said ∙ unsaid in absurd cc
    said_lane none (inl (unsaid, before, stays, inr (side, table, inr never))) = absurd (never tt)
    said_lane none (inr (said, stays, inl (all, unsaid, says))) = absurd (said unsaid)
    said_lane none (inr (said, stays, inr (side, table, why))) =
        subst (λ l. IsLane kind opening done u (theory.client_view new) l) (sym stays)
        (subst (λ v. IsLane kind opening done u v lane) (sym (ap theory.client_view side)) is)

    pub said_side : SaysByeLane theory was now old new lane becomes → SaysByeAt theory (Unit {0}) was now old new
    said_side (inl h) = h.3
    said_side (inr h) = h.2
