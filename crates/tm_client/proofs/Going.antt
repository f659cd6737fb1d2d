-- What waits at a side may go, and so may a Bye.
use Rattle.std.proofs.Common.{◌≡◌, ℕ, false, List, [], ◌∷◌, ◌++◌, refl, sym, ◌∙◌, ap, arith, append_assoc}
use Rattle.std.specs.List.{AllByRecursion}
use Rattle.tm_seq.specs.Kind.{Kind}
use Rattle.tm_batch.specs.declared.message.Request.{Request}
use Rattle.tm_batch.specs.declared.message.Request.TheVariants.{Entrust, Apply, Launch, Grant, Release, Reclaim, Bye}
use Rattle.tm_model.specs.Holds.{Names, has_bye, came}
use Rattle.tm_model.specs.Orderly.{GrantsBelow}
use Rattle.tm_core.proofs.Tallies.{launches_in-append, came_same}
use Rattle.tm_client.specs.Lanes.{IsAccepted}
use Rattle.tm_client.specs.SideLaws.{WaitsMayGo, RestIsHeld, ByesMayGo}
use Rattle.tm_client.proofs.Living.{as_many_came}

pub all_front : {X : Type 0} (P : X → Type 0) (xs ys : List X) → AllByRecursion P (xs ++ ys) → AllByRecursion P xs
all_front P [] ys h = tt
all_front P (x ∷ xs) ys h = (h.0, all_front P xs ys h.1)

module _ {V O R T : Type 0} where
  pub accepted_no_bye : (qs : List (Request V O R T)) → AllByRecursion IsAccepted qs → has_bye qs ≡ false
  accepted_no_bye [] h = refl
  accepted_no_bye (Launch n task ∷ qs) h = accepted_no_bye qs h.1
  accepted_no_bye (Entrust v ∷ qs) h = accepted_no_bye qs h.1
  accepted_no_bye (Apply n op ∷ qs) h = accepted_no_bye qs h.1
  accepted_no_bye (Grant n d ∷ qs) h = accepted_no_bye qs h.1
  accepted_no_bye (Release n ∷ qs) h = accepted_no_bye qs h.1
  accepted_no_bye (Reclaim n ∷ qs) h = accepted_no_bye qs h.1
  accepted_no_bye (Bye ∷ qs) h = absurd h.0

  none_front : (b rest : List (Request V O R T)) → b ++ rest ≡ [] → b ≡ []
  none_front [] rest e = refl
  none_front (q ∷ b) rest e = absurd cc

  -- of a Bye alone no request names an id
  bye_names : (before after : List (Request V O R T)) (q : Request V O R T) (id : ℕ) → Bye ∷ [] ≡ before ++ q ∷ after → Names q id → ⊥
  bye_names [] after (Entrust v) id e h = h
  bye_names [] after (Apply n op) id e h = absurd cc
  bye_names [] after (Launch n task) id e h = absurd cc
  bye_names [] after (Grant n d) id e h = absurd cc
  bye_names [] after (Release n) id e h = absurd cc
  bye_names [] after (Reclaim n) id e h = absurd cc
  bye_names [] after Bye id e h = h
  bye_names (x ∷ []) after q id e h = absurd cc
  bye_names (x ∷ y ∷ before) after q id e h = absurd cc

  module _ (kind : Kind V O R T) where
    pub waits_may_go : WaitsMayGo kind
    waits_may_go opening view b rest good client launches last accepted grants held =
        let own = all_front IsAccepted b rest accepted in
        record {
          held = λ before after q id e names. held before (after ++ rest) q id (ap (λ l. l ++ rest) e ∙ append_assoc before (q ∷ after) rest) names;
          grants = all_front (GrantsBelow opening.setup.config.clients) b rest grants;
          launches = launches;
          bye = λ e. absurd (let no = accepted_no_bye b own in cc);
          last = λ e. none_front b rest (last e);
          trustee = λ ge. absurd (omega (arith, ge, client));
        }

    pub rest_is_held : RestIsHeld kind
    rest_is_held opening old new b rest room good publishes held =
        let same : (id : ℕ) → came opening new.place new.sent new.got id ≡ came opening old.place old.sent old.got id =
        λ id. rw (publishes.place, publishes.sent, publishes.got)
        (came_same opening old.place old.sent b old.got id (as_many_came kind opening old good)) in (
          λ before after q id e names.
              let more = held (b ++ before) after q id (ap (λ l. b ++ l) e ∙ sym (append_assoc b before (q ∷ after))) names in
              let sent : new.sent ++ before ≡ old.sent ++ (b ++ before) = ap (λ l. l ++ before) publishes.sent ∙ append_assoc old.sent b before in
              rw (same id, sent) more,
          same,
        )

    pub byes_may_go : ByesMayGo kind
    byes_may_go opening view good client launches still =
        let joined = launches_in-append view.sent (Bye ∷ []) in
        record {
          held = λ before after q id e names. absurd (bye_names before after q id e names);
          grants = (tt, tt);
          launches = omega (arith, joined, launches);
          bye = λ e. (refl, launches);
          last = λ e. absurd cc;
          trustee = λ ge. absurd (omega (arith, ge, client));
        }
