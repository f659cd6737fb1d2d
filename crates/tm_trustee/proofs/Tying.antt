-- A trustee that is ready is tied to its sides above, and its launched work is latched.
use Rattle.std.proofs.Common.{◌≡◌, ℕ, ◌⊎◌, ◌+◌, false, List, [], ◌∷◌, ◌++◌, map, inl, inr, refl, sym, ◌∙◌, ap, subst, append_assoc, append-nil, arith}
use Rattle.std.proofs.lemmas.List.{map-append}
use Rattle.std.proofs.lemmas.Option.{slice_get_within}
use Rattle.tm_seq.specs.Kind.{Kind}
use Rattle.tm_batch.specs.declared.message.Request.{Request}
use Rattle.tm_batch.specs.declared.message.Request.TheVariants.{Bye}
use Rattle.tm_batch.specs.declared.message.Answer.{Answer}
use Rattle.tm_batch.specs.declared.message.Answer.TheVariants.{Replied}
use Rattle.tm_model.specs.declared.entry.Entry.{Entry}
use Rattle.tm_model.specs.Holds.{has_bye}
use Rattle.tm_model.specs.Lists.{IsPrefix}
use Rattle.tm_model.specs.Orderly.{IsOfTrustee}
use Rattle.tm_model.specs.Ran.{ran, answered}
use Rattle.tm_model.specs.State.{State}
use Rattle.std.specs.List.{AllByRecursion}
use Rattle.tm_core.proofs.Joins.{legal_logs_join}
use Rattle.tm_core.proofs.Latching.{launches_are_latched}
use Rattle.tm_pair.specs.Views.{ClientView}
use Rattle.tm_pair.specs.Sides.{IsGoodClient}
use Rattle.tm_pair.specs.Theory.{Theory, TheoryLaws}
use Rattle.tm_trustee.specs.NestedAsks.{ToldReply, target, asks_of, replies_of, asked_by, EndsInBye, HasSent, IsTied}
use Rattle.tm_trustee.specs.Lanes.{IsLane}
use Rattle.tm_trustee.specs.Laws.{AreTied, AreLatched}
use Rattle.tm_trustee.specs.declared.lane.Lane.{Lane}
use Rattle.tm_trustee.proofs.Elements.{element_at, there_as, mapped_from}
use Rattle.tm_trustee.proofs.LaneKeeps.{ran_front, seen_fits, seen_replies}
use Rattle.tm_trustee.proofs.Replied.{asked_by-append, replied_all, behind_front}
use Rattle.tm_trustee.proofs.TurningReady.{at_home, own_table}

module _ {V O R T : Type 0} (kind : Kind V O R T) (opening home : State V O R T) (done : List (Entry V O R T)) (u : ℕ) (up : ClientView V O R T) (lane : Lane V O R T)
    (is : IsLane kind opening done u up lane) (good : IsGoodClient kind home up) (asked : AllByRecursion IsOfTrustee up.sent) where
  abbrev reply_of : R → Answer V O R T
  reply_of r = Replied r

  has_sent : HasSent (map target (asks_of opening.setup u done)) up.sent
  has_sent =
      elim is.last [
        | inl unsaid ↦ inl (unsaid, (asked_by lane.waits.items, is.asks ∙ asked_by-append up.sent lane.waits.items))
        | inr ends ↦
            let (qs, e, none) = ends.0 in
            inr (
              qs,
              e,
              none,
              sym (append-nil (asked_by qs)) ∙ sym (asked_by-append qs (Bye ∷ [])) ∙ ap asked_by (sym e) ∙ sym (append-nil (asked_by up.sent))
                  ∙ ap (λ l. asked_by up.sent ++ asked_by l) (sym ends.1) ∙ sym (asked_by-append up.sent lane.waits.items) ∙ sym is.asks,
            )
      ]

  replies_seen : IsPrefix (map (λ t. Replied t.reply) (replies_of kind opening u done)) (answered up.place up.seen)
  replies_seen =
      let replies = replies_of kind opening u done in
      let (rest, e) = replied_all (ran up.place up.seen) (answered up.place up.seen) (front_only (ran up.place up.seen) up.sent (ran_front up.out up.sent (ran up.place up.seen) good.runs) asked)
      (behind_front (ran up.place up.seen) up.sent (ran_front up.out up.sent (ran up.place up.seen) good.runs) (last_of is.last)) (seen_fits kind opening done u up lane is home good) in
      let seen = seen_replies kind opening done u up lane is home good in (
        map reply_of lane.came.items ++ rest,
        e ∙ ap (λ l. map reply_of l ++ rest) (sym seen)
            ∙ ap (λ l. l ++ rest) (map-append reply_of (map (λ t. t.reply) replies) lane.came.items)
            ∙ append_assoc (map reply_of (map (λ t. t.reply) replies)) (map reply_of lane.came.items) rest
            ∙ ap (λ l. l ++ (map reply_of lane.came.items ++ rest)) (twice replies),
      )
    where
      twice : (xs : List (ToldReply R)) → map reply_of (map (λ t. t.reply) xs) ≡ map (λ t. Replied t.reply) xs
      twice [] = refl
      twice (x ∷ xs) = ap (λ l. reply_of x.reply ∷ l) (twice xs)

      front_only : (xs ys : List (Request V O R T)) → IsPrefix xs ys → AllByRecursion IsOfTrustee ys → AllByRecursion IsOfTrustee xs
      front_only [] ys front all = tt
      front_only (x ∷ xs) [] (rest, e) all = absurd cc
      front_only (x ∷ xs) (y ∷ ys) (rest, e) all =
          let same : y ≡ x = cc in
          let later : ys ≡ xs ++ rest = cc in
          (subst IsOfTrustee same all.0, front_only xs ys (rest, later) all.1)

      last_of : (has_bye up.sent ≡ false) ⊎ (EndsInBye up.sent × (lane.waits.items ≡ [])) → (has_bye up.sent ≡ false) ⊎ EndsInBye up.sent
      last_of (inl unsaid) = inl unsaid
      last_of (inr ends) = inr ends.0

  pub is_tied : IsTied kind opening done u up
  is_tied = record { only = asked; sent = has_sent; tickets = is.tickets; replies = replies_seen }

module _ {V O R T Table Client Owner : Type 0} (theory : Theory V O R T Table Client Owner) (kind : Kind V O R T) (laws : TheoryLaws theory kind) where
  pub are_tied : AreTied theory kind
  are_tied tables t own i up ready here eu =
      let serving = (at_home theory kind tables t own ready here).1 in
      let (seat, es, is_up) = mapped_from theory.client_view t.above.items i up eu in
      let within = slice_get_within t.above.items i seat es in
      let sides = ready.above.as_many in
      let (table, et) = element_at tables (t.number + 1 + i) (omega (arith, within, sides)) in
      let (lane, el) = there_as (map theory.client_view t.above.items) t.lanes.items i up serving.above.as_many eu in
      is_tied kind (theory.opening own) (theory.opening table) _ (t.number + 1 + i) up lane (serving.lanes i up lane eu el)
      (subst (λ v. IsGoodClient kind (theory.opening table) v) (sym is_up) (laws.client_is_good table seat (ready.above.mine i table seat et es)))
      (serving.above.asked i up eu)

  pub are_latched : AreLatched theory kind
  are_latched tables t ready =
      let (own, here) = own_table theory kind tables t ready in
      let represents = (at_home theory kind tables t own ready here).1.current.represents in
      let opening = theory.opening own in
      let parts = (legal_logs_join kind opening (theory.trustee_view t.side).log t.since.items).0 represents.is_legal in (
        launches_are_latched kind opening _ represents.opens represents.is_legal,
        launches_are_latched kind opening (theory.trustee_view t.side).log represents.opens parts.0,
      )
