-- What each step of a core does to what its sides stand for. Other crates import this file.
use Rattle.std.proofs.Common.{◌≡◌, ◌≢◌, ℕ, ◌<◌, Bool, true, false, List, ◌++◌, length, map, slice_set, inl, inr, refl, sym, ◌∙◌, ap, subst, get_or-set_same, get_or-set_other}
use Rattle.std.specs.Prelude.{IsSomeAnd}
use Rattle.std.specs.declared.option.Option.{Option}
use Rattle.std.specs.declared.option.Option.TheVariants.{None, Some}
use Rattle.std.proofs.Math.ListN.{get_or-map}
use Rattle.std.proofs.Math.Seq.{map-set_same}
use Rattle.std.proofs.lemmas.List.{map-set}
use Rattle.std.proofs.lemmas.Bool.{cases_eq}
use Rattle.tm_seq.specs.Kind.{Kind}
use Rattle.tm_batch.specs.declared.batch.Batch.{Batch}
use Rattle.tm_batch.specs.declared.message.Request.{Request}
use Rattle.tm_batch.specs.declared.message.AnswerBatch.{AnswerBatch}
use Rattle.tm_model.specs.declared.entry.Entry.{Entry}
use Rattle.tm_model.specs.State.{State}
use Rattle.tm_model.specs.Slots.{Empty, Asked, Taken, Answered, no_slot, slot_of, with_slot, publish, published, see, taken, is_asked, looked, answered, collect, collected, is_answered}
use Rattle.tm_model.specs.Good.{FullBox, FullSlot, FullCore, IsOutInOrder}
use Rattle.tm_model.specs.Ran.{ran}
use Rattle.tm_model.specs.Entries.{added}
use Rattle.tm_model.specs.Answering.{answer_with}
use Rattle.tm_model.specs.Laws.{IsPromised}
use Rattle.tm_pair.specs.Views.{BatchView, hand_of, looks_at}
use Rattle.tm_pair.specs.Calls.{Publishes, IsPending, Collects, Sees, HasAnswered}
use Rattle.tm_pair.specs.Moves.{FindsAsked, FindsAnswered, answers_found}
use Rattle.tm_pair.specs.declared.table.Collected.{Collected}
use Rattle.tm_pair.specs.declared.table.Collected.TheVariants.{Answers, Pending, Idle}
use Rattle.tm_pair.proofs.Lists.{last_joined}
use Rattle.tm_pair.specs.SideViews.{batch_out, hand_in, client_of, trustee_of}

module _ {V O R T : Type 0} where
  -- the slot of place c after it changed, and those of other places
  slot_now : (core : FullCore V O R T) (c : ℕ) (slot : FullSlot V O R T) → c < length core.slots → slot_of (with_slot c slot core) c ≡ slot
  slot_now core c slot lt = get_or-set_same core.slots c slot no_slot lt

  pub other_slot : (core : FullCore V O R T) (c d : ℕ) (slot : FullSlot V O R T) → d ≢ c → slot_of (with_slot c slot core) d ≡ slot_of core d
  other_slot core c d slot ne = get_or-set_other core.slots c d slot no_slot ne

  -- a slot that changes in nothing that its client knows of leaves what each client's side stands for
  same_clients :
      (core : FullCore V O R T) (c : ℕ) (slot : FullSlot V O R T) (d : ℕ) → c < length core.slots
      → client_of c slot ≡ client_of c (slot_of core c) → client_of d (slot_of (with_slot c slot core) d) ≡ client_of d (slot_of core d)
  same_clients core c slot d lt same =
      elim (cases_eq d c) [
        | inl e ↦ subst (λ k. client_of k (slot_of (with_slot c slot core) k) ≡ client_of k (slot_of core k)) (sym e)
            (ap (λ s. client_of c s) (slot_now core c slot lt) ∙ same)
        | inr ne ↦ ap (λ s. client_of d s) (other_slot core c d slot ne)
      ]

  -- a slot that changes in nothing that the trustee knows of leaves what its side stands for
  same_hands :
      (core : FullCore V O R T) (c : ℕ) (slot : FullSlot V O R T) → hand_in slot.box ≡ hand_in (slot_of core c).box
      → map (λ (s : FullSlot V O R T). hand_in s.box) (slice_set core.slots c slot) ≡ map (λ (s : FullSlot V O R T). hand_in s.box) core.slots
  same_hands core c slot same = map-set_same (λ (s : FullSlot V O R T). hand_in s.box) core.slots c slot no_slot same

  same_looks :
      (core : FullCore V O R T) (c : ℕ) (slot : FullSlot V O R T) → slot.trustee ≡ (slot_of core c).trustee
      → map (λ (s : FullSlot V O R T). s.trustee) (slice_set core.slots c slot) ≡ map (λ (s : FullSlot V O R T). s.trustee) core.slots
  same_looks core c slot same = map-set_same (λ (s : FullSlot V O R T). s.trustee) core.slots c slot no_slot same

  same_trustee :
      (core : FullCore V O R T) (c : ℕ) (slot : FullSlot V O R T) → hand_in slot.box ≡ hand_in (slot_of core c).box
      → slot.trustee ≡ (slot_of core c).trustee → trustee_of (with_slot c slot core) ≡ trustee_of core
  same_trustee core c slot hand looks =
      ap (λ hands. record { log = core.log; hands = hands; looks = map (λ (s : FullSlot V O R T). s.trustee) (slice_set core.slots c slot) })
      (same_hands core c slot hand)
      ∙ ap (λ looks. record { log = core.log; hands = map (λ (s : FullSlot V O R T). hand_in s.box) core.slots; looks = looks })
      (same_looks core c slot looks)

  -- publish
  pub publishes :
      (core : FullCore V O R T) (c : ℕ) (b : List (Request V O R T)) (room : ℕ) → c < length core.slots
      → Publishes b room (client_of c (slot_of core c)) (client_of c (slot_of (publish c b room core) c))
  publishes core c b room lt =
      subst (λ slot. Publishes b room (client_of c (slot_of core c)) (client_of c slot)) (sym (slot_now core c (published b room (slot_of core c)) lt))
      (record { place = refl; sent = refl; out = refl; got = refl; seen = refl; looks = refl })

  pub publish_trustee :
      (core : FullCore V O R T) (c : ℕ) (b : List (Request V O R T)) (room : ℕ) → (slot_of core c).box ≡ Empty
      → trustee_of (publish c b room core) ≡ trustee_of core
  publish_trustee core c b room free =
      same_trustee core c (published b room (slot_of core c)) (ap (λ (box : FullBox V O R T). hand_in box) (sym free)) refl

  -- collect
  collected_hand :
      (box : FullBox V O R T) (slot : FullSlot V O R T) → slot.box ≡ box → hand_in (collected box slot).box ≡ hand_in box
  collected_hand Empty slot at = ap (λ (box : FullBox V O R T). hand_in box) at
  collected_hand (Asked b room) slot at = ap (λ (box : FullBox V O R T). hand_in box) at
  collected_hand (Taken b room) slot at = ap (λ (box : FullBox V O R T). hand_in box) at
  collected_hand (Answered a upto room) slot at = refl

  collected_looks : (box : FullBox V O R T) (slot : FullSlot V O R T) → (collected box slot).trustee ≡ slot.trustee
  collected_looks Empty slot = refl
  collected_looks (Asked b room) slot = refl
  collected_looks (Taken b room) slot = refl
  collected_looks (Answered a upto room) slot = refl

  -- place c after its look
  abbrev pub looked_at : FullSlot V O R T → FullSlot V O R T
  looked_at slot = collected slot.box (record slot { client = looked (is_answered slot.box) slot.client })

  pub collect_trustee : (core : FullCore V O R T) (c : ℕ) → trustee_of (collect c core) ≡ trustee_of core
  collect_trustee core c =
      let slot = slot_of core c in
      let looks = record slot { client = looked (is_answered slot.box) slot.client } in
      same_trustee core c (looked_at slot) (collected_hand slot.box looks refl) (collected_looks slot.box looks)

  -- a look at a slot that is not empty finds what stands there
  abbrev pub IsLook : Collected V O R T → FullBox V O R T → Type 0
  IsLook found box = (box ≢ Empty) × (found ≢ Idle) × FindsAnswered (answers_found found) box

  pending :
      (c : ℕ) (slot : FullSlot V O R T) (batch : BatchView V O R T) → batch_out slot.box slot.sent ≡ Some batch
      → IsPending (client_of c slot) (client_of c (record slot { client = looked false slot.client }))
  pending c slot batch out = record { place = refl; sent = refl; out = (batch, out, out); got = refl; seen = refl; looks = refl }

  collects_by :
      (opening : State V O R T) (c : ℕ) (found : Collected V O R T) (box : FullBox V O R T) (slot : FullSlot V O R T)
      (log : List (Entry V O R T)) → slot.box ≡ box → IsLook found box → IsOutInOrder opening c box slot log
      → Collects (client_of c slot) (client_of c (collected box (record slot { client = looked (is_answered box) slot.client }))) found
  collects_by opening c Idle box slot log at looks out = absurd (looks.1 refl)
  collects_by opening c found Empty slot log at looks out = absurd (looks.0 refl)
  collects_by opening c Pending (Asked b room) slot log at looks out =
      pending c slot (record { requests = b; room = room }) (ap (λ (x : FullBox V O R T). batch_out x slot.sent) at)
  collects_by opening c Pending (Taken b room) slot log at looks out =
      pending c slot (record { requests = b; room = room }) (ap (λ (x : FullBox V O R T). batch_out x slot.sent) at)
  collects_by opening c Pending (Answered a upto room) slot log at looks out = let wrong : true ≡ false = looks.2 in absurd cc
  collects_by opening c (Answers a) (Asked b room) slot log at looks out = let (u, r, wrong) = looks.2 in absurd cc
  collects_by opening c (Answers a) (Taken b room) slot log at looks out = let (u, r, wrong) = looks.2 in absurd cc
  collects_by opening c (Answers found) (Answered a upto room) slot log at looks out =
      let (u, r, is) = looks.2 in
      let same : a ≡ found = cc in
      let (b, others, sent, most, many, grown) = out.answers in
      subst (λ f. Collects (client_of c slot) (client_of c (collected (Answered a upto room) (record slot { client = looked true slot.client }))) (Answers f))
      same
      (record {
        place = refl;
        sent = refl;
        out = refl;
        got = refl;
        answers = (
          b,
          room,
          record {
            out = ap (λ (x : FullBox V O R T). batch_out x slot.sent) at
                ∙ ap (λ l. Some (record { requests = l; room = room })) (last_joined slot.sent (ran c (slot.seen ++ others)) b (length a.answers.items) sent many);
            answers = many;
            gifts = out.gifts;
            completions = out.completions;
            seen = (others, grown);
          },
        );
        looks = refl;
      })

  pub collects :
      (opening : State V O R T) (core : FullCore V O R T) (c : ℕ) (found : Collected V O R T) → c < length core.slots
      → IsLook found (slot_of core c).box → IsOutInOrder opening c (slot_of core c).box (slot_of core c) core.log
      → Collects (client_of c (slot_of core c)) (client_of c (slot_of (collect c core) c)) found
  collects opening core c found lt looks out =
      subst (λ slot. Collects (client_of c (slot_of core c)) (client_of c slot) found) (sym (slot_now core c (looked_at (slot_of core c)) lt))
      (collects_by opening c found (slot_of core c).box (slot_of core c) core.log refl looks out)

  -- see
  abbrev pub seen_slot : FullSlot V O R T → FullSlot V O R T
  seen_slot slot = record slot { box = taken slot.box; trustee = looked (is_asked slot.box) slot.trustee }

  taken_out : (box : FullBox V O R T) (sent : List (Request V O R T)) → batch_out (taken box) sent ≡ batch_out box sent
  taken_out Empty sent = refl
  taken_out (Asked b room) sent = refl
  taken_out (Taken b room) sent = refl
  taken_out (Answered a upto room) sent = refl

  pub see_clients :
      (core : FullCore V O R T) (c d : ℕ) → c < length core.slots → client_of d (slot_of (see c core) d) ≡ client_of d (slot_of core d)
  see_clients core c d lt =
      let slot = slot_of core c in
      same_clients core c (seen_slot slot) d lt
      (ap (λ out. record { place = c; sent = slot.sent; got = slot.got; seen = slot.seen; out = out; looks = slot.client }) (taken_out slot.box slot.sent))

  looks_now :
      (core : FullCore V O R T) (c : ℕ) (found : Bool) → is_asked (slot_of core c).box ≡ found
      → (trustee_of (see c core)).looks ≡ slice_set (trustee_of core).looks c (looked found (looks_at (trustee_of core) c))
  looks_now core c found is =
      map-set (λ (s : FullSlot V O R T). s.trustee) core.slots c (seen_slot (slot_of core c))
      ∙ ap (λ l. slice_set (trustee_of core).looks c l)
      (ap (λ f. looked f (slot_of core c).trustee) is ∙ ap (λ l. looked found l) (sym (get_or-map (λ (s : FullSlot V O R T). s.trustee) core.slots c no_slot)))

  -- a box of which nothing was asked stays as it is
  same_hand : (box : FullBox V O R T) → is_asked box ≡ false → hand_in (taken box) ≡ hand_in box
  same_hand Empty free = refl
  same_hand (Asked b room) free = let wrong : true ≡ false = free in absurd cc
  same_hand (Taken b room) free = refl
  same_hand (Answered a upto room) free = refl

  pub sees :
      (kind : Kind V O R T) (opening : State V O R T) (core : FullCore V O R T) (c : ℕ) (given : Option (Batch V O R T))
      → FindsAsked given (slot_of core c).box
      → ((b : List (Request V O R T)) (room : ℕ) → (slot_of core c).box ≡ Asked b room → IsPromised kind opening core.log c b)
      → Sees kind opening c given (trustee_of core) (trustee_of (see c core))
  sees kind opening core c None finds promised = record {
    log = refl;
    hands = same_hands core c (seen_slot (slot_of core c)) (same_hand (slot_of core c).box finds);
    looks = looks_now core c false finds;
  }
  sees kind opening core c (Some batch) finds promised = record {
    log = refl;
    hands = map-set (λ (s : FullSlot V O R T). hand_in s.box) core.slots c (seen_slot (slot_of core c))
        ∙ ap (λ (h : Option (BatchView V O R T)). slice_set (trustee_of core).hands c h) (ap (λ (x : FullBox V O R T). hand_in (taken x)) finds);
    looks = looks_now core c true (ap (λ (x : FullBox V O R T). is_asked x) finds);
    promised = promised batch.requests.items batch.room finds;
  }

  -- answer
  -- a batch that was taken is still out when its answers are there
  pub answer_clients :
      (core : FullCore V O R T) (c : ℕ) (run b : List (Request V O R T)) (room : ℕ) (resumes : List (Entry V O R T)) (a : AnswerBatch V O R T) (d : ℕ)
      → c < length core.slots → (slot_of core c).box ≡ Taken b room → (slot_of core c).sent ≡ run ++ b → length a.answers.items ≡ length b
      → client_of d (slot_of (answer_with c b room resumes a core) d) ≡ client_of d (slot_of core d)
  answer_clients core c run b room resumes a d lt taken_is sent many =
      let slot = slot_of core c in
      same_clients core c (answered a (core.log ++ added core.log resumes c b room a.answers.items) room slot) d lt
      (ap (λ out. record { place = c; sent = slot.sent; got = slot.got; seen = slot.seen; out = out; looks = slot.client })
      (ap (λ l. Some (record { requests = l; room = room })) (last_joined slot.sent run b (length a.answers.items) sent many)
      ∙ ap (λ (x : FullBox V O R T). batch_out x slot.sent) (sym taken_is)))

  pub answers :
      (core : FullCore V O R T) (c : ℕ) (hand : BatchView V O R T) (resumes : List (Entry V O R T)) (a : AnswerBatch V O R T)
      → hand_of (trustee_of core) c ≡ Some hand
      → HasAnswered c resumes a (trustee_of core) (trustee_of (answer_with c hand.requests hand.room resumes a core))
  answers core c hand resumes a is =
      let slot = answered a (core.log ++ added core.log resumes c hand.requests hand.room a.answers.items) hand.room (slot_of core c) in
      record {
        log = subst (λ (o : Option (BatchView V O R T)). IsSomeAnd o (λ h.
            core.log ++ added core.log resumes c hand.requests hand.room a.answers.items ≡ core.log ++ added core.log resumes c h.requests h.room a.answers.items)) (sym is) refl;
        hands = map-set (λ (s : FullSlot V O R T). hand_in s.box) core.slots c slot;
        looks = same_looks core c slot refl;
      }
