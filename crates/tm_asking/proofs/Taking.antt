-- A client that handed out the reply that came first.
use Rattle.std.proofs.Common.{◌≡◌, ◌≢◌, ℕ, ◌<◌, inl, inr, cond, List, ◌∷◌, ◌++◌, length, map, refl, sym, ◌∙◌, ap, subst, arith, length-set, eq-eqb, ne_eqb}
use Rattle.std.specs.Prelude.{slice_get, slice_set}
use Rattle.std.specs.List.{AllByRecursion, Contains}
use Rattle.std.specs.declared.option.Option.TheVariants.{Some}
use Rattle.std.proofs.lemmas.Bool.{cases_eq}
use Rattle.tm_batch.specs.declared.message.Name.{Name}
use Rattle.tm_batch.specs.declared.message.Answer.{Answer}
use Rattle.tm_batch.specs.declared.message.Answer.TheVariants.{Replied, TicketsSpent}
use Rattle.tm_model.specs.declared.entry.Entry.{Entry}
use Rattle.tm_model.specs.Holds.{answers_in}
use Rattle.tm_pair.specs.Views.{ClientView}
use Rattle.tm_client.specs.declared.lane.Lane.{Lane}
use Rattle.tm_client.specs.declared.holds.Holds.{Holds}
use Rattle.tm_client.specs.declared.answers.Arrival.{Arrival}
use Rattle.tm_client.specs.declared.answers.Came.{Came}
use Rattle.tm_client.specs.declared.answers.Came.TheVariants.{Answered, Finished}
use Rattle.tm_client.specs.declared.answers.Got.{Got}
use Rattle.tm_client.specs.declared.books.Books.{Books}
use Rattle.tm_client.specs.Taking.{IsHanded, HasTaken}
use Rattle.tm_client.proofs.Elements.{set_cases, contained}
use Rattle.tm_client.proofs.Fronts.{set_there}
use Rattle.tm_asking.specs.Questions.{Question, HasEnded, IsReplyOf}
use Rattle.tm_asking.specs.Asking.{HasReply, come_at, untaken_at, CameFor, IsCome, IsTold, IsNoted, IsDealt, IsAskedAt, IsAsking}
use Rattle.tm_asking.specs.Noting.{GivesReply, reply_by}
use Rattle.tm_asking.proofs.Among.{among_cases, all_among}
use Rattle.tm_asking.proofs.Dealing.{IsNumberOf, number_below, number_once, one_answer, told_number, noted_other}
use Rattle.tm_asking.proofs.Sides.{same_side}

module _ {V O R T : Type 0} where
  pub come_here : (t : ℕ) (a : Arrival V ℕ O R T) (arrived : List (Arrival V ℕ O R T)) → a.trustee ≡ t → come_at t (a ∷ arrived) ≡ (a.after, a.came) ∷ come_at t arrived
  come_here t a arrived e = ap (λ b. cond b ((a.after, a.came) ∷ come_at t arrived) (come_at t arrived)) (eq-eqb a.trustee t e)

  pub come_other : (t : ℕ) (a : Arrival V ℕ O R T) (arrived : List (Arrival V ℕ O R T)) → a.trustee ≢ t → come_at t (a ∷ arrived) ≡ come_at t arrived
  come_other t a arrived ne = ap (λ b. cond b ((a.after, a.came) ∷ come_at t arrived) (come_at t arrived)) (ne_eqb a.trustee t ne)

  -- what is handed out for what came gives the reply to its question, and leaves the client's list
  record IsRight (missing : R) (log : List (Entry V O R T)) (answer : Answer V O R T) (got : Got V O R T) (old new : Holds) : Type 0 where
    gives : GivesReply got
    reply : IsReplyOf missing log answer (reply_by missing got)
    held : new ≡ old

  came_right :
      (missing : R) (log : List (Entry V O R T)) (t c : ℕ) (name : Name) (answer : Answer V O R T) (came : Came V O R T) (got : Got V O R T) (old new : Holds)
      → CameFor log answer came → IsHanded t c name came got old new → IsRight missing log answer got old new
  came_right missing log t c name answer (Answered (Replied r)) got old new is (handed, held) = record {
    gives = subst GivesReply (sym handed) tt;
    reply = subst (λ a. IsReplyOf missing log a (reply_by missing got)) (sym is) (ap (reply_by missing) handed);
    held = held;
  }
  came_right missing log t c name answer (Answered (TicketsSpent task)) got old new is (handed, held) = record {
    gives = subst GivesReply (sym handed) tt;
    reply = subst (λ a. IsReplyOf missing log a (reply_by missing got)) (sym is) (ap (reply_by missing) handed);
    held = held;
  }
  came_right missing log t c name answer (Answered _) got old new is handed = absurd is
  came_right missing log t c name answer (Finished r) got old new (ticket, is, ended) (handed, held) = record {
    gives = subst GivesReply (sym handed) tt;
    reply = subst (λ a. IsReplyOf missing log a (reply_by missing got)) (sym is)
        (subst (λ x. HasEnded log ticket x) (sym (ap (reply_by missing) handed)) ended);
    held = held;
  }

module _ {V O R T D : Type 0} (view : D → ClientView V O R T) (missing : R) where
  module _ (k : ℕ) (got : Got V O R T) (was : ℕ → ClientView V O R T) (asked : List (Question V O R T)) (replies : List R) (old new : Books V ℕ D O R T)
      (is : IsAsking view missing was asked replies old) (h : HasTaken k got old new) where
    at : IsAskedAt view missing h.t (was h.t) asked replies old.arrived.items h.lane
    at = is.lanes h.t h.lane h.of_lane

    come_first : come_at h.t old.arrived.items ≡ (k, h.came) ∷ come_at h.t new.arrived.items
    come_first = ap (λ xs. come_at h.t xs) h.first ∙ come_here h.t (record { trustee = h.t; name = h.name; after = k; came = h.came }) new.arrived.items refl

    all_come : AllByRecursion (IsCome at.side.grown at.told) ((k, h.came) ∷ come_at h.t new.arrived.items)
    all_come = subst (λ xs. AllByRecursion (IsCome at.side.grown at.told) xs) come_first at.come

    abbrev answer : Answer V O R T
    answer = all_come.0.0

    among : Contains at.told (k, answer)
    among = all_come.0.1

    right : IsRight missing at.side.grown answer got old.held new.held
    right = came_right missing at.side.grown h.t old.number h.name answer h.came got old.held new.held all_come.0.2 h.is_got

    number_at : IsNumberOf h.t 0 asked k
    number_at = told_number h.t asked at.told (map (λ w. w.after) h.lane.afters.items) (k, answer) at.numbers among

    pub within : k < length replies
    within = let below = number_below h.t 0 asked k number_at in let few = is.few in omega (arith, below, few)

    pub gives : GivesReply got
    gives = right.gives

    pub held_is : new.held ≡ old.held
    held_is = right.held

    abbrev noted_in : List R
    noted_in = slice_set replies k (reply_by missing got)

    noted_now : (c : ℕ × Answer V O R T) → Contains at.told c → c.0 ≡ k → IsNoted missing at.side.grown noted_in c
    noted_now c has same =
        let own : Contains at.told (k, c.1) = subst (λ n. Contains at.told (n, c.1)) same has in
        let is_it : c.1 ≡ answer = one_answer h.t asked at.told (map (λ w. w.after) h.lane.afters.items) k c.1 answer at.numbers own among in (
          reply_by missing got,
          subst (λ n. slice_get noted_in n ≡ Some (reply_by missing got)) (sym same) (set_there replies k (reply_by missing got) within),
          subst (λ a. IsReplyOf missing at.side.grown a (reply_by missing got)) (sym is_it) right.reply,
        )

    untaken_is : untaken_at h.t old.arrived.items h.lane.launched.items ≡ k ∷ untaken_at h.t new.arrived.items h.becomes.launched.items
    untaken_is =
        ap (λ cs. map (λ c. c.0) cs ++ map (λ l. l.after) h.lane.launched.items) come_first
        ∙ ap (λ ls. k ∷ (map (λ c. c.0) (come_at h.t new.arrived.items) ++ map (λ l. l.after) ls)) (sym (ap (λ l. l.items) h.counts.launched))

    dealt_still :
        (c : ℕ × Answer V O R T) → c.0 ≢ k → IsDealt missing at.side.grown replies (untaken_at h.t old.arrived.items h.lane.launched.items) c
        → IsDealt missing at.side.grown noted_in (untaken_at h.t new.arrived.items h.becomes.launched.items) c
    dealt_still c ne (inl untaken) =
        elim (among_cases k (untaken_at h.t new.arrived.items h.becomes.launched.items) c.0 (subst (λ l. Contains l c.0) untaken_is untaken)) [
          | inl e ↦ absurd (ne e)
          | inr later ↦ inl later
        ]
    dealt_still c ne (inr noted) = inr (noted_other missing at.side.grown replies k (reply_by missing got) c ne noted)

    dealt_here : AllByRecursion (IsDealt missing at.side.grown noted_in (untaken_at h.t new.arrived.items h.becomes.launched.items)) at.told
    dealt_here =
        all_among (IsDealt missing at.side.grown noted_in (untaken_at h.t new.arrived.items h.becomes.launched.items)) at.told
        (λ c has. elim (cases_eq c.0 k) [
          | inl same ↦ inr (noted_now c has same)
          | inr ne ↦
              dealt_still c ne
              (contained (IsDealt missing at.side.grown replies (untaken_at h.t old.arrived.items h.lane.launched.items)) at.told c at.dealt has)
        ])

    here : IsAskedAt view missing h.t (was h.t) asked noted_in new.arrived.items h.becomes
    here = record {
      side = same_side (was h.t) (view h.lane.side) (view h.becomes.side) (ap view h.counts.side) at.side;
      is_open = h.counts.closing ∙ at.is_open;
      sent = ap (λ s. (view s).sent ++ h.becomes.waits.items) h.counts.side ∙ ap (λ w. (view h.lane.side).sent ++ w.items) h.counts.waits ∙ at.sent;
      waits_reply = subst (λ w. AllByRecursion HasReply w.items) (sym h.counts.waits) at.waits_reply;
      told = at.told;
      numbers = ap (λ ws. map (λ c. c.0) at.told ++ map (λ w. w.after) ws.items) h.counts.afters ∙ at.numbers;
      got = ap (λ s. answers_in (view s).got) h.counts.side ∙ at.got;
      dealt = dealt_here;
      come = all_come.1;
      unfinished = subst (λ ls. AllByRecursion (IsTold at.told) ls.items) (sym h.counts.launched) at.unfinished;
    }

    module _ (u : ℕ) (lane : Lane V ℕ D O R T) (ne : u ≢ h.t) (there : slice_get old.lanes.items u ≡ Some lane) where
      other : IsAskedAt view missing u (was u) asked replies old.arrived.items lane
      other = is.lanes u lane there

      come_same : come_at u old.arrived.items ≡ come_at u new.arrived.items
      come_same =
          ap (λ xs. come_at u xs) h.first
          ∙ come_other u (record { trustee = h.t; name = h.name; after = k; came = h.came }) new.arrived.items (λ e. ne (sym e))

      -- a question has one trustee
      other_number : (c : ℕ × Answer V O R T) → Contains other.told c → c.0 ≢ k
      other_number c has e =
          let theirs = told_number u asked other.told (map (λ w. w.after) lane.afters.items) c other.numbers has in
          ne (number_once u h.t 0 asked k (subst (λ n. IsNumberOf u 0 asked n) e theirs) number_at)

      other_dealt :
          (c : ℕ × Answer V O R T) → c.0 ≢ k → IsDealt missing other.side.grown replies (untaken_at u old.arrived.items lane.launched.items) c
          → IsDealt missing other.side.grown noted_in (untaken_at u new.arrived.items lane.launched.items) c
      other_dealt c differs (inl untaken) =
          inl (subst (λ cs. Contains (map (λ c. c.0) cs ++ map (λ l. l.after) lane.launched.items) c.0) come_same untaken)
      other_dealt c differs (inr noted) = inr (noted_other missing other.side.grown replies k (reply_by missing got) c differs noted)

      elsewhere : IsAskedAt view missing u (was u) asked noted_in new.arrived.items lane
      elsewhere = record {
        side = other.side;
        is_open = other.is_open;
        sent = other.sent;
        waits_reply = other.waits_reply;
        told = other.told;
        numbers = other.numbers;
        got = other.got;
        dealt = all_among (IsDealt missing other.side.grown noted_in (untaken_at u new.arrived.items lane.launched.items)) other.told
            (λ c has. other_dealt c (other_number c has)
            (contained (IsDealt missing other.side.grown replies (untaken_at u old.arrived.items lane.launched.items)) other.told c other.dealt has));
        come = subst (λ xs. AllByRecursion (IsCome other.side.grown other.told) xs) come_same other.come;
        unfinished = other.unfinished;
      }

    pub taking_goes_on : IsAsking view missing was asked noted_in new
    taking_goes_on =
        let as_many : length new.lanes.items ≡ length old.lanes.items = ap length h.lanes ∙ length-set old.lanes.items h.t h.becomes in
        let places = length-set replies k (reply_by missing got) in
        let few = is.few in record {
          few = omega (arith, places, few);
          known = subst (λ n. AllByRecursion (λ q. q.trustee < n) asked) (sym as_many) is.known;
          lanes = λ u lane e.
              elim (set_cases old.lanes.items h.t u h.becomes lane (subst (λ xs. slice_get xs u ≡ Some lane) h.lanes e)) [
                | inl (same, becomes) ↦
                    subst (λ l. IsAskedAt view missing u (was u) asked noted_in new.arrived.items l) (sym becomes)
                    (subst (λ n. IsAskedAt view missing n (was n) asked noted_in new.arrived.items h.becomes) (sym same) here)
                | inr (other_one, there) ↦ elsewhere u lane other_one there
              ];
        }
