-- That where all questions were asked and none counts, their replies are those that the client's sides tell.
use Rattle.std.proofs.Common.{◌≡◌, ◌≢◌, ℕ, ◌+◌, inl, inr, cond, List, [], ◌∷◌, ◌++◌, length, map, refl, sym, ◌∙◌, ap, subst, arith, eq-eqb, ne_eqb, append_assoc, length-append}
use Rattle.std.specs.Prelude.{slice_get}
use Rattle.std.specs.List.{AllByRecursion, AllZip}
use Rattle.std.specs.declared.option.Option.TheVariants.{Some}
use Rattle.std.proofs.lemmas.Bool.{cases_eq}
use Rattle.std.proofs.lemmas.List.{append-nil, append_cancel_left}
use Rattle.tm_batch.specs.declared.message.Request.{Request}
use Rattle.tm_batch.specs.declared.message.Request.TheVariants.{Entrust, Apply, Launch, Grant, Release, Reclaim, Bye}
use Rattle.tm_batch.specs.declared.message.Answer.{Answer}
use Rattle.tm_model.specs.declared.entry.Entry.{Entry}
use Rattle.tm_model.specs.State.{State}
use Rattle.tm_model.specs.Ran.{mark_of, ran, answered}
use Rattle.tm_model.specs.Holds.{answers_in}
use Rattle.tm_core.proofs.CallerLemmas.{all_weaker}
use Rattle.tm_core.proofs.Marks.{ran-append}
use Rattle.tm_core.proofs.Longer.{answered-append}
use Rattle.tm_pair.specs.Views.{ClientView}
use Rattle.tm_client.specs.declared.lane.Lane.{Lane}
use Rattle.tm_client.specs.declared.answers.Arrival.{Arrival}
use Rattle.tm_client.specs.declared.books.Books.{Books}
use Rattle.tm_client.specs.Lanes.{asks_in, out_requests, unanswered, IsLane}
use Rattle.tm_client.specs.Clients.{come_of, IsClient}
use Rattle.tm_client.proofs.Accepting.{as_many_wait}
use Rattle.tm_client.proofs.Told.{none_left}
use Rattle.tm_asking.specs.Questions.{Question, requests_at, replies_at, IsReplyOf, HasAskedAll}
use Rattle.tm_asking.specs.Asking.{numbers_at, HasReply, come_at, untaken_at, IsCome, IsTold, IsNoted, IsDealt, IsSettled, IsAskedAt, IsAsking, AreReplied, AreBegun, NoneCounts, side_in, sides_of}
use Rattle.tm_asking.proofs.Among.{none_among}

module _ {X : Type 0} where
  at_front : (front : List X) (x : X) (xs : List X) (n : ℕ) → n ≡ length front → slice_get (front ++ x ∷ xs) n ≡ Some x
  at_front [] x xs n e = rw e refl
  at_front (y ∷ front) x xs n e = rw e (at_front front x xs (length front) refl)

  pub nothing_in : (xs ys : List X) → length (xs ++ ys) ≡ 0 → (xs ≡ []) × (ys ≡ [])
  nothing_in xs ys e = let joined = length-append xs ys in (none_left xs (omega (arith, e, joined)), none_left ys (omega (arith, e, joined)))

module _ {V O R T : Type 0} where
  replies_here : (t : ℕ) (q : Question V O R T) (qs : List (Question V O R T)) (r : R) (rs : List R) → q.trustee ≡ t
      → replies_at t (q ∷ qs) (r ∷ rs) ≡ r ∷ replies_at t qs rs
  replies_here t q qs r rs e = ap (λ b. cond b (r ∷ replies_at t qs rs) (replies_at t qs rs)) (eq-eqb q.trustee t e)

  replies_other : (t : ℕ) (q : Question V O R T) (qs : List (Question V O R T)) (r : R) (rs : List R) → q.trustee ≢ t
      → replies_at t (q ∷ qs) (r ∷ rs) ≡ replies_at t qs rs
  replies_other t q qs r rs ne = ap (λ b. cond b (r ∷ replies_at t qs rs) (replies_at t qs rs)) (ne_eqb q.trustee t ne)

  -- what is noted at the place of the next number
  first_noted :
      (missing : R) (log : List (Entry V O R T)) (front : List R) (r : R) (rest : List R) (n : ℕ) (c : ℕ × Answer V O R T) → n ≡ length front → c.0 ≡ n
      → IsNoted missing log (front ++ r ∷ rest) c → IsReplyOf missing log c.1 r
  first_noted missing log front r rest n c at is (reply, there, own) =
      let here : slice_get (front ++ r ∷ rest) c.0 ≡ Some r = rw is (at_front front r rest n at) in
      let both : Some reply ≡ Some r = sym there ∙ here in
      let same : reply ≡ r = cc in
      subst (IsReplyOf missing log c.1) same own

  dealt_here :
      (missing : R) (log : List (Entry V O R T)) (t n : ℕ) (qs : List (Question V O R T)) (front rest : List R) (r : R) (told : List (ℕ × Answer V O R T))
      → n ≡ length front
      → ((ts : List (ℕ × Answer V O R T)) → map (λ c. c.0) ts ≡ numbers_at t (n + 1) qs → AllByRecursion (IsNoted missing log (front ++ r ∷ rest)) ts
      → AllZip (IsReplyOf missing log) (map (λ c. c.1) ts) (replies_at t qs rest))
      → map (λ c. c.0) told ≡ n ∷ numbers_at t (n + 1) qs → AllByRecursion (IsNoted missing log (front ++ r ∷ rest)) told
      → AllZip (IsReplyOf missing log) (map (λ c. c.1) told) (r ∷ replies_at t qs rest)
  dealt_here missing log t n qs front rest r [] at later e h = absurd cc
  dealt_here missing log t n qs front rest r (c ∷ told) at later e h =
      let is : c.0 ≡ n = cc in
      let others : map (λ c. c.0) told ≡ numbers_at t (n + 1) qs = cc in
      (first_noted missing log front r rest n c at is h.0, later told others h.1)

  -- where the numbers of what was noted are those of all questions to a trustee, the replies to these are those of the answers
  pub dealt :
      (missing : R) (log : List (Entry V O R T)) (t n : ℕ) (qs : List (Question V O R T)) (front rest : List R) (told : List (ℕ × Answer V O R T))
      → n ≡ length front → length qs ≡ length rest
      → map (λ c. c.0) told ≡ numbers_at t n qs → AllByRecursion (IsNoted missing log (front ++ rest)) told
      → AllZip (IsReplyOf missing log) (map (λ c. c.1) told) (replies_at t qs rest)
  dealt missing log t n [] front rest [] at many e h = tt
  dealt missing log t n [] front rest (c ∷ told) at many e h = absurd cc
  dealt missing log t n (q ∷ qs) front [] told at many e h = absurd (omega (arith, many))
  dealt missing log t n (q ∷ qs) front (r ∷ rest) told at many e h =
      let longer : front ++ r ∷ rest ≡ (front ++ r ∷ []) ++ rest = sym (append_assoc front (r ∷ []) rest) in
      let one = length-append front (r ∷ []) in
      let next : n + 1 ≡ length (front ++ r ∷ []) = omega (arith, at, one) in
      let later : (ts : List (ℕ × Answer V O R T)) → map (λ c. c.0) ts ≡ numbers_at t (n + 1) qs → AllByRecursion (IsNoted missing log (front ++ r ∷ rest)) ts
      → AllZip (IsReplyOf missing log) (map (λ c. c.1) ts) (replies_at t qs rest) =
      λ ts f k. dealt missing log t (n + 1) qs (front ++ r ∷ []) rest ts next (omega (arith, many)) f
      (subst (λ xs. AllByRecursion (IsNoted missing log xs) ts) longer k) in
      elim (cases_eq q.trustee t) [
        | inl is ↦
            subst (AllZip (IsReplyOf missing log) (map (λ c. c.1) told)) (sym (replies_here t q qs r rest is))
            (dealt_here missing log t n qs front rest r told at later
            (e ∙ ap (λ b. cond b (n ∷ numbers_at t (n + 1) qs) (numbers_at t (n + 1) qs)) (eq-eqb q.trustee t is)) h)
        | inr ne ↦
            subst (AllZip (IsReplyOf missing log) (map (λ c. c.1) told)) (sym (replies_other t q qs r rest ne))
            (later told (e ∙ ap (λ b. cond b (n ∷ numbers_at t (n + 1) qs) (numbers_at t (n + 1) qs)) (ne_eqb q.trustee t ne)) h)
      ]

  -- where no reply is left to be taken, all are noted
  all_noted :
      (missing : R) (log : List (Entry V O R T)) (replies : List R) (told : List (ℕ × Answer V O R T)) → AllByRecursion (IsDealt missing log replies []) told
      → AllByRecursion (IsNoted missing log replies) told
  all_noted missing log replies told h =
      all_weaker (IsDealt missing log replies []) (IsNoted missing log replies) told
      (λ c d. elim d [ inl untaken ↦ absurd (none_among c.0 untaken) | inr noted ↦ noted ]) h

  -- no request to which there is a reply is a Bye
  pub reply_asks : (b : List (Request V O R T)) → AllByRecursion HasReply b → asks_in b ≡ b
  reply_asks [] h = refl
  reply_asks (Entrust v ∷ b) h = absurd h.0
  reply_asks (Apply n op ∷ b) h = ap (λ l. Apply n op ∷ l) (reply_asks b h.1)
  reply_asks (Launch n task ∷ b) h = ap (λ l. Launch n task ∷ l) (reply_asks b h.1)
  reply_asks (Grant n d ∷ b) h = absurd h.0
  reply_asks (Release n ∷ b) h = absurd h.0
  reply_asks (Reclaim n ∷ b) h = absurd h.0
  reply_asks (Bye ∷ b) h = absurd h.0

  none_come : (t : ℕ) (arrived : List (Arrival V ℕ O R T)) → come_of t arrived ≡ 0 → come_at t arrived ≡ []
  none_come t [] e = refl
  none_come t (a ∷ arrived) e =
      elim (cases_eq a.trustee t) [
        | inl is ↦ absurd (let one = ap {B = ℕ} (λ b. cond b 1 0) (eq-eqb a.trustee t is) in omega (arith, e, one))
        | inr ne ↦
            let none = ap {B = ℕ} (λ b. cond b 1 0) (ne_eqb a.trustee t ne) in
            ap (λ b. cond b ((a.after, a.came) ∷ come_at t arrived) (come_at t arrived)) (ne_eqb a.trustee t ne)
            ∙ none_come t arrived (omega (arith, e, none))
      ]

  -- the requests and the answers by which a side's seen log grew
  pub grown_runs : (was now : ClientView V O R T) (grown : List (Entry V O R T)) (requests : List (Request V O R T)) → IsSettled was → now.place ≡ was.place
      → now.seen ≡ was.seen ++ grown → now.sent ≡ ran now.place now.seen → now.sent ≡ was.sent ++ requests → ran now.place grown ≡ requests
  grown_runs was now grown requests settled place seen runs sent =
      sym (append_cancel_left was.sent requests (ran now.place grown)
      (sym sent ∙ runs ∙ ap (λ log. ran now.place log) seen ∙ ran-append mark_of now.place was.seen grown
      ∙ ap (λ xs. xs ++ ran now.place grown) (ap (λ c. ran c was.seen) place ∙ sym settled.runs)))

  pub grown_answers : (was now : ClientView V O R T) (grown : List (Entry V O R T)) (answers : List (Answer V O R T)) → IsSettled was → now.place ≡ was.place
      → now.seen ≡ was.seen ++ grown → answers_in now.got ≡ answered now.place now.seen → answers_in now.got ≡ answers_in was.got ++ answers
      → answered now.place grown ≡ answers
  grown_answers was now grown answers settled place seen entries got =
      sym (append_cancel_left (answers_in was.got) answers (answered now.place grown)
      (sym got ∙ entries ∙ ap (λ log. answered now.place log) seen ∙ answered-append now.place was.seen grown
      ∙ ap (λ xs. xs ++ answered now.place grown) (ap (λ c. answered c was.seen) place ∙ sym settled.entries)))

module _ {V O R T D : Type 0} (view : D → ClientView V O R T) where
  -- a lane at which no request counts: nothing waits, nothing is out, and nothing is still to come
  pub record IsLaneAtRest (t : ℕ) (arrived : List (Arrival V ℕ O R T)) (lane : Lane V ℕ D O R T) : Type 0 where
    pub waits : lane.waits.items ≡ []
    pub out : asks_in (out_requests (view lane.side).out) ≡ []
    pub afters : lane.afters.items ≡ []
    pub launched : lane.launched.items ≡ []
    pub come : come_at t arrived ≡ []

  pub lane_at_rest :
      (opening : State V O R T) (c t : ℕ) (arrived : List (Arrival V ℕ O R T)) (lane : Lane V ℕ D O R T) → IsLane view opening c (come_of t arrived) lane
      → lane.counting ≡ 0 → IsLaneAtRest t arrived lane
  lane_at_rest opening c t arrived lane is none =
      let counts = is.counting in
      let nothing : length (unanswered view lane) ≡ 0 = omega (arith, counts, none) in
      let both = nothing_in (asks_in (out_requests (view lane.side).out)) lane.waits.items nothing in
      let many = as_many_wait view opening c (come_of t arrived) lane is in
      record {
        waits = both.1;
        out = both.0;
        afters = none_left lane.afters.items (omega (arith, many, nothing));
        launched = none_left lane.launched.items (omega (arith, counts, none));
        come = none_come t arrived (omega (arith, counts, none));
      }

  module _ (missing : R) (t : ℕ) (was : ClientView V O R T) (asked : List (Question V O R T)) (replies : List R) (arrived : List (Arrival V ℕ O R T))
      (lane : Lane V ℕ D O R T) (a : IsAskedAt view missing t was asked replies arrived lane) (rest : IsLaneAtRest t arrived lane) where
    nothing_out : out_requests (view lane.side).out ≡ []
    nothing_out = sym (reply_asks (out_requests (view lane.side).out) a.side.out_reply) ∙ rest.out

    pub runs_all : (view lane.side).sent ≡ ran (view lane.side).place (view lane.side).seen
    runs_all = a.side.runs ∙ ap (λ xs. ran (view lane.side).place (view lane.side).seen ++ xs) nothing_out ∙ append-nil _

    sent_all : (view lane.side).sent ≡ was.sent ++ requests_at t asked
    sent_all = sym (append-nil (view lane.side).sent) ∙ ap (λ xs. (view lane.side).sent ++ xs) (sym rest.waits) ∙ a.sent

    numbers_all : map (λ c. c.0) a.told ≡ numbers_at t 0 asked
    numbers_all =
        sym (append-nil (map (λ c. c.0) a.told)) ∙ ap (λ ws. map (λ c. c.0) a.told ++ map (λ w. w.after) ws) (sym rest.afters) ∙ a.numbers

    -- nothing is left to be taken
    untaken_none : untaken_at t arrived lane.launched.items ≡ []
    untaken_none =
        ap (λ cs. map (λ c. c.0) cs ++ map (λ l. l.after) lane.launched.items) rest.come ∙ ap {B = List ℕ} (λ ls. map (λ l. l.after) ls) rest.launched

    noted_all : AllByRecursion (IsNoted missing a.side.grown replies) a.told
    noted_all =
        all_noted missing a.side.grown replies a.told
        (subst (λ l. AllByRecursion (IsDealt missing a.side.grown replies l) a.told) untaken_none a.dealt)

    pub all_replied : length asked ≡ length replies → HasAskedAll missing (requests_at t asked) (replies_at t asked replies) was (view lane.side)
    all_replied many =
        let grown = a.side.grown in
        let answers = grown_answers was (view lane.side) grown (map (λ c. c.1) a.told) a.side.settled a.side.place a.side.seen a.side.entries a.got in record {
          place = a.side.place;
          sent = sent_all;
          grown = grown;
          seen = a.side.seen;
          runs = grown_runs was (view lane.side) grown (requests_at t asked) a.side.settled a.side.place a.side.seen runs_all sent_all;
          replied = subst (λ xs. AllZip (IsReplyOf missing grown) xs (replies_at t asked replies)) (sym answers)
              (dealt missing grown t 0 asked [] replies a.told refl many numbers_all noted_all);
        }

    -- and the next message may begin
    pub begins_again : (other : R) (more : List R) → IsAskedAt view other t (view lane.side) [] more arrived lane
    begins_again other more = record {
      side = record {
        settled = record { runs = runs_all; entries = a.side.entries };
        place = refl;
        grown = [];
        seen = sym (append-nil _);
        runs = a.side.runs;
        entries = a.side.entries;
        out_reply = a.side.out_reply;
      };
      is_open = a.is_open;
      sent = ap (λ xs. (view lane.side).sent ++ xs) rest.waits;
      waits_reply = a.waits_reply;
      told = [];
      numbers = ap (λ ws. map (λ w. w.after) ws) rest.afters;
      got = sym (append-nil _);
      dealt = tt;
      come = subst (λ cs. AllByRecursion (IsCome [] []) cs) (sym rest.come) tt;
      unfinished = subst (λ ls. AllByRecursion (IsTold {V = V} {O = O} {R = R} {T = T} []) ls) (sym rest.launched) tt;
    }

  module _ (openings : ℕ → State V O R T) (missing : R) (was : ℕ → ClientView V O R T) (asked : List (Question V O R T)) (replies : List R) where
    pub replied_all :
        (books : Books V ℕ D O R T) → IsClient view openings books → IsAsking view missing was asked replies books → NoneCounts books → length asked ≡ length replies
        → AreReplied view missing was asked replies books
    replied_all books client is none many = record {
      each = sym many;
      at = λ t lane there.
          all_replied missing t (was t) asked replies books.arrived.items lane (is.lanes t lane there)
          (lane_at_rest (openings t) books.number t books.arrived.items lane (client.lanes t lane there) (none t lane there)) many;
    }

    pub begun_all :
        (other : R) (more : List R) (books : Books V ℕ D O R T) → IsClient view openings books → IsAsking view missing was asked replies books → NoneCounts books
        → IsAsking view other (sides_of view books) [] more books
    begun_all other more books client is none = record {
      few = omega arith;
      known = tt;
      lanes = λ t lane there.
          subst (λ o. IsAskedAt view other t (side_in view t o) [] more books.arrived.items lane) (sym there)
          (begins_again missing t (was t) asked replies books.arrived.items lane (is.lanes t lane there)
          (lane_at_rest (openings t) books.number t books.arrived.items lane (client.lanes t lane there) (none t lane there)) other more);
    }

  -- before all replies are there, the first of the questions were sent, and what was run of them is behind what was seen
  pub begun_so_far :
      (counted : R) (was : ℕ → ClientView V O R T) (asked : List (Question V O R T)) (replies : List R) (books : Books V ℕ D O R T)
      → IsAsking view counted was asked replies books → AreBegun view was asked books
  begun_so_far counted was asked replies books is = λ t lane missing there.
      let a = is.lanes t lane there in
      let grown = a.side.grown in
      let seen = a.side.seen in
      let side = view lane.side in
      let ran_all : ran side.place side.seen ≡ (was t).sent ++ ran side.place grown =
      ap (λ log. ran side.place log) seen ∙ ran-append mark_of side.place (was t).seen grown
      ∙ ap (λ l. l ++ ran side.place grown) (ap (λ c. ran c (was t).seen) a.side.place ∙ sym a.side.settled.runs) in
      let sent : side.sent ≡ (was t).sent ++ (ran side.place grown ++ out_requests side.out) =
      a.side.runs ∙ ap (λ l. l ++ out_requests side.out) ran_all ∙ append_assoc (was t).sent (ran side.place grown) (out_requests side.out) in
      let parts : (was t).sent ++ ((ran side.place grown ++ out_requests side.out) ++ lane.waits.items) ≡ (was t).sent ++ requests_at t asked =
      sym (append_assoc (was t).sent (ran side.place grown ++ out_requests side.out) lane.waits.items) ∙ ap (λ l. l ++ lane.waits.items) (sym sent) ∙ a.sent in
      let all : (ran side.place grown ++ out_requests side.out) ++ lane.waits.items ≡ requests_at t asked =
      append_cancel_left (was t).sent ((ran side.place grown ++ out_requests side.out) ++ lane.waits.items) (requests_at t asked) parts in record {
        place = a.side.place;
        asked = ran side.place grown ++ out_requests side.out;
        first = (lane.waits.items, sym all);
        sent = sent;
        grown = grown;
        seen = seen;
        runs = (out_requests side.out, refl);
        answers = [];
        answered_first = (answered side.place grown, refl);
        replied = tt;
      }
