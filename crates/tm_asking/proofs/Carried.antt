-- A client that made a turn at a trustee has still asked the same questions.
use Rattle.std.proofs.Common.{◌≡◌, ◌≢◌, ℕ, ◌<◌, ◌≤◌, ◌⊎◌, inl, inr, false, List, [], ◌∷◌, ◌++◌, length, map, take, drop, refl, sym, ◌∙◌, ap, subst, arith, append_assoc, append-nil, length-append, length-set}
use Rattle.std.specs.Prelude.{slice_get}
use Rattle.std.specs.List.{AllByRecursion, Contains}
use Rattle.std.specs.declared.option.Option.TheVariants.{Some}
use Rattle.std.proofs.lemmas.List.{map-append, take-append-drop}
use Rattle.std.proofs.lemmas.List.Concat.{flat_map-append}
use Rattle.std.proofs.lemmas.List.Elements.{Contains-append_left, Contains-append_right}
use Rattle.tm_seq.specs.Kind.{Kind}
use Rattle.tm_batch.specs.declared.limits.TheConstants.{MOST_REQUESTS}
use Rattle.tm_batch.specs.declared.message.Request.{Request}
use Rattle.tm_batch.specs.declared.message.Answer.{Answer}
use Rattle.tm_batch.specs.declared.message.Answer.TheVariants.{Launched}
use Rattle.tm_batch.specs.declared.message.AnswerBatch.{AnswerBatch}
use Rattle.tm_batch.specs.declared.message.Completion.{Completion}
use Rattle.tm_model.specs.declared.entry.Entry.{Entry}
use Rattle.tm_model.specs.State.{State}
use Rattle.tm_model.specs.Given.{completions_in}
use Rattle.tm_model.specs.Holds.{answers_in}
use Rattle.tm_model.specs.Ran.{answered}
use Rattle.tm_core.proofs.CallerLemmas.{all-append, all_weaker}
use Rattle.tm_pair.specs.Views.{ClientView}
use Rattle.tm_pair.specs.Sides.{IsGoodClient}
use Rattle.tm_pair.specs.Theory.{Theory}
use Rattle.tm_client.specs.declared.lane.Lane.{Lane}
use Rattle.tm_client.specs.declared.lane.Unfinished.{Unfinished}
use Rattle.tm_client.specs.declared.answers.Turn.{Turn}
use Rattle.tm_client.specs.declared.answers.Turn.TheVariants as turn
use Rattle.tm_client.specs.declared.books.Books.{Books}
use Rattle.tm_client.specs.Lanes.{asks_in, out_requests}
use Rattle.tm_client.specs.Clients.{IsClient}
use Rattle.tm_client.specs.Launches.{ended_tickets, arrivals_of, launches_of, finished_of, with_told}
use Rattle.tm_client.specs.Turns.{IsDue, HasGot, HasLooked, HasSent, HasTurned}
use Rattle.tm_client.proofs.Accepting.{as_many_wait}
use Rattle.tm_client.proofs.Looking.{as_many}
use Rattle.tm_client.proofs.Elements.{set_cases}
use Rattle.tm_asking.specs.Questions.{Question, HasEnded}
use Rattle.tm_asking.specs.Asking.{HasReply, come_at, untaken_at, IsCome, IsTold, IsDealt, IsSideAsked, IsAskedAt, IsAsking}
use Rattle.tm_asking.proofs.Among.{among_parts, both_parts, map_among, among_map}
use Rattle.tm_asking.proofs.Coming.{come_more, arrivals_elsewhere, IsOutcome, outcomes, paired, paired_numbers, paired_answers, Goes, arrivals_come, launches_told, all_go}
use Rattle.tm_asking.proofs.Ends.{ended_behind}
use Rattle.tm_asking.proofs.Finishing.{finished_elsewhere, launch_goes, left_told, finished_come}
use Rattle.tm_asking.proofs.Replied.{reply_asks, grown_answers}
use Rattle.tm_asking.proofs.Sides.{come_longer, dealt_longer, come_told, told_more}

module _ {V O R T D Table Owner : Type 0} (theory : Theory V O R T Table D Owner) (kind : Kind V O R T) where
  -- what goes out and what stays are what waited
  due_parts : (lane : Lane V ℕ D O R T) (b rest : List (Request V O R T)) → lane.closing ≡ false → IsDue theory lane b rest → b ++ rest ≡ lane.waits.items
  due_parts lane b rest still (inl (some, first, others)) =
      ap (λ l. l ++ rest) first ∙ ap (λ l. take MOST_REQUESTS lane.waits.items ++ l) others ∙ take-append-drop MOST_REQUESTS lane.waits.items
  due_parts lane b rest still (inr (inl (bye, first, others))) = absurd (let closing = bye.1 in cc)
  due_parts lane b rest still (inr (inr (fetch, first, others))) = ap (λ l. l ++ rest) first ∙ others ∙ sym fetch.0

  module _ (openings : ℕ → State V O R T) (t : ℕ) (answer : Turn) (table_was table_now : Table) (missing : R) (was : ℕ → ClientView V O R T)
      (asked : List (Question V O R T)) (replies : List R) (old new : Books V ℕ D O R T)
      (client : IsClient theory.client_view openings old) (is : IsAsking theory.client_view missing was asked replies old)
      (h : HasTurned theory kind t answer table_was table_now old new) where
    at : IsAskedAt theory.client_view missing t (was t) asked replies old.arrived.items h.lane
    at = is.lanes t h.lane h.turns.of_lane

    -- the log that the side has seen since
    abbrev log : List (Entry V O R T)
    log = at.side.grown ++ h.extends.0

    abbrev side_on : (theory.client_view h.becomes.side).place ≡ (theory.client_view h.lane.side).place
        → AllByRecursion HasReply (out_requests (theory.client_view h.becomes.side).out)
        → IsSideAsked (was t) (theory.client_view h.becomes.side)
    side_on place out = record {
      settled = at.side.settled;
      place = place ∙ at.side.place;
      grown = at.side.grown ++ h.extends.0;
      seen = h.extends.1 ∙ ap (λ l. l ++ h.extends.0) at.side.seen ∙ append_assoc (was t).seen at.side.grown h.extends.0;
      runs = h.sees.runs;
      entries = h.sees.entries;
      out_reply = out;
    }

    -- what was told and what came are so by the longer log too
    dealt_on : (untaken : List ℕ) → untaken_at t old.arrived.items h.lane.launched.items ≡ untaken → AllByRecursion (IsDealt missing log replies untaken) at.told
    dealt_on untaken same =
        all_weaker (IsDealt missing at.side.grown replies untaken) (IsDealt missing log replies untaken) at.told
        (dealt_longer missing at.side.grown h.extends.0 replies untaken)
        (subst (λ l. AllByRecursion (IsDealt missing at.side.grown replies l) at.told) same at.dealt)

    come_on : AllByRecursion (IsCome log at.told) (come_at t old.arrived.items)
    come_on =
        all_weaker (IsCome at.side.grown at.told) (IsCome log at.told) (come_at t old.arrived.items) (come_longer at.side.grown h.extends.0 at.told) at.come

    -- the other lanes keep what they have, where nothing came of their trustees
    whole : ((u : ℕ) → u ≢ t → come_at u new.arrived.items ≡ come_at u old.arrived.items)
        → IsAskedAt theory.client_view missing t (was t) asked replies new.arrived.items h.becomes → IsAsking theory.client_view missing was asked replies new
    whole others here =
        let as_many : length new.lanes.items ≡ length old.lanes.items = ap length h.turns.lanes ∙ length-set old.lanes.items t h.becomes in record {
          few = is.few;
          known = subst (λ n. AllByRecursion (λ q. q.trustee < n) asked) (sym as_many) is.known;
          lanes = λ u lane e.
              elim (set_cases old.lanes.items t u h.becomes lane (subst (λ xs. slice_get xs u ≡ Some lane) h.turns.lanes e)) [
                | inl (same, becomes) ↦
                    subst (λ l. IsAskedAt theory.client_view missing u (was u) asked replies new.arrived.items l) (sym becomes)
                    (subst (λ n. IsAskedAt theory.client_view missing n (was n) asked replies new.arrived.items h.becomes) (sym same) here)
                | inr (other, there) ↦
                    let a = is.lanes u lane there in record {
                      side = a.side;
                      is_open = a.is_open;
                      sent = a.sent;
                      waits_reply = a.waits_reply;
                      told = a.told;
                      numbers = a.numbers;
                      got = a.got;
                      dealt = subst (λ cs. AllByRecursion (IsDealt missing a.side.grown replies (map (λ c. c.0) cs ++ map (λ l. l.after) lane.launched.items)) a.told)
                          (sym (others u other)) a.dealt;
                      come = subst (λ cs. AllByRecursion (IsCome a.side.grown a.told) cs) (sym (others u other)) a.come;
                      unfinished = a.unfinished;
                    }
              ];
        }

    -- ---- answers came

    module _ (n : ℕ) (got : HasGot theory kind t n table_was table_now h.lane h.becomes old new) (opening : State V O R T)
        (good : IsGoodClient kind opening (theory.client_view h.becomes.side)) where
      abbrev out : List (Request V O R T)
      out = out_requests (theory.client_view h.lane.side).out

      abbrev answers : List (Answer V O R T)
      answers = got.answers.answers.items

      abbrev completions : List (Completion V O R T)
      completions = got.answers.completions.items

      abbrev launches : List (Unfinished ℕ)
      launches = with_told h.lane got.answers

      few_answers : length answers ≤ length h.lane.afters.items
      few_answers =
          let many = as_many got.answers (theory.client_view h.lane.side) (theory.client_view h.becomes.side) got.gets in
          let afters = as_many_wait theory.client_view (openings t) old.number _ h.lane (client.lanes t h.lane h.turns.of_lane) in
          let joined = length-append (asks_in out) h.lane.waits.items in
          let all = ap length (reply_asks out at.side.out_reply) in
          omega (arith, many, afters, joined, all)

      own : AllByRecursion IsOutcome answers
      own = outcomes out answers at.side.out_reply got.fits

      abbrev news : List (ℕ × Answer V O R T)
      news = paired h.lane.afters.items answers

      abbrev told_now : List (ℕ × Answer V O R T)
      told_now = at.told ++ news

      abbrev side_now : IsSideAsked (was t) (theory.client_view h.becomes.side)
      side_now = side_on got.gets.place (subst (λ o. AllByRecursion HasReply (out_requests o)) (sym got.gets.out) tt)

      come_is : come_at t new.arrived.items
          ≡ come_at t old.arrived.items ++ (come_at t (arrivals_of t h.lane.afters.items answers) ++ come_at t (finished_of t launches completions))
      come_is =
          ap (λ xs. come_at t xs) got.arrived ∙ come_more t old.arrived.items (arrivals_of t h.lane.afters.items answers ++ finished_of t launches completions)
          ∙ ap (λ l. come_at t old.arrived.items ++ l) (come_more t (arrivals_of t h.lane.afters.items answers) (finished_of t launches completions))

      -- a number that came is untaken now
      come_untaken : (k : ℕ)
          → Contains (map (λ c. c.0) (come_at t old.arrived.items)) k
          ⊎ (Contains (map (λ c. c.0) (come_at t (arrivals_of t h.lane.afters.items answers))) k
          ⊎ Contains (map (λ c. c.0) (come_at t (finished_of t launches completions))) k)
          → Contains (untaken_at t new.arrived.items h.becomes.launched.items) k
      come_untaken k parts =
          Contains-append_left (map (λ c. c.0) (come_at t new.arrived.items)) (map (λ l. l.after) h.becomes.launched.items) k
          (subst (λ cs. Contains (map (λ c. c.0) cs) k) (sym come_is)
          (subst (λ l. Contains l k)
          (sym (map-append (λ c. c.0) (come_at t old.arrived.items) (come_at t (arrivals_of t h.lane.afters.items answers) ++ come_at t (finished_of t launches completions))))
          (elim parts [
            | inl before ↦ Contains-append_left (map (λ c. c.0) (come_at t old.arrived.items)) _ k before
            | inr later ↦
                Contains-append_right (map (λ c. c.0) (come_at t old.arrived.items)) _ k
                (subst (λ l. Contains l k)
                (sym (map-append (λ c. c.0) (come_at t (arrivals_of t h.lane.afters.items answers)) (come_at t (finished_of t launches completions))))
                (elim later [
                  | inl answer_came ↦ Contains-append_left (map (λ c. c.0) (come_at t (arrivals_of t h.lane.afters.items answers))) _ k answer_came
                  | inr ended ↦ Contains-append_right (map (λ c. c.0) (come_at t (arrivals_of t h.lane.afters.items answers))) _ k ended
                ]))
          ])))

      -- so is that of a launch that lacked its completion, or whose ticket came
      launch_untaken : (k : ℕ) → Contains (map (λ l. l.after) launches) k → Contains (untaken_at t new.arrived.items h.becomes.launched.items) k
      launch_untaken k has =
          let (l, among, same) = among_map (λ l. l.after) launches k has in
          subst (λ m. Contains (untaken_at t new.arrived.items h.becomes.launched.items) m) (sym same)
          (elim (launch_goes t launches completions l got.once among) [
            | inl comes ↦ come_untaken l.after (inr (inr comes))
            | inr still ↦
                Contains-append_right (map (λ c. c.0) (come_at t new.arrived.items)) (map (λ l. l.after) h.becomes.launched.items) l.after
                (subst (λ ls. Contains (map (λ l. l.after) ls) l.after) (sym got.launched) still)
          ])

      dealt_before : (c : ℕ × Answer V O R T) → IsDealt missing log replies (untaken_at t old.arrived.items h.lane.launched.items) c
          → IsDealt missing log replies (untaken_at t new.arrived.items h.becomes.launched.items) c
      dealt_before c (inr noted) = inr noted
      dealt_before c (inl untaken) =
          elim (among_parts (map (λ c. c.0) (come_at t old.arrived.items)) (map (λ l. l.after) h.lane.launched.items) c.0 untaken) [
            | inl came ↦ inl (come_untaken c.0 (inl came))
            | inr waits ↦
                inl (launch_untaken c.0
                (subst (λ l. Contains l c.0) (sym (map-append (λ l. l.after) h.lane.launched.items (launches_of h.lane.afters.items answers)))
                (Contains-append_left (map (λ l. l.after) h.lane.launched.items) _ c.0 waits)))
          ]

      dealt_news : (c : ℕ × Answer V O R T) → Goes t h.lane.afters.items answers c
          → IsDealt missing log replies (untaken_at t new.arrived.items h.becomes.launched.items) c
      dealt_news c (inl comes) = inl (come_untaken c.0 (inr (inl comes)))
      dealt_news c (inr waits) =
          inl (launch_untaken c.0
          (subst (λ l. Contains l c.0) (sym (map-append (λ l. l.after) h.lane.launched.items (launches_of h.lane.afters.items answers)))
          (Contains-append_right (map (λ l. l.after) h.lane.launched.items) _ c.0 waits)))

      dealt_now : AllByRecursion (IsDealt missing log replies (untaken_at t new.arrived.items h.becomes.launched.items)) told_now
      dealt_now =
          all-append (IsDealt missing log replies (untaken_at t new.arrived.items h.becomes.launched.items)) at.told news
          (all_weaker (IsDealt missing log replies (untaken_at t old.arrived.items h.lane.launched.items))
          (IsDealt missing log replies (untaken_at t new.arrived.items h.becomes.launched.items)) at.told dealt_before
          (dealt_on (untaken_at t old.arrived.items h.lane.launched.items) refl))
          (all_weaker (Goes t h.lane.afters.items answers) (IsDealt missing log replies (untaken_at t new.arrived.items h.becomes.launched.items)) news dealt_news
          (all_go t h.lane.afters.items answers own))

      -- the launches whose tickets came are of what was told
      launches_now : AllByRecursion (IsTold told_now) launches
      launches_now =
          all-append (IsTold told_now) h.lane.launched.items (launches_of h.lane.afters.items answers)
          (all_weaker (IsTold at.told) (IsTold told_now) h.lane.launched.items (told_more at.told news) at.unfinished)
          (all_weaker (IsTold news) (IsTold told_now) (launches_of h.lane.afters.items answers)
          (λ l is_told. Contains-append_right at.told news (l.after, Launched l.ticket) is_told) (launches_told h.lane.afters.items answers own))

      got_now : answers_in (theory.client_view h.becomes.side).got ≡ answers_in (was t).got ++ map (λ c. c.1) told_now
      got_now =
          ap (λ l. answers_in l) got.gets.got ∙ flat_map-append (λ (a : AnswerBatch V O R T). a.answers.items) (theory.client_view h.lane.side).got (got.answers ∷ [])
          ∙ ap (λ l. answers_in (theory.client_view h.lane.side).got ++ l) (append-nil answers) ∙ ap (λ l. l ++ answers) at.got
          ∙ append_assoc (answers_in (was t).got) (map (λ c. c.1) at.told) answers
          ∙ ap (λ l. answers_in (was t).got ++ (map (λ c. c.1) at.told ++ l)) (sym (paired_answers h.lane.afters.items answers few_answers))
          ∙ ap (λ l. answers_in (was t).got ++ l) (sym (map-append (λ c. c.1) at.told news))

      -- a completion is that of its ticket's end
      ended_now : (x : Completion V O R T) (l : Unfinished ℕ) → Contains completions x → IsTold told_now l → l.ticket ≡ x.ticket → HasEnded log x.ticket x.reply
      ended_now x l has is_told same =
          let view = theory.client_view h.becomes.side in
          let answers_are : answered view.place log ≡ map (λ c. c.1) told_now =
          grown_answers (was t) view log (map (λ c. c.1) told_now) at.side.settled side_now.place side_now.seen h.sees.entries got_now in
          let answer : Contains (answered view.place log) (Launched x.ticket) =
          subst (λ n. Contains (answered view.place log) (Launched n)) same
          (subst (λ xs. Contains xs (Launched l.ticket)) (sym answers_are) (map_among (λ c. c.1) told_now (l.after, Launched l.ticket) is_told)) in
          let all : completions_in view.got ≡ completions_in (theory.client_view h.lane.side).got ++ (completions ++ []) =
          ap (λ l. completions_in l) got.gets.got
          ∙ flat_map-append (λ (a : AnswerBatch V O R T). a.completions.items) (theory.client_view h.lane.side).got (got.answers ∷ []) in
          let came : Contains (completions_in view.got) x =
          subst (λ xs. Contains xs x) (sym all)
          (Contains-append_right (completions_in (theory.client_view h.lane.side).got) (completions ++ []) x (Contains-append_left completions [] x has)) in
          ended_behind kind opening view (was t).seen log x good side_now.seen came answer

      come_now : AllByRecursion (IsCome log told_now) (come_at t new.arrived.items)
      come_now =
          subst (AllByRecursion (IsCome log told_now)) (sym come_is)
          (all-append (IsCome log told_now) (come_at t old.arrived.items) _
          (all_weaker (IsCome log at.told) (IsCome log told_now) (come_at t old.arrived.items) (come_told log at.told news) come_on)
          (all-append (IsCome log told_now) (come_at t (arrivals_of t h.lane.afters.items answers)) (come_at t (finished_of t launches completions))
          (all_weaker (IsCome log news) (IsCome log told_now) (come_at t (arrivals_of t h.lane.afters.items answers))
          (λ c come. (come.0, Contains-append_right at.told news (c.0, come.0) come.1, come.2)) (arrivals_come log t h.lane.afters.items answers own))
          (finished_come log told_now t launches completions launches_now ended_now)))

      got_here : IsAskedAt theory.client_view missing t (was t) asked replies new.arrived.items h.becomes
      got_here = record {
        side = side_now;
        is_open = h.turns.closing ∙ at.is_open;
        sent = ap (λ l. l ++ h.becomes.waits.items) got.gets.sent ∙ ap (λ w. (theory.client_view h.lane.side).sent ++ w.items) got.waits ∙ at.sent;
        waits_reply = subst (λ w. AllByRecursion HasReply w.items) (sym got.waits) at.waits_reply;
        told = told_now;
        numbers =
            ap (λ ws. map (λ c. c.0) told_now ++ map (λ w. w.after) ws) got.afters
            ∙ ap (λ l. l ++ map (λ w. w.after) (drop (length answers) h.lane.afters.items)) (map-append (λ c. c.0) at.told news)
            ∙ append_assoc (map (λ c. c.0) at.told) (map (λ c. c.0) news) _
            ∙ ap (λ l. map (λ c. c.0) at.told ++ l) (paired_numbers h.lane.afters.items answers few_answers) ∙ at.numbers;
        got = got_now;
        dealt = dealt_now;
        come = come_now;
        unfinished = subst (AllByRecursion (IsTold told_now)) (sym got.launched) (left_told told_now (ended_tickets completions) launches launches_now);
      }

      got_goes_on : IsAsking theory.client_view missing was asked replies new
      got_goes_on =
          whole
          (λ u ne. ap (λ xs. come_at u xs) got.arrived ∙ come_more u old.arrived.items (arrivals_of t h.lane.afters.items answers ++ finished_of t launches completions)
          ∙ ap (λ l. come_at u old.arrived.items ++ l)
          (come_more u (arrivals_of t h.lane.afters.items answers) (finished_of t launches completions)
          ∙ ap (λ l. l ++ come_at u (finished_of t launches completions)) (arrivals_elsewhere u t h.lane.afters.items answers ne)
          ∙ finished_elsewhere u t launches completions ne)
          ∙ append-nil (come_at u old.arrived.items))
          got_here

    -- ---- nothing came

    pending_goes_on : HasLooked theory table_was table_now h.lane h.becomes old new → IsAsking theory.client_view missing was asked replies new
    pending_goes_on looked =
        let arrived : new.arrived.items ≡ old.arrived.items = ap (λ (b : Books V ℕ D O R T). b.arrived.items) looked.rest in
        let waits : h.becomes.waits.items ≡ h.lane.waits.items = ap (λ (l : Lane V ℕ D O R T). l.waits.items) looked.stays in
        let afters : h.becomes.afters.items ≡ h.lane.afters.items = ap (λ (l : Lane V ℕ D O R T). l.afters.items) looked.stays in
        let launched : h.becomes.launched.items ≡ h.lane.launched.items = ap (λ (l : Lane V ℕ D O R T). l.launched.items) looked.stays in
        let (batch, was_out, is_out) = looked.pending.out in
        whole (λ u ne. ap (λ xs. come_at u xs) arrived) (record {
          side = side_on looked.pending.place (subst (λ o. AllByRecursion HasReply (out_requests o)) (was_out ∙ sym is_out) at.side.out_reply);
          is_open = h.turns.closing ∙ at.is_open;
          sent = ap (λ l. l ++ h.becomes.waits.items) looked.pending.sent ∙ ap (λ l. (theory.client_view h.lane.side).sent ++ l) waits ∙ at.sent;
          waits_reply = subst (λ l. AllByRecursion HasReply l) (sym waits) at.waits_reply;
          told = at.told;
          numbers = ap (λ ws. map (λ c. c.0) at.told ++ map (λ w. w.after) ws) afters ∙ at.numbers;
          got = ap (λ l. answers_in l) looked.pending.got ∙ at.got;
          dealt = dealt_on (untaken_at t new.arrived.items h.becomes.launched.items)
              (ap (λ xs. untaken_at t xs h.lane.launched.items) (sym arrived) ∙ ap (λ ls. untaken_at t new.arrived.items ls) (sym launched));
          come = subst (λ xs. AllByRecursion (IsCome log at.told) (come_at t xs)) (sym arrived) come_on;
          unfinished = subst (AllByRecursion (IsTold at.told)) (sym launched) at.unfinished;
        })

    -- ---- what waited went out

    sent_goes_on : (n : ℕ) → HasSent theory n table_was table_now h.lane h.becomes old new → IsAsking theory.client_view missing was asked replies new
    sent_goes_on n sent =
        let parts = due_parts h.lane sent.batch.requests.items h.becomes.waits.items at.is_open sent.due in
        let reply = both_parts HasReply sent.batch.requests.items h.becomes.waits.items (subst (λ l. AllByRecursion HasReply l) (sym parts) at.waits_reply) in
        let arrived : new.arrived.items ≡ old.arrived.items = ap (λ a. a.items) sent.arrived in
        let launched : h.becomes.launched.items ≡ h.lane.launched.items = ap (λ l. l.items) sent.launched in
        whole (λ u ne. ap (λ xs. come_at u xs) arrived) (record {
          side = side_on sent.publishes.place (subst (λ o. AllByRecursion HasReply (out_requests o)) (sym sent.publishes.out) reply.0);
          is_open = h.turns.closing ∙ at.is_open;
          sent = ap (λ l. l ++ h.becomes.waits.items) sent.publishes.sent
              ∙ append_assoc (theory.client_view h.lane.side).sent sent.batch.requests.items h.becomes.waits.items
              ∙ ap (λ l. (theory.client_view h.lane.side).sent ++ l) parts ∙ at.sent;
          waits_reply = reply.1;
          told = at.told;
          numbers = ap (λ ws. map (λ c. c.0) at.told ++ map (λ w. w.after) ws.items) sent.afters ∙ at.numbers;
          got = ap (λ l. answers_in l) sent.publishes.got ∙ at.got;
          dealt = dealt_on (untaken_at t new.arrived.items h.becomes.launched.items)
              (ap (λ xs. untaken_at t xs h.lane.launched.items) (sym arrived) ∙ ap (λ ls. untaken_at t new.arrived.items ls) (sym launched));
          come = subst (λ xs. AllByRecursion (IsCome log at.told) (come_at t xs)) (sym arrived) come_on;
          unfinished = subst (AllByRecursion (IsTold at.told)) (sym launched) at.unfinished;
        })

  pub turning_goes_on :
      (openings : ℕ → State V O R T) (t : ℕ) (answer : Turn) (table_was table_now : Table) (missing : R) (was : ℕ → ClientView V O R T)
      (asked : List (Question V O R T)) (replies : List R) (old new : Books V ℕ D O R T) → IsClient theory.client_view openings old
      → IsAsking theory.client_view missing was asked replies old → (h : HasTurned theory kind t answer table_was table_now old new)
      → (opening : State V O R T) → IsGoodClient kind opening (theory.client_view h.becomes.side)
      → IsAsking theory.client_view missing was asked replies new
  turning_goes_on openings t (turn.Got n) table_was table_now missing was asked replies old new client is h opening good =
      got_goes_on openings t (turn.Got n) table_was table_now missing was asked replies old new client is h n h.tells opening good
  turning_goes_on openings t turn.Pending table_was table_now missing was asked replies old new client is h opening good =
      pending_goes_on openings t turn.Pending table_was table_now missing was asked replies old new client is h h.tells
  turning_goes_on openings t (turn.Sent n) table_was table_now missing was asked replies old new client is h opening good =
      sent_goes_on openings t (turn.Sent n) table_was table_now missing was asked replies old new client is h n h.tells
  turning_goes_on openings t turn.Idle table_was table_now missing was asked replies old new client is h opening good =
      subst (λ b. IsAsking theory.client_view missing was asked replies b) (sym h.tells.kept) is
