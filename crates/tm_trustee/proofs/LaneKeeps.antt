-- What a lane is stays so: after entries without resumes, after answers came or asks were sent, and after a Bye was said.
use Rattle.std.proofs.Common.{◌≡◌, ◌≢◌, ℕ, zero, suc, ◌+◌, ◌≤◌, false, List, [], ◌∷◌, ◌++◌, length, map, take, drop, inl, inr, refl, sym, ◌∙◌, ap, subst, arith, append_assoc, append-nil, length-append, eq-eqb}
use Rattle.std.specs.List.{AllByRecursion, AllZip}
use Rattle.std.specs.declared.option.Option.{Option}
use Rattle.std.specs.declared.option.Option.TheVariants.{None, Some}
use Rattle.std.proofs.lemmas.List.{take-append-drop, length-map}
use Rattle.tm_seq.specs.Kind.{Kind}
use Rattle.tm_batch.specs.declared.limits.TheConstants.{MOST_REQUESTS}
use Rattle.tm_batch.specs.declared.message.Request.{Request}
use Rattle.tm_batch.specs.declared.message.Request.TheVariants.{Entrust, Apply, Launch, Grant, Release, Reclaim, Bye}
use Rattle.tm_batch.specs.declared.message.Answer.{Answer}
use Rattle.tm_batch.specs.declared.message.AnswerBatch.{AnswerBatch}
use Rattle.tm_model.specs.declared.entry.Entry.{Entry}
use Rattle.tm_model.specs.declared.entry.Entry.TheVariants.{Sent}
use Rattle.tm_model.specs.State.{State, ids_above}
use Rattle.tm_model.specs.Serve.{state_after}
use Rattle.tm_model.specs.Legal.{IsLegal}
use Rattle.tm_model.specs.Entries.{batch_entries, entries_by}
use Rattle.tm_model.specs.Fits.{Fits}
use Rattle.tm_model.specs.Holds.{has_bye}
use Rattle.tm_model.specs.Laws.{IsOpening}
use Rattle.tm_model.specs.Lists.{IsPrefix}
use Rattle.tm_model.specs.Ran.{ran, answered, mark_of}
use Rattle.tm_core.proofs.AllAnswers.{as_many}
use Rattle.tm_core.proofs.Longer.{answered-append}
use Rattle.tm_core.proofs.ClientAnswers.{answers_are_as_many, answers_fit}
use Rattle.tm_core.proofs.Finding.{no_items}
use Rattle.tm_core.proofs.Lists.{front_empty}
use Rattle.tm_core.proofs.Marks.{ran-append}
use Rattle.tm_pair.specs.Views.{BatchView, ClientView}
use Rattle.tm_pair.specs.Calls.{IsPending, Gets, Publishes}
use Rattle.tm_pair.specs.Sides.{HasRun, IsGoodClient}
use Rattle.tm_state.specs.Launches.{work_of}
use Rattle.tm_trustee.specs.NestedAsks.{target, asks_of, replies_of, pending_of, works_at, asked_by, replied_in, AppliesAmong, EndsInBye}
use Rattle.tm_trustee.specs.Lanes.{IsAsker, IsLane, TakesIn, LetsGo}
use Rattle.tm_trustee.specs.Serving.{resumes_in}
use Rattle.tm_trustee.specs.declared.lane.Lane.{Lane}
use Rattle.tm_trustee.proofs.Among.{all_drop}
use Rattle.tm_trustee.proofs.Awaited.{quiet_all_asks, quiet_all_replies, quiet_pending, quiet_works}
use Rattle.tm_trustee.proofs.Replied.{replied_in-append, replied_few, asked_by-append}
use Rattle.tm_trustee.proofs.Works.{first_grew}

all_zip : {X Y : Type 0} (P Q : X → Y → Type 0) (xs : List X) (ys : List Y) → ((x : X) (y : Y) → P x y → Q x y) → AllZip P xs ys → AllZip Q xs ys
all_zip P Q [] [] each h = h
all_zip P Q [] (y ∷ ys) each h = absurd h
all_zip P Q (x ∷ xs) [] each h = absurd h
all_zip P Q (x ∷ xs) (y ∷ ys) each h = (each x y h.0, all_zip P Q xs ys each h.1)

module _ {V O R T : Type 0} where
  -- what was run begins what was sent
  pub ran_front : (out : Option (BatchView V O R T)) (sent run : List (Request V O R T)) → HasRun out sent run → IsPrefix run sent
  ran_front None sent run h = ([], h ∙ sym (append-nil run))
  ran_front (Some b) sent run h = (b.requests, h.0)

  asked_within : (xs ys : List (Request V O R T)) → IsPrefix xs ys → length (asked_by xs) ≤ length (asked_by ys)
  asked_within xs ys (rest, e) =
      let both = ap asked_by e ∙ asked_by-append xs rest in
      let size : length (asked_by ys) ≡ length (asked_by xs) + length (asked_by rest) = ap (λ l. length l) both ∙ length-append (asked_by xs) (asked_by rest) in
      omega (arith, size)

  module _ (kind : Kind V O R T) (opening : State V O R T) (log : List (Entry V O R T)) (u : ℕ) (up : ClientView V O R T) (lane : Lane V O R T)
      (is : IsLane kind opening log u up lane) where
    -- entries without resumes change nothing of it
    pub lane_quiet :
        IsOpening opening → (es : List (Entry V O R T)) → IsLegal kind opening (log ++ es) → resumes_in es ≡ 0 → IsLane kind opening (log ++ es) u up lane
    lane_quiet opens es legal none =
        let asks = quiet_all_asks kind opening opens log es legal none u in
        let replies = quiet_all_replies kind opening opens log es legal none u in
        let s' = state_after kind opening (log ++ es) in
        record {
          names = is.names;
          asks = ap (map target) asks ∙ is.asks;
          only = is.only;
          last = is.last;
          full = is.full;
          answers = elim is.answers [
            | inl nothing ↦ inl (nothing.0, replies ∙ nothing.1, nothing.2)
            | inr same ↦ inr (ap (λ l. map (λ t. t.reply) l ++ lane.came.items) replies ∙ same)
          ];
          due = let n = ap (λ l. length l) replies in let due = is.due in omega (arith, n, due);
          tickets =
              subst (λ l. IsPrefix (map (λ t. t.ticket) l) (map (λ a. a.ticket) (asks_of opening.setup u (log ++ es)))) (sym replies)
              (subst (λ l. IsPrefix (map (λ t. t.ticket) (replies_of kind opening u log)) (map (λ a. a.ticket) l)) (sym asks) is.tickets);
          askers =
              subst (λ l. AllZip (IsAsker s') lane.askers.items l) (sym (quiet_pending kind opening opens log es legal none u))
              (all_zip (IsAsker (state_after kind opening log)) (IsAsker s') lane.askers.items (pending_of kind opening u log)
              (λ t a h. (h.0, first_grew (state_after kind opening log).next_ticket (works_at (state_after kind opening log) t.id) (works_at s' t.id) (λ w. w ≡ work_of t) (quiet_works kind opening opens log es legal none t.id) h.1))
              is.askers);
          askers_room = is.askers_room;
          waits_room = is.waits_room;
          came_room = is.came_room;
        }

    module _ (home : State V O R T) (good : IsGoodClient kind home up) where
      -- what a side has seen: as many answers as requests, and they fit
      pub seen_fits : AllZip Fits (ran up.place up.seen) (answered up.place up.seen)
      seen_fits =
          let many = answers_are_as_many kind home up.seen up.place up.got good.cut in
          subst (λ l. AllZip Fits (ran up.place up.seen) l) many.1 (answers_fit kind home up.seen up.place up.got good.is_legal good.cut)

      none_seen : up.sent ≡ [] → answered up.place up.seen ≡ []
      none_seen none =
          let run = ran_front up.out up.sent (ran up.place up.seen) good.runs in
          let (rest, is_run) = run in
          no_items (answered up.place up.seen)
          (as_many up.place up.seen ∙ ap (λ l. length l) (front_empty (ran up.place up.seen) rest (sym is_run ∙ none)))

      -- the replies that came are those among the answers that were seen
      pub seen_replies : map (λ t. t.reply) (replies_of kind opening u log) ++ lane.came.items ≡ replied_in (answered up.place up.seen)
      seen_replies =
          elim is.answers [
            | inl nothing ↦
                ap (λ l. map (λ t. t.reply) l ++ lane.came.items) nothing.1 ∙ nothing.2 ∙ sym (ap replied_in (none_seen nothing.0))
            | inr same ↦ same
          ]

  -- answers to a batch behind entries that ran nothing of the place add these answers
  entries_answered :
      (c k : ℕ) (b : List (Request V O R T)) (answers : List (Answer V O R T)) → length answers ≡ length b → answered c (entries_by c k b answers) ≡ answers
  entries_answered c k [] [] e = refl
  entries_answered c k [] (a ∷ answers) e = absurd (omega (arith, e))
  entries_answered c k (q ∷ b) [] e = absurd (omega (arith, e))
  entries_answered c k (q ∷ b) (a ∷ answers) e =
      rw (eq-eqb c c refl) (ap (λ l. a ∷ l) (entries_answered c (k + 1) b answers (omega (arith, e))))

  entries_ran :
      (c k : ℕ) (b : List (Request V O R T)) (answers : List (Answer V O R T)) → length answers ≡ length b → ran c (entries_by c k b answers) ≡ b
  entries_ran c k [] [] e = refl
  entries_ran c k [] (a ∷ answers) e = absurd (omega (arith, e))
  entries_ran c k (q ∷ b) [] e = absurd (omega (arith, e))
  entries_ran c k (q ∷ b) (a ∷ answers) e =
      rw (eq-eqb c c refl) (ap (λ l. q ∷ l) (entries_ran c (k + 1) b answers (omega (arith, e))))

  module _ (kind : Kind V O R T) (home : State V O R T) (old new : ClientView V O R T) (a : AnswerBatch V O R T) (gets : Gets a old new)
      (good : IsGoodClient kind home old) (good_new : IsGoodClient kind home new) where
    -- what was seen grew by answers to what was out
    got_answers : answered new.place new.seen ≡ answered old.place old.seen ++ a.answers.items
    got_answers =
        let (b, room, are) = gets.answers in
        let (others, e) = are.seen in
        let c = old.place in
        let own : List (Entry V O R T) = batch_entries (old.seen ++ others) c b room a.answers.items in
        let k = length (ran c (old.seen ++ others)) in
        let run : ran c own ≡ b = ran-append mark_of c (entries_by c k b a.answers.items) (Sent c room ∷ []) ∙ append-nil _ ∙ entries_ran c k b a.answers.items are.answers in
        let sent_old : old.sent ≡ ran c old.seen ++ b = (subst (λ o. HasRun o old.sent (ran c old.seen)) are.out good.runs).0 in
        let sent_new : new.sent ≡ ran new.place new.seen = subst (λ o. HasRun o new.sent (ran new.place new.seen)) gets.out good_new.runs in
        let seen_ran : ran new.place new.seen ≡ ran c old.seen ++ (ran c others ++ b) =
        ap (λ p. ran p new.seen) gets.place ∙ ap (ran c) e ∙ ran-append mark_of c (old.seen ++ others) own ∙ ap (λ l. l ++ ran c own) (ran-append mark_of c old.seen others)
        ∙ append_assoc (ran c old.seen) (ran c others) (ran c own) ∙ ap (λ l. ran c old.seen ++ (ran c others ++ l)) run in
        let size = ap (λ l. length l) (sym sent_old ∙ sym gets.sent ∙ sent_new ∙ seen_ran) in
        let left = length-append (ran c old.seen) b in
        let right = length-append (ran c old.seen) (ran c others ++ b) in
        let mid = length-append (ran c others) b in
        let none : answered c others ≡ [] =
        no_items (answered c others) (as_many c others ∙ (let z : length (ran c others) ≡ 0 = omega (arith, size, left, right, mid) in z)) in
        let mine : answered c own ≡ a.answers.items =
        answered-append c (entries_by c k b a.answers.items) (Sent c room ∷ []) ∙ append-nil _ ∙ entries_answered c k b a.answers.items are.answers in
        ap (λ p. answered p new.seen) gets.place ∙ ap (answered c) e ∙ answered-append c (old.seen ++ others) own
        ∙ ap (λ l. l ++ answered c own) (answered-append c old.seen others ∙ ap (λ l. answered c old.seen ++ l) none ∙ append-nil (answered c old.seen))
        ∙ ap (λ l. answered c old.seen ++ l) mine

    -- a lane that took the answers in
    pub lane_takes :
        (opening : State V O R T) (log : List (Entry V O R T)) (u : ℕ) (lane becomes : Lane V O R T) → IsLane kind opening log u old lane
        → TakesIn a.answers.items lane becomes → IsLane kind opening log u new becomes
    lane_takes opening log u lane becomes is takes =
        let replies = map (λ t. t.reply) (replies_of kind opening u log) in
        let before = seen_replies kind opening log u old lane is home good in
        let now : replies ++ becomes.came.items ≡ replied_in (answered new.place new.seen) =
        ap (λ l. replies ++ l) takes.came ∙ sym (append_assoc replies lane.came.items (replied_in a.answers.items))
        ∙ ap (λ l. l ++ replied_in a.answers.items) before ∙ sym (replied_in-append (answered old.place old.seen) a.answers.items)
        ∙ ap replied_in (sym got_answers) in
        let fits = seen_fits_of new good_new in
        let few = replied_few (ran new.place new.seen) (answered new.place new.seen) fits in
        let within = asked_within (ran new.place new.seen) new.sent (ran_front new.out new.sent (ran new.place new.seen) good_new.runs) in
        let count = ap (λ l. length l) now in
        let sum = length-append replies becomes.came.items in
        let size = length-map (replies_of kind opening u log) (λ t. t.reply) in
        record {
          names = ap (λ v. map (λ n. n.id) v.items) takes.names ∙ is.names;
          asks = is.asks ∙ ap (λ l. asked_by (l ++ lane.waits.items)) (sym gets.sent) ∙ ap (λ v. asked_by (new.sent ++ v.items)) (sym takes.waits);
          only = subst (λ v. AllByRecursion (AppliesAmong (ids_above opening.setup u)) v.items) (sym takes.waits) is.only;
          last = elim is.last [
            | inl none ↦ inl (ap has_bye gets.sent ∙ none)
            | inr ends ↦ inr (subst (λ l. EndsInBye l) (sym gets.sent) ends.0, ap (λ v. v.items) takes.waits ∙ ends.1)
          ];
          full = λ b out. let bad : None ≡ Some b = sym gets.out ∙ out in absurd cc;
          answers = inr now;
          due = omega (arith, few, within, count, sum, size);
          tickets = is.tickets;
          askers = subst (λ v. AllZip (IsAsker (state_after kind opening log)) v.items (pending_of kind opening u log)) (sym takes.askers) is.askers;
          askers_room = ap (λ v. v.capacity) takes.askers ∙ is.askers_room;
          waits_room = ap (λ v. v.capacity) takes.waits ∙ is.waits_room;
          came_room = takes.room ∙ is.came_room;
        }
      where
        seen_fits_of : (view : ClientView V O R T) → IsGoodClient kind home view → AllZip Fits (ran view.place view.seen) (answered view.place view.seen)
        seen_fits_of view g =
            let many = answers_are_as_many kind home view.seen view.place view.got g.cut in
            subst (λ l. AllZip Fits (ran view.place view.seen) l) many.1 (answers_fit kind home view.seen view.place view.got g.is_legal g.cut)

  -- a lane whose side looked and found nothing
  pub lane_waits :
      (kind : Kind V O R T) (opening : State V O R T) (log : List (Entry V O R T)) (u : ℕ) (old new : ClientView V O R T) (lane becomes : Lane V O R T)
      → IsLane kind opening log u old lane → IsPending old new → becomes ≡ lane → IsLane kind opening log u new becomes
  lane_waits kind opening log u old new lane becomes is pending same =
      let (batch, out, out_new) = pending.out in
      let stays : IsLane kind opening log u new lane = record {
        names = is.names;
        asks = is.asks ∙ ap (λ l. asked_by (l ++ lane.waits.items)) (sym pending.sent);
        only = is.only;
        last = elim is.last [
          | inl none ↦ inl (ap has_bye pending.sent ∙ none)
          | inr ends ↦ inr (subst (λ l. EndsInBye l) (sym pending.sent) ends.0, ends.1)
        ];
        full = λ b e. is.full b (out ∙ sym out_new ∙ e);
        answers = elim is.answers [
          | inl nothing ↦ inl (pending.sent ∙ nothing.0, nothing.1, nothing.2)
          | inr seen ↦ inr (seen ∙ ap (λ p. replied_in (answered p old.seen)) (sym pending.place) ∙ ap (λ l. replied_in (answered new.place l)) (sym pending.seen))
        ];
        due = subst (λ l. length (replies_of kind opening u log) + length lane.came.items ≤ length (asked_by l)) (sym pending.sent) is.due;
        tickets = is.tickets;
        askers = is.askers;
        askers_room = is.askers_room;
        waits_room = is.waits_room;
        came_room = is.came_room;
      } in
      subst (λ l. IsLane kind opening log u new l) (sym same) stays

  applies_no_bye : (ids : List ℕ) (qs : List (Request V O R T)) → AllByRecursion (AppliesAmong ids) qs → has_bye qs ≡ false
  applies_no_bye ids [] all = refl
  applies_no_bye ids (Apply n op ∷ qs) all = applies_no_bye ids qs all.1
  applies_no_bye ids (Entrust v ∷ qs) all = absurd all.0
  applies_no_bye ids (Launch n t ∷ qs) all = absurd all.0
  applies_no_bye ids (Grant n d ∷ qs) all = absurd all.0
  applies_no_bye ids (Release n ∷ qs) all = absurd all.0
  applies_no_bye ids (Reclaim n ∷ qs) all = absurd all.0
  applies_no_bye ids (Bye ∷ qs) all = absurd all.0

  pub no_bye_more : (xs ys : List (Request V O R T)) → has_bye xs ≡ false → has_bye ys ≡ false → has_bye (xs ++ ys) ≡ false
  no_bye_more [] ys first then = then
  no_bye_more (Apply n op ∷ xs) ys first then = no_bye_more xs ys first then
  no_bye_more (Entrust v ∷ xs) ys first then = no_bye_more xs ys first then
  no_bye_more (Launch n t ∷ xs) ys first then = no_bye_more xs ys first then
  no_bye_more (Grant n d ∷ xs) ys first then = no_bye_more xs ys first then
  no_bye_more (Release n ∷ xs) ys first then = no_bye_more xs ys first then
  no_bye_more (Reclaim n ∷ xs) ys first then = no_bye_more xs ys first then
  no_bye_more (Bye ∷ xs) ys first then = absurd cc

  pub all_take : (P : Request V O R T → Type 0) (n : ℕ) (xs : List (Request V O R T)) → AllByRecursion P xs → AllByRecursion P (take n xs)
  all_take P zero xs all = tt
  all_take P (suc n) [] all = tt
  all_take P (suc n) (x ∷ xs) all = (all.0, all_take P n xs all.1)

  take_some : (xs : List (Request V O R T)) → xs ≢ [] → take MOST_REQUESTS xs ≢ []
  take_some [] some e = some refl
  take_some (x ∷ xs) some e = absurd cc

  -- a lane of which the first asks that waited were sent
  pub lane_sends :
      (kind : Kind V O R T) (home opening : State V O R T) (log : List (Entry V O R T)) (u : ℕ) (old new : ClientView V O R T) (lane becomes : Lane V O R T)
      (b : List (Request V O R T)) (room : ℕ) → IsGoodClient kind home old
      → IsLane kind opening log u old lane → lane.waits.items ≢ [] → LetsGo b lane becomes → Publishes b room old new → IsLane kind opening log u new becomes
  lane_sends kind home opening log u old new lane becomes b room good is some goes publishes =
      let ids = ids_above opening.setup u in
      let seen = seen_replies kind opening log u old lane is home good in
      let none : has_bye old.sent ≡ false = elim is.last [ inl unsaid ↦ unsaid | inr ends ↦ absurd (some ends.1) ] in
      let first : AllByRecursion (AppliesAmong ids) b = subst (λ l. AllByRecursion (AppliesAmong ids) l) (sym goes.is_first) (all_take (AppliesAmong ids) MOST_REQUESTS lane.waits.items is.only) in
      let asked_sent = ap asked_by publishes.sent ∙ asked_by-append old.sent b in
      let more = ap (λ l. length l) asked_sent ∙ length-append (asked_by old.sent) (asked_by b) in
      let due = is.due in
      record {
        names = ap (λ v. map (λ n. n.id) v.items) goes.names ∙ is.names;
        asks =
            is.asks ∙ ap (λ l. asked_by (old.sent ++ l)) (sym (take-append-drop MOST_REQUESTS lane.waits.items))
            ∙ ap (λ l. asked_by (old.sent ++ (l ++ drop MOST_REQUESTS lane.waits.items))) (sym goes.is_first)
            ∙ ap asked_by (sym (append_assoc old.sent b (drop MOST_REQUESTS lane.waits.items)))
            ∙ ap (λ l. asked_by (l ++ drop MOST_REQUESTS lane.waits.items)) (sym publishes.sent)
            ∙ ap (λ l. asked_by (new.sent ++ l)) (sym goes.waits);
        only = subst (λ l. AllByRecursion (AppliesAmong ids) l) (sym goes.waits) (all_drop (AppliesAmong ids) MOST_REQUESTS lane.waits.items is.only);
        last = inl (ap has_bye publishes.sent ∙ no_bye_more old.sent b none (applies_no_bye ids b first));
        full = λ batch out e.
            let same : Some (record { requests = b; room = room }) ≡ Some batch = sym publishes.out ∙ out in
            let is_batch : record { requests = b; room = room } ≡ batch = cc in
            take_some lane.waits.items some (sym goes.is_first ∙ ap (λ (x : BatchView V O R T). x.requests) is_batch ∙ e);
        answers =
            inr (ap (λ v. map (λ t. t.reply) (replies_of kind opening u log) ++ v.items) goes.came ∙ seen
            ∙ ap (λ p. replied_in (answered p old.seen)) (sym publishes.place) ∙ ap (λ l. replied_in (answered new.place l)) (sym publishes.seen));
        due = let came = ap (λ v. length v.items) goes.came in omega (arith, due, more, came);
        tickets = is.tickets;
        askers = subst (λ v. AllZip (IsAsker (state_after kind opening log)) v.items (pending_of kind opening u log)) (sym goes.askers) is.askers;
        askers_room = ap (λ v. v.capacity) goes.askers ∙ is.askers_room;
        waits_room = goes.room ∙ is.waits_room;
        came_room = ap (λ v. v.capacity) goes.came ∙ is.came_room;
      }

  -- a lane whose side said Bye, where nothing waited
  pub lane_says :
      (kind : Kind V O R T) (home opening : State V O R T) (log : List (Entry V O R T)) (u : ℕ) (old new : ClientView V O R T) (lane becomes : Lane V O R T)
      (b : List (Request V O R T)) (room : ℕ) → IsGoodClient kind home old → IsLane kind opening log u old lane → lane.waits.items ≡ [] → has_bye old.sent ≡ false
      → b ≡ Bye ∷ [] → Publishes b room old new → becomes.names ≡ lane.names → becomes.askers ≡ lane.askers → becomes.waits ≡ lane.waits → becomes.came ≡ lane.came
      → IsLane kind opening log u new becomes
  lane_says kind home opening log u old new lane becomes b room good is none unsaid bye publishes names askers waits came =
      let seen = seen_replies kind opening log u old lane is home good in
      let sent : new.sent ≡ old.sent ++ Bye ∷ [] = publishes.sent ∙ ap (λ l. old.sent ++ l) bye in
      let same : asked_by new.sent ≡ asked_by old.sent = ap asked_by sent ∙ asked_by-append old.sent (Bye ∷ []) ∙ append-nil (asked_by old.sent) in
      let nothing : becomes.waits.items ≡ [] = ap (λ v. v.items) waits ∙ none in
      let due = is.due in
      let size = ap (λ l. length l) same in
      record {
        names = ap (λ v. map (λ n. n.id) v.items) names ∙ is.names;
        asks =
            is.asks ∙ ap (λ l. asked_by (old.sent ++ l)) none ∙ ap asked_by (append-nil old.sent) ∙ sym same
            ∙ ap asked_by (sym (append-nil new.sent)) ∙ ap (λ l. asked_by (new.sent ++ l)) (sym nothing);
        only = subst (λ l. AllByRecursion (AppliesAmong (ids_above opening.setup u)) l) (sym nothing) tt;
        last = inr ((old.sent, sent, unsaid), nothing);
        full = λ batch out e.
            let is_some : Some (record { requests = b; room = room }) ≡ Some batch = sym publishes.out ∙ out in
            let is_batch : record { requests = b; room = room } ≡ batch = cc in
            let bad : Bye ∷ [] ≡ [] = sym bye ∙ ap (λ (x : BatchView V O R T). x.requests) is_batch ∙ e in absurd cc;
        answers =
            inr (ap (λ v. map (λ t. t.reply) (replies_of kind opening u log) ++ v.items) came ∙ seen
            ∙ ap (λ p. replied_in (answered p old.seen)) (sym publishes.place) ∙ ap (λ l. replied_in (answered new.place l)) (sym publishes.seen));
        due = let n = ap (λ v. length v.items) came in omega (arith, due, size, n);
        tickets = is.tickets;
        askers = subst (λ v. AllZip (IsAsker (state_after kind opening log)) v.items (pending_of kind opening u log)) (sym askers) is.askers;
        askers_room = ap (λ v. v.capacity) askers ∙ is.askers_room;
        waits_room = ap (λ v. v.capacity) waits ∙ is.waits_room;
        came_room = ap (λ v. v.capacity) came ∙ is.came_room;
      }
