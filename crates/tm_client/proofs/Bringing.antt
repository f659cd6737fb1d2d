-- What a collect brings.
use Rattle.std.proofs.Common.{◌≡◌, ℕ, ◌+◌, ◌<◌, zero, suc, List, [], ◌∷◌, ◌++◌, length, slice_index_or, refl, sym, ◌∙◌, ap, subst, arith, append-nil}
use Rattle.std.specs.List.{AllZip, AllByRecursion, Contains}
use Rattle.tm_seq.specs.Kind.{Kind}
use Rattle.tm_batch.specs.declared.message.Request.{Request}
use Rattle.tm_batch.specs.declared.message.Request.TheVariants.{Entrust, Apply, Launch, Grant, Release, Reclaim, Bye}
use Rattle.tm_batch.specs.declared.message.Answer.{Answer}
use Rattle.tm_batch.specs.declared.message.Answer.TheVariants.{Entrusted, NotEntrusted, Replied, Launched, TicketsSpent, Granted, Gone, GiftsFull, Released, Reclaimed, Shared, ByeDone}
use Rattle.tm_batch.specs.declared.message.Completion.{Completion}
use Rattle.tm_batch.specs.declared.message.AnswerBatch.{AnswerBatch}
use Rattle.tm_model.specs.State.{State, holds_at}
use Rattle.tm_model.specs.Ran.{ran}
use Rattle.tm_model.specs.Holds.{launches_in, gave, brought_by, gifts_of, answers_in, gifts_in, came}
use Rattle.tm_model.specs.Fits.{Fits}
use Rattle.tm_core.proofs.ClientTickets.{tickets_come_first}
use Rattle.tm_core.proofs.Tallies.{answers_in-append, gifts_in-append, gifts_of-append}
use Rattle.tm_pair.specs.Views.{ClientView}
use Rattle.tm_pair.specs.Sides.{IsGoodClient}
use Rattle.tm_pair.specs.Calls.{Gets}
use Rattle.tm_client.specs.Lanes.{out_requests, bringing, AreHeld}
use Rattle.tm_client.specs.Clients.{brings}
use Rattle.tm_client.specs.SideLaws.{brings_in, Brings, CollectsBring}
use Rattle.tm_client.proofs.Living.{sent_is, answers_as_many, answers_fitting}

-- what holds behind lists that are as long
zip_behind : {X Y : Type 0} (P : X → Y → Type 0) (xs b : List X) (ys zs : List Y) → length ys ≡ length xs → AllZip P (xs ++ b) (ys ++ zs) → AllZip P b zs
zip_behind P [] b [] zs e h = h
zip_behind P [] b (y ∷ ys) zs e h = absurd (omega (arith, e))
zip_behind P (x ∷ xs) b [] zs e h = absurd (omega (arith, e))
zip_behind P (x ∷ xs) b (y ∷ ys) zs e h = zip_behind P xs b ys zs (omega (arith, e)) h.1

module _ {V O R T : Type 0} where
  -- answers bring to joined requests what they bring to each
  brought_split : (id : ℕ) (xs b : List (Request V O R T)) (ys zs : List (Answer V O R T)) → length ys ≡ length xs
      → brought_by id (xs ++ b) (ys ++ zs) ≡ brought_by id xs ys + brought_by id b zs
  brought_split id [] b [] zs e = omega arith
  brought_split id [] b (y ∷ ys) zs e = absurd (omega (arith, e))
  brought_split id (x ∷ xs) b [] zs e = absurd (omega (arith, e))
  brought_split id (x ∷ xs) b (y ∷ ys) zs e = let more = brought_split id xs b ys zs (omega (arith, e)) in omega (arith, more)

  no_more : (id : ℕ) (b : List (Request V O R T)) → brought_by id b [] ≡ 0
  no_more id [] = refl
  no_more id (q ∷ b) = refl

  -- a request may bring a trust where its answer may
  bring_alike : (q : Request V O R T) (a : Answer V O R T) → Fits q a → brings a ≡ bringing (q ∷ [])
  bring_alike (Entrust v) (Entrusted name) h = refl
  bring_alike (Entrust v) (NotEntrusted refusal back) h = refl
  bring_alike (Entrust v) _ h = absurd h
  bring_alike (Apply n op) (Replied r) h = refl
  bring_alike (Apply n op) _ h = absurd h
  bring_alike (Launch n task) (Launched ticket) h = refl
  bring_alike (Launch n task) (TicketsSpent back) h = refl
  bring_alike (Launch n task) _ h = absurd h
  bring_alike (Grant n d) Granted h = refl
  bring_alike (Grant n d) Gone h = refl
  bring_alike (Grant n d) GiftsFull h = refl
  bring_alike (Grant n d) _ h = absurd h
  bring_alike (Release n) Released h = refl
  bring_alike (Release n) _ h = absurd h
  bring_alike (Reclaim n) (Reclaimed v) h = refl
  bring_alike (Reclaim n) Shared h = refl
  bring_alike (Reclaim n) _ h = absurd h
  bring_alike Bye ByeDone h = refl
  bring_alike Bye _ h = absurd h

  bringing_one : (q : Request V O R T) (qs : List (Request V O R T)) → bringing (q ∷ qs) ≡ bringing (q ∷ []) + bringing qs
  bringing_one (Entrust v) qs = omega arith
  bringing_one (Reclaim n) qs = omega arith
  bringing_one (Apply n op) qs = omega arith
  bringing_one (Launch n task) qs = omega arith
  bringing_one (Grant n d) qs = omega arith
  bringing_one (Release n) qs = omega arith
  bringing_one Bye qs = omega arith

  all_bring : (qs : List (Request V O R T)) (answers : List (Answer V O R T)) → AllZip Fits qs answers → brings_in answers ≡ bringing qs
  all_bring [] [] h = refl
  all_bring [] (a ∷ answers) h = absurd h
  all_bring (q ∷ qs) [] h = absurd h
  all_bring (q ∷ qs) (a ∷ answers) h =
      let first = bring_alike q a h.0 in
      let more = all_bring qs answers h.1 in
      let split = bringing_one q qs in
      omega (arith, first, more, split)

  -- a ticket is the answer to a launch
  no_ticket : (qs : List (Request V O R T)) (answers : List (Answer V O R T)) (ticket k : ℕ) → AllZip Fits qs answers → launches_in qs ≡ 0
      → k < length answers → slice_index_or answers k (Launched ticket) ≡ Launched ticket → ⊥
  no_ticket [] [] ticket k h none lt at = absurd (omega (arith, lt))
  no_ticket [] (a ∷ answers) ticket k h none lt at = absurd h
  no_ticket (q ∷ qs) [] ticket k h none lt at = absurd h
  no_ticket (Launch n task ∷ qs) (a ∷ answers) ticket k h none lt at = absurd (omega (arith, none))
  no_ticket (Entrust v ∷ qs) (a ∷ answers) ticket zero h none lt at = absurd (subst (Fits (Entrust v)) at h.0)
  no_ticket (Entrust v ∷ qs) (a ∷ answers) ticket (suc k) h none lt at = no_ticket qs answers ticket k h.1 none (omega (arith, lt)) at
  no_ticket (Apply n op ∷ qs) (a ∷ answers) ticket zero h none lt at = absurd (subst (Fits (Apply n op)) at h.0)
  no_ticket (Apply n op ∷ qs) (a ∷ answers) ticket (suc k) h none lt at = no_ticket qs answers ticket k h.1 none (omega (arith, lt)) at
  no_ticket (Grant n d ∷ qs) (a ∷ answers) ticket zero h none lt at = absurd (subst (Fits (Grant n d)) at h.0)
  no_ticket (Grant n d ∷ qs) (a ∷ answers) ticket (suc k) h none lt at = no_ticket qs answers ticket k h.1 none (omega (arith, lt)) at
  no_ticket (Release n ∷ qs) (a ∷ answers) ticket zero h none lt at = absurd (subst (Fits (Release n)) at h.0)
  no_ticket (Release n ∷ qs) (a ∷ answers) ticket (suc k) h none lt at = no_ticket qs answers ticket k h.1 none (omega (arith, lt)) at
  no_ticket (Reclaim n ∷ qs) (a ∷ answers) ticket zero h none lt at = absurd (subst (Fits (Reclaim n)) at h.0)
  no_ticket (Reclaim n ∷ qs) (a ∷ answers) ticket (suc k) h none lt at = no_ticket qs answers ticket k h.1 none (omega (arith, lt)) at
  no_ticket (Bye ∷ qs) (a ∷ answers) ticket zero h none lt at = absurd (subst (Fits Bye) at h.0)
  no_ticket (Bye ∷ qs) (a ∷ answers) ticket (suc k) h none lt at = no_ticket qs answers ticket k h.1 none (omega (arith, lt)) at

  -- no work ends by a batch whose tickets were not given out
  none_ended : (xs : List (Completion V O R T)) (answers : List (Answer V O R T)) (qs : List (Request V O R T)) → AllZip Fits qs answers → launches_in qs ≡ 0
      → AllByRecursion (λ x. Contains answers (Launched x.ticket)) xs → xs ≡ []
  none_ended [] answers qs h none all = refl
  none_ended (x ∷ xs) answers qs h none all = absurd (let (k, lt, at) = all.0 in no_ticket qs answers x.ticket k h none lt at)

  module _ (kind : Kind V O R T) (opening : State V O R T) (old new : ClientView V O R T) (a : AnswerBatch V O R T)
      (was : IsGoodClient kind opening old) (good : IsGoodClient kind opening new) (gets : Gets a old new) where
    abbrev b : List (Request V O R T)
    b = out_requests old.out

    abbrev run : List (Request V O R T)
    run = ran old.place old.seen

    -- what is sent is what was run, and then the batch
    new_sent : new.sent ≡ run ++ b
    new_sent = gets.sent ∙ sent_is kind opening old was

    new_ran : ran new.place new.seen ≡ run ++ b
    new_ran = sym (sent_is kind opening new good ∙ ap (λ o. ran new.place new.seen ++ out_requests o) gets.out ∙ append-nil _) ∙ new_sent

    new_answers : answers_in new.got ≡ answers_in old.got ++ a.answers.items
    new_answers = ap answers_in gets.got ∙ answers_in-append old.got (a ∷ []) ∙ ap (λ l. answers_in old.got ++ l) (append-nil a.answers.items)

    fitting : AllZip Fits (run ++ b) (answers_in new.got)
    fitting = subst (λ l. AllZip Fits l (answers_in new.got)) new_ran (answers_fitting kind opening new good)

    batch_fits : AllZip Fits b a.answers.items
    batch_fits =
        zip_behind Fits run b (answers_in old.got) a.answers.items (answers_as_many kind opening old was)
        (subst (AllZip Fits (run ++ b)) new_answers fitting)

    none_ends : launches_in new.sent ≡ 0 → a.completions.items ≡ []
    none_ends none =
        let tickets =
        tickets_come_first kind opening new.seen new.place old.got [] a good.opens good.is_legal good.in_range (good.leaves ∙ gets.got) in
        none_ended a.completions.items (answers_in new.got) (run ++ b) fitting (ap launches_in (sym new_sent) ∙ none)
        (subst (λ l. AllByRecursion (λ x. Contains (answers_in l) (Launched x.ticket)) a.completions.items) (sym gets.got) tickets)

    came_more : (id : ℕ)
        → came opening new.place new.sent new.got id
        ≡ came opening old.place old.sent old.got id + (brought_by id b a.answers.items + gifts_of id a.gifts.items)
    came_more id =
        let many = answers_as_many kind opening old was in
        let now = brought_split id run b (answers_in old.got) a.answers.items many in
        let before = brought_split id run b (answers_in old.got) [] many in
        let none = no_more id b in
        let old_answers = append-nil (answers_in old.got) in
        let gifts = gifts_of-append id (gifts_in old.got) a.gifts.items in
        let new_gifts : gifts_in new.got ≡ gifts_in old.got ++ a.gifts.items =
        ap gifts_in gets.got ∙ gifts_in-append old.got (a ∷ []) ∙ ap (λ l. gifts_in old.got ++ l) (append-nil a.gifts.items) in
        let first = ap (λ l. brought_by id l (answers_in new.got)) new_sent ∙ ap (brought_by id (run ++ b)) new_answers in
        let was_sent = ap (λ l. brought_by id l (answers_in old.got)) (sent_is kind opening old was) in
        let was_answers = ap (brought_by id (run ++ b)) old_answers in
        let by_gifts = ap (gifts_of id) new_gifts in
        let place = ap (λ c. holds_at opening c id) gets.place in
        omega (arith, now, before, none, gifts, first, was_sent, was_answers, by_gifts, place)

    still_held : (waits : List (Request V O R T)) → AreHeld opening old waits → AreHeld opening new waits
    still_held waits held before after q id e names =
        let was = held before after q id e names in
        let more = came_more id in
        let given = ap (λ l. gave id (l ++ before)) gets.sent in
        omega (arith, was, more, given)

    pub brought_all : Brings opening (out_requests old.out) a old new
    brought_all = record { fits = batch_fits; held = still_held; ends = none_ends; bring = all_bring b a.answers.items batch_fits; came_to = came_more }

  pub collects_bring : (kind : Kind V O R T) → CollectsBring kind
  collects_bring kind opening old new a was good gets = brought_all kind opening old new a was good gets
