-- By what the log of a trustee grew between two states at which no request of the only client counts.
use Rattle.std.proofs.Common.{◌≡◌, ℕ, ◌+◌, ◌<◌, Bool, true, false, cond, List, [], ◌∷◌, ◌++◌, length, refl, sym, ◌∙◌, ap, arith, append-nil, length-append}
use Rattle.std.specs.Prelude.{◌==◌}
use Rattle.std.proofs.lemmas.List.{append_cancel_left}
use Rattle.tm_seq.specs.Kind.{Kind}
use Rattle.tm_batch.specs.declared.message.Request.{Request}
use Rattle.tm_batch.specs.declared.message.Request.TheVariants.{Entrust, Apply, Launch, Grant, Release, Reclaim, Bye}
use Rattle.tm_batch.specs.declared.message.Answer.{Answer}
use Rattle.tm_batch.specs.declared.message.Answer.TheVariants.{Replied}
use Rattle.tm_model.specs.declared.entry.Entry.{Entry}
use Rattle.tm_model.specs.declared.entry.Entry.TheVariants.{By, Resume, Sent}
use Rattle.tm_model.specs.State.{Work, Setup, Object, State, object_of}
use Rattle.tm_model.specs.Opening.{opened, placed_on}
use Rattle.tm_batch.specs.declared.config.First.{First}
use Rattle.std.specs.declared.option.Option.{Option}
use Rattle.std.specs.declared.option.Option.TheVariants.{None, Some}
use Rattle.tm_model.specs.Serve.{works_in, after}
use Rattle.tm_model.specs.Legal.{IsLegal}
use Rattle.tm_model.specs.Laws.{IsOpening}
use Rattle.tm_model.specs.Latched.{tickets_of}
use Rattle.tm_model.specs.Ran.{mark_of, ran, answered}
use Rattle.tm_model.specs.Holds.{launches_in}
use Rattle.tm_core.proofs.AllAnswers.{as_many}
use Rattle.tm_core.proofs.Histories.{opened_idle}
use Rattle.tm_core.proofs.Longer.{answered-append}
use Rattle.tm_core.proofs.Marks.{ran-append}
use Rattle.tm_core.proofs.Ordered.{IsOrdered, after_ordered}
use Rattle.tm_laws.specs.Objects.{runs_for}
use Rattle.tm_trustee.specs.NestedAsks.{NestedAsk, ToldReply, works_at, asks_of}
use Rattle.tm_trustee.proofs.Works.{works_lived, works_after}
use Rattle.tm_course.specs.Courses.{NoneWorks}
use Rattle.tm_course.proofs.Idle.{none_resumed, ran_own}
use Rattle.tm_rest.specs.Resting.{asks_told}

nothing_of : {X : Type 0} (xs : List X) → length xs ≡ 0 → xs ≡ []
nothing_of [] e = refl
nothing_of (x ∷ xs) e = absurd (omega (arith, e))

cond_append : {X : Type 0} (t : Bool) (x : X) (xs ys : List X) → cond t (x ∷ (xs ++ ys)) (xs ++ ys) ≡ cond t (x ∷ xs) xs ++ ys
cond_append true x xs ys = refl
cond_append false x xs ys = refl

idle_of : {V T : Type 0} (places : ℕ) (first : List (First V)) (id : ℕ) (x : Option (Object V T)) → object_of (opened places 1 first) id ≡ x → works_in x ≡ []
idle_of places first id None e = refl
idle_of places first id (Some o) e = opened_idle places 1 id first o e

-- ---- the client's place

module _ {V O R T : Type 0} where
  -- Where all that a place sent was run, before and now, and it has seen it all, its requests behind the earlier log are those that it sent since, with
  -- the answers that it saw.
  pub place_grew :
      (c : ℕ) (log es seen grown tail before : List (Entry V O R T)) (sent requests : List (Request V O R T))
      → ran c log ≡ sent → log ≡ seen ++ before → sent ≡ ran c seen → ran c (log ++ es) ≡ sent ++ requests → log ++ es ≡ (seen ++ grown) ++ tail
      → sent ++ requests ≡ ran c (seen ++ grown)
      → (ran c es ≡ requests) × (answered c es ≡ answered c grown)
  place_grew c log es seen grown tail before sent requests ran_before old settled ran_now new settled_now =
      let here : ran c es ≡ requests =
      append_cancel_left (ran c log) (ran c es) requests (sym (ran-append mark_of c log es) ∙ ran_now ∙ ap (λ l. l ++ requests) (sym ran_before)) in
      let none_before : answered c before ≡ [] = nothing_of (answered c before)
      (let joined = ap length (ap (ran c) old ∙ ran-append mark_of c seen before) ∙ length-append (ran c seen) (ran c before) in
      let one = ap length (ran_before ∙ settled) in
      let both = as_many c before in omega (arith, joined, one, both)) in
      let none_behind : answered c tail ≡ [] = nothing_of (answered c tail)
      (let joined = ap length (ap (ran c) new ∙ ran-append mark_of c (seen ++ grown) tail) ∙ length-append (ran c (seen ++ grown)) (ran c tail) in
      let one = ap length (ran_now ∙ settled_now) in
      let both = as_many c tail in omega (arith, joined, one, both)) in
      let whole : answered c log ++ answered c es ≡ (answered c seen ++ answered c grown) ++ [] =
      sym (answered-append c log es) ∙ ap (answered c) new ∙ answered-append c (seen ++ grown) tail ∙ ap (λ l. answered c (seen ++ grown) ++ l) none_behind
      ∙ ap (λ l. l ++ []) (answered-append c seen grown) in
      let seen_all : answered c log ≡ answered c seen = ap (answered c) old ∙ answered-append c seen before ∙ ap (λ l. answered c seen ++ l) none_before ∙ append-nil (answered c seen) in (
        here,
        append_cancel_left (answered c log) (answered c es) (answered c grown) (whole ∙ append-nil (answered c seen ++ answered c grown) ∙ ap (λ l. l ++ answered c grown) (sym seen_all)),
      )

  -- ---- a lower trustee's place

  pub runs_for-append : (c : ℕ) (xs ys : List (Entry V O R T)) → runs_for c (xs ++ ys) ≡ runs_for c xs ++ runs_for c ys
  runs_for-append c [] ys = refl
  runs_for-append c (By d k (Apply n op) (Replied r) ∷ xs) ys =
      ap (λ l. cond (d == c) (record { id = n.id; op = op; reply = r } ∷ l) l) (runs_for-append c xs ys)
      ∙ cond_append (d == c) (record { id = n.id; op = op; reply = r }) (runs_for c xs) (runs_for c ys)
  runs_for-append c (_ ∷ xs) ys = runs_for-append c xs ys

module _ {O R : Type 0} where
  pub told-append : (asks more : List (NestedAsk O)) (told others : List (ToldReply R)) → length told ≡ length asks
      → asks_told (asks ++ more) (told ++ others) ≡ asks_told asks told ++ asks_told more others
  told-append [] more [] others e = refl
  told-append [] more (t ∷ told) others e = absurd (omega (arith, e))
  told-append (a ∷ asks) more [] others e = absurd (omega (arith, e))
  told-append (a ∷ asks) more (t ∷ told) others e = ap (λ l. record { id = a.id; op = a.op; reply = t.reply } ∷ l) (told-append asks more told others (omega (arith, e)))

module _ {V O R T : Type 0} where
  -- what a trustee ran of a lower one behind the earlier log is what was asked and told since
  pub nested_grew :
      (c : ℕ) (log es : List (Entry V O R T)) (asks more : List (NestedAsk O)) (told others : List (ToldReply R)) → length told ≡ length asks
      → runs_for c log ≡ asks_told asks told → runs_for c (log ++ es) ≡ asks_told (asks ++ more) (told ++ others) → runs_for c es ≡ asks_told more others
  nested_grew c log es asks more told others many before now =
      append_cancel_left (runs_for c log) (runs_for c es) (asks_told more others)
      (sym (runs_for-append c log es) ∙ now ∙ told-append asks more told others many ∙ ap (λ l. l ++ asks_told more others) (sym before))

  -- ---- a trustee that nobody launches at

  later : (q : Request V O R T) (qs : List (Request V O R T)) → launches_in (q ∷ qs) ≡ 0 → launches_in qs ≡ 0
  later (Launch n task) qs e = absurd (omega (arith, e))
  later (Entrust v) qs e = e
  later (Apply n op) qs e = e
  later (Grant n d) qs e = e
  later (Release n) qs e = e
  later (Reclaim n) qs e = e
  later Bye qs e = e

  not_launch : (n : _) (task : T) (qs : List (Request V O R T)) → launches_in (Launch n task ∷ qs) ≡ 0 → ⊥
  not_launch n task qs e = omega (arith, e)

  unlaunched_later : (c d k : ℕ) (q : Request V O R T) (a : Answer V O R T) (es : List (Entry V O R T)) → launches_in (ran c (By d k q a ∷ es)) ≡ 0 → launches_in (ran c es) ≡ 0
  unlaunched_later c d k q a es none =
      (elim (d == c) as (λ t. launches_in (cond t (q ∷ ran c es) (ran c es)) ≡ 0 → launches_in (ran c es) ≡ 0) [ true ↦ λ e. later q (ran c es) e | false ↦ λ e. e ]) none

  module _ (kind : Kind V O R T) (n : ℕ) (setup : Setup) where
    -- no launch was accepted by some entries, and no work asked anything
    pub record AskNothing (es : List (Entry V O R T)) : Type 0 where
      pub tickets : (id : ℕ) → tickets_of id es ≡ []
      pub asks : (u : ℕ) → asks_of setup u es ≡ []

    same_works : (id : ℕ) (ws : List (Work T)) (d k : ℕ) (q : Request V O R T) (a : Answer V O R T) (qs : List (Request V O R T)) → launches_in (q ∷ qs) ≡ 0
        → works_lived {V = V} {O = O} {R = R} id ws (By d k q a) ≡ ws
    same_works id ws d k (Launch m task) a qs none = absurd (not_launch m task qs none)
    same_works id ws d k (Entrust v) a qs none = refl
    same_works id ws d k (Apply m op) a qs none = refl
    same_works id ws d k (Grant m e) a qs none = refl
    same_works id ws d k (Release m) a qs none = refl
    same_works id ws d k (Reclaim m) a qs none = refl
    same_works id ws d k Bye a qs none = refl

    same_tickets : (id d k : ℕ) (q : Request V O R T) (a : Answer V O R T) (es : List (Entry V O R T)) (qs : List (Request V O R T)) → launches_in (q ∷ qs) ≡ 0
        → tickets_of id (By d k q a ∷ es) ≡ tickets_of id es
    same_tickets id d k (Launch m task) a es qs none = absurd (not_launch m task qs none)
    same_tickets id d k (Entrust v) a es qs none = refl
    same_tickets id d k (Apply m op) a es qs none = refl
    same_tickets id d k (Grant m e) a es qs none = refl
    same_tickets id d k (Release m) a es qs none = refl
    same_tickets id d k (Reclaim m) a es qs none = refl
    same_tickets id d k Bye a es qs none = refl

    pub asks_nothing : (s : State V O R T) (es : List (Entry V O R T)) → IsLegal kind s es → IsOrdered n s → NoneWorks s
        → ((c : ℕ) → c < n → launches_in (ran c es) ≡ 0) → AskNothing es
    asks_nothing s [] legal ordered none unlaunched = record { tickets = λ id. refl; asks = λ u. refl }
    asks_nothing s (Resume id ticket event next ∷ es) legal ordered none unlaunched = absurd (none_resumed kind n s id ticket event next legal.0 (none id))
    asks_nothing s (Sent c room ∷ es) legal ordered none unlaunched =
        let more = asks_nothing (after kind s (Sent c room)) es legal.1 (after_ordered kind n s (Sent c room) legal.0 ordered)
        (λ id. works_after kind n s (Sent c room) id legal.0 ordered ∙ none id) unlaunched in
        record { tickets = more.tickets; asks = more.asks }
    asks_nothing s (By c k q a ∷ es) legal ordered none unlaunched =
        let below = legal.0.0 in
        let count = ordered.count in
        let own : launches_in (q ∷ ran c es) ≡ 0 = ap launches_in (sym (ran_own c k q a es)) ∙ unlaunched c (omega (arith, below, count)) in
        let more = asks_nothing (after kind s (By c k q a)) es legal.1 (after_ordered kind n s (By c k q a) legal.0 ordered)
        (λ id. works_after kind n s (By c k q a) id legal.0 ordered ∙ same_works id (works_at s id) c k q a (ran c es) own ∙ none id)
        (λ d lt. unlaunched_later d c k q a es (unlaunched d lt)) in
        record { tickets = λ id. same_tickets id c k q a es (ran c es) own ∙ more.tickets id; asks = more.asks }

  -- no launch is unfinished where a trustee opens
  pub opens_idle : (opening : State V O R T) → IsOpening opening → NoneWorks opening
  opens_idle opening (number, config, first, can, below, is) id =
      rw is (idle_of (config.clients + number) (placed_on number first) id (object_of (opened (config.clients + number) 1 (placed_on number first)) id) refl)
