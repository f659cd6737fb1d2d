-- What launched work awaits, after entries without resumes, and after a run of it.
use Rattle.std.proofs.Common.{◌≡◌, ◌≢◌, ℕ, zero, suc, ◌+◌, ◌<◌, ◌≤◌, ◌⊎◌, cond, List, [], ◌∷◌, ◌++◌, length, map, drop, inl, inr, refl, sym, ◌∙◌, ap, subst, arith, eq-eqb, ne_eqb, append-nil, length-append, length-drop}
use Rattle.std.specs.Prelude.{nat_eq, ◌==◌, slice_index_or}
use Rattle.std.specs.List.{AllByRecursion, IsDistinct}
use Rattle.std.proofs.lemmas.Bool.{cases_eq, cases_lt, lt-ltb, le-ltb}
use Rattle.std.proofs.lemmas.List.{drop-append-le}
use Rattle.tm_seq.specs.Kind.{Kind}
use Rattle.tm_seq.specs.declared.kind.Event.{Event}
use Rattle.tm_seq.specs.declared.kind.Event.TheVariants.{Begin, Reply, NotAbove, NoObject}
use Rattle.tm_seq.specs.declared.kind.Next.{Next}
use Rattle.tm_seq.specs.declared.kind.Next.TheVariants.{Ask, Done}
use Rattle.tm_model.specs.declared.entry.Entry.{Entry}
use Rattle.tm_model.specs.declared.entry.Entry.TheVariants.{By, Resume, Sent}
use Rattle.tm_model.specs.State.{Start, AskOf, Work, Setup, State, ids_above, place_count}
use Rattle.tm_model.specs.Serve.{works_resumed, state_after}
use Rattle.tm_model.specs.Legal.{HasFirst, IsLegal}
use Rattle.tm_model.specs.Laws.{IsOpening}
use Rattle.tm_core.proofs.CallerLemmas.{all_weaker, all_both, all-append}
use Rattle.tm_core.proofs.Joins.{legal_logs_join, state-append}
use Rattle.tm_core.proofs.Ordered.{IsOrdered, opening_ordered, log_ordered}
use Rattle.tm_trustee.specs.NestedAsks.{NestedAsk, ToldReply, ask_of, asks_of, told_by, replies_of, pending_of, works_at, is_ask_of, IsAmong}
use Rattle.tm_trustee.specs.Awaiting.{IsAskAt, IsAskedBy, IsWaiting, AreAwaited}
use Rattle.tm_trustee.specs.Serving.{resumes_in}
use Rattle.tm_trustee.proofs.Among.{among_more, among_last, apart_tail, distinct_tail, distinct_more}
use Rattle.tm_trustee.proofs.Works.{Grew, quiet_grow, first_grew, grew_first, grew_behind}
use Rattle.tm_trustee.proofs.Runs.{IsRunOf, asks_of-append, replies_of-append, quiet_asks, quiet_replies, run_asks, run_replies, run_works}

drop_none : {X : Type 0} (n : ℕ) → drop {A = X} n [] ≡ []
drop_none zero = refl
drop_none (suc n) = refl

drop_twice : {X : Type 0} (m n : ℕ) (xs : List X) → drop (m + n) xs ≡ drop n (drop m xs)
drop_twice zero n xs = let e : 0 + n ≡ n = omega arith in ap (λ k. drop k xs) e
drop_twice (suc m) n [] = drop_none (suc m + n) ∙ sym (drop_none n)
drop_twice (suc m) n (x ∷ xs) = let e : suc m + n ≡ suc (m + n) = omega arith in ap (λ k. drop k (x ∷ xs)) e ∙ drop_twice m n xs

module _ {V O R T : Type 0} (kind : Kind V O R T) (opening : State V O R T) (opens : IsOpening opening) (log es : List (Entry V O R T))
    (legal : IsLegal kind opening (log ++ es)) where
  abbrev s : State V O R T
  s = state_after kind opening log

  abbrev s' : State V O R T
  s' = state_after kind opening (log ++ es)

  lands : s' ≡ state_after kind s es
  lands = state-append kind opening log es

  parts : IsLegal kind opening log × IsLegal kind s es
  parts = (legal_logs_join kind opening log es).0 legal

  ordered : IsOrdered (place_count opening.setup) s
  ordered = log_ordered kind (place_count opening.setup) opening log parts.0 (opening_ordered opening opens)

  module _ (none : resumes_in es ≡ 0) where
    pub quiet_all_asks : (u : ℕ) → asks_of opening.setup u (log ++ es) ≡ asks_of opening.setup u log
    quiet_all_asks u =
        asks_of-append opening.setup u log es ∙ ap (λ l. asks_of opening.setup u log ++ l) (quiet_asks opening.setup u es none)
        ∙ append-nil (asks_of opening.setup u log)

    pub quiet_all_replies : (u : ℕ) → replies_of kind opening u (log ++ es) ≡ replies_of kind opening u log
    quiet_all_replies u =
        replies_of-append kind opening u log es ∙ ap (λ l. replies_of kind opening u log ++ l) (quiet_replies kind s u es none)
        ∙ append-nil (replies_of kind opening u log)

    pub quiet_pending : (u : ℕ) → pending_of kind opening u (log ++ es) ≡ pending_of kind opening u log
    quiet_pending u =
        ap (λ l. drop (length (replies_of kind opening u (log ++ es))) l) (quiet_all_asks u)
        ∙ ap (λ l. drop (length l) (asks_of opening.setup u log)) (quiet_all_replies u)

    pub quiet_works : (id : ℕ) → Grew s.next_ticket (works_at s id) (works_at s' id)
    quiet_works id =
        subst (λ (x : State V O R T). Grew s.next_ticket (works_at s id) (works_at x id)) (sym lands)
        (quiet_grow kind (place_count opening.setup) s es id none parts.1 ordered)

    quiet_waiting : (id : ℕ) (w : Work T) → IsWaiting kind opening log id w → IsWaiting kind opening (log ++ es) id w
    quiet_waiting id w (u, lt, asks, by) = (u, lt, asks, subst (λ l. IsAskedBy id w l) (sym (quiet_pending u)) by)

    quiet_firsts :
        AreAwaited kind opening log → (id : ℕ) (w : Work T) (ws : List (Work T)) → works_at s' id ≡ w ∷ ws
        → (w.awaits ≡ Start) ⊎ IsWaiting kind opening (log ++ es) id w
    quiet_firsts are id w ws e =
        elim (grew_first s.next_ticket (works_at s id) (works_at s' id) w ws (quiet_works id) e) [
          | inl was ↦
              elim (are.firsts id w was.0 was.1) [
                | inl start ↦ inl start
                | inr waits ↦ inr (quiet_waiting id w waits)
              ]
          | inr new ↦ inl new.0
        ]

    pub quiet_awaited : AreAwaited kind opening log → AreAwaited kind opening (log ++ es)
    quiet_awaited are = record {
      firsts = quiet_firsts are;
      asked = λ u lt. subst (λ l. AllByRecursion (λ a. HasFirst (works_at s' a.by) (λ w. (w.ticket ≡ a.ticket) × IsAskAt opening.setup u w.awaits)) l) (sym (quiet_pending u))
          (all_weaker _ _ (pending_of kind opening u log)
          (λ a h. first_grew s.next_ticket (works_at s a.by) (works_at s' a.by) (λ w. (w.ticket ≡ a.ticket) × IsAskAt opening.setup u w.awaits) (quiet_works a.by) h)
          (are.asked u lt));
      behind = λ id w ws e. grew_behind s.next_ticket (works_at s id) (works_at s' id) w ws (quiet_works id) e (are.behind id);
      enough = λ u lt.
          let asks = ap (λ l. length l) (quiet_all_asks u) in
          let replies = ap (λ l. length l) (quiet_all_replies u) in
          let was = are.enough u lt in omega (arith, asks, replies, was);
      once = λ u lt. subst (λ l. IsDistinct nat_eq (map (λ a. a.by) l)) (sym (quiet_pending u)) (are.once u lt);
    }

    -- a launch that was accepted before and is first was first
    pub quiet_caught :
        ((id : ℕ) (w : Work T) (ws : List (Work T)) → works_at s id ≡ w ∷ ws → IsWaiting kind opening log id w)
        → (id : ℕ) (w : Work T) (ws : List (Work T)) → works_at s' id ≡ w ∷ ws → w.ticket < s.next_ticket → IsWaiting kind opening (log ++ es) id w
    quiet_caught all id w ws e lt =
        elim (grew_first s.next_ticket (works_at s id) (works_at s' id) w ws (quiet_works id) e) [
          | inl was ↦ quiet_waiting id w (all id w was.0 was.1)
          | inr new ↦ absurd (let le = new.1 in omega (arith, le, lt))
        ]

-- what a run stops at
abbrev pub IsStop : {O R T : Type 0} → Setup → Next O T R → Type 0
IsStop setup (Done r) = Unit {0}
IsStop setup (Ask u x op task) = (setup.number < u) × (x < length (ids_above setup u))

module _ {O T : Type 0} where
  pub asks_itself :
      (R : Type 0) (setup : Setup) (u by ticket x : ℕ) (op : O) (task : T) → x < length (ids_above setup u)
      → ask_of {O = O} {R = R} {T = T} setup u by ticket (Ask u x op task) ≡ record { by = by; ticket = ticket; id = slice_index_or (ids_above setup u) x 0; op = op } ∷ []
  asks_itself R setup u by ticket x op task lt = rw (eq-eqb u u refl, lt-ltb x (length (ids_above setup u)) lt) refl

module _ {O R T : Type 0} where
  -- what a stop asks of trustee u: one object that is held there, or nothing
  pub asks_once :
      (setup : Setup) (u by ticket : ℕ) (last : Next O T R)
      → (ask_of setup u by ticket last ≡ [])
      ⊎ ((x : ℕ) × (op : O) × (task : T) × (last ≡ Ask u x op task) × (x < length (ids_above setup u))
      × (ask_of setup u by ticket last ≡ record { by = by; ticket = ticket; id = slice_index_or (ids_above setup u) x 0; op = op } ∷ []))
  asks_once setup u by ticket (Done r) = inl refl
  asks_once setup u by ticket (Ask v x op task) =
      elim (cases_eq v u) [
        | inl e ↦
            elim (cases_lt x (length (ids_above setup u))) [
              | inl lt ↦ inr (x, op, task, ap (λ m. Ask m x op task) e, lt, rw (eq-eqb v u e, lt-ltb x (length (ids_above setup u)) lt) refl)
              | inr le ↦ inl (rw (eq-eqb v u e, le-ltb x (length (ids_above setup u)) le) refl)
            ]
        | inr ne ↦ inl (rw (ne_eqb v u ne) refl)
      ]

  -- what the first launch of an object may be told: that it begins, or the reply to its ask, which is the first that is pending
  abbrev pub IsToldRightly : Setup → Event R → ℕ → Work T → (ℕ → List (NestedAsk O)) → Type 0
  IsToldRightly setup event id w pending =
      ((event ≡ Begin) × (w.awaits ≡ Start))
      ⊎ ((r : R) × (u : ℕ) × (i : ℕ) × (event ≡ Reply r) × (w.awaits ≡ AskOf u i) × (setup.number < u)
      × ((a : NestedAsk O) × (rest : List (NestedAsk O)) × (pending u ≡ a ∷ rest) × (a.by ≡ id)))

module _ {R T : Type 0} where
  pub begin_tells : (u : ℕ) (ws : List (Work T)) (ticket : ℕ) (event : Event R) → event ≡ Begin → told_by u ws ticket event ≡ []
  begin_tells u ws ticket event e = ap (told_by u ws ticket) e

  pub reply_tells :
      (u v i : ℕ) (w : Work T) (ws : List (Work T)) (ticket : ℕ) (event : Event R) (r : R) → event ≡ Reply r → w.awaits ≡ AskOf v i
      → told_by u (w ∷ ws) ticket event ≡ cond (v == u) (record { ticket = ticket; reply = r } ∷ []) []
  reply_tells u v i w ws ticket event r e awaits =
      ap (told_by u (w ∷ ws) ticket) e ∙ ap (λ x. cond (is_ask_of u x) (record { ticket = ticket; reply = r } ∷ []) []) awaits

module _ {V O R T : Type 0} where
  pub run_stops : (setup : Setup) (id ticket : ℕ) (event : Event R) (es : List (Entry V O R T)) (last : Next O T R) → IsRunOf setup id ticket event es last → IsStop setup last
  run_stops setup id ticket event [] last run = absurd run
  run_stops setup id ticket event (By c k q a ∷ es) last run = absurd run
  run_stops setup id ticket event (Sent c room ∷ es) last run = absurd run
  run_stops setup id ticket event (Resume i t e (Done r) ∷ es) last run = subst (IsStop setup) (sym run.4) tt
  run_stops setup id ticket event (Resume i t e (Ask u x op task) ∷ es) last run =
      elim run.3 [
        | inl stops ↦ subst (IsStop setup) (sym stops.1) (stops.2, stops.3)
        | inr goes ↦
            elim goes [
              | inl below ↦ run_stops setup id ticket NotAbove es last below.1
              | inr none ↦ run_stops setup id ticket NoObject es last none.2
            ]
      ]

  module _ (kind : Kind V O R T) (opening : State V O R T) (opens : IsOpening opening) (log es : List (Entry V O R T))
      (legal : IsLegal kind opening (log ++ es)) (id ticket : ℕ) (event : Event R) (last : Next O T R)
      (run : IsRunOf opening.setup id ticket event es last) (w : Work T) (ws : List (Work T))
      (here : works_at (state_after kind opening log) id ≡ w ∷ ws) (mine : w.ticket ≡ ticket)
      (rightly : IsToldRightly opening.setup event id w (λ u. pending_of kind opening u log)) (are : AreAwaited kind opening log) where
    abbrev t : State V O R T
    t = state_after kind opening log

    abbrev t' : State V O R T
    t' = state_after kind opening (log ++ es)

    abbrev asked_last : ℕ → List (NestedAsk O)
    asked_last u = ask_of opening.setup u id ticket last

    pub run_lands : (works_at t' id ≡ works_resumed (w ∷ ws) last) × ((d : ℕ) → d ≢ id → works_at t' d ≡ works_at t d)
    run_lands =
        let lands = state-append kind opening log es in
        let parts = (legal_logs_join kind opening log es).0 legal in
        let ordered = log_ordered kind (place_count opening.setup) opening log parts.0 (opening_ordered opening opens) in
        let (own, others) = run_works kind (place_count opening.setup) t opening.setup id ticket event es last parts.1 ordered run in (
          ap (λ (x : State V O R T). works_at x id) lands ∙ own ∙ ap (λ l. works_resumed l last) here,
          λ d ne. ap (λ (x : State V O R T). works_at x d) lands ∙ others d ne,
        )

    pub run_all_asks : (u : ℕ) → opening.setup.number < u → asks_of opening.setup u (log ++ es) ≡ asks_of opening.setup u log ++ asked_last u
    run_all_asks u lt =
        asks_of-append opening.setup u log es
        ∙ ap (λ l. asks_of opening.setup u log ++ l) (run_asks opening.setup u id ticket event es last lt run)

    pub run_all_replies : (u : ℕ) → replies_of kind opening u (log ++ es) ≡ replies_of kind opening u log ++ told_by u (w ∷ ws) ticket event
    run_all_replies u =
        replies_of-append kind opening u log es
        ∙ ap (λ l. replies_of kind opening u log ++ l)
        (run_replies kind t opening.setup u id ticket event es last run ∙ ap (λ l. told_by u l ticket event) here)

    -- the asks that are pending then, where so many replies were told
    run_pending :
        (u k : ℕ) → opening.setup.number < u → length (told_by u (w ∷ ws) ticket event) ≡ k
        → length (replies_of kind opening u log) + k ≤ length (asks_of opening.setup u log)
        → pending_of kind opening u (log ++ es) ≡ drop k (pending_of kind opening u log) ++ asked_last u
    run_pending u k lt told most =
        let n = length (replies_of kind opening u log) in
        let asks = asks_of opening.setup u log in
        let count : length (replies_of kind opening u (log ++ es)) ≡ n + k =
        ap (λ l. length l) (run_all_replies u) ∙ length-append (replies_of kind opening u log) (told_by u (w ∷ ws) ticket event) ∙ ap (λ m. n + m) told in
        ap (λ m. drop m (asks_of opening.setup u (log ++ es))) count ∙ ap (drop (n + k)) (run_all_asks u lt)
        ∙ drop-append-le (n + k) asks (asked_last u) most ∙ ap (λ l. l ++ asked_last u) (drop_twice n k asks)

    -- of the asks that were pending those that are so still, all of other objects
    pub record IsRest (u : ℕ) (rest : List (NestedAsk O)) : Type 0 where
      pub gone : List (NestedAsk O)
      pub split : pending_of kind opening u log ≡ gone ++ rest
      pub tickets : map (λ a. a.ticket) gone ≡ map (λ t. t.ticket) (told_by u (w ∷ ws) ticket event)
      pub pending : pending_of kind opening u (log ++ es) ≡ rest ++ asked_last u
      pub others : AllByRecursion (λ a. a.by ≢ id) rest
      pub keeps : (a : NestedAsk O) → IsAmong a (pending_of kind opening u log) → a.by ≢ id → IsAmong a rest
      pub asked : AllByRecursion (λ a. HasFirst (works_at t a.by) (λ v. (v.ticket ≡ a.ticket) × IsAskAt opening.setup u v.awaits)) rest
      pub once : IsDistinct nat_eq (map (λ a. a.by) rest)
      pub enough : length (replies_of kind opening u (log ++ es)) ≤ length (asks_of opening.setup u (log ++ es))

    more_asks : (u k : ℕ) → opening.setup.number < u → length (told_by u (w ∷ ws) ticket event) ≡ k
        → length (replies_of kind opening u log) + k ≤ length (asks_of opening.setup u log)
        → length (replies_of kind opening u (log ++ es)) ≤ length (asks_of opening.setup u (log ++ es))
    more_asks u k lt told most =
        let replies : length (replies_of kind opening u (log ++ es)) ≡ length (replies_of kind opening u log) + length (told_by u (w ∷ ws) ticket event) =
        ap (λ l. length l) (run_all_replies u) ∙ length-append (replies_of kind opening u log) (told_by u (w ∷ ws) ticket event) in
        let asks : length (asks_of opening.setup u (log ++ es)) ≡ length (asks_of opening.setup u log) + length (asked_last u) =
        ap (λ l. length l) (run_all_asks u lt) ∙ length-append (asks_of opening.setup u log) (asked_last u) in
        omega (arith, replies, asks, told, most)

    -- a pending ask of an object whose first launch awaits something else is of another object
    not_mine :
        (u : ℕ) → (IsAskAt opening.setup u w.awaits → ⊥)
        → AllByRecursion (λ a. HasFirst (works_at t a.by) (λ v. (v.ticket ≡ a.ticket) × IsAskAt opening.setup u v.awaits)) (pending_of kind opening u log)
        → AllByRecursion (λ a. a.by ≢ id) (pending_of kind opening u log)
    not_mine u never all =
        all_weaker _ _ (pending_of kind opening u log)
        (λ a first is.
        never (subst (λ l. HasFirst l (λ v. (v.ticket ≡ a.ticket) × IsAskAt opening.setup u v.awaits)) (ap (works_at t) is ∙ here) first).1)
        all

    -- where no reply of trustee u was told
    rest_none :
        (u : ℕ) → opening.setup.number < u → told_by u (w ∷ ws) ticket event ≡ [] → (IsAskAt opening.setup u w.awaits → ⊥)
        → IsRest u (pending_of kind opening u log)
    rest_none u lt nothing never =
        let told : length (told_by u (w ∷ ws) ticket event) ≡ 0 = ap (λ l. length l) nothing in
        let was = are.enough u lt in
        record {
          gone = [];
          split = refl;
          tickets = sym (ap (map (λ t. t.ticket)) nothing);
          pending = run_pending u 0 lt told (omega (arith, was));
          others = not_mine u never (are.asked u lt);
          keeps = λ a among ne. among;
          asked = are.asked u lt;
          once = are.once u lt;
          enough = more_asks u 0 lt told (omega (arith, was));
        }

    kept_among : (a : NestedAsk O) (rest xs : List (NestedAsk O)) (b : NestedAsk O) → xs ≡ a ∷ rest → a.by ≡ id → IsAmong b xs → b.by ≢ id → IsAmong b rest
    kept_among a rest xs b e by among ne =
        elim (subst (IsAmong b) e among) [
          | inl same ↦ absurd (ne (ap (λ x. x.by) (sym same) ∙ by))
          | inr later ↦ later
        ]

    -- where the reply to the first ask that is pending at trustee u was told
    rest_told :
        (u : ℕ) (a : NestedAsk O) (rest : List (NestedAsk O)) (r : R) → opening.setup.number < u
        → told_by u (w ∷ ws) ticket event ≡ record { ticket = ticket; reply = r } ∷ []
        → pending_of kind opening u log ≡ a ∷ rest → a.by ≡ id → IsRest u rest
    rest_told u a rest r lt tells e by =
        let told : length (told_by u (w ∷ ws) ticket event) ≡ 1 = ap (λ (l : List (ToldReply R)). length l) tells in
        let all_first = subst (λ l. AllByRecursion (λ b. HasFirst (works_at t b.by) (λ v. (v.ticket ≡ b.ticket) × IsAskAt opening.setup u v.awaits)) l) e (are.asked u lt) in
        let own = subst (λ l. HasFirst l (λ v. (v.ticket ≡ a.ticket) × IsAskAt opening.setup u v.awaits)) (ap (works_at t) by ∙ here) all_first.0 in
        let n = length (replies_of kind opening u log) in
        let asks = asks_of opening.setup u log in
        let some : length (drop n asks) ≡ length (a ∷ rest) = ap (λ l. length l) e in
        let size = length-drop n asks in
        let once = subst (λ l. IsDistinct nat_eq (map (λ x. x.by) l)) e (are.once u lt) in
        let most : n + 1 ≤ length asks = omega (arith, some, size) in
        record {
          gone = a ∷ [];
          split = e;
          tickets = ap (λ n. n ∷ []) (sym own.0 ∙ mine) ∙ sym (ap (map (λ t. t.ticket)) tells);
          pending = run_pending u 1 lt told most ∙ ap (λ l. drop 1 l ++ asked_last u) e;
          others = all_weaker _ _ rest (λ b ne is. ne (is ∙ sym by)) (apart_tail (λ x. x.by) a rest once);
          keeps = λ b among ne. kept_among a rest (pending_of kind opening u log) b e by among ne;
          asked = all_first.1;
          once = distinct_tail (λ x. x.by) a rest once;
          enough = more_asks u 1 lt told most;
        }

    pub rest_of : (u : ℕ) → opening.setup.number < u → (rest : List (NestedAsk O)) × IsRest u rest
    rest_of u lt =
        elim rightly [
          | inl begins ↦
              (pending_of kind opening u log, rest_none u lt (begin_tells u (w ∷ ws) ticket event begins.0) (λ asks. subst (IsAskAt opening.setup u) begins.1 asks))
          | inr told ↦
              let (r, v, i, is, awaits, above, first) = told in
              let tells = reply_tells u v i w ws ticket event r is awaits in
              elim (cases_eq v u) [
                | inl e ↦
                    let (a, rest, pending, by) = first in
                    let one : told_by u (w ∷ ws) ticket event ≡ record { ticket = ticket; reply = r } ∷ [] =
                    tells ∙ ap (λ b. cond b (record { ticket = ticket; reply = r } ∷ []) []) (eq-eqb v u e) in
                    (rest, rest_told u a rest r lt one (subst (λ m. pending_of kind opening m log ≡ a ∷ rest) e pending) by)
                | inr ne ↦
                    let none : told_by u (w ∷ ws) ticket event ≡ [] =
                    tells ∙ ap (λ b. cond b (record { ticket = ticket; reply = r } ∷ []) []) (ne_eqb v u ne) in
                    (pending_of kind opening u log, rest_none u lt none (λ asks. ne (subst (IsAskAt opening.setup u) awaits asks).0))
              ]
        ]

    pub run_enough : (u : ℕ) → opening.setup.number < u → length (replies_of kind opening u (log ++ es)) ≤ length (asks_of opening.setup u (log ++ es))
    run_enough u lt = (rest_of u lt).1.enough

    -- the first launch of its object is another, or the same with another task
    own_first :
        (x : Work T) (xs : List (Work T)) (stop : Next O T R) → stop ≡ last → works_resumed (w ∷ ws) stop ≡ x ∷ xs → IsStop opening.setup stop
        → ((x.awaits ≡ Start) ⊎ IsWaiting kind opening (log ++ es) id x) × AllByRecursion (λ y. y.awaits ≡ Start) xs
    own_first x xs (Done r) e is stop =
        let all = subst (λ l. AllByRecursion (λ y. y.awaits ≡ Start) l) is (are.behind id w ws here) in (inl all.0, all.1)
    own_first x xs (Ask u i op task) e is stop =
        let first : record w { task = task; awaits = AskOf u i } ≡ x = cc in
        let rest : ws ≡ xs = cc in
        let (before, at) = rest_of u stop.0 in
        let new : NestedAsk O = record { by = id; ticket = ticket; id = slice_index_or (ids_above opening.setup u) i 0; op = op } in
        let last_is : asked_last u ≡ new ∷ [] = ap (ask_of opening.setup u id ticket) (sym e) ∙ asks_itself R opening.setup u id ticket i op task stop.1 in
        let among : IsAmong new (pending_of kind opening u (log ++ es)) =
        subst (IsAmong new) (sym (at.pending ∙ ap (λ l. before ++ l) last_is)) (among_last new before) in (
          inr (
              subst (λ y. IsWaiting kind opening (log ++ es) id y) first (u, stop.0, (refl, stop.1), (new, among, refl, sym mine))
              ),
          subst (λ l. AllByRecursion (λ y. y.awaits ≡ Start) l) rest (are.behind id w ws here),
        )

    other_waiting : (d : ℕ) (x : Work T) → d ≢ id → IsWaiting kind opening log d x → IsWaiting kind opening (log ++ es) d x
    other_waiting d x ne (u, lt, asks, (a, among, by, ticket_is)) =
        let (rest, at) = rest_of u lt in
        let still = at.keeps a among (λ e. ne (sym by ∙ e)) in
        (u, lt, asks, (a, subst (IsAmong a) (sym at.pending) (among_more a rest (asked_last u) still), by, ticket_is))

    run_firsts :
        (d : ℕ) (x : Work T) (xs : List (Work T)) → works_at t' d ≡ x ∷ xs
        → ((x.awaits ≡ Start) ⊎ IsWaiting kind opening (log ++ es) d x) × AllByRecursion (λ y. y.awaits ≡ Start) xs
    run_firsts d x xs e =
        elim (cases_eq d id) [
          | inl same ↦
              let own : works_resumed (w ∷ ws) last ≡ x ∷ xs = sym run_lands.0 ∙ ap (works_at t') (sym same) ∙ e in
              subst (λ m. ((x.awaits ≡ Start) ⊎ IsWaiting kind opening (log ++ es) m x) × AllByRecursion (λ y. y.awaits ≡ Start) xs) (sym same)
              (own_first x xs last refl own (run_stops opening.setup id ticket event es last run))
          | inr ne ↦
              let was : works_at t d ≡ x ∷ xs = sym (run_lands.1 d ne) ∙ e in
              let first : (x.awaits ≡ Start) ⊎ IsWaiting kind opening (log ++ es) d x = elim (are.firsts d x xs was) [
                | inl start ↦ inl start
                | inr waits ↦ inr (other_waiting d x ne waits)
              ] in
              (first, are.behind d x xs was)
        ]

    abbrev IsAskFirst : ℕ → NestedAsk O → Type 0
    IsAskFirst u a = HasFirst (works_at t' a.by) (λ v. (v.ticket ≡ a.ticket) × IsAskAt opening.setup u v.awaits)

    new_asked : (u : ℕ) → AllByRecursion (IsAskFirst u) (asked_last u)
    new_asked u =
        elim (asks_once opening.setup u id ticket last) [
          | inl none ↦ subst (λ l. AllByRecursion (IsAskFirst u) l) (sym none) tt
          | inr one ↦
              let (x, op, task, is, lt, e) = one in
              let first : works_at t' id ≡ record w { task = task; awaits = AskOf u x } ∷ ws = run_lands.0 ∙ ap (works_resumed (w ∷ ws)) is in
              subst (λ l. AllByRecursion (IsAskFirst u) l) (sym e)
              (subst (λ l. HasFirst l (λ v. (v.ticket ≡ ticket) × IsAskAt opening.setup u v.awaits)) (sym first) (mine, (refl, lt)), tt)
        ]

    new_once : (u : ℕ) (rest : List (NestedAsk O)) → AllByRecursion (λ a. a.by ≢ id) rest → IsDistinct nat_eq (map (λ a. a.by) rest) → IsDistinct nat_eq (map (λ a. a.by) (rest ++ asked_last u))
    new_once u rest others once =
        elim (asks_once opening.setup u id ticket last) [
          | inl none ↦ subst (λ l. IsDistinct nat_eq (map (λ a. a.by) l)) (sym (ap (λ l. rest ++ l) none ∙ append-nil rest)) once
          | inr one ↦
              let (x, op, task, is, lt, e) = one in
              subst (λ l. IsDistinct nat_eq (map (λ a. a.by) (rest ++ l))) (sym e)
              (distinct_more (λ a. a.by) rest (record { by = id; ticket = ticket; id = slice_index_or (ids_above opening.setup u) x 0; op = op }) once others)
        ]

    old_asked : (u : ℕ) (rest : List (NestedAsk O)) → IsRest u rest → AllByRecursion (IsAskFirst u) rest
    old_asked u rest at =
        all_weaker _ (IsAskFirst u) rest
        (λ a h. subst (λ l. HasFirst l (λ v. (v.ticket ≡ a.ticket) × IsAskAt opening.setup u v.awaits)) (sym (run_lands.1 a.by h.1)) h.0)
        (all_both _ _ rest at.asked at.others)

    pub run_awaited : AreAwaited kind opening (log ++ es)
    run_awaited = record {
      firsts = λ d x xs e. (run_firsts d x xs e).0;
      asked = λ u lt.
          let (rest, at) = rest_of u lt in
          subst (λ l. AllByRecursion (IsAskFirst u) l) (sym at.pending) (all-append (IsAskFirst u) rest (asked_last u) (old_asked u rest at) (new_asked u));
      behind = λ d x xs e. (run_firsts d x xs e).1;
      enough = run_enough;
      once = λ u lt.
          let (rest, at) = rest_of u lt in
          subst (λ l. IsDistinct nat_eq (map (λ a. a.by) l)) (sym at.pending) (new_once u rest at.others at.once);
    }
