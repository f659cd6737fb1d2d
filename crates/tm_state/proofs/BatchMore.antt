-- A batch that is run request by request: each may be asked behind the entries of those before it.
use Rattle.std.proofs.Common.{◌≡◌, ℕ, ◌+◌, ◌<◌, ◌≤◌, suc, true, cond, List, [], ◌∷◌, ◌++◌, length, take, drop, get_or, set, refl, sym, ◌∙◌, ap, subst, arith, append_assoc, append-nil, length-append, length-take-le, eq-eqb, add-one, drop-cons}
use Rattle.std.specs.List.{AllByRecursion}
use Rattle.std.proofs.Math.Seq.{take-length}
use Rattle.std.proofs.lemmas.List.{take_more, take-append-drop, get_or-drop, drop-set-lt, drop-drop}
use Rattle.tm_seq.specs.Kind.{Kind}
use Rattle.tm_batch.specs.declared.message.Request.{Request}
use Rattle.tm_batch.specs.declared.message.Request.TheVariants.{Entrust, Apply, Launch, Grant, Release, Reclaim, Bye}
use Rattle.tm_batch.specs.declared.message.Answer.{Answer}
use Rattle.tm_model.specs.declared.entry.Entry.{Entry}
use Rattle.tm_model.specs.declared.entry.Entry.TheVariants.{By}
use Rattle.tm_model.specs.State.{State, place_of, place_count}
use Rattle.tm_model.specs.Serve.{state_after}
use Rattle.tm_model.specs.Legal.{IsLegal}
use Rattle.tm_model.specs.Laws.{IsOpening}
use Rattle.tm_model.specs.Ran.{mark_of, ran}
use Rattle.tm_model.specs.Entries.{entries_by}
use Rattle.tm_model.specs.Holds.{has_bye, launches_in, unfinished}
use Rattle.tm_model.specs.Orderly.{GrantsBelow}
use Rattle.tm_core.proofs.Marks.{ran-append}
use Rattle.tm_core.proofs.Joins.{legal_logs_join, state-append}
use Rattle.tm_core.proofs.Ordered.{opening_ordered, log_ordered}
use Rattle.tm_core.proofs.LaunchLog.{log_launches}
use Rattle.tm_core.proofs.Sound.{states_are_sound}
use Rattle.tm_core.proofs.Tallies.{launches_in-append, bye_more}
use Rattle.tm_state.specs.StateView.{StateView}
use Rattle.tm_state.specs.Represents.{Represents}
use Rattle.tm_state.specs.Asking.{MayRun, IsRunnable, HasRun, MayRunBatch, IsAnswerable, HasRunAll}

module _ {X : Type 0} where
  -- the item at a position of two lists that are the same from there on, where `item` represents it
  pub same_item : (xs ys : List X) (i : ℕ) (item x : X) → drop i xs ≡ drop i ys → item ≡ get_or xs i item → x ≡ get_or xs i item → get_or ys i x ≡ x
  same_item xs ys i item x e is here =
      let at : (l : List X) → get_or (drop i l) 0 item ≡ get_or l i item = λ l. get_or-drop i l 0 item ∙ ap (λ n. get_or l n item) (omega arith) in
      subst (λ y. get_or ys i y ≡ y) (is ∙ sym here) (sym (at ys) ∙ ap (λ l. get_or l 0 item) (sym e) ∙ at xs ∙ sym is)

  pub same_rest : (xs ys : List X) (i : ℕ) (y : X) → drop i xs ≡ drop i ys → drop (i + 1) (set xs i y) ≡ drop (i + 1) ys
  same_rest xs ys i y e =
      drop-set-lt (i + 1) xs i y (omega arith) ∙ sym (drop-drop 1 i xs) ∙ ap (λ l. drop 1 l) e ∙ drop-drop 1 i ys

  parts : (xs : List X) (i : ℕ) (x : X) → i < length xs → get_or xs i x ≡ x → xs ≡ take i xs ++ x ∷ drop (i + 1) xs
  parts xs i x lt is =
      sym (take-append-drop i xs)
      ∙ ap (λ l. take i xs ++ l) (drop-cons xs i x lt ∙ ap (λ z. z ∷ drop (suc i) xs) is ∙ ap (λ n. x ∷ drop n xs) (sym (add-one i)))

  all_within : (P : X → Type 0) (xs ys : List X) (x : X) → AllByRecursion P (xs ++ x ∷ ys) → P x
  all_within P [] ys x all = all.0
  all_within P (z ∷ xs) ys x all = all_within P xs ys x all.1

module _ {V O R T : Type 0} where
  bye_behind : (xs ys : List (Request V O R T)) → has_bye ys ≡ true → has_bye (xs ++ ys) ≡ true
  bye_behind [] ys e = e
  bye_behind (Bye ∷ xs) ys e = refl
  bye_behind (Entrust v ∷ xs) ys e = bye_behind xs ys e
  bye_behind (Apply n op ∷ xs) ys e = bye_behind xs ys e
  bye_behind (Launch n task ∷ xs) ys e = bye_behind xs ys e
  bye_behind (Grant n d ∷ xs) ys e = bye_behind xs ys e
  bye_behind (Release n ∷ xs) ys e = bye_behind xs ys e
  bye_behind (Reclaim n ∷ xs) ys e = bye_behind xs ys e

  ran_entries :
      (c k : ℕ) (b : List (Request V O R T)) (answers : List (Answer V O R T)) → length answers ≡ length b → ran c (entries_by c k b answers) ≡ b
  ran_entries c k [] answers e = refl
  ran_entries c k (q ∷ b) [] e = absurd cc
  ran_entries c k (q ∷ b) (a ∷ answers) e =
      let more = ran c (entries_by c (k + 1) b answers) in
      ap (λ t. cond t (q ∷ more) more) (eq-eqb c c refl) ∙ ap (λ l. q ∷ l) (ran_entries c (k + 1) b answers (omega (arith, e)))

  entries-append :
      (c k : ℕ) (b : List (Request V O R T)) (answers : List (Answer V O R T)) (q : Request V O R T) (a : Answer V O R T) → length answers ≡ length b
      → entries_by c k (b ++ q ∷ []) (answers ++ a ∷ []) ≡ entries_by c k b answers ++ By c (k + length b) q a ∷ []
  entries-append c k [] [] q a e = ap (λ n. By c n q a ∷ []) (omega arith)
  entries-append c k [] (x ∷ answers) q a e = absurd cc
  entries-append c k (p ∷ b) [] q a e = absurd cc
  entries-append c k (p ∷ b) (x ∷ answers) q a e =
      ap (λ l. By c k p x ∷ l)
      (entries-append c (k + 1) b answers q a (omega (arith, e)) ∙ ap (λ n. entries_by c (k + 1) b answers ++ By c n q a ∷ []) (omega arith))

  module _ (kind : Kind V O R T) where
    -- what a place has launched and has not ended grows at most by the launches that run
    launches_run :
        (opening : State V O R T) (log : List (Entry V O R T)) (c k : ℕ) (b : List (Request V O R T)) (answers : List (Answer V O R T))
        → IsOpening opening → IsLegal kind opening log → c < place_count opening.setup → length answers ≡ length b
        → IsLegal kind (state_after kind opening log) (entries_by c k b answers)
        → unfinished c (state_after kind (state_after kind opening log) (entries_by c k b answers)).live
        + length (place_of (state_after kind (state_after kind opening log) (entries_by c k b answers)) c).ready
        ≤ unfinished c (state_after kind opening log).live + length (place_of (state_after kind opening log) c).ready + launches_in b
    launches_run opening log c k b answers opens legal lt many more =
        let n = place_count opening.setup in
        let s = state_after kind opening log in
        let ordered = log_ordered kind n opening log legal (opening_ordered opening opens) in
        let all = log_launches kind n c lt 0 [] s (entries_by c k b answers) ordered more in
        let own = ap launches_in (ran_entries c k b answers many) in
        omega (arith, all, own)

    -- whatever log `old` represents, `h` represents it and the entries of the first i requests of the batch b
    abbrev pub HasRunFront : ℕ → List (Request V O R T) → ℕ → List (Answer V O R T) → StateView V O R T → StateView V O R T → Type 0
    HasRunFront c b i answers old h =
        (opening : State V O R T) (log : List (Entry V O R T)) → MayRunBatch kind opening log c b old
        → Represents kind opening (log ++ entries_by c (length (ran c log)) (take i b) answers) h

    pub none_run : (c : ℕ) (b : List (Request V O R T)) (answers : List (Answer V O R T)) (old : StateView V O R T) → HasRunFront c b 0 answers old old
    none_run c b answers old opening log may = subst (λ l. Represents kind opening l old) (sym (append-nil log)) may.represents

    -- the next request may be asked
    module _ (c : ℕ) (b : List (Request V O R T)) (i : ℕ) (answers : List (Answer V O R T)) (q : Request V O R T) (old mid : StateView V O R T)
        (many : length answers ≡ i) (lt : i < length b) (is : get_or b i q ≡ q) (ran_front : HasRunFront c b i answers old mid) where
      as_many : length answers ≡ length (take i b)
      as_many = let all = length-take-le i b (omega arith) in omega (arith, many, all)

      next_asked :
          (opening : State V O R T) (log : List (Entry V O R T)) → MayRunBatch kind opening log c b old
          → MayRun kind opening (log ++ entries_by c (length (ran c log)) (take i b) answers) c q mid
      next_asked opening log may =
          let k = length (ran c log) in
          let es = entries_by c k (take i b) answers in
          let s = state_after kind opening log in
          let t = state_after kind opening (log ++ es) in
          let represents = ran_front opening log may in
          let promised = may.promised in
          let sound = states_are_sound kind opening (log ++ es) represents.opens represents.is_legal in
          let split = parts b i q lt is in
          let behind = ((legal_logs_join kind opening log es).0 represents.is_legal).1 in
          let lands : t ≡ state_after kind s es = state-append kind opening log es in
          let grown = launches_run opening log c k (take i b) answers may.represents.opens may.represents.is_legal may.in_range as_many behind in
          let live : unfinished c t.live ≡ unfinished c (state_after kind s es).live = ap (λ (x : State V O R T). unfinished c x.live) lands in
          let in_all : launches_in b ≡ launches_in (take i b) + launches_in (q ∷ drop (i + 1) b) =
          ap launches_in split ∙ launches_in-append (take i b) (q ∷ drop (i + 1) b) in
          let in_rest : launches_in (q ∷ drop (i + 1) b) ≡ launches_in (q ∷ []) + launches_in (drop (i + 1) b) =
          launches_in-append (q ∷ []) (drop (i + 1) b) in
          let most = promised.launches in
          let ready : length (place_of t c).ready ≡ length (place_of (state_after kind s es) c).ready = ap (λ (x : State V O R T). length (place_of x c).ready) lands in
          record {
            represents = represents;
            may = record {
              in_range = subst (λ z. c < place_count z) (sym sound.setup) may.in_range;
              held = λ id names. promised.held [] answers (take i b) (drop (i + 1) b) q id split names tt as_many represents.is_legal;
              grants =
                  subst (λ z. GrantsBelow z.config.clients q) (sym sound.setup)
                  (all_within (GrantsBelow opening.setup.config.clients) (take i b) (drop (i + 1) b) q
                  (subst (λ l. AllByRecursion (GrantsBelow opening.setup.config.clients) l) split promised.grants));
              launches = omega (arith, grown, live, in_all, in_rest, most, ready);
              bye = λ bye.
                  let whole : has_bye b ≡ true =
                  subst (λ l. has_bye l ≡ true) (sym split) (bye_behind (take i b) (q ∷ drop (i + 1) b) (bye_more (q ∷ []) (drop (i + 1) b) bye)) in
                  let (alone, ended, none_ready) = promised.bye whole in
                  let none : launches_in b ≡ 0 = ap launches_in alone in
                  omega (arith, grown, live, in_all, ended, none_ready, none);
            };
          }

      pub next_runnable : IsAnswerable kind c b old → IsRunnable kind c q mid
      next_runnable (opening, log, may) = (opening, log ++ entries_by c (length (ran c log)) (take i b) answers, next_asked opening log may)

      pub next_run :
          (a : Answer V O R T) (more : List (Answer V O R T)) (new : StateView V O R T) → more ≡ answers ++ a ∷ [] → HasRun kind c q a mid new
          → HasRunFront c b (i + 1) more old new
      next_run a more new longer run opening log may =
          let k = length (ran c log) in
          let es = entries_by c k (take i b) answers in
          let represents = run opening (log ++ es) (next_asked opening log may) in
          let joined = ap length (ran-append mark_of c log es) ∙ length-append (ran c log) (ran c es) in
          let own = ap length (ran_entries c k (take i b) answers as_many) in
          let count : k + length (take i b) ≡ length (ran c (log ++ es)) = omega (arith, joined, own) in
          let all : log ++ entries_by c k (take (i + 1) b) more ≡ (log ++ es) ++ By c (length (ran c (log ++ es))) q a ∷ [] =
          ap (λ l. log ++ entries_by c k (take (i + 1) b) l) longer
          ∙ ap (λ l. log ++ entries_by c k l (answers ++ a ∷ [])) (take_more b i q lt ∙ ap (λ z. take i b ++ z ∷ []) is)
          ∙ ap (λ l. log ++ l) (entries-append c k (take i b) answers q a as_many)
          ∙ sym (append_assoc log es (By c (k + length (take i b)) q a ∷ [])) ∙ ap (λ n. (log ++ es) ++ By c n q a ∷ []) count in
          subst (λ l. Represents kind opening l new) (sym all) represents

    pub all_run :
        (c : ℕ) (b : List (Request V O R T)) (i : ℕ) (answers : List (Answer V O R T)) (old new : StateView V O R T) → i ≡ length b → length answers ≡ i
        → HasRunFront c b i answers old new → HasRunAll kind c b answers old new
    all_run c b i answers old new all many front opening log may =
        let whole : take i b ≡ b = ap (λ n. take n b) all ∙ take-length b in (
          many ∙ all,
          subst (λ l. Represents kind opening (log ++ entries_by c (length (ran c log)) l answers) new) whole (front opening log may),
        )
