-- The answers that tasks get in a turn, and what they do then.
use Rattle.std.proofs.Common.{◌≡◌, ◌≢◌, ℕ, ◌+◌, ◌<◌, ◌≤◌, inl, inr, Bool, true, false, cond, List, [], ◌∷◌, ◌++◌, length, length-set, append_assoc, refl, sym, ◌∙◌, ap, subst, arith}
use Rattle.std.specs.Prelude.{◌||◌, nat_lt, slice_get}
use Rattle.std.specs.List.{All}
use Rattle.std.specs.List.Sorted.{IsNonDecreasingBy}
use Rattle.std.specs.declared.option.Option.TheVariants.{None, Some}
use Rattle.std.proofs.lemmas.Bool.{cases_eq}
use Rattle.std.proofs.lemmas.List.Elements.{All-append, All-nil, All-push, All-same, All-weaker}
use Rattle.tm_seq.specs.Kind.{Kind}
use Rattle.tm_batch.specs.declared.limits.TheConstants.{WINDOW}
use Rattle.tm_pair.specs.Theory.{Theory}
use Rattle.tm_client.specs.declared.answers.Got.{Got}
use Rattle.tm_client.specs.declared.books.Books.{Books}
use Rattle.tm_client.specs.declared.trust.Trust.{Trust}
use Rattle.tm_client.specs.Taking.{HasTaken}
use Rattle.tm_task.specs.declared.deed.Deed.{Deed}
use Rattle.tm_task.specs.declared.deed.Deed.TheVariants.{Started, Asked, Resumed}
use Rattle.tm_task.specs.declared.stage.Stage.{Stage}
use Rattle.tm_task.specs.declared.stage.Stage.TheVariants.{Fresh, Asks, Waits, Ended}
use Rattle.tm_task.specs.declared.task.Move.{Move}
use Rattle.tm_task.specs.declared.task.Move.TheVariants.{Apply, Done}
use Rattle.tm_task.specs.declared.tasks.Tasks.{Tasks}
use Rattle.tm_task.specs.Going.{KeepsRest, HasStarted, HasResumed, MayStart, HasAskedAt, HasNotAsked, MayAsk, HaveMoved, HaveAnswered, HasGoneOnAt, HaveGoneOn, AsksWithRoom, is_some}
use Rattle.tm_task.specs.Progressing.{AsksBefore, IsSettled, IsUnpassed, moves_in, rank, turns_in, counting_at, world_of}
use Rattle.tm_task.specs.Rules.{Rules}
use Rattle.tm_task.specs.Runs.{World, Runs}
use Rattle.tm_task.specs.Stages.{is_fresh, stage_of}
use Rattle.tm_task.proofs.Asks.{asked_more}
use Rattle.tm_task.proofs.Chains.{moves_append, turns_append, some_of_two, runs_then, runs_none, runs_one}
use Rattle.tm_task.proofs.Places.{set_here, set_other, read_some}
use Rattle.tm_task.proofs.Ranks.{one_rank, rising_joined}
use Rattle.tm_task.proofs.Unpassed.{all_before, unpassed_none, unpassed_then, unpassed_settled}

pub append_nil : {X : Type 0} (xs : List X) → xs ++ [] ≡ xs
append_nil [] = refl
append_nil (x ∷ xs) = ap (λ ys. x ∷ ys) (append_nil xs)

or_false : (b : Bool) → (b || false) ≡ b
or_false true = refl
or_false false = refl

module _ {V T O R K U : Type 0} where
  pub rest_same : (tasks : Tasks V T O R K U) → KeepsRest tasks tasks
  rest_same tasks = record { trusts = refl; room = refl; stages_room = refl; outs = refl }

  pub rest_then : (old mid new : Tasks V T O R K U) → KeepsRest old mid → KeepsRest mid new → KeepsRest old new
  rest_then old mid new f s = record {
    trusts = s.trusts ∙ f.trusts;
    room = s.room ∙ f.room;
    stages_room = s.stages_room ∙ f.stages_room;
    outs = s.outs ∙ f.outs;
  }

module _ {V T U O R K : Type 0} where
  pub fresh_there : (stage : Stage V T U O R K) → is_fresh stage ≡ true → (task : T) × (Some stage ≡ Some (Fresh task))
  fresh_there (Fresh task) e = (task, refl)
  fresh_there (Asks i op task) e = absurd cc
  fresh_there (Waits i task) e = absurd cc
  fresh_there (Ended out) e = absurd cc

module _ {V T U O R K D : Type 0} (trusts : List Trust) (books : Books V ℕ D O R K) (n : ℕ) (deeds : List (Deed V T U O R K)) where
  -- these are of the start of task n: they ask nothing
  record AreOfStart : Type 0 where
    ranks : (count : ℕ) → All (λ d. rank count d ≡ n + 1) deeds
    before : (t : ℕ) → All (AsksBefore trusts t n) deeds
    with_room : All (AsksWithRoom trusts books) deeds

  -- these are of the turn of task n, which left it at these stages
  record AreOfTurn (stages : List (Stage V T U O R K)) : Type 0 where
    ranks : (count : ℕ) → All (λ d. rank count d ≡ n + 1) deeds
    unpassed : (stage : Stage V T U O R K) → slice_get stages n ≡ Some stage → IsUnpassed trusts deeds n stage
    with_room : All (AsksWithRoom trusts books) deeds

module _ {V T O R K U D Table Owner : Type 0} (theory : Theory V O R K Table D Owner) (kind : Kind V O R K) (rules : Rules V T U O R K) where
  pub moved_none : (tasks : Tasks V T O R K U) (books : Books V ℕ D O R K) → HaveMoved theory kind rules false tasks tasks books books
  moved_none tasks books = record {
    deeds = [];
    told = sym (append_nil tasks.told.items);
    runs = λ tables. runs_none theory kind rules tasks.trusts.items (world_of tasks books tables);
    moves = refl;
    turns = refl;
    many = refl;
    rest = rest_same tasks;
  }

  pub moved_then : (a b : Bool) (old mid new : Tasks V T O R K U) (was between now : Books V ℕ D O R K) → HaveMoved theory kind rules a old mid was between
      → HaveMoved theory kind rules b mid new between now → HaveMoved theory kind rules (a || b) old new was now
  moved_then a b old mid new was between now f s = record {
    deeds = f.deeds ++ s.deeds;
    told = s.told ∙ ap (λ l. l ++ s.deeds) f.told ∙ append_assoc old.told.items f.deeds s.deeds;
    runs = λ tables.
        runs_then theory kind rules old.trusts.items f.deeds s.deeds (world_of old was tables)
        (world_of mid between tables) (world_of new now tables) (f.runs tables)
        (subst (λ (ts : List Trust). Runs theory kind rules ts s.deeds (world_of mid between tables) (world_of new now tables))
        (ap (λ v. v.items) f.rest.trusts) (s.runs tables));
    moves = ap (λ x. x || b) f.moves ∙ ap (λ x. is_some (moves_in f.deeds) || x) s.moves ∙ sym (some_of_two (moves_in f.deeds) (moves_in s.deeds))
        ∙ ap is_some (sym (moves_append f.deeds s.deeds));
    turns = turns_append f.deeds s.deeds ∙ ap (λ l. l ++ turns_in s.deeds) f.turns ∙ s.turns;
    many = s.many ∙ f.many;
    rest = rest_then old mid new f.rest s.rest;
  }

  pub moved_deeds : (a b : Bool) (old mid new : Tasks V T O R K U) (was between now : Books V ℕ D O R K) (f : HaveMoved theory kind rules a old mid was between)
      (s : HaveMoved theory kind rules b mid new between now) → (moved_then a b old mid new was between now f s).deeds ≡ f.deeds ++ s.deeds
  unfolding moved_then
  moved_deeds a b old mid new was between now f s = refl

  started_moves : (n : ℕ) (old new : Tasks V T O R K U) (books : Books V ℕ D O R K) → HasStarted rules n old new
      → HaveMoved theory kind rules true old new books books
  started_moves n old new books h = record {
    deeds = Started n h.move ∷ [];
    told = h.told;
    runs = λ tables.
        runs_one theory kind rules old.trusts.items (Started n h.move) (world_of old books tables)
        (world_of new books tables) (record { steps = h.steps; calls = record { books = refl; tables = refl } });
    moves = refl;
    turns = refl;
    many = ap length h.steps.now ∙ length-set old.stages.items n (stage_of (length old.trusts.items) h.move);
    rest = h.rest;
  }

  -- what was done with a task that had its turn to be started, and that it alone was
  may_start_moves : (n : ℕ) (b : Bool) (old new : Tasks V T O R K U) (books : Books V ℕ D O R K) → MayStart rules n b old new
      → (have : HaveMoved theory kind rules b old new books books) × AreOfStart old.trusts.items books n have.deeds
  unfolding moved_none started_moves
  may_start_moves n true old new books h =
      let one = Started n h.move in (
        started_moves n old new books h,
        record {
          ranks = λ count. All-push (λ d. rank count d ≡ n + 1) [] one (All-nil (λ d. rank count d ≡ n + 1)) refl;
          before = λ t. All-push (AsksBefore old.trusts.items t n) [] one (All-nil (AsksBefore old.trusts.items t n)) tt;
          with_room = All-push (AsksWithRoom old.trusts.items books) [] one (All-nil (AsksWithRoom old.trusts.items books)) tt;
        },
      )
  may_start_moves n false old new books h =
      subst (λ t. (have : HaveMoved theory kind rules false old t books books) × AreOfStart old.trusts.items books n have.deeds) (sym h.0) (
        moved_none old books,
        record {
          ranks = λ count. All-nil (λ d. rank count d ≡ n + 1);
          before = λ t. All-nil (AsksBefore old.trusts.items t n);
          with_room = All-nil (AsksWithRoom old.trusts.items books);
        },
      )

  resumed_moves : (n : ℕ) (got : Got V O R K) (old new : Tasks V T O R K U) (was now : Books V ℕ D O R K) → HasResumed rules n got old new
      → HasTaken n got was now → HaveMoved theory kind rules true old new was now
  resumed_moves n got old new was now h taken = record {
    deeds = Resumed n got h.move ∷ [];
    told = h.told;
    runs = λ tables.
        runs_one theory kind rules old.trusts.items (Resumed n got h.move) (world_of old was tables)
        (world_of new now tables) (record { steps = h.steps; calls = record { taken = taken; tables = refl } });
    moves = refl;
    turns = refl;
    many = ap length h.steps.now ∙ length-set old.stages.items n (stage_of (length old.trusts.items) h.move);
    rest = h.rest;
  }

  pub answered_none : (tasks : Tasks V T O R K U) (books : Books V ℕ D O R K) → HaveAnswered theory kind rules false tasks tasks books books
  unfolding moved_none
  answered_none tasks books = record { have = moved_none tasks books; ranks = λ count. All-nil (λ d. rank count d ≡ 0) }

  -- one answer more
  pub answered_more : (n : ℕ) (got : Got V O R K) (a : Bool) (old mid new : Tasks V T O R K U) (was between now : Books V ℕ D O R K)
      → HaveAnswered theory kind rules a old mid was between → HasResumed rules n got mid new → HasTaken n got between now
      → HaveAnswered theory kind rules (a || true) old new was now
  unfolding resumed_moves
  answered_more n got a old mid new was between now f h taken =
      let next = resumed_moves n got mid new between now h taken in
      record {
        have = moved_then a true old mid new was between now f.have next;
        ranks = λ count.
            All-same (λ d. rank count d ≡ 0) (moved_then a true old mid new was between now f.have next).deeds (f.have.deeds ++ next.deeds)
            (moved_deeds a true old mid new was between now f.have next)
            (All-push (λ d. rank count d ≡ 0) f.have.deeds (Resumed n got h.move) (f.ranks count) refl);
      }

  asked_moves : (n : ℕ) (old new : Tasks V T O R K U) (was now : Books V ℕ D O R K) → HasAskedAt n old new was now
      → HaveMoved theory kind rules false old new was now
  asked_moves n old new was now h = record {
    deeds = Asked n h.i h.op ∷ [];
    told = h.told;
    runs = λ tables.
        runs_one theory kind rules old.trusts.items (Asked n h.i h.op) (world_of old was tables)
        (world_of new now tables)
        (record { steps = h.steps; calls = record { trust = h.trust; of_trust = h.of_trust; asked = h.asked; tables = refl } });
    moves = refl;
    turns = refl;
    many = ap length h.steps.now ∙ length-set old.stages.items n (Waits h.i h.steps.task);
    rest = h.rest;
  }

  same_world : (old new : Tasks V T O R K U) (was now : Books V ℕ D O R K) (tables : List Table) → new.stages.items ≡ old.stages.items → now ≡ was
      → world_of new now tables ≡ world_of old was tables
  same_world old new was now tables stages books =
      let W : List (Stage V T U O R K) → Books V ℕ D O R K → World V T U O R K D Table = λ s b. record { stages = s; books = b; tables = tables } in
      ap (λ s. W s now) stages ∙ ap (W old.stages.items) books

  not_asked_moves : (n : ℕ) (old new : Tasks V T O R K U) (was now : Books V ℕ D O R K) → HasNotAsked n old new was now
      → HaveMoved theory kind rules false old new was now
  not_asked_moves n old new was now h = record {
    deeds = [];
    told = h.told ∙ sym (append_nil old.told.items);
    runs = λ tables.
        subst (λ w. Runs theory kind rules old.trusts.items [] (world_of old was tables) w)
        (sym (same_world old new was now tables h.stages h.books)) (runs_none theory kind rules old.trusts.items (world_of old was tables));
    moves = refl;
    turns = refl;
    many = ap length h.stages;
    rest = h.rest;
  }

  may_ask_moves : (n : ℕ) (old new : Tasks V T O R K U) (was now : Books V ℕ D O R K) → MayAsk n old new was now
      → (have : HaveMoved theory kind rules false old new was now) × AreOfTurn old.trusts.items was n have.deeds new.stages.items
  unfolding asked_moves not_asked_moves
  may_ask_moves n old new was now (inl h) =
      let one = Asked n h.i h.op in
      let here : slice_get new.stages.items n ≡ Some (Waits h.i h.steps.task) =
      ap (λ l. slice_get l n) h.steps.now ∙ set_here old.stages.items n (Asks h.i h.op h.steps.task) (Waits h.i h.steps.task) h.steps.was in (
        asked_moves n old new was now h,
        record {
          ranks = λ count. All-push (λ d. rank count d ≡ n + 1) [] one (All-nil (λ d. rank count d ≡ n + 1)) refl;
          unpassed = λ stage at.
              subst (λ s. IsUnpassed old.trusts.items (one ∷ []) n s) (read_some new.stages.items n (Waits h.i h.steps.task) stage here at) tt;
          with_room = All-push (AsksWithRoom old.trusts.items was) [] one (All-nil (AsksWithRoom old.trusts.items was)) (λ trust of.
              subst (λ x. counting_at was x.trustee < WINDOW) (read_some old.trusts.items h.i h.trust trust h.of_trust of) h.room_there);
        },
      )
  may_ask_moves n old new was now (inr h) = (
    not_asked_moves n old new was now h,
    record {
      ranks = λ count. All-nil (λ d. rank count d ≡ n + 1);
      unpassed = λ stage at. unpassed_none old.trusts.items n stage;
      with_room = All-nil (AsksWithRoom old.trusts.items was);
    },
  )

  -- a move never leaves a task fresh
  cond_not_fresh : (b : Bool) (x y : Stage V T U O R K) (other : T) → (x ≡ Fresh other → ⊥) → (y ≡ Fresh other → ⊥) → cond b x y ≡ Fresh other → ⊥
  cond_not_fresh true x y other f h e = f e
  cond_not_fresh false x y other f h e = h e

  moved_not_fresh : (count : ℕ) (move : Move V T U O R K) (other : T) → stage_of count move ≡ Fresh other → ⊥
  moved_not_fresh count (Apply i op task) other e = cond_not_fresh (nat_lt i count) (Asks i op task) (Ended None) other (λ f. cc) (λ f. cc) e
  moved_not_fresh count (Done out) other e = cc

  not_fresh : (n : ℕ) (b : Bool) (old mid : Tasks V T O R K U) → MayStart rules n b old mid → (task : T) → slice_get mid.stages.items n ≡ Some (Fresh task) → ⊥
  not_fresh n true old mid h task at =
      let here : slice_get mid.stages.items n ≡ Some (stage_of (length old.trusts.items) h.move) =
      ap (λ l. slice_get l n) h.steps.now ∙ set_here old.stages.items n (Fresh h.steps.task) (stage_of (length old.trusts.items) h.move) h.steps.was in
      moved_not_fresh (length old.trusts.items) h.move task (read_some mid.stages.items n (stage_of (length old.trusts.items) h.move) (Fresh task) here at)
  not_fresh n false old mid h task at = h.1 (task, ap (λ t. slice_get t.stages.items n) (sym h.0) ∙ at)

  start_others : (n : ℕ) (b : Bool) (old mid : Tasks V T O R K U) → MayStart rules n b old mid
      → (k : ℕ) → k ≢ n → slice_get mid.stages.items k ≡ slice_get old.stages.items k
  start_others n true old mid h k ne =
      ap (λ l. slice_get l k) h.steps.now ∙ set_other old.stages.items n k (stage_of (length old.trusts.items) h.move) ne
  start_others n false old mid h k ne = ap (λ t. slice_get t.stages.items k) h.0

  ask_others : (n : ℕ) (old new : Tasks V T O R K U) (was now : Books V ℕ D O R K) → MayAsk n old new was now
      → ((k : ℕ) → k ≢ n → slice_get new.stages.items k ≡ slice_get old.stages.items k)
      × (now.arrived ≡ was.arrived) × ((t : ℕ) → counting_at was t ≤ counting_at now t)
  ask_others n old new was now (inl h) = (
    λ k ne. ap (λ l. slice_get l k) h.steps.now ∙ set_other old.stages.items n k (Waits h.i h.steps.task) ne,
    h.asked.rest.arrived,
    λ t. asked_more h.trust.trustee _ n was now h.asked t,
  )
  ask_others n old new was now (inr h) = (
    λ k ne. ap (λ l. slice_get l k) h.stages,
    ap (λ b. b.arrived) h.books,
    λ t. subst (λ b. counting_at was t ≤ counting_at b t) (sym h.books) (omega arith),
  )

  -- a task that is not fresh is settled once it had its turn to ask
  settled_left : (n : ℕ) (trusts : List Trust) (old : Tasks V T O R K U) (was now : Books V ℕ D O R K) (stage : Stage V T U O R K) → old.trusts.items ≡ trusts
      → slice_get old.stages.items n ≡ Some stage → ((task : T) → slice_get old.stages.items n ≡ Some (Fresh task) → ⊥) → now ≡ was
      → ((i : ℕ) (op : O) (task : T) → slice_get old.stages.items n ≡ Some (Asks i op task)
      → (trust : Trust) × (slice_get old.trusts.items i ≡ Some trust) × (WINDOW ≤ counting_at was trust.trustee))
      → IsSettled now trusts stage
  settled_left n trusts old was now (Fresh task) same at fresh books blocked = absurd (fresh task at)
  settled_left n trusts old was now (Asks i op task) same at fresh books blocked =
      let (trust, of, some) = blocked i op task at in
      (trust, ap (λ ts. slice_get ts i) (sym same) ∙ of, subst (λ b. WINDOW ≤ counting_at b trust.trustee) (sym books) some)
  settled_left n trusts old was now (Waits i task) same at fresh books blocked = tt
  settled_left n trusts old was now (Ended out) same at fresh books blocked = tt

  settled_at : (n : ℕ) (b : Bool) (old mid new : Tasks V T O R K U) (was now : Books V ℕ D O R K) → MayStart rules n b old mid → MayAsk n mid new was now
      → mid.trusts.items ≡ old.trusts.items
      → (stage : Stage V T U O R K) → slice_get new.stages.items n ≡ Some stage → IsSettled now old.trusts.items stage
  settled_at n b old mid new was now start (inl h) same stage at =
      let here : slice_get new.stages.items n ≡ Some (Waits h.i h.steps.task) =
      ap (λ l. slice_get l n) h.steps.now ∙ set_here mid.stages.items n (Asks h.i h.op h.steps.task) (Waits h.i h.steps.task) h.steps.was in
      subst (λ s. IsSettled now old.trusts.items s) (read_some new.stages.items n (Waits h.i h.steps.task) stage here at) tt
  settled_at n b old mid new was now start (inr h) same stage at =
      settled_left n old.trusts.items mid was now stage same (ap (λ l. slice_get l n) (sym h.stages) ∙ at)
      (λ task e. not_fresh n b old mid start task e) h.books h.blocked

  pub gone_on_at : (n : ℕ) (b : Bool) (old mid new : Tasks V T O R K U) (was now : Books V ℕ D O R K) → MayStart rules n b old mid → MayAsk n mid new was now
      → HasGoneOnAt theory kind rules n b old new was now
  gone_on_at n b old mid new was now start ask =
      let (first, alone) = may_start_moves n b old mid was start in
      let (next, too) = may_ask_moves n mid new was now ask in
      let both = moved_then b false old mid new was was now first next in
      let deeds = moved_deeds b false old mid new was was now first next in
      let trusts : mid.trusts.items ≡ old.trusts.items = ap (λ v. v.items) first.rest.trusts in
      let says : AreOfTurn old.trusts.items was n both.deeds new.stages.items =
      record {
        ranks = λ count.
            All-same (λ d. rank count d ≡ n + 1) both.deeds (first.deeds ++ next.deeds) deeds
            (All-append (λ d. rank count d ≡ n + 1) first.deeds next.deeds (alone.ranks count) (too.ranks count));
        unpassed = λ stage at.
            subst (λ ds. IsUnpassed old.trusts.items ds n stage) (sym deeds)
            (unpassed_then old.trusts.items n stage first.deeds next.deeds alone.before
            (subst (λ ts. IsUnpassed ts next.deeds n stage) trusts (too.unpassed stage at)));
        with_room =
            All-same (AsksWithRoom old.trusts.items was) both.deeds (first.deeds ++ next.deeds) deeds
            (All-append (AsksWithRoom old.trusts.items was) first.deeds next.deeds alone.with_room
            (subst (λ ts. All (AsksWithRoom ts was) next.deeds) trusts too.with_room));
      } in
      let whole =
      subst (λ x. (have : HaveMoved theory kind rules x old new was now) × AreOfTurn old.trusts.items was n have.deeds new.stages.items) (or_false b)
      (both, says) in
      let before = start_others n b old mid start in
      let after = ask_others n mid new was now ask in
      record {
        have = whole.0;
        ranks = whole.1.ranks;
        settled = settled_at n b old mid new was now start ask trusts;
        unpassed = whole.1.unpassed;
        with_room = whole.1.with_room;
        others = λ k ne. after.0 k ne ∙ before k ne;
        arrived = after.1;
        more = after.2;
      }

  -- a request that counts goes on counting
  pub settled_more : (trusts : List Trust) (was now : Books V ℕ D O R K) (stage : Stage V T U O R K) → ((t : ℕ) → counting_at was t ≤ counting_at now t)
      → IsSettled was trusts stage → IsSettled now trusts stage
  settled_more trusts was now (Fresh task) more h = absurd h
  settled_more trusts was now (Asks i op task) more (trust, of, some) = (trust, of, let one = more trust.trustee in omega (arith, one, some))
  settled_more trusts was now (Waits i task) more h = tt
  settled_more trusts was now (Ended out) more h = tt

  pub gone_on_none : (tasks : Tasks V T O R K U) (books : Books V ℕ D O R K) → HaveGoneOn theory kind rules 0 false tasks tasks books books
  unfolding moved_none
  gone_on_none tasks books = record {
    have = moved_none tasks books;
    ranks = λ count. All-nil (λ d. rank count d ≤ 0);
    in_order = λ count. one_rank (rank count) [] 0 (All-nil (λ d. rank count d ≡ 0));
    settled = λ k stage lt e. absurd (omega (arith, lt));
    unpassed = λ k stage lt e. absurd (omega (arith, lt));
    arrived = refl;
  }

  pub gone_on_more : (n : ℕ) (a b : Bool) (old mid new : Tasks V T O R K U) (was between now : Books V ℕ D O R K)
      → HaveGoneOn theory kind rules n a old mid was between → HasGoneOnAt theory kind rules n b mid new between now
      → HaveGoneOn theory kind rules (n + 1) (a || b) old new was now
  gone_on_more n a b old mid new was between now f s =
      let trusts : mid.trusts.items ≡ old.trusts.items = ap (λ v. v.items) f.have.rest.trusts in
      let deeds = moved_deeds a b old mid new was between now f.have s.have in
      record {
        have = moved_then a b old mid new was between now f.have s.have;
        ranks = λ count.
            All-same (λ d. rank count d ≤ n + 1) (moved_then a b old mid new was between now f.have s.have).deeds (f.have.deeds ++ s.have.deeds) deeds
            (All-append (λ d. rank count d ≤ n + 1) f.have.deeds s.have.deeds
            (All-weaker (λ d. rank count d ≤ n) (λ d. rank count d ≤ n + 1) (λ d h. omega (arith, h)) f.have.deeds (f.ranks count))
            (All-weaker (λ d. rank count d ≡ n + 1) (λ d. rank count d ≤ n + 1) (λ d h. omega (arith, h)) s.have.deeds (s.ranks count)));
        in_order = λ count.
            subst (IsNonDecreasingBy (rank count)) (sym deeds)
            (rising_joined (rank count) f.have.deeds s.have.deeds n (f.in_order count) (one_rank (rank count) s.have.deeds (n + 1) (s.ranks count)) (f.ranks count)
            (All-weaker (λ d. rank count d ≡ n + 1) (λ d. n ≤ rank count d) (λ d h. omega (arith, h)) s.have.deeds (s.ranks count)));
        settled = λ k stage lt e.
            elim (cases_eq k n) [
              | inl same ↦ subst (λ ts. IsSettled now ts stage) trusts (s.settled stage (ap (slice_get new.stages.items) (sym same) ∙ e))
              | inr ne ↦
                  settled_more old.trusts.items between now stage s.more (f.settled k stage (omega (arith, lt, ne)) (sym (s.others k ne) ∙ e))
            ];
        unpassed = λ k stage lt e.
            subst (λ ds. IsUnpassed old.trusts.items ds k stage) (sym deeds) (
            elim (cases_eq k n) [
              | inl same ↦
                  unpassed_then old.trusts.items k stage f.have.deeds s.have.deeds
                  (λ t. all_before old.trusts.items t k f.have.deeds (subst (λ m. All (λ d. rank 0 d ≤ m) f.have.deeds) (sym same) (f.ranks 0)))
                  (subst (λ m. IsUnpassed old.trusts.items s.have.deeds m stage) (sym same)
                  (subst (λ ts. IsUnpassed ts s.have.deeds n stage) trusts (s.unpassed stage (ap (slice_get new.stages.items) (sym same) ∙ e))))
              | inr ne ↦
                  let less : k < n = omega (arith, lt, ne) in
                  let at : slice_get mid.stages.items k ≡ Some stage = sym (s.others k ne) ∙ e in
                  unpassed_settled old.trusts.items between k stage f.have.deeds s.have.deeds (f.settled k stage less at) (f.unpassed k stage less at)
                  (subst (λ ts. All (AsksWithRoom ts between) s.have.deeds) trusts s.with_room)
            ]
            );
        arrived = s.arrived ∙ f.arrived;
      }
