-- A whole turn of tasks, of its parts.
use Rattle.std.proofs.Common.{◌≡◌, ◌≢◌, ℕ, zero, suc, ◌+◌, ◌≤◌, ◌<◌, Bool, true, false, List, [], ◌∷◌, ◌++◌, length, length-append, append_assoc, map, refl, sym, ◌∙◌, ap, subst, arith}
use Rattle.std.specs.Prelude.{◌||◌, vec_capacity, slice_get}
use Rattle.std.specs.List.{All}
use Rattle.std.specs.List.Sorted.{IsNonDecreasingBy}
use Rattle.std.specs.declared.option.Option.TheVariants.{Some}
use Rattle.std.proofs.lemmas.List.Elements.{All-append, All-same, All-weaker}
use Rattle.std.proofs.lemmas.Option.{slice_get_within}
use Rattle.tm_seq.specs.Kind.{Kind}
use Rattle.tm_model.specs.State.{State}
use Rattle.tm_pair.specs.Theory.{Theory}
use Rattle.tm_client.specs.declared.books.Books.{Books}
use Rattle.tm_client.specs.declared.trust.Trust.{Trust}
use Rattle.tm_client.specs.Clients.{IsClient}
use Rattle.tm_task.specs.declared.deed.Deed.{Deed}
use Rattle.tm_task.specs.declared.deed.Deed.TheVariants.{Added}
use Rattle.tm_task.specs.declared.stage.Stage.{Stage}
use Rattle.tm_task.specs.declared.stage.Stage.TheVariants.{Fresh}
use Rattle.tm_task.specs.declared.tasks.Tasks.{Tasks}
use Rattle.tm_task.specs.declared.turning.Progress.{Progress}
use Rattle.tm_task.specs.Going.{AreInRange, KeepsRest, ProgressOf, HaveMoved, HaveAnswered, HaveGoneOn, HaveMadeTurns, is_some}
use Rattle.tm_task.specs.Ours.{AreTables, AreTheirs, HoldsOpen}
use Rattle.tm_task.specs.Progressing.{IsSettled, IsUnpassed, moves_in, rank, resumed_in, turns_in, went_in, busy_below, all_pending, world_of, Tells, HaveTurned}
use Rattle.tm_task.specs.Rules.{Rules}
use Rattle.tm_task.specs.Runs.{Runs}
use Rattle.tm_task.specs.Stages.{ended_in, Goes, AreTasks}
use Rattle.tm_task.proofs.Busy.{same_busy, busy_some, counting_within, some_counts}
use Rattle.tm_task.proofs.Chains.{moves_append, turns_append, some_of_two, or_none, goes_then, runs_then, runs_goes}
use Rattle.tm_task.proofs.Doing.{moved_deeds, moved_then, settled_more}
use Rattle.tm_task.proofs.Ranges.{all_in_range, going_in_range}
use Rattle.tm_task.proofs.Ranks.{one_rank, rising_joined}
use Rattle.tm_task.proofs.Resumed.{afters_of, none_resumed, resumed_append, resumed_are}
use Rattle.tm_task.proofs.Theirs.{theirs_then}
use Rattle.tm_task.proofs.Unpassed.{all_before, all_last, unpassed_then, unpassed_still}
use Rattle.tm_task.proofs.Worlds.{holds_then, tables_then}

none_of : (n : ℕ) → is_some n ≡ false → n ≡ 0
none_of zero e = refl
none_of (suc n) e = absurd cc

some_is : (n : ℕ) → is_some n ≡ true → 1 ≤ n
some_is zero e = absurd cc
some_is (suc n) e = omega arith

module _ {V T O R K U : Type 0} (rules : Rules V T U O R K) where
  -- tasks of which more is told, by deeds that make of their stages what they are then
  pub tasks_grow : (deeds : List (Deed V T U O R K)) (old new : Tasks V T O R K U) → AreTasks rules old → new.told.items ≡ old.told.items ++ deeds
      → Goes rules (length old.trusts.items) deeds old.stages.items new.stages.items → length new.stages.items ≡ length old.stages.items → KeepsRest old new
      → AreTasks rules new
  tasks_grow deeds old new are told goes many rest =
      let trusts : length new.trusts.items ≡ length old.trusts.items = ap (λ v. length v.items) rest.trusts in
      let all = goes_then rules (length old.trusts.items) old.told.items deeds [] old.stages.items new.stages.items are.told goes in
      let grown : Goes rules (length old.trusts.items) new.told.items [] new.stages.items =
      subst (λ l. Goes rules (length old.trusts.items) l [] new.stages.items) (sym told) all in
      record {
        told = subst (λ n. Goes rules n new.told.items [] new.stages.items) (sym trusts) grown;
        most = let was = are.most in let room = rest.room in omega (arith, was, room, many);
        stages_room = let was = are.stages_room in let room = rest.room in let capacity = rest.stages_room in omega (arith, was, room, capacity);
        outs = ap (λ v. v.items) rest.outs ∙ are.outs;
        outs_room = let was = are.outs_room in let room = rest.room in let capacity = ap (λ v. vec_capacity v) rest.outs in omega (arith, was, room, capacity);
      }

  -- no tasks, with room for some
  pub tasks_first : (tasks : Tasks V T O R K U) → tasks.told.items ≡ [] → tasks.stages.items ≡ [] → tasks.outs.items ≡ []
      → tasks.room ≤ vec_capacity tasks.stages → tasks.room ≤ vec_capacity tasks.outs → AreTasks rules tasks
  unfolding Goes
  tasks_first tasks told stages outs stages_room outs_room = record {
    told = subst (λ l. Goes rules (length tasks.trusts.items) l [] tasks.stages.items) (sym told) stages;
    most = subst (λ (l : List (Stage V T U O R K)). length l ≤ tasks.room) (sym stages) (omega arith);
    stages_room = stages_room;
    outs = outs;
    outs_room = outs_room;
  }

  -- one task more, for which there was room
  pub tasks_added : (task : T) (old new : Tasks V T O R K U) → AreTasks rules old → length old.stages.items < old.room
      → new.told.items ≡ old.told.items ++ Added task ∷ [] → new.stages.items ≡ old.stages.items ++ Fresh task ∷ []
      → vec_capacity old.stages ≤ vec_capacity new.stages → new.trusts ≡ old.trusts → new.room ≡ old.room → new.outs ≡ old.outs → AreTasks rules new
  unfolding Goes
  tasks_added task old new are less told stages capacity trusts room outs =
      let count = length old.trusts.items in
      let step : Goes rules (length old.trusts.items) (Added task ∷ []) old.stages.items new.stages.items = (new.stages.items, stages, refl) in
      let all = goes_then rules (length old.trusts.items) old.told.items (Added task ∷ []) [] old.stages.items new.stages.items are.told step in
      let grown : Goes rules (length old.trusts.items) new.told.items [] new.stages.items =
      subst (λ l. Goes rules (length old.trusts.items) l [] new.stages.items) (sym told) all in
      let many : length new.stages.items ≡ length old.stages.items + 1 = ap length stages ∙ length-append old.stages.items (Fresh task ∷ []) in
      record {
        told = subst (λ n. Goes rules n new.told.items [] new.stages.items) (sym (ap (λ v. length v.items) trusts)) grown;
        most = omega (arith, many, less, room);
        stages_room = let was = are.stages_room in omega (arith, was, room, capacity);
        outs = ap (λ v. v.items) outs ∙ are.outs;
        outs_room = let was = are.outs_room in let same = ap (λ v. vec_capacity v) outs in omega (arith, was, room, same);
      }

  pub tasks_in_range : (tasks : Tasks V T O R K U) → AreTasks rules tasks → AreInRange (length tasks.trusts.items) tasks.stages.items
  tasks_in_range tasks are = all_in_range (length tasks.trusts.items) rules tasks.told.items tasks.stages.items are.told

module _ {V T O R K U D Table Owner : Type 0} (theory : Theory V O R K Table D Owner) (kind : Kind V O R K) (rules : Rules V T U O R K) where
  pub tasks_moved : (moved : Bool) (old new : Tasks V T O R K U) (was now : Books V ℕ D O R K) → AreTasks rules old
      → HaveMoved theory kind rules moved old new was now → AreTasks rules new
  tasks_moved moved old new was now are h =
      tasks_grow rules h.deeds old new are h.told
      (runs_goes theory kind rules old.trusts.items h.deeds (world_of old was []) (world_of new now []) (h.runs []))
      h.many h.rest

  pub theirs_moved : (moved : Bool) (old new : Tasks V T O R K U) (was now : Books V ℕ D O R K) → HaveMoved theory kind rules moved old new was now
      → AreTheirs old.trusts.items old.stages.items was → AreTheirs new.trusts.items new.stages.items now
  theirs_moved moved old new was now h theirs =
      subst (λ (ts : List Trust). AreTheirs ts new.stages.items now) (sym (ap (λ v. v.items) h.rest.trusts))
      (theirs_then theory kind rules old.trusts.items h.deeds (world_of old was []) (world_of new now []) (h.runs []) theirs)

  pub holds_moved : (moved : Bool) (old new : Tasks V T O R K U) (was now : Books V ℕ D O R K) → HaveMoved theory kind rules moved old new was now
      → HoldsOpen was old.trusts.items → HoldsOpen now new.trusts.items
  holds_moved moved old new was now h holds =
      subst (λ (ts : List Trust). HoldsOpen now ts) (sym (ap (λ v. v.items) h.rest.trusts))
      (holds_then theory kind rules old.trusts.items h.deeds (world_of old was []) (world_of new now []) (h.runs []) holds)

  pub range_moved : (moved : Bool) (old new : Tasks V T O R K U) (was now : Books V ℕ D O R K) → HaveMoved theory kind rules moved old new was now
      → AreInRange (length old.trusts.items) old.stages.items → AreInRange (length new.trusts.items) new.stages.items
  range_moved moved old new was now h range =
      subst (λ n. AreInRange n new.stages.items) (sym (ap (λ v. length v.items) h.rest.trusts))
      (going_in_range (length old.trusts.items) rules h.deeds old.stages.items new.stages.items
      (runs_goes theory kind rules old.trusts.items h.deeds (world_of old was []) (world_of new now []) (h.runs [])) range)

  pub tables_moved : (openings : ℕ → State V O R K) (tables : List Table) (moved : Bool) (old new : Tasks V T O R K U) (was now : Books V ℕ D O R K)
      → HaveMoved theory kind rules moved old new was now → AreTables theory openings was tables → AreTables theory openings now tables
  tables_moved openings tables moved old new was now h are =
      tables_then theory kind rules old.trusts.items openings h.deeds (world_of old was tables) (world_of new now tables)
      (h.runs tables) are

  pub tables_made : (openings : ℕ → State V O R K) (busy : List ℕ) (went : Bool) (old new : Tasks V T O R K U) (was now : Books V ℕ D O R K)
      (before after : List Table) → HaveMadeTurns theory kind rules busy went old new was now before after → AreTables theory openings was before
      → AreTables theory openings now after
  tables_made openings busy went old new was now before after h are =
      tables_then theory kind rules old.trusts.items openings h.deeds (world_of old was before) (world_of new now after)
      h.runs are

  -- what a turn says, by what it did
  told_so : (ended moved : Bool) (progress : Progress) (deeds : List (Deed V T U O R K)) (stages : List (Stage V T U O R K)) (busy : List ℕ)
      → ProgressOf ended moved progress → (ended ≡ true → ended_in stages ≡ length stages) → (ended ≡ false → ended_in stages ≢ length stages)
      → moved ≡ is_some (moves_in deeds + went_in (turns_in deeds))
      → (moved ≡ false → ended_in stages ≢ length stages → (busy ≢ []) × (turns_in deeds ≡ all_pending busy))
      → Tells progress deeds stages busy
  told_so true moved progress deeds stages busy is all_ended some_left some pending = subst (λ p. Tells p deeds stages busy) (sym is) (all_ended refl)
  told_so false true progress deeds stages busy is all_ended some_left some pending =
      let more : 1 ≤ moves_in deeds + went_in (turns_in deeds) = some_is (moves_in deeds + went_in (turns_in deeds)) (sym some) in
      subst (λ p. Tells p deeds stages busy) (sym is) (some_left refl, more)
  told_so false false progress deeds stages busy is all_ended some_left some pending =
      let zero_is = none_of (moves_in deeds + went_in (turns_in deeds)) (sym some) in
      let (busy_is, all) = pending refl (some_left refl) in
      subst (λ p. Tells p deeds stages busy) (sym is) (some_left refl, omega (arith, zero_is), busy_is, all)

  module _ (openings : ℕ → State V O R K) (resumed started went ended : Bool) (progress : Progress) (old first mid new : Tasks V T O R K U)
      (was between through now : Books V ℕ D O R K) (before after : List Table)
      (tasks : AreTasks rules old) (theirs : AreTheirs old.trusts.items old.stages.items was) (tables : AreTables theory openings was before)
      (client : IsClient theory.client_view openings through) (took : HaveAnswered theory kind rules resumed old first was between)
      (none : between.arrived.items ≡ []) (on : HaveGoneOn theory kind rules (length first.stages.items) started first mid between through)
      (made : HaveMadeTurns theory kind rules (busy_below through (length before)) went mid new through now before after) where
    both : HaveMoved theory kind rules (resumed || started) old mid was through
    both = moved_then theory kind rules resumed started old first mid was between through took.have on.have

    empty : through.arrived.items ≡ []
    empty = ap (λ b. b.items) on.arrived ∙ none

    trusts : mid.trusts.items ≡ old.trusts.items
    trusts = ap (λ v. v.items) both.rest.trusts

    -- where not all have ended, a request counts
    busy_is : ended_in mid.stages.items ≢ length mid.stages.items → busy_below through (length before) ≢ []
    busy_is ne =
        let are = tasks_moved (resumed || started) old mid was through tasks both in
        let range = tasks_in_range rules mid are in
        let settled : (k : ℕ) (stage : Stage V T U O R K) → slice_get mid.stages.items k ≡ Some stage → IsSettled through mid.trusts.items stage =
        λ k stage e.
        let many = on.have.many in
        let lt = slice_get_within mid.stages.items k stage e in
        subst (λ (ts : List Trust). IsSettled through ts stage) (sym (ap (λ v. v.items) on.have.rest.trusts))
        (on.settled k stage (omega (arith, many, lt)) e) in
        let (t, some) =
        some_counts theory.client_view openings through mid.trusts.items mid.stages.items client (theirs_moved (resumed || started) old mid was through both theirs)
        empty range settled ne in
        let here = tables_moved openings before (resumed || started) old mid was through both tables in
        let lt = counting_within through t some in
        let many = here.as_many in
        busy_some through t (length before) some (omega (arith, lt, many))

    -- what had come was handed out
    resumed_is : resumed_in (both.deeds ++ made.deeds) ≡ afters_of was
    resumed_is =
        resumed_append both.deeds made.deeds ∙ ap (λ l. resumed_in both.deeds ++ l) (none_resumed made.deeds made.moves)
        ∙ sym
        (resumed_are theory kind rules old.trusts.items both.deeds (world_of old was before) (world_of mid through before) both.turns (both.runs before)
        ∙ ap (λ l. resumed_in both.deeds ++ map (λ a. a.after) l) empty)

    -- first that, then the tasks went on by their numbers
    both_rise : (count : ℕ) → IsNonDecreasingBy (rank count) both.deeds
    unfolding both
    both_rise count =
        subst (IsNonDecreasingBy (rank count)) (sym (moved_deeds theory kind rules resumed started old first mid was between through took.have on.have))
        (rising_joined (rank count) took.have.deeds on.have.deeds 0 (one_rank (rank count) took.have.deeds 0 (took.ranks count)) (on.in_order count)
        (All-weaker (λ d. rank count d ≡ 0) (λ d. rank count d ≤ 0) (λ d h. omega (arith, h)) took.have.deeds (took.ranks count))
        (All-weaker (λ d. rank count d ≤ length first.stages.items) (λ d. 0 ≤ rank count d) (λ d h. omega arith) on.have.deeds (on.ranks count)))

    both_within : (count : ℕ) → All (λ d. rank count d ≤ length old.stages.items) both.deeds
    unfolding both
    both_within count =
        let many = took.have.many in
        All-same (λ d. rank count d ≤ length old.stages.items) both.deeds (took.have.deeds ++ on.have.deeds)
        (moved_deeds theory kind rules resumed started old first mid was between through took.have on.have)
        (All-append (λ d. rank count d ≤ length old.stages.items) took.have.deeds on.have.deeds
        (All-weaker (λ d. rank count d ≡ 0) (λ d. rank count d ≤ length old.stages.items) (λ d h. omega (arith, h)) took.have.deeds (took.ranks count))
        (All-weaker (λ d. rank count d ≤ length first.stages.items) (λ d. rank count d ≤ length old.stages.items) (λ d h. omega (arith, h, many)) on.have.deeds
        (on.ranks count)))

    -- and last the client made its turns
    all_rise : IsNonDecreasingBy (rank (length old.stages.items)) (both.deeds ++ made.deeds)
    all_rise =
        let count = length old.stages.items in
        rising_joined (rank count) both.deeds made.deeds count (both_rise count) (one_rank (rank count) made.deeds (count + 1) (made.ranks count))
        (both_within count)
        (All-weaker (λ d. rank count d ≡ count + 1) (λ d. count ≤ rank count d) (λ d h. omega (arith, h)) made.deeds (made.ranks count))

    settled_is : (n : ℕ) (stage : Stage V T U O R K) → slice_get new.stages.items n ≡ Some stage → IsSettled now old.trusts.items stage
    settled_is n stage e =
        let at : slice_get mid.stages.items n ≡ Some stage = ap (λ l. slice_get l n) (sym made.stages) ∙ e in
        let many = on.have.many in
        let lt = slice_get_within mid.stages.items n stage at in
        let here : IsSettled through old.trusts.items stage =
        subst (λ (ts : List Trust). IsSettled through ts stage) (ap (λ v. v.items) took.have.rest.trusts) (on.settled n stage (omega (arith, many, lt)) at) in
        settled_more theory kind rules old.trusts.items through now stage (λ t. let same = made.counting t in omega (arith, same)) here

    unpassed_is : (n : ℕ) (stage : Stage V T U O R K) → slice_get new.stages.items n ≡ Some stage
        → IsUnpassed old.trusts.items (both.deeds ++ made.deeds) n stage
    unfolding both
    unpassed_is n stage e =
        let at : slice_get mid.stages.items n ≡ Some stage = ap (λ l. slice_get l n) (sym made.stages) ∙ e in
        let many = on.have.many in
        let lt = slice_get_within mid.stages.items n stage at in
        let here : IsUnpassed old.trusts.items on.have.deeds n stage =
        subst (λ (ts : List Trust). IsUnpassed ts on.have.deeds n stage) (ap (λ v. v.items) took.have.rest.trusts) (on.unpassed n stage (omega (arith, many, lt)) at) in
        let before = λ (t : ℕ). all_before old.trusts.items t n took.have.deeds
        (All-weaker (λ d. rank 0 d ≡ 0) (λ d. rank 0 d ≤ n) (λ d h. omega (arith, h)) took.have.deeds (took.ranks 0)) in
        unpassed_still old.trusts.items n stage both.deeds made.deeds
        (subst (λ ds. IsUnpassed old.trusts.items ds n stage)
        (sym (moved_deeds theory kind rules resumed started old first mid was between through took.have on.have))
        (unpassed_then old.trusts.items n stage took.have.deeds on.have.deeds before here))
        (λ t. all_last old.trusts.items t n made.deeds made.ranks)

    pub have_turned : ProgressOf ended ((resumed || started) || went) progress → (ended ≡ true → ended_in new.stages.items ≡ length new.stages.items)
        → (ended ≡ false → ended_in new.stages.items ≢ length new.stages.items)
        → HaveTurned theory kind rules progress old new was now before after
    have_turned is all_ended some_left =
        let turns : turns_in (both.deeds ++ made.deeds) ≡ turns_in made.deeds =
        turns_append both.deeds made.deeds ∙ ap (λ l. l ++ turns_in made.deeds) both.turns in
        let busy : busy_below now (length after) ≡ busy_below through (length before) =
        same_busy through now made.counting (length after) ∙ ap (busy_below through) made.many in
        let moves = moves_append both.deeds made.deeds in
        let none_made = made.moves in
        let moves_are : moves_in (both.deeds ++ made.deeds) ≡ moves_in both.deeds = omega (arith, moves, none_made) in
        record {
          deeds = both.deeds ++ made.deeds;
          told = made.told ∙ ap (λ l. l ++ made.deeds) both.told ∙ append_assoc old.told.items both.deeds made.deeds;
          runs =
              runs_then theory kind rules old.trusts.items both.deeds made.deeds (world_of old was before)
              (world_of mid through before) (world_of new now after) (both.runs before)
              (subst (λ (ts : List Trust). Runs theory kind rules ts made.deeds (world_of mid through before)
              (world_of new now after)) trusts made.runs);
          resumed = resumed_is;
          in_order = all_rise;
          turns = ap (map (λ turn. turn.0)) turns ∙ made.turns ∙ sym busy;
          settled = settled_is;
          unpassed = unpassed_is;
          tells =
              told_so ended ((resumed || started) || went) progress (both.deeds ++ made.deeds) new.stages.items (busy_below now (length after)) is all_ended some_left
              (ap (λ x. x || went) both.moves ∙ ap (λ x. is_some (moves_in both.deeds) || x) made.went_is
              ∙ sym (some_of_two (moves_in both.deeds) (went_in (turns_in made.deeds)))
              ∙ ap (λ n. is_some (n + went_in (turns_in made.deeds))) (sym moves_are)
              ∙ ap (λ l. is_some (moves_in (both.deeds ++ made.deeds) + went_in l)) (sym turns))
              (λ still ne.
              let (no_move, no_turn) = or_none (resumed || started) went still in
              let (pending, left) = made.pending no_turn empty in
              let here : ended_in mid.stages.items ≢ length mid.stages.items =
              λ same. ne (ap (λ l. ended_in l) made.stages ∙ same ∙ sym (ap length made.stages)) in
              (subst (λ l. l ≢ []) (sym busy) (busy_is here), turns ∙ pending ∙ ap all_pending (sym busy)));
          many = ap length made.stages ∙ both.many;
          trusts = made.rest.trusts ∙ both.rest.trusts;
          room = made.rest.room ∙ both.rest.room;
        }

    pub tasks_turned : AreTasks rules new
    tasks_turned =
        tasks_grow rules made.deeds mid new (tasks_moved (resumed || started) old mid was through tasks both) made.told
        (runs_goes theory kind rules mid.trusts.items made.deeds (world_of mid through before) (world_of new now after) made.runs)
        (ap length made.stages) made.rest

    pub theirs_turned : AreTheirs new.trusts.items new.stages.items now
    theirs_turned =
        subst (λ (ts : List Trust). AreTheirs ts new.stages.items now) (sym (ap (λ v. v.items) made.rest.trusts))
        (theirs_then theory kind rules mid.trusts.items made.deeds (world_of mid through before) (world_of new now after)
        made.runs (theirs_moved (resumed || started) old mid was through both theirs))

    pub holds_turned : HoldsOpen was old.trusts.items → HoldsOpen now new.trusts.items
    holds_turned holds =
        subst (λ (ts : List Trust). HoldsOpen now ts) (sym (ap (λ v. v.items) made.rest.trusts))
        (holds_then theory kind rules mid.trusts.items made.deeds (world_of mid through before) (world_of new now after)
        made.runs (holds_moved (resumed || started) old mid was through both holds))
