-- One turn more behind some turns.
use Rattle.std.proofs.Common.{◌≡◌, ℕ, zero, suc, ◌+◌, ◌-◌, ◌^◌, ◌≤◌, ◌<◌, inl, inr, Bool, false, List, [], ◌∷◌, ◌++◌, length, map, min, refl, sym, ◌∙◌, ap, subst, arith}
use Rattle.std.specs.Prelude.{◌||◌}
use Rattle.std.specs.List.{range_with_len}
use Rattle.std.proofs.lemmas.List.FromFn.{map-range_with_len_more}
use Rattle.tm_seq.specs.Kind.{Kind, KindLaws}
use Rattle.tm_client.specs.declared.answers.Turn.{Turn}
use Rattle.tm_turns.specs.Whole.{AreOf, AreTurns, Keeps}
use Rattle.tm_turns.specs.Going.{has_moved, TurnsAt, TurnsBelow, Serves, Goes, AllGo, GoesRound, Rounds, HasRun}
use Rattle.tm_turns.specs.Resting.{AreAtRest}
use Rattle.tm_turns.specs.declared.turns.Turns.{Turns}
use Rattle.tm_turns.proofs.Falling.{all_keep, turns_still}
use Rattle.tm_turns.proofs.AtRest.{at_rest}
use Rattle.tm_turns.proofs.Measure.{measure, round_lessens}
use Rattle.tm_turns.proofs.Ones.{one_of}

map_same : (xs : List ℕ) → map (λ n. n) xs ≡ xs
map_same [] = refl
map_same (x ∷ xs) = ap (λ ys. x ∷ ys) (map_same xs)

-- so many numbers from one on, and one more
pub range_one_more : (from n : ℕ) → range_with_len from (n + 1) ≡ range_with_len from n ++ (from + n) ∷ []
range_one_more from n =
    sym (map_same (range_with_len from (n + 1))) ∙ map-range_with_len_more (λ m. m) from n (from + n) (omega arith)
    ∙ ap (λ xs. xs ++ (from + n) ∷ []) (map_same (range_with_len from n))

-- the numbers below one more
pub range_more : (n : ℕ) → range_with_len 0 (n + 1) ≡ range_with_len 0 n ++ n ∷ []
range_more n =
    sym (map_same (range_with_len 0 (n + 1))) ∙ map-range_with_len_more (λ m. m) 0 n n (omega arith)
    ∙ ap (λ xs. xs ++ n ∷ []) (map_same (range_with_len 0 n))

module _ {V C O R T : Type 0} (kind : Kind V O R T) where
  pub below_none : (c : ℕ) (s : Turns V C O R T) → TurnsBelow kind c 0 false s s
  unfolding TurnsBelow
  below_none c s = (refl, refl)

  pub below_more :
      (c n : ℕ) (before moved : Bool) (answer : Turn) (old mid new : Turns V C O R T) → TurnsBelow kind c n before old mid → TurnsAt kind c n answer mid new
      → moved ≡ (before || has_moved answer) → TurnsBelow kind c (n + 1) moved old new
  unfolding TurnsBelow
  below_more c n before moved answer old mid new below here is =
      let all : TurnsBelow kind c (suc n) moved old new = (mid, before, answer, below, here, is) in
      let e : suc n ≡ n + 1 = omega arith in
      subst (λ k. TurnsBelow kind c k moved old new) e all

  -- there are as many clients, tables and trustees still
  pub same_counts :
      (old new : Turns V C O R T) → Keeps kind old new → AreTurns kind old
      → (length new.clients.items ≡ length old.clients.items) × (length new.tables.items ≡ length old.tables.items)
      × (length new.trustees.items ≡ length old.trustees.items)
  same_counts old new keeps (config, first, are) =
      let now = keeps config first are in (
        now.as_many_clients ∙ sym are.as_many_clients,
        now.as_many_tables ∙ sym are.as_many_tables,
        now.as_many_trustees ∙ sym are.as_many_trustees,
      )

  -- a trustee's turn, as that of its number behind the clients'
  pub goes_serve :
      (clients t : ℕ) (moved : Bool) (old new : Turns V C O R T) → length old.clients.items ≡ clients → t < length old.trustees.items → Serves kind t moved old new
      → Goes kind (clients + t) moved old new
  goes_serve clients t moved old new many lt serves = inr (inl (t, ap (λ n. n + t) (sym many), lt, serves))

  pub go_none : (s : Turns V C O R T) → AllGo kind [] 0 s s
  unfolding AllGo
  go_none s = (refl, refl)

  pub go_more :
      (ks : List ℕ) (n k : ℕ) (moved : Bool) (old mid new : Turns V C O R T) → AllGo kind ks n old mid → Goes kind k moved mid new
      → AllGo kind (ks ++ k ∷ []) (n + one_of moved) old new
  unfolding AllGo
  go_more [] n k moved old mid new (none, same) goes =
      let here : Goes kind k moved old new = subst (λ s. Goes kind k moved s new) same goes in
      (new, moved, 0, here, (refl, refl), ap (λ m. m + one_of moved) none ∙ omega arith)
  go_more (x ∷ ks) n k moved old mid new (between, first, more, one, rest, is) goes =
      (between, first, more + one_of moved, one, go_more ks more k moved between mid new rest goes, omega (arith, is))

  pub rounds_none : (s : Turns V C O R T) → Rounds kind 0 0 s s
  unfolding Rounds
  rounds_none s = (refl, refl)

  pub rounds_more :
      (rounds before more : ℕ) (old mid new : Turns V C O R T) → Rounds kind rounds before old mid → GoesRound kind more mid new → 1 ≤ more
      → Rounds kind (suc rounds) (before + more) old new
  unfolding Rounds
  rounds_more rounds before more old mid new first round some = (mid, before, more, first, round, some, refl)

  -- what has been done before the last round of a run
  pub record IsRunning (order : List ℕ) (n more : ℕ) (old new : Turns V C O R T) : Type 0 where
    pub listed : Turns V C O R T
    pub last : Turns V C O R T
    pub first : ℕ
    pub rounds : ℕ
    pub then : ℕ
    pub list : AllGo kind order first old listed
    pub goes_round : Rounds kind rounds then listed last
    pub round : GoesRound kind more last new
    pub total : n ≡ min (first + then) (2 ^ 64 - 1)
    pub are : AreTurns kind last

  -- it keeps the whole
  pub run_keeps :
      (order : List ℕ) (n more : ℕ) (old new : Turns V C O R T) → IsRunning order n more old new → AreTurns kind new
  run_keeps order n more old new is =
      turns_still kind is.last new (all_keep kind _ more is.last new is.round) is.are

  pub rounds_keep : (rounds n : ℕ) (old new : Turns V C O R T) → AreTurns kind old → Rounds kind rounds n old new → Keeps kind old new
  unfolding Rounds
  rounds_keep zero n old new all (none, same) config first are = subst (λ x. AreOf kind config first x) (sym same) are
  rounds_keep (suc rounds) n old new all (mid, before, more, rest, round, some, is) config first are =
      let kept = rounds_keep rounds before old mid all rest in
      all_keep kind _ more mid new round config first (kept config first are)

  -- what a run has still to do, by how many turns of its last round moved something
  abbrev pub to_run : ℕ → Turns V C O R T → ℕ
  to_run zero turns = 0
  to_run (suc n) turns = measure kind turns + 1

  -- one more round lessens it
  pub run_lessens :
      (laws : KindLaws kind) (before more : ℕ) (old new : Turns V C O R T) → AreTurns kind old → GoesRound kind more old new → 1 ≤ before
      → to_run more new < to_run before old
  run_lessens laws zero more old new all round some = absurd (omega (arith, some))
  run_lessens laws (suc n) zero old new all round some = omega arith
  run_lessens laws (suc n) (suc m) old new (config, first, are) round some =
      let falls = round_lessens kind laws config first (suc m) old new are round (omega arith) in omega (arith, falls)

  -- a run keeps the whole of its build
  pub has_run_keeps : (order : List ℕ) (n : ℕ) (old new : Turns V C O R T) → AreTurns kind old → HasRun kind order n old new → Keeps kind old new
  has_run_keeps order n old new all run config first are =
      let list = all_keep kind order run.first old run.listed run.list in
      let listed = turns_still kind old run.listed list all in
      let goes = rounds_keep run.rounds run.then run.listed run.last listed run.goes_round in
      let last = turns_still kind run.listed run.last goes listed in
      let still = all_keep kind _ 0 run.last new run.quiet in
      still config first (goes config first (list config first are))

  -- and ends at rest
  pub has_run_rests : (order : List ℕ) (n : ℕ) (old new : Turns V C O R T) → AreTurns kind old → HasRun kind order n old new → AreAtRest kind new
  has_run_rests order n old new all run =
      let list = all_keep kind order run.first old run.listed run.list in
      let listed = turns_still kind old run.listed list all in
      let goes = rounds_keep run.rounds run.then run.listed run.last listed run.goes_round in
      let (config, first, are) = turns_still kind run.listed run.last goes listed in
      let still = all_keep kind _ 0 run.last new run.quiet in
      at_rest kind config first run.last new are (still config first are) run.quiet
