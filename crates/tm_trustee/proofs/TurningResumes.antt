-- A trustee in the midst of a turn is ready again after it went on with launched work.
use Rattle.std.proofs.Common.{◌≡◌, ℕ, ◌⊎◌, List, [], ◌∷◌, ◌++◌, inl, inr, sym, ◌∙◌, ap, subst, arith}
use Rattle.std.specs.Prelude.{slice_get, IsSomeAnd}
use Rattle.std.specs.List.{AllByRecursion}
use Rattle.std.proofs.lemmas.List.{length-map}
use Rattle.tm_seq.specs.Kind.{Kind}
use Rattle.tm_model.specs.Legal.{HasFirst}
use Rattle.tm_model.specs.Serve.{works_in, state_after}
use Rattle.tm_model.specs.State.{Awaits, Start, Work, Object, Setup, State, object_of}
use Rattle.tm_core.proofs.CallerLemmas.{option_cases}
use Rattle.tm_core.proofs.Finding.{all_found}
use Rattle.tm_pair.specs.Theory.{Theory}
use Rattle.tm_state.specs.Launches.{AwaitsReply}
use Rattle.tm_state.specs.Resuming.{AllAwait}
use Rattle.tm_trustee.specs.Awaiting.{IsWaiting}
use Rattle.tm_trustee.specs.NestedAsks.{works_at}
use Rattle.tm_trustee.specs.Serving.{AreTold, ups_of, IsServing, IsGoing}
use Rattle.tm_trustee.specs.Tables.{IsReady, IsMidway}
use Rattle.tm_trustee.specs.Tasks.{AreGoing, GoesOnWith, IsGoingOn}
use Rattle.tm_trustee.specs.declared.trustee.Trustee.{Trustee}
use Rattle.tm_trustee.proofs.Elements.{there}

no_start : (setup : Setup) (a : Awaits) → AwaitsReply setup a → a ≡ Start → ⊥
no_start setup a awaits start = subst (AwaitsReply setup) start awaits

module _ {V T : Type 0} where
  -- the first launch of an object awaits a reply, where all of them do
  first_awaits :
      (setup : Setup) (live : List (Object V T)) (id : ℕ) (w : Work T) (ws : List (Work T))
      → AllByRecursion (λ o. (o.works ≡ []) ⊎ HasFirst o.works (λ x. AwaitsReply setup x.awaits)) live → works_in (object_of live id) ≡ w ∷ ws → AwaitsReply setup w.awaits
  first_awaits setup live id w ws all e =
      elim (option_cases (object_of live id)) [
        | inl none ↦ absurd (let no : [] ≡ w ∷ ws = sym (ap works_in none) ∙ e in cc)
        | inr (o, at) ↦
            let works : o.works ≡ w ∷ ws = sym (ap works_in at) ∙ e in
            elim (all_found (λ x. (x.works ≡ []) ⊎ HasFirst x.works (λ y. AwaitsReply setup y.awaits)) id live o at all) [
              | inl none ↦ absurd (let no : [] ≡ w ∷ ws = sym none ∙ works in cc)
              | inr first ↦ subst (λ l. HasFirst l (λ y. AwaitsReply setup y.awaits)) works first
            ]
      ]

module _ {V O R T Table Client Owner : Type 0} (theory : Theory V O R T Table Client Owner) (kind : Kind V O R T) (t : Trustee V Table O R T Client Owner) where
  pub going_parts :
      (opening : State V O R T) → IsGoing theory kind opening t
      → AreGoing kind opening (theory.trustee_view t.side).log (ups_of theory t) t.number t.held.items t.since.items t.state t.lanes.items
  going_parts opening is = record {
    numbered = is.number;
    holds = is.held;
    sides = let sides = is.sides in let many = length-map t.above.items theory.client_view in omega (arith, sides, many);
    as_many = is.above.as_many;
    at = is.above.stages;
    current = is.current;
    awaited = is.awaited;
    kept = is.lanes;
    idle = is.idle;
    said = is.said;
  }

  pub is_going : (tables : List Table) → IsMidway theory kind tables t → IsGoingOn V O R T kind t.number t.held.items t.since.items t.state t.lanes.items
  is_going tables midway =
      let (own, at, (has, going)) = there (λ table. theory.HasTrustee table t.side × IsGoing theory kind (theory.opening table) t) (slice_get tables t.number) midway.home in
      (theory.opening own, (theory.trustee_view t.side).log, ups_of theory t, going_parts (theory.opening own) going)

  -- it went on
  module _ (u : Trustee V Table O R T Client Owner) (only : u ≡ record t { state = u.state; since = u.since; lanes = u.lanes })
      (goes : GoesOnWith kind t.number t.held.items t.since.items u.since.items t.state u.state t.lanes.items u.lanes.items)
      (told : AreTold u.lanes.items) where
    abbrev after : Trustee V Table O R T Client Owner
    after = record t { state = u.state; since = u.since; lanes = u.lanes }

    serves_on : (opening : State V O R T) → IsGoing theory kind opening t → IsServing theory kind opening after
    serves_on opening is =
        let now = goes opening (theory.trustee_view t.side).log (ups_of theory t) (going_parts opening is) in
        record {
          number = is.number;
          clients = is.clients;
          current = now.current;
          free = is.free;
          sides = is.sides;
          above = record { as_many = now.as_many; places = is.above.places; asked = is.above.asked; stages = now.at };
          nested = is.nested;
          held = is.held;
          awaited = now.awaited;
          lanes = now.kept;
          told = told;
          idle = now.idle;
          said = now.said;
        }

    pub is_ready : (tables : List Table) → IsMidway theory kind tables t → IsReady theory kind tables u
    is_ready tables midway =
        let (own, at, (has, going)) = there (λ table. theory.HasTrustee table t.side × IsGoing theory kind (theory.opening table) t) (slice_get tables t.number) midway.home in
        subst (λ x. IsReady theory kind tables x) (sym only)
        (record {
          home = subst (λ o. IsSomeAnd o (λ table. theory.HasTrustee table t.side × IsServing theory kind (theory.opening table) after)) (sym at)
              (has, serves_on (theory.opening own) going);
          built = midway.built;
          above = midway.above;
        })

    pub all_wait :
        (opening : State V O R T) → IsGoing theory kind opening t → AllAwait kind u.state → (id : ℕ) (w : Work T) (ws : List (Work T))
        → works_at (state_after kind opening ((theory.trustee_view t.side).log ++ u.since.items)) id ≡ w ∷ ws
        → IsWaiting kind opening ((theory.trustee_view t.side).log ++ u.since.items) id w
    all_wait opening is all id w ws e =
        let now = goes opening (theory.trustee_view t.side).log (ups_of theory t) (going_parts opening is) in
        let log = (theory.trustee_view t.side).log ++ u.since.items in
        let awaits = first_awaits opening.setup (state_after kind opening log).live id w ws (all opening log now.current.represents) e in
        elim (now.awaited.firsts id w ws e) [
          | inl start ↦ absurd (no_start opening.setup w.awaits awaits start)
          | inr waits ↦ waits
        ]
