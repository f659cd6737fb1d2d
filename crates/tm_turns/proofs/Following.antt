-- Turns keep what clients asked, in its order, and trustees' logs only grow.
use Rattle.std.proofs.Common.{◌≡◌, ℕ, zero, suc, inl, inr, Bool, List, [], ◌∷◌, ◌++◌, length, take, drop, refl, sym, ◌∙◌, ap, subst, arith, append_assoc, append-nil, take-append-drop}
use Rattle.std.specs.Prelude.{slice_get, slice_set}
use Rattle.std.specs.List.{AllByRecursion}
use Rattle.std.specs.declared.option.Option.TheVariants.{Some}
use Rattle.std.proofs.lemmas.Bool.{cases_eq}
use Rattle.std.proofs.lemmas.Option.{slice_get_within}
use Rattle.tm_seq.specs.Kind.{Kind}
use Rattle.tm_batch.specs.declared.limits.TheConstants.{MOST_REQUESTS}
use Rattle.tm_batch.specs.declared.config.Config.{Config}
use Rattle.tm_batch.specs.declared.config.First.{First}
use Rattle.tm_batch.specs.declared.message.Request.{Request}
use Rattle.tm_batch.specs.declared.message.Request.TheVariants.{Entrust, Apply, Launch, Grant, Release, Reclaim, Bye}
use Rattle.tm_model.specs.Lists.{IsPrefix}
use Rattle.tm_pair.specs.Plain.{client_at, trustee_at, plain_theory}
use Rattle.tm_pair.specs.declared.plain.PlainTable.{PlainTable}
use Rattle.tm_pair.specs.declared.plain.PlainClient.{PlainClient}
use Rattle.tm_trustee.proofs.Elements.{set_other, set_here, same_element, element_at, there_too}
use Rattle.tm_trustee.specs.declared.served.Served.{Served}
use Rattle.tm_client.specs.Lanes.{IsAccepted, asks_in, accepted}
use Rattle.tm_client.specs.Turns.{HasTurned, IsDue}
use Rattle.tm_client.specs.declared.answers.Turn.{Turn}
use Rattle.tm_client.specs.declared.answers.Turn.TheVariants.{Sent, Pending, Got, Idle}
use Rattle.tm_client.specs.declared.books.Books.{Books}
use Rattle.tm_turns.specs.Whole.{OneClient, OneLane, OneTrustee, HasLane, AreOf, AreTurns, Keeps}
use Rattle.tm_turns.specs.Going.{TurnsAt, TurnsBelow, ServesAt, Goes, AllGo, Rounds, HasRun}
use Rattle.tm_turns.specs.declared.turns.Turns.{Turns}

all_take : {X : Type 0} (P : X → Type 0) (n : ℕ) (xs : List X) → AllByRecursion P xs → AllByRecursion P (take n xs)
all_take P zero xs all = tt
all_take P (suc n) [] all = tt
all_take P (suc n) (x ∷ xs) all = (all.0, all_take P n xs all.1)

-- what was written over an element of a list that stays is that element
written_same : {X : Type 0} (xs : List X) (i : ℕ) (x y : X) → slice_get xs i ≡ Some x → slice_set xs i y ≡ xs → y ≡ x
written_same xs i x y at same =
    same_element xs i x y at (subst (λ ys. slice_get ys i ≡ Some y) same (set_here xs i y (slice_get_within xs i x at)))

prefix_same : {X : Type 0} (xs : List X) → IsPrefix xs xs
prefix_same xs = ([], sym (append-nil xs))

pub prefix_on : {X : Type 0} (xs ys zs : List X) → IsPrefix xs ys → IsPrefix ys zs → IsPrefix xs zs
prefix_on xs ys zs (a, e) (b, f) = (a ++ b, f ∙ ap (λ l. l ++ b) e ∙ append_assoc xs a b)

module _ {V O R T : Type 0} where
  asks_join : (xs ys : List (Request V O R T)) → asks_in (xs ++ ys) ≡ asks_in xs ++ asks_in ys
  asks_join [] ys = refl
  asks_join (Bye ∷ xs) ys = asks_join xs ys
  asks_join (Entrust v ∷ xs) ys = ap (λ zs. Entrust v ∷ zs) (asks_join xs ys)
  asks_join (Apply n op ∷ xs) ys = ap (λ zs. Apply n op ∷ zs) (asks_join xs ys)
  asks_join (Launch n task ∷ xs) ys = ap (λ zs. Launch n task ∷ zs) (asks_join xs ys)
  asks_join (Grant n d ∷ xs) ys = ap (λ zs. Grant n d ∷ zs) (asks_join xs ys)
  asks_join (Release n ∷ xs) ys = ap (λ zs. Release n ∷ zs) (asks_join xs ys)
  asks_join (Reclaim n ∷ xs) ys = ap (λ zs. Reclaim n ∷ zs) (asks_join xs ys)

  -- what a call accepts is no Bye
  asks_of : (qs : List (Request V O R T)) → AllByRecursion IsAccepted qs → asks_in qs ≡ qs
  asks_of [] all = refl
  asks_of (Bye ∷ qs) all = absurd all.0
  asks_of (Entrust v ∷ qs) all = ap (λ zs. Entrust v ∷ zs) (asks_of qs all.1)
  asks_of (Apply n op ∷ qs) all = ap (λ zs. Apply n op ∷ zs) (asks_of qs all.1)
  asks_of (Launch n task ∷ qs) all = ap (λ zs. Launch n task ∷ zs) (asks_of qs all.1)
  asks_of (Grant n d ∷ qs) all = ap (λ zs. Grant n d ∷ zs) (asks_of qs all.1)
  asks_of (Release n ∷ qs) all = ap (λ zs. Release n ∷ zs) (asks_of qs all.1)
  asks_of (Reclaim n ∷ qs) all = ap (λ zs. Reclaim n ∷ zs) (asks_of qs all.1)

  -- what goes of what waits stands in the same order behind what was sent
  part_sent :
      (sent waits b rest : List (Request V O R T)) → AllByRecursion IsAccepted waits → b ≡ take MOST_REQUESTS waits → rest ≡ drop MOST_REQUESTS waits
      → asks_in (sent ++ b) ++ rest ≡ asks_in sent ++ waits
  part_sent sent waits b rest all is left =
      let asks : asks_in b ≡ take MOST_REQUESTS waits = ap (λ (qs : List (Request V O R T)). asks_in qs) is ∙ asks_of (take MOST_REQUESTS waits) (all_take IsAccepted MOST_REQUESTS waits all) in
      ap (λ xs. xs ++ rest) (asks_join sent b) ∙ ap (λ xs. (asks_in sent ++ xs) ++ rest) asks ∙ ap (λ xs. (asks_in sent ++ take MOST_REQUESTS waits) ++ xs) left
      ∙ append_assoc (asks_in sent) (take MOST_REQUESTS waits) (drop MOST_REQUESTS waits)
      ∙ ap (λ xs. asks_in sent ++ xs) (take-append-drop MOST_REQUESTS waits)

  none_sent :
      (sent waits b rest : List (Request V O R T)) → waits ≡ [] → asks_in b ≡ [] → rest ≡ [] → asks_in (sent ++ b) ++ rest ≡ asks_in sent ++ waits
  none_sent sent waits b rest none asks left =
      ap (λ xs. xs ++ rest) (asks_join sent b) ∙ ap (λ xs. (asks_in sent ++ xs) ++ rest) asks ∙ ap (λ xs. (asks_in sent ++ []) ++ xs) left
      ∙ append-nil (asks_in sent ++ []) ∙ ap (λ xs. asks_in sent ++ xs) (sym none)

module _ {V C O R T : Type 0} where
  -- a lane has the same accepted requests, in their order, whether they were sent or wait, and counts and is closed as before
  pub record SameAsked (lane becomes : OneLane V C O R T) : Type 0 where
    pub same : accepted client_at becomes ≡ accepted client_at lane
    pub closing : becomes.closing ≡ lane.closing
    pub counting : becomes.counting ≡ lane.counting

  same_asked : (lane becomes : OneLane V C O R T) → becomes ≡ lane → SameAsked lane becomes
  same_asked lane becomes is = record {
    same = ap (λ (l : OneLane V C O R T). accepted client_at l) is;
    closing = ap (λ (l : OneLane V C O R T). l.closing) is;
    counting = ap (λ (l : OneLane V C O R T). l.counting) is;
  }

  asked_on : (a b c : OneLane V C O R T) → SameAsked a b → SameAsked b c → SameAsked a c
  asked_on a b c f g = record { same = g.same ∙ f.same; closing = g.closing ∙ f.closing; counting = g.counting ∙ f.counting }

  -- from one whole to another each lane has the same accepted requests, and each trustee's log grew
  pub record Follows (old new : Turns V C O R T) : Type 0 where
    pub lanes : (c t : ℕ) (lane : OneLane V C O R T) → HasLane old c t lane
        → (becomes : OneLane V C O R T) × HasLane new c t becomes × SameAsked lane becomes
    pub logs : (t : ℕ) (trustee : OneTrustee V O R T) → slice_get old.trustees.items t ≡ Some trustee
        → (becomes : OneTrustee V O R T) × (slice_get new.trustees.items t ≡ Some becomes)
        × IsPrefix (trustee_at trustee.side).log (trustee_at becomes.side).log

  pub follows_same : (old new : Turns V C O R T) → new ≡ old → Follows old new
  follows_same old new is = subst (λ x. Follows old x) (sym is) (record {
    lanes = λ c t lane has. (lane, has, same_asked lane lane refl);
    logs = λ t trustee of. (trustee, of, prefix_same (trustee_at trustee.side).log);
  })

  pub follows_on : (a b c : Turns V C O R T) → Follows a b → Follows b c → Follows a c
  follows_on a b c f g = record {
    lanes = λ k t lane has.
        let (mid, has_mid, one) = f.lanes k t lane has in
        let (last, has_last, two) = g.lanes k t mid has_mid in
        (last, has_last, asked_on lane mid last one two);
    logs = λ t trustee of.
        let (mid, of_mid, one) = f.logs t trustee of in
        let (last, of_last, two) = g.logs t mid of_mid in
        (last, of_last, prefix_on (trustee_at trustee.side).log (trustee_at mid.side).log (trustee_at last.side).log one two);
  }

  module _ (kind : Kind V O R T) where
    due_asked :
        (lane becomes : OneLane V C O R T) (b : List (Request V O R T)) → AllByRecursion IsAccepted lane.waits.items
        → IsDue (plain_theory kind) lane b becomes.waits.items → (client_at becomes.side).sent ≡ (client_at lane.side).sent ++ b
        → accepted client_at becomes ≡ accepted client_at lane
    due_asked lane becomes b all (inl waits) sent =
        ap (λ (qs : List (Request V O R T)). asks_in qs ++ becomes.waits.items) sent
        ∙ part_sent (client_at lane.side).sent lane.waits.items b becomes.waits.items all waits.1 waits.2
    due_asked lane becomes b all (inr (inl bye)) sent =
        ap (λ (qs : List (Request V O R T)). asks_in qs ++ becomes.waits.items) sent
        ∙ none_sent (client_at lane.side).sent lane.waits.items b becomes.waits.items bye.0.0 (ap (λ (qs : List (Request V O R T)). asks_in qs) bye.1) bye.2
    due_asked lane becomes b all (inr (inr fetch)) sent =
        ap (λ (qs : List (Request V O R T)). asks_in qs ++ becomes.waits.items) sent
        ∙ none_sent (client_at lane.side).sent lane.waits.items b becomes.waits.items fetch.0.0 (ap (λ (qs : List (Request V O R T)). asks_in qs) fetch.1) fetch.2

    kept_asked :
        (lane becomes : OneLane V C O R T) → (client_at becomes.side).sent ≡ (client_at lane.side).sent → becomes.waits ≡ lane.waits
        → accepted client_at becomes ≡ accepted client_at lane
    kept_asked lane becomes sent waits =
        ap (λ (qs : List (Request V O R T)). asks_in qs ++ becomes.waits.items) sent ∙ ap (λ w. asks_in (client_at lane.side).sent ++ w.items) waits

    -- a turn keeps what was accepted
    turn_asked :
        (t : ℕ) (answer : Turn) (was now : PlainTable V O R T) (old new : Books V C (PlainClient V O R T) O R T)
        (h : HasTurned (plain_theory kind) kind t answer was now old new) → AllByRecursion IsAccepted h.lane.waits.items → SameAsked h.lane h.becomes
    turn_asked t (Got n) was now old new h all =
        let got = h.tells in
        record { same = kept_asked h.lane h.becomes got.gets.sent got.waits; closing = h.turns.closing; counting = got.counting }
    turn_asked t Pending was now old new h all =
        let looked = h.tells in
        record {
          same = kept_asked h.lane h.becomes looked.pending.sent (ap (λ (l : OneLane V C O R T). l.waits) looked.stays);
          closing = h.turns.closing;
          counting = ap (λ (l : OneLane V C O R T). l.counting) looked.stays;
        }
    turn_asked t (Sent n) was now old new h all =
        let sent = h.tells in
        record {
          same = due_asked h.lane h.becomes sent.batch.requests.items all sent.due sent.publishes.sent;
          closing = h.turns.closing;
          counting = sent.counting;
        }
    turn_asked t Idle was now old new h all =
        same_asked h.lane h.becomes (
        written_same old.lanes.items t h.lane h.becomes h.turns.of_lane
        (sym h.turns.lanes ∙ ap (λ (b : Books V C (PlainClient V O R T) O R T). b.lanes.items) h.tells.kept)
        )

    module _ (c t : ℕ) (answer : Turn) (old new : Turns V C O R T) (is : TurnsAt kind c t answer old new) (config : Config) (first : List (First V))
        (are : AreOf kind config first old) where
      the_turn : SameAsked is.turned.lane is.turned.becomes
      the_turn =
          let (number, many, client_is) = are.clients c is.client is.of_client in
          turn_asked t answer is.was is.now is.client.books is.becomes.books is.turned (client_is.lanes t is.turned.lane is.turned.turns.of_lane).waits

      -- the lanes of the client
      of_client : (s : ℕ) (lane : OneLane V C O R T) → slice_get is.client.books.lanes.items s ≡ Some lane
          → (becomes : OneLane V C O R T) × (slice_get is.becomes.books.lanes.items s ≡ Some becomes) × SameAsked lane becomes
      of_client s lane of =
          elim (cases_eq s t) [
            | inl at ↦
                let here : slice_get is.client.books.lanes.items t ≡ Some lane = subst (λ k. slice_get is.client.books.lanes.items k ≡ Some lane) at of in
                let same = same_element is.client.books.lanes.items t is.turned.lane lane is.turned.turns.of_lane here in (
                  is.turned.becomes,
                  subst (λ xs. slice_get xs s ≡ Some is.turned.becomes) (sym is.turned.turns.lanes)
                      (
                      subst (λ k. slice_get (slice_set is.client.books.lanes.items t is.turned.becomes) k ≡ Some is.turned.becomes) (sym at)
                      (set_here is.client.books.lanes.items t is.turned.becomes (slice_get_within is.client.books.lanes.items t lane here))
                      ),
                  subst (λ l. SameAsked l is.turned.becomes) (sym same) the_turn,
                )
            | inr ne ↦ (
              lane,
              ap (λ xs. slice_get xs s) is.turned.turns.lanes ∙ set_other is.client.books.lanes.items t s is.turned.becomes ne ∙ of,
              same_asked lane lane refl,
            )
          ]

      pub turn_follows : Follows old new
      turn_follows = record {
        lanes = λ k s lane has.
            elim (cases_eq k c) [
              | inl at ↦
                  let here : slice_get old.clients.items c ≡ Some has.client = subst (λ n. slice_get old.clients.items n ≡ Some has.client) at has.of_client in
                  let same = same_element old.clients.items c is.client has.client is.of_client here in
                  let (becomes, of, asked) = of_client s lane (subst (λ (x : OneClient V C O R T). slice_get x.books.lanes.items s ≡ Some lane) same has.of_lane) in
                  let has_new : HasLane new k s becomes =
                  record {
                    client = is.becomes;
                    of_client =
                        subst (λ xs. slice_get xs k ≡ Some is.becomes) (sym is.clients)
                        (
                        subst (λ n. slice_get (slice_set old.clients.items c is.becomes) n ≡ Some is.becomes) (sym at)
                        (set_here old.clients.items c is.becomes (slice_get_within old.clients.items c has.client here))
                        );
                    of_lane = of;
                  } in
                  (becomes, has_new, asked)
              | inr ne ↦
                  let has_new : HasLane new k s lane =
                  record {
                    client = has.client;
                    of_client = ap (λ xs. slice_get xs k) is.clients ∙ set_other old.clients.items c k is.becomes ne ∙ has.of_client;
                    of_lane = has.of_lane;
                  } in
                  (lane, has_new, same_asked lane lane refl)
            ];
        logs = λ s trustee of. (
          trustee,
          subst (λ xs. slice_get xs.items s ≡ Some trustee) (sym is.trustees) of,
          prefix_same (trustee_at trustee.side).log,
        );
      }

    -- turns keep the whole of one build
    still_turns : (old new : Turns V C O R T) → Keeps kind old new → AreTurns kind old → AreTurns kind new
    still_turns old new keeps (config, first, are) = (config, first, keeps config first are)

    keeps_same : (old new : Turns V C O R T) → new ≡ old → Keeps kind old new
    keeps_same old new same config first are = subst (λ x. AreOf kind config first x) (sym same) are

    keeps_on : (a b c : Turns V C O R T) → Keeps kind a b → Keeps kind b c → Keeps kind a c
    keeps_on a b c f g config first are = g config first (f config first are)

    below_keeps : (c n : ℕ) (moved : Bool) (old new : Turns V C O R T) → TurnsBelow kind c n moved old new → Keeps kind old new
    unfolding TurnsBelow
    below_keeps c zero moved old new (none, same) = keeps_same old new same
    below_keeps c (suc n) moved old new (mid, before, answer, below, here, is) =
        keeps_on old mid new (below_keeps c n before old mid below) here.keeps

    goes_keep : (k : ℕ) (moved : Bool) (old new : Turns V C O R T) → Goes kind k moved old new → Keeps kind old new
    goes_keep k moved old new (inl client) = below_keeps k (length old.tables.items) moved old new client.1
    goes_keep k moved old new (inr (inl (t, at, lt, (served, serves, is)))) = serves.keeps
    goes_keep k moved old new (inr (inr (beyond, none, same))) = keeps_same old new same

    all_keep : (ks : List ℕ) (n : ℕ) (old new : Turns V C O R T) → AllGo kind ks n old new → Keeps kind old new
    unfolding AllGo
    all_keep [] n old new (none, same) = keeps_same old new same
    all_keep (k ∷ ks) n old new (mid, moved, more, goes, rest, is) =
        keeps_on old mid new (goes_keep k moved old mid goes) (all_keep ks more mid new rest)

    rounds_keep : (rounds n : ℕ) (old new : Turns V C O R T) → Rounds kind rounds n old new → Keeps kind old new
    unfolding Rounds
    rounds_keep zero n old new (none, same) = keeps_same old new same
    rounds_keep (suc rounds) n old new (mid, before, more, rest, round, some, is) =
        keeps_on old mid new (rounds_keep rounds before old mid rest) (all_keep _ more mid new round)

    below_follows :
        (c n : ℕ) (moved : Bool) (old new : Turns V C O R T) → AreTurns kind old → TurnsBelow kind c n moved old new → Follows old new
    unfolding TurnsBelow
    below_follows c zero moved old new all (none, same) = follows_same old new same
    below_follows c (suc n) moved old new (config, first, are) (mid, before, answer, below, here, is) =
        follows_on old mid new (below_follows c n before old mid (config, first, are) below)
        (turn_follows c n answer mid new here config first (below_keeps c n before old mid below config first are))

    serve_follows :
        (t : ℕ) (served : Served) (old new : Turns V C O R T) → AreTurns kind old → ServesAt kind t served old new → Follows old new
    serve_follows t served old new (config, first, are) is =
        let (number, ready) = are.trustees t is.trustee is.of_trustee in
        let lt = slice_get_within old.trustees.items t is.trustee is.of_trustee in
        let trustees = are.as_many_trustees in
        let tables = are.as_many_tables in
        let (was, at) = element_at old.tables.items is.trustee.number (omega (arith, lt, trustees, tables, number)) in
        let (now, e) = there_too old.tables.items new.tables.items is.trustee.number was is.tables.as_many at in
        let turned = is.turned was now at e in
        record {
          lanes = λ c s lane has.
              let has_new : HasLane new c s lane =
              record {
                client = has.client;
                of_client = subst (λ xs. slice_get xs.items c ≡ Some has.client) (sym is.clients) has.of_client;
                of_lane = has.of_lane;
              } in
              (lane, has_new, same_asked lane lane refl);
          logs = λ s trustee of.
              elim (cases_eq s t) [
                | inl here ↦
                    let at_t : slice_get old.trustees.items t ≡ Some trustee = subst (λ k. slice_get old.trustees.items k ≡ Some trustee) here of in
                    let same = same_element old.trustees.items t is.trustee trustee is.of_trustee at_t in (
                      is.becomes,
                      subst (λ xs. slice_get xs s ≡ Some is.becomes) (sym is.trustees)
                          (subst (λ k. slice_get (slice_set old.trustees.items t is.becomes) k ≡ Some is.becomes) (sym here) (set_here old.trustees.items t is.becomes lt)),
                      subst (λ (x : OneTrustee V O R T). IsPrefix (trustee_at x.side).log (trustee_at is.becomes.side).log) (sym same) turned.log,
                    )
                | inr ne ↦ (
                  trustee,
                  ap (λ xs. slice_get xs s) is.trustees ∙ set_other old.trustees.items t s is.becomes ne ∙ of,
                  prefix_same (trustee_at trustee.side).log,
                )
              ];
        }

    goes_follows : (k : ℕ) (moved : Bool) (old new : Turns V C O R T) → AreTurns kind old → Goes kind k moved old new → Follows old new
    goes_follows k moved old new all (inl client) = below_follows k (length old.tables.items) moved old new all client.1
    goes_follows k moved old new all (inr (inl (t, at, lt, (served, serves, is)))) = serve_follows t served old new all serves
    goes_follows k moved old new all (inr (inr (beyond, none, same))) = follows_same old new same

    all_follow : (ks : List ℕ) (n : ℕ) (old new : Turns V C O R T) → AreTurns kind old → AllGo kind ks n old new → Follows old new
    unfolding AllGo
    all_follow [] n old new all (none, same) = follows_same old new same
    all_follow (k ∷ ks) n old new all (mid, moved, more, goes, rest, is) =
        follows_on old mid new (goes_follows k moved old mid all goes)
        (all_follow ks more mid new (still_turns old mid (goes_keep k moved old mid goes) all) rest)

    rounds_follow : (rounds n : ℕ) (old new : Turns V C O R T) → AreTurns kind old → Rounds kind rounds n old new → Follows old new
    unfolding Rounds
    rounds_follow zero n old new all (none, same) = follows_same old new same
    rounds_follow (suc rounds) n old new all (mid, before, more, rest, round, some, is) =
        follows_on old mid new (rounds_follow rounds before old mid all rest)
        (all_follow _ more mid new (still_turns old mid (rounds_keep rounds before old mid rest) all) round)

    -- a run keeps what clients asked, in its order, and each log only grows
    pub run_follows : (order : List ℕ) (n : ℕ) (old new : Turns V C O R T) → AreTurns kind old → HasRun kind order n old new → Follows old new
    run_follows order n old new all run =
        let listed = still_turns old run.listed (all_keep order run.first old run.listed run.list) all in
        let last = still_turns run.listed run.last (rounds_keep run.rounds run.then run.listed run.last run.goes_round) listed in
        follows_on old run.listed new (all_follow order run.first old run.listed all run.list)
        (
        follows_on run.listed run.last new (rounds_follow run.rounds run.then run.listed run.last listed run.goes_round)
        (all_follow _ 0 run.last new last run.quiet)
        )
