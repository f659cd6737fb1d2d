-- What launches and applies of one object ask is orderly, and the tests of launched work go on through each call.
use Rattle.std.proofs.Common.{◌≡◌, ◌≢◌, ℕ, ◌+◌, ◌<◌, ◌≤◌, true, false, List, [], ◌∷◌, ◌++◌, length, refl, sym, ◌∙◌, ap, subst, arith, length-append}
use Rattle.std.specs.Prelude.{slice_get, slice_set, slice_index_or, IsSomeAnd, OnOk, OnErr}
use Rattle.std.specs.List.{AllByRecursion}
use Rattle.std.specs.declared.option.Option.TheVariants.{Some}
use Rattle.std.specs.declared.result.Result.{Result}
use Rattle.std.specs.declared.result.Result.TheVariants.{Ok, Err}
use Rattle.tm_seq.specs.Counting.{counter_kind}
use Rattle.tm_seq.specs.declared.counter.Counter.{Counter}
use Rattle.tm_seq.specs.declared.counter.CounterOp.{CounterOp}
use Rattle.tm_seq.specs.declared.counter.CounterReply.{CounterReply}
use Rattle.tm_seq.specs.declared.counter.CounterTask.{CounterTask}
use Rattle.tm_batch.specs.declared.message.AnswerBatch.{AnswerBatch}
use Rattle.tm_batch.specs.declared.message.Request.{Request}
use Rattle.tm_batch.specs.declared.message.Request.TheVariants.{Entrust, Apply, Launch, Grant, Release, Reclaim, Bye}
use Rattle.tm_model.specs.Holds.{Names, gave, came, has_bye, launches_in}
use Rattle.tm_model.specs.Orderly.{GrantsBelow, IsOrderly}
use Rattle.tm_model.specs.State.{holds_at}
use Rattle.tm_pair.specs.Views.{ClientView}
use Rattle.tm_pair.specs.Calls.{Publishes, Collects}
use Rattle.tm_pair.specs.Theory.{Theory, KeepsSides}
use Rattle.tm_pair.specs.declared.table.Collected.{Collected}
use Rattle.std.proofs.lemmas.Option.{slice_get_within}
use Rattle.tm_trustee.specs.Tables.{IsReady, KeepsTables}
use Rattle.tm_trustee.proofs.Elements.{there}
use Rattle.tm_trustee.specs.Turn.{KeepsParts}
use Rattle.tm_tests.specs.Driving.{IsDriven}
use Rattle.tm_tests.specs.Launching.{launching, IsWork, HasAsked, IsPlayed}
use Rattle.tm_tests.proofs.DrivenAsked.{stays}
use Rattle.tm_tests.proofs.DrivenKept.{still_of, seat_of, call_seated, call_keeps}
use Rattle.tm_tests.proofs.DrivenTurned.{turn_driven, turn_keeps_others}
use Rattle.tm_trustee.specs.declared.trustee.Trustee.{Trustee}

module _ {V O R T : Type 0} where
  both_works : (xs ys : List (Request V O R T)) → AllByRecursion IsWork xs → AllByRecursion IsWork ys → AllByRecursion IsWork (xs ++ ys)
  both_works [] ys all more = more
  both_works (x ∷ xs) ys all more = (all.0, both_works xs ys all.1 more)

  no_bye : (qs : List (Request V O R T)) → AllByRecursion IsWork qs → has_bye qs ≡ false
  no_bye [] all = refl
  no_bye (Apply n op ∷ qs) all = no_bye qs all.1
  no_bye (Launch n task ∷ qs) all = no_bye qs all.1
  no_bye (q ∷ qs) all = absurd all.0

  gives_none : (id : ℕ) (qs : List (Request V O R T)) → AllByRecursion IsWork qs → gave id qs ≡ 0
  gives_none id [] all = refl
  gives_none id (Apply n op ∷ qs) all = gives_none id qs all.1
  gives_none id (Launch n task ∷ qs) all = gives_none id qs all.1
  gives_none id (q ∷ qs) all = absurd all.0

  few_launches : (qs : List (Request V O R T)) → launches_in qs ≤ length qs
  few_launches [] = omega arith
  few_launches (Launch n task ∷ qs) = let more = few_launches qs in omega (arith, more)
  few_launches (Entrust v ∷ qs) = let more = few_launches qs in omega (arith, more)
  few_launches (Apply n op ∷ qs) = let more = few_launches qs in omega (arith, more)
  few_launches (Grant n d ∷ qs) = let more = few_launches qs in omega (arith, more)
  few_launches (Release n ∷ qs) = let more = few_launches qs in omega (arith, more)
  few_launches (Reclaim n ∷ qs) = let more = few_launches qs in omega (arith, more)
  few_launches (Bye ∷ qs) = let more = few_launches qs in omega (arith, more)

  no_grants : (clients : ℕ) (qs : List (Request V O R T)) → AllByRecursion IsWork qs → AllByRecursion (GrantsBelow clients) qs
  no_grants clients [] all = tt
  no_grants clients (Apply n op ∷ qs) all = (tt, no_grants clients qs all.1)
  no_grants clients (Launch n task ∷ qs) all = (tt, no_grants clients qs all.1)
  no_grants clients (q ∷ qs) all = absurd all.0

  -- what a work names is the object of id 1
  names_one : (q : Request V O R T) (id : ℕ) → IsWork q → Names q id → id ≡ 1
  names_one (Apply n op) id work names = sym names ∙ work
  names_one (Launch n task) id work names = sym names ∙ work
  names_one q id work names = absurd work

  split_works : (before after : List (Request V O R T)) (q : Request V O R T) → AllByRecursion IsWork (before ++ q ∷ after) → AllByRecursion IsWork before × IsWork q
  split_works [] after q all = (tt, all.0)
  split_works (b ∷ before) after q all = let rest = split_works before after q all.1 in ((all.0, rest.0), rest.1)

module _ (view : ClientView Counter CounterOp CounterReply CounterTask) (count : ℕ) (asked : HasAsked count view)
    (b : List (Request Counter CounterOp CounterReply CounterTask)) (works : AllByRecursion IsWork b) (few : count + length b ≤ 64) where
  held_all :
      (before after : List (Request Counter CounterOp CounterReply CounterTask)) (q : Request Counter CounterOp CounterReply CounterTask) (id : ℕ)
      → b ≡ before ++ q ∷ after → Names q id → gave id (view.sent ++ before) < came (launching 1) 0 view.sent view.got id
  held_all before after q id e names =
      let both = split_works before after q (subst (λ l. AllByRecursion IsWork l) e works) in
      let is : id ≡ 1 = names_one q id both.1 names in
      let none = gives_none id (view.sent ++ before) (both_works view.sent before asked.works both.0) in
      let one : holds_at (launching 1) 0 id ≡ 1 = ap (λ i. holds_at (launching 1) 0 i) is in
      omega (arith, none, one)

  -- so many works are orderly
  pub works_orderly : IsOrderly (launching 1) view.place view.sent view.got b
  works_orderly =
      subst (λ c. IsOrderly (launching 1) c view.sent view.got b) (sym asked.place)
      (record {
        held = held_all;
        grants = no_grants 1 b works;
        launches =
            let most = few_launches (view.sent ++ b) in let both = length-append view.sent b in let size = asked.size in
            omega (arith, most, both, size, few);
        bye = λ e. let no : true ≡ false = sym e ∙ no_bye b works in absurd cc;
        last = λ e. let no : true ≡ false = sym e ∙ no_bye view.sent asked.works in absurd cc;
        trustee = λ le. absurd (omega (arith, le));
      })

module _ {V O R T : Type 0} where
  -- after they were sent, or were not
  pub has_asked :
      {A E : Type 0} (r : Result A E) (b : List (Request V O R T)) (room count more : ℕ) (old new : ClientView V O R T) → OnOk r (Publishes b room old new)
      → OnErr r (new ≡ old) → HasAsked count old → AllByRecursion IsWork b → count + length b ≤ more → HasAsked more new
  has_asked (Ok x) b room count more old new ok err asked works few = record {
    place = ok.place ∙ asked.place;
    works = subst (λ l. AllByRecursion IsWork l) (sym ok.sent) (both_works old.sent b asked.works works);
    size =
        let sent = ap (λ l. length l) ok.sent in let both = length-append old.sent b in let size = asked.size in
        omega (arith, sent, both, size, few);
  }
  has_asked (Err x) b room count more old new ok err asked works few =
      subst (λ v. HasAsked more v) (sym err) (record { place = asked.place; works = asked.works; size = let size = asked.size in omega (arith, size, few) })

  -- a look leaves what was asked
  pub still_asked : (found : Collected V O R T) (count : ℕ) (old new : ClientView V O R T) → Collects old new found → HasAsked count old → HasAsked count new
  still_asked found count old new collects asked =
      let (place, sent) = stays old new found collects in
      record {
        place = place ∙ asked.place;
        works = subst (λ l. AllByRecursion IsWork l) (sym sent) asked.works;
        size = let same = ap (λ l. length l) sent in let size = asked.size in omega (arith, same, size);
      }

module _ {Table Client Owner : Type 0} (theory : Theory Counter CounterOp CounterReply CounterTask Table Client Owner) (tables : List Table)
    (middle greatest : Trustee Counter Table CounterOp CounterReply CounterTask Client Owner) (client : Client) (asked : ℕ)
    (played : IsPlayed theory tables middle greatest client asked) where
  -- after a turn of the middle trustee
  pub middle_turned :
      (new : List Table) (m : Trustee Counter Table CounterOp CounterReply CounterTask Client Owner) → IsReady theory counter_kind new m → KeepsParts middle m
      → KeepsTables theory tables new middle.number (middle.clients + middle.number) → IsPlayed theory new m greatest client asked
  middle_turned new m ready parts keeps =
      let is = played.middle.number in
      record {
        middle = turn_driven theory tables new 1 middle m played.middle ready parts;
        greatest = (turn_keeps_others theory tables new 1 middle played.middle keeps).trustees 2 greatest (λ e. absurd cc) played.greatest;
        seated =
            still_of theory theory.HasClient (launching 1) tables new 1 client keeps.as_many keeps.openings
            (λ x y ex ey.
            keeps.clients_here x y (subst (λ k. slice_get tables k ≡ Some x) (sym is) ex) (subst (λ k. slice_get new k ≡ Some y) (sym is) ey) client)
            played.seated;
        asked = played.asked;
        few = played.few;
      }

  -- after one of the greatest
  pub greatest_turned :
      (new : List Table) (g : Trustee Counter Table CounterOp CounterReply CounterTask Client Owner) → IsReady theory counter_kind new g → KeepsParts greatest g
      → KeepsTables theory tables new greatest.number (greatest.clients + greatest.number) → IsPlayed theory new middle g client asked
  greatest_turned new g ready parts keeps =
      let is = played.greatest.number in
      record {
        middle = (turn_keeps_others theory tables new 2 greatest played.greatest keeps).trustees 1 middle (λ e. absurd cc) played.middle;
        greatest = turn_driven theory tables new 2 greatest g played.greatest ready parts;
        seated =
            subst (λ o. IsSomeAnd o (λ table. (theory.opening table ≡ launching 1) × theory.HasClient table client)) (sym (keeps.lower 1 (omega (arith, is))))
            played.seated;
        asked = played.asked;
        few = played.few;
      }

  module _ (was : Table) (read : was ≡ slice_index_or tables 1 was) where
    here : (slice_get tables 1 ≡ Some was) × (theory.opening was ≡ launching 1) × theory.HasClient was client
    here =
        let (at, opens, has) = seat_of theory tables 1 (launching 1) was client played.seated in
        (at ∙ ap (λ x. Some x) (sym read), subst (λ x. theory.opening x ≡ launching 1) (sym read) opens, subst (λ x. theory.HasClient x client) (sym read) has)

    pub has_client : theory.HasClient was client
    has_client = here.2

    pub opens_so : theory.opening was ≡ launching 1
    opens_so = here.1

    -- after a call at the client's side
    pub called :
        (now : Table) (side : Client) (more : ℕ) → KeepsSides theory was now client side → HasAsked more (theory.client_view side) → more ≤ 64
        → IsPlayed theory (slice_set tables 1 now) middle greatest side more
    called now side more keeps asks few =
        let place = played.asked.place in
        let kept = call_keeps theory tables 1 (theory.client_view client).place was now here.0 keeps.opening keeps.clients keeps.trustee in
        record {
          middle = kept.trustees 1 middle (λ e. absurd (omega (arith, e, place))) played.middle;
          greatest = kept.trustees 2 greatest (λ e. absurd (omega (arith, e, place))) played.greatest;
          seated = call_seated theory tables 1 (launching 1) was now client side played.seated (keeps.opening ∙ ap theory.opening read) keeps.mine;
          asked = asks;
          few = few;
        }

  pub table_there : 1 < length tables
  table_there =
      let (table, at, both) = there (λ x. (theory.opening x ≡ launching 1) × theory.HasClient x client) (slice_get tables 1) played.seated in
      slice_get_within tables 1 table at
