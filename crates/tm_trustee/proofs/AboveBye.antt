-- A Bye alone is orderly for a side that asked applies alone and has said none.
use Rattle.std.proofs.Common.{◌≡◌, ◌<◌, lit<, length, ap, true, false, List, [], ◌∷◌, ◌++◌, inl, inr, refl, sym, ◌∙◌, subst, arith}
use Rattle.std.specs.Prelude.{not, IsOk, OnOk, IsSome}
use Rattle.std.specs.List.{AllByRecursion}
use Rattle.std.specs.declared.option.Option.TheVariants.{None}
use Rattle.std.specs.declared.result.Result.{Result}
use Rattle.std.specs.declared.result.Result.TheVariants.{Ok, Err}
use denote.Enum.Bare.{sameb}
use Rattle.tm_seq.specs.Kind.{Kind}
use Rattle.tm_batch.specs.declared.limits.TheConstants.{MOST_REQUESTS}
use Rattle.tm_batch.specs.declared.message.Request.{Request}
use Rattle.tm_batch.specs.declared.message.Request.TheVariants.{Entrust, Apply, Launch, Grant, Release, Reclaim, Bye}
use Rattle.tm_model.specs.State.{State, place_count}
use Rattle.tm_model.specs.Holds.{has_bye, launches_in, ended_in}
use Rattle.tm_model.specs.Ran.{ran}
use Rattle.tm_model.specs.Orderly.{IsOrderly, IsOfTrustee}
use Rattle.tm_model.proofs.Byes.{bye_names}
use Rattle.tm_core.proofs.First.{opening_unfinished}
use Rattle.tm_core.proofs.LaunchLog.{log_launches}
use Rattle.tm_core.proofs.Numbering.{opening_place}
use Rattle.tm_core.proofs.Ordered.{opening_ordered}
use Rattle.tm_core.proofs.Tallies.{launches_in-append}
use Rattle.tm_pair.specs.Views.{ClientView}
use Rattle.tm_pair.specs.Calls.{MaySend}
use Rattle.tm_pair.specs.Sides.{HasRun, IsGoodClient}
use Rattle.tm_pair.specs.Theory.{Theory, TheoryLaws}
use Rattle.tm_trustee.specs.Above.{IsAt, PublishesBye, one_if}
use Rattle.tm_trustee.specs.Steps.{SaysByeLane}
use Rattle.tm_trustee.specs.declared.lane.Lane.{Lane}
use Rattle.tm_trustee.specs.AboveAt.{MovesUp}
use Rattle.tm_trustee.specs.contracts.stage.Stage.{the_type}
use Rattle.tm_trustee.specs.declared.stage.Stage.{Stage}
use Rattle.tm_trustee.specs.declared.stage.Stage.TheVariants.{Before, Out, Over}

pub on_ok : {X E P : Type 0} (r : Result X E) → IsOk r → OnOk r P → P
on_ok (Ok x) is h = h
on_ok (Err e) is h = absurd cc

pub is_before : (stage : Stage) → false ≡ not (sameb the_type stage Before) → stage ≡ Before
is_before Before e = refl
is_before Out e = absurd cc
is_before Over e = absurd cc

module _ {V O R T : Type 0} where
  -- applies and Byes launch nothing
  pub no_launches : (qs : List (Request V O R T)) → AllByRecursion IsOfTrustee qs → launches_in qs ≡ 0
  no_launches [] all = refl
  no_launches (Apply n op ∷ qs) all = no_launches qs all.1
  no_launches (Bye ∷ qs) all = no_launches qs all.1
  no_launches (Entrust v ∷ qs) all = absurd all.0
  no_launches (Launch n task ∷ qs) all = absurd all.0
  no_launches (Grant n d ∷ qs) all = absurd all.0
  no_launches (Release n ∷ qs) all = absurd all.0
  no_launches (Reclaim n ∷ qs) all = absurd all.0

  pub asked_more : (qs ps : List (Request V O R T)) → AllByRecursion IsOfTrustee qs → AllByRecursion IsOfTrustee ps → AllByRecursion IsOfTrustee (qs ++ ps)
  asked_more [] ps first then = then
  asked_more (q ∷ qs) ps first then = (first.0, asked_more qs ps first.1 then)

  pub bye_said : (qs : List (Request V O R T)) → has_bye (qs ++ Bye ∷ []) ≡ true
  bye_said [] = refl
  bye_said (Bye ∷ qs) = refl
  bye_said (Apply n op ∷ qs) = bye_said qs
  bye_said (Entrust v ∷ qs) = bye_said qs
  bye_said (Launch n task ∷ qs) = bye_said qs
  bye_said (Grant n d ∷ qs) = bye_said qs
  bye_said (Release n ∷ qs) = bye_said qs
  bye_said (Reclaim n ∷ qs) = bye_said qs

  -- what a batch has that was empty, once a Bye was appended
  pub one_bye :
      {E : Type 0} (empty b : List (Request V O R T)) (pushed : Result (Unit {0}) E)
      → empty ≡ [] → (length empty < MOST_REQUESTS → IsOk pushed) → OnOk pushed (b ≡ empty ++ Bye ∷ []) → b ≡ Bye ∷ []
  one_bye empty b pushed none free ok =
      let room : length empty < MOST_REQUESTS = subst (λ l. length l < MOST_REQUESTS) (sym none) (lit< tt) in
      on_ok pushed (free room) ok ∙ ap (λ l. l ++ Bye ∷ []) none

  -- a side that is before its Bye has said none
  pub before_bye : (stage : Stage) (view : ClientView V O R T) → stage ≡ Before → IsAt stage view → has_bye view.sent ≡ false
  before_bye Before view e at = at
  before_bye Out view e at = absurd cc
  before_bye Over view e at = absurd cc

  module _ (kind : Kind V O R T) (opening : State V O R T) (view : ClientView V O R T) (good : IsGoodClient kind opening view)
      (asked : AllByRecursion IsOfTrustee view.sent) (free : view.out ≡ None) where
    -- no launch of it ended, since there was none
    none_ended : ended_in view.got ≡ 0
    none_ended =
        let c = view.place in
        let n = place_count opening.setup in
        let runs = subst (λ out. HasRun out view.sent (ran c view.seen)) free good.runs in
        let none = no_launches view.sent asked in
        let same = ap launches_in runs in
        let flow = log_launches kind n c good.in_range 0 [] opening view.seen (opening_ordered opening good.opens) good.is_legal in
        let nothing = opening_unfinished opening c good.opens in
        let not_ready = ap (λ p. length p.ready) (opening_place opening c good.opens good.in_range).1 in
        let left = ap ended_in good.leaves in
        omega (arith, flow, none, same, nothing, not_ready, left)

    pub bye_is_orderly : has_bye view.sent ≡ false → (b : List (Request V O R T)) → b ≡ Bye ∷ [] → MaySend opening view b
    bye_is_orderly unsaid b is _ =
        let none = no_launches view.sent asked in
        let ended = none_ended in
        let more = launches_in-append view.sent (Bye ∷ []) in
        let orderly : IsOrderly opening view.place view.sent view.got (Bye ∷ []) = record {
          held = λ before after q id e names. absurd (bye_names before after q id e names);
          grants = (tt, tt);
          launches = omega (arith, none, more);
          bye = λ e. (refl, none ∙ sym ended);
          last = λ said. let both : true ≡ false = sym said ∙ unsaid in absurd cc;
          trustee = λ le. (tt, tt);
        } in
        subst (λ x. IsOrderly opening view.place view.sent view.got x) (sym is) orderly

-- a stage that is not before the Bye is of a side that said it
has_said :
    {V O R T : Type 0} (stage : Stage) (view : ClientView V O R T) → true ≡ not (sameb the_type stage Before) → IsAt stage view
    → has_bye view.sent ≡ true
has_said Before view e at = absurd cc
has_said Out view e at = at.0
has_said Over view e at = at.0

module _ {V O R T Table Client Owner : Type 0} (theory : Theory V O R T Table Client Owner) where
  -- where Bye was said before, nothing is done
  pub said_before :
      (kind : Kind V O R T) → TheoryLaws theory kind → (table : Table) (side : Client) (lane : Lane V O R T) → theory.HasClient table side
      → AllByRecursion IsOfTrustee (theory.client_view side).sent → IsAt lane.stage (theory.client_view side) → true ≡ not (sameb the_type lane.stage Before)
      → MovesUp theory (SaysByeLane theory) table table side side lane lane false
  said_before kind laws table side lane mine asked at e =
      let said = has_said lane.stage (theory.client_view side) e at in
      record {
        goes = inr ((λ unsaid. let both : true ≡ false = sym said ∙ unsaid in cc), refl, inr (refl, refl, inl said));
        asked = asked;
        at = at;
        place = refl;
        moved = omega arith;
        keeps = record { same = laws.same_refl table; opening = refl; mine = mine; clients = λ other ne has. has; trustee = λ other has. has };
      }

  -- where it is said now, it is out
  pub says_now :
      (was now : Table) (old new : Client) (lane : Lane V O R T) → AllByRecursion IsOfTrustee (theory.client_view old).sent → has_bye (theory.client_view old).sent ≡ false
      → lane.stage ≡ Before → (theory.client_view old).out ≡ None → PublishesBye theory was now old new
      → MovesUp theory (SaysByeLane theory) was now old new lane (record lane { stage = Out }) true
  says_now was now old new lane asked unsaid before free says =
      let (batch, is, room, publishes, did, keeps) = says in
      let view = theory.client_view new in
      let sent : view.sent ≡ (theory.client_view old).sent ++ Bye ∷ [] = publishes.sent ∙ ap (λ b. (theory.client_view old).sent ++ b) is in
      let got : length view.got ≡ length (theory.client_view old).got = ap (λ l. length l) publishes.got in
      let out : one_if view.out ≡ 1 = ap one_if publishes.out in
      let none : one_if (theory.client_view old).out ≡ 0 = ap one_if free in
      record {
        goes = inl (unsaid, before, refl, inl (tt, unsaid, says));
        asked = subst (λ l. AllByRecursion IsOfTrustee l) (sym sent) (asked_more (theory.client_view old).sent (Bye ∷ []) asked (tt, tt));
        at = (
          subst (λ l. has_bye l ≡ true) (sym sent) (bye_said (theory.client_view old).sent),
          subst (λ o. IsSome o) (sym publishes.out) refl,
        );
        place = publishes.place;
        moved = omega (arith, got, out, none);
        keeps = keeps;
      }
