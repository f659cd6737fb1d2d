-- What the clients ask is orderly.
use Rattle.std.proofs.Common.{◌≡◌, ℕ, ◌<◌, true, false, List, [], ◌∷◌, ◌++◌, refl, sym, ◌∙◌, ap, subst, arith}
use Rattle.std.specs.List.{AllByRecursion}
use Rattle.std.specs.declared.option.Option.TheVariants.{None}
use Rattle.tm_seq.specs.Kind.{Kind}
use Rattle.tm_batch.specs.declared.message.Request.{Request}
use Rattle.tm_batch.specs.declared.message.Request.TheVariants.{Entrust, Apply, Launch, Grant, Release, Reclaim, Bye}
use Rattle.tm_batch.specs.declared.message.AnswerBatch.{AnswerBatch}
use Rattle.tm_model.specs.State.{State, holds_at}
use Rattle.tm_model.specs.Holds.{Names, gave, has_bye, launches_in, ended_in}
use Rattle.tm_model.specs.Ran.{ran}
use Rattle.tm_model.specs.Orderly.{GrantsBelow, IsOrderly}
use Rattle.tm_core.proofs.CallerLemmas.{all-append}
use Rattle.tm_core.proofs.ClientHolds.{logs_tell_holds}
use Rattle.tm_core.proofs.Tallies.{launches_in-append}
use Rattle.tm_pair.specs.Views.{ClientView}
use Rattle.tm_pair.specs.Sides.{HasRun, IsGoodClient}
use Rattle.bench_counters.specs.Counting.{IsOfCounter}

module _ {V O R T : Type 0} where
  no_launches : (qs : List (Request V O R T)) → AllByRecursion IsOfCounter qs → launches_in qs ≡ 0
  no_launches [] all = refl
  no_launches (Apply n op ∷ qs) all = no_launches qs all.1
  no_launches (Entrust v ∷ qs) all = absurd all.0
  no_launches (Launch n task ∷ qs) all = absurd all.0
  no_launches (Grant n d ∷ qs) all = absurd all.0
  no_launches (Release n ∷ qs) all = absurd all.0
  no_launches (Reclaim n ∷ qs) all = absurd all.0
  no_launches (Bye ∷ qs) all = absurd all.0

  no_bye : (qs : List (Request V O R T)) → AllByRecursion IsOfCounter qs → has_bye qs ≡ false
  no_bye [] all = refl
  no_bye (Apply n op ∷ qs) all = no_bye qs all.1
  no_bye (Entrust v ∷ qs) all = absurd all.0
  no_bye (Launch n task ∷ qs) all = absurd all.0
  no_bye (Grant n d ∷ qs) all = absurd all.0
  no_bye (Release n ∷ qs) all = absurd all.0
  no_bye (Reclaim n ∷ qs) all = absurd all.0
  no_bye (Bye ∷ qs) all = absurd all.0

  none_given : (id : ℕ) (qs : List (Request V O R T)) → AllByRecursion IsOfCounter qs → gave id qs ≡ 0
  none_given id [] all = refl
  none_given id (Apply n op ∷ qs) all = none_given id qs all.1
  none_given id (Entrust v ∷ qs) all = absurd all.0
  none_given id (Launch n task ∷ qs) all = absurd all.0
  none_given id (Grant n d ∷ qs) all = absurd all.0
  none_given id (Release n ∷ qs) all = absurd all.0
  none_given id (Reclaim n ∷ qs) all = absurd all.0
  none_given id (Bye ∷ qs) all = absurd all.0

  none_granted : (clients : ℕ) (qs : List (Request V O R T)) → AllByRecursion IsOfCounter qs → AllByRecursion (GrantsBelow clients) qs
  none_granted clients [] all = tt
  none_granted clients (Apply n op ∷ qs) all = (tt, none_granted clients qs all.1)
  none_granted clients (Entrust v ∷ qs) all = absurd all.0
  none_granted clients (Launch n task ∷ qs) all = absurd all.0
  none_granted clients (Grant n d ∷ qs) all = absurd all.0
  none_granted clients (Release n ∷ qs) all = absurd all.0
  none_granted clients (Reclaim n ∷ qs) all = absurd all.0
  none_granted clients (Bye ∷ qs) all = absurd all.0

  -- of some operations on the counter, those before one of them, and that one
  before_one : (before after : List (Request V O R T)) (q : Request V O R T) → AllByRecursion IsOfCounter (before ++ q ∷ after)
      → AllByRecursion IsOfCounter before × IsOfCounter q
  before_one [] after q all = (tt, all.0)
  before_one (b ∷ before) after q all = let (rest, one) = before_one before after q all.1 in ((all.0, rest), one)

  names_counter : (q : Request V O R T) (id : ℕ) → IsOfCounter q → Names q id → id ≡ 1
  names_counter (Apply n op) id is names = sym names ∙ is
  names_counter (Entrust v) id is names = absurd is
  names_counter (Launch n task) id is names = absurd is
  names_counter (Grant n d) id is names = absurd is
  names_counter (Release n) id is names = absurd is
  names_counter (Reclaim n) id is names = absurd is
  names_counter Bye id is names = absurd is

  -- a client that holds the counter at first, and asked nothing but operations on it, may ask for more of them
  pub counts_orderly :
      (opening : State V O R T) (c : ℕ) (sent : List (Request V O R T)) (got : List (AnswerBatch V O R T)) (b : List (Request V O R T))
      → c < opening.setup.config.clients → 0 < holds_at opening c 1 → AllByRecursion IsOfCounter sent → AllByRecursion IsOfCounter b
      → IsOrderly opening c sent got b
  counts_orderly opening c sent got b lt holds all more = record {
    held = λ before after q id e names.
        let (front, one) = before_one before after q (subst (λ l. AllByRecursion IsOfCounter l) e more) in
        let is : id ≡ 1 = names_counter q id one names in
        let none : gave id (sent ++ before) ≡ 0 = none_given id (sent ++ before) (all-append IsOfCounter sent before all front) in
        let has : 0 < holds_at opening c id = subst (λ n. 0 < holds_at opening c n) (sym is) holds in
        omega (arith, none, has);
    grants = none_granted opening.setup.config.clients b more;
    launches = let none = no_launches (sent ++ b) (all-append IsOfCounter sent b all more) in omega (arith, none);
    bye = λ e. let no : false ≡ true = sym (no_bye b more) ∙ e in absurd cc;
    last = λ e. let no : false ≡ true = sym (no_bye sent all) ∙ e in absurd cc;
    trustee = λ le. absurd (omega (arith, le, lt));
  }

  -- nothing ended that it launched
  nothing_ended :
      (kind : Kind V O R T) (opening : State V O R T) (view : ClientView V O R T) → IsGoodClient kind opening view → view.out ≡ None
      → AllByRecursion IsOfCounter view.sent → ended_in view.got ≡ 0
  nothing_ended kind opening view good free all =
      let run = ran view.place view.seen in
      let same : view.sent ≡ run = subst (λ o. HasRun o view.sent run) free good.runs in
      let told =
      (logs_tell_holds kind opening view.seen view.place view.got good.opens good.is_legal good.in_range good.cut
      (λ bye. let no : false ≡ true = sym (no_bye view.sent all) ∙ ap has_bye same ∙ bye in absurd cc)).launches in
      let none = no_launches view.sent all in
      let launched = ap launches_in same in
      let ended = ap ended_in good.leaves in
      omega (arith, told, none, launched, ended)

  none_named : (before after : List (Request V O R T)) (q : Request V O R T) (id : ℕ) → Bye ∷ [] ≡ before ++ q ∷ after → ¬ Names q id
  none_named [] after q id e names = let is : q ≡ Bye = cc in subst (λ (r : Request V O R T). Names r id) is names
  none_named (b ∷ []) after q id e names = absurd cc
  none_named (b ∷ d ∷ before) after q id e names = absurd cc

  -- a place whose launches all ended may say Bye
  bye_orderly :
      (opening : State V O R T) (c : ℕ) (sent : List (Request V O R T)) (got : List (AnswerBatch V O R T)) → has_bye sent ≡ false → launches_in sent ≡ 0
      → ended_in got ≡ 0 → IsOrderly opening c sent got (Bye ∷ [])
  bye_orderly opening c sent got still none ended = record {
    held = λ before after q id e names. absurd (none_named before after q id e names);
    grants = (tt, tt);
    launches = let both = launches_in-append sent (Bye ∷ []) in omega (arith, both, none);
    bye = λ e. (refl, none ∙ sym ended);
    last = λ e. let no : false ≡ true = sym still ∙ e in absurd cc;
    trustee = λ le. (tt, tt);
  }

  -- one that sent nothing
  pub first_bye : (opening : State V O R T) (c : ℕ) → IsOrderly opening c [] [] (Bye ∷ [])
  first_bye opening c = bye_orderly opening c [] [] refl refl refl

  -- and a client of which nothing is out, that asked nothing but operations on the counter
  pub last_bye :
      (kind : Kind V O R T) (opening : State V O R T) (view : ClientView V O R T) → IsGoodClient kind opening view → view.out ≡ None
      → AllByRecursion IsOfCounter view.sent → IsOrderly opening view.place view.sent view.got (Bye ∷ [])
  last_bye kind opening view good free all =
      bye_orderly opening view.place view.sent view.got (no_bye view.sent all) (no_launches view.sent all) (nothing_ended kind opening view good free all)
