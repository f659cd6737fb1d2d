-- Applies of objects that a place holds at first are orderly for a side that asked applies alone and has said no Bye.
use Rattle.std.proofs.Common.{◌≡◌, ℕ, ◌≤◌, true, false, List, [], ◌∷◌, ◌++◌, refl, sym, ◌∙◌, subst, arith}
use Rattle.std.specs.List.{AllByRecursion}
use Rattle.tm_batch.specs.declared.message.Request.{Request}
use Rattle.tm_batch.specs.declared.message.Request.TheVariants.{Entrust, Apply, Launch, Grant, Release, Reclaim, Bye}
use Rattle.tm_model.specs.State.{State, holds_at}
use Rattle.tm_model.specs.Holds.{Names, has_bye, gave}
use Rattle.tm_model.specs.Orderly.{IsOfTrustee, GrantsBelow}
use Rattle.tm_core.proofs.Tallies.{gave-append, launches_in-append}
use Rattle.tm_pair.specs.Views.{ClientView}
use Rattle.tm_pair.specs.Calls.{MaySend}
use Rattle.tm_trustee.specs.Steps.{AppliesHeld}
use Rattle.tm_trustee.proofs.AboveBye.{no_launches}

module _ {V O R T : Type 0} where
  no_gave : (id : ℕ) (qs : List (Request V O R T)) → AllByRecursion IsOfTrustee qs → gave id qs ≡ 0
  no_gave id [] all = refl
  no_gave id (Apply n op ∷ qs) all = no_gave id qs all.1
  no_gave id (Bye ∷ qs) all = no_gave id qs all.1
  no_gave id (Entrust v ∷ qs) all = absurd all.0
  no_gave id (Launch n task ∷ qs) all = absurd all.0
  no_gave id (Grant n d ∷ qs) all = absurd all.0
  no_gave id (Release n ∷ qs) all = absurd all.0
  no_gave id (Reclaim n ∷ qs) all = absurd all.0

  module _ (opening : State V O R T) (c : ℕ) where
    pub held_of_trustee : (qs : List (Request V O R T)) → AllByRecursion (AppliesHeld opening c) qs → AllByRecursion IsOfTrustee qs
    held_of_trustee [] all = tt
    held_of_trustee (Apply n op ∷ qs) all = (tt, held_of_trustee qs all.1)
    held_of_trustee (Bye ∷ qs) all = absurd all.0
    held_of_trustee (Entrust v ∷ qs) all = absurd all.0
    held_of_trustee (Launch n task ∷ qs) all = absurd all.0
    held_of_trustee (Grant n d ∷ qs) all = absurd all.0
    held_of_trustee (Release n ∷ qs) all = absurd all.0
    held_of_trustee (Reclaim n ∷ qs) all = absurd all.0

    grants_none : (clients : ℕ) (qs : List (Request V O R T)) → AllByRecursion IsOfTrustee qs → AllByRecursion (GrantsBelow clients) qs
    grants_none clients [] all = tt
    grants_none clients (Apply n op ∷ qs) all = (tt, grants_none clients qs all.1)
    grants_none clients (Bye ∷ qs) all = (tt, grants_none clients qs all.1)
    grants_none clients (Entrust v ∷ qs) all = absurd all.0
    grants_none clients (Launch n task ∷ qs) all = absurd all.0
    grants_none clients (Grant n d ∷ qs) all = absurd all.0
    grants_none clients (Release n ∷ qs) all = absurd all.0
    grants_none clients (Reclaim n ∷ qs) all = absurd all.0

    pub no_bye_held : (qs : List (Request V O R T)) → AllByRecursion (AppliesHeld opening c) qs → has_bye qs ≡ false
    no_bye_held [] all = refl
    no_bye_held (Apply n op ∷ qs) all = no_bye_held qs all.1
    no_bye_held (Bye ∷ qs) all = absurd all.0
    no_bye_held (Entrust v ∷ qs) all = absurd all.0
    no_bye_held (Launch n task ∷ qs) all = absurd all.0
    no_bye_held (Grant n d ∷ qs) all = absurd all.0
    no_bye_held (Release n ∷ qs) all = absurd all.0
    no_bye_held (Reclaim n ∷ qs) all = absurd all.0

    front_all : (P : Request V O R T → Type 0) (before after : List (Request V O R T)) (q : Request V O R T) → AllByRecursion P (before ++ q ∷ after) → AllByRecursion P before × P q
    front_all P [] after q all = (tt, all.0)
    front_all P (p ∷ before) after q all = let (front, here) = front_all P before after q all.1 in ((all.0, front), here)

    named_held : (q : Request V O R T) (id : ℕ) → AppliesHeld opening c q → Names q id → 1 ≤ holds_at opening c id
    named_held (Apply n op) id held names = subst (λ i. 1 ≤ holds_at opening c i) names held
    named_held (Bye) id held names = absurd held
    named_held (Entrust v) id held names = absurd held
    named_held (Launch n task) id held names = absurd held
    named_held (Grant n d) id held names = absurd held
    named_held (Release n) id held names = absurd held
    named_held (Reclaim n) id held names = absurd held

  pub asks_are_orderly :
      (opening : State V O R T) (view : ClientView V O R T) (b : List (Request V O R T)) → AllByRecursion IsOfTrustee view.sent → has_bye view.sent ≡ false
      → AllByRecursion (AppliesHeld opening view.place) b → MaySend opening view b
  asks_are_orderly opening view b asked unsaid held free =
      let all = held_of_trustee opening view.place b held in
      record {
        held = λ before after q id split names.
            let (front, here) = front_all opening view.place (AppliesHeld opening view.place) before after q (subst (λ l. AllByRecursion (AppliesHeld opening view.place) l) split held) in
            let one = named_held opening view.place q id here names in
            let none = no_gave id view.sent asked in
            let none_before = no_gave id before (held_of_trustee opening view.place before front) in
            let both = gave-append id view.sent before in
            omega (arith, one, none, none_before, both);
        grants = grants_none opening view.place opening.setup.config.clients b all;
        launches =
            let none = no_launches view.sent asked in
            let none_then = no_launches b all in
            let both = launches_in-append view.sent b in
            omega (arith, none, none_then, both);
        bye = λ bye. let both : true ≡ false = sym bye ∙ no_bye_held opening view.place b held in absurd cc;
        last = λ said. let both : true ≡ false = sym said ∙ unsaid in absurd cc;
        trustee = λ le. all;
      }
