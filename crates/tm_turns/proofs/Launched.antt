-- The laws of a trustee's launched work hold of each trustee of a whole.
use Rattle.std.proofs.Common.{◌≡◌, ◌+◌, sym, subst}
use Rattle.std.specs.Prelude.{slice_get}
use Rattle.std.specs.declared.option.Option.TheVariants.{Some}
use Rattle.tm_seq.specs.Kind.{Kind}
use Rattle.tm_pair.specs.Plain.{opening_at, client_at, plain_theory, plain_laws}
use Rattle.tm_trustee.specs.NestedAsks.{IsTied}
use Rattle.tm_trustee.specs.Serving.{done_by}
use Rattle.tm_trustee.proofs.Elements.{mapped}
use Rattle.tm_trustee.proofs.Tying.{are_latched, are_tied}
use Rattle.tm_turns.specs.Laws.{AreAllLatched, AreAllTied}

module _ {V O R T : Type 0} (C : Type 0) (kind : Kind V O R T) where
  pub all_latched : AreAllLatched C kind
  all_latched turns t trustee (config, first, are) of =
      are_latched (plain_theory kind) kind (plain_laws kind) turns.tables.items trustee (are.trustees t trustee of).1

  pub all_tied : AreAllTied C kind
  all_tied turns t i trustee table seat (config, first, are) of at above =
      let (number, ready) = are.trustees t trustee of in
      let here : slice_get turns.tables.items trustee.number ≡ Some table = subst (λ n. slice_get turns.tables.items n ≡ Some table) (sym number) at in
      subst (λ n. IsTied kind (opening_at table) (done_by (plain_theory kind) trustee) (n + 1 + i) (client_at seat)) number
      (are_tied (plain_theory kind) kind (plain_laws kind) turns.tables.items trustee table i (client_at seat) ready here (mapped client_at trustee.above.items i seat above))
