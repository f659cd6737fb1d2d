use Rattle.std.proofs.Common.{◌≡◌, ℕ, ◌≤◌, ◌++◌}
use Rattle.std.specs.declared.option.Option.TheVariants.{None}
use Rattle.tm_pair.specs.Views.{hand_of}
use Rattle.tm_pair.specs.Theory.{KeepsClients}
use Rattle.tm_trustee.specs.Places.{ServesBelow, found_below}
use Rattle.tm_trustee.specs.Serving.{IsCurrent, GoesOn}
use Rattle.tm_trustee.proofs.places.serve_places.Given as goal

-- the places before this one were served
abbrev pub invariant-loop-place : goal.invariant-loop-place
invariant-loop-place g l =
    let theory = g.P.PairTable.theory in
    let opening = theory.opening l.initial.table in
    let view = theory.trustee_view l.side in record {
      current : IsCurrent g.S.Entrusted.kind opening view.log l.since.items l.state;
      goes_on : GoesOn ((theory.trustee_view l.initial.side).log ++ l.initial.since.items) (view.log ++ l.since.items);
      free : (c : ℕ) → hand_of view c ≡ None;
      serves : ServesBelow theory g.S.Entrusted.kind opening l.place l.initial.table l.table l.initial.side l.side;
      found : l.found ≡ found_below l.place view;
      most : l.found ≤ l.place;
      keeps : KeepsClients theory l.initial.table l.table l.side;
    }
