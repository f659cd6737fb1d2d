use Rattle.std.proofs.Common.{◌≡◌, ◌++◌, map, take, drop}
use Rattle.tm_client.specs.Asking.{KeepsRest}
use Rattle.tm_turns.specs.Whole.{StillClient}
use Rattle.tm_turns.proofs.Shutting.{shut_lane}
use Rattle.tm_turns.proofs.closing.shut.Given as goal

-- the lanes of the trustees so far are closed
abbrev pub invariant-loop-trustee : goal.invariant-loop-trustee
invariant-loop-trustee g l = record {
  lanes : l.client.books.lanes.items ≡ map shut_lane (take l.trustee l.initial.client.books.lanes.items) ++ drop l.trustee l.initial.client.books.lanes.items;
  coming : l.client.books.coming ≡ l.initial.client.books.coming;
  rest : KeepsRest l.initial.client.books l.client.books;
  still : StillClient g.S.Entrusted.kind l.initial.client l.client;
}
