use Rattle.std.proofs.Common.{◌≡◌, List, map, drop}
use Rattle.tm_batch.specs.declared.config.First.{First}
use Rattle.tm_turns.specs.Making.{AreParts, AreNewTrustees}
use Rattle.tm_turns.proofs.making.trustees_of.Given as goal

-- the trustees so far are made, and their parts are gone
abbrev pub invariant-loop-number : goal.invariant-loop-number
invariant-loop-number g l = record {
  homes : l.homes.items ≡ drop l.number l.fn.homes.items;
  seats : l.seats.items ≡ drop l.number l.fn.seats.items;
  nested : l.nested.items ≡ drop l.number l.fn.nested.items;
  placed : l.placed.items ≡ drop l.number l.fn.placed.items;
  made : (first : List (First g.row.S.Denot)) → AreParts l.config first l.fn.homes.items (map (λ v. v.items) l.fn.seats.items) (map (λ v. v.items) l.fn.nested.items) (map (λ v. v.items) l.fn.placed.items)
      → AreNewTrustees g.S.Entrusted.kind l.config first l.number l.fn.homes.items (map (λ v. v.items) l.fn.seats.items) l.trustees.items;
}
