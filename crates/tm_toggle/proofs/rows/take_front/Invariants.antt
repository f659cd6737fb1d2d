use Rattle.std.proofs.Common.{◌≡◌, take, drop}
use Rattle.tm_toggle.proofs.rows.take_front.Given as goal

-- the first elements were taken, and the others are as they were
abbrev pub invariant-loop-item : goal.invariant-loop-item
invariant-loop-item g l = record {
  taken : l.items.items ≡ take l.item-index (take l.fn.count l.fn.row);
  rest : drop l.item-index l.item-items ≡ drop l.item-index (take l.fn.count l.fn.row);
}
