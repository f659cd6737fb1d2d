use Rattle.std.proofs.Common.{◌≡◌, [], vec_len}
use Rattle.tm_toggle.specs.Ruled.{opening_by}
use Rattle.tm_toggle.specs.Shared.{IsSized}
use Rattle.tm_toggle.specs.Opened.{maker, AreFirstSides}
use Rattle.tm_toggle.proofs.shared.SharedTable.new.Given as goal

abbrev pub invariant-loop-place : goal.invariant-loop-place
invariant-loop-place g l = record {
  same : l.seat.table_id ≡ l.table.shared.table_id;
  me : l.seat.me ≡ (maker l.table.shared.key l.place, []);
  sized : IsSized (opening_by l.table.shared.key) l.table.shared.table_id;
  count : vec_len l.clients ≡ l.place;
  sides : AreFirstSides l.table.shared.key l.table.shared.table_id l.clients.items;
}
