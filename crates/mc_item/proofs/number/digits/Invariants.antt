use Rattle.std.proofs.Common.{◌≡◌, true, take}
use Rattle.std.specs.List.{list_all}
use Rattle.std.specs.Char.{is_ascii_digit}
use Rattle.mc_item.specs.Numbers.{value_of}
use Rattle.mc_item.proofs.number.digits.Given as goal

abbrev pub invariant-loop-byte : goal.invariant-loop-byte
invariant-loop-byte l =
    (l.value ≡ value_of (take l.byte-index l.text)) × (list_all is_ascii_digit (take l.byte-index l.text) ≡ true)
