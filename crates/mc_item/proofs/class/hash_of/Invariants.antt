use Rattle.std.proofs.Common.{◌≡◌, ◌<◌, ◌^◌, take}
use Rattle.mc_item.specs.Classes.{hash_of}
use Rattle.mc_item.proofs.class.hash_of.Given as goal

abbrev pub invariant-loop-byte : goal.invariant-loop-byte
invariant-loop-byte l = (l.hash ≡ hash_of (take l.byte-index l.bytes)) × (l.hash < 2 ^ 32)
