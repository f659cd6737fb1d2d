-- What a key is.
use Rattle.std.specs.Prelude.{ℕ, Bool, ◌&&◌, not, List, length, nat_lt, nat_le, ◌==◌}
use Rattle.std.specs.List.{list_all}
use Rattle.mc_item.specs.declared.limits.TheConstants.{LONGEST_KEY}

-- a byte that a key may have: no control byte, no space, and not 127
abbrev pub is_key_byte : ℕ → Bool
is_key_byte byte = nat_lt 32 byte && not (byte == 127)

-- 1 to 250 bytes that a key may have
unfoldable pub is_key : List ℕ → Bool
is_key bytes = nat_le 1 (length bytes) && nat_le (length bytes) LONGEST_KEY && list_all is_key_byte bytes
