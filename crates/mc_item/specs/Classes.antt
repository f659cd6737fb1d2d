-- The class of a key.
use Rattle.std.specs.Prelude.{ℕ, ◌+◌, ◌*◌, ◌%◌, ◌^◌, List}
use Rattle.std.specs.List.{fold}
use Rattle.mc_item.specs.declared.limits.TheConstants.{CLASSES}

-- the hash of the bytes, below 2 ^ 32
unfoldable pub hash_of : List ℕ → ℕ
hash_of bytes = fold (λ hash byte. (31 * hash + byte) % 2 ^ 32) 0 bytes

-- the class of the bytes of a key, below the number of classes
unfoldable pub class_of : List ℕ → ℕ
class_of bytes = hash_of bytes % CLASSES
