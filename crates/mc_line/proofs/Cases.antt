-- The limits of a line, written a second time as numbers, on lines at their edges. The checker computes them.
use Rattle.std.proofs.Common.{◌≡◌, true, false, [], ◌∷◌, ◌++◌, replicate, pos, neg_ℤ, refl}
use Rattle.std.specs.Prelude.{codes}
use Rattle.mc_item.specs.Keys.{is_key}
use Rattle.mc_item.specs.Numbers.{number_below, digits_below, exptime_of}
use Rattle.mc_line.specs.declared.storage.TheConstants.{MOST_DECLARED}
use Rattle.mc_model.specs.declared.line.Saying.TheVariants.{Alone, Awaits}
use Rattle.mc_model.specs.declared.message.How.TheVariants.{Set}
use Rattle.mc_model.specs.declared.message.Fault.TheVariants.{BadLine, LineTooLong, Unknown}
use Rattle.mc_model.specs.declared.message.Message.TheVariants.{Command, Fault}
use Rattle.mc_model.specs.declared.message.Command.TheVariants.{GetTouch}
use Rattle.mc_model.specs.Commands.{are_keys}
use Rattle.mc_model.specs.Line.{says}

most_declared : MOST_DECLARED ≡ 2147483647
most_declared = refl

-- a line that declares as many bytes as it may, and one that declares one more
declares_most : says (codes "set a 0 0 2147483647\r\n") ≡ Awaits (record { how = Set; key = codes "a"; flags = 0; exptime = pos 0; size = 2147483647; quiet = false })
unfolding says number_below digits_below exptime_of is_key
declares_most = refl

declares_more : says (codes "set a 0 0 2147483648\r\n") ≡ Alone (Fault BadLine)
unfolding says number_below digits_below exptime_of is_key
declares_more = refl

-- as many keys as there may be, and one more
keys_most : are_keys (replicate 1024 (codes "k")) ≡ true
unfolding is_key
keys_most = refl

keys_more : are_keys (replicate 1025 (codes "k")) ≡ false
keys_more = refl

no_keys : are_keys [] ≡ false
no_keys = refl

-- a gat has an exptime and a key at least
gat : says (codes "gats -1 a b\r\n") ≡ Alone (Command (GetTouch (neg_ℤ (pos 1)) (codes "a" ∷ codes "b" ∷ []) true))
unfolding says number_below digits_below exptime_of is_key
gat = refl

gat_alone : says (codes "gat 20\r\n") ≡ Alone (Fault BadLine)
unfolding says number_below digits_below exptime_of is_key
gat_alone = refl

-- a line as long as a line may be, with its line feed, and one that is longer by one
longest : says (replicate 65535 103 ++ 10 ∷ []) ≡ Alone (Fault Unknown)
unfolding says
longest = refl

longer : says (replicate 65536 103 ++ 10 ∷ []) ≡ Alone (Fault LineTooLong)
unfolding says
longer = refl
