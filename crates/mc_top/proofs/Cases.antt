-- The usual numbers of the words, and the exit statuses, written a second time as numbers. The checker computes them.
use Rattle.std.specs.Prelude.{◌≡◌, ◌^◌, [], ◌∷◌, map}
use Rattle.std.proofs.Common.{refl}
use Rattle.mc_item.specs.declared.limits.TheConstants.{USUAL_ITEMS}
use Rattle.mc_words.specs.declared.limits.TheConstants.{USUAL_BYTES, USUAL_TRUSTEES}
use Rattle.mc_top.specs.declared.status.Status.TheVariants.{Ended, BadWords, NoMemory, ReadFault, WriteFault, TooMuch, EndedInside}
use Rattle.mc_top.specs.Statuses.{number_of}

-- a tebibyte of input
usual_input : USUAL_BYTES ≡ 2 ^ 40
usual_input = refl

usual_trustees : USUAL_TRUSTEES ≡ 5
usual_trustees = refl

usual_items : USUAL_ITEMS ≡ 4096
usual_items = refl

exit_statuses : map number_of (Ended ∷ BadWords ∷ NoMemory ∷ ReadFault ∷ WriteFault ∷ TooMuch ∷ EndedInside ∷ []) ≡ 0 ∷ 1 ∷ 2 ∷ 3 ∷ 4 ∷ 7 ∷ 8 ∷ []
exit_statuses = refl
