-- Lists of which one element was set, and vectors with other elements.
use Rattle.std.proofs.Common.{◌≡◌, List, length, sym, ◌∙◌}
use Rattle.std.specs.Vec.{with_items}
use Rattle.std.specs.Global.{Vec}
use Rattle.std.proofs.lemmas.List.{with_items_is}

-- a vector with a list of its own length as its elements
pub items_are : {X : Type 0} (v : Vec X) (xs : List X) → length xs ≡ length v.items → (with_items v xs).items ≡ xs
items_are v xs many = with_items_is v xs (many ∙ sym v.ok.0)
