use Rattle.std.proofs.Common.{◌∙◌, ap, List, ℕ}
use Rattle.std.specs.Prelude.{map}
use Rattle.tm_objects.specs.Sparse.{is_member}
use Rattle.tm_objects.proofs.Sparse.{flags_none}
use Rattle.tm_objects.proofs.keys.KeySet.new.Goals as goal

pub returns : goal.returns
returns c =
    ap (λ (l : List ℕ). map is_member l) (c.in_ok-vec.ensures.items_if_clones_equal (λ y e. e)) ∙ flags_none c.args.size
