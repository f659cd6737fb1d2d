use Rattle.std.proofs.Common.{ℕ, ap, false, Vec, Global, refl, ◌∙◌, arith}
use Rattle.std.specs.Prelude.{replicate}
use Rattle.tm_objects.specs.Listing.{seek}
use Rattle.tm_objects.proofs.Lists.{listed-none}
use Rattle.tm_objects.proofs.At.{sound_none}
use Rattle.std.proofs.lemmas.List.{length-map}
use Rattle.tm_objects.proofs.Counted.{counted_none}
use Rattle.tm_objects.proofs.live.LiveObjects.new.Goals as goal

pub invariant_of-result : goal.invariant_of-result
invariant_of-result g c = (
  sound_none c.in_ok-slots.slots _ _ c.args.most c.args.places c.in_ok-slots.ensures.empty
      (length-map c.in_ok-spare.spare.items (λ (row : Vec ℕ Global). row.items) ∙ c.in_ok-spare.ensures.len)
      c.in_ok-spare.ensures.blank
      c.in_ok-slots.ensures.capacity
      (omega (arith, c.in_ok-spare.ensures.capacity)),
  counted_none c.in_ok-slots.slots c.in_ok-held.held.items c.args.places c.in_ok-slots.ensures.empty
      (c.in_ok-held.ensures ∙ ap (λ (n : ℕ). replicate c.args.places (replicate n false)) c.capacity.ensures.value),
)

pub returns : goal.returns
returns g c = rw (listed-none (seek c.in_ok-slots.slots.slots)) refl
