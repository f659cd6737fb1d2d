use Rattle.std.proofs.Common.{◌≡◌, ◌≢◌, ℕ, List, Some, None, refl, sym, ap, ◌∙◌}
use Rattle.tm_objects.specs.Live.{Live, LiveList, object_of}
use Rattle.tm_objects.specs.Listing.{seek, listed}
use Rattle.tm_objects.proofs.At.{some_has, found_at, absent_at}
use Rattle.std.specs.Prelude.{IfSome, IfNone, IsSomeAnd, Option, is_some}
use Rattle.slab.specs.Slab.{Slab, get}
use Rattle.tm_objects.specs.Listing.{IsSound}
use Rattle.tm_objects.proofs.live.LiveObjects.is_live.Goals as goal

module _ {V : Type 0} {slab : Slab (Live V)} {rows : List (List ℕ)} {room given most places : ℕ} (sound : IsSound slab rows room given most places) where
  alike :
      (live : List (Live V)) (id : ℕ) (x : Option ℕ) → listed (seek slab.slots) given ≡ live → IfSome x (λ k. IsSomeAnd (get slab k) (λ o. o.id ≡ id))
      → IfNone x ((k : ℕ) (o : Live V) → get slab k ≡ Some o → o.id ≢ id) → is_some x ≡ is_some (object_of live id)
  alike live id None e some none = rw (absent_at sound live id e none) refl
  alike live id (Some k) e some none =
      let o = some_has (get slab k) _ some in
      rw (found_at sound live id k o.0 e o.1 o.2) refl

pub returns : goal.returns
returns g c =
    let same = alike c.self.invariant.0 c.args.self.now.live c.args.name.id c.locate.result (ap (λ (s : LiveList g.row.V.Denot). s.live) c.self.view_is) c.locate.ensures.found c.locate.ensures.absent in
    (λ h. sym same ∙ (sym c.is_some.ensures ∙ h), λ h. c.is_some.ensures ∙ (same ∙ h))
