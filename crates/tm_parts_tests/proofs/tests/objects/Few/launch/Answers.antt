use Rattle.std.proofs.Common.{◌≡◌, ℕ, ◌+◌, ◌≤◌, List, [], ◌∷◌, Some, inl, inr, refl, ap, arith}
use Rattle.std.specs.Prelude.{IsSome}
use Rattle.std.proofs.lemmas.Bool.{cases_eq, eq-eqb, ne_eqb}
use Rattle.tm_objects.specs.Live.{Live, HasLive, object_of, change, with_launches}
use Rattle.tm_objects.proofs.At.{some_is}
use Rattle.tm_parts_tests.proofs.tests.objects.Few.launch.Goals as goal

-- the object of an id after a launch began on it
begun_at : {V : Type 0} (live : List (Live V)) (id : ℕ) (o : Live V) → object_of live id ≡ Some o → object_of (change id (λ p. with_launches (p.launches + 1) p) live) id ≡ Some (with_launches (o.launches + 1) o)
begun_at [] id o h = absurd (cc)
begun_at (p ∷ live) id o h =
    elim (cases_eq p.id id) [
      | inl e ↦
          let at : p ≡ o = let s : Some p ≡ Some o = rw (eq-eqb p.id id e) at h in cc in
          rw (eq-eqb p.id id e, eq-eqb p.id id e) (ap (λ q. Some (with_launches (q.launches + 1) q)) at)
      | inr ne ↦ rw (ne_eqb p.id id ne, ne_eqb p.id id ne) (begun_at live id o (rw (ne_eqb p.id id ne) at h))
    ]

has_begun : {V : Type 0} (live : List (Live V)) (id : ℕ) → IsSome (object_of live id) → HasLive (change id (λ p. with_launches (p.launches + 1) p) live) id (λ o. 1 ≤ o.launches)
has_begun live id h = let o = some_is (object_of live id) h in rw (begun_at live id o.0 o.1) (omega arith)

is_live_yet : {V : Type 0} (live : List (Live V)) (id : ℕ) → IsSome (object_of live id) → IsSome (object_of (change id (λ p. with_launches (p.launches + 1) p) live) id)
is_live_yet live id h = let o = some_is (object_of live id) h in rw (begun_at live id o.0 o.1) refl

pub total-total-requires : goal.total-total-requires
total-total-requires c = rw c.begin.ensures (is_live_yet c.args.self.now.objects.live c.args.name.id (c.if-not-is_live.ensures.0 refl))

pub finish-requires : goal.finish-requires
finish-requires c = rw c.begin.ensures (has_begun c.args.self.now.objects.live c.args.name.id (c.if-not-is_live.ensures.0 refl))
