use Rattle.std.proofs.Common.{◌≡◌, ℕ, ◌+◌, ◌<◌, ◌≤◌, List, length, subst, ◌∙◌, arith}
use Rattle.std.specs.Prelude.{All}
use Rattle.std.proofs.lemmas.List.Elements.{All-weaker}
use Rattle.tm_batch.specs.declared.limits.TheConstants.{MOST_GIFTS}
use Rattle.tm_batch.specs.declared.message.Name.{Name}
use Rattle.tm_objects.specs.Live.{Live, LiveList}
use Rattle.tm_objects.specs.Stock.{Stock}
use Rattle.tm_objects.specs.Rising.{IsRising, IsStock}
use Rattle.tm_objects.proofs.objects.Objects.known.Goals as goal

stock_known : {V : Type 0} (s : LiveList V) (gifts : List (List Name)) (last_id : ℕ) → IsRising s → s.places ≡ length gifts → All (λ q. length q ≤ MOST_GIFTS) gifts
    → IsStock (record { most = s.most; last_id = last_id; next_id = s.given + 1; live = s.live; gifts = gifts })
stock_known {V} s gifts last_id h e few = record {
  most = h.most;
  ids = All-weaker (λ (o : Live V). (0 < o.id) × (o.id ≤ s.given)) (λ o. (0 < o.id) × (o.id < s.given + 1)) (λ o i. (i.0, omega (arith, i.1))) s.live h.ids;
  rising = h.rising;
  width = All-weaker (λ (o : Live V). length o.holds ≡ s.places) (λ o. length o.holds ≡ length gifts) (λ o w. w ∙ e) s.live h.width;
  held = h.held;
  counts = h.counts;
  waiting = few;
}

pub returns : goal.returns
returns g c =
    subst (λ (s : Stock g.row.S.Denot). IsStock s) c.self.view_is
    (stock_known c.self.inside.live c.self.inside.gifts c.self.inside.last_id c.known.ensures c.self.invariant c.known-2.ensures)
