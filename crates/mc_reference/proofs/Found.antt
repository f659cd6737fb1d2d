-- What is found among the items that are not expired.
use Rattle.std.proofs.Common.{◌≡◌, ℕ, true, false, cond, not, ◌&&◌, List, [], ◌∷◌, Option, Some, refl}
use Rattle.mc_item.specs.Expiry.{is_expired}
use Rattle.mc_model.specs.Items.{Items, same_key, item_at, live}
use Rattle.mc_reference.specs.Found.{live_item}

pub live_item-is : (now : ℕ) (key : List ℕ) (items : Items) → live_item now key items ≡ item_at (live now items) key
unfolding live
live_item-is now key [] = refl
live_item-is now key (e ∷ items) = (elim (is_expired e.1.due now) as (λ b. cond (same_key key e.0 && not b) (Some e.1) (live_item now key items) ≡ item_at (cond (not b) (e ∷ live now items) (live now items)) key) [
  | true ↦ (elim (same_key key e.0) as (λ b. cond (b && false) (Some e.1) (live_item now key items) ≡ item_at (live now items) key) [
    | true ↦ live_item-is now key items
    | false ↦ live_item-is now key items
  ])
  | false ↦ (elim (same_key key e.0) as (λ b. cond (b && true) (Some e.1) (live_item now key items) ≡ cond b (Some e.1) (item_at (live now items) key)) [
    | true ↦ refl
    | false ↦ live_item-is now key items
  ])
])
