-- Holds are given up: by a release, by a reclaim, or by the end of a place.
use Rattle.std.proofs.Common.{◌≡◌, ◌≢◌, ℕ, Bool, true, List, [], length, slice_set, ◌-◌, inl, inr, refl, sym, ◌∙◌, ap, subst, arith}
use Rattle.std.specs.declared.result.Result.{Result}
use Rattle.std.specs.declared.result.Result.TheVariants.{Ok, Err}
use Rattle.std.specs.Result.{IsOkAnd, IsErr}
use Rattle.std.proofs.lemmas.Bool.{cases_eq, false≢true}
use Rattle.std.proofs.lemmas.List.{map-set}
use Rattle.tm_seq.specs.Kind.{Kind}
use Rattle.tm_batch.specs.declared.message.Name.{Name}
use Rattle.tm_batch.specs.declared.message.Request.TheVariants.{Release, Reclaim, Bye}
use Rattle.tm_batch.specs.declared.message.Answer.{Answer}
use Rattle.tm_batch.specs.declared.message.Answer.TheVariants.{Released, Reclaimed, Shared, ByeDone}
use Rattle.tm_model.specs.State.{Object, Place, State, place_of, place_count, holds_of, with_holds, total, without}
use Rattle.tm_model.specs.Serve as serve
use Rattle.tm_model.specs.Holds.{unfinished}
use Rattle.tm_objects.specs.Live as live
use Rattle.tm_objects.specs.Live.{HasLive}
use Rattle.tm_objects.specs.Stock.{Stock, released, reclaimed, closed}
use Rattle.tm_objects.proofs.Alike.{releases_alike, reclaims_alike, closes_alike}
use Rattle.tm_core.proofs.CallerLemmas.{item_within, all_weaker}
use Rattle.tm_core.proofs.Unfinished.{no_works, unfinished_change, unfinished_map, unfinished_kept, unfinished_without}
use Rattle.tm_state.specs.StateView.{StateView}
use Rattle.tm_state.specs.Represents.{Keeps}
use Rattle.tm_state.specs.Asking.{IsAsked}
use Rattle.tm_state.proofs.RowsOrder.{alone, sound_ordered}
use Rattle.tm_state.proofs.RowsKeep.{Row, keeps_live, keeps_place}
use Rattle.tm_state.proofs.RowsWorks.{WorksStay, stay_change, stay_map, stay_kept, stay_without}
use Rattle.tm_state.proofs.RowsLive.{HeldAt, held_at, of_object, from_live, is_held}

module _ {V O R T : Type 0} (kind : Kind V O R T) (opening s : State V O R T) (c : ℕ) (h : StateView V O R T) (stock : Stock V) where
  -- a hold of the place goes
  pub release_row : (n : Name) → IsAsked opening s c (Release n) h → stock ≡ released c n.id h.stock → Row kind s c (Release n) Released (record h { stock = stock })
  release_row n asked is =
      let k = asked.keeps in (
        (is_held (held_at n.id refl asked), refl),
        keeps_live s h s.next_id (serve.released c n.id s).live stock k (λ d. unfinished_kept d _ ∙ unfinished_change d n.id _ s.live (λ o. refl))
            (λ l k. stay_kept _ l (stay_change n.id (λ o. with_holds c (holds_of o c - 1) o) s.live (λ o. refl) (λ o. refl) l k))
            (is ∙ ap (released c n.id) k.stock ∙ sym (releases_alike V O R T c n.id s)),
      )

  -- an object that is reclaimed has no unfinished launch
  reclaimed_unfinished : (n : Name) → IsAsked opening s c (Reclaim n) h → live.total_in (live.object_of h.stock.live n.id) ≡ 1 → (d : ℕ) → unfinished d (without n.id s.live) ≡ unfinished d s.live
  reclaimed_unfinished n asked one d =
      let at : HeldAt s h c n.id = held_at n.id refl asked in
      let o = at.object in
      let last : total o ≡ 1 = ap live.total_in (sym at.has) ∙ one in
      let within = item_within o.holds c in
      let held = at.held in
      let none = no_works d 0 o.works (omega (arith, last, within, held)) in
      let gone = unfinished_without (place_count opening.setup) 1 s.next_id d n.id s.live o (sound_ordered opening s asked.sound).rises at.found in
      omega (arith, gone, none)

  -- so all launches stay
  reclaimed_stay : (n : Name) → IsAsked opening s c (Reclaim n) h → live.total_in (live.object_of h.stock.live n.id) ≡ 1 → WorksStay s.live (without n.id s.live)
  reclaimed_stay n asked one =
      let at : HeldAt s h c n.id = held_at n.id refl asked in
      let o = at.object in
      let last : total o ≡ 1 = ap live.total_in (sym at.has) ∙ one in
      let within = item_within o.holds c in
      let held = at.held in
      let none : length o.works ≡ 0 = omega (arith, last, within, held) in
      stay_without n.id s.live
      (all_weaker _ _ s.live (λ x is named. ap (λ (y : Object V T). length y.works) (is named) ∙ none)
      (alone (place_count opening.setup) 1 s.next_id n.id s.live o (sound_ordered opening s asked.sound).rises at.found))

  -- the object goes, and its value comes back
  reclaimed_row :
      (n : Name) (v : V) → IsAsked opening s c (Reclaim n) h → live.total_in (live.object_of h.stock.live n.id) ≡ 1
      → HasLive h.stock.live n.id (λ o. v ≡ o.value) → stock ≡ reclaimed n.id h.stock → Row kind s c (Reclaim n) (Reclaimed v) (record h { stock = stock })
  reclaimed_row n v asked one value is =
      let k = asked.keeps in
      let at : HeldAt s h c n.id = held_at n.id refl asked in (
        (
          is_held at,
          of_object at (λ o. (total o ≡ 1) × (v ≡ o.value)) (ap live.total_in (sym at.has) ∙ one, from_live at (λ o. v ≡ o.value) value),
        ),
        keeps_live s h s.next_id (without n.id s.live) stock k (reclaimed_unfinished n asked one) (reclaimed_stay n asked one)
            (is ∙ ap (reclaimed n.id) k.stock ∙ sym (reclaims_alike V O R T n.id s)),
      )

  -- there is another hold on it, or a launch: nothing changes
  shared_row :
      (n : Name) → IsAsked opening s c (Reclaim n) h → live.total_in (live.object_of h.stock.live n.id) ≢ 1 → stock ≡ h.stock
      → Row kind s c (Reclaim n) Shared (record h { stock = stock })
  shared_row n asked more is =
      let at : HeldAt s h c n.id = held_at n.id refl asked in (
        (is_held at, of_object at (λ o. ¬ (total o ≡ 1)) (λ one. more (ap live.total_in at.has ∙ one))),
        subst (λ x. Keeps s (record h { stock = x })) (sym is) asked.keeps,
      )

  module _ {E : Type 0} (r : Result V E) (n : Name) (asked : IsAsked opening s c (Reclaim n) h)
      (last : live.total_in (live.object_of h.stock.live n.id) ≡ 1 → IsOkAnd r (λ v. HasLive h.stock.live n.id (λ o. v ≡ o.value)) × (stock ≡ reclaimed n.id h.stock))
      (more : live.total_in (live.object_of h.stock.live n.id) ≢ 1 → IsErr r × (stock ≡ h.stock)) where
    -- what it gives decides the row
    pub reclaim_ok : (v : V) (a : Answer V O R T) → r ≡ Ok v → a ≡ Reclaimed v → Row kind s c (Reclaim n) a (record h { stock = stock })
    reclaim_ok v a ok is =
        subst (λ x. Row kind s c (Reclaim n) x (record h { stock = stock })) (sym is)
        (elim (cases_eq (live.total_in (live.object_of h.stock.live n.id)) 1) [
          | inl one ↦
              let l = last one in
              reclaimed_row n v asked one (subst (λ x. IsOkAnd x (λ v. HasLive h.stock.live n.id (λ o. v ≡ o.value))) ok l.0) l.1
          | inr ne ↦ absurd (false≢true (subst (λ x. IsErr x) ok (more ne).0))
        ])

    pub reclaim_err : (e : E) (a : Answer V O R T) → r ≡ Err e → a ≡ Shared → Row kind s c (Reclaim n) a (record h { stock = stock })
    reclaim_err e a err is =
        subst (λ x. Row kind s c (Reclaim n) x (record h { stock = stock })) (sym is)
        (elim (cases_eq (live.total_in (live.object_of h.stock.live n.id)) 1) [
          | inl one ↦ absurd (subst (λ x. IsOkAnd x (λ v. HasLive h.stock.live n.id (λ o. v ≡ o.value))) err (last one).0)
          | inr ne ↦ shared_row n asked ne (more ne).1
        ])

  -- all holds of the place go, and the gifts that wait for it
  pub close_row :
      (shut : List Bool) → IsAsked opening s c Bye h → stock ≡ closed c h.stock → shut ≡ slice_set h.closed c true
      → Row kind s c Bye ByeDone (record h { stock = stock; closed = shut })
  close_row shut asked is closes =
      let k = asked.keeps in (
        refl,
        keeps_place s h c (record (place_of s c) { is_closed = true; gifts = [] }) (serve.closed c s).live stock shut k
            (λ d. unfinished_kept d _ ∙ unfinished_map d _ s.live (λ o. refl))
            (λ l k. stay_kept _ l (stay_map (λ o. with_holds c 0 o) s.live (λ o. refl) (λ o. refl) l k)) refl
            (is ∙ ap (closed c) k.stock ∙ sym (closes_alike V O R T c s))
            (closes ∙ ap (λ l. slice_set l c true) k.closed ∙ sym (map-set (λ (p : Place V O R T). p.is_closed) s.places c _)),
      )
