-- A hold is granted.
use Rattle.std.proofs.Common.{◌≡◌, ℕ, ◌+◌, ◌<◌, ◌≤◌, Bool, true, false, [], ◌∷◌, ◌++◌, length, slice_index_or, inl, inr, refl, sym, ◌∙◌, ap, subst, arith}
use Rattle.std.proofs.Math.ListN.{get_or-map}
use Rattle.std.proofs.Math.Seq.{map-set_same}
use Rattle.std.proofs.lemmas.Bool.{cases_lt, false≢true}
use Rattle.std.proofs.lemmas.List.{length-map, get_or_default}
use Rattle.tm_seq.specs.Kind.{Kind}
use Rattle.tm_batch.specs.declared.message.Name.{Name}
use Rattle.tm_batch.specs.declared.message.Request.TheVariants.{Grant}
use Rattle.tm_batch.specs.declared.message.Answer.{Answer}
use Rattle.tm_batch.specs.declared.message.Answer.TheVariants.{Granted, GiftsFull}
use Rattle.tm_model.specs.State.{Place, State, no_place, place_of, place_count, holds_of, with_holds}
use Rattle.tm_model.specs.Serve as serve
use Rattle.tm_model.specs.Legal.{IsGiftRefused}
use Rattle.tm_objects.specs.Live.{count_in, object_of}
use Rattle.tm_objects.specs.Stock.{Stock, gifts_of, granted}
use Rattle.tm_objects.proofs.Alike.{grants_alike}
use Rattle.tm_core.proofs.Unfinished.{unfinished_change}
use Rattle.tm_state.specs.StateView.{StateView}
use Rattle.tm_state.specs.Represents.{Keeps}
use Rattle.tm_state.specs.Asking.{IsAsked}
use Rattle.tm_state.proofs.RowsKeep.{Row, keeps_place}
use Rattle.tm_state.proofs.RowsWorks.{stay_change}
use Rattle.tm_state.proofs.RowsLive.{HeldAt, held_at, of_object, is_held}

module _ {V O R T : Type 0} (kind : Kind V O R T) (opening s : State V O R T) (c : ℕ) (h : StateView V O R T) (n : Name) (to : ℕ)
    (asked : IsAsked opening s c (Grant n to) h) where
  at : HeldAt s h c n.id
  at = held_at n.id refl asked

  to_within : to < length s.places
  to_within =
      let e = ap (λ x. place_count x) asked.sound.setup in
      let client : to < s.setup.config.clients = asked.may.grants in
      omega (arith, asked.sound.places, e, client)

  closed_within : to < length h.closed
  closed_within =
      let long : length h.closed ≡ length s.places = ap length asked.keeps.closed ∙ length-map s.places (λ (p : Place V O R T). p.is_closed) in
      let lt = to_within in
      omega (arith, long, lt)

  -- what was read says whether the place is closed
  shut_is : (shut : Bool) → shut ≡ slice_index_or h.closed to shut → shut ≡ (place_of s to).is_closed
  shut_is shut e =
      e ∙ get_or_default h.closed to shut false closed_within ∙ ap (λ l. slice_index_or l to false) asked.keeps.closed
      ∙ get_or-map (λ (p : Place V O R T). p.is_closed) s.places to no_place

  module _ (stock : Stock V) (shut r : Bool) (read : shut ≡ slice_index_or h.closed to shut) (is_open : shut ≡ false)
      (gives : length (gifts_of h.stock.gifts to) < 1024 → count_in (object_of h.stock.live n.id) to < 4294967295 → (r ≡ true) × (stock ≡ granted n to h.stock))
      (waiting : 1024 ≤ length (gifts_of h.stock.gifts to) → (r ≡ false) × (stock ≡ h.stock))
      (holds : 4294967295 ≤ count_in (object_of h.stock.live n.id) to → (r ≡ false) × (stock ≡ h.stock)) where
    opens : (place_of s to).is_closed ≡ false
    opens = sym (shut_is shut read) ∙ is_open

    gifts_are : gifts_of h.stock.gifts to ≡ (place_of s to).gifts
    gifts_are = ap (λ (x : Stock V). gifts_of x.gifts to) asked.keeps.stock ∙ get_or-map (λ (p : Place V O R T). p.gifts) s.places to no_place

    count_is : count_in (object_of h.stock.live n.id) to ≡ holds_of at.object to
    count_is = ap (λ x. count_in x to) at.has

    -- the place has one hold more, and a gift waits for it
    granted_row :
        length (gifts_of h.stock.gifts to) < 1024 → count_in (object_of h.stock.live n.id) to < 4294967295 → stock ≡ granted n to h.stock
        → Row kind s c (Grant n to) Granted (record h { stock = stock })
    granted_row few less is =
        let long = ap length gifts_are in
        let count = count_is in
        let p : Place V O R T = record (place_of s to) { gifts = (place_of s to).gifts ++ n ∷ [] } in (
          (
            is_held at,
            asked.may.grants,
            (
              opens,
              of_object at (λ o. ¬ IsGiftRefused s to o)
                  (elim [ inl full ↦ omega (arith, full, few, long) | inr full ↦ omega (arith, full, less, count) ]),
            ),
          ),
          keeps_place s h to p (serve.granted n to s).live stock h.closed asked.keeps (λ d. unfinished_change d n.id _ s.live (λ o. refl))
              (stay_change n.id (λ o. with_holds to (holds_of o to + 1) o) s.live (λ o. refl) (λ o. refl)) refl
              (is ∙ ap (granted n to) asked.keeps.stock ∙ sym (grants_alike V O R T n to s))
              (asked.keeps.closed ∙ sym (map-set_same (λ (p : Place V O R T). p.is_closed) s.places to p no_place refl)),
        )

    -- nothing changes
    full_row : IsGiftRefused s to at.object → stock ≡ h.stock → Row kind s c (Grant n to) GiftsFull (record h { stock = stock })
    full_row full is =
        ((is_held at, asked.may.grants, (opens, of_object at (IsGiftRefused s to) full)), subst (λ x. Keeps s (record h { stock = x })) (sym is) asked.keeps)

    -- whether it was granted decides the row
    pub grant_true : (a : Answer V O R T) → r ≡ true → a ≡ Granted → Row kind s c (Grant n to) a (record h { stock = stock })
    grant_true a was is =
        subst (λ x. Row kind s c (Grant n to) x (record h { stock = stock })) (sym is)
        (elim (cases_lt (length (gifts_of h.stock.gifts to)) 1024) [
          | inr full ↦ absurd (false≢true (sym (waiting full).0 ∙ was))
          | inl few ↦
              elim (cases_lt (count_in (object_of h.stock.live n.id) to) 4294967295) [
                | inr full ↦ absurd (false≢true (sym (holds full).0 ∙ was))
                | inl less ↦ granted_row few less (gives few less).1
              ]
        ])

    pub grant_false : (a : Answer V O R T) → r ≡ false → a ≡ GiftsFull → Row kind s c (Grant n to) a (record h { stock = stock })
    grant_false a was is =
        subst (λ x. Row kind s c (Grant n to) x (record h { stock = stock })) (sym is)
        (elim (cases_lt (length (gifts_of h.stock.gifts to)) 1024) [
          | inr full ↦ let long = ap length gifts_are in full_row (inl (omega (arith, full, long))) (waiting full).1
          | inl few ↦
              elim (cases_lt (count_in (object_of h.stock.live n.id) to) 4294967295) [
                | inr full ↦ let count = count_is in full_row (inr (omega (arith, full, count))) (holds full).1
                | inl less ↦ absurd (false≢true (sym was ∙ (gives few less).0))
              ]
        ])
