use Rattle.std.proofs.Common.{◌≡◌, ℕ, ◌+◌, ◌<◌, List, [], ◌∷◌, ◌++◌, length, Some, Vec, Global, refl, ap, ◌∙◌, arith, length-set}
use Rattle.std.specs.Prelude.{map, replicate}
use Rattle.std.proofs.lemmas.List.{map-append, get_or-replicate, length-replicate}
use Rattle.std.proofs.lemmas.List.Elements.{All-pop}
use Rattle.tm_objects.specs.Live.{Live, LiveList, holds_of, total, with_holds, first_held}
use Rattle.tm_objects.specs.Listing.{seek, listed}
use Rattle.tm_objects.proofs.At.{first_total, sound_add}
use Rattle.tm_objects.proofs.Counted.{zero_sum, set_within, counted_add}
use Rattle.tm_objects.proofs.live.LiveObjects.add.Goals as goal

-- a row of zeros with one hold is that of a new object
first : {V : Type 0} (e o : Live V) (i id : ℕ) (v : V) (places c : ℕ) (row : List ℕ) → i ≡ id → row ≡ replicate places 0 → c < places
    → e ≡ record { id = i; value = v; holds = row; launches = 0 } → o ≡ with_holds c (holds_of e c + 1) e → o ≡ first_held id v places c
first e o i id v places c row same zeros within is added =
    let z = get_or-replicate {A = ℕ} places c 0 0 within in
    added ∙ rw (is, zeros, z, same) refl

-- a new object has a 0 for each place
blank_entry : {V : Type 0} (e : Live V) (id : ℕ) (v : V) (places c : ℕ) (row : List ℕ) → row ≡ replicate places 0 → c < places → e ≡ record { id = id; value = v; holds = row; launches = 0 }
    → (c < length e.holds) × (holds_of e c ≡ 0) × (total e ≡ 0)
blank_entry e id v places c row zeros within is = rw (is, zeros) (
  omega (arith, length-replicate {A = ℕ} places 0, within),
  get_or-replicate {A = ℕ} places c 0 0 within,
  omega (arith, zero_sum places),
)

pub new-entry-requires : goal.new-entry-requires
new-entry-requires g c =
    let f = λ (row : Vec ℕ Global). row.items in
    let more : map f c.self.inside.spare.items ≡ map f c.pop.new.self.items ++ c.in-Some.row.items ∷ [] =
    ap (λ (rows : List (Vec ℕ Global)). map f rows) c.in-Some.ensures.items ∙ map-append f c.pop.new.self.items (c.in-Some.row ∷ []) in
    let zeros : c.in-Some.row.items ≡ replicate c.self.inside.places 0 =
    (All-pop (λ row. row ≡ replicate c.self.inside.places 0) (map f c.self.inside.spare.items) (map f c.pop.new.self.items) (Some c.in-Some.row.items) more c.self.invariant.0.blank).1 in
    rw zeros (zero_sum c.self.inside.places)

pub add_hold-requires : goal.add_hold-requires
add_hold-requires g c =
    let f = λ (row : Vec ℕ Global). row.items in
    let more : map f c.self.inside.spare.items ≡ map f c.pop.new.self.items ++ c.in-Some.row.items ∷ [] =
    ap (λ (rows : List (Vec ℕ Global)). map f rows) c.in-Some.ensures.items ∙ map-append f c.pop.new.self.items (c.in-Some.row ∷ []) in
    let zeros : c.in-Some.row.items ≡ replicate c.self.inside.places 0 =
    (All-pop (λ row. row ≡ replicate c.self.inside.places 0) (map f c.self.inside.spare.items) (map f c.pop.new.self.items) (Some c.in-Some.row.items) more c.self.invariant.0.blank).1 in
    let within : c.args.place < c.self.inside.places = let e = ap (λ (s : LiveList g.row.V.Denot). s.places) c.self.view_is in omega (arith, e, c.requires.place) in
    let b = blank_entry c.new-entry.result c.next_id-id.result c.args.value c.self.inside.places c.args.place c.in-Some.row.items zeros within c.new-entry.ensures in
    record { place = b.0; count = omega (arith, b.1); total = omega (arith, b.2) }

pub keep_key-requires : goal.keep_key-requires
keep_key-requires g c =
    let within : c.args.place < c.self.inside.places = let e = ap (λ (s : LiveList g.row.V.Denot). s.places) c.self.view_is in omega (arith, e, c.requires.place) in
    let inside = c.insert_reserved-key.ensures.key_in_range in
    let s = set_within c.self.invariant.1 c.args.place c.insert_reserved-key.result within (omega (arith, inside, c.insert_reserved-key.ensures.capacity)) in
    record { place = s.0; key = s.1 }

pub invariant_of-self : goal.invariant_of-self
invariant_of-self g c =
    let f = λ (row : Vec ℕ Global). row.items in
    let more : map f c.self.inside.spare.items ≡ map f c.pop.new.self.items ++ c.in-Some.row.items ∷ [] =
    ap (λ (rows : List (Vec ℕ Global)). map f rows) c.in-Some.ensures.items ∙ map-append f c.pop.new.self.items (c.in-Some.row ∷ []) in
    let zeros : c.in-Some.row.items ≡ replicate c.self.inside.places 0 =
    (All-pop (λ row. row ≡ replicate c.self.inside.places 0) (map f c.self.inside.spare.items) (map f c.pop.new.self.items) (Some c.in-Some.row.items) more c.self.invariant.0.blank).1 in
    let within : c.args.place < c.self.inside.places = let e = ap (λ (s : LiveList g.row.V.Denot). s.places) c.self.view_is in omega (arith, e, c.requires.place) in
    let is = first c.new-entry.result c.add_hold.new.self c.next_id-id.result (c.self.inside.given + 1) c.args.value c.self.inside.places c.args.place c.in-Some.row.items c.next_id-id.ensures.id zeros within c.new-entry.ensures c.add_hold.ensures in (
      rw (c.in-Some.ensures.capacity, c.next_id-id.ensures.given)
          (sound_add c.self.invariant.0 c.insert_reserved-key.new.self _ c.in-Some.row.items c.insert_reserved-key.result c.add_hold.new.self more
          c.insert_reserved-key.ensures.was_vacant c.insert_reserved-key.ensures.updates c.insert_reserved-key.ensures.len c.insert_reserved-key.ensures.capacity
          (ap (λ (o : Live g.row.V.Denot). o.id) is)
          (ap (λ (o : Live g.row.V.Denot). length o.holds) is ∙ (length-set (replicate c.self.inside.places 0) c.args.place 1 ∙ length-replicate c.self.inside.places 0))
          (rw is (first_total (c.self.inside.given + 1) c.args.value c.self.inside.places c.args.place within))).0,
      rw c.keep_key.ensures
          (counted_add c.self.invariant.1 c.insert_reserved-key.result c.args.place (c.self.inside.given + 1) c.args.value c.add_hold.new.self c.insert_reserved-key.ensures.was_vacant
          c.insert_reserved-key.ensures.updates c.insert_reserved-key.ensures.capacity c.insert_reserved-key.ensures.key_in_range within is),
    )

pub returns-clause-added : goal.returns-clause-added
returns-clause-added g c =
    let f = λ (row : Vec ℕ Global). row.items in
    let more : map f c.self.inside.spare.items ≡ map f c.pop.new.self.items ++ c.in-Some.row.items ∷ [] =
    ap (λ (rows : List (Vec ℕ Global)). map f rows) c.in-Some.ensures.items ∙ map-append f c.pop.new.self.items (c.in-Some.row ∷ []) in
    let zeros : c.in-Some.row.items ≡ replicate c.self.inside.places 0 =
    (All-pop (λ row. row ≡ replicate c.self.inside.places 0) (map f c.self.inside.spare.items) (map f c.pop.new.self.items) (Some c.in-Some.row.items) more c.self.invariant.0.blank).1 in
    let within : c.args.place < c.self.inside.places = let e = ap (λ (s : LiveList g.row.V.Denot). s.places) c.self.view_is in omega (arith, e, c.requires.place) in
    let is = first c.new-entry.result c.add_hold.new.self c.next_id-id.result (c.self.inside.given + 1) c.args.value c.self.inside.places c.args.place c.in-Some.row.items c.next_id-id.ensures.id zeros within c.new-entry.ensures c.add_hold.ensures in
    let listed-is = (sound_add c.self.invariant.0 c.insert_reserved-key.new.self _ c.in-Some.row.items c.insert_reserved-key.result c.add_hold.new.self more
    c.insert_reserved-key.ensures.was_vacant c.insert_reserved-key.ensures.updates c.insert_reserved-key.ensures.len c.insert_reserved-key.ensures.capacity
    (ap (λ (o : Live g.row.V.Denot). o.id) is)
    (ap (λ (o : Live g.row.V.Denot). length o.holds) is ∙ (length-set (replicate c.self.inside.places 0) c.args.place 1 ∙ length-replicate c.self.inside.places 0))
    (rw is (first_total (c.self.inside.given + 1) c.args.value c.self.inside.places c.args.place within))).1 in
    rw c.next_id-id.ensures.given
    (ap (λ (l : List (Live g.row.V.Denot)). record { most = c.self.inside.most; places = c.self.inside.places; given = c.self.inside.given + 1; live = l }) listed-is
    ∙ (ap (λ (o : Live g.row.V.Denot). record { most = c.self.inside.most; places = c.self.inside.places; given = c.self.inside.given + 1; live = listed (seek c.self.inside.slots.slots) c.self.inside.given ++ o ∷ [] }) is
    ∙ ap (λ (s : LiveList g.row.V.Denot). record s { given = s.given + 1; live = s.live ++ first_held (s.given + 1) c.args.value s.places c.args.place ∷ [] }) c.self.view_is))
