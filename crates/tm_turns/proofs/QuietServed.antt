-- What a serving turn that moved nothing leaves as it is, and what it tells.
use Rattle.std.proofs.Common.{◌≡◌, ℕ, zero, suc, ◌+◌, ◌-◌, ◌^◌, inl, inr, List, [], ◌∷◌, length, map, min, refl, sym, ◌∙◌, ap, subst, arith}
use Rattle.std.specs.Prelude.{slice_get}
use Rattle.std.specs.declared.option.Option.TheVariants.{Some}
use Rattle.std.proofs.lemmas.Bool.{cases_order}
use Rattle.std.proofs.lemmas.Option.{slice_get_within}
use Rattle.tm_seq.specs.Kind.{Kind}
use Rattle.tm_batch.specs.declared.config.Config.{Config}
use Rattle.tm_batch.specs.declared.config.First.{First}
use Rattle.tm_batch.specs.declared.message.Request.{Request}
use Rattle.tm_model.specs.declared.entry.Entry.{Entry}
use Rattle.tm_model.specs.State.{place_count}
use Rattle.tm_pair.specs.Plain.{opening_at, client_at, trustee_at, plain_theory}
use Rattle.tm_pair.specs.declared.plain.PlainTable.{PlainTable}
use Rattle.tm_pair.specs.declared.plain.PlainClient.{PlainClient}
use Rattle.tm_state.specs.Asking.{HaveAllEnded}
use Rattle.tm_trustee.specs.Places.{found_below}
use Rattle.tm_trustee.specs.Serving.{resumes_in, done_by}
use Rattle.tm_trustee.specs.declared.served.Served.{Served}
use Rattle.tm_trustee.proofs.Elements.{element_at, there_too, same_element, set_here, mapped}
use Rattle.tm_trustee.proofs.TurningReady.{own_table, at_home}
use Rattle.tm_turns.specs.Whole.{AreOf}
use Rattle.tm_turns.specs.Going.{ServesAt}
use Rattle.tm_turns.specs.declared.turns.Turns.{Turns}
use Rattle.tm_turns.proofs.AskedServed.{PlacesStay, places_stay}
use Rattle.tm_turns.proofs.WentUp.{went_up}
use Rattle.tm_turns.proofs.WeightsUp.{moved_at}
use Rattle.tm_turns.proofs.Quiet.{at_some, some_set, marks_of, flat, box_in, notes, Still, UpStays, up_stays, moved_none}

module _ {X Y : Type 0} (f : X → Y) where
  -- lists of which the elements of each index agree under a function
  some_alike :
      (xs ys : List X) (k : ℕ) → length ys ≡ length xs → ((x y : X) → slice_get xs k ≡ Some x → slice_get ys k ≡ Some y → f y ≡ f x)
      → at_some f (slice_get ys k) ≡ at_some f (slice_get xs k)
  some_alike [] [] k many alike = refl
  some_alike [] (y ∷ ys) k many alike = absurd (omega (arith, many))
  some_alike (x ∷ xs) [] k many alike = absurd (omega (arith, many))
  some_alike (x ∷ xs) (y ∷ ys) zero many alike = ap (λ (z : Y). Some z) (alike x y refl refl)
  some_alike (x ∷ xs) (y ∷ ys) (suc k) many alike = some_alike xs ys k (omega (arith, many)) alike

  map_alike :
      (xs ys : List X) → length ys ≡ length xs → ((k : ℕ) (x y : X) → slice_get xs k ≡ Some x → slice_get ys k ≡ Some y → f y ≡ f x) → map f ys ≡ map f xs
  map_alike [] [] many alike = refl
  map_alike [] (y ∷ ys) many alike = absurd (omega (arith, many))
  map_alike (x ∷ xs) [] many alike = absurd (omega (arith, many))
  map_alike (x ∷ xs) (y ∷ ys) many alike =
      let head : f y ≡ f x = alike 0 x y refl refl in
      let rest = map_alike xs ys (omega (arith, many)) (λ k u v eu ev. alike (suc k) u v eu ev) in
      ap (λ z. z ∷ map f ys) head ∙ ap (λ zs. f x ∷ zs) rest

module _ {V C O R T : Type 0} (kind : Kind V O R T) (t : ℕ) (served : Served) (old new : Turns V C O R T) (is : ServesAt kind t served old new)
    (config : Config) (first : List (First V)) (are : AreOf kind config first old) (none : is.becomes.moved ≡ 0) where
  -- the parts of the turn, at the trustee's own table
  pub record Parts : Type 0 where
    pub was : PlainTable V O R T
    pub now : PlainTable V O R T
    pub at_was : slice_get old.tables.items t ≡ Some was
    pub at_now : slice_get new.tables.items t ≡ Some now
    pub stay : PlacesStay kind (opening_at was) (place_count (opening_at was).setup) was now is.trustee.side is.becomes.side
    pub quiet : moved_at kind is.trustee.above.items is.becomes.above.items ≡ 0
    pub number : is.trustee.number ≡ t
    pub many : length is.becomes.above.items ≡ length is.trustee.above.items
    pub seats : t + 1 + length is.trustee.above.items ≡ length old.tables.items
    pub tables : length new.tables.items ≡ length old.tables.items

  pub parts : Parts
  parts =
      let (number, ready) = are.trustees t is.trustee is.of_trustee in
      let (was, at_n) = own_table (plain_theory kind) kind old.tables.items is.trustee ready in
      let home = at_home (plain_theory kind) kind old.tables.items is.trustee was ready at_n in
      let (now, now_n) = there_too old.tables.items new.tables.items is.trustee.number was is.tables.as_many at_n in
      let turned = is.turned was now at_n now_n in
      let places = place_count (opening_at was).setup in
      let since : ℕ = found_below places (trustee_at is.becomes.side)
      + (resumes_in (done_by (plain_theory kind) is.becomes) - resumes_in (done_by (plain_theory kind) is.trustee))
      + moved_at kind is.trustee.above.items is.becomes.above.items in
      let moved : is.becomes.moved ≡ min since (2 ^ 64 - 1) = turned.moved in
      let are_now = is.keeps config first are in
      let of_now : slice_get new.trustees.items t ≡ Some is.becomes =
      subst (λ xs. slice_get xs t ≡ Some is.becomes) (sym is.trustees)
      (set_here old.trustees.items t is.becomes (slice_get_within old.trustees.items t is.trustee is.of_trustee)) in
      let (number_now, ready_now) = are_now.trustees t is.becomes of_now in
      let seats = ready.above.as_many in
      let seats_now = ready_now.above.as_many in
      let tables = is.tables.as_many in
      record {
        was = was;
        now = now;
        at_was = subst (λ k. slice_get old.tables.items k ≡ Some was) number at_n;
        at_now = subst (λ k. slice_get new.tables.items k ≡ Some now) number now_n;
        stay = places_stay kind (opening_at was) places was now is.trustee.side is.becomes.side refl home.0 (omega arith) (omega (arith, moved, none)) turned.serves;
        quiet = omega (arith, moved, none);
        number = number;
        many = omega (arith, seats, seats_now, tables, number, number_now);
        seats = omega (arith, seats, number);
        tables = tables;
      }

  -- a side above stayed
  pub seat_stays :
      (i : ℕ) (x y : PlainTable V O R T) (before after : PlainClient V O R T) → slice_get old.tables.items (t + 1 + i) ≡ Some x
      → slice_get new.tables.items (t + 1 + i) ≡ Some y → slice_get is.trustee.above.items i ≡ Some before → slice_get is.becomes.above.items i ≡ Some after
      → UpStays kind (HaveAllEnded (opening_at parts.was) (trustee_at is.becomes.side).log) x y before after
  seat_stays i x y before after ex ey eb ea =
      let p = parts in
      let (number, ready) = are.trustees t is.trustee is.of_trustee in
      let at_x : slice_get old.tables.items (is.trustee.number + 1 + i) ≡ Some x = subst (λ k. slice_get old.tables.items (k + 1 + i) ≡ Some x) (sym number) ex in
      let at_y : slice_get new.tables.items (is.trustee.number + 1 + i) ≡ Some y = subst (λ k. slice_get new.tables.items (k + 1 + i) ≡ Some y) (sym number) ey in
      let goes = is.above p.was (subst (λ k. slice_get old.tables.items k ≡ Some p.was) (sym number) p.at_was) i x y before after at_x at_y eb ea in
      let moved = moved_none (map (λ (side : PlainClient V O R T). client_at side) is.trustee.above.items) (map (λ (side : PlainClient V O R T). client_at side) is.becomes.above.items)
      i (client_at before) (client_at after) p.quiet
      (mapped (λ (side : PlainClient V O R T). client_at side) is.trustee.above.items i before eb)
      (mapped (λ (side : PlainClient V O R T). client_at side) is.becomes.above.items i after ea) in
      let went = went_up kind _ _ x y before after moved goes in
      up_stays kind (HaveAllEnded (opening_at p.was) (trustee_at is.becomes.side).log) x y before after (ready.above.mine i x before at_x eb) went moved

  boxes_stay : (k c : ℕ) (x y : PlainTable V O R T) → slice_get old.tables.items k ≡ Some x → slice_get new.tables.items k ≡ Some y → box_in c y ≡ box_in c x
  boxes_stay k c x y ex ey =
      let p = parts in
      elim (cases_order k t) [
        | inl same ↦
            let is_was = same_element old.tables.items t x p.was (subst (λ m. slice_get old.tables.items m ≡ Some x) same ex) p.at_was in
            let is_now = same_element new.tables.items t y p.now (subst (λ m. slice_get new.tables.items m ≡ Some y) same ey) p.at_now in
            ap (λ (z : PlainTable V O R T). box_in c z) (sym is_now) ∙ p.stay.boxes c ∙ ap (λ (z : PlainTable V O R T). box_in c z) is_was
        | inr (inl lt) ↦
            let number = p.number in
            ap (λ (z : PlainTable V O R T). box_in c z) (same_element old.tables.items k x y ex (sym (is.tables.lower k (omega (arith, lt, number))) ∙ ey))
        | inr (inr lt) ↦
            let i : ℕ = k - (t + 1) in
            let e : k ≡ t + 1 + i = omega (arith, lt) in
            let below = slice_get_within old.tables.items k x ex in
            let seats = p.seats in
            let many = p.many in
            let (before, eb) = element_at is.trustee.above.items i (omega (arith, below, seats, lt)) in
            let (after, ea) = element_at is.becomes.above.items i (omega (arith, below, seats, lt, many)) in
            let stays = seat_stays i x y before after (subst (λ m. slice_get old.tables.items m ≡ Some x) e ex) (subst (λ m. slice_get new.tables.items m ≡ Some y) e ey) eb ea in
            stays.boxes c
      ]

  sent_stays :
      (i : ℕ) (before after : PlainClient V O R T) → slice_get is.trustee.above.items i ≡ Some before → slice_get is.becomes.above.items i ≡ Some after
      → (client_at after).sent ≡ (client_at before).sent
  sent_stays i before after eb ea =
      let p = parts in
      let within = slice_get_within is.trustee.above.items i before eb in
      let seats = p.seats in
      let (x, ex) = element_at old.tables.items (t + 1 + i) (omega (arith, within, seats)) in
      let (y, ey) = there_too old.tables.items new.tables.items (t + 1 + i) x p.tables ex in
      (seat_stays i x y before after ex ey eb ea).sent

  pub serve_still : Still old new
  serve_still =
      let p = parts in
      let log = p.stay.log in
      let sent = map_alike (λ (side : PlainClient V O R T). (client_at side).sent) is.trustee.above.items is.becomes.above.items p.many sent_stays in
      let same : notes is.becomes ≡ notes is.trustee =
      ap (λ (l : List (Entry V O R T)). record { log = l; sent = map (λ side. (client_at side).sent) is.becomes.above.items }) log
      ∙ ap (λ (s : List (List (Request V O R T))). record { log = (trustee_at is.trustee.side).log; sent = s }) sent in
      record {
        lanes = λ c k. ap (λ xs. flat (at_some (marks_of k) (slice_get xs.items c))) is.clients;
        boxes = λ k c. some_alike (box_in c) old.tables.items new.tables.items k p.tables (λ x y ex ey. boxes_stay k c x y ex ey);
        trustees = λ k.
            ap (λ xs. at_some notes (slice_get xs k)) is.trustees ∙ some_set notes old.trustees.items t k is.trustee is.becomes is.of_trustee same;
      }
