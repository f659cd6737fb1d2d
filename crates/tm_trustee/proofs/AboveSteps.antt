-- The moves at the sides above, one after another.
use Rattle.std.proofs.Common.{◌≡◌, ◌≢◌, ℕ, zero, suc, ◌+◌, ◌<◌, ◌≤◌, ◌⊎◌, inl, inr, Bool, true, false, cond, List, [], ◌∷◌, length, map, refl, sym, ◌∙◌, ap, subst, add_assoc, arith, length-set}
use mir.Val.{bool_byte}
use Rattle.std.specs.Prelude.{slice_get, slice_set}
use Rattle.std.specs.List.{AllByRecursion}
use Rattle.tm_seq.specs.Kind.{Kind}
use Rattle.std.specs.declared.option.Option.TheVariants.{Some}
use Rattle.std.proofs.lemmas.List.{length-map, map-set}
use Rattle.std.proofs.lemmas.Option.{slice_get_within}
use Rattle.tm_model.specs.Orderly.{IsOfTrustee}
use Rattle.tm_pair.specs.Theory.{Theory, TheoryLaws}
use Rattle.tm_pair.specs.Views.{ClientView}
use Rattle.tm_trustee.specs.Above.{IsAt, moves_up, all_moves_up}
use Rattle.tm_trustee.specs.AboveAt.{MovesUp, MovesAt, EachLane, NeedAll, IsAbove}
use Rattle.tm_trustee.specs.Tables.{AreAmong, KeepsAbove}
use Rattle.tm_trustee.specs.declared.lane.Lane.{Lane}
use Rattle.tm_trustee.proofs.Elements.{set_cases, set_other, same_element, mapped_from, mapped}
use Rattle.tm_trustee.proofs.Keeping.{keeps_none, keeps_on, keeps_set}

shifted : (a b d rest : ℕ) → b ≡ 0 → a ≡ d → a + rest ≡ (b + rest) + d
shifted a b d rest none is = omega arith

one_more : (answer : Bool) (m i : ℕ) → m ≤ i → m + cond answer 1 0 ≤ i + 1
one_more true m i le = omega arith
one_more false m i le = omega arith

-- a `bool` as a number
pub as_count : (answer : Bool) (n : ℕ) → n ≡ bool_byte answer → n ≡ cond answer 1 0
as_count true n e = e
as_count false n e = e

module _ {V O R T : Type 0} where
  stays : (view : ClientView V O R T) → moves_up view view ≡ 0
  stays view = omega arith

  all_stay : (views : List (ClientView V O R T)) → all_moves_up views views ≡ 0
  all_stay [] = refl
  all_stay (view ∷ views) = ap (λ n. n + all_moves_up views views) (stays view) ∙ (let h = all_stay views in omega arith)

  -- where a side had not moved, all have moved by as much more as it moves
  one_moves :
      (olds news : List (ClientView V O R T)) (i : ℕ) (old new : ClientView V O R T) → slice_get olds i ≡ Some old → slice_get news i ≡ Some old
      → all_moves_up olds (slice_set news i new) ≡ all_moves_up olds news + moves_up old new
  one_moves [] news i old new eo en = absurd cc
  one_moves (o ∷ olds) [] i old new eo en = absurd cc
  one_moves (o ∷ olds) (n ∷ news) zero old new eo en =
      let first : o ≡ old = cc in
      let second : n ≡ old = cc in
      let none : moves_up o n ≡ 0 = ap (λ v. moves_up v n) first ∙ ap (λ v. moves_up old v) second ∙ stays old in
      shifted (moves_up o new) (moves_up o n) (moves_up old new) (all_moves_up olds news) none (ap (λ v. moves_up v new) first)
  one_moves (o ∷ olds) (n ∷ news) (suc i) old new eo en =
      ap (λ t. moves_up o n + t) (one_moves olds news i old new eo en) ∙ sym (add_assoc (moves_up o n) (all_moves_up olds news) (moves_up old new))

module _ {V O R T Table Client Owner : Type 0} (theory : Theory V O R T Table Client Owner)
    (Goes : Table → Table → Client → Client → Lane V O R T → Lane V O R T → Type 0) where
  -- the sides below i moved, and the others are as they were
  pub record MovesUpTo (from i : ℕ) (old new : List Table) (lanes lanes_new : List (Lane V O R T)) (above above_new : List Client) (moved : ℕ) : Type 0 where
    pub as_many : length above_new ≡ length above
    pub tables_many : length new ≡ length old
    pub lanes_many : length lanes_new ≡ length lanes
    pub below : (k : ℕ) (was now : Table) (before after : Client) (lane becomes : Lane V O R T) → k < i → slice_get old (from + k) ≡ Some was
        → slice_get new (from + k) ≡ Some now → slice_get above k ≡ Some before → slice_get above_new k ≡ Some after
        → slice_get lanes k ≡ Some lane → slice_get lanes_new k ≡ Some becomes → Goes was now before after lane becomes
    pub rest : (k : ℕ) → i ≤ k → slice_get above_new k ≡ slice_get above k
    pub lanes_rest : (k : ℕ) → i ≤ k → slice_get lanes_new k ≡ slice_get lanes k
    pub tables_rest : (k : ℕ) → i ≤ k → slice_get new (from + k) ≡ slice_get old (from + k)
    pub counts : moved ≡ all_moves_up (map theory.client_view above) (map theory.client_view above_new)
    pub most : moved ≤ i
    pub is_above : (place : ℕ) → IsAbove place lanes (map theory.client_view above) → IsAbove place lanes_new (map theory.client_view above_new)
    pub among : AreAmong theory new from above_new
    pub keeps : (place : ℕ) → IsAbove place lanes (map theory.client_view above) → KeepsAbove theory old new from place

module _ {V O R T Table Client Owner : Type 0} (theory : Theory V O R T Table Client Owner)
    (Goes : Table → Table → Client → Client → Lane V O R T → Lane V O R T → Type 0) (kind : Kind V O R T) (laws : TheoryLaws theory kind) where
  pub none_moved :
      (from : ℕ) (tables : List Table) (lanes : List (Lane V O R T)) (above : List Client) → AreAmong theory tables from above
      → MovesUpTo theory Goes from 0 tables tables lanes lanes above above 0
  none_moved from tables lanes above among = record {
    as_many = refl;
    tables_many = refl;
    lanes_many = refl;
    below = λ k was now before after lane becomes lt ew en eb ea el em. absurd (omega arith);
    rest = λ k le. refl;
    lanes_rest = λ k le. refl;
    tables_rest = λ k le. refl;
    counts = sym (all_stay (map theory.client_view above));
    most = omega arith;
    is_above = λ place is. is;
    among = among;
    keeps = λ place is. keeps_none theory kind laws tables from place;
  }

  module _
      (from i : ℕ) (old mid : List Table) (lanes lanes_mid : List (Lane V O R T)) (above above_mid : List Client) (moved : ℕ)
      (done : MovesUpTo theory Goes from i old mid lanes lanes_mid above above_mid moved)
      (was becomes : Table) (before after : Client) (lane lane_new : Lane V O R T) (answer : Bool)
      (of_table : slice_get mid (from + i) ≡ Some was) (of_side : slice_get above_mid i ≡ Some before) (of_lane : slice_get lanes_mid i ≡ Some lane)
      (moves : MovesUp theory Goes was becomes before after lane lane_new answer) where
    abbrev views : List (ClientView V O R T)
    views = map theory.client_view above

    abbrev tables_after : List Table
    tables_after = slice_set mid (from + i) becomes

    abbrev lanes_after : List (Lane V O R T)
    lanes_after = slice_set lanes_mid i lane_new

    abbrev above_after : List Client
    above_after = slice_set above_mid i after

    first_of_side : slice_get above i ≡ Some before
    first_of_side = sym (done.rest i (omega arith)) ∙ of_side

    first_of_lane : slice_get lanes i ≡ Some lane
    first_of_lane = sym (done.lanes_rest i (omega arith)) ∙ of_lane

    first_of_table : slice_get old (from + i) ≡ Some was
    first_of_table = sym (done.tables_rest i (omega arith)) ∙ of_table

    below_at :
        (k : ℕ) (x y : Table) (b a : Client) (l m : Lane V O R T) → k < i + 1 → slice_get old (from + k) ≡ Some x
        → ((from + k ≡ from + i) × (y ≡ becomes)) ⊎ ((from + k ≢ from + i) × (slice_get mid (from + k) ≡ Some y))
        → slice_get above k ≡ Some b → ((k ≡ i) × (a ≡ after)) ⊎ ((k ≢ i) × (slice_get above_mid k ≡ Some a))
        → slice_get lanes k ≡ Some l → ((k ≡ i) × (m ≡ lane_new)) ⊎ ((k ≢ i) × (slice_get lanes_mid k ≡ Some m))
        → Goes x y b a l m
    below_at k x y b a l m lt ex (inl t) eb (inl h) el (inl n) =
        let same : b ≡ before = same_element above i before b first_of_side (subst (λ n. slice_get above n ≡ Some b) h.0 eb) in
        let table : x ≡ was = same_element old (from + i) was x first_of_table (subst (λ n. slice_get old n ≡ Some x) t.0 ex) in
        let mine : l ≡ lane = same_element lanes i lane l first_of_lane (subst (λ n. slice_get lanes n ≡ Some l) h.0 el) in
        subst (λ z. Goes z y b a l m) (sym table)
        (subst (λ z. Goes was z b a l m) (sym t.1)
        (subst (λ z. Goes was becomes z a l m) (sym same)
        (subst (λ z. Goes was becomes before z l m) (sym h.1)
        (subst (λ z. Goes was becomes before after z m) (sym mine) (subst (λ z. Goes was becomes before after lane z) (sym n.1) moves.goes)))))
    below_at k x y b a l m lt ex (inl t) eb (inl h) el (inr n) = absurd (n.0 h.0)
    below_at k x y b a l m lt ex (inl t) eb (inr h) el n = let e : from + k ≡ from + i = t.0 in absurd (h.0 (omega arith))
    below_at k x y b a l m lt ex (inr t) eb (inl h) el n = absurd (t.0 (ap (λ n. from + n) h.0))
    below_at k x y b a l m lt ex (inr t) eb (inr h) el (inl n) = absurd (h.0 n.0)
    below_at k x y b a l m lt ex (inr t) eb (inr h) el (inr n) = let ne : k ≢ i = h.0 in done.below k x y b a l m (omega arith) ex t.1 eb h.1 el n.1

    counts_at : moved + cond answer 1 0 ≡ all_moves_up views (map theory.client_view above_after)
    counts_at =
        ap (λ n. n + cond answer 1 0) done.counts
        ∙ ap (λ n. all_moves_up views (map theory.client_view above_mid) + n) (sym moves.moved)
        ∙ sym (one_moves views (map theory.client_view above_mid) i (theory.client_view before) (theory.client_view after) (mapped theory.client_view above i before first_of_side)
        (mapped theory.client_view above_mid i before of_side))
        ∙ ap (λ l. all_moves_up views l) (sym (map-set theory.client_view above_mid i after))

    module _ (place : ℕ) (is : IsAbove place lanes views) where
      mid_above : IsAbove place lanes_mid (map theory.client_view above_mid)
      mid_above = done.is_above place is

      was_placed : (theory.client_view before).place ≡ place
      was_placed = mid_above.places i (theory.client_view before) (mapped theory.client_view above_mid i before of_side)

      places_at :
          (k : ℕ) (a : Client) → ((k ≡ i) × (a ≡ after)) ⊎ ((k ≢ i) × (slice_get above_mid k ≡ Some a)) → (theory.client_view a).place ≡ place
      places_at k a (inl h) = ap (λ x. (theory.client_view x).place) h.1 ∙ moves.place ∙ was_placed
      places_at k a (inr h) = mid_above.places k (theory.client_view a) (mapped theory.client_view above_mid k a h.1)

      asked_at :
          (k : ℕ) (a : Client) → ((k ≡ i) × (a ≡ after)) ⊎ ((k ≢ i) × (slice_get above_mid k ≡ Some a))
          → AllByRecursion IsOfTrustee (theory.client_view a).sent
      asked_at k a (inl h) = subst (λ x. AllByRecursion IsOfTrustee (theory.client_view x).sent) (sym h.1) moves.asked
      asked_at k a (inr h) = mid_above.asked k (theory.client_view a) (mapped theory.client_view above_mid k a h.1)

      stages_at :
          (k : ℕ) (l : Lane V O R T) (a : Client) → ((k ≡ i) × (l ≡ lane_new)) ⊎ ((k ≢ i) × (slice_get lanes_mid k ≡ Some l))
          → ((k ≡ i) × (a ≡ after)) ⊎ ((k ≢ i) × (slice_get above_mid k ≡ Some a)) → IsAt l.stage (theory.client_view a)
      stages_at k l a (inl h) (inl m) =
          subst (λ x. IsAt x.stage (theory.client_view a)) (sym h.1) (subst (λ x. IsAt lane_new.stage (theory.client_view x)) (sym m.1) moves.at)
      stages_at k l a (inl h) (inr m) = absurd (m.0 h.0)
      stages_at k l a (inr h) (inl m) = absurd (h.0 m.0)
      stages_at k l a (inr h) (inr m) = mid_above.stages k l (theory.client_view a) h.1 (mapped theory.client_view above_mid k a m.1)

      above_at : IsAbove place lanes_after (map theory.client_view above_after)
      above_at = record {
        as_many =
            length-set lanes_mid i lane_new ∙ mid_above.as_many ∙ length-map above_mid theory.client_view
            ∙ sym (length-map above_after theory.client_view ∙ length-set above_mid i after);
        places = λ k up e.
            let (a, ea, is_a) = mapped_from theory.client_view above_after k up e in
            ap (λ v. v.place) is_a ∙ places_at k a (set_cases above_mid i k after a ea);
        asked = λ k up e.
            let (a, ea, is_a) = mapped_from theory.client_view above_after k up e in
            subst (λ v. AllByRecursion IsOfTrustee v.sent) (sym is_a) (asked_at k a (set_cases above_mid i k after a ea));
        stages = λ k s up es e.
            let (a, ea, is_a) = mapped_from theory.client_view above_after k up e in
            subst (λ v. IsAt s.stage v) (sym is_a) (stages_at k s a (set_cases lanes_mid i k lane_new s es) (set_cases above_mid i k after a ea));
      }

      keeps_at : KeepsAbove theory old tables_after from place
      keeps_at =
          keeps_on theory kind laws old mid tables_after from place (done.keeps place is)
          (keeps_set theory kind laws mid from i place was becomes before after of_table moves.keeps was_placed)

    among_at :
        (k : ℕ) (y : Table) (a : Client) → ((from + k ≡ from + i) × (y ≡ becomes)) ⊎ ((from + k ≢ from + i) × (slice_get mid (from + k) ≡ Some y))
        → ((k ≡ i) × (a ≡ after)) ⊎ ((k ≢ i) × (slice_get above_mid k ≡ Some a)) → theory.HasClient y a
    among_at k y a (inl h) (inl m) =
        subst (λ z. theory.HasClient z a) (sym h.1) (subst (λ x. theory.HasClient becomes x) (sym m.1) moves.keeps.mine)
    among_at k y a (inl h) (inr m) = let e : from + k ≡ from + i = h.0 in absurd (m.0 (omega arith))
    among_at k y a (inr h) (inl m) = absurd (h.0 (ap (λ n. from + n) m.0))
    among_at k y a (inr h) (inr m) = done.among.mine k y a h.1 m.1

    one_more_moved : MovesUpTo theory Goes from (i + 1) old tables_after lanes lanes_after above above_after (moved + cond answer 1 0)
    one_more_moved = record {
      as_many = length-set above_mid i after ∙ done.as_many;
      tables_many = length-set mid (from + i) becomes ∙ done.tables_many;
      lanes_many = length-set lanes_mid i lane_new ∙ done.lanes_many;
      below = λ k x y b a l m lt ex ey eb ea el em.
          below_at k x y b a l m lt ex (set_cases mid (from + i) (from + k) becomes y ey) eb (set_cases above_mid i k after a ea) el
          (set_cases lanes_mid i k lane_new m em);
      lanes_rest = λ k le. let ne : k ≢ i = λ e. absurd (omega arith) in set_other lanes_mid i k lane_new ne ∙ done.lanes_rest k (omega arith);
      rest = λ k le. let ne : k ≢ i = λ e. absurd (omega arith) in set_other above_mid i k after ne ∙ done.rest k (omega arith);
      tables_rest = λ k le.
          let ne : from + k ≢ from + i = λ e. absurd (omega (arith, le, e)) in
          set_other mid (from + i) (from + k) becomes ne ∙ done.tables_rest k (omega (arith, le));
      counts = counts_at;
      most = one_more answer moved i done.most;
      is_above = above_at;
      among = record {
        as_many = ap (λ n. from + n) (length-set above_mid i after) ∙ done.among.as_many ∙ sym (length-set mid (from + i) becomes);
        mine = λ k y a ey ea. among_at k y a (set_cases mid (from + i) (from + k) becomes y ey) (set_cases above_mid i k after a ea);
      };
      keeps = keeps_at;
    }

  -- a move at the next side
  pub next_moved :
      (from i : ℕ) (old mid new : List Table) (lanes lanes_mid lanes_new : List (Lane V O R T)) (above above_mid above_new : List Client) (moved more : ℕ)
      (answer : Bool)
      → MovesUpTo theory Goes from i old mid lanes lanes_mid above above_mid moved
      → MovesAt theory Goes (from + i) i mid new lanes_mid lanes_new above_mid above_new answer
      → more ≡ moved + cond answer 1 0 → MovesUpTo theory Goes from (i + 1) old new lanes lanes_new above above_new more
  next_moved from i old mid new lanes lanes_mid lanes_new above above_mid above_new moved more answer done m is =
      let at = one_more_moved from i old mid lanes lanes_mid above above_mid moved done m.was m.becomes m.before m.after m.lane m.lane_new answer m.of_table m.of_side m.of_lane m.moves in
      subst (λ n. MovesUpTo theory Goes from (i + 1) old new lanes lanes_new above above_new n) (sym is)
      (subst (λ l. MovesUpTo theory Goes from (i + 1) old l lanes lanes_new above above_new (moved + cond answer 1 0)) (sym m.tables)
      (subst (λ l. MovesUpTo theory Goes from (i + 1) old (slice_set mid (from + i) m.becomes) lanes l above above_new (moved + cond answer 1 0)) (sym m.lanes_are)
      (subst (λ l. MovesUpTo theory Goes from (i + 1) old (slice_set mid (from + i) m.becomes) lanes (slice_set lanes_mid i m.lane_new) above l (moved + cond answer 1 0)) (sym m.sides) at)))

  -- each side moved once all have
  pub all_moved :
      (from i : ℕ) (old new : List Table) (lanes lanes_new : List (Lane V O R T)) (above above_new : List Client) (moved : ℕ)
      → MovesUpTo theory Goes from i old new lanes lanes_new above above_new moved → i ≡ length above → EachLane Goes from old new above above_new lanes lanes_new
  all_moved from i old new lanes lanes_new above above_new moved done all = λ k was now before after lane becomes ew en eb ea el em.
      done.below k was now before after lane becomes (subst (λ n. k < n) (sym all) (slice_get_within above k before eb)) ew en eb ea el em

  -- what a step needs at the next side is as it was needed at first
  pub needs_next :
      (Needs : Table → Client → Lane V O R T → Type 0) (from i : ℕ) (old mid : List Table) (lanes lanes_mid : List (Lane V O R T)) (above above_mid : List Client) (moved : ℕ)
      → MovesUpTo theory Goes from i old mid lanes lanes_mid above above_mid moved → NeedAll Needs from old above lanes
      → (table : Table) (seat : Client) (lane : Lane V O R T) → slice_get mid (from + i) ≡ Some table → slice_get above_mid i ≡ Some seat
      → slice_get lanes_mid i ≡ Some lane → Needs table seat lane
  needs_next Needs from i old mid lanes lanes_mid above above_mid moved done needs table seat lane et es el =
      needs i table seat lane (sym (done.tables_rest i (omega arith)) ∙ et) (sym (done.rest i (omega arith)) ∙ es) (sym (done.lanes_rest i (omega arith)) ∙ el)
