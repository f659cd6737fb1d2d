-- A client that is closed at each trustee, or of which all that arrived was taken.
use Rattle.std.proofs.Common.{◌≡◌, ℕ, zero, suc, ◌+◌, ◌≤◌, ◌<◌, inl, inr, true, List, [], ◌∷◌, ◌++◌, length, length-set, take, drop, map, refl, sym, ◌∙◌, ap, subst, arith, append_assoc, append-nil, slice_index_or}
use Rattle.std.specs.Prelude.{slice_get, slice_set}
use Rattle.std.specs.declared.option.Option.TheVariants.{Some}
use Rattle.std.proofs.lemmas.List.{length-append, take-append-drop, length-map, length-take-le, set_at, drop_more, map_more, take_all, drop_all, get_or_at}
use Rattle.std.proofs.lemmas.Option.{get_or_from_slice_get}
use Rattle.tm_seq.specs.Kind.{Kind}
use Rattle.tm_model.specs.State.{State}
use Rattle.tm_model.specs.Opening.{opening_of}
use Rattle.tm_pair.specs.Plain.{plain_theory}
use Rattle.tm_trustee.proofs.Elements.{there_too, same_element, set_cases, mapped_from}
use Rattle.tm_client.specs.Asking.{KeepsRest}
use Rattle.tm_client.specs.Clients.{IsClient}
use Rattle.tm_client.specs.Marking.{marked, HasMarked}
use Rattle.tm_client.specs.Taking.{HasTaken}
use Rattle.tm_client.specs.declared.answers.Got.{Got}
use Rattle.tm_client.specs.declared.lane.Lane.{Lane}
use Rattle.tm_client.specs.declared.books.Books.{Books}
use Rattle.tm_turns.specs.Whole.{OneClient, AreTurns, SameSides, StillClient}
use Rattle.tm_turns.specs.Closing.{HasShut, TakesFirst, HasTakenAll}
use Rattle.tm_turns.specs.declared.turns.Turns.{Turns}
use Rattle.tm_turns.proofs.Clients.{EachBelow}

module _ {V C D O R T : Type 0} where
  -- the lane of a trustee that was closed
  abbrev pub shut_lane : Lane V C D O R T → Lane V C D O R T
  shut_lane lane = marked lane.fetching true lane

  -- one lane more is closed
  pub shut_more :
      (n : ℕ) (old mid new : Books V C D O R T) → n < length old.lanes.items
      → mid.lanes.items ≡ map shut_lane (take n old.lanes.items) ++ drop n old.lanes.items → HasMarked n (λ fetching. fetching) (λ _. true) mid new
      → new.lanes.items ≡ map shut_lane (take (n + 1) old.lanes.items) ++ drop (n + 1) old.lanes.items
  shut_more n old mid new lt before is =
      let xs = old.lanes.items in
      let front : List (Lane V C D O R T) = map shut_lane (take n xs) in
      let many : length front ≡ n = length-map (take n xs) shut_lane ∙ length-take-le n xs (omega (arith, lt)) in
      let here : Lane V C D O R T = slice_index_or xs n is.lane in
      let split : mid.lanes.items ≡ front ++ here ∷ drop (n + 1) xs = before ∙ ap (λ ys. front ++ ys) (drop_more xs n is.lane lt) in
      let lane_is : here ≡ is.lane =
      sym (get_or_at front here (drop (n + 1) xs) is.lane n many) ∙ ap (λ ys. slice_index_or ys n is.lane) (sym split)
      ∙ get_or_from_slice_get mid.lanes.items n is.lane is.lane is.of_lane in
      is.lanes ∙ ap (λ ys. slice_set ys n (shut_lane is.lane)) split ∙ set_at front here (drop (n + 1) xs) (shut_lane is.lane) n many
      ∙ ap (λ l. front ++ shut_lane l ∷ drop (n + 1) xs) (sym lane_is)
      ∙ sym (append_assoc front (shut_lane here ∷ []) (drop (n + 1) xs))
      ∙ ap (λ ys. ys ++ drop (n + 1) xs) (sym (map_more shut_lane xs n is.lane lt))

  pub shut_all :
      (n : ℕ) (old new : Books V C D O R T) → length old.lanes.items ≤ n
      → new.lanes.items ≡ map shut_lane (take n old.lanes.items) ++ drop n old.lanes.items → new.lanes.items ≡ map shut_lane old.lanes.items
  shut_all n old new le is =
      is ∙ ap (λ ys. map shut_lane (take n old.lanes.items) ++ ys) (drop_all n old.lanes.items le)
      ∙ append-nil (map shut_lane (take n old.lanes.items)) ∙ ap (λ ys. map shut_lane ys) (take_all n old.lanes.items le)

  pub rest_on : (a b c : Books V C D O R T) → KeepsRest a b → KeepsRest b c → KeepsRest a c
  rest_on a b c f g = record {
    number = g.number ∙ f.number;
    clients = g.clients ∙ f.clients;
    most = g.most ∙ f.most;
    held = g.held ∙ f.held;
    arrived = g.arrived ∙ f.arrived;
    gifts = g.gifts ∙ f.gifts;
  }

  pub takes_none : (books : Books V C D O R T) → TakesFirst 0 books books
  unfolding TakesFirst
  takes_none books = refl

  pub takes_more :
      (n : ℕ) (old mid new : Books V C D O R T) (after : C) (got : Got V O R T) → TakesFirst n old mid → HasTaken after got mid new
      → TakesFirst (suc n) old new
  unfolding TakesFirst
  takes_more n old mid new after got first taken = (mid, after, got, first, taken)

  -- lanes whose sides, and what waits at them, are the same
  pub record SameLanes (old new : Books V C D O R T) : Type 0 where
    pub number : new.number ≡ old.number
    pub as_many : length new.lanes.items ≡ length old.lanes.items
    pub lanes : (t : ℕ) (lane becomes : Lane V C D O R T) → slice_get old.lanes.items t ≡ Some lane → slice_get new.lanes.items t ≡ Some becomes
        → (becomes.side ≡ lane.side) × (becomes.waits ≡ lane.waits)

  pub sides_same : (old new : Books V C D O R T) → SameLanes old new → SameSides old new
  sides_same old new is = record { number = is.number; as_many = is.as_many; sides = λ t lane becomes at e. (is.lanes t lane becomes at e).0 }

  pub shut_same : (old new : Books V C D O R T) → HasShut old new → SameLanes old new
  shut_same old new is = record {
    number = is.rest.number;
    as_many = ap (λ xs. length xs) is.lanes ∙ length-map old.lanes.items shut_lane;
    lanes = λ t lane becomes at e.
        let (one, at_one, is_one) = mapped_from shut_lane old.lanes.items t becomes (subst (λ xs. slice_get xs t ≡ Some becomes) is.lanes e) in
        let same = same_element old.lanes.items t lane one at at_one in (
          ap (λ (l : Lane V C D O R T). l.side) is_one ∙ ap (λ (l : Lane V C D O R T). l.side) same,
          ap (λ (l : Lane V C D O R T). l.waits) is_one ∙ ap (λ (l : Lane V C D O R T). l.waits) same,
        );
  }

  -- each is closed
  pub shut_closing :
      (old new : Books V C D O R T) (t : ℕ) (becomes : Lane V C D O R T) → HasShut old new → slice_get new.lanes.items t ≡ Some becomes
      → becomes.closing ≡ true
  shut_closing old new t becomes is e =
      let (one, at_one, is_one) = mapped_from shut_lane old.lanes.items t becomes (subst (λ xs. slice_get xs t ≡ Some becomes) is.lanes e) in
      ap (λ (l : Lane V C D O R T). l.closing) is_one

  -- taking keeps the sides, what waits, and what is closed
  pub record TakenLane (lane becomes : Lane V C D O R T) : Type 0 where
    pub side : becomes.side ≡ lane.side
    pub waits : becomes.waits ≡ lane.waits
    pub closing : becomes.closing ≡ lane.closing
    pub launched : becomes.launched ≡ lane.launched

  pub record TakenLanes (old new : Books V C D O R T) : Type 0 where
    pub number : new.number ≡ old.number
    pub as_many : length new.lanes.items ≡ length old.lanes.items
    pub lanes : (t : ℕ) (lane becomes : Lane V C D O R T) → slice_get old.lanes.items t ≡ Some lane → slice_get new.lanes.items t ≡ Some becomes
        → TakenLane lane becomes

  lane_same : (lane becomes : Lane V C D O R T) → becomes ≡ lane → TakenLane lane becomes
  lane_same lane becomes is = record {
    side = ap (λ (l : Lane V C D O R T). l.side) is;
    waits = ap (λ (l : Lane V C D O R T). l.waits) is;
    closing = ap (λ (l : Lane V C D O R T). l.closing) is;
    launched = ap (λ (l : Lane V C D O R T). l.launched) is;
  }

  one_taken : (old new : Books V C D O R T) (after : C) (got : Got V O R T) → HasTaken after got old new → TakenLanes old new
  one_taken old new after got is = record {
    number = is.number;
    as_many = ap (λ xs. length xs) is.lanes ∙ length-set old.lanes.items is.t is.becomes;
    lanes = λ t lane becomes at e.
        elim (set_cases old.lanes.items is.t t is.becomes becomes (subst (λ xs. slice_get xs t ≡ Some becomes) is.lanes e)) [
          | inl h ↦
              let here : slice_get old.lanes.items is.t ≡ Some lane = subst (λ k. slice_get old.lanes.items k ≡ Some lane) h.0 at in
              let same = same_element old.lanes.items is.t is.lane lane is.of_lane here in
              record {
                side = ap (λ (l : Lane V C D O R T). l.side) h.1 ∙ is.counts.side ∙ ap (λ (l : Lane V C D O R T). l.side) (sym same);
                waits = ap (λ (l : Lane V C D O R T). l.waits) h.1 ∙ is.counts.waits ∙ ap (λ (l : Lane V C D O R T). l.waits) (sym same);
                closing = ap (λ (l : Lane V C D O R T). l.closing) h.1 ∙ is.counts.closing ∙ ap (λ (l : Lane V C D O R T). l.closing) (sym same);
                launched = ap (λ (l : Lane V C D O R T). l.launched) h.1 ∙ is.counts.launched ∙ ap (λ (l : Lane V C D O R T). l.launched) (sym same);
              }
          | inr h ↦ lane_same lane becomes (same_element old.lanes.items t lane becomes at h.1)
        ];
  }

  first_taken : (n : ℕ) (old new : Books V C D O R T) → TakesFirst n old new → TakenLanes old new
  unfolding TakesFirst
  first_taken zero old new same = record {
    number = ap (λ (b : Books V C D O R T). b.number) same;
    as_many = ap (λ (b : Books V C D O R T). length b.lanes.items) same;
    lanes = λ t lane becomes at e.
        lane_same lane becomes
        (same_element old.lanes.items t lane becomes at (subst (λ (b : Books V C D O R T). slice_get b.lanes.items t ≡ Some becomes) same e));
  }
  first_taken (suc n) old new (mid, after, got, first, taken) =
      let before = first_taken n old mid first in
      let last = one_taken mid new after got taken in
      record {
        number = last.number ∙ before.number;
        as_many = last.as_many ∙ before.as_many;
        lanes = λ t lane becomes at e.
            let (one, at_one) = there_too old.lanes.items mid.lanes.items t lane before.as_many at in
            let f = before.lanes t lane one at at_one in
            let g = last.lanes t one becomes at_one e in
            record { side = g.side ∙ f.side; waits = g.waits ∙ f.waits; closing = g.closing ∙ f.closing; launched = g.launched ∙ f.launched };
      }

  pub all_taken : (old new : Books V C D O R T) → HasTakenAll old new → TakenLanes old new
  all_taken old new is = first_taken is.count old new is.takes

  pub taken_same : (old new : Books V C D O R T) → TakenLanes old new → SameLanes old new
  taken_same old new is = record {
    number = is.number;
    as_many = is.as_many;
    lanes = λ t lane becomes at e. ((is.lanes t lane becomes at e).side, (is.lanes t lane becomes at e).waits);
  }

  pub shut_many :
      (n : ℕ) (old new : Books V C D O R T) → new.lanes.items ≡ map shut_lane (take n old.lanes.items) ++ drop n old.lanes.items
      → length new.lanes.items ≡ length old.lanes.items
  shut_many n old new is =
      let xs = old.lanes.items in
      let joined : length new.lanes.items ≡ length (map shut_lane (take n xs)) + length (drop n xs) =
      ap (λ ls. length ls) is ∙ length-append (map shut_lane (take n xs)) (drop n xs) in
      let front = length-map (take n xs) shut_lane in
      let whole : length xs ≡ length (take n xs) + length (drop n xs) =
      ap (λ ls. length ls) (sym (take-append-drop n xs)) ∙ length-append (take n xs) (drop n xs) in
      omega (arith, joined, front, whole)

  pub rest_same : (books : Books V C D O R T) → KeepsRest books books
  rest_same books = record { number = refl; clients = refl; most = refl; held = refl; arrived = refl; gifts = refl }

module _ {V C O R T : Type 0} (kind : Kind V O R T) where
  -- a client was closed at each trustee, and is one still; or all that arrived at it was taken
  abbrev pub DidShut : OneClient V C O R T → OneClient V C O R T → Type 0
  DidShut client becomes = HasShut client.books becomes.books × StillClient kind client becomes

  abbrev pub DidTake : OneClient V C O R T → OneClient V C O R T → Type 0
  DidTake client becomes = HasTakenAll client.books becomes.books × StillClient kind client becomes

  pub shut_sides :
      (client becomes : OneClient V C O R T) → DidShut client becomes → SameSides client.books becomes.books × StillClient kind client becomes
  shut_sides client becomes did = (sides_same client.books becomes.books (shut_same client.books becomes.books did.0), did.1)

  pub take_sides :
      (client becomes : OneClient V C O R T) → DidTake client becomes → SameSides client.books becomes.books × StillClient kind client becomes
  take_sides client becomes did =
      (sides_same client.books becomes.books (taken_same client.books becomes.books (all_taken client.books becomes.books did.0)), did.1)

  -- client n, where only those before it did something
  pub client_at_n :
      (Did : OneClient V C O R T → OneClient V C O R T → Type 0) (old mid : Turns V C O R T) (n : ℕ) (client : OneClient V C O R T)
      → EachBelow Did n old mid → slice_get mid.clients.items n ≡ Some client → AreTurns kind old
      → (length client.books.lanes.items ≡ length old.tables.items)
      × ((openings : ℕ → State V O R T) × IsClient (plain_theory kind).client_view openings client.books)
  client_at_n Did old mid n client below at (config, first, are) =
      let (number, many, is) = are.clients n client (sym (below.rest n (omega arith)) ∙ at) in
      (many ∙ sym are.as_many_tables, ((λ t. opening_of t config first), is))
