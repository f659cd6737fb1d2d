-- The turns before and behind that of one number in a round, and what they leave as it is.
use Rattle.std.proofs.Common.{◌≡◌, ◌≢◌, ℕ, zero, suc, ◌+◌, ◌≤◌, ◌<◌, inl, inr, Bool, List, [], ◌∷◌, length, refl, sym, ◌∙◌, ap, subst, arith}
use Rattle.std.specs.Prelude.{slice_get}
use Rattle.std.specs.List.{AllByRecursion, range_with_len}
use Rattle.std.proofs.lemmas.Bool.{cases_eq}
use Rattle.tm_seq.specs.Kind.{Kind, KindLaws}
use Rattle.tm_batch.specs.declared.config.Config.{Config}
use Rattle.tm_batch.specs.declared.config.First.{First}
use Rattle.tm_client.specs.declared.answers.Turn.{Turn}
use Rattle.tm_turns.specs.Whole.{AreOf}
use Rattle.tm_turns.specs.Going.{TurnsAt, TurnsBelow, Goes, AllGo}
use Rattle.tm_turns.specs.declared.turns.Turns.{Turns}
use Rattle.tm_turns.proofs.Ones.{one_of}
use Rattle.tm_turns.proofs.Falling.{weight, below_keeps, goes_keeps, below_falls, turn_lessens, no_more}
use Rattle.tm_turns.proofs.Others.{slot_at, lane_at, trustee_in, turn_other, turn_elsewhere, lane_other, serve_other, serve_lanes, serve_trustees}

weaker : (a b : ℕ) (ks : List ℕ) → AllByRecursion (λ k. (a + 1 ≤ k) × (k < a + 1 + b)) ks → AllByRecursion (λ k. (a ≤ k) × (k < a + suc b)) ks
weaker a b [] h = tt
weaker a b (k ∷ ks) h = let low = h.0.0 in let high = h.0.1 in ((omega (arith, low), omega (arith, high)), weaker a b ks h.1)

lower_range : (a k : ℕ) (ks : List ℕ) → AllByRecursion (λ j. (a + 1 ≤ j) × (j < k)) ks → AllByRecursion (λ j. (a ≤ j) × (j < k)) ks
lower_range a k [] h = tt
lower_range a k (j ∷ ks) h = let low = h.0.0 in ((omega (arith, low), h.0.1), lower_range a k ks h.1)

-- the numbers of a range are not below its begin, and below its end
pub range_within : (a n : ℕ) → AllByRecursion (λ k. (a ≤ k) × (k < a + n)) (range_with_len a n)
range_within a zero = tt
range_within a (suc n) =
    ((omega arith, omega arith), weaker a n (range_with_len (a + 1) n) (range_within (a + 1) n))

module _ {V C O R T : Type 0} (kind : Kind V O R T) (config : Config) (first : List (First V)) where
  below_slot :
      (c n t p : ℕ) (moved : Bool) (old new : Turns V C O R T) → AreOf kind config first old → TurnsBelow kind c n moved old new → p ≢ c
      → slot_at new t p ≡ slot_at old t p
  unfolding TurnsBelow
  below_slot c zero t p moved old new are is ne = ap (λ (x : Turns V C O R T). slot_at x t p) is.1
  below_slot c (suc n) t p moved old new are (mid, before, answer, below, here, is) ne =
      turn_other kind config first c n t p answer mid new (below_keeps kind c n before old mid below config first are) here ne
      ∙ below_slot c n t p before old mid are below ne

  below_lane :
      (c n d t : ℕ) (moved : Bool) (old new : Turns V C O R T) → TurnsBelow kind c n moved old new → d ≢ c → lane_at new d t ≡ lane_at old d t
  unfolding TurnsBelow
  below_lane c zero d t moved old new is ne = ap (λ (x : Turns V C O R T). lane_at x d t) is.1
  below_lane c (suc n) d t moved old new (mid, before, answer, below, here, is) ne =
      lane_other kind config first c n d t answer mid new here ne ∙ below_lane c n d t before old mid below ne

  below_trustee : (c n t : ℕ) (moved : Bool) (old new : Turns V C O R T) → TurnsBelow kind c n moved old new → trustee_in new t ≡ trustee_in old t
  unfolding TurnsBelow
  below_trustee c zero t moved old new is = ap (λ (x : Turns V C O R T). trustee_in x t) is.1
  below_trustee c (suc n) t moved old new (mid, before, answer, below, here, is) =
      ap (λ xs. slice_get xs.items t) here.trustees ∙ below_trustee c n t before old mid below

  -- a client's own slot and lane at a trustee at which it makes no turn
  below_own :
      (c n t : ℕ) (moved : Bool) (old new : Turns V C O R T) → TurnsBelow kind c n moved old new → n ≤ t
      → (slot_at new t c ≡ slot_at old t c) × (lane_at new c t ≡ lane_at old c t)
  unfolding TurnsBelow
  below_own c zero t moved old new is le = (ap (λ (x : Turns V C O R T). slot_at x t c) is.1, ap (λ (x : Turns V C O R T). lane_at x c t) is.1)
  below_own c (suc n) t moved old new (mid, before, answer, below, here, is) le =
      let (slot, lane) = turn_elsewhere kind config first c n t c answer mid new here (λ e. absurd (omega (arith, e, le))) in
      let (rest, more) = below_own c n t before old mid below (omega (arith, le)) in
      (slot ∙ rest, lane ∙ more)

  -- number k's turn leaves the slot of place p of table t, if it is neither that place's nor that trustee's
  pub goes_slot :
      (k t p : ℕ) (moved : Bool) (old new : Turns V C O R T) → AreOf kind config first old → Goes kind k moved old new → k ≢ p → k ≢ config.clients + t
      → slot_at new t p ≡ slot_at old t p
  goes_slot k t p moved old new are (inl client) other ne = below_slot k (length old.tables.items) t p moved old new are client.1 (λ e. other (sym e))
  goes_slot k t p moved old new are (inr (inl (u, at, lt, (served, serves, is)))) other ne =
      let clients = are.as_many_clients in
      serve_other kind config first u t p served old new are serves (λ e. ne (omega (arith, e, at, clients))) (λ e. other (omega (arith, e, at, clients)))
  goes_slot k t p moved old new are (inr (inr (beyond, none, same))) other ne = ap (λ (x : Turns V C O R T). slot_at x t p) same

  pub goes_lane :
      (k c t : ℕ) (moved : Bool) (old new : Turns V C O R T) → AreOf kind config first old → Goes kind k moved old new → k ≢ c
      → lane_at new c t ≡ lane_at old c t
  goes_lane k c t moved old new are (inl client) ne = below_lane k (length old.tables.items) c t moved old new client.1 (λ e. ne (sym e))
  goes_lane k c t moved old new are (inr (inl (u, at, lt, (served, serves, is)))) ne = serve_lanes kind config first u c t served old new serves
  goes_lane k c t moved old new are (inr (inr (beyond, none, same))) ne = ap (λ (x : Turns V C O R T). lane_at x c t) same

  pub goes_trustee :
      (k t : ℕ) (moved : Bool) (old new : Turns V C O R T) → AreOf kind config first old → Goes kind k moved old new → k ≢ config.clients + t
      → trustee_in new t ≡ trustee_in old t
  goes_trustee k t moved old new are (inl client) ne = below_trustee k (length old.tables.items) t moved old new client.1
  goes_trustee k t moved old new are (inr (inl (u, at, lt, (served, serves, is)))) ne =
      let clients = are.as_many_clients in
      serve_trustees kind config first u t served old new serves (λ e. ne (omega (arith, e, at, clients)))
  goes_trustee k t moved old new are (inr (inr (beyond, none, same))) ne = ap (λ (x : Turns V C O R T). trustee_in x t) same

  -- what each turn of some numbers leaves, they leave
  pub all_same :
      {X : Type 0} (f : Turns V C O R T → X) (Other : ℕ → Type 0)
      → ((k : ℕ) (moved : Bool) (old new : Turns V C O R T) → AreOf kind config first old → Goes kind k moved old new → Other k → f new ≡ f old)
      → (ks : List ℕ) (n : ℕ) (old new : Turns V C O R T) → AreOf kind config first old → AllByRecursion Other ks → AllGo kind ks n old new → f new ≡ f old
  unfolding AllGo
  all_same f Other stays [] n old new are others is = ap f is.1
  all_same f Other stays (k ∷ ks) n old new are others (mid, moved, more, goes, rest, is) =
      all_same f Other stays ks more mid new (goes_keeps kind k moved old mid goes config first are) others.1 rest
      ∙ stays k moved old mid are goes others.0

  -- the turn of number k within those of a range, the turns before it and those behind it
  pub record SplitAt (a n k : ℕ) (old new : Turns V C O R T) : Type 0 where
    pub begins : Turns V C O R T
    pub ends : Turns V C O R T
    pub before : ℕ
    pub front : List ℕ
    pub within : AllByRecursion (λ j. (a ≤ j) × (j < k)) front
    pub starts : AllGo kind front before old begins
    pub moved : Bool
    pub goes : Goes kind k moved begins ends
    pub many : ℕ
    pub is_rest : k + 1 + many ≡ a + n
    pub behind : ℕ
    pub follows : AllGo kind (range_with_len (k + 1) many) behind ends new
    pub are : AreOf kind config first begins

  pub split_at :
      (a n k m : ℕ) (old new : Turns V C O R T) → AreOf kind config first old → a ≤ k → k < a + n → AllGo kind (range_with_len a n) m old new
      → SplitAt a n k old new
  unfolding AllGo
  split_at a zero k m old new are le lt all = absurd (omega (arith, le, lt))
  split_at a (suc n) k m old new are le lt (mid, moved, more, goes, rest, is) =
      elim (cases_eq a k) [
        | inl e ↦
            record {
              begins = old;
              ends = mid;
              before = 0;
              front = [];
              within = tt;
              starts = (refl, refl);
              moved = moved;
              goes = subst (λ j. Goes kind j moved old mid) e goes;
              many = n;
              is_rest = omega (arith, e);
              behind = more;
              follows = subst (λ j. AllGo kind (range_with_len (j + 1) n) more mid new) e rest;
              are = are;
            }
        | inr ne ↦
            let later = split_at (a + 1) n k more mid new (goes_keeps kind a moved old mid goes config first are) (omega (arith, le, ne)) (omega (arith, lt)) rest in
            let is_rest = later.is_rest in
            record {
              begins = later.begins;
              ends = later.ends;
              before = one_of moved + later.before;
              front = a ∷ later.front;
              within = ((omega arith, omega (arith, le, ne)), lower_range a k later.front later.within);
              starts = (mid, moved, later.before, goes, later.starts, refl);
              moved = later.moved;
              goes = later.goes;
              many = later.many;
              is_rest = omega (arith, is_rest);
              behind = later.behind;
              follows = later.follows;
              are = later.are;
            }
      ]

  -- client c's turn at trustee t within its turns
  pub record TurnIn (c t : ℕ) (old new : Turns V C O R T) : Type 0 where
    pub begins : Turns V C O R T
    pub ends : Turns V C O R T
    pub answer : Turn
    pub turns : TurnsAt kind c t answer begins ends
    pub are : AreOf kind config first begins
    pub slot : slot_at begins t c ≡ slot_at old t c
    pub lane : lane_at begins c t ≡ lane_at old c t
    pub slot_then : slot_at new t c ≡ slot_at ends t c
    pub lane_then : lane_at new c t ≡ lane_at ends c t

  module _ (laws : KindLaws kind) where
    -- and the weight before it and behind it
    pub turn_in :
        (c n t : ℕ) (moved : Bool) (old new : Turns V C O R T) → AreOf kind config first old → TurnsBelow kind c n moved old new → t < n
        → (is : TurnIn c t old new) × (weight kind is.begins ≤ weight kind old) × (weight kind new ≤ weight kind is.ends)
    unfolding TurnsBelow
    turn_in c zero t moved old new are is lt = absurd (omega (arith, lt))
    turn_in c (suc n) t moved old new are (mid, before, answer, below, here, is) lt =
        let its = below_keeps kind c n before old mid below config first are in
        elim (cases_eq t n) [
          | inl e ↦
              let (slot, lane) = below_own c n t before old mid below (omega (arith, e)) in
              let falls = below_falls kind laws config first c n before old mid are below in (
                record {
                  begins = mid;
                  ends = new;
                  answer = answer;
                  turns = subst (λ k. TurnsAt kind c k answer mid new) (sym e) here;
                  are = its;
                  slot = slot;
                  lane = lane;
                  slot_then = refl;
                  lane_then = refl;
                },
                falls,
                omega arith,
              )
          | inr ne ↦
              let (w, first_falls, then_falls) = turn_in c n t before old mid are below (omega (arith, lt, ne)) in
              let (slot, lane) = turn_elsewhere kind config first c n t c answer mid new here ne in
              let last = no_more kind mid new _ (turn_lessens kind c n answer mid new config first its here) in (
                record {
                  begins = w.begins;
                  ends = w.ends;
                  answer = w.answer;
                  turns = w.turns;
                  are = w.are;
                  slot = w.slot;
                  lane = w.lane;
                  slot_then = slot ∙ w.slot_then;
                  lane_then = lane ∙ w.lane_then;
                },
                first_falls,
                omega (arith, then_falls, last),
              )
        ]
