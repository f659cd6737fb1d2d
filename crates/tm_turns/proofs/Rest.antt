-- After a round in which nothing moved all are at rest.
use Rattle.std.proofs.Common.{◌≡◌, ℕ, zero, suc, ◌+◌, ◌<◌, inl, inr, Bool, true, false, List, [], ◌∷◌, length, refl, sym, ◌∙◌, subst, arith}
use Rattle.std.specs.Prelude.{slice_get, nat_lt, ◌||◌, All}
use Rattle.std.specs.declared.option.Option.TheVariants.{Some}
use Rattle.std.proofs.lemmas.Bool.{cases_eq, lt-ltb}
use Rattle.std.proofs.lemmas.List.Elements.{All-nil, All-cons}
use Rattle.tm_seq.specs.Kind.{Kind}
use Rattle.tm_batch.specs.declared.config.Config.{Config}
use Rattle.tm_batch.specs.declared.config.First.{First}
use Rattle.tm_client.specs.declared.answers.Turn.{Turn}
use Rattle.tm_turns.specs.Whole.{AreOf, Keeps}
use Rattle.tm_turns.specs.Going.{has_moved, TurnsAt, TurnsBelow, Goes, AllGo}
use Rattle.tm_turns.specs.declared.turns.Turns.{Turns}
use Rattle.tm_turns.proofs.Falling.{below_keeps, goes_keeps}
use Rattle.tm_turns.proofs.Quiet.{Still, still_same, still_on, turn_still}
use Rattle.tm_turns.proofs.QuietServed.{serve_still}
use Rattle.tm_turns.proofs.Ones.{one_of}

pub some_is : {X : Type 0} (x y : X) → Some x ≡ Some y → x ≡ y
some_is x y e = cc

-- all elements have what each element at an index has
pub all_from : {X : Type 0} (P : X → Type 0) (xs : List X) → ((i : ℕ) (x : X) → slice_get xs i ≡ Some x → P x) → All P xs
all_from P [] each = All-nil P
all_from P (x ∷ xs) each = All-cons P x xs (each 0 x refl) (all_from P xs (λ i y e. each (suc i) y e))

or_false : (b a : Bool) → false ≡ (b || a) → (b ≡ false) × (a ≡ false)
or_false true a e = absurd cc
or_false false true e = absurd cc
or_false false false e = (refl, refl)

pub lt_false : (n : ℕ) → false ≡ nat_lt 0 n → n ≡ 0
lt_false zero e = refl
lt_false (suc n) e = let t : nat_lt 0 (suc n) ≡ true = lt-ltb 0 (suc n) (omega arith) in absurd cc

none_counted : (b : Bool) (m n : ℕ) → n ≡ one_of b + m → n ≡ 0 → (b ≡ false) × (m ≡ 0)
none_counted true m n e none = absurd (omega (arith, e, none))
none_counted false m n e none = (refl, omega (arith, e, none))

module _ {V C O R T : Type 0} (kind : Kind V O R T) (config : Config) (first : List (First V)) where
  pub below_still :
      (c n : ℕ) (moved : Bool) (old new : Turns V C O R T) → TurnsBelow kind c n moved old new → moved ≡ false → Still old new
  unfolding TurnsBelow
  below_still c zero moved old new is none = still_same old new is.1
  below_still c (suc n) moved old new (mid, before, answer, below, here, is) none =
      let (a, b) = or_false before (has_moved answer) (sym none ∙ is) in
      still_on old mid new (below_still c n before old mid below a) (turn_still kind c n answer mid new here b)

  pub goes_still :
      (k : ℕ) (moved : Bool) (old new : Turns V C O R T) → AreOf kind config first old → Goes kind k moved old new → moved ≡ false → Still old new
  goes_still k moved old new are (inl client) none = below_still k (length old.tables.items) moved old new client.1 none
  goes_still k moved old new are (inr (inl (t, at, lt, (served, serves, is)))) none =
      serve_still kind t served old new serves config first are (lt_false serves.becomes.moved (sym none ∙ is))
  goes_still k moved old new are (inr (inr (beyond, is, same))) none = still_same old new same

  kept_on : (kind' : Kind V O R T) (a b c : Turns V C O R T) → Keeps kind' a b → Keeps kind' b c → Keeps kind' a c
  kept_on kind' a b c first then config' whole are = then config' whole (first config' whole are)

  all_still :
      (ks : List ℕ) (n : ℕ) (old new : Turns V C O R T) → AreOf kind config first old → AllGo kind ks n old new → n ≡ 0 → Still old new
  unfolding AllGo
  all_still [] n old new are is none = still_same old new is.1
  all_still (k ∷ ks) n old new are (mid, moved, more, goes, rest, is) none =
      let (still, nought) = none_counted moved more n is none in
      let kept = goes_keeps kind k moved old mid goes in
      still_on old mid new (goes_still k moved old mid are goes still) (all_still ks more mid new (kept config first are) rest nought)

  -- the turn of the number at an index, in turns of which none moved anything
  pub record GoneAt (k : ℕ) (old new : Turns V C O R T) : Type 0 where
    pub begins : Turns V C O R T
    pub ends : Turns V C O R T
    pub goes : Goes kind k false begins ends
    pub are : AreOf kind config first begins
    pub still : Still begins new
    pub then : Still ends new

  pub gone_at :
      (ks : List ℕ) (i k n : ℕ) (old new : Turns V C O R T) → AreOf kind config first old → AllGo kind ks n old new → n ≡ 0
      → slice_get ks i ≡ Some k → GoneAt k old new
  unfolding AllGo
  gone_at [] i k n old new are is none at = absurd cc
  gone_at (x ∷ ks) zero k n old new are (mid, moved, more, goes, rest, is) none at =
      let (still, nought) = none_counted moved more n is none in
      let same : x ≡ k = some_is x k at in
      let kept = goes_keeps kind x moved old mid goes in
      record {
        begins = old;
        ends = mid;
        goes = subst (λ m. Goes kind m false old mid) same (subst (λ b. Goes kind x b old mid) still goes);
        are = are;
        still = still_on old mid new (goes_still x moved old mid are goes still) (all_still ks more mid new (kept config first are) rest nought);
        then = all_still ks more mid new (kept config first are) rest nought;
      }
  gone_at (x ∷ ks) (suc i) k n old new are (mid, moved, more, goes, rest, is) none at =
      let (still, nought) = none_counted moved more n is none in
      let kept = goes_keeps kind x moved old mid goes in
      let later = gone_at ks i k more mid new (kept config first are) rest nought at in
      record { begins = later.begins; ends = later.ends; goes = later.goes; are = later.are; still = later.still; then = later.then }

  -- a client's turn at trustee t within its turns, of which none moved anything
  pub record TurnWithin (c t : ℕ) (new : Turns V C O R T) : Type 0 where
    pub begins : Turns V C O R T
    pub ends : Turns V C O R T
    pub answer : Turn
    pub turns : TurnsAt kind c t answer begins ends
    pub none : has_moved answer ≡ false
    pub are : AreOf kind config first begins
    pub still : Still begins new

  within_still : (c t : ℕ) (mid new : Turns V C O R T) → Still mid new → TurnWithin c t mid → TurnWithin c t new
  within_still c t mid new more w = record {
    begins = w.begins;
    ends = w.ends;
    answer = w.answer;
    turns = w.turns;
    none = w.none;
    are = w.are;
    still = still_on w.begins mid new w.still more;
  }

  pub turn_within :
      (c n t : ℕ) (moved : Bool) (old new : Turns V C O R T) → AreOf kind config first old → TurnsBelow kind c n moved old new → moved ≡ false → t < n
      → TurnWithin c t new
  unfolding TurnsBelow
  turn_within c zero t moved old new are is none lt = absurd (omega (arith, lt))
  turn_within c (suc n) t moved old new are (mid, before, answer, below, here, is) none lt =
      let (a, b) = or_false before (has_moved answer) (sym none ∙ is) in
      let kept = below_keeps kind c n before old mid below in
      let last = turn_still kind c n answer mid new here b in
      elim (cases_eq t n) [
        | inl e ↦
            subst (λ k. TurnWithin c k new) (sym e)
            (record { begins = mid; ends = new; answer = answer; turns = here; none = b; are = kept config first are; still = last })
        | inr ne ↦ within_still c t mid new last (turn_within c n t before old mid are below a (omega (arith, lt, ne)))
      ]
