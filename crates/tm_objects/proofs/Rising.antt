-- Lemmas on all objects of a list by ids.
use Rattle.std.proofs.Common.{◌≡◌, ℕ, zero, suc, ◌<◌, ◌≤◌, Bool, List, [], ◌++◌, length, Option, Some, None, refl, arith}
use Rattle.std.specs.Prelude.{All, option_to_list}
use Rattle.std.specs.List.{AllPairs}
use Rattle.std.proofs.lemmas.List.{append-nil}
use Rattle.std.proofs.lemmas.List.Elements.{All-nil, All-cons, All-append, All-weaker, All-get_or}
use Rattle.std.proofs.lemmas.List.Quantifiers.{all_pairs_push}
use Rattle.slab.specs.Slab.{Slab}
use Rattle.tm_objects.specs.Live.{Live, total}
use Rattle.tm_objects.specs.Listing.{seek, listed, IsSound}
use Rattle.tm_objects.specs.Counted.{AreCounted}
use Rattle.tm_objects.specs.Rising.{IsRising}
use Rattle.tm_objects.proofs.Lists.{AreNamed}
use Rattle.tm_objects.proofs.Seeks.{seek-slot}
use Rattle.tm_objects.proofs.Sound.{named}

module _ {V : Type 0} where
  all_one : (P : Live V → Type 0) (x : Option (Live V)) → ((o : Live V) → x ≡ Some o → P o) → All P (option_to_list x)
  all_one P None h = All-nil P
  all_one P (Some o) h = All-cons P o [] (h o refl) (All-nil P)

  -- what holds of the object at each id holds of each in the list
  all_listed : (at : ℕ → Option (Live V)) (P : Live V → Type 0) → ((i : ℕ) (o : Live V) → at i ≡ Some o → P o) → (n : ℕ) → All P (listed at n)
  unfolding listed
  all_listed at P h zero = All-nil P
  all_listed at P h (suc n) = All-append P (listed at n) (option_to_list (at (suc n))) (all_listed at P h n) (all_one P (at (suc n)) (h (suc n)))

  upto_listed : (at : ℕ → Option (Live V)) → AreNamed at → (n : ℕ) → All (λ o. o.id ≤ n) (listed at n)
  unfolding listed
  upto_listed at named zero = All-nil (λ (o : Live V). o.id ≤ 0)
  upto_listed at named (suc n) =
      All-append (λ o. o.id ≤ suc n) (listed at n) (option_to_list (at (suc n)))
      (All-weaker (λ o. o.id ≤ n) (λ o. o.id ≤ suc n) (λ o h. omega arith) (listed at n) (upto_listed at named n))
      (all_one (λ o. o.id ≤ suc n) (at (suc n)) (λ o e. omega (arith, named (suc n) o e)))

  rising_push : (xs : List (Live V)) (x : Option (Live V)) (n : ℕ) → AllPairs (λ o p. o.id < p.id) xs → All (λ o. o.id ≤ n) xs → ((o : Live V) → x ≡ Some o → o.id ≡ suc n) → AllPairs (λ o p. o.id < p.id) (xs ++ option_to_list x)
  rising_push xs None n rising upto h = rw (append-nil xs) rising
  rising_push xs (Some o) n rising upto h =
      all_pairs_push (λ o p. o.id < p.id) xs o rising (λ k d l. let u = All-get_or (λ o. o.id ≤ n) xs k d l upto in omega (arith, h o refl, u))

  rising_listed : (at : ℕ → Option (Live V)) → AreNamed at → (n : ℕ) → AllPairs (λ o p. o.id < p.id) (listed at n)
  unfolding listed
  rising_listed at named zero = λ i j d l m. absurd (omega arith)
  rising_listed at named (suc n) = rising_push (listed at n) (at (suc n)) n (rising_listed at named n) (upto_listed at named n) (named (suc n))

  -- the list of sound slots is that of live objects
  pub rising_sound :
      {slab : Slab (Live V)} {held : List (List Bool)} {rows : List (List ℕ)} {room given most places : ℕ} → IsSound slab rows room given most places → AreCounted slab held places
      → IsRising (record { most = most; places = places; given = given; live = listed (seek slab.slots) given })
  rising_sound {slab} {held} {rows} {room} {given} {most} {places} sound counted = record {
    most = omega (arith, sound.count, sound.whole);
    ids = all_listed (seek slab.slots) (λ o. (0 < o.id) × (o.id ≤ given)) (λ i o e. let s = seek-slot slab.slots i o e in let t = sound.standing s.0 o s.1 in (t.positive, t.upto)) given;
    rising = rising_listed (seek slab.slots) (named slab.slots) given;
    width = all_listed (seek slab.slots) (λ o. length o.holds ≡ places) (λ i o e. let s = seek-slot slab.slots i o e in (sound.standing s.0 o s.1).width) given;
    held = all_listed (seek slab.slots) (λ o. 0 < total o) (λ i o e. let s = seek-slot slab.slots i o e in (sound.standing s.0 o s.1).held) given;
    counts = all_listed (seek slab.slots) (λ o. All (λ n. n < 4294967296) o.holds) (λ i o e. let s = seek-slot slab.slots i o e in counted.counts s.0 o s.1) given;
  }
