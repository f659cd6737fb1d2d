-- The first core of a trustee is good.
-- Other crates import from this file.
use Rattle.std.proofs.Common.{◌≡◌, ◌≢◌, ℕ, ◌+◌, ◌<◌, List, [], ◌∷◌, ◌++◌, refl, subst, arith}
use Rattle.std.proofs.Math.ListN.{length-replicate, get_or-replicate}
use Rattle.tm_seq.specs.Kind.{Kind}
use Rattle.tm_batch.specs.declared.config.First.{First}
use Rattle.tm_batch.specs.declared.message.Request.{Request}
use Rattle.tm_batch.specs.declared.message.Request.TheVariants.{Bye}
use Rattle.tm_model.specs.State.{State, no_place, place_of, place_count}
use Rattle.tm_model.specs.Opening.{opened, placed_on}
use Rattle.tm_model.specs.Legal.{IsLegal}
use Rattle.tm_model.specs.Slots.{no_slot}
use Rattle.tm_model.specs.Ran.{mark_of}
use Rattle.tm_model.specs.Batches.{batches}
use Rattle.tm_model.specs.Holds.{unfinished}
use Rattle.tm_model.specs.Good.{IsAccounted}
use Rattle.tm_model.specs.Laws.{IsOpening, FirstIsGood}
use Rattle.tm_core.proofs.Keeps.{first_good}
use Rattle.tm_core.proofs.Numbering.{opening_place}

nothing_launched : {V : Type 0} (T : Type 0) (c places id : ℕ) (first : List (First V)) → unfinished {V = V} {T = T} c (opened places id first) ≡ 0
nothing_launched T c places id [] = refl
nothing_launched T c places id (f ∷ first) = let more = nothing_launched T c places (id + 1) first in omega (arith, more)

module _ {V O R T : Type 0} where
  pub opening_unfinished : (opening : State V O R T) (c : ℕ) → IsOpening opening → unfinished c opening.live ≡ 0
  opening_unfinished opening c (number, config, first, can, below, is) =
      rw is (nothing_launched T c (config.clients + number) 1 (placed_on number first))

  no_bye : (before after : List (Request V O R T)) → [] ≢ before ++ Bye ∷ after
  no_bye [] after e = cc
  no_bye (q ∷ before) after e = cc

  first_accounted :
      (opening : State V O R T) (c : ℕ) → place_of opening c ≡ no_place → unfinished c opening.live ≡ 0
      → IsAccounted opening c no_slot [] opening
  first_accounted opening c place none = record {
    holds = λ still id. rw place (omega arith);
    enough = λ id. omega arith;
    launches = rw (place, none) refl;
    window = omega arith;
    ended = λ h. refl;
    last = λ before after e. absurd (no_bye before after e);
    closed = rw place refl;
    left = λ h. absurd cc;
    out = tt;
  }

  pub first_is_good : (kind : Kind V O R T) → FirstIsGood kind
  first_is_good kind opening is = record {
    slots = first_good mark_of (batches kind opening) (IsLegal kind opening) (place_count opening.setup) tt (λ c. refl);
    places = length-replicate (place_count opening.setup) no_slot;
    accounts = λ c lt.
        let within : c < place_count opening.setup = subst (λ n. c < n) (length-replicate (place_count opening.setup) no_slot) lt in
        rw (get_or-replicate (place_count opening.setup) c no_slot no_slot within)
        (first_accounted opening c (opening_place opening c is within).1 (opening_unfinished opening c is));
  }
