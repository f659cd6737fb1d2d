-- The first slots are good, and a publish, a look of the trustee and a look of a client keep them so.
use Rattle.std.proofs.Common.{◌≡◌, ◌≢◌, ℕ, ◌<◌, Bool, true, false, not, List, [], ◌∷◌, ◌++◌, length, slice_index_or, slice_set, inl, inr, refl, sym, ◌∙◌, ap, subst, arith, get_or-set_same, get_or-set_other, length-set, append_assoc}
use Rattle.std.proofs.Math.ListN.{length-replicate, get_or-replicate}
use Rattle.std.proofs.lemmas.Bool.{cases_eq}
use Rattle.tm_model.specs.Slots.{Box, Empty, Asked, Taken, Answered, Looks, Slot, no_slot, slot_of, published, taken, collected, looked, is_asked, is_answered}
use Rattle.tm_model.specs.GoodSlots.{Mark, Left, Agrees, Reached, IsCutAt, HasSeen, Shows, IsLate, IsGoodSlot, FirstSlotsAreGood, PublishKeepsSlots, SeeKeepsSlots, CollectKeepsSlots}
use Rattle.tm_core.proofs.Lists.{prefix_length}
use Rattle.tm_core.proofs.Marks.{batch_last}

not_equal : (a b : Bool) → a ≡ b → not a ≢ b
not_equal true true e h = cc
not_equal true false e h = cc
not_equal false true e h = cc
not_equal false false e h = cc

module _ {Q G E : Type 0} (mark : E → Mark Q) (out : ℕ → List E → List G) (legal : List E → Type 0) where
  abbrev IsGood : List E → ℕ → Slot Q G E → Type 0
  IsGood log c slot = IsGoodSlot mark out legal log c slot

  -- one slot changes, and the others stay good
  pub replaced :
      (log longer : List E) (slots : List (Slot Q G E)) (c : ℕ) (slot : Slot Q G E) → c < length slots → IsGood longer c slot
      → ((d : ℕ) → d ≢ c → (s : Slot Q G E) → IsGood log d s → IsGood longer d s)
      → ((d : ℕ) → d < length slots → IsGood log d (slice_index_or slots d no_slot))
      → (d : ℕ) → d < length (slice_set slots c slot) → IsGood longer d (slice_index_or (slice_set slots c slot) d no_slot)
  replaced log longer slots c slot lt own other all d l =
      elim (cases_eq d c) [
        | inl e ↦ rw (e, get_or-set_same slots c slot no_slot lt) own
        | inr ne ↦ rw (get_or-set_other slots c d slot no_slot ne) (other d ne _ (all d (subst (λ n. d < n) (length-set slots c slot) l)))
      ]

  pub first_good : FirstSlotsAreGood mark out legal
  first_good places start none = record {
    is_legal = start;
    slots = λ c lt.
        let within : c < places = subst (λ n. c < n) (length-replicate places no_slot) lt in
        rw (get_or-replicate places c no_slot no_slot within)
        (record {
          agrees = (refl, refl);
          reached = none c;
          seen = record { prefix = ([], refl); is_legal = start; leaves = none c; cut = refl; runs = refl };
          shows = tt;
          floor = omega arith;
          late = λ before after e is of last. omega arith;
          settled = tt;
        });
  }

  pub publish_keeps : PublishKeepsSlots mark out legal
  publish_keeps core c b room may good =
      let slot = slot_of core c in
      let was : IsGood core.log c slot = good.slots c may.in_range in
      let agrees : Agrees mark out legal Empty slot c core.log = subst (λ box. Agrees mark out legal box slot c core.log) may.is_empty was.agrees in
      let reached : Reached mark out legal Empty slot c core.log = subst (λ box. Reached mark out legal box slot c core.log) may.is_empty was.reached in
      let seen : HasSeen mark out legal Empty slot c = subst (λ box. HasSeen mark out legal box slot c) may.is_empty was.seen.runs in
      record {
        is_legal = good.is_legal;
        slots = replaced core.log core.log core.slots c (published b room slot) may.in_range
            (record {
              agrees = (not_equal slot.request_word slot.response_word agrees.0, ap (λ l. l ++ b) agrees.1);
              reached = reached;
              seen = record {
                prefix = was.seen.prefix;
                is_legal = was.seen.is_legal;
                leaves = was.seen.leaves;
                cut = was.seen.cut;
                runs = ap (λ l. l ++ b) seen;
              };
              shows = tt;
              floor = prefix_length _ _ was.seen.prefix;
              late = tt;
              settled = was.settled;
            })
            (λ d ne s h. h) good.slots;
      }

  see_slot :
      (log : List E) (c : ℕ) (slot : Slot Q G E) (box : Box Q G E) (looks : Looks) → slot.box ≡ box
      → IsGood log c slot → IsGood log c (record slot { box = taken box; trustee = looks })
  see_slot log c slot (Asked b room) looks e was = record {
    agrees = subst (λ box. Agrees mark out legal box slot c log) e was.agrees;
    reached = subst (λ box. Reached mark out legal box slot c log) e was.reached;
    seen = record {
      prefix = was.seen.prefix;
      is_legal = was.seen.is_legal;
      leaves = was.seen.leaves;
      cut = was.seen.cut;
      runs = subst (λ box. HasSeen mark out legal box slot c) e was.seen.runs;
    };
    shows = tt;
    floor = was.floor;
    late = tt;
    settled = was.settled;
  }
  see_slot log c slot (Taken b room) looks e was = record {
    agrees = subst (λ box. Agrees mark out legal box slot c log) e was.agrees;
    reached = subst (λ box. Reached mark out legal box slot c log) e was.reached;
    seen = record {
      prefix = was.seen.prefix;
      is_legal = was.seen.is_legal;
      leaves = was.seen.leaves;
      cut = was.seen.cut;
      runs = subst (λ box. HasSeen mark out legal box slot c) e was.seen.runs;
    };
    shows = tt;
    floor = was.floor;
    late = tt;
    settled = was.settled;
  }
  see_slot log c slot Empty looks e was = record {
    agrees = subst (λ box. Agrees mark out legal box slot c log) e was.agrees;
    reached = subst (λ box. Reached mark out legal box slot c log) e was.reached;
    seen = record {
      prefix = was.seen.prefix;
      is_legal = was.seen.is_legal;
      leaves = was.seen.leaves;
      cut = was.seen.cut;
      runs = subst (λ box. HasSeen mark out legal box slot c) e was.seen.runs;
    };
    shows = tt;
    floor = was.floor;
    late = subst (λ box. IsLate mark out legal box slot c log) e was.late;
    settled = was.settled;
  }
  see_slot log c slot (Answered a upto room) looks e was =
      let shown : Shows mark out legal (Answered a upto room) slot c log = subst (λ box. Shows mark out legal box slot c log) e was.shows in
      record {
        agrees = subst (λ box. Agrees mark out legal box slot c log) e was.agrees;
        reached = subst (λ box. Reached mark out legal box slot c log) e was.reached;
        seen = record {
          prefix = was.seen.prefix;
          is_legal = was.seen.is_legal;
          leaves = was.seen.leaves;
          cut = was.seen.cut;
          runs = subst (λ box. HasSeen mark out legal box slot c) e was.seen.runs;
        };
        shows = record { prefix = shown.prefix; is_legal = shown.is_legal; runs = shown.runs; leaves = shown.leaves; grown = shown.grown };
        floor = was.floor;
        late = subst (λ box. IsLate mark out legal box slot c log) e was.late;
        settled = was.settled;
      }

  pub see_keeps : SeeKeepsSlots mark out legal
  see_keeps core c lt good =
      let slot = slot_of core c in
      record {
        is_legal = good.is_legal;
        slots = replaced core.log core.log core.slots c _ lt
            (see_slot core.log c slot slot.box (looked (is_asked slot.box) slot.trustee) refl (good.slots c lt)) (λ d ne s h. h) good.slots;
      }

  -- one answer batch more was got, and the log up to it ends by the leaving of a batch
  cut_more :
      (c room : ℕ) (got : List G) (a : G) (upto front : List E) (e : E) → upto ≡ front ++ e ∷ [] → mark e ≡ Left c room
      → IsCutAt mark out legal c (got ++ a ∷ []) upto
  cut_more c room [] a upto front e ends at = (front, e, room, ends, at)
  cut_more c room (g ∷ got) a upto front e ends at = (front, e, room, ends, at)

  collect_slot :
      (log : List E) (c : ℕ) (slot : Slot Q G E) (box : Box Q G E) (looks : Looks) → slot.box ≡ box
      → IsGood log c slot → IsGood log c (collected box (record slot { client = looks }))
  collect_slot log c slot (Asked b room) looks e was = record {
    agrees = rw e (subst (λ box. Agrees mark out legal box slot c log) e was.agrees);
    reached = rw e (subst (λ box. Reached mark out legal box slot c log) e was.reached);
    seen = record {
      prefix = was.seen.prefix;
      is_legal = was.seen.is_legal;
      leaves = was.seen.leaves;
      cut = was.seen.cut;
      runs = rw e (subst (λ box. HasSeen mark out legal box slot c) e was.seen.runs);
    };
    shows = rw e tt;
    floor = was.floor;
    late = rw e tt;
    settled = was.settled;
  }
  collect_slot log c slot (Taken b room) looks e was = record {
    agrees = rw e (subst (λ box. Agrees mark out legal box slot c log) e was.agrees);
    reached = rw e (subst (λ box. Reached mark out legal box slot c log) e was.reached);
    seen = record {
      prefix = was.seen.prefix;
      is_legal = was.seen.is_legal;
      leaves = was.seen.leaves;
      cut = was.seen.cut;
      runs = rw e (subst (λ box. HasSeen mark out legal box slot c) e was.seen.runs);
    };
    shows = rw e tt;
    floor = was.floor;
    late = rw e tt;
    settled = was.settled;
  }
  collect_slot log c slot Empty looks e was = record {
    agrees = rw e (subst (λ box. Agrees mark out legal box slot c log) e was.agrees);
    reached = rw e (subst (λ box. Reached mark out legal box slot c log) e was.reached);
    seen = record {
      prefix = was.seen.prefix;
      is_legal = was.seen.is_legal;
      leaves = was.seen.leaves;
      cut = was.seen.cut;
      runs = rw e (subst (λ box. HasSeen mark out legal box slot c) e was.seen.runs);
    };
    shows = rw e tt;
    floor = was.floor;
    late = rw e (subst (λ box. IsLate mark out legal box slot c log) e was.late);
    settled = was.settled;
  }
  collect_slot log c slot (Answered a upto room) looks e was =
      let shown : Shows mark out legal (Answered a upto room) slot c log = subst (λ box. Shows mark out legal box slot c log) e was.shows in
      let agrees : Agrees mark out legal (Answered a upto room) slot c log = subst (λ box. Agrees mark out legal box slot c log) e was.agrees in
      let (others, own, b, grows, is_batch, sent) = shown.grown in
      let (front, last, ends, at) = batch_last mark c room b own is_batch in
      record {
        agrees = agrees;
        reached = subst (λ box. Reached mark out legal box slot c log) e was.reached;
        seen = record {
          prefix = shown.prefix;
          is_legal = shown.is_legal;
          leaves = shown.leaves;
          cut = cut_more c room slot.got a upto (slot.seen ++ others ++ front) last
              (grows ∙ ap (λ l. slot.seen ++ others ++ l) ends ∙ sym (append_assoc (slot.seen ++ others) front (last ∷ [])))
              at;
          runs = shown.runs;
        };
        shows = tt;
        floor = was.floor;
        late = subst (λ box. IsLate mark out legal box slot c log) e was.late;
        settled = was.settled;
      }

  pub collect_keeps : CollectKeepsSlots mark out legal
  collect_keeps core c lt good =
      let slot = slot_of core c in
      record {
        is_legal = good.is_legal;
        slots = replaced core.log core.log core.slots c _ lt
            (collect_slot core.log c slot slot.box (looked (is_answered slot.box) slot.client) refl (good.slots c lt)) (λ d ne s h. h) good.slots;
      }
