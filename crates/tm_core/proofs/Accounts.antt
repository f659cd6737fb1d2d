-- An orderly publish and a look of either side keep the core good: what each place holds and is owed stays accounted for.
-- Other crates import from this file.
use Rattle.std.proofs.Common.{◌≡◌, ℕ, ◌+◌, ◌<◌, ◌≤◌, true, List, [], ◌∷◌, ◌++◌, length, slice_index_or, slice_set, inl, inr, refl, sym, ◌∙◌, ap, subst, arith, get_or-set_same, get_or-set_other, length-set, append_assoc, append-nil, length-append}
use Rattle.std.proofs.lemmas.Bool.{cases_eq}
use Rattle.tm_seq.specs.Kind.{Kind}
use Rattle.tm_batch.specs.declared.limits.TheConstants.{MOST_REQUESTS, MOST_ROOM, WINDOW}
use Rattle.tm_batch.specs.declared.message.Request.{Request}
use Rattle.tm_batch.specs.declared.message.Request.TheVariants.{Bye}
use Rattle.tm_batch.specs.declared.message.AnswerBatch.{AnswerBatch}
use Rattle.tm_model.specs.declared.entry.Entry.{Entry}
use Rattle.tm_model.specs.State.{State, place_of}
use Rattle.tm_model.specs.Serve.{state_after}
use Rattle.tm_model.specs.Legal.{IsLegal}
use Rattle.tm_model.specs.Slots.{Empty, Asked, Taken, Answered, Looks, no_slot, slot_of, taken, published, collected, looked, is_asked, is_answered}
use Rattle.tm_model.specs.Ran.{mark_of, ran, waiting_after}
use Rattle.tm_model.specs.Batches.{batches}
use Rattle.tm_model.specs.GoodSlots.{Agrees, Reached, IsGoodSlot}
use Rattle.tm_model.specs.Holds.{has_bye, launches_in, gave, answers_in, ended_in, came, unfinished}
use Rattle.tm_model.specs.Orderly.{IsOrderly}
use Rattle.tm_model.specs.Good.{FullBox, FullSlot, IsAccounted}
use Rattle.tm_model.specs.Laws.{SeeKeepsGood, CollectKeepsGood, PublishKeepsGood}
use Rattle.tm_core.proofs.Keeps.{publish_keeps, see_keeps, collect_keeps}
use Rattle.tm_core.proofs.Tallies.{ended_in-append, came_more, came_same, gave-append, launches_in-append, bye_in, bye_more, bye_at, one_gave}
use Rattle.tm_core.proofs.Lists.{split}
use Rattle.tm_core.proofs.AllAnswers.{batches_have_all_answers}

module _ {V O R T : Type 0} where
  -- one place changes, and each stays accounted for
  pub accounts_set :
      (opening s : State V O R T) (slots : List (FullSlot V O R T)) (c : ℕ) (slot : FullSlot V O R T) (log : List (Entry V O R T)) → c < length slots
      → IsAccounted opening c slot log s
      → ((d : ℕ) → d < length slots → IsAccounted opening d (slice_index_or slots d no_slot) log s)
      → (d : ℕ) → d < length (slice_set slots c slot) → IsAccounted opening d (slice_index_or (slice_set slots c slot) d no_slot) log s
  accounts_set opening s slots c slot log lt own all d l =
      elim (cases_eq d c) [
        | inl e ↦ rw (e, get_or-set_same slots c slot no_slot lt) own
        | inr ne ↦ rw (get_or-set_other slots c d slot no_slot ne) (all d (subst (λ n. d < n) (length-set slots c slot) l))
      ]

  see_accounted :
      (opening s : State V O R T) (c : ℕ) (slot : FullSlot V O R T) (box : FullBox V O R T) (looks : Looks) (log : List (Entry V O R T))
      → slot.box ≡ box → IsAccounted opening c slot log s → IsAccounted opening c (record slot { box = taken box; trustee = looks }) log s
  see_accounted opening s c slot Empty looks log e was =
      let w = subst (λ (b : FullBox V O R T). IsAccounted opening c (record slot { box = b }) log s) e was in
      record {
        holds = w.holds;
        enough = w.enough;
        launches = w.launches;
        window = w.window;
        ended = w.ended;
        last = w.last;
        closed = w.closed;
        left = w.left;
        out = tt;
      }
  see_accounted opening s c slot (Asked b room) looks log e was =
      let w = subst (λ (b : FullBox V O R T). IsAccounted opening c (record slot { box = b }) log s) e was in
      record {
        holds = w.holds;
        enough = w.enough;
        launches = w.launches;
        window = w.window;
        ended = w.ended;
        last = w.last;
        closed = w.closed;
        left = w.left;
        out = w.out;
      }
  see_accounted opening s c slot (Taken b room) looks log e was =
      let w = subst (λ (b : FullBox V O R T). IsAccounted opening c (record slot { box = b }) log s) e was in
      record {
        holds = w.holds;
        enough = w.enough;
        launches = w.launches;
        window = w.window;
        ended = w.ended;
        last = w.last;
        closed = w.closed;
        left = w.left;
        out = w.out;
      }
  see_accounted opening s c slot (Answered a upto room) looks log e was =
      let w = subst (λ (b : FullBox V O R T). IsAccounted opening c (record slot { box = b }) log s) e was in
      record {
        holds = w.holds;
        enough = w.enough;
        launches = w.launches;
        window = w.window;
        ended = w.ended;
        last = w.last;
        closed = w.closed;
        left = w.left;
        out = let out = w.out in record { most_gifts = out.most_gifts; gifts = out.gifts; completions = out.completions; answers = out.answers };
      }

  pub see_keeps_good : (kind : Kind V O R T) → SeeKeepsGood kind
  see_keeps_good kind opening core c lt good =
      let slot = slot_of core c in
      record {
        slots = see_keeps mark_of (batches kind opening) (IsLegal kind opening) core c lt good.slots;
        places = length-set core.slots c _ ∙ good.places;
        accounts = accounts_set opening (state_after kind opening core.log) core.slots c _ core.log lt
            (see_accounted opening _ c slot slot.box (looked (is_asked slot.box) slot.trustee) core.log refl (good.accounts c lt)) good.accounts;
      }

  collect_accounted :
      (opening s : State V O R T) (c : ℕ) (slot : FullSlot V O R T) (box : FullBox V O R T) (looks : Looks) (log : List (Entry V O R T))
      → slot.box ≡ box → IsAccounted opening c slot log s → IsAccounted opening c (collected box (record slot { client = looks })) log s
  collect_accounted opening s c slot Empty looks log e was =
      let w = subst (λ (b : FullBox V O R T). IsAccounted opening c (record slot { box = b }) log s) e was in
      subst (λ (b : FullBox V O R T). IsAccounted opening c (record slot { box = b; client = looks }) log s) (sym e)
      (record {
        holds = w.holds;
        enough = w.enough;
        launches = w.launches;
        window = w.window;
        ended = w.ended;
        last = w.last;
        closed = w.closed;
        left = w.left;
        out = w.out;
      })
  collect_accounted opening s c slot (Asked b room) looks log e was =
      let w = subst (λ (b : FullBox V O R T). IsAccounted opening c (record slot { box = b }) log s) e was in
      subst (λ (b : FullBox V O R T). IsAccounted opening c (record slot { box = b; client = looks }) log s) (sym e)
      (record {
        holds = w.holds;
        enough = w.enough;
        launches = w.launches;
        window = w.window;
        ended = w.ended;
        last = w.last;
        closed = w.closed;
        left = w.left;
        out = w.out;
      })
  collect_accounted opening s c slot (Taken b room) looks log e was =
      let w = subst (λ (b : FullBox V O R T). IsAccounted opening c (record slot { box = b }) log s) e was in
      subst (λ (b : FullBox V O R T). IsAccounted opening c (record slot { box = b; client = looks }) log s) (sym e)
      (record {
        holds = w.holds;
        enough = w.enough;
        launches = w.launches;
        window = w.window;
        ended = w.ended;
        last = w.last;
        closed = w.closed;
        left = w.left;
        out = w.out;
      })
  collect_accounted opening s c slot (Answered a upto room) looks log e was =
      let w = subst (λ (b : FullBox V O R T). IsAccounted opening c (record slot { box = b }) log s) e was in
      let longer : ended_in slot.got ≤ ended_in (slot.got ++ a ∷ []) = rw (ended_in-append slot.got (a ∷ [])) (omega arith) in
      let window : launches_in slot.sent ≤ WINDOW + ended_in slot.got = w.window in
      let all : launches_in slot.sent ≡ 0 + unfinished c s.live + length (place_of s c).ready + ended_in (slot.got ++ a ∷ []) = w.launches in
      record {
        holds = w.holds;
        enough = λ id. let had = w.enough id in let more = came_more opening c slot.sent slot.got a id in omega arith;
        launches = w.launches;
        window = omega arith;
        ended = λ bye. let had = w.ended bye in omega arith;
        last = w.last;
        closed = w.closed;
        left = w.left;
        out = tt;
      }

  pub collect_keeps_good : (kind : Kind V O R T) → CollectKeepsGood kind
  collect_keeps_good kind opening core c lt good =
      let slot = slot_of core c in
      record {
        slots = collect_keeps mark_of (batches kind opening) (IsLegal kind opening) core c lt good.slots;
        places = length-set core.slots c _ ∙ good.places;
        accounts = accounts_set opening (state_after kind opening core.log) core.slots c _ core.log lt
            (collect_accounted opening _ c slot slot.box (looked (is_answered slot.box) slot.client) core.log refl (good.accounts c lt)) good.accounts;
      }

  -- what is given away stays within what came, request by request
  gave_within :
      (opening : State V O R T) (c : ℕ) (sent : List (Request V O R T)) (got : List (AnswerBatch V O R T)) (b : List (Request V O R T))
      → IsOrderly opening c sent got b → (id : ℕ) (before rest : List (Request V O R T)) → b ≡ before ++ rest
      → gave id (sent ++ before) ≤ came opening c sent got id → gave id (sent ++ b) ≤ came opening c sent got id
  gave_within opening c sent got b orderly id before [] e le =
      let same : b ≡ before = e ∙ append-nil before in
      rw same le
  gave_within opening c sent got b orderly id before (q ∷ rest) e le =
      let longer : gave id (sent ++ (before ++ q ∷ [])) ≡ gave id (sent ++ before) + gave id (q ∷ []) =
      ap (gave id) (sym (append_assoc sent before (q ∷ []))) ∙ gave-append id (sent ++ before) (q ∷ []) in
      let next : gave id (sent ++ (before ++ q ∷ [])) ≤ came opening c sent got id =
      elim (one_gave id q) [
        | inl none ↦ omega (arith, longer, none, le)
        | inr (one, names) ↦ let less = orderly.held before rest q id e names in omega (arith, longer, one, less)
      ] in
      gave_within opening c sent got b orderly id (before ++ q ∷ []) rest (e ∙ sym (append_assoc before (q ∷ []) rest)) next

  bye_alone : (mid after : List (Request V O R T)) → mid ++ Bye ∷ after ≡ Bye ∷ [] → after ≡ []
  bye_alone [] after e = cc
  bye_alone (q ∷ []) after e = absurd cc
  bye_alone (q ∷ r ∷ mid) after e = absurd cc

  publish_accounted :
      (opening s : State V O R T) (c : ℕ) (slot : FullSlot V O R T) (b : List (Request V O R T)) (room : ℕ) (log : List (Entry V O R T))
      → slot.box ≡ Empty → slot.sent ≡ ran c log → length (answers_in slot.got) ≤ length slot.sent → length b ≤ MOST_REQUESTS → room ≤ MOST_ROOM
      → IsOrderly opening c slot.sent slot.got b → IsAccounted opening c slot log s → IsAccounted opening c (published b room slot) log s
  publish_accounted opening s c slot b room log e ran_is answered most most_gifts orderly was =
      let w = subst (λ (x : FullBox V O R T). IsAccounted opening c (record slot { box = x }) log s) e was in
      record {
        holds = λ still id.
            let had = w.holds (λ bye. still (bye_more slot.sent b bye)) id in
            let given = gave-append id slot.sent b in
            let came_is = came_same opening c slot.sent b slot.got id answered in
            rw (given, came_is) (omega (arith, had));
        enough = λ id.
            rw (came_same opening c slot.sent b slot.got id answered)
            (gave_within opening c slot.sent slot.got b orderly id [] b refl (rw (append-nil slot.sent) (w.enough id)));
        launches = let had = w.launches in rw (launches_in-append slot.sent b) (omega (arith, had));
        window = orderly.launches;
        ended = λ bye.
            elim (bye_in slot.sent b bye) [
              | inl before ↦
                  rw (orderly.last before, append-nil slot.sent) (w.ended before)
              | inr now ↦
                  let (alone, all) = orderly.bye now in
                  rw (alone, launches_in-append slot.sent (Bye ∷ [])) (omega (arith, all))
            ];
        last = λ before after is.
            elim (split slot.sent b before Bye after is) [
              | inl (mid, in_sent, rest) ↦
                  let none : mid ≡ [] = w.last before mid in_sent in
                  let bye : has_bye slot.sent ≡ true = ap has_bye in_sent ∙ bye_at before mid in
                  rest ∙ ap (λ l. l ++ b) none ∙ orderly.last bye
              | inr (mid, past, in_b) ↦
                  let bye : has_bye b ≡ true = ap has_bye in_b ∙ bye_at mid after in
                  bye_alone mid after (sym in_b ∙ (orderly.bye bye).0)
            ];
        closed = w.closed;
        left = w.left;
        out = (subst (λ (l : List (Request V O R T)). IsOrderly opening c l slot.got b) ran_is orderly, most, most_gifts);
      }

  pub publish_keeps_good : (kind : Kind V O R T) → PublishKeepsGood kind
  publish_keeps_good kind opening core c b room may orderly good =
      let slot = slot_of core c in
      let was : IsGoodSlot mark_of (batches kind opening) (IsLegal kind opening) core.log c slot = good.slots.slots c may.in_range in
      let agrees : Agrees mark_of (batches kind opening) (IsLegal kind opening) Empty slot c core.log =
      subst (λ (box : FullBox V O R T). Agrees mark_of (batches kind opening) (IsLegal kind opening) box slot c core.log) may.is_empty was.agrees in
      let reached : batches kind opening c core.log ≡ slot.got =
      subst (λ (box : FullBox V O R T). Reached mark_of (batches kind opening) (IsLegal kind opening) box slot c core.log) may.is_empty was.reached in
      let (all, many, none) = batches_have_all_answers kind opening core.log c in
      let counted = ap length all in
      let joined = length-append (answers_in (batches kind opening c core.log)) (waiting_after c [] core.log) in
      let got_is = ap (λ l. length (answers_in l)) reached in
      let sent_is = ap length agrees.1 in
      record {
        slots = publish_keeps mark_of (batches kind opening) (IsLegal kind opening) core c b room may good.slots;
        places = length-set core.slots c _ ∙ good.places;
        accounts = accounts_set opening (state_after kind opening core.log) core.slots c (published b room slot) core.log may.in_range
            (publish_accounted opening _ c slot b room core.log may.is_empty agrees.1 (omega (arith, counted, joined, got_is, sent_is, many)) may.most
            may.most_gifts orderly (good.accounts c may.in_range))
            good.accounts;
      }
