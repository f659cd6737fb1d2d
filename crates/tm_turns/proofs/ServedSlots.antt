-- What serving the places of a table makes of one of its slots, where a light batch was asked there or nothing.
use Rattle.std.proofs.Common.{◌≡◌, ◌≢◌, ℕ, zero, suc, ◌≤◌, ◌<◌, inl, inr, true, List, [], ◌∷◌, ◌++◌, length, sym, ◌∙◌, ap, subst, arith, append_assoc, append-nil, get_or-set_same}
use Rattle.std.specs.Prelude.{IsSomeAnd}
use Rattle.std.specs.declared.option.Option.{Option}
use Rattle.std.proofs.lemmas.Bool.{cases_eq}
use Rattle.tm_seq.specs.Kind.{Kind}
use Rattle.tm_batch.specs.declared.message.Request.{Request}
use Rattle.tm_batch.specs.declared.message.AnswerBatch.{AnswerBatch}
use Rattle.tm_model.specs.declared.entry.Entry.{Entry}
use Rattle.tm_model.specs.declared.entry.Entry.TheVariants.{Sent}
use Rattle.tm_model.specs.Lists.{IsPrefix, EndsIn}
use Rattle.tm_model.specs.State.{State, place_count}
use Rattle.tm_model.specs.Slots.{Empty, Asked, Taken, Answered, no_slot, slot_of, is_asked, taken, see, looked, answered}
use Rattle.tm_model.specs.Entries.{added}
use Rattle.tm_model.specs.Answering.{MayGrow, answer_with}
use Rattle.tm_model.specs.Batches.{batches}
use Rattle.tm_model.specs.Good.{FullBox, FullCore, FullSlot}
use Rattle.tm_core.proofs.CallerLemmas.{found}
use Rattle.tm_pair.specs.Views.{BatchView, hand_of}
use Rattle.tm_pair.specs.Moves.{answer_taken}
use Rattle.tm_pair.specs.Sides.{IsGoodTrustee}
use Rattle.tm_pair.specs.Plain.{opening_at, core_at, trustee_at, IsTrusteeOf, plain_theory}
use Rattle.tm_pair.specs.declared.plain.PlainTable.{PlainTable}
use Rattle.tm_pair.specs.declared.plain.PlainTrustee.{PlainTrustee}
use Rattle.tm_trustee.specs.Places.{ServesPlace, ServesBelow}
use Rattle.tm_trustee.proofs.Serving.{taken_in_hand}
use Rattle.tm_turns.proofs.Owing.{runs_in, runs_in-append, resumes_run}
use Rattle.tm_turns.proofs.ServedWeighs.{IsLightSlot, asked_same, place_other, places_other, below_opens}

module _ {V O R T : Type 0} where
  see_own :
      (c : ℕ) (core : FullCore V O R T) → c < length core.slots
      → slot_of (see c core) c ≡ record (slot_of core c) { box = taken (slot_of core c).box; trustee = looked (is_asked (slot_of core c).box) (slot_of core c).trustee }
  see_own c core lt = get_or-set_same core.slots c _ no_slot lt

  answer_own :
      (c room : ℕ) (resumes : List (Entry V O R T)) (a : AnswerBatch V O R T) (b : List (Request V O R T)) (core : FullCore V O R T)
      → c < length core.slots → (slot_of core c).box ≡ Taken b room
      → slot_of (answer_taken (slot_of core c).box c resumes a core) c ≡ answered a (answer_with c b room resumes a core).log room (slot_of core c)
  answer_own c room resumes a b core lt is =
      ap (λ (box : FullBox V O R T). slot_of (answer_taken box c resumes a core) c) is
      ∙ get_or-set_same core.slots c (answered a (answer_with c b room resumes a core).log room (slot_of core c)) no_slot lt

  prefix_on : (a b c : List (Entry V O R T)) → IsPrefix a b → IsPrefix b c → IsPrefix a c
  prefix_on a b c (x, e) (y, f) = (x ++ y, f ∙ ap (λ l. l ++ y) e ∙ append_assoc a x y)

  module _ (kind : Kind V O R T) (opening : State V O R T) where
    -- a light batch was answered at place c, and other entries came behind it
    pub record ServedSlot (c : ℕ) (was now : PlainTable V O R T) (old new : PlainTrustee V O R T) : Type 0 where
      pub front : List (Entry V O R T)
      pub tail : List (Entry V O R T)
      pub room : ℕ
      pub answers : AnswerBatch V O R T
      pub upto : List (Entry V O R T)
      pub starts : IsPrefix (trustee_at old).log front
      pub log : (trustee_at new).log ≡ (front ++ Sent c room ∷ []) ++ tail
      pub last : EndsIn (batches kind opening c (front ++ Sent c room ∷ [])) answers
      pub none : length answers.answers.items ≡ 0
      pub box : (slot_of (core_at now) c).box ≡ Answered answers upto room
      pub sent : (slot_of (core_at now) c).sent ≡ (slot_of (core_at was) c).sent
      pub got : (slot_of (core_at now) c).got ≡ (slot_of (core_at was) c).got

    within_slots : (c : ℕ) (table : PlainTable V O R T) (side : PlainTrustee V O R T) → IsTrusteeOf kind table side → opening_at table ≡ opening
        → c < place_count opening.setup → c < length (core_at table).slots
    within_slots c table side mine opens lt =
        let places = mine.of_table.good.places in
        let same = ap (λ (s : State V O R T). place_count s.setup) opens in
        omega (arith, places, same, lt)

    place_serves :
        (c room : ℕ) (was now : PlainTable V O R T) (old new : PlainTrustee V O R T) → ServesPlace (plain_theory kind) kind opening c was now old new
        → IsTrusteeOf kind was old → opening_at was ≡ opening → c < place_count opening.setup → (slot_of (core_at was) c).box ≡ Asked [] room
        → ServedSlot c was now old new
    place_serves c room was now old new (inl passes) mine opens lt is =
        absurd (let yes : is_asked (slot_of (core_at was) c).box ≡ true = ap (λ x. is_asked x) is in let none = passes.saw.may in cc)
    place_serves c room was now old new (inr answers) mine opens lt is =
        let batch = answers.batch in
        let b = batch.requests.items in
        let r = answers.replied in
        let log_of = (trustee_at answers.mid).log in
        let good : IsGoodTrustee kind opening (trustee_at old) = subst (λ s. IsGoodTrustee kind s (trustee_at old)) opens mine.is_good in
        let hand = taken_in_hand kind opening (trustee_at old) (trustee_at answers.mid) c batch good lt answers.takes in
        let empty : b ≡ [] = asked_same [] b room batch.room (slot_of (core_at was) c).box is answers.saw.may in
        let grows : MayGrow kind opening log_of r.resumes c b batch.room r.answers =
        subst (λ (o : Option (BatchView V O R T)). IsSomeAnd o (λ h. MayGrow kind opening log_of r.resumes c h.requests h.room r.answers)) hand r.may in
        let log : (trustee_at new).log ≡ log_of ++ added log_of r.resumes c b batch.room r.answers.answers.items =
        subst (λ (o : Option (BatchView V O R T)). IsSomeAnd o (λ h. (trustee_at new).log ≡ log_of ++ added log_of r.resumes c h.requests h.room r.answers.answers.items)) hand
        r.answered.log in
        let shape : log_of ++ added log_of r.resumes c b batch.room r.answers.answers.items ≡ (log_of ++ r.resumes) ++ Sent c batch.room ∷ [] =
        ap (λ (qs : List (Request V O R T)). log_of ++ added log_of r.resumes c qs batch.room r.answers.answers.items) empty
        ∙ sym (append_assoc log_of r.resumes (Sent c batch.room ∷ [])) in
        let inside = within_slots c was old mine opens lt in
        let saw : slot_of (core_at answers.between) c ≡ record (slot_of (core_at was) c) {
          box = taken (slot_of (core_at was) c).box;
          trustee = looked (is_asked (slot_of (core_at was) c).box) (slot_of (core_at was) c).trustee;
        } =
        ap (λ (core : FullCore V O R T). slot_of core c) answers.saw.core ∙ see_own c (core_at was) inside in
        let is_taken : (slot_of (core_at answers.between) c).box ≡ Taken b batch.room =
        ap (λ (s : FullSlot V O R T). s.box) saw ∙ ap (λ x. taken x) answers.saw.may in
        let still : c < length (core_at answers.between).slots = within_slots c answers.between answers.mid answers.keeps.mine (answers.keeps.opening ∙ opens) lt in
        let own : slot_of (core_at now) c ≡ answered r.answers (answer_with c b batch.room r.resumes r.answers (core_at answers.between)).log batch.room (slot_of (core_at answers.between) c) =
        ap (λ (core : FullCore V O R T). slot_of core c) r.did.core
        ∙ answer_own c batch.room r.resumes r.answers b (core_at answers.between) still is_taken in
        let many = grows.as_many in
        let zero = ap (λ (qs : List (Request V O R T)). length qs) empty in
        record {
          front = log_of ++ r.resumes;
          tail = [];
          room = batch.room;
          answers = r.answers;
          upto = (answer_with c b batch.room r.resumes r.answers (core_at answers.between)).log;
          starts = (r.resumes, ap (λ l. l ++ r.resumes) answers.takes.log);
          log = log ∙ shape ∙ sym (append-nil ((log_of ++ r.resumes) ++ Sent c batch.room ∷ []));
          last = subst (λ l. EndsIn (batches kind opening c l) r.answers) shape grows.last;
          none = omega (arith, many, zero);
          box = ap (λ (s : FullSlot V O R T). s.box) own;
          sent = ap (λ (s : FullSlot V O R T). s.sent) own ∙ ap (λ (s : FullSlot V O R T). s.sent) saw;
          got = ap (λ (s : FullSlot V O R T). s.got) own ∙ ap (λ (s : FullSlot V O R T). s.got) saw;
        }

    -- a place that was served lets the log grow
    place_grows :
        (c : ℕ) (was now : PlainTable V O R T) (old new : PlainTrustee V O R T) → ServesPlace (plain_theory kind) kind opening c was now old new
        → IsPrefix (trustee_at old).log (trustee_at new).log
    place_grows c was now old new (inl passes) = ([], passes.sees.log ∙ sym (append-nil (trustee_at old).log))
    place_grows c was now old new (inr answers) =
        let r = answers.replied in
        let (hand, at, is) = found (hand_of (trustee_at answers.mid) c)
        (λ h. (trustee_at new).log ≡ (trustee_at answers.mid).log ++ added (trustee_at answers.mid).log r.resumes c h.requests h.room r.answers.answers.items) r.answered.log in (
          added (trustee_at answers.mid).log r.resumes c hand.requests hand.room r.answers.answers.items,
          is ∙ ap (λ l. l ++ added (trustee_at answers.mid).log r.resumes c hand.requests hand.room r.answers.answers.items) answers.takes.log,
        )

    places_grow :
        (n : ℕ) (was now : PlainTable V O R T) (old new : PlainTrustee V O R T) → ServesBelow (plain_theory kind) kind opening n was now old new
        → IsPrefix (trustee_at old).log (trustee_at new).log
    unfolding ServesBelow
    places_grow zero was now old new none =
        ([], ap (λ (x : PlainTrustee V O R T). (trustee_at x).log) none.1 ∙ sym (append-nil (trustee_at old).log))
    places_grow (suc n) was now old new (between, mid, below, mine, here) =
        prefix_on (trustee_at old).log (trustee_at mid).log (trustee_at new).log (places_grow n was between old mid below) (place_grows n between now mid new here)

    served_on :
        (c n : ℕ) (was between now : PlainTable V O R T) (old mid new : PlainTrustee V O R T) → c ≢ n
        → ServesPlace (plain_theory kind) kind opening n between now mid new → ServedSlot c was between old mid → ServedSlot c was now old new
    served_on c n was between now old mid new ne here s =
        let (more, grows) = place_grows n between now mid new here in
        let same = place_other kind opening n c between now mid new here ne in
        record {
          front = s.front;
          starts = s.starts;
          tail = s.tail ++ more;
          room = s.room;
          answers = s.answers;
          upto = s.upto;
          log = grows ∙ ap (λ l. l ++ more) s.log ∙ append_assoc (s.front ++ Sent c s.room ∷ []) s.tail more;
          last = s.last;
          none = s.none;
          box = ap (λ (x : FullSlot V O R T). x.box) same ∙ s.box;
          sent = ap (λ (x : FullSlot V O R T). x.sent) same ∙ s.sent;
          got = ap (λ (x : FullSlot V O R T). x.got) same ∙ s.got;
        }

    -- so of the places below n
    pub places_serve :
        (n c room : ℕ) (was now : PlainTable V O R T) (old new : PlainTrustee V O R T) → ServesBelow (plain_theory kind) kind opening n was now old new
        → IsTrusteeOf kind was old → opening_at was ≡ opening → n ≤ place_count opening.setup → c < n → (slot_of (core_at was) c).box ≡ Asked [] room
        → ServedSlot c was now old new
    unfolding ServesBelow
    places_serve zero c room was now old new none mine opens most lt is = absurd (omega (arith, lt))
    places_serve (suc n) c room was now old new (between, mid, below, its, here) mine opens most lt is =
        elim (cases_eq c n) [
          | inl e ↦
              let same = places_other kind opening n c was between old mid below (omega (arith, e)) in
              let kept = below_opens kind opening n was between old mid below in
              let own = place_serves c room between now mid new (subst (λ k. ServesPlace (plain_theory kind) kind opening k between now mid new) (sym e) here)
              its (kept ∙ opens) (omega (arith, most, lt)) (ap (λ (x : FullSlot V O R T). x.box) same ∙ is) in
              record {
                front = own.front;
                starts = prefix_on (trustee_at old).log (trustee_at mid).log own.front (places_grow n was between old mid below) own.starts;
                tail = own.tail;
                room = own.room;
                answers = own.answers;
                upto = own.upto;
                log = own.log;
                last = own.last;
                none = own.none;
                box = own.box;
                sent = own.sent ∙ ap (λ (x : FullSlot V O R T). x.sent) same;
                got = own.got ∙ ap (λ (x : FullSlot V O R T). x.got) same;
              }
          | inr ne ↦ served_on c n was between now old mid new ne here (places_serve n c room was between old mid below mine opens (omega (arith, most)) (omega (arith, lt, ne)) is)
        ]

    -- an empty slot stays empty
    place_empty :
        (c : ℕ) (was now : PlainTable V O R T) (old new : PlainTrustee V O R T) → ServesPlace (plain_theory kind) kind opening c was now old new
        → IsTrusteeOf kind was old → opening_at was ≡ opening → c < place_count opening.setup → (slot_of (core_at was) c).box ≡ Empty
        → ((slot_of (core_at now) c).box ≡ Empty) × ((slot_of (core_at now) c).sent ≡ (slot_of (core_at was) c).sent)
        × ((slot_of (core_at now) c).got ≡ (slot_of (core_at was) c).got)
    place_empty c was now old new (inl passes) mine opens lt is =
        let own = ap (λ (core : FullCore V O R T). slot_of core c) passes.saw.core ∙ see_own c (core_at was) (within_slots c was old mine opens lt) in (
          ap (λ (s : FullSlot V O R T). s.box) own ∙ ap (λ x. taken x) is,
          ap (λ (s : FullSlot V O R T). s.sent) own,
          ap (λ (s : FullSlot V O R T). s.got) own,
        )
    place_empty c was now old new (inr answers) mine opens lt is =
        absurd
        (let none : ◌≡◌ {A = FullBox V O R T} Empty (Asked answers.batch.requests.items answers.batch.room) = sym is ∙ answers.saw.may in cc)

    pub places_empty :
        (n c : ℕ) (was now : PlainTable V O R T) (old new : PlainTrustee V O R T) → ServesBelow (plain_theory kind) kind opening n was now old new
        → IsTrusteeOf kind was old → opening_at was ≡ opening → n ≤ place_count opening.setup → c < n → (slot_of (core_at was) c).box ≡ Empty
        → ((slot_of (core_at now) c).box ≡ Empty) × ((slot_of (core_at now) c).sent ≡ (slot_of (core_at was) c).sent)
        × ((slot_of (core_at now) c).got ≡ (slot_of (core_at was) c).got)
    unfolding ServesBelow
    places_empty zero c was now old new none mine opens most lt is = absurd (omega (arith, lt))
    places_empty (suc n) c was now old new (between, mid, below, its, here) mine opens most lt is =
        elim (cases_eq c n) [
          | inl e ↦
              let same = places_other kind opening n c was between old mid below (omega (arith, e)) in
              let kept = below_opens kind opening n was between old mid below in
              let (box, sent, got) = place_empty c between now mid new (subst (λ k. ServesPlace (plain_theory kind) kind opening k between now mid new) (sym e) here)
              its (kept ∙ opens) (omega (arith, most, lt)) (ap (λ (x : FullSlot V O R T). x.box) same ∙ is) in
              (box, sent ∙ ap (λ (x : FullSlot V O R T). x.sent) same, got ∙ ap (λ (x : FullSlot V O R T). x.got) same)
          | inr ne ↦
              let same = place_other kind opening n c between now mid new here ne in
              let (box, sent, got) = places_empty n c was between old mid below mine opens (omega (arith, most)) (omega (arith, lt, ne)) is in (
                ap (λ (x : FullSlot V O R T). x.box) same ∙ box,
                ap (λ (x : FullSlot V O R T). x.sent) same ∙ sent,
                ap (λ (x : FullSlot V O R T). x.got) same ∙ got,
              )
        ]

    -- light batches run nothing
    place_runs :
        (c : ℕ) (was now : PlainTable V O R T) (old new : PlainTrustee V O R T) → ServesPlace (plain_theory kind) kind opening c was now old new
        → IsTrusteeOf kind was old → opening_at was ≡ opening → c < place_count opening.setup → IsLightSlot (slot_of (core_at was) c)
        → runs_in (trustee_at new).log ≡ runs_in (trustee_at old).log
    place_runs c was now old new (inl passes) mine opens lt light = ap runs_in passes.sees.log
    place_runs c was now old new (inr answers) mine opens lt light =
        let batch = answers.batch in
        let b = batch.requests.items in
        let r = answers.replied in
        let log_of = (trustee_at answers.mid).log in
        let good : IsGoodTrustee kind opening (trustee_at old) = subst (λ s. IsGoodTrustee kind s (trustee_at old)) opens mine.is_good in
        let hand = taken_in_hand kind opening (trustee_at old) (trustee_at answers.mid) c batch good lt answers.takes in
        let empty : b ≡ [] = (light b batch.room answers.saw.may).0 in
        let log : (trustee_at new).log ≡ log_of ++ added log_of r.resumes c b batch.room r.answers.answers.items =
        subst (λ (o : Option (BatchView V O R T)). IsSomeAnd o (λ h. (trustee_at new).log ≡ log_of ++ added log_of r.resumes c h.requests h.room r.answers.answers.items)) hand
        r.answered.log in
        let shape : log_of ++ added log_of r.resumes c b batch.room r.answers.answers.items ≡ log_of ++ (r.resumes ++ Sent c batch.room ∷ []) =
        ap (λ (qs : List (Request V O R T)). log_of ++ added log_of r.resumes c qs batch.room r.answers.answers.items) empty in
        let all = ap runs_in (log ∙ shape) ∙ runs_in-append log_of (r.resumes ++ Sent c batch.room ∷ []) in
        let parts = runs_in-append r.resumes (Sent c batch.room ∷ []) in
        let none = resumes_run r.resumes r.only in
        let same = ap runs_in answers.takes.log in
        omega (arith, all, parts, none, same)

    pub places_run :
        (n : ℕ) (was now : PlainTable V O R T) (old new : PlainTrustee V O R T) → ServesBelow (plain_theory kind) kind opening n was now old new
        → IsTrusteeOf kind was old → opening_at was ≡ opening → n ≤ place_count opening.setup → ((c : ℕ) → c < n → IsLightSlot (slot_of (core_at was) c))
        → runs_in (trustee_at new).log ≡ runs_in (trustee_at old).log
    unfolding ServesBelow
    places_run zero was now old new none mine opens most light = ap (λ (x : PlainTrustee V O R T). runs_in (trustee_at x).log) none.1
    places_run (suc n) was now old new (between, mid, below, its, here) mine opens most light =
        let same = places_other kind opening n n was between old mid below (omega arith) in
        let kept = below_opens kind opening n was between old mid below in
        place_runs n between now mid new here its (kept ∙ opens) (omega (arith, most)) (subst IsLightSlot (sym same) (light n (omega arith)))
        ∙ places_run n was between old mid below mine opens (omega (arith, most)) (λ c lt. light c (omega (arith, lt)))
