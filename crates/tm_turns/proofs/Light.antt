-- Which batches weigh: all but the light ones, the empty ones by which a side fetches while launches of its are pending; and what each call at a
-- table makes of the weight of the batches that wait there.
use Rattle.std.proofs.Common.{◌≡◌, ℕ, zero, suc, ◌+◌, ◌-◌, ◌≤◌, List, [], ◌∷◌, ◌++◌, length, refl, ap, arith}
use Rattle.std.specs.Prelude.{slice_set}
use Rattle.std.specs.declared.option.Option.{Option}
use Rattle.std.specs.declared.option.Option.TheVariants.{None, Some}
use Rattle.tm_seq.specs.Kind.{Kind}
use Rattle.tm_batch.specs.declared.message.Request.{Request}
use Rattle.tm_batch.specs.declared.message.Request.TheVariants.{Launch}
use Rattle.tm_batch.specs.declared.message.Answer.{Answer}
use Rattle.tm_batch.specs.declared.message.Answer.TheVariants.{Launched}
use Rattle.tm_batch.specs.declared.message.AnswerBatch.{AnswerBatch}
use Rattle.tm_model.specs.declared.entry.Entry.{Entry}
use Rattle.tm_model.specs.declared.entry.Entry.TheVariants.{By, Resume, Sent}
use Rattle.tm_model.specs.Entries.{AreResumes, entries_by, batch_entries, added}
use Rattle.tm_model.specs.Slots.{Empty, Asked, Taken, Answered, no_slot, slot_of, publish, published, is_asked, taken, see, is_answered, collected, looked, collect, answered}
use Rattle.tm_model.specs.Good.{FullBox, FullSlot, FullCore}
use Rattle.tm_model.specs.Answering.{answer_with}
use Rattle.tm_model.specs.Ran.{ran}
use Rattle.tm_model.specs.Holds.{launches_in, ended_in}
use Rattle.tm_pair.specs.Views.{BatchView, ClientView}
use Rattle.tm_pair.specs.Moves.{answer_taken}
use Rattle.tm_client.specs.Clients.{total}
use Rattle.tm_turns.proofs.Asked.{total_write}
use Rattle.tm_turns.proofs.Works.{work, begun}

-- one where a number is 0
abbrev pub nought : ℕ → ℕ
nought zero = 1
nought (suc n) = 0

pub nought_most : (n : ℕ) → nought n ≤ 1
nought_most zero = omega arith
nought_most (suc n) = omega arith

pub nought_some : (n : ℕ) → 1 ≤ n → nought n ≡ 0
nought_some zero some = absurd (omega (arith, some))
nought_some (suc n) some = refl

pub some_nought : (n : ℕ) → nought n ≡ 0 → 1 ≤ n
some_nought zero none = absurd (omega (arith, none))
some_nought (suc n) none = omega arith

module _ {V O R T : Type 0} where
  -- how many launches of a side were sent and have not ended
  abbrev pub pending : List (Request V O R T) → List (AnswerBatch V O R T) → ℕ
  pending sent got = launches_in sent - ended_in got

  -- a batch of a side of which so many launches are pending weighs one, if it isn't light
  abbrev pub batch_weight : ℕ → List (Request V O R T) → ℕ
  batch_weight p [] = nought p
  batch_weight p (q ∷ b) = 1

  pub batch_weight_most : (p : ℕ) (b : List (Request V O R T)) → batch_weight p b ≤ 1
  batch_weight_most p [] = nought_most p
  batch_weight_most p (q ∷ b) = omega arith

  -- one that weighs nothing is light
  pub light_batch : (p : ℕ) (b : List (Request V O R T)) → batch_weight p b ≡ 0 → (b ≡ []) × (1 ≤ p)
  light_batch p [] none = (refl, some_nought p none)
  light_batch p (q ∷ b) none = absurd (omega (arith, none))

  -- the batch of a side that is out
  abbrev pub out_of : ℕ → Option (BatchView V O R T) → ℕ
  out_of p None = 0
  out_of p (Some batch) = batch_weight p batch.requests

  abbrev pub out_weight : ClientView V O R T → ℕ
  out_weight view = out_of (pending view.sent view.got) view.out

  module _ (kind : Kind V O R T) where
    -- the work of some requests
    abbrev pub work_of : List (Request V O R T) → ℕ
    work_of [] = 0
    work_of (q ∷ qs) = work kind q + work_of qs

    pub work_of-append : (xs ys : List (Request V O R T)) → work_of (xs ++ ys) ≡ work_of xs + work_of ys
    work_of-append [] ys = omega arith
    work_of-append (q ∷ xs) ys = let more = work_of-append xs ys in omega (arith, more)

    -- a batch that was asked weighs, with its work
    abbrev pub box_weight : ℕ → FullBox V O R T → ℕ
    box_weight p Empty = 0
    box_weight p (Asked b room) = batch_weight p b + work_of b
    box_weight p (Taken b room) = 0
    box_weight p (Answered a upto room) = 0

    abbrev pub slot_weight : FullSlot V O R T → ℕ
    slot_weight slot = box_weight (pending slot.sent slot.got) slot.box

    abbrev pub core_weight : FullCore V O R T → ℕ
    core_weight core = total slot_weight core.slots

    wrote :
        (core : FullCore V O R T) (c : ℕ) (slot : FullSlot V O R T)
        → total slot_weight (slice_set core.slots c slot) + slot_weight (slot_of core c) ≤ core_weight core + slot_weight slot
    wrote core c slot = total_write slot_weight no_slot refl core.slots c slot

    pub publish_weighs :
        (core : FullCore V O R T) (c : ℕ) (b : List (Request V O R T)) (room : ℕ)
        → core_weight (publish c b room core)
        ≤ core_weight core + (batch_weight (pending ((slot_of core c).sent ++ b) (slot_of core c).got) b + work_of b)
    publish_weighs core c b room = let w = wrote core c (published b room (slot_of core c)) in omega (arith, w)

    taken_weighs : (p : ℕ) (box : FullBox V O R T) → box_weight p (taken box) ≡ 0
    taken_weighs p Empty = refl
    taken_weighs p (Asked b room) = refl
    taken_weighs p (Taken b room) = refl
    taken_weighs p (Answered a upto room) = refl

    pub see_weighs : (core : FullCore V O R T) (c : ℕ) → core_weight (see c core) + slot_weight (slot_of core c) ≤ core_weight core
    see_weighs core c =
        let was = slot_of core c in
        let slot : FullSlot V O R T = record was { box = taken was.box; trustee = looked (is_asked was.box) was.trustee } in
        let w = wrote core c slot in
        let none : slot_weight slot ≡ 0 = taken_weighs (pending was.sent was.got) was.box in
        omega (arith, w, none)

    collected_weighs :
        (p : ℕ) (box : FullBox V O R T) (slot : FullSlot V O R T) → slot.box ≡ box → pending slot.sent slot.got ≡ p
        → slot_weight (collected box slot) ≤ box_weight p box
    collected_weighs p Empty slot e is = let same = ap (λ (b : FullBox V O R T). box_weight (pending slot.sent slot.got) b) e in omega (arith, same)
    collected_weighs p (Asked b room) slot e is =
        let same = ap (λ (x : FullBox V O R T). box_weight (pending slot.sent slot.got) x) e in
        let at = ap (λ n. batch_weight n b) is in
        omega (arith, same, at)
    collected_weighs p (Taken b room) slot e is = let same = ap (λ (x : FullBox V O R T). box_weight (pending slot.sent slot.got) x) e in omega (arith, same)
    collected_weighs p (Answered a upto room) slot e is = omega arith

    pub collect_weighs : (core : FullCore V O R T) (c : ℕ) → core_weight (collect c core) ≤ core_weight core
    collect_weighs core c =
        let was = slot_of core c in
        let seen : FullSlot V O R T = record was { client = looked (is_answered was.box) was.client } in
        let slot : FullSlot V O R T = collected was.box seen in
        let w = wrote core c slot in
        let less : slot_weight slot ≤ slot_weight was = collected_weighs (pending was.sent was.got) was.box seen refl refl in
        omega (arith, w, less)

    pub answer_weighs :
        (core : FullCore V O R T) (c : ℕ) (resumes : List (Entry V O R T)) (a : AnswerBatch V O R T) (box : FullBox V O R T)
        → core_weight (answer_taken box c resumes a core) ≤ core_weight core
    answer_weighs core c resumes a Empty = omega arith
    answer_weighs core c resumes a (Asked b room) = omega arith
    answer_weighs core c resumes a (Taken b room) =
        let w = wrote core c (answered a (answer_with c b room resumes a core).log room (slot_of core c)) in omega (arith, w)
    answer_weighs core c resumes a (Answered back upto room) = omega arith

    -- what answers accept is no more than the work of their requests

    by_begun : (c k : ℕ) (q : Request V O R T) (a : Answer V O R T) (es : List (Entry V O R T))
        → begun kind (By c k q a ∷ es) ≡ begun kind (By c k q a ∷ []) + begun kind es
    by_begun c k (Launch n task) (Launched ticket) es = omega arith
    by_begun c k _ _ es = omega arith

    pub begun-append : (xs ys : List (Entry V O R T)) → begun kind (xs ++ ys) ≡ begun kind xs + begun kind ys
    begun-append [] ys = omega arith
    begun-append (Resume id ticket event next ∷ xs) ys = begun-append xs ys
    begun-append (Sent c room ∷ xs) ys = begun-append xs ys
    begun-append (By c k q a ∷ xs) ys =
        let more = begun-append xs ys in
        let whole = by_begun c k q a (xs ++ ys) in
        let part = by_begun c k q a xs in
        omega (arith, more, whole, part)

    begun_most : (c k : ℕ) (q : Request V O R T) (a : Answer V O R T) → begun kind (By c k q a ∷ []) ≤ work kind q
    begun_most c k (Launch n task) (Launched ticket) = omega arith
    begun_most c k (Launch n task) _ = omega arith
    begun_most c k _ _ = omega arith

    entries_begun :
        (c k : ℕ) (b : List (Request V O R T)) (answers : List (Answer V O R T)) → begun kind (entries_by c k b answers) ≤ work_of b
    entries_begun c k [] answers = omega arith
    entries_begun c k (q ∷ b) [] = omega arith
    entries_begun c k (q ∷ b) (a ∷ answers) =
        let more = entries_begun c (k + 1) b answers in
        let one = begun_most c k q a in
        let part = by_begun c k q a (entries_by c (k + 1) b answers) in
        omega (arith, more, one, part)

    pub resumes_begun : (es : List (Entry V O R T)) → AreResumes es → begun kind es ≡ 0
    resumes_begun [] only = refl
    resumes_begun (Resume id ticket event next ∷ es) only = resumes_begun es only
    resumes_begun (By c k q a ∷ es) only = absurd only
    resumes_begun (Sent c room ∷ es) only = absurd only

    pub added_begun :
        (log resumes : List (Entry V O R T)) (c : ℕ) (b : List (Request V O R T)) (room : ℕ) (answers : List (Answer V O R T)) → AreResumes resumes
        → begun kind (log ++ added log resumes c b room answers) ≤ begun kind log + work_of b
    added_begun log resumes c b room answers only =
        let all = begun-append log (added log resumes c b room answers) in
        let parts = begun-append resumes (batch_entries log c b room answers) in
        let none = resumes_begun resumes only in
        let batch = begun-append (entries_by c (length (ran c log)) b answers) (Sent c room ∷ []) in
        let entries = entries_begun c (length (ran c log)) b answers in
        omega (arith, all, parts, none, batch, entries)
