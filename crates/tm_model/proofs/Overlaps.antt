-- Logs in which launched work on one object overlaps, or is out of order: they are not latched.
use Rattle.std.proofs.Common.{◌≡◌, ◌≢◌, ℕ, List, [], ◌∷◌, ◌++◌, inl, inr, refl, ◌∙◌, ap, subst, arith}
use Rattle.std.specs.List.{AllByRecursion}
use Rattle.tm_seq.specs.declared.kind.Event.{Event}
use Rattle.tm_seq.specs.declared.kind.Event.TheVariants.{Begin, NotAbove}
use Rattle.tm_seq.specs.declared.kind.Next.{Next}
use Rattle.tm_seq.specs.declared.kind.Next.TheVariants.{Ask, Done}
use Rattle.tm_seq.specs.declared.counter.Counter.{Counter}
use Rattle.tm_seq.specs.declared.counter.CounterOp.{CounterOp}
use Rattle.tm_seq.specs.declared.counter.CounterOp.TheVariants.{Read}
use Rattle.tm_seq.specs.declared.counter.CounterReply.{CounterReply}
use Rattle.tm_seq.specs.declared.counter.CounterReply.TheVariants.{Is}
use Rattle.tm_seq.specs.declared.counter.CounterTask.{CounterTask}
use Rattle.tm_seq.specs.declared.counter.CounterTask.TheVariants.{End, AskAt, Wait}
use Rattle.tm_batch.specs.declared.message.Request.TheVariants.{Launch}
use Rattle.tm_batch.specs.declared.message.Answer.TheVariants.{Launched}
use Rattle.tm_model.specs.declared.entry.Entry.{Entry}
use Rattle.tm_model.specs.declared.entry.Entry.TheVariants.{By, Resume}
use Rattle.tm_model.specs.Latched.{Resumption, IsBegin, IsDone, IsFromBegin, IsWholeRun, AreRuns, IsLatched, tickets_of, resumes_of}

abbrev Log : Type 0
Log = List (Entry Counter CounterOp CounterReply CounterTask)

abbrev Resumes : Type 0
Resumes = List (Resumption CounterOp CounterReply CounterTask)

-- two launches on object 1, of which the first asks
abbrev two_launches : Log
two_launches =
    By 0 0 (Launch (record { id = 1; place = 0 }) (AskAt 0 7)) (Launched 1) ∷ By 0 1 (Launch (record { id = 1; place = 0 }) End) (Launched 2) ∷ []

-- the second begins while the first is suspended
abbrev overlapping : Log
overlapping = two_launches ++ Resume 1 1 Begin (Ask 0 7 Read Wait) ∷ Resume 1 2 Begin (Done (Is 5)) ∷ []

-- the second goes first
abbrev out_of_order : Log
out_of_order = two_launches ++ Resume 1 2 Begin (Done (Is 5)) ∷ []

-- the first begins twice
abbrev begun_twice : Log
begun_twice = two_launches ++ Resume 1 1 Begin (Ask 0 7 Read Wait) ∷ Resume 1 1 Begin (Done (Is 5)) ∷ []

-- the first ends before the second begins
abbrev in_turn : Log
in_turn =
    two_launches ++ Resume 1 1 Begin (Ask 0 7 Read Wait) ∷ Resume 1 1 NotAbove (Done (Is 5)) ∷ Resume 1 2 Begin (Done (Is 5)) ∷ []

abbrev Step : Type 0
Step = Resumption CounterOp CounterReply CounterTask

not_last : (front : Resumes) (last : Step) → [] ≢ front ++ last ∷ []
not_last [] last e = cc
not_last (x ∷ front) last e = cc

first_of_run : (ticket : ℕ) (r : Step) (rs run rest : Resumes) → r ∷ rs ≡ run ++ rest → IsWholeRun ticket run → r.ticket ≡ ticket
first_of_run ticket r rs [] rest is whole = let (first, others, e, begins, later) = whole.begun.begin in absurd cc
first_of_run ticket r rs (x ∷ run) rest is whole =
    let same : r ≡ x = cc in
    ap (λ y. y.ticket) same ∙ whole.begun.one_ticket.0

-- the first of some resumes is of the first ticket
first_ticket : (ticket : ℕ) (tickets : List ℕ) (r : Step) (rs : Resumes) → AreRuns (ticket ∷ tickets) (r ∷ rs) → r.ticket ≡ ticket
first_ticket ticket tickets r rs (inl e) = absurd cc
first_ticket ticket tickets r rs (inr (inl part)) = part.begun.one_ticket.0
first_ticket ticket tickets r rs (inr (inr (run, rest, is, whole, runs))) = first_of_run ticket r rs run rest is whole

-- what comes behind a begin
behind :
    (ticket : ℕ) (r s : Step) (rs : Resumes) → IsFromBegin ticket (r ∷ s ∷ rs) → (s.ticket ≡ ticket) × (¬ IsBegin s.event)
behind ticket r s rs begun =
    let (first, others, e, begins, later) = begun.begin in
    let same : others ≡ s ∷ rs = cc in
    (begun.one_ticket.1.0, (subst (λ l. AllByRecursion (λ x. ¬ IsBegin x.event) l) same later).0)

ends_by : (front : Resumes) (r last : Step) → r ∷ [] ≡ front ++ last ∷ [] → last ≡ r
ends_by [] r last e = cc
ends_by (x ∷ front) r last e = let rest : [] ≡ front ++ last ∷ [] = cc in absurd (not_last front last rest)

second_of_run :
    (ticket : ℕ) (r s : Step) (rs run rest : Resumes) → r ∷ s ∷ rs ≡ run ++ rest → ¬ IsDone r.next → IsWholeRun ticket run
    → (s.ticket ≡ ticket) × (¬ IsBegin s.event)
second_of_run ticket r s rs [] rest is asks whole = let (first, others, e, begins, later) = whole.begun.begin in absurd cc
second_of_run ticket r s rs (x ∷ []) rest is asks whole =
    let (front, last, e, asks_first, done) = whole.done in
    let same : x ≡ r = cc in
    absurd (asks (subst (λ y. IsDone y.next) (ends_by front x last e ∙ same) done))
second_of_run ticket r s rs (x ∷ y ∷ run) rest is asks whole =
    let same : y ≡ s = cc in
    subst (λ z. (z.ticket ≡ ticket) × (¬ IsBegin z.event)) same (behind ticket x y run whole.begun)

-- while the first ticket is suspended, what comes next is of it, and no begin
second_ticket :
    (ticket : ℕ) (tickets : List ℕ) (r s : Step) (rs : Resumes) → ¬ IsDone r.next → AreRuns (ticket ∷ tickets) (r ∷ s ∷ rs)
    → (s.ticket ≡ ticket) × (¬ IsBegin s.event)
second_ticket ticket tickets r s rs asks (inl e) = absurd cc
second_ticket ticket tickets r s rs asks (inr (inl part)) = behind ticket r s rs part.begun
second_ticket ticket tickets r s rs asks (inr (inr (run, rest, is, whole, runs))) = second_of_run ticket r s rs run rest is asks whole

abbrev step : ℕ → Event CounterReply → Next CounterOp CounterTask CounterReply → Step
step ticket event next = record { ticket = ticket; event = event; next = next }

overlapping-bad : ¬ IsLatched overlapping
overlapping-bad h =
    let is : (2 ≡ 1) × (¬ IsBegin {R = CounterReply} Begin) = second_ticket 1 (2 ∷ []) (step 1 Begin (Ask 0 7 Read Wait)) (step 2 Begin (Done (Is 5))) [] (λ d. d) (h 1) in
    omega (arith, is.0)

out_of_order-bad : ¬ IsLatched out_of_order
out_of_order-bad h =
    let e : 2 ≡ 1 = first_ticket 1 (2 ∷ []) (step 2 Begin (Done (Is 5))) [] (h 1) in
    omega (arith, e)

begun_twice-bad : ¬ IsLatched begun_twice
begun_twice-bad h =
    (second_ticket 1 (2 ∷ []) (step 1 Begin (Ask 0 7 Read Wait)) (step 1 Begin (Done (Is 5))) [] (λ d. d) (h 1)).1 tt

in_turn-good : AreRuns (tickets_of 1 in_turn) (resumes_of 1 in_turn)
in_turn-good =
    let a : Step = step 1 Begin (Ask 0 7 Read Wait) in
    let b : Step = step 1 NotAbove (Done (Is 5)) in
    let c : Step = step 2 Begin (Done (Is 5)) in
    inr (inr (
      a ∷ b ∷ [],
      c ∷ [],
      refl,
      record {
        begun = record { one_ticket = (refl, (refl, tt)); begin = (a, b ∷ [], refl, tt, (λ h. h, tt)) };
        done = (a ∷ [], b, refl, (λ h. h, tt), tt);
      },
      inr (inr (
        c ∷ [],
        [],
        refl,
        record { begun = record { one_ticket = (refl, tt); begin = (c, [], refl, tt, tt) }; done = ([], c, refl, tt, tt) },
        refl,
      )),
    ))
