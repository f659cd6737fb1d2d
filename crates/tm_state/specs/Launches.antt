-- The launches that have not ended, as they are kept.
use Rattle.std.specs.Prelude.{◌≡◌, ◌≢◌, ℕ, ◌+◌, ◌<◌, List, [], ◌∷◌, ◌++◌, length, map, refl, IsSome}
use Rattle.std.specs.Coded.{Coded, code_by, coded×, coded_ℕ, coded_option, coded_list}
use Rattle.std.specs.List.{AllByRecursion}
use Rattle.std.specs.declared.option.Option.{Option}
use Rattle.std.specs.declared.option.Option.TheVariants.{None, Some}
use Rattle.tm_latch.specs.declared.ticket.Ticket.{Ticket}
use Rattle.tm_latch.specs.Tickets.{first_of, tickets_of, ticket_code}
use Rattle.tm_model.specs.State.{Awaits, Start, AskOf, Work, Setup, ids_above}
use Rattle.tm_state.specs.declared.launch.Until.{Until}
use Rattle.tm_state.specs.declared.launch.Until.TheVariants.{Begin, Reply}

-- what is kept of a launch beside the id of its object and its ticket: who launched it, the task that goes on, and what it awaits
pub record Pending (T : Type 0) : Type 0 where
  pub place : ℕ
  pub task : T
  pub awaits : Awaits

-- what it awaits, as the state has it
abbrev pub awaits_of : Until → Awaits
awaits_of Begin = Start
awaits_of (Reply u i) = AskOf u i

abbrev pub awaits_option : Awaits → Option (ℕ × ℕ)
awaits_option Start = None
awaits_option (AskOf u i) = Some (u, i)

abbrev pub awaits_from : Option (ℕ × ℕ) → Awaits
awaits_from None = Start
awaits_from (Some p) = AskOf p.0 p.1

pub awaits_back : (a : Awaits) → awaits_from (awaits_option a) ≡ a
awaits_back Start = refl
awaits_back (AskOf u i) = refl

-- they are stored as the tuples of their fields
abbrev pub awaits_code : Coded Awaits
awaits_code = code_by (Option (ℕ × ℕ)) (coded_option (coded× coded_ℕ coded_ℕ)) awaits_option awaits_from awaits_back

abbrev pub pending_code : {T : Type 0} → Coded T → Coded (Pending T)
pending_code {T} code =
    code_by
    (ℕ × (T × Awaits))
    (coded× coded_ℕ (coded× code awaits_code))
    (λ p. (p.place, (p.task, p.awaits)))
    (λ p. record { place = p.0; task = p.1.0; awaits = p.1.1 })
    (λ _. refl)

-- what a launch that has begun awaits: the reply of an object that the trustee holds at one above it
abbrev pub AwaitsReply : Setup → Awaits → Type 0
AwaitsReply setup Start = ⊥
AwaitsReply setup (AskOf u i) = (setup.number < u) × (i < length (ids_above setup u))

-- a launch is to begin, or awaits a reply from above
abbrev pub AwaitsAny : Setup → Awaits → Type 0
AwaitsAny setup Start = Unit {0}
AwaitsAny setup (AskOf u i) = AwaitsReply setup (AskOf u i)

abbrev pub one_to_begin : Awaits → ℕ
one_to_begin Start = 1
one_to_begin (AskOf u i) = 0

module _ {T : Type 0} where
  -- a launch as the state has it
  abbrev pub work_of : Ticket (Pending T) → Work T
  work_of t = record { place = t.task.place; ticket = t.number; task = t.task.task; awaits = t.task.awaits }

  -- the launches on an object, in order
  abbrev pub works_at : ℕ → List (Ticket (Pending T)) → List (Work T)
  works_at id launched = map work_of (tickets_of id launched)

  -- how many of some launches have not begun
  abbrev pub to_begin : List (Ticket (Pending T)) → ℕ
  to_begin [] = 0
  to_begin (t ∷ launched) = one_to_begin t.task.awaits + to_begin launched

  -- the launches grew by some that are to begin
  abbrev pub Grows : List (Ticket (Pending T)) → List (Ticket (Pending T)) → Type 0
  Grows old new = (more : List (Ticket (Pending T))) × (new ≡ old ++ more) × AllByRecursion (λ t. t.task.awaits ≡ Start) more

  -- some launches are each the first of its object, have not begun, and are of different objects
  abbrev pub AreFirst : List (Ticket (Pending T)) → List (Ticket (Pending T)) → Type 0
  AreFirst launched [] = Unit {0}
  AreFirst launched (b ∷ begins) =
      (first_of b.id launched ≡ Some b) × (b.task.awaits ≡ Start) × (first_of b.id begins ≡ None) × AreFirst launched begins

  -- of each object the launches behind the first have not begun
  abbrev pub AreBehind : List (Ticket (Pending T)) → Type 0
  AreBehind launched =
      (id : ℕ) (t : Ticket (Pending T)) (rest : List (Ticket (Pending T))) → tickets_of id launched ≡ t ∷ rest → AllByRecursion (λ r. r.task.awaits ≡ Start) rest

  -- the first launch of each object but one that has not begun is among some
  abbrev pub BeginsBut : ℕ → List (Ticket (Pending T)) → List (Ticket (Pending T)) → Type 0
  BeginsBut but launched begins =
      (id : ℕ) (t : Ticket (Pending T)) → id ≢ but → first_of id launched ≡ Some t → t.task.awaits ≡ Start → IsSome (first_of id begins)

  -- the first launch of each object that has not begun is among some
  abbrev pub Begins : List (Ticket (Pending T)) → List (Ticket (Pending T)) → Type 0
  Begins launched begins =
      (id : ℕ) (t : Ticket (Pending T)) → first_of id launched ≡ Some t → t.task.awaits ≡ Start → IsSome (first_of id begins)

-- the launches that have not ended, in the order in which they came, those that may begin, in the order in which they became the first of
-- their object, and how many launches there may be
pub record Latched (T : Type 0) : Type 0 where
  pub launched : List (Ticket (Pending T))
  pub begins : List (Ticket (Pending T))
  pub room : ℕ

abbrev pub latched_code : {T : Type 0} → Coded T → Coded (Latched T)
latched_code {T} code =
    code_by
    (List (Ticket (Pending T)) × (List (Ticket (Pending T)) × ℕ))
    (coded× (coded_list (ticket_code (pending_code code))) (coded× (coded_list (ticket_code (pending_code code))) coded_ℕ))
    (λ a. (a.launched, (a.begins, a.room)))
    (λ p. record { launched = p.0; begins = p.1.0; room = p.1.1 })
    (λ _. refl)
