-- What launched work on one object asks of one greater trustee stands in the order of its launches. Running.antt uses it too.
use Rattle.std.proofs.Common.{◌≡◌, ℕ, zero, suc, ◌+◌, ◌<◌, ◌≤◌, inl, inr, Bool, true, false, cond, ◌&&◌, nat_lt, List, [], ◌∷◌, ◌++◌, length, map, filter, append-nil, refl, sym, subst, arith}
use Rattle.std.specs.Prelude.{◌==◌, slice_get, slice_index_or}
use Rattle.std.specs.List.{AllByRecursion}
use Rattle.std.specs.List.Sorted.{IsNonDecreasing}
use Rattle.std.specs.declared.option.Option.TheVariants.{Some}
use Rattle.std.proofs.lemmas.Option.{slice_get_within}
use Rattle.tm_seq.specs.Kind.{Kind}
use Rattle.tm_seq.specs.declared.kind.Next.TheVariants.{Ask, Done}
use Rattle.tm_batch.specs.declared.config.Config.{Config}
use Rattle.tm_batch.specs.declared.config.First.{First}
use Rattle.tm_batch.specs.declared.message.Request.TheVariants.{Launch}
use Rattle.tm_batch.specs.declared.message.Answer.TheVariants.{Launched}
use Rattle.tm_model.specs.declared.entry.Entry.{Entry}
use Rattle.tm_model.specs.declared.entry.Entry.TheVariants.{By, Resume, Sent}
use Rattle.tm_model.specs.State.{Setup, State, ids_above}
use Rattle.tm_model.specs.Serve.{after}
use Rattle.tm_model.specs.Legal.{MayCome, IsLegal}
use Rattle.tm_model.specs.Latched.{Resumption, AreRuns, tickets_of, resumes_of}
use Rattle.tm_model.specs.Opening.{opening_of}
use Rattle.tm_core.proofs.Longer.{after_gives_tickets}
use Rattle.tm_pair.specs.Plain.{opening_at, plain_theory}
use Rattle.tm_pair.specs.declared.plain.PlainTable.{PlainTable}
use Rattle.tm_trustee.specs.NestedAsks.{NestedAsk, asks_of}
use Rattle.tm_trustee.specs.Serving.{done_by}
use Rattle.tm_trustee.proofs.Elements.{element_at}
use Rattle.tm_turns.specs.Whole.{OneTrustee, AreOf}
use Rattle.tm_turns.specs.declared.turns.Turns.{Turns}
use Rattle.tm_turns.proofs.Launched.{all_latched}
use Rattle.tm_turns.proofs.Seated.{home_at}
use Rattle.tm_order.specs.Order.{tickets_by, asked_of, AsksRise}

-- numbers that never fall, none below n
abbrev pub RiseFrom : ℕ → List ℕ → Type 0
RiseFrom n [] = Unit {0}
RiseFrom n (x ∷ xs) = (n ≤ x) × RiseFrom x xs

-- numbers each of which is above the one before it, none below n
abbrev pub GrowFrom : ℕ → List ℕ → Type 0
GrowFrom n [] = Unit {0}
GrowFrom n (x ∷ xs) = (n ≤ x) × GrowFrom (x + 1) xs

pub rise_lower : (m n : ℕ) (xs : List ℕ) → m ≤ n → RiseFrom n xs → RiseFrom m xs
rise_lower m n [] le rise = tt
rise_lower m n (x ∷ xs) le rise = let first = rise.0 in (omega (arith, le, first), rise.1)

grow_lower : (m n : ℕ) (xs : List ℕ) → m ≤ n → GrowFrom n xs → GrowFrom m xs
grow_lower m n [] le grow = tt
grow_lower m n (x ∷ xs) le grow = let first = grow.0 in (omega (arith, le, first), grow.1)

none_below : (n : ℕ) (xs : List ℕ) → RiseFrom n xs → (j d : ℕ) → j < length xs → n ≤ slice_index_or xs j d
none_below n [] rise j d lt = absurd (omega (arith, lt))
none_below n (x ∷ xs) rise zero d lt = rise.0
none_below n (x ∷ xs) rise (suc j) d lt =
    let more = none_below x xs rise.1 j d (omega (arith, lt)) in
    let first = rise.0 in
    omega (arith, more, first)

pub never_fall : (n : ℕ) (xs : List ℕ) → RiseFrom n xs → IsNonDecreasing xs
never_fall n [] rise i j d le lt = absurd (omega (arith, lt))
never_fall n (x ∷ xs) rise zero zero d le lt = omega arith
never_fall n (x ∷ xs) rise zero (suc j) d le lt = none_below x xs rise.1 j d (omega (arith, lt))
never_fall n (x ∷ xs) rise (suc i) zero d le lt = absurd (omega (arith, le))
never_fall n (x ∷ xs) rise (suc i) (suc j) d le lt = never_fall x xs rise.1 i j d (omega (arith, le)) (omega (arith, lt))

module _ {O R T : Type 0} where
  abbrev ticket_of : Resumption O R T → ℕ
  ticket_of r = r.ticket

  -- resumes of one ticket before others of no lower one
  run_before :
      (n ticket : ℕ) (run rest : List (Resumption O R T)) → n ≤ ticket → AllByRecursion (λ r. r.ticket ≡ ticket) run
      → RiseFrom ticket (map ticket_of rest) → RiseFrom n (map ticket_of (run ++ rest))
  run_before n ticket [] rest le all rise = rise_lower n ticket (map ticket_of rest) le rise
  run_before n ticket (r ∷ run) rest le all rise =
      let same = all.0 in (omega (arith, le, same), run_before r.ticket ticket run rest (omega (arith, same)) all.1 rise)

  -- runs of tickets that grow are resumes whose tickets never fall
  runs_rise : (n : ℕ) (tickets : List ℕ) (rs : List (Resumption O R T)) → GrowFrom n tickets → AreRuns tickets rs → RiseFrom n (map ticket_of rs)
  runs_rise n [] rs grow runs = subst (λ l. RiseFrom n (map ticket_of l)) (sym runs) tt
  runs_rise n (ticket ∷ tickets) rs grow (inl none) = subst (λ l. RiseFrom n (map ticket_of l)) (sym none) tt
  runs_rise n (ticket ∷ tickets) rs grow (inr (inl current)) =
      subst (λ l. RiseFrom n (map ticket_of l)) (append-nil rs) (run_before n ticket rs [] grow.0 current.begun.one_ticket tt)
  runs_rise n (ticket ∷ tickets) rs grow (inr (inr (run, rest, are, whole, more))) =
      let later = runs_rise (ticket + 1) tickets rest grow.1 more in
      subst (λ l. RiseFrom n (map ticket_of l)) (sym are)
      (run_before n ticket run rest grow.0 whole.begun.one_ticket (rise_lower ticket (ticket + 1) (map ticket_of rest) (omega arith) later))

  -- what rises with a resume, or without, rises without
  rise_past : (b : Bool) (n : ℕ) (r : Resumption O R T) (rest : List (Resumption O R T)) → RiseFrom n (map ticket_of (cond b (r ∷ rest) rest)) → RiseFrom n (map ticket_of rest)
  rise_past true n r rest rise = rise_lower n r.ticket (map ticket_of rest) rise.0 rise.1
  rise_past false n r rest rise = rise

  -- an ask has the ticket of its resume
  ask_rises :
      (held : Bool) (id n : ℕ) (a : NestedAsk O) (asks : List (NestedAsk O)) (r : Resumption O R T) (rest : List (Resumption O R T)) → r.ticket ≡ a.ticket
      → ((m : ℕ) → RiseFrom m (map ticket_of rest) → RiseFrom m (tickets_by id asks)) → RiseFrom n (map ticket_of (cond (a.by == id) (r ∷ rest) rest))
      → RiseFrom n (tickets_by id (cond held (a ∷ []) [] ++ asks))
  ask_rises false id n a asks r rest same later rise = later n (rise_past (a.by == id) n r rest rise)
  ask_rises true id n a asks r rest same later rise =
      elim (a.by == id) as
      (λ b. RiseFrom n (map ticket_of (cond b (r ∷ rest) rest))
      → RiseFrom n (map (λ (x : NestedAsk O). x.ticket) (cond b (a ∷ filter (λ x. x.by == id) asks) (filter (λ x. x.by == id) asks)))) [
        | true ↦ λ rise. (subst (λ t. n ≤ t) same rise.0, subst (λ t. RiseFrom t (tickets_by id asks)) same (later r.ticket rise.1))
        | false ↦ λ rise. later n rise
      ] rise

module _ {V O R T : Type 0} where
  -- a ticket that is next never falls
  next_rises : (kind : Kind V O R T) (s : State V O R T) (e : Entry V O R T) → MayCome kind s e → s.next_ticket ≤ (after kind s e).next_ticket
  next_rises kind s e may = elim (after_gives_tickets kind s e may) [ inl (same, past) ↦ omega (arith, same) | inr (one, here) ↦ omega (arith, one) ]

  -- what launched work of an object asks has tickets of its resumes, in their order
  pub asks_from :
      (setup : Setup) (u id n : ℕ) (log : List (Entry V O R T)) → RiseFrom n (map ticket_of (resumes_of id log))
      → RiseFrom n (tickets_by id (asks_of setup u log))
  asks_from setup u id n [] rise = tt
  asks_from setup u id n (By c k q a ∷ es) rise = asks_from setup u id n es rise
  asks_from setup u id n (Sent c room ∷ es) rise = asks_from setup u id n es rise
  asks_from setup u id n (Resume i ticket event (Done r) ∷ es) rise =
      asks_from setup u id n es (rise_past (i == id) n (record { ticket = ticket; event = event; next = Done r }) (resumes_of id es) rise)
  asks_from setup u id n (Resume i ticket event (Ask v j op task) ∷ es) rise =
      ask_rises ((v == u) && nat_lt j (length (ids_above setup u))) id n
      (record { by = i; ticket = ticket; id = slice_index_or (ids_above setup u) j 0; op = op }) (asks_of setup u es)
      (record { ticket = ticket; event = event; next = Ask v j op task }) (resumes_of id es) refl (λ m later. asks_from setup u id m es later) rise

  -- the tickets of the launches on one object grow along a legal log
  pub tickets_from : (kind : Kind V O R T) (id : ℕ) (s : State V O R T) (log : List (Entry V O R T)) → IsLegal kind s log → GrowFrom s.next_ticket (tickets_of id log)
  tickets_from kind id s [] legal = tt
  tickets_from kind id s (By c k (Launch n task) (Launched ticket) ∷ es) legal =
      let more : GrowFrom (s.next_ticket + 1) (tickets_of id es) = tickets_from kind id (after kind s (By c k (Launch n task) (Launched ticket))) es legal.1 in
      let e : ticket ≡ s.next_ticket = legal.0.2.1.0 in
      elim (n.id == id) as (λ b. GrowFrom s.next_ticket (cond b (ticket ∷ tickets_of id es) (tickets_of id es))) [
        | true ↦ (omega (arith, e), subst (λ t. GrowFrom (t + 1) (tickets_of id es)) (sym e) more)
        | false ↦ grow_lower s.next_ticket (s.next_ticket + 1) (tickets_of id es) (omega arith) more
      ]
  tickets_from kind id s (By c k q a ∷ es) legal =
      grow_lower s.next_ticket _ (tickets_of id es) (next_rises kind s (By c k q a) legal.0) (tickets_from kind id (after kind s (By c k q a)) es legal.1)
  tickets_from kind id s (Resume i ticket event next ∷ es) legal =
      grow_lower s.next_ticket _ (tickets_of id es) (next_rises kind s (Resume i ticket event next) legal.0)
      (tickets_from kind id (after kind s (Resume i ticket event next)) es legal.1)
  tickets_from kind id s (Sent c room ∷ es) legal =
      grow_lower s.next_ticket _ (tickets_of id es) (next_rises kind s (Sent c room) legal.0) (tickets_from kind id (after kind s (Sent c room)) es legal.1)

module _ {V C O R T : Type 0} (kind : Kind V O R T) (config : Config) (first : List (First V)) (turns : Turns V C O R T) (are : AreOf kind config first turns) where
  -- the table of a trustee
  pub table_of : (t : ℕ) (trustee : OneTrustee V O R T) → slice_get turns.trustees.items t ≡ Some trustee
      → (table : PlainTable V O R T) × (slice_get turns.tables.items t ≡ Some table) × (opening_at table ≡ opening_of t config first)
  table_of t trustee of =
      let trustees = are.as_many_trustees in
      let tables = are.as_many_tables in
      let lt = slice_get_within turns.trustees.items t trustee of in
      let (table, at) = element_at turns.tables.items t (omega (arith, lt, trustees, tables)) in
      (table, at, are.tables t table at)

  -- the asks of one object of a trustee at a greater one
  pub asks_at : (t u id : ℕ) (trustee : OneTrustee V O R T) → slice_get turns.trustees.items t ≡ Some trustee
      → (n : ℕ) × RiseFrom n (tickets_by id (asked_of kind config first t trustee u))
  asks_at t u id trustee of =
      let (table, at, opened) = table_of t trustee of in
      let served = (home_at kind config first turns are t table trustee at of).1 in
      let done : List (Entry V O R T) = done_by (plain_theory kind) trustee in
      let runs : AreRuns (tickets_of id done) (resumes_of id done) = (all_latched C kind turns t trustee (config, first, are) of).0 id in
      let grow = tickets_from kind id (opening_at table) done served.current.represents.is_legal in
      let n : ℕ = (opening_at table).next_ticket in
      (n, asks_from (opening_of {V = V} {O = O} {R = R} {T = T} t config first).setup u id n done (runs_rise n (tickets_of id done) (resumes_of id done) grow runs))

pub asks_rise : {V O R T : Type 0} → (C : Type 0) (kind : Kind V O R T) → AsksRise C kind
asks_rise C kind config first turns t u id trustee are of =
    let (n, rise) = asks_at kind config first turns are t u id trustee of in
    never_fall n (tickets_by id (asked_of kind config first t trustee u)) rise
