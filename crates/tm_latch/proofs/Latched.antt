-- What the calls do to sound lines and queues.
use Rattle.std.proofs.Common.{◌≡◌, ◌≢◌, ℕ, ◌+◌, ◌<◌, ◌≤◌, List, [], ◌∷◌, ◌++◌, length, Option, Some, None, IsSome, refl, sym, ap, subst, ◌∙◌, inl, inr, arith, length-append}
use mathlib.Core.Bool.{false≢true}
use Rattle.std.specs.Prelude.{option_map}
use Rattle.std.proofs.lemmas.Bool.{cases_eq}
use Rattle.slab.specs.Slab.{Slab, slab_len}
use Rattle.tm_latch.specs.declared.lines.Ends.{Ends}
use Rattle.tm_latch.specs.declared.lines.Line.{Line}
use Rattle.tm_latch.specs.declared.queues.Waiting.{Waiting}
use Rattle.tm_latch.specs.declared.ticket.Ticket.{Ticket}
use Rattle.tm_latch.specs.Tickets.{ticket_for, first_of, tickets_of, with_first, without_first}
use Rattle.tm_latch.specs.declared.lines.Node.{Node}
use Rattle.tm_latch.specs.Lines.{Pairs, get, IsTable, SetsOnly, LosesOnly}
use Rattle.tm_latch.specs.Queues.{IsQueue, AreOf, IsQueueOf, KeepsOthers}
use Rattle.tm_latch.specs.Sound.{IsLine, IsSound}
use Rattle.tm_latch.proofs.Listed.{first_head, first_none, are_of, entered_own, entered_other, left_own, left_other, left_length, with_own, with_none, with_other, with_length}

module _ {K : Type 0} where
  tail_of : (id : ℕ) (ts : List (Ticket K)) (t : Ticket K) (rest : List (Ticket K)) → ts ≡ t ∷ rest → AreOf id ts → AreOf id rest
  unfolding AreOf
  tail_of id [] t rest e are = absurd (cc)
  tail_of id (u ∷ us) t rest e are = let same : us ≡ rest = cc in rw (← same) are.1

  -- the line of another object stays
  line_stays :
      (id other : ℕ) (old new : Slab (Waiting K)) (line : Option Line) (ts : List (Ticket K)) → KeepsOthers id old new → other ≢ id → AreOf other ts
      → IsLine old line ts → IsLine new line ts
  unfolding IsLine
  line_stays id other old new None ts keeps differs are l = l
  line_stays id other old new (Some line) ts keeps differs are (t, rest, is, number, q) =
      (t, rest, is, number, keeps other line.queue rest differs (tail_of other ts t rest is are) q)

  module _ (firsts : List (Option ℕ)) (nodes : Slab Node) (cells : Slab (Waiting K)) (ts : List (Ticket K)) (room : ℕ) (sound : IsSound firsts nodes cells ts room) (id : ℕ) where
    -- what the line of an object says of its tickets
    pub line_says :
        (line : Line) → get sound.lines id ≡ Some line
        → (t : Ticket K) × (rest : List (Ticket K)) × (tickets_of id ts ≡ t ∷ rest) × (line.ticket ≡ t.number) × IsQueue cells line.queue rest
    unfolding IsLine
    line_says line is = rw is at (sound.each id)

    pub none_says : get sound.lines id ≡ None → tickets_of id ts ≡ []
    unfolding IsLine
    none_says is = rw is at (sound.each id)

    pub holder_some : (line : Line) → get sound.lines id ≡ Some line → option_map (λ t. t.number) (first_of id ts) ≡ Some line.ticket
    holder_some line is = let says = line_says line is in rw (first_head id ts says.0 says.1 says.2) (ap (λ (n : ℕ). Some n) (sym says.3))

    pub first_absent : get sound.lines id ≡ None → first_of id ts ≡ None
    first_absent is = first_none id ts (none_says is)

    pub first_there : (line : Line) → get sound.lines id ≡ Some line → IsSome (first_of id ts)
    first_there line is = let says = line_says line is in rw (first_head id ts says.0 says.1 says.2) refl

    pub not_none : get sound.lines id ≡ None → IsSome (first_of id ts) → (X : Type 0) → X
    not_none is some X = absurd (false≢true (rw (first_absent is) at some))

    pub none_not : (line : Line) → get sound.lines id ≡ Some line → first_of id ts ≡ None → (X : Type 0) → X
    none_not line is none X = absurd (false≢true (rw none at (first_there line is)))

    pub queue_of_line : (line : Line) → get sound.lines id ≡ Some line → IsQueueOf id cells line.queue
    queue_of_line line is =
        let says = line_says line is in
        (says.1, tail_of id (tickets_of id ts) says.0 says.1 says.2 (are_of id ts), says.4)

    -- a ticket begins
    pub sound_begin :
        (firsts' : List (Option ℕ)) (nodes' : Slab Node) (n : ℕ) (k : K) → get sound.lines id ≡ None
        → (now : Pairs) × IsTable firsts' nodes' now × SetsOnly sound.lines now id (record { ticket = n; queue = None }) × (length now ≡ length sound.lines + 1)
        → nodes'.capacity ≡ nodes.capacity → length firsts' ≡ length firsts → length ts < room → IsSound firsts' nodes' cells (ts ++ ticket_for id n k ∷ []) room
    unfolding IsLine IsQueue
    sound_begin firsts' nodes' n k none (now, table, sets, len) fit many few = record {
      lines = now;
      table = table;
      each = λ other. elim (cases_eq other id) [
        | inl same ↦ rw (same, sets.this_key, entered_own id n k ts, none_says none) (ticket_for id n k, [], refl, refl, refl)
        | inr differs ↦ rw (sets.other_keys other differs, entered_other id n k ts other differs) (sound.each other)
      ];
      count = omega (arith, sound.count, len, length-append ts (ticket_for id n k ∷ []));
      most = omega (arith, few, length-append ts (ticket_for id n k ∷ []));
      buckets = rw many sound.buckets;
      lines_fit = rw fit sound.lines_fit;
      cells_fit = sound.cells_fit;
    }

    -- a ticket waits
    pub sound_wait :
        (firsts' : List (Option ℕ)) (nodes' : Slab Node) (after : Slab (Waiting K)) (n : ℕ) (k : K) (line : Line) (ends : Ends) → get sound.lines id ≡ Some line
        → (now : Pairs) × IsTable firsts' nodes' now × SetsOnly sound.lines now id (record { ticket = line.ticket; queue = Some ends }) × (length now ≡ length sound.lines)
        → nodes'.capacity ≡ nodes.capacity → length firsts' ≡ length firsts
        → ((tickets : List (Ticket K)) → IsQueue cells line.queue tickets → IsQueue after (Some ends) (tickets ++ ticket_for id n k ∷ [])) → KeepsOthers id cells after
        → slab_len after ≡ slab_len cells + 1 → after.capacity ≡ cells.capacity → length ts < room → IsSound firsts' nodes' after (ts ++ ticket_for id n k ∷ []) room
    unfolding IsLine
    sound_wait firsts' nodes' after n k line ends there (now, table, sets, len) fit many own others count fits few = record {
      lines = now;
      table = table;
      each = λ other. elim (cases_eq other id) [
        | inl same ↦
            let says = line_says line there in
            rw (same, sets.this_key, entered_own id n k ts)
            (says.0, says.1 ++ ticket_for id n k ∷ [], ap (λ (l : List (Ticket K)). l ++ ticket_for id n k ∷ []) says.2, says.3, own says.1 says.4)
        | inr differs ↦
            rw (sets.other_keys other differs, entered_other id n k ts other differs)
            (line_stays id other cells after (get sound.lines other) (tickets_of other ts) others differs (are_of other ts) (sound.each other))
      ];
      count = omega (arith, sound.count, len, count, length-append ts (ticket_for id n k ∷ []));
      most = omega (arith, few, length-append ts (ticket_for id n k ∷ []));
      buckets = rw many sound.buckets;
      lines_fit = rw fit sound.lines_fit;
      cells_fit = rw fits sound.cells_fit;
    }

    -- the running ticket of an object goes on as another task
    line_on : (k : K) (line : Option Line) → get sound.lines id ≡ line → IsLine cells line (tickets_of id (with_first id k ts))
    unfolding IsLine
    line_on k None is = let none = none_says is in rw (with_none id k ts none) none
    line_on k (Some line) is =
        let says = line_says line is in
        (record says.0 { task = k }, says.1, with_own id k ts says.0 says.1 says.2, says.3, says.4)

    pub sound_on : (k : K) → IsSound firsts nodes cells (with_first id k ts) room
    sound_on k = record {
      lines = sound.lines;
      table = sound.table;
      each = λ other. elim (cases_eq other id) [
        | inl same ↦ rw same (line_on k (get sound.lines id) refl)
        | inr differs ↦ rw (with_other id k ts other differs) (sound.each other)
      ];
      count = omega (arith, sound.count, with_length id k ts);
      most = omega (arith, sound.most, with_length id k ts);
      buckets = sound.buckets;
      lines_fit = sound.lines_fit;
      cells_fit = sound.cells_fit;
    }

    -- the last ticket of an object ends
    pub sound_end :
        (firsts' : List (Option ℕ)) (nodes' : Slab Node) (line : Line) → get sound.lines id ≡ Some line → line.queue ≡ None
        → (now : Pairs) × IsTable firsts' nodes' now × LosesOnly sound.lines now id × (length now + 1 ≡ length sound.lines) → nodes'.capacity ≡ nodes.capacity → length firsts' ≡ length firsts
        → IsSound firsts' nodes' cells (without_first id ts) room
    unfolding IsLine IsQueue
    sound_end firsts' nodes' line there none (now, table, loses, len) fit many =
        let says = line_says line there in
        let fewer = left_length id ts says.0 says.1 says.2 in
        let alone : says.1 ≡ [] = subst (λ (queue : Option Ends). IsQueue cells queue says.1) none says.4 in
        record {
          lines = now;
          table = table;
          each = λ other. elim (cases_eq other id) [
            | inl same ↦ rw (same, loses.this_key) (left_own id ts says.0 says.1 says.2 ∙ alone)
            | inr differs ↦ rw (loses.other_keys other differs, left_other id ts other differs) (sound.each other)
          ];
          count = omega (arith, sound.count, len, fewer);
          most = omega (arith, sound.most, fewer);
          buckets = rw many sound.buckets;
          lines_fit = rw fit sound.lines_fit;
          cells_fit = sound.cells_fit;
        }

    pub none_next : (line : Line) → get sound.lines id ≡ Some line → line.queue ≡ None → first_of id (without_first id ts) ≡ None
    unfolding IsQueue
    none_next line there none =
        let says = line_says line there in
        let alone : says.1 ≡ [] = subst (λ (queue : Option Ends). IsQueue cells queue says.1) none says.4 in
        first_none id (without_first id ts) (left_own id ts says.0 says.1 says.2 ∙ alone)

    module _ (line : Line) (ends : Ends) (there : get sound.lines id ≡ Some line) (waits : line.queue ≡ Some ends) where
      -- the ticket that waits longest for an object
      waiting_is : (t : Ticket K) × (rest : List (Ticket K)) × (tickets_of id (without_first id ts) ≡ t ∷ rest) × IsQueue cells (Some ends) (t ∷ rest)
      unfolding IsQueue
      waiting_is =
          let says = line_says line there in
          let q : IsQueue cells (Some ends) says.1 = subst (λ (queue : Option Ends). IsQueue cells queue says.1) waits says.4 in
          (q.0, q.1, left_own id ts says.0 says.1 says.2 ∙ q.3, (q.0, q.1, q.2, refl, q.4, q.5))

      -- it runs
      pub sound_next :
          (firsts' : List (Option ℕ)) (nodes' : Slab Node) (after : Slab (Waiting K)) (n : ℕ) (k : K) (queue : Option Ends)
          → (now : Pairs) × IsTable firsts' nodes' now × SetsOnly sound.lines now id (record { ticket = n; queue = queue }) × (length now ≡ length sound.lines)
          → nodes'.capacity ≡ nodes.capacity → length firsts' ≡ length firsts
          → ((t : Ticket K) (rest : List (Ticket K)) → IsQueue cells (Some ends) (t ∷ rest) → (n ≡ t.number) × (k ≡ t.task) × IsQueue after queue rest)
          → KeepsOthers id cells after → slab_len after + 1 ≡ slab_len cells → after.capacity ≡ cells.capacity → IsSound firsts' nodes' after (without_first id ts) room
      unfolding IsLine
      sound_next firsts' nodes' after n k queue (now, table, sets, len) fit many own others count fits =
          let says = line_says line there in
          let fewer = left_length id ts says.0 says.1 says.2 in
          let next = waiting_is in
          let took = own next.0 next.1 next.3 in
          record {
            lines = now;
            table = table;
            each = λ other. elim (cases_eq other id) [
              | inl same ↦ rw (same, sets.this_key, next.2) (next.0, next.1, refl, took.0, took.2)
              | inr differs ↦
                  rw (sets.other_keys other differs, left_other id ts other differs)
                  (line_stays id other cells after (get sound.lines other) (tickets_of other ts) others differs (are_of other ts) (sound.each other))
            ];
            count = omega (arith, sound.count, len, count, fewer);
            most = omega (arith, sound.most, fewer);
            buckets = rw many sound.buckets;
            lines_fit = rw fit sound.lines_fit;
            cells_fit = rw fits sound.cells_fit;
          }

      pub some_next :
          (after : Slab (Waiting K)) (n : ℕ) (k : K) (queue : Option Ends)
          → ((t : Ticket K) (rest : List (Ticket K)) → IsQueue cells (Some ends) (t ∷ rest) → (n ≡ t.number) × (k ≡ t.task) × IsQueue after queue rest)
          → ◌≡◌ {A = Option (ℕ × K)} (Some (n, k)) (option_map (λ t. (t.number, t.task)) (first_of id (without_first id ts)))
      some_next after n k queue own =
          let next = waiting_is in
          let took = own next.0 next.1 next.3 in
          rw (first_head id (without_first id ts) next.0 next.1 next.2, took.0, took.1) refl

-- no ticket is known
pub sound_none :
    {K : Type 0} (firsts : List (Option ℕ)) (nodes : Slab Node) (cells : Slab (Waiting K)) (ts : List (Ticket K)) (room : ℕ) → IsTable firsts nodes [] → cells.slots ≡ [] → ts ≡ []
    → length firsts ≡ room + 1 → room ≤ nodes.capacity → room ≤ cells.capacity → IsSound firsts nodes cells ts room
unfolding IsLine
sound_none firsts nodes cells ts room table no_cells no_tickets buckets lines_fit cells_fit = record {
  lines = [];
  table = table;
  each = λ id. rw no_tickets refl;
  count = rw (no_cells, no_tickets) refl;
  most = rw no_tickets (omega arith);
  buckets = buckets;
  lines_fit = lines_fit;
  cells_fit = cells_fit;
}
