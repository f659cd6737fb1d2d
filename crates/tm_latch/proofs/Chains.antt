-- Lemmas on queues as chains of cells.
use Rattle.std.proofs.Common.{◌≡◌, ◌≢◌, ℕ, suc, ◌≤◌, List, [], ◌∷◌, ◌++◌, length, Option, Some, None, refl, sym, ap, ◌∙◌, arith}
use Rattle.std.specs.Prelude.{option_map}
use Rattle.slab.specs.Slab.{Slab, get, Updates, ContainsKey, with_value}
use Rattle.tm_latch.specs.declared.lines.Ends.{Ends}
use Rattle.tm_latch.specs.declared.queues.Waiting.{Waiting}
use Rattle.tm_latch.specs.declared.ticket.Ticket.{Ticket}
use Rattle.slab.proofs.SlabLemmas.{Updates-with_value}
use Rattle.tm_latch.specs.Queues.{cell_of, Follows, IsQueue, AreOf, IsQueueOf, KeepsOthers}

pub some_same : {X : Type 0} (x y : X) → Some x ≡ Some y → x ≡ y
some_same x y e = cc

module _ {K : Type 0} where
  -- both have the same at each key of an object's cells
  abbrev pub SameAt : ℕ → Slab (Waiting K) → Slab (Waiting K) → Type 0
  SameAt id old new = (key : ℕ) (c : Waiting K) → get old key ≡ Some c → c.id ≡ id → get new key ≡ Some c

  follows_same :
      (id : ℕ) (old new : Slab (Waiting K)) → SameAt id old new → (tickets : List (Ticket K)) → AreOf id tickets
      → (key : ℕ) (next : Option ℕ) (last : ℕ) → Follows old key next tickets last → Follows new key next tickets last
  unfolding Follows AreOf
  follows_same id old new same [] are key next last f = f
  follows_same id old new same (t ∷ rest) are key next last (after, more, is, there, f) =
      (after, more, is, same after (cell_of t more) there are.0, follows_same id old new same rest are.1 after more last f)

  -- so a queue of that object stays
  pub queue_same :
      (id : ℕ) (old new : Slab (Waiting K)) → SameAt id old new → (queue : Option Ends) (tickets : List (Ticket K)) → AreOf id tickets
      → IsQueue old queue tickets → IsQueue new queue tickets
  unfolding IsQueue AreOf
  queue_same id old new same None tickets are q = q
  queue_same id old new same (Some ends) [] are (t, rest, more, is, there, f) = absurd (cc)
  queue_same id old new same (Some ends) (u ∷ others) are (t, rest, more, is, there, f) =
      let one : u ≡ t = cc in
      let tail : others ≡ rest = cc in
      (t, rest, more, is, same ends.first (cell_of t more) there (rw (← one) are.0), follows_same id old new same rest (rw (← tail) are.1) ends.first more ends.last f)

  -- the last cell of a queue has no next, and is of the queue's object
  follows_last :
      (id : ℕ) (cells : Slab (Waiting K)) (rest : List (Ticket K)) → AreOf id rest → (t : Ticket K) → t.id ≡ id → (key : ℕ) (next : Option ℕ) (last : ℕ)
      → get cells key ≡ Some (cell_of t next) → Follows cells key next rest last → (u : Ticket K) × (u.id ≡ id) × (get cells last ≡ Some (cell_of u None))
  unfolding Follows AreOf
  follows_last id cells [] are t of key next last here f = (t, of, rw (← f.1) (rw (← f.0) here))
  follows_last id cells (v ∷ vs) are t of key next last here (after, more, is, there, f) = follows_last id cells vs are.1 v are.0 after more last there f

  pub last_cell :
      (id : ℕ) (cells : Slab (Waiting K)) (ends : Ends) (tickets : List (Ticket K)) → AreOf id tickets → IsQueue cells (Some ends) tickets
      → (u : Ticket K) × (u.id ≡ id) × (get cells ends.last ≡ Some (cell_of u None))
  unfolding IsQueue AreOf
  last_cell id cells ends [] are (t, rest, more, is, there, f) = absurd (cc)
  last_cell id cells ends (u ∷ others) are (t, rest, more, is, there, f) =
      let one : u ≡ t = cc in
      let tail : others ≡ rest = cc in
      follows_last id cells rest (rw (← tail) are.1) t (rw (← one) are.0) ends.first more ends.last there f

  -- the first cell of a queue is of the queue's object
  pub first_cell :
      (id : ℕ) (cells : Slab (Waiting K)) (ends : Ends) (tickets : List (Ticket K)) → AreOf id tickets → IsQueue cells (Some ends) tickets
      → (u : Ticket K) × (more : Option ℕ) × (u.id ≡ id) × (get cells ends.first ≡ Some (cell_of u more))
  unfolding IsQueue AreOf
  first_cell id cells ends [] are (t, rest, more, is, there, f) = absurd (cc)
  first_cell id cells ends (u ∷ others) are (t, rest, more, is, there, f) =
      let one : u ≡ t = cc in
      (t, more, rw (← one) are.0, there)

  -- what is next after a cell, where one more ticket stands behind the last
  abbrev grown : List (Ticket K) → Option ℕ → ℕ → Option ℕ
  grown [] next key = Some key
  grown (v ∷ vs) next key = next

  module _ (old new : Slab (Waiting K)) (last key : ℕ) (u t : Ticket K)
      (ended : get old last ≡ Some (cell_of u None)) (linked : get new last ≡ Some (cell_of u (Some key))) (added : get new key ≡ Some (cell_of t None))
      (same : (k : ℕ) (c : Waiting K) → k ≢ last → get old k ≡ Some c → get new k ≡ Some c) where
    cell_grown :
        (vs : List (Ticket K)) (v : Ticket K) (k : ℕ) (more : Option ℕ) → get old k ≡ Some (cell_of v more) → Follows old k more vs last
        → get new k ≡ Some (cell_of v (grown vs more key))
    unfolding Follows
    cell_grown [] v k more there f =
        let one : cell_of u None ≡ cell_of v None = some_same _ _ (sym ended ∙ (ap (λ (i : ℕ). get old i) (sym f.1) ∙ (there ∙ ap (λ (m : Option ℕ). Some (cell_of v m)) f.0))) in
        ap (λ (i : ℕ). get new i) f.1 ∙ (linked ∙ ap (λ (c : Waiting K). Some (record c { next = Some key })) one)
    cell_grown (w ∷ ws) v k more there (after, further, is, next_there, f) = same k (cell_of v more) (λ at_last.
        let one : cell_of u None ≡ cell_of v more = some_same _ _ (sym ended ∙ (ap (λ (i : ℕ). get old i) (sym at_last) ∙ there)) in
        let none : None ≡ Some after = ap (λ (c : Waiting K). c.next) one ∙ is in
        absurd (cc)) there

    follows_grow : (vs : List (Ticket K)) (k : ℕ) (next : Option ℕ) → Follows old k next vs last → Follows new k (grown vs next key) (vs ++ t ∷ []) key
    unfolding Follows
    follows_grow [] k next f = (key, None, refl, added, (refl, refl))
    follows_grow (v ∷ vs) k next (after, more, is, there, f) = (after, grown vs more key, is, cell_grown vs v after more there f, follows_grow vs after more f)

    -- one more ticket stands behind a queue
    pub queue_grow : (first : ℕ) (tickets : List (Ticket K)) → IsQueue old (Some (record { first = first; last = last })) tickets → IsQueue new (Some (record { first = first; last = key })) (tickets ++ t ∷ [])
    unfolding IsQueue
    queue_grow first tickets (v, vs, more, is, there, f) =
        (v, vs ++ t ∷ [], grown vs more key, ap (λ (ts : List (Ticket K)). ts ++ t ∷ []) is, cell_grown vs v first more there f, follows_grow vs first more f)

  -- a ticket behind none
  pub queue_one : (new : Slab (Waiting K)) (key : ℕ) (t : Ticket K) (old : Slab (Waiting K)) (tickets : List (Ticket K)) → get new key ≡ Some (cell_of t None) → IsQueue old None tickets → IsQueue new (Some (record { first = key; last = key })) (tickets ++ t ∷ [])
  unfolding IsQueue Follows
  queue_one new key t old tickets there none = (t, [], None, ap (λ (ts : List (Ticket K)). ts ++ t ∷ []) none, there, (refl, refl))

  -- what stands behind a cell is known by the cell
  same_length :
      (cells : Slab (Waiting K)) (vs ws : List (Ticket K)) (key : ℕ) (next : Option ℕ) (a b : ℕ) → Follows cells key next vs a → Follows cells key next ws b
      → length vs ≡ length ws
  unfolding Follows
  same_length cells [] [] key next a b f g = refl
  same_length cells [] (w ∷ ws) key next a b f (after, more, is, there, g) = let none : None ≡ Some after = sym f.0 ∙ is in absurd (cc)
  same_length cells (v ∷ vs) [] key next a b (after, more, is, there, f) g = let none : None ≡ Some after = sym g.0 ∙ is in absurd (cc)
  same_length cells (v ∷ vs) (w ∷ ws) key next a b (after, more, is, there, f) (after', more', is', there', g) =
      let at : after ≡ after' = some_same _ _ (sym is ∙ is') in
      let one : cell_of v more ≡ cell_of w more' = some_same _ _ (sym there ∙ (ap (λ (i : ℕ). get cells i) at ∙ there')) in
      let further : more ≡ more' = ap (λ (c : Waiting K). c.next) one in
      ap suc (same_length cells vs ws after more a b f (rw (at, further) g))

  module _ (old new : Slab (Waiting K)) (first : ℕ) (t : Ticket K) (more : Option ℕ) (rest : List (Ticket K)) (last : ℕ)
      (head : get old first ≡ Some (cell_of t more)) (whole : Follows old first more rest last)
      (same : (k : ℕ) → k ≢ first → get new k ≡ get old k) where
    -- a chain that is no longer than what stands behind the first cell does not come back to it
    follows_without : (vs : List (Ticket K)) → length vs ≤ length rest → (k : ℕ) (next : Option ℕ) → Follows old k next vs last → Follows new k next vs last
    unfolding Follows
    follows_without [] short k next f = f
    follows_without (v ∷ vs) short k next (after, further, is, there, f) = (
      after,
      further,
      is,
      same after (λ back.
          let one : cell_of v further ≡ cell_of t more = some_same _ _ (sym there ∙ (ap (λ (i : ℕ). get old i) back ∙ head)) in
          let ahead : further ≡ more = ap (λ (c : Waiting K). c.next) one in
          let long = same_length old vs rest first more last last (rw (← back, ← ahead) f) whole in
          omega (arith, long, short)) ∙ there,
      follows_without vs (omega (arith, short)) after further f,
    )

    pub rest_stays : Follows new first more rest last
    rest_stays = follows_without rest (omega arith) first more whole

-- the queue that is left
module _ {K : Type 0} (new : Slab (Waiting K)) (first : ℕ) where
  pub queue_left : (rest : List (Ticket K)) (more : Option ℕ) (last after : ℕ) → Follows new first more rest last → more ≡ Some after → IsQueue new (Some (record { first = after; last = last })) rest
  unfolding IsQueue Follows
  queue_left [] more last after f is = let none : None ≡ Some after = sym f.0 ∙ is in absurd (cc)
  queue_left (v ∷ vs) more last after (next, further, one, there, f) is =
      let same : next ≡ after = some_same _ _ (sym one ∙ is) in
      (v, vs, further, refl, rw (← same) there, rw (← same) f)

  pub queue_none : (rest : List (Ticket K)) (more : Option ℕ) (last : ℕ) → Follows new first more rest last → more ≡ None → IsQueue new None rest
  unfolding IsQueue Follows
  queue_none [] more last f is = refl
  queue_none (v ∷ vs) more last (next, further, one, there, f) is = let none : None ≡ Some next = sym is ∙ one in absurd (cc)

-- a slab after a new cell, and after a cell goes
module _ {K : Type 0} (id : ℕ) (old : Slab (Waiting K)) where
  -- the queues of other objects stay where a cell is added
  pub others_added : (new : Slab (Waiting K)) (key : ℕ) (c : Waiting K) → get old key ≡ None → Updates old new key (Some c) → (other : ℕ) → other ≢ id → SameAt other old new
  others_added new key c vacant updates other differs k d there of =
      updates.others k (λ same. let none : None ≡ Some d = sym vacant ∙ (ap (λ (i : ℕ). get old i) (sym same) ∙ there) in absurd (cc)) ∙ there

  -- and where a cell of the object is changed or goes
  pub others_changed : (new : Slab (Waiting K)) (key : ℕ) (c : Waiting K) (slot : Option (Waiting K)) → get old key ≡ Some c → c.id ≡ id → Updates old new key slot → (other : ℕ) → other ≢ id → SameAt other old new
  others_changed new key c slot here mine updates other differs k d there of =
      updates.others k (λ same.
      let one : c ≡ d = some_same _ _ (sym here ∙ (ap (λ (i : ℕ). get old i) (sym same) ∙ there)) in
      absurd (differs (sym of ∙ (ap (λ (x : Waiting K). x.id) (sym one) ∙ mine)))) ∙ there

-- a ticket is put behind a queue: its cell is added, and then the last cell points to it
module _ {K : Type 0} (id key : ℕ) (t : Ticket K) (old mid : Slab (Waiting K)) (vacant : get old key ≡ None) (added : Updates old mid key (Some (cell_of t None))) where
  kept_added : (k : ℕ) (c : Waiting K) → get old k ≡ Some c → get mid k ≡ Some c
  kept_added k c there = added.others k (λ same. let none : None ≡ Some c = sym vacant ∙ (ap (λ (i : ℕ). get old i) (sym same) ∙ there) in absurd (cc)) ∙ there

  pub append_first_others : KeepsOthers id old mid
  append_first_others other queue tickets differs are q = queue_same other old mid (others_added id old mid key (cell_of t None) vacant added other differs) queue tickets are q

  pub append_has : (ends : Ends) → IsQueueOf id old (Some ends) → ContainsKey mid ends.last
  append_has ends (tickets, are, q) = let u = last_cell id old ends tickets are q in rw (kept_added ends.last (cell_of u.0 None) u.2) refl

  module _ (ends : Ends) (queue : IsQueueOf id old (Some ends)) (r : Waiting K) (there : get mid ends.last ≡ Some r) where
    abbrev pub relinked : Waiting K
    relinked = record { id = r.id; number = r.number; task = r.task; next = Some key }

    updates : Updates mid (with_value mid ends.last relinked) ends.last (Some relinked)
    updates = Updates-with_value mid ends.last relinked (append_has ends queue)

    pub append_others : KeepsOthers id old (with_value mid ends.last relinked)
    append_others other other_queue tickets differs are q =
        let u = last_cell id old ends queue.0 queue.1 queue.2 in
        let is : cell_of u.0 None ≡ r = some_same _ _ (sym (kept_added ends.last (cell_of u.0 None) u.2) ∙ there) in
        queue_same other old (with_value mid ends.last relinked) (λ k d here of.
        others_changed id mid (with_value mid ends.last relinked) ends.last r (Some relinked) there (ap (λ (c : Waiting K). c.id) (sym is) ∙ u.1) updates other differs k d (kept_added k d here) of) other_queue tickets are q

    pub append_own : (tickets : List (Ticket K)) → IsQueue old (Some ends) tickets → IsQueue (with_value mid ends.last relinked) (Some (record { first = ends.first; last = key })) (tickets ++ t ∷ [])
    append_own tickets q =
        let u = last_cell id old ends queue.0 queue.1 queue.2 in
        let is : cell_of u.0 None ≡ r = some_same _ _ (sym (kept_added ends.last (cell_of u.0 None) u.2) ∙ there) in
        queue_grow old (with_value mid ends.last relinked) ends.last key u.0 t u.2
        (updates.changed ∙ ap (λ (c : Waiting K). Some (record { id = c.id; number = c.number; task = c.task; next = Some key })) (sym is))
        (updates.others key (λ same. let none : None ≡ Some (cell_of u.0 None) = sym vacant ∙ (ap (λ (i : ℕ). get old i) same ∙ u.2) in absurd (cc)) ∙ added.changed)
        (λ k c differs here. updates.others k differs ∙ kept_added k c here)
        ends.first tickets q

-- the first ticket of a queue is taken out
module _ {K : Type 0} (old new : Slab (Waiting K)) (ends : Ends) (r : Waiting K) (there : get old ends.first ≡ Some r) (updates : Updates old new ends.first None) where
  abbrev pub from_first : Option ℕ → Option Ends
  from_first next = option_map (λ key. record { first = key; last = ends.last }) next

  queue_behind : (rest : List (Ticket K)) (more : Option ℕ) → Follows new ends.first more rest ends.last → IsQueue new (from_first more) rest
  queue_behind rest None f = queue_none new ends.first rest None ends.last f refl
  queue_behind rest (Some after) f = queue_left new ends.first rest (Some after) ends.last after f refl

  pub taken_own : (t : Ticket K) (rest : List (Ticket K)) → IsQueue old (Some ends) (t ∷ rest) → (r.number ≡ t.number) × (r.task ≡ t.task) × IsQueue new (from_first r.next) rest
  unfolding IsQueue
  taken_own t rest (u, others, more, is, here, f) =
      let one : u ≡ t = cc in
      let tail : others ≡ rest = cc in
      let same : cell_of u more ≡ r = some_same _ _ (sym here ∙ there) in
      let stays = rest_stays old new ends.first u more others ends.last here f (λ k differs. updates.others k differs) in (
        ap (λ (c : Waiting K). c.number) (sym same) ∙ ap (λ (x : Ticket K). x.number) one,
        ap (λ (c : Waiting K). c.task) (sym same) ∙ ap (λ (x : Ticket K). x.task) one,
        rw (ap (λ (c : Waiting K). c.next) (sym same), ← tail) (queue_behind others more stays),
      )

  pub taken_others : (id : ℕ) → IsQueueOf id old (Some ends) → KeepsOthers id old new
  taken_others id (tickets, are, q) other queue others differs are_other p =
      let first = first_cell id old ends tickets are q in
      let same : cell_of first.0 first.1 ≡ r = some_same _ _ (sym first.3 ∙ there) in
      queue_same other old new (others_changed id old new ends.first r None there (ap (λ (c : Waiting K). c.id) (sym same) ∙ first.2) updates other differs) queue others are_other p
