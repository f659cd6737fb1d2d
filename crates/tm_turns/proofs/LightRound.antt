-- A round that leaves as much to do brings completions nearer for which clients wait, or moves nothing.
use Rattle.std.proofs.Common.{◌≡◌, ◌≢◌, ℕ, ◌+◌, ◌≤◌, ◌<◌, ◌⊎◌, inl, inr, Bool, List, [], ◌∷◌, length, refl, sym, ◌∙◌, ap, subst, arith}
use Rattle.std.specs.Prelude.{slice_get}
use Rattle.std.specs.List.{AllByRecursion, range_with_len}
use Rattle.std.specs.declared.option.Option.TheVariants.{Some}
use Rattle.std.proofs.lemmas.Option.{slice_get_within}
use Rattle.tm_seq.specs.Kind.{Kind, KindLaws}
use Rattle.tm_batch.specs.declared.config.Config.{Config}
use Rattle.tm_batch.specs.declared.config.First.{First}
use Rattle.tm_batch.specs.declared.message.Request.{Request}
use Rattle.tm_model.specs.State.{place_count}
use Rattle.tm_model.specs.Slots.{Asked}
use Rattle.tm_model.specs.Good.{FullSlot}
use Rattle.tm_pair.specs.Plain.{opening_at}
use Rattle.tm_pair.specs.declared.plain.PlainTable.{PlainTable}
use Rattle.tm_trustee.specs.declared.served.Served.{Served}
use Rattle.tm_trustee.proofs.Elements.{element_at, set_here}
use Rattle.tm_turns.specs.Whole.{AreOf}
use Rattle.tm_turns.specs.Going.{ServesAt, Goes, AllGo, GoesRound}
use Rattle.tm_turns.specs.declared.turns.Turns.{Turns}
use Rattle.tm_turns.proofs.Falling.{IsLightServe, weight, turn_lessens, serve_lessens, goes_keeps, goes_falls, all_fall}
use Rattle.tm_turns.proofs.Levels.{slot_level, level_asked, level_empty}
use Rattle.tm_turns.proofs.Light.{pending}
use Rattle.tm_turns.proofs.LightTurns.{ClientStep, client_step, serve_empty, serve_asked}
use Rattle.tm_turns.proofs.Others.{slot_in, slot_at}
use Rattle.tm_turns.proofs.Quiet.{at_some}
use Rattle.tm_turns.proofs.Rest.{some_is}
use Rattle.tm_turns.proofs.Seated.{places_are}
use Rattle.tm_turns.proofs.Splits.{range_within, split_at, goes_slot, all_same, turn_in}

-- what holds of each of some numbers, and is more
pub weaken : {P Q : ℕ → Type 0} (ks : List ℕ) → ((k : ℕ) → P k → Q k) → AllByRecursion P ks → AllByRecursion Q ks
weaken [] f h = tt
weaken (k ∷ ks) f h = (f k h.0, weaken ks f h.1)

module _ {V C O R T : Type 0} (kind : Kind V O R T) (laws : KindLaws kind) (config : Config) (first : List (First V)) where
  -- turns of other numbers leave the slot of place p of table t
  others_leave :
      (ks : List ℕ) (n t p : ℕ) (old new : Turns V C O R T) → AreOf kind config first old
      → AllByRecursion (λ k. (k ≢ p) × (k ≢ config.clients + t)) ks → AllGo kind ks n old new → slot_at new t p ≡ slot_at old t p
  others_leave ks n t p old new are others all =
      all_same kind config first (λ (x : Turns V C O R T). slot_at x t p) (λ k. (k ≢ p) × (k ≢ config.clients + t))
      (λ k moved a b its goes other. goes_slot kind config first k t p moved a b its goes other.0 other.1) ks n old new are others all

  -- what stands in a slot that is there
  pub table_there :
      (turns : Turns V C O R T) (t p : ℕ) → AreOf kind config first turns → t < config.trustees
      → (table : PlainTable V O R T) × (slice_get turns.tables.items t ≡ Some table) × (slot_at turns t p ≡ Some (slot_in p table))
  table_there turns t p are lt =
      let tables = are.as_many_tables in
      let (table, at) = element_at turns.tables.items t (omega (arith, tables, lt)) in
      (table, at, ap (λ o. at_some (slot_in p) o) at)

  -- a client's turns of a round
  client_part :
      (c t : ℕ) (moved : Bool) (old new : Turns V C O R T) (slot : FullSlot V O R T) → AreOf kind config first old → c < config.clients → t < config.trustees
      → Goes kind c moved old new → weight kind old ≤ weight kind new → slot_at old t c ≡ Some slot → 1 ≤ pending slot.sent slot.got
      → (then : FullSlot V O R T) × (slot_at new t c ≡ Some then) × ClientStep slot then
  client_part c t moved old new slot are below within (inl client) flat at pends =
      let tables = are.as_many_tables in
      let (w, first_falls, then_falls) = turn_in kind config first laws c (length old.tables.items) t moved old new are client.1 (omega (arith, tables, within)) in
      let was : slot ≡ slot_in c w.turns.was = some_is slot (slot_in c w.turns.was) (sym at ∙ sym w.slot ∙ ap (λ o. at_some (slot_in c) o) w.turns.of_table) in
      let there = slice_get_within w.begins.tables.items t w.turns.was w.turns.of_table in
      let now : slot_at new t c ≡ Some (slot_in c w.turns.now) =
      w.slot_then ∙ ap (λ xs. at_some (slot_in c) (slice_get xs t)) w.turns.tables
      ∙ ap (λ o. at_some (slot_in c) o) (set_here w.begins.tables.items t w.turns.now there) in
      elim (turn_lessens kind c t w.answer w.begins w.ends config first w.are w.turns) [
        | inl less ↦ absurd (omega (arith, less, first_falls, then_falls, flat))
        | inr (le, light) ↦
            let step = client_step kind config first c t w.begins w.ends w.are within w.answer w.turns light (subst (λ (s : FullSlot V O R T). 1 ≤ pending s.sent s.got) was pends) in
            (slot_in c w.turns.now, now, subst (λ s. ClientStep s (slot_in c w.turns.now)) (sym was) step)
      ]
  client_part c t moved old new slot are below within (inr (inl (u, is, lt, serves))) flat at pends =
      let clients = are.as_many_clients in absurd (omega (arith, is, clients, below))
  client_part c t moved old new slot are below within (inr (inr (beyond, none, same))) flat at pends =
      let clients = are.as_many_clients in absurd (omega (arith, beyond, clients, below))

  -- a batch of asks is out at table t + 1 + index, of the trustee at place p
  record IsOutAbove (t p : ℕ) (turns : Turns V C O R T) : Type 0 where
    upper : ℕ
    above : t < upper
    table : PlainTable V O R T
    batch : List (Request V O R T)
    room : ℕ
    at : slice_get turns.tables.items upper ≡ Some table
    box : (slot_in p table).box ≡ Asked batch room
    some : batch ≢ []

  -- a trustee's turn of a round, as a light one
  record LightTurn (t : ℕ) (old new : Turns V C O R T) : Type 0 where
    served : Served
    serves : ServesAt kind t served old new
    light : IsLightServe kind t served old new serves

  light_turn :
      (t : ℕ) (moved : Bool) (old new : Turns V C O R T) → AreOf kind config first old → t < config.trustees → Goes kind (config.clients + t) moved old new
      → weight kind old ≤ weight kind new → LightTurn t old new
  light_turn t moved old new are within (inl client) flat =
      let clients = are.as_many_clients in let lt = client.0 in absurd (omega (arith, clients, lt))
  light_turn t moved old new are within (inr (inl (u, is, lt, (served, serves, moves)))) flat =
      let clients = are.as_many_clients in
      let same : u ≡ t = omega (arith, is, clients) in
      subst (λ k. LightTurn k old new) same
      (elim (serve_lessens kind laws u served old new config first are serves) [
        | inl less ↦ absurd (omega (arith, less, flat))
        | inr (le, light) ↦ record { served = served; serves = serves; light = light }
      ])
  light_turn t moved old new are within (inr (inr (beyond, none, same))) flat =
      let clients = are.as_many_clients in let trustees = are.as_many_trustees in absurd (omega (arith, beyond, clients, trustees, within))

  trustee_part :
      (c t : ℕ) (moved : Bool) (old new : Turns V C O R T) (first_slot slot : FullSlot V O R T) → AreOf kind config first old → c < config.clients
      → t < config.trustees → Goes kind (config.clients + t) moved old new → weight kind old ≤ weight kind new → slot_at old t c ≡ Some slot
      → 1 ≤ pending first_slot.sent first_slot.got → ClientStep first_slot slot
      → ((then : FullSlot V O R T) × (slot_at new t c ≡ Some then) × (slot_level then + 1 ≤ slot_level first_slot))
      ⊎ IsOutAbove t (config.clients + t) new
  trustee_part c t moved old new first_slot slot are below within goes flat at pends step =
      let l = light_turn t moved old new are within goes flat in
      let (was, at_was, slot_was) = table_there old t c are within in
      let (now, at_now, slot_now) = table_there new t c (goes_keeps kind (config.clients + t) moved old new goes config first are) within in
      let is : slot ≡ slot_in c was = some_is slot (slot_in c was) (sym at ∙ slot_was) in
      let places = places_are kind config first old are t was at_was in
      let inside : c < place_count (opening_at was).setup = omega (arith, places, below) in
      let same = step.same in
      let pends_was : 1 ≤ pending (slot_in c was).sent (slot_in c was).got = subst (λ (s : FullSlot V O R T). 1 ≤ pending s.sent s.got) is (omega (arith, same, pends)) in
      elim step.either [
        | inl (level, empty) ↦
            let (box, stays) = serve_empty kind config first t c l.served old new are l.serves l.light was now at_was at_now inside pends_was
            (ap (λ (s : FullSlot V O R T). s.box) (sym is) ∙ empty) in
            let one = level_empty (pending (slot_in c now).sent (slot_in c now).got) (slot_in c now).box (omega (arith, stays, pends_was)) box in
            inl (slot_in c now, slot_now, omega (arith, one, level))
        | inr (level, (b, room, asked)) ↦
            elim (serve_asked kind config first t c l.served old new are l.serves l.light was now at_was at_now inside pends_was b room
            (ap (λ (s : FullSlot V O R T). s.box) (sym is) ∙ asked)) [
              | inl (nought, stays) ↦ inl (slot_in c now, slot_now, omega (arith, nought, level))
              | inr out ↦
                  inr (record {
                    upper = t + 1 + out.index;
                    above = omega arith;
                    table = out.table;
                    batch = out.batch;
                    room = out.room;
                    at = out.at;
                    box = out.box;
                    some = out.some;
                  })
            ]
      ]

  -- it is answered later in the round
  asks_answered :
      (t many n : ℕ) (old new : Turns V C O R T) → AreOf kind config first old → config.clients + t + 1 + many ≡ config.clients + config.trustees
      → AllGo kind (range_with_len (config.clients + t + 1) many) n old new → weight kind old ≤ weight kind new → IsOutAbove t (config.clients + t) old → ⊥
  asks_answered t many n old new are whole all flat out =
      let u = out.upper in
      let above = out.above in
      let tables = are.as_many_tables in
      let inside = slice_get_within old.tables.items u out.table out.at in
      let sp = split_at kind config first (config.clients + t + 1) many (config.clients + u) n old new are (omega (arith, above)) (omega (arith, whole, inside, tables)) all in
      let falls_first = all_fall kind laws config first sp.front sp.before old sp.begins are sp.starts in
      let falls_then = all_fall kind laws config first (range_with_len (config.clients + u + 1) sp.many) sp.behind sp.ends new
      (goes_keeps kind (config.clients + u) sp.moved sp.begins sp.ends sp.goes config first sp.are) sp.follows in
      let l = light_turn u sp.moved sp.begins sp.ends sp.are (omega (arith, inside, tables)) sp.goes (omega (arith, falls_first, falls_then, flat)) in
      let stays = others_leave sp.front sp.before u (config.clients + t) old sp.begins are
      (weaken sp.front (λ k h. (λ e. absurd (let low = h.0 in omega (arith, e, low)), λ e. absurd (let high = h.1 in omega (arith, e, high)))) sp.within) sp.starts in
      let (x, at, slot) = table_there sp.begins u (config.clients + t) sp.are (omega (arith, inside, tables)) in
      let same : slot_in (config.clients + t) x ≡ slot_in (config.clients + t) out.table =
      some_is (slot_in (config.clients + t) x) (slot_in (config.clients + t) out.table) (sym slot ∙ stays ∙ ap (λ o. at_some (slot_in (config.clients + t)) o) out.at) in
      let places = places_are kind config first sp.begins sp.are u x at in
      out.some (l.light.slots x at (config.clients + t) (omega (arith, places, above)) out.batch out.room (ap (λ (s : FullSlot V O R T). s.box) same ∙ out.box)).0

  -- in a round that leaves as much to do each slot of which launches are pending comes nearer
  pub round_nearer :
      (n c t : ℕ) (old new : Turns V C O R T) (slot : FullSlot V O R T) → AreOf kind config first old → GoesRound kind n old new
      → weight kind old ≤ weight kind new → c < config.clients → t < config.trustees → slot_at old t c ≡ Some slot → 1 ≤ pending slot.sent slot.got
      → (then : FullSlot V O R T) × (slot_at new t c ≡ Some then) × (slot_level then + 1 ≤ slot_level slot)
  round_nearer n c t old new slot are round flat below within at pends =
      let clients = are.as_many_clients in
      let trustees = are.as_many_trustees in
      let whole : ℕ = length old.clients.items + length old.trustees.items in
      let sp = split_at kind config first 0 whole c n old new are (omega arith) (omega (arith, clients, below)) round in
      let rest_is = sp.is_rest in
      let are_then = goes_keeps kind c sp.moved sp.begins sp.ends sp.goes config first sp.are in
      let sq = split_at kind config first (c + 1) sp.many (config.clients + t) sp.behind sp.ends new are_then (omega (arith, below))
      (omega (arith, rest_is, clients, trustees, within)) sp.follows in
      let is_rest = sq.is_rest in
      let are_last = goes_keeps kind (config.clients + t) sq.moved sq.begins sq.ends sq.goes config first sq.are in
      let f1 = all_fall kind laws config first sp.front sp.before old sp.begins are sp.starts in
      let f2 = goes_falls kind laws config first c sp.moved sp.begins sp.ends sp.are sp.goes in
      let f3 = all_fall kind laws config first sq.front sq.before sp.ends sq.begins are_then sq.starts in
      let f4 = goes_falls kind laws config first (config.clients + t) sq.moved sq.begins sq.ends sq.are sq.goes in
      let f5 = all_fall kind laws config first (range_with_len (config.clients + t + 1) sq.many) sq.behind sq.ends new are_last sq.follows in
      let before = others_leave sp.front sp.before t c old sp.begins are
      (weaken sp.front (λ k h. (λ e. absurd (let high = h.1 in omega (arith, e, high)), λ e. absurd (let high = h.1 in omega (arith, e, high, below)))) sp.within) sp.starts in
      let (mid, at_mid, step) = client_part c t sp.moved sp.begins sp.ends slot sp.are below within sp.goes (omega (arith, f1, f2, f3, f4, f5, flat)) (before ∙ at) pends in
      let between = others_leave sq.front sq.before t c sp.ends sq.begins are_then
      (weaken sq.front (λ k h. (λ e. absurd (let low = h.0 in omega (arith, e, low)), λ e. absurd (let high = h.1 in omega (arith, e, high)))) sq.within) sq.starts in
      let behind = others_leave (range_with_len (config.clients + t + 1) sq.many) sq.behind t c sq.ends new are_last
      (weaken (range_with_len (config.clients + t + 1) sq.many)
      (λ k h. (λ e. absurd (let low = h.0 in omega (arith, e, low, below)), λ e. absurd (let low = h.0 in omega (arith, e, low)))) (range_within (config.clients + t + 1) sq.many))
      sq.follows in
      elim (trustee_part c t sq.moved sq.begins sq.ends slot mid sq.are below within sq.goes (omega (arith, f1, f2, f3, f4, f5, flat)) (between ∙ at_mid) pends step) [
        | inl (then, at_then, nearer) ↦ (then, behind ∙ at_then, nearer)
        | inr out ↦
            absurd
            (
            asks_answered t sq.many sq.behind sq.ends new are_last (omega (arith, is_rest, rest_is, clients, trustees)) sq.follows
            (omega (arith, f1, f2, f3, f4, f5, flat)) out
            )
      ]

  -- in the serving turns of all trustees that leave as much to do each slot at which a batch is asked and of which launches are pending comes nearer
  pub serve_nearer :
      (n c t : ℕ) (old new : Turns V C O R T) (slot : FullSlot V O R T) (b : List (Request V O R T)) (room : ℕ) → AreOf kind config first old
      → AllGo kind (range_with_len config.clients config.trustees) n old new → weight kind old ≤ weight kind new → c < config.clients → t < config.trustees
      → slot_at old t c ≡ Some slot → slot.box ≡ Asked b room
      → (1 ≤ pending slot.sent slot.got) × ((then : FullSlot V O R T) × (slot_at new t c ≡ Some then) × (slot_level then + 1 ≤ slot_level slot))
  serve_nearer n c t old new slot b room are all flat below within at asked =
      let sq = split_at kind config first config.clients config.trustees (config.clients + t) n old new are (omega arith) (omega (arith, within)) all in
      let is_rest = sq.is_rest in
      let are_last = goes_keeps kind (config.clients + t) sq.moved sq.begins sq.ends sq.goes config first sq.are in
      let f3 = all_fall kind laws config first sq.front sq.before old sq.begins are sq.starts in
      let f4 = goes_falls kind laws config first (config.clients + t) sq.moved sq.begins sq.ends sq.are sq.goes in
      let f5 = all_fall kind laws config first (range_with_len (config.clients + t + 1) sq.many) sq.behind sq.ends new are_last sq.follows in
      let between = others_leave sq.front sq.before t c old sq.begins are
      (weaken sq.front (λ k h. (λ e. absurd (let low = h.0 in omega (arith, e, low, below)), λ e. absurd (let high = h.1 in omega (arith, e, high)))) sq.within) sq.starts in
      let behind = others_leave (range_with_len (config.clients + t + 1) sq.many) sq.behind t c sq.ends new are_last
      (weaken (range_with_len (config.clients + t + 1) sq.many)
      (λ k h. (λ e. absurd (let low = h.0 in omega (arith, e, low, below)), λ e. absurd (let low = h.0 in omega (arith, e, low)))) (range_within (config.clients + t + 1) sq.many))
      sq.follows in
      let l = light_turn t sq.moved sq.begins sq.ends sq.are within sq.goes (omega (arith, f3, f4, f5, flat)) in
      let (was, at_was, slot_was) = table_there sq.begins t c sq.are within in
      let is : slot ≡ slot_in c was = some_is slot (slot_in c was) (sym at ∙ sym between ∙ slot_was) in
      let places = places_are kind config first sq.begins sq.are t was at_was in
      let found = l.light.slots was at_was c (omega (arith, places, below)) b room (ap (λ (s : FullSlot V O R T). s.box) (sym is) ∙ asked) in
      let pends : 1 ≤ pending slot.sent slot.got = subst (λ (s : FullSlot V O R T). 1 ≤ pending s.sent s.got) (sym is) found.1 in
      let level = level_asked (pending slot.sent slot.got) slot.box b room pends asked in (
        pends,
        elim (trustee_part c t sq.moved sq.begins sq.ends slot slot sq.are below within sq.goes (omega (arith, f3, f4, f5, flat)) (between ∙ at) pends
            (record { same = refl; either = inr (level, (b, room, asked)) })) [
              | inl (then, at_then, nearer) ↦ (then, behind ∙ at_then, nearer)
              | inr out ↦
                  absurd
                  (
                  asks_answered t sq.many sq.behind sq.ends new are_last (omega (arith, is_rest)) sq.follows
                  (omega (arith, f3, f4, f5, flat)) out
                  )
            ],
      )
