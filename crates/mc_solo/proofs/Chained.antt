-- The turns of a client at the trustees where a request counts, one after another, as turns of the whole.
use Rattle.std.proofs.Common.{◌≡◌, ◌≢◌, ℕ, zero, suc, ◌<◌, ◌≤◌, ◌⊎◌, inl, inr, true, List, length, length-set, refl, sym, ◌∙◌, ap, subst, arith}
use Rattle.std.specs.Prelude.{slice_get, slice_set}
use Rattle.std.specs.declared.option.Option.TheVariants.{Some}
use Rattle.std.proofs.lemmas.Bool.{cases_eq}
use Rattle.std.proofs.lemmas.Option.{slice_get_within}
use Rattle.tm_seq.specs.Kind.{Kind}
use Rattle.tm_pair.specs.Plain.{plain_theory}
use Rattle.tm_pair.specs.declared.plain.PlainTable.{PlainTable}
use Rattle.tm_pair.specs.declared.plain.PlainClient.{PlainClient}
use Rattle.tm_trustee.proofs.Elements.{set_here, set_other, same_element}
use Rattle.tm_client.proofs.Fronts.{set_same}
use Rattle.tm_client.specs.declared.answers.Turn.{Turn}
use Rattle.tm_client.specs.declared.answers.Turn.TheVariants as turn
use Rattle.tm_client.specs.declared.books.Books.{Books}
use Rattle.tm_asking.specs.declared.turning.Turned.{Turned}
use Rattle.tm_asking.specs.declared.turning.Turned.TheVariants.{Nothing, Pending, Arrived, Moved}
use Rattle.tm_asking.specs.Turning.{told_of, told_with, TurnsBelow}
use Rattle.tm_turns.specs.Whole.{OneClient, OneLane, HasLane, AreTurns, Keeps}
use Rattle.tm_turns.specs.Going.{has_moved}
use Rattle.tm_turns.specs.Driving.{AwaitsAt, TurnedAt, IsToDrive, DeedsKeep, DrivingEnds}
use Rattle.tm_turns.specs.declared.turns.Turns.{Turns}
use Rattle.mc_solo.proofs.Lists.{items_are}
use Rattle.mc_solo.proofs.Staged.{booked, staged, SameLists, keeps_same, staged_turn}

-- turns that say nothing, or that all are pending
abbrev pub IsQuiet : Turned → Type 0
IsQuiet told = (told ≡ Pending) ⊎ (told ≡ Nothing)

-- of turns that say together that all are pending, or nothing, each says so
quiet_both : (b h : Turned) → IsQuiet (told_with b h) → IsQuiet b × IsQuiet h
quiet_both Nothing h q = (inr refl, q)
quiet_both Pending Nothing q = (inl refl, inr refl)
quiet_both Pending Pending q = (inl refl, inl refl)
quiet_both Pending Arrived (inl e) = absurd cc
quiet_both Pending Arrived (inr e) = absurd cc
quiet_both Pending Moved (inl e) = absurd cc
quiet_both Pending Moved (inr e) = absurd cc
quiet_both Arrived Nothing (inl e) = absurd cc
quiet_both Arrived Nothing (inr e) = absurd cc
quiet_both Arrived Pending (inl e) = absurd cc
quiet_both Arrived Pending (inr e) = absurd cc
quiet_both Arrived Arrived (inl e) = absurd cc
quiet_both Arrived Arrived (inr e) = absurd cc
quiet_both Arrived Moved (inl e) = absurd cc
quiet_both Arrived Moved (inr e) = absurd cc
quiet_both Moved h (inl e) = absurd cc
quiet_both Moved h (inr e) = absurd cc

-- turns say together that one moved something only where one says so, and that all are pending only where one is
moved_one : (b h : Turned) → told_with b h ≡ Moved → (b ≡ Moved) ⊎ (h ≡ Moved)
moved_one Nothing h e = inr e
moved_one Pending Nothing e = absurd cc
moved_one Pending Pending e = absurd cc
moved_one Pending Arrived e = absurd cc
moved_one Pending Moved e = inr refl
moved_one Arrived Nothing e = absurd cc
moved_one Arrived Pending e = absurd cc
moved_one Arrived Arrived e = absurd cc
moved_one Arrived Moved e = inr refl
moved_one Moved h e = inl refl

pending_one : (b h : Turned) → told_with b h ≡ Pending → (b ≡ Pending) ⊎ (h ≡ Pending)
pending_one Nothing h e = inr e
pending_one Pending h e = inl refl
pending_one Arrived Nothing e = absurd cc
pending_one Arrived Pending e = absurd cc
pending_one Arrived Arrived e = absurd cc
pending_one Arrived Moved e = absurd cc
pending_one Moved h e = absurd cc

moves_as : (answer : Turn) → told_of answer ≡ Moved → has_moved answer ≡ true
moves_as turn.Pending e = absurd cc
moves_as turn.Idle e = absurd cc
moves_as (turn.Sent n) e = refl
moves_as (turn.Got n) e = refl

pending_as : (answer : Turn) → IsQuiet (told_of answer) → answer ≡ turn.Pending
pending_as turn.Pending q = refl
pending_as turn.Idle (inl e) = absurd cc
pending_as turn.Idle (inr e) = absurd cc
pending_as (turn.Sent n) (inl e) = absurd cc
pending_as (turn.Sent n) (inr e) = absurd cc
pending_as (turn.Got n) (inl e) = absurd cc
pending_as (turn.Got n) (inr e) = absurd cc

module _ {V C O R T : Type 0} (kind : Kind V O R T) (c : ℕ) where
  -- What the turns below trustee n did to the whole: it is of one build still; no more is to do, and less where one moved something; and where
  -- all are pending, answers are awaited where a request counts.
  pub record HasChained (n : ℕ) (told : Turned) (old new : Turns V C O R T) : Type 0 where
    pub keeps : Keeps kind old new
    pub no_more : (to_drive : Turns V C O R T → ℕ) → IsToDrive kind c to_drive → to_drive new ≤ to_drive old
    pub less : (to_drive : Turns V C O R T → ℕ) → IsToDrive kind c to_drive → told ≡ Moved → to_drive new < to_drive old
    pub awaits : IsQuiet told → (t : ℕ) (lane : OneLane V C O R T) → t < n → HasLane new c t lane → lane.counting ≢ 0 → AwaitsAt c t new
    pub one : told ≡ Pending → (t : ℕ) × AwaitsAt c t new

  -- a turn at another trustee leaves it that answers are awaited at one
  awaits_other : (t k : ℕ) (answer : Turn) (old new : Turns V C O R T) → TurnedAt kind c k answer old new → t ≢ k → AwaitsAt c t old → AwaitsAt c t new
  awaits_other t k answer old new is other a =
      let client_is : a.has.client ≡ is.client = same_element old.clients.items c is.client a.has.client is.of_client a.has.of_client in
      let of_lane : slice_get is.client.books.lanes.items t ≡ Some a.lane = subst (λ x. slice_get x.books.lanes.items t ≡ Some a.lane) client_is a.has.of_lane in
      let inside = slice_get_within old.clients.items c is.client is.of_client in record {
        lane = a.lane;
        table = a.table;
        has = record {
          client = is.becomes;
          of_client = subst (λ xs. slice_get xs c ≡ Some is.becomes) (sym is.clients) (set_here old.clients.items c is.becomes inside);
          of_lane =
              ap (λ xs. slice_get xs t) is.turned.turns.lanes ∙ set_other is.client.books.lanes.items k t is.turned.becomes other ∙ of_lane;
        };
        of_table = ap (λ xs. slice_get xs t) is.tables ∙ set_other old.tables.items k t is.now other ∙ a.of_table;
        batch = a.batch;
        out = a.out;
        unanswered = a.unanswered;
      }

  -- a lane at another trustee was one before the turn
  lane_before : (t k : ℕ) (answer : Turn) (old new : Turns V C O R T) → TurnedAt kind c k answer old new → t ≢ k → (lane : OneLane V C O R T)
      → HasLane new c t lane → HasLane old c t lane
  lane_before t k answer old new is other lane has =
      let inside = slice_get_within old.clients.items c is.client is.of_client in
      let stands = subst (λ xs. slice_get xs c ≡ Some is.becomes) (sym is.clients) (set_here old.clients.items c is.becomes inside) in
      let client_is : has.client ≡ is.becomes = same_element new.clients.items c is.becomes has.client stands has.of_client in
      let of_lane : slice_get is.becomes.books.lanes.items t ≡ Some lane = subst (λ x. slice_get x.books.lanes.items t ≡ Some lane) client_is has.of_lane in record {
        client = is.client;
        of_client = is.of_client;
        of_lane =
            sym (set_other is.client.books.lanes.items k t is.turned.becomes other) ∙ ap (λ xs. slice_get xs t) (sym is.turned.turns.lanes) ∙ of_lane;
      }

  module _ (deeds : DeedsKeep C kind) (ends : DrivingEnds C kind) where
    -- no turn
    none_chained : (told : Turned) (old new : Turns V C O R T) → told ≡ Nothing → SameLists kind old new → HasChained 0 told old new
    none_chained told old new nothing same = record {
      keeps = keeps_same kind old new same;
      no_more = λ to_drive is. let e = is.lists old new same.clients same.tables (ap (λ xs. xs.items) same.trustees) in omega (arith, e);
      less = λ to_drive is moved. let both : Nothing ≡ Moved = sym nothing ∙ moved in absurd cc;
      awaits = λ quiet t lane lt. absurd (omega (arith, lt));
      one = λ pending. let both : Nothing ≡ Pending = sym nothing ∙ pending in absurd cc;
    }

    -- one turn more
    turn_chained : (n : ℕ) (before : Turned) (answer : Turn) (old mid new : Turns V C O R T) → AreTurns kind old → HasChained n before old mid
        → TurnedAt kind c n answer mid new → HasChained (suc n) (told_with before (told_of answer)) old new
    turn_chained n before answer old mid new (config, first, are) h is =
        let are_mid : AreTurns kind mid = (config, first, h.keeps config first are) in
        record {
          keeps = λ a b of. deeds c n answer mid new is a b (h.keeps a b of);
          no_more = λ to_drive d.
              let below = h.no_more to_drive d in
              let here = (d.turns n answer mid new are_mid is).0 in omega (arith, below, here);
          less = λ to_drive d moved.
              let turns = d.turns n answer mid new are_mid is in
              let here = turns.0 in
              let below = h.no_more to_drive d in
              elim (moved_one before (told_of answer) moved) [
                | inl e ↦ let lt = h.less to_drive d e in omega (arith, lt, here)
                | inr e ↦ let lt = turns.1 (moves_as answer e) in omega (arith, lt, below)
              ];
          awaits = λ quiet t lane lt has counts.
              let both = quiet_both before (told_of answer) quiet in
              elim (cases_eq t n) [
                | inl same ↦
                    subst (λ k. AwaitsAt c k new) (sym same)
                    (ends.1 c n mid new are_mid (subst (λ a. TurnedAt kind c n a mid new) (pending_as answer both.1) is))
                | inr other ↦
                    awaits_other t n answer mid new is other
                    (h.awaits both.0 t lane (omega (arith, lt, other)) (lane_before t n answer mid new is other lane has) counts)
              ];
          one = λ pending.
              elim (pending_one before (told_of answer) pending) [
                | inl e ↦
                    let (t, a) = h.one e in
                    elim (cases_eq t n) [
                      | inl same ↦
                          let quiet = (quiet_both before (told_of answer) (inl pending)).1 in
                          (n, ends.1 c n mid new are_mid (subst (λ a. TurnedAt kind c n a mid new) (pending_as answer quiet) is))
                      | inr other ↦ (t, awaits_other t n answer mid new is other a)
                    ]
                | inr e ↦ (n, ends.1 c n mid new are_mid (subst (λ a. TurnedAt kind c n a mid new) (pending_as answer (inl e)) is))
              ];
        }

    -- no turn at trustee n, where no request counts
    idle_chained : (n : ℕ) (before : Turned) (old mid new : Turns V C O R T) → HasChained n before old mid → new ≡ mid
        → ((lane : OneLane V C O R T) → HasLane mid c n lane → lane.counting ≡ 0) → HasChained (suc n) (told_with before Nothing) old new
    idle_chained n before old mid new h same none =
        subst (λ w. HasChained (suc n) (told_with before Nothing) old w) (sym same)
        (record {
          keeps = h.keeps;
          no_more = h.no_more;
          less = λ to_drive d moved.
              elim (moved_one before Nothing moved) [
                | inl e ↦ h.less to_drive d e
                | inr e ↦ absurd cc
              ];
          awaits = λ quiet t lane lt has counts.
              elim (cases_eq t n) [
                | inl at ↦ absurd (counts (none lane (subst (λ k. HasLane mid c k lane) at has)))
                | inr other ↦ h.awaits (quiet_both before Nothing quiet).0 t lane (omega (arith, lt, other)) has counts
              ];
          one = λ pending.
              elim (pending_one before Nothing pending) [
                | inl e ↦ h.one e
                | inr e ↦ absurd cc
              ];
        })

    -- the turns below trustee n, from a whole with this client
    module _ (old : Turns V C O R T) (are : AreTurns kind old) (client : OneClient V C O R T) (of_client : slice_get old.clients.items c ≡ Some client) where
      within : c < length old.clients.items
      within = slice_get_within old.clients.items c client of_client

      pub chained : (n : ℕ) (told : Turned) (tables : List (PlainTable V O R T)) (books : Books V C (PlainClient V O R T) O R T)
          → TurnsBelow (plain_theory kind) kind n told old.tables.items client.books tables books
          → HasChained n told old (staged c old (booked client books) tables) × (length tables ≡ length old.tables.items)
      unfolding TurnsBelow
      chained zero told tables books (nothing, stays, same) = (
        none_chained told old (staged c old (booked client books) tables) nothing
            (record {
              clients =
                  ap (λ b. slice_set old.clients.items c (booked client b)) same ∙ set_same old.clients.items c client of_client;
              tables = items_are old.tables tables (ap length stays) ∙ stays;
              trustees = refl;
              counts = refl;
            }),
        ap length stays,
      )
      chained (suc n) told tables books (mid, book, before, here, below, (lane, there, cases), e) =
          let (h, many) = chained n before mid book below in
          let stage = staged c old (booked client book) mid in
          elim cases [
            | inl (zero_counts, nothing, stays, same) ↦ (
              subst (λ x. HasChained (suc n) x old (staged c old (booked client books) tables)) (ap (told_with before) (sym nothing) ∙ sym e)
                  (idle_chained n before old stage (staged c old (booked client books) tables) h
                  (ap (λ b. staged c old (booked client b) tables) same ∙ ap (staged c old (booked client book)) stays)
                  (λ l has.
                  let client_is : has.client ≡ booked client book =
                  same_element stage.clients.items c (booked client book) has.client (set_here old.clients.items c (booked client book) within) has.of_client in
                  let lane_is : l ≡ lane =
                  same_element book.lanes.items n lane l there (subst (λ x. slice_get x.books.lanes.items n ≡ Some l) client_is has.of_lane) in
                  ap (λ x. x.counting) lane_is ∙ zero_counts)),
              ap length stays ∙ many,
            )
            | inr (counts, (answer, is, at)) ↦ (
              subst (λ x. HasChained (suc n) x old (staged c old (booked client books) tables)) (ap (told_with before) (sym is) ∙ sym e)
                  (turn_chained n before answer old stage (staged c old (booked client books) tables) are h
                  (staged_turn kind c old client within n answer mid tables book books many at)),
              ap length at.tables_are ∙ length-set mid n at.now ∙ many,
            )
          ]
