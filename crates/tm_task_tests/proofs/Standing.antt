-- What a turn of tasks leaves of their runtime: its trustees are ready still.
use Rattle.std.proofs.Common.{◌≡◌, ◌≢◌, ℕ, ◌<◌, inl, inr, List, [], ◌∷◌, length, length-set, refl, sym, ◌∙◌, ap, subst, arith}
use Rattle.std.specs.Prelude.{slice_get, slice_set}
use Rattle.std.specs.declared.option.Option.TheVariants.{Some}
use Rattle.std.proofs.lemmas.Option.{slice_get_within}
use Rattle.tm_seq.specs.Kind.{Kind}
use Rattle.tm_batch.specs.declared.config.Config.{Config}
use Rattle.tm_batch.specs.declared.config.First.{First}
use Rattle.tm_model.specs.State.{State}
use Rattle.tm_model.specs.Opening.{opening_of}
use Rattle.tm_pair.specs.Plain.{opening_at, client_at, IsClientOf, IsTrusteeOf, plain_theory}
use Rattle.tm_pair.specs.Theory.{Theory}
use Rattle.tm_pair.specs.declared.plain.PlainTable.{PlainTable}
use Rattle.tm_pair.specs.declared.plain.PlainClient.{PlainClient}
use Rattle.tm_trustee.proofs.Elements.{set_cases, set_here, same_element}
use Rattle.tm_trustee.proofs.TurningReady.{at_home, own_table}
use Rattle.tm_trustee.specs.Tables.{IsReady}
use Rattle.tm_client.specs.declared.answers.Turn.{Turn}
use Rattle.tm_client.specs.declared.answers.Turn.TheVariants.{Sent, Pending, Got, Idle}
use Rattle.tm_client.specs.declared.books.Books.{Books}
use Rattle.tm_client.specs.declared.lane.Lane.{Lane}
use Rattle.tm_client.specs.declared.trust.Trust.{Trust}
use Rattle.tm_client.specs.Turns.{HasTurned}
use Rattle.tm_task.specs.declared.deed.Deed.{Deed}
use Rattle.tm_task.specs.declared.deed.Deed.TheVariants.{Added, Started, Asked, Resumed, Turned}
use Rattle.tm_task.specs.Rules.{Rules}
use Rattle.tm_task.specs.Runs.{World, Does, Runs}
use Rattle.tm_turns.specs.Whole.{OneLane, OneTrustee}
use Rattle.tm_turns.proofs.Staying.{joined, still_ready}

module _ {V O R T C D Table Owner : Type 0} (theory : Theory V O R T Table D Owner) (kind : Kind V O R T) where
  -- a lane keeps its place through a turn
  turned_place :
      (t : ℕ) (turn : Turn) (was now : Table) (old new : Books V C D O R T) (h : HasTurned theory kind t turn was now old new)
      → (theory.client_view h.becomes.side).place ≡ (theory.client_view h.lane.side).place
  turned_place t (Sent n) was now old new h = let sent = h.tells in sent.publishes.place
  turned_place t Pending was now old new h = let looked = h.tells in looked.pending.place
  turned_place t (Got n) was now old new h = let got = h.tells in got.gets.place
  turned_place t Idle was now old new h =
      let nothing = h.tells in
      let there : slice_get (slice_set old.lanes.items t h.becomes) t ≡ Some h.becomes =
      set_here old.lanes.items t h.becomes (slice_get_within old.lanes.items t h.lane h.turns.of_lane) in
      let same : slice_get old.lanes.items t ≡ Some h.becomes =
      ap (λ (b : Books V C D O R T). slice_get b.lanes.items t) (sym nothing.kept) ∙ ap (λ xs. slice_get xs t) h.turns.lanes ∙ there in
      ap (λ (l : Lane V C D O R T). (theory.client_view l.side).place) (same_element old.lanes.items t h.lane h.becomes h.turns.of_lane same)

module _ {V O R K : Type 0} (kind : Kind V O R K) (c : ℕ) (config : Config) (first : List (First V)) (trustees : List (OneTrustee V O R K)) where
  -- client c has sides of its place, and the trustees of one build are ready
  pub record Stands (books : Books V ℕ (PlainClient V O R K) O R K) (tables : List (PlainTable V O R K)) : Type 0 where
    pub number : books.number ≡ c
    pub places : (t : ℕ) (lane : OneLane V ℕ O R K) → slice_get books.lanes.items t ≡ Some lane → (client_at lane.side).place ≡ c
    pub many : length tables ≡ config.trustees
    pub opens : (t : ℕ) (table : PlainTable V O R K) → slice_get tables t ≡ Some table → opening_at table ≡ opening_of t config first
    pub ready : (k : ℕ) (trustee : OneTrustee V O R K) → slice_get trustees k ≡ Some trustee
        → (trustee.number ≡ k) × IsReady (plain_theory kind) kind tables trustee

  same_stands :
      (was now : Books V ℕ (PlainClient V O R K) O R K) (before after : List (PlainTable V O R K)) → now ≡ was → after ≡ before → Stands was before
      → Stands now after
  same_stands was now before after e f is = subst (λ b. Stands b after) (sym e) (subst (λ ts. Stands was ts) (sym f) is)

  -- where a lane keeps its side
  lane_stands :
      (t : ℕ) (lane becomes : OneLane V ℕ O R K) (was now : Books V ℕ (PlainClient V O R K) O R K) (before after : List (PlainTable V O R K))
      → slice_get was.lanes.items t ≡ Some lane → now.lanes.items ≡ slice_set was.lanes.items t becomes
      → (client_at becomes.side).place ≡ (client_at lane.side).place → now.number ≡ was.number → after ≡ before → Stands was before → Stands now after
  lane_stands t lane becomes was now before after of_lane lanes same number tables is =
      subst (λ ts. Stands now ts) (sym tables) (record {
        number = number ∙ is.number;
        places = λ s l of.
            elim (set_cases was.lanes.items t s becomes l (subst (λ xs. slice_get xs s ≡ Some l) lanes of)) [
              | inl h ↦ ap (λ (x : OneLane V ℕ O R K). (client_at x.side).place) h.1 ∙ same ∙ is.places t lane of_lane
              | inr h ↦ is.places s l h.1
            ];
        many = is.many;
        opens = is.opens;
        ready = is.ready;
      })

  module _ (below : c < config.clients) (t : ℕ) (turn : Turn) (table becomes : PlainTable V O R K) (was now : Books V ℕ (PlainClient V O R K) O R K)
      (before after : List (PlainTable V O R K)) (of_table : slice_get before t ≡ Some table) (tables : after ≡ slice_set before t becomes)
      (h : HasTurned (plain_theory kind) kind t turn table becomes was now) (is : Stands was before) where
    opens_still : (k : ℕ) (x : PlainTable V O R K) → slice_get after k ≡ Some x → opening_at x ≡ opening_of k config first
    opens_still k x e =
        elim (set_cases before t k becomes x (subst (λ xs. slice_get xs k ≡ Some x) tables e)) [
          | inl i ↦
              ap (λ (y : PlainTable V O R K). opening_at y) i.1 ∙ h.keeps.opening ∙ is.opens t table of_table
              ∙ ap (λ n. opening_of n config first) (sym i.0)
          | inr i ↦ is.opens k x i.1
        ]

    side_still :
        (k : ℕ) (x y : PlainTable V O R K) (side : PlainClient V O R K) → slice_get before k ≡ Some x → slice_get after k ≡ Some y
        → (client_at side).place ≢ c → IsClientOf kind x side → IsClientOf kind y side
    side_still k x y side ex ey ne has =
        joined (λ a b. IsClientOf kind a side → IsClientOf kind b side) (λ a i. i) before t k table becomes x y of_table
        (h.keeps.clients side (λ e. ne (e ∙ is.places t h.lane h.turns.of_lane))) ex (subst (λ xs. slice_get xs k ≡ Some y) tables ey) has

    ready_still :
        (k : ℕ) (trustee : OneTrustee V O R K) → slice_get trustees k ≡ Some trustee
        → (trustee.number ≡ k) × IsReady (plain_theory kind) kind after trustee
    ready_still k trustee e =
        let (number, ready) = is.ready k trustee e in
        let (own, at_own) = own_table (plain_theory kind) kind before trustee ready in
        let home = at_home (plain_theory kind) kind before trustee own ready at_own in
        let clients : trustee.clients ≡ config.clients =
        home.1.clients ∙ ap (λ (s : State V O R K). s.setup.config.clients) (is.opens trustee.number own at_own) in (
          number,
          still_ready (plain_theory kind) kind before after trustee (ap (λ xs. length xs) tables ∙ length-set before t becomes)
              (λ i x y ex ey. opens_still i y ey ∙ sym (is.opens i x ex))
              (λ x y ex ey has.
              joined (λ a b. IsTrusteeOf kind a trustee.side → IsTrusteeOf kind b trustee.side) (λ a i. i) before t trustee.number table becomes x y of_table
              (h.keeps.trustee trustee.side) ex (subst (λ xs. slice_get xs trustee.number ≡ Some y) tables ey) has)
              (λ i x y seat lt ex ey up has. side_still i x y seat ex ey (λ same. omega (arith, up, same, clients, below)) has)
              ready,
        )

    turned_stands : Stands now after
    turned_stands =
        let lane = lane_stands t h.lane h.becomes was now before before h.turns.of_lane h.turns.lanes
        (turned_place (plain_theory kind) kind t turn table becomes was now h) h.turns.number refl is in
        record {
          number = lane.number;
          places = lane.places;
          many = ap (λ xs. length xs) tables ∙ length-set before t becomes ∙ is.many;
          opens = opens_still;
          ready = ready_still;
        }

  module _ {W U : Type 0} (rules : Rules V W U O R K) (trusts : List Trust) (below : c < config.clients) where
    deed_stands :
        (d : Deed V W U O R K) (was now : World V W U O R K (PlainClient V O R K) (PlainTable V O R K)) → Does (plain_theory kind) kind rules trusts d was now
        → Stands was.books was.tables → Stands now.books now.tables
    deed_stands (Added task) was now h is = same_stands was.books now.books was.tables now.tables h.calls.books h.calls.tables is
    deed_stands (Started n move) was now h is = same_stands was.books now.books was.tables now.tables h.calls.books h.calls.tables is
    deed_stands (Asked n i op) was now h is =
        let asked = h.calls.asked in
        lane_stands h.calls.trust.trustee asked.lane asked.becomes was.books now.books was.tables now.tables asked.of_lane asked.lanes
        (ap (λ (s : PlainClient V O R K). (client_at s).place) asked.accepts.side) asked.rest.number h.calls.tables is
    deed_stands (Resumed n got move) was now h is =
        let taken = h.calls.taken in
        lane_stands taken.t taken.lane taken.becomes was.books now.books was.tables now.tables taken.of_lane taken.lanes
        (ap (λ (s : PlainClient V O R K). (client_at s).place) taken.counts.side) taken.number h.calls.tables is
    deed_stands (Turned t turn) was now h is =
        turned_stands below t turn h.calls.table h.calls.becomes was.books now.books was.tables now.tables h.calls.of_table h.calls.tables h.calls.turned is

    -- whatever tasks do through client c
    pub stands_then :
        (deeds : List (Deed V W U O R K)) (was now : World V W U O R K (PlainClient V O R K) (PlainTable V O R K))
        → Runs (plain_theory kind) kind rules trusts deeds was now → Stands was.books was.tables → Stands now.books now.tables
    unfolding Runs
    stands_then [] was now same is =
        subst (λ (w : World V W U O R K (PlainClient V O R K) (PlainTable V O R K)). Stands w.books w.tables) (sym same) is
    stands_then (d ∷ deeds) was now (mid, does, rest) is = stands_then deeds mid now rest (deed_stands d was mid does is)
