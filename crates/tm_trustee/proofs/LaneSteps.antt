-- What a lane is after the launch that asked first was told its reply, and after an ask waits at it.
use Rattle.std.proofs.Common.{◌≡◌, ℕ, zero, suc, ◌≤◌, true, List, [], ◌∷◌, ◌++◌, length, map, slice_index_or, inl, inr, refl, sym, ◌∙◌, ap, subst, arith, append-nil}
use Rattle.std.specs.Prelude.{nat_eq, slice_get, ◌||◌}
use Rattle.std.specs.Cmp.{nat_eq_equiv}
use Rattle.std.specs.List.{AllByRecursion, AllZip, IsDistinct, list_any}
use Rattle.std.specs.declared.option.Option.TheVariants.{Some}
use Rattle.std.proofs.lemmas.Bool.{cases_eq}
use Rattle.std.proofs.lemmas.List.{length-map}
use Rattle.std.proofs.lemmas.Option.{get_or_from_slice_get}
use Rattle.std.proofs.lemmas.Map.Made.{length-le_from_is_member}
use Rattle.std.proofs.Common.{eq-eqb, ne_eqb}
use Rattle.tm_batch.specs.declared.message.Name.{Name}
use Rattle.tm_batch.specs.declared.message.Request.{Request}
use Rattle.tm_batch.specs.declared.message.Request.TheVariants.{Apply}
use Rattle.tm_latch.specs.declared.ticket.Ticket.{Ticket}
use Rattle.tm_model.specs.State.{Work, Object, State, object_of}
use Rattle.tm_model.specs.Serve.{works_in}
use Rattle.tm_model.specs.Legal.{HasFirst}
use Rattle.tm_state.specs.Launches.{Pending}
use Rattle.tm_trustee.specs.NestedAsks.{NestedAsk, ToldReply, target, asked_by, AppliesAmong, IsAmong}
use Rattle.tm_trustee.specs.Lanes.{IsAsker}
use Rattle.tm_trustee.specs.Tasks.{AsksAt, TakesReply}
use Rattle.tm_trustee.specs.declared.lane.Lane.{Lane}
use Rattle.tm_trustee.proofs.Elements.{mapped}
use Rattle.tm_trustee.proofs.LaneRuns.{LaneGoes}

module _ {X Y : Type 0} (P : X → Y → Type 0) where
  pub zip_rest : (first kept : List X) (gone rest : List Y) → AllZip P (first ++ kept) (gone ++ rest) → length first ≡ length gone → AllZip P kept rest
  zip_rest [] kept [] rest zip same = zip
  zip_rest [] kept (y ∷ gone) rest zip same = absurd (omega (arith, same))
  zip_rest (x ∷ first) kept [] rest zip same = absurd (omega (arith, same))
  zip_rest (x ∷ first) kept (y ∷ gone) rest zip same = zip_rest first kept gone rest zip.1 (omega (arith, same))

  pub zip_length : (xs : List X) (ys : List Y) → AllZip P xs ys → length xs ≡ length ys
  zip_length [] [] zip = refl
  zip_length [] (y ∷ ys) zip = absurd zip
  zip_length (x ∷ xs) [] zip = absurd zip
  zip_length (x ∷ xs) (y ∷ ys) zip = let rest = zip_length xs ys zip.1 in omega (arith, rest)

  pub zip_kept : (Q : X → Y → Type 0) (C : Y → Type 0) → ((x : X) (y : Y) → C y → P x y → Q x y) → (xs : List X) (ys : List Y) → AllZip P xs ys → AllByRecursion C ys → AllZip Q xs ys
  zip_kept Q C on [] [] zip all = tt
  zip_kept Q C on [] (y ∷ ys) zip all = absurd zip
  zip_kept Q C on (x ∷ xs) [] zip all = absurd zip
  zip_kept Q C on (x ∷ xs) (y ∷ ys) zip all = (on x y all.0 zip.0, zip_kept Q C on xs ys zip.1 all.1)

module _ {X : Type 0} where
  among_at : (xs : List X) (k : ℕ) (x : X) → slice_get xs k ≡ Some x → IsAmong x xs
  among_at [] k x e = absurd cc
  among_at (y ∷ xs) zero x e = let is : y ≡ x = cc in inl is
  among_at (y ∷ xs) (suc k) x e = inr (among_at xs k x e)

module _ {V O R T : Type 0} where
  -- replies were told to the launches that asked first
  pub record Took (told : List (ToldReply R)) (lane mid : Lane V O R T) : Type 0 where
    pub stage : mid.stage ≡ lane.stage
    pub names : mid.names ≡ lane.names
    pub waits : mid.waits ≡ lane.waits
    pub came : lane.came.items ≡ map (λ t. t.reply) told ++ mid.came.items
    pub came_room : mid.came.capacity ≡ lane.came.capacity
    pub askers : (first : List (Ticket (Pending T))) × (lane.askers.items ≡ first ++ mid.askers.items) × (length first ≡ length told)
    pub askers_room : mid.askers.capacity ≡ lane.askers.capacity

  pub took_none : (told : List (ToldReply R)) (lane mid : Lane V O R T) → told ≡ [] → mid ≡ lane → Took told lane mid
  took_none told lane mid none same =
      subst (λ l. Took l lane mid) (sym none)
      (subst (λ m. Took [] lane m) (sym same)
      (record { stage = refl; names = refl; waits = refl; came = refl; came_room = refl; askers = ([], refl, refl); askers_room = refl }))

  pub took_one :
      (told : List (ToldReply R)) (ticket : ℕ) (reply : R) (launch : Ticket (Pending T)) (lane mid : Lane V O R T)
      → told ≡ record { ticket = ticket; reply = reply } ∷ [] → TakesReply launch reply lane mid → Took told lane mid
  took_one told ticket reply launch lane mid one takes =
      subst (λ l. Took l lane mid) (sym one)
      (record {
        stage = takes.stage;
        names = takes.names;
        waits = takes.waits;
        came = takes.came;
        came_room = takes.came_room;
        askers = (launch ∷ [], takes.askers, refl);
        askers_room = takes.askers_room;
      })

  -- asks wait
  pub record Adds (ids : List ℕ) (s' : State V O R T) (asked : List (NestedAsk O)) (mid becomes : Lane V O R T) : Type 0 where
    pub stage : becomes.stage ≡ mid.stage
    pub names : becomes.names ≡ mid.names
    pub came : becomes.came ≡ mid.came
    pub added : List (Ticket (Pending T))
    pub askers : becomes.askers.items ≡ mid.askers.items ++ added
    pub askers_room : becomes.askers.capacity ≡ mid.askers.capacity
    pub are_askers : AllZip (IsAsker s') added asked
    pub sent : List (Request V O R T)
    pub waits : becomes.waits.items ≡ mid.waits.items ++ sent
    pub waits_room : becomes.waits.capacity ≡ mid.waits.capacity
    pub sent_are : map target asked ≡ asked_by sent
    pub sent_among : AllByRecursion (AppliesAmong ids) sent

  pub adds_none : (ids : List ℕ) (s' : State V O R T) (asked : List (NestedAsk O)) (mid becomes : Lane V O R T) → asked ≡ [] → becomes ≡ mid → Adds ids s' asked mid becomes
  adds_none ids s' asked mid becomes none same =
      subst (λ l. Adds ids s' l mid becomes) (sym none)
      (subst (λ m. Adds ids s' [] mid m) (sym same)
      (record {
        stage = refl;
        names = refl;
        came = refl;
        added = [];
        askers = sym (append-nil mid.askers.items);
        askers_room = refl;
        are_askers = tt;
        sent = [];
        waits = sym (append-nil mid.waits.items);
        waits_room = refl;
        sent_are = refl;
        sent_among = tt;
      }))

  pub adds_one :
      (ids : List ℕ) (s' : State V O R T) (asked : List (NestedAsk O)) (mid becomes : Lane V O R T) (by ticket x : ℕ) (op : O) (launch : Ticket (Pending T))
      → asked ≡ record { by = by; ticket = ticket; id = slice_index_or ids x 0; op = op } ∷ []
      → map (λ n. n.id) mid.names.items ≡ ids → AsksAt x op launch mid becomes
      → IsAsker s' launch (record { by = by; ticket = ticket; id = slice_index_or ids x 0; op = op }) → Adds ids s' asked mid becomes
  adds_one ids s' asked mid becomes by ticket x op launch one names asks is =
      let (name, at, waits) = asks.asks in
      let there : slice_get ids x ≡ Some name.id = subst (λ l. slice_get l x ≡ Some name.id) names (mapped (λ (n : Name). n.id) mid.names.items x name at) in
      let id : slice_index_or ids x 0 ≡ name.id = get_or_from_slice_get ids x name.id 0 there in
      subst (λ l. Adds ids s' l mid becomes) (sym one)
      (record {
        stage = asks.stage;
        names = asks.names;
        came = asks.came;
        added = launch ∷ [];
        askers = asks.askers;
        askers_room = asks.askers_room;
        are_askers = (is, tt);
        sent = Apply name op ∷ [];
        waits = waits;
        waits_room = asks.waits_room;
        sent_are = ap (λ n. (n, op) ∷ []) id;
        sent_among = (among_at ids x name.id there, tt);
      })

  pub both_go :
      (ids : List ℕ) (s' : State V O R T) (told : List (ToldReply R)) (asked : List (NestedAsk O)) (lane mid becomes : Lane V O R T)
      → Took told lane mid → Adds ids s' asked mid becomes → LaneGoes ids s' told asked mid.askers.items lane becomes
  both_go ids s' told asked lane mid becomes took adds = record {
    stage = adds.stage ∙ took.stage;
    names = adds.names ∙ took.names;
    came = took.came ∙ ap (λ c. map (λ t. t.reply) told ++ c.items) (sym adds.came);
    came_room = ap (λ c. c.capacity) adds.came ∙ took.came_room;
    added = adds.added;
    gone = took.askers;
    askers = adds.askers;
    askers_room = adds.askers_room ∙ took.askers_room;
    are_askers = adds.are_askers;
    sent = adds.sent;
    waits = adds.waits ∙ ap (λ c. c.items ++ adds.sent) took.waits;
    waits_room = adds.waits_room ∙ ap (λ c. c.capacity) took.waits;
    sent_are = adds.sent_are;
    sent_among = adds.sent_among;
  }

module _ {V T : Type 0} where
  -- an object with a launch is live
  is_live : (live : List (Object V T)) (id : ℕ) (P : Work T → Type 0) → HasFirst (works_in (object_of live id)) P → list_any (nat_eq id) (map (λ o. o.id) live) ≡ true
  is_live [] id P first = absurd first
  is_live (o ∷ live) id P first =
      elim (cases_eq o.id id) [
        | inl e ↦ ap (λ b. b || list_any (nat_eq id) (map (λ x. x.id) live)) (eq-eqb id o.id (sym e))
        | inr ne ↦
            let later = rw (ne_eqb o.id id ne) at first in
            ap (λ b. b || list_any (nat_eq id) (map (λ x. x.id) live)) (ne_eqb id o.id (λ e. ne (sym e))) ∙ is_live live id P later
      ]

module _ {V O T : Type 0} where
  -- objects whose first launches asked are live: of different ones there are no more than of those
  pub few_asks :
      (live : List (Object V T)) (asks : List (NestedAsk O)) (P : NestedAsk O → Work T → Type 0)
      → AllByRecursion (λ a. HasFirst (works_in (object_of live a.by)) (P a)) asks → IsDistinct nat_eq (map (λ a. a.by) asks) → length asks ≤ length live
  few_asks live asks P all distinct =
      let within = length-le_from_is_member nat_eq_equiv (map (λ a. a.by) asks) (map (λ o. o.id) live) distinct (λ q any. each asks all q any) in
      let asked = length-map asks (λ a. a.by) in
      let there = length-map live (λ o. o.id) in
      omega (arith, within, asked, there)
    where
      each :
          (xs : List (NestedAsk O)) → AllByRecursion (λ a. HasFirst (works_in (object_of live a.by)) (P a)) xs → (q : ℕ)
          → list_any (nat_eq q) (map (λ a. a.by) xs) ≡ true → list_any (nat_eq q) (map (λ o. o.id) live) ≡ true
      each [] all q any = absurd cc
      each (a ∷ xs) all q any =
          elim (cases_eq q a.by) [
            | inl e ↦ subst (λ n. list_any (nat_eq n) (map (λ o. o.id) live) ≡ true) (sym e) (is_live live a.by (P a) all.0)
            | inr ne ↦ each xs all.1 q (sym (ap (λ b. b || list_any (nat_eq q) (map (λ x. x.by) xs)) (ne_eqb q a.by ne)) ∙ any)
          ]
