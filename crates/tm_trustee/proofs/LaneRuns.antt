-- A lane after a run of launched work: the replies that were told are gone, and what was asked waits.
use Rattle.std.proofs.Common.{◌≡◌, ◌≢◌, ℕ, zero, suc, ◌⊎◌, true, false, List, [], ◌∷◌, ◌++◌, length, map, drop, inl, inr, refl, sym, ◌∙◌, ap, subst, arith, append_assoc, append-nil, length-append}
use Rattle.std.specs.List.{AllByRecursion, AllZip}
use Rattle.std.proofs.lemmas.List.{map-append, length-map}
use Rattle.std.proofs.Math.Seq.{drop-append_seam}
use Rattle.tm_seq.specs.Kind.{Kind}
use Rattle.tm_batch.specs.declared.message.Request.{Request}
use Rattle.tm_batch.specs.declared.message.Request.TheVariants.{Bye}
use Rattle.tm_model.specs.declared.entry.Entry.{Entry}
use Rattle.tm_model.specs.State.{State, ids_above}
use Rattle.tm_model.specs.Serve.{state_after}
use Rattle.tm_model.specs.Holds.{has_bye}
use Rattle.tm_model.specs.Lists.{IsPrefix}
use Rattle.tm_model.specs.Ran.{answered}
use Rattle.tm_core.proofs.CallerLemmas.{all-append}
use Rattle.tm_core.proofs.Lists.{front_empty}
use Rattle.tm_core.proofs.Tallies.{bye_at}
use Rattle.tm_latch.specs.declared.ticket.Ticket.{Ticket}
use Rattle.tm_pair.specs.Views.{ClientView}
use Rattle.tm_state.specs.Launches.{Pending}
use Rattle.tm_trustee.specs.NestedAsks.{NestedAsk, ToldReply, target, asks_of, replies_of, pending_of, asked_by, replied_in, EndsInBye, AppliesAmong}
use Rattle.tm_trustee.specs.Lanes.{IsAsker, IsLane}
use Rattle.tm_trustee.specs.declared.lane.Lane.{Lane}
use Rattle.tm_trustee.proofs.Replied.{asked_by-append}

zip-append : {X Y : Type 0} (P : X → Y → Type 0) (xs more : List X) (ys later : List Y) → AllZip P xs ys → AllZip P more later → AllZip P (xs ++ more) (ys ++ later)
zip-append P [] more [] later h k = k
zip-append P [] more (y ∷ ys) later h k = absurd h
zip-append P (x ∷ xs) more [] later h k = absurd h
zip-append P (x ∷ xs) more (y ∷ ys) later h k = (h.0, zip-append P xs more ys later h.1 k)

no_map : {X Y : Type 0} (f : X → Y) (xs : List X) → map f xs ≡ [] → xs ≡ []
no_map f [] e = refl
no_map f (x ∷ xs) e = absurd cc

map_drop : {X Y : Type 0} (f : X → Y) (n : ℕ) (xs : List X) → drop n (map f xs) ≡ map f (drop n xs)
map_drop f zero xs = refl
map_drop f (suc n) [] = refl
map_drop f (suc n) (x ∷ xs) = map_drop f n xs

empty_or : {X : Type 0} (xs : List X) → (xs ≢ [] → ⊥) → xs ≡ []
empty_or [] none = refl
empty_or (x ∷ xs) none = absurd (none (λ e. absurd cc))

module _ {V O R T : Type 0} where
  pub bye_ends : (sent : List (Request V O R T)) → EndsInBye sent → has_bye sent ≡ false → ⊥
  bye_ends sent (qs, e, none) unsaid = let said : has_bye (qs ++ Bye ∷ []) ≡ true = bye_at qs [] in let both : true ≡ false = sym said ∙ ap has_bye (sym e) ∙ unsaid in absurd cc

  -- what a run did to a lane of trustee u: some replies were told to the first askers, so that the others are kept, and what was asked is last
  pub record LaneGoes (ids : List ℕ) (s' : State V O R T) (told : List (ToldReply R)) (asked : List (NestedAsk O)) (kept : List (Ticket (Pending T)))
      (lane becomes : Lane V O R T) : Type 0 where
    pub stage : becomes.stage ≡ lane.stage
    pub names : becomes.names ≡ lane.names
    pub came : lane.came.items ≡ map (λ t. t.reply) told ++ becomes.came.items
    pub came_room : becomes.came.capacity ≡ lane.came.capacity
    pub added : List (Ticket (Pending T))
    pub gone : (first : List (Ticket (Pending T))) × (lane.askers.items ≡ first ++ kept) × (length first ≡ length told)
    pub askers : becomes.askers.items ≡ kept ++ added
    pub askers_room : becomes.askers.capacity ≡ lane.askers.capacity
    pub are_askers : AllZip (IsAsker s') added asked
    pub sent : List (Request V O R T)
    pub waits : becomes.waits.items ≡ lane.waits.items ++ sent
    pub waits_room : becomes.waits.capacity ≡ lane.waits.capacity
    pub sent_are : map target asked ≡ asked_by sent
    pub sent_among : AllByRecursion (AppliesAmong ids) sent

  module _ (kind : Kind V O R T) (opening : State V O R T) (log es : List (Entry V O R T)) (u : ℕ) (up : ClientView V O R T) (lane becomes : Lane V O R T)
      (told : List (ToldReply R)) (asked rest : List (NestedAsk O)) (kept : List (Ticket (Pending T)))
      (is : IsLane kind opening log u up lane)
      (goes : LaneGoes (ids_above opening.setup u) (state_after kind opening (log ++ es)) told asked kept lane becomes)
      (asks_are : asks_of opening.setup u (log ++ es) ≡ asks_of opening.setup u log ++ asked)
      (replies_are : replies_of kind opening u (log ++ es) ≡ replies_of kind opening u log ++ told)
      (pending_is : pending_of kind opening u (log ++ es) ≡ rest ++ asked)
      (first_told : (gone : List (NestedAsk O)) × (pending_of kind opening u log ≡ gone ++ rest) × (map (λ a. a.ticket) gone ≡ map (λ t. t.ticket) told))
      (still : AllZip (IsAsker (state_after kind opening (log ++ es))) kept rest)
      (unsaid : goes.sent ≢ [] → has_bye up.sent ≡ false) where
    replied : map (λ t. t.reply) (replies_of kind opening u log ++ told) ++ becomes.came.items ≡ map (λ t. t.reply) (replies_of kind opening u log) ++ lane.came.items
    replied =
        ap (λ l. l ++ becomes.came.items) (map-append (λ (t : ToldReply R). t.reply) (replies_of kind opening u log) told)
        ∙ append_assoc (map (λ t. t.reply) (replies_of kind opening u log)) (map (λ t. t.reply) told) becomes.came.items
        ∙ ap (λ l. map (λ t. t.reply) (replies_of kind opening u log) ++ l) (sym goes.came)

    new_answers :
        ((up.sent ≡ []) × (replies_of kind opening u (log ++ es) ≡ []) × (becomes.came.items ≡ []))
        ⊎ (map (λ t. t.reply) (replies_of kind opening u (log ++ es)) ++ becomes.came.items ≡ replied_in (answered up.place up.seen))
    new_answers =
        elim is.answers [
          | inl nothing ↦
              let none : map (λ t. t.reply) told ++ becomes.came.items ≡ [] = sym goes.came ∙ nothing.2 in
              let no_told : told ≡ [] = no_map (λ t. t.reply) told (front_empty (map (λ t. t.reply) told) becomes.came.items none) in
              inl (
                nothing.0,
                replies_are ∙ ap (λ l. l ++ told) nothing.1 ∙ no_told,
                sym (ap (λ l. map (λ t. t.reply) l ++ becomes.came.items) no_told) ∙ none,
              )
          | inr same ↦ inr (ap (λ l. map (λ t. t.reply) l ++ becomes.came.items) replies_are ∙ replied ∙ same)
        ]

    new_tickets : IsPrefix (map (λ t. t.ticket) (replies_of kind opening u (log ++ es))) (map (λ a. a.ticket) (asks_of opening.setup u (log ++ es)))
    new_tickets =
        let replies = replies_of kind opening u log in
        let asks = asks_of opening.setup u log in
        let (after, e) = is.tickets in
        let (gone, split, tickets) = first_told in
        let rest_is : after ≡ map (λ a. a.ticket) (pending_of kind opening u log) =
        sym (drop-append_seam (map (λ t. t.ticket) replies) after) ∙ ap (drop (length (map (λ t. t.ticket) replies))) (sym e)
        ∙ ap (λ n. drop n (map (λ a. a.ticket) asks)) (length-map replies (λ t. t.ticket)) ∙ map_drop (λ a. a.ticket) (length replies) asks in
        let all : after ≡ map (λ t. t.ticket) told ++ map (λ a. a.ticket) rest =
        rest_is ∙ ap (map (λ a. a.ticket)) split ∙ map-append (λ (a : NestedAsk O). a.ticket) gone rest ∙ ap (λ l. l ++ map (λ a. a.ticket) rest) tickets in (
          map (λ a. a.ticket) rest ++ map (λ a. a.ticket) asked,
          ap (map (λ a. a.ticket)) asks_are ∙ map-append (λ (a : NestedAsk O). a.ticket) asks asked ∙ ap (λ l. l ++ map (λ a. a.ticket) asked) (e ∙ ap (λ l. map (λ t. t.ticket) replies ++ l) all)
              ∙ append_assoc (map (λ t. t.ticket) replies) (map (λ t. t.ticket) told ++ map (λ a. a.ticket) rest) (map (λ a. a.ticket) asked)
              ∙ ap (λ l. map (λ t. t.ticket) replies ++ l) (append_assoc (map (λ t. t.ticket) told) (map (λ a. a.ticket) rest) (map (λ a. a.ticket) asked))
              ∙ sym (append_assoc (map (λ t. t.ticket) replies) (map (λ t. t.ticket) told) (map (λ a. a.ticket) rest ++ map (λ a. a.ticket) asked))
              ∙ ap (λ l. l ++ (map (λ a. a.ticket) rest ++ map (λ a. a.ticket) asked)) (sym (map-append (λ (t : ToldReply R). t.ticket) replies told) ∙ ap (map (λ t. t.ticket)) (sym replies_are)),
        )

    -- where nothing more waits, nothing does
    sent_none : EndsInBye up.sent × (lane.waits.items ≡ []) → goes.sent ≡ []
    sent_none ends = empty_or goes.sent (λ some. bye_ends up.sent ends.0 (unsaid some))

    pub lane_goes : IsLane kind opening (log ++ es) u up becomes
    lane_goes = record {
      names = ap (λ v. map (λ n. n.id) v.items) goes.names ∙ is.names;
      asks =
          ap (map target) asks_are ∙ map-append (λ (a : NestedAsk O). target a) (asks_of opening.setup u log) asked ∙ ap (λ l. l ++ map target asked) is.asks
          ∙ ap (λ l. asked_by (up.sent ++ lane.waits.items) ++ l) goes.sent_are ∙ sym (asked_by-append (up.sent ++ lane.waits.items) goes.sent)
          ∙ ap asked_by (append_assoc up.sent lane.waits.items goes.sent) ∙ ap (λ l. asked_by (up.sent ++ l)) (sym goes.waits);
      only = subst (λ l. AllByRecursion (AppliesAmong (ids_above opening.setup u)) l) (sym goes.waits) (all-append (AppliesAmong (ids_above opening.setup u)) lane.waits.items goes.sent is.only goes.sent_among);
      last = elim is.last [
        | inl none ↦ inl none
        | inr ends ↦ inr (ends.0, goes.waits ∙ ap (λ l. lane.waits.items ++ l) (sent_none ends) ∙ append-nil lane.waits.items ∙ ends.1)
      ];
      full = is.full;
      answers = new_answers;
      due =
          let came = ap (λ l. length l) goes.came in
          let both = length-append (map (λ t. t.reply) told) becomes.came.items in
          let size = length-map told (λ t. t.reply) in
          let replies = ap (λ l. length l) replies_are in
          let more = length-append (replies_of kind opening u log) told in
          let due = is.due in omega (arith, came, both, size, replies, more, due);
      tickets = new_tickets;
      askers =
          subst (λ l. AllZip (IsAsker (state_after kind opening (log ++ es))) l (pending_of kind opening u (log ++ es))) (sym goes.askers)
          (subst (λ l. AllZip (IsAsker (state_after kind opening (log ++ es))) (kept ++ goes.added) l) (sym pending_is)
          (zip-append (IsAsker (state_after kind opening (log ++ es))) kept goes.added rest asked still goes.are_askers));
      askers_room = goes.askers_room ∙ is.askers_room;
      waits_room = goes.waits_room ∙ is.waits_room;
      came_room = goes.came_room ∙ is.came_room;
    }
