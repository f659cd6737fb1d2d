-- A lane that accepts a request.
use Rattle.std.proofs.Common.{◌≡◌, ℕ, ◌+◌, ◌<◌, true, false, List, [], ◌∷◌, ◌++◌, length, map, inl, inr, sym, ◌∙◌, ap, subst, arith, append_assoc, length-append}
use Rattle.std.proofs.lemmas.List.{map-append, length-map}
use Rattle.tm_batch.specs.declared.limits.TheConstants.{WINDOW}
use Rattle.tm_batch.specs.declared.message.Request.{Request}
use Rattle.tm_batch.specs.declared.message.Request.TheVariants.{Entrust, Apply, Launch, Grant, Release, Reclaim, Bye}
use Rattle.tm_model.specs.State.{State}
use Rattle.tm_model.specs.Holds.{Names, gave, came}
use Rattle.tm_model.specs.Orderly.{GrantsBelow}
use Rattle.tm_core.proofs.CallerLemmas.{all-append}
use Rattle.tm_pair.specs.Views.{ClientView}
use Rattle.tm_client.specs.declared.lane.Lane.{Lane}
use Rattle.tm_client.specs.Lanes.{asks_in, out_requests, bringing, IsAccepted, HasAccepted, AreHeld, name_of, names_of, unanswered, IsLane}
use Rattle.tm_client.proofs.Elements.{last_split}

-- so many and one more
pub one_longer : {X : Type 0} (xs : List X) (x : X) → length (xs ++ x ∷ []) ≡ length xs + 1
one_longer xs x = length-append xs (x ∷ [])

module _ {V O R T : Type 0} where
  pub bringing-append : (xs ys : List (Request V O R T)) → bringing (xs ++ ys) ≡ bringing xs + bringing ys
  bringing-append [] ys = omega arith
  bringing-append (Entrust v ∷ xs) ys = let rest = bringing-append xs ys in omega arith
  bringing-append (Apply n op ∷ xs) ys = bringing-append xs ys
  bringing-append (Launch n task ∷ xs) ys = bringing-append xs ys
  bringing-append (Grant n d ∷ xs) ys = bringing-append xs ys
  bringing-append (Release n ∷ xs) ys = bringing-append xs ys
  bringing-append (Reclaim n ∷ xs) ys = let rest = bringing-append xs ys in omega arith
  bringing-append (Bye ∷ xs) ys = bringing-append xs ys

  -- a request that names ids which are still held may wait behind the others
  held_behind :
      (opening : State V O R T) (side : ClientView V O R T) (waits : List (Request V O R T)) (q : Request V O R T) → AreHeld opening side waits
      → ((id : ℕ) → Names q id → gave id (side.sent ++ waits) < came opening side.place side.sent side.got id)
      → AreHeld opening side (waits ++ q ∷ [])
  held_behind opening side waits q are one before after x id e names = elim (last_split waits before after q x e) [
    | inl (mid, p) ↦ are before mid x id p names
    | inr (p, is) ↦
        subst (λ ws. gave id (side.sent ++ ws) < came opening side.place side.sent side.got id) (sym p) (one id (subst (λ y. Names y id) is names))
  ]

module _ {V C D O R T : Type 0} (view : D → ClientView V O R T) where
  -- there is a continuation for each request whose answer did not come
  pub as_many_wait :
      (opening : State V O R T) (c n : ℕ) (lane : Lane V C D O R T) → IsLane view opening c n lane → length lane.afters.items ≡ length (unanswered view lane)
  as_many_wait opening c n lane is =
      sym (length-map lane.afters.items (λ w. w.name)) ∙ ap length is.names ∙ length-map (unanswered view lane) name_of

  -- one request more is unanswered
  pub unanswered_more :
      (lane becomes : Lane V C D O R T) (q : Request V O R T) (after : C) → HasAccepted q after lane becomes
      → unanswered view becomes ≡ unanswered view lane ++ q ∷ []
  unanswered_more lane becomes q after h = rw (h.side, h.waits) (sym (append_assoc (asks_in (out_requests (view lane.side).out)) lane.waits.items (q ∷ [])))

  pub accepting_keeps :
      (opening : State V O R T) (c n : ℕ) (lane becomes : Lane V C D O R T) (q : Request V O R T) (after : C) → IsLane view opening c n lane
      → HasAccepted q after lane becomes → lane.closing ≡ false → lane.counting < WINDOW → IsAccepted q
      → GrantsBelow opening.setup.config.clients q
      → ((id : ℕ) → Names q id → gave id ((view lane.side).sent ++ lane.waits.items) < came opening (view lane.side).place (view lane.side).sent (view lane.side).got id)
      → IsLane view opening c n becomes
  accepting_keeps opening c n lane becomes q after is h closes_not room accepted grant held = record {
    place = rw h.side is.place;
    client = is.client;
    waits_room = h.waits_room ∙ is.waits_room;
    afters_room = h.afters_room ∙ is.afters_room;
    launched_room = rw h.launched is.launched_room;
    names =
        ap names_of h.afters ∙ map-append (λ w. w.name) lane.afters.items ((record { after = after; name = name_of q }) ∷ [])
        ∙ ap (λ ns. ns ++ name_of q ∷ []) is.names
        ∙ sym (ap (map name_of) (unanswered_more lane becomes q after h) ∙ map-append name_of (unanswered view lane) (q ∷ []));
    launched = rw (h.side, h.launched) is.launched;
    counting =
        let same = ap (λ l. length l.items) h.launched in
        let more = ap length (unanswered_more lane becomes q after h) ∙ one_longer (unanswered view lane) q in
        let one = h.counting in
        let was = is.counting in
        omega arith;
    window = let one = h.counting in omega (arith, room);
    out = h.out ∙ rw h.side is.out;
    room = h.room ∙ rw h.side is.room;
    said = h.said ∙ rw h.side is.said;
    last = λ s.
        let was = is.last (sym h.said ∙ s) in
        let both : true ≡ false = sym was.0 ∙ closes_not in absurd cc;
    out_accepted = rw h.side is.out_accepted;
    waits = rw h.waits (all-append IsAccepted lane.waits.items (q ∷ []) is.waits (accepted, tt));
    grants = rw h.waits (all-append (GrantsBelow opening.setup.config.clients) lane.waits.items (q ∷ []) is.grants (grant, tt));
    held = rw (h.side, h.waits) (held_behind opening (view lane.side) lane.waits.items q is.held held);
  }
