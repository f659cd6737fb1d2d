-- Work is launched.
use Rattle.std.proofs.Common.{◌≡◌, ◌≢◌, ℕ, ◌+◌, ◌<◌, ◌≤◌, true, false, cond, List, [], ◌∷◌, ◌++◌, length, map, inl, inr, refl, sym, ◌∙◌, ap, subst, arith, eq-eqb, ne_eqb}
use Rattle.std.specs.Prelude.{◌==◌, IsSome}
use Rattle.std.specs.List.{AllByRecursion}
use Rattle.std.proofs.lemmas.Bool.{cases_eq}
use Rattle.std.proofs.lemmas.List.{map-append}
use Rattle.tm_seq.specs.Kind.{Kind}
use Rattle.tm_batch.specs.declared.limits.TheConstants.{WINDOW}
use Rattle.tm_batch.specs.declared.message.Name.{Name}
use Rattle.tm_batch.specs.declared.message.Request.TheVariants.{Launch}
use Rattle.tm_batch.specs.declared.message.Answer.TheVariants.{Launched}
use Rattle.tm_latch.specs.declared.ticket.Ticket.{Ticket}
use Rattle.tm_latch.specs.Tickets.{ticket_for, tickets_of}
use Rattle.tm_latch.proofs.Listed.{entered_own, entered_other}
use Rattle.tm_model.specs.State.{Start, Work, Object, State, change, object_of, place_of, place_count}
use Rattle.tm_model.specs.Serve as serve
use Rattle.tm_model.specs.Holds.{unfinished}
use Rattle.tm_objects.specs.Stock.{Stock, begun}
use Rattle.tm_objects.proofs.Alike.{launches_alike}
use Rattle.tm_core.proofs.CallerLemmas.{all_weaker, all-append}
use Rattle.tm_core.proofs.Unfinished.{works_of-append, unfinished_changed}
use Rattle.tm_state.specs.Launches.{Pending, work_of, works_at}
use Rattle.tm_state.specs.StateView.{StateView}
use Rattle.tm_state.specs.Asking.{IsAsked}
use Rattle.tm_state.proofs.RowsOrder.{sound_ordered}
use Rattle.tm_state.proofs.RowsKeep.{Row}
use Rattle.tm_state.proofs.RowsWorks.{map_some}
use Rattle.tm_state.proofs.RowsLive.{HeldAt, held_at, is_held}

-- the objects with a change of one are related as each was
pub all_change :
    {V T : Type 0} (P Q : Object V T → Type 0) (id : ℕ) (f : Object V T → Object V T) (live : List (Object V T))
    → ((o : Object V T) → o.id ≡ id → P o → Q (f o)) → ((o : Object V T) → o.id ≢ id → P o → Q o) → AllByRecursion P live → AllByRecursion Q (change id f live)
all_change P Q id f [] own other h = tt
all_change P Q id f (o ∷ live) own other h =
    elim (cases_eq o.id id) [
      | inl e ↦ rw (eq-eqb o.id id e) (own o e h.0, all_change P Q id f live own other h.1)
      | inr ne ↦ rw (ne_eqb o.id id ne) (other o ne h.0, all_change P Q id f live own other h.1)
    ]

module _ {V O R T : Type 0} (kind : Kind V O R T) (opening s : State V O R T) (c : ℕ) (h : StateView V O R T) (n : Name) (task : T)
    (asked : IsAsked opening s c (Launch n task) h) where
  at : HeldAt s h c n.id
  at = held_at n.id refl asked

  -- one more launch of the place is unfinished
  launched_unfinished : (ticket d : ℕ) → unfinished d (serve.launched c n.id task ticket s).live ≡ unfinished d s.live + cond (c == d) 1 0
  launched_unfinished ticket d =
      let o = at.object in
      let w : Work T = record { place = c; ticket = ticket; task = task; awaits = Start } in
      let more = unfinished_changed (place_count opening.setup) 1 s.next_id d n.id (λ o. record o { works = o.works ++ w ∷ [] }) s.live o
      (sound_ordered opening s asked.sound).rises at.found in
      let joined = works_of-append d o.works (w ∷ []) in
      omega (arith, more, joined)

  launched_most : (ticket d : ℕ) → d < length s.places → unfinished d (serve.launched c n.id task ticket s).live + length (place_of s d).ready ≤ WINDOW
  launched_most ticket d lt =
      let most = asked.keeps.most d lt in
      let more = launched_unfinished ticket d in
      elim (cases_eq c d) [
        | inl e ↦
            let one = rw (eq-eqb c d e) at more in
            let own : unfinished d s.live + length (place_of s d).ready + (1 + 0) ≤ WINDOW = subst (λ x. unfinished x s.live + length (place_of s x).ready + (1 + 0) ≤ WINDOW) e asked.may.launches in
            omega (arith, one, own)
        | inr ne ↦ let none = rw (ne_eqb c d ne) at more in omega (arith, none, most)
      ]

  -- the launch is the last of its object
  works_now :
      (ticket : ℕ) (o : Object V T) → works_at o.id h.launched ≡ o.works → o.id ≡ n.id
      → works_at o.id (h.launched ++ ticket_for n.id ticket (record { place = c; task = task; awaits = Start }) ∷ [])
      ≡ o.works ++ record { place = c; ticket = ticket; task = task; awaits = Start } ∷ []
  works_now ticket o e named =
      let t : Ticket (Pending T) = ticket_for n.id ticket (record { place = c; task = task; awaits = Start }) in
      let own : works_at n.id (h.launched ++ t ∷ []) ≡ works_at n.id h.launched ++ work_of t ∷ [] =
      ap (λ l. map work_of l) (entered_own n.id ticket t.task h.launched) ∙ map-append work_of (tickets_of n.id h.launched) (t ∷ []) in
      ap (λ i. works_at i (h.launched ++ t ∷ [])) named ∙ own
      ∙ ap (λ l. l ++ work_of t ∷ []) (ap (λ i. works_at i h.launched) (sym named) ∙ e)

  works_else :
      (ticket : ℕ) (o : Object V T) → works_at o.id h.launched ≡ o.works → o.id ≢ n.id
      → works_at o.id (h.launched ++ ticket_for n.id ticket (record { place = c; task = task; awaits = Start }) ∷ []) ≡ o.works
  works_else ticket o e other = ap (λ l. map work_of l) (entered_other n.id ticket (record { place = c; task = task; awaits = Start }) h.launched o.id other) ∙ e

  live_now : (ticket id : ℕ) → IsSome (object_of s.live id) → IsSome (object_of (serve.launched c n.id task ticket s).live id)
  live_now ticket id some =
      let w : Work T = record { place = c; ticket = ticket; task = task; awaits = Start } in
      map_some (λ o. cond (o.id == n.id) (record o { works = o.works ++ w ∷ [] }) o) s.live id
      (λ o. elim (o.id == n.id) as (λ t. (cond t (record o { works = o.works ++ w ∷ [] }) o).id ≡ o.id) [ true ↦ refl | false ↦ refl ]) some

  -- the launch is the last of its object and of all, under the next ticket
  launch_row :
      (stock : Stock V) (launched : List (Ticket (Pending T))) → h.next_ticket ≤ h.config.last_id → stock ≡ begun n.id h.stock
      → launched ≡ h.launched ++ ticket_for n.id h.next_ticket (record { place = c; task = task; awaits = Start }) ∷ []
      → Row kind s c (Launch n task) (Launched h.next_ticket) (record h { stock = stock; launched = launched; next_ticket = h.next_ticket + 1 })
  launch_row stock launched room is keeps =
      let k = asked.keeps in
      let next = k.next_ticket in
      let last : h.config.last_id ≡ s.setup.config.last_id = ap (λ x. x.last_id) k.config in
      let ticket = h.next_ticket in
      let w : Work T = record { place = c; ticket = ticket; task = task; awaits = Start } in
      let there : IsSome (object_of s.live n.id) = subst (λ x. IsSome x) (sym at.found) refl in (
        (is_held at, (next, omega (arith, room, next, last))),
        rw keeps (record {
          config = k.config;
          number = k.number;
          stock = is ∙ ap (begun n.id) k.stock ∙ sym (launches_alike V O R T c n.id task ticket s);
          closed = k.closed;
          next_ticket = ap (λ x. x + 1) next;
          works = all_change _ _ n.id (λ o. record o { works = o.works ++ w ∷ [] }) s.live (λ o named e. works_now ticket o e named) (λ o other e. works_else ticket o e other) k.works;
          live = all-append _ h.launched _ (all_weaker _ _ h.launched (λ t some. live_now ticket t.id some) k.live) (live_now ticket n.id there, tt);
          awaits = all-append _ h.launched _ k.awaits (tt, tt);
          ready = k.ready;
          most = launched_most ticket;
        }),
      )

  -- so it is too where its object is named by an id that is the same
  pub launch_found :
      (id : ℕ) (stock : Stock V) (launched : List (Ticket (Pending T))) → id ≡ n.id → h.next_ticket ≤ h.config.last_id → stock ≡ begun id h.stock
      → launched ≡ h.launched ++ ticket_for id h.next_ticket (record { place = c; task = task; awaits = Start }) ∷ []
      → Row kind s c (Launch n task) (Launched h.next_ticket) (record h { stock = stock; launched = launched; next_ticket = h.next_ticket + 1 })
  launch_found id stock launched e room is keeps =
      launch_row stock launched room (is ∙ ap (λ i. begun i h.stock) e)
      (keeps ∙ ap (λ i. h.launched ++ ticket_for i h.next_ticket (record { place = c; task = task; awaits = Start }) ∷ []) e)
