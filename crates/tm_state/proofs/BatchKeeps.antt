-- What a trustee has, where its state counts one request more or lets answers leave.
use Rattle.std.proofs.Common.{◌≡◌, ℕ, ◌+◌, List, [], map, slice_index_or, slice_set, refl, sym, ◌∙◌, ap, arith, length-drop}
use Rattle.std.specs.Prelude.{drop}
use Rattle.std.proofs.Math.ListN.{get_or-map}
use Rattle.std.proofs.Math.Seq.{map-set_same}
use Rattle.std.proofs.lemmas.List.{map-set}
use Rattle.tm_batch.specs.declared.message.Completion.{Completion}
use Rattle.tm_batch.specs.declared.message.Name.{Name}
use Rattle.tm_model.specs.State.{Place, State, no_place, place_of}
use Rattle.tm_model.specs.Serve.{counted, sent_off}
use Rattle.tm_objects.specs.Standing.{stock_of}
use Rattle.tm_objects.specs.Stock.{Stock}
use Rattle.tm_state.specs.StateView.{StateView}
use Rattle.tm_state.specs.Represents.{Keeps}
use Rattle.tm_state.proofs.RowsKeep.{keeps_place, keeps_places}

module _ {V O R T : Type 0} where
  -- the counts of requests and entries are no part of it
  recounted : (s : State V O R T) (h : StateView V O R T) (run entries : ℕ) → Keeps s h → Keeps s (record h { run = run; entries = entries })
  recounted s h run entries k = record {
    config = k.config;
    number = k.number;
    stock = k.stock;
    closed = k.closed;
    next_ticket = k.next_ticket;
    works = k.works;
    live = k.live;
    awaits = k.awaits;
    ready = k.ready;
    most = k.most;
  }

  pub keeps_counted :
      (c : ℕ) (s : State V O R T) (h : StateView V O R T) (run entries : ℕ) → Keeps s h → Keeps (counted c s) (record h { run = run; entries = entries })
  keeps_counted c s h run entries k =
      let p : Place V O R T = record (place_of s c) { served = (place_of s c).served + 1 } in
      let gifts = map-set_same (λ (q : Place V O R T). q.gifts) s.places c p no_place refl in
      let closed = map-set_same (λ (q : Place V O R T). q.is_closed) s.places c p no_place refl in
      recounted (counted c s) h run entries
      (keeps_place s h c p s.live h.stock h.closed k (λ _. refl) (λ _ w. w) refl
      (k.stock ∙ ap (λ (g : List (List Name)). record (stock_of s) { gifts = g }) (sym gifts)) (k.closed ∙ sym closed))

  pub keeps_sent :
      (c room : ℕ) (s : State V O R T) (h : StateView V O R T) (stock : Stock V) (ready : List (List (Completion V O R T))) (entries : ℕ) → Keeps s h
      → stock ≡ stock_of (sent_off c room s) → ready ≡ slice_set h.ready c (drop 16 (slice_index_or h.ready c []))
      → Keeps (sent_off c room s) (record h { stock = stock; ready = ready; entries = entries })
  keeps_sent c room s h stock ready entries k is left =
      let p : Place V O R T = record (place_of s c) { gifts = drop room (place_of s c).gifts; ready = drop 16 (place_of s c).ready } in
      let closed = map-set_same (λ (q : Place V O R T). q.is_closed) s.places c p no_place refl in
      let fewer = length-drop 16 (place_of s c).ready in
      let seen : slice_index_or h.ready c [] ≡ (place_of s c).ready = ap (λ l. slice_index_or l c []) k.ready ∙ get_or-map (λ (q : Place V O R T). q.ready) s.places c no_place in
      let now : ready ≡ map (λ q. q.ready) (slice_set s.places c p) =
      left ∙ ap (λ l. slice_set l c (drop 16 (slice_index_or h.ready c []))) k.ready ∙ ap (λ l. slice_set (map (λ (q : Place V O R T). q.ready) s.places) c (drop 16 l)) seen
      ∙ sym (map-set (λ (q : Place V O R T). q.ready) s.places c p) in
      recounted (sent_off c room s) (record h { stock = stock; ready = ready }) h.run entries
      (keeps_places s h c p s.live stock h.closed ready k (λ _. refl) (λ _ w. w) (omega (arith, fewer)) is (k.closed ∙ sym closed) now)
