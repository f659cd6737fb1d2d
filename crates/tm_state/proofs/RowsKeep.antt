-- What is had after a row keeps what the state says then.
use Rattle.std.proofs.Common.{◌≡◌, ℕ, Bool, List, ◌<◌, ◌≤◌, length, length-set, map, slice_index_or, slice_set, inl, inr, sym, ◌∙◌, ap, subst, arith, get_or-set_same, get_or-set_other}
use Rattle.std.proofs.Math.Seq.{map-set_same}
use Rattle.std.proofs.lemmas.Bool.{cases_eq}
use Rattle.tm_seq.specs.Kind.{Kind}
use Rattle.tm_batch.specs.declared.message.Request.{Request}
use Rattle.tm_batch.specs.declared.message.Answer.{Answer}
use Rattle.tm_batch.specs.declared.message.Completion.{Completion}
use Rattle.tm_model.specs.Serve.{served}
use Rattle.tm_model.specs.Legal.{Serves}
use Rattle.tm_model.specs.State.{Object, Place, State, no_place, place_of, with_place, with_live}
use Rattle.tm_model.specs.Holds.{unfinished}
use Rattle.tm_objects.specs.Stock.{Stock}
use Rattle.tm_objects.specs.Standing.{stock_of}
use Rattle.tm_state.specs.StateView.{StateView}
use Rattle.tm_state.specs.Represents.{Keeps}
use Rattle.tm_state.specs.Asking.{IsAsked, HasServed}
use Rattle.tm_state.proofs.RowsWorks.{WorksStay}

module _ {V O R T : Type 0} where
  -- a may answer the request q of place c, and what is had then is what the state says then
  abbrev pub Row : Kind V O R T → State V O R T → ℕ → Request V O R T → Answer V O R T → StateView V O R T → Type 0
  Row kind s c q a new = Serves kind s c q a × Keeps (served kind c q a s) new

  -- what is asked of what is had is asked of the same under another name
  pub asked_as : {opening s : State V O R T} {c : ℕ} {q : Request V O R T} {h k : StateView V O R T} → k ≡ h → IsAsked opening s c q h → IsAsked opening s c q k
  asked_as {opening} {s} {c} {q} e asked = subst (λ x. IsAsked opening s c q x) (sym e) asked

  -- a request is served as the one that it is
  pub served_as :
      (kind : Kind V O R T) (c : ℕ) (a : Answer V O R T) (old new : StateView V O R T) {q p : Request V O R T} → q ≡ p
      → HasServed kind c p a old new → HasServed kind c q a old new
  served_as kind c a old new e served = subst (λ x. HasServed kind c x a old new) (sym e) served

  -- a row that changes the live objects and the next id
  pub keeps_live :
      (s : State V O R T) (h : StateView V O R T) (next_id : ℕ) (live : List (Object V T)) (stock : Stock V) → Keeps s h
      → ((c : ℕ) → unfinished c live ≡ unfinished c s.live) → WorksStay s.live live → stock ≡ stock_of (record s { next_id = next_id; live = live })
      → Keeps (record s { next_id = next_id; live = live }) (record h { stock = stock })
  keeps_live s h next_id live stock k same stay is =
      let kept = stay h.launched (record { works = k.works; known = k.live }) in
      record {
        config = k.config;
        number = k.number;
        stock = is;
        closed = k.closed;
        next_ticket = k.next_ticket;
        works = kept.works;
        live = kept.known;
        awaits = k.awaits;
        ready = k.ready;
        most = λ c lt. let most = k.most c lt in let e = same c in omega (arith, most, e);
      }

  -- a row that changes the live objects and a place, for which no more completions are ready
  pub keeps_places :
      (s : State V O R T) (h : StateView V O R T) (d : ℕ) (p : Place V O R T) (live : List (Object V T)) (stock : Stock V) (closed : List Bool)
      (ready : List (List (Completion V O R T))) → Keeps s h
      → ((c : ℕ) → unfinished c live ≡ unfinished c s.live) → WorksStay s.live live → length p.ready ≤ length (place_of s d).ready
      → stock ≡ stock_of (with_place d p (with_live live s)) → closed ≡ map (λ p. p.is_closed) (slice_set s.places d p)
      → ready ≡ map (λ p. p.ready) (slice_set s.places d p)
      → Keeps (with_place d p (with_live live s)) (record h { stock = stock; closed = closed; ready = ready })
  keeps_places s h d p live stock closed ready k same stay fewer is shut now =
      let long : length (slice_set s.places d p) ≡ length s.places = length-set s.places d p in
      let kept = stay h.launched (record { works = k.works; known = k.live }) in
      record {
        config = k.config;
        number = k.number;
        stock = is;
        closed = shut;
        next_ticket = k.next_ticket;
        works = kept.works;
        live = kept.known;
        awaits = k.awaits;
        ready = now;
        most = λ c lt.
            let within : c < length s.places = omega (arith, long, lt) in
            let most = k.most c within in
            let e = same c in
            elim (cases_eq c d) [
              | inl here ↦
                  let at : d < length s.places = subst (λ x. x < length s.places) here within in
                  let is : slice_index_or (slice_set s.places d p) c no_place ≡ p = ap (λ i. slice_index_or (slice_set s.places d p) i no_place) here ∙ get_or-set_same s.places d p no_place at in
                  let len : length (slice_index_or (slice_set s.places d p) c no_place).ready ≡ length p.ready = ap (λ (q : Place V O R T). length q.ready) is in
                  let own : length (place_of s c).ready ≡ length (place_of s d).ready = ap (λ i. length (place_of s i).ready) here in
                  omega (arith, len, own, fewer, most, e)
              | inr other ↦
                  let len : length (slice_index_or (slice_set s.places d p) c no_place).ready ≡ length (place_of s c).ready =
                  ap (λ (q : Place V O R T). length q.ready) (get_or-set_other s.places d c p no_place other) in
                  omega (arith, len, most, e)
            ];
      }

  -- and one that keeps what is ready
  pub keeps_place :
      (s : State V O R T) (h : StateView V O R T) (d : ℕ) (p : Place V O R T) (live : List (Object V T)) (stock : Stock V) (closed : List Bool) → Keeps s h
      → ((c : ℕ) → unfinished c live ≡ unfinished c s.live) → WorksStay s.live live → p.ready ≡ (place_of s d).ready
      → stock ≡ stock_of (with_place d p (with_live live s)) → closed ≡ map (λ p. p.is_closed) (slice_set s.places d p)
      → Keeps (with_place d p (with_live live s)) (record h { stock = stock; closed = closed })
  keeps_place s h d p live stock closed k same stay ready is shut =
      let as_long = ap length ready in
      keeps_places s h d p live stock closed h.ready k same stay (omega (arith, as_long)) is shut
      (k.ready ∙ sym (map-set_same (λ (q : Place V O R T). q.ready) s.places d p no_place ready))
