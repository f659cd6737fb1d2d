-- An object is entrusted.
use Rattle.std.proofs.Common.{◌≡◌, ℕ, ◌+◌, ◌<◌, ◌≤◌, [], ◌∷◌, length, map, slice_set, inl, inr, refl, sym, ◌∙◌, ap, subst, arith}
use Rattle.std.specs.declared.result.Result.{Result}
use Rattle.std.specs.declared.result.Result.TheVariants.{Ok, Err}
use Rattle.std.specs.Result.{IsOkAnd}
use Rattle.std.proofs.lemmas.Bool.{cases_lt}
use Rattle.std.proofs.lemmas.List.{length-map}
use Rattle.tm_seq.specs.Kind.{Kind}
use Rattle.tm_batch.specs.declared.message.Name.{Name}
use Rattle.tm_batch.specs.declared.message.Refusal.{Refusal}
use Rattle.tm_batch.specs.declared.message.Refusal.TheVariants.{ObjectsFull, SerialsSpent}
use Rattle.tm_batch.specs.declared.message.Request.TheVariants.{Entrust}
use Rattle.tm_batch.specs.declared.message.Answer.{Answer}
use Rattle.tm_batch.specs.declared.message.Answer.TheVariants.{Entrusted, NotEntrusted}
use Rattle.std.specs.declared.option.Option.TheVariants.{None}
use Rattle.tm_model.specs.State.{State, object_of}
use Rattle.tm_model.specs.Serve.{served}
use Rattle.tm_model.specs.Serve as serve
use Rattle.tm_model.specs.Legal.{Serves}
use Rattle.tm_objects.specs.Stock.{Stock, entrusted}
use Rattle.tm_objects.specs.Standing.{live_of}
use Rattle.tm_objects.proofs.Alike.{entrusts_alike}
use Rattle.tm_core.proofs.Unfinished.{unfinished-append}
use Rattle.tm_state.specs.StateView.{StateView}
use Rattle.tm_state.specs.Represents.{Keeps}
use Rattle.tm_state.proofs.RowsKeep.{Row, keeps_live}
use Rattle.tm_state.proofs.RowsWorks.{stay_append}

module _ {V O R T : Type 0} (kind : Kind V O R T) (s : State V O R T) (c : ℕ) (v : V) (h : StateView V O R T) (k : Keeps s h) (fresh : object_of s.live s.next_id ≡ None) (stock : Stock V)
    (r : Result Name (Refusal × V))
    (full : h.stock.most ≤ length h.stock.live → (r ≡ Err (ObjectsFull, v)) × (stock ≡ h.stock))
    (spent : length h.stock.live < h.stock.most → h.stock.last_id < h.stock.next_id → (r ≡ Err (SerialsSpent, v)) × (stock ≡ h.stock))
    (taken : length h.stock.live < h.stock.most → h.stock.next_id ≤ h.stock.last_id → IsOkAnd r (λ name. name.id ≡ h.stock.next_id) × (stock ≡ entrusted c v h.stock))
  where
    -- the same of the state
    most : h.stock.most ≡ s.setup.config.objects
    most = ap (λ (x : Stock V). x.most) k.stock

    long : length h.stock.live ≡ length s.live
    long = ap (λ (x : Stock V). length x.live) k.stock ∙ length-map s.live live_of

    next : h.stock.next_id ≡ s.next_id
    next = ap (λ (x : Stock V). x.next_id) k.stock

    last : h.stock.last_id ≡ s.setup.config.last_id
    last = ap (λ (x : Stock V). x.last_id) k.stock

    -- the object is the last
    entrusted_row :
        (name : Name) → name.id ≡ h.stock.next_id → length h.stock.live < h.stock.most → h.stock.next_id ≤ h.stock.last_id → stock ≡ entrusted c v h.stock
        → Row kind s c (Entrust v) (Entrusted name) (record h { stock = stock })
    entrusted_row name named room left is =
        let id : name.id ≡ s.next_id = named ∙ next in (
          (id, omega (arith, room, most, long), omega (arith, left, next, last)),
          keeps_live s h (s.next_id + 1) (serve.entrusted c v name s).live stock k
              (λ d. let more = unfinished-append d s.live (record { id = name.id; value = v; holds = slice_set (map (λ _. 0) s.places) c 1; works = [] } ∷ []) in omega (arith, more))
              (stay_append s.live (record { id = name.id; value = v; holds = slice_set (map (λ _. 0) s.places) c 1; works = [] }) (subst (λ i. object_of s.live i ≡ None) (sym id) fresh) refl)
              (is ∙ ap (entrusted c v) k.stock ∙ sym (entrusts_alike V O R T c v name s id)),
        )

    -- what it gives decides the row: a name
    pub entrust_ok : (name : Name) (a : Answer V O R T) → r ≡ Ok name → a ≡ Entrusted name → Row kind s c (Entrust v) a (record h { stock = stock })
    entrust_ok name a ok is =
        subst (λ x. Row kind s c (Entrust v) x (record h { stock = stock })) (sym is)
        (elim (cases_lt (length h.stock.live) h.stock.most) [
          | inr ge ↦ let bad = (full ge).0 in absurd (cc (bad, ok))
          | inl room ↦
              elim (cases_lt h.stock.last_id h.stock.next_id) [
                | inl lt ↦ let bad = (spent room lt).0 in absurd (cc (bad, ok))
                | inr left ↦
                    let t = taken room left in
                    entrusted_row name (subst (λ x. IsOkAnd x (λ n. n.id ≡ h.stock.next_id)) ok t.0) room left t.1
              ]
        ])

    -- nothing changes
    refused_row : (refusal : Refusal) (back : V) → Serves kind s c (Entrust v) (NotEntrusted refusal back) → stock ≡ h.stock → Row kind s c (Entrust v) (NotEntrusted refusal back) (record h { stock = stock })
    refused_row refusal back may is = (may, subst (λ x. Keeps s (record h { stock = x })) (sym is) k)

    -- or a refusal
    pub entrust_err :
        (refusal : Refusal) (back : V) (a : Answer V O R T) → r ≡ Err (refusal, back) → a ≡ NotEntrusted refusal back
        → Row kind s c (Entrust v) a (record h { stock = stock })
    entrust_err refusal back a err is =
        subst (λ x. Row kind s c (Entrust v) x (record h { stock = stock })) (sym is)
        (elim (cases_lt (length h.stock.live) h.stock.most) [
          | inr ge ↦
              let f = full ge in
              let same : ◌≡◌ {A = Refusal × V} (ObjectsFull, v) (refusal, back) = cc (f.0, err) in
              subst (λ (p : Refusal × V). Row kind s c (Entrust v) (NotEntrusted p.0 p.1) (record h { stock = stock })) same
              (refused_row ObjectsFull v (refl, omega (arith, ge, most, long)) f.1)
          | inl room ↦
              elim (cases_lt h.stock.last_id h.stock.next_id) [
                | inl lt ↦
                    let f = spent room lt in
                    let same : ◌≡◌ {A = Refusal × V} (SerialsSpent, v) (refusal, back) = cc (f.0, err) in
                    subst (λ (p : Refusal × V). Row kind s c (Entrust v) (NotEntrusted p.0 p.1) (record h { stock = stock })) same
                    (refused_row SerialsSpent v (refl, omega (arith, room, most, long), omega (arith, lt, next, last)) f.1)
                | inr left ↦ absurd (subst (λ x. IsOkAnd x (λ n. n.id ≡ h.stock.next_id)) err (taken room left).0)
              ]
        ])
