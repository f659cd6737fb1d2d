-- An operation is applied.
use Rattle.std.proofs.Common.{◌≡◌, ℕ, refl, sym, ◌∙◌, ap, subst}
use Rattle.tm_seq.specs.Kind.{Kind, KindLaws, IsRun}
use Rattle.tm_batch.specs.declared.message.Name.{Name}
use Rattle.tm_batch.specs.declared.message.Request.TheVariants.{Apply}
use Rattle.tm_batch.specs.declared.message.Answer.TheVariants.{Replied}
use Rattle.tm_model.specs.State.{Object, State, place_count, change, with_live}
use Rattle.tm_model.specs.Serve.{value_run}
use Rattle.tm_model.proofs.Running.{run_value}
use Rattle.tm_objects.specs.Live.{HasLive}
use Rattle.tm_objects.specs.Stock.{Stock, changed}
use Rattle.tm_objects.specs.Standing.{stock_of}
use Rattle.tm_objects.proofs.Alike.{changes_alike}
use Rattle.tm_core.proofs.CallerLemmas.{all_weaker}
use Rattle.tm_core.proofs.Unfinished.{unfinished_change}
use Rattle.tm_state.specs.StateView.{StateView}
use Rattle.tm_state.specs.Asking.{IsAsked}
use Rattle.tm_state.proofs.RowsOrder.{alone, change_same, sound_ordered}
use Rattle.tm_state.proofs.RowsKeep.{Row, keeps_live}
use Rattle.tm_state.proofs.RowsWorks.{stay_change}
use Rattle.tm_state.proofs.RowsLive.{HeldAt, held_at, of_object, from_live, is_held}

module _ {V O R T : Type 0} (kind : Kind V O R T) (laws : KindLaws kind) where
  module _ (opening s : State V O R T) (c : ℕ) (h : StateView V O R T) (n : Name) (op : O) (asked : IsAsked opening s c (Apply n op) h) where
    at : HeldAt s h c n.id
    at = held_at n.id refl asked

    -- a lawful operation on the value that is lent
    pub apply_row :
        (v w : V) (r : R) → HasLive h.stock.live n.id (λ o. v ≡ o.value) → IsRun kind v op w r
        → Row kind s c (Apply n op) (Replied r) (record h { stock = changed n.id h.stock w })
    apply_row v w r lent run =
        let k = asked.keeps in
        let o = at.object in
        let value : v ≡ o.value = from_live at (λ x. v ≡ x.value) lent in
        let lawful : IsRun kind o.value op w r = subst (λ x. IsRun kind x op w r) value run in
        let new : w ≡ value_run kind o.value op r = run_value kind laws o.value w op r lawful in
        let f : Object V T → Object V T = λ x. record x { value = value_run kind x.value op r } in
        let only = alone (place_count opening.setup) 1 s.next_id n.id s.live o (sound_ordered opening s asked.sound).rises at.found in
        let same : change n.id (λ x. record x { value = w }) s.live ≡ change n.id f s.live =
        change_same n.id (λ x. record x { value = w }) f s.live
        (all_weaker _ _ s.live
        (λ x is named. ap (λ (z : V). record x { value = z }) (new ∙ ap (λ (y : Object V T). value_run kind y.value op r) (sym (is named)))) only) in (
          (is_held at, of_object at (λ x. IsRun kind x.value op (value_run kind x.value op r) r) (subst (λ x. IsRun kind o.value op x r) new lawful)),
          keeps_live s h s.next_id (change n.id f s.live) (changed n.id h.stock w) k (λ d. unfinished_change d n.id f s.live (λ x. refl))
              (stay_change n.id f s.live (λ x. refl) (λ x. refl))
              (ap (λ (x : Stock V). changed n.id x w) k.stock ∙ sym (changes_alike V O R T n.id w s) ∙ ap (λ l. stock_of (with_live l s)) same),
        )
