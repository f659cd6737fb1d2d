-- The launches grow by those that are to begin.
use Rattle.std.proofs.Common.{◌≡◌, List, [], ◌∷◌, ◌++◌, sym, ◌∙◌, ap, append_assoc, append-nil}
use Rattle.tm_latch.specs.declared.ticket.Ticket.{Ticket}
use Rattle.tm_model.specs.State.{Start}
use Rattle.tm_core.proofs.CallerLemmas.{all-append}
use Rattle.tm_state.specs.Launches.{Pending, Grows}

module _ {T : Type 0} where
  pub grows_none : (old new : List (Ticket (Pending T))) → new ≡ old → Grows old new
  grows_none old new is = ([], is ∙ sym (append-nil old), tt)

  pub grows_one : (old new : List (Ticket (Pending T))) (t : Ticket (Pending T)) → new ≡ old ++ t ∷ [] → t.task.awaits ≡ Start → Grows old new
  grows_one old new t is start = (t ∷ [], is, (start, tt))

  pub grows_more : (old mid new : List (Ticket (Pending T))) → Grows old mid → Grows mid new → Grows old new
  grows_more old mid new (xs, one, all) (ys, two, more) =
      (xs ++ ys, two ∙ ap (λ l. l ++ ys) one ∙ append_assoc old xs ys, all-append _ xs ys all more)
