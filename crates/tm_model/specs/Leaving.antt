-- What leaves for a place by logs that are joined.
use Rattle.std.specs.Prelude.{◌≡◌, ℕ, List, [], ◌++◌, length}
use Rattle.tm_seq.specs.Kind.{Kind}
use Rattle.tm_model.specs.declared.entry.Entry.{Entry}
use Rattle.tm_model.specs.State.{State}
use Rattle.tm_model.specs.Serve.{state_after}
use Rattle.tm_model.specs.Ran.{waiting_after}
use Rattle.tm_model.specs.Batches.{batches_from, batches}

-- what leaves by a log that is joined of two is what leaves by the first, and then what leaves by the second behind it
abbrev pub BatchesJoin : {V O R T : Type 0} → Kind V O R T → Type 0
BatchesJoin {V} {O} {R} {T} kind =
    (opening : State V O R T) (log es : List (Entry V O R T)) (c : ℕ)
    → batches kind opening c (log ++ es)
    ≡ batches kind opening c log ++ batches_from kind c (length log) (waiting_after c [] log) (state_after kind opening log) es
