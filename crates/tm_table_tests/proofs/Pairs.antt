-- The two sides that a table of two places begins with.
use Rattle.std.proofs.Common.{◌≡◌, ℕ, ◌<◌, List, [], ◌∷◌, ◌++◌, length, slice_index_or, ◌∙◌, ap, arith, length-append}
use Rattle.tm_seq.specs.Counting.{counter_kind}
use Rattle.tm_seq.specs.declared.counter.Counter.{Counter}
use Rattle.tm_seq.specs.declared.counter.CounterOp.{CounterOp}
use Rattle.tm_seq.specs.declared.counter.CounterReply.{CounterReply}
use Rattle.tm_seq.specs.declared.counter.CounterTask.{CounterTask}
use Rattle.tm_model.specs.State.{State}
use Rattle.tm_pair.specs.Theory.{IsNewTable}
use Rattle.tm_toggle.specs.Shared.{IsSame, shared_theory}
use Rattle.tm_table_tests.specs.Trying.{IsFirstClient}
use Rattle.tm_toggle.specs.declared.sides.SharedClient.{SharedClient}
use Rattle.tm_toggle.specs.declared.sides.SharedTrustee.{SharedTrustee}
use Rattle.tm_toggle.specs.declared.shared.SharedTable.{SharedTable}
use Rattle.tm_toggle.proofs.Carrying.{carries_client}

-- a list of two, taken from behind
pub pair_of : {A : Type 0} (all front rest : List A) (x y : A) → all ≡ front ++ y ∷ [] → front ≡ rest ++ x ∷ [] → length all ≡ 2 → all ≡ x ∷ y ∷ []
pair_of all front [] x y e f two = e ∙ ap (λ l. l ++ y ∷ []) f
pair_of all front (z ∷ rest) x y e f two =
    let a = ap length e in let b = length-append front (y ∷ []) in let c = ap length f in let d = length-append (z ∷ rest) (x ∷ []) in absurd (omega arith)

abbrev A : Type 0
A = SharedTable Counter CounterOp CounterReply CounterTask

abbrev C : Type 0
C = SharedClient Counter CounterOp CounterReply CounterTask

abbrev B : Type 0
B = SharedTrustee Counter CounterOp CounterReply CounterTask

pub first_side :
    (opening : State Counter CounterOp CounterReply CounterTask) (table handle : A) (clients : List C) (owner : B) (c : ℕ) (side : C)
    → IsNewTable (shared_theory counter_kind) opening table clients owner → IsSame table handle → c < length clients → side ≡ slice_index_or clients c side
    → IsFirstClient handle side
first_side opening table handle clients owner c side new same lt is =
    let own = new.clients_are c side lt is in
    record { mine = carries_client counter_kind table handle same side own.mine; view = (c, own.view) }
