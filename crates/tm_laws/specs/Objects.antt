-- What the operations on one object of a trustee did, by its log: the definitions, and the statements, each proved as the contract of a function.
use Rattle.std.specs.Prelude.{◌≡◌, ◌≢◌, ℕ, ◌==◌, cond, List, [], ◌∷◌, ◌++◌}
use Rattle.std.specs.declared.option.Option.TheVariants.{Some}
use Rattle.tm_seq.specs.Kind.{Kind, IsRun}
use Rattle.tm_batch.specs.declared.message.Request.TheVariants.{Apply}
use Rattle.tm_batch.specs.declared.message.Answer.TheVariants.{Replied}
use Rattle.tm_model.specs.declared.entry.Entry.{Entry}
use Rattle.tm_model.specs.declared.entry.Entry.TheVariants.{By}
use Rattle.tm_model.specs.State.{Object, State, object_of}
use Rattle.tm_model.specs.Legal.{IsLegal}
use Rattle.tm_model.specs.History.{history_of, lived}
use Rattle.tm_model.specs.Latched.{tickets_of}
use Rattle.tm_model.specs.Laws.{IsOpening}

-- an operation that was run: the id of its object, the operation and the reply
pub record Run (O R : Type 0) : Type 0 where
  pub id : ℕ
  pub op : O
  pub reply : R

-- of some operations those on the object of an id, each with its reply
abbrev pub on_object : {O R : Type 0} → ℕ → List (Run O R) → List (O × R)
on_object id [] = []
on_object id (run ∷ runs) = cond (run.id == id) ((run.op, run.reply) ∷ on_object id runs) (on_object id runs)

module _ {V O R T : Type 0} where
  -- the operations that a log ran for place c, in order
  abbrev pub runs_for : ℕ → List (Entry V O R T) → List (Run O R)
  runs_for c [] = []
  runs_for c (By d k (Apply n op) (Replied r) ∷ es) = cond (d == c) (record { id = n.id; op = op; reply = r } ∷ runs_for c es) (runs_for c es)
  runs_for c (_ ∷ es) = runs_for c es

  -- the operations that a log ran on the object of an id, each with its reply, in order
  abbrev pub runs_of : ℕ → List (Entry V O R T) → List (O × R)
  runs_of id [] = []
  runs_of id (By c k (Apply n op) (Replied r) ∷ es) = cond (n.id == id) ((op, r) ∷ runs_of id es) (runs_of id es)
  runs_of id (_ ∷ es) = runs_of id es

  -- the value of the object of an id that began as v, behind a log
  abbrev pub value_by : Kind V O R T → V → ℕ → List (Entry V O R T) → V
  value_by kind v id log = (lived kind v [] (history_of id log)).0

  -- operations with these replies lead from one value to another, each lawful
  abbrev pub HaveRun : Kind V O R T → V → List (O × R) → V → Type 0
  HaveRun kind v [] w = w ≡ v
  HaveRun kind v (run ∷ runs) w = (next : V) × IsRun kind v run.0 next run.1 × HaveRun kind next runs w

  module _ (kind : Kind V O R T) where
    -- where no work is launched on an object of the opening, its value goes on by the operations on it alone
    abbrev pub ObjectsRun : Type 0
    ObjectsRun =
        (opening : State V O R T) (log es : List (Entry V O R T)) (id : ℕ) (o : Object V T) → IsOpening opening → IsLegal kind opening (log ++ es)
        → object_of opening.live id ≡ Some o → tickets_of id (log ++ es) ≡ []
        → HaveRun kind (value_by kind o.value id log) (runs_of id es) (value_by kind o.value id (log ++ es))

-- where a log ran no operation but those of one place, those on an object are the place's on it
abbrev pub OnePlaceRuns : Type 0 → Type 0 → Type 0 → Type 0 → Type 0
OnePlaceRuns V O R T =
    (p id : ℕ) (es : List (Entry V O R T)) → ((c : ℕ) → c ≢ p → runs_for c es ≡ []) → runs_of id es ≡ on_object id (runs_for p es)
