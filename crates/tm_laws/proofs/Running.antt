-- The value of an object goes on by the operations on it.
use Rattle.std.proofs.Common.{◌≡◌, ℕ, true, false, cond, List, [], ◌∷◌, ◌++◌, inl, inr, refl, sym, ◌∙◌, ap, subst, append_assoc, append-nil}
use Rattle.std.specs.Prelude.{◌==◌, Bool}
use Rattle.std.specs.declared.option.Option.TheVariants.{Some}
use Rattle.std.proofs.lemmas.List.Elements.{filter-append}
use Rattle.std.proofs.lemmas.Bool.{cases_eq, eq-eqb, ne_eqb}
use Rattle.tm_seq.specs.Kind.{Kind, IsRun}
use Rattle.tm_batch.specs.declared.message.Name.{Name}
use Rattle.tm_batch.specs.declared.message.Request.TheVariants.{Apply, Launch}
use Rattle.tm_batch.specs.declared.message.Answer.TheVariants.{Replied, Launched}
use Rattle.tm_model.specs.declared.entry.Entry.{Entry}
use Rattle.tm_model.specs.declared.entry.Entry.TheVariants.{By, Resume, Sent}
use Rattle.tm_model.specs.State.{Object, State, object_of}
use Rattle.tm_model.specs.Serve.{value_run}
use Rattle.tm_model.specs.Legal.{IsLegal}
use Rattle.tm_model.specs.History.{history_of, lived, tasks_resumed, value_told}
use Rattle.tm_model.specs.Latched.{Resumption, AreRuns, resumes_of}
use Rattle.tm_model.specs.Laws.{IsOpening}
use Rattle.tm_core.proofs.Replies.{replies_are_of_histories}
use Rattle.tm_core.proofs.Latching.{launches_are_latched}
use Rattle.tm_laws.specs.Objects.{runs_of, value_by, HaveRun, ObjectsRun}

cond_append : {X : Type 0} (t : Bool) (a : X) (xs ys : List X) → cond t (a ∷ (xs ++ ys)) (xs ++ ys) ≡ cond t (a ∷ xs) xs ++ ys
cond_append true a xs ys = refl
cond_append false a xs ys = refl

none_behind : {X : Type 0} (xs ys : List X) → xs ++ ys ≡ [] → ys ≡ []
none_behind [] ys e = e
none_behind (x ∷ xs) ys e = absurd cc

none_first : {X : Type 0} (xs ys : List X) → xs ++ ys ≡ [] → xs ≡ []
none_first [] ys e = refl
none_first (x ∷ xs) ys e = absurd cc

module _ {V O R T : Type 0} where
  pub resumes-append : (id : ℕ) (xs ys : List (Entry V O R T)) → resumes_of id (xs ++ ys) ≡ resumes_of id xs ++ resumes_of id ys
  resumes-append id [] ys = refl
  resumes-append id (Resume i ticket event next ∷ xs) ys =
      let r : Resumption O R T = record { ticket = ticket; event = event; next = next } in
      ap (λ l. cond (i == id) (r ∷ l) l) (resumes-append id xs ys) ∙ cond_append (i == id) r (resumes_of id xs) (resumes_of id ys)
  resumes-append id (By c k q a ∷ xs) ys = resumes-append id xs ys
  resumes-append id (Sent c room ∷ xs) ys = resumes-append id xs ys

  module _ (kind : Kind V O R T) where
    -- a history lives on by more
    pub lived-append : (v : V) (tasks : List T) (xs ys : List (Entry V O R T))
        → lived kind v tasks (xs ++ ys) ≡ lived kind (lived kind v tasks xs).0 (lived kind v tasks xs).1 ys
    lived-append v tasks [] ys = refl
    lived-append v tasks (By c k (Apply n op) (Replied r) ∷ xs) ys = lived-append (value_run kind v op r) tasks xs ys
    lived-append v tasks (By c k (Launch n task) (Launched ticket) ∷ xs) ys = lived-append v (tasks ++ task ∷ []) xs ys
    lived-append v tasks (Resume id ticket event next ∷ xs) ys = lived-append (value_told kind v tasks event next) (tasks_resumed tasks next) xs ys
    lived-append v tasks (_ ∷ xs) ys = lived-append v tasks xs ys

    -- the value after an entry that resumes no work of the object
    abbrev acts : ℕ → V → Entry V O R T → V
    acts id v (By c k (Apply n op) (Replied r)) = cond (n.id == id) (value_run kind v op r) v
    acts id v _ = v

    acts_is : (id : ℕ) (v : V) (tasks : List T) (e : Entry V O R T) → resumes_of id (e ∷ []) ≡ [] → (lived kind v tasks (history_of id (e ∷ []))).0 ≡ acts id v e
    acts_is id v tasks (By c k (Apply n op) (Replied r)) none =
        elim (n.id == id) as
        (λ t. (lived kind v tasks (cond t (By c k (Apply n op) (Replied r) ∷ []) [])).0 ≡ cond t (value_run kind v op r) v) [ true ↦ refl | false ↦ refl ]
    acts_is id v tasks (By c k (Launch n task) (Launched ticket)) none =
        elim (n.id == id) as
        (λ t. (lived kind v tasks (cond t (By c k (Launch n task) (Launched ticket) ∷ []) [])).0 ≡ v) [ true ↦ refl | false ↦ refl ]
    acts_is id v tasks (Resume i ticket event next) none =
        let r : Resumption O R T = record { ticket = ticket; event = event; next = next } in
        (elim (i == id) as
        (λ t. cond t (r ∷ []) [] ≡ [] → (lived kind v tasks (cond t (Resume i ticket event next ∷ []) [])).0 ≡ v) [ true ↦ λ e. absurd cc | false ↦ λ e. refl ]) none
    acts_is id v tasks _ none = refl

    value_on : (id : ℕ) (v : V) (log : List (Entry V O R T)) (e : Entry V O R T) → resumes_of id (e ∷ []) ≡ []
        → value_by kind v id (log ++ e ∷ []) ≡ acts id (value_by kind v id log) e
    value_on id v log e none =
        let before = lived kind v [] (history_of id log) in
        ap (λ h. (lived kind v [] h).0) (filter-append _ log (e ∷ []))
        ∙ ap (λ (p : V × List T). p.0) (lived-append v [] (history_of id log) (history_of id (e ∷ [])))
        ∙ acts_is id before.0 before.1 e none

    -- an operation in a legal log is lawful on the value of its object
    is_run : (opening : State V O R T) (log es : List (Entry V O R T)) (o : Object V T) (c k : ℕ) (n : Name) (op : O) (r : R) → IsOpening opening
        → IsLegal kind opening (log ++ By c k (Apply n op) (Replied r) ∷ es) → object_of opening.live n.id ≡ Some o
        → IsRun kind (value_by kind o.value n.id log) op (value_run kind (value_by kind o.value n.id log) op r) r
    is_run opening log es o c k n op r is legal opens =
        let (v, tasks, (v0, first, left), run) = replies_are_of_histories kind opening log es c k n op r is legal in
        let opened = rw opens at first in
        let began : v0 ≡ o.value = cc in
        let same : v ≡ value_by kind o.value n.id log = ap (λ (p : V × List T). p.0) left ∙ ap (λ u. value_by kind u n.id log) began in
        subst (λ u. IsRun kind u op (value_run kind u op r) r) same run

    -- a log whose next entry stands behind it
    one_on : (opening : State V O R T) (log : List (Entry V O R T)) (e : Entry V O R T) (es : List (Entry V O R T)) → IsLegal kind opening (log ++ e ∷ es) → IsLegal kind opening ((log ++ e ∷ []) ++ es)
    one_on opening log e es legal = subst (IsLegal kind opening) (sym (append_assoc log (e ∷ []) es)) legal

    none_later : (id : ℕ) (e : Entry V O R T) (es : List (Entry V O R T)) → resumes_of id (e ∷ es) ≡ [] → resumes_of id es ≡ []
    none_later id e es none = none_behind (resumes_of id (e ∷ [])) (resumes_of id es) (sym (resumes-append id (e ∷ []) es) ∙ none)

    -- what the others did behind the first entry
    behind_one : (v : V) (log : List (Entry V O R T)) (e : Entry V O R T) (es : List (Entry V O R T)) (id : ℕ) → resumes_of id (e ∷ es) ≡ []
        → HaveRun kind (value_by kind v id (log ++ e ∷ [])) (runs_of id es) (value_by kind v id ((log ++ e ∷ []) ++ es))
        → HaveRun kind (acts id (value_by kind v id log) e) (runs_of id es) (value_by kind v id (log ++ e ∷ es))
    behind_one v log e es id none rest =
        let first : resumes_of id (e ∷ []) ≡ [] = none_first (resumes_of id (e ∷ [])) (resumes_of id es) (sym (resumes-append id (e ∷ []) es) ∙ none) in
        subst (λ l. HaveRun kind (acts id (value_by kind v id log) e) (runs_of id es) (value_by kind v id l)) (append_assoc log (e ∷ []) es)
        (subst (λ u. HaveRun kind u (runs_of id es) (value_by kind v id ((log ++ e ∷ []) ++ es))) (value_on id v log e first) rest)

    -- what the entries of a longer log did
    runs_on : (opening : State V O R T) (log es : List (Entry V O R T)) (id : ℕ) (o : Object V T) → IsOpening opening → IsLegal kind opening (log ++ es)
        → object_of opening.live id ≡ Some o → resumes_of id es ≡ [] → HaveRun kind (value_by kind o.value id log) (runs_of id es) (value_by kind o.value id (log ++ es))
    runs_on opening log [] id o is legal opens none = ap (value_by kind o.value id) (append-nil log)
    runs_on opening log (By c k (Apply n op) (Replied r) ∷ es) id o is legal opens none =
        let e : Entry V O R T = By c k (Apply n op) (Replied r) in
        let rest = behind_one o.value log e es id none (runs_on opening (log ++ e ∷ []) es id o is (one_on opening log e es legal) opens (none_later id e es none)) in
        let v = value_by kind o.value id log in
        let w = value_by kind o.value id (log ++ e ∷ es) in
        elim (cases_eq n.id id) [
          | inl same ↦ rw (eq-eqb n.id id same) (
            value_run kind v op r,
            subst (λ i. IsRun kind (value_by kind o.value i log) op (value_run kind (value_by kind o.value i log) op r) r) same
                (is_run opening log es o c k n op r is legal (subst (λ i. object_of opening.live i ≡ Some o) (sym same) opens)),
            subst (λ t. HaveRun kind (cond t (value_run kind v op r) v) (runs_of id es) w) (eq-eqb n.id id same) rest,
          )
          | inr ne ↦ rw (ne_eqb n.id id ne) (subst (λ t. HaveRun kind (cond t (value_run kind v op r) v) (runs_of id es) w) (ne_eqb n.id id ne) rest)
        ]
    runs_on opening log (e ∷ es) id o is legal opens none =
        behind_one o.value log e es id none (runs_on opening (log ++ e ∷ []) es id o is (one_on opening log e es legal) opens (none_later id e es none))

    pub objects_run : ObjectsRun kind
    objects_run opening log es id o is legal opens unlaunched =
        let runs = launches_are_latched kind opening (log ++ es) is legal id in
        let none : resumes_of id (log ++ es) ≡ [] = subst (λ l. AreRuns l (resumes_of id (log ++ es))) unlaunched runs in
        runs_on opening log es id o is legal opens (none_behind (resumes_of id log) (resumes_of id es) (sym (resumes-append id log es) ∙ none))
