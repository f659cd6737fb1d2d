-- What each class was asked and replied, by its position among the classes.
use Rattle.std.proofs.Common.{◌≡◌, ℕ, zero, suc, ◌+◌, ◌-◌, ◌*◌, ◌/◌, ◌%◌, ◌<◌, true, false, cond, List, [], ◌∷◌, length, get_or, refl, sym, ◌∙◌, ap, subst, arith, eq-eqb, ne_eqb}
use Rattle.std.specs.Prelude.{◌==◌, Bool}
use Rattle.std.proofs.lemmas.Bool.{eqb-true}
use Rattle.std.proofs.lemmas.Nat.{div-add-mod'}
use Rattle.tm_laws.specs.Objects.{Run, on_object}
use Rattle.mc_model.specs.declared.reply.ShardReply.{ShardReply}
use Rattle.mc_model.specs.Class.{Class}
use Rattle.mc_shard.specs.declared.op.ShardOp.{ShardOp}
use Rattle.mc_route.specs.Places.{trustee_of, index_of}
use Rattle.mc_store_laws.specs.Parts.{IsClassRun, ClassRuns}
use Rattle.mc_desk_laws.proofs.Told.{class_runs}

-- what the operation did to the class of position k among those of which these are the replies: one without a reply was not asked
abbrev pub RunAt : ShardOp → Class → Class → List ShardReply → ℕ → Type 0
RunAt op s w [] k = w ≡ s
RunAt op s w (r ∷ replies) zero = IsClassRun s op w r
RunAt op s w (r ∷ replies) (suc k) = RunAt op s w replies k

-- the classes one after another, with the replies of the first of them
abbrev pub HaveReplied : ShardOp → List Class → List ShardReply → List Class → Type 0
HaveReplied op [] replies new = new ≡ []
HaveReplied op (s ∷ classes) replies [] = ⊥
HaveReplied op (s ∷ classes) [] (w ∷ new) = (w ≡ s) × HaveReplied op classes [] new
HaveReplied op (s ∷ classes) (r ∷ replies) (w ∷ new) = IsClassRun s op w r × HaveReplied op classes replies new

-- ---- the trustee and the index tell the class

same_class : (c j trustees : ℕ) → trustee_of j trustees ≡ trustee_of c trustees → index_of j trustees ≡ index_of c trustees → j ≡ c
same_class c j trustees at index =
    let n : ℕ = trustees - 1 in
    let rest : j % n ≡ c % n = omega (arith, at) in
    sym (div-add-mod' j n) ∙ ap (λ k. k * n + j % n) index ∙ ap (λ k. c / n * n + k) rest ∙ div-add-mod' c n

-- an operation that is of another trustee or another object
not_of : (a : Bool) (other id : ℕ) (op : ShardOp) (r : ShardReply) (runs : List (Run ShardOp ShardReply)) → (a ≡ true → other ≡ id → ⊥)
    → on_object id (cond a (record { id = other; op = op; reply = r } ∷ runs) runs) ≡ on_object id runs
not_of true other id op r runs h =
    ap (λ (t : Bool). let l : List (ShardOp × ShardReply) = cond t ((op, r) ∷ on_object id runs) (on_object id runs) in l) (ne_eqb other id (h refl))
not_of false other id op r runs h = refl

-- and one that is of both
is_of : (a : Bool) (other id : ℕ) (op : ShardOp) (r : ShardReply) (runs : List (Run ShardOp ShardReply)) → a ≡ true → other ≡ id
    → on_object id (cond a (record { id = other; op = op; reply = r } ∷ runs) runs) ≡ (op, r) ∷ on_object id runs
is_of true other id op r runs h e =
    ap (λ (t : Bool). let l : List (ShardOp × ShardReply) = cond t ((op, r) ∷ on_object id runs) (on_object id runs) in l) (eq-eqb other id e)
is_of false other id op r runs h e = absurd cc

module _ (trustees : ℕ) (op : ShardOp) where
  -- what class c was asked of an operation, with its replies, where these are those of classes j, j + 1 and so on
  abbrev pub own_runs : ℕ → ℕ → List ShardReply → List (ShardOp × ShardReply)
  own_runs c j replies = on_object (index_of c trustees + 1) (class_runs trustees op (trustee_of c trustees) j replies)

  other_first : (c j : ℕ) (r : ShardReply) (replies : List ShardReply) → (j ≡ c → ⊥) → own_runs c j (r ∷ replies) ≡ own_runs c (j + 1) replies
  other_first c j r replies ne =
      not_of (trustee_of j trustees == trustee_of c trustees) (index_of j trustees + 1) (index_of c trustees + 1) op r
      (class_runs trustees op (trustee_of c trustees) (j + 1) replies)
      (λ at index.
      let here : trustee_of j trustees ≡ trustee_of c trustees = eqb-true (trustee_of j trustees) (trustee_of c trustees) at in
      ne (same_class c j trustees here (omega (arith, index))))

  own_first : (c j : ℕ) (r : ShardReply) (replies : List ShardReply) → j ≡ c → own_runs c j (r ∷ replies) ≡ (op, r) ∷ own_runs c (j + 1) replies
  own_first c j r replies e =
      is_of (trustee_of j trustees == trustee_of c trustees) (index_of j trustees + 1) (index_of c trustees + 1) op r
      (class_runs trustees op (trustee_of c trustees) (j + 1) replies)
      (eq-eqb (trustee_of j trustees) (trustee_of c trustees) (ap (λ k. trustee_of k trustees) e)) (ap (λ k. index_of k trustees + 1) e)

  none_later : (c j : ℕ) (replies : List ShardReply) → c < j → own_runs c j replies ≡ []
  none_later c j [] past = refl
  none_later c j (r ∷ replies) past = other_first c j r replies (λ e. omega (arith, e, past)) ∙ none_later c (j + 1) replies (omega (arith, past))

  -- a class was asked once, or not at all
  pub run_at : (s w : Class) (replies : List ShardReply) (c j k : ℕ) → c ≡ j + k → ClassRuns s (own_runs c j replies) w → RunAt op s w replies k
  run_at s w [] c j k e h = h
  run_at s w (r ∷ replies) c j zero e h =
      let one : own_runs c j (r ∷ replies) ≡ (op, r) ∷ [] =
      own_first c j r replies (omega (arith, e)) ∙ ap (λ (l : List (ShardOp × ShardReply)). (op, r) ∷ l) (none_later c (j + 1) replies (omega (arith, e))) in
      let run : ClassRuns s ((op, r) ∷ []) w = subst (λ l. ClassRuns s l w) one h in
      subst (λ x. IsClassRun s op x r) (sym run.2) run.1
  run_at s w (r ∷ replies) c j (suc k) e h =
      run_at s w replies c (j + 1) k (omega (arith, e)) (subst (λ l. ClassRuns s l w) (other_first c j r replies (λ is. omega (arith, is, e))) h)

-- ---- all of them

-- classes of which each position is known
pub each_replied : (op : ShardOp) (classes new : List Class) (replies : List ShardReply) (none : ℕ → Class) → length classes ≡ length new
    → ((k : ℕ) → k < length classes → RunAt op (get_or classes k (none k)) (get_or new k (none k)) replies k) → HaveReplied op classes replies new
each_replied op [] [] replies none all each = refl
each_replied op [] (w ∷ new) replies none all each = absurd (omega (arith, all))
each_replied op (s ∷ classes) [] replies none all each = absurd (omega (arith, all))
each_replied op (s ∷ classes) (w ∷ new) [] none all each =
    (each 0 (omega arith), each_replied op classes new [] (λ k. none (suc k)) (omega (arith, all)) (λ k lt. each (suc k) (omega (arith, lt))))
each_replied op (s ∷ classes) (w ∷ new) (r ∷ replies) none all each =
    (each 0 (omega arith), each_replied op classes new replies (λ k. none (suc k)) (omega (arith, all)) (λ k lt. each (suc k) (omega (arith, lt))))
