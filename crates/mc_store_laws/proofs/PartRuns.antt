-- What the classes did to parts, class by class, they did to the parts one after another.
use Rattle.std.proofs.Common.{◌≡◌, ℕ, zero, suc, ◌<◌, cond, List, [], ◌∷◌, length, inl, inr, refl, sym, ◌∙◌, ap, subst, arith, get_or, ext_get_or}
use Rattle.std.proofs.lemmas.Bool.{cases_eq, eq-eqb, ne_eqb}
use Rattle.std.proofs.lemmas.List.{length-set}
use Rattle.tm_seq.specs.declared.sum.Sum.TheVariants as sum
use Rattle.tm_laws.specs.Objects.{HaveRun}
use Rattle.mc_item.specs.Classes.{class_of}
use Rattle.mc_item.proofs.ClassFacts.{class_of-below}
use Rattle.mc_model.specs.declared.reply.ShardReply.{ShardReply}
use Rattle.mc_model.specs.Class.{Class, new_class}
use Rattle.mc_model.specs.Plain.{Part}
use Rattle.mc_laws.specs.Classes.{class_at, with_class}
use Rattle.mc_laws.specs.Replies.{IsClassPart}
use Rattle.mc_laws.proofs.Parts.{class_at-same, class_at-other}
use Rattle.mc_shard.specs.Shard.{shard_step}
use Rattle.mc_route.specs.Plans.{shard_op}
use Rattle.mc_route.specs.Laws.{PartsAreSteps}
use Rattle.mc_next.specs.Parts.{store_kind}
use Rattle.mc_store_laws.specs.Parts.{IsClassRun, ClassRuns, runs_at, PartsRun, ValuesAreClasses}

-- ---- classes that are the same, one by one

read_any : {X : Type 0} (xs : List X) (k : ℕ) (d e : X) → k < length xs → get_or xs k d ≡ get_or xs k e
read_any [] k d e lt = absurd (omega (arith, lt))
read_any (x ∷ xs) zero d e lt = refl
read_any (x ∷ xs) (suc k) d e lt = read_any xs k d e (omega (arith, lt))

same_classes : (xs ys : List Class) → length xs ≡ 64 → length ys ≡ 64 → ((class : ℕ) → class < 64 → class_at xs class ≡ class_at ys class) → xs ≡ ys
same_classes xs ys many others each =
    let none : Class = new_class 0 0 0 in
    ext_get_or none xs ys (many ∙ sym others) (λ k lt.
    read_any xs k none (new_class k 0 0) lt ∙ each k (omega (arith, lt, many)) ∙ read_any ys k (new_class k 0 0) none (omega (arith, lt, many, others)))

-- ---- one part

-- the classes after the first part, of which its class has become `next`
one_part : PartsAreSteps → (classes : List Class) (part : Part) (moment : ℕ) (next : Class) (reply : ShardReply) → length classes ≡ 64
    → IsClassRun (class_at classes (class_of part.0)) (shard_op part.0 part.1 moment) next reply
    → (new : List Class) × IsClassPart classes part moment new reply × (length new ≡ 64) × (class_at new (class_of part.0) ≡ next)
    × ((other : ℕ) → (other ≡ class_of part.0 → ⊥) → class_at new other ≡ class_at classes other)
one_part part_step classes part moment next reply many run =
    let class = class_of part.0 in
    let s = class_at classes class in
    let step = part_step s part.0 part.1 moment in
    elim run [
      | inl went ↦
          let is = went.0 ∙ ap (λ p. p.0) step in (
            with_class classes class next,
            inl (ap (with_class classes class) is, went.1 ∙ ap (λ p. p.1) step),
            length-set classes class next ∙ many,
            class_at-same classes class next many (class_of-below part.0),
            λ other ne. class_at-other classes class other next ne,
          )
      | inr kept ↦ (classes, inr (refl, kept.1), many, sym kept.0, λ other ne. refl)
    ]

-- ---- all parts

pub parts_run : PartsAreSteps → PartsRun
parts_run part_step classes new [] moment [] many others each runs = (same_classes new classes others many runs, refl)
parts_run part_step classes new [] moment (reply ∷ replies) many others each runs = absurd (omega (arith, each))
parts_run part_step classes new (part ∷ parts) moment [] many others each runs = absurd (omega (arith, each))
parts_run part_step classes new (part ∷ parts) moment (reply ∷ replies) many others each runs =
    let class = class_of part.0 in
    let own = runs class (class_of-below part.0) in
    let first : ClassRuns (class_at classes class) ((shard_op part.0 part.1 moment, reply) ∷ runs_at moment class parts replies) (class_at new class) =
    subst (λ t. ClassRuns (class_at classes class) (cond t ((shard_op part.0 part.1 moment, reply) ∷ runs_at moment class parts replies) (runs_at moment class parts replies)) (class_at new class))
    (eq-eqb class class refl) own in
    let (mid, is_part, fits, here, elsewhere) = one_part part_step classes part moment first.0 reply many first.1 in
    let later : (other : ℕ) → other < 64 → ClassRuns (class_at mid other) (runs_at moment other parts replies) (class_at new other) =
    λ other lt. elim (cases_eq class other) [
      | inl e ↦ subst (λ k. ClassRuns (class_at mid k) (runs_at moment k parts replies) (class_at new k)) e
          (subst (λ s. ClassRuns s (runs_at moment class parts replies) (class_at new class)) (sym here) first.2)
      | inr ne ↦ subst (λ s. ClassRuns s (runs_at moment other parts replies) (class_at new other)) (sym (elsewhere other (λ e. ne (sym e))))
          (subst (λ t. ClassRuns (class_at classes other) (cond t ((shard_op part.0 part.1 moment, reply) ∷ runs_at moment other parts replies) (runs_at moment other parts replies)) (class_at new other))
          (ne_eqb class other ne) (runs other lt))
    ] in
    (mid, reply, replies, refl, is_part, parts_run part_step mid new parts moment replies fits others (omega (arith, each)) later)

-- ---- a class as an object of the store

pub values_are_classes : ValuesAreClasses
values_are_classes s [] v h = (s, h, refl)
values_are_classes s (run ∷ runs) v (next, inl went, rest) =
    let step = shard_step s run.0 in
    let is : next ≡ sum.First step.0 = ap (λ p. p.0) went in
    let (w, leaves, later) = values_are_classes step.0 runs v (subst (λ u. HaveRun store_kind u runs v) is rest) in
    (w, leaves, (step.0, inl (refl, ap (λ p. p.1) went), later))
values_are_classes s (run ∷ runs) v (next, inr kept, rest) =
    let (w, leaves, later) = values_are_classes s runs v (subst (λ u. HaveRun store_kind u runs v) kept.0 rest) in
    (w, leaves, (s, inr (refl, kept.1), later))
