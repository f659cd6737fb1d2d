-- Commands one after another, from nothing stored.
use Rattle.std.proofs.Common.{◌≡◌, ℕ, ◌<◌, ◌≤◌, ◌^◌, Bool, true, false, cond, eqb, List, [], ◌∷◌, Option, None, refl, sym, ap, subst, ◌∙◌, arith}
use Rattle.std.proofs.lemmas.List.FromFn.{get_or-map-range_with_len}
use Rattle.mc_model.specs.declared.message.Command.{Command}
use Rattle.mc_model.specs.declared.reply.ShardReply.{ShardReply}
use Rattle.mc_model.specs.Items.{Items, of_classes}
use Rattle.mc_model.specs.Moments.{latest, moments_from}
use Rattle.mc_model.specs.Class.{Class, new_class}
use Rattle.mc_model.specs.Plain.{Plain, new_store, Runs}
use Rattle.mc_laws.specs.Classes.{new_classes, class_at}
use Rattle.mc_laws.specs.Replies.{ClassesReply, ClassesRun}
use Rattle.mc_laws.specs.Standing.{IsPartOf, StandFor}
use Rattle.mc_laws.specs.Laws.{FirstClassesStand, ClassesRunAsOne}
use Rattle.mc_laws.proofs.Settling.{own}
use Rattle.mc_laws.proofs.Agreement.{Agree, agree_settled}
use Rattle.mc_laws.proofs.Parts.{part_from, stand_later}
use Rattle.mc_laws.proofs.Commands.{reply_as_one}

-- ---- nothing stored

none_own : (class : ℕ) → ◌≡◌ {A = Items} [] (own class [])
unfolding of_classes
none_own class = refl

first_agrees : (class bound : ℕ) → Agree class (new_class class 0 bound) (new_store bound)
first_agrees class bound = record { items = none_own class; pending = refl }

first_part : (class bound : ℕ) → IsPartOf (new_store bound) class (new_class class 0 bound) 0
first_part class bound =
    part_from (new_store bound) class (new_class class 0 bound) 0 (omega arith)
    (record { number = refl; changes = refl; bound = refl; few = omega arith })
    (agree_settled class (new_class class 0 bound) (new_store bound) 0 refl (first_agrees class bound))

first_class : (bound class : ℕ) → class < 64 → class_at (new_classes bound) class ≡ new_class class 0 bound
first_class bound class lt = get_or-map-range_with_len (λ k. new_class k 0 bound) 0 64 class class (new_class class 0 0) lt (omega arith)

pub first_stand : FirstClassesStand
first_stand bound most = record {
  count = refl;
  bound = most;
  not_later = omega arith;
  parts = λ class lt. subst (λ s. IsPartOf (new_store bound) class s 0) (sym (first_class bound class lt)) (first_part class bound);
  stored = refl;
}

-- ---- runs

-- the moments go on at each reading, and none is past 2 ^ 62
run_from :
    (commands : List Command) (readings : List ℕ) (p : Plain) (classes : List Class) (moment : ℕ) (replies : List (List ShardReply)) (new : List Class)
    → StandFor p classes moment → moment ≤ 2 ^ 62 → ClassesRun classes commands (moments_from moment readings) replies new
    → (q : Plain) × Runs p commands (moments_from moment readings) replies q
run_from [] readings p classes moment replies new h most run = (p, (run.0, run.1, refl))
run_from (command ∷ commands) [] p classes moment replies new h most run = absurd (cc (run.5))
run_from (command ∷ commands) (reading ∷ readings) p classes moment replies new h most run =
    let now = latest moment reading in
    let at : run.1 ≡ now = cc (run.5) in
    let left : run.2 ≡ moments_from now readings = cc (run.5) in
    let still = stand_later p classes moment now h (omega arith) in
    let one = reply_as_one p classes now command run.0 run.3 still (omega arith) (subst (λ m. ClassesReply classes command m run.0 run.3) at run.7) in
    let rest = run_from commands readings one.0 run.0 now run.4 new one.2 (omega arith) (subst (λ l. ClassesRun run.0 commands l run.4 new) left run.8) in
    (rest.0, (one.0, now, moments_from now readings, run.3, run.4, refl, run.6, one.1, rest.1))

pub run_as_one : ClassesRunAsOne
run_as_one bound commands readings replies new most run = run_from commands readings (new_store bound) (new_classes bound) 0 replies new (first_stand bound most) (omega arith) run
