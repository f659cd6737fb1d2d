-- Over numbers: after every list of steps that are allowed the slots are good.
use Rattle.std.proofs.Common.{◌≡◌, List, [], ◌∷◌, refl, sym, ap, subst}
use Rattle.tm_model.specs.Slots.{slot_of, first_core, answer}
use Rattle.tm_core.specs.declared.step.Step.{Step}
use Rattle.tm_core.specs.declared.step.Step.TheVariants.{Publish, See, Answer, Collect}
use Rattle.tm_core.specs.Numbers.{NumberCore, mark_of, IsNumbered, batches, batch_entries}
use Rattle.tm_core.specs.Steps.{IsAllowed, AreAllowed, after_step, after_steps, in_hand, AreGood, StepsKeepSlots}
use Rattle.tm_core.proofs.AnswerKeeps.{answer_keeps}
use Rattle.tm_core.proofs.Keeps.{first_good, publish_keeps, see_keeps, collect_keeps}
use Rattle.tm_core.proofs.NumberLogs.{numbers_add}

step_keeps : (step : Step) (core : NumberCore) → IsAllowed core step → AreGood core → AreGood (after_step step core)
step_keeps (Publish c requests) core may good = publish_keeps mark_of batches IsNumbered core c requests.items 0 may good
step_keeps (See c) core may good = see_keeps mark_of batches IsNumbered core c may good
step_keeps (Answer c answers) core may good =
    let b = may.0 in
    let hand : in_hand (slot_of core c).box ≡ b = ap in_hand may.1.is_taken in
    let settled = (good.slots c may.1.in_range).settled in
    subst (λ l. AreGood (answer c answers.items (batch_entries core.log c l answers.items) 0 core)) (sym hand)
    (answer_keeps mark_of batches IsNumbered core c b 0 answers.items (batch_entries core.log c b answers.items) may.1
    (numbers_add core.log c b answers.items may.2 good.is_legal settled) good)
step_keeps (Collect c) core may good = collect_keeps mark_of batches IsNumbered core c may good

steps_keep : (steps : List Step) (core : NumberCore) → AreAllowed core steps → AreGood core → AreGood (after_steps steps core)
steps_keep [] core may good = good
steps_keep (step ∷ steps) core may good = steps_keep steps (after_step step core) may.1 (step_keeps step core may.0 good)

pub steps_keep_slots : StepsKeepSlots
steps_keep_slots places steps may =
    steps_keep steps (first_core places) may (first_good mark_of batches IsNumbered places (λ c. refl) (λ c. refl))
