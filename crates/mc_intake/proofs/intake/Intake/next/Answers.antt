use Rattle.std.proofs.Common.{◌≡◌, ◌≤◌, ◌<◌, [], length, take, drop, ◌+◌, ◌-◌, ◌⊎◌, refl, subst}
use Rattle.std.specs.Prelude.{◌↔◌}
use Rattle.mc_grammar.specs.Progress.{IsReady}
use Rattle.mc_grammar.specs.Reading.{ReadsOn}
use Rattle.mc_intake.specs.declared.intake.Intake.{Intake}
use Rattle.mc_intake.proofs.Reading.{taking, ends_meet, fewer_unfed}
use Rattle.mc_intake.proofs.intake.Intake.next.Goals as goal

pub returns-clause-next : goal.returns-clause-next
returns-clause-next c = λ limit text messages is.
    let i = c.args.self.now in
    let n = c.in_ok-taken.taken in
    let on = subst (λ l. ReadsOn i.reader (take n (take (i.to - i.from) (drop i.from l))) c.feed.new.self) c.deref.ensures.value c.in_ok-taken.ensures.reads in
    let within = subst (λ l. n ≤ length (take (i.to - i.from) (drop i.from l))) c.deref.ensures.value c.in_ok-taken.ensures.within in
    let through = subst (λ l. n < length (take (i.to - i.from) (drop i.from l)) → IsReady c.feed.new.self) c.deref.ensures.value c.in_ok-taken.ensures.through in
    taking limit text messages i _ n c.feed.new.self c.next.result is refl refl refl refl within on c.next.ensures.comes c.next.ensures.reads through

pub returns-clause-fed : goal.returns-clause-fed
returns-clause-fed c = λ none.
    let (limit, text, messages, is) = c.requires in
    let meet = ends_meet limit text messages c.args.self.now is none in
    absurd (c.if-self.false meet)

pub returns-clause-fewer : goal.returns-clause-fewer
returns-clause-fewer c = λ some.
    let (limit, text, messages, is) = c.requires in
    let i = c.args.self.now in
    let n = c.in_ok-taken.taken in
    let within = subst (λ l. n ≤ length (take (i.to - i.from) (drop i.from l))) c.deref.ensures.value c.in_ok-taken.ensures.within in
    let takes = subst (λ l. (n ≡ 0) ↔ ((take (i.to - i.from) (drop i.from l) ≡ []) ⊎ IsReady i.reader)) c.deref.ensures.value c.in_ok-taken.ensures.takes in
    let new : Intake = record { reader = c.next.new.self; buffer = i.buffer; from = i.from + n; to = i.to; left = i.left } in
    fewer_unfed limit text messages i new n is refl refl refl within takes some
