use Rattle.std.proofs.Common.{length, refl, ap, ◌∙◌}
use Rattle.std.proofs.lemmas.List.{with_items_is}
use Rattle.mc_intake.specs.declared.intake.Came.TheVariants as came
use Rattle.mc_intake.proofs.Reading.{came_in, too_much, some_came}
use Rattle.mc_intake.proofs.intake.Intake.read.Goals as goal

pub returns-then-fed-came-clause-read : goal.returns-then-fed-came-clause-read
returns-then-fed-came-clause-read g c = λ limit text messages is.
    let i = c.args.self.now in
    let into = c.read.new.into in
    let items = with_items_is i.buffer into (c.read.auto.into ∙ c.deref_mut.ensures.len) in
    let room = c.read.auto.into ∙ ap length c.deref_mut.ensures.value ∙ is.room in
    came_in limit text messages i _ into c.in_ok-came.came c.within-fed.result came.TooMuch _ _ is c.requires.fed items room refl refl refl refl c.within-fed.ensures
    c.in_ok-came.ensures.bound c.in_ok-came.ensures.bytes
    (too_much limit text into messages i c.in_ok-came.came c.within-fed.result is c.within-fed.ensures c.if-fed-came.true c.in_ok-came.ensures.bound)

pub returns-else-fed-came-clause-read : goal.returns-else-fed-came-clause-read
returns-else-fed-came-clause-read g c = λ limit text messages is.
    let i = c.args.self.now in
    let into = c.read.new.into in
    let items = with_items_is i.buffer into (c.read.auto.into ∙ c.deref_mut.ensures.len) in
    let room = c.read.auto.into ∙ ap length c.deref_mut.ensures.value ∙ is.room in
    came_in limit text messages i _ into c.in_ok-came.came c.within-fed.result came.Some _ _ is c.requires.fed items room refl refl refl refl c.within-fed.ensures
    c.in_ok-came.ensures.bound c.in_ok-came.ensures.bytes (some_came limit text into messages i c.in_ok-came.came c.within-fed.result is c.within-fed.ensures c.if-fed-came.false c.if-came-eq0.false c.in_ok-came.ensures.bound room)
