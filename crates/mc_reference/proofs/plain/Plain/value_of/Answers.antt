use Rattle.std.proofs.Common.{ap, option_map, ◌∙◌}
use Rattle.mc_model.specs.declared.item.Item.{Item}
use Rattle.mc_reference.specs.Found.{live_item}
use Rattle.mc_reference.proofs.Found.{live_item-is}
use Rattle.mc_reference.proofs.plain.Plain.value_of.Goals as goal

pub returns-in-Some : goal.returns-in-Some
returns-in-Some c =
    let s = c.self.inside in
    rw (← c.self.view_is, c.get.ensures)
    (ap (option_map (λ (item : Item). item.value)) (c.in-Some.ensures ∙ ap (live_item s.moment c.args.key.now) c.deref.ensures.value ∙ live_item-is s.moment c.args.key.now s.items.items))

pub returns-in-None : goal.returns-in-None
returns-in-None c =
    let s = c.self.inside in
    rw (← c.self.view_is)
    (ap (option_map (λ (item : Item). item.value)) (c.in-None.ensures ∙ ap (live_item s.moment c.args.key.now) c.deref.ensures.value ∙ live_item-is s.moment c.args.key.now s.items.items))
