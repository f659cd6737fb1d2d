-- What the deeds of the program are to the definitions.
use Rattle.mc_model.specs.Rows.{Effect, Keep, Use, Put, Remove, Outcome}
use Rattle.mc_reference.specs.declared.deed.Deed.{Deed}
use Rattle.mc_reference.specs.declared.deed.Deed.TheVariants as deed
use Rattle.mc_reference.specs.declared.deed.Done.{Done}

-- the effect that a deed is
abbrev pub effect_of : Deed → Effect
effect_of deed.Keep = Keep
effect_of (deed.Use item) = Use item
effect_of (deed.Put item) = Put item
effect_of deed.Remove = Remove

-- the outcome that is concluded
abbrev pub outcome : Done → Outcome
outcome d = record { reply = d.reply; effect = effect_of d.deed; is_store = d.is_store }
