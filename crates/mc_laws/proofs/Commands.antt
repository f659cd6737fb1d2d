-- A command: the store may have the classes' replies, and they stand for what it leaves.
use Rattle.mc_model.specs.declared.message.Command.TheVariants as command
use Rattle.mc_model.specs.Plain.{parts_of}
use Rattle.mc_laws.specs.Laws.{ClassesReplyAsOne}
use Rattle.mc_laws.proofs.Stores.{parts_as_one}
use Rattle.mc_laws.proofs.Flushes.{flush_as_one}
use Rattle.mc_laws.proofs.Counts.{count_as_one}

pub reply_as_one : ClassesReplyAsOne
reply_as_one p classes moment (command.FlushAll delay quiet) new replies h most r = flush_as_one p classes delay moment new replies h most r
reply_as_one p classes moment command.Stats new replies h most r = count_as_one p classes moment new replies h r
reply_as_one p classes moment command new replies h most r = parts_as_one (parts_of command) p classes moment new replies h most r
