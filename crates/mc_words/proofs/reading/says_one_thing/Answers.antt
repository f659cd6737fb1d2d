use Rattle.mc_words.proofs.SayingFacts.{says_unique}
use Rattle.mc_words.proofs.reading.says_one_thing.Goals as goal

pub returns : goal.returns
returns c = says_unique
