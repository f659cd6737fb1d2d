-- What a call does to one place of a table in one thread.
use Rattle.std.specs.Prelude.{◌≡◌, false}
use Rattle.std.specs.declared.option.Option.{Option}
use Rattle.std.specs.declared.option.Option.TheVariants.{None, Some}
use Rattle.tm_batch.specs.declared.batch.Batch.{Batch}
use Rattle.tm_pair.specs.declared.table.Collected.{Collected}
use Rattle.tm_pair.specs.declared.table.Collected.TheVariants.{Answers, Pending, Idle}
use Rattle.tm_pair.specs.declared.place.Content.{Content}
use Rattle.tm_pair.specs.declared.place.Content.TheVariants.{Empty, Asked, Taken, Answered}
use Rattle.tm_pair.specs.declared.place.Place.{Place}

module _ {V O R T : Type 0} where
  -- a place at first
  pub record IsNewPlace (place : Place V O R T) : Type 0 where
    pub request_word : place.request_word ≡ false
    pub response_word : place.response_word ≡ false
    pub content : place.content ≡ Empty

  -- the words of a place stay
  pub record KeepsWords (old new : Place V O R T) : Type 0 where
    pub request_word : new.request_word ≡ old.request_word
    pub response_word : new.response_word ≡ old.response_word

  -- a batch that was asked is given and then taken; else nothing is given, and what stands there stays
  abbrev pub Gave : Content V O R T → Content V O R T → Option (Batch V O R T) → Type 0
  Gave (Asked b) new given = (new ≡ Taken) × (given ≡ Some b)
  Gave Empty new given = (new ≡ Empty) × (given ≡ None)
  Gave Taken new given = (new ≡ Taken) × (given ≡ None)
  Gave (Answered a) new given = (new ≡ Answered a) × (given ≡ None)

  -- answers that stand there are found and gone then; else what stands there stays
  abbrev pub Found : Content V O R T → Content V O R T → Collected V O R T → Type 0
  Found (Answered a) new found = (new ≡ Empty) × (found ≡ Answers a)
  Found Empty new found = (new ≡ Empty) × (found ≡ Idle)
  Found (Asked b) new found = (new ≡ Asked b) × (found ≡ Pending)
  Found Taken new found = (new ≡ Taken) × (found ≡ Pending)
