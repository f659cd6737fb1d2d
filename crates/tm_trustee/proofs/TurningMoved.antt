-- What a turn did to the tables above, from what its two parts did.
use Rattle.std.proofs.Common.{◌≡◌, ◌≢◌, ℕ, ◌+◌, List, length, inl, inr, ◌∙◌, arith}
use Rattle.std.specs.Prelude.{slice_get}
use Rattle.std.specs.declared.option.Option.TheVariants.{Some}
use Rattle.tm_pair.specs.Theory.{Theory}
use Rattle.tm_trustee.specs.Above.{ExchangesAt, SaysByeAt, GoesUpAt}
use Rattle.tm_trustee.specs.AboveAt.{EachAt}
use Rattle.tm_trustee.proofs.Elements.{there_too, same_element}

module _ {V O R T Table Client Owner : Type 0} (theory : Theory V O R T Table Client Owner) where
  -- where one condition stands for another
  says_as_at :
      (a b : Type 0) → (a → b) → (b → a) → (was now : Table) (old new : Client)
      → SaysByeAt theory a was now old new → SaysByeAt theory b was now old new
  says_as_at a b to from was now old new (inl said) = inl (to said.0, said.1, said.2)
  says_as_at a b to from was now old new (inr (same, kept, inl said)) = inr (same, kept, inl said)
  says_as_at a b to from was now old new (inr (same, kept, inr fails)) = inr (same, kept, inr (λ holds. fails (from holds)))

  pub all_say_at :
      (a b : Type 0) → (a → b) → (b → a) → (from : ℕ) (old new : List Table) (olds news : List Client)
      → EachAt (λ n was now before after. SaysByeAt theory a was now before after) from old new olds news
      → EachAt (λ n was now before after. SaysByeAt theory b was now before after) from old new olds news
  all_say_at a b to back from old new olds news says = λ i was now before after ew en eb ea.
      says_as_at a b to back was now before after (says i was now before after ew en eb ea)

  -- nothing is said where the condition fails
  pub none_say_at :
      (all : Type 0) → (¬ all) → (from : ℕ) (tables : List Table) (sides : List Client)
      → EachAt (λ n was now before after. SaysByeAt theory all was now before after) from tables tables sides sides
  none_say_at all fails from tables sides = λ i was now before after ew en eb ea.
      inr (same_element sides i before after eb ea, same_element tables (from + i) was now ew en, inr fails)

  exchanged_mine : (waits : List (ℕ × O)) (was now : Table) (old new : Client) → ExchangesAt theory waits was now old new → theory.HasClient now new
  exchanged_mine waits was now old new (inl (out, (found, collects, did, keeps))) = keeps.mine
  exchanged_mine waits was now old new (inr (inl (free, some, (batch, all, asked, room, publishes, did, keeps)))) = keeps.mine
  exchanged_mine waits was now old new (inr (inr (free, none, same, view, keeps))) = keeps.mine

  -- both parts together, between which the tables above stayed
  pub goes_up_at :
      (waits : ℕ → Client → List (ℕ × O)) (all : Type 0) (number : ℕ) (a b c d : List Table) (olds mids news : List Client) → length b ≡ length a → length mids ≡ length olds
      → ((t : ℕ) → t ≢ number → slice_get c t ≡ slice_get b t)
      → EachAt (λ n was now before after. ExchangesAt theory (waits n before) was now before after) (number + 1) a b olds mids
      → EachAt (λ n was now before after. SaysByeAt theory all was now before after) (number + 1) c d mids news
      → EachAt (λ n was now before after. GoesUpAt theory (waits n before) all was now before after) (number + 1) a d olds news
  goes_up_at waits all number a b c d olds mids news many sides others looks says = λ i was now before after ew en eb ea.
      let (between, is_between) = there_too a b (number + 1 + i) was many ew in
      let (mid, is_mid) = there_too olds mids i before sides eb in
      let kept : slice_get c (number + 1 + i) ≡ Some between = others (number + 1 + i) (λ e. absurd (omega (arith, e))) ∙ is_between in
      let looked = looks i was between before mid ew is_between eb is_mid in
      (between, mid, looked, exchanged_mine (waits (number + 1 + i) before) was between before mid looked, says i between now mid after kept en is_mid ea)
