-- How what was asked and replied at one trustee joins, message after message: the statements, each proved as the contract of a function.
use Rattle.std.specs.Prelude.{◌≡◌, ℕ, List, ◌++◌, length}
use Rattle.tm_batch.specs.declared.message.Request.{Request}
use Rattle.tm_pair.specs.Views.{ClientView}
use Rattle.tm_asking.specs.Questions.{Question, requests_at, replies_at, HasAskedAll, HasAskedSome}

module _ (V O R T : Type 0) where
  -- all of some, and then all of others, are all of both
  abbrev pub AllJoin : Type 0
  AllJoin =
      (missing : R) (requests more : List (Request V O R T)) (replies others : List R) (was mid now : ClientView V O R T)
      → HasAskedAll missing requests replies was mid → HasAskedAll missing more others mid now
      → HasAskedAll missing (requests ++ more) (replies ++ others) was now

  -- all of some, and then others as far as it came, are both as far as it came
  abbrev pub SomeJoin : Type 0
  SomeJoin =
      (missing : R) (requests more : List (Request V O R T)) (replies others : List R) (was mid now : ClientView V O R T)
      → HasAskedAll missing requests replies was mid → HasAskedSome missing more others mid now
      → HasAskedSome missing (requests ++ more) (replies ++ others) was now

  -- all of some are the first of more
  abbrev pub AllAreSome : Type 0
  AllAreSome =
      (missing : R) (requests more : List (Request V O R T)) (replies : List R) (was now : ClientView V O R T) → HasAskedAll missing requests replies was now
      → HasAskedSome missing (requests ++ more) replies was now

  -- where as many were replied as there are, all were
  abbrev pub SomeAreAll : Type 0
  SomeAreAll =
      (missing : R) (requests : List (Request V O R T)) (replies : List R) (was now : ClientView V O R T) → HasAskedSome missing requests replies was now
      → length replies ≡ length requests → HasAskedAll missing requests replies was now

  -- the questions to one trustee among two lists, and the replies to them
  abbrev pub QuestionsJoin : Type 0
  QuestionsJoin =
      (t : ℕ) (questions more : List (Question V O R T)) (replies others : List R) → length replies ≡ length questions
      → (requests_at t (questions ++ more) ≡ requests_at t questions ++ requests_at t more)
      × (replies_at t (questions ++ more) (replies ++ others) ≡ replies_at t questions replies ++ replies_at t more others)
      × (length (replies_at t questions replies) ≡ length (requests_at t questions))
