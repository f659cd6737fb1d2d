-- How a request is served, or why it is not.
use Rattle.std.specs.Prelude.{◌≡◌, ℕ, MatchResult}
use Rattle.std.specs.declared.result.Result.{Result}
use Rattle.tm_seq.specs.Kind.{Kind}
use Rattle.tm_batch.specs.declared.message.Request.{Request}
use Rattle.tm_batch.specs.declared.message.Answer.{Answer}
use Rattle.tm_model.specs.declared.entry.Entry.TheVariants.{By}
use Rattle.tm_model.specs.State.{State}
use Rattle.tm_model.specs.Serve.{served}
use Rattle.tm_model.specs.Legal.{Serves, MayCome}
use Rattle.tm_reference.specs.declared.refused.NotServed.{NotServed}
use Rattle.tm_reference.specs.declared.refused.NotServed.TheVariants.{NotLegal, NoMemory}

module _ {V O R T : Type 0} where
  -- the request q of place c comes back: no answer to it may come, or there was no memory
  abbrev pub IsNotServed : Kind V O R T → State V O R T → ℕ → Request V O R T → NotServed V O R T → Type 0
  IsNotServed kind s c q (NotLegal back) = (back ≡ q) × ((k : ℕ) (a : Answer V O R T) → ¬ MayCome kind s (By c k q a))
  IsNotServed kind s c q (NoMemory back) = back ≡ q

  -- a row refuses the request q of a place of the table
  abbrev pub IsRefused : Kind V O R T → State V O R T → ℕ → Request V O R T → NotServed V O R T → Type 0
  IsRefused kind s c q (NotLegal back) = (back ≡ q) × ((a : Answer V O R T) → ¬ Serves kind s c q a)
  IsRefused kind s c q (NoMemory back) = back ≡ q

  -- a row serves the request q of place c, and leaves the state `new`
  abbrev pub IsServed : Kind V O R T → State V O R T → ℕ → Request V O R T → Result (Answer V O R T) (NotServed V O R T) → State V O R T → Type 0
  IsServed kind s c q result new =
      MatchResult result (λ a. Serves kind s c q a × (new ≡ served kind c q a s)) (λ e. IsRefused kind s c q e × (new ≡ s))
