-- How what a trustee has begins.
use Rattle.std.specs.Prelude.{◌≡◌, ℕ, ◌<◌, List, []}
use Rattle.tm_seq.specs.Kind.{Kind}
use Rattle.tm_batch.specs.declared.config.Config.{Config}
use Rattle.tm_batch.specs.declared.config.First.{First}
use Rattle.tm_model.specs.Opening.{IsBuildable, placed_on, opening_of}
use Rattle.tm_state.specs.StateView.{StateView}
use Rattle.tm_state.specs.Represents.{Represents}

module _ {V : Type 0} where
  -- the objects `first` are those that a whole list of the build places on trustee `number`, in order
  pub record MayOpen (number : ℕ) (config : Config) (whole first : List (First V)) : Type 0 where
    pub buildable : IsBuildable config whole
    pub in_range : number < config.trustees
    pub placed : first ≡ placed_on number whole

  abbrev pub IsOpenable : ℕ → Config → List (First V) → Type 0
  IsOpenable number config first = (whole : List (First V)) × MayOpen number config whole first

-- whatever the whole list is, a trustee has what the state says in which it opens
abbrev pub HasOpened : {V O R T : Type 0} → Kind V O R T → ℕ → Config → List (First V) → StateView V O R T → Type 0
HasOpened {V} {O} {R} {T} kind number config first h =
    (whole : List (First V)) → MayOpen number config whole first → Represents kind (opening_of number config whole) [] h
