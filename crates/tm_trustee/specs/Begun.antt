-- How a trustee begins.
use Rattle.std.specs.Prelude.{◌≡◌, ℕ, ◌+◌, List, [], length}
use Rattle.std.specs.declared.option.Option.TheVariants.{None}
use Rattle.tm_seq.specs.Kind.{Kind}
use Rattle.tm_batch.specs.declared.config.Config.{Config}
use Rattle.tm_batch.specs.declared.config.First.{First}
use Rattle.tm_batch.specs.declared.message.Name.{Name}
use Rattle.tm_model.specs.State.{State}
use Rattle.tm_model.specs.Opening.{opening_of}
use Rattle.tm_state.specs.Opened.{MayOpen}
use Rattle.tm_pair.specs.Views.{ClientView, TrusteeView, hand_of}
use Rattle.tm_pair.specs.Theory.{Theory}
use Rattle.tm_trustee.specs.Serving.{AreNested, IsServing}
use Rattle.tm_trustee.specs.declared.trustee.Trustee.{Trustee}

module _ {V O R T : Type 0} where
  -- the parts of the trustee of an opening state, by its number, a config and a whole list of the build: the objects placed on it, those
  -- that it holds above, by their trustees' numbers, and how many sides it has above
  pub record MayBegin (s : State V O R T) (number : ℕ) (config : Config) (whole first : List (First V)) (names : List (ℕ × Name)) (seats : ℕ) : Type 0 where
    pub opens : MayOpen number config whole first
    pub opening : s ≡ opening_of number config whole
    pub nested : AreNested s.setup names
    pub sides : number + 1 + seats ≡ config.trustees

-- they may be the parts of one
abbrev pub IsBeginnable : (V O R T : Type 0) → ℕ → Config → List (First V) → List (ℕ × Name) → ℕ → Type 0
IsBeginnable V O R T number config first names seats =
    (s : State V O R T) × (whole : List (First V)) × MayBegin s number config whole first names seats

-- whatever the whole list is, a trustee is that of its opening state, with nothing resumed
abbrev pub HasBegun : {V O R T Table Client Owner : Type 0} → Theory V O R T Table Client Owner → Kind V O R T → ℕ → Config → List (First V) → Trustee V Table O R T Client Owner → Type 0
HasBegun {V} {O} {R} {T} theory kind number config first t =
    (s : State V O R T) (whole : List (First V)) → MayBegin s number config whole first t.nested.items (length t.above.items) → IsServing theory kind s t

module _ {V O R T : Type 0} where
  -- its own side is as its table gave it: its log is empty, and no batch is in hand
  pub record IsNewHome (view : TrusteeView V O R T) : Type 0 where
    pub log : view.log ≡ []
    pub free : (c : ℕ) → hand_of view c ≡ None

  -- so is a side above: it has the place of a trustee, and sent nothing
  pub record IsNewSeat (c : ℕ) (view : ClientView V O R T) : Type 0 where
    pub place : view.place ≡ c
    pub sent : view.sent ≡ []
    pub out : view.out ≡ None
