-- Why a build is refused.
use Rattle.std.specs.Prelude.{◌≡◌, List}
use Rattle.tm_batch.specs.declared.config.Config.{Config}
use Rattle.tm_batch.specs.declared.config.First.{First}
use Rattle.tm_model.specs.Opening.{IsBuildable}
use Rattle.tm_build.specs.declared.refused.BuildRefused.{BuildRefused}
use Rattle.tm_build.specs.declared.refused.BuildRefused.TheVariants.{BadConfig, NoMemory}

-- the config and the list of a build may not be built from, and the list comes back; or they may, and there was no memory
abbrev pub IsRefusal : {V : Type 0} → Config → List (First V) → BuildRefused V → Type 0
IsRefusal config first (BadConfig back) = (¬ (IsBuildable config first)) × (back.items ≡ first)
IsRefusal config first NoMemory = IsBuildable config first
