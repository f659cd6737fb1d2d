-- How much is before a session, as numbers that can be compared.
use Rattle.std.specs.Prelude.{ℕ, ◌^◌, ◌<◌, Bool, true, false, List, [], ◌∷◌}
use Rattle.mc_next.specs.declared.ahead.Ahead.{Ahead}

abbrev pub one_where : Bool → ℕ
one_where true = 1
one_where false = 0

-- these numbers, in their order
abbrev pub numbers_of : Ahead → List ℕ
numbers_of a = one_where a.runs ∷ a.to_come ∷ a.unfed ∷ one_where a.at_work ∷ one_where a.unwritten ∷ a.unasked ∷ []

-- each is below the bound of its type
pub record IsBounded (a : Ahead) : Type 0 where
  pub to_come : a.to_come < 2 ^ 128
  pub unfed : a.unfed < 2 ^ 64
  pub unasked : a.unasked < 2 ^ 128
