-- What the words behind the program's name say, where a word is its bytes.
use Rattle.std.specs.Prelude.{◌≡◌, ℕ, List, [], ◌∷◌, codes}
use Rattle.mc_words.specs.declared.reading.Words.{Words}
use Rattle.mc_words.specs.declared.reading.Words.TheVariants.{Run, Serve, Load}
use Rattle.mc_words.specs.RunWords.{IsRunInRange, SaysRun}
use Rattle.mc_words.specs.ServeWords.{IsServeInRange, SaysServe}
use Rattle.mc_words.specs.LoadWords.{IsLoadInRange, SaysLoad}

abbrev pub Says : List (List ℕ) → Words → Type 0
Says [] meaning = ⊥
Says (command ∷ options) (Run run) = (command ≡ codes "run") × SaysRun options run
Says (command ∷ options) (Serve serve) = (command ≡ codes "serve") × SaysServe options serve
Says (command ∷ options) (Load load) = (command ≡ codes "load") × SaysLoad options load

-- Each value is one that its option may have. What words say is in range, so that callers need not read the words again.
abbrev pub IsInRange : Words → Type 0
IsInRange (Run run) = IsRunInRange run
IsInRange (Serve serve) = IsServeInRange serve
IsInRange (Load load) = IsLoadInRange load

-- words have at most one meaning
abbrev pub SaysOneThing : Type 0
SaysOneThing = (words : List (List ℕ)) (one other : Words) → Says words one → Says words other → one ≡ other
