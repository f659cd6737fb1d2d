-- A command with one option more.
use Rattle.std.proofs.Common.{◌≡◌, ◌∙◌, ◌<◌, ◌+◌, ℕ, List, [], ◌∷◌, ◌++◌, map, length, take, get_or, ap, ap₂, sym}
use Rattle.std.proofs.lemmas.List.{map-append, take_more}
use Rattle.clap.specs.Words.{App, Rule, Shape, Text, with_rule}
use Rattle.clap.specs.Simple.{new_shape}
use Rattle.mc_words.specs.declared.names.Name.{Name}
use Rattle.mc_words.specs.declared.names.Name.TheVariants.{Trustees}
use Rattle.mc_words.specs.Commands.{rule, subcommand}

pub option_more : (name : Text) (options : List Name) (i : ℕ) (old new : App) (r : Rule) → i < length options → old.top ≡ subcommand name (take i options) → new ≡ with_rule old r
    → r ≡ rule (get_or options i Trustees) → new.top ≡ subcommand name (take (i + 1) options)
option_more name options i old new r inside told added is =
    ap (λ (a : App). a.top) added ∙ ap₂ (λ (s : Shape) (r : Rule). record s { rules = s.rules ++ r ∷ [] }) told is
    ∙ ap (λ (rules : List Rule). record (new_shape name) { rules = rules })
    (sym (ap (map rule) (take_more options i Trustees inside) ∙ map-append rule (take i options) (get_or options i Trustees ∷ [])))
