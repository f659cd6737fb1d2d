-- A stream of which some bytes were taken.
use Rattle.std.specs.Prelude.{◌≡◌, ℕ, List, [], ◌∷◌, ◌++◌}
use Rattle.mc_model.specs.declared.message.Message.{Message}
use Rattle.mc_model.specs.declared.message.Message.TheVariants as message
use Rattle.mc_model.specs.Stream.{Spelled, Reads}
use Rattle.mc_grammar.specs.declared.progress.Progress.{Progress}
use Rattle.mc_grammar.specs.declared.progress.Progress.TheVariants.{Ready}
use Rattle.mc_grammar.specs.declared.reader.Next.{Next}
use Rattle.mc_grammar.specs.declared.reader.Next.TheVariants as next
use Rattle.mc_grammar.specs.Progress.{Goes, Start, IsUnfinished}

-- the bytes spell these messages, and then come some that lead from the start to p
pub record IsRead (bytes : List ℕ) (messages : List Message) (p : Progress) : Type 0 where
  pub front : List ℕ
  pub held : List ℕ
  pub parts : bytes ≡ front ++ held
  pub spelled : Spelled front messages
  pub goes : Goes Start held p

-- whatever was read before, so are these bytes now
unfoldable pub ReadsOn : Progress → List ℕ → Progress → Type 0
ReadsOn old taken new =
    (bytes : List ℕ) (messages : List Message) → IsRead bytes messages old → IsRead (bytes ++ taken) messages new

-- whatever was read before, so is this message now
unfoldable pub ReadsItem : Progress → Message → Progress → Type 0
ReadsItem old m new =
    (bytes : List ℕ) (messages : List Message) → IsRead bytes messages old → IsRead bytes (messages ++ m ∷ []) new

-- whatever was read before, the bytes read as those messages, and what is left is a proper front of one
unfoldable pub ReadsRest : Progress → Type 0
ReadsRest p = (bytes : List ℕ) (messages : List Message) (r : IsRead bytes messages p) → Reads bytes messages r.held

-- a message comes where it is whole, and else nothing changes
abbrev pub Comes : Progress → Next → Progress → Type 0
Comes old (next.Command c) new = (old ≡ Ready (message.Command c)) × (new ≡ Start)
Comes old (next.Fault fault) new = (old ≡ Ready (message.Fault fault)) × (new ≡ Start)
Comes old next.More new = IsUnfinished old × (new ≡ old)

-- what comes, said of all that was read
abbrev pub ReadsNext : Progress → Next → Progress → Type 0
ReadsNext old (next.Command c) new = ReadsItem old (message.Command c) new
ReadsNext old (next.Fault fault) new = ReadsItem old (message.Fault fault) new
ReadsNext old next.More new = ReadsRest old
