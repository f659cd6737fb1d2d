-- Marks, one for each command that was answered, and of one command more.
use Rattle.std.proofs.Common.{◌≡◌, ℕ, ◌<◌, ◌≤◌, inl, List, [], ◌∷◌, ◌++◌, length, Option, Some, None, refl, sym, ap, subst, arith, append-nil}
use Rattle.tm_asking.specs.Questions.{requests_at, replies_at, HasAskedAll}
use Rattle.mc_model.specs.declared.message.Message.{Message}
use Rattle.mc_model.specs.declared.reply.ShardReply.{ShardReply}
use Rattle.mc_model.specs.declared.reply.ShardReply.TheVariants.{Missing}
use Rattle.mc_model.specs.Showing.{commands_of}
use Rattle.mc_next.specs.declared.session.Session.{Session}
use Rattle.mc_next.specs.declared.work.Work.{Work}
use Rattle.mc_next.specs.Parts.{StoreQuestion, StoreView}
use Rattle.mc_next.specs.Clients.{StoreBooks}
use Rattle.mc_next.specs.Runs.{Setting, SessionView, AreAskedInTurn, last_of}
use Rattle.mc_next.specs.Sessions.{IsAtWork, IsGoing, IsGoingOn}

-- the last of some marks and one more
pub last_more : (before : ℕ → StoreView) (marks : List (ℕ → StoreView)) (mark : ℕ → StoreView) → last_of before (marks ++ mark ∷ []) ≡ mark
last_more before [] mark = refl
last_more before (m ∷ marks) mark = last_more m marks mark

-- what one command asks and is replied, between two marks
abbrev pub IsAskedBetween : ℕ → List StoreQuestion → List ShardReply → (ℕ → StoreView) → (ℕ → StoreView) → Type 0
IsAskedBetween trustees qs rs before mark = (t : ℕ) → t < trustees → HasAskedAll Missing (requests_at t qs) (replies_at t qs rs) (before t) (mark t)

-- one command more was asked in turn
pub turn_more :
    (trustees : ℕ) (questions : List (List StoreQuestion)) (replies : List (List ShardReply)) (before : ℕ → StoreView) (marks : List (ℕ → StoreView))
    (qs : List StoreQuestion) (rs : List ShardReply) (mark : ℕ → StoreView) → AreAskedInTurn trustees questions replies before marks
    → IsAskedBetween trustees qs rs (last_of before marks) mark → AreAskedInTurn trustees (questions ++ qs ∷ []) (replies ++ rs ∷ []) before (marks ++ mark ∷ [])
turn_more trustees [] [] before [] qs rs mark h asks = (asks, tt)
turn_more trustees [] [] before (m ∷ marks) qs rs mark h asks = absurd h
turn_more trustees [] (r ∷ replies) before marks qs rs mark h asks = absurd h
turn_more trustees (q ∷ questions) [] before marks qs rs mark h asks = absurd h
turn_more trustees (q ∷ questions) (r ∷ replies) before [] qs rs mark h asks = absurd h
turn_more trustees (q ∷ questions) (r ∷ replies) before (m ∷ marks) qs rs mark h asks = (h.0, turn_more trustees questions replies m marks qs rs mark h.1 asks)

-- of what is at work one command at most was taken
pub few_at_work : {D : Type 0} (s : Setting) (begun : List Message) (moment : ℕ) (asked : List StoreQuestion) (work : Option Work) (books : StoreBooks D)
    → IsAtWork s begun moment asked work books → length (commands_of begun) ≤ 1
few_at_work s begun moment asked None books (none, nothing, counts) = let e = ap (λ ms. length (commands_of ms)) none in omega (arith, e)
few_at_work s begun moment asked (Some w) books (command, one, is) = let e = ap (λ ms. length (commands_of ms)) one in omega (arith, e)

-- no command was answered
pub none_marked : {D : Type 0} (view : D → StoreView) (s : Setting) (marks : List (ℕ → StoreView)) (first now : SessionView) (books : StoreBooks D) (session : Session)
    → IsGoing view s marks session.stopped session first now books → IsGoingOn view s marks session first now books
none_marked view s marks first now books session going =
    ([], inl refl, subst (λ ms. IsGoing view s ms session.stopped session first now books) (sym (append-nil marks)) going)
