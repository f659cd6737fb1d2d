-- After a fault or for want of memory the replies that come are dropped.
use Rattle.std.proofs.Common.{◌≡◌, ℕ, ◌<◌, ◌≤◌, List, [], ◌∷◌, length, map, Some, None, refl, ◌∙◌, ap, subst, arith, length-append}
use Rattle.std.specs.Prelude.{slice_get}
use Rattle.std.specs.List.{AllByRecursion}
use Rattle.std.proofs.lemmas.List.{length-map}
use Rattle.tm_batch.specs.declared.message.Answer.{Answer}
use Rattle.tm_model.specs.declared.entry.Entry.{Entry}
use Rattle.tm_client.specs.declared.answers.Arrival.{Arrival}
use Rattle.tm_client.specs.declared.answers.Came.{Came}
use Rattle.tm_client.specs.Clients.{MayHand, IsClient}
use Rattle.tm_client.proofs.Elements.{element_at}
use Rattle.tm_asking.specs.Asking.{IsAsking, IsCome, come_at, numbers_at}
use Rattle.tm_asking.proofs.Taking.{come_here}
use Rattle.mc_model.specs.declared.reply.ShardReply.{ShardReply}
use Rattle.mc_model.specs.declared.reply.ShardReply.TheVariants.{Missing}
use Rattle.mc_shard.specs.declared.op.ShardOp.{ShardOp}
use Rattle.mc_route.specs.Places.{StoreValue}
use Rattle.mc_next.specs.declared.session.Session.{Session}
use Rattle.mc_next.specs.declared.work.Work.{Work}
use Rattle.mc_next.specs.Parts.{StoreTask, StoreView, StoreQuestion}
use Rattle.mc_next.specs.Clients.{StoreBooks, StoreLane}
use Rattle.mc_next.specs.Runs.{Setting, SessionView}
use Rattle.mc_next.specs.Works.{StoreState, HasTakenReplies}
use Rattle.mc_next.specs.Sessions.{AsksFor, HasGivenUp}

abbrev pub StoreArrival : Type 0
StoreArrival = Arrival StoreValue ℕ ShardOp ShardReply StoreTask

abbrev StoreEntry : Type 0
StoreEntry = Entry StoreValue ShardOp ShardReply StoreTask

abbrev StoreAnswer : Type 0
StoreAnswer = Answer StoreValue ShardOp ShardReply StoreTask

abbrev StoreCame : Type 0
StoreCame = Came StoreValue ShardOp ShardReply StoreTask

none_of : {X : Type 0} (xs : List X) → length xs ≤ 0 → xs ≡ []
none_of [] le = refl
none_of (x ∷ xs) le = absurd (omega (arith, le))

-- where nothing was told nothing came
nothing_come : (log : List StoreEntry) (told : List (ℕ × StoreAnswer)) → told ≡ [] → (come : List (ℕ × StoreCame)) → AllByRecursion (IsCome log told) come → come ≡ []
nothing_come log told e [] h = refl
nothing_come log told e (x ∷ xs) h =
    let (k, lt, at) = h.0.1 in
    let none = ap length e in
    absurd (omega (arith, lt, none))

module _ {D : Type 0} (view : D → StoreView) (openings : ℕ → StoreState) (was : ℕ → StoreView) (asked : List StoreQuestion) (books : StoreBooks D)
    (client : IsClient view openings books) (asks : IsAsking view Missing was asked [] books) where
  none_asked : asked ≡ []
  none_asked = none_of asked asks.few

  -- nothing came at a trustee
  none_here : (t : ℕ) (lane : StoreLane D) → slice_get books.lanes.items t ≡ Some lane → come_at t books.arrived.items ≡ []
  none_here t lane there =
      let at = asks.lanes t lane there in
      let all = ap length (at.numbers ∙ ap (λ qs. numbers_at t 0 qs) none_asked) in
      let both = length-append (map (λ c. c.0) at.told) (map (λ w. w.after) lane.afters.items) in
      let mapped = length-map at.told (λ c. c.0) in
      let told = none_of at.told (omega (arith, all, both, mapped)) in
      nothing_come at.side.grown at.told told (come_at t books.arrived.items) at.come

  first_none : (arrived : List StoreArrival) → books.arrived.items ≡ arrived → arrived ≡ []
  first_none [] e = refl
  first_none (a ∷ arrived) e =
      let below = (subst (λ xs. AllByRecursion (λ x. (x.trustee < length books.lanes.items) × MayHand x.came) xs) e client.arrived).0.0 in
      let (lane, there) = element_at books.lanes.items a.trustee below in
      let none = ap length (none_here a.trustee lane there) in
      let some = ap length (ap (λ xs. come_at a.trustee xs) e ∙ come_here a.trustee a arrived refl) in
      absurd (omega (arith, none, some))

  -- where there is no place for a reply, none came
  pub none_arrived : books.arrived.items ≡ []
  none_arrived = first_none books.arrived.items refl

-- replies of what was given up were taken
pub given_taken :
    {D : Type 0} (view : D → StoreView) (s : Setting) (marks : List (ℕ → StoreView)) (session : Session) (first now : SessionView) (books books_new : StoreBooks D) (w w_new : Work)
    → session.work ≡ Some w → HasTakenReplies view w w_new books books_new → HasGivenUp view s marks session first now books
    → HasGivenUp view s marks (record session { work = Some w_new }) first now books_new
given_taken view s marks session first now books books_new w w_new e takes g = record {
  past = g.past;
  input = g.input;
  clock = g.clock;
  each = g.each;
  is_written = g.is_written;
  was = g.was;
  answered = g.answered;
  in_turn = g.in_turn;
  was_is = g.was_is;
  few = g.few;
  asked = g.asked;
  others = g.others;
  questions = g.questions;
  asks = takes.asks g.was g.asked (subst (λ work. AsksFor view g.was g.asked work books) e g.asks);
}

-- where there is no place for a reply, none came to be dropped
pub none_to_drop : {D : Type 0} (view : D → StoreView) (openings : ℕ → StoreState) (s : Setting) (marks : List (ℕ → StoreView)) (session : Session) (first now : SessionView) (books : StoreBooks D)
    → session.work ≡ None → IsClient view openings books → HasGivenUp view s marks session first now books → books.arrived.items ≡ []
none_to_drop view openings s marks session first now books e client g =
    none_arrived view openings g.was g.asked books client (subst (λ work. AsksFor view g.was g.asked work books) e g.asks [])
