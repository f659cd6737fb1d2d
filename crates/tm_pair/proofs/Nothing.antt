-- A batch that asks nothing: a good side may send it, and a good trustee's log may grow by it. Other crates import this file.
use Rattle.std.proofs.Common.{◌≡◌, ◌≢◌, ℕ, ◌+◌, ◌-◌, ◌^◌, ◌<◌, ◌≤◌, min, cond, List, [], ◌∷◌, ◌++◌, length, take, refl, sym, ◌∙◌, ap, subst, eq-eqb, append-nil, slice_index_or, get_or-set_same}
use Rattle.std.specs.Prelude.{IsSomeAnd}
use Rattle.std.specs.declared.option.Option.{Option}
use Rattle.std.specs.declared.option.Option.TheVariants.{None, Some}
use Rattle.std.proofs.Math.Seq.{take-nil}
use Rattle.tm_seq.specs.Kind.{Kind}
use Rattle.tm_batch.specs.declared.batch.Batch.{Batch}
use Rattle.tm_batch.specs.declared.message.Answer.{Answer}
use Rattle.tm_batch.specs.declared.message.AnswerBatch.{AnswerBatch}
use Rattle.tm_model.specs.declared.entry.Entry.TheVariants.{Sent}
use Rattle.tm_model.specs.State.{State, place_of, place_count}
use Rattle.tm_model.specs.Serve.{state_after}
use Rattle.tm_model.specs.Ran.{waiting_after}
use Rattle.tm_model.specs.Batches.{leaving, batches}
use Rattle.tm_model.specs.Holds.{launches_in, ended_in}
use Rattle.tm_model.specs.Orderly.{IsOrderly}
use Rattle.tm_model.specs.Answering.{MayGrow}
use Rattle.tm_model.specs.Laws.{StatesAreSound, LegalLogsJoin, BatchesHaveAllAnswers}
use Rattle.tm_model.specs.Leaving.{BatchesJoin}
use Rattle.tm_model.specs.Entries.{added}
use Rattle.tm_pair.specs.Views.{ClientView, TrusteeView, hand_of}
use Rattle.tm_pair.specs.Calls.{Sees, HasAnswered}
use Rattle.tm_pair.specs.Sides.{IsGoodClient, IsGoodTrustee}
use Rattle.tm_pair.specs.Rounds.{NothingWaits, AnswersNothing, AnswersFound}
use Rattle.tm_pair.proofs.Handing.{hand_in_range, hand_answered, other_answered, batch_taken, other_seen}

nil_is_not_joined : {X : Type 0} (before after : List X) (x : X) → [] ≡ before ++ x ∷ after → ⊥
nil_is_not_joined [] after x e = cc
nil_is_not_joined (y ∷ before) after x e = cc

module _ {V O R T : Type 0} (kind : Kind V O R T) (opening : State V O R T) where
  pub nothing_is_orderly : (view : ClientView V O R T) → IsGoodClient kind opening view → IsOrderly opening view.place view.sent view.got []
  nothing_is_orderly view good = record {
    held = λ before after q id e. absurd (nil_is_not_joined before after q e);
    grants = tt;
    launches = subst (λ l. launches_in l ≤ 64 + ended_in view.got) (sym (append-nil view.sent)) good.window;
    bye = λ e. absurd cc;
    last = λ e. refl;
    trustee = λ le. tt;
  }

  nothing_leaves :
      (c room n : ℕ) (waiting : List (Answer V O R T)) (s : State V O R T) (a : AnswerBatch V O R T)
      → waiting ≡ [] → NothingWaits s c → a.front ≡ min n (2 ^ 64 - 1)
      → a.answers.items ≡ [] → a.gifts.items ≡ [] → a.completions.items ≡ [] → leaving c room n waiting s ≡ a
  nothing_leaves c room n waiting s a none waits front answers gifts completions =
      let g : take room (place_of s c).gifts ≡ a.gifts.items = ap (λ l. take room l) waits.gifts ∙ take-nil room ∙ sym gifts in
      let r : take 16 (place_of s c).ready ≡ a.completions.items = ap (λ l. take 16 l) waits.ready ∙ sym completions in
      ap (λ m. record { front = m; answers = record { items = waiting }; gifts = record { items = take room (place_of s c).gifts }; completions = record { items = take 16 (place_of s c).ready } }) (sym front)
      ∙ ap (λ l. record { front = a.front; answers = record { items = l }; gifts = record { items = take room (place_of s c).gifts }; completions = record { items = take 16 (place_of s c).ready } }) (none ∙ sym answers)
      ∙ ap (λ l. record { front = a.front; answers = a.answers; gifts = record { items = l }; completions = record { items = take 16 (place_of s c).ready } }) g
      ∙ ap (λ l. record { front = a.front; answers = a.answers; gifts = a.gifts; completions = record { items = l } }) r

  pub nothing_grows :
      StatesAreSound kind → LegalLogsJoin kind → BatchesJoin kind → BatchesHaveAllAnswers kind
      → (view : TrusteeView V O R T) (c room : ℕ) (a : AnswerBatch V O R T)
      → IsGoodTrustee kind opening view → c < place_count opening.setup → room ≤ 16
      → NothingWaits (state_after kind opening view.log) c → a.front ≡ min (length view.log + 1) (2 ^ 64 - 1)
      → a.answers.items ≡ [] → a.gifts.items ≡ [] → a.completions.items ≡ []
      → MayGrow kind opening view.log [] c [] room a
  nothing_grows sound joins leaves all view c room a good lt most waits front answers gifts completions =
      let s = state_after kind opening view.log in
      let is : s.setup ≡ opening.setup = (sound opening view.log good.opens good.is_legal).setup in
      let (answered, many, settled) = all opening view.log c in
      let none : waiting_after c [] view.log ≡ [] = settled (good.settled c lt) in
      let left = nothing_leaves c room (length view.log + 1) (waiting_after c [] view.log) s a none waits front answers gifts completions in
      record {
        only = tt;
        as_many = ap (λ l. length l) answers;
        is_legal = (joins opening view.log (Sent c room ∷ [])).1 good.is_legal ((subst (λ z. c < place_count z) (sym is) lt, most), tt);
        last = (
          batches kind opening c view.log,
          leaves opening view.log (Sent c room ∷ []) c
              ∙ ap (λ l. batches kind opening c view.log ++ l)
              (ap (λ t. cond t (leaving c room (length view.log + 1) (waiting_after c [] view.log) s ∷ []) []) (eq-eqb c c refl)
              ∙ ap (λ x. x ∷ []) left),
        );
      }

  pub nothing_answered :
      (c room : ℕ) (a : AnswerBatch V O R T) (old new : TrusteeView V O R T) → IsGoodTrustee kind opening old → c < place_count opening.setup
      → hand_of old c ≡ Some (record { requests = []; room = room }) → HasAnswered c [] a old new → AnswersNothing c room old new
  nothing_answered c room a old new good lt is has =
      let there = hand_in_range kind opening c old good lt in record {
        most = (good.in_hand c _ is).most_gifts;
        log = subst (λ o. IsSomeAnd o (λ hand. new.log ≡ old.log ++ added old.log [] c hand.requests hand.room a.answers.items)) is has.log;
        hand = hand_answered c [] a old new there has;
        others = λ d ne. other_answered c d [] a old new ne has;
      }

  pub nothing_taken :
      (c : ℕ) (seen : Option (Batch V O R T)) (old new : TrusteeView V O R T) → IsGoodTrustee kind opening old → c < place_count opening.setup
      → Sees kind opening c seen old new → IsSomeAnd seen (λ b. b.requests.items ≡ [])
      → (room : ℕ) × (hand_of new c ≡ Some (record { requests = []; room = room }))
  nothing_taken c seen old new good lt sees some =
      let (b, none, is) = batch_taken kind opening c seen (λ b. b.requests.items ≡ []) old new (hand_in_range kind opening c old good lt) sees some in (
        b.room,
        is ∙ ap (λ r. Some (record { requests = r; room = b.room })) none,
      )

  pub seeing_keeps_log :
      (c : ℕ) (seen : Option (Batch V O R T)) (old new : TrusteeView V O R T)
      → Sees kind opening c seen old new → new.log ≡ old.log
  seeing_keeps_log c None old new sees = sees.log
  seeing_keeps_log c (Some b) old new takes = takes.log

  answered_behind :
      (c room : ℕ) (old mid new : TrusteeView V O R T) → mid.log ≡ old.log → ((d : ℕ) → d ≢ c → hand_of mid d ≡ hand_of old d)
      → AnswersNothing c room mid new → AnswersNothing c room old new
  answered_behind c room old mid new same stay has = record {
    most = has.most;
    log = has.log ∙ ap (λ l. l ++ Sent c room ∷ []) same;
    hand = has.hand;
    others = λ d ne. has.others d ne ∙ stay d ne;
  }

  -- what was found was answered
  pub found_answered :
      (c : ℕ) (seen : Option (Batch V O R T)) (old mid new : TrusteeView V O R T) → c < length old.hands
      → Sees kind opening c seen old mid
      → IsSomeAnd seen (λ b. b.requests.items ≡ []) → new.looks ≡ mid.looks
      → ((room : ℕ) → hand_of mid c ≡ Some (record { requests = []; room = room }) → AnswersNothing c room mid new) → AnswersFound c seen old new
  found_answered c None old mid new lt sees some looks answered = absurd some
  found_answered c (Some b) old mid new lt takes none looks answered =
      let is : hand_of mid c ≡ Some (record { requests = []; room = b.room }) =
      ap (λ hands. slice_index_or hands c None) takes.hands
      ∙ get_or-set_same old.hands c (Some (record { requests = b.requests.items; room = b.room })) None lt
      ∙ ap (λ r. Some (record { requests = r; room = b.room })) none in
      let has = answered_behind c b.room old mid new takes.log (λ d ne. other_seen kind opening c d (Some b) old mid ne takes) (answered b.room is) in
      (looks ∙ takes.looks, λ _. has, λ ne. absurd (ne none))

  -- an empty batch that was found was answered
  pub empty_answered :
      (c : ℕ) (seen : Option (Batch V O R T)) (old new : TrusteeView V O R T) → AnswersFound c seen old new
      → IsSomeAnd seen (λ b. b.requests.items ≡ []) → (room : ℕ) × AnswersNothing c room old new
  empty_answered c None old new found some = absurd some
  empty_answered c (Some b) old new found none = (b.room, found.1 none)

  -- nothing was found, or what was found asks something
  pub found_kept :
      (c : ℕ) (seen : Option (Batch V O R T)) (old new : TrusteeView V O R T) → c < length old.hands
      → Sees kind opening c seen old new
      → ¬ IsSomeAnd seen (λ b. b.requests.items ≡ []) → AnswersFound c seen old new
  found_kept c None old new lt sees asks = sees
  found_kept c (Some b) old new lt takes asks = (
    takes.looks,
    λ e. absurd (asks e),
    λ ne. (
      takes.log,
      ap (λ hands. slice_index_or hands c None) takes.hands
          ∙ get_or-set_same old.hands c (Some (record { requests = b.requests.items; room = b.room })) None lt,
      λ d other. other_seen kind opening c d (Some b) old new other takes,
    ),
  )
