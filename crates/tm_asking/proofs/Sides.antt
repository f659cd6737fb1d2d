-- A side that was asked questions, as it and the log that it has seen go on.
use Rattle.std.proofs.Common.{◌≡◌, ℕ, inl, inr, List, ◌++◌, sym, ◌∙◌, ap, subst}
use Rattle.std.specs.List.{AllByRecursion}
use Rattle.std.proofs.lemmas.List.Elements.{Contains-append_left}
use Rattle.tm_batch.specs.declared.message.Answer.{Answer}
use Rattle.tm_batch.specs.declared.message.Answer.TheVariants.{Replied, Launched, TicketsSpent}
use Rattle.tm_model.specs.declared.entry.Entry.{Entry}
use Rattle.tm_model.specs.Ran.{ran, answered}
use Rattle.tm_model.specs.Holds.{answers_in}
use Rattle.tm_pair.specs.Views.{ClientView}
use Rattle.tm_client.specs.declared.lane.Unfinished.{Unfinished}
use Rattle.tm_client.specs.declared.answers.Came.{Came}
use Rattle.tm_client.specs.declared.answers.Came.TheVariants.{Answered, Finished}
use Rattle.tm_client.specs.Lanes.{out_requests}
use Rattle.tm_asking.specs.Asking.{HasReply, CameFor, IsCome, IsTold, IsNoted, IsDealt, IsSideAsked}
use Rattle.tm_asking.proofs.Joining.{ended_front, reply_front}

module _ {V O R T : Type 0} where
  -- what equals a side that was asked so was asked so
  abbrev pub same_side : (was old new : ClientView V O R T) → new ≡ old → IsSideAsked was old → IsSideAsked was new
  same_side was old new e a = record {
    settled = a.settled;
    place = ap (λ v. v.place) e ∙ a.place;
    grown = a.grown;
    seen = ap (λ v. v.seen) e ∙ a.seen;
    runs = ap (λ v. v.sent) e ∙ a.runs ∙ sym (ap (λ v. ran v.place v.seen ++ out_requests v.out) e);
    entries = ap (λ v. answers_in v.got) e ∙ a.entries ∙ sym (ap (λ v. answered v.place v.seen) e);
    out_reply = subst (λ v. AllByRecursion HasReply (out_requests v.out)) (sym e) a.out_reply;
  }

  -- what holds of a log holds of a longer one

  came_longer : (log more : List (Entry V O R T)) (answer : Answer V O R T) (came : Came V O R T) → CameFor log answer came → CameFor (log ++ more) answer came
  came_longer log more answer (Answered (Replied r)) h = h
  came_longer log more answer (Answered (TicketsSpent task)) h = h
  came_longer log more answer (Answered _) h = absurd h
  came_longer log more answer (Finished reply) (ticket, is, ended) = (ticket, is, ended_front log more ticket reply ended)

  pub come_longer :
      (log more : List (Entry V O R T)) (told : List (ℕ × Answer V O R T)) (c : ℕ × Came V O R T) → IsCome log told c → IsCome (log ++ more) told c
  come_longer log more told c (answer, among, came) = (answer, among, came_longer log more answer c.1 came)

  pub noted_longer :
      (missing : R) (log more : List (Entry V O R T)) (replies : List R) (c : ℕ × Answer V O R T) → IsNoted missing log replies c → IsNoted missing (log ++ more) replies c
  noted_longer missing log more replies c (r, there, is) = (r, there, reply_front missing log more c.1 r is)

  pub dealt_longer :
      (missing : R) (log more : List (Entry V O R T)) (replies : List R) (untaken : List ℕ) (c : ℕ × Answer V O R T) → IsDealt missing log replies untaken c
      → IsDealt missing (log ++ more) replies untaken c
  dealt_longer missing log more replies untaken c (inl still) = inl still
  dealt_longer missing log more replies untaken c (inr noted) = inr (noted_longer missing log more replies c noted)

  -- and what is of some answers is of more

  pub come_told :
      (log : List (Entry V O R T)) (told more : List (ℕ × Answer V O R T)) (c : ℕ × Came V O R T) → IsCome log told c → IsCome log (told ++ more) c
  come_told log told more c (answer, among, came) = (answer, Contains-append_left told more (c.0, answer) among, came)

  pub told_more : (told more : List (ℕ × Answer V O R T)) (l : Unfinished ℕ) → IsTold told l → IsTold (told ++ more) l
  told_more told more l h = Contains-append_left told more (l.after, Launched l.ticket) h
