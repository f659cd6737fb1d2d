-- How a session ended, why, and what it has done that did nothing.
use Rattle.std.proofs.Common.{arith, ◌≡◌, ◌≢◌, ℕ, zero, suc, inl, inr, List, [], take, refl, sym, ◌∙◌, ap, subst, Some, append-nil}
use Rattle.tm_base.specs.Causes.{Rose}
use Rattle.mc_grammar.proofs.Spellings.{part_of_line}
use Rattle.mc_next.specs.declared.ended.Ended.{Ended}
use Rattle.mc_next.specs.declared.ended.Ended.TheVariants.{AtEnd, Quit, Inside, ReadFault, WriteFault, TooMuch, NoMemory}
use Rattle.mc_next.specs.declared.session.Session.{Session}
use Rattle.mc_next.specs.Runs.{Setting, SessionView, HasRun, IsInTurn}
use Rattle.mc_next.specs.Sessions.{HasEndedSo}
use Rattle.mc_next.specs.Steps.{IsCaused}
use Rattle.mc_next.proofs.Streams.{grows_none}
use Rattle.mc_solo.specs.Driving.{HasStopped}

-- a fault is one where its count rose, and no count rose but for it
pub record HasCauses (ended : Ended) (reads reads_now writes writes_now : ℕ) : Type 0 where
  pub read : ended ≡ ReadFault → Rose reads reads_now
  pub write : ended ≡ WriteFault → Rose writes writes_now
  pub no_read : ended ≢ ReadFault → reads_now ≡ reads
  pub no_write : ended ≢ WriteFault → writes_now ≡ writes

module _ (reads reads_now writes writes_now : ℕ) where
  both_calm : (ended : Ended) → (ended ≡ ReadFault → ⊥) → (ended ≡ WriteFault → ⊥) → reads_now ≡ reads → writes_now ≡ writes
      → HasCauses ended reads reads_now writes writes_now
  both_calm ended no_read no_write r w = record { read = λ e. absurd (no_read e); write = λ e. absurd (no_write e); no_read = λ ne. r; no_write = λ ne. w }

  by_stop : (ended : Ended) → IsCaused (Some ended) reads reads_now writes writes_now → HasCauses ended reads reads_now writes writes_now
  by_stop ReadFault (rose, calm) = record { read = λ e. rose; write = λ e. absurd cc; no_read = λ ne. absurd (ne refl); no_write = λ ne. calm }
  by_stop WriteFault (rose, calm) = record { read = λ e. absurd cc; write = λ e. rose; no_read = λ ne. calm; no_write = λ ne. absurd (ne refl) }
  by_stop NoMemory (r, w) = both_calm NoMemory (λ e. cc) (λ e. cc) r w
  by_stop AtEnd h = absurd h
  by_stop Quit h = absurd h
  by_stop Inside h = absurd h
  by_stop TooMuch h = absurd h

  by_end : (ended : Ended) (session : Session) → HasEndedSo ended session → reads_now ≡ reads → writes_now ≡ writes → HasCauses ended reads reads_now writes writes_now
  by_end ReadFault session h r w = absurd h
  by_end WriteFault session h r w = absurd h
  by_end NoMemory session h r w = absurd h
  by_end AtEnd session h r w = both_calm AtEnd (λ e. cc) (λ e. cc) r w
  by_end Quit session h r w = both_calm Quit (λ e. cc) (λ e. cc) r w
  by_end Inside session h r w = both_calm Inside (λ e. cc) (λ e. cc) r w
  by_end TooMuch session h r w = both_calm TooMuch (λ e. cc) (λ e. cc) r w

  pub end_caused : (ended : Ended) (session : Session) → HasStopped ended session → IsCaused session.stopped reads reads_now writes writes_now
      → HasCauses ended reads reads_now writes writes_now
  end_caused ended session (inl e) cause = by_stop ended (subst (λ o. IsCaused o reads reads_now writes writes_now) e cause)
  end_caused ended session (inr (e, h)) cause =
      let calm = subst (λ o. IsCaused o reads reads_now writes writes_now) e cause in by_end ended session h calm.0 calm.1

take_none : (n : ℕ) → take {A = ℕ} n [] ≡ []
take_none zero = refl
take_none (suc n) = refl

-- where memory was wanting from the start, nothing was done
pub nothing_in_turn : (s : Setting) (v : SessionView) → (run : HasRun s NoMemory v v) × IsInTurn s [] NoMemory v v run
nothing_in_turn s v = (
  record {
    text = [];
    messages = [];
    rest = [];
    has_read = record {
      came = λ bytes is. (bytes, refl, is);
      reads = record { front = []; parts = take_none s.limit; spelled = refl; partial = part_of_line [] tt };
    };
    run = record {
      answered = [];
      others = [];
      untaken = [];
      parts = refl;
      readings = [];
      is_read = grows_none v.clock;
      once = refl;
      replies = [];
      each = tt;
      asked = λ t lt. record {
        place = refl;
        asked = [];
        first = ([], refl);
        sent = sym (append-nil (v.sides t).sent);
        grown = [];
        seen = sym (append-nil (v.sides t).seen);
        runs = ([], refl);
        answers = [];
        answered_first = ([], refl);
        replied = tt;
      };
      is_written = λ written e. (0, e ∙ ap (λ (l : List ℕ). Some l) (sym (append-nil written)));
    };
  },
  (tt, omega arith),
)

pub nothing_ran : (s : Setting) (v : SessionView) → HasRun s NoMemory v v
nothing_ran s v = (nothing_in_turn s v).0
