-- What is read, asked, replied and shown of a stream, and of one message more.
use Rattle.std.proofs.Common.{◌≡◌, ℕ, suc, ◌+◌, ◌≤◌, List, [], ◌∷◌, ◌++◌, length, Option, Some, refl, sym, ap, ◌∙◌, arith, append_assoc, append-nil, length-append}
use Rattle.tm_base.specs.Visible.{Grows}
use Rattle.mc_model.specs.declared.message.Command.{Command}
use Rattle.mc_model.specs.declared.message.Fault.{Fault}
use Rattle.mc_model.specs.declared.message.Message.{Message}
use Rattle.mc_model.specs.declared.message.Message.TheVariants as message
use Rattle.mc_model.specs.declared.reply.ShardReply.{ShardReply}
use Rattle.mc_model.specs.Moments.{latest, moments_from}
use Rattle.mc_model.specs.Showing.{shown_of, shown_of_fault, shown_of_all, commands_of}
use Rattle.mc_model.specs.Rendering.{bytes_of, rendered}
use Rattle.mc_next.specs.Parts.{Named, StoreQuestion, questions_of, questions_each}
use Rattle.mc_next.specs.Runs.{all_of, HaveReplies}
use Rattle.mc_next.specs.Sessions.{latest_of}

-- ---- what a device tells

pub grows_none : (told : Option (List ℕ)) → Grows told told []
grows_none told = λ items e. e ∙ ap (λ (l : List ℕ). Some l) (sym (append-nil items))

pub grows_more : (told now later : Option (List ℕ)) (more rest : List ℕ) → Grows told now more → Grows now later rest → Grows told later (more ++ rest)
grows_more told now later more rest g h = λ items e. h (items ++ more) (g items e) ∙ ap (λ (l : List ℕ). Some l) (append_assoc items more rest)

-- ---- readings and moments

pub moments_more : (moment : ℕ) (readings : List ℕ) (reading : ℕ) → moments_from moment (readings ++ reading ∷ []) ≡ moments_from moment readings ++ latest (latest_of moment readings) reading ∷ []
moments_more moment [] reading = refl
moments_more moment (r ∷ readings) reading = ap (λ ms. latest moment r ∷ ms) (moments_more (latest moment r) readings reading)

pub latest_more : (moment : ℕ) (readings : List ℕ) (reading : ℕ) → latest_of moment (readings ++ reading ∷ []) ≡ latest (latest_of moment readings) reading
latest_more moment [] reading = refl
latest_more moment (r ∷ readings) reading = latest_more (latest moment r) readings reading

pub moments_count : (moment : ℕ) (readings : List ℕ) → length (moments_from moment readings) ≡ length readings
moments_count moment [] = refl
moments_count moment (r ∷ readings) = ap (λ n. suc n) (moments_count (latest moment r) readings)

-- ---- commands among messages

pub commands_more : (ms : List Message) (c : Command) → commands_of (ms ++ message.Command c ∷ []) ≡ commands_of ms ++ c ∷ []
commands_more [] c = refl
commands_more (message.Command d ∷ ms) c = ap (λ (cs : List Command). d ∷ cs) (commands_more ms c)
commands_more (message.Fault f ∷ ms) c = commands_more ms c

pub commands_same : (ms : List Message) (fault : Fault) → commands_of (ms ++ message.Fault fault ∷ []) ≡ commands_of ms
commands_same [] fault = refl
commands_same (message.Command d ∷ ms) fault = ap (λ (cs : List Command). d ∷ cs) (commands_same ms fault)
commands_same (message.Fault f ∷ ms) fault = commands_same ms fault

-- ---- their questions

module _ (named : Named) (trustees : ℕ) where
  -- the last of them asks at the greatest of all readings
  pub questions_last : (cs : List Command) (c : Command) (moment : ℕ) (readings : List ℕ) → length readings ≡ length cs + 1
      → questions_each named trustees (cs ++ c ∷ []) (moments_from moment readings)
      ≡ questions_each named trustees cs (moments_from moment readings) ++ questions_of named trustees c (latest_of moment readings) ∷ []
  questions_last [] c moment [] e = absurd (omega (arith, e))
  questions_last [] c moment (r ∷ []) e = refl
  questions_last [] c moment (r ∷ s ∷ readings) e = absurd (omega (arith, e))
  questions_last (d ∷ cs) c moment [] e = absurd (omega (arith, e))
  questions_last (d ∷ cs) c moment (r ∷ readings) e =
      ap (λ (qs : List (List StoreQuestion)). questions_of named trustees d (latest moment r) ∷ qs) (questions_last cs c (latest moment r) readings (omega (arith, e)))

  -- moments that are not reached count for nothing
  pub questions_front : (cs : List Command) (moments more : List ℕ) → length cs ≤ length moments
      → questions_each named trustees cs (moments ++ more) ≡ questions_each named trustees cs moments
  questions_front [] [] more e = refl
  questions_front [] (m ∷ moments) more e = refl
  questions_front (d ∷ cs) [] more e = absurd (omega (arith, e))
  questions_front (d ∷ cs) (m ∷ moments) more e =
      ap (λ (qs : List (List StoreQuestion)). questions_of named trustees d m ∷ qs) (questions_front cs moments more (omega (arith, e)))

  pub questions_count : (cs : List Command) (moments : List ℕ) → length cs ≤ length moments → length (questions_each named trustees cs moments) ≡ length cs
  questions_count [] [] e = refl
  questions_count [] (m ∷ moments) e = refl
  questions_count (d ∷ cs) [] e = absurd (omega (arith, e))
  questions_count (d ∷ cs) (m ∷ moments) e = ap (λ n. suc n) (questions_count cs moments (omega (arith, e)))

pub all_more : {X : Type 0} (lists : List (List X)) (xs : List X) → all_of (lists ++ xs ∷ []) ≡ all_of lists ++ xs
all_more [] xs = append-nil xs
all_more (l ∷ lists) xs = ap (λ rest. l ++ rest) (all_more lists xs) ∙ sym (append_assoc l (all_of lists) xs)

-- ---- their replies

pub replies_more : (questions : List (List StoreQuestion)) (replies : List (List ShardReply)) (qs : List StoreQuestion) (rs : List ShardReply)
    → HaveReplies questions replies → length qs ≡ length rs → HaveReplies (questions ++ qs ∷ []) (replies ++ rs ∷ [])
replies_more [] [] qs rs h e = (e, tt)
replies_more [] (r ∷ replies) qs rs h e = absurd h
replies_more (q ∷ questions) [] qs rs h e = absurd h
replies_more (q ∷ questions) (r ∷ replies) qs rs h e = (h.0, replies_more questions replies qs rs h.1 e)

pub replies_count : (questions : List (List StoreQuestion)) (replies : List (List ShardReply)) → HaveReplies questions replies → length replies ≡ length questions
replies_count [] [] h = refl
replies_count [] (r ∷ replies) h = absurd h
replies_count (q ∷ questions) [] h = absurd h
replies_count (q ∷ questions) (r ∷ replies) h = ap (λ n. suc n) (replies_count questions replies h.1)

pub replies_in_all : (questions : List (List StoreQuestion)) (replies : List (List ShardReply)) → HaveReplies questions replies → length (all_of replies) ≡ length (all_of questions)
replies_in_all [] [] h = refl
replies_in_all [] (r ∷ replies) h = absurd h
replies_in_all (q ∷ questions) [] h = absurd h
replies_in_all (q ∷ questions) (r ∷ replies) h =
    let here = h.0 in
    let rest = replies_in_all questions replies h.1 in
    let left = length-append r (all_of replies) in
    let right = length-append q (all_of questions) in
    omega (arith, here, rest, left, right)

-- ---- what they show

pub shown_command : (ms : List Message) (replies : List (List ShardReply)) (c : Command) (rs : List ShardReply) → length replies ≡ length (commands_of ms)
    → rendered (shown_of_all (ms ++ message.Command c ∷ []) (replies ++ rs ∷ [])) ≡ rendered (shown_of_all ms replies) ++ bytes_of (shown_of c rs)
shown_command [] [] c rs e = append-nil (bytes_of (shown_of c rs))
shown_command [] (r ∷ replies) c rs e = absurd (omega (arith, e))
shown_command (message.Command d ∷ ms) [] c rs e = absurd (omega (arith, e))
shown_command (message.Command d ∷ ms) (r ∷ replies) c rs e =
    ap (λ (bytes : List ℕ). bytes_of (shown_of d r) ++ bytes) (shown_command ms replies c rs (omega (arith, e)))
    ∙ sym (append_assoc (bytes_of (shown_of d r)) (rendered (shown_of_all ms replies)) (bytes_of (shown_of c rs)))
shown_command (message.Fault f ∷ ms) replies c rs e =
    ap (λ (bytes : List ℕ). bytes_of (shown_of_fault f) ++ bytes) (shown_command ms replies c rs e)
    ∙ sym (append_assoc (bytes_of (shown_of_fault f)) (rendered (shown_of_all ms replies)) (bytes_of (shown_of c rs)))

pub shown_fault : (ms : List Message) (replies : List (List ShardReply)) (fault : Fault) → length replies ≡ length (commands_of ms)
    → rendered (shown_of_all (ms ++ message.Fault fault ∷ []) replies) ≡ rendered (shown_of_all ms replies) ++ bytes_of (shown_of_fault fault)
shown_fault [] [] fault e = append-nil (bytes_of (shown_of_fault fault))
shown_fault [] (r ∷ replies) fault e = absurd (omega (arith, e))
shown_fault (message.Command d ∷ ms) [] fault e = absurd (omega (arith, e))
shown_fault (message.Command d ∷ ms) (r ∷ replies) fault e =
    ap (λ (bytes : List ℕ). bytes_of (shown_of d r) ++ bytes) (shown_fault ms replies fault (omega (arith, e)))
    ∙ sym (append_assoc (bytes_of (shown_of d r)) (rendered (shown_of_all ms replies)) (bytes_of (shown_of_fault fault)))
shown_fault (message.Fault f ∷ ms) replies fault e =
    ap (λ (bytes : List ℕ). bytes_of (shown_of_fault f) ++ bytes) (shown_fault ms replies fault e)
    ∙ sym (append_assoc (bytes_of (shown_of_fault f)) (rendered (shown_of_all ms replies)) (bytes_of (shown_of_fault fault)))
