-- Where a message begins, nothing is held.
use Rattle.std.proofs.Common.{◌≡◌, ◌↔◌, ℕ, zero, suc, ◌+◌, ◌*◌, ◌≤◌, eqb, Bool, true, false, cond, List, [], ◌∷◌, ◌++◌, length, refl, sym, ap, subst, ◌∙◌, inl, inr, arith}
use Rattle.std.proofs.lemmas.Bool.{cases_lt, eqb-true, eq-eqb}
use Rattle.std.proofs.lemmas.List.{length-append}
use Rattle.mc_item.specs.declared.limits.TheConstants.{LONGEST_LINE}
use Rattle.mc_model.specs.declared.line.Header.{Header}
use Rattle.mc_model.specs.declared.line.Saying.{Saying}
use Rattle.mc_model.specs.declared.line.Saying.TheVariants.{Alone, Awaits}
use Rattle.mc_model.specs.declared.message.Command.{Command}
use Rattle.mc_model.specs.declared.message.Fault.{Fault}
use Rattle.mc_model.specs.declared.message.Fault.TheVariants.{Unknown, BadLine, BadDelta, LineTooLong, BadChunk, TooLarge}
use Rattle.mc_model.specs.declared.message.Message.{Message}
use Rattle.mc_model.specs.declared.message.Message.TheVariants as message
use Rattle.mc_model.specs.Commands.{fails}
use Rattle.mc_model.specs.Line.{says}
use Rattle.mc_model.specs.Stream.{Spells, Completes, stored}
use Rattle.mc_grammar.specs.declared.progress.Progress.{Progress}
use Rattle.mc_grammar.specs.declared.progress.Progress.TheVariants.{Line, Block, Returned, Pass, Ready}
use Rattle.mc_grammar.specs.Progress.{Finishes, Goes, Start, IsSound, IsPassed}
use Rattle.mc_grammar.proofs.LineFacts.{none_of_length}
use Rattle.mc_grammar.proofs.Steps.{says_long}

abbrev unknown : Message
unknown = message.Fault Unknown

-- a line feed alone has no token
empty_says : says (10 ∷ []) ≡ fails Unknown
unfolding says
empty_says = refl

empty_line : Spells (10 ∷ []) unknown
empty_line = record {
  line = 10 ∷ [];
  rest = [];
  parts = refl;
  is_line = inl (refl, refl);
  completes = subst (λ s. Completes s [] unknown) (sym empty_says) (refl, refl);
}

-- no block is unknown
never_unknown : (large whole : Bool) (quiet : Bool) (c : Command) → unknown ≡ cond large (message.Fault (TooLarge quiet)) (cond whole (message.Command c) (message.Fault (BadChunk quiet))) → ⊥
never_unknown true whole quiet c e = cc
never_unknown false true quiet c e = cc
never_unknown false false quiet c e = cc

stored_known : (h : Header) (block tail : List ℕ) → unknown ≡ stored h block tail → ⊥
stored_known h block tail e = never_unknown _ _ h.quiet _ e

short_saying : (s : Saying) (rest : List ℕ) → s ≡ fails LineTooLong → Completes s rest unknown → ⊥
short_saying s rest e c = let k = subst (λ t. Completes t rest unknown) e c in absurd (cc k.1)

no_rest : (s : Saying) (rest : List ℕ) → Completes s rest unknown → rest ≡ []
no_rest (Alone y) rest c = c.0
no_rest (Awaits h) rest c = absurd (stored_known h c.0 c.1 c.3)

-- an unknown line is no longer than a line may be
unknown_short : (bytes : List ℕ) → Spells bytes unknown → length bytes ≤ LONGEST_LINE
unknown_short bytes s = elim (cases_lt LONGEST_LINE (length s.line)) [
  | inl long ↦ absurd (short_saying (says s.line) s.rest (says_long s.line long) s.completes)
  | inr short ↦ omega (arith, ap length s.parts, length-append s.line s.rest, ap length (no_rest (says s.line) s.rest s.completes))
]

-- some bytes again and again, and then a line feed
many : ℕ → List ℕ → List ℕ
many zero held = 10 ∷ []
many (suc k) held = held ++ many k held

length-many : (k : ℕ) (held : List ℕ) → length (many k held) ≡ k * length held + 1
unfolding many
length-many zero held = omega arith
length-many (suc k) held = omega (arith, length-append held (many k held), length-many k held)

many_unknown : (held : List ℕ) → Goes Start held Start → (k : ℕ) → Spells (many k held) unknown
unfolding Goes many
many_unknown held g zero = empty_line
many_unknown held g (suc k) = (g (many k held) unknown).1 (many_unknown held g k)

-- bytes that lead from the start to the start are none
pub goes_none : (held : List ℕ) → Goes Start held Start → held ≡ []
goes_none held g = none_of_length held (omega (arith, unknown_short (many LONGEST_LINE held) (many_unknown held g LONGEST_LINE), length-many LONGEST_LINE held))

-- a line of which nothing was taken has no front
pub none_held : (front : List ℕ) → Goes Start [] (Line front) → front ≡ []
unfolding Goes
none_held front g = goes_none front (λ more m. ((g more m).1, (g more m).0))

passed_known : (fault : Fault) → IsPassed fault → unknown ≡ message.Fault fault → ⊥
passed_known Unknown s e = s
passed_known BadLine s e = s
passed_known BadDelta s e = s
passed_known LineTooLong s e = cc
passed_known (BadChunk quiet) s e = cc
passed_known (TooLarge quiet) s e = cc

-- only a line may be unknown
begins_line : (p : Progress) → IsSound p → ((front : List ℕ) → p ≡ Line front → ⊥) → Finishes p (10 ∷ []) unknown → ⊥
begins_line (Line front) s n f = n front refl
begins_line (Block h filling) s n f = stored_known h (filling.0 ++ f.0) f.1 f.3
begins_line (Returned h v) s n f = stored_known h v (13 ∷ 10 ∷ []) f.1
begins_line (Pass fault left) s n f = passed_known fault s f.3
begins_line (Ready y) s n f = cc f.0

-- where something else than a line is present, something is held
pub some_held : (p : Progress) → IsSound p → ((front : List ℕ) → p ≡ Line front → ⊥) → Goes Start [] p → ⊥
unfolding Goes
some_held p s n g = begins_line p s n ((g (10 ∷ []) unknown).0 empty_line)

pub between_line : (front held : List ℕ) (b : Bool) → b ≡ eqb (length front) 0 → Goes Start held (Line front) → (b ≡ true) ↔ (held ≡ [])
between_line front held b e g = (
  (λ t. goes_none held (subst (λ f. Goes Start held (Line f)) (none_of_length front (eqb-true (length front) 0 (sym e ∙ t))) g)),
  λ none. e ∙ eq-eqb (length front) 0 (ap length (none_held front (subst (λ h. Goes Start h (Line front)) none g))),
)
