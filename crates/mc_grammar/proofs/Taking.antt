-- Bytes taken.
use Rattle.std.proofs.Common.{◌≡◌, ℕ, ◌+◌, ◌-◌, ◌<◌, ◌≤◌, List, [], ◌∷◌, length, get_or, take, drop, refl, sym, subst, arith}
use Rattle.std.proofs.Math.Seq.{take-add, take-length}
use Rattle.std.proofs.lemmas.List.{length-drop, take_all}
use Rattle.mc_grammar.specs.declared.progress.Progress.{Progress}
use Rattle.mc_grammar.specs.Progress.{Goes, IsSound, IsReady, Takes}
use Rattle.mc_grammar.proofs.Steps.{Goes-stay, Goes-then}

pub takes_none : (p : Progress) (from : List ℕ) → IsSound p → length from < 1 → Takes p from p 0
takes_none p from s lt = record { within = omega arith; goes = Goes-stay p; sound = s; through = λ k. absurd (omega arith) }

pub takes_done : (old new : Progress) (from : List ℕ) → Goes old [] new → IsSound new → IsReady new → Takes old from new 0
takes_done old new from g s r = record { within = omega arith; goes = g; sound = s; through = λ k. r }

pub takes_all : (old new : Progress) (from : List ℕ) → Goes old from new → IsSound new → Takes old from new (length from)
takes_all old new from g s =
    record { within = omega arith; goes = subst (λ t. Goes old t new) (sym (take-length from)) g; sound = s; through = λ k. absurd (omega arith) }

-- first some bytes, and then some of the rest
pub takes_then : (old mid new : Progress) (from : List ℕ) (k n : ℕ) → k ≤ length from → Goes old (take k from) mid → Takes mid (drop k from) new n → Takes old from new (k + n)
takes_then old mid new from k n le g t = record {
  within = omega (arith, t.within, length-drop k from);
  goes = subst (λ b. Goes old b new) (sym (take-add k n from)) (Goes-then old mid new (take k from) (take n (drop k from)) g t.goes);
  sound = t.sound;
  through = λ lt. t.through (omega (arith, length-drop k from));
}

-- a step that needs no byte, and then some bytes
pub takes_first : (old mid new : Progress) (from : List ℕ) (n : ℕ) → Goes old [] mid → Takes mid from new n → Takes old from new n
takes_first old mid new from n g t =
    record { within = t.within; goes = Goes-then old mid new [] (take n from) g t.goes; sound = t.sound; through = t.through }

take_one : (s : List ℕ) (b : ℕ) → 1 ≤ length s → get_or s 0 0 ≡ b → take 1 s ≡ b ∷ []
take_one [] b le e = absurd (omega arith)
take_one (x ∷ s) b le e = subst (λ y. x ∷ [] ≡ y ∷ []) e refl

pub goes_byte : (old new : Progress) (from : List ℕ) (b : ℕ) → 1 ≤ length from → get_or from 0 0 ≡ b → Goes old (b ∷ []) new → Goes old (take 1 from) new
goes_byte old new from b le e g = subst (λ t. Goes old t new) (sym (take_one from b le e)) g

pub takes_byte : (old new : Progress) (from : List ℕ) (b : ℕ) → 1 ≤ length from → get_or from 0 0 ≡ b → Goes old (b ∷ []) new → IsSound new → IsReady new → Takes old from new 1
takes_byte old new from b le e g s r = record { within = le; goes = goes_byte old new from b le e g; sound = s; through = λ k. r }

-- the first byte, and then some of the rest as a slice's pattern has it
pub takes_tail : (old mid new : Progress) (from : List ℕ) (n : ℕ) → 1 ≤ length from → Goes old (take 1 from) mid → Takes mid (take (length from - 1) (drop 1 from)) new n → Takes old from new (1 + n)
takes_tail old mid new from n le g t =
    takes_then old mid new from 1 n le g
    (subst (λ (rest : List ℕ). Takes mid rest new n) (take_all (length from - 1) (drop 1 from) (omega (arith, length-drop 1 from))) t)
