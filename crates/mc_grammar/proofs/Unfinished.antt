-- What is not ready is a proper front of a message.
use Rattle.std.proofs.Common.{◌≡◌, ◌≢◌, ◌⊎◌, ◌↔◌, ℕ, List, [], ◌∷◌, ◌++◌, length, take, replicate, refl, sym, ap, subst, inl, inr, arith}
use Rattle.std.proofs.lemmas.List.{length-replicate, length-append, length-take-le}
use Rattle.mc_model.specs.declared.message.Message.{Message}
use Rattle.mc_model.specs.declared.message.Message.TheVariants as message
use Rattle.mc_model.specs.Line.{IsLine}
use Rattle.mc_model.specs.Stream.{IsBlock, stored}
use Rattle.mc_grammar.specs.declared.progress.Progress.{Progress}
use Rattle.mc_grammar.specs.declared.progress.Progress.TheVariants.{Line, Block, Returned, Pass, Ready}
use Rattle.mc_grammar.specs.Progress.{Finishes, Goes, IsBounded, IsSound, IsReady, IsUnfinished, Takes}
use Rattle.mc_grammar.proofs.LineFacts.{line_some}
use Rattle.mc_grammar.proofs.Spellings.{part_of_line}
use Rattle.mc_grammar.proofs.Steps.{line_past, line_tail}

filled : ℕ → List ℕ
filled n = replicate n 0 ++ 10 ∷ []

filled_some : (n : ℕ) → filled n ≢ []
unfolding filled
filled_some n e = let zeros : List ℕ = replicate n 0 in omega (arith, ap length e, length-append zeros (10 ∷ []))

filled_block : (n : ℕ) → IsBlock n (filled n) (replicate n 0) (10 ∷ [])
unfolding filled
filled_block n = record { parts = refl; whole = length-replicate {A = ℕ} n 0; line = inl (refl, refl) }

pub unfinished : (p : Progress) → IsSound p → ((y : Message) → p ≡ Ready y → ⊥) → IsUnfinished p
unfolding IsUnfinished
unfinished (Line front) s n = part_of_line front s.0
unfinished (Block h f) s n = (filled f.1, stored h (f.0 ++ replicate f.1 0) (10 ∷ []), filled_some f.1, (replicate f.1 0, 10 ∷ [], filled_block f.1, refl))
unfinished (Returned h v) s n = (10 ∷ [], stored h v (13 ∷ 10 ∷ []), (λ e. absurd cc), (inr ((λ e. absurd (omega arith)), inl (refl, refl)), refl))
unfinished (Pass fault left) s n = (filled left, message.Fault fault, filled_some left, (replicate left 0, 10 ∷ [], filled_block left, refl))
unfinished (Ready y) s n = absurd (n y refl)

-- what is sound is completed by some bytes
completion : (p : Progress) → IsSound p → (more : List ℕ) × (m : Message) × Finishes p more m
unfolding IsUnfinished
completion (Ready y) s = ([], y, (refl, refl))
completion (Line front) s = let u = unfinished (Line front) s (λ y e. absurd cc) in (u.0, u.1, u.3)
completion (Block h f) s = let u = unfinished (Block h f) s (λ y e. absurd cc) in (u.0, u.1, u.3)
completion (Returned h v) s = let u = unfinished (Returned h v) s (λ y e. absurd cc) in (u.0, u.1, u.3)
completion (Pass fault left) s = let u = unfinished (Pass fault left) s (λ y e. absurd cc) in (u.0, u.1, u.3)

tail_none : (a b : List ℕ) → a ++ b ≡ [] → b ≡ []
tail_none [] b e = e
tail_none (x ∷ a) b e = absurd cc

front_none : (a b : List ℕ) → a ++ b ≡ [] → a ≡ []
front_none [] b e = refl
front_none (x ∷ a) b e = absurd cc

no_empty_block : (n : ℕ) (block tail : List ℕ) → IsBlock n [] block tail → ⊥
no_empty_block n block tail b = subst IsLine (tail_none block tail (sym b.parts)) b.line

-- what no byte completes is ready
pub complete : (p : Progress) (m : Message) → IsSound p → Finishes p [] m → IsReady p
complete (Ready y) m s f = tt
complete (Line front) m s f =
    let k = line_past front [] f.line f.rest s.0 f.is_line (sym f.parts) in
    absurd (line_some k.0 f.rest k.3 (sym k.2))
complete (Block h filling) m s f = absurd (no_empty_block filling.1 f.0 f.1 f.2)
complete (Returned h v) m s f = absurd (line_tail 13 [] (λ e. absurd (omega arith)) f.0)
complete (Pass fault left) m s f = absurd (no_empty_block left f.0 f.1 f.2)

ready_before : (old new : Progress) → IsSound old → IsReady new → Goes old [] new → IsReady old
unfolding Goes
ready_before old (Ready y) s r g = complete old y s ((g [] y).1 (refl, refl))
ready_before old (Line front) s r g = absurd r
ready_before old (Block h f) s r g = absurd r
ready_before old (Returned h v) s r g = absurd r
ready_before old (Pass fault left) s r g = absurd r

none_taken : (old new : Progress) (from : List ℕ) (n : ℕ) → IsSound old → Takes old from new n → n ≡ 0 → (from ≡ []) ⊎ IsReady old
none_taken old new [] n s t e = inl refl
none_taken old new (b ∷ from) n s t e = inr (ready_before old new s (t.through (omega arith)) (subst (λ k. Goes old (take k (b ∷ from)) new) e t.goes))

ready_takes : (old new : Progress) (taken : List ℕ) → IsReady old → IsSound new → Goes old taken new → taken ≡ []
unfolding Goes
ready_takes (Ready y) new taken r s g = let c = completion new s in front_none taken c.0 ((g c.0 c.1).1 c.2).0
ready_takes (Line front) new taken r s g = absurd r
ready_takes (Block h f) new taken r s g = absurd r
ready_takes (Returned h v) new taken r s g = absurd r
ready_takes (Pass fault left) new taken r s g = absurd r

takes_nothing : (old new : Progress) (from : List ℕ) (n : ℕ) → Takes old from new n → (from ≡ []) ⊎ IsReady old → n ≡ 0
takes_nothing old new from n t (inl e) = omega (arith, t.within, ap length e)
takes_nothing old new from n t (inr r) = omega (arith, length-take-le n from t.within, ap length (ready_takes old new (take n from) r t.sound t.goes))

-- no byte is taken exactly where there is none, or a whole message waits
pub takes_exactly : (old new : Progress) (from : List ℕ) (n : ℕ) → IsSound old → Takes old from new n → (n ≡ 0) ↔ ((from ≡ []) ⊎ IsReady old)
takes_exactly old new from n s t = ((λ e. none_taken old new from n s t e), λ w. takes_nothing old new from n t w)

-- what is sound is within the limits
pub bounded : (p : Progress) → IsSound p → IsBounded p
bounded (Line front) s = s.1
bounded (Block h f) s = omega (arith, s.0, s.1)
bounded (Returned h v) s = omega (arith, s.0, s.1)
bounded (Pass fault left) s = tt
bounded (Ready y) s = tt
