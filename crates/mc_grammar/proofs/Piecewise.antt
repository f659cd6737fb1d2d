-- Pieces of a text.
use Rattle.std.proofs.Common.{◌≡◌, ◌⊎◌, ◌↔◌, inl, inr, ℕ, zero, suc, ◌+◌, ◌-◌, ◌<◌, Bool, true, List, [], ◌++◌, length, get_or, take, drop, Bor, refl, sym, ap, subst, ◌∙◌, arith, append_assoc}
use Rattle.std.proofs.Math.Seq.{take-add}
use Rattle.std.specs.List.{flat_map}
use Rattle.std.proofs.lemmas.List.{append-nil, take_all, take_more, flat_map_more, length-drop}
use Rattle.mc_model.specs.declared.message.Message.{Message}
use Rattle.mc_grammar.specs.declared.progress.Progress.{Progress}
use Rattle.mc_grammar.specs.declared.progress.Progress.TheVariants.{Line, Block, Returned, Pass, Ready}
use Rattle.mc_grammar.specs.declared.reader.Next.{Next}
use Rattle.mc_grammar.specs.declared.reader.Next.TheVariants as next
use Rattle.mc_grammar.specs.Progress.{Goes, IsUnfinished, IsReady, Start}
use Rattle.mc_grammar.specs.Reading.{IsRead, ReadsOn, ReadsItem, ReadsRest, Comes, ReadsNext}
use Rattle.mc_grammar.specs.Pieces.{IsReading, ReadsInto, kept}
use Rattle.mc_grammar.proofs.ReadFacts.{reads_rest}
use Rattle.mc_grammar.proofs.Unfinished.{unfinished}

pub start_unfinished : IsUnfinished Start
start_unfinished = unfinished Start (tt, omega arith) (λ y e. absurd cc)

pub still_unfinished : (old new : Progress) (next : Next) → Comes old next new → IsUnfinished new
still_unfinished old new (next.Command c) h = subst IsUnfinished (sym h.1) start_unfinished
still_unfinished old new (next.Fault fault) h = subst IsUnfinished (sym h.1) start_unfinished
still_unfinished old new next.More h = subst IsUnfinished (sym h.1) h.0

pub into_none : (p : Progress) (messages : List Message) → ReadsInto p messages [] p messages
unfolding ReadsInto
into_none p messages bytes r = subst (λ (b : List ℕ). IsRead b messages p) (sym (append-nil bytes)) r

-- what comes next joins what was read
read_next : (bytes : List ℕ) (messages : List Message) (old new : Progress) (next : Next) → IsRead bytes messages old → Comes old next new → ReadsNext old next new → IsRead bytes (kept messages next) new
unfolding ReadsItem
read_next bytes messages old new (next.Command c) r h n = n bytes messages r
read_next bytes messages old new (next.Fault fault) r h n = n bytes messages r
read_next bytes messages old new next.More r h n = subst (λ p. IsRead bytes messages p) (sym h.1) r

pub into_more : (p q u s : Progress) (messages others : List Message) (taken more : List ℕ) (next : Next) → ReadsInto p messages taken q others → ReadsOn q more u → Comes u next s → ReadsNext u next s → ReadsInto p messages (taken ++ more) s (kept others next)
unfolding ReadsInto ReadsOn
into_more p q u s messages others taken more next i o h n bytes r =
    let first = o (bytes ++ taken) others (i bytes r) in
    read_next (bytes ++ (taken ++ more)) others u s next (subst (λ (b : List ℕ). IsRead b others u) (append_assoc bytes taken more) first) h n

-- the bytes from a place on, as a slice has them
pub from_place : (at n : ℕ) (s : List ℕ) → take at s ++ take n (take (length s - at) (drop at s)) ≡ take (at + n) s
from_place at n s = ap (λ b. take at s ++ take n b) (take_all (length s - at) (drop at s) (omega (arith, length-drop at s))) ∙ sym (take-add at n s)

not_ready : (p : Progress) → IsUnfinished p → IsReady p → ⊥
unfolding IsUnfinished
not_ready (Ready y) u h = u.2 u.3.0
not_ready (Line front) u h = absurd h
not_ready (Block _ _) u h = absurd h
not_ready (Returned _ _) u h = absurd h
not_ready (Pass _ _) u h = absurd h

some_bytes : (xs : List ℕ) → 0 < length xs → xs ≡ [] → ⊥
some_bytes xs lt e = omega (arith, ap length e)

empty_or : (xs : List ℕ) (p : Progress) → 0 < length xs → IsUnfinished p → (xs ≡ []) ⊎ IsReady p → ⊥
empty_or xs p lt u (inl e) = some_bytes xs lt e
empty_or xs p lt u (inr r) = not_ready p u r

-- where a byte is there, a byte is taken
pub took : (xs : List ℕ) (n : ℕ) (p : Progress) → 0 < length xs → IsUnfinished p → ((n ≡ 0) ↔ ((xs ≡ []) ⊎ IsReady p)) → 0 < n
took xs zero p lt u h = absurd (empty_or xs p lt u (h.0 refl))
took xs (suc n) p lt u h = omega arith

pub into_at : (p q : Progress) (messages others : List Message) (bytes taken : List ℕ) → ReadsInto p messages taken q others → IsRead bytes messages p → IsRead (bytes ++ taken) others q
unfolding ReadsInto
into_at p q messages others bytes taken i r = i bytes r

pub reading_of : (text : List ℕ) (messages : List Message) (p : Progress) (b : Bool) → IsRead text messages p → IsUnfinished p → ((held : List ℕ) → Goes Start held p → (b ≡ true) ↔ (held ≡ [])) → IsReading text messages b
unfolding ReadsRest
reading_of text messages p b r u h = record { rest = r.held; reads = reads_rest p u text messages r; whole = h r.held r.goes }

pub pieces_more : (pieces : List (Bor (List ℕ))) (i : ℕ) (d : Bor (List ℕ)) → i < length pieces → flat_map (λ p. p.now) (take i pieces) ++ (get_or pieces i d).now ≡ flat_map (λ p. p.now) (take (i + 1) pieces)
pieces_more pieces i d lt =
    flat_map_more (λ (p : Bor (List ℕ)). p.now) [] (take i pieces) (get_or pieces i d) ∙ ap (λ (ps : List (Bor (List ℕ))). flat_map (λ p. p.now) ps) (sym (take_more pieces i d lt))
