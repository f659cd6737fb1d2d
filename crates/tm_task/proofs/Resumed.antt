-- Which answers some deeds handed to their tasks.
use Rattle.std.proofs.Common.{◌≡◌, ℕ, List, [], ◌∷◌, ◌++◌, map, refl, sym, ◌∙◌, ap, arith}
use Rattle.tm_seq.specs.Kind.{Kind}
use Rattle.tm_pair.specs.Theory.{Theory}
use Rattle.tm_client.specs.declared.books.Books.{Books}
use Rattle.tm_client.specs.declared.trust.Trust.{Trust}
use Rattle.tm_task.specs.declared.deed.Deed.{Deed}
use Rattle.tm_task.specs.declared.deed.Deed.TheVariants.{Added, Started, Asked, Resumed, Turned}
use Rattle.tm_task.specs.Progressing.{moves_in, resumed_in, turns_in}
use Rattle.tm_task.specs.Rules.{Rules}
use Rattle.tm_task.specs.Runs.{World, Runs}

module _ {V T U O R K : Type 0} where
  pub resumed_append : (xs ys : List (Deed V T U O R K)) → resumed_in (xs ++ ys) ≡ resumed_in xs ++ resumed_in ys
  resumed_append [] ys = refl
  resumed_append (Added task ∷ xs) ys = resumed_append xs ys
  resumed_append (Started n move ∷ xs) ys = resumed_append xs ys
  resumed_append (Asked n i op ∷ xs) ys = resumed_append xs ys
  resumed_append (Resumed n got move ∷ xs) ys = ap (λ ns. n ∷ ns) (resumed_append xs ys)
  resumed_append (Turned t turn ∷ xs) ys = resumed_append xs ys

  -- none where no task moved
  pub none_resumed : (deeds : List (Deed V T U O R K)) → moves_in deeds ≡ 0 → resumed_in deeds ≡ []
  none_resumed [] none = refl
  none_resumed (Added task ∷ deeds) none = none_resumed deeds none
  none_resumed (Started n move ∷ deeds) none = absurd (omega (arith, none))
  none_resumed (Asked n i op ∷ deeds) none = none_resumed deeds none
  none_resumed (Resumed n got move ∷ deeds) none = absurd (omega (arith, none))
  none_resumed (Turned t turn ∷ deeds) none = none_resumed deeds none

module _ {V O R K D : Type 0} where
  -- the continuations of what came to a client and was not taken
  abbrev pub afters_of : Books V ℕ D O R K → List ℕ
  afters_of books = map (λ a. a.after) books.arrived.items

module _ {V T U O R K D Table Owner : Type 0} (theory : Theory V O R K Table D Owner) (kind : Kind V O R K) (rules : Rules V T U O R K)
    (trusts : List Trust) where
  -- where the client made no turn, what had come was handed to its task, the first first, or is there still
  pub resumed_are : (deeds : List (Deed V T U O R K)) (was now : World V T U O R K D Table) → turns_in deeds ≡ []
      → Runs theory kind rules trusts deeds was now → afters_of was.books ≡ resumed_in deeds ++ afters_of now.books
  unfolding Runs
  resumed_are [] was now none same = ap (λ w. afters_of w.books) (sym same)
  resumed_are (Added task ∷ deeds) was now none (mid, does, rest) =
      ap (λ b. afters_of b) (sym does.calls.books) ∙ resumed_are deeds mid now none rest
  resumed_are (Started n move ∷ deeds) was now none (mid, does, rest) =
      ap (λ b. afters_of b) (sym does.calls.books) ∙ resumed_are deeds mid now none rest
  resumed_are (Asked n i op ∷ deeds) was now none (mid, does, rest) =
      ap (λ b. map (λ a. a.after) b.items) (sym does.calls.asked.rest.arrived) ∙ resumed_are deeds mid now none rest
  resumed_are (Resumed n got move ∷ deeds) was now none (mid, does, rest) =
      ap (map (λ a. a.after)) does.calls.taken.first ∙ ap (λ ns. n ∷ ns) (resumed_are deeds mid now none rest)
  resumed_are (Turned t turn ∷ deeds) was now none (mid, does, rest) = absurd cc
