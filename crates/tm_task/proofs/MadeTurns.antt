-- The turns of the client in a turn of tasks, one after another.
use Rattle.std.proofs.Common.{◌≡◌, ℕ, ◌+◌, ◌≤◌, Bool, false, List, [], ◌∷◌, ◌++◌, length, length-set, append_assoc, map, refl, sym, ◌∙◌, ap, subst, arith}
use Rattle.std.specs.Prelude.{◌||◌, slice_get, slice_set}
use Rattle.std.specs.declared.option.Option.TheVariants.{Some}
use Rattle.std.proofs.lemmas.List.Elements.{All-append, All-nil, All-push}
use Rattle.tm_seq.specs.Kind.{Kind}
use Rattle.tm_model.specs.State.{State}
use Rattle.tm_pair.specs.Theory.{Theory}
use Rattle.tm_client.specs.declared.answers.Turn.{Turn}
use Rattle.tm_client.specs.declared.answers.Turn.TheVariants.{Sent, Pending, Got as GotSome, Idle}
use Rattle.tm_client.specs.declared.books.Books.{Books}
use Rattle.tm_client.specs.declared.trust.Trust.{Trust}
use Rattle.tm_client.specs.Clients.{IsClient}
use Rattle.tm_client.specs.Turns.{HasTurned}
use Rattle.tm_task.specs.declared.deed.Deed.TheVariants.{Turned}
use Rattle.tm_task.specs.declared.tasks.Tasks.{Tasks}
use Rattle.tm_task.specs.Going.{KeepsRest, HaveMadeTurns, has_gone, is_some}
use Rattle.tm_task.specs.Progressing.{rank, turns_in, went_in, counting_at, busy_at, all_pending, world_of}
use Rattle.tm_task.specs.Rules.{Rules}
use Rattle.tm_task.specs.Runs.{Runs}
use Rattle.tm_task.proofs.Busy.{turned_counting, turned_pending, busy_one}
use Rattle.tm_task.proofs.Chains.{moves_append, turns_append, went_append, some_of_two, or_none, pending_append, firsts_append, runs_then, runs_none, runs_one}
use Rattle.tm_task.proofs.Doing.{append_nil, rest_same, rest_then}

module _ {V T O R K U D Table Owner : Type 0} (theory : Theory V O R K Table D Owner) (kind : Kind V O R K) (rules : Rules V T U O R K) where
  -- no turn was made where nothing counts
  pub turns_none : (busy : List ℕ) (tasks : Tasks V T O R K U) (books : Books V ℕ D O R K) (tables : List Table) → busy ≡ []
      → HaveMadeTurns theory kind rules busy false tasks tasks books books tables tables
  turns_none busy tasks books tables e = record {
    deeds = [];
    told = sym (append_nil tasks.told.items);
    runs = runs_none theory kind rules tasks.trusts.items (world_of tasks books tables);
    moves = refl;
    ranks = λ count. All-nil (λ d. rank count d ≡ count + 1);
    turns = sym e;
    went_is = refl;
    pending = λ none empty. (ap all_pending (sym e), empty);
    counting = λ t. refl;
    stages = refl;
    many = refl;
    rest = rest_same tasks;
  }

  went_one : (t : ℕ) (turn : Turn) → has_gone turn ≡ is_some (went_in ((t, turn) ∷ []))
  went_one t (Sent m) = refl
  went_one t (GotSome m) = refl
  went_one t Pending = refl
  went_one t Idle = refl

  pub turns_one : (openings : ℕ → State V O R K) (t : ℕ) (turn : Turn) (before after : Table) (old new : Tasks V T O R K U) (was now : Books V ℕ D O R K)
      (tables later : List Table) (went : Bool) → went ≡ has_gone turn → IsClient theory.client_view openings was → HasTurned theory kind t turn before after was now → 1 ≤ counting_at was t
      → slice_get tables t ≡ Some before → later ≡ slice_set tables t after → new.told.items ≡ old.told.items ++ Turned t turn ∷ []
      → new.stages.items ≡ old.stages.items → KeepsRest old new
      → HaveMadeTurns theory kind rules (busy_at was t) went old new was now tables later
  turns_one openings t turn before after old new was now tables later went gone is turned some of set told stages rest =
      let one = busy_one was t some in
      record {
        deeds = Turned t turn ∷ [];
        told = told;
        runs =
            runs_one theory kind rules old.trusts.items (Turned t turn) (world_of old was tables) (world_of new now later)
            (record { steps = stages; calls = record { table = before; becomes = after; of_table = of; turned = turned; tables = set } });
        moves = refl;
        ranks = λ count. All-push (λ d. rank count d ≡ count + 1) [] (Turned t turn) (All-nil (λ d. rank count d ≡ count + 1)) refl;
        turns = sym one;
        went_is = gone ∙ went_one t turn;
        pending = λ none empty.
            let (pending, left) = turned_pending theory kind openings t turn before after was now is turned (sym gone ∙ none) empty some in
            (ap (λ x. (t, x) ∷ []) pending ∙ ap all_pending (sym one), left);
        counting = turned_counting theory kind t turn before after was now turned;
        stages = stages;
        many = ap length set ∙ length-set tables t after;
        rest = rest;
      }

  pub turns_then : (first busy : List ℕ) (a b : Bool) (old mid new : Tasks V T O R K U) (was between now : Books V ℕ D O R K) (before through after : List Table)
      → HaveMadeTurns theory kind rules first a old mid was between before through → HaveMadeTurns theory kind rules busy b mid new between now through after
      → HaveMadeTurns theory kind rules (first ++ busy) (a || b) old new was now before after
  turns_then first busy a b old mid new was between now before through after f s =
      let appended = turns_append f.deeds s.deeds in
      record {
        deeds = f.deeds ++ s.deeds;
        told = s.told ∙ ap (λ l. l ++ s.deeds) f.told ∙ append_assoc old.told.items f.deeds s.deeds;
        runs =
            runs_then theory kind rules old.trusts.items f.deeds s.deeds (world_of old was before)
            (world_of mid between through) (world_of new now after) f.runs
            (subst (λ (ts : List Trust). Runs theory kind rules ts s.deeds (world_of mid between through) (world_of new now after))
            (ap (λ v. v.items) f.rest.trusts) s.runs);
        moves = let both = moves_append f.deeds s.deeds in let x = f.moves in let y = s.moves in omega (arith, both, x, y);
        ranks = λ count. All-append (λ d. rank count d ≡ count + 1) f.deeds s.deeds (f.ranks count) (s.ranks count);
        turns = ap (map (λ turn. turn.0)) appended ∙ firsts_append (turns_in f.deeds) (turns_in s.deeds)
            ∙ ap (λ l. l ++ map (λ turn. turn.0) (turns_in s.deeds)) f.turns ∙ ap (λ l. first ++ l) s.turns;
        went_is = ap (λ x. x || b) f.went_is ∙ ap (λ x. is_some (went_in (turns_in f.deeds)) || x) s.went_is
            ∙ sym (some_of_two (went_in (turns_in f.deeds)) (went_in (turns_in s.deeds)))
            ∙ ap is_some (sym (went_append (turns_in f.deeds) (turns_in s.deeds))) ∙ ap (λ l. is_some (went_in l)) (sym appended);
        pending = λ none empty.
            let (x, y) = or_none a b none in
            let (here, left) = f.pending x empty in
            let (there, last) = s.pending y left in
            (appended ∙ ap (λ l. l ++ turns_in s.deeds) here ∙ ap (λ l. all_pending first ++ l) there ∙ sym (pending_append first busy), last);
        counting = λ t. s.counting t ∙ f.counting t;
        stages = s.stages ∙ f.stages;
        many = s.many ∙ f.many;
        rest = rest_then old mid new f.rest s.rest;
      }
