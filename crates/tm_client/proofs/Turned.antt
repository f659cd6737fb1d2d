-- What a look of a client at a trustee did.
use Rattle.std.proofs.Common.{◌≡◌, ℕ, ◌+◌, ◌++◌, length, refl, sym, ◌∙◌, ap, subst}
use Rattle.std.specs.Prelude.{nat_eq, slice_get, slice_set}
use Rattle.std.specs.List.{AllByRecursion, IsDistinct, Contains}
use Rattle.std.specs.declared.option.Option.TheVariants.{None, Some}
use Rattle.std.proofs.lemmas.Option.{slice_get_within}
use Rattle.tm_seq.specs.Kind.{Kind}
use Rattle.tm_batch.specs.declared.message.AnswerBatch.{AnswerBatch}
use Rattle.tm_model.specs.State.{State}
use Rattle.tm_model.specs.Ran.{ran}
use Rattle.tm_pair.specs.Calls.{IsPending, Gets}
use Rattle.tm_pair.specs.Sides.{IsGoodClient}
use Rattle.tm_pair.specs.Theory.{Theory, TheoryLaws, KeepsSides}
use Rattle.tm_pair.specs.declared.moves.Move.TheVariants.{Collect}
use Rattle.tm_client.specs.declared.lane.Lane.{Lane}
use Rattle.tm_client.specs.declared.answers.Turn.TheVariants.{Pending, Got}
use Rattle.tm_client.specs.declared.books.Books.{Books}
use Rattle.tm_client.specs.Lanes.{out_requests}
use Rattle.tm_client.specs.Clients.{IsClient}
use Rattle.tm_client.specs.Launches.{ended_tickets, tickets_of, told_tickets, waiting_tickets, with_told}
use Rattle.tm_client.specs.Receiving.{MayReceive, HasReceived, HasTakenIn}
use Rattle.tm_client.specs.Tickets.{EndsTickets}
use Rattle.tm_client.specs.SideLaws.{Brings}
use Rattle.tm_client.specs.Turns.{HasTurned}
use Rattle.tm_client.proofs.Bringing.{collects_bring}
use Rattle.tm_client.proofs.Fronts.{set_there}
use Rattle.tm_client.proofs.Living.{sent_is}
use Rattle.tm_client.proofs.Looking.{may_receive, as_many, gifts_fit, got_extends, same_extends, side_is, becomes_there, received, looking_keeps}
use Rattle.tm_client.proofs.Receiving.{receiving_keeps}
use Rattle.tm_client.proofs.Seeing.{sees_at}
use Rattle.tm_client.proofs.Tickets.{collects_end}
use Rattle.tm_client.proofs.Told as told

module _ {V C D O R T Table Owner : Type 0} (theory : Theory V O R T Table D Owner) (kind : Kind V O R T) (laws : TheoryLaws theory kind)
    (openings : ℕ → State V O R T) (t : ℕ) (was now : Table) (lane : Lane V C D O R T) (side : D) (old : Books V C D O R T)
    (is : IsClient theory.client_view openings old) (there : slice_get old.lanes.items t ≡ Some lane) (same : openings t ≡ theory.opening was)
    (mine : theory.HasClient was lane.side) (keeps : KeepsSides theory was now lane.side side) where
  good_was : IsGoodClient kind (openings t) (theory.client_view lane.side)
  good_was = subst (λ s. IsGoodClient kind s (theory.client_view lane.side)) (sym same) (laws.client_is_good was lane.side mine)

  good_now : IsGoodClient kind (openings t) (theory.client_view side)
  good_now = subst (λ s. IsGoodClient kind s (theory.client_view side)) (keeps.opening ∙ sym same) (laws.client_is_good now side keeps.mine)

  -- it found the answers a, and has room for them
  pub may_take : (a : AnswerBatch V O R T) → Gets a (theory.client_view lane.side) (theory.client_view side) → MayReceive a lane old
  may_take a gets =
      may_receive theory.client_view openings t a lane old (theory.client_view side) is there
      (ran (theory.client_view lane.side).place (theory.client_view lane.side).seen) (sent_is kind (openings t) (theory.client_view lane.side) good_was) gets
      (collects_bring kind (openings t) (theory.client_view lane.side) (theory.client_view side) a good_was good_now gets)
      (collects_end kind (openings t) (theory.client_view lane.side) (theory.client_view side) a good_was good_now gets)

  -- it found the answers a, and took them in
  module _ (a : AnswerBatch V O R T) (mid new : Books V C D O R T)
      (lanes_are : mid.lanes.items ≡ slice_set old.lanes.items t (record lane { side = side })) (rest : mid ≡ record old { lanes = mid.lanes })
      (taken : HasTakenIn t a mid new) (gets : Gets a (theory.client_view lane.side) (theory.client_view side)) where
    becomes_side : taken.becomes.side ≡ side
    becomes_side = side_is theory.client_view t a lane side old mid new there lanes_are rest taken

    becomes_received : HasReceived t a lane taken.becomes old new
    becomes_received = received theory.client_view t a lane side old mid new there lanes_are rest taken

    becomes_gets : Gets a (theory.client_view lane.side) (theory.client_view taken.becomes.side)
    becomes_gets = subst (λ s. Gets a (theory.client_view lane.side) (theory.client_view s)) (sym becomes_side) gets

    becomes_good : IsGoodClient kind (openings t) (theory.client_view taken.becomes.side)
    becomes_good = subst (λ s. IsGoodClient kind (openings t) (theory.client_view s)) (sym becomes_side) good_now

    brings : Brings (openings t) (out_requests (theory.client_view lane.side).out) a (theory.client_view lane.side) (theory.client_view taken.becomes.side)
    brings = collects_bring kind (openings t) (theory.client_view lane.side) (theory.client_view taken.becomes.side) a good_was becomes_good becomes_gets

    ends : EndsTickets a (theory.client_view lane.side) (theory.client_view taken.becomes.side)
    ends = collects_end kind (openings t) (theory.client_view lane.side) (theory.client_view taken.becomes.side) a good_was becomes_good becomes_gets

    run_is : (theory.client_view lane.side).sent
        ≡ ran (theory.client_view lane.side).place (theory.client_view lane.side).seen ++ out_requests (theory.client_view lane.side).out
    run_is = sent_is kind (openings t) (theory.client_view lane.side) good_was

    -- the tickets of the launches that lack their completion, and of those that begin
    tickets_are : tickets_of (with_told lane a) ≡ waiting_tickets (theory.client_view lane.side).got ++ told_tickets a.answers.items
    tickets_are =
        told.tickets_are theory.client_view openings t a lane old is there (theory.client_view taken.becomes.side)
        (ran (theory.client_view lane.side).place (theory.client_view lane.side).seen) run_is
        (as_many a (theory.client_view lane.side) (theory.client_view side) gets) brings ends

    pub got_keeps : IsClient theory.client_view openings new
    got_keeps =
        receiving_keeps theory.client_view openings t a lane taken.becomes old new is becomes_received
        (ran (theory.client_view lane.side).place (theory.client_view lane.side).seen) (sent_is kind (openings t) (theory.client_view lane.side) good_was)
        (as_many a (theory.client_view lane.side) (theory.client_view side) gets) becomes_gets brings ends
        (gifts_fit a (theory.client_view lane.side) (theory.client_view side) gets)

    pub got_turned : (n : ℕ) → n ≡ length a.answers.items + length a.gifts.items + length a.completions.items
        → theory.Did (Collect (theory.client_view lane.side).place (Some a)) was now → HasTurned theory kind t (Got n) was now old new
    got_turned n count did =
        let h = becomes_received in record {
          lane = lane;
          becomes = taken.becomes;
          turns = record { of_lane = there; lanes = h.lanes; closing = h.closing; number = h.number; clients = h.clients; most = h.most; held = h.held };
          tells = record {
            answers = a;
            gets = becomes_gets;
            did = did;
            count = count;
            arrived = h.arrived;
            launched = h.launched;
            gifts = h.gifts;
            waits = h.waits;
            afters = h.afters;
            counting = h.counting;
            fetching = h.fetching;
            said = h.said;
            fits = brings.fits;
            once = subst (IsDistinct nat_eq) (sym tickets_are) ends.told;
            ended = ends.ended;
            ends = subst (λ tickets. AllByRecursion (Contains tickets) (ended_tickets a.completions.items)) (sym tickets_are) ends.among;
          };
          keeps = subst (λ s. KeepsSides theory was now lane.side s) (sym becomes_side) keeps;
          extends = got_extends a (theory.client_view lane.side) (theory.client_view taken.becomes.side) becomes_gets;
          sees =
              sees_at theory kind openings t taken.becomes new got_keeps (becomes_there theory.client_view t a lane side old mid new there lanes_are rest taken)
              becomes_good (theory.opening was) same;
        }

  -- it found nothing
  module _ (new : Books V C D O R T) (lanes_are : new.lanes.items ≡ slice_set old.lanes.items t (record lane { side = side }))
      (rest : new ≡ record old { lanes = new.lanes }) (pending : IsPending (theory.client_view lane.side) (theory.client_view side)) where
    pub pending_keeps : IsClient theory.client_view openings new
    pending_keeps = looking_keeps theory.client_view openings t lane side old new is there lanes_are rest pending

    pub pending_turned : theory.Did (Collect (theory.client_view lane.side).place None) was now → HasTurned theory kind t Pending was now old new
    pending_turned did = record {
      lane = lane;
      becomes = record lane { side = side };
      turns = record {
        of_lane = there;
        lanes = lanes_are;
        closing = refl;
        number = ap (λ b. b.number) rest;
        clients = ap (λ b. b.clients) rest;
        most = ap (λ b. b.most) rest;
        held = ap (λ b. b.held) rest;
      };
      tells = record { pending = pending; did = did; stays = refl; rest = rest };
      keeps = keeps;
      extends = same_extends (theory.client_view lane.side) (theory.client_view side) pending.seen;
      sees =
          sees_at theory kind openings t (record lane { side = side }) new pending_keeps
          (subst (λ xs. slice_get xs t ≡ Some (record lane { side = side })) (sym lanes_are)
          (set_there old.lanes.items t (record lane { side = side }) (slice_get_within old.lanes.items t lane there)))
          good_now (theory.opening was) same;
    }
