-- What a client's calls keep of it.
use Rattle.std.proofs.Common.{◌≡◌, ℕ, ◌<◌, inl, inr, false, List, length, length-set, refl, sym, ◌∙◌, ap, subst, arith}
use Rattle.std.specs.Prelude.{slice_get, slice_set, IsSomeAnd}
use Rattle.std.specs.declared.option.Option.TheVariants.{Some}
use Rattle.std.proofs.lemmas.Option.{slice_get_within}
use Rattle.tm_batch.specs.declared.message.Request.{Request}
use Rattle.tm_client.specs.declared.client.Client.{Client}
use Rattle.tm_client.specs.declared.trust.Trust.{Trust}
use Rattle.tm_client.specs.declared.answers.Got.{Got}
use Rattle.tm_client.specs.Asking.{HasAsked}
use Rattle.tm_client.specs.Clients.{IsClient}
use Rattle.tm_client.specs.Listing.{HasHold, hold_of}
use Rattle.tm_client.specs.Taking.{HasTaken}
use Rattle.tm_client.proofs.Elements.{set_cases, element_at, same_element}
use Rattle.tm_pair.specs.Theory.{Theory}
use Rattle.tm_asking.specs.Asking.{IsAsking, MayAskBy}
use Rattle.tm_asking.specs.Turning.{IsAtTables}
use Rattle.mc_model.specs.declared.reply.ShardReply.{ShardReply}
use Rattle.mc_model.specs.declared.reply.ShardReply.TheVariants.{Missing}
use Rattle.mc_shard.specs.declared.op.ShardOp.{ShardOp}
use Rattle.mc_route.specs.Places.{StoreValue}
use Rattle.mc_next.specs.Parts.{StoreTask, StoreView, StoreQuestion}
use Rattle.mc_next.specs.Clients.{StoreBooks, StoreLane, AreStoreTrusts}
use Rattle.mc_next.specs.Works.{KeepsClient, KeepsWaits, StoreState}

-- a client is the books that it keeps
pub same_client : {D P Q : Type 0} (a b : Client StoreValue ℕ P ShardOp ShardReply StoreTask D Q) → a.books ≡ b.books → a ≡ b
same_client {D = D} {P = P} {Q = Q} a b e = let of : StoreBooks D → Client StoreValue ℕ P ShardOp ShardReply StoreTask D Q = λ books. record { books = books } in ap of e

module _ {D : Type 0} where
  pub keeps_none : (books : StoreBooks D) → KeepsClient books books
  keeps_none books = record {
    number = refl;
    held = refl;
    many = refl;
    sides = λ t lane becomes e f.
        let same = same_element books.lanes.items t lane becomes e f in
        (ap (λ l. l.side) same, ap (λ l. l.closing) same, ap (λ l. l.fetching) same);
  }

  pub keeps_then : (first mid last : StoreBooks D) → KeepsClient first mid → KeepsClient mid last → KeepsClient first last
  keeps_then first mid last h k = record {
    number = k.number ∙ h.number;
    held = k.held ∙ h.held;
    many = k.many ∙ h.many;
    sides = λ t lane becomes e f.
        let lt = slice_get_within first.lanes.items t lane e in
        let many = h.many in
        let (between, there) = element_at mid.lanes.items t (omega (arith, lt, many)) in
        let one = h.sides t lane between e there in
        let two = k.sides t between becomes there f in
        (two.0 ∙ one.0, two.1 ∙ one.1, two.2 ∙ one.2);
  }

  -- one lane was set, whose side and marks are as before
  lane_set :
      (old : StoreBooks D) (t : ℕ) (lane becomes : StoreLane D) (lanes : List (StoreLane D)) → slice_get old.lanes.items t ≡ Some lane
      → lanes ≡ slice_set old.lanes.items t becomes → becomes.side ≡ lane.side → becomes.closing ≡ lane.closing → becomes.fetching ≡ lane.fetching
      → (k : ℕ) (was now : StoreLane D) → slice_get old.lanes.items k ≡ Some was → slice_get lanes k ≡ Some now
      → (now.side ≡ was.side) × (now.closing ≡ was.closing) × (now.fetching ≡ was.fetching)
  lane_set old t lane becomes lanes at set side closing fetching k was now e f =
      elim (set_cases old.lanes.items t k becomes now (subst (λ xs. slice_get xs k ≡ Some now) set f)) [
        | inl (same, is) ↦
            let here : was ≡ lane = same_element old.lanes.items t lane was at (subst (λ n. slice_get old.lanes.items n ≡ Some was) same e) in (
              ap (λ l. l.side) is ∙ side ∙ sym (ap (λ l. l.side) here),
              ap (λ l. l.closing) is ∙ closing ∙ sym (ap (λ l. l.closing) here),
              ap (λ l. l.fetching) is ∙ fetching ∙ sym (ap (λ l. l.fetching) here),
            )
        | inr (other, there) ↦
            let here = same_element old.lanes.items k was now e there in
            (ap (λ l. l.side) here, ap (λ l. l.closing) here, ap (λ l. l.fetching) here)
      ]

  pub keeps_asked : (t : ℕ) (q : Request StoreValue ShardOp ShardReply StoreTask) (after more : ℕ) (old new : StoreBooks D) → HasAsked t q after more old new → KeepsClient old new
  keeps_asked t q after more old new h = record {
    number = h.rest.number;
    held = h.rest.held;
    many = ap length h.lanes ∙ length-set old.lanes.items t h.becomes;
    sides = lane_set old t h.lane h.becomes new.lanes.items h.of_lane h.lanes h.accepts.side h.accepts.closing h.accepts.fetching;
  }

  pub keeps_taken : (after : ℕ) (got : Got StoreValue ShardOp ShardReply StoreTask) (old new : StoreBooks D) → HasTaken after got old new → new.held ≡ old.held → KeepsClient old new
  keeps_taken after got old new h held = record {
    number = h.number;
    held = held;
    many = ap length h.lanes ∙ length-set old.lanes.items h.t h.becomes;
    sides = lane_set old h.t h.lane h.becomes new.lanes.items h.of_lane h.lanes h.counts.side h.counts.closing h.counts.fetching;
  }

  pub waits_none : (books : StoreBooks D) → KeepsWaits books books
  waits_none books = λ t lane becomes e f. ap (λ l. l.waits) (same_element books.lanes.items t lane becomes e f)

  pub waits_then : (first mid last : StoreBooks D) → KeepsClient first mid → KeepsWaits first mid → KeepsWaits mid last → KeepsWaits first last
  waits_then first mid last keeps h k = λ t lane becomes e f.
      let lt = slice_get_within first.lanes.items t lane e in
      let many = keeps.many in
      let (between, there) = element_at mid.lanes.items t (omega (arith, lt, many)) in
      k t between becomes there f ∙ h t lane between e there

  pub waits_taken : (after : ℕ) (got : Got StoreValue ShardOp ShardReply StoreTask) (old new : StoreBooks D) → HasTaken after got old new → KeepsWaits old new
  waits_taken after got old new h = λ k was now e f.
      elim (set_cases old.lanes.items h.t k h.becomes now (subst (λ xs. slice_get xs k ≡ Some now) h.lanes f)) [
        | inl (same, is) ↦
            let here : was ≡ h.lane = same_element old.lanes.items h.t h.lane was h.of_lane (subst (λ n. slice_get old.lanes.items n ≡ Some was) same e) in
            ap (λ l. l.waits) is ∙ h.counts.waits ∙ sym (ap (λ l. l.waits) here)
        | inr (other, there) ↦ ap (λ l. l.waits) (same_element old.lanes.items k was now e there)
      ]

  -- the client holds the trusts still
  pub trusts_stay : (trustees : ℕ) (old new : StoreBooks D) (trusts : List Trust) → AreStoreTrusts trustees old trusts → KeepsClient old new → AreStoreTrusts trustees new trusts
  trusts_stay trustees old new trusts a k = record {
    fewest = a.fewest;
    most = a.most;
    many = k.many ∙ a.many;
    count = a.count;
    classes = a.classes;
    desk = a.desk;
    held = λ i trust e. let h = a.held i trust e in (h.0 ∙ sym k.number, subst (λ held. HasHold held (hold_of trust.trustee trust.name)) (sym k.held) h.1);
  }

module _ {D Table Owner : Type 0} (theory : Theory StoreValue ShardOp ShardReply StoreTask Table D Owner) where
  pub home_stays :
      (openings : ℕ → StoreState) (tables : List Table) (old new : StoreBooks D) → IsAtTables theory openings tables old → KeepsClient old new
      → IsClient theory.client_view openings new → IsAtTables theory openings tables new
  home_stays openings tables old new home k client = record {
    few = home.few;
    as_many = home.as_many ∙ sym k.many;
    opens = home.opens;
    mine = λ t table lane e f.
        let lt = slice_get_within new.lanes.items t lane f in
        let many = k.many in
        let (was, there) = element_at old.lanes.items t (omega (arith, lt, many)) in
        subst (λ d. theory.HasClient table d) (sym (k.sides t was lane there f).0) (home.mine t table was e there);
    client = client;
  }

module _ {D : Type 0} (view : D → StoreView) where
  -- a client that asked was closed at no trustee, so it may ask by each of its trusts
  pub may_ask :
      (trustees i : ℕ) (trust : Trust) (trusts : List Trust) (was : ℕ → StoreView) (asked : List StoreQuestion) (replies : List ShardReply) (books : StoreBooks D)
      → AreStoreTrusts trustees books trusts → slice_get trusts i ≡ Some trust → trust.trustee < trustees → IsAsking view Missing was asked replies books
      → MayAskBy books trust
  may_ask trustees i trust trusts was asked replies books a at below is =
      let many = a.many in
      let (lane, there) = element_at books.lanes.items trust.trustee (omega (arith, below, many)) in
      (a.held i trust at, subst (λ o. IsSomeAnd o (λ l. l.closing ≡ false)) (sym there) (is.lanes trust.trustee lane there).is_open)
