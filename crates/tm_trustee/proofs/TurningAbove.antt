-- What a turn leaves of a trustee's sides above, from what its two parts leave.
use Rattle.std.proofs.Common.{◌≡◌, ℕ, suc, ◌+◌, ◌<◌, ◌≤◌, ◌↔◌, true, false, List, [], ◌∷◌, length, map, slice_index_or, inl, inr, refl, sym, ◌∙◌, ap, subst, arith, length-append}
use Rattle.std.specs.Prelude.{All, IsSome, slice_get}
use Rattle.std.specs.declared.option.Option.{Option}
use Rattle.std.specs.declared.option.Option.TheVariants.{None, Some}
use Rattle.std.proofs.lemmas.Option.{slice_get-get_or, get_or_from_slice_get, slice_get_within}
use Rattle.tm_pair.specs.Views.{BatchView, ClientView}
use Rattle.tm_batch.specs.declared.message.Request.TheVariants.{Bye}
use Rattle.tm_pair.specs.Calls.{Publishes, Collects}
use Rattle.tm_pair.specs.Theory.{Theory}
use Rattle.tm_pair.specs.declared.table.Collected.{Collected}
use Rattle.tm_pair.specs.declared.table.Collected.TheVariants.{Answers, Pending, Idle}
use Rattle.tm_trustee.specs.Above.{one_if, published, IsAt, Exchanges, SaysBye, GoesUp, ExchangesAt, SaysByeAt, Each, moves_up, all_moves_up}
use Rattle.tm_trustee.specs.AboveAt.{EachAt, IsAbove}
use Rattle.tm_trustee.specs.declared.lane.Lane.{Lane}
use Rattle.tm_trustee.specs.Turn.{Tells}
use Rattle.tm_trustee.specs.declared.stage.Stage.{Stage}
use Rattle.tm_trustee.specs.declared.stage.Stage.TheVariants.{Before, Out, Over}
use Rattle.tm_trustee.specs.declared.served.Served.{Served}
use Rattle.tm_trustee.specs.declared.served.Served.TheVariants.{Moved, Quiet, Ended}
use Rattle.tm_trustee.proofs.Elements.{element_at}

one_at_most : {X : Type 0} (o : Option X) → one_if o ≤ 1
one_at_most None = omega arith
one_at_most (Some x) = omega arith

module _ {V O R T : Type 0} where
  -- what a side published and got only grows
  pub record Grows (old new : ClientView V O R T) : Type 0 where
    pub published : published old ≤ published new
    pub got : length old.got ≤ length new.got

  collected_grows : (found : Collected V O R T) (old new : ClientView V O R T) → Collects old new found → Grows old new
  collected_grows Idle old new idle = subst (λ view. Grows old view) (sym idle.kept) (record { published = omega arith; got = omega arith })
  collected_grows Pending old new pending =
      let (batch, before, after) = pending.out in
      let got : length new.got ≡ length old.got = ap (λ l. length l) pending.got in
      let first = ap one_if before in
      let then = ap one_if after in
      record { published = omega (arith, got, first, then); got = omega (arith, got) }
  collected_grows (Answers a) old new gets =
      let (b, room, are) = gets.answers in
      let got : length new.got ≡ length old.got + length (a ∷ []) = ap (λ l. length l) gets.got ∙ length-append old.got (a ∷ []) in
      let first = ap one_if are.out in
      let then = ap one_if gets.out in
      record { published = omega (arith, got, first, then); got = omega (arith, got) }

  exchanged_grows : (waits : List (ℕ × O)) (old new : ClientView V O R T) → Exchanges waits old new → Grows old new
  exchanged_grows waits old new (inl (out, (found, collects))) = collected_grows found old new collects
  exchanged_grows waits old new (inr (inl (free, some, (b, all, asked, publishes)))) =
      let got : length new.got ≡ length old.got = ap (λ l. length l) publishes.got in
      let first = one_at_most old.out in
      let then = ap one_if publishes.out in
      record { published = omega (arith, got, first, then); got = omega (arith, got) }
  exchanged_grows waits old new (inr (inr (free, none, same))) = subst (λ view. Grows old view) (sym same) (record { published = omega arith; got = omega arith })

  bye_grows : (all : Type 0) (old new : ClientView V O R T) → SaysBye all old new → Grows old new
  bye_grows all old new (inl said) =
      let got : length new.got ≡ length old.got = ap (λ l. length l) said.2.got in
      let first = one_at_most old.out in
      let then = ap one_if said.2.out in
      record { published = omega (arith, got, first, then); got = omega (arith, got) }
  bye_grows all old new (inr kept) = subst (λ view. Grows old view) (sym kept.0) (record { published = omega arith; got = omega arith })

  moves_join : (old mid new : ClientView V O R T) → Grows old mid → Grows mid new → moves_up old mid + moves_up mid new ≡ moves_up old new
  moves_join old mid new first then = omega (arith, first.published, first.got, then.published, then.got)

  -- both parts together, at each side
  pub goes_up :
      (waits : ℕ → ClientView V O R T → List (ℕ × O)) (all : Type 0) (u : ℕ) (olds mids news : List (ClientView V O R T))
      → Each (λ n from to. Exchanges (waits n from) from to) u olds mids → Each (λ n from to. SaysBye all from to) u mids news
      → Each (λ n from to. GoesUp (waits n from) all from to) u olds news
  goes_up waits all u [] [] [] looks says = tt
  goes_up waits all u [] [] (new ∷ news) looks says = absurd says
  goes_up waits all u [] (mid ∷ mids) news looks says = absurd looks
  goes_up waits all u (old ∷ olds) [] news looks says = absurd looks
  goes_up waits all u (old ∷ olds) (mid ∷ mids) [] looks says = absurd says
  goes_up waits all u (old ∷ olds) (mid ∷ mids) (new ∷ news) looks says =
      ((mid, looks.0, says.0), goes_up waits all (u + 1) olds mids news looks.1 says.1)

  -- and what they moved
  pub all_moves_join :
      (waits : ℕ → ClientView V O R T → List (ℕ × O)) (all : Type 0) (u : ℕ) (olds mids news : List (ClientView V O R T))
      → Each (λ n from to. Exchanges (waits n from) from to) u olds mids → Each (λ n from to. SaysBye all from to) u mids news
      → all_moves_up olds mids + all_moves_up mids news ≡ all_moves_up olds news
  all_moves_join waits all u [] [] [] looks says = refl
  all_moves_join waits all u [] [] (new ∷ news) looks says = absurd says
  all_moves_join waits all u [] (mid ∷ mids) news looks says = absurd looks
  all_moves_join waits all u (old ∷ olds) [] news looks says = absurd looks
  all_moves_join waits all u (old ∷ olds) (mid ∷ mids) [] looks says = absurd says
  all_moves_join waits all u (old ∷ olds) (mid ∷ mids) (new ∷ news) looks says =
      let here : moves_up old mid + moves_up mid new ≡ moves_up old new =
      moves_join old mid new (exchanged_grows (waits u old) old mid looks.0) (bye_grows all mid new says.0) in
      let rest : all_moves_up olds mids + all_moves_up mids news ≡ all_moves_up olds news = all_moves_join waits all (u + 1) olds mids news looks.1 says.1 in
      omega (arith, here, rest)

  -- where one condition stands for another
  says_as : (a b : Type 0) → (a → b) → (b → a) → (old new : ClientView V O R T) → SaysBye a old new → SaysBye b old new
  says_as a b to from old new (inl said) = inl (to said.0, said.1, said.2)
  says_as a b to from old new (inr (same, inl was)) = inr (same, inl was)
  says_as a b to from old new (inr (same, inr fails)) = inr (same, inr (λ holds. fails (from holds)))

  pub all_say_as :
      (a b : Type 0) → (a → b) → (b → a) → (u : ℕ) (olds news : List (ClientView V O R T)) → Each (λ n from to. SaysBye a from to) u olds news
      → Each (λ n from to. SaysBye b from to) u olds news
  all_say_as a b to from u [] [] says = tt
  all_say_as a b to from u [] (new ∷ news) says = absurd says
  all_say_as a b to from u (old ∷ olds) [] says = absurd says
  all_say_as a b to from u (old ∷ olds) (new ∷ news) says = (says_as a b to from old new says.0, all_say_as a b to from (u + 1) olds news says.1)

  pub none_moves : (views : List (ClientView V O R T)) → all_moves_up views views ≡ 0
  none_moves [] = refl
  none_moves (view ∷ views) =
      let rest : all_moves_up views views ≡ 0 = none_moves views in omega (arith, rest)

  -- a side that is over is noted as such
  only_over : (stage : Stage) (view : ClientView V O R T) → IsAt stage view → IsAt Over view → stage ≡ Over
  only_over Before view at over = let e : false ≡ true = sym at ∙ over.0 in absurd cc
  only_over Out view at over = let none : IsSome {T = BatchView V O R T} None = subst (λ (o : Option (BatchView V O R T)). IsSome o) over.1 at.1 in absurd cc
  only_over Over view at over = refl

  pub over_exactly :
      (place : ℕ) (lanes : List (Lane V O R T)) (ups : List (ClientView V O R T)) → IsAbove place lanes ups
      → All (λ lane. lane.stage ≡ Over) lanes ↔ All (IsAt Over) ups
  over_exactly place lanes ups above = (
    λ over k d lt.
        let there : slice_get ups k ≡ Some (slice_index_or ups k d) = slice_get-get_or ups k d lt in
        let within : k < length lanes = subst (λ n. k < n) (sym above.as_many) lt in
        let (lane, noted) = element_at lanes k within in
        let last : lane.stage ≡ Over = subst (λ (l : Lane V O R T). l.stage ≡ Over) (get_or_from_slice_get lanes k lane lane noted) (over k lane within) in
        subst (λ stage. IsAt stage (slice_index_or ups k d)) last (above.stages k lane _ noted there),
    λ over k d lt.
        let within : k < length ups = subst (λ n. k < n) above.as_many lt in
        let noted : slice_get lanes k ≡ Some (slice_index_or lanes k d) = slice_get-get_or lanes k d lt in
        let (up, there) = element_at ups k within in
        let last : IsAt Over up = subst (λ view. IsAt Over view) (get_or_from_slice_get ups k up up there) (over k up within) in
        only_over (slice_index_or lanes k d).stage up (above.stages k _ up noted there) last,
  )

-- what a turn says, where one condition stands for another
pub tells_as : (served : Served) (a b : Type 0) (moved : ℕ) → (a → b) → (b → a) → Tells served a moved → Tells served b moved
tells_as Ended a b moved to from tells = to tells
tells_as Quiet a b moved to from tells = (λ holds. tells.0 (from holds), tells.1)
tells_as (Moved n) a b moved to from tells = (λ holds. tells.0 (from holds), tells.1, tells.2)

module _ {V O R T Table Client Owner : Type 0} (theory : Theory V O R T Table Client Owner) where
  module _ (Goes : ℕ → Table → Table → Client → Client → Type 0) (Sees : ℕ → ClientView V O R T → ClientView V O R T → Type 0)
      (sees : (n : ℕ) (was now : Table) (before after : Client) → Goes n was now before after → Sees n (theory.client_view before) (theory.client_view after)) where
    each_sees :
        (u : ℕ) (olds news : List Client) → length news ≡ length olds
        → ((k : ℕ) (before after : Client) → slice_get olds k ≡ Some before → slice_get news k ≡ Some after
        → Sees (u + k) (theory.client_view before) (theory.client_view after))
        → Each Sees u (map theory.client_view olds) (map theory.client_view news)
    each_sees u [] [] e goes = tt
    each_sees u [] (n ∷ news) e goes = absurd (omega (arith, e))
    each_sees u (o ∷ olds) [] e goes = absurd (omega (arith, e))
    each_sees u (o ∷ olds) (n ∷ news) e goes =
        let first : u + 0 ≡ u = omega arith in (
          subst (λ m. Sees m (theory.client_view o) (theory.client_view n)) first (goes 0 o n refl refl),
          each_sees (u + 1) olds news (omega (arith, e))
              (λ k before after eb ea.
              let next : u + suc k ≡ u + 1 + k = omega arith in
              subst (λ m. Sees m (theory.client_view before) (theory.client_view after)) next (goes (suc k) before after eb ea)),
        )

    -- what holds of the views of a side that went on holds of those of each that did
    all_seen :
        (from : ℕ) (old new : List Table) (above above_new : List Client) → length above_new ≡ length above → length new ≡ length old
        → from + length above ≡ length old → EachAt Goes from old new above above_new
        → Each Sees from (map theory.client_view above) (map theory.client_view above_new)
    all_seen from old new above above_new sides many among goes =
        each_sees from above above_new sides
        (λ k before after eb ea.
        let within = slice_get_within above k before eb in
        let (was, ew) = element_at old (from + k) (omega (arith, within, among)) in
        let (now, en) = element_at new (from + k) (omega (arith, within, many, among)) in
        sees (from + k) was now before after (goes k was now before after ew en eb ea))

  exchanges_one :
      (waits : List (ℕ × O)) (was now : Table) (old new : Client) → ExchangesAt theory waits was now old new → Exchanges waits (theory.client_view old) (theory.client_view new)
  exchanges_one waits was now old new (inl (out, (found, collects, did, keeps))) = inl (out, (found, collects))
  exchanges_one waits was now old new (inr (inl (free, some, (batch, all, asked, room, publishes, did, keeps)))) =
      inr (inl (free, some, (batch.requests.items, all, asked, subst (λ n. Publishes batch.requests.items n (theory.client_view old) (theory.client_view new)) room publishes)))
  exchanges_one waits was now old new (inr (inr (free, none, same, view, keeps))) = inr (inr (free, none, view))

  -- what is said of the tables too says what is said of the views
  pub looks_seen :
      (waits : ℕ → ClientView V O R T → List (ℕ × O)) (from : ℕ) (old new : List Table) (above above_new : List Client) → length above_new ≡ length above → length new ≡ length old
      → from + length above ≡ length old → EachAt (λ n was now before after. ExchangesAt theory (waits n (theory.client_view before)) was now before after) from old new above above_new
      → Each (λ n a b. Exchanges (waits n a) a b) from (map theory.client_view above) (map theory.client_view above_new)
  looks_seen waits =
      all_seen (λ n was now before after. ExchangesAt theory (waits n (theory.client_view before)) was now before after) (λ n a b. Exchanges (waits n a) a b)
      (λ n was now before after. exchanges_one (waits n (theory.client_view before)) was now before after)

  says_one : (all : Type 0) (was now : Table) (old new : Client) → SaysByeAt theory all was now old new → SaysBye all (theory.client_view old) (theory.client_view new)
  says_one all was now old new (inl said) =
      let (holds, unsaid, published_it) = said in
      let (batch, is, room, publishes, did, keeps) = published_it in
      inl (
        holds,
        unsaid,
        subst (λ n. Publishes (Bye ∷ []) n (theory.client_view old) (theory.client_view new)) room
            (subst (λ b. Publishes b batch.room (theory.client_view old) (theory.client_view new)) is publishes),
      )
  says_one all was now old new (inr kept) = inr (ap theory.client_view kept.0, kept.2)

  pub says_seen :
      (all : Type 0) (from : ℕ) (old new : List Table) (above above_new : List Client) → length above_new ≡ length above → length new ≡ length old
      → from + length above ≡ length old → EachAt (λ n was now before after. SaysByeAt theory all was now before after) from old new above above_new
      → Each (λ n a b. SaysBye all a b) from (map theory.client_view above) (map theory.client_view above_new)
  says_seen all =
      all_seen (λ n was now before after. SaysByeAt theory all was now before after) (λ n a b. SaysBye all a b)
      (λ n was now before after. says_one all was now before after)
