-- What a trustee has resumed and asked above is paid by the work of the launches that it accepted.
use Rattle.std.proofs.Common.{◌≡◌, ℕ, zero, suc, ◌+◌, ◌*◌, ◌≤◌, ◌<◌, inl, inr, Bool, true, false, cond, List, [], ◌∷◌, ◌++◌, length, refl, sym, ◌∙◌, ap, subst, arith, ne_eqb, length-append}
use Rattle.std.specs.Prelude.{◌==◌, ◌&&◌, nat_lt}
use Rattle.std.proofs.lemmas.Bool.{cases_eq}
use Rattle.std.proofs.lemmas.List.{length-map}
use Rattle.tm_seq.specs.Kind.{Kind, KindLaws}
use Rattle.tm_seq.specs.declared.kind.Event.{Event}
use Rattle.tm_seq.specs.declared.kind.Next.{Next}
use Rattle.tm_seq.specs.declared.kind.Next.TheVariants.{Ask, Done}
use Rattle.tm_batch.specs.declared.message.Request.{Request}
use Rattle.tm_batch.specs.declared.message.Answer.{Answer}
use Rattle.tm_model.specs.declared.entry.Entry.{Entry}
use Rattle.tm_model.specs.declared.entry.Entry.TheVariants.{By, Resume, Sent}
use Rattle.tm_model.specs.State.{Setup, State, ids_above}
use Rattle.tm_pair.specs.Views.{ClientView}
use Rattle.tm_pair.specs.Theory.{Theory}
use Rattle.tm_client.specs.Clients.{total}
use Rattle.tm_trustee.proofs.Replied.{asked_by-append}
use Rattle.tm_trustee.specs.NestedAsks.{target, asks_of, ask_of, asked_by}
use Rattle.tm_trustee.specs.Lanes.{IsLane}
use Rattle.tm_trustee.specs.Serving.{resumes_in, GrowsInOrder, AreLanes, IsServing, done_by, ups_of}
use Rattle.tm_trustee.specs.declared.lane.Lane.{Lane}
use Rattle.tm_trustee.specs.declared.trustee.Trustee.{Trustee}
use Rattle.tm_turns.proofs.Works.{begun, spent, spent_most}

-- of trustees from a number on, so many are asked by a resume that asks trustee v
abbrev asked_from : {O R T : Type 0} → Setup → ℕ → ℕ → ℕ → ℕ → Next O T R → ℕ
asked_from setup by ticket from zero next = 0
asked_from setup by ticket from (suc n) next = length (ask_of setup from by ticket next) + asked_from setup by ticket (from + 1) n next

ask_none : {O T : Type 0} (R : Type 0) (setup : Setup) (u by ticket v i : ℕ) (op : O) (task : T) → (v == u) ≡ false → length (ask_of {R = R} setup u by ticket (Ask v i op task)) ≡ 0
ask_none R setup u by ticket v i op task other = rw other refl

one_at_most : {X : Type 0} (b : Bool) (x : X) → length (cond b (x ∷ []) []) ≤ 1
one_at_most true x = omega arith
one_at_most false x = omega arith

ask_one : {O T : Type 0} (R : Type 0) (setup : Setup) (u by ticket v i : ℕ) (op : O) (task : T) → length (ask_of {R = R} setup u by ticket (Ask v i op task)) ≤ 1
ask_one R setup u by ticket v i op task = one_at_most ((v == u) && nat_lt i (length (ids_above setup u))) _

asked_none :
    {O T : Type 0} (R : Type 0) (setup : Setup) (by ticket from n v i : ℕ) (op : O) (task : T) → v < from → asked_from {R = R} setup by ticket from n (Ask v i op task) ≡ 0
asked_none R setup by ticket from zero v i op task lt = refl
asked_none R setup by ticket from (suc n) v i op task lt =
    let here = ask_none R setup from by ticket v i op task (ne_eqb v from (λ e. absurd (omega (arith, lt, e)))) in
    let more = asked_none R setup by ticket (from + 1) n v i op task (omega (arith, lt)) in
    omega (arith, here, more)

asked_ask :
    {O T : Type 0} (R : Type 0) (setup : Setup) (by ticket from n v i : ℕ) (op : O) (task : T) → asked_from {R = R} setup by ticket from n (Ask v i op task) ≤ 1
asked_ask R setup by ticket from zero v i op task = omega arith
asked_ask R setup by ticket from (suc n) v i op task =
    elim (cases_eq v from) [
      | inl e ↦
          let here = ask_one R setup from by ticket v i op task in
          let more = asked_none R setup by ticket (from + 1) n v i op task (omega (arith, e)) in
          omega (arith, here, more)
      | inr ne ↦
          let here = ask_none R setup from by ticket v i op task (ne_eqb v from ne) in
          let more = asked_ask R setup by ticket (from + 1) n v i op task in
          omega (arith, here, more)
    ]

asked_done : (O T : Type 0) {R : Type 0} (setup : Setup) (by ticket from n : ℕ) (r : R) → asked_from {O = O} {T = T} setup by ticket from n (Done r) ≡ 0
asked_done O T setup by ticket from zero r = refl
asked_done O T setup by ticket from (suc n) r = let more = asked_done O T setup by ticket (from + 1) n r in omega (arith, more)

module _ {V O R T : Type 0} where
  -- how many resumes of some entries ask
  abbrev pub asks_in : List (Entry V O R T) → ℕ
  asks_in [] = 0
  asks_in (Resume id ticket event (Ask u i op task) ∷ es) = 1 + asks_in es
  asks_in (Resume id ticket event (Done r) ∷ es) = asks_in es
  asks_in (By c k q a ∷ es) = asks_in es
  asks_in (Sent c room ∷ es) = asks_in es

  asks_spend : (es : List (Entry V O R T)) → resumes_in es + 3 * asks_in es ≤ spent es
  asks_spend [] = omega arith
  asks_spend (Resume id ticket event (Ask u i op task) ∷ es) = let more = asks_spend es in omega (arith, more)
  asks_spend (Resume id ticket event (Done r) ∷ es) = let more = asks_spend es in omega (arith, more)
  asks_spend (By c k q a ∷ es) = asks_spend es
  asks_spend (Sent c room ∷ es) = asks_spend es

  pub resumes_in-append : (xs ys : List (Entry V O R T)) → resumes_in (xs ++ ys) ≡ resumes_in xs + resumes_in ys
  resumes_in-append [] ys = omega arith
  resumes_in-append (Resume id ticket event next ∷ xs) ys = let more = resumes_in-append xs ys in omega (arith, more)
  resumes_in-append (By c k q a ∷ xs) ys = resumes_in-append xs ys
  resumes_in-append (Sent c room ∷ xs) ys = resumes_in-append xs ys

  pub grows_resumes : (old new : List (Entry V O R T)) → GrowsInOrder old new → resumes_in old ≤ resumes_in new
  grows_resumes old new (es, more, is, only, none) =
      let e = ap resumes_in is ∙ resumes_in-append old (es ++ more) in omega (arith, e)

  -- so many are asked by some entries
  abbrev asked_all : Setup → ℕ → ℕ → List (Entry V O R T) → ℕ
  asked_all setup from zero es = 0
  asked_all setup from (suc n) es = length (asks_of setup from es) + asked_all setup (from + 1) n es

  asked_nothing : (setup : Setup) (from n : ℕ) (es : List (Entry V O R T)) → es ≡ [] → asked_all setup from n es ≡ 0
  asked_nothing setup from zero es e = refl
  asked_nothing setup from (suc n) es e =
      let here : length (asks_of setup from es) ≡ 0 = ap (λ l. length (asks_of setup from l)) e in
      let more = asked_nothing setup (from + 1) n es e in
      omega (arith, here, more)

  asked_more :
      (setup : Setup) (from n id ticket : ℕ) (event : Event R) (next : Next O T R) (es : List (Entry V O R T))
      → asked_all setup from n (Resume id ticket event next ∷ es) ≡ asked_from setup id ticket from n next + asked_all setup from n es
  asked_more setup from zero id ticket event next es = omega arith
  asked_more setup from (suc n) id ticket event next es =
      let here = length-append (ask_of setup from id ticket next) (asks_of setup from es) in
      let more = asked_more setup (from + 1) n id ticket event next es in
      omega (arith, here, more)

  asked_by_request :
      (setup : Setup) (from n c k : ℕ) (q : Request V O R T) (a : Answer V O R T) (es : List (Entry V O R T))
      → asked_all setup from n (By c k q a ∷ es) ≡ asked_all setup from n es
  asked_by_request setup from zero c k q a es = refl
  asked_by_request setup from (suc n) c k q a es = let more = asked_by_request setup (from + 1) n c k q a es in omega (arith, more)

  asked_by_leaving :
      (setup : Setup) (from n c room : ℕ) (es : List (Entry V O R T)) → asked_all setup from n (Sent c room ∷ es) ≡ asked_all setup from n es
  asked_by_leaving setup from zero c room es = refl
  asked_by_leaving setup from (suc n) c room es = let more = asked_by_leaving setup (from + 1) n c room es in omega (arith, more)

  all_asked : (setup : Setup) (from n : ℕ) (es : List (Entry V O R T)) → asked_all setup from n es ≤ asks_in es
  all_asked setup from n [] = let none = asked_nothing setup from n [] refl in omega (arith, none)
  all_asked setup from n (Resume id ticket event (Ask u i op task) ∷ es) =
      let step = asked_more setup from n id ticket event (Ask u i op task) es in
      let one = asked_ask R setup id ticket from n u i op task in
      let more = all_asked setup from n es in
      omega (arith, step, one, more)
  all_asked setup from n (Resume id ticket event (Done r) ∷ es) =
      let step = asked_more setup from n id ticket event (Done r) es in
      let none = asked_done O T setup id ticket from n r in
      let more = all_asked setup from n es in
      omega (arith, step, none, more)
  all_asked setup from n (By c k q a ∷ es) =
      let step = asked_by_request setup from n c k q a es in
      let more = all_asked setup from n es in
      omega (arith, step, more)
  all_asked setup from n (Sent c room ∷ es) =
      let step = asked_by_leaving setup from n c room es in
      let more = all_asked setup from n es in
      omega (arith, step, more)

  -- how many asks some sides sent
  abbrev pub sent_asks : List (ClientView V O R T) → ℕ
  sent_asks views = total (λ view. length (asked_by view.sent)) views

  module _ (kind : Kind V O R T) (opening : State V O R T) (done : List (Entry V O R T)) where
    next_lanes :
        (u : ℕ) (up : ClientView V O R T) (ups : List (ClientView V O R T)) (lane : Lane V O R T) (lanes : List (Lane V O R T))
        → AreLanes kind opening done u (up ∷ ups) (lane ∷ lanes) → AreLanes kind opening done (u + 1) ups lanes
    next_lanes u up ups lane lanes are i x y ex ey =
        let e : u + suc i ≡ u + 1 + i = omega arith in
        subst (λ k. IsLane kind opening done k x y) e (are (suc i) x y ex ey)

    -- they are asks that were made
    sent_made :
        (u : ℕ) (ups : List (ClientView V O R T)) (lanes : List (Lane V O R T)) → length lanes ≡ length ups
        → AreLanes kind opening done u ups lanes → sent_asks ups ≤ asked_all opening.setup u (length ups) done
    sent_made u [] lanes many are = omega arith
    sent_made u (up ∷ ups) [] many are = absurd (omega (arith, many))
    sent_made u (up ∷ ups) (lane ∷ lanes) many are =
        let e : u + 0 ≡ u = omega arith in
        let here = subst (λ k. IsLane kind opening done k up lane) e (are 0 up lane refl refl) in
        let rest = sent_made (u + 1) ups lanes (omega (arith, many)) (next_lanes u up ups lane lanes are) in
        let made : length (asks_of opening.setup u done) ≡ length (asked_by (up.sent ++ lane.waits.items)) =
        sym (length-map (asks_of opening.setup u done) target) ∙ ap (λ l. length l) here.asks in
        let parts = ap length (asked_by-append up.sent lane.waits.items) ∙ length-append (asked_by up.sent) (asked_by lane.waits.items) in
        omega (arith, rest, made, parts)

-- what a trustee resumed and sent above
abbrev pub spends : {V O R T Table Client Owner : Type 0} → Theory V O R T Table Client Owner → Trustee V Table O R T Client Owner → ℕ
spends theory trustee = resumes_in (done_by theory trustee) + 3 * sent_asks (ups_of theory trustee)

-- is no more than the work of the launches that it accepted
pub spends_most :
    {V O R T Table Client Owner : Type 0} (theory : Theory V O R T Table Client Owner) (kind : Kind V O R T) (opening : State V O R T)
    (trustee : Trustee V Table O R T Client Owner) → KindLaws kind → IsServing theory kind opening trustee
    → spends theory trustee ≤ begun kind (done_by theory trustee)
spends_most theory kind opening trustee laws serving =
    let done = done_by theory trustee in
    let ups = ups_of theory trustee in
    let most = spent_most kind laws opening done serving.current.represents.opens serving.current.represents.is_legal in
    let asks = asks_spend done in
    let made = all_asked opening.setup (trustee.number + 1) (length ups) done in
    let sent = sent_made kind opening done (trustee.number + 1) ups trustee.lanes.items serving.above.as_many serving.lanes in
    omega (arith, most, asks, made, sent)
