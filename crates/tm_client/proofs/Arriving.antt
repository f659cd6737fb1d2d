-- What arrives with answers, and what comes with gifts, counted by trustee and id.
use Rattle.std.proofs.Common.{◌≡◌, ◌≢◌, ℕ, ◌+◌, ◌<◌, ◌≤◌, true, false, cond, List, [], ◌∷◌, ◌++◌, length, map, inl, inr, refl, sym, ◌∙◌, ap, arith, length-append, eq-eqb, ne_eqb}
use Rattle.std.specs.Prelude.{◌==◌}
use Rattle.std.specs.List.{AllByRecursion, AllZip}
use Rattle.std.specs.declared.option.Option.TheVariants.{None}
use Rattle.tm_batch.specs.declared.message.Name.{Name}
use Rattle.tm_batch.specs.declared.message.Request.{Request}
use Rattle.tm_batch.specs.declared.message.Request.TheVariants.{Entrust, Apply, Launch, Grant, Release, Reclaim, Bye}
use Rattle.tm_batch.specs.declared.message.Answer.{Answer}
use Rattle.tm_batch.specs.declared.message.Answer.TheVariants.{Entrusted, NotEntrusted, Replied, Launched, TicketsSpent, Granted, Gone, GiftsFull, Released, Reclaimed, Shared, ByeDone}
use Rattle.tm_core.proofs.CallerLemmas.{all-append}
use Rattle.tm_model.specs.Holds.{has_bye, brought, brought_by, gifts_of}
use Rattle.tm_model.specs.Fits.{Fits}
use Rattle.tm_client.specs.declared.trust.Trust.{Trust}
use Rattle.tm_client.specs.declared.answers.Arrival.{Arrival}
use Rattle.tm_client.specs.declared.lane.Waiting.{Waiting}
use Rattle.tm_client.specs.declared.lane.Unfinished.{Unfinished}
use Rattle.tm_client.specs.Lanes.{asks_in, bringing, IsAccepted, name_of, names_of}
use Rattle.tm_client.specs.Clients.{given, brings, entrusted, IsTakeable, MayHand, come_of, brought_in, entrusted_in}
use Rattle.tm_client.specs.SideLaws.{brings_in}
use Rattle.tm_client.specs.Turns.{gifts_from}
use Rattle.tm_client.specs.Launches.{ticket_in, told_tickets, tickets_of, arrival_by, launch_by, arrivals_of, launches_of}
use Rattle.tm_client.proofs.Listed.{at_own, at_other}
use Rattle.tm_client.proofs.Moving.{told_or_plain, arrival_plain, launch_plain, told_plain, one_goes}

pub given-append : (t id : ℕ) (xs ys : List Trust) → given t id (xs ++ ys) ≡ given t id xs + given t id ys
given-append t id [] ys = omega arith
given-append t id (g ∷ xs) ys = let more = given-append t id xs ys in omega (arith, more)

pub given_here : (t c id : ℕ) (names : List Name) → given t id (gifts_from t c names) ≡ gifts_of id names
given_here t c id [] = refl
given_here t c id (n ∷ names) = let first = at_own t id n.id in let more = given_here t c id names in omega (arith, first, more)

pub given_elsewhere : (u t c id : ℕ) (names : List Name) → u ≢ t → given u id (gifts_from t c names) ≡ 0
given_elsewhere u t c id [] ne = refl
given_elsewhere u t c id (n ∷ names) ne = let first = at_other u t id n.id ne in let more = given_elsewhere u t c id names ne in omega (arith, first, more)

pub gifts_all : (t c n : ℕ) (names : List Name) → t < n → AllByRecursion (λ g. (g.trustee < n) × (g.client ≡ c)) (gifts_from t c names)
gifts_all t c n [] lt = tt
gifts_all t c n (x ∷ names) lt = ((lt, refl), gifts_all t c n names lt)

pub gifts_many : (t c : ℕ) (names : List Name) → length (gifts_from t c names) ≡ length names
gifts_many t c [] = refl
gifts_many t c (x ∷ names) = let more = gifts_many t c names in omega (arith, more)

module _ {V O R T : Type 0} where
  pub no_bye_asks : (b : List (Request V O R T)) → has_bye b ≡ false → asks_in b ≡ b
  no_bye_asks [] h = refl
  no_bye_asks (Entrust v ∷ b) h = ap (λ l. Entrust v ∷ l) (no_bye_asks b h)
  no_bye_asks (Apply n op ∷ b) h = ap (λ l. Apply n op ∷ l) (no_bye_asks b h)
  no_bye_asks (Launch n task ∷ b) h = ap (λ l. Launch n task ∷ l) (no_bye_asks b h)
  no_bye_asks (Grant n d ∷ b) h = ap (λ l. Grant n d ∷ l) (no_bye_asks b h)
  no_bye_asks (Release n ∷ b) h = ap (λ l. Release n ∷ l) (no_bye_asks b h)
  no_bye_asks (Reclaim n ∷ b) h = ap (λ l. Reclaim n ∷ l) (no_bye_asks b h)
  no_bye_asks (Bye ∷ b) h = absurd cc

  pub bye_behind : (xs ys : List (Request V O R T)) → has_bye ys ≡ true → has_bye (xs ++ ys) ≡ true
  bye_behind [] ys h = h
  bye_behind (Entrust v ∷ xs) ys h = bye_behind xs ys h
  bye_behind (Apply n op ∷ xs) ys h = bye_behind xs ys h
  bye_behind (Launch n task ∷ xs) ys h = bye_behind xs ys h
  bye_behind (Grant n d ∷ xs) ys h = bye_behind xs ys h
  bye_behind (Release n ∷ xs) ys h = bye_behind xs ys h
  bye_behind (Reclaim n ∷ xs) ys h = bye_behind xs ys h
  bye_behind (Bye ∷ xs) ys h = refl

  -- a Bye brings nothing
  pub asks_bring : (b : List (Request V O R T)) → bringing (asks_in b) ≡ bringing b
  asks_bring [] = refl
  asks_bring (Entrust v ∷ b) = ap (λ n. 1 + n) (asks_bring b)
  asks_bring (Apply n op ∷ b) = asks_bring b
  asks_bring (Launch n task ∷ b) = asks_bring b
  asks_bring (Grant n d ∷ b) = asks_bring b
  asks_bring (Release n ∷ b) = asks_bring b
  asks_bring (Reclaim n ∷ b) = ap (λ n. 1 + n) (asks_bring b)
  asks_bring (Bye ∷ b) = asks_bring b

  none_asked : (id : ℕ) (b : List (Request V O R T)) (answers : List (Answer V O R T)) → asks_in b ≡ [] → brought_by id b answers ≡ 0
  none_asked id [] answers e = refl
  none_asked id (Bye ∷ b) [] e = refl
  none_asked id (Bye ∷ b) (a ∷ answers) e = let more = none_asked id b answers e in omega (arith, more)
  none_asked id (Entrust v ∷ b) answers e = absurd cc
  none_asked id (Apply n op ∷ b) answers e = absurd cc
  none_asked id (Launch n task ∷ b) answers e = absurd cc
  none_asked id (Grant n d ∷ b) answers e = absurd cc
  none_asked id (Release n ∷ b) answers e = absurd cc
  none_asked id (Reclaim n ∷ b) answers e = absurd cc

  -- the answer to a request that was accepted can be taken, unless it is a ticket, and brings what its request may
  one_takeable : (q : Request V O R T) (a : Answer V O R T) → ticket_in a ≡ None → Fits q a → IsAccepted q → IsTakeable a
  one_takeable (Entrust v) (Entrusted name) plain h own = tt
  one_takeable (Entrust v) (NotEntrusted refusal back) plain h own = tt
  one_takeable (Entrust v) _ plain h own = absurd h
  one_takeable (Apply n op) (Replied r) plain h own = tt
  one_takeable (Apply n op) _ plain h own = absurd h
  one_takeable (Launch n task) (TicketsSpent back) plain h own = tt
  one_takeable (Launch n task) (Launched ticket) plain h own = absurd cc
  one_takeable (Launch n task) _ plain h own = absurd h
  one_takeable (Grant n d) Granted plain h own = tt
  one_takeable (Grant n d) Gone plain h own = tt
  one_takeable (Grant n d) GiftsFull plain h own = tt
  one_takeable (Grant n d) _ plain h own = absurd h
  one_takeable (Release n) Released plain h own = tt
  one_takeable (Release n) _ plain h own = absurd h
  one_takeable (Reclaim n) (Reclaimed v) plain h own = tt
  one_takeable (Reclaim n) Shared plain h own = tt
  one_takeable (Reclaim n) _ plain h own = absurd h
  one_takeable Bye a plain h own = absurd own

  one_entrusted : (t id : ℕ) (name : Name) (q : Request V O R T) (a : Answer V O R T) → name ≡ name_of q → Fits q a → IsAccepted q
      → entrusted t id t name a ≡ brought id q a
  one_entrusted t id name (Entrust v) (Entrusted own_name) is h own = at_own t id own_name.id
  one_entrusted t id name (Entrust v) (NotEntrusted refusal back) is h own = refl
  one_entrusted t id name (Entrust v) _ is h own = absurd h
  one_entrusted t id name (Apply n op) (Replied r) is h own = refl
  one_entrusted t id name (Apply n op) _ is h own = absurd h
  one_entrusted t id name (Launch n task) (Launched ticket) is h own = refl
  one_entrusted t id name (Launch n task) (TicketsSpent back) is h own = refl
  one_entrusted t id name (Launch n task) _ is h own = absurd h
  one_entrusted t id name (Grant n d) Granted is h own = refl
  one_entrusted t id name (Grant n d) Gone is h own = refl
  one_entrusted t id name (Grant n d) GiftsFull is h own = refl
  one_entrusted t id name (Grant n d) _ is h own = absurd h
  one_entrusted t id name (Release n) Released is h own = refl
  one_entrusted t id name (Release n) _ is h own = absurd h
  one_entrusted t id name (Reclaim n) (Reclaimed v) is h own = refl
  one_entrusted t id name (Reclaim n) Shared is h own = at_own t id name.id ∙ ap (λ m. cond (m.id == id) 1 0) is
  one_entrusted t id name (Reclaim n) _ is h own = absurd h
  one_entrusted t id name Bye a is h own = absurd own

  other_entrusted : (u t id : ℕ) (name : Name) (a : Answer V O R T) → u ≢ t → entrusted u id t name a ≡ 0
  other_entrusted u t id name (Entrusted own) ne = at_other u t id own.id ne
  other_entrusted u t id name (NotEntrusted refusal back) ne = refl
  other_entrusted u t id name (Replied r) ne = refl
  other_entrusted u t id name (Launched ticket) ne = refl
  other_entrusted u t id name (TicketsSpent task) ne = refl
  other_entrusted u t id name Granted ne = refl
  other_entrusted u t id name Gone ne = refl
  other_entrusted u t id name GiftsFull ne = refl
  other_entrusted u t id name Released ne = refl
  other_entrusted u t id name (Reclaimed v) ne = refl
  other_entrusted u t id name Shared ne = at_other u t id name.id ne
  other_entrusted u t id name ByeDone ne = refl

  none_told : (b : List (Request V O R T)) (answers : List (Answer V O R T)) → asks_in b ≡ [] → AllZip Fits b answers → told_tickets answers ≡ []
  none_told [] [] none fits = refl
  none_told [] (a ∷ answers) none fits = absurd fits
  none_told (Bye ∷ b) [] none fits = refl
  none_told (Bye ∷ b) (ByeDone ∷ answers) none fits = none_told b answers none fits.1
  none_told (Bye ∷ b) (_ ∷ answers) none fits = absurd fits.0
  none_told (Entrust v ∷ b) answers none fits = absurd cc
  none_told (Apply n op ∷ b) answers none fits = absurd cc
  none_told (Launch n task ∷ b) answers none fits = absurd cc
  none_told (Grant n d ∷ b) answers none fits = absurd cc
  none_told (Release n ∷ b) answers none fits = absurd cc
  none_told (Reclaim n ∷ b) answers none fits = absurd cc

module _ {V O R T C : Type 0} where
  pub come_of-append : (t : ℕ) (xs ys : List (Arrival V C O R T)) → come_of t (xs ++ ys) ≡ come_of t xs + come_of t ys
  come_of-append t [] ys = omega arith
  come_of-append t (x ∷ xs) ys = let more = come_of-append t xs ys in omega (arith, more)

  pub brought_in-append : (xs ys : List (Arrival V C O R T)) → brought_in (xs ++ ys) ≡ brought_in xs + brought_in ys
  brought_in-append [] ys = omega arith
  brought_in-append (x ∷ xs) ys = let more = brought_in-append xs ys in omega (arith, more)

  pub entrusted_in-append : (t id : ℕ) (xs ys : List (Arrival V C O R T)) → entrusted_in t id (xs ++ ys) ≡ entrusted_in t id xs + entrusted_in t id ys
  entrusted_in-append t id [] ys = omega arith
  entrusted_in-append t id (x ∷ xs) ys = let more = entrusted_in-append t id xs ys in omega (arith, more)

  -- of one answer
  here_one : (t : ℕ) (w : Waiting C) (a : Answer V O R T) → come_of t (arrival_by t w a) ≡ length (arrival_by t w a)
  here_one t w a = elim (told_or_plain a) [
    | inl (ticket, e) ↦ rw e refl
    | inr plain ↦
        rw (arrival_plain t w a plain) (let own = ap {B = ℕ} (λ e. cond e 1 0) (eq-eqb t t refl) in omega (arith, own))
  ]

  elsewhere_one : (u t : ℕ) (w : Waiting C) (a : Answer V O R T) → u ≢ t → come_of u (arrival_by t w a) ≡ 0
  elsewhere_one u t w a ne = elim (told_or_plain a) [
    | inl (ticket, e) ↦ rw e refl
    | inr plain ↦
        rw (arrival_plain t w a plain) (
        let other = ap {B = ℕ} (λ e. cond e 1 0) (ne_eqb t u (λ e. ne (sym e))) in omega (arith, other)
        )
  ]

  brought_one : (t : ℕ) (w : Waiting C) (a : Answer V O R T) → brought_in (arrival_by t w a) ≡ brings a
  brought_one t w a = elim (told_or_plain a) [
    | inl (ticket, e) ↦ rw e refl
    | inr plain ↦ rw (arrival_plain t w a plain) (omega arith)
  ]

  entrusted_one : (u id t : ℕ) (w : Waiting C) (a : Answer V O R T) → entrusted_in u id (arrival_by t w a) ≡ entrusted u id t w.name a
  entrusted_one u id t w a = elim (told_or_plain a) [
    | inl (ticket, e) ↦ rw e refl
    | inr plain ↦ rw (arrival_plain t w a plain) (omega arith)
  ]

  takeable_one : (t n : ℕ) (w : Waiting C) (q : Request V O R T) (a : Answer V O R T) → t < n → Fits q a → IsAccepted q
      → AllByRecursion (λ x. (x.trustee < n) × MayHand x.came) (arrival_by t w a)
  takeable_one t n w q a lt fits own = elim (told_or_plain a) [
    | inl (ticket, e) ↦ rw e tt
    | inr plain ↦ rw (arrival_plain t w a plain) ((lt, one_takeable q a plain fits own), tt)
  ]

  tickets_one : (w : Waiting C) (a : Answer V O R T) (answers : List (Answer V O R T)) (rest : List (Unfinished C)) → tickets_of rest ≡ told_tickets answers
      → tickets_of (launch_by w a ++ rest) ≡ told_tickets (a ∷ answers)
  tickets_one w a answers rest same = elim (told_or_plain a) [
    | inl (ticket, e) ↦ rw e (ap (λ l. ticket ∷ l) same)
    | inr plain ↦ rw (launch_plain w a plain, told_plain a answers plain) same
  ]

  -- what arrives of trustee t with the answers to the batch b, and which launches begin by them
  pub record Arrives (t n : ℕ) (b : List (Request V O R T)) (ks : List (Waiting C)) (answers : List (Answer V O R T)) : Type 0 where
    pub many : length (arrivals_of t ks answers) + length (launches_of ks answers) ≡ length (asks_in b)
    pub here : come_of t (arrivals_of t ks answers) ≡ length (arrivals_of t ks answers)
    pub elsewhere : (u : ℕ) → u ≢ t → come_of u (arrivals_of t ks answers) ≡ 0
    pub brought : brought_in (arrivals_of t ks answers) ≡ bringing b
    pub entrusted : (id : ℕ) → entrusted_in t id (arrivals_of t ks answers) ≡ brought_by id b answers
    pub entrusted_elsewhere : (u id : ℕ) → u ≢ t → entrusted_in u id (arrivals_of t ks answers) ≡ 0
    pub takeable : AllByRecursion (λ a. (a.trustee < n) × MayHand a.came) (arrivals_of t ks answers)
    pub tickets : tickets_of (launches_of ks answers) ≡ told_tickets answers

  many_arrive : (t : ℕ) (ks : List (Waiting C)) (answers : List (Answer V O R T)) → length answers ≤ length ks
      → length (arrivals_of t ks answers) + length (launches_of ks answers) ≡ length answers
  many_arrive t [] [] le = refl
  many_arrive t [] (a ∷ answers) le = absurd (omega (arith, le))
  many_arrive t (k ∷ ks) [] le = refl
  many_arrive t (k ∷ ks) (a ∷ answers) le =
      let more = many_arrive t ks answers (omega (arith, le)) in
      let one = one_goes t k a in
      let arrives = length-append (arrival_by t k a) (arrivals_of t ks answers) in
      let launches = length-append (launch_by k a) (launches_of ks answers) in
      omega (arith, more, one, arrives, launches)

  here_arrive : (t : ℕ) (ks : List (Waiting C)) (answers : List (Answer V O R T)) → come_of t (arrivals_of t ks answers) ≡ length (arrivals_of t ks answers)
  here_arrive t [] answers = refl
  here_arrive t (k ∷ ks) [] = refl
  here_arrive t (k ∷ ks) (a ∷ answers) =
      let joined = come_of-append t (arrival_by t k a) (arrivals_of t ks answers) in
      let one = here_one t k a in
      let more = here_arrive t ks answers in
      let all = length-append (arrival_by t k a) (arrivals_of t ks answers) in
      omega (arith, joined, one, more, all)

  elsewhere_arrive : (u t : ℕ) (ks : List (Waiting C)) (answers : List (Answer V O R T)) → u ≢ t → come_of u (arrivals_of t ks answers) ≡ 0
  elsewhere_arrive u t [] answers ne = refl
  elsewhere_arrive u t (k ∷ ks) [] ne = refl
  elsewhere_arrive u t (k ∷ ks) (a ∷ answers) ne =
      let joined = come_of-append u (arrival_by t k a) (arrivals_of t ks answers) in
      let one = elsewhere_one u t k a ne in
      let more = elsewhere_arrive u t ks answers ne in
      omega (arith, joined, one, more)

  brought_arrive : (t : ℕ) (ks : List (Waiting C)) (answers : List (Answer V O R T)) → length answers ≤ length ks → brought_in (arrivals_of t ks answers) ≡ brings_in answers
  brought_arrive t [] [] le = refl
  brought_arrive t [] (a ∷ answers) le = absurd (omega (arith, le))
  brought_arrive t (k ∷ ks) [] le = refl
  brought_arrive t (k ∷ ks) (a ∷ answers) le =
      let joined = brought_in-append (arrival_by t k a) (arrivals_of t ks answers) in
      let one = brought_one t k a in
      let more = brought_arrive t ks answers (omega (arith, le)) in
      omega (arith, joined, one, more)

  entrusted_else : (u t id : ℕ) (ks : List (Waiting C)) (answers : List (Answer V O R T)) → u ≢ t → entrusted_in u id (arrivals_of t ks answers) ≡ 0
  entrusted_else u t id [] answers ne = refl
  entrusted_else u t id (k ∷ ks) [] ne = refl
  entrusted_else u t id (k ∷ ks) (a ∷ answers) ne =
      let joined = entrusted_in-append u id (arrival_by t k a) (arrivals_of t ks answers) in
      let one = entrusted_one u id t k a in
      let first = other_entrusted u t id k.name a ne in
      let more = entrusted_else u t id ks answers ne in
      omega (arith, joined, one, first, more)

  entrusted_arrive : (t id : ℕ) (b : List (Request V O R T)) (ks : List (Waiting C)) (answers : List (Answer V O R T)) (rest : List Name)
      → names_of ks ≡ map name_of b ++ rest → AllZip Fits b answers → AllByRecursion IsAccepted b
      → length answers ≤ length ks → entrusted_in t id (arrivals_of t ks answers) ≡ brought_by id b answers
  entrusted_arrive t id [] [] [] rest names fits own le = refl
  entrusted_arrive t id [] (k ∷ ks) [] rest names fits own le = refl
  entrusted_arrive t id [] ks (a ∷ answers) rest names fits own le = absurd fits
  entrusted_arrive t id (q ∷ b) ks [] rest names fits own le = absurd fits
  entrusted_arrive t id (q ∷ b) [] (a ∷ answers) rest names fits own le = absurd (omega (arith, le))
  entrusted_arrive t id (q ∷ b) (k ∷ ks) (a ∷ answers) rest names fits own le =
      let named : k.name ≡ name_of q = cc in
      let all : names_of ks ≡ map name_of b ++ rest = cc in
      let joined = entrusted_in-append t id (arrival_by t k a) (arrivals_of t ks answers) in
      let one = entrusted_one t id t k a in
      let first = one_entrusted t id k.name q a named fits.0 own.0 in
      let more = entrusted_arrive t id b ks answers rest all fits.1 own.1 (omega (arith, le)) in
      omega (arith, joined, one, first, more)

  takeable_arrive : (t n : ℕ) (b : List (Request V O R T)) (ks : List (Waiting C)) (answers : List (Answer V O R T)) → t < n → AllZip Fits b answers
      → AllByRecursion IsAccepted b → AllByRecursion (λ a. (a.trustee < n) × MayHand a.came) (arrivals_of t ks answers)
  takeable_arrive t n b [] answers lt fits own = tt
  takeable_arrive t n b (k ∷ ks) [] lt fits own = tt
  takeable_arrive t n [] (k ∷ ks) (a ∷ answers) lt fits own = absurd fits
  takeable_arrive t n (q ∷ b) (k ∷ ks) (a ∷ answers) lt fits own =
      all-append (λ x. (x.trustee < n) × MayHand x.came) (arrival_by t k a) (arrivals_of t ks answers) (takeable_one t n k q a lt fits.0 own.0)
      (takeable_arrive t n b ks answers lt fits.1 own.1)

  tickets_arrive : (ks : List (Waiting C)) (answers : List (Answer V O R T)) → length answers ≤ length ks → tickets_of (launches_of ks answers) ≡ told_tickets answers
  tickets_arrive [] [] le = refl
  tickets_arrive [] (a ∷ answers) le = absurd (omega (arith, le))
  tickets_arrive (k ∷ ks) [] le = refl
  tickets_arrive (k ∷ ks) (a ∷ answers) le = tickets_one k a answers (launches_of ks answers) (tickets_arrive ks answers (omega (arith, le)))

  -- with the answers to requests that were accepted
  pub arrives : (t n : ℕ) (b : List (Request V O R T)) (ks : List (Waiting C)) (answers : List (Answer V O R T)) (rest : List Name)
      → names_of ks ≡ map name_of b ++ rest → t < n → AllZip Fits b answers
      → length answers ≡ length b → brings_in answers ≡ bringing b → has_bye b ≡ false → AllByRecursion IsAccepted b → length b ≤ length ks → Arrives t n b ks answers
  arrives t n b ks answers rest names lt fits same bring none own le =
      let all = ap length (no_bye_asks b none) in
      let many = many_arrive t ks answers (omega (arith, same, le)) in
      record {
        many = omega (arith, all, many, same);
        here = here_arrive t ks answers;
        elsewhere = λ u ne. elsewhere_arrive u t ks answers ne;
        brought = brought_arrive t ks answers (omega (arith, same, le)) ∙ bring;
        entrusted = λ id. entrusted_arrive t id b ks answers rest names fits own (omega (arith, same, le));
        entrusted_elsewhere = λ u id ne. entrusted_else u t id ks answers ne;
        takeable = takeable_arrive t n b ks answers lt fits own;
        tickets = tickets_arrive ks answers (omega (arith, same, le));
      }

  -- with the answer to a Bye nothing arrives
  pub none_arrives : (t n : ℕ) (b : List (Request V O R T)) (answers : List (Answer V O R T)) → asks_in b ≡ [] → AllZip Fits b answers → Arrives t n b [] answers
  none_arrives t n b answers none fits = record {
    many = sym (ap length none);
    here = refl;
    elsewhere = λ u ne. refl;
    brought = sym (ap bringing none) ∙ asks_bring b;
    entrusted = λ id. sym (none_asked id b answers none);
    entrusted_elsewhere = λ u id ne. refl;
    takeable = tt;
    tickets = sym (none_told b answers none fits);
  }
