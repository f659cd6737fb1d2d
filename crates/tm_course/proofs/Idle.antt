-- A log grows by nothing that launched work does, where no launch is unfinished and no place asks anything.
use Rattle.std.proofs.Common.{◌≡◌, ℕ, ◌<◌, cond, List, [], ◌∷◌, inl, inr, refl, sym, ◌∙◌, ap, arith, eq-eqb}
use Rattle.tm_seq.specs.Kind.{Kind}
use Rattle.tm_seq.specs.declared.kind.Event.{Event}
use Rattle.tm_seq.specs.declared.kind.Next.{Next}
use Rattle.tm_batch.specs.declared.message.Request.{Request}
use Rattle.tm_model.specs.declared.entry.Entry.{Entry}
use Rattle.tm_model.specs.declared.entry.Entry.TheVariants.{By, Resume, Sent}
use Rattle.tm_model.specs.State.{Setup, Work, State, object_of, place_count}
use Rattle.tm_model.specs.Serve.{works_in, after, state_after}
use Rattle.tm_model.specs.Legal.{HasFirst, MayCome, IsLegal}
use Rattle.tm_model.specs.Ran.{ran}
use Rattle.tm_core.proofs.CallerLemmas.{found}
use Rattle.tm_core.proofs.Joins.{legal_logs_join}
use Rattle.tm_core.proofs.Ordered.{IsOrdered, after_ordered, log_ordered, opening_ordered}
use Rattle.tm_trustee.specs.NestedAsks.{IsAmong, works_at, asks_of, replies_of}
use Rattle.tm_trustee.proofs.Works.{works_after}
use Rattle.tm_course.specs.Courses.{NoneWorks, IdleLogsAreQuiet}

-- an element ahead of a list of none
pub not_empty : {X : Type 0} (x : X) (xs : List X) → x ∷ xs ≡ [] → ⊥
not_empty x xs e = absurd cc

-- the first launch, where there is one
pub first_of : {T : Type 0} (ws : List (Work T)) (P : Work T → Type 0) → HasFirst ws P → (w : Work T) × (rest : List (Work T)) × (ws ≡ w ∷ rest) × P w
first_of [] P h = absurd h
first_of (w ∷ ws) P h = (w, ws, refl, h)

module _ {V O R T : Type 0} where
  -- what a request of a place adds to what the place ran
  pub ran_own : (c k : ℕ) (q : Request V O R T) (a : _) (es : List (Entry V O R T)) → ran c (By c k q a ∷ es) ≡ q ∷ ran c es
  ran_own c k q a es = ap (λ t. cond t (q ∷ ran c es) (ran c es)) (eq-eqb c c refl)

  module _ (kind : Kind V O R T) (n : ℕ) where
    -- entries that run nothing of any place
    abbrev pub AreUnasked : List (Entry V O R T) → Type 0
    AreUnasked es = (c : ℕ) → c < n → ran c es ≡ []

    -- no work is resumed where none is unfinished
    pub none_resumed :
        (s : State V O R T) (id ticket : ℕ) (event : Event R) (next : Next O T R) → MayCome kind s (Resume id ticket event next) → works_at s id ≡ [] → ⊥
    none_resumed s id ticket event next may none =
        let (o, at, first) = found (object_of s.live id) _ may in
        let (w, rest, same, may_first) = first_of o.works _ first in
        not_empty w rest (sym same ∙ ap works_in (sym at) ∙ none)

    pub none_after_sent : (s : State V O R T) (c room : ℕ) → MayCome kind s (Sent c room) → IsOrdered n s → NoneWorks s → NoneWorks (after kind s (Sent c room))
    none_after_sent s c room may ordered none id = works_after kind n s (Sent c room) id may ordered ∙ none id

    -- a request of a place is not unasked
    pub asked_of_place :
        (s : State V O R T) (c k : ℕ) (q : Request V O R T) (a : _) (es : List (Entry V O R T)) → MayCome kind s (By c k q a) → IsOrdered n s
        → AreUnasked (By c k q a ∷ es) → ⊥
    asked_of_place s c k q a es may ordered none =
        let below = may.0 in
        let count = ordered.count in
        not_empty q (ran c es) (sym (ran_own c k q a es) ∙ none c (omega (arith, below, count)))

    -- what such entries do
    pub record IsQuiet (s : State V O R T) (es : List (Entry V O R T)) : Type 0 where
      pub asks : (setup : Setup) (u : ℕ) → asks_of setup u es ≡ []
      pub replies : (u : ℕ) → replies_of kind s u es ≡ []
      pub works : NoneWorks (state_after kind s es)
      pub no_resume : (id ticket : ℕ) (event : Event R) (next : Next O T R) → IsAmong (Resume id ticket event next) es → ⊥

    pub quiet : (s : State V O R T) (es : List (Entry V O R T)) → IsLegal kind s es → IsOrdered n s → NoneWorks s → AreUnasked es → IsQuiet s es
    quiet s [] legal ordered none unasked = record {
      asks = λ setup u. refl;
      replies = λ u. refl;
      works = none;
      no_resume = λ id ticket event next among. among;
    }
    quiet s (By c k q a ∷ es) legal ordered none unasked = absurd (asked_of_place s c k q a es legal.0 ordered unasked)
    quiet s (Resume id ticket event next ∷ es) legal ordered none unasked = absurd (none_resumed s id ticket event next legal.0 (none id))
    quiet s (Sent c room ∷ es) legal ordered none unasked =
        let e : Entry V O R T = Sent c room in
        let more = quiet (after kind s e) es legal.1 (after_ordered kind n s e legal.0 ordered) (none_after_sent s c room legal.0 ordered none) unasked in
        record {
          asks = more.asks;
          replies = more.replies;
          works = more.works;
          no_resume = λ id ticket event next among. elim among [ inl e ↦ absurd cc | inr later ↦ more.no_resume id ticket event next later ];
        }

  pub idle_logs_are_quiet : (kind : Kind V O R T) → IdleLogsAreQuiet kind
  idle_logs_are_quiet kind opening log es is legal none unasked u =
      let n = place_count opening.setup in
      let (before, behind) = (legal_logs_join kind opening log es).0 legal in
      let ordered = log_ordered kind n opening log before (opening_ordered opening is) in
      let q = quiet kind n (state_after kind opening log) es behind ordered none unasked in
      (q.asks opening.setup u, q.replies u)
