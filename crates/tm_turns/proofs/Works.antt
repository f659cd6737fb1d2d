-- What launched work has still to do, as a number: what its resumes spend is no more than the work of the launches that were accepted.
use Rattle.std.proofs.Common.{◌≡◌, ℕ, ◌+◌, ◌-◌, ◌*◌, ◌≤◌, not, List, [], ◌∷◌, ◌++◌, map, slice_set, inl, inr, refl, sym, ap, subst, arith}
use Rattle.std.specs.Prelude.{◌==◌}
use Rattle.tm_seq.specs.Kind.{Kind, KindLaws, Falls, IsResume}
use Rattle.tm_seq.specs.declared.kind.Event.{Event}
use Rattle.tm_seq.specs.declared.kind.Next.{Next}
use Rattle.tm_seq.specs.declared.kind.Next.TheVariants.{Ask, Done}
use Rattle.tm_batch.specs.declared.config.First.{First}
use Rattle.tm_batch.specs.declared.message.Request.{Request}
use Rattle.tm_batch.specs.declared.message.Request.TheVariants.{Entrust, Apply, Launch, Grant, Release, Reclaim, Bye}
use Rattle.tm_batch.specs.declared.message.Answer.{Answer}
use Rattle.tm_batch.specs.declared.message.Answer.TheVariants.{Entrusted, Replied, Launched, Granted, Released, Reclaimed, ByeDone}
use Rattle.tm_model.specs.declared.entry.Entry.{Entry}
use Rattle.tm_model.specs.declared.entry.Entry.TheVariants.{By, Resume, Sent}
use Rattle.tm_model.specs.State.{Start, Work, Object, State, place_count, holds_of, with_holds, total, change, object_of}
use Rattle.tm_model.specs.Opening.{opened, placed_on}
use Rattle.tm_model.specs.Serve.{value_run, value_resumed, value_advanced, works_resumed, works_in, served, after, state_after}
use Rattle.tm_model.specs.Legal.{HasFirst, IsAwaited, Serves, MayCome, IsLegal}
use Rattle.tm_model.specs.Laws.{IsOpening}
use Rattle.tm_core.proofs.CallerLemmas.{weaker_first, found}
use Rattle.tm_core.proofs.Weighing.{weigh, weigh_filter, weigh_map, weigh_change_same, weigh-append, weigh_change}
use Rattle.tm_core.proofs.Ordered.{IsOrdered, after_ordered, opening_ordered}
use Rattle.tm_core.proofs.Living.{completed_live}

module _ {V O R T : Type 0} (kind : Kind V O R T) where
  -- each ask spends 4, of which 3 are for what it makes above, and the end spends 1
  abbrev pub task_cost : T → ℕ
  task_cost task = 4 * kind.left task + 1

  -- the work of a request
  abbrev pub work : Request V O R T → ℕ
  work (Launch n task) = task_cost task
  work _ = 0

  -- the work of the launches that some entries accepted
  abbrev pub begun : List (Entry V O R T) → ℕ
  begun [] = 0
  begun (By c k (Launch n task) (Launched ticket) ∷ es) = task_cost task + begun es
  begun (_ ∷ es) = begun es

  -- what is to do of some launches
  abbrev pub works_cost : List (Work T) → ℕ
  works_cost [] = 0
  works_cost (w ∷ ws) = task_cost w.task + works_cost ws

  abbrev pub live_cost : List (Object V T) → ℕ
  live_cost live = weigh (λ o. works_cost o.works) live

  works_cost-append : (ws : List (Work T)) (w : Work T) → works_cost (ws ++ w ∷ []) ≡ works_cost ws + task_cost w.task
  works_cost-append [] w = omega arith
  works_cost-append (x ∷ ws) w = let more = works_cost-append ws w in omega (arith, more)

opened_costs : {V O R T : Type 0} (kind : Kind V O R T) (places id : ℕ) (first : List (First V)) → live_cost kind (opened {V = V} {T = T} places id first) ≡ 0
opened_costs kind places id [] = refl
opened_costs kind places id (f ∷ first) = let more = opened_costs kind places (id + 1) first in omega (arith, more)

opening_costs : {V O R T : Type 0} (kind : Kind V O R T) (opening : State V O R T) → IsOpening opening → live_cost kind opening.live ≡ 0
opening_costs kind opening (number, config, first, can, below, is) =
    rw is (opened_costs kind (config.clients + number) 1 (placed_on number first))

-- what a resume spends, and what those of some entries do
abbrev pub spent_by : {O R T : Type 0} → Next O T R → ℕ
spent_by (Ask u i op task) = 4
spent_by (Done r) = 1

module _ {V O R T : Type 0} where
  abbrev pub spent : List (Entry V O R T) → ℕ
  spent [] = 0
  spent (Resume id ticket event next ∷ es) = spent_by next + spent es
  spent (By c k q a ∷ es) = spent es
  spent (Sent c room ∷ es) = spent es

  module _ (kind : Kind V O R T) (laws : KindLaws kind) where
    -- a lawful resume is closer to the end
    resume_falls :
        (v new : V) (task : T) (event : Event R) (next : Next O T R) → IsResume kind v task event new next → Falls kind.left task next
    resume_falls v new task event next (inl is) =
        subst (Falls kind.left task) (ap (λ p. p.1) (sym is)) (laws.falls v task event)
    resume_falls v new task event next (inr is) = subst (Falls kind.left task) (sym is.1) tt

    -- a resume spends what is less to do
    resumed_works :
        (ws : List (Work T)) (next : Next O T R) → HasFirst ws (λ w. Falls kind.left w.task next)
        → works_cost kind (works_resumed ws next) + spent_by next ≤ works_cost kind ws
    resumed_works [] next h = absurd h
    resumed_works (w ∷ ws) (Ask u i op task) h = omega (arith, h)
    resumed_works (w ∷ ws) (Done r) h = omega arith

    served_costs :
        (n c : ℕ) (q : Request V O R T) (a : Answer V O R T) (s : State V O R T) → Serves kind s c q a → IsOrdered n s
        → live_cost kind (served kind c q a s).live ≤ live_cost kind s.live + begun kind (By c 0 q a ∷ [])
    served_costs n c (Entrust v) (Entrusted name) s may h =
        let more = weigh-append (λ o. works_cost kind o.works) s.live (record { id = name.id; value = v; holds = slice_set (map (λ _. 0) s.places) c 1; works = [] }) in
        omega (arith, more)
    served_costs n c (Apply i op) (Replied r) s may h =
        let same = weigh_change_same (λ o. works_cost kind o.works) i.id (λ o. record o { value = value_run kind o.value op r }) s.live (λ o. refl) in
        omega (arith, same)
    served_costs n c (Launch i task) (Launched ticket) s may h =
        let (x, at, one) = found (object_of s.live i.id) (λ o. 1 ≤ holds_of o c) may.0 in
        let w : Work T = record { place = c; ticket = ticket; task = task; awaits = Start } in
        let changed = weigh_change (λ o. works_cost kind o.works) n 1 s.next_id i.id (λ o. record o { works = o.works ++ w ∷ [] }) s.live x h.rises at in
        let longer = works_cost-append kind x.works w in
        omega (arith, changed, longer)
    served_costs n c (Grant i d) Granted s may h =
        let same = weigh_change_same (λ o. works_cost kind o.works) i.id (λ o. with_holds d (holds_of o d + 1) o) s.live (λ o. refl) in
        omega (arith, same)
    served_costs n c (Release i) Released s may h =
        let same = weigh_change_same (λ o. works_cost kind o.works) i.id (λ o. with_holds c (holds_of o c - 1) o) s.live (λ o. refl) in
        let less = weigh_filter (λ o. works_cost kind o.works) (λ o. not (total o == 0)) (change i.id (λ o. with_holds c (holds_of o c - 1) o) s.live) in
        omega (arith, same, less)
    served_costs n c (Reclaim i) (Reclaimed v) s may h =
        let less = weigh_filter (λ o. works_cost kind o.works) (λ o. not (o.id == i.id)) s.live in
        omega (arith, less)
    served_costs n c Bye ByeDone s may h =
        let same = weigh_map (λ o. works_cost kind o.works) (λ o. with_holds c 0 o) s.live (λ o. refl) in
        let less = weigh_filter (λ o. works_cost kind o.works) (λ o. not (total o == 0)) (map (λ o. with_holds c 0 o) s.live) in
        omega (arith, same, less)
    served_costs n c _ _ s may h = omega arith

    by_begun : (c k : ℕ) (q : Request V O R T) (a : Answer V O R T) (es : List (Entry V O R T))
        → begun kind (By c k q a ∷ es) ≡ begun kind (By c 0 q a ∷ []) + begun kind es
    by_begun c k (Launch n task) (Launched ticket) es = omega arith
    by_begun c k _ _ es = omega arith

    resume_costs :
        (n i ticket : ℕ) (event : Event R) (next : Next O T R) (s : State V O R T) → MayCome kind s (Resume i ticket event next) → IsOrdered n s
        → live_cost kind (after kind s (Resume i ticket event next)).live + spent_by next ≤ live_cost kind s.live
    resume_costs n i ticket event next s may h =
        let (x, at, first) = found (object_of s.live i) (λ o. HasFirst o.works (λ w. (w.ticket ≡ ticket) × IsAwaited s.setup w.awaits event
        × IsResume kind o.value w.task event (value_resumed kind o.value w.task event next) next)) may in
        let falls = weaker_first x.works _ (λ w. Falls kind.left w.task next)
        (λ w k. resume_falls x.value (value_resumed kind x.value w.task event next) w.task event next k.2) first in
        let f : Object V T → Object V T = λ o. record o { value = value_advanced kind o.value o.works event next; works = works_resumed o.works next } in
        let changed = weigh_change (λ o. works_cost kind o.works) n 1 s.next_id i f s.live x h.rises at in
        let less = weigh_filter (λ o. works_cost kind o.works) (λ o. not (total o == 0)) (change i f s.live) in
        let own = resumed_works x.works next falls in
        rw (completed_live (works_in (object_of s.live i)) ticket next _) (omega (arith, changed, less, own))

    -- what the resumes of a legal log spend, and what is to do behind it, is no more than what was to do and the work that it accepted
    pub log_costs :
        (n : ℕ) (s : State V O R T) (es : List (Entry V O R T)) → IsLegal kind s es → IsOrdered n s
        → spent es + live_cost kind (state_after kind s es).live ≤ live_cost kind s.live + begun kind es
    log_costs n s [] legal h = omega arith
    log_costs n s (By c k q a ∷ es) legal h =
        let more = log_costs n (after kind s (By c k q a)) es legal.1 (after_ordered kind n s (By c k q a) legal.0 h) in
        let one = served_costs n c q a s legal.0.2 h in
        let own = by_begun c k q a es in
        omega (arith, more, one, own)
    log_costs n s (Resume i ticket event next ∷ es) legal h =
        let more = log_costs n (after kind s (Resume i ticket event next)) es legal.1 (after_ordered kind n s (Resume i ticket event next) legal.0 h) in
        let one = resume_costs n i ticket event next s legal.0 h in
        omega (arith, more, one)
    log_costs n s (Sent c room ∷ es) legal h =
        let more = log_costs n (after kind s (Sent c room)) es legal.1 (after_ordered kind n s (Sent c room) legal.0 h) in
        omega (arith, more)

    -- so behind an opening
    pub spent_most :
        (opening : State V O R T) (log : List (Entry V O R T)) → IsOpening opening → IsLegal kind opening log → spent log ≤ begun kind log
    spent_most opening log opens legal =
        let all = log_costs (place_count opening.setup) opening log legal (opening_ordered opening opens) in
        let none = opening_costs kind opening opens in
        omega (arith, all, none)
