-- A launch that is alone takes its course.
use Rattle.std.proofs.Common.{◌≡◌, ◌≢◌, ℕ, ◌<◌, ◌≤◌, true, false, cond, List, [], ◌∷◌, ◌++◌, map, inl, inr, refl, sym, ◌∙◌, ap, subst, arith, eq-eqb, ne_eqb}
use Rattle.std.specs.Prelude.{◌==◌, ◌&&◌, nat_lt, length, slice_index_or}
use Rattle.std.specs.declared.option.Option.TheVariants.{Some}
use Rattle.std.proofs.lemmas.Bool.{cases_eq}
use Rattle.tm_seq.specs.Kind.{Kind, IsResume}
use Rattle.tm_seq.specs.declared.kind.Event.{Event}
use Rattle.tm_seq.specs.declared.kind.Event.TheVariants.{Begin, Reply, NotAbove, NoObject}
use Rattle.tm_seq.specs.declared.kind.Next.{Next}
use Rattle.tm_seq.specs.declared.kind.Next.TheVariants.{Ask, Done}
use Rattle.tm_batch.specs.declared.message.Name.{Name}
use Rattle.tm_batch.specs.declared.message.Request.{Request}
use Rattle.tm_batch.specs.declared.message.Request.TheVariants.{Launch}
use Rattle.tm_batch.specs.declared.message.Answer.{Answer}
use Rattle.tm_batch.specs.declared.message.Answer.TheVariants.{Launched}
use Rattle.tm_model.specs.declared.entry.Entry.{Entry}
use Rattle.tm_model.specs.declared.entry.Entry.TheVariants.{By, Resume, Sent}
use Rattle.tm_model.specs.State.{Awaits, Start, AskOf, Work, Setup, Object, State, ids_above, holds_of, object_of}
use Rattle.tm_model.specs.Serve.{value_resumed, works_resumed, works_in, completed, after, state_after}
use Rattle.tm_model.specs.Legal.{IsAwaited, MayCome, IsLegal}
use Rattle.tm_model.specs.Ran.{ran, answered}
use Rattle.tm_core.proofs.CallerLemmas.{found}
use Rattle.tm_core.proofs.Living.{lives, GoesOn, after_goes}
use Rattle.tm_core.proofs.Ordered.{IsOrdered, after_ordered}
use Rattle.tm_trustee.specs.NestedAsks.{NestedAsk, ToldReply, IsAmong, target, is_ask_of, ask_of, told_by, works_at, asks_of, replies_of}
use Rattle.tm_trustee.proofs.Works.{works_lived, works_after}
use Rattle.tm_course.specs.Courses.{WorkStep, awaited_by, asked_in, told_in, IsCourse, NoneWorks}
use Rattle.tm_course.proofs.Idle.{not_empty, first_of, ran_own, AreUnasked, none_resumed, none_after_sent, asked_of_place, quiet}

module _ {O T : Type 0} where
  -- what a step asks, ahead of what others ask
  asked_first :
      (R : Type 0) (setup : Setup) (u by ticket v i : ℕ) (op : O) (later : T) (asks : List (NestedAsk O))
      → map target (ask_of {R = R} setup u by ticket (Ask v i op later) ++ asks)
      ≡ cond ((v == u) && nat_lt i (length (ids_above setup u))) ((slice_index_or (ids_above setup u) i 0, op) ∷ map target asks) (map target asks)
  asked_first R setup u by ticket v i op later asks =
      elim ((v == u) && nat_lt i (length (ids_above setup u))) as
      (λ t. map target (cond t (record { by = by; ticket = ticket; id = slice_index_or (ids_above setup u) i 0; op = op } ∷ []) [] ++ asks)
      ≡ cond t ((slice_index_or (ids_above setup u) i 0, op) ∷ map target asks) (map target asks)) [ true ↦ refl | false ↦ refl ]

module _ {O R T : Type 0} where
  -- what a step is told, ahead of what others are told
  told_first :
      (u ticket : ℕ) (w : Work T) (event : Event R) (next : Next O T R) (told : List (ToldReply R)) (steps : List (WorkStep O R T))
      → map (λ t. t.reply) told ≡ told_in u (awaited_by next) steps
      → map (λ t. t.reply) (told_by u (w ∷ []) ticket event ++ told) ≡ told_in u w.awaits ((event, next) ∷ steps)
  told_first u ticket w Begin next told steps e = e
  told_first u ticket w NotAbove next told steps e = e
  told_first u ticket w NoObject next told steps e = e
  told_first u ticket w (Reply r) next told steps e =
      (elim (is_ask_of u w.awaits) as
      (λ t. map (λ t. t.reply) (cond t (record { ticket = ticket; reply = r } ∷ []) [] ++ told) ≡ cond t (r ∷ map (λ t. t.reply) told) (map (λ t. t.reply) told)) [
        | true ↦ refl
        | false ↦ refl
      ]) ∙ ap (λ l. cond (is_ask_of u w.awaits) (r ∷ l) l) e

module _ {V O R T : Type 0} where
  setup_completed : (ws : List (Work T)) (ticket : ℕ) (next : Next O T R) (s : State V O R T) → (completed ws ticket next s).setup ≡ s.setup
  setup_completed (w ∷ ws) ticket (Done r) s = refl
  setup_completed _ ticket _ s = refl

module _ {V O R T : Type 0} (kind : Kind V O R T) (n : ℕ) where
  -- an object has this value and one unfinished launch, and no other has any
  pub record IsAlone (s : State V O R T) (id : ℕ) (v : V) (w : Work T) : Type 0 where
    pub object : Object V T
    pub at : object_of s.live id ≡ Some object
    pub value : object.value ≡ v
    pub works : object.works ≡ w ∷ []
    pub others : (d : ℕ) → d ≢ id → works_at s d ≡ []

  -- what entries do by which a launch goes on to its end
  pub record Goes (setup : Setup) (s : State V O R T) (v : V) (task : T) (awaits : Awaits) (es : List (Entry V O R T)) : Type 0 where
    pub steps : List (WorkStep O R T)
    pub reply : R
    pub course : IsCourse kind setup v task awaits steps reply
    pub asked : (u : ℕ) → map target (asks_of setup u es) ≡ asked_in setup u steps
    pub told : (u : ℕ) → map (λ t. t.reply) (replies_of kind s u es) ≡ told_in u awaits steps
    pub ends : (id ticket : ℕ) (event : Event R) (other : R) → IsAmong (Resume id ticket event (Done other)) es → other ≡ reply

  has_works : (s : State V O R T) (id : ℕ) (v : V) (w : Work T) (a : IsAlone s id v w) → works_at s id ≡ w ∷ []
  has_works s id v w a = ap works_in a.at ∙ a.works

  -- an entry at which no work goes on
  alone_sent : (s : State V O R T) (id : ℕ) (v : V) (w : Work T) (c room : ℕ) → MayCome kind s (Sent c room) → IsOrdered n s → IsAlone s id v w → IsAlone (after kind s (Sent c room)) id v w
  alone_sent s id v w c room may ordered a = record {
    object = a.object;
    at = a.at;
    value = a.value;
    works = a.works;
    others = λ d ne. works_after kind n s (Sent c room) d may ordered ∙ a.others d ne;
  }

  module _ (s : State V O R T) (id : ℕ) (v : V) (w : Work T) (a : IsAlone s id v w) (ordered : IsOrdered n s) (i ticket : ℕ) (event : Event R) (next : Next O T R)
      (may : MayCome kind s (Resume i ticket event next)) where
    -- what is resumed is that launch
    of_it : i ≡ id
    of_it = elim (cases_eq i id) [ inl e ↦ e | inr ne ↦ absurd (none_resumed kind n s i ticket event next may (a.others i ne)) ]

    goes_may : IsAwaited s.setup w.awaits event × IsResume kind v w.task event (value_resumed kind v w.task event next) next
    goes_may =
        let (o, at, first) = found (object_of s.live i) _ may in
        let both : Some o ≡ Some a.object = sym at ∙ ap (λ j. object_of s.live j) of_it ∙ a.at in
        let same : o ≡ a.object = cc in
        let (x, rest, is, (own, awaited, resume)) = first_of o.works _ first in
        let works : x ∷ rest ≡ w ∷ [] = sym is ∙ ap (λ (o : Object V T). o.works) same ∙ a.works in
        let one : x ≡ w = cc in
        let value : o.value ≡ v = ap (λ (o : Object V T). o.value) same ∙ a.value in
        subst (λ y. IsAwaited s.setup y.awaits event × IsResume kind v y.task event (value_resumed kind v y.task event next) next) one
        (subst (λ y. IsAwaited s.setup x.awaits event × IsResume kind y x.task event (value_resumed kind y x.task event next) next) value (awaited, resume))

    others_after : (d : ℕ) → d ≢ id → works_at (after kind s (Resume i ticket event next)) d ≡ []
    others_after d ne =
        works_after kind n s (Resume i ticket event next) d may ordered
        ∙ ap (λ t. cond t (works_resumed (works_at s d) next) (works_at s d)) (ne_eqb i d (λ e. ne (sym e ∙ of_it))) ∙ a.others d ne

  -- it asked, and goes on
  alone_asked :
      (s : State V O R T) (id : ℕ) (v : V) (w : Work T) (a : IsAlone s id v w) → IsOrdered n s → (i ticket : ℕ) (event : Event R) (u x : ℕ) (op : O) (later : T)
      → MayCome kind s (Resume i ticket event (Ask u x op later))
      → IsAlone (after kind s (Resume i ticket event (Ask u x op later))) id (value_resumed kind v w.task event (Ask u x op later)) (record w { task = later; awaits = AskOf u x })
  alone_asked s id v w a ordered i ticket event u x op later may =
      let next : Next O T R = Ask u x op later in
      let e : Entry V O R T = Resume i ticket event next in
      let same = of_it s id v w a ordered i ticket event next may in
      let p : V × List (Work T) = (value_resumed kind v w.task event next, record w { task = later; awaits = AskOf u x } ∷ []) in
      let is : lives kind id a.object.value a.object.works e ≡ p =
      ap (λ u. lives kind id u a.object.works e) a.value ∙ ap (λ ws. lives kind id v ws e) a.works ∙ ap (λ t. cond t p (v, w ∷ [])) (eq-eqb i id same) in
      let goes : GoesOn p (object_of (after kind s e).live id) = subst (λ q. GoesOn q (object_of (after kind s e).live id)) is (after_goes kind n id s e a.object may ordered a.at) in
      elim goes [
        | inl gone ↦ absurd (not_empty _ _ gone.1)
        | inr (o, at, now) ↦ record { object = o; at = at; value = ap (λ (q : V × List (Work T)). q.0) now; works = ap (λ (q : V × List (Work T)). q.1) now; others = others_after s id v w a ordered i ticket event next may }
      ]

  -- it ended, and none is left
  none_left :
      (s : State V O R T) (id : ℕ) (v : V) (w : Work T) (a : IsAlone s id v w) → IsOrdered n s → (i ticket : ℕ) (event : Event R) (r : R)
      → MayCome kind s (Resume i ticket event (Done r)) → NoneWorks (after kind s (Resume i ticket event (Done r)))
  none_left s id v w a ordered i ticket event r may d =
      elim (cases_eq d id) [
        | inl e ↦
            let here : i ≡ d = of_it s id v w a ordered i ticket event (Done r) may ∙ sym e in
            works_after kind n s (Resume i ticket event (Done r)) d may ordered
            ∙ ap (λ ws. works_lived {V = V} {O = O} {R = R} d ws (Resume i ticket event (Done r))) (ap (works_at s) e ∙ has_works s id v w a)
            ∙ ap (λ t. cond t [] (w ∷ [])) (eq-eqb i d here)
        | inr ne ↦ others_after s id v w a ordered i ticket event (Done r) may d ne
      ]

  -- entries behind a launch, to its end
  pub goes :
      (setup : Setup) (s : State V O R T) (es : List (Entry V O R T)) (id : ℕ) (v : V) (w : Work T) → s.setup ≡ setup → IsLegal kind s es → IsOrdered n s
      → IsAlone s id v w → AreUnasked kind n es → NoneWorks (state_after kind s es) → Goes setup s v w.task w.awaits es
  goes setup s [] id v w built legal ordered a unasked none = absurd (not_empty w [] (sym (has_works s id v w a) ∙ none id))
  goes setup s (By c k q r ∷ es) id v w built legal ordered a unasked none = absurd (asked_of_place kind n s c k q r es legal.0 ordered unasked)
  goes setup s (Sent c room ∷ es) id v w built legal ordered a unasked none =
      let e : Entry V O R T = Sent c room in
      let more = goes setup (after kind s e) es id v w built legal.1 (after_ordered kind n s e legal.0 ordered) (alone_sent s id v w c room legal.0 ordered a) unasked none in
      record {
        steps = more.steps;
        reply = more.reply;
        course = more.course;
        asked = more.asked;
        told = more.told;
        ends = λ i t event other among. elim among [ inl e ↦ absurd cc | inr later ↦ more.ends i t event other later ];
      }
  goes setup s (Resume i ticket event (Ask u x op later) ∷ es) id v w built legal ordered a unasked none =
      let next : Next O T R = Ask u x op later in
      let e : Entry V O R T = Resume i ticket event next in
      let may = goes_may s id v w a ordered i ticket event next legal.0 in
      let now = alone_asked s id v w a ordered i ticket event u x op later legal.0 in
      let on = setup_completed (works_in (object_of s.live i)) ticket next _ ∙ built in
      let more = goes setup (after kind s e) es id (value_resumed kind v w.task event next) (record w { task = later; awaits = AskOf u x }) on legal.1
      (after_ordered kind n s e legal.0 ordered) now unasked none in
      record {
        steps = (event, next) ∷ more.steps;
        reply = more.reply;
        course = (subst (λ z. IsAwaited z w.awaits event) built may.0, (value_resumed kind v w.task event next, may.1, more.course));
        asked = λ y. asked_first R setup y i ticket u x op later (asks_of setup y es) ∙ ap (λ l. cond ((u == y) && nat_lt x (length (ids_above setup y))) ((slice_index_or (ids_above setup y) x 0, op) ∷ l) l) (more.asked y);
        told = λ y.
            let here : works_at s i ≡ w ∷ [] = ap (works_at s) (of_it s id v w a ordered i ticket event next legal.0) ∙ has_works s id v w a in
            ap (λ ws. map (λ t. t.reply) (told_by y ws ticket event ++ replies_of kind (after kind s e) y es)) here
            ∙ told_first y ticket w event next (replies_of kind (after kind s e) y es) more.steps (more.told y);
        ends = λ j t ev other among. elim among [ inl e ↦ absurd cc | inr later ↦ more.ends j t ev other later ];
      }
  goes setup s (Resume i ticket event (Done r) ∷ es) id v w built legal ordered a unasked none =
      let next : Next O T R = Done r in
      let e : Entry V O R T = Resume i ticket event next in
      let may = goes_may s id v w a ordered i ticket event next legal.0 in
      let rest = quiet kind n (after kind s e) es legal.1 (after_ordered kind n s e legal.0 ordered) (none_left s id v w a ordered i ticket event r legal.0) unasked in
      record {
        steps = (event, next) ∷ [];
        reply = r;
        course = (subst (λ z. IsAwaited z w.awaits event) built may.0, (value_resumed kind v w.task event next, may.1), refl, refl);
        asked = λ y. ap (map target) (rest.asks setup y);
        told = λ y.
            let here : works_at s i ≡ w ∷ [] = ap (works_at s) (of_it s id v w a ordered i ticket event next legal.0) ∙ has_works s id v w a in
            ap (λ ws. map (λ t. t.reply) (told_by y ws ticket event ++ replies_of kind (after kind s e) y es)) here
            ∙ told_first y ticket w event next (replies_of kind (after kind s e) y es) [] (ap (map (λ t. t.reply)) (rest.replies y));
        ends = λ j t ev other among. elim among [ inl e ↦ let is : r ≡ other = cc in sym is | inr later ↦ absurd (rest.no_resume j t ev (Done other) later) ];
      }

  -- what a launch does from where it is accepted to its end
  pub record Takes (setup : Setup) (s : State V O R T) (es : List (Entry V O R T)) (m : Name) (task : T) (ticket : ℕ) : Type 0 where
    pub object : Object V T
    pub of_object : object_of s.live m.id ≡ Some object
    pub goes : Goes setup s object.value task Start es
    pub is_new : s.next_ticket ≤ ticket

  -- what was asked behind a request of another place
  ran_other : (c d k : ℕ) (q : Request V O R T) (r : Answer V O R T) (es : List (Entry V O R T)) → c ≢ d → ran d (By c k q r ∷ es) ≡ ran d es
  ran_other c d k q r es ne = ap (λ t. cond t (q ∷ ran d es) (ran d es)) (ne_eqb c d ne)

  -- the launch itself
  module _ (setup : Setup) (s : State V O R T) (c k : ℕ) (m : Name) (task : T) (ticket : ℕ) (es : List (Entry V O R T)) (built : s.setup ≡ setup)
      (legal : IsLegal kind s (By c k (Launch m task) (Launched ticket) ∷ es)) (ordered : IsOrdered n s) (idle : NoneWorks s)
      (unasked : AreUnasked kind n es) (none : NoneWorks (state_after kind s (By c k (Launch m task) (Launched ticket) ∷ es))) where
    abbrev pub e_of : Entry V O R T
    e_of = By c k (Launch m task) (Launched ticket)

    abbrev pub work_of : Work T
    work_of = record { place = c; ticket = ticket; task = task; awaits = Start }

    accepted : (o : Object V T) → object_of s.live m.id ≡ Some o → IsAlone (after kind s e_of) m.id o.value work_of
    accepted o at =
        let empty : o.works ≡ [] = ap works_in (sym at) ∙ idle m.id in
        let p : V × List (Work T) = (o.value, work_of ∷ []) in
        let is : lives kind m.id o.value o.works e_of ≡ p =
        ap (λ ws. lives kind m.id o.value ws e_of) empty ∙ ap (λ t. cond t p (o.value, [])) (eq-eqb m.id m.id refl) in
        let goes : GoesOn p (object_of (after kind s e_of).live m.id) =
        subst (λ q. GoesOn q (object_of (after kind s e_of).live m.id)) is (after_goes kind n m.id s e_of o legal.0 ordered at) in
        elim goes [
          | inl gone ↦ absurd (not_empty _ _ gone.1)
          | inr (x, now, same) ↦ record {
            object = x;
            at = now;
            value = ap (λ (q : V × List (Work T)). q.0) same;
            works = ap (λ (q : V × List (Work T)). q.1) same;
            others = λ d ne. works_after kind n s e_of d legal.0 ordered ∙ ap (λ t. cond t (works_at s d ++ work_of ∷ []) (works_at s d)) (ne_eqb m.id d (λ e. ne (sym e))) ∙ idle d;
          }
        ]

    pub launch_takes : Takes setup s (e_of ∷ es) m task ticket
    launch_takes =
        let (o, at, held) = found (object_of s.live m.id) (λ o. 1 ≤ holds_of o c) legal.0.2.0 in
        let more = goes setup (after kind s e_of) es m.id o.value work_of built legal.1 (after_ordered kind n s e_of legal.0 ordered) (accepted o at) unasked none in
        record {
          object = o;
          of_object = at;
          goes = record {
            steps = more.steps;
            reply = more.reply;
            course = more.course;
            asked = more.asked;
            told = more.told;
            ends = λ i t event other among. elim among [ inl e ↦ absurd cc | inr later ↦ more.ends i t event other later ];
          };
          is_new = let same = legal.0.2.1.0 in omega (arith, same);
        }

  pub takes :
      (setup : Setup) (s : State V O R T) (es : List (Entry V O R T)) (c : ℕ) (m : Name) (task : T) (ticket : ℕ) → s.setup ≡ setup → IsLegal kind s es
      → IsOrdered n s → NoneWorks s → NoneWorks (state_after kind s es) → ((d : ℕ) → d < n → d ≢ c → ran d es ≡ []) → ran c es ≡ Launch m task ∷ []
      → answered c es ≡ Launched ticket ∷ [] → Takes setup s es m task ticket
  takes setup s [] c m task ticket built legal ordered idle none others one told = absurd (not_empty (Launch m task) [] (sym one))
  takes setup s (Resume i t event next ∷ es) c m task ticket built legal ordered idle none others one told =
      absurd (none_resumed kind n s i t event next legal.0 (idle i))
  takes setup s (Sent d room ∷ es) c m task ticket built legal ordered idle none others one told =
      let e : Entry V O R T = Sent d room in
      let more = takes setup (after kind s e) es c m task ticket built legal.1 (after_ordered kind n s e legal.0 ordered)
      (none_after_sent kind n s d room legal.0 ordered idle) none others one told in
      record {
        object = more.object;
        of_object = more.of_object;
        goes = record {
          steps = more.goes.steps;
          reply = more.goes.reply;
          course = more.goes.course;
          asked = more.goes.asked;
          told = more.goes.told;
          ends = λ i t event other among. elim among [ inl e ↦ absurd cc | inr later ↦ more.goes.ends i t event other later ];
        };
        is_new = more.is_new;
      }
  takes setup s (By d k q a ∷ es) c m task ticket built legal ordered idle none others one told =
      let below = legal.0.0 in
      let count = ordered.count in
      elim (cases_eq d c) [
        | inr ne ↦ absurd (not_empty q (ran d es) (sym (ran_own d k q a es) ∙ others d (omega (arith, below, count)) ne))
        | inl e ↦
            let first : q ∷ ran c es ≡ Launch m task ∷ [] = ap (λ t. cond t (q ∷ ran c es) (ran c es)) (sym (eq-eqb d c e)) ∙ one in
            let answer : a ∷ answered c es ≡ Launched ticket ∷ [] = ap (λ t. cond t (a ∷ answered c es) (answered c es)) (sym (eq-eqb d c e)) ∙ told in
            let is_launch : q ≡ Launch m task = cc in
            let is_ticket : a ≡ Launched ticket = cc in
            let no_more : ran c es ≡ [] = cc in
            let unasked : AreUnasked kind n es = λ x lt.
            elim (cases_eq d x) [
              | inl same ↦ subst (λ y. ran y es ≡ []) (sym e ∙ same) no_more
              | inr apart ↦ sym (ran_other d x k q a es apart) ∙ others x lt (λ is. apart (e ∙ sym is))
            ] in
            let same : By d k q a ≡ By d k (Launch m task) (Launched ticket) = ap (λ y. By d k y a) is_launch ∙ ap (λ y. By d k (Launch m task) y) is_ticket in
            subst (λ x. Takes setup s (x ∷ es) m task ticket) (sym same)
            (launch_takes setup s d k m task ticket es built (subst (λ x. IsLegal kind s (x ∷ es)) same legal) ordered idle unasked
            (subst (λ x. NoneWorks (state_after kind s (x ∷ es))) same none))
      ]
