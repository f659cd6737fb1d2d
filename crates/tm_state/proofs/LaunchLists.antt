-- The launches that have not ended, and those that may begin.
use Rattle.std.proofs.Common.{◌≡◌, ◌≢◌, ℕ, ◌+◌, ◌<◌, ◌≤◌, List, [], ◌∷◌, ◌++◌, length, inl, inr, refl, sym, ◌∙◌, ap, subst, arith, eq-eqb, ne_eqb, length-append}
use Rattle.std.specs.Prelude.{IsSome, IfSome, slice_get, drop}
use Rattle.std.specs.List.{AllByRecursion}
use Rattle.std.specs.declared.option.Option.{Option}
use Rattle.std.specs.declared.option.Option.TheVariants.{None, Some}
use Rattle.std.proofs.lemmas.Bool.{cases_eq, false≢true}
use Rattle.tm_latch.specs.declared.ticket.Ticket.{Ticket}
use Rattle.tm_latch.specs.Tickets.{first_of, tickets_of, with_first, without_first}
use Rattle.circular_buffer.specs.Buffer.{Buffer, buffer}
use Rattle.tm_latch.proofs.Listed.{first_head, first_none, entered_own, entered_other, left_own, left_other, left_length, with_own, with_other, with_length}
use Rattle.tm_model.specs.State.{Start}
use Rattle.tm_core.proofs.CallerLemmas.{all_weaker, all-append, option_cases}
use Rattle.tm_state.specs.Launches.{Pending, AreFirst, AreBehind, Begins, BeginsBut, Latched}
use Rattle.tm_state.proofs.RowsWorks.{some_of}
use Rattle.tm_state.proofs.LaunchTickets.{head_of, first_same, first_id, append_some, append_last, append_none, none_all}

module _ {T : Type 0} where
  -- those that may begin are first in another list, where each is
  first_frame :
      (old new begins : List (Ticket (Pending T))) → AllByRecursion (λ b. first_of b.id new ≡ first_of b.id old) begins → AreFirst old begins
      → AreFirst new begins
  first_frame old new [] same h = tt
  first_frame old new (b ∷ begins) same h = (same.0 ∙ h.0, h.1, h.2, first_frame old new begins same.1 h.3)

  -- there are no more of them than launches
  pub first_few : (begins launched : List (Ticket (Pending T))) → AreFirst launched begins → length begins ≤ length launched
  first_few [] launched h = omega arith
  first_few (b ∷ begins) launched h =
      let (rest, is) = head_of b.id launched b h.0 in
      let fewer = left_length b.id launched b rest is in
      let others = none_all b.id begins h.2 in
      let stay = all_weaker _ (λ x. first_of x.id (without_first b.id launched) ≡ first_of x.id launched) begins
      (λ x ne. first_same x.id (without_first b.id launched) launched (left_other b.id launched x.id ne)) others in
      let more = first_few begins (without_first b.id launched) (first_frame launched (without_first b.id launched) begins stay h.3) in
      omega (arith, fewer, more)

  -- one more may begin
  first_last :
      (launched begins : List (Ticket (Pending T))) (l : Ticket (Pending T)) → AreFirst launched begins → first_of l.id begins ≡ None
      → first_of l.id launched ≡ Some l → l.task.awaits ≡ Start → AreFirst launched (begins ++ l ∷ [])
  first_last launched [] l h none first start = (first, start, refl, tt)
  first_last launched (b ∷ begins) l h none first start =
      let ne = (none_all l.id (b ∷ begins) none).0 in
      let rest : first_of l.id begins ≡ None = rw (ne_eqb b.id l.id ne) at none in
      (h.0, h.1, append_none b.id begins l h.2 (λ e. ne (sym e)), first_last launched begins l h.3 rest first start)

  -- one that may begin is the first launch of its object
  pub begin_is :
      (launched begins : List (Ticket (Pending T))) (id : ℕ) (b : Ticket (Pending T)) → AreFirst launched begins → first_of id begins ≡ Some b
      → (first_of id launched ≡ Some b) × (b.task.awaits ≡ Start)
  begin_is launched [] id b h e = absurd cc
  begin_is launched (u ∷ begins) id b h e =
      elim (cases_eq u.id id) [
        | inl here ↦
            let f = rw (eq-eqb u.id id here) at e in
            let same : u ≡ b = cc in (
              subst (λ i. first_of i launched ≡ Some b) here (h.0 ∙ ap (λ (x : Ticket (Pending T)). Some x) same),
              ap (λ (x : Ticket (Pending T)). x.task.awaits) (sym same) ∙ h.1,
            )
        | inr ne ↦ begin_is launched begins id b h.3 (rw (ne_eqb u.id id ne) at e)
      ]

  -- one that has begun is not among them
  pub begun_gone :
      (launched begins : List (Ticket (Pending T))) (l : Ticket (Pending T)) → AreFirst launched begins → first_of l.id launched ≡ Some l
      → (l.task.awaits ≡ Start → ⊥) → first_of l.id begins ≡ None
  begun_gone launched begins l h first begun =
      elim (option_cases (first_of l.id begins)) [
        | inl none ↦ none
        | inr is ↦
            let own = begin_is launched begins l.id is.0 h is.1 in
            let found : Some is.0 ≡ Some l = sym own.0 ∙ first in
            let same : is.0 ≡ l = cc in
            absurd (begun (ap (λ (x : Ticket (Pending T)). x.task.awaits) (sym same) ∙ own.1))
      ]

  none_known : (launched begins : List (Ticket (Pending T))) (id : ℕ) → AreFirst launched begins → first_of id launched ≡ None → first_of id begins ≡ None
  none_known launched begins id h none =
      elim (option_cases (first_of id begins)) [
        | inl e ↦ e
        | inr is ↦ absurd (let own = begin_is launched begins id is.0 h is.1 in let bad : Some is.0 ≡ None = sym own.0 ∙ none in cc)
      ]

  first_appended : (launched begins : List (Ticket (Pending T))) (l : Ticket (Pending T)) → AreFirst launched begins → AllByRecursion (λ b. first_of b.id (launched ++ l ∷ []) ≡ first_of b.id launched) begins
  first_appended launched [] l h = tt
  first_appended launched (b ∷ begins) l h = (append_some b.id launched l b h.0 ∙ sym h.0, first_appended launched begins l h.3)

  -- a launch comes for an object: those that may begin still do,
  pub add_first : (launched begins : List (Ticket (Pending T))) (l : Ticket (Pending T)) → AreFirst launched begins → AreFirst (launched ++ l ∷ []) begins
  add_first launched begins l h = first_frame launched (launched ++ l ∷ []) begins (first_appended launched begins l h) h

  -- and it too where it is the first
  pub add_begins :
      (launched begins : List (Ticket (Pending T))) (l : Ticket (Pending T)) → AreFirst launched begins → first_of l.id launched ≡ None → l.task.awaits ≡ Start
      → AreFirst (launched ++ l ∷ []) (begins ++ l ∷ [])
  add_begins launched begins l h none start =
      first_last (launched ++ l ∷ []) begins l (add_first launched begins l h) (none_known launched begins l.id h none) (append_last l.id launched l none refl) start

  behind_by :
      (launched own : List (Ticket (Pending T))) (l : Ticket (Pending T)) → AreBehind launched → tickets_of l.id launched ≡ own → l.task.awaits ≡ Start
      → (t : Ticket (Pending T)) (rest : List (Ticket (Pending T))) → own ++ l ∷ [] ≡ t ∷ rest → AllByRecursion (λ r. r.task.awaits ≡ Start) rest
  behind_by launched [] l h is start t rest e =
      let none : [] ≡ rest = cc in
      subst (λ x. AllByRecursion (λ r. r.task.awaits ≡ Start) x) none tt
  behind_by launched (u ∷ own) l h is start t rest e =
      let tail : own ++ l ∷ [] ≡ rest = cc in
      subst (λ x. AllByRecursion (λ r. r.task.awaits ≡ Start) x) tail (all-append _ own (l ∷ []) (h l.id u own is) (start, tt))

  pub add_behind : (launched : List (Ticket (Pending T))) (l : Ticket (Pending T)) → AreBehind launched → l.task.awaits ≡ Start → AreBehind (launched ++ l ∷ [])
  add_behind launched l h start id t rest e =
      elim (cases_eq id l.id) [
        | inl here ↦
            let own : tickets_of l.id launched ++ l ∷ [] ≡ t ∷ rest = sym (entered_own l.id l.number l.task launched) ∙ subst (λ i. tickets_of i (launched ++ l ∷ []) ≡ t ∷ rest) here e in
            behind_by launched (tickets_of l.id launched) l h refl start t rest own
        | inr ne ↦ h id t rest (sym (entered_other l.id l.number l.task launched id ne) ∙ e)
      ]

  -- each first that has not begun may begin: where the launch is the first,
  pub add_all_first :
      (launched begins : List (Ticket (Pending T))) (l : Ticket (Pending T)) → first_of l.id launched ≡ None → Begins launched begins
      → Begins (launched ++ l ∷ []) (begins ++ l ∷ [])
  add_all_first launched begins l none h id t first start =
      elim (option_cases (first_of id launched)) [
        | inl unknown ↦
            elim (cases_eq l.id id) [
              | inl own ↦
                  elim (option_cases (first_of id begins)) [
                    | inl not ↦ subst (λ x. IsSome x) (sym (append_last id begins l not own)) refl
                    | inr is ↦ subst (λ x. IsSome x) (sym (append_some id begins l is.0 is.1)) refl
                  ]
              | inr other ↦ absurd (let bad : None ≡ Some t = sym (append_none id launched l unknown other) ∙ first in cc)
            ]
        | inr is ↦
            let found : Some is.0 ≡ Some t = sym (append_some id launched l is.0 is.1) ∙ first in
            let same : is.0 ≡ t = cc in
            let (b, at) = some_of (first_of id begins) (h id t (is.1 ∙ ap (λ (x : Ticket (Pending T)). Some x) same) start) in
            subst (λ x. IsSome x) (sym (append_some id begins l b at)) refl
      ]

  -- and where it waits
  pub add_all_behind :
      (launched begins : List (Ticket (Pending T))) (l : Ticket (Pending T)) → IsSome (first_of l.id launched) → Begins launched begins
      → Begins (launched ++ l ∷ []) begins
  add_all_behind launched begins l some h id t first start =
      elim (option_cases (first_of id launched)) [
        | inl unknown ↦
            elim (cases_eq l.id id) [
              | inl own ↦ absurd (false≢true (subst (λ x. IsSome x) unknown (subst (λ i. IsSome (first_of i launched)) own some)))
              | inr other ↦ absurd (let bad : None ≡ Some t = sym (append_none id launched l unknown other) ∙ first in cc)
            ]
        | inr is ↦
            let found : Some is.0 ≡ Some t = sym (append_some id launched l is.0 is.1) ∙ first in
            let same : is.0 ≡ t = cc in
            h id t (is.1 ∙ ap (λ (x : Ticket (Pending T)). Some x) same) start
      ]

  -- the first of those that may begin is handed out
  pub next_all :
      (launched begins rest : List (Ticket (Pending T))) (l : Ticket (Pending T)) → begins ≡ l ∷ rest → Begins launched begins → BeginsBut l.id launched rest
  next_all launched begins rest l is h id t ne first start =
      let some : IsSome (first_of id (l ∷ rest)) = subst (λ b. IsSome (first_of id b)) is (h id t first start) in
      rw (ne_eqb l.id id (λ e. ne (sym e))) at some

  others_stay : (id : ℕ) (k : Pending T) (launched begins : List (Ticket (Pending T))) → first_of id begins ≡ None → AllByRecursion (λ b. first_of b.id (with_first id k launched) ≡ first_of b.id launched) begins
  others_stay id k launched begins none =
      all_weaker _ _ begins (λ b ne. first_same b.id (with_first id k launched) launched (with_other id k launched b.id ne)) (none_all id begins none)

  -- a launch that was handed out goes on
  pub on_first : (id : ℕ) (k : Pending T) (launched begins : List (Ticket (Pending T))) → first_of id begins ≡ None → AreFirst launched begins → AreFirst (with_first id k launched) begins
  on_first id k launched begins none h = first_frame launched (with_first id k launched) begins (others_stay id k launched begins none) h

  on_behind_by :
      (id : ℕ) (k : Pending T) (launched own : List (Ticket (Pending T))) → AreBehind launched → tickets_of id launched ≡ own → IsSome (first_of id launched)
      → (t : Ticket (Pending T)) (rest : List (Ticket (Pending T))) → tickets_of id (with_first id k launched) ≡ t ∷ rest → AllByRecursion (λ r. r.task.awaits ≡ Start) rest
  on_behind_by id k launched [] h is some t rest e = absurd (false≢true (subst (λ x. IsSome x) (first_none id launched is) some))
  on_behind_by id k launched (u ∷ own) h is some t rest e =
      let found : record u { task = k } ∷ own ≡ t ∷ rest = sym (with_own id k launched u own is) ∙ e in
      let tail : own ≡ rest = cc in
      subst (λ x. AllByRecursion (λ r. r.task.awaits ≡ Start) x) tail (h id u own is)

  pub on_behind : (id : ℕ) (k : Pending T) (launched : List (Ticket (Pending T))) → IsSome (first_of id launched) → AreBehind launched → AreBehind (with_first id k launched)
  on_behind id k launched some h other t rest e =
      elim (cases_eq other id) [
        | inl here ↦ on_behind_by id k launched (tickets_of id launched) h refl some t rest (subst (λ i. tickets_of i (with_first id k launched) ≡ t ∷ rest) here e)
        | inr ne ↦ h other t rest (sym (with_other id k launched other ne) ∙ e)
      ]

  pub on_head : (id : ℕ) (k : Pending T) (launched : List (Ticket (Pending T))) (t : Ticket (Pending T)) → first_of id launched ≡ Some t → first_of id (with_first id k launched) ≡ Some (record t { task = k })
  on_head id k launched t first =
      let (rest, is) = head_of id launched t first in
      first_head id (with_first id k launched) (record t { task = k }) rest (with_own id k launched t rest is)

  pub on_all :
      (id : ℕ) (k : Pending T) (launched begins : List (Ticket (Pending T))) → IsSome (first_of id launched) → (k.awaits ≡ Start → ⊥) → BeginsBut id launched begins
      → Begins (with_first id k launched) begins
  on_all id k launched begins some begun h other t first start =
      elim (cases_eq other id) [
        | inl here ↦
            let (u, at) = some_of (first_of id launched) some in
            let found : Some (record u { task = k }) ≡ Some t = sym (on_head id k launched u at) ∙ subst (λ i. first_of i (with_first id k launched) ≡ Some t) here first in
            let same : record u { task = k } ≡ t = cc in
            absurd (begun (ap (λ (x : Ticket (Pending T)). x.task.awaits) same ∙ start))
        | inr ne ↦ h other t ne (sym (first_same other (with_first id k launched) launched (with_other id k launched other ne)) ∙ first) start
      ]

  -- a launch that was handed out ends: the others that may begin still do,
  pub end_first : (id : ℕ) (launched begins : List (Ticket (Pending T))) → first_of id begins ≡ None → AreFirst launched begins → AreFirst (without_first id launched) begins
  end_first id launched begins none h =
      first_frame launched (without_first id launched) begins
      (all_weaker _ _ begins (λ b ne. first_same b.id (without_first id launched) launched (left_other id launched b.id ne)) (none_all id begins none)) h

  end_behind_by :
      (id : ℕ) (launched own : List (Ticket (Pending T))) → AreBehind launched → tickets_of id launched ≡ own → IsSome (first_of id launched)
      → AllByRecursion (λ r. r.task.awaits ≡ Start) (tickets_of id (without_first id launched))
  end_behind_by id launched [] h is some = absurd (false≢true (subst (λ x. IsSome x) (first_none id launched is) some))
  end_behind_by id launched (u ∷ own) h is some =
      subst (λ x. AllByRecursion (λ r. r.task.awaits ≡ Start) x) (sym (left_own id launched u own is)) (h id u own is)

  -- all that are left of its object have not begun
  pub left_start : (id : ℕ) (launched : List (Ticket (Pending T))) → IsSome (first_of id launched) → AreBehind launched → AllByRecursion (λ r. r.task.awaits ≡ Start) (tickets_of id (without_first id launched))
  left_start id launched some h = end_behind_by id launched (tickets_of id launched) h refl some

  pub end_behind : (id : ℕ) (launched : List (Ticket (Pending T))) → IsSome (first_of id launched) → AreBehind launched → AreBehind (without_first id launched)
  end_behind id launched some h other t rest e =
      elim (cases_eq other id) [
        | inl here ↦
            let own : tickets_of id (without_first id launched) ≡ t ∷ rest = subst (λ i. tickets_of i (without_first id launched) ≡ t ∷ rest) here e in
            (subst (λ x. AllByRecursion (λ r. r.task.awaits ≡ Start) x) own (left_start id launched some h)).1
        | inr ne ↦ h other t rest (sym (left_other id launched other ne) ∙ e)
      ]

  -- the next of its object has not begun
  pub next_start :
      (id : ℕ) (launched : List (Ticket (Pending T))) (l : Ticket (Pending T)) → IsSome (first_of id launched) → AreBehind launched
      → first_of id (without_first id launched) ≡ Some l → l.task.awaits ≡ Start
  next_start id launched l some h first =
      let (rest, is) = head_of id (without_first id launched) l first in
      (subst (λ x. AllByRecursion (λ r. r.task.awaits ≡ Start) x) is (left_start id launched some h)).0

  -- and may begin
  pub end_next :
      (id : ℕ) (launched begins : List (Ticket (Pending T))) (l : Ticket (Pending T)) → first_of id begins ≡ None → AreFirst launched begins
      → IsSome (first_of id launched) → AreBehind launched → first_of id (without_first id launched) ≡ Some l
      → AreFirst (without_first id launched) (begins ++ l ∷ [])
  end_next id launched begins l none h some behind first =
      let own : l.id ≡ id = first_id id (without_first id launched) l first in
      first_last (without_first id launched) begins l (end_first id launched begins none h)
      (subst (λ i. first_of i begins ≡ None) (sym own) none)
      (subst (λ i. first_of i (without_first id launched) ≡ Some l) (sym own) first)
      (next_start id launched l some behind first)

  pub end_all_next :
      (id : ℕ) (launched begins : List (Ticket (Pending T))) (l : Ticket (Pending T)) → first_of id begins ≡ None → l.id ≡ id → BeginsBut id launched begins
      → Begins (without_first id launched) (begins ++ l ∷ [])
  end_all_next id launched begins l none own h other t first start =
      elim (cases_eq other id) [
        | inl here ↦ subst (λ i. IsSome (first_of i (begins ++ l ∷ []))) (sym here) (subst (λ x. IsSome x) (sym (append_last id begins l none own)) refl)
        | inr ne ↦
            let (b, at) = some_of (first_of other begins) (h other t ne (sym (first_same other (without_first id launched) launched (left_other id launched other ne)) ∙ first) start) in
            subst (λ x. IsSome x) (sym (append_some other begins l b at)) refl
      ]

  pub end_all_none :
      (id : ℕ) (launched begins : List (Ticket (Pending T))) → first_of id (without_first id launched) ≡ None → BeginsBut id launched begins
      → Begins (without_first id launched) begins
  end_all_none id launched begins none h other t first start =
      elim (cases_eq other id) [
        | inl here ↦ absurd (let bad : None ≡ Some t = sym none ∙ subst (λ i. first_of i (without_first id launched) ≡ Some t) here first in cc)
        | inr ne ↦ h other t ne (sym (first_same other (without_first id launched) launched (left_other id launched other ne)) ∙ first) start
      ]

  -- what `Launches` keeps: those that may begin are first, those behind have not begun, and there is room
  abbrev pub IsSoundList : List (Ticket (Pending T)) → List (Ticket (Pending T)) → ℕ → ℕ → Type 0
  IsSoundList launched begins capacity room = AreFirst launched begins × AreBehind launched × (capacity ≡ room) × (length launched ≤ room)

  pub on_sound :
      (id : ℕ) (k : Pending T) (launched begins : List (Ticket (Pending T))) (capacity room : ℕ) → IsSoundList launched begins capacity room
      → IsSome (first_of id launched) → first_of id begins ≡ None → IsSoundList (with_first id k launched) begins capacity room
  on_sound id k launched begins capacity room h some none =
      let long = with_length id k launched in
      let most = h.3 in
      (on_first id k launched begins none h.0, on_behind id k launched some h.1, h.2, omega (arith, long, most))

  -- a launch comes for an object on which none is,
  module _ (l m : Ticket (Pending T)) (launched begins : List (Ticket (Pending T))) (capacity room : ℕ) (h : IsSoundList launched begins capacity room)
      (few : length launched < room) (start : l.task.awaits ≡ Start) where
    pub add_room : length begins < capacity
    add_room = let most = first_few begins launched h.0 in let is = h.2 in omega (arith, most, is, few)

    longer : length (launched ++ l ∷ []) ≤ room
    longer = let long = length-append launched (l ∷ []) in omega (arith, long, few)

    pub add_sound_first :
        (b : Buffer (Ticket (Pending T))) → first_of l.id launched ≡ None → m ≡ l → b ≡ buffer (begins ++ m ∷ []) capacity
        → IsSoundList (launched ++ l ∷ []) b.items b.capacity room
    add_sound_first b none same is = (
      subst (λ x. AreFirst (launched ++ l ∷ []) x) (sym (ap (λ (q : Buffer (Ticket (Pending T))). q.items) is ∙ ap (λ x. begins ++ x ∷ []) same)) (add_begins launched begins l h.0 none start),
      add_behind launched l h.1 start,
      ap (λ (q : Buffer (Ticket (Pending T))). q.capacity) is ∙ h.2,
      longer,
    )

    -- or behind another
    pub add_sound_behind : IsSoundList (launched ++ l ∷ []) begins capacity room
    add_sound_behind = (add_first launched begins l h.0, add_behind launched l h.1 start, h.2, longer)

  pub added_first :
      (was now old : Latched T) (l m : Ticket (Pending T)) → was ≡ old → first_of l.id was.launched ≡ None → now.launched ≡ was.launched ++ l ∷ []
      → now.begins ≡ was.begins ++ m ∷ [] → m ≡ l → Begins old.launched old.begins → Begins now.launched now.begins
  added_first was now old l m same none launched begins is h =
      let had : Begins was.launched was.begins = subst (λ (x : Latched T). Begins x.launched x.begins) (sym same) h in
      let all : Begins (was.launched ++ l ∷ []) (was.begins ++ l ∷ []) = add_all_first was.launched was.begins l none had in
      let these : now.begins ≡ was.begins ++ l ∷ [] = begins ∙ ap (λ x. was.begins ++ x ∷ []) is in
      subst (λ x. Begins x now.begins) (sym launched) (subst (λ x. Begins (was.launched ++ l ∷ []) x) (sym these) all)

  pub added_behind :
      (was old : Latched T) (launched : List (Ticket (Pending T))) (l : Ticket (Pending T)) → was ≡ old → IsSome (first_of l.id was.launched)
      → launched ≡ was.launched ++ l ∷ [] → Begins old.launched old.begins → Begins launched was.begins
  added_behind was old launched l same some is h =
      subst (λ x. Begins x was.begins) (sym is)
      (add_all_behind was.launched was.begins l some (subst (λ (x : Latched T). Begins x.launched x.begins) (sym same) h))

  pub gone_on :
      (was old : Latched T) (launched : List (Ticket (Pending T))) (id : ℕ) (k : Pending T) → was ≡ old → IsSome (first_of id old.launched) → (k.awaits ≡ Start → ⊥)
      → launched ≡ with_first id k was.launched → BeginsBut id old.launched old.begins → Begins launched was.begins
  gone_on was old launched id k same some begun is h =
      subst (λ x. Begins x was.begins) (sym is)
      (on_all id k was.launched was.begins (subst (λ (x : Latched T). IsSome (first_of id x.launched)) (sym same) some) begun
      (subst (λ (x : Latched T). BeginsBut id x.launched x.begins) (sym same) h))

  -- the launch of an object that was handed out ends
  module _ (id : ℕ) (launched begins : List (Ticket (Pending T))) (capacity room : ℕ) (h : IsSoundList launched begins capacity room)
      (some : IsSome (first_of id launched)) (none : first_of id begins ≡ None) where
    shorter : length (without_first id launched) + 1 ≡ length launched
    shorter =
        let (t, at) = some_of (first_of id launched) some in
        let (rest, is) = head_of id launched t at in
        left_length id launched t rest is

    pub end_room : length begins < capacity
    end_room =
        let most = first_few begins (without_first id launched) (end_first id launched begins none h.0) in
        let long = shorter in
        let is = h.2 in
        let fits = h.3 in
        omega (arith, most, long, is, fits)

    pub end_sound_next :
        (l m : Ticket (Pending T)) (b : Buffer (Ticket (Pending T))) → first_of id (without_first id launched) ≡ Some l → m ≡ l
        → b ≡ buffer (begins ++ m ∷ []) capacity → IsSoundList (without_first id launched) b.items b.capacity room
    end_sound_next l m b first same is =
        let long = shorter in
        let fits = h.3 in (
          subst (λ x. AreFirst (without_first id launched) x) (sym (ap (λ (q : Buffer (Ticket (Pending T))). q.items) is ∙ ap (λ x. begins ++ x ∷ []) same))
              (end_next id launched begins l none h.0 some h.1 first),
          end_behind id launched some h.1,
          ap (λ (q : Buffer (Ticket (Pending T))). q.capacity) is ∙ h.2,
          omega (arith, long, fits),
        )

    pub end_sound_none : IsSoundList (without_first id launched) begins capacity room
    end_sound_none =
        let long = shorter in
        let fits = h.3 in
        (end_first id launched begins none h.0, end_behind id launched some h.1, h.2, omega (arith, long, fits))

  pub ended_next :
      (was now old : Latched T) (id : ℕ) (l m : Ticket (Pending T)) → was ≡ old → first_of id was.begins ≡ None → now.launched ≡ without_first id was.launched
      → now.begins ≡ was.begins ++ m ∷ [] → m ≡ l → l.id ≡ id → BeginsBut id old.launched old.begins → Begins now.launched now.begins
  ended_next was now old id l m same none launched begins is own h =
      let all = end_all_next id was.launched was.begins l none own (subst (λ (x : Latched T). BeginsBut id x.launched x.begins) (sym same) h) in
      let these : now.begins ≡ was.begins ++ l ∷ [] = begins ∙ ap (λ x. was.begins ++ x ∷ []) is in
      subst (λ x. Begins x now.begins) (sym launched) (subst (λ x. Begins (without_first id was.launched) x) (sym these) all)

  pub ended_none :
      (was old : Latched T) (launched : List (Ticket (Pending T))) (id : ℕ) → was ≡ old → first_of id (without_first id was.launched) ≡ None
      → launched ≡ without_first id was.launched → BeginsBut id old.launched old.begins → Begins launched was.begins
  ended_none was old launched id same none is h =
      subst (λ x. Begins x was.begins) (sym is) (end_all_none id was.launched was.begins none (subst (λ (x : Latched T). BeginsBut id x.launched x.begins) (sym same) h))

  pub next_but :
      (launched begins rest : List (Ticket (Pending T))) (r : Option (Ticket (Pending T))) → r ≡ slice_get begins 0 → rest ≡ drop 1 begins
      → IfSome r (λ l. Begins launched begins → BeginsBut l.id launched rest)
  next_but launched [] rest r is after = subst (λ x. IfSome x (λ l. Begins launched [] → BeginsBut l.id launched rest)) (sym is) tt
  next_but launched (b ∷ begins) rest r is after =
      subst (λ x. IfSome x (λ l. Begins launched (b ∷ begins) → BeginsBut l.id launched rest)) (sym is)
      (subst (λ x. Begins launched (b ∷ begins) → BeginsBut b.id launched x) (sym after) (next_all launched (b ∷ begins) begins b refl))
