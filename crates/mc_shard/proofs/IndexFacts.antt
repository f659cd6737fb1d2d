-- What the calls of the index leave, and that it tells when each item goes.
use Rattle.std.proofs.Common.{◌≡◌, ℕ, ◌<◌, ◌≤◌, Bool, true, false, cond, not, ◌&&◌, List, [], ◌∷◌, Option, Some, None, nat_eq, nat_le, IsTrue, refl, sym, ap, subst, ◌∙◌, arith}
use Rattle.std.proofs.lemmas.Bool.{eqb-true}
use Rattle.std.proofs.lemmas.Bool.Decides.{nat_tests}
use Rattle.std.specs.List.{list_any, IsDistinct}
use Rattle.std.specs.declared.cmp.Ordering.{Ordering}
use Rattle.std.specs.declared.cmp.Ordering.TheVariants.{Less, Equal, Greater}
use Rattle.std.specs.Ordering.{nat_cmp, ordering_then, is_eq, is_gt}
use Rattle.std.specs.Cmp.Lexicographic.{slice_cmp, texts_ties}
use Rattle.std.specs.BTreeMap.{is_at}
use Rattle.std.specs.Map.{remove_entry}
use Rattle.mc_item.specs.Expiry.{is_expired}
use Rattle.mc_item.specs.declared.expiry.Expiry.{Expiry}
use Rattle.mc_item.specs.declared.expiry.Expiry.TheVariants.{Never, At}
use Rattle.mc_model.specs.declared.item.Item.{Item}
use Rattle.mc_model.specs.Items.{Items, same_key, item_at, first, without, live}
use Rattle.mc_model.proofs.ItemFacts.{same_key-true, same_key-refl}
use Rattle.mc_shard.specs.Kept.{due_cmp, has_entry, goes_at, due_of, is_entry, IsTold, GainsEntry, LosesEntry, IsAhead, TakesDue, IsPaired}
use Rattle.mc_shard.proofs.CacheFacts.{AreApart, IsAbsent, kept, absent_item, item_at-live, item_at-without, item_at-first, apart-without, apart-first, live-without, without-none, remove_entry-without}

-- ---- entries

its_moment : (a b : ℕ) (o : Ordering) → is_eq o ≡ true → is_eq (ordering_then (nat_cmp a b) o) ≡ nat_eq a b
its_moment a b o e = grind (arith, nat_tests)

of_moment : (a b : ℕ) (o : Ordering) → is_eq (ordering_then (nat_cmp a b) o) ≡ true → a ≡ b
of_moment a b o e = grind (arith, nat_tests)

of_key : (a o : Ordering) → is_eq o ≡ false → is_eq (ordering_then a o) ≡ false
of_key Less o e = refl
of_key Equal o e = e
of_key Greater o e = refl

-- the entry of a key, at that key
entry_here : (due : Expiry) (key : List ℕ) (moment : ℕ) (q : List ℕ) → same_key key q ≡ true → is_entry due key moment q ≡ goes_at due moment
entry_here Never key moment q e = refl
entry_here (At due) key moment q e = its_moment due moment (slice_cmp nat_cmp key q) (sym (texts_ties key q) ∙ e)

-- and at another
entry_there : (due : Expiry) (key : List ℕ) (moment : ℕ) (q : List ℕ) → same_key key q ≡ false → is_entry due key moment q ≡ false
entry_there Never key moment q e = refl
entry_there (At due) key moment q e = of_key (nat_cmp due moment) (slice_cmp nat_cmp key q) (sym (texts_ties key q) ∙ e)

goes_is : (due : Expiry) (moment : ℕ) → goes_at due moment ≡ true → due ≡ At moment
goes_is Never moment e = absurd cc
goes_is (At due) moment e = ap At (eqb-true due moment e)

-- ---- one key's entry changes

changed : (was due : Bool) → cond (was && not due) false (cond due true was) ≡ due
changed true true = refl
changed true false = refl
changed false true = refl
changed false false = refl

-- the entry of a new due comes, and that of the old one goes
pub told_changed :
    (es fs : Items) (i j k : List (ℕ × List ℕ)) (key : List ℕ) (was due : Expiry) (after : Option Item)
    → IsTold es i → was ≡ due_of (item_at es key) → due_of after ≡ due → GainsEntry i j due key → LosesEntry j k was due key
    → ((q : List ℕ) → item_at fs q ≡ cond (same_key key q) after (item_at es q)) → IsTold fs k
told_changed es fs i j k key was due after told is be gains loses at moment q =
    loses moment q ∙ ap (cond (is_entry was key moment q && not (goes_at due moment)) false) (gains moment q ∙ ap (cond (is_entry due key moment q) true) (told moment q))
    ∙ (elim (same_key key q) as (λ b. same_key key q ≡ b
    → cond (is_entry was key moment q && not (goes_at due moment)) false (cond (is_entry due key moment q) true (goes_at (due_of (item_at es q)) moment)) ≡ goes_at (due_of (cond b after (item_at es q))) moment) [
      | true ↦ λ e.
          rw (entry_here was key moment q e, entry_here due key moment q e, be, ← ap (λ x. goes_at (due_of (item_at es x)) moment) (same_key-true key q e), ← is)
          (changed (goes_at was moment) (goes_at due moment))
      | false ↦ λ e. rw (entry_there was key moment q e, entry_there due key moment q e) refl
    ]) refl
    ∙ ap (λ o. goes_at (due_of o) moment) (sym (at q))

-- no entry comes
pub no_gain : (i : List (ℕ × List ℕ)) (key : List ℕ) → GainsEntry i i Never key
no_gain i key moment q = refl

-- the due stays
pub told_kept :
    (es fs : Items) (i : List (ℕ × List ℕ)) (key : List ℕ) (after : Option Item)
    → IsTold es i → due_of after ≡ due_of (item_at es key) → ((q : List ℕ) → item_at fs q ≡ cond (same_key key q) after (item_at es q)) → IsTold fs i
told_kept es fs i key after told be at moment q =
    told moment q
    ∙ (elim (same_key key q) as (λ b. same_key key q ≡ b → goes_at (due_of (item_at es q)) moment ≡ goes_at (due_of (cond b after (item_at es q))) moment) [
      | true ↦ λ e. ap (λ d. goes_at d moment) (ap (λ x. due_of (item_at es x)) (sym (same_key-true key q e)) ∙ sym be)
      | false ↦ λ e. refl
    ]) refl
    ∙ ap (λ o. goes_at (due_of o) moment) (sym (at q))

-- an entry that came goes again
undone : (e old : Bool) → (e ≡ true → old ≡ false) → cond (e && true) false (cond e true old) ≡ old
undone true old h = sym (h refl)
undone false old h = refl

pub told_undone : (es : Items) (i j k : List (ℕ × List ℕ)) (key : List ℕ) (due : Expiry) → IsTold es i → item_at es key ≡ None → GainsEntry i j due key → LosesEntry j k due Never key → IsTold es k
told_undone es i j k key due told none gains loses moment q =
    loses moment q ∙ ap (cond (is_entry due key moment q && true) false) (gains moment q)
    ∙ undone (is_entry due key moment q) (has_entry i moment q) (λ e. told moment q ∙ (elim (same_key key q) as (λ b. same_key key q ≡ b → goes_at (due_of (item_at es q)) moment ≡ false) [
      | true ↦ λ f. ap (λ x. goes_at (due_of (item_at es x)) moment) (sym (same_key-true key q f)) ∙ ap (λ o. goes_at (due_of o) moment) none
      | false ↦ λ f. absurd (let g = entry_there due key moment q f in cc)
    ]) refl)
    ∙ told moment q

-- ---- with the items

pub paired_without :
    (es : Items) (i k : List (ℕ × List ℕ)) (key : List ℕ) (was : Expiry) → IsPaired es i → was ≡ due_of (item_at es key) → LosesEntry i k was Never key → IsPaired (without es key) k
paired_without es i k key was h is loses = record {
  apart = apart-without es key h.apart;
  told = told_changed es (without es key) i i k key was Never None h.told is refl (no_gain i key) loses (item_at-without es key);
}

pub paired_first :
    (es : Items) (i j k : List (ℕ × List ℕ)) (key : List ℕ) (was : Expiry) (v : Item) → IsPaired es i → was ≡ due_of (item_at es key) → GainsEntry i j v.due key → LosesEntry j k was v.due key → IsPaired (first es key v) k
paired_first es i j k key was v h is gains loses = record {
  apart = apart-first es key v h.apart;
  told = told_changed es (first es key v) i j k key was v.due (Some v) h.told is refl gains loses (item_at-first es key v);
}

pub paired_kept : (es : Items) (i : List (ℕ × List ℕ)) (key : List ℕ) (v : Item) → IsPaired es i → v.due ≡ due_of (item_at es key) → IsPaired (first es key v) i
paired_kept es i key v h is = record {
  apart = apart-first es key v h.apart;
  told = told_kept es (first es key v) i key (Some v) h.told is (item_at-first es key v);
}

pub paired_undone : (es : Items) (i j k : List (ℕ × List ℕ)) (key : List ℕ) (due : Expiry) → IsPaired es i → item_at es key ≡ None → GainsEntry i j due key → LosesEntry j k due Never key → IsPaired es k
paired_undone es i j k key due h none gains loses = record { apart = h.apart; told = told_undone es i j k key due h.told none gains loses }

-- ---- how an entry is taken out

when_lost : (e g x y : Bool) → (e ≡ true → g ≡ false) → y ≡ cond e false x → y ≡ cond (e && not g) false x
when_lost true true x y apart is = let h = apart refl in absurd cc
when_lost true false x y apart is = is
when_lost false g x y apart is = is

-- the entry of what was is taken out
pub loses_removed :
    (index index' : List (ℕ × List ℕ)) (moment : ℕ) (key : List ℕ) (due : Expiry) → goes_at due moment ≡ false
    → ((x : ℕ × List ℕ) → list_any (is_at (due_cmp x)) index' ≡ cond (is_at (due_cmp (moment, key)) x) false (list_any (is_at (due_cmp x)) index))
    → LosesEntry index index' (At moment) due key
loses_removed index index' moment key due apart out m q =
    when_lost (is_entry (At moment) key m q) (goes_at due m) (has_entry index m q) (has_entry index' m q)
    (λ e. ap (goes_at due) (sym (of_moment moment m (slice_cmp nat_cmp key q) e)) ∙ apart) (out (m, q))

when_stays : (e g x : Bool) → (e ≡ true → g ≡ true) → x ≡ cond (e && not g) false x
when_stays true true x same = refl
when_stays true false x same = let h = same refl in absurd cc
when_stays false g x same = refl

-- or stays, where it is the new due's too
pub loses_kept : (index : List (ℕ × List ℕ)) (moment : ℕ) (key : List ℕ) (due : Expiry) → goes_at due moment ≡ true → LosesEntry index index (At moment) due key
loses_kept index moment key due same m q =
    when_stays (is_entry (At moment) key m q) (goes_at due m) (has_entry index m q) (λ e. ap (goes_at due) (sym (of_moment moment m (slice_cmp nat_cmp key q) e)) ∙ same)

-- the first entry is ahead, and so are all
before_first : (now first moment : ℕ) (o : Ordering) → nat_le first now ≡ false → is_gt (ordering_then (nat_cmp first moment) o) ≡ false → now < moment
before_first now first moment o early least = grind (arith, nat_tests)

pub ahead_of :
    (now : ℕ) (index : List (ℕ × List ℕ)) (first : ℕ × List ℕ) → nat_le first.0 now ≡ false
    → ((x : ℕ × List ℕ) → IsTrue (list_any (is_at (due_cmp x)) index) → is_gt (due_cmp first x) ≡ false)
    → IsAhead now index
ahead_of now index first early least moment key has = before_first now first.0 moment (slice_cmp nat_cmp first.1 key) early (least (moment, key) has)

-- ---- what is expired goes

one_lost : (e x : Bool) → cond e false x ≡ cond (e && true) false x
one_lost true x = refl
one_lost false x = refl

due_is_late : (due : Expiry) (moment now : ℕ) → due ≡ At moment → moment ≤ now → is_expired due now ≡ true
due_is_late due moment now is le = rw is (grind (arith, nat_tests))

-- a key whose item is expired
gone_of : (now moment : ℕ) (o : Option Item) → due_of o ≡ At moment → moment ≤ now → kept now o ≡ None
gone_of now moment None is le = refl
gone_of now moment (Some v) is le = rw (due_is_late v.due moment now is le) refl

-- the step of a sweep
pub record IsSwept (now : ℕ) (es fs : Items) (k : List (ℕ × List ℕ)) : Type 0 where
  pub paired : IsPaired fs k
  pub swept : live now fs ≡ live now es

pub swept_one : (now : ℕ) (es : Items) (i k : List (ℕ × List ℕ)) (key : List ℕ) → IsPaired es i → TakesDue now i k key → IsSwept now es (remove_entry (same_key key) es) k
swept_one now es i k key h takes =
    let due = takes.0 in
    let is : due_of (item_at es key) ≡ At due = goes_is (due_of (item_at es key)) due (sym (h.told due key) ∙ takes.2) in
    let fs = remove_entry-without es key h.apart in
    rw fs (record {
      paired = paired_without es i k key (At due) h (sym is) (λ m q. takes.3 m q ∙ one_lost (is_entry (At due) key m q) (has_entry i m q));
      swept = live-without now es key ∙ without-none (live now es) key (item_at-live es now key h.apart ∙ gone_of now due (item_at es key) is takes.1);
    })

pub not_gone : (b : Bool) (v : Item) → cond b None (Some v) ≡ Some v → b ≡ false
not_gone true v e = absurd cc
not_gone false v e = refl

-- each item is live, so that all are
all_live : (now : ℕ) (es : Items) → AreApart es → ((key : List ℕ) → kept now (item_at es key) ≡ item_at es key) → live now es ≡ es
unfolding live IsDistinct
all_live now [] apart h = refl
all_live now (e ∷ es) apart h =
    let here : is_expired e.1.due now ≡ false = not_gone (is_expired e.1.due now) e.1 (subst (λ b. kept now (cond b (Some e.1) (item_at es e.0)) ≡ cond b (Some e.1) (item_at es e.0)) (same_key-refl e.0) (h e.0)) in
    rw here (ap (λ l. e ∷ l) (all_live now es apart.1 (λ key. (elim (same_key key e.0) as (λ b. same_key key e.0 ≡ b → kept now (cond b (Some e.1) (item_at es key)) ≡ cond b (Some e.1) (item_at es key) → kept now (item_at es key) ≡ item_at es key) [
      | true ↦ λ f g. rw (absent_item es key e.0 f apart.0) refl
      | false ↦ λ f g. g
    ]) refl (h key))))

ahead_is_live : (due : Expiry) (now : ℕ) → ((moment : ℕ) → goes_at due moment ≡ true → now < moment) → is_expired due now ≡ false
ahead_is_live Never now h = refl
ahead_is_live (At due) now h = let later : now < due = h due (grind (arith, nat_tests)) in grind (arith, nat_tests)

kept_ahead : (now : ℕ) (o : Option Item) → ((moment : ℕ) → goes_at (due_of o) moment ≡ true → now < moment) → kept now o ≡ o
kept_ahead now None h = refl
kept_ahead now (Some v) h = rw (ahead_is_live v.due now h) refl

-- no entry has come due, so that no item is expired
pub all_ahead : (now : ℕ) (es : Items) (i : List (ℕ × List ℕ)) → IsPaired es i → IsAhead now i → live now es ≡ es
all_ahead now es i h ahead = all_live now es h.apart (λ key. kept_ahead now (item_at es key) (λ moment e. ahead moment key (h.told moment key ∙ e)))
