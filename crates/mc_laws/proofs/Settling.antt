-- What settling leaves of items and of a flush that waits, and that settling twice is settling once at the later moment.
use Rattle.std.proofs.Common.{◌≡◌, ℕ, ◌≤◌, ◌^◌, Bool, true, false, cond, not, eqb, ◌==◌, leb, List, [], Option, Some, None, refl, sym, ap, ◌∙◌, arith}
use Rattle.std.proofs.lemmas.Bool.{leb-true, le-leb, eqb-true}
use Rattle.mc_item.specs.Classes.{class_of}
use Rattle.mc_item.specs.Expiry.{is_expired}
use Rattle.mc_item.specs.declared.expiry.Expiry.{Expiry}
use Rattle.mc_item.specs.declared.expiry.Expiry.TheVariants.{Never, At}
use Rattle.mc_model.specs.Moments.{latest}
use Rattle.mc_model.specs.Items.{Items, live, of_classes}
use Rattle.mc_model.specs.Class.{Class, settled, is_flush_due}
use Rattle.mc_model.specs.Plain.{Plain, plain_settled}
use Rattle.mc_model.proofs.ItemFacts.{filter_swap, filter_stricter, filter_apart}

-- ---- moments

pub latest_again : (moment first second : ℕ) → first ≤ second → latest (latest moment first) second ≡ latest moment second
latest_again moment first second le = omega arith

pub latest_is : (moment reading : ℕ) → moment ≤ reading → reading ≤ 2 ^ 62 → latest moment reading ≡ reading
latest_is moment reading le most = omega arith

pub latest-le : (moment reading : ℕ) → moment ≤ reading → latest moment reading ≤ reading
latest-le moment reading le = omega arith

-- ---- items

still_live : (due : Expiry) (first second : ℕ) → first ≤ second → not (is_expired due second) ≡ true → not (is_expired due first) ≡ true
still_live Never first second le e = refl
still_live (At moment) first second le e = (elim (leb moment first) as (λ b. leb moment first ≡ b → not b ≡ true) [
  | true ↦ λ h. absurd (let later = le-leb moment second (omega (arith, leb-true moment first h)) in cc)
  | false ↦ λ h. refl
]) refl

live_again : (first second : ℕ) (items : Items) → first ≤ second → live second (live first items) ≡ live second items
unfolding live
live_again first second items le = filter_stricter _ _ items (λ e stays. still_live e.1.due first second le stays)

live-none : (moment : ℕ) → live moment [] ≡ []
unfolding live
live-none moment = refl

-- ---- the items of a class and the flush that waits

-- what is left of items at a moment, where this flush waits
abbrev pub left : ℕ → Option ℕ → Items → Items
left now flush items = live now (cond (is_flush_due flush now) [] items)

-- the flush that waits still at a moment
abbrev pub waiting : ℕ → Option ℕ → Option ℕ
waiting now flush = cond (is_flush_due flush now) None flush

due_later : (flush_at first second : ℕ) → first ≤ second → leb flush_at first ≡ true → leb flush_at second ≡ true
due_later flush_at first second le e = le-leb flush_at second (omega (arith, leb-true flush_at first e))

left_due : (first second flush_at : ℕ) (items : Items) (due : Bool) → first ≤ second → (due ≡ true → leb flush_at second ≡ true)
    → left second (cond due None (Some flush_at)) (live first (cond due [] items)) ≡ left second (Some flush_at) items
left_due first second flush_at items true le h = rw (h refl) (ap (live second) (live-none first))
left_due first second flush_at items false le h =
    elim (leb flush_at second) as (λ b. live second (cond b [] (live first items)) ≡ live second (cond b [] items)) [
      | true ↦ refl
      | false ↦ live_again first second items le
    ]

pub left_again : (first second : ℕ) (flush : Option ℕ) (items : Items) → first ≤ second → left second (waiting first flush) (left first flush items) ≡ left second flush items
left_again first second None items le = live_again first second items le
left_again first second (Some flush_at) items le = left_due first second flush_at items (leb flush_at first) le (due_later flush_at first second le)

waiting_due : (second flush_at : ℕ) (due : Bool) → (due ≡ true → leb flush_at second ≡ true) → waiting second (cond due None (Some flush_at)) ≡ waiting second (Some flush_at)
waiting_due second flush_at true h = rw (h refl) refl
waiting_due second flush_at false h = refl

pub waiting_again : (first second : ℕ) (flush : Option ℕ) → first ≤ second → waiting second (waiting first flush) ≡ waiting second flush
waiting_again first second None le = refl
waiting_again first second (Some flush_at) le = waiting_due second flush_at (leb flush_at first) (due_later flush_at first second le)

-- ---- the part of a class in the store

-- the items of one class
abbrev pub own : ℕ → Items → Items
own class items = of_classes (λ k. k == class) items

own_passing : (class : ℕ) (test : ℕ → Bool) (items : Items) (passes : Bool) → test class ≡ passes → own class (of_classes test items) ≡ cond passes (own class items) []
unfolding of_classes
own_passing class test items true is = filter_stricter _ _ items (λ e mine. ap test (eqb-true (class_of e.0) class mine) ∙ is)
own_passing class test items false is = filter_apart _ _ items (λ e mine. ap test (eqb-true (class_of e.0) class mine) ∙ is)

own_live : (class now : ℕ) (items : Items) → own class (live now items) ≡ live now (own class items)
unfolding live of_classes
own_live class now items = filter_swap _ _ items

turned : (due : Bool) (items : Items) → cond (not due) items [] ≡ cond due [] items
turned true items = refl
turned false items = refl

-- of the store that is settled, the part of a class is what is left of its part
pub own_settled : (p : Plain) (moment class : ℕ) → own class (plain_settled p moment).items ≡ left (latest p.moment moment) (p.pending class) (own class p.items)
own_settled p moment class =
    let now = latest p.moment moment in
    let test : ℕ → Bool = λ k. not (is_flush_due (p.pending k) now) in
    own_live class now (of_classes test p.items)
    ∙ ap (live now) (own_passing class test p.items (test class) refl ∙ turned (is_flush_due (p.pending class) now) (own class p.items))

-- ---- settling twice

both_left : (moment first second : ℕ) (flush : Option ℕ) (items : Items) → first ≤ second
    → left (latest (latest moment first) second) (waiting (latest moment first) flush) (left (latest moment first) flush items) ≡ left (latest moment second) flush items
both_left moment first second flush items le =
    rw (latest_again moment first second le) (left_again (latest moment first) (latest moment second) flush items (omega arith))

both_waiting : (moment first second : ℕ) (flush : Option ℕ) → first ≤ second →
    waiting (latest (latest moment first) second) (waiting (latest moment first) flush) ≡ waiting (latest moment second) flush
both_waiting moment first second flush le =
    rw (latest_again moment first second le) (waiting_again (latest moment first) (latest moment second) flush (omega arith))

pub settled_again-items : (s : Class) (first second : ℕ) → first ≤ second → (settled (settled s first) second).items ≡ (settled s second).items
settled_again-items s first second le = both_left s.moment first second s.pending s.items le

pub settled_again-pending : (s : Class) (first second : ℕ) → first ≤ second → (settled (settled s first) second).pending ≡ (settled s second).pending
settled_again-pending s first second le = both_waiting s.moment first second s.pending le

pub own_settled_again : (p : Plain) (first second class : ℕ) → first ≤ second → own class (plain_settled (plain_settled p first) second).items ≡ own class (plain_settled p second).items
own_settled_again p first second class le =
    own_settled (plain_settled p first) second class
    ∙ ap (left (latest (latest p.moment first) second) (waiting (latest p.moment first) (p.pending class))) (own_settled p first class)
    ∙ both_left p.moment first second (p.pending class) (own class p.items) le
    ∙ sym (own_settled p second class)

pub plain_settled_again-pending :
    (p : Plain) (first second class : ℕ) → first ≤ second → (plain_settled (plain_settled p first) second).pending class ≡ (plain_settled p second).pending class
plain_settled_again-pending p first second class le = both_waiting p.moment first second (p.pending class) le
