-- Each step of the reader.
use Rattle.std.proofs.Common.{◌≡◌, ℕ, ◌-◌, ◌<◌, ◌≤◌, ◌≢◌, false, cond, List, [], ◌∷◌, ◌++◌, length, refl, sym, ap, subst, ◌∙◌, inl, inr, arith, append_assoc}
use Rattle.std.specs.Str.{bytes_eq}
use Rattle.std.proofs.lemmas.List.{append-nil, length-append}
use Rattle.std.proofs.lemmas.Bool.{lt-ltb, le-ltb, ne_eqb}
use Rattle.mc_item.specs.declared.limits.TheConstants.{LARGEST_VALUE, LONGEST_LINE}
use Rattle.mc_model.specs.declared.line.Header.{Header}
use Rattle.mc_model.specs.declared.line.Saying.TheVariants.{Alone, Awaits}
use Rattle.mc_model.specs.declared.message.Command.TheVariants.{Store}
use Rattle.mc_model.specs.declared.message.Fault.{Fault}
use Rattle.mc_model.specs.declared.message.Fault.TheVariants.{LineTooLong, TooLarge, BadChunk}
use Rattle.mc_model.specs.declared.message.Message.{Message}
use Rattle.mc_model.specs.declared.message.Message.TheVariants as message
use Rattle.mc_model.specs.Commands.{fails}
use Rattle.mc_model.specs.Line.{IsLine, HasNoEnd, says}
use Rattle.mc_model.specs.Stream.{Spells, Completes, IsBlock, stored}
use Rattle.mc_grammar.specs.declared.progress.Progress.{Progress}
use Rattle.mc_grammar.specs.declared.progress.Progress.TheVariants.{Line, Block, Returned, Pass, Ready}
use Rattle.mc_grammar.specs.Progress.{Finishes, Goes}
use Rattle.mc_grammar.proofs.LineFacts.{same_line}

-- ---- steps in general

pub Goes-stay : (p : Progress) → Goes p [] p
unfolding Goes
Goes-stay p more m = ((λ f. f), λ f. f)

pub Goes-then : (p q r : Progress) (t u : List ℕ) → Goes p t q → Goes q u r → Goes p (t ++ u) r
unfolding Goes
Goes-then p q r t u g k more m = (
  (λ f. (k more m).0 ((g (u ++ more) m).0 (subst (λ b. Finishes p b m) (append_assoc t u more) f))),
  λ f. subst (λ b. Finishes p b m) (sym (append_assoc t u more)) ((g (u ++ more) m).1 ((k more m).1 f)),
)

-- ---- lists

split_front : (t u b v : List ℕ) → t ++ u ≡ b ++ v → length t ≤ length b → (r : List ℕ) × (b ≡ t ++ r) × (u ≡ r ++ v)
split_front [] u b v e le = (b, refl, e)
split_front (x ∷ t) u [] v e le = absurd (omega arith)
split_front (x ∷ t) u (y ∷ b) v e le =
    let r = split_front t u b v (cc) (omega arith) in
    let same : x ≡ y = cc in
    (r.0, ap (λ z. z ∷ b) (sym same) ∙ ap (λ l. x ∷ l) r.1, r.2)

-- a line goes past bytes that end none
pub line_past : (t u l r : List ℕ) → HasNoEnd t → IsLine l → l ++ r ≡ t ++ u → (m : List ℕ) × (l ≡ t ++ m) × (u ≡ m ++ r) × IsLine m
line_past [] u l r h p e = (l, refl, sym e, p)
line_past (x ∷ t) u [] r h p e = absurd p
line_past (x ∷ t) u (y ∷ l) r h (inl q) e = absurd (h.0 cc)
line_past (x ∷ t) u (y ∷ l) r h (inr q) e =
    let m = line_past t u l r h.1 q.1 (cc) in
    let same : y ≡ x = cc in
    (m.0, ap (λ z. z ∷ l) same ∙ ap (λ k. x ∷ k) m.1, m.2, m.3)

pub line_after : (t l : List ℕ) → HasNoEnd t → IsLine l → IsLine (t ++ l)
line_after [] l h p = p
line_after (x ∷ t) l h p = inr (h.0, line_after t l h.1 p)

pub none_after : (t u : List ℕ) → HasNoEnd t → HasNoEnd u → HasNoEnd (t ++ u)
none_after [] u h k = k
none_after (x ∷ t) u h k = (h.0, none_after t u h.1 k)

-- a line and then a line is the first alone
line_alone : (t u : List ℕ) → IsLine t → IsLine (t ++ u) → u ≡ []
line_alone t u p q = (same_line t (t ++ u) u [] p q (sym (append-nil (t ++ u)))).1

-- ---- the line

pub line_goes_on : (front t : List ℕ) → Goes (Line front) t (Line (front ++ t))
unfolding Goes
line_goes_on front t more m = (
  (λ s. subst (λ b. Spells b m) (sym (append_assoc front t more)) s),
  λ s. subst (λ b. Spells b m) (append_assoc front t more) s,
)

line_whole : (line more : List ℕ) (m : Message) → IsLine line → Spells (line ++ more) m → Completes (says line) more m
line_whole line more m l s =
    let one = same_line s.line line s.rest more s.is_line l (sym s.parts) in
    subst (λ k. Completes (says line) k m) one.1 (subst (λ k. Completes (says k) s.rest m) one.0 s.completes)

line_made : (line more : List ℕ) (m : Message) → IsLine line → Completes (says line) more m → Spells (line ++ more) m
line_made line more m l c = record { line = line; rest = more; parts = refl; is_line = l; completes = c }

-- after a joined line, as after the line alone
pub line_then : (front t : List ℕ) (p : Progress) → Goes (Line (front ++ t)) [] p → Goes (Line front) t p
unfolding Goes
line_then front t p g more m = (
  (λ s. (g more m).0 (subst (λ b. Spells b m) (sym (append_assoc front t more)) s)),
  λ f. subst (λ b. Spells b m) (append_assoc front t more) ((g more m).1 f),
)

pub said_alone : (line : List ℕ) (y : Message) → IsLine line → says line ≡ Alone y → Goes (Line line) [] (Ready y)
unfolding Goes
said_alone line y l e more m = (
  (λ s. subst (λ k. Completes k more m) e (line_whole line more m l s)),
  λ f. line_made line more m l (subst (λ k. Completes k more m) (sym e) f),
)

pub said_block : (line : List ℕ) (h : Header) → IsLine line → says line ≡ Awaits h → Goes (Line line) [] (Block h ([], h.size))
unfolding Goes
said_block line h l e more m = (
  (λ s. subst (λ k. Completes k more m) e (line_whole line more m l s)),
  λ f. line_made line more m l (subst (λ k. Completes k more m) (sym e) f),
)

-- ---- blocks

large_is : (h : Header) (block tail : List ℕ) → LARGEST_VALUE < h.size → stored h block tail ≡ message.Fault (TooLarge h.quiet)
large_is h block tail lt = rw (lt-ltb LARGEST_VALUE h.size lt) refl

small_is : (h : Header) (block tail : List ℕ) → h.size ≤ LARGEST_VALUE → stored h block tail ≡ cond (bytes_eq tail (13 ∷ 10 ∷ [])) (message.Command (Store h.how h.key h.flags h.exptime block h.quiet)) (message.Fault (BadChunk h.quiet))
small_is h block tail le = rw (le-ltb LARGEST_VALUE h.size le) refl

-- a block that is too large is passed over
pub block_large : (h : Header) (n : ℕ) → LARGEST_VALUE < h.size → Goes (Block h ([], n)) [] (Pass (TooLarge h.quiet) n)
unfolding Goes
block_large h n lt more m = (
  (λ f. (f.0, f.1, f.2, f.3 ∙ large_is h f.0 f.1 lt)),
  λ f. (f.0, f.1, f.2, f.3 ∙ sym (large_is h f.0 f.1 lt)),
)

no_block : (n : ℕ) (bytes block tail : List ℕ) → IsBlock n bytes block tail → n ≡ 0 → (block ≡ []) × (bytes ≡ tail)
no_block n bytes [] tail b e = (refl, b.parts)
no_block n bytes (x ∷ block) tail b e = absurd (omega (arith, b.whole))

block_more : (n : ℕ) (t more block tail : List ℕ) → length t ≤ n → IsBlock n (t ++ more) block tail → (r : List ℕ) × (block ≡ t ++ r) × IsBlock (n - length t) more r tail
block_more n t more block tail le b =
    let s = split_front t more block tail b.parts (omega (arith, b.whole)) in
    (s.0, s.1, record { parts = s.2; whole = omega (arith, b.whole, ap length s.1, length-append t s.0); line = b.line })

block_back : (n : ℕ) (t more block tail : List ℕ) → length t ≤ n → IsBlock (n - length t) more block tail → IsBlock n (t ++ more) (t ++ block) tail
block_back n t more block tail le b =
    record { parts = ap (λ l. t ++ l) b.parts ∙ sym (append_assoc t block tail); whole = omega (arith, b.whole, length-append t block); line = b.line }

pub block_goes_on : (h : Header) (v : List ℕ) (left : ℕ) (t : List ℕ) → length t ≤ left → Goes (Block h (v, left)) t (Block h (v ++ t, left - length t))
unfolding Goes
block_goes_on h v left t le more m = (
  (λ f. let s = block_more left t more f.0 f.1 le f.2 in (s.0, f.1, s.2, f.3 ∙ ap (λ b. stored h b f.1) (ap (λ b. v ++ b) s.1 ∙ sym (append_assoc v t s.0)))),
  λ f. (t ++ f.0, f.1, block_back left t more f.0 f.1 le f.2, f.3 ∙ ap (λ b. stored h b f.1) (append_assoc v t f.0)),
)

-- ---- faults that are certain

pub pass_goes_on : (fault : Fault) (left : ℕ) (t : List ℕ) → length t ≤ left → Goes (Pass fault left) t (Pass fault (left - length t))
unfolding Goes
pass_goes_on fault left t le more m = (
  (λ f. let s = block_more left t more f.0 f.1 le f.2 in (s.0, f.1, s.2, f.3)),
  λ f. (t ++ f.0, f.1, block_back left t more f.0 f.1 le f.2, f.3),
)

pub pass_line : (fault : Fault) (t : List ℕ) → HasNoEnd t → Goes (Pass fault 0) t (Pass fault 0)
unfolding Goes
pass_line fault t h more m = (
  (λ f. let s = no_block 0 (t ++ more) f.0 f.1 f.2 refl in
      let k = line_past t more f.1 [] h f.2.line (append-nil f.1 ∙ sym s.1) in
      ([], more, record { parts = refl; whole = refl; line = subst IsLine (sym (k.2 ∙ append-nil k.0)) k.3 }, f.3)),
  λ f. let s = no_block 0 more f.0 f.1 f.2 refl in
      ([], t ++ more, record { parts = refl; whole = refl; line = line_after t more h (subst IsLine (sym s.1) f.2.line) }, f.3),
)

pub pass_ends : (fault : Fault) (t : List ℕ) → IsLine t → Goes (Pass fault 0) t (Ready (message.Fault fault))
unfolding Goes
pass_ends fault t l more m = (
  (λ f. let s = no_block 0 (t ++ more) f.0 f.1 f.2 refl in (line_alone t more l (subst IsLine (sym s.1) f.2.line), f.3)),
  λ f. ([], t ++ more, record { parts = refl; whole = refl; line = subst IsLine (sym (append-nil t) ∙ ap (λ k. t ++ k) (sym f.0)) l }, f.1),
)

-- ---- long lines

pub says_long : (line : List ℕ) → LONGEST_LINE < length line → says line ≡ fails LineTooLong
unfolding says
says_long line lt = rw (lt-ltb LONGEST_LINE (length line) lt) refl

line_positive : (l : List ℕ) → IsLine l → 0 < length l
line_positive [] p = absurd p
line_positive (x ∷ l) p = omega arith

-- a front that is too long, whatever ends it
pub line_too_long : (front : List ℕ) → HasNoEnd front → LONGEST_LINE ≤ length front → Goes (Line front) [] (Pass LineTooLong 0)
unfolding Goes
line_too_long front h long more m = (
  (λ s. let k = line_past front more s.line s.rest h s.is_line (sym s.parts) in
      let big : LONGEST_LINE < length s.line = omega (arith, ap length k.1, length-append front k.0, line_positive k.0 k.3) in
      let c = subst (λ r. Completes r s.rest m) (says_long s.line big) s.completes in
      ([], more, record { parts = refl; whole = refl; line = subst IsLine (sym (k.2 ∙ ap (λ r. k.0 ++ r) c.0 ∙ append-nil k.0)) k.3 }, c.1)),
  λ f. let s = no_block 0 more f.0 f.1 f.2 refl in
      let l : IsLine more = subst IsLine (sym s.1) f.2.line in
      let big : LONGEST_LINE < length (front ++ more) = omega (arith, length-append front more, line_positive more l) in
      record { line = front ++ more; rest = []; parts = sym (append-nil (front ++ more)); is_line = line_after front more h l; completes = subst (λ r. Completes r [] m) (sym (says_long (front ++ more) big)) (refl, f.3) },
)

pub line_long_ends : (line : List ℕ) → IsLine line → LONGEST_LINE < length line → Goes (Line line) [] (Ready (message.Fault LineTooLong))
line_long_ends line l lt = said_alone line (message.Fault LineTooLong) l (says_long line lt)

-- ---- tails

-- a block that lacks nothing is as its tail says
at_end : (h : Header) (v : List ℕ) (n : ℕ) → n ≡ 0 → (more : List ℕ) (m : Message) → Finishes (Block h (v, n)) more m → IsLine more × (m ≡ stored h v more)
at_end h v n e more m f =
    let s = no_block n more f.0 f.1 f.2 e in
    (subst IsLine (sym s.1) f.2.line, f.3 ∙ ap (λ b. stored h b f.1) (ap (λ b. v ++ b) s.0 ∙ append-nil v) ∙ ap (stored h v) (sym s.1))

from_end : (h : Header) (v : List ℕ) (n : ℕ) → n ≡ 0 → (more : List ℕ) (m : Message) → IsLine more → m ≡ stored h v more → Finishes (Block h (v, n)) more m
from_end h v n e more m l k = ([], more, record { parts = refl; whole = sym e; line = l }, k ∙ ap (λ b. stored h b more) (sym (append-nil v)))

chunk_is : (h : Header) (v tail : List ℕ) → h.size ≤ LARGEST_VALUE → bytes_eq tail (13 ∷ 10 ∷ []) ≡ false → stored h v tail ≡ message.Fault (BadChunk h.quiet)
chunk_is h v tail le e =
    small_is h v tail le ∙ ap (λ b. cond b (message.Command (Store h.how h.key h.flags h.exptime v h.quiet)) (message.Fault (BadChunk h.quiet))) e

not_line_ten : (more : List ℕ) → IsLine (10 ∷ more) → more ≡ []
not_line_ten more (inl p) = p.1
not_line_ten more (inr p) = absurd (p.0 refl)

pub line_tail : (b : ℕ) (more : List ℕ) → b ≢ 10 → IsLine (b ∷ more) → IsLine more
line_tail b more n (inl p) = absurd (n p.0)
line_tail b more n (inr p) = p.1

-- a line feed alone
pub tail_bare : (h : Header) (v : List ℕ) (n : ℕ) → n ≡ 0 → h.size ≤ LARGEST_VALUE → Goes (Block h (v, n)) (10 ∷ []) (Ready (message.Fault (BadChunk h.quiet)))
unfolding Goes
tail_bare h v n e le more m = (
  (λ f. let g = at_end h v n e (10 ∷ more) m f in (not_line_ten more g.0, g.1 ∙ chunk_is h v (10 ∷ more) le refl)),
  λ f. from_end h v n e (10 ∷ more) m (inl (refl, f.0)) (f.1 ∙ sym (chunk_is h v (10 ∷ more) le refl)),
)

pub tail_returned : (h : Header) (v : List ℕ) (n : ℕ) → n ≡ 0 → Goes (Block h (v, n)) (13 ∷ []) (Returned h v)
unfolding Goes
tail_returned h v n e more m = ((λ f. at_end h v n e (13 ∷ more) m f), λ f. from_end h v n e (13 ∷ more) m f.0 f.1)

pub tail_other : (h : Header) (v : List ℕ) (n b : ℕ) → n ≡ 0 → h.size ≤ LARGEST_VALUE → b ≢ 10 → b ≢ 13 → Goes (Block h (v, n)) (b ∷ []) (Pass (BadChunk h.quiet) 0)
unfolding Goes
tail_other h v n b e le ten thirteen more m =
    let other : bytes_eq (b ∷ more) (13 ∷ 10 ∷ []) ≡ false = rw (ne_eqb b 13 thirteen) refl in (
      (λ f. let g = at_end h v n e (b ∷ more) m f in
          ([], more, record { parts = refl; whole = refl; line = line_tail b more ten g.0 }, g.1 ∙ chunk_is h v (b ∷ more) le other)),
      λ f. let s = no_block 0 more f.0 f.1 f.2 refl in
          from_end h v n e (b ∷ more) m (inr (ten, subst IsLine (sym s.1) f.2.line)) (f.3 ∙ sym (chunk_is h v (b ∷ more) le other)),
    )

pub tail_whole : (h : Header) (v : List ℕ) → h.size ≤ LARGEST_VALUE → Goes (Returned h v) (10 ∷ []) (Ready (message.Command (Store h.how h.key h.flags h.exptime v h.quiet)))
unfolding Goes
tail_whole h v le more m =
    let by_tail : List ℕ → Message = λ k. cond (bytes_eq (13 ∷ 10 ∷ k) (13 ∷ 10 ∷ [])) (message.Command (Store h.how h.key h.flags h.exptime v h.quiet)) (message.Fault (BadChunk h.quiet)) in (
      (λ f. let none = not_line_ten more (line_tail 13 (10 ∷ more) (λ e. absurd (omega arith)) f.0) in
          (none, f.1 ∙ small_is h v (13 ∷ 10 ∷ more) le ∙ ap by_tail none)),
      λ f. (inr ((λ e. absurd (omega arith)), inl (refl, f.0)), f.1 ∙ sym (ap by_tail f.0) ∙ sym (small_is h v (13 ∷ 10 ∷ more) le)),
    )

pub tail_late : (h : Header) (v : List ℕ) (b : ℕ) → h.size ≤ LARGEST_VALUE → b ≢ 10 → Goes (Returned h v) (b ∷ []) (Pass (BadChunk h.quiet) 0)
unfolding Goes
tail_late h v b le n more m =
    let other : bytes_eq (13 ∷ b ∷ more) (13 ∷ 10 ∷ []) ≡ false = rw (ne_eqb b 10 n) refl in (
      (λ f. ([], more, record { parts = refl; whole = refl; line = line_tail b more n (line_tail 13 (b ∷ more) (λ e. absurd (omega arith)) f.0) }, f.1 ∙ chunk_is h v (13 ∷ b ∷ more) le other)),
      λ f. let s = no_block 0 more f.0 f.1 f.2 refl in
          (inr ((λ e. absurd (omega arith)), inr (n, subst IsLine (sym s.1) f.2.line)), f.3 ∙ sym (chunk_is h v (13 ∷ b ∷ more) le other)),
    )
