-- A line moved under a border: document 02's sentences (`far_filled` to `wrapped_counted`); what stands where in a line set between background
-- samples; its own places alone decide it (`bordered_local`); how far its samples reach (`bordered_reach`); and the steps that the code takes
-- (`bordered_in_place`), with the move held to N samples (`held_in_place`); and a background that passed its test. Assumes nothing.
use mathlib.Core.Path.{◌≡◌, refl, sym, ap, ◌∙◌, subst}
use mathlib.Core.Bool.{Bool, true, false, cond}
use mathlib.Core.List.{List}
use Prim.Native.Nat.{ℕ, suc, ◌+◌, ◌*◌, ◌-◌, ◌%◌, ◌≤◌, ◌<◌}
use native.Mathlib.Nat.{add-mod-mod}
use native.Mathlib.Decide.{dec_le}
use native.Mathlib.Omega.{arith}
use borrow.Rule.Slice.PartMut.{put_mid, mid_len, same_len_mid}
use borrow.Author.Tests.{leb-true, leb-false, lt-ltb, le-ltb}
use lib.Dec.{ltb}
use lib.IntN.{ℤ, pos, neg_ℤ, nat_abs, ◌+ℤ◌, ◌-ℤ◌, ◌*ℤ◌}
use lib.ListN.{length}
use Rattle.arith.specs.Move.{fraction, whole}
use Rattle.arith.proofs.Bridge.{bridge}
use Rattle.arith.proofs.Move.{move_only, multiple_whole}
use Rattle.arith.proofs.Round.{division_only}
use Rattle.arith.proofs.Within.{Within, widen}
use Rattle.arith.proofs.Laws.{pos-≤ℤ}
use Rattle.lists.specs.Tab.{tab}
use Rattle.lists.specs.Line.{Line, wrap, line, rolled}
use Rattle.lists.proofs.Tab.{tab-length, tab_at}
use Rattle.lists.proofs.Part.{part_before, part_in, part_after}
use Rattle.refusals.proofs.Tests.{beyond_good, good_beyond}
use Rattle.settings.specs.declared.Border.{Border}
use Rattle.settings.specs.declared.Border.TheVariants.{Wrapped, Background}
use Rattle.kernels.specs.declared.Kernel.{Kernel}
use Rattle.kernels.specs.declared.Kernel.TheVariants.{Linear, Keys, Spline}
use Rattle.moves.specs.declared.Part.{Part}
use Rattle.moves.specs.Move.{first, moved, move}
use Rattle.moves.specs.Border.{framed, far, bordered, move_in, gone, fraction_in, grey, bad_background}
use Rattle.moves.specs.InPlace.{prepared, weighed, turn, turned_by}
use Rattle.moves.specs.Row.{places, margin, set_in, start_at, held, Alike, Framed}
use Rattle.moves.proofs.Rules.{moved_local, place_is}
use Rattle.moves.proofs.Reach.{reach, moved_reach}
use Rattle.moves.proofs.Whole.{moved-whole}
use Rattle.moves.proofs.InPlace.{prepared-length, weighed-length, moved_in_place}

-- ---- document 02's sentences
-- a line of N samples moved by N samples or more either way becomes all background and is not counted as interpolated
pub far_filled : (b : ℤ) (κ : Kernel) (N : ℕ) (d : ℤ) (x : Line) (k : ℕ) → far N d ≡ true → bordered (Background b) κ N d x k ≡ b
unfolding bordered
far_filled b κ N d x k e = rw e refl

pub far_uncounted : (b : ℤ) (N : ℕ) (d : ℤ) → far N d ≡ true → fraction_in (Background b) N d ≡ 0
unfolding fraction_in gone
far_uncounted b N d e = rw e refl

-- one moved by less is set between N background samples on each side, that line of 3N is moved with wrapping, and the middle N are kept
pub near_middle : (b : ℤ) (κ : Kernel) (N : ℕ) (d : ℤ) (x : Line) (k : ℕ) → far N d ≡ false
    → bordered (Background b) κ N d x k ≡ moved κ (3 * N) d (framed N b x) (N + k)
unfolding bordered
near_middle b κ N d x k e = rw e refl

pub near_counted : (b : ℤ) (N : ℕ) (d : ℤ) → far N d ≡ false → fraction_in (Background b) N d ≡ fraction d
unfolding fraction_in gone
near_counted b N d e = rw e refl

-- wrapped, a line moves and counts as it did without a border
pub wrapped-moved : (κ : Kernel) (N : ℕ) (d : ℤ) (x : Line) (k : ℕ) → bordered Wrapped κ N d x k ≡ moved κ N d x k
unfolding bordered
wrapped-moved κ N d x k = refl

pub wrapped_counted : (N : ℕ) (d : ℤ) → fraction_in Wrapped N d ≡ fraction d
unfolding fraction_in gone
wrapped_counted N d = refl

-- ---- a line between background samples
-- the middle, and the places before and after it
pub framed_middle : (N : ℕ) (b : ℤ) (x : Line) (k : ℕ) → k < N → framed N b x (N + k) ≡ x k
unfolding framed
framed_middle N b x k h = rw (le-ltb (N + k) N (omega arith), lt-ltb (N + k) (2 * N) (omega arith)) (ap x (omega arith))

pub framed_before : (N : ℕ) (b : ℤ) (x : Line) (k : ℕ) → k < N → framed N b x k ≡ b
unfolding framed
framed_before N b x k h = rw (lt-ltb k N h) refl

pub framed_after : (N : ℕ) (b : ℤ) (x : Line) (k : ℕ) → 2 * N ≤ k → framed N b x k ≡ b
unfolding framed
framed_after N b x k h = rw (le-ltb k N (omega arith), le-ltb k (2 * N) h) refl

-- what holds of the background values and of the samples of two lines holds at every place
pub framed_both : (R : ℤ → ℤ → Type 0) {N : ℕ} {b b' : ℤ} {x y : Line} → R b b' → ((k : ℕ) → k < N → R (x k) (y k))
    → (k : ℕ) → R (framed N b x k) (framed N b' y k)
unfolding framed
framed_both R {N} {b} {b'} {x} {y} outer inner k = by (ltb k N) (ltb k (2 * N)) refl refl
  where
    by : (p q : Bool) → ltb k N ≡ p → ltb k (2 * N) ≡ q → R (cond p b (cond q (x (k - N)) b)) (cond p b' (cond q (y (k - N)) b'))
    by true q e f = outer
    by false true e f = inner (k - N) (omega (arith, leb-false (suc k) N e, leb-true (suc k) (2 * N) f))
    by false false e f = outer

pub framed_every : (P : ℤ → Type 0) {N : ℕ} {b : ℤ} {x : Line} → P b → ((k : ℕ) → k < N → P (x k)) → (k : ℕ) → P (framed N b x k)
framed_every P {N} {b} {x} outer inner = framed_both (λ v w. P v) {N = N} {b = b} {b' = b} {x = x} {y = x} outer inner

-- the place p counted from a place a before it
on : (a p : ℕ) → a ≤ p → a + (p - a) ≡ p
on a p h = omega arith

-- background put into a row of 3N places, before its middle N and after it
pub framed_by : (N : ℕ) (b : ℤ) (part : Part) (row first second : List ℤ) → length row ≡ 3 * N → part.lo ≤ N → 2 * N ≤ part.hi → part.hi ≤ 3 * N
    → length first ≡ N - part.lo → ((j : ℕ) → j < N - part.lo → line first j ≡ b)
    → length second ≡ part.hi - 2 * N → ((j : ℕ) → j < part.hi - 2 * N → line second j ≡ b)
    → Framed N b part (put_mid (2 * N) (part.hi - 2 * N) (put_mid part.lo (N - part.lo) row first) second)
framed_by N b part row first second long low high end l₁ f₁ l₂ f₂ =
    record {
      before = λ p from below.
          part_before (2 * N) (part.hi - 2 * N) once second (pos 0) (omega (arith, once_length)) l₂ p (omega arith)
          ∙ ap (line once) (sym (on part.lo p from))
          ∙ part_in part.lo (N - part.lo) row first (pos 0) (omega arith) l₁ (p - part.lo) (omega arith)
          ∙ f₁ (p - part.lo) (omega arith);
      after = λ p from below.
          ap (line (put_mid (2 * N) (part.hi - 2 * N) once second)) (sym (on (2 * N) p from))
          ∙ part_in (2 * N) (part.hi - 2 * N) once second (pos 0) (omega (arith, once_length)) l₂ (p - 2 * N) (omega arith)
          ∙ f₂ (p - 2 * N) (omega arith);
    }
  where
    once : List ℤ
    once = put_mid part.lo (N - part.lo) row first

    once_length : length once ≡ length row
    once_length = same_len_mid part.lo (N - part.lo) row first (l₁ ∙ sym (mid_len part.lo N row (omega arith)))

-- and the line's own samples into the middle
set_own : (b : ℤ) (part : Part) (s row : List ℤ) → length row ≡ 3 * length s → part.hi ≤ 3 * length s → Framed (length s) b part row
    → Alike part (put_mid (length s) (2 * length s - length s) row s) (set_in (Background b) s)
unfolding set_in
set_own b part s row long end f p from below =
    by (dec_le N p) (dec_le (2 * N) p) ∙ sym (tab_at (framed N b (line s)) (3 * N) p (pos 0) (omega arith))
  where
    N : ℕ
    N = length s

    twice : (N : ℕ) → N ≡ 2 * N - N
    twice N = omega arith

    by : Dec (N ≤ p) → Dec (2 * N ≤ p) → line (put_mid N (2 * N - N) row s) p ≡ framed N b (line s) p
    by (no low) q =
        part_before N (2 * N - N) row s (pos 0) (omega arith) (twice N) p (omega arith)
        ∙ f.before p from (omega arith)
        ∙ sym (framed_before N b (line s) p (omega arith))
    by (yes low) (yes high) =
        ap (line (put_mid N (2 * N - N) row s)) (sym (past N p high))
        ∙ part_after N (2 * N - N) row s (pos 0) (omega arith) (twice N) (p - 2 * N)
        ∙ ap (line row) (past N p high)
        ∙ f.after p high below
        ∙ sym (framed_after N b (line s) p high)
      where
        past : (N p : ℕ) → 2 * N ≤ p → N + (2 * N - N) + (p - 2 * N) ≡ p
        past N p h = omega arith
    by (yes low) (no high) =
        ap (line (put_mid N (2 * N - N) row s)) (sym (on N p low))
        ∙ part_in N (2 * N - N) row s (pos 0) (omega arith) (twice N) (p - N) (omega arith)
        ∙ sym (framed_middle N b (line s) (p - N) (omega arith))
        ∙ ap (framed N b (line s)) (on N p low)

pub set-framed : (b : ℤ) (part : Part) (N : ℕ) (s row : List ℤ) → length s ≡ N → length row ≡ 3 * N → part.hi ≤ 3 * N → Framed N b part row
    → Alike part (put_mid N (2 * N - N) row s) (set_in (Background b) s)
set-framed b part N s row e =
    subst (λ (m : ℕ). length row ≡ 3 * m → part.hi ≤ 3 * m → Framed m b part row → Alike part (put_mid m (2 * m - m) row s) (set_in (Background b) s)) e
    (set_own b part s row)

-- ---- a line's own places alone decide it
pub bordered_local : (β : Border) {N : ℕ} {x y : Line} → 0 < N → ((k : ℕ) → k < N → x k ≡ y k) → (κ : Kernel) (d : ℤ)
    → bordered β κ N d x ≡ bordered β κ N d y
unfolding bordered
bordered_local Wrapped h same κ d = moved_local h same κ d
bordered_local (Background b) {N} {x} {y} h same κ d =
    ap {B = Line} (λ (r : Line) (k : ℕ). cond (far N d) b (r (N + k)))
    (moved_local {x = framed N b x} {y = framed N b y} (omega arith) (λ k l. framed_both (λ v w. v ≡ w) refl same k) κ d)

-- ---- how far the samples reach
pub reach_more : (κ : Kernel) (M : ℕ) → M ≤ reach κ M
reach_more Linear M = omega arith
reach_more Keys M = omega arith
reach_more Spline M = omega arith

pub bordered_reach : (β : Border) {N : ℕ} {x : Line} (M : ℕ) → 0 < N → M ≤ 294912 → Within (pos M) (grey β) → ((k : ℕ) → k < N → Within (pos M) (x k))
    → (κ : Kernel) (d : ℤ) (k : ℕ) → Within (pos (reach κ M)) (bordered β κ N d x k)
unfolding bordered
bordered_reach Wrapped M h small outer each κ d k = moved_reach M h small each κ d k
bordered_reach (Background b) {N} {x} M h small outer each κ d k = by (far N d)
  where
    by : (p : Bool) → Within (pos (reach κ M)) (cond p b (moved κ (3 * N) d (framed N b x) (N + k)))
    by true = widen (pos M) (pos (reach κ M)) b outer (pos-≤ℤ (reach_more κ M))
    by false = moved_reach {x = framed N b x} M (omega arith) small (λ i l. framed_every (Within (pos M)) outer each i) κ d (N + k)

-- ---- the steps that the code takes
pub move_in-length : (β : Border) (κ : Kernel) (d : ℤ) (s : List ℤ) → length (move_in β κ d s) ≡ length s
unfolding move_in
move_in-length β κ d s = tab-length (bordered β κ (length s) d (line s)) (length s)

pub move_in_at : (β : Border) (κ : Kernel) (d : ℤ) (s : List ℤ) (k : ℕ) → k < length s → line (move_in β κ d s) k ≡ bordered β κ (length s) d (line s) k
unfolding move_in
move_in_at β κ d s k h = tab_at (bordered β κ (length s) d (line s)) (length s) k (pos 0) h

pub set_in-length : (β : Border) (s : List ℤ) → length (set_in β s) ≡ places β (length s)
unfolding set_in
set_in-length Wrapped s = refl
set_in-length (Background b) s = tab-length (framed (length s) b (line s)) (3 * length s)

-- what holds of the background and of the samples holds of all places
pub set_in_every : (P : ℤ → Type 0) (β : Border) (s : List ℤ) → P (grey β) → ((k : ℕ) → k < length s → P (line s k))
    → (k : ℕ) → k < length (set_in β s) → P (line (set_in β s) k)
unfolding set_in
set_in_every P Wrapped s outer inner k h = inner k h
set_in_every P (Background b) s outer inner k h =
    subst P (sym (tab_at (framed (length s) b (line s)) (3 * length s) k (pos 0) (omega (arith, tab-length (framed (length s) b (line s)) (3 * length s)))))
    (framed_every P outer inner k)

-- the work has room for a line under either border
pub places_few : (β : Border) (n : ℕ) → places β n ≤ 3 * n
places_few Wrapped n = omega arith
places_few (Background b) n = omega arith

pub places_some : (β : Border) (n : ℕ) → n ≤ places β n
places_some Wrapped n = omega arith
places_some (Background b) n = omega arith

pub margin_in : (β : Border) (N k : ℕ) → k < N → margin β N + k < places β N
margin_in Wrapped N k h = omega arith
margin_in (Background b) N k h = omega arith

-- place m + k of a moved line is read from k places on from where its place m is read
module _ (κ : Kernel) (d : ℤ) (t : List ℤ) (m k : ℕ) (h : m + k < length t) where
  abbrev n : ℕ
  n = length t

  abbrev w : List ℤ
  w = weighed κ (pos (fraction d)) (prepared κ t)

  long : length w ≡ n
  long = weighed-length κ (pos (fraction d)) (prepared κ t) ∙ prepared-length κ t

  as_list : line (move κ d t) (m + k) ≡ moved κ n d (line t) (m + k)
  unfolding move
  as_list = tab_at (moved κ n d (line t)) n (m + k) (pos 0) h

  turned_list : line (turned_by (turn n d) w) (m + k) ≡ rolled (turn n d) w (m + k)
  unfolding turned_by
  turned_list = tab_at (rolled (turn n d) w) (length w) (m + k) (pos 0) (omega (arith, long))

  further : rolled (turn n d) w (m + k) ≡ rolled ((turn n d + m) % n) w k
  unfolding wrap
  further = rw long (ap (line w) (ap (λ (j : ℕ). j % n) (swap (turn n d)) ∙ sym (add-mod-mod k (turn n d + m) n)))
    where
      swap : (r : ℕ) → m + k + r ≡ k + (r + m)
      swap r = omega arith

  pub moved_from : moved κ n d (line t) (m + k) ≡ rolled ((turn n d + m) % n) w k
  moved_from = sym as_list ∙ ap (λ (s : List ℤ). line s (m + k)) (moved_in_place κ d t (omega arith)) ∙ turned_list ∙ further

-- the line as it is set in, moved by d and read from its start on
pub set_in_place : (β : Border) (κ : Kernel) (d : ℤ) (s : List ℤ) (k : ℕ) → k < length s
    → moved κ (places β (length s)) d (line (set_in β s)) (margin β (length s) + k)
    ≡ rolled (start_at β (length s) d) (weighed κ (pos (fraction d)) (prepared κ (set_in β s))) k
unfolding start_at
set_in_place β κ d s k h =
    subst (λ (n : ℕ). moved κ n d (line t) (m + k) ≡ rolled ((turn n d + m) % n) (weighed κ (pos (fraction d)) (prepared κ t)) k) (set_in-length β s)
    (moved_from κ d t m k (omega (arith, set_in-length β s, margin_in β (length s) k h)))
  where
    t : List ℤ
    t = set_in β s

    m : ℕ
    m = margin β (length s)

-- the places of a line that is set in between background samples are those of `framed`
pub set-framed-moved : (b : ℤ) (κ : Kernel) (d : ℤ) (s : List ℤ) → 0 < length s
    → moved κ (3 * length s) d (line (set_in (Background b) s)) ≡ moved κ (3 * length s) d (framed (length s) b (line s))
unfolding set_in
set-framed-moved b κ d s h =
    moved_local {x = line (tab (framed (length s) b (line s)) (3 * length s))} {y = framed (length s) b (line s)} (omega arith)
    (λ i l. tab_at (framed (length s) b (line s)) (3 * length s) i (pos 0) l) κ d

-- a line that is not gone
pub bordered_in_place : (β : Border) (κ : Kernel) (d : ℤ) (s : List ℤ) (k : ℕ) → k < length s → gone β (length s) d ≡ false
    → bordered β κ (length s) d (line s) k ≡ rolled (start_at β (length s) d) (weighed κ (pos (fraction d)) (prepared κ (set_in β s))) k
unfolding bordered gone
bordered_in_place Wrapped κ d s k h near = ap (moved κ (length s) d (line s)) (zero k) ∙ ap (λ t. moved κ (length s) d (line t) (0 + k)) (sym set-wrapped) ∙ set_in_place Wrapped κ d s k h
  where
    zero : (k : ℕ) → k ≡ 0 + k
    zero k = omega arith

    set-wrapped : set_in Wrapped s ≡ s
    set-wrapped = unfold set_in in refl
bordered_in_place (Background b) κ d s k h near =
    rw near (ap (λ (r : Line). r (length s + k)) (sym (set-framed-moved b κ d s (omega arith))) ∙ set_in_place (Background b) κ d s k h)

-- ---- a line between background samples that moves by N samples: all background, as one that moves farther
module _ {N : ℕ} {x : Line} {b : ℤ} (h : 0 < N) (hb : Within (pos 294912) b) (small : (k : ℕ) → k < N → Within (pos 294912) (x k)) where
  abbrev d : ℤ
  d = pos (4096 * N)

  parts : (whole d ≡ neg_ℤ (pos N)) × (fraction d ≡ 0)
  parts = move_only d (neg_ℤ (pos N)) 0 (omega arith) (product N)
    where
      product : (N : ℕ) → neg_ℤ (pos (4096 * N)) ≡ pos 4096 *ℤ neg_ℤ (pos N) +ℤ pos 0
      product = simp bridge (omega arith)

  -- output N + k takes place k
  source-place : (k : ℕ) → k < N → (first (3 * N) d + (N + k) + 1) % (3 * N) ≡ k
  source-place k l =
      sym (place_is (3 * N) d (N + k) 1 (omega arith))
      ∙ (division_only (pos (N + k) +ℤ whole d -ℤ pos 1 +ℤ pos 1) (pos 0) (3 * N) k (omega arith)
      (ap (λ w. pos (N + k) +ℤ w -ℤ pos 1 +ℤ pos 1) parts.0 ∙ back N k)).1
    where
      back : (N k : ℕ) → pos (N + k) +ℤ neg_ℤ (pos N) -ℤ pos 1 +ℤ pos 1 ≡ pos (3 * N) *ℤ pos 0 +ℤ pos k
      back = simp bridge (omega arith)

  pub all_background : (κ : Kernel) (k : ℕ) → k < N → moved κ (3 * N) d (framed N b x) (N + k) ≡ b
  unfolding wrap
  all_background κ k l =
      moved-whole {x = framed N b x} (omega arith) (λ i j. framed_every (Within (pos 294912)) {x = x} hb small i) κ d parts.1 (N + k)
      ∙ ap (framed N b x) (source-place k l)
      ∙ framed_before N b x k l

-- so under every border the code may hold a move to N samples
pub held-fraction : (β : Border) (N : ℕ) (d : ℤ) → fraction_in β N d ≡ fraction (held β N d)
unfolding fraction_in gone held
held-fraction Wrapped N d = refl
held-fraction (Background b) N d = by (far N d)
  where
    by : (p : Bool) → cond p 0 (fraction d) ≡ fraction (cond p (pos (4096 * N)) d)
    by true = sym (multiple_whole (pos (4096 * N)) (pos N) (product N))
      where
        product : (N : ℕ) → pos (4096 * N) ≡ pos 4096 *ℤ pos N
        product = simp bridge (omega arith)
    by false = refl

pub held_in_place : (β : Border) (κ : Kernel) (d : ℤ) (s : List ℤ) → Within (pos 294912) (grey β) → ((k : ℕ) → k < length s → Within (pos 294912) (line s k))
    → (k : ℕ) → k < length s
    → bordered β κ (length s) d (line s) k
    ≡ rolled (start_at β (length s) (held β (length s) d)) (weighed κ (pos (fraction (held β (length s) d))) (prepared κ (set_in β s))) k
unfolding held
held_in_place Wrapped κ d s hb small k l = bordered_in_place Wrapped κ d s k l (unfold gone in refl)
held_in_place (Background b) κ d s hb small k l = by (far (length s) d) refl
  where
    N : ℕ
    N = length s

    to : ℤ → ℤ
    to d = rolled (start_at (Background b) N d) (weighed κ (pos (fraction d)) (prepared κ (set_in (Background b) s))) k

    by : (p : Bool) → far N d ≡ p → bordered (Background b) κ N d (line s) k ≡ to (cond p (pos (4096 * N)) d)
    by true e =
        far_filled b κ N d (line s) k e
        ∙ sym (all_background {x = line s} (omega arith) hb small κ k l)
        ∙ ap (λ (r : Line). r (N + k)) (sym (set-framed-moved b κ (pos (4096 * N)) s (omega arith)))
        ∙ set_in_place (Background b) κ (pos (4096 * N)) s k l
    by false e = bordered_in_place (Background b) κ d s k l (unfold gone in e)

-- ---- a background that passed its test
pub background_good : (β : Border) → bad_background β ≡ false → nat_abs (grey β) ≤ 32767
unfolding bad_background
background_good Wrapped e = omega arith
background_good (Background b) e = beyond_good b e

pub good_background : (β : Border) → nat_abs (grey β) ≤ 32767 → bad_background β ≡ false
unfolding bad_background
good_background Wrapped h = refl
good_background (Background b) h = good_beyond b h
