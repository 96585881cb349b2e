-- A part of a row weighed as a line of its own: at each place whose neighbours lie in the part it is the row weighed (`part_weighed`), rows that
-- are alike in the part weigh alike there (`alike_weighed`), and so the outputs of a row of which only that part was set in and weighed are the
-- line moved (`kept_in_place`). Assumes nothing.
use mathlib.Core.Path.{◌≡◌, refl, sym, ap, ◌∙◌, subst}
use mathlib.Core.List.{List}
use mathlib.Core.Logic.{inl, inr}
use Prim.Native.Nat.{ℕ, ◌+◌, ◌*◌, ◌-◌, ◌%◌, ◌≤◌, ◌<◌, min, max}
use native.Mathlib.Nat.{mod-lt, mod-eq_of_lt}
use native.Mathlib.Omega.{arith}
use lib.IntN.{ℤ, pos, nat_abs}
use borrow.Rule.Slice.PartMut.{mid_len, same_len_mid}
use lib.ListN.{length, take, drop}
use lib.Seq.{ext_get_or}
use Rattle.arith.specs.Whole.{round}
use Rattle.arith.specs.Move.{fraction}
use Rattle.arith.proofs.Within.{Within}
use Rattle.lists.specs.Line.{wrap, line, rolled}
use Rattle.lists.proofs.Tab.{tab_at}
use Rattle.lists.proofs.Rows.{part_at}
use Rattle.lists.proofs.Part.{part_in}
use Rattle.settings.specs.declared.Border.{Border}
use Rattle.settings.specs.declared.Border.TheVariants.{Wrapped, Background}
use Rattle.kernels.specs.declared.Kernel.{Kernel}
use Rattle.kernels.specs.declared.Kernel.TheVariants.{Linear, Keys, Spline}
use Rattle.kernels.specs.Kernel.{kernel_of}
use Rattle.kernels.proofs.Four.{weigh_four}
use Rattle.moves.specs.declared.Part.{Part}
use Rattle.moves.specs.Move.{divisor}
use Rattle.moves.specs.Border.{bordered, grey}
use Rattle.moves.specs.InPlace.{weighed_size, prepared, near, weighed_at, weighed}
use Rattle.moves.specs.Row.{places, margin, set_in, start_at, held, weighed_part, Inner, Holds, Covers, joined_of, loaded_of, Alike, PartWithin}
use Rattle.moves.proofs.Window.{near_is}
use Rattle.moves.proofs.InPlace.{prepared-length, prepared_samples, prepared_size, weighed-length}
use Rattle.moves.proofs.Border.{places_some, set_in-length, set_in_every, held_in_place}

-- ---- places that are weighed from the same four
pub near-weighed : (κ : Kernel) (f : ℤ) (s t : List ℤ) (j k : ℕ) → ((i : ℕ) → i < 4 → near s j i ≡ near t k i) → weighed_at κ f s j ≡ weighed_at κ f t k
unfolding weighed_at
near-weighed κ f s t j k same =
    ap (λ p. round p (divisor κ))
    (weigh_four κ f (near s j)
    ∙ rw (same 0 (omega arith), same 1 (omega arith), same 2 (omega arith), same 3 (omega arith)) refl
    ∙ sym (weigh_four κ f (near t k)))

-- the four of an inner place are places of the row: p - 1 + i
inner_near : (s : List ℤ) (p i : ℕ) → 0 < p → p + 2 < length s → i < 4 → near s p i ≡ line s (p - 1 + i)
inner_near s p i some room l = near_is s p i (p - 1 + i) 1 (omega arith) (omega arith)

-- ---- the part weighed
module _ (κ : Kernel) (f : ℤ) (part : Part) (s : List ℤ) (some : part.lo < part.hi) (room : part.hi ≤ length s) where
  abbrev own : List ℤ
  own = take (part.hi - part.lo) (drop part.lo s)

  own_length : length own ≡ part.hi - part.lo
  own_length = mid_len part.lo part.hi s room

  own_at : (j : ℕ) → j < part.hi - part.lo → line own j ≡ line s (part.lo + j)
  own_at j h = part_at part.lo part.hi s j (pos 0) h

  pub part_length : length (weighed_part κ f part s) ≡ length s
  unfolding weighed_part
  part_length = same_len_mid part.lo (part.hi - part.lo) s (weighed κ f own) (weighed-length κ f own)

  -- place lo + j of the row
  placed : (j : ℕ) → j < part.hi - part.lo → line (weighed_part κ f part s) (part.lo + j) ≡ weighed_at κ f own j
  unfolding weighed_part weighed
  placed j h =
      part_in part.lo (part.hi - part.lo) s (weighed κ f own) (pos 0) (omega arith) (weighed-length κ f own ∙ own_length) j h
      ∙ tab_at (weighed_at κ f own) (length own) j (pos 0) (omega (arith, own_length))

  pub part_weighed : (p : ℕ) → p < length s → Inner part (length s) p → line (weighed_part κ f part s) p ≡ weighed_at κ f s p
  part_weighed p l (inl whole) =
      ap (line (weighed_part κ f part s)) (sym (start p whole.0))
      ∙ placed p (omega (arith, whole.0, whole.1))
      ∙ ap (λ (t : List ℤ). weighed_at κ f t p) same
    where
      start : (k : ℕ) → part.lo ≡ 0 → part.lo + k ≡ k
      start k e = omega arith

      same : own ≡ s
      same =
          ext_get_or (pos 0) own s (own_length ∙ size whole.0 whole.1)
          (λ k h. own_at k (omega (arith, own_length)) ∙ ap (line s) (start k whole.0))
        where
          size : part.lo ≡ 0 → part.hi ≡ length s → part.hi - part.lo ≡ length s
          size e g = omega arith
  part_weighed p l (inr inside) =
      ap (line (weighed_part κ f part s)) (sym (on inside.0))
      ∙ placed j (omega (arith, inside.0, inside.1))
      ∙ near-weighed κ f own s j p
      (λ i h.
      inner_near own j i (omega (arith, inside.0)) (omega (arith, own_length, inside.0, inside.1)) h
      ∙ own_at (j - 1 + i) (omega (arith, inside.0, inside.1))
      ∙ ap (line s) (shift inside.0 i)
      ∙ sym (inner_near s p i (omega (arith, inside.0)) (omega (arith, inside.1)) h))
    where
      j : ℕ
      j = p - part.lo

      on : part.lo < p → part.lo + (p - part.lo) ≡ p
      on h = omega arith

      shift : part.lo < p → (i : ℕ) → part.lo + (p - part.lo - 1 + i) ≡ p - 1 + i
      shift h i = omega arith

-- ---- rows that are alike in the part
pub alike_weighed : (κ : Kernel) (f : ℤ) (part : Part) (s t : List ℤ) (p : ℕ) → length s ≡ length t → part.hi ≤ length t → p < length t → Inner part (length t) p → Alike part s t
    → weighed_at κ f s p ≡ weighed_at κ f t p
alike_weighed κ f part s t p e room l (inl whole) alike =
    ap (λ (x : List ℤ). weighed_at κ f x p) (ext_get_or (pos 0) s t e (λ k h. alike k (omega (arith, whole.0)) (omega (arith, whole.1))))
alike_weighed κ f part s t p e room l (inr inside) alike =
    near-weighed κ f s t p p
    (λ i h.
    inner_near s p i (omega (arith, inside.0)) (omega (arith, inside.1)) h
    ∙ alike (p - 1 + i) (omega (arith, inside.0)) (omega (arith, inside.1))
    ∙ sym (inner_near t p i (omega (arith, inside.0)) (omega (arith, inside.1)) h))

-- ---- a row of which the part that is needed was set in
module _ (κ : Kernel) (f : ℤ) (part : Part) (s t : List ℤ) (p : ℕ) (e : length s ≡ length t) (room : part.hi ≤ length t) (l : p < length t) (inner : Inner part (length t) p) where
  pub set-weighed : Alike (loaded_of κ (length t) part) s t → weighed_at κ f (prepared κ s) p ≡ weighed_at κ f (prepared κ t) p
  set-weighed alike = by κ alike
    where
      plain : (kernel : ℕ) (κ : Kernel) → kernel < 2 → κ ≡ kernel_of kernel → Alike part s t → weighed_at κ f (prepared κ s) p ≡ weighed_at κ f (prepared κ t) p
      plain kernel κ h g alike =
          rw (g, ← prepared_samples kernel s h, ← prepared_samples kernel t h) (alike_weighed (kernel_of kernel) f part s t p e room l inner alike)

      by : (κ : Kernel) → Alike (loaded_of κ (length t) part) s t → weighed_at κ f (prepared κ s) p ≡ weighed_at κ f (prepared κ t) p
      by Linear alike = plain 0 Linear (omega arith) refl alike
      by Keys alike = plain 1 Keys (omega arith) refl alike
      by Spline alike = ap (λ (x : List ℤ). weighed_at Spline f (prepared Spline x) p) (ext_get_or (pos 0) s t e (λ k h. alike k (omega arith) (omega arith)))

-- ---- how large what is weighed comes, of a row that is within its range where it was set in
pub spline_within : (kernel : ℕ) (part : Part) (s : List ℤ) → PartWithin 294912 (loaded_of (kernel_of kernel) (length s) part) s → kernel ≡ 2
    → (k : ℕ) → k < length s → nat_abs (line s k) ≤ 294912
spline_within kernel part s within e k l = (rw e at within) k (omega arith) l

pub prepared_within : (κ : Kernel) (part : Part) (s : List ℤ) → part.lo < part.hi → part.hi ≤ length s → PartWithin 294912 (loaded_of κ (length s) part) s
    → PartWithin (weighed_size κ) part (prepared κ s)
prepared_within κ part s some room within = by κ within
  where
    by : (κ : Kernel) → PartWithin 294912 (loaded_of κ (length s) part) s → PartWithin (weighed_size κ) part (prepared κ s)
    by Linear within p low high = rw (← prepared_samples 0 s (omega arith)) (within p low high)
    by Keys within p low high = rw (← prepared_samples 1 s (omega arith)) (within p low high)
    by Spline within p low high = prepared_size s (omega arith) (λ k l. within k (omega arith) l) Spline p (omega (arith, prepared-length Spline s))

-- the outputs, from `start` on, of a row t that was set in and weighed in part: those of the whole row of the line s
pub kept_row : (β : Border) (κ : Kernel) (f : ℤ) (part : Part) (start : ℕ) (s t : List ℤ) → 0 < length s → length t ≡ places β (length s) → Covers β (length s) start part
    → Alike (loaded_of κ (places β (length s)) part) t (set_in β s) → (k : ℕ) → k < length s
    → rolled start (weighed_part κ f part (prepared κ t)) k ≡ rolled start (weighed κ f (prepared κ (set_in β s))) k
unfolding wrap weighed
kept_row β κ f part start s t some long covers alike k l =
    ap (λ (n : ℕ). line P ((k + start) % n)) P-length
    ∙ part_weighed κ f part (prepared κ t) proper (omega (arith, t-length, covers.end)) p (omega (arith, t-length, p_in))
    (subst (λ (n : ℕ). Inner part n p) (sym t-length) (covers.inner k l))
    ∙ set-weighed κ f part t (set_in β s) p (long ∙ sym set-length) (omega (arith, set-length, covers.end)) (omega (arith, set-length, p_in))
    (subst (λ (n : ℕ). Inner part n p) (sym set-length) (covers.inner k l)) (subst (λ (n : ℕ). Alike (loaded_of κ n part) t (set_in β s)) (sym set-length) alike)
    ∙ sym (tab_at (weighed_at κ f W) (length W) p (pos 0) (omega (arith, W-length, p_in)))
    ∙ ap (λ (n : ℕ). line (weighed κ f W) ((k + start) % n)) (sym (weighed-length κ f W ∙ W-length))
  where
    m : ℕ
    m = places β (length s)

    p : ℕ
    p = (k + start) % m

    P : List ℤ
    P = weighed_part κ f part (prepared κ t)

    W : List ℤ
    W = prepared κ (set_in β s)

    t-length : length (prepared κ t) ≡ m
    t-length = prepared-length κ t ∙ long

    set-length : length (set_in β s) ≡ m
    set-length = set_in-length β s

    W-length : length W ≡ m
    W-length = prepared-length κ (set_in β s) ∙ set-length

    proper : part.lo < part.hi
    proper = omega (arith, covers.low, covers.high)

    P-length : length P ≡ m
    P-length = part_length κ f part (prepared κ t) proper (omega (arith, t-length, covers.end)) ∙ t-length

    p_in : p < m
    p_in = mod-lt (k + start) (omega (arith, places_some β (length s)))

-- so they are the line moved
pub kept_in_place : (β : Border) (κ : Kernel) (d : ℤ) (part : Part) (s t : List ℤ) → 0 < length s → length t ≡ places β (length s)
    → Within (pos 294912) (grey β) → ((k : ℕ) → k < length s → Within (pos 294912) (line s k))
    → Covers β (length s) (start_at β (length s) (held β (length s) d)) part
    → Alike (loaded_of κ (places β (length s)) part) t (set_in β s) → (k : ℕ) → k < length s
    → bordered β κ (length s) d (line s) k
    ≡ rolled (start_at β (length s) (held β (length s) d)) (weighed_part κ (pos (fraction (held β (length s) d))) part (prepared κ t)) k
kept_in_place β κ d part s t some long plain small covers alike k l =
    held_in_place β κ d s plain small k l ∙ sym (kept_row β κ _ part _ s t some long covers alike k l)

-- ---- parts that cover the outputs: the whole row, a window of it, and what two parts cover
pub covers_whole : (β : Border) (N start : ℕ) → Covers β N start (record { lo = 0; hi = places β N })
covers_whole β N start = record { low = omega arith; high = own β; end = omega arith; inner = λ k l. inl (refl, refl) }
  where
    own : (β : Border) → margin β N + N ≤ places β N
    own Wrapped = omega arith
    own (Background b) = omega arith

pub covers_window : (β : Border) (N start : ℕ) → 0 < start → start + N + 2 ≤ places β N
    → Covers β N start (record { lo = min (start - 1) N; hi = max (start + N + 2) (2 * N) })
covers_window Wrapped N start some room = absurd (omega arith)
covers_window (Background b) N start some room =
    record {
      low = omega arith;
      high = omega arith;
      end = omega arith;
      inner = λ k l. rw (mod-eq_of_lt (inside k l)) (inr (omega arith, omega arith));
    }
  where
    inside : (k : ℕ) → k < N → k + start < 3 * N
    inside k l = omega arith

covers_more : {β : Border} {N start : ℕ} {part : Part} (more : Part) → more.lo ≤ part.lo → part.hi ≤ more.hi → more.hi ≤ places β N → Covers β N start part
    → Covers β N start more
covers_more {β} {N} {start} {part} more low high end c =
    record { low = omega (arith, c.low); high = omega (arith, c.high); end = end; inner = λ k l. wider (c.inner k l) }
  where
    wider : {p : ℕ} → Inner part (places β N) p → Inner more (places β N) p
    wider (inl whole) = inl (omega (arith, whole.0), omega (arith, whole.1))
    wider (inr inside) = inr (omega (arith, inside.0), omega (arith, inside.1))

module _ {β : Border} {N start start' : ℕ} {a b : Part} (first : Covers β N start a) (second : Covers β N start' b) where
  pub covers_first : Covers β N start (joined_of a b)
  covers_first = covers_more (joined_of a b) (omega arith) (omega arith) (omega (arith, first.end, second.end)) first

  pub covers_second : Covers β N start' (joined_of a b)
  covers_second = covers_more (joined_of a b) (omega arith) (omega arith) (omega (arith, first.end, second.end)) second

-- what has to be set in lies where a line may be set in
pub loaded_holds : {β : Border} {N start : ℕ} {part : Part} (κ : Kernel) → Covers β N start part → Holds β N (loaded_of κ (places β N) part)
loaded_holds Linear c = (c.low, c.high, c.end)
loaded_holds Keys c = (c.low, c.high, c.end)
loaded_holds Spline c = (omega arith, omega (arith, c.high, c.end), omega arith)

-- a row that is alike to a line set in is within the range of its samples and its background
pub alike_within : (M : ℕ) (β : Border) (part : Part) (s t : List ℤ) → part.hi ≤ places β (length s) → nat_abs (grey β) ≤ M
    → ((k : ℕ) → k < length s → nat_abs (line s k) ≤ M) → Alike part t (set_in β s) → PartWithin M part t
alike_within M β part s t end plain small alike p low high =
    rw (alike p low high) (set_in_every (λ z. nat_abs z ≤ M) β s plain small p (omega (arith, set_in-length β s)))
