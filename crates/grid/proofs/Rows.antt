-- The work buffer as rows: four lines of n places, one after the other. Assumes nothing.
use Prim.Native.Nat.{ℕ, zero, suc, ◌+◌, ◌*◌, ◌-◌, ◌%◌, ◌≤◌, ◌<◌}
use mathlib.Core.Path.{◌≡◌, refl, sym, ap, ◌∙◌, subst}
use mathlib.Core.List.{List, ◌++◌}
use mathlib.Core.Logic.{⊎_elim}
use native.Mathlib.Nat.{mod-lt, mod-add-mod, zero-mul, add-sub_cancel_left, eq-or-lt_of_le}
use native.Mathlib.Decide.{dec_le}
use native.Mathlib.Omega.{arith}
use borrow.Rule.Slice.PartMut.{put_mid, same_len_mid}
use lib.ListN.{length, get_or, take, drop, length-append, get_or-append}
use lib.Seq.{drop_at, ext_get_or}
use lib.IntN.{ℤ, pos}
use Rattle.lists.specs.Tab.{cat}
use Rattle.lists.specs.Line.{wrap, line, rolled}
use Rattle.lists.specs.Grid.{line_of, row_of}
use Rattle.lists.proofs.Rows.{row_in, row_length, row_part, row_at, cat-length, cat_more, cat_at}
use Rattle.lists.proofs.Tab.{tab_at}
use Rattle.lists.proofs.Part.{part_before, part_in}
use Rattle.lists.proofs.Grid.{line_of_at, line_of-length}
use Rattle.settings.specs.declared.Border.TheVariants.{Wrapped, Background}
use Rattle.moves.specs.Border.{framed}
use Rattle.moves.specs.declared.Part.{Part}
use Rattle.moves.specs.Row.{set_in, Alike, Framed}
use Rattle.moves.proofs.Border.{framed_middle, framed_before, framed_after}
use Rattle.grid.specs.Four.{laid}
use Rattle.grid.proofs.Laid.{laid-length, laid_in, laid_out}

-- what holds of each of four
pub each_four : (P : ℕ → Type 0) → P 0 → P 1 → P 2 → P 3 → (i : ℕ) → i < 4 → P i
each_four P a b c d zero h = a
each_four P a b c d (suc zero) h = b
each_four P a b c d (suc (suc zero)) h = c
each_four P a b c d (suc (suc (suc zero))) h = d
each_four P a b c d (suc (suc (suc (suc i)))) h = absurd (omega arith)

-- the place that comes next in a line that is turned
pub next_place : (k r n j : ℕ) → j ≡ (k + r) % n → (j + 1) % n ≡ (k + 1 + r) % n
next_place k r n j e = rw e (mod-add-mod (k + r) n 1 ∙ ap (λ (i : ℕ). i % n) (swap k r))
  where
    swap : (k r : ℕ) → k + r + 1 ≡ k + 1 + r
    swap k r = omega arith

module _ (n : ℕ) (work : List ℤ) (room : 4 * n ≤ length work) where
  -- place k of row i from place r on
  pub rolled_at : (i r k : ℕ) → i < 4 → k < n → get_or work (i * n + (k + r) % n) (pos 0) ≡ rolled r (row_of n work i) k
  unfolding wrap
  rolled_at i r k l h = rw (row_length n work i 4 l room) (row_at n work i ((k + r) % n) _ (mod-lt (k + r) (omega arith)) refl)

-- row i as the part that is lent has a row's places
pub part_long : (m : ℕ) (work : List ℤ) (i : ℕ) → i < 4 → 4 * m ≤ length work → length (take (i * m + m - i * m) (drop (i * m) work)) ≡ m
part_long m work i l room = ap length (row_part m work i) ∙ row_length m work i 4 l room

-- ---- four lines of a picture, laid into the rows
module _ (at along across n : ℕ) (pic : List ℤ) where
  -- place k of line i
  abbrev pub place : ℕ → ℕ → ℤ
  place i k = get_or pic (at + i * across + k * along) (pos 0)

  -- rows of n places are the lines
  pub gathered_row : (work : List ℤ) → 4 * n ≤ length work → (i : ℕ) → i < 4
      → row_of n (laid 0 1 n n place 4 work) i ≡ set_in Wrapped (line_of (at + i * across) along n pic)
  unfolding set_in
  gathered_row work room i l =
      ext_get_or (pos 0) (row_of n all i) (line_of (at + i * across) along n pic) (len ∙ sym (line_of-length (at + i * across) along n pic))
      (λ k h. same k (omega (arith, len)))
    where
      all : List ℤ
      all = laid 0 1 n n place 4 work

      len : length (row_of n all i) ≡ n
      len = row_length n all i 4 l (omega (arith, laid-length 0 1 n n place 4 work))

      same : (k : ℕ) → k < n → get_or (row_of n all i) k (pos 0) ≡ get_or (line_of (at + i * across) along n pic) k (pos 0)
      same k h =
          sym (row_at n all i k (i * n + (0 + k)) h (omega arith))
          ∙ laid_in 0 n n place work (omega arith) 4 i k l h room
          ∙ sym (line_of_at (at + i * across) along n pic k h)

  -- rows of 3n places that have b on both sides of their middle are, as far as that goes, the lines between n samples of b on each side
  pub gathered_between : (b : ℤ) (part : Part) (work : List ℤ) → 12 * n ≤ length work → part.hi ≤ 3 * n → (i : ℕ) → i < 4 → Framed n b part (row_of (3 * n) work i)
      → Alike part (row_of (3 * n) (laid n 1 (3 * n) n place 4 work) i) (set_in (Background b) (line_of (at + i * across) along n pic))
  unfolding set_in
  gathered_between b part work room end i l f p from below =
      rw (line_of-length (at + i * across) along n pic) (by (dec_le n p) (dec_le (2 * n) p) ∙ sym (tab_at (framed n b (line s)) (3 * n) p (pos 0) inside))
    where
      s : List ℤ
      s = line_of (at + i * across) along n pic

      all : List ℤ
      all = laid n 1 (3 * n) n place 4 work

      inside : p < 3 * n
      inside = omega arith

      outside : ((k : ℕ) → k < n → p ≡ n + k → ⊥) → line (row_of (3 * n) all i) p ≡ line (row_of (3 * n) work i) p
      outside out =
          sym (row_at (3 * n) all i p (i * (3 * n) + p) inside refl)
          ∙ laid_out n (3 * n) n place work (omega arith) 4 i p inside out
          ∙ row_at (3 * n) work i p (i * (3 * n) + p) inside refl

      middle : (k : ℕ) → k < n → line (row_of (3 * n) all i) (n + k) ≡ framed n b (line s) (n + k)
      middle k h =
          sym (row_at (3 * n) all i (n + k) (i * (3 * n) + (n + k)) (omega arith) refl)
          ∙ laid_in n (3 * n) n place work (omega arith) 4 i k l h (omega arith)
          ∙ sym (line_of_at (at + i * across) along n pic k h)
          ∙ sym (framed_middle n b (line s) k h)

      by : Dec (n ≤ p) → Dec (2 * n ≤ p) → line (row_of (3 * n) all i) p ≡ framed n b (line s) p
      by (no q) r = outside (λ k c e. omega arith) ∙ f.before p from (omega arith) ∙ sym (framed_before n b (line s) p (omega arith))
      by (yes q) (yes r) = outside (λ k c e. omega arith) ∙ f.after p r below ∙ sym (framed_after n b (line s) p r)
      by (yes q) (no r) = subst (λ (j : ℕ). line (row_of (3 * n) all i) j ≡ framed n b (line s) j) (back p q) (middle (p - n) (omega arith))
        where
          back : (j : ℕ) → n ≤ j → n + (j - n) ≡ j
          back j p = omega arith

-- ---- row i put back among four rows of m: it is what was put there, and the others are as they were
module _ (m : ℕ) (now row : List ℤ) (i : ℕ) (l : i < 4) (room : 4 * m ≤ length now) (long : length row ≡ m) where
  abbrev put_back : List ℤ
  put_back = put_mid (i * m) m now row

  abbrev end : ℕ
  end = i * m + m

  inside : end ≤ length now
  inside = omega (arith, row_in m 4 i l)

  put-length : length put_back ≡ length now
  put-length = same_len_mid (i * m) m now row (long ∙ sym (whole ∙ row_length m now i 4 l room))
    where
      whole : length (take m (drop (i * m) now)) ≡ length (row_of m now i)
      whole = unfold row_of in refl

  own : row_of m put_back i ≡ row
  own =
      ext_get_or (pos 0) (row_of m put_back i) row (len ∙ sym long)
      (λ k h. sym (row_at m put_back i k (i * m + k) (omega (arith, len)) refl) ∙ part_in (i * m) m now row (pos 0) inside long k (omega (arith, len)))
    where
      len : length (row_of m put_back i) ≡ m
      len = row_length m put_back i 4 l (omega (arith, put-length))

  other : (j : ℕ) → j < i → row_of m put_back j ≡ row_of m now j
  other j h =
      ext_get_or (pos 0) (row_of m put_back j) (row_of m now j) (len put_back (omega (arith, put-length)) ∙ sym (len now room))
      (λ k g.
      let n : k < m = omega (arith, len put_back (omega (arith, put-length))) in
      sym (row_at m put_back j k (j * m + k) n refl)
      ∙ part_before (i * m) m now row (pos 0) inside long (j * m + k) (omega (arith, row_in m i j h))
      ∙ row_at m now j k (j * m + k) n refl)
    where
      len : (t : List ℤ) → 4 * m ≤ length t → length (row_of m t j) ≡ m
      len t r = row_length m t j 4 (omega arith) r

  -- so what holds of the rows before it and of itself holds of one row more
  pub rows_more : (P : ℕ → List ℤ → Type 0) → ((j : ℕ) → j < i → P j (row_of m now j)) → P i row → (j : ℕ) → j < i + 1
      → P j (row_of m (put_mid (i * m) (i * m + m - i * m) now row) j)
  rows_more P before here j h =
      rw (add-sub_cancel_left (i * m) m)
      (⊎_elim (λ (e : j ≡ i). rw e (subst (P i) (sym own) here)) (λ (b : j < i). subst (P j) (sym (other j b)) (before j b)) (eq-or-lt_of_le (ahead h)))
    where
      ahead : {j : ℕ} → j < i + 1 → j ≤ i
      ahead h = omega arith

-- ---- the rows replaced one after the other, row i by what f makes of it
module _ (n : ℕ) (f : ℕ → List ℤ → List ℤ) (work : List ℤ) where
  abbrev new : ℕ → List ℤ
  new i = f i (row_of n work i)

  unfoldable pub treated : ℕ → List ℤ
  treated m = cat new m ++ drop (m * n) work

  pub treated_none : work ≡ treated 0
  unfolding treated cat
  treated_none = rw zero-mul refl

  module _ (room : 4 * n ≤ length work) (each-length : (i : ℕ) → i < 4 → length (new i) ≡ n) where
    -- row i, while those before it are replaced, as the part that is lent
    pub treated_next : (i : ℕ) (now : List ℤ) → i < 4 → now ≡ treated i → take (i * n + n - i * n) (drop (i * n) now) ≡ row_of n work i
    unfolding treated row_of
    treated_next i now l e =
        rw (
          add-sub_cancel_left (i * n) n,
          e,
          drop_at (cat new i) (drop (i * n) work) (i * n) (cat-length new n 4 each-length i (omega arith)),
        )
        refl

    pub treated_more : (i : ℕ) (now row : List ℤ) → i < 4 → now ≡ treated i → row ≡ f i (take (i * n + n - i * n) (drop (i * n) now))
        → put_mid (i * n) (i * n + n - i * n) now row ≡ treated (i + 1)
    treated_more i now row l e h = step (h ∙ ap (f i) (treated_next i now l e))
      where
        step : row ≡ new i → put_mid (i * n) (i * n + n - i * n) now row ≡ treated (i + 1)
        step g = unfold treated in rw (g, add-sub_cancel_left (i * n) n, e) (cat_more new n 4 each-length i (i * n) work (omega arith) refl)

    pub treated_row : (i : ℕ) → i < 4 → row_of n (treated 4) i ≡ new i
    unfolding treated
    treated_row i l = ext_get_or (pos 0) (row_of n all i) (new i) (len ∙ sym (each-length i l)) (λ k h. same k (omega (arith, len)))
      where
        all : List ℤ
        all = cat new 4 ++ drop (4 * n) work

        four : length (cat new 4) ≡ 4 * n
        four = cat-length new n 4 each-length 4 (omega arith)

        len : length (row_of n all i) ≡ n
        len = row_length n all i 4 l (simp length-append (omega (arith, four)))

        same : (k : ℕ) → k < n → get_or (row_of n all i) k (pos 0) ≡ get_or (new i) k (pos 0)
        same k h =
            sym (row_at n all i k _ h refl)
            ∙ get_or-append (cat new 4) (drop (4 * n) work) (pos 0) (i * n + k) (omega (arith, four, row_in n 4 i l))
            ∙ cat_at new n 4 each-length 4 i k (pos 0) (omega arith) l h
