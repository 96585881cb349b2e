-- The first place at which a test holds, and by it the first sample beyond its range. None is found just where every sample of the picture is within
-- the limit; a row and a column are found just where that sample is beyond it and every earlier one in row order is within. Assumes nothing.
use Prim.Native.Nat.{ℕ, zero, suc, ◌+◌, ◌*◌, ◌-◌, ◌/◌, ◌%◌, ◌≤◌, ◌<◌}
use mathlib.Core.Path.{◌≡◌, refl, sym, ap, ap₂, ◌∙◌, subst}
use mathlib.Core.Bool.{Bool, true, false, cond}
use mathlib.Core.List.{List}
use mathlib.Core.Logic.{◌↔◌}
use native.Mathlib.Nat.{not-suc-le-zero, div-add-mod', mod-lt, div-lt_iff_lt-mul, mul-zero}
use native.Mathlib.Omega.{arith}
use borrow.Author.Tests.{ltb-true, ltb-false}
use lib.Arith.{digits_div, digits_mod}
use lib.Dec.{ltb}
use lib.ListN.{get_or, take, drop, replicate, get_or-replicate}
use lib.Seq.{get_or-take, get_or-drop}
use lib.IntN.{ℤ, pos, nat_abs}
use Rattle.lists.specs.Line.{line}
use Rattle.std.specs.Prelude.{Option, Some, None}
use Rattle.refusals.specs.declared.Place.{Place}
use Rattle.refusals.specs.Judging.{found_place}
use Rattle.refusals.specs.Tests.{beyond_of, first_from, first_bad, AllWithin}
use Rattle.refusals.proofs.Tests.{beyond_good, beyond_bad, good_beyond, bad_beyond}

-- ---- the first of n places from k on at which a test holds
pub record FirstAt (test : ℕ → Bool) (k n m : ℕ) : Type 0 where
  pub from : k ≤ m
  pub inside : m < k + n
  pub earlier : (j : ℕ) → k ≤ j → j < m → test j ≡ false
  pub here : test m ≡ true

-- a place from k on is k itself or comes later
at_or_later : {A : Type 0} (k m : ℕ) → k ≤ m → (k ≡ m → A) → (suc k ≤ m → A) → A
at_or_later {A} k m from same later = by (ltb k m) refl
  where
    by : (t : Bool) → ltb k m ≡ t → A
    by true e = later (ltb-true k m e)
    by false e = same (omega (arith, ltb-false k m e))

module _ (test : ℕ → Bool) (row column : ℕ → ℕ) where
  none_from : (k n : ℕ) → ((j : ℕ) → k ≤ j → j < k + n → test j ≡ false) → first_from test row column k n ≡ None
  unfolding first_from
  none_from k zero h = refl
  none_from k (suc n) h = rw (h k (omega arith) (omega arith)) (none_from (suc k) n (λ j a b. h j (omega arith) (omega arith)))

  at_from : (k n m : ℕ) → FirstAt test k n m → first_from test row column k n ≡ Some (record { row = row m; column = column m })
  unfolding first_from
  at_from k zero m f = absurd (omega (arith, f.from, f.inside))
  at_from k (suc n) m f =
      at_or_later k m f.from
      (λ e. rw (ap test e ∙ f.here, e) refl)
      (λ l. rw (f.earlier k (omega arith) l)
      (at_from (suc k) n m (record { from = l; inside = omega (arith, f.inside); earlier = λ j a b. f.earlier j (omega arith) b; here = f.here })))

  -- ---- and back
  -- what the first place says, by its test
  none_split : (k n : ℕ) (t : Bool) → cond t (Some (record { row = row k; column = column k })) (first_from test row column (suc k) n) ≡ None
      → (t ≡ false) × (first_from test row column (suc k) n ≡ None)
  none_split k n true e = let z : ◌≡◌ {A = ℕ} 0 1 = cc in absurd (omega arith)
  none_split k n false e = (refl, e)

  from_none : (k n : ℕ) → first_from test row column k n ≡ None → (j : ℕ) → k ≤ j → j < k + n → test j ≡ false
  unfolding first_from
  from_none k zero e j a b = absurd (omega arith)
  from_none k (suc n) e j a b =
      let p = none_split k n (test k) e in
      at_or_later k j a (λ q. ap test (sym q) ∙ p.0) (λ l. from_none (suc k) n p.1 j l (omega arith))

  -- the first place, and that its row and column are y and x
  pub record Spot (k n y x : ℕ) : Type 0 where
    pub place : ℕ
    pub first : FirstAt test k n place
    pub row_is : y ≡ row place
    pub column_is : x ≡ column place

  here_or_later : (k n y x : ℕ) (t : Bool) → test k ≡ t → cond t (Some (record { row = row k; column = column k })) (first_from test row column (suc k) n) ≡ Some (record { row = y; column = x })
      → (first_from test row column (suc k) n ≡ Some (record { row = y; column = x }) → Spot (suc k) n y x)
      → Spot k (suc n) y x
  here_or_later k n y x true q e later = record {
    place = k;
    first = record { from = omega arith; inside = omega arith; earlier = λ j a b. absurd (omega arith); here = q };
    row_is = sym (ap (λ (o : Option Place). (found_place o).row) e);
    column_is = sym (ap (λ (o : Option Place). (found_place o).column) e);
  }
  here_or_later k n y x false q e later =
      let p = later e in
      let f = p.first in
      record {
        place = p.place;
        first = record {
          from = omega (arith, f.from);
          inside = omega (arith, f.inside);
          earlier = λ j a b. at_or_later k j a (λ s. ap test (sym s) ∙ q) (λ l. f.earlier j l b);
          here = f.here;
        };
        row_is = p.row_is;
        column_is = p.column_is;
      }

  from_at : (k n y x : ℕ) → first_from test row column k n ≡ Some (record { row = y; column = x }) → Spot k n y x
  unfolding first_from
  from_at k zero y x e = let z : ◌≡◌ {A = ℕ} 0 1 = cc in absurd (omega arith)
  from_at k (suc n) y x e = here_or_later k n y x (test k) refl e (from_at (suc k) n y x)

  -- nothing is found just where the test holds nowhere
  pub nothing-first : (k n : ℕ) → first_from test row column k n ≡ None ↔ ((j : ℕ) → k ≤ j → j < k + n → test j ≡ false)
  nothing-first k n = (from_none k n, none_from k n)

  -- a row and a column are found just where they are those of the first place
  pub first_is : (k n y x : ℕ) → first_from test row column k n ≡ Some (record { row = y; column = x }) ↔ Spot k n y x
  first_is k n y x = (from_at k n y x, λ p. at_from k n p.place p.first ∙ rw (p.row_is, p.column_is) refl)

-- ---- the first a samples are within the limit, and so are the first n of the m that follow them
pub within_then : (limit a n m : ℕ) (s : List ℤ) → n ≤ m → AllWithin limit a s → AllWithin limit n (take m (drop a s)) → AllWithin limit (a + n) s
within_then limit a n m s few before after i l = by (ltb i a) refl
  where
    by : (b : Bool) → ltb i a ≡ b → nat_abs (get_or s i (pos 0)) ≤ limit
    by true e = before i (ltb-true i a e)
    by false e =
        let h = ltb-false i a e in
        let back : a + (i - a) ≡ i = omega arith in
        rw (get_or-take m (drop a s) (i - a) (pos 0) (omega arith), get_or-drop a s (i - a) (pos 0), back) at (after (i - a) (omega arith))

-- ---- pictures
-- place m of the first n is the first beyond ±limit
pub record FirstBeyond (limit n m : ℕ) (s : List ℤ) : Type 0 where
  pub inside : m < n
  pub earlier : AllWithin limit m s
  pub here : limit < nat_abs (get_or s m (pos 0))

module _ (limit width height : ℕ) (s : List ℤ) where
  -- whether a sample is beyond the limit, and where it stands
  abbrev bad : ℕ → Bool
  bad k = beyond_of limit (line s k)

  abbrev row_of : ℕ → ℕ
  row_of k = k / width

  abbrev column_of_lem : ℕ → ℕ
  column_of_lem k = k % width

  pub nothing_bad : first_bad limit width height s ≡ None ↔ AllWithin limit (height * width) s
  unfolding first_bad
  nothing_bad =
      let n = height * width in (
        λ e i l. beyond_good (line s i) ((nothing-first bad row_of column_of_lem 0 n).0 e i (omega arith) (omega arith)),
        λ h. (nothing-first bad row_of column_of_lem 0 n).1 (λ j a b. good_beyond (line s j) (h j (omega arith))),
      )

  -- row y, column x holds the first sample beyond the limit
  pub record BadAt (y x : ℕ) : Type 0 where
    pub row_inside : y < height
    pub column_inside : x < width
    pub first : FirstBeyond limit (height * width) (y * width + x) s

  pub first_bad_lem : (y x : ℕ) → first_bad limit width height s ≡ Some (record { row = y; column = x }) ↔ BadAt y x
  unfolding first_bad
  first_bad_lem y x = (λ e. spotted ((first_is bad row_of column_of_lem 0 (height * width) y x).0 e), λ b. (first_is bad row_of column_of_lem 0 (height * width) y x).1 (found b))
    where
      found : BadAt y x → Spot bad row_of column_of_lem 0 (height * width) y x
      found b = record {
        place = y * width + x;
        first = record {
          from = omega arith;
          inside = omega (arith, b.first.inside);
          earlier = λ j a l. good_beyond (line s j) (b.first.earlier j l);
          here = bad_beyond (line s (y * width + x)) b.first.here;
        };
        row_is = sym (digits_div y b.column_inside);
        column_is = sym (digits_mod y b.column_inside);
      }

      spotted : Spot bad row_of column_of_lem 0 (height * width) y x → BadAt y x
      spotted p = record {
        row_inside = subst (λ (n : ℕ). n < height) (sym p.row_is) ((div-lt_iff_lt-mul some).1 few);
        column_inside = subst (λ (n : ℕ). n < width) (sym p.column_is) (mod-lt p.place some);
        first = subst (λ (m : ℕ). FirstBeyond limit (height * width) m s) (sym joined) (record {
          inside = few;
          earlier = λ i l. beyond_good (line s i) (p.first.earlier i (omega arith) l);
          here = beyond_bad (line s p.place) p.first.here;
        });
      }
        where
          few : p.place < height * width
          few = omega (arith, p.first.inside)

          some : 0 < width
          some = positive width few
            where
              positive : (w : ℕ) → p.place < height * w → 0 < w
              positive zero l = absurd (not-suc-le-zero (rw mul-zero at l))
              positive (suc w) l = omega arith

          joined : y * width + x ≡ p.place
          joined = ap₂ (λ (a b : ℕ). a * width + b) p.row_is p.column_is ∙ div-add-mod' p.place width

-- a picture of one number within the limit has no such sample: what would take long to compute
pub one_number_good : (limit width height n : ℕ) (v : ℤ) → height * width ≤ n → nat_abs v ≤ limit → first_bad limit width height (replicate n v) ≡ None
one_number_good limit width height n v enough h =
    (nothing_bad limit width height (replicate n v)).1 (λ i l. rw (get_or-replicate n i v (pos 0) (omega arith)) h)
