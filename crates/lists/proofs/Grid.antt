-- The lines of a flat picture: a line that was put is read back (`put-line`, `line-back`) and every other place and line is as it was (`put_other`,
-- `line_kept`); what a pass leaves (`behind_line`); rows and columns lie apart (`row_lines`, `column_lines`) and cover the picture (`row_covers`,
-- `column_covers`, `one_line`). Assumes nothing.
use Prim.Native.Nat.{ℕ, zero, suc, ◌+◌, ◌*◌, ◌-◌, ◌/◌, ◌%◌, ◌≤◌, ◌<◌}
use mathlib.Core.Path.{◌≡◌, refl, sym, ap, ap₂, ◌∙◌, subst}
use mathlib.Core.List.{List, ◌++◌}
use mathlib.Core.Logic.{⊎_elim}
use native.Mathlib.Omega.{arith}
use native.Mathlib.Numerals.{add-one}
use native.Mathlib.Nat.{eq-or-lt_of_le, not-suc-le-zero, le_of_suc-le-suc, add-zero, add-suc, add-mul, mul-zero, mod-lt, div-lt_iff_lt-mul, div-add-mod', add-sub_cancel_left}
use lib.ListN.{get_or, set, take, drop, length, length-set, length-take, length-drop}
use lib.Seq.{get_or-set_same, get_or-set_other, get_or-take, get_or-drop, ext_get_or, length-take-le}
use lib.IntN.{ℤ, pos}
use Rattle.lists.specs.Tab.{tab}
use Rattle.lists.specs.Line.{line, wrap, rolled}
use Rattle.lists.specs.Grid.{placed, line_of, put, passed, Lines, row_of}
use Rattle.lists.proofs.Tab.{tab_none, tab_more, tab_at, tab_ext, tab-length, tab-take}
use Rattle.lists.proofs.Rows.{row_in}
use Rattle.lists.proofs.Cyclic.{wrap_periodic, wrap_own}

-- ---- the loop that puts a line
pub put_none : (at along : ℕ) (g : ℕ → ℤ) (pic : List ℤ) → pic ≡ put at along g 0 pic
unfolding put
put_none at along g pic = refl

pub put_more : (at along : ℕ) (g : ℕ → ℤ) (k : ℕ) (pic now : List ℤ) (p : ℕ) (v : ℤ) → now ≡ put at along g k pic → p ≡ at + k * along
    → v ≡ g k → set now p v ≡ put at along g (k + 1) pic
unfolding put
put_more at along g k pic now p v e ep ev = rw (add-one, e, ep, ev) refl

pub put-length : (at along : ℕ) (g : ℕ → ℤ) (n : ℕ) (pic : List ℤ) → length (put at along g n pic) ≡ length pic
unfolding put
put-length at along g zero pic = refl
put-length at along g (suc n) pic = simp length-set (put-length at along g n pic)

-- ---- a line put, and put in parts
-- neighbouring places from the first on
pub put_front : (g : ℕ → ℤ) (n : ℕ) (pic : List ℤ) → n ≤ length pic → put 0 1 g n pic ≡ tab g n ++ drop n pic
unfolding put
put_front g zero pic h = tab_none g pic
put_front g (suc n) pic h =
    ap₂ (λ (p : List ℤ) (i : ℕ). set p i (g n)) (put_front g n pic (omega arith)) (place n)
    ∙ tab_more g n pic h
    ∙ ap (λ (i : ℕ). tab g i ++ drop i pic) (add-one n)
  where
    place : (n : ℕ) → 0 + n * 1 ≡ n
    place n = omega arith

pub put_cong : (at along : ℕ) (f g : ℕ → ℤ) (n : ℕ) (pic : List ℤ) → ((k : ℕ) → k < n → f k ≡ g k) → put at along f n pic ≡ put at along g n pic
unfolding put
put_cong at along f g zero pic h = refl
put_cong at along f g (suc n) pic h =
    ap₂ (λ (p : List ℤ) (v : ℤ). set p (at + n * along) v) (put_cong at along f g n pic (λ k l. h k (omega arith))) (h n (omega arith))

-- the first m places of a line, and the n after them, which are a line of their own
pub put_split : (at along : ℕ) (g : ℕ → ℤ) (m n : ℕ) (pic : List ℤ)
    → put at along g (m + n) pic ≡ put (at + m * along) along (λ k. g (m + k)) n (put at along g m pic)
unfolding put
put_split at along g m zero pic = ap (λ (k : ℕ). put at along g k pic) (add-zero m)
put_split at along g m (suc n) pic =
    ap (λ (k : ℕ). put at along g k pic) (add-suc m n)
    ∙ ap₂ (λ (p : List ℤ) (q : ℕ). set p q (g (m + n))) (put_split at along g m n pic) (place m n)
  where
    place : (m n : ℕ) → at + (m + n) * along ≡ at + m * along + n * along
    place m n = omega arith

-- the first n places of a line that is put from its sample `turn` on. The samples from there may suffice; or they are one run, and the samples
-- from the first on a second
module _ (at along : ℕ) (s : List ℤ) (turn n : ℕ) (pic : List ℤ) where
  from_turn : (m : ℕ) → turn + m ≤ length s → (k : ℕ) → k < m → line (take m (drop turn s)) k ≡ rolled turn s k
  from_turn m h k l =
      get_or-take m (drop turn s) k (pos 0) l
      ∙ get_or-drop turn s k (pos 0)
      ∙ ap (line s) (swap turn k)
      ∙ sym (wrap_own (length s) (line s) (k + turn) (omega arith))
    where
      swap : (a b : ℕ) → a + b ≡ b + a
      swap a b = omega arith

  run_length : (m : ℕ) → turn + m ≤ length s → length (take m (drop turn s)) ≡ m
  run_length m h = simp (length-take, length-drop) (omega arith)

  pub put-run : turn + n ≤ length s
      → put at along (line (take (turn + n - turn) (drop turn s))) (length (take (turn + n - turn) (drop turn s))) pic ≡ put at along (rolled turn s) n pic
  put-run h =
      ap (λ (m : ℕ). put at along (line (take m (drop turn s))) (length (take m (drop turn s))) pic) (add-sub_cancel_left turn n)
      ∙ ap (λ (j : ℕ). put at along (line (take n (drop turn s))) j pic) (run_length n h)
      ∙ put_cong at along _ (rolled turn s) n pic (from_turn n h)

  pub put-rolled : turn < length s → n ≤ length s → length s - turn ≤ n
      → put (at + (length s - turn) * along) along (line (take (n - (length s - turn)) s)) (length (take (n - (length s - turn)) s))
      (put at along (line (take (length s - turn) (drop turn s))) (length (take (length s - turn) (drop turn s))) pic)
      ≡ put at along (rolled turn s) n pic
  put-rolled h fits over =
      ap₂ (λ (i j : ℕ). put (at + m * along) along (line (take rest s)) i (put at along (line (take m (drop turn s))) j pic))
      (length-take-le rest s (omega arith)) (run_length m (omega arith))
      ∙ ap (λ (p : List ℤ). put (at + m * along) along (line (take rest s)) rest p) (put_cong at along _ (rolled turn s) m pic (from_turn m (omega arith)))
      ∙ put_cong (at + m * along) along _ (λ k. rolled turn s (m + k)) rest (put at along (rolled turn s) m pic) second
      ∙ sym (put_split at along (rolled turn s) m rest pic)
      ∙ ap (λ (k : ℕ). put at along (rolled turn s) k pic) (whole (length s) over)
    where
      m : ℕ
      m = length s - turn

      rest : ℕ
      rest = n - (length s - turn)

      whole : (l : ℕ) → l - turn ≤ n → l - turn + (n - (l - turn)) ≡ n
      whole l h = omega arith

      second : (k : ℕ) → k < rest → line (take rest s) k ≡ rolled turn s (m + k)
      second k l =
          get_or-take rest s k (pos 0) l
          ∙ sym (wrap_own (length s) (line s) k (omega arith))
          ∙ sym ((wrap_periodic (length s) (line s)).again k)
          ∙ ap (wrap (length s) (line s)) (sym (round (length s) h))
        where
          round : (n : ℕ) → turn < n → n - turn + k + turn ≡ k + n
          round n h = omega arith

-- ---- the places of a line that is read
pub line_of_at : (at along n : ℕ) (pic : List ℤ) (k : ℕ) → k < n → get_or (line_of at along n pic) k (pos 0) ≡ get_or pic (at + k * along) (pos 0)
unfolding line_of placed
line_of_at at along n pic k h = tab_at (placed at along pic) n k (pos 0) h

pub line_of-length : (at along n : ℕ) (pic : List ℤ) → length (line_of at along n pic) ≡ n
unfolding line_of
line_of-length at along n pic = tab-length (placed at along pic) n

pub line_of_cong : (at along n : ℕ) (a b : List ℤ) → ((k : ℕ) → k < n → get_or a (at + k * along) (pos 0) ≡ get_or b (at + k * along) (pos 0))
    → line_of at along n a ≡ line_of at along n b
unfolding line_of placed
line_of_cong at along n a b same = tab_ext _ _ n same

-- ---- what stands where after a line was put
module _ (at along : ℕ) (g : ℕ → ℤ) where
  pub put_other : (n : ℕ) (pic : List ℤ) (p : ℕ) → ((k : ℕ) → k < n → p ≡ at + k * along → ⊥) → get_or (put at along g n pic) p (pos 0) ≡ get_or pic p (pos 0)
  unfolding put
  put_other zero pic p f = refl
  put_other (suc n) pic p f =
      get_or-set_other (put at along g n pic) (at + n * along) p (g n) (pos 0) (λ e. f n (omega arith) e)
      ∙ put_other n pic p (λ k l e. f k (omega arith) e)

  pub put_same : (n : ℕ) (pic : List ℤ) (k : ℕ) → k < n → ((j : ℕ) → j < n → at + j * along < length pic)
      → ((i j : ℕ) → i < n → j < n → at + i * along ≡ at + j * along → i ≡ j) → get_or (put at along g n pic) (at + k * along) (pos 0) ≡ g k
  unfolding put
  put_same zero pic k h f u = absurd (not-suc-le-zero h)
  put_same (suc n) pic k h f u =
      ⊎_elim
      (λ (e : k ≡ n). rw e (get_or-set_same (put at along g n pic) (at + n * along) (g n) (pos 0) (rw (put-length at along g n pic) (f n (omega arith)))))
      (λ (l : k < n).
      get_or-set_other (put at along g n pic) (at + n * along) (at + k * along) (g n) (pos 0) (λ e. other l (u k n h (omega arith) e))
      ∙ put_same n pic k l (λ j m. f j (omega arith)) (λ i j a b e. u i j (omega arith) (omega arith) e))
      (eq-or-lt_of_le (le_of_suc-le-suc h))
    where
      other : k < n → k ≡ n → ⊥
      other l e = omega arith

  -- the line is read back
  pub put-line : (n : ℕ) (pic : List ℤ) → ((j : ℕ) → j < n → at + j * along < length pic)
      → ((i j : ℕ) → i < n → j < n → at + i * along ≡ at + j * along → i ≡ j) → line_of at along n (put at along g n pic) ≡ tab g n
  unfolding line_of placed
  put-line n pic f u = tab_ext _ _ n (λ k l. put_same n pic k l f u)

-- the same of a line among those of one direction: it is read back, and every other is as it was
module _ {n lines along across size : ℕ} (g : Lines n lines along across size) (v : ℕ → ℤ) (pic : List ℤ) (e : length pic ≡ size)
    (y : ℕ) (h : y < lines) where
  pub line-back : line_of (y * across) along n (put (y * across) along v n pic) ≡ tab v n
  line-back = put-line (y * across) along v n pic (λ j l. rw e (g.inside y j h l)) (λ i j a b q. (g.apart y y i j h h a b q).1)

  pub line_kept : (z : ℕ) → z < lines → (z ≡ y → ⊥)
      → line_of (z * across) along n (put (y * across) along v n pic) ≡ line_of (z * across) along n pic
  unfolding line_of placed
  line_kept z l other =
      tab_ext _ _ n (λ k a. put_other (y * across) along v n pic (z * across + k * along) (λ j b q. other (g.apart z y k j l h a b q).0))

-- ---- the loop over the lines of one direction: lines that were passed, and lines to come
pub passed_none : (n along across : ℕ) (f : ℕ → List ℤ → ℕ → ℤ) (pic : List ℤ) → pic ≡ passed n along across f 0 pic
unfolding passed
passed_none n along across f pic = refl

pub passed_more : (n along across : ℕ) (f : ℕ → List ℤ → ℕ → ℤ) (y m : ℕ) (pic now p : List ℤ) → m ≡ n → now ≡ passed n along across f y pic
    → p ≡ put (y * across) along (f y (line_of (y * across) along m now)) m now → p ≡ passed n along across f (y + 1) pic
unfolding passed
passed_more n along across f y m pic now p em en e = e ∙ rw (em, en, add-one) refl

module _ (n lines along across : ℕ) (f : ℕ → List ℤ → ℕ → ℤ) where
  pub passed_length : (y : ℕ) (pic : List ℤ) → length (passed n along across f y pic) ≡ length pic
  unfolding passed
  passed_length zero pic = refl
  passed_length (suc y) pic = put-length (y * across) along _ n _ ∙ passed_length y pic

  -- a place that is no place of the first y lines
  pub passed_other : (y : ℕ) (pic : List ℤ) (p : ℕ) → ((i k : ℕ) → i < y → k < n → p ≡ i * across + k * along → ⊥)
      → get_or (passed n along across f y pic) p (pos 0) ≡ get_or pic p (pos 0)
  unfolding passed
  passed_other zero pic p h = refl
  passed_other (suc y) pic p h =
      put_other (y * across) along _ n (passed n along across f y pic) p (λ k l e. h y k (omega arith) l e)
      ∙ passed_other y pic p (λ i k l m e. h i k (omega arith) m e)

  module _ (size : ℕ) (g : Lines n lines along across size) where
    -- a line to come is as it was
    pub ahead : (y : ℕ) (pic : List ℤ) (z : ℕ) → y ≤ z → z < lines → (k : ℕ) → k < n
        → get_or (passed n along across f y pic) (z * across + k * along) (pos 0) ≡ get_or pic (z * across + k * along) (pos 0)
    ahead y pic z h l k m = passed_other y pic (z * across + k * along) (λ i j a b e. apart_from i a (g.apart z i k j l (omega arith) m b e).0)
      where
        apart_from : (i : ℕ) → i < y → z ≡ i → ⊥
        apart_from i a e = omega arith

    pub ahead_line : (y : ℕ) (pic : List ℤ) → y < lines → line_of (y * across) along n (passed n along across f y pic) ≡ line_of (y * across) along n pic
    unfolding line_of placed
    ahead_line y pic l = tab_ext _ _ n (λ k m. ahead y pic y (omega arith) l k m)

    -- line z of what was passed
    pub behind : (y : ℕ) (pic : List ℤ) (z : ℕ) → z < y → y ≤ lines → length pic ≡ size → (k : ℕ) → k < n
        → get_or (passed n along across f y pic) (z * across + k * along) (pos 0) ≡ f z (line_of (z * across) along n pic) k
    unfolding passed
    behind zero pic z h l s k m = absurd (not-suc-le-zero h)
    behind (suc y) pic z h l s k m =
        ⊎_elim
        (λ (e : z ≡ y).
        rw e
        (put_same (y * across) along _ n (passed n along across f y pic) k m
        (λ j b. rw (passed_length y pic, s) (g.inside y j l b))
        (λ i j a b e'. (g.apart y y i j l l a b e').1)
        ∙ ap (λ (t : List ℤ). f y t k) (ahead_line y pic l)))
        (λ (lt : z < y).
        put_other (y * across) along _ n (passed n along across f y pic) (z * across + k * along)
        (λ j b e'. differs lt (g.apart z y k j (omega arith) l m b e').0)
        ∙ behind y pic z lt (omega arith) s k m)
        (eq-or-lt_of_le (le_of_suc-le-suc h))
      where
        differs : z < y → z ≡ y → ⊥
        differs a e = omega arith

    pub behind_line : (pic : List ℤ) (z : ℕ) → z < lines → length pic ≡ size
        → line_of (z * across) along n (passed n along across f lines pic) ≡ tab (f z (line_of (z * across) along n pic)) n
    unfolding line_of placed
    behind_line pic z h s = tab_ext _ _ n (λ k m. behind lines pic z h (omega arith) s k m)

-- ---- rows and columns
same_row : (w a a' b b' : ℕ) → b < w → b' < w → a * w + b ≡ a' * w + b' → a < a' → ⊥
same_row w a a' b b' h h' e l = omega (arith, row_in w a' a l)

pub one_place : (w a a' b b' : ℕ) → b < w → b' < w → a * w + b ≡ a' * w + b' → (a ≡ a') × (b ≡ b')
one_place w a a' b b' h h' e = both (eq a a' (same_row w a a' b b' h h' e) (same_row w a' a b' b h' h (sym e)))
  where
    eq : (a a' : ℕ) → (a < a' → ⊥) → (a' < a → ⊥) → a ≡ a'
    eq a a' f g = omega arith

    both : a ≡ a' → (a ≡ a') × (b ≡ b')
    both p = (p, omega (arith, ap (λ (i : ℕ). i * w) p))

pub row_lines : (w h size : ℕ) → h * w ≤ size → Lines w h 1 w size
row_lines w h size l =
    record {
      inside = λ y k a b. omega (arith, row_in w h y a);
      apart = λ y y' k k' a a' b b' e. one_place w y y' k k' b b' (omega arith);
    }

pub column_lines : (w h size : ℕ) → h * w ≤ size → Lines h w w 1 size
column_lines w h size l =
    record {
      inside = λ x k a b. omega (arith, row_in w h k b);
      apart = λ x x' k k' a a' b b' e. swap (one_place w k k' x x' a a' (omega arith));
    }
  where
    swap : {x x' k k' : ℕ} → (k ≡ k') × (x ≡ x') → (x ≡ x') × (k ≡ k')
    swap p = (p.1, p.0)

-- a row as a part of the list is the line of its places
pub row_line : (n : ℕ) (t : List ℤ) (i : ℕ) → i * n + n ≤ length t → row_of n t i ≡ line_of (i * n) 1 n t
unfolding row_of line_of placed
row_line n t i h =
    sym (tab-take (drop (i * n) t) (pos 0) n (simp length-drop (omega arith)))
    ∙ tab_ext _ _ n (λ k l. get_or-drop (i * n) t k (pos 0) ∙ ap (λ (j : ℕ). get_or t (i * n + j) (pos 0)) (omega arith))

-- ---- the lines of one direction cover the picture: a place is a place of a line, and of one only
pub record Place (n lines along across p : ℕ) : Type 0 where
  pub line : ℕ
  pub place : ℕ
  pub line_in : line < lines
  pub place_in : place < n
  pub is : p ≡ line * across + place * along

pub one_line : {n lines along across size p : ℕ} → Lines n lines along across size → (a b : Place n lines along across p)
    → (a.line ≡ b.line) × (a.place ≡ b.place)
one_line g a b = g.apart a.line b.line a.place b.place a.line_in b.line_in a.place_in b.place_in (sym a.is ∙ b.is)

module _ (w h p : ℕ) (inside : p < h * w) where
  wide : 0 < w
  wide = go w inside
    where
      go : (w : ℕ) → p < h * w → 0 < w
      go zero l = absurd (not-suc-le-zero (subst (λ (n : ℕ). p < n) (mul-zero h) l))
      go (suc w) l = omega arith

  pub row_covers : Place w h 1 w p
  row_covers =
      record {
        line = p / w;
        place = p % w;
        line_in = (div-lt_iff_lt-mul wide).1 inside;
        place_in = mod-lt p wide;
        is = sym (div-add-mod' p w) ∙ omega arith;
      }

  pub column_covers : Place h w w 1 p
  column_covers =
      let r = row_covers in
      record { line = r.place; place = r.line; line_in = r.place_in; place_in = r.line_in; is = r.is ∙ omega arith }

-- so two pictures are equal if their lines are
pub lines_equal : (n lines along across size : ℕ) → ((p : ℕ) → p < size → Place n lines along across p)
    → (a b : List ℤ) → length a ≡ size → length b ≡ size
    → ((y : ℕ) → y < lines → line_of (y * across) along n a ≡ line_of (y * across) along n b) → a ≡ b
lines_equal n lines along across size cover a b la lb each = ext_get_or (pos 0) a b (la ∙ sym lb) (λ p l. at_place p (cover p (rw (← la) l)))
  where
    at_place : (p : ℕ) → Place n lines along across p → get_or a p (pos 0) ≡ get_or b p (pos 0)
    at_place p c =
        ap (λ (i : ℕ). get_or a i (pos 0)) c.is
        ∙ sym (line_of_at (c.line * across) along n a c.place c.place_in)
        ∙ ap (λ (l : List ℤ). get_or l c.place (pos 0)) (each c.line c.line_in)
        ∙ line_of_at (c.line * across) along n b c.place c.place_in
        ∙ ap (λ (i : ℕ). get_or b i (pos 0)) (sym c.is)

-- ---- fewer or shorter lines, and the lines from line y on
pub lines_within : {n n' m m' along across size : ℕ} → n ≤ n' → m ≤ m' → Lines n' m' along across size → Lines n m along across size
lines_within a b g =
    record {
      inside = λ y k c d. g.inside y k (omega arith) (omega arith);
      apart = λ y y' k k' c c' d d' e. g.apart y y' k k' (omega arith) (omega arith) (omega arith) (omega arith) e;
    }

pub lines_from : (y m : ℕ) {n lines along across size : ℕ} → y + m ≤ lines → Lines n lines along across size → Lines n m along across (size - y * across)
lines_from y m {n} {lines} {along} {across} {size} h g =
    record {
      inside = λ i k c d. omega (arith, g.inside (y + i) k (omega arith) d, add-mul y i across);
      apart = λ i j k l c c' d d' e.
          let f : (y + i) * across + k * along ≡ (y + j) * across + l * along = omega (arith, add-mul y i across, add-mul y j across) in
          let a = g.apart (y + i) (y + j) k l (omega arith) (omega arith) d d' f in
          (omega (arith, a.0), a.1);
    }
