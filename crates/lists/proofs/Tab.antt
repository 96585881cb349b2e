-- A list given by a function of the place, and loops that fill a list so, from the front or from the end. Assumes nothing.
use Prim.Native.Nat.{ℕ, zero, suc, ◌+◌, ◌-◌, ◌≤◌, ◌<◌}
use mathlib.Core.Path.{◌≡◌, refl, sym, ap, ap₂, ◌∙◌}
use mathlib.Core.Logic.{⊎_elim}
use mathlib.Core.List.{List, [], ◌∷◌, ◌++◌, append_assoc, append-nil, map, map-append}
use native.Mathlib.Nat.{eq-or-lt_of_le, not-suc-le-zero, le_of_suc-le-suc}
use native.Mathlib.Numerals.{add-one}
use native.Mathlib.Omega.{arith}
use lib.ListN.{length, set, take, drop, get_or, replicate, drop_of_length-le, take-append-drop, length-append, length-take, length-drop, length-replicate, get_or-replicate, get_or-append}
use lib.Seq.{drop-cons, drop_at, take-suc, set_at, get_or_at, ext_get_or, get_or-append-add, get_or-take, get_or-drop, length-take-le}
use Rattle.lists.specs.Tab.{tab}

module _ {A : Type 0} where
  pub tab-length : (f : ℕ → A) (n : ℕ) → length (tab f n) ≡ n
  unfolding tab
  tab-length f zero = refl
  tab-length f (suc n) = length-append (tab f n) (f n ∷ []) ∙ omega (arith, tab-length f n)

  pub tab_none : (f : ℕ → A) (d : List A) → d ≡ tab f 0 ++ drop 0 d
  unfolding tab
  tab_none f d = refl

  pub tab_more : (f : ℕ → A) (i : ℕ) (d : List A) → i < length d → set (tab f i ++ drop i d) i (f i) ≡ tab f (i + 1) ++ drop (i + 1) d
  unfolding tab
  tab_more f i d h =
      rw (add-one, drop-cons d i (f i) h, set_at (tab f i) (get_or d i (f i)) (drop (suc i) d) (f i) i (tab-length f i), append_assoc) refl

  pub tab_at : (f : ℕ → A) (n i : ℕ) (z : A) → i < n → get_or (tab f n) i z ≡ f i
  unfolding tab
  tab_at f zero i z h = absurd (not-suc-le-zero h)
  tab_at f (suc n) i z h =
      ⊎_elim
      (λ (e : i ≡ n). rw e (get_or_at (tab f n) (f n) [] z n (tab-length f n)))
      (λ (l : i < n). get_or-append (tab f n) (f n ∷ []) z i (omega (arith, tab-length f n)) ∙ tab_at f n i z l)
      (eq-or-lt_of_le (le_of_suc-le-suc h))

  -- equal functions give equal lists
  pub tab_ext : (f g : ℕ → A) (n : ℕ) → ((i : ℕ) → i < n → f i ≡ g i) → tab f n ≡ tab g n
  unfolding tab
  tab_ext f g zero h = refl
  tab_ext f g (suc n) h = ap₂ (λ (l : List A) (x : A). l ++ (x ∷ [])) (tab_ext f g n (λ i l. h i (omega arith))) (h n (omega arith))

  -- what stands at the place that is filled next is what stood there
  pub tab_next : (f : ℕ → A) (i : ℕ) (d : List A) (z : A) → i < length d → get_or (tab f i ++ drop i d) i z ≡ get_or d i z
  tab_next f i d z h = rw (drop-cons d i z h) (get_or_at (tab f i) (get_or d i z) (drop (suc i) d) z i (tab-length f i))

  pub tab-place : (f : ℕ → A) (n i : ℕ) (d : List A) (z : A) → i < n → get_or (tab f n ++ drop n d) i z ≡ f i
  tab-place f n i d z h = get_or-append (tab f n) (drop n d) z i (omega (arith, tab-length f n)) ∙ tab_at f n i z h

  -- a list is the table of its places
  pub tab_only : (f : ℕ → A) (s : List A) (z : A) → ((k : ℕ) → k < length s → get_or s k z ≡ f k) → s ≡ tab f (length s)
  tab_only f s z each = ext_get_or z s (tab f (length s)) (sym (tab-length f (length s))) (λ k l. each k l ∙ sym (tab_at f (length s) k z l))

  -- the first n of a list, and n times one value
  pub tab-take : (s : List A) (z : A) (n : ℕ) → n ≤ length s → tab (λ k. get_or s k z) n ≡ take n s
  tab-take s z n h =
      sym (tab_only (λ k. get_or s k z) (take n s) z (λ k l. get_or-take n s k z (omega (arith, length-take-le n s h))) ∙ ap (tab _) (length-take-le n s h))

  pub tab_const : (v : A) (n : ℕ) → tab (λ k. v) n ≡ replicate n v
  tab_const v n =
      sym (tab_only (λ k. v) (replicate n v) v (λ k l. get_or-replicate n k v v (omega (arith, length-replicate n v))) ∙ ap (tab _) (length-replicate n v))

pub tab-map : {A B : Type 0} (f : A → B) (g : ℕ → A) (n : ℕ) → map f (tab g n) ≡ tab (λ k. f (g k)) n
unfolding tab
tab-map f g zero = refl
tab-map {B = B} f g (suc n) = map-append f (tab g n) (g n ∷ []) ∙ ap (λ (l : List B). l ++ (f (g n) ∷ [])) (tab-map f g n)

-- ---- a list that is filled from the front, in place: its first j places hold g
module _ {A : Type 0} (g : ℕ → A) (t₀ : List A) where
  pub Filled : ℕ → List A → Type 0
  Filled j t = t ≡ tab g j ++ drop j t₀

  pub fill_start : Filled 0 t₀
  unfolding Filled
  fill_start = tab_none g t₀

  pub fill_step : (j : ℕ) (t : List A) (v : A) → Filled j t → j < length t₀ → v ≡ g j → Filled (j + 1) (set t j v)
  unfolding Filled
  fill_step j t v e h k = rw (e, k) (tab_more g j t₀ h)

  pub fill_part : (j : ℕ) (t : List A) → Filled j t → t ≡ tab g j ++ drop j t₀
  unfolding Filled
  fill_part j t e = e

  pub fill_end : (j : ℕ) (t : List A) → Filled j t → length t₀ ≤ j → t ≡ tab g j
  fill_end j t e h = fill_part j t e ∙ rw (drop_of_length-le t₀ h) (append-nil _)

  -- what is not yet filled
  pub fill_ahead : (j : ℕ) (t : List A) (k : ℕ) (z : A) → Filled j t → j ≤ k → get_or t k z ≡ get_or t₀ k z
  fill_ahead j t k z e h =
      ap (λ (l : List A). get_or l k z) (fill_part j t e) ∙ ap (λ (i : ℕ). get_or (tab g j ++ drop j t₀) i z) (split (tab-length g j))
      ∙ get_or-append-add (tab g j) (drop j t₀) (k - j) z ∙ get_or-drop j t₀ (k - j) z ∙ ap (λ (i : ℕ). get_or t₀ i z) join
    where
      split : length (tab g j) ≡ j → k ≡ length (tab g j) + (k - j)
      split l = omega arith

      join : j + (k - j) ≡ k
      join = omega arith

  pub fill_length : (j : ℕ) (t : List A) → Filled j t → j ≤ length t₀ → length t ≡ length t₀
  fill_length j t e h = ap length (fill_part j t e) ∙ simp (length-append, length-drop, tab-length) (omega arith)

-- ---- a list of which the first n places are filled from the end, in place: places k to n - 1 hold g
module _ {A : Type 0} (g : ℕ → A) (n : ℕ) (t₀ : List A) where
  pub FilledDown : ℕ → List A → Type 0
  FilledDown k t = t ≡ take k t₀ ++ drop k (tab g n ++ drop n t₀)

  pub fill_down_start : FilledDown n t₀
  unfolding FilledDown
  fill_down_start = sym (rw (drop_at (tab g n) (drop n t₀) n (tab-length g n)) (take-append-drop n t₀))

  pub fill_down_part : (k : ℕ) (t : List A) → FilledDown k t → k ≤ 0 → t ≡ tab g n ++ drop n t₀
  unfolding FilledDown
  fill_down_part zero t e h = e
  fill_down_part (suc k) t e h = absurd (not-suc-le-zero h)

  pub fill_down_end : (k : ℕ) (t : List A) → FilledDown k t → k ≤ 0 → length t₀ ≤ n → t ≡ tab g n
  fill_down_end k t e h l = fill_down_part k t e h ∙ rw (drop_of_length-le t₀ l) (append-nil _)

  module _ (room : n ≤ length t₀) where
    -- place k is filled next
    pub fill_down_step : (k : ℕ) (t : List A) (v : A) → FilledDown (suc k) t → k < n → v ≡ g k → FilledDown k (set t k v)
    unfolding FilledDown
    fill_down_step k t v e h ev =
        ap₂ (λ (x : List A) (y : A). set x k y) e ev
        ∙ ap (λ (x : List A). set (x ++ drop (suc k) full) k (g k)) (take-suc t₀ k v (omega arith))
        ∙ ap (λ (x : List A). set x k (g k)) (append_assoc (take k t₀) (get_or t₀ k v ∷ []) (drop (suc k) full))
        ∙ set_at (take k t₀) (get_or t₀ k v) (drop (suc k) full) (g k) k (length-take-le k t₀ (omega arith))
        ∙ ap (λ (x : A). take k t₀ ++ (x ∷ drop (suc k) full)) (sym (tab-place g n k t₀ v h))
        ∙ ap (λ (x : List A). take k t₀ ++ x) (sym (drop-cons full k v (simp (length-append, tab-length, length-drop) (omega arith))))
      where
        full : List A
        full = tab g n ++ drop n t₀

    -- what is not yet filled
    pub fill_down_ahead : (k : ℕ) (t : List A) (i : ℕ) (z : A) → FilledDown k t → i < k → k ≤ n → get_or t i z ≡ get_or t₀ i z
    unfolding FilledDown
    fill_down_ahead k t i z e h l =
        ap (λ (x : List A). get_or x i z) e
        ∙ get_or-append (take k t₀) (drop k (tab g n ++ drop n t₀)) z i (omega (arith, length-take-le k t₀ (omega arith)))
        ∙ get_or-take k t₀ i z h

    pub fill_down_length : (k : ℕ) (t : List A) → FilledDown k t → k ≤ n → length t ≡ length t₀
    unfolding FilledDown
    fill_down_length k t e l = ap length e ∙ simp (length-append, length-take, length-drop, tab-length) (omega arith)
