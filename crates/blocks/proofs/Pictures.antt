-- The pictures of a block straightened one after the other: what stands before and after the next one, that the last leaves the block straightened in
-- plane 0, and that the extremes of the pictures, joined one after the other, are those of the result. Assumes nothing.
use Prim.Native.Nat.{ℕ, ◌+◌, ◌*◌, ◌-◌, ◌/◌, ◌%◌, ◌≤◌, ◌<◌, max}
use mathlib.Core.Path.{◌≡◌, refl, sym, ap, ap₂, ◌∙◌, subst}
use mathlib.Core.List.{List, ◌++◌}
use native.Mathlib.Nat.{div-add-mod', mul_comm, mul-pos, mul-le-mul_right}
use native.Mathlib.Decide.{dec_le}
use native.Mathlib.Omega.{arith}
use borrow.Rule.Slice.PartMut.{put_mid}
use lib.IntN.{ℤ, pos, negsuc, nat_abs}
use lib.ListN.{length, take, drop, length-take, length-drop, length-append, get_or-append}
use lib.Seq.{ext_get_or, get_or-take, get_or-drop, get_or-append-add}
use Rattle.lists.specs.Tab.{tab}
use Rattle.lists.specs.Line.{line}
use Rattle.arith.specs.Whole.{min_ℤ, max_ℤ}
use Rattle.lists.specs.declared.Extremes.{Extremes}
use Rattle.lists.specs.Ends.{extremes_of, joined_of, smallest_in_rows, largest_in_rows}
use Rattle.lists.proofs.Ends.{picked_from, from_none, from_more, from_picked, smallest_is, largest_is, min_never, max_never, min_same, max_same, extreme_has, smallest-rows, largest-rows}
use Rattle.lists.proofs.Tab.{tab-length, tab_at}
use Rattle.lists.proofs.Part.{part_before, part_in}
use Rattle.settings.specs.declared.Setting.{Setting}
use Rattle.lists.specs.Picture.{picture, Places}
use Rattle.passes.specs.Picture.{straightened, straighten}
use Rattle.lists.proofs.Picture.{inside, at_index}
use Rattle.passes.proofs.Places.{straighten_at}
use Rattle.passes.proofs.Reach.{straighten_size}
use Rattle.acceptance.specs.Judge as singly
use Rattle.planes.specs.declared.Slices.{Slices}
use Rattle.planes.specs.Slices.{place_in, slice, slice_of}
use Rattle.planes.proofs.Places.{straightened_local}
use Rattle.pictures.specs.Answer.{kernel_in, row_moves, column_moves}
use Rattle.pictures.proofs.Call.{straighten-length}
use Rattle.blocks.specs.Block.{slices_of, straight_slice, straighten_block}
use Rattle.blocks.specs.Judge.{Fit}
use Rattle.blocks.proofs.Planes.{known_at}
use Rattle.blocks.specs.Answer.{slice_rows}
use Rattle.blocks.proofs.Straight.{straight, third_slice}
use Rattle.blocks.proofs.Call.{slice_range, smallest_over_lem, largest_over_lem}

-- the first n places of a list hold g, the others what they held
pub record Placed (g : ℕ → ℤ) (n : ℕ) (list list' : List ℤ) : Type 0 where
  pub front : (p : ℕ) → p < n → line list' p ≡ g p
  pub rest : (p : ℕ) → n ≤ p → p < length list → line list' p ≡ line list p

pub placed_none : (g : ℕ → ℤ) (list : List ℤ) → Placed g 0 list list
placed_none g list = record { front = λ p l. absurd (omega arith); rest = λ p l h. refl }

-- the part from place n on was lent, and came back with g in its first m places
pub placed_more : (g : ℕ → ℤ) (n m : ℕ) (list now part : List ℤ) → length now ≡ length list → n + m ≤ length list → length part ≡ length now - n
    → Placed g n list now
    → ((q : ℕ) → q < m → line part q ≡ g (n + q))
    → ((q : ℕ) → m ≤ q → q < length now - n → line part q ≡ line now (n + q))
    → Placed g (n + m) list (put_mid n (length now - n) now part)
placed_more g n m list now part same room long done first later =
    record {
      front = λ p l. before p l (dec_le n p);
      rest = λ p l h. past (p - n) p (omega arith) (omega arith) (omega arith);
    }
  where
    back : List ℤ
    back = put_mid n (length now - n) now part

    inside : (q : ℕ) → q < length now - n → line back (n + q) ≡ line part q
    inside q l = part_in n (length now - n) now part (pos 0) (omega (arith, same)) long q l

    before : (p : ℕ) → p < n + m → Dec (n ≤ p) → line back p ≡ g p
    before p l (no h) = part_before n (length now - n) now part (pos 0) (omega (arith, same)) long p (omega arith) ∙ done.front p (omega arith)
    before p l (yes h) = new (p - n) p (omega arith) l
      where
        new : (q p : ℕ) → p ≡ n + q → p < n + m → line back p ≡ g p
        new q p e l = rw e (inside q (omega (arith, same)) ∙ first q (omega arith))

    past : (q p : ℕ) → p ≡ n + q → m ≤ q → p < length list → line back p ≡ line list p
    past q p e l h = rw e (inside q (omega (arith, same)) ∙ later q l (omega (arith, same)) ∙ done.rest (n + q) (omega arith) (omega arith))

-- a list so filled
pub placed_list : (g : ℕ → ℤ) (n : ℕ) (list list' : List ℤ) → length list' ≡ length list → n ≤ length list → Placed g n list list' → list' ≡ tab g n ++ drop n list
placed_list g n list list' same room done =
    ext_get_or (pos 0) list' (tab g n ++ drop n list) (same ∙ sym long) (λ p l. at p (omega (arith, same)) (dec_le n p))
  where
    long : length (tab g n ++ drop n list) ≡ length list
    long = simp (length-append, tab-length, length-drop) (omega arith)

    at : (p : ℕ) → p < length list → Dec (n ≤ p) → line list' p ≡ line (tab g n ++ drop n list) p
    at p l (no h) = done.front p (omega arith) ∙ sym (get_or-append (tab g n) (drop n list) (pos 0) p (omega (arith, tab-length g n)) ∙ tab_at g n p (pos 0) (omega arith))
    at p l (yes h) = done.rest p h l ∙ sym (after (p - n) p (omega arith))
      where
        after : (q p : ℕ) → p ≡ n + q → line (tab g n ++ drop n list) p ≡ line list p
        after q p e =
            rw e
            (ap (λ (k : ℕ). line (tab g n ++ drop n list) (k + q)) (sym (tab-length g n)) ∙ get_or-append-add (tab g n) (drop n list) q (pos 0) ∙ get_or-drop n list q (pos 0))

-- n places written over the first of a part that was lent: the others are the list's
pub written_over : (n at : ℕ) (new now : List ℤ) → length new ≡ n → (q : ℕ) → n ≤ q → q < length now - at
    → line (new ++ drop n (take (length now - at) (drop at now))) q ≡ line now (at + q)
written_over n at new now long q l h = past (q - n) q (omega arith) h
  where
    part : List ℤ
    part = take (length now - at) (drop at now)

    past : (k q : ℕ) → q ≡ n + k → q < length now - at → line (new ++ drop n part) q ≡ line now (at + q)
    past k q e h =
        rw e
        (ap (λ (m : ℕ). line (new ++ drop n part) (m + k)) (sym long)
        ∙ get_or-append-add new (drop n part) k (pos 0)
        ∙ get_or-drop n part k (pos 0)
        ∙ get_or-take (length now - at) (drop at now) (n + k) (pos 0) (omega arith)
        ∙ get_or-drop at now (n + k) (pos 0))

-- ---- picture z of a block, lent from its first place on
module _ (W H D : ℕ) (set : Setting) (block : List ℤ) (hW : 0 < W) (hH : 0 < H) (room : W * H * D ≤ length block) (z : ℕ) (hz : z < D) where
  abbrev s : Slices
  s = slices_of W H D 0

  abbrev n : ℕ
  n = W * H

  abbrev at : ℕ
  at = z * n

  abbrev lent : List ℤ
  lent = take (length block - at) (drop at block)

  -- it ends inside the block
  pub ends : at + n ≤ W * H * D
  ends = omega (arith, mul-le-mul_right (W * H) hz, mul_comm (W * H) D)

  -- its samples are those of slice z
  lent_at : (q : ℕ) → q < n → line lent q ≡ line block (at + q)
  lent_at q l = get_or-take (length block - at) (drop at block) q (pos 0) (omega (arith, ends, room)) ∙ get_or-drop at block q (pos 0)

  same_place : (y x : ℕ) → at + (y * W + x) ≡ place_in s z y x
  same_place y x = omega arith

  lent_slice : Places W H (λ y x. picture W (take n lent) y x ≡ slice s block z y x)
  unfolding picture
  lent_slice y x hy hx =
      get_or-take n lent (y * W + x) (pos 0) (inside W H y x hy hx) ∙ lent_at (y * W + x) (inside W H y x hy hx) ∙ ap (line block) (same_place y x)

  -- row by row, slice z stands there straightened
  placed_at : (q : ℕ) → q < n → straight_slice s set block z (q / W) (q % W) ≡ straight W H D 0 set block (at + q)
  placed_at q l =
      at_index (λ y x. straight_slice s set block z y x ≡ straight W H D 0 set block (at + (y * W + x))) hW known q l
      ∙ ap (λ (k : ℕ). straight W H D 0 set block (at + k)) (div-add-mod' q W)
    where
      known : Places W H (λ y x. straight_slice s set block z y x ≡ straight W H D 0 set block (at + (y * W + x)))
      known y x hy hx = let k = known_at W H D hW hH 0 z y x hz hy hx in rw (same_place y x, k.0, k.1, k.2) refl

  -- so what the single picture's three passes leave of it is what stands there
  pub picture-placed : (rest : List ℤ) (q : ℕ) → q < n
      → line (straighten set.border (kernel_in set) W H (row_moves set) (column_moves set) (take n lent) ++ rest) q ≡ straight W H D 0 set block (at + q)
  picture-placed rest q l =
      get_or-append passed rest (pos 0) q (omega (arith, straighten-length set.border (kernel_in set) W H (row_moves set) (column_moves set) (take n lent) hW hH))
      ∙ straighten_at set.border (kernel_in set) W H (row_moves set) (column_moves set) (take n lent) q l
      ∙ at_index (λ y x. straightened set.border (kernel_in set) W H (row_moves set) (column_moves set) (picture W (take n lent)) y x ≡ straight_slice s set block z y x) hW
      (straightened_local set.border (kernel_in set) W H (row_moves set) (column_moves set) hW hH (picture W (take n lent)) (slice s block z) lent_slice) q l
      ∙ placed_at q l
    where
      passed : List ℤ
      passed = straighten set.border (kernel_in set) W H (row_moves set) (column_moves set) (take n lent)

  -- with it one picture more is straightened
  pub next_placed : (list now part : List ℤ) → length now ≡ length list → W * H * D ≤ length list → Placed (straight W H D 0 set block) at list now
      → part ≡ straighten set.border (kernel_in set) W H (row_moves set) (column_moves set) (take n lent) ++ drop n (take (length now - at) (drop at now))
      → Placed (straight W H D 0 set block) ((z + 1) * n) list (put_mid at (length now - at) now part)
  next_placed list now part same long done e =
      subst (λ (m : ℕ). Placed (straight W H D 0 set block) m list (put_mid at (length now - at) now part)) (one_more z n)
      (placed_more (straight W H D 0 set block) at n list now part same (omega (arith, ends)) part_long done
      (λ q l. rw e (picture-placed (drop n (take (length now - at) (drop at now))) q l))
      (λ q l h. rw e (written_over n at passed now passed_long q l h)))
    where
      passed : List ℤ
      passed = straighten set.border (kernel_in set) W H (row_moves set) (column_moves set) (take n lent)

      passed_long : length passed ≡ n
      passed_long = straighten-length set.border (kernel_in set) W H (row_moves set) (column_moves set) (take n lent) hW hH

      part_long : length part ≡ length now - at
      part_long = ap length e ∙ simp (length-append, length-take, length-drop) (omega (arith, passed_long, ends, same))

      one_more : (z n : ℕ) → z * n + n ≡ (z + 1) * n
      one_more z n = omega arith

  -- and the single call takes it, with a result and work of as many places as they need
  pub picture_fit : {result work : ℕ} → Fit W H D 0 set block result work → (own big : ℕ) → n ≤ own → 12 * max W H ≤ big → singly.Fit W H set lent own big
  picture_fit f own big enough roomy =
      record {
        width = (f.width.0, omega (arith, f.width.1));
        height = (f.height.0, omega (arith, f.height.1));
        picture_places = simp (length-take, length-drop) (omega (arith, ends, room));
        result_places = enough;
        work_places_lent = roomy;
        setting = f.setting;
        samples = λ q l. rw (lent_at q l) (f.samples (at + q) (omega (arith, ends)));
      }

  -- its extremes, once it stands straightened in a list, are those of its rows of pass 3
  module _ (list list' : List ℤ) (long : W * H * D ≤ length list') (done : Placed (straight W H D 0 set block) ((z + 1) * n) list list') where
    abbrev own : List ℤ
    own = take (at + n - at) (drop at list')

    third_placed : (q : ℕ) → q < n → slice_rows s set block z (q / W) (q % W) ≡ line own q
    third_placed q l =
        at_index (λ y x. slice_rows s set block z y x ≡ straight_slice s set block z y x) hW (third_slice s set hW hH block z) q l
        ∙ placed_at q l
        ∙ sym (get_or-take (at + n - at) (drop at list') q (pos 0) (omega arith) ∙ get_or-drop at list' q (pos 0) ∙ done.front (at + q) (below z n q l))
      where
        below : (z n q : ℕ) → q < n → z * n + q < (z + 1) * n
        below z n q l = omega arith

    own_long : length own ≡ n
    own_long = simp (length-take, length-drop) (omega (arith, ends, long))

    pub picture_extremes : extremes_of (length own) own ≡ record { smallest = smallest_in_rows W H (slice_rows s set block z); largest = largest_in_rows W H (slice_rows s set block z) }
    picture_extremes =
        rw (own_long, smallest-rows W H (slice_rows s set block z) (line own) hW hH third_placed, largest-rows W H (slice_rows s set block z) (line own) hW hH third_placed) refl

-- ---- the smallest and the largest of each picture
abbrev lows : ℕ → ℕ → ℕ → Setting → List ℤ → ℕ → ℤ
lows W H D set block i = smallest_in_rows W H (slice_rows (slices_of W H D 0) set block i)

abbrev highs : ℕ → ℕ → ℕ → Setting → List ℤ → ℕ → ℤ
highs W H D set block i = largest_in_rows W H (slice_rows (slices_of W H D 0) set block i)

-- those of the first z pictures, begun from numbers that are never picked
abbrev pub joined_up : ℕ → ℕ → ℕ → Setting → List ℤ → ℕ → Extremes
joined_up W H D set block z = record {
  smallest = picked_from min_ℤ (pos 1048576) (lows W H D set block) z;
  largest = picked_from max_ℤ (negsuc 1048575) (highs W H D set block) z;
}

abbrev both : ℤ → ℤ → Extremes
both smallest largest = record { smallest = smallest; largest = largest }

pub joined_none : (W H D : ℕ) (set : Setting) (block : List ℤ) → both (pos 1048576) (negsuc 1048575) ≡ joined_up W H D set block 0
joined_none W H D set block =
    ap₂ both (from_none min_ℤ (pos 1048576) (lows W H D set block)) (from_none max_ℤ (negsuc 1048575) (highs W H D set block))

pub joined_more : (W H D : ℕ) (set : Setting) (block : List ℤ) (z : ℕ)
    → joined_of (joined_up W H D set block z) (both (lows W H D set block z) (highs W H D set block z)) ≡ joined_up W H D set block (z + 1)
joined_more W H D set block z =
    ap₂ both (from_more min_ℤ (pos 1048576) (lows W H D set block) z) (from_more max_ℤ (negsuc 1048575) (highs W H D set block) z)

module _ {W H D : ℕ} {set : Setting} {block : List ℤ} {places room : ℕ} (f : Fit W H D 0 set block places room) where
  abbrev first : List ℤ
  first = straighten set.border (kernel_in set) W H (row_moves set) (column_moves set) (slice_of (slices_of W H D 0) block 0)

  first_small : (k : ℕ) → k < W * H → nat_abs (line first k) ≤ 1048576
  first_small =
      straighten_size set.border (kernel_in set) (row_moves set) (column_moves set) (slice_of (slices_of W H D 0) block 0) f.width.0 f.height.0 f.setting.background
      (slice_range f 0 f.depth.0)

  first_rows : (k : ℕ) → k < W * H → slice_rows (slices_of W H D 0) set block 0 (k / W) (k % W) ≡ line first k
  first_rows k l = sym (straighten_at set.border (kernel_in set) W H (row_moves set) (column_moves set) (slice_of (slices_of W H D 0) block 0) k l)

  -- those of all pictures are those of the result
  pub all-joined : (result result' : List ℤ) → result' ≡ straighten_block W H D 0 set block ++ drop (W * H * D) result
      → joined_up W H D set block D ≡ extremes_of (W * H * D) result'
  all-joined result result' done =
      rw (
        from_picked min_ℤ (pos 1048576) (lows W H D set block) (min_never _ smallest_small) (min_same _) D f.depth.0 ∙ smallest_over_lem f result result' done,
        from_picked max_ℤ (negsuc 1048575) (highs W H D set block) (max_never _ largest_small) (max_same _) D f.depth.0 ∙ largest_over_lem f result result' done,
      )
      refl
    where
      some : 1 ≤ W * H
      some = mul-pos f.width.0 f.height.0

      smallest_small : nat_abs (lows W H D set block 0) ≤ 1048576
      smallest_small =
          subst (λ (v : ℤ). nat_abs v ≤ 1048576) (sym (smallest-rows W H (slice_rows (slices_of W H D 0) set block 0) (line first) f.width.0 f.height.0 first_rows))
          (extreme_has _ (λ v. nat_abs v ≤ 1048576) (line first) (W * H) _ (smallest_is (line first) (W * H) some) first_small)

      largest_small : nat_abs (highs W H D set block 0) ≤ 1048576
      largest_small =
          subst (λ (v : ℤ). nat_abs v ≤ 1048576) (sym (largest-rows W H (slice_rows (slices_of W H D 0) set block 0) (line first) f.width.0 f.height.0 first_rows))
          (extreme_has _ (λ v. nat_abs v ≤ 1048576) (line first) (W * H) _ (largest_is (line first) (W * H) some) first_small)

-- all of them straightened, the block is
pub all_placed : (W H D : ℕ) (set : Setting) (block list list' : List ℤ) → length list' ≡ length list → W * H * D ≤ length list
    → Placed (straight W H D 0 set block) (D * (W * H)) list list' → list' ≡ straighten_block W H D 0 set block ++ drop (W * H * D) list
unfolding straighten_block
all_placed W H D set block list list' same long done =
    placed_list (straight W H D 0 set block) (W * H * D) list list' same long
    (subst (λ (m : ℕ). Placed (straight W H D 0 set block) m list list') (mul_comm D (W * H)) done)
