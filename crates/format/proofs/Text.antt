-- The texts of answers, and the places that spell them. Assumes nothing.
use Prim.Native.Nat.{ℕ, zero, suc, ◌+◌, ◌*◌, ◌-◌, ◌≤◌, ◌<◌}
use mathlib.Core.List.{List, [], ◌∷◌, ◌++◌, map, append_assoc, append-nil, map-append}
use mathlib.Core.Path.{◌≡◌, refl, ◌∙◌}
use native.Mathlib.Omega.{arith}
use borrow.Rule.Slice.PartMut.{put_mid}
use lib.IntN.{ℤ, pos}
use lib.ListN.{length, drop, get_or, length-append, length-map, drop_of_length-le}
use lib.Seq.{drop-drop}
use Rattle.std.specs.Prelude.{Ok}
use Rattle.digits.proofs.Place.{length-places, length_digits, spelt-places}
use Rattle.digits.specs.Digit.{places_of, hex_digits, spelt, word32}
use Rattle.lists.proofs.Rows.{cat-length, cat_more}
use Rattle.lists.specs.Tab.{cat}
use Rattle.format.specs.Answer.{refusal_text, samples_text, accepted_text}
use Rattle.format.specs.Room.{Written, Front, piece_at, head_places, sample_places, closed}
use Rattle.format.proofs.Front.{front_none, front_more, front_closed, piece_part}

-- the places of sample k
abbrev pub sample_at8 : List ℤ → ℕ → List ℕ
sample_at8 samples k = places_of 8 (word32 (get_or samples k (pos 0)))

pub length_head : (a b c : ℕ) → length (head_places a b c) ≡ 10
unfolding head_places
length_head a b c = simp (length-append, length-places)

pub length_samples : (samples : List ℤ) → length (sample_places samples) ≡ 8 * length samples
unfolding sample_places
length_samples samples =
    omega (arith, cat-length (sample_at8 samples) 8 (length samples) (λ y l. length-places 8 _) (length samples) (omega arith))

-- samples written one after the other
pub samples_none : (samples : List ℤ) (d : List ℕ) → d ≡ cat (sample_at8 samples) 0 ++ drop (0 * 8) d
unfolding cat
samples_none samples d = refl

pub samples_more : (samples : List ℤ) (d : List ℕ) (k v : ℕ) → k ≤ length samples → v ≡ word32 (get_or samples k (pos 0))
    → piece_at (k * 8) (places_of 8 v) (cat (sample_at8 samples) k ++ drop (k * 8) d) ≡ cat (sample_at8 samples) (k + 1) ++ drop ((k + 1) * 8) d
unfolding piece_at
samples_more samples d k v h e =
    rw (e, length-places 8 (word32 (get_or samples k (pos 0))), ← drop-drop 8 (k * 8) (cat (sample_at8 samples) k ++ drop (k * 8) d))
    (cat_more (sample_at8 samples) 8 (length samples) (λ y l. length-places 8 _) k (k * 8) d h refl)

pub samples_all : (samples : List ℤ) (d out : List ℕ) (k : ℕ) → k ≡ length samples → length d ≡ 8 * length samples
    → out ≡ cat (sample_at8 samples) k ++ drop (k * 8) d → out ≡ sample_places samples
unfolding sample_places
samples_all samples d out k e l h = h ∙ rw (drop_of_length-le d {i = k * 8} (omega arith), e) (append-nil _)

-- spelt, they are the texts
pub spelt_head : (a b c : ℕ) → map spelt (head_places a b c) ≡ hex_digits 2 a ++ (hex_digits 4 b ++ hex_digits 4 c)
unfolding head_places
spelt_head a b c = simp (map-append, spelt-places)

pub spelt_samples : (samples : List ℤ) → map spelt (sample_places samples) ≡ samples_text samples
unfolding sample_places samples_text cat
spelt_samples samples = go (length samples)
  where
    go : (n : ℕ) → map spelt (cat (sample_at8 samples) n) ≡ cat (λ k. hex_digits 8 (word32 (get_or samples k (pos 0)))) n
    go zero = refl
    go (suc n) = rw (map-append, go n, spelt-places 8 (word32 (get_or samples n (pos 0)))) refl

pub spelt_refusal : (number row column : ℕ) → map spelt (head_places number row column) ++ (10 ∷ []) ≡ refusal_text number row column
unfolding refusal_text
spelt_refusal number row column = rw (spelt_head number row column) (simp append_assoc)

pub spelt-accepted : (n W H : ℕ) (samples : List ℤ)
    → map spelt ((head_places 0 n W ++ places_of 4 H) ++ sample_places samples) ++ (10 ∷ []) ≡ accepted_text n W H samples
unfolding accepted_text
spelt-accepted n W H samples =
    rw (map-append, map-append, spelt_head 0 n W, spelt-places 4 H, spelt_samples samples) (simp append_assoc)

pub length_refusal : (number row column : ℕ) → length (refusal_text number row column) ≡ 11
unfolding refusal_text
length_refusal number row column = simp (length-append, length_digits)

pub length-accepted : (n W H : ℕ) (samples : List ℤ) → length (accepted_text n W H samples) ≡ 14 + 8 * length samples + 1
unfolding accepted_text
length-accepted n W H samples =
    rw (← spelt_samples samples) (simp (length-append, length_digits, length-map, length_samples) (omega arith))

-- places written one after the other
pub head_written : (a b c : ℕ) (d d1 d2 d3 : List ℕ) → d1 ≡ piece_at 0 (places_of 2 a) d → d2 ≡ piece_at 2 (places_of 4 b) d1 → d3 ≡ piece_at 6 (places_of 4 c) d2
    → Front (head_places a b c) d d3
unfolding head_places
head_written a b c d d1 d2 d3 e1 e2 e3 =
    let f1 = front_more [] (places_of 2 a) d d d1 0 refl (front_none d) e1 in
    let f2 = front_more (places_of 2 a) (places_of 4 b) d d1 d2 2 (length-places 2 a) f1 e2 in
    let f3 = front_more (places_of 2 a ++ places_of 4 b) (places_of 4 c) d d2 d3 6 (simp (length-append, length-places)) f2 e3 in
    rw append_assoc at f3

pub refusal_written : (number row column : ℕ) (d d1 d2 : List ℕ) (r : ℕ) → 11 ≤ length d → Front (head_places number row column) d d1
    → (r ≡ 10 + 1) × (d2 ≡ closed 10 d1) → Written (refusal_text number row column) d d2 (Ok r)
refusal_written number row column d d1 d2 r h f (e, k) =
    rw (e, ← spelt_refusal number row column)
    (front_closed (head_places number row column) d d1 d2 10 (length_head number row column) (omega arith) f k)

pub accepted_written : (n W H : ℕ) (samples : List ℤ) (d d1 d2 last d3 : List ℕ) (r : ℕ) → 14 + 8 * length samples < length d
    → Front (head_places 0 n W) d d1 → d2 ≡ piece_at 10 (places_of 4 H) d1 → last ≡ sample_places samples
    → (r ≡ 14 + 8 * length samples + 1) × (d3 ≡ closed (14 + 8 * length samples) (put_mid 14 (14 + 8 * length samples - 14) d2 last))
    → Written (accepted_text n W H samples) d d3 (Ok r)
accepted_written n W H samples d d1 d2 last d3 r room f1 e2 e3 (e, k) =
    let f2 = front_more (head_places 0 n W) (places_of 4 H) d d1 d2 10 (length_head 0 n W) f1 e2 in
    let l14 : length (head_places 0 n W ++ places_of 4 H) ≡ 14 = simp (length-append, length_head, length-places) in
    let p : put_mid 14 (14 + 8 * length samples - 14) d2 last ≡ piece_at 14 (sample_places samples) d2 =
    rw e3 (piece_part 14 (8 * length samples) d2 (sample_places samples) (length_samples samples)) in
    let f3 = front_more (head_places 0 n W ++ places_of 4 H) (sample_places samples) d d2 _ 14 l14 f2 p in
    let l : length ((head_places 0 n W ++ places_of 4 H) ++ sample_places samples) ≡ 14 + 8 * length samples = simp (length-append, length_head, length-places, length_samples) in
    rw (e, ← spelt-accepted n W H samples) (front_closed ((head_places 0 n W ++ places_of 4 H) ++ sample_places samples) d _ d3 (14 + 8 * length samples) l room f3 k)
