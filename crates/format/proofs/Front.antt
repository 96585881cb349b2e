-- Text at the front of a buffer: pieces behind each other, spelt and closed, where it fits. Assumes nothing.
use Prim.Native.Nat.{ℕ, suc, ◌+◌, ◌-◌, ◌≤◌, ◌<◌}
use mathlib.Core.List.{List, [], ◌∷◌, ◌++◌, map, append_assoc}
use mathlib.Core.Path.{◌≡◌, refl, sym, ap, ◌∙◌}
use native.Mathlib.Nat.{add-sub_cancel_left}
use native.Mathlib.Numerals.{add-one}
use native.Mathlib.Omega.{arith}
use borrow.Author.Tests.{le-leb, lt-leb}
use borrow.Rule.Slice.PartMut.{put_mid}
use lib.ListN.{length, take, drop, set, length-append, length-map, length-take, length-drop}
use lib.Seq.{take_at, drop_at, drop-drop, drop-cons, set_at}
use Rattle.std.specs.Prelude.{Ok, Err}
use Rattle.refusals.specs.declared.Refusal.TheVariants.{TooShort}
use Rattle.digits.proofs.Place.{length-places}
use Rattle.digits.specs.Digit.{places_of, spelt}
use Rattle.format.specs.Room.{fitted, written_of, Written, Front, piece_at, closed}

-- a text that has room, and one that has none
pub fits : (text d after : List ℕ) (n : ℕ) → length text ≡ n → n ≤ length d → Front text d after → Written text d after (Ok n)
unfolding fitted written_of
fits text d after n l h f =
    record {
      holds = rw (le-leb (length text) (length d) (omega arith)) f.stands;
      answer = rw (le-leb (length text) (length d) (omega arith)) (ap Ok (sym l));
    }

pub too_long : (text d : List ℕ) (n : ℕ) → length text ≡ n → length d < n → Written text d d (Err TooShort)
unfolding fitted written_of
too_long text d n l h = record { holds = rw (lt-leb (length text) (length d) (omega arith)) refl; answer = rw (lt-leb (length text) (length d) (omega arith)) refl }

-- nothing stands; and a piece behind what stands
pub front_none : (d : List ℕ) → Front [] d d
front_none d = record { stands = refl }

pub front_more : (text piece d d1 d2 : List ℕ) (at : ℕ) → length text ≡ at → Front text d d1 → d2 ≡ piece_at at piece d1 → Front (text ++ piece) d d2
unfolding piece_at
front_more text piece d d1 d2 at l f e =
    record {
      stands = rw (
        e,
        f.stands,
        l,
        take_at text (drop at d) at l,
        ← drop-drop (length piece) at (text ++ drop at d),
        drop_at text (drop at d) at l,
        drop-drop (length piece) at d,
        length-append text piece,
        l,
        append_assoc,
      ) refl;
    }

-- a text spelt and closed
pub front_closed : (text d d1 d2 : List ℕ) (n : ℕ) → length text ≡ n → n < length d → Front text d d1 → d2 ≡ closed n d1
    → Written (map spelt text ++ (10 ∷ [])) d d2 (Ok (n + 1))
unfolding closed
front_closed text d d1 d2 n l h f e =
    let k : length (map spelt text ++ (10 ∷ [])) ≡ n + 1 = simp (length-append, length-map) (omega arith) in
    let s : d1 ≡ text ++ drop n d = rw l at f.stands in
    fits (map spelt text ++ (10 ∷ [])) d d2 (n + 1) k (omega arith)
    (record { stands = rw (k, e, s, take_at text (drop n d) n l, ← drop-drop 1 n (text ++ drop n d), drop_at text (drop n d) n l, drop-drop 1 n d, append_assoc) refl })

-- the end of a text written over the place behind its last
pub closed_by : (last d : List ℕ) (n : ℕ) → n < length d → last ≡ map spelt (take n d) → set (last ++ drop n d) n 10 ≡ closed n d
unfolding closed
closed_by last d n h e =
    let l : length (map spelt (take n d)) ≡ n = simp (length-map, length-take) (omega arith) in
    rw (e, add-one, drop-cons d n 0 h) (set_at (map spelt (take n d)) _ (drop (suc n) d) 10 n l)

-- a part that is filled is a piece at its place
pub piece_part : (at n : ℕ) (out piece : List ℕ) → length piece ≡ n → put_mid at (at + n - at) out piece ≡ piece_at at piece out
unfolding piece_at
piece_part at n out piece l = rw (add-sub_cancel_left at n, drop-drop n at out, l) refl

pub piece_places : (at n v : ℕ) (out last : List ℕ) → at + n ≤ length out
    → last ≡ places_of (length (take (at + n - at) (drop at out))) v → put_mid at (at + n - at) out last ≡ piece_at at (places_of n v) out
piece_places at n v out last h e =
    let k : length (take n (drop at out)) ≡ n = simp (length-take, length-drop) (omega arith) in
    let f : last ≡ places_of n v = e ∙ rw (add-sub_cancel_left at n, k) refl in
    rw f (piece_part at n out (places_of n v) (length-places n v))
