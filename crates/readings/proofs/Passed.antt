-- What an accepted call has passed. Assumes nothing.
use Prim.Native.Nat.{ℕ, ◌+◌, ◌*◌, ◌≤◌, ◌<◌}
use mathlib.Core.Path.{◌≡◌, refl}
use mathlib.Core.List.{List, [], ◌∷◌}
use native.Mathlib.Nat.{mul-le-mul, mul-pos}
use native.Mathlib.Omega.{arith}
use lib.Dec.{leb}
use lib.IntN.{ℤ, pos}
use lib.ListN.{length, take}
use lib.Seq.{get_or-take, length-take-le}
use borrow.Author.Tests.{leb-false, le-ltb, ne_eqb}
use Rattle.lists.proofs.Rows.{row_in}
use Rattle.std.specs.Prelude.{Result, Ok, Err}
use Rattle.refusals.specs.declared.Refusal.{Refusal}
use Rattle.refusals.specs.declared.Refusal.TheVariants.{BadSize, TooShort, BadSample, Outside, BadMove}
use Rattle.refusals.specs.Tests.{bad_side, bad_size, short, beyond_of, first_from, first_bad, AllWithin}
use Rattle.refusals.specs.Judging.{Verdict, accepted, refused_if, of_found, and_then}
use Rattle.refusals.proofs.Tests.{or_false, size_good, short_good}
use Rattle.refusals.proofs.First.{nothing_bad}
use Rattle.refusals.proofs.Judging.{refused_if-accepted, of_found-accepted, and_then-accepted}
use Rattle.readings.specs.Answers.{range, judged_as, judged_by, judged, outside, judged_point}

-- a call's own number is told after 2 and ahead of 6, computed of a picture of one bad sample
bad : List ℤ
bad = pos 1048577 ∷ []

own_between : (judged_by 1 1 0 (Err BadMove) bad ≡ Err TooShort) × (judged_by 1 1 1 (Err BadMove) bad ≡ Err BadMove)
unfolding bad judged_by bad_size bad_side short first_bad first_from beyond_of
own_between = (refl, refl)

-- a picture has at least one sample and at most 1,024 times 1,024, the shortest buffer of `places` places has room for them, and they are
-- in their range
pub record Passed (width height places : ℕ) (picture : List ℤ) : Type 0 where
  pub sides : (width ≤ 1024) × (height ≤ 1024)
  pub wide : 1 ≤ width
  pub tall : 1 ≤ height
  pub some : 1 ≤ height * width
  pub few : height * width ≤ 1048576
  pub room : height * width ≤ places
  pub within : AllWithin range (height * width) picture

-- a call whose own refusals may be of any type
module _ {E : Type 0} (told : Refusal → E) (width height places : ℕ) (own : Result Unit E) (picture : List ℤ) where
  -- an accepted call has passed these, and its own number
  pub passed_as : judged_as told width height places own picture ≡ Ok tt → Passed width height places picture × (own ≡ Ok tt)
  passed_as e =
      let scan = of_found (λ p. told (BadSample p)) (first_bad range width height picture) in
      let a = refused_if-accepted (bad_size width height) (told BadSize) (refused_if (short places (height * width)) (told TooShort) (and_then own scan)) _ e in
      let b = refused_if-accepted (short places (height * width)) (told TooShort) (and_then own scan) _ a.1 in
      let d = and_then-accepted own scan _ b.1 in
      let size = size_good a.0 in (
        record {
          sides = (size.0.1, size.1.1);
          wide = size.0.0;
          tall = size.1.0;
          some = mul-pos size.1.0 size.0.0;
          few = mul-le-mul size.1.1 size.0.1;
          room = short_good b.0;
          within = (nothing_bad range width height picture).0 (of_found-accepted (λ p. told (BadSample p)) (first_bad range width height picture) d.1);
        },
        d.0,
      )

  -- and one that has is accepted
  pub as_accepted : Passed width height places picture → own ≡ Ok tt → judged_as told width height places own picture ≡ Ok tt
  unfolding bad_size bad_side short
  as_accepted p e =
      rw (
        ne_eqb width 0 (some p.wide),
        le-ltb 1024 width p.sides.0,
        ne_eqb height 0 (some p.tall),
        le-ltb 1024 height p.sides.1,
        le-ltb places (height * width) p.room,
        e,
        (nothing_bad range width height picture).1 p.within,
      )
      refl
    where
      some : {n : ℕ} → 1 ≤ n → n ≡ 0 → ⊥
      some h e = omega arith

-- the same where they are among the shared ones
module _ (width height places : ℕ) (own : Verdict) (picture : List ℤ) where
  pub passed_by : judged_by width height places own picture ≡ accepted → Passed width height places picture × (own ≡ accepted)
  unfolding judged_by
  passed_by e = passed_as (λ refusal. refusal) width height places own picture e

  pub by_accepted : Passed width height places picture → own ≡ accepted → judged_by width height places own picture ≡ accepted
  unfolding judged_by
  by_accepted p e = as_accepted (λ refusal. refusal) width height places own picture p e

pub passed : (width height places : ℕ) (picture : List ℤ) → judged width height places picture ≡ accepted → Passed width height places picture
unfolding judged judged_by
passed width height places picture e = (passed_by width height places accepted picture e).0

-- the first n samples, as a list of their own
pub within_first : (n : ℕ) (s : List ℤ) → n ≤ length s → AllWithin range n s → AllWithin range (length (take n s)) (take n s)
within_first n s room h i l = let k : i < n = rw (length-take-le n s room) at l in rw (get_or-take n s i (pos 0) k) (h i k)

-- with a point in it
pub record PassedPoint (width height column row : ℕ) (picture : List ℤ) : Type 0 where
  pub picture_passed : Passed width height (length picture) picture
  pub row_inside : row < height
  pub column_inside : column < width
  pub inside : row * width + column < height * width

module _ (width height column row : ℕ) (picture : List ℤ) where
  pub passed_point : judged_point width height column row picture ≡ accepted → PassedPoint width height column row picture
  unfolding judged_point outside
  passed_point e =
      let a = and_then-accepted (judged width height (length picture) picture) (refused_if (outside width height column row) Outside accepted) _ e in
      let b = or_false (leb width column) (leb height row) (refused_if-accepted (outside width height column row) Outside accepted _ a.1).0 in
      let r = leb-false height row b.1 in
      let c = leb-false width column b.0 in
      record {
        picture_passed = passed width height (length picture) picture a.0;
        row_inside = r;
        column_inside = c;
        inside = omega (arith, row_in width height row r);
      }
