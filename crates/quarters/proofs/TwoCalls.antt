-- Two moves in a row answer and leave what the one move does that the table names (`as_one`); a move and then the one that undoes it leave the picture
-- (`back_again`). The second call is accepted wherever its buffer has room. Assumes nothing.
use Prim.Native.Nat.{ℕ, ◌+◌, ◌*◌, ◌≤◌, ◌<◌, min}
use mathlib.Core.Path.{◌≡◌, refl, sym, ap, ◌∙◌, subst}
use mathlib.Core.List.{List}
use native.Mathlib.Nat.{mul_comm, mul-pos, mul-le-mul}
use native.Mathlib.Omega.{arith}
use lib.IntN.{ℤ, nat_abs}
use lib.ListN.{length}
use Rattle.lists.specs.Picture.{picture}
use Rattle.lists.proofs.Picture.{inside, picture_at, at_index}
use Rattle.std.specs.Prelude.{Ok}
use Rattle.refusals.specs.Tests.{AllWithin}
use Rattle.refusals.specs.Judging.{accepted, number_of}
use Rattle.readings.specs.Answers.{range}
use Rattle.readings.proofs.Passed.{Passed}
use Rattle.arrangements.specs.Moves.{Screen, screen, moved}
use Rattle.arrangements.specs.Table.{entry, inverse_of}
use Rattle.arrangements.proofs.Screens.{Same, same_trans, stored_same, stored-screen}
use Rattle.arrangements.proofs.Views.{moved_same, moved_sides, moved_from}
use Rattle.arrangements.proofs.Table.{rule, moved_twice, moved_undone}
use Rattle.quarters.specs.Answer.{judged, Moved, width_of, height_of, size_after, moved_answer, PictureMoved}
use Rattle.quarters.specs.TwoCalls.{InARow, AsOne, Back}
use Rattle.quarters.proofs.Accepted.{fit_accepted}
use Rattle.quarters.proofs.Calls.{was_fit, was_width, was_height, was_area, was_room, was_long, was_screen}

-- ---- what an accepted move leaves can be moved again
module _ {W H a : ℕ} {s mid mid' : List ℤ} {r : Moved} (o : PictureMoved W H a s mid mid' r) (none : number_of r ≡ 0) where
  abbrev p : Screen ℤ
  p = screen W H s

  f : Passed W H (min (length s) (length mid)) s
  f = (was_fit o none).0

  known : a < 8
  known = (was_fit o none).1

  -- a side of 1 to 1,024
  abbrev Side : ℕ → Type 0
  Side n = (1 ≤ n) × (n ≤ 1024)

  sides : Side (width_of r) × Side (height_of r)
  sides = rw (was_width o none, was_height o none) (moved_sides p a known Side (f.wide, f.sides.0) (f.tall, f.sides.1))

  same : Same (screen (width_of r) (height_of r) mid') (moved a p)
  same = was_screen o none

  -- every sample is one of the picture's
  each : (y x : ℕ) → y < height_of r → x < width_of r → nat_abs (picture (width_of r) mid' y x) ≤ range
  unfolding picture
  each y x ly lx =
      rw (same.at y x ly lx)
      (moved_from p a known (λ (z : ℤ). nat_abs z ≤ range) (λ i k li lk. f.within (i * W + k) (omega (arith, inside W H i k li lk, mul_comm H W)))
      y x (rw (← same.height) ly) (rw (← same.width) lx))

  within : AllWithin range ((height_of r) * (width_of r)) mid'
  within i l =
      subst (λ (z : ℤ). nat_abs z ≤ range) (picture_at (width_of r) mid' i)
      (at_index (λ y x. nat_abs (picture (width_of r) mid' y x) ≤ range) sides.0.0 each i (omega (arith, mul_comm (height_of r) (width_of r))))

  pub again_passed : (old : List ℤ) → W * H ≤ length old → Passed (width_of r) (height_of r) (min (length mid') (length old)) mid'
  again_passed old room =
      record {
        sides = (sides.0.1, sides.1.1);
        wide = sides.0.0;
        tall = sides.1.0;
        some = mul-pos sides.1.0 sides.0.0;
        few = mul-le-mul sides.1.1 sides.0.1;
        room = omega (arith, mul_comm (height_of r) (width_of r), was_area o none, (was_room o none).1, was_long o none);
        within = within;
      }

-- a call that is judged accepted answers the size
answers : {W H m : ℕ} {s old new : List ℤ} {r : Moved} → PictureMoved W H m s old new r → judged W H m (min (length s) (length old)) s ≡ accepted
    → r ≡ Ok (size_after W H m s)
unfolding moved_answer
answers o e = o.answer ∙ rw e refl

-- ---- two moves in a row
module _ {W H a b : ℕ} {s mid mid' : List ℤ} {r : Moved} {old new : List ℤ} {r₂ : Moved} (c : InARow W H a b s mid mid' r old new r₂) where
  abbrev q : Screen ℤ
  q = screen (width_of r) (height_of r) mid'

  first_known : a < 8
  first_known = (was_fit c.first c.accepted).1

  second : judged (width_of r) (height_of r) b (min (length mid') (length old)) mid' ≡ accepted
  second = fit_accepted (width_of r) (height_of r) b _ mid' (again_passed c.first c.accepted old c.room) c.known

  second_accepted : r₂ ≡ Ok (size_after (width_of r) (height_of r) b mid')
  second_accepted = answers c.second second

  wide : 0 < (moved b q).width
  wide = let n = again_passed c.first c.accepted old c.room in (moved_sides q b c.known (λ n. 0 < n) n.wide n.tall).0

  -- it shows what both moves make of the picture
  twice : Same (moved b q) (moved b (moved a (screen W H s)))
  twice = moved_same b q (moved a (screen W H s)) c.known (was_screen c.first c.accepted)

  pub as_one : {r₁ : Moved} {one : List ℤ} → PictureMoved W H (entry a b) s old one r₁ → AsOne r₂ new r₁ one
  as_one {r₁} {one} d =
      record {
        accepted = ap number_of second_accepted;
        answer = second_accepted ∙ rw (both.width, both.height) (sym (answers d alone));
        result =
            c.second.written
            ∙ rw (second_accepted, was_area c.first c.accepted, stored_same (moved b q) (moved (entry a b) (screen W H s)) wide both)
            (sym (d.written ∙ rw (answers d alone) refl));
      }
    where
      both : Same (moved b q) (moved (entry a b) (screen W H s))
      both = same_trans (moved b q) (moved b (moved a (screen W H s))) (moved (entry a b) (screen W H s)) twice (moved_twice a b first_known c.known (screen W H s))

      alone : judged W H (entry a b) (min (length s) (length old)) s ≡ accepted
      alone =
          let f = (was_fit c.first c.accepted).0 in
          fit_accepted W H (entry a b) _ s
          (record {
            sides = f.sides;
            wide = f.wide;
            tall = f.tall;
            some = f.some;
            few = f.few;
            room = omega (arith, f.room, mul_comm H W, c.room);
            within = f.within;
          })
          (rule a b first_known c.known).known

-- ---- a move, and then the one that undoes it
pub back_again : {W H a : ℕ} {s mid mid' : List ℤ} {r : Moved} {old new : List ℤ} {r₂ : Moved} → InARow W H a (inverse_of a) s mid mid' r old new r₂ → Back W H s old new r₂
back_again {W} {H} {a} {s} {mid} {mid'} {r} {old} {new} {r₂} c =
    record {
      accepted = ap number_of (second_accepted c);
      width = was_width c.second (ap number_of (second_accepted c)) ∙ back.width;
      height = was_height c.second (ap number_of (second_accepted c)) ∙ back.height;
      result =
          c.second.written
          ∙ rw (second_accepted c, was_area c.first c.accepted, stored_same (moved (inverse_of a) (q c)) (screen W H s) (wide c) back, stored-screen W H s (was_room c.first c.accepted).0)
          refl;
    }
  where
    back : Same (moved (inverse_of a) (q c)) (screen W H s)
    back = same_trans (moved (inverse_of a) (q c)) (moved (inverse_of a) (moved a (screen W H s))) (screen W H s) (twice c) (moved_undone a (first_known c) (screen W H s)).0
