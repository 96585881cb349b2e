-- The table of eight by eight: one test is computed at all 64 entries (`rule`), and by it two moves in a row are the one move that the table names, for every
-- picture of every size (`moved_twice`); every move is undone by one (`moved_undone`). Assumes nothing.
use Prim.Native.Nat.{ℕ, ◌<◌}
use mathlib.Core.Path.{◌≡◌, refl, ap, ◌∙◌, subst}
use mathlib.Core.Bool.{Bool, true, false, cond, not}
use mathlib.Core.List.{[]}
use native.Mathlib.Omega.{arith}
use lib.Dec.{T, ltb}
use lib.ListN.{length, get_or}
use borrow.Author.Tests.{ltb-true}
use Rattle.lists.proofs.Table.{both, both_left, both_right, every, at}
use Rattle.arrangements.specs.Moves.{Screen, turns, moved}
use Rattle.arrangements.specs.Views.{swaps, from_right, from_below}
use Rattle.arrangements.specs.Table.{table, entry, inverse_of}
use Rattle.arrangements.proofs.Facing.{differ}
use Rattle.arrangements.proofs.Screens.{Same, same_sym, same_trans}
use Rattle.arrangements.proofs.Views.{eight, view, moved-viewed, viewed_twice, viewed_same}

-- two tests answer alike
alike : Bool → Bool → Bool
alike a b = not (differ a b)

alike_eq : (a b : Bool) → T (alike a b) → a ≡ b
unfolding alike
alike_eq true true t = refl
alike_eq true false t = absurd t
alike_eq false true t = absurd t
alike_eq false false t = refl

yes_true : (a : Bool) → T a → a ≡ true
yes_true true t = refl
yes_true false t = absurd t

-- the three tests of move a and then move b, as those of one move
abbrev both_swap : ℕ → ℕ → Bool
both_swap a b = differ (swaps a) (swaps b)

abbrev right_of_both : ℕ → ℕ → Bool
right_of_both a b = differ (from_right a) (cond (swaps a) (from_below b) (from_right b))

abbrev both_below : ℕ → ℕ → Bool
both_below a b = differ (from_below a) (cond (swaps a) (from_right b) (from_below b))

-- e is one of the eight moves, and its tests are those
test : ℕ → ℕ → ℕ → Bool
test a b e = both (ltb e 8) (both (alike (swaps e) (both_swap a b)) (both (alike (from_right e) (right_of_both a b)) (alike (from_below e) (both_below a b))))

pub record Rule (a b e : ℕ) : Type 0 where
  pub known : e < 8
  pub swap : swaps e ≡ both_swap a b
  pub right : from_right e ≡ right_of_both a b
  pub below : from_below e ≡ both_below a b

test_rule : (a b e : ℕ) → T (test a b e) → Rule a b e
unfolding test
test_rule a b e t =
    let u = both_right (ltb e 8) _ t in
    let v = both_right (alike (swaps e) (both_swap a b)) _ u in
    record {
      known = ltb-true e 8 (yes_true (ltb e 8) (both_left (ltb e 8) _ t));
      swap = alike_eq _ _ (both_left (alike (swaps e) (both_swap a b)) _ u);
      right = alike_eq _ _ (both_left (alike (from_right e) (right_of_both a b)) _ v);
      below = alike_eq _ _ (both_right (alike (from_right e) (right_of_both a b)) _ v);
    }

-- the rule at all 64 entries, computed row after row
row_rule : (a : ℕ) → a < 8 → T (every (test a) 0 (get_or table a []))
unfolding test alike swaps from_right from_below
row_rule = eight (λ a. T (every (test a) 0 (get_or table a []))) tt tt tt tt tt tt tt tt

row_length : (a : ℕ) → a < 8 → length (get_or table a []) ≡ 8
row_length = eight (λ a. length (get_or table a []) ≡ 8) refl refl refl refl refl refl refl refl

pub rule : (a b : ℕ) → a < 8 → b < 8 → Rule a b (entry a b)
unfolding entry
rule a b la lb = test_rule a b (get_or (get_or table a []) b 0) (at (test a) (get_or table a []) (row_rule a la) b (rw (row_length a la) lb))

-- ---- two moves in a row
module _ {A : Type 0} where
  pub moved_twice : (a b : ℕ) → a < 8 → b < 8 → (p : Screen A) → Same (moved b (moved a p)) (moved (entry a b) p)
  moved_twice a b la lb p =
      let r = rule a b la lb in
      same_trans (moved b (moved a p)) (view b (moved a p)) (moved (entry a b) p) (moved-viewed (moved a p) b lb)
      (same_trans (view b (moved a p)) (view b (view a p)) (moved (entry a b) p)
      (viewed_same (swaps b) (from_right b) (from_below b) (moved a p) (view a p) (moved-viewed p a la))
      (same_trans (view b (view a p)) (view (entry a b) p) (moved (entry a b) p)
      (rw (r.swap, r.right, r.below) (viewed_twice (swaps a) (swaps b) (from_right a) (from_right b) (from_below a) (from_below b) p))
      (same_sym (moved (entry a b) p) (view (entry a b) p) (moved-viewed p (entry a b) r.known))))

  -- move 0 leaves the picture
  moved_none : (p : Screen A) → moved 0 p ≡ p
  unfolding moved turns
  moved_none p = refl

-- ---- the move that undoes one
pub record Inverse (a i : ℕ) : Type 0 where
  pub known : i < 8
  pub after : entry a i ≡ 0
  pub before : entry i a ≡ 0
  pub again : inverse_of i ≡ a

pub inverse : (a : ℕ) → a < 8 → Inverse a (inverse_of a)
unfolding inverse_of entry
inverse =
    eight (λ a. Inverse a (inverse_of a))
    (record { known = omega arith; after = refl; before = refl; again = refl })
    (record { known = omega arith; after = refl; before = refl; again = refl })
    (record { known = omega arith; after = refl; before = refl; again = refl })
    (record { known = omega arith; after = refl; before = refl; again = refl })
    (record { known = omega arith; after = refl; before = refl; again = refl })
    (record { known = omega arith; after = refl; before = refl; again = refl })
    (record { known = omega arith; after = refl; before = refl; again = refl })
    (record { known = omega arith; after = refl; before = refl; again = refl })

-- a move and then the one that undoes it, and the other way round
pub moved_undone : {A : Type 0} (a : ℕ) → a < 8 → (p : Screen A) → Same (moved (inverse_of a) (moved a p)) p × Same (moved a (moved (inverse_of a) p)) p
moved_undone {A} a l p =
    let i = inverse a l in (
      subst (λ (q : Screen A). Same (moved (inverse_of a) (moved a p)) q) (ap (λ (m : ℕ). moved m p) i.after ∙ moved_none p) (moved_twice a (inverse_of a) l i.known p),
      subst (λ (q : Screen A). Same (moved a (moved (inverse_of a) p)) q) (ap (λ (m : ℕ). moved m p) i.before ∙ moved_none p) (moved_twice (inverse_of a) a i.known l p),
    )
