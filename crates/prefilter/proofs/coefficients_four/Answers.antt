-- `coefficients_four`: u in place in the four lines, and then c. Assumes nothing.
use mathlib.Core.Path.{refl, sym, ap, ◌∙◌}
use mathlib.Core.List.{List, ◌++◌}
use native.Mathlib.Omega.{arith}
use lib.IntN.{ℤ}
use lib.ListN.{take, drop, length-take}
use Rattle.std.proofs.lemmas.List.{take-append-drop}
use Rattle.prefilter.specs.InPlace.{FourWithin}
use Rattle.prefilter.proofs.Four.{Parts, parts_later, parts_within, risen_four, parts_made}
use Rattle.prefilter.proofs.coefficients_four.Goals as goal
use Rattle.prefilter.proofs.coefficients_four.Goals.{After-split_at_mut-c}

-- the four lines as they are split off
module _ (s : After-split_at_mut-c) where
  abbrev a : List ℤ
  a = s.split_at_mut-a.result.0.now

  abbrev b : List ℤ
  b = s.split_at_mut-b.result.0.now

  abbrev c : List ℤ
  c = s.split_at_mut-c.result.0.now

  abbrev rest : List ℤ
  rest = s.split_at_mut-c.result.1.now

  abbrev d : List ℤ
  d = take s.args.n rest

  abbrev later : List ℤ
  later = drop s.args.n rest

  parts : Parts s.args.n s.args.work.now a b c d later
  parts = record {
    whole =
        s.split_at_mut-a.ensures.value
        ∙ ap (λ (t : List ℤ). a ++ t)
        (s.split_at_mut-b.ensures.value
        ∙ ap (λ (t : List ℤ). b ++ t) (s.split_at_mut-c.ensures.value ∙ ap (λ (t : List ℤ). c ++ t) (sym (take-append-drop s.args.n rest))));
    first = s.split_at_mut-a.ensures.front_len;
    second = s.split_at_mut-b.ensures.front_len;
    third = s.split_at_mut-c.ensures.front_len;
    fourth = simp length-take (omega (arith, s.requires.le_n.2));
  }

  given : FourWithin 294912 a b c d
  given = parts_within s.requires.le_n s.requires.by_index parts

pub upward_four-requires : goal.upward_four-requires
upward_four-requires s = given (goal.at.upward_four-requires s).After-split_at_mut-c

pub downward_four-requires : goal.downward_four-requires
downward_four-requires s =
    risen_four (given (goal.at.downward_four-requires s).After-split_at_mut-c) _ _ _ _ s.upward_four.ensures.first s.upward_four.ensures.last

pub returns : goal.returns
returns s =
    let x = (goal.at.returns s).After-split_at_mut-c in
    let p = parts x in
    let up = s.upward_four in
    let down = s.downward_four in
    let y = down.new in
    let q : Parts s.args.n (y.a ++ (y.b ++ (y.c ++ (y.d ++ later x)))) y.a y.b y.c y.d (later x) =
    record {
      whole = refl;
      first = down.auto.a ∙ up.auto.a ∙ p.first;
      second = down.auto.b ∙ up.auto.b ∙ p.second;
      third = down.auto.c ∙ up.auto.c ∙ p.third;
      fourth = down.auto.d ∙ up.auto.d ∙ p.fourth;
    }
    in record {
      by_index_2 = parts_made (given x) _ _ _ _ up.ensures.first up.ensures.last p q down.ensures.first down.ensures.last;
      work_unchanged = parts_later q ∙ sym (parts_later p);
    }
