-- `weigh_four` weighs row after row of work, each at the f of its line. Assumes nothing.
use Prim.Native.Nat.{ℕ, ◌+◌, ◌*◌, ◌≤◌, ◌<◌}
use mathlib.Core.Path.{◌≡◌, sym, ◌∙◌, subst}
use mathlib.Core.List.{List}
use native.Mathlib.Omega.{arith}
use lib.IntN.{ℤ}
use lib.ListN.{length}
use mir.Syntax.{w32}
use Rattle.arith.proofs.Machine.{read_back}
use Rattle.arith.proofs.Move.{fraction_low, fraction_below}
use Rattle.lists.specs.Grid.{row_of}
use Rattle.lists.proofs.Rows.{row_length}
use Rattle.moves.specs.InPlace.{weighed_size}
use Rattle.moves.specs.declared.Part.{Part}
use Rattle.moves.proofs.Kept.{part_length}
use Rattle.grid.specs.Four.{FourPartWithin}
use Rattle.grid.proofs.Rows.{treated_none, treated_next, treated_more, treated_row}
use Rattle.shears.specs.declared.Shear.{Shear}
use Rattle.shears.specs.Pass.{weighed_at}
use Rattle.shears.proofs.weigh_four.Goals as goal

-- a row keeps its places
keeps : (h : Shear) (n y m : ℕ) (part : Part) (work : List ℤ) → 4 * m ≤ length work → part.lo < part.hi → part.hi ≤ m → (i : ℕ) → i < 4
    → length (weighed_at h n (y + i) part (row_of m work i)) ≡ m
keeps h n y m part work room some end i l =
    let len = row_length m work i 4 l room in
    part_length h.kernel _ part (row_of m work i) some (omega (arith, len, end)) ∙ len

pub loop-i-init : goal.loop-i-init
loop-i-init c = treated_none _ _ _

pub weigh_part-requires : goal.weigh_part-requires
weigh_part-requires c =
    let a = c.args in
    let m = c.places_of-m.result in
    let l = c.requires.lo_lt_hi in
    let room : 4 * m ≤ length a.work.now = omega (arith, c.places_of-m.ensures, c.requires.movable.roomy) in
    let end : a.part.hi ≤ m = omega (arith, c.places_of-m.ensures, l.1) in
    let keep = keeps a.shear a.n a.y m a.part a.work.now room l.0 end in
    let small = subst (λ (n : ℕ). FourPartWithin n a.part (weighed_size a.shear.kernel) a.work.now) (sym c.places_of-m.ensures) l.2 in
    rw (
      treated_next m (λ (i : ℕ). weighed_at a.shear a.n (a.y + i) a.part) a.work.now room keep c.loop-i.i c.loop-i.work (omega arith) c.loop-i.invariant,
      row_length m a.work.now c.loop-i.i 4 (omega arith) room,
      read_back w32 _ c.fraction-f.type_inv,
      c.fraction-f.ensures,
    )
    record { lo_lt_hi = (l.0, end, (fraction_low _, fraction_below _)); part_within = small c.loop-i.i (omega arith) }

pub loop-i-preserved : goal.loop-i-preserved
loop-i-preserved c =
    let a = c.args in
    let m = c.places_of-m.result in
    let l = c.requires.lo_lt_hi in
    let room : 4 * m ≤ length a.work.now = omega (arith, c.places_of-m.ensures, c.requires.movable.roomy) in
    let end : a.part.hi ≤ m = omega (arith, c.places_of-m.ensures, l.1) in
    let f = read_back w32 _ c.fraction-f.type_inv ∙ c.fraction-f.ensures in
    treated_more m (λ (i : ℕ). weighed_at a.shear a.n (a.y + i) a.part) a.work.now room (keeps a.shear a.n a.y m a.part a.work.now room l.0 end) c.loop-i.i c.loop-i.work _ (omega arith) c.loop-i.invariant
    (rw f at c.weigh_part.ensures)

pub returns : goal.returns
returns c =
    let a = c.args in
    let m = c.places_of-m.result in
    let l = c.requires.lo_lt_hi in
    let room : 4 * m ≤ length a.work.now = omega (arith, c.places_of-m.ensures, c.requires.movable.roomy) in
    let end : a.part.hi ≤ m = omega (arith, c.places_of-m.ensures, l.1) in
    let e : c.loop-i.i ≡ 4 = omega arith in
    λ (i : ℕ) (h : i < 4).
    subst (λ (n : ℕ). row_of n c.loop-i.work i ≡ weighed_at a.shear a.n (a.y + i) a.part (row_of n a.work.now i)) c.places_of-m.ensures
    (rw (c.loop-i.invariant, e) (treated_row m (λ (i : ℕ). weighed_at a.shear a.n (a.y + i) a.part) a.work.now room (keeps a.shear a.n a.y m a.part a.work.now room l.0 end) i h))
