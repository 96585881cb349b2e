-- `levelling::level_within` meets its contract. Assumes nothing.
use mathlib.Core.Path.{◌≡◌, sym, ◌∙◌}
use mathlib.Core.Bool.{false}
use mir.Syntax.{w64}
use mir.Facts.{to_z-of_z}
use Rattle.arith.proofs.Machine.{read_back}
use Rattle.levelling.specs.Level.{largest_side, outside, any_outside}
use Rattle.levelling.proofs.Judging.{inside_largest, answer-outside, answer_inside}
use Rattle.levelling.proofs.level_within.Goals as goal
use Rattle.levelling.proofs.level_within.Goals.{After-any_outside, Else-any_outside}

-- what the test says of the coordinates themselves
told : (c : After-any_outside) → c.any_outside.result ≡ any_outside c.args.width c.args.height c.args.x1 c.args.y1 c.args.x2 c.args.y2
told c = rw (to_z-of_z c.ranges.x1, to_z-of_z c.ranges.y1, to_z-of_z c.ranges.x2, to_z-of_z c.ranges.y2) at c.any_outside.ensures

passed : (c : Else-any_outside) → let a = c.args in any_outside a.width a.height a.x1 a.y1 a.x2 a.y2 ≡ false
passed c = sym (told c.before) ∙ c.if-any_outside.false

inside : (c : Else-any_outside) → let a = c.args in
    (outside largest_side a.x1 ≡ false) × (outside largest_side a.y1 ≡ false) × (outside largest_side a.x2 ≡ false) × (outside largest_side a.y2 ≡ false)
inside c = inside_largest _ _ _ _ _ _ c.requires.0 c.requires.1 (passed c)

pub returns-then-any_outside : goal.returns-then-any_outside
returns-then-any_outside c = answer-outside _ _ _ _ _ _ (sym (told c.before) ∙ c.if-any_outside.true)

pub span-requires : goal.span-requires
span-requires c = rw (to_z-of_z c.ranges.x1, to_z-of_z c.ranges.x2) ((inside c).0, (inside c).2)

pub span-requires-2 : goal.span-requires-2
span-requires-2 c = rw (to_z-of_z c.ranges.y1, to_z-of_z c.ranges.y2) ((inside c.before).1, (inside c.before).3)

pub returns : goal.returns
returns c =
    let x = c.span in
    let y = c.span-2 in
    let back = read_back w64 x.result x.type_inv in
    let back2 = read_back w64 y.result y.type_inv in
    let d = rw (back, back2, x.ensures.0, y.ensures.0) at c.step_of.ensures in
    answer_inside _ _ _ _ _ _ (passed c.before.before.before)
    (rw (to_z-of_z c.ranges.x1, to_z-of_z c.ranges.x2, to_z-of_z c.ranges.y1, to_z-of_z c.ranges.y2) at d)
