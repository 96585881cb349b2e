-- `move_four` loads four lines, treats them and lays them back: four moved lines. Assumes nothing.
use Prim.Native.Nat.{ℕ, ◌*◌, ◌<◌}
use mathlib.Core.Path.{ap, ◌∙◌}
use native.Mathlib.Omega.{arith}
use lib.ListN.{get_or}
use Rattle.lists.proofs.Grid.{lines_from}
use Rattle.moves.specs.Row.{places, loaded_of}
use Rattle.moves.proofs.Kept.{loaded_holds}
use Rattle.offsets.specs.Moves.{move_of}
use Rattle.grid.specs.Four.{four_stored}
use Rattle.shears.proofs.Moved.{loads, loaded-rows, laid-moved}
use Rattle.shears.proofs.move_four.Goals as goal

pub load_four-requires-clause-lines : goal.load_four-requires-clause-lines
load_four-requires-clause-lines c = lines_from c.args.y 4 (omega arith) c.requires.lines

pub treat_four-requires-clause-lo_lt_hi : goal.treat_four-requires-clause-lo_lt_hi
treat_four-requires-clause-lo_lt_hi c =
    let a = c.args in
    let h = a.shear in
    let r = c.requires.movable in
    let w = c.window_at-window.ensures 0 (omega arith) in
    let set = rw (loads h.kernel c.window_at-window.result c.loaded_of-loaded.ensures c.places_of-m.ensures) at c.load_four.ensures in (
      omega (arith, w.low, w.high, r.some),
      w.end,
      loaded-rows h.border a.y a.s a.picture.now r.plain c.requires.by_index (loaded_of h.kernel (places h.border a.s.n) c.window_at-window.result) c.load_four.new.work (loaded_holds h.kernel w).2 set,
    )

pub store_four-requires-clause-lines : goal.store_four-requires-clause-lines
store_four-requires-clause-lines c = lines_from c.args.y 4 (omega arith) c.requires.lines

pub returns : goal.returns
returns c =
    let a = c.args in
    let h = a.shear in
    let r = c.requires.movable in
    let now = c.load_four.new.work in
    let work = c.treat_four.new.work in
    let starts = c.starts_at-starts.result in
    let set = rw (loads h.kernel c.window_at-window.result c.loaded_of-loaded.ensures c.places_of-m.ensures) at c.load_four.ensures in
    c.store_four.ensures
    ∙ ap (λ (m : ℕ). four_stored (a.y * a.s.across) a.s m work starts a.picture.now) c.places_of-m.ensures
    ∙ laid-moved h.border a.y a.s a.picture.now r.plain c.requires.by_index h.kernel (move_of h.moves) c.window_at-window.result now work (λ (i : ℕ). get_or starts i 0)
    (omega (arith, c.load_four.auto.work, r.roomy)) (λ (i : ℕ) (l : i < 4). (c.starts_at-starts.ensures i l).0) c.window_at-window.ensures set
    (λ (i : ℕ) (l : i < 4). c.treat_four.ensures i l)
