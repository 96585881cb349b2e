-- `stream::lines` meets its contract. The loop has read what stands before `rest`; it holds bytes of a line only once it has read all.
use Prim.Native.Nat.{◌+◌, ◌-◌, ◌<◌}
use native.Mathlib.Omega.{arith}
use borrow.Rule.Slice.PartMut.{put_mid}
use lib.ListN.{length, take, drop, length-take, length-drop}
use Rattle.std.proofs.lemmas.Bool.Decides.{nat_tests}
use Rattle.std.proofs.lemmas.List.{nil_from_length}
use Rattle.stream.proofs.Promise.{Going, going_none, going_all, going_more, going-room}
use Rattle.stream.proofs.lines.Goals as goal
use Rattle.stream.proofs.lines.Goals.{After-step-advance}

-- a turn of the loop: there is more to read, and a step reads on
module _ (t : After-step-advance) where
  some : 0 < length t.loop-rest.rest.now
  some = grind (arith, nat_tests)

  more : Going t.args.s.now (take (length t.loop-rest.rest.now - t.step-advance.result.taken) (drop t.step-advance.result.taken t.loop-rest.rest.now)) t.args.held.now.bytes t.step-advance.new.held.bytes t.args.held.now.used t.step-advance.new.held.used t.args.out.now (put_mid t.loop-rest.wrote (length t.loop-rest.out - t.loop-rest.wrote) t.loop-rest.out t.step-advance.new.out) (t.loop-rest.wrote + t.step-advance.result.wrote)
  more = going_more _ _ _ _ _ _ _ _ _ _ _ t.loop-rest.wrote _ some t.loop-rest.invariant t.step-advance.ensures

pub loop-rest-init : goal.loop-rest-init
loop-rest-init c = going_none c.args.s.now c.args.held.now.bytes c.args.out.now c.args.held.now.used (omega arith) (omega arith)

pub slice_bounds-step-count : goal.slice_bounds-step-count
slice_bounds-step-count c = omega (arith, going-room (omega arith) c.loop-rest.invariant)

pub slice_bounds-step-start : goal.slice_bounds-step-start
slice_bounds-step-start c = omega (arith, going-room (omega arith) c.loop-rest.invariant)

pub step-advance-requires : goal.step-advance-requires
step-advance-requires c = simp (length-take, length-drop) (omega (arith, going-room (omega arith) c.loop-rest.invariant))

pub overflow_add-wrote : goal.overflow_add-wrote
overflow_add-wrote c = omega (arith, going-room (omega arith) (more (goal.at.overflow_add-wrote c).After-step-advance))

pub loop-rest-preserved : goal.loop-rest-preserved
loop-rest-preserved c = more (goal.at.loop-rest-preserved c).After-step-advance

pub returns : goal.returns
returns c = going_all (nil_from_length _ (grind (arith, nat_tests))) c.loop-rest.invariant
