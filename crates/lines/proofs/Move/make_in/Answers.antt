-- `lines::Move::make_in` meets its contract: the line set into its row, treated there, and stored from its start on. Assumes nothing.
use mathlib.Core.Path.{◌≡◌, ap, ap₂, ◌∙◌, subst}
use mathlib.Core.List.{List, ◌++◌}
use Prim.Native.Nat.{ℕ, ◌+◌, ◌*◌, ◌≤◌, ◌<◌}
use native.Mathlib.Omega.{arith}
use lib.Dec.{lit<}
use lib.IntN.{ℤ, pos, nat_abs}
use lib.ListN.{length, take, drop}
use lib.Signed.{lt_z}
use mir.Syntax.{w32, w64}
use mir.Val.{to_z, of_z}
use mir.Facts.{to_z-of_z}
use Rattle.arith.specs.Move.{fraction}
use Rattle.arith.proofs.Machine.{read_back, sfits-nat_abs}
use Rattle.arith.proofs.Move.{fraction_low, fraction_below}
use Rattle.lists.specs.Line.{line, rolled}
use Rattle.lists.specs.Grid.{line_of, put}
use Rattle.lists.proofs.Grid.{line_of-length, line_of_at}
use Rattle.settings.specs.declared.Border.{Border}
use Rattle.kernels.specs.declared.Kernel.{Kernel}
use Rattle.moves.specs.declared.Part.{Part}
use Rattle.moves.specs.Border.{move_in}
use Rattle.moves.specs.InPlace.{prepared}
use Rattle.moves.specs.Row.{places, set_in, start_at, held, Covers, loaded_of, weighed_part, Alike}
use Rattle.moves.proofs.Border.{places_few}
use Rattle.moves.proofs.Kept.{loaded_holds, alike_within}
use Rattle.lines.proofs.Answer.{front_line, stored_kept, held-interpolated}
use Rattle.lines.proofs.Move.make_in.Goals as goal
use Rattle.lines.proofs.Move.make_in.Goals.{After-set_in}

module _ (p : After-set_in) where
  abbrev n : ℕ
  n = p.args.self.n

  abbrev κ : Kernel
  κ = p.args.self.kernel

  abbrev β : Border
  β = p.args.self.border

  abbrev d : ℤ
  d = p.args.self.d

  -- the line that moves
  abbrev own : List ℤ
  own = line_of 0 1 n p.args.line.now

  own_length : length own ≡ n
  own_length = line_of-length 0 1 n p.args.line.now

  own_small : (k : ℕ) → k < length own → nat_abs (line own k) ≤ 294912
  own_small k l = rw (line_of_at 0 1 n p.args.line.now k (omega (arith, own_length)), place k) (omega (arith, p.requires.movable.samples k (omega (arith, own_length))))
    where
      place : (k : ℕ) → 0 + k * 1 ≡ k
      place k = omega arith

  -- the move that is made, its f and its start, read back
  abbrev made : ℤ
  made = held β n d

  d_is : to_z w64 (of_z w64 p.from.result) ≡ d
  d_is = read_back w64 _ p.from.type_inv ∙ p.from.ensures ∙ to_z-of_z {w = w32} (sfits-nat_abs d p.requires.movable.near (lit< tt))

  made_is : to_z w64 (of_z w64 p.held_of-made.result) ≡ made
  made_is = read_back w64 _ p.held_of-made.type_inv ∙ p.held_of-made.ensures.0 ∙ ap (held β n) d_is

  f_is : to_z w32 (of_z w32 p.fraction_part-f.result) ≡ pos (fraction made)
  f_is = read_back w32 _ p.fraction_part-f.type_inv ∙ p.fraction_part-f.ensures ∙ ap (λ x. pos (fraction x)) made_is

  start_is : p.start_of-start.result ≡ start_at β n made
  start_is = p.start_of-start.ensures.0 ∙ ap (start_at β n) made_is

  -- the part of the row that is weighed, and what has to be set in of it
  abbrev window : Part
  window = p.window_of-window.result

  covers : Covers β n (start_at β n made) window
  covers = subst (λ (r : ℕ). Covers β n r window) start_is p.window_of-window.ensures

  loaded_is : p.loaded_of-loaded.result ≡ loaded_of κ (places β n) window
  loaded_is = p.loaded_of-loaded.ensures ∙ ap (λ (m : ℕ). loaded_of κ m window) p.requires.row_len

  -- the row, once the line is set in
  abbrev row : List ℤ
  row = p.set_in.new.row

  row_length : length row ≡ places β n
  row_length = p.set_in.auto.row ∙ p.requires.row_len

  set : Alike (loaded_of κ (places β n) window) row (set_in β own)
  set = rw loaded_is at p.set_in.ensures

  -- weighed in part and stored from its start on
  stored : put 0 1 (rolled (start_at β n made) (weighed_part κ (pos (fraction made)) window (prepared κ row))) n p.args.res.now
      ≡ move_in β κ d (take n p.args.line.now) ++ drop n p.args.res.now
  stored =
      subst (λ (m : ℕ). length row ≡ places β m
      → Covers β m (start_at β m (held β m d)) window
      → Alike (loaded_of κ (places β m) window) row (set_in β own)
      → put 0 1 (rolled (start_at β m (held β m d)) (weighed_part κ (pos (fraction (held β m d))) window (prepared κ row))) m p.args.res.now
      ≡ move_in β κ d own ++ drop m p.args.res.now) own_length
      (λ long w set. stored_kept β κ d window own row p.args.res.now (omega (arith, own_length, p.requires.movable.some))
      (omega (arith, own_length, p.requires.movable.result_room)) long (omega (arith, p.requires.movable.plain)) own_small w set)
      row_length covers set
      ∙ ap (λ (x : List ℤ). move_in β κ d x ++ drop n p.args.res.now) (front_line n p.args.line.now p.requires.movable.line_room)

pub treat-requires-clause-row_len_bound : goal.treat-requires-clause-row_len_bound
treat-requires-clause-row_len_bound c =
    let p = (goal.at.treat-requires-clause-row_len_bound c).After-set_in in
    let w = covers p in
    rw (row_length p, f_is p) (
      omega (arith, places_few (β p) (n p), p.requires.movable.few),
      omega (arith, w.low, w.high, p.requires.movable.some),
      w.end,
      (fraction_low (made p), fraction_below (made p)),
    )

pub treat-requires-clause-part_within : goal.treat-requires-clause-part_within
treat-requires-clause-part_within c =
    let p = (goal.at.treat-requires-clause-part_within c).After-set_in in
    rw (row_length p)
    (alike_within 294912 (β p) (loaded_of (κ p) (places (β p) (n p)) (window p)) (own p) (row p) (rw (own_length p) (loaded_holds (κ p) (covers p)).2)
    (omega (arith, p.requires.movable.plain)) (own_small p) (set p))

pub returns-clause-value : goal.returns-clause-value
returns-clause-value c =
    let p = (goal.at.returns-clause-value c).After-set_in in
    ap (lt_z (pos 0)) (f_is p) ∙ held-interpolated (β p) (n p) (d p)

pub returns-clause-res_after : goal.returns-clause-res_after
returns-clause-res_after c =
    let p = (goal.at.returns-clause-res_after c).After-set_in in
    c.store_line.ensures
    ∙ ap₂ (λ q x. put 0 1 (rolled q x) (n p) p.args.res.now) (start_is p)
    (c.treat.ensures ∙ ap (λ z. weighed_part (κ p) z (window p) (prepared (κ p) (row p))) (f_is p))
    ∙ stored p
