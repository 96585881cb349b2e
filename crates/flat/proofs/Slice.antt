-- What a call on a block and the single call on one of its slices promise together holds of the structs that C and Rust receive. Assumes nothing.
use Prim.Native.Nat.{ℕ}
use mathlib.Core.Path.{◌≡◌, sym, ap, ◌∙◌}
use mathlib.Core.List.{List}
use lib.IntN.{ℤ}
use Rattle.blocks.specs.Answer.{number_of}
use Rattle.blocks.specs.Block.{slices_of}
use Rattle.blocks.specs.Judge.{room_of, work_places}
use Rattle.blocks.proofs.Accepted.{told_work}
use Rattle.blocks.proofs.Call.{was_fit}
use Rattle.blocks.proofs.TwoCalls.{kept}
use Rattle.flat.specs.declared.FlatSetting.{FlatSetting}
use Rattle.flat.specs.declared.BlockAnswer.{BlockAnswer}
use Rattle.flat.specs.declared.Answer.{Answer}
use Rattle.flat.specs.Slice.{BothCalls, ToldSlice}

module _ {W H D plane : ℕ} {s : FlatSetting} {block result work : List ℤ} {r : BlockAnswer} {result' work' : List ℤ}
    {i : ℕ} {picture own own-work : List ℤ} {q : Answer} {own' own-work' : List ℤ}
    (b : BothCalls W H D plane s block result work r result' work' i picture own own-work q own' own-work') where
  none : number_of b.all.outcome ≡ 0
  none = ap (λ (r : BlockAnswer). r.number) (sym b.all.answer) ∙ b.accepted

  -- the work that is told is a slice's
  room : work_places W H D plane ≡ room_of (slices_of W H D plane)
  room = let f = was_fit b.all.promised none in told_work W H D plane f.width f.height f.depth f.known

  pub told-slice : ToldSlice (slices_of W H D plane) r result' i q own'
  told-slice =
      let k = kept b.all.promised none (record {
        some_slice = b.some_slice;
        copied = b.copied;
        result_places = b.result_places;
        work_places_lent = rw room at b.work_places_lent;
        answer = b.one.promised;
      }) in
      rw (b.all.answer, b.one.answer) (record { accepted = k.accepted; samples = k.samples; count = k.count; within = k.within })
