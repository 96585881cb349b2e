-- `feeds::bytes_length` meets its contract.
use Prim.Native.Nat.{ℕ}
use mathlib.Core.Logic.{◌≢◌}
use mathlib.Core.Path.{◌≡◌, refl, sym, ◌∙◌}
use borrow.Author.Rules.{rules}
use borrow.Author.Tests.{tests}
use Rattle.std.proofs.lemmas.Iterator.{YieldsList-from_slice, IsFirst-from_position, index_from_first}
use Rattle.feeds.specs.Feed.{line_length}
use Rattle.feeds.proofs.Length.{feed_first, feed_later}
use Rattle.feeds.proofs.bytes_length.Goals as goal

pub returns : goal.returns
unfolding line_length
returns c =
    let s = c.args.s.now in
    let e =
    IsFirst-from_position _ _ _ (λ (b : ℕ). b ≡ 10) (λ (b : ℕ). b ≢ 10) c.position.ensures.ran (YieldsList-from_slice s cc) (λ x q k. search (rules, tests)) (λ x q k. search (rules, tests)) in
    c.unwrap_or.ensures ∙ sym (index_from_first line_length _ _ refl feed_first feed_later s _ e)
