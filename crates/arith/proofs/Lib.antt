-- ℤ made cheap, for laws and for proofs about signed machine integers. `Examples` shows each tool in a line.
--     Bridge     a statement about ℤ becomes one about ℕ, which `omega arith` proves: linear arithmetic, sizes, ranges; products by `prod`
--     Laws       the laws of an ordered commutative ring, and of sizes, by name
--     Ring       identities of polynomials of any degree
--     Cert       inequalities by certificates, where `Bridge` has too many products
--     Round      division rounded down, what it leaves over, and division to the nearest, by any positive number:
--                existence (_is), uniqueness (_only), order (_mono), a shift by whole numbers (_shift), a common factor (-scale),
--                the error (_error), exactness (_exact); what `>>`, `/` and `%` are of them
--     Divide     division by a numeral inside a statement for `omega`
--     Sums       finite sums, their bounds, the greatest size, weighted means
--     Within     |x| ≤ B as two bounds
--     Move       f and q of a move
--     Machine    ranges of shifts, quotients and remainders, what tests tell, casts
--     Compute    every goal of a straight line of machine arithmetic, from sizes or from its ranges at the plain integers
pub mod Bridge
pub mod Laws
pub mod Ring
pub mod Cert
pub mod Round
pub mod Divide
pub mod Sums
pub mod Within
pub mod Move
pub mod Machine
pub mod Compute
pub mod Examples
