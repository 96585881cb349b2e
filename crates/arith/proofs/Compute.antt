-- A straight line of signed arithmetic, as the machine runs it, against the integers that it stands for.
-- Each goal that the borrow checker leaves of such code speaks of what the machine reads back from the bits of each step,
-- `to_z w (of_z w (to_z w (of_z w a) +ℤ ..))`. The author writes the code once, as `Code`, and shows the ranges of its steps at the plain
-- integers: by sizes alone (`Sized`, at the end of the file), or by a statement that `Bridge` proves (`Ranges`). Then `need k` or `fit k`
-- is the answer to the k-th goal, and `value` or `reads` says what the code returns.
-- Where the code has a value twice, `Code` writes it twice, and asks of it twice: leave that number out.
-- Proofs with it: `whole_part` (sizes alone), `fraction_part` (an equation bounds it; a cast), `floor_remainder` (a remainder, a branch).
-- Assumes nothing.
use mathlib.Core.Path.{◌≡◌, refl, sym, ap, ap₂, ◌∙◌, subst}
use Prim.Native.Nat.{ℕ, zero, suc, ◌+◌, ◌*◌, ◌-◌, ◌^◌, ◌≤◌, ◌<◌, zero-le, suc-le-suc}
use native.Mathlib.Nat.{le_trans, lt_of_le_of_lt, add-le-add}
use native.Mathlib.Omega.{arith}
use lib.Dec.{T, ltb, ltb→lt}
use lib.IntN.{ℤ, pos, negsuc, nat_abs, ◌+ℤ◌, ◌-ℤ◌, ◌*ℤ◌}
use lib.Signed.{◌<ℤ◌, shr_z, quot_z, rem_z, <ℤ_irrefl}
use lib.Pow.{pow_pos}
use mir.Syntax.{Width}
use mir.Val.{SFits, to_z, of_z, bits, hbits}
use mir.Facts.{to_z-of_z, to_z_pos, to_z-neg}
use Rattle.arith.proofs.Laws.{nat_abs-+ℤ, nat_abs--ℤ, nat_abs-*ℤ-≤}
use Rattle.arith.proofs.Machine.{sfits-nat_abs, shr-sfits, shr_size, quot-sfits, quot_size, rem-sfits, rem_size}

-- ---- code: a parameter, by its integer; a local that a loop changes, by its bits; an unsigned number that was cast; a literal,
-- n or -(n + 1); an operation; a division by what is positive; a shift to the right by k; a cast from another signed width
pub data Op : Type 0 where
  plus minus times : Op

abbrev pub on : Op → ℤ → ℤ → ℤ
on plus x y = x +ℤ y
on minus x y = x -ℤ y
on times x y = x *ℤ y

-- of a division toward zero, the quotient or what is left over
pub data Part : Type 0 where
  quotient rest : Part

abbrev pub of : Part → ℤ → ℤ → ℤ
of quotient x y = quot_z x y
of rest x y = rem_z x y

pub data Code : Width → Type 0 where
  arg : {w : Width} → ℤ → Code w
  loc : {w : Width} → ℕ → Code w
  nat : {w : Width} → ℕ → Code w
  num : {w : Width} → ℕ → Code w
  negnum : {w : Width} → ℕ → Code w
  op : {w : Width} → Op → Code w → Code w → Code w
  div : {w : Width} → Part → Code w → Code w → Code w
  shr : {w : Width} → Code w → ℕ → Code w
  cast : {w : Width} (from : Width) → Code from → Code w

infixl 5 ◌>>ᵐ◌
infixl 6 ◌+ᵐ◌ ◌-ᵐ◌
infixl 7 ◌*ᵐ◌ ◌/ᵐ◌ ◌%ᵐ◌
abbrev pub ◌+ᵐ◌ : {w : Width} → Code w → Code w → Code w
a +ᵐ b = op plus a b

abbrev pub ◌-ᵐ◌ : {w : Width} → Code w → Code w → Code w
a -ᵐ b = op minus a b

abbrev pub ◌*ᵐ◌ : {w : Width} → Code w → Code w → Code w
a *ᵐ b = op times a b

abbrev pub ◌/ᵐ◌ : {w : Width} → Code w → Code w → Code w
a /ᵐ b = div quotient a b

abbrev pub ◌%ᵐ◌ : {w : Width} → Code w → Code w → Code w
a %ᵐ b = div rest a b

abbrev pub ◌>>ᵐ◌ : {w : Width} → Code w → ℕ → Code w
a >>ᵐ k = shr a k

-- the integer that it stands for
abbrev pub plain : {w : Width} → Code w → ℤ
plain (arg z) = z
plain {w} (loc n) = to_z w n
plain (nat n) = pos n
plain (num n) = pos n
plain (negnum n) = negsuc n
plain (op o a b) = on o (plain a) (plain b)
plain (div p a b) = of p (plain a) (plain b)
plain (shr a k) = shr_z (plain a) (2 ^ k)
plain (cast from a) = plain a

-- the bits that the machine computes
abbrev pub run : {w : Width} → Code w → ℕ
run {w} (arg z) = of_z w z
run {w} (loc n) = n
run {w} (nat n) = n
run {w} (num n) = n
run {w} (negnum n) = 2 ^ bits w - suc n
run {w} (op o a b) = of_z w (on o (to_z w (run a)) (to_z w (run b)))
run {w} (div p a b) = of_z w (of p (to_z w (run a)) (to_z w (run b)))
run {w} (shr a k) = of_z w (shr_z (to_z w (run a)) (2 ^ k))
run {w} (cast from a) = of_z w (to_z from (run a))

-- ---- lists of statements
pub data Tys : Type 1 where
  done : Tys
  ◌&◌ : Type 0 → Tys → Tys

infixr 4 ◌&◌
abbrev pub Each : Tys → Type 0
Each done = Unit {0}
Each (t & ts) = t × Each ts

abbrev pub At : ℕ → Tys → Type 0
At k done = Unit {0}
At zero (t & ts) = t
At (suc k) (t & ts) = At k ts

at : (k : ℕ) (ts : Tys) → Each ts → At k ts
at k done p = tt
at zero (t & ts) p = p.0
at (suc k) (t & ts) p = at k ts p.1

-- ---- what the author shows: each step's integer is in range, from left to right, and then ts
abbrev pub ranges : {w : Width} → Code w → Tys → Tys
ranges {w} (arg z) ts = SFits w z & ts
ranges {w} (loc n) ts = SFits w (to_z w n) & ts
ranges {w} (nat n) ts = (n < 2 ^ hbits w) & ts
ranges {w} (num n) ts = T (ltb n (2 ^ hbits w)) & ts
ranges {w} (negnum n) ts = T (ltb n (2 ^ hbits w)) & ts
ranges {w} (op o a b) ts = ranges a (ranges b (SFits w (on o (plain a) (plain b)) & ts))
ranges {w} (div p a b) ts = ranges a (ranges b ((pos 0 <ℤ plain b) & ts))
ranges {w} (shr a k) ts = ranges a ts
ranges {w} (cast from a) ts = ranges a (SFits w (plain a) & ts)

abbrev pub Ranges : {w : Width} → Code w → Type 0
Ranges e = Each (ranges e done)

-- the ranges of a cast or of an operation, whose own is shown apart from those of the operands
after : {w : Width} (e : Code w) (ts us : Tys) → (Each ts → Each us) → Each (ranges e ts) → Each (ranges e us)
after (arg z) ts us g p = (p.0, g p.1)
after (loc n) ts us g p = (p.0, g p.1)
after (nat n) ts us g p = (p.0, g p.1)
after (num n) ts us g p = (p.0, g p.1)
after (negnum n) ts us g p = (p.0, g p.1)
after {w} (op o a b) ts us g p =
    after a (ranges b (SFits w (on o (plain a) (plain b)) & ts)) (ranges b (SFits w (on o (plain a) (plain b)) & us))
    (after b (SFits w (on o (plain a) (plain b)) & ts) (SFits w (on o (plain a) (plain b)) & us) (λ q. (q.0, g q.1))) p
after {w} (div k a b) ts us g p =
    after a (ranges b ((pos 0 <ℤ plain b) & ts)) (ranges b ((pos 0 <ℤ plain b) & us))
    (after b ((pos 0 <ℤ plain b) & ts) ((pos 0 <ℤ plain b) & us) (λ q. (q.0, g q.1))) p
after (shr a k) ts us g p = after a ts us g p
after {w} (cast from a) ts us g p = after a (SFits w (plain a) & ts) (SFits w (plain a) & us) (λ q. (q.0, g q.1)) p

pub op_range : {w : Width} (o : Op) (a b : Code w) → Ranges a → Ranges b → SFits w (on o (plain a) (plain b)) → Ranges (op o a b)
op_range {w} o a b p q f =
    after a done (ranges b (SFits w (on o (plain a) (plain b)) & done))
    (λ t. after b done (SFits w (on o (plain a) (plain b)) & done) (λ u. (f, u)) q) p

pub div-range : {w : Width} (k : Part) (a b : Code w) → Ranges a → Ranges b → pos 0 <ℤ plain b → Ranges (div k a b)
div-range {w} k a b p q f =
    after a done (ranges b ((pos 0 <ℤ plain b) & done)) (λ t. after b done ((pos 0 <ℤ plain b) & done) (λ u. (f, u)) q) p

pub cast_range : {w from : Width} (e : Code from) → Ranges e → SFits w (plain e) → Ranges (cast {w = w} from e)
cast_range {w} e p f = after e done (SFits w (plain e) & done) (λ t. (f, t)) p

-- ---- what the borrow checker asks: the same of what the machine reads back. Of a parameter, a literal and a shift it asks nothing
abbrev pub asked : {w : Width} → Code w → Tys → Tys
asked {w} (arg z) ts = ts
asked {w} (loc n) ts = ts
asked {w} (nat n) ts = ts
asked {w} (num n) ts = ts
asked {w} (negnum n) ts = ts
asked {w} (op o a b) ts = asked a (asked b (SFits w (on o (to_z w (run a)) (to_z w (run b))) & ts))
asked {w} (div p a b) ts = asked a (asked b (((0 < run b) × SFits w (quot_z (to_z w (run a)) (to_z w (run b)))) & ts))
asked {w} (shr a k) ts = asked a ts
asked {w} (cast from a) ts = asked a (SFits w (to_z from (run a)) & ts)

-- ---- what the machine reads back is the integer, which is in range
part_size : (k : Part) (z d : ℤ) → nat_abs (of k z d) ≤ nat_abs z
part_size quotient z d = quot_size z d
part_size rest z d = rem_size z d

part_sfits : {w : Width} {z d : ℤ} (k : Part) → SFits w z → pos 0 <ℤ d → SFits w (of k z d)
part_sfits quotient f h = quot-sfits f h
part_sfits {w} {z} {d} rest f h = rem-sfits z d f

read : {w : Width} (e : Code w) (ts : Tys) → Each (ranges e ts) → (to_z w (run e) ≡ plain e) × SFits w (plain e) × Each ts
read {w} (arg z) ts p = (to_z-of_z p.0, p.0, p.1)
read {w} (loc n) ts p = (refl, p.0, p.1)
read {w} (nat n) ts p = (to_z_pos w p.0, record { sfits = p.0 }, p.1)
read {w} (num n) ts p = (to_z_pos w (ltb→lt n (2 ^ hbits w) p.0), record { sfits = ltb→lt n (2 ^ hbits w) p.0 }, p.1)
read {w} (negnum n) ts p = (to_z-neg w n (ltb→lt n (2 ^ hbits w) p.0), record { sfits = ltb→lt n (2 ^ hbits w) p.0 }, p.1)
read {w} (op o a b) ts p =
    let (ea, fa, q) = read a (ranges b (SFits w (on o (plain a) (plain b)) & ts)) p in
    let (eb, fb, r) = read b (SFits w (on o (plain a) (plain b)) & ts) q in
    (ap₂ (λ x y. to_z w (of_z w (on o x y))) ea eb ∙ to_z-of_z r.0, r.0, r.1)
read {w} (div k a b) ts p =
    let (ea, fa, q) = read a (ranges b ((pos 0 <ℤ plain b) & ts)) p in
    let (eb, fb, r) = read b ((pos 0 <ℤ plain b) & ts) q in
    let f : SFits w (of k (plain a) (plain b)) = part_sfits k fa r.0 in
    (ap₂ (λ x y. to_z w (of_z w (of k x y))) ea eb ∙ to_z-of_z f, f, r.1)
read {w} (shr a k) ts p =
    let (ea, fa, q) = read a ts p in
    let f : SFits w (shr_z (plain a) (2 ^ k)) = shr-sfits (2 ^ k) fa in
    (ap (λ x. to_z w (of_z w (shr_z x (2 ^ k)))) ea ∙ to_z-of_z f, f, q)
read {w} (cast from a) ts p =
    let (ea, fa, q) = read a (SFits w (plain a) & ts) p in
    (ap (λ x. to_z w (of_z w x)) ea ∙ to_z-of_z q.0, q.0, q.1)

-- a positive number's bits are not 0
not_zero : (w : Width) (n : ℕ) {z : ℤ} → to_z w n ≡ z → pos 0 <ℤ z → 0 < n
not_zero w zero e h = absurd (<ℤ_irrefl (subst (λ x. pos 0 <ℤ x) (sym e ∙ to_z_pos w (pow_pos (hbits w))) h))
not_zero w (suc n) e h = suc-le-suc zero-le

pub value : {w : Width} (e : Code w) → Ranges e → to_z w (run e) ≡ plain e
value e p = (read e done p).0

-- ---- the answers
answers : {w : Width} (e : Code w) (ts us : Tys) → (Each ts → Each us) → Each (ranges e ts) → Each (asked e us)
answers (arg z) ts us g p = g p.1
answers (loc n) ts us g p = g p.1
answers (nat n) ts us g p = g p.1
answers (num n) ts us g p = g p.1
answers (negnum n) ts us g p = g p.1
answers {w} (op o a b) ts us g p =
    let (ea, fa, q) = read a (ranges b (SFits w (on o (plain a) (plain b)) & ts)) p in
    let eb = (read b (SFits w (on o (plain a) (plain b)) & ts) q).0 in
    answers a (ranges b (SFits w (on o (plain a) (plain b)) & ts)) (asked b (SFits w (on o (to_z w (run a)) (to_z w (run b))) & us))
    (answers b (SFits w (on o (plain a) (plain b)) & ts) (SFits w (on o (to_z w (run a)) (to_z w (run b))) & us)
    (λ r. (subst (SFits w) (sym (ap₂ (on o) ea eb)) r.0, g r.1)))
    p
answers {w} (div k a b) ts us g p =
    let (ea, fa, q) = read a (ranges b ((pos 0 <ℤ plain b) & ts)) p in
    let (eb, fb, r) = read b ((pos 0 <ℤ plain b) & ts) q in
    answers a (ranges b ((pos 0 <ℤ plain b) & ts)) (asked b (((0 < run b) × SFits w (quot_z (to_z w (run a)) (to_z w (run b)))) & us))
    (answers b ((pos 0 <ℤ plain b) & ts) (((0 < run b) × SFits w (quot_z (to_z w (run a)) (to_z w (run b)))) & us)
    (λ t. ((not_zero w (run b) eb t.0, subst (SFits w) (sym (ap₂ quot_z ea eb)) (quot-sfits fa t.0)), g t.1)))
    p
answers (shr a k) ts us g p = answers a ts us g p
answers {w} (cast from a) ts us g p =
    answers a (SFits w (plain a) & ts) (SFits w (to_z from (run a)) & us)
    (λ q. (subst (SFits w) (sym (read a (SFits w (plain a) & ts) p).0) q.0, g q.1)) p

-- the answer to the k-th goal, counted from 0 in the order of the source
pub need : {w : Width} (k : ℕ) (e : Code w) → Ranges e → At k (asked e done)
need k e p = at k (asked e done) (answers e done done (λ t. t) p)

-- ---- a step or two, in a line: ranges from bounds on sizes alone. Each bound is a numeral, and `tt` shows that it is in range:
--     fit 0 (times_sized (arg_sized 4096 c.ranges.a h) (nat_sized 1024 h' tt) tt)
-- says that a·(k as i64) fits, of h : nat_abs a ≤ 4096 and h' : k ≤ 1024, and `reads` of the same that it is the product
pub record Sized {w : Width} (e : Code w) (n : ℕ) : Type 0 where
  pub in_range : Ranges e
  pub size : nat_abs (plain e) ≤ n

pub fit : {w : Width} {e : Code w} {n : ℕ} (k : ℕ) → Sized e n → At k (asked e done)
fit {e = e} k s = need k e s.in_range

pub reads : {w : Width} {e : Code w} {n : ℕ} → Sized e n → to_z w (run e) ≡ plain e
reads {e = e} s = value e s.in_range

module _ {w : Width} where
  pub arg_sized : {z : ℤ} (n : ℕ) → SFits w z → nat_abs z ≤ n → Sized {w = w} (arg z) n
  arg_sized n f h = record { in_range = (f, tt); size = h }

  pub nat_sized : {k : ℕ} (n : ℕ) → k ≤ n → T (ltb n (2 ^ hbits w)) → Sized {w = w} (nat k) n
  nat_sized n h t = record { in_range = (lt_of_le_of_lt h (ltb→lt n (2 ^ hbits w) t), tt); size = h }

  pub num_sized : (n : ℕ) → T (ltb n (2 ^ hbits w)) → Sized {w = w} (num n) n
  num_sized n t = record { in_range = (t, tt); size = omega arith }

  pub negnum_sized : (n : ℕ) → T (ltb n (2 ^ hbits w)) → Sized {w = w} (negnum n) (suc n)
  negnum_sized n t = record { in_range = (t, tt); size = omega arith }

  -- a bound on the size is a range
  ranged : {z : ℤ} {n : ℕ} → nat_abs z ≤ n → T (ltb n (2 ^ hbits w)) → SFits w z
  ranged {z} {n} h t = sfits-nat_abs z h (ltb→lt n (2 ^ hbits w) t)

  pub cast_sized : {from : Width} {a : Code from} {m : ℕ} → Sized a m → T (ltb m (2 ^ hbits w)) → Sized {w = w} (cast from a) m
  cast_sized {a = a} s t = record { in_range = cast_range a s.in_range (ranged s.size t); size = s.size }

  module _ {a b : Code w} {m n : ℕ} (s : Sized a m) (r : Sized b n) where
    op_sized : {k : ℕ} (o : Op) → nat_abs (on o (plain a) (plain b)) ≤ k → T (ltb k (2 ^ hbits w)) → Sized (op o a b) k
    op_sized o h t = record { in_range = op_range o a b s.in_range r.in_range (ranged h t); size = h }

    pub plus_sized : T (ltb (m + n) (2 ^ hbits w)) → Sized (a +ᵐ b) (m + n)
    plus_sized t = op_sized plus (le_trans (nat_abs-+ℤ (plain a) (plain b)) (add-le-add s.size r.size)) t

    pub minus_sized : T (ltb (m + n) (2 ^ hbits w)) → Sized (a -ᵐ b) (m + n)
    minus_sized t = op_sized minus (le_trans (nat_abs--ℤ (plain a) (plain b)) (add-le-add s.size r.size)) t

    pub times_sized : T (ltb (m * n) (2 ^ hbits w)) → Sized (a *ᵐ b) (m * n)
    times_sized t = op_sized times (nat_abs-*ℤ-≤ (plain a) (plain b) s.size r.size) t

    -- a quotient and a remainder are no larger than the dividend
    pub div_sized : (k : Part) → pos 0 <ℤ plain b → Sized (div k a b) m
    div_sized k h = record { in_range = div-range k a b s.in_range r.in_range h; size = le_trans (part_size k (plain a) (plain b)) s.size }

  pub shr_sized : {a : Code w} {m : ℕ} (k : ℕ) → Sized a m → Sized (a >>ᵐ k) m
  shr_sized {a} k s = record { in_range = s.in_range; size = le_trans (shr_size (plain a) (2 ^ k)) s.size }
