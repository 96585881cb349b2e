-- The lines of a pass: moved by way of the work buffer, four at a time or singly. Assumes nothing.
use Prim.Native.Nat.{ℕ, ◌+◌, ◌*◌, ◌≤◌, ◌<◌}
use mathlib.Core.Path.{◌≡◌, refl, sym, ap, ◌∙◌, subst}
use mathlib.Core.List.{List}
use native.Mathlib.Nat.{add-mul}
use native.Mathlib.Omega.{arith}
use lib.IntN.{ℤ, pos, nat_abs}
use lib.ListN.{length, get_or}
use Rattle.lists.specs.Line.{line, rolled}
use Rattle.lists.specs.Grid.{line_of, put, row_of}
use Rattle.lists.proofs.Rows.{row_length, row_at}
use Rattle.lists.proofs.Grid.{line_of_at, line_of-length, put_cong, ahead}
use Rattle.settings.specs.declared.Border.{Border}
use Rattle.kernels.specs.declared.Kernel.{Kernel}
use Rattle.moves.specs.Border.{grey}
use Rattle.moves.specs.declared.Part.{Part}
use Rattle.moves.specs.InPlace.{weighed_size, prepared}
use Rattle.moves.specs.Row.{places, set_in, start_at, held, Covers, loaded_of, Alike, PartWithin}
use Rattle.moves.proofs.Border.{move_in_at}
use Rattle.moves.proofs.Kept.{loaded_holds, prepared_within, alike_within, kept_in_place}
use Rattle.arith.proofs.Within.{size_within}
use Rattle.grid.specs.declared.Strides.{Strides}
use Rattle.grid.specs.Four.{Lie, laid, FourLoaded, FourTreated, FourWithin, FourPartWithin}
use Rattle.grid.proofs.Laid.{laid_cong}
use Rattle.shears.specs.declared.Shear.{Shear}
use Rattle.shears.specs.Pass.{moved_at, held_moves, weighed_line, sheared_line, sheared, LinesWithin}

-- ---- one line, its samples and its background within a line's range
module _ (β : Border) (plain : nat_abs (grey β) ≤ 294912) where
  -- a row of which the part that is needed was set in and weighed, read from its start on: the line moved
  pub rolled-moved : (κ : Kernel) (moves : ℕ → ℤ) (y n : ℕ) (part : Part) (s t : List ℤ) (k : ℕ) → length s ≡ n → length t ≡ places β n
      → ((j : ℕ) → j < n → nat_abs (line s j) ≤ 294912) → Covers β n (start_at β n (held β n (moves y))) part
      → Alike (loaded_of κ (places β n) part) t (set_in β s) → k < n
      → rolled (start_at β n (held β n (moves y))) (weighed_line κ (held_moves β n moves) y part (prepared κ t)) k ≡ moved_at β κ moves y s k
  rolled-moved κ moves y n part s t k e =
      subst
      (λ (n : ℕ). length t ≡ places β n → ((j : ℕ) → j < n → nat_abs (line s j) ≤ 294912) → Covers β n (start_at β n (held β n (moves y))) part
      → Alike (loaded_of κ (places β n) part) t (set_in β s) → k < n
      → rolled (start_at β n (held β n (moves y))) (weighed_line κ (held_moves β n moves) y part (prepared κ t)) k ≡ moved_at β κ moves y s k)
      e
      (λ long small covers alike h.
      sym (move_in_at β κ (moves y) s k h
      ∙ kept_in_place β κ (moves y) part s t (omega arith) long (size_within (grey β) 294912 plain) (λ j l. size_within (line s j) 294912 (small j l)) covers alike k h))

  -- so it is put back as the moved line
  pub put-moved : (κ : Kernel) (moves : ℕ → ℤ) (y at along n r : ℕ) (part : Part) (pic t row : List ℤ) → r ≡ start_at β n (held β n (moves y))
      → ((j : ℕ) → j < n → nat_abs (get_or pic (at + j * along) (pos 0)) ≤ 294912)
      → length t ≡ places β n → Covers β n r part → Alike (loaded_of κ (places β n) part) t (set_in β (line_of at along n pic))
      → row ≡ weighed_line κ (held_moves β n moves) y part (prepared κ t)
      → put at along (rolled r row) n pic ≡ put at along (moved_at β κ moves y (line_of at along n pic)) n pic
  put-moved κ moves y at along n r part pic t row start small long covers alike e =
      put_cong at along (rolled r row) (moved_at β κ moves y (line_of at along n pic)) n pic
      (λ k h.
      rw (start, e)
      (rolled-moved κ moves y n part (line_of at along n pic) t k (line_of-length at along n pic) long (λ j l. rw (line_of_at at along n pic j l) (small j l))
      (subst (λ (r : ℕ). Covers β n r part) start covers) alike h))

  -- a row that such a line is set into is within the range, as far as it goes
  pub row_within : (κ : Kernel) {start : ℕ} {part : Part} (at along n : ℕ) (pic row : List ℤ)
      → ((k : ℕ) → k < n → nat_abs (get_or pic (at + k * along) (pos 0)) ≤ 294912)
      → Covers β n start part → Alike (loaded_of κ (places β n) part) row (set_in β (line_of at along n pic))
      → PartWithin 294912 (loaded_of κ (places β n) part) row
  row_within κ {part = part} at along n pic row small covers alike =
      alike_within 294912 β (loaded_of κ (places β n) part) own row (rw len (loaded_holds κ covers).2) plain
      (λ k l. let h : k < n = omega (arith, len) in rw (line_of_at at along n pic k h) (small k h)) alike
    where
      own : List ℤ
      own = line_of at along n pic

      len : length own ≡ n
      len = line_of-length at along n pic

-- the part that is set in, by the places of a row
pub loads : (κ : Kernel) (part : Part) {loaded : Part} {m k : ℕ} → loaded ≡ loaded_of κ m part → m ≡ k → loaded ≡ loaded_of κ k part
loads κ part e h = e ∙ ap (λ (m : ℕ). loaded_of κ m part) h

-- ---- four lines in the work buffer
-- rows within their range in a part are so place by place
pub four_within : (n M : ℕ) (work : List ℤ) → FourPartWithin n (record { lo = 0; hi = n }) M work → FourWithin n M work
four_within n M work each i k l h = rw (row_at n work i k (i * n + k) h refl) (each i l k (omega arith) h)

-- prepared, they are as large as the kernel can weigh
pub prepared-rows : (κ : Kernel) (n : ℕ) (part : Part) (work now : List ℤ) → 4 * n ≤ length work → part.lo < part.hi → part.hi ≤ n
    → FourPartWithin n (loaded_of κ n part) 294912 work
    → FourTreated n (λ (i : ℕ). prepared κ) work now
    → FourPartWithin n part (weighed_size κ) now
prepared-rows κ n part work now room some end each rows i l =
    rw (rows i l)
    (prepared_within κ part (row_of n work i) some (omega (arith, len)) (subst (λ (m : ℕ). PartWithin 294912 (loaded_of κ m part) (row_of n work i)) (sym len) (each i l)))
  where
    len : length (row_of n work i) ≡ n
    len = row_length n work i 4 l room

-- lines y to y + 3 of a picture
module _ (β : Border) (y : ℕ) (s : Strides) (pic : List ℤ) (plain : nat_abs (grey β) ≤ 294912)
    (each : (i k : ℕ) → i < 4 → k < s.n → nat_abs (get_or pic ((y + i) * s.across + k * s.along) (pos 0)) ≤ 294912) where
  abbrev own : ℕ → List ℤ
  own i = line_of (y * s.across + i * s.across) s.along s.n pic

  own_length : (i : ℕ) → length (own i) ≡ s.n
  own_length i = line_of-length (y * s.across + i * s.across) s.along s.n pic

  small : (i j : ℕ) → i < 4 → j < s.n → nat_abs (line (own i) j) ≤ 294912
  small i j l m =
      subst (λ (z : ℤ). nat_abs z ≤ 294912)
      (ap (λ (p : ℕ). get_or pic (p + j * s.along) (pos 0)) (add-mul y i s.across) ∙ sym (line_of_at (y * s.across + i * s.across) s.along s.n pic j m))
      (each i j l m)

  -- loaded into the rows
  pub loaded-rows : (part : Part) (now : List ℤ) → part.hi ≤ places β s.n → FourLoaded β (y * s.across) s part pic now
      → FourPartWithin (places β s.n) part 294912 now
  loaded-rows part now end rows i l =
      alike_within 294912 β part (own i) (row_of (places β s.n) now i) (rw (own_length i) end) plain (λ j m. small i j l (omega (arith, own_length i))) (rows i l)

  -- and laid back, from rows of which the part that is needed was set in and weighed: moved lines
  pub laid-moved : (κ : Kernel) (moves : ℕ → ℤ) (part : Part) (now work : List ℤ) (starts : ℕ → ℕ) → 4 * places β s.n ≤ length now
      → ((i : ℕ) → i < 4 → starts i ≡ start_at β s.n (held β s.n (moves (y + i))))
      → ((i : ℕ) → i < 4 → Covers β s.n (starts i) part)
      → FourLoaded β (y * s.across) s (loaded_of κ (places β s.n) part) pic now
      → ((i : ℕ) → i < 4 → row_of (places β s.n) work i ≡ weighed_line κ (held_moves β s.n moves) (y + i) part (prepared κ (row_of (places β s.n) now i)))
      → laid (y * s.across) s.along s.across s.n (λ (i : ℕ). rolled (starts i) (row_of (places β s.n) work i)) 4 pic
      ≡ laid (y * s.across) s.along s.across s.n (λ (i : ℕ). moved_at β κ moves (y + i) (own i)) 4 pic
  laid-moved κ moves part now work starts room started covers loaded rows =
      laid_cong (y * s.across) s.along s.across s.n _ _ 4 pic
      (λ i k l h.
      rw (started i l, rows i l)
      (rolled-moved β plain κ moves (y + i) s.n part (own i) (row_of (places β s.n) now i) k (own_length i) (row_length (places β s.n) now i 4 l room) (λ j m. small i j l m)
      (subst (λ (r : ℕ). Covers β s.n r part) (started i l) (covers i l)) (loaded i l) h))

-- ---- the lines to come
-- a line to come is as it was
pub ahead_size : (h : Shear) (s : Strides) (lines y : ℕ) (pic now : List ℤ) → Lie s lines (length pic) → LinesWithin s lines 294912 pic → now ≡ sheared h s y pic
    → (z k : ℕ) → y ≤ z → z < lines → k < s.n → nat_abs (get_or now (z * s.across + k * s.along) (pos 0)) ≤ 294912
ahead_size h s lines y pic now g small e z k past l m =
    rw (e, ahead s.n lines s.along s.across (sheared_line h) (length pic) g y pic z past l k m) (small z k l m)
