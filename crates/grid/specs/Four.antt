-- Neighbouring lines of a flat picture, and the work buffer that four of them are treated in: four rows, one after the other.
-- Assumes nothing.
use Rattle.std.specs.Prelude.{ℕ, zero, suc, ◌+◌, ◌*◌, ◌≤◌, ◌<◌, ◌≡◌, List, ℤ, pos, nat_abs, get_or}
use Rattle.lists.specs.Line.{rolled}
use Rattle.lists.specs.Grid.{line_of, put, row_of, Lines}
use Rattle.settings.specs.declared.Border.{Border}
use Rattle.moves.specs.declared.Part.{Part}
use Rattle.moves.specs.Row.{places, set_in, Alike, PartWithin}
use Rattle.grid.specs.declared.Strides.{Strides}

-- so many lines lie inside `size` places, and no two share a place
abbrev pub Lie : Strides → ℕ → ℕ → Type 0
Lie s lines = Lines s.n lines s.along s.across

-- m lines of n places laid side by side, the first at `at`, each `across` places after the one before it: place k of line i gets g i k
unfoldable pub laid : ℕ → ℕ → ℕ → ℕ → (ℕ → ℕ → ℤ) → ℕ → List ℤ → List ℤ
laid at along across n g zero pic = pic
laid at along across n g (suc m) pic = put (at + m * across) along (g m) n (laid at along across n g m pic)

-- the rows of work are four lines of a picture, each set in as its border has it, as far as a part of the row goes
abbrev pub FourLoaded : Border → ℕ → Strides → Part → List ℤ → List ℤ → Type 0
FourLoaded β at s part pic work = (i : ℕ) → i < 4 → Alike part (row_of (places β s.n) work i) (set_in β (line_of (at + i * s.across) s.along s.n pic))

-- the picture with four lines replaced from rows of m places in work, row i from its place starts[i] on
abbrev pub four_stored : ℕ → Strides → ℕ → List ℤ → List ℕ → List ℤ → List ℤ
four_stored at s m work starts pic = laid at s.along s.across s.n (λ i. rolled (get_or starts i 0) (row_of m work i)) 4 pic

-- row i of work became what f i makes of it
abbrev pub FourTreated : ℕ → (ℕ → List ℤ → List ℤ) → List ℤ → List ℤ → Type 0
FourTreated n f work work' = (i : ℕ) → i < 4 → row_of n work' i ≡ f i (row_of n work i)

-- the rows' samples are within ±M, all of them and in a part
abbrev pub FourWithin : ℕ → ℕ → List ℤ → Type 0
FourWithin n M work = (i k : ℕ) → i < 4 → k < n → nat_abs (get_or work (i * n + k) (pos 0)) ≤ M

abbrev pub FourPartWithin : ℕ → Part → ℕ → List ℤ → Type 0
FourPartWithin n part M work = (i : ℕ) → i < 4 → PartWithin M part (row_of n work i)
