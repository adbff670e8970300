-- The accidentals of the open bar as they are kept. Assumes nothing.
use Rattle.std.specs.Prelude.{ℕ, ◌==◌, Bool, false, List, [], ℤ, pos, negsuc, slice_index_or, slice_set, replicate, if◌then◌else◌}
use Rattle.std.proofs.Math.Option.{Option, none, some}

-- ten octaves for each of seven steps
abbrev pub Entries : Type 0
Entries = List (List ℤ)

-- 3 means none
abbrev pub is_none : ℤ → Bool
is_none (pos n) = n == 3
is_none (negsuc n) = false

abbrev pub no_entries : Entries
no_entries = replicate 7 (replicate 10 (pos 3))

-- the row of a step
abbrev pub row : Entries → ℕ → List ℤ
row table step = slice_index_or table step []

-- the alteration at a step and octave, if one is entered
abbrev pub entry : Entries → ℕ → ℕ → Option ℤ
entry table step octave = let alter = slice_index_or (row table step) octave (pos 0) in if is_none alter then none else some alter

abbrev pub entered : Entries → ℕ → ℕ → ℤ → Entries
entered table step octave alter = slice_set table step (slice_set (row table step) octave alter)
