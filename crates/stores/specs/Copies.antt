-- Copies of note records. Assumes nothing.
use Rattle.std.specs.Prelude.{ℕ, zero, suc, List, [], ◌++◌, ℤ, pos, slice_set}
use Rattle.stores.specs.declared.cells.TheConstants.{NOTE}
use Rattle.stores.specs.declared.note.TheConstants.{PLACE, TIES, BAR_NUMBER}
use Rattle.stores.specs.Cells.{record_at}

-- a copy: the place of the storing token, no ties, the number of the open bar
abbrev pub copy_of : ℕ → ℕ → List ℤ → List ℤ
copy_of place bar words = slice_set (slice_set (slice_set words PLACE (pos place)) TIES (pos 0)) BAR_NUMBER (pos bar)

-- copies of the first `count` records
abbrev pub copies : ℕ → ℕ → List ℤ → ℕ → List ℤ
copies place bar source zero = []
copies place bar source (suc count) = copies place bar source count ++ copy_of place bar (record_at NOTE source count)
