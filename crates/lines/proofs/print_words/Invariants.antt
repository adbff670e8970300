use Rattle.std.proofs.Common.{take}
use Rattle.std.specs.Io.KnownBytes.{Appends}
use Rattle.lines.specs.Rows.{words_row}
use Rattle.lines.proofs.print_words.Given as goal

abbrev pub invariant-loop-word : goal.invariant-loop-word
invariant-loop-word g l = Appends (g.W.Write.contents l.fn.out) (g.W.Write.contents l.out) (words_row (take l.word-index l.words))
