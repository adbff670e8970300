use Prim.Native.Nat.{◌-◌}
use mathlib.Core.Path.{◌≡◌, refl, sym}
use mathlib.Core.List.{[]}
use mathlib.Core.Bool.{false}
use lib.ListN.{take}
use Rattle.rules.specs.Limits.{note_size, first_pitch}
use Rattle.rules.specs.Words.{note_words}
use Rattle.stores.specs.Notes.{heading_of, opened}
use Rattle.stores.specs.Cells.{with_record}
use Rattle.stores.proofs.Parts.{record-front}
use Rattle.stores.proofs.Blank.{blank-stored}
use Rattle.stores.proofs.note.Records+NOTE.open_rest.Goals as goal

pub returns-clause-stored : goal.returns-clause-stored
returns-clause-stored c =
    let s = c.args.self.now in
    rw (c.in_ok-begin.ensures.stored, c.words.ensures) (sym (record-front note_size s.cells.now s.count (note_size - first_pitch) (take first_pitch (note_words (opened c.args.bar (heading_of c.args.heading) false []))) refl (c.requires.blank c.in_ok-begin.ensures.room)))

pub returns-clause-blank : goal.returns-clause-blank
returns-clause-blank c blank =
    let s = c.args.self.now in
    let whole : c.begin.new.self.cells.now ≡ with_record note_size s.cells.now s.count (note_words (opened c.args.bar (heading_of c.args.heading) false [])) = rw (c.in_ok-begin.ensures.stored, c.words.ensures) (sym (record-front note_size s.cells.now s.count (note_size - first_pitch) (take first_pitch (note_words (opened c.args.bar (heading_of c.args.heading) false []))) refl (c.requires.blank c.in_ok-begin.ensures.room))) in
    rw c.in_ok-begin.ensures.counted (blank-stored note_size s.count s.cells.now (note_words (opened c.args.bar (heading_of c.args.heading) false [])) c.begin.new.self.cells.now blank c.in_ok-begin.ensures.room refl whole)
