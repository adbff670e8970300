use Rattle.rules.specs.Limits.{note_size}
use Rattle.stores.proofs.Blank.{blank-record}
use Rattle.reader.proofs.walk.Reader.letter.Goals as goal

pub open_note-requires-clause-blank : goal.open_note-requires-clause-blank
open_note-requires-clause-blank c = blank-record note_size _ _ c.requires.blank
