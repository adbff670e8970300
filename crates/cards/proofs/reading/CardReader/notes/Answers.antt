use Rattle.std.proofs.Common.{rules, arith, refl, ap, ◌∙◌, ◌≡◌, ◌*◌, [], length}
use mathlib.Core.Option.{none}
use Rattle.rules.specs.Limits.{note_size}
use Rattle.cards.specs.Fields.{each}
use Rattle.cards.specs.Taken.{note_taken, notes_taken, repeated}
use Rattle.cards.specs.Values.{card_note}
use Rattle.cards.proofs.NoteTaken.{note_sound}
use Rattle.cards.proofs.RecordLaws.{such-few, length-note-words}
use Rattle.cards.proofs.TakenLaws.{stopped}
use Rattle.cards.proofs.ReadLaws.{append_none, begun, notes_more}
use Rattle.cards.proofs.reading.CardReader.notes.Goals as goal

pub loop-init : goal.loop-init
unfolding notes_taken repeated each
loop-init g c = let n = c.args.notes.now in record { same_notes = record { same_cells = refl; same_room = refl }; read = record { list = []; taken = refl; stored = append_none n.cells.now (n.count * note_size) } }

pub returns-in_err-note-clause-read : goal.returns-in_err-note-clause-read
unfolding notes_taken
returns-in_err-note-clause-read g c =
    let form = g.W.PlaceWidth.form in
    let no : notes_taken form c.args.count c.args.self.now.left.now ≡ none = stopped (λ _. note_taken form) c.args.count c.loop.counter c.args.self.now.left.now (omega arith) c.loop.invariant.read.taken c.in_err-note.ensures in
    search rules

pub words-requires : goal.words-requires
words-requires g c = ((note_sound g.W.PlaceWidth.form c.loop.self.left.now (card_note c.in_ok-note.note, c.note.new.self.left.now) c.in_ok-note.ensures).1, c.requires)

pub loop-preserved : goal.loop-preserved
loop-preserved g c =
    let form = g.W.PlaceWidth.form in
    let n = card_note c.in_ok-note.note in
    let such = (note_sound form c.loop.self.left.now (n, c.note.new.self.left.now) c.in_ok-note.ensures).1 in
    let size = ap length c.words.ensures ∙ length-note-words c.args.number n (such-few form n such) in
    let b = c.begin.ensures in
    let own = begun c.begin.result note_size c.words.result c.loop.notes c.begin.new.self size b.full b.err b.stored b.counted in
    record { same_notes = search rules; read = notes_more c.loop.invariant.read n c.in_ok-note.ensures (rw c.words.ensures at own) }
