-- Every token does what the rules say. Assumes nothing.
use Rattle.std.proofs.Common.{ℕ}
use Rattle.rules.specs.Tokens.{Token, Item, clef, key, meter, octave, duration, accidental, letter, chord, rest, barline, grace, grace_group, figure, marking, other, Marking, beam_open, beam_close, group_open, group_close, group_count, tie, trill, Other, blank, colon, unknown, whole_bars}
use Rattle.rules.specs.Rules.{State}
use Rattle.rules.specs.Refusals.{LentRecords}
use Rattle.view.specs.View.{View}
use Rattle.view.specs.Steps.{after_token, after_marking, after_other}
use Rattle.view.specs.Ready.{IsReady}
use Rattle.view.specs.Readable.{Readable}
use Rattle.view.specs.Holds.{Holds, Follows}
use Rattle.view.proofs.Same.{item}
use Rattle.view.proofs.Simple.{follows_clef, follows_key, follows_meter, follows_octave, follows_duration, follows_accidental, follows_chord, follows_grace, follows_grace_group, follows_beam_open, follows_group_open, follows_group_count, follows_blank, follows_colon, follows_unknown}
use Rattle.view.proofs.Letters.{follows_letter, follows_rest}
use Rattle.view.proofs.Barlines.{follows_barline}
use Rattle.view.proofs.WholeBars.{follows_whole_bars}
use Rattle.view.proofs.Copies.{follows_figure}
use Rattle.view.proofs.Beams.{follows_beam_close}
use Rattle.view.proofs.Groups.{follows_group_close}
use Rattle.view.proofs.MarkLaws.{follows_tie, follows_trill}

module _ (lent : LentRecords) (p o z : ℕ) {s : State} {v : View} (h : Holds lent s v) (ready : IsReady v) where
  of_marking : (m : Marking) → Follows lent (item p o z (marking m)) s v (after_marking (item p o z (marking m)) m v)
  of_marking beam_open = follows_beam_open lent p o z h
  of_marking beam_close = follows_beam_close lent p o z h ready
  of_marking group_open = follows_group_open lent p o z h
  of_marking group_close = follows_group_close lent p o z h ready
  of_marking (group_count count) = follows_group_count lent p o z h count
  of_marking tie = follows_tie lent p o z h
  of_marking trill = follows_trill lent p o z h

  of_other : (t : Other) → Follows lent (item p o z (other t)) s v (after_other (item p o z (other t)) t v)
  of_other blank = follows_blank lent p o z h
  of_other colon = follows_colon lent p o z h
  of_other unknown = follows_unknown lent p o z h
  of_other (whole_bars count) = follows_whole_bars lent p o z h count

  of_token : (t : Token) → Readable t → Follows lent (item p o z t) s v (after_token (item p o z t) t v)
  of_token (clef c) r = follows_clef lent p o z h c
  of_token (key k) r = follows_key lent p o z h k
  of_token (meter m) r = follows_meter lent p o z h m
  of_token (octave q) r = follows_octave lent p o z h q r
  of_token (duration q) r = follows_duration lent p o z h q
  of_token (accidental alter) r = follows_accidental lent p o z h alter r
  of_token (letter n) r = follows_letter lent p o z h n r
  of_token chord r = follows_chord lent p o z h
  of_token rest r = follows_rest lent p o z h
  of_token (barline right left) r = follows_barline lent p o z right left h
  of_token (grace slashed) r = follows_grace lent p o z h slashed
  of_token (grace_group begins) r = follows_grace_group lent p o z h begins
  of_token (figure f) r = follows_figure lent p o z h ready f
  of_token (marking m) r = of_marking m
  of_token (other t) r = of_other t

pub follows : (lent : LentRecords) (x : Item) {s : State} {v : View} → Holds lent s v → IsReady v → Readable x.token → Follows lent x s v (after_token x x.token v)
follows lent x h ready r = of_token lent x.place x.offset x.size h ready x.token r
