use Rattle.std.proofs.Common.{rules}
use Rattle.rules.specs.Limits.{note_size}
use Rattle.stores.proofs.Blank.{blank-record}
use Rattle.reader.proofs.walk.Reader.step.Goals as goal

pub rest-requires-clause-blank : goal.rest-requires-clause-blank
rest-requires-clause-blank c = blank-record note_size _ _ c.requires.sound.blank

pub returns-in_err-letter-in-Letter-clause-token : goal.returns-in_err-letter-in-Letter-clause-token
returns-in_err-letter-in-Letter-clause-token c = let h = c.letter.ensures.letter c.args.figure.now in search rules

pub returns-in_err-rest-in-Rest-clause-token : goal.returns-in_err-rest-in-Rest-clause-token
returns-in_err-rest-in-Rest-clause-token c = let h = c.rest.ensures.rest c.args.figure.now in search rules

pub returns-in-Octave-clause-token : goal.returns-in-Octave-clause-token
returns-in-Octave-clause-token c = let h = c.octave.ensures.octave c.args.figure.now in search rules

pub returns-in-Duration-clause-token : goal.returns-in-Duration-clause-token
returns-in-Duration-clause-token c = let h = c.duration.ensures.lengths c.args.figure.now in search rules

pub returns-in-Accidental-clause-token : goal.returns-in-Accidental-clause-token
returns-in-Accidental-clause-token c = let h = c.accidental.ensures.waits c.args.figure.now in search rules

pub returns-in_ok-letter-in-Letter-clause-token : goal.returns-in_ok-letter-in-Letter-clause-token
returns-in_ok-letter-in-Letter-clause-token c = let h = c.letter.ensures.letter c.args.figure.now in search rules

pub returns-in-Chord-clause-token : goal.returns-in-Chord-clause-token
returns-in-Chord-clause-token c = let h = c.chord.ensures.waits c.args.figure.now in search rules

pub returns-in_ok-rest-in-Rest-clause-token : goal.returns-in_ok-rest-in-Rest-clause-token
returns-in_ok-rest-in-Rest-clause-token c = let h = c.rest.ensures.rest c.args.figure.now in search rules

pub returns-in-Grace-clause-token : goal.returns-in-Grace-clause-token
returns-in-Grace-clause-token c = let h = c.grace.ensures.waits c.args.figure.now in search rules

pub returns-in-GraceGroup-clause-token : goal.returns-in-GraceGroup-clause-token
returns-in-GraceGroup-clause-token c = let h = c.grace_group.ensures.group c.args.figure.now in search rules

pub returns-in-Marking-BeamOpen-clause-token : goal.returns-in-Marking-BeamOpen-clause-token
returns-in-Marking-BeamOpen-clause-token c = let h = c.beam_open.ensures.opened c.args.figure.now in search rules

pub returns-in-Marking-GroupOpen-clause-token : goal.returns-in-Marking-GroupOpen-clause-token
returns-in-Marking-GroupOpen-clause-token c = let h = c.group_open.ensures.opened c.args.figure.now in search rules

pub returns-in-Marking-GroupCount-clause-token : goal.returns-in-Marking-GroupCount-clause-token
returns-in-Marking-GroupCount-clause-token c = let h = c.group_count.ensures.counted c.args.figure.now in search rules

pub returns-in-Marking-Tie-clause-token : goal.returns-in-Marking-Tie-clause-token
returns-in-Marking-Tie-clause-token c = let h = c.tie.ensures.tied c.args.figure.now in search rules

pub returns-in-Colon-clause-token : goal.returns-in-Colon-clause-token
returns-in-Colon-clause-token c = let h = c.remark_alone.ensures.remarked c.args.figure.now in search rules

pub returns-in-Unknown-clause-token : goal.returns-in-Unknown-clause-token
returns-in-Unknown-clause-token c = let h = c.remark_alone-in-Unknown.ensures.remarked c.args.figure.now in search rules
