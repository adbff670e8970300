-- The reader as a view, and what its steps leave alone. Assumes nothing.
use Rattle.std.specs.Prelude.{◌≡◌, List, ℤ}
use Rattle.tokens.specs.Attributes.{clef_in, meter_in}
use Rattle.tokens.specs.Rhythm.{all_lengths, lengths_left}
use Rattle.tokens.specs.Steps.{edge_number}
use Rattle.stores.specs.Bars.{fifths_in}
use Rattle.reader.specs.declared.walk.Reader.{Reader}
use Rattle.reader.specs.Parts.{accidental_in, grace_in, start_in, group_in}
use Rattle.view.specs.View.{View}

-- figure: the cells lent beside it
abbrev pub view_of : Reader → List ℤ → View
view_of r figure = record {
  clef = clef_in r.state.attributes.clef;
  fifths = fifths_in r.state.attributes.fifths;
  key_alters = r.state.attributes.alters;
  meter = meter_in r.state.attributes.meter;
  left = edge_number r.state.attributes.left;
  octave = r.state.voice.octave.number;
  pattern = all_lengths r.state.lengths;
  lengths_left = lengths_left r.state.lengths;
  pending_accidental = accidental_in r.state.voice.accidental;
  accidentals = r.accidentals.table;
  chord_next = r.state.voice.chord;
  pending_grace = grace_in r.state.voice.grace;
  grace_group = r.state.voice.group;
  tie_pending = r.state.voice.tie;
  figure_start = start_in r.state.groups.figure;
  beam_start = start_in r.state.groups.beam;
  group = group_in r.state.groups.group;
  first = r.state.first;
  last = r.state.last;
  notes = r.notes.now.cells.now;
  note_count = r.notes.now.count;
  bars = r.bars.now.cells.now;
  bar_count = r.bars.now.count;
  figure = figure;
  figure_count = r.state.figure;
  diagnostics = r.diagnostics.now.list.now;
  diagnostic_count = r.diagnostics.now.count;
}

-- the same lent buffers
pub record SameBuffers (r s : Reader) : Type 0 where
  pub notes : s.notes.ghost_name ≡ r.notes.ghost_name
  pub note_cells : s.notes.now.cells.ghost_name ≡ r.notes.now.cells.ghost_name
  pub bars : s.bars.ghost_name ≡ r.bars.ghost_name
  pub bar_cells : s.bars.now.cells.ghost_name ≡ r.bars.now.cells.ghost_name
  pub diagnostics : s.diagnostics.ghost_name ≡ r.diagnostics.ghost_name
  pub list : s.diagnostics.now.list.ghost_name ≡ r.diagnostics.now.list.ghost_name
